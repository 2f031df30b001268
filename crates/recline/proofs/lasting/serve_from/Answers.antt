-- `serve_from`: what was printed, and how the coordinators ended.
use Rattle.std.proofs.Common.{inl, inr, refl}
use Rattle.recline.proofs.Generations.{end_cut, first_desk, lasts_to_end, unserved}
use Rattle.recline.proofs.lasting.serve_from.Goals as goal

pub returns-in_default : goal.returns-in_default
returns-in_default g c = λ first opened.
    inl (unserved g.D.Disk.keeps g.D.Disk.view g.K.Link.told first c.args.desk c.unserved.result.disk opened c.unserved.ensures.0, (refl, c.unserved.ensures.1))

pub returns-in_default-write_port : goal.returns-in_default-write_port
returns-in_default-write_port g c = λ first opened.
    let un = c.unserved-in_default-write_port in
    inr (inl (unserved g.D.Disk.keeps g.D.Disk.view g.K.Link.told first c.args.desk un.result.disk opened un.ensures.0, (c.in_default-write_port.ensures, un.ensures.1)))

pub returns-in-Ok-write_end : goal.returns-in-Ok-write_end
returns-in-Ok-write_end g c = λ first opened.
    lasts_to_end g.D.Disk.keeps g.D.Disk.view g.K.Link.told g.T.Door.is_over first c.in-Ok-go_on_to_end.disk c.args.port c.in-Ok-go_on_to_end.front
    (g.O.Link.told c.args.output.now) (g.O.Link.told c.write_port.new.output) (g.O.Link.told c.write_end.new.output) c.in-Ok-write_port.ensures c.in-Ok-write_end.ensures
    (c.in-Ok-go_on_to_end.ensures first (first_desk g.D.Disk.keeps g.D.Disk.view g.K.Link.told first c.args.desk opened))

pub returns-in-Ok-go_on_to_end : goal.returns-in-Ok-go_on_to_end
returns-in-Ok-go_on_to_end g c = λ first opened.
    inr (inr (inr (end_cut g.D.Disk.keeps g.D.Disk.view g.K.Link.told g.T.Door.is_over first c.in-Ok-go_on_to_end.disk _ c.args.port c.in-Ok-go_on_to_end.front
    (g.O.Link.told c.args.output.now) (g.O.Link.told c.write_port.new.output) (g.O.Link.told c.write_end.new.output)
    (c.in-Ok-go_on_to_end.ensures first (first_desk g.D.Disk.keeps g.D.Disk.view g.K.Link.told first c.args.desk opened)) c.in-Ok-write_port.ensures c.in-Err-write_end.ensures refl)))

pub returns : goal.returns
returns g c = λ first opened.
    inr (inr (inl (c.in-Err.ensures first (first_desk g.D.Disk.keeps g.D.Disk.view g.K.Link.told first c.args.desk opened), c.in-Ok-write_port.ensures)))
