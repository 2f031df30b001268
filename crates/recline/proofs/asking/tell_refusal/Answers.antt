use Rattle.std.proofs.Common.{ℕ, List, ap, codes, sym, subst, ◌++◌, ◌∙◌}
use Rattle.report_line.specs.Cutting.{ended}
use Rattle.recline.specs.Outcome.{Tells}
use Rattle.recline.proofs.Refusing.{unknown_name, not_begun, no_memory, no_list}
use Rattle.recline.proofs.asking.tell_refusal.Goals as goal

pub returns-then-starts_with : goal.returns-then-starts_with
returns-then-starts_with g c =
    let line = unknown_name c.args.reply.now (sym c.starts_with.ensures.value ∙ c.if-starts_with.true) in
    let named = ap (λ (name : List ℕ). ended (codes "recline: unknown " ++ name)) c.name_in.ensures in
    subst (λ (l : List ℕ). Tells (g.F.Link.told c.args.faults.now) (g.F.Link.told c.tell_unknown.new.faults) l) (named ∙ sym line) c.tell_unknown.ensures

pub returns-then-starts_with-2 : goal.returns-then-starts_with-2
returns-then-starts_with-2 g c =
    let line = not_begun c.args.reply.now (sym c.starts_with.ensures.value ∙ c.if-starts_with.false) (sym c.starts_with-2.ensures.value ∙ c.if-starts_with-2.true) in
    subst (λ (l : List ℕ). Tells (g.F.Link.told c.args.faults.now) (g.F.Link.told c.tell.new.faults) l) (sym line) c.tell.ensures

pub returns-then-starts_with-3 : goal.returns-then-starts_with-3
returns-then-starts_with-3 g c =
    let line = no_memory c.args.reply.now (sym c.starts_with.ensures.value ∙ c.if-starts_with.false) (sym c.starts_with-2.ensures.value ∙ c.if-starts_with-2.false) (sym c.starts_with-3.ensures.value ∙ c.if-starts_with-3.true) in
    subst (λ (l : List ℕ). Tells (g.F.Link.told c.args.faults.now) (g.F.Link.told c.tell-then-starts_with-3.new.faults) l) (sym line) c.tell-then-starts_with-3.ensures

pub returns : goal.returns
returns g c =
    let line = no_list c.args.reply.now (sym c.starts_with.ensures.value ∙ c.if-starts_with.false) (sym c.starts_with-2.ensures.value ∙ c.if-starts_with-2.false) (sym c.starts_with-3.ensures.value ∙ c.if-starts_with-3.false) in
    subst (λ (l : List ℕ). Tells (g.F.Link.told c.args.faults.now) (g.F.Link.told c.tell-2.new.faults) l) (sym line) c.tell-2.ensures
