use Rattle.std.proofs.Common.{◌≡◌, ◌∷◌, [], ◌∙◌, List, ℕ, codes, rules, subst}
use Rattle.recline.specs.working.Driving.{Writes}
use Rattle.recline.proofs.FaultLines.{numbered_line}
use Rattle.recline.proofs.serving.write_end.Goals as goal

pub returns : goal.returns
returns g c =
    let front : c.as_slice.result.now ≡ codes "ENDED " = search rules in
    let end : c.as_slice-2.result.now ≡ 10 ∷ [] = search rules in
    let line = numbered_line c.as_slice.result.now c.as_bytes.result.now c.as_slice-2.result.now (codes "ENDED ") c.args.front front (c.as_bytes.ensures.value ∙ c.format.ensures.text) end in
    subst (λ (l : List ℕ). Writes (g.O.Link.told c.args.output.now) (g.O.Link.told c.write_pieces.new.link) c.write_pieces.result l) line c.write_pieces.ensures.writes
