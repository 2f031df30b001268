use Rattle.std.proofs.Common.{◌≡◌, ◌∷◌, [], List, ℕ, codes, rules, subst}
use Rattle.recline.specs.Outcome.{Tells}
use Rattle.recline.proofs.FaultLines.{named_line}
use Rattle.recline.proofs.checking.tell_unknown.Goals as goal

pub returns : goal.returns
returns g c =
    let front : c.as_slice.result.now ≡ codes "recline: certificate unknown " = search rules in
    let shown : c.as_slice-2.result.now ≡ c.args.shown.now.items = search rules in
    let end : c.as_slice-3.result.now ≡ 10 ∷ [] = search rules in
    let line = named_line c.as_slice.result.now c.as_slice-2.result.now c.as_slice-3.result.now (codes "recline: certificate unknown ") c.args.shown.now.items front shown end in
    subst (λ (l : List ℕ). Tells (g.F.Link.told c.args.faults.now) (g.F.Link.told c.tell_all.new.faults) l) line c.tell_all.ensures
