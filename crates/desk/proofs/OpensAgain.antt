-- A file that a crash leaves of a desk's disk opens again.
use Rattle.std.proofs.Common.{◌≡◌, inl, inr, ℕ, List, [], ◌∷◌, ◌++◌, sym, subst}
use Rattle.record_file.specs.File.{Said, Stands}
use Rattle.record_file.proofs.Openings.{one_list}
use Rattle.chains.specs.Held.{Held}
use Rattle.desk.specs.Files.{IsPending, MayStandFor}
use Rattle.desk.specs.OneOpening.{OpensAgain}
use Rattle.desk.specs.Records.{Admits, Opens, one_more}
use Rattle.desk.specs.declared.turn.Turn.{Turn}
use Rattle.desk.proofs.OwnFile.{own_file}
use Rattle.desk.proofs.Reopening.{opens_to}

-- a file of just these records
of_records : (said : List Said) (held : Held) (file : List ℕ) → Opens said held → Stands said file → OpensAgain said held file
of_records said held file opens stands = record {
  refused = own_file file said held opens stands;
  finds = λ found now stood opened. let same = one_list found said file stood stands in inl (same, opens_to said found held now same opens opened);
}

-- and of one more
pub with_one : (said : List Said) (held after : Held) (one : Said) (file : List ℕ) → Opens said held → Admits held one after
    → Stands (said ++ one ∷ []) file → OpensAgain said held file
with_one said held after one file opens admits stands = record {
  refused = own_file file (said ++ one ∷ []) after (one_more one after opens admits) stands;
  finds = λ found now stood opened.
      let same = one_list found (said ++ one ∷ []) file stood stands in
      let is = opens_to (said ++ one ∷ []) found after now same (one_more one after opens admits) opened in
      inr (one, same, subst (λ (h : Held). Admits held one h) (sym is) admits);
}

pub opens_again : (said : List Said) (held : Held) (turns : List Turn) (file : List ℕ) → Opens said held
    → ((one : Said) → IsPending held.epoch turns one → (after : Held) × Admits held one after)
    → MayStandFor said held.epoch turns file → OpensAgain said held file
opens_again said held turns file opens pends (inl stands) = of_records said held file opens stands
opens_again said held turns file opens pends (inr (one, pending, stands)) =
    let next = pends one pending in with_one said held next.0 one file opens next.1 stands
