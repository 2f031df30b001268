-- A desk's own file, opened again.
use Rattle.std.proofs.Common.{◌≡◌, inl, inr, ℕ, List, [], ◌∷◌, ◌++◌, sym, subst}
use Rattle.record_file.specs.File.{Said, Stands}
use Rattle.record_file.proofs.Openings.{one_list}
use Rattle.chains.specs.Held.{Held}
use Rattle.desk.specs.Records.{Admits, Opens, one_more}
use Rattle.desk.specs.Desks.{DeskState, records_of}
use Rattle.desk.specs.Files.{IsPending, MayStandFor}
use Rattle.desk.specs.Lawful.{unstopped}
use Rattle.desk.specs.Openings.{IsReopened}
use Rattle.desk.proofs.OneOpening.{one_opening}

-- what records that are these come to
pub opens_to : (said found : List Said) (held now : Held) → found ≡ said → Opens said held → Opens found now → now ≡ held
opens_to said found held now same opens opened = one_opening said now held (subst (λ (s : List Said). Opens s now) same opened) opens

pub reopened : {D : Type 0} (desk : DeskState D) (file : List ℕ) (found : List Said) (held : Held) → Opens (records_of desk) (unstopped desk.held)
    → ((one : Said) → IsPending desk.held.epoch desk.turns one → (after : Held) × Admits (unstopped desk.held) one after)
    → MayStandFor (records_of desk) desk.held.epoch desk.turns file → Stands found file → Opens found held → IsReopened desk found held
reopened desk file found held opens pends (inl stands) stood opened =
    let same = one_list found (records_of desk) file stood stands in
    inl (same, opens_to (records_of desk) found (unstopped desk.held) held same opens opened)
reopened desk file found held opens pends (inr (one, pending, stands)) stood opened =
    let same = one_list found (records_of desk ++ one ∷ []) file stood stands in
    let next = pends one pending in
    let is = opens_to (records_of desk ++ one ∷ []) found next.0 held same (one_more one next.0 opens next.1) opened in
    inr (one, pending, same, subst (λ (h : Held). Admits (unstopped desk.held) one h) (sym is) next.1)
