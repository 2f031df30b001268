-- Lines that were found right since the accepted list last changed.
use Rattle.std.proofs.Common.{◌≡◌, ℕ, Bool, true, false, List, [], ◌∷◌, ◌++◌, Some, refl, sym, ap, ◌∙◌, subst}
use Rattle.std.specs.Prelude.{if◌then◌else◌, slice_get}
use Rattle.std.proofs.lemmas.Option.{same_Some}
use Rattle.std.proofs.lemmas.List.Elements.{All-append, All-from_recursion}
use Rattle.report_line.specs.declared.call.Call.{Call}
use Rattle.chains.specs.Kept.{Kept}
use Rattle.chains.specs.Held.{Held, held_of}
use Rattle.line_answer.specs.Questions.{IsLineFor}
use Rattle.coordinator.specs.declared.marking.Owner.{Owner}
use Rattle.coordinator.specs.Passes.{PassEntry, PassState}
use Rattle.coordinator.specs.working.Checks.{AreRight, IsCheckedOver, IsRightAt, RightOver}

-- this entry stands there
abbrev pub Stands : List PassState → Owner → PassEntry → Type 0
Stands passes o e = (p : PassState) × (slice_get passes o.pass ≡ Some p) × (slice_get p.entries o.entry ≡ Some e)

-- one that asks and shows the same is right as well
pub as_there : (passes : List PassState) (held : Held) (o : Owner) (a b : PassEntry) → Stands passes o a → a.call ≡ b.call → a.shown ≡ b.shown → IsRightAt passes held o → RightOver held b
as_there passes held o a b (p, at, its) call shown right text e = subst (λ (x : Call). IsLineFor held x text) call (right p a at its text (shown ∙ e))

-- the entry of a turn that was tested is right where it stands
pub right_there : (passes : List PassState) (held : Held) (o : Owner) (turn : ℕ) (a : PassEntry) → Stands passes o a → a.receipt.turn ≡ turn → IsCheckedOver held passes o turn → IsRightAt passes held o
right_there passes held o turn a (q, there, has) of_turn checked p e at its =
    let same_pass : q ≡ p = same_Some q p (sym there ∙ at) in
    let same_entry : a ≡ e = same_Some a e (sym (subst (λ (x : PassState). slice_get x.entries o.entry ≡ Some a) same_pass has) ∙ its) in
    checked p e (at, its, ap (λ (x : PassEntry). x.receipt.turn) (sym same_entry) ∙ of_turn)

-- so the turn was tested, if its entry is right
pub checked_by : (passes : List PassState) (held : Held) (o : Owner) (turn : ℕ) (a : PassEntry) → Stands passes o a → RightOver held a → IsCheckedOver held passes o turn
checked_by passes held o turn a (q, there, has) right p e (at, its, of_turn) =
    let same_pass : q ≡ p = same_Some q p (sym there ∙ at) in
    let same_entry : a ≡ e = same_Some a e (sym (subst (λ (x : PassState). slice_get x.entries o.entry ≡ Some a) same_pass has) ∙ its) in
    subst (λ (x : PassEntry). RightOver held x) same_entry right

-- one more, if there was memory for it
pub one_more : (passes : List PassState) (held : Held) (old new : List Owner) (o : Owner) (added : Bool) → new ≡ (if added then old ++ o ∷ [] else old) → AreRight passes held old → IsRightAt passes held o → AreRight passes held new
one_more passes held old new o true is rights right =
    subst (λ (os : List Owner). AreRight passes held os) (sym is) (All-append (IsRightAt passes held) old (o ∷ []) rights (All-from_recursion (IsRightAt passes held) (o ∷ []) (right, tt)))
one_more passes held old new o false is rights right = subst (λ (os : List Owner). AreRight passes held os) (sym is) rights

-- none, if what is held changed
pub forgotten : (passes : List PassState) (old new : Kept) (found after : List Owner) (changed : Bool) → after ≡ (if changed then [] else found) → (changed ≡ false → new ≡ old) → AreRight passes (held_of old) found
    → AreRight passes (held_of new) after
forgotten passes old new found after true is same rights = subst (λ (os : List Owner). AreRight passes (held_of new) os) (sym is) (All-from_recursion (IsRightAt passes (held_of new)) [] tt)
forgotten passes old new found after false is same rights =
    subst (λ (os : List Owner). AreRight passes (held_of new) os) (sym is) (subst (λ (k : Kept). AreRight passes (held_of k) found) (sym (same refl)) rights)
