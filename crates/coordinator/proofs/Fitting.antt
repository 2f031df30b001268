-- Entries that stand at their turns, and passes with one that does not.
use Rattle.std.proofs.Common.{◌≡◌, ℕ, ◌+◌, ◌<◌, ◌≤◌, List, [], ◌∷◌, ◌++◌, length, take, get_or, All, Bool, false, refl, sym, ap, ◌∙◌, subst, inl, inr}
use Rattle.std.specs.Prelude.{Contains, IsTrue}
use Rattle.std.proofs.lemmas.Bool.{false≢true}
use Rattle.std.proofs.lemmas.List.{append-nil, take_all, take_more}
use Rattle.std.proofs.lemmas.List.Concat.{flat_map-append}
use Rattle.std.proofs.lemmas.List.Elements.{All-append, All-push}
use Rattle.std.proofs.lemmas.Option.{slice_get_read}
use Rattle.chains.specs.Held.{Held}
use Rattle.desk.specs.declared.turn.Turn.{Turn}
use Rattle.desk.specs.Desks.{DeskState}
use Rattle.coordinator.specs.declared.fault.CloseFault.{CloseFault}
use Rattle.coordinator.specs.declared.fault.CloseFault.TheVariants.{Stranger, Missing, Memory}
use Rattle.coordinator.specs.Passes.{PassEntry, PassState}
use Rattle.coordinator.specs.Closing.{entries_of, IsAtTurn, IsAuditCause, IsStrange}
use Rattle.coordinator.specs.working.Marks.{IsCauseWithFits}

module _ (ts : List Turn) where
  -- one entry more
  pub fits_more : (es : List PassEntry) (k : ℕ) (e : PassEntry) → k < length es → e ≡ get_or es k e → All (IsAtTurn ts) (take k es) → IsAtTurn ts e → All (IsAtTurn ts) (take (k + 1) es)
  fits_more es k e within is before this =
      let more : take (k + 1) es ≡ take k es ++ e ∷ [] = take_more es k e within ∙ ap (λ (x : PassEntry). take k es ++ x ∷ []) (sym is) in
      subst (All (IsAtTurn ts)) (sym more) (All-push (IsAtTurn ts) (take k es) e before this)

  -- all of them
  pub fits_whole : (es others : List PassEntry) (k : ℕ) → es ≡ others → length es ≤ k → All (IsAtTurn ts) (take k es) → All (IsAtTurn ts) others
  fits_whole es others k same all fits = subst (All (IsAtTurn ts)) (take_all k es all ∙ same) fits

  -- or one that does not
  pub misfit : (es others : List PassEntry) (k : ℕ) (e : PassEntry) (result : Bool) → es ≡ others → k < length es → e ≡ get_or es k e → result ≡ false → (IsAtTurn ts e → IsTrue result)
      → (x : PassEntry) × Contains others x × ¬ IsAtTurn ts x
  misfit es others k e result same within is failed tells =
      subst (λ (l : List PassEntry). (x : PassEntry) × Contains l x × ¬ IsAtTurn ts x) same (e, (k, within, sym is), λ at. false≢true (sym failed ∙ tells at))

  -- one pass more
  pub passes_more : (passes : List PassState) (place : ℕ) (p : PassState) → place < length passes → p ≡ get_or passes place p → All (IsAtTurn ts) (entries_of (take place passes)) → All (IsAtTurn ts) p.entries
      → All (IsAtTurn ts) (entries_of (take (place + 1) passes))
  passes_more passes place p within is before this =
      let more : take (place + 1) passes ≡ take place passes ++ p ∷ [] = take_more passes place p within ∙ ap (λ (x : PassState). take place passes ++ x ∷ []) (sym is) in
      let last : entries_of (p ∷ []) ≡ p.entries = append-nil p.entries in
      let whole = ap entries_of more ∙ (flat_map-append (λ (x : PassState). x.entries) (take place passes) (p ∷ []) ∙ ap (λ (es : List PassEntry). entries_of (take place passes) ++ es) last) in
      subst (All (IsAtTurn ts)) (sym whole) (All-append (IsAtTurn ts) (entries_of (take place passes)) p.entries before this)

  pub passes_whole : (passes : List PassState) (place : ℕ) → length passes ≤ place → All (IsAtTurn ts) (entries_of (take place passes)) → All (IsAtTurn ts) (entries_of passes)
  passes_whole passes place all fits = subst (λ (l : List PassState). All (IsAtTurn ts) (entries_of l)) (take_all place passes all) fits

  -- an entry that does not stand at its turn
  pub strange_there : (opening : Held) (passes : List PassState) (place : ℕ) (p : PassState) (number : ℕ) → place < length passes → p ≡ get_or passes place p → number ≡ p.number → 0 < number
      → (e : PassEntry) × Contains p.entries e × ¬ IsAtTurn ts e → IsStrange opening ts passes number
  strange_there opening passes place p number within is same positive (e, has, misfit) = record {
    place = place;
    pass = p;
    entry = e;
    stands = slice_get_read passes (length passes) place p refl within is;
    number_is = sym same;
    positive = positive;
    has = has;
    strange = inl misfit;
  }

-- why an audit was refused, over the same opening
pub audit_cause : {D : Type 0} (opening : Held) (desk : DeskState D) (passes : List PassState) (fault : CloseFault) → opening ≡ desk.opening → IsCauseWithFits desk.opening desk.turns passes fault
    → IsAuditCause opening desk passes fault
audit_cause opening desk passes (Stranger number) same cause = inr (same, cause)
audit_cause opening desk passes (Missing shares turns) same cause = (same, cause)
audit_cause opening desk passes Memory same cause = (same, cause)
