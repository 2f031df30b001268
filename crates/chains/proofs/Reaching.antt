-- What holds of each folded list.
use Rattle.std.proofs.Common.{◌≡◌, ◌≢◌, ◌⊎◌, inl, inr, List, [], ◌∷◌, ◌++◌, refl, sym, ap, subst, arith}
use Rattle.std.proofs.lemmas.Bool.{true≢false}
use Rattle.report_line.specs.declared.report.Report.{Report}
use Rattle.report_line.specs.declared.report.Report.TheVariants.{Begin, Numbered}
use Rattle.chains.specs.Processes.{Name}
use Rattle.chains.specs.Folded.{IsFitReport, IsFit, IsFolded, nothing_folded, one_folded}
use Rattle.chains.specs.Laws.{Holds, ArePartsOfAll, NeverFall}
use Rattle.chains.proofs.Made.{IsWellMade, made_after, root_made}

-- ---- each folded list

pub well_made : (accepted : List Report) → IsFolded accepted → IsWellMade accepted
well_made _ nothing_folded = record {
  unreported = λ q unknown. refl;
  retired = λ q e. absurd (true≢false (sym e));
  parts = λ filled. absurd (filled refl);
}
well_made _ (one_folded before (Begin p) folded first) = subst (λ (xs : List Report). IsWellMade (xs ++ Begin p ∷ [])) (sym first) (root_made p)
well_made _ (one_folded before (Numbered r) folded fit) = made_after before r (well_made before folded) fit

nobody : (p : Name) → ¬ Holds [] p
nobody p h = let some = h.is_known.1 in omega arith

parts_of_made : (accepted : List Report) → IsWellMade accepted → ArePartsOfAll accepted
parts_of_made [] made = record {
  disjoint = λ p q h k n. absurd (nobody p h);
  nonempty = λ p h. absurd (nobody p h);
  all = λ filled. absurd (filled refl);
}
parts_of_made (r ∷ rs) made =
    let parts = made.parts (λ e. cc) in
    record { disjoint = parts.disjoint; nonempty = parts.nonempty; all = λ filled point. parts.all point }

-- the ids of live processes and of retirements that wait are parts of everything
pub parts_of_all : (accepted : List Report) → IsFolded accepted → ArePartsOfAll accepted
parts_of_all accepted folded = parts_of_made accepted (well_made accepted folded)

-- ---- from report to report

first_same : {X : Type 0} (x y : X) (xs ys : List X) → x ∷ xs ≡ y ∷ ys → x ≡ y
first_same x y xs ys e = cc

rest_same : {X : Type 0} (x y : X) (xs ys : List X) → x ∷ xs ≡ y ∷ ys → xs ≡ ys
rest_same x y xs ys e = cc

cons_same : {X : Type 0} (x y : X) (xs ys : List X) → x ≡ y → xs ≡ ys → x ∷ xs ≡ y ∷ ys
cons_same x y xs ys e f = cc

pub nothing_before : (before after : List Report) (x : Report) → [] ≢ before ++ x ∷ after
nothing_before [] after x e = cc
nothing_before (b ∷ bs) after x e = cc

-- what stands in a list with one more element is that element, or stands before it
pub last_or_before : (accepted before after : List Report) (r x : Report) → accepted ++ r ∷ [] ≡ before ++ x ∷ after
    → ((accepted ≡ before) × (r ≡ x)) ⊎ ((rest : List Report) × (accepted ≡ before ++ x ∷ rest))
last_or_before [] [] after r x e = inl (refl, first_same r x [] after e)
last_or_before [] (b ∷ bs) after r x e = absurd (nothing_before bs after x (rest_same r b [] (bs ++ x ∷ after) e))
last_or_before (a ∷ as') [] after r x e = inr (as', ap (λ (y : Report). y ∷ as') (first_same a x (as' ++ r ∷ []) after e))
last_or_before (a ∷ as') (b ∷ bs) after r x e =
    let same = first_same a b (as' ++ r ∷ []) (bs ++ x ∷ after) e in
    elim (last_or_before as' bs after r x (rest_same a b (as' ++ r ∷ []) (bs ++ x ∷ after) e)) [
      | inl last ↦ inl (cons_same a b as' bs same last.0, last.1)
      | inr earlier ↦ inr (earlier.0, cons_same a b as' (bs ++ x ∷ earlier.0) same earlier.1)
    ]

fit_same : (accepted before : List Report) (r x : Report) → accepted ≡ before → r ≡ x → IsFit accepted r → IsFit before x
fit_same accepted before r x e f fit = subst (λ (xs : List Report). IsFit xs x) e (subst (λ (y : Report). IsFit accepted y) f fit)

-- each report is fit behind those before it
pub fit_before : (accepted before after : List Report) (x : Report) → IsFolded accepted → accepted ≡ before ++ x ∷ after → IsFit before x
fit_before _ before after x nothing_folded e = absurd (nothing_before before after x e)
fit_before _ before after x (one_folded accepted r folded fit) e =
    elim (last_or_before accepted before after r x e) [
      | inl last ↦ fit_same accepted before r x last.0 last.1 fit
      | inr earlier ↦ fit_before accepted before earlier.0 x folded earlier.1
    ]

-- the events never fall, and each stamp has the id that is expected
pub never_fall : (accepted : List Report) → IsFolded accepted → NeverFall accepted
never_fall accepted folded before after r e = let fit : IsFitReport before r = fit_before accepted before after (Numbered r) folded e in (fit.grown.0, fit.id)
