-- The reports of a process are counted by their numbers, and the number of the last one is how many it has.
use Rattle.std.proofs.Common.{◌≡◌, inl, inr, ℕ, zero, suc, ◌+◌, Bool, true, false, cond, List, [], ◌∷◌, ◌++◌, length, Some, refl, sym, ap, subst, ◌∙◌, arith}
use Rattle.std.specs.Prelude.{filter, slice_get}
use Rattle.std.proofs.lemmas.List.Sums.{length-filter}
use Rattle.std.proofs.lemmas.Option.{same_Some}
use Rattle.std.proofs.lemmas.Slice.Eq.{bytes_eq-Decides}
use Rattle.report_line.specs.declared.report.NumberedReport.{NumberedReport}
use Rattle.report_line.specs.declared.report.Report.{Report}
use Rattle.report_line.specs.declared.report.Report.TheVariants.{Begin, Numbered}
use Rattle.chains.specs.Processes.{Name, is_numbered_of, reports_by, reports_of, last_report}
use Rattle.chains.specs.Folded.{IsFitReport, IsFolded, nothing_folded, one_folded}
use Rattle.chains.proofs.Stepping.{same_bytes, other_bytes, same_or_other, failing, own_report, other_report}
use Rattle.chains.proofs.Accepting.{reports-push}
use Rattle.chains.proofs.Reaching.{fit_before}

one_report : (r x : NumberedReport) → Some (Numbered r) ≡ Some (Numbered x) → r ≡ x
one_report r x e = cc

-- a report that is not one of p
still_counted : (accepted : List Report) (p : Name) (r : Report) → is_numbered_of p r ≡ false → reports_of p (accepted ++ r ∷ []) ≡ reports_of p accepted
still_counted accepted p r e = let pushed = reports-push p accepted r ∙ ap (λ (b : Bool). reports_of p accepted + cond b 1 0) e in omega (arith, pushed)

own_number : (accepted : List Report) (r x : NumberedReport) → IsFitReport accepted r → last_report r.process (accepted ++ Numbered r ∷ []) ≡ Some (Numbered x) → x.number ≡ reports_of r.process (accepted ++ Numbered r ∷ [])
own_number accepted r x fit e =
    let same : r.number ≡ x.number = ap (λ (y : NumberedReport). y.number) (one_report r x (sym (own_report accepted r) ∙ e)) in
    let pushed = reports-push r.process accepted (Numbered r) ∙ ap (λ (b : Bool). reports_of r.process accepted + cond b 1 0) (same_bytes r.process) in
    omega (arith, same, pushed, fit.number)

pub last_number : (accepted : List Report) (p : Name) (x : NumberedReport) → IsFolded accepted → last_report p accepted ≡ Some (Numbered x) → x.number ≡ reports_of p accepted
last_number _ p x nothing_folded e = absurd cc
last_number _ p x (one_folded before (Begin q) folded first) e =
    last_number before p x folded (sym (failing (is_numbered_of p) before (Begin q) refl) ∙ e) ∙ sym (still_counted before p (Begin q) refl)
last_number _ p x (one_folded before (Numbered r) folded fit) e =
    elim (same_or_other p r.process) [
      | inl same ↦
          subst (λ (m : Name). x.number ≡ reports_of m (before ++ Numbered r ∷ [])) (sym same)
          (own_number before r x fit (subst (λ (m : Name). last_report m (before ++ Numbered r ∷ []) ≡ Some (Numbered x)) same e))
      | inr other ↦
          last_number before p x folded (sym (other_report before p r other) ∙ e) ∙ sym (still_counted before p (Numbered r) (other_bytes p r.process other))
    ]

-- ---- report k

-- where the thing stands that passes a test with k others before it
record IsPassing {X : Type 0} (test : X → Bool) (xs : List X) (k : ℕ) (x : X) : Type 0 where
  front : List X
  later : List X
  parts : xs ≡ front ++ x ∷ later
  passes : test x ≡ true
  others : length (filter test front) ≡ k

passing_later : {X : Type 0} (test : X → Bool) (y x : X) (xs : List X) (k m : ℕ) → (b : Bool) → test y ≡ b → cond b (suc k) k ≡ m → IsPassing test xs k x → IsPassing test (y ∷ xs) m x
passing_later test y x xs k m b is count h = record {
  front = y ∷ h.front;
  later = h.later;
  parts = ap (λ (l : List _). y ∷ l) h.parts;
  passes = h.passes;
  others = counted_with b is count;
}
  where
    counted_with : (c : Bool) → test y ≡ c → cond c (suc k) k ≡ m → length (cond (test y) (y ∷ filter test h.front) (filter test h.front)) ≡ m
    counted_with true e n = rw e (omega (arith, h.others, n))
    counted_with false e n = rw e (h.others ∙ n)

passing_step : {X : Type 0} (test : X → Bool) (y x : X) (xs : List X) (k : ℕ) (b : Bool) → test y ≡ b → ((m : ℕ) → slice_get (filter test xs) m ≡ Some x → IsPassing test xs m x)
    → slice_get (cond b (y ∷ filter test xs) (filter test xs)) k ≡ Some x → IsPassing test (y ∷ xs) k x
passing_step test y x xs k false is rest at = passing_later test y x xs k k false is refl (rest k at)
passing_step test y x xs zero true is rest at =
    let same : y ≡ x = same_Some y x at in
    record { front = []; later = xs; parts = ap (λ z. z ∷ xs) same; passes = subst (λ z. test z ≡ true) same is; others = refl }
passing_step test y x xs (suc k) true is rest at = passing_later test y x xs k (suc k) true is refl (rest k at)

passing : {X : Type 0} (test : X → Bool) (xs : List X) (k : ℕ) (x : X) → slice_get (filter test xs) k ≡ Some x → IsPassing test xs k x
passing test [] k x at = absurd cc
passing test (y ∷ xs) k x at = passing_step test y x xs k (test y) refl (λ m there. passing test xs m x there) at

pub number_at : (accepted : List Report) (p : Name) (k : ℕ) (r : NumberedReport) → IsFolded accepted → slice_get (reports_by p accepted) k ≡ Some (Numbered r) → r.number ≡ k + 1
number_at accepted p k r folded at =
    let there = passing (is_numbered_of p) accepted k (Numbered r) at in
    let own : p ≡ r.process = (bytes_eq-Decides p r.process).0 there.passes in
    let fit = fit_before accepted there.front there.later (Numbered r) folded there.parts in
    let count : reports_of r.process there.front ≡ k = ap (λ (q : Name). reports_of q there.front) (sym own) ∙ sym (length-filter (is_numbered_of p) there.front) ∙ there.others in
    fit.number ∙ ap (λ (n : ℕ). n + 1) count
