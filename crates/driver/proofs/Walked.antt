-- What is noted of a process of a line is what its elements are.
use Rattle.std.proofs.Common.{◌≡◌, ◌≢◌, ℕ, zero, suc, ◌+◌, ◌-◌, ◌<◌, ◌⊎◌, Bool, true, false, Option, Some, None, if◌then◌else◌, List, [], ◌∷◌, ◌++◌, length, refl, sym, ◌∙◌, ap, subst, inl, inr, arith}
use Rattle.std.specs.Prelude.{nat_eq, slice_get}
use Rattle.std.specs.Option.{option_map}
use Rattle.std.specs.Str.{bytes_eq}
use Rattle.std.proofs.lemmas.Bool.{cases_Bool, cond-true, cond-false}
use Rattle.std.proofs.lemmas.Bool.Decides.{eqb_tells}
use Rattle.std.proofs.lemmas.List.{append-nil, length-append}
use Rattle.std.proofs.lemmas.Option.{none-some, same_Some, slice_get_within}
use Rattle.id_tree.specs.IdTree.{IdTree}
use Rattle.report_line.specs.declared.step.StepKind.{StepKind}
use Rattle.report_line.specs.declared.step.StepKind.TheVariants.{Work, Check, Present, Send, Receive, Fork, Retire, Absorb}
use Rattle.report_line.specs.declared.step.Step.{Step}
use Rattle.report_line.specs.histories.History.{Name, History, Event, event_of, birth_by, birth_of_root}
use Rattle.law_lines.proofs.Listed.{at_append}
use Rattle.driver.specs.declared.mark.Mark.{Mark}
use Rattle.driver.specs.working.Marks.{lasts, reports as reporting, own, born, walked, rooted}
use Rattle.driver.proofs.ElementEvents.{stable_by, stable_events, present_by, present_event, retired_by, retired_in}
use Rattle.driver.proofs.Sound.{flipped}

-- a mark that began as f, where these elements last, this is the present state, and the last report is a retirement or not
pub record Noted (f : Mark) (L : List Event) (P : Option Event) (b : Bool) (m : Mark) : Type 0 where
  pub position : m.position ≡ f.position
  pub failed : m.failed ≡ f.failed
  pub missing : m.missing ≡ f.missing - length L
  pub newest : (j : ℕ) (x : Event) → f.missing ≡ suc j → slice_get L j ≡ Some x → m.newest ≡ x.number
  pub present : m.present ≡ option_map (λ x. x.number) P
  pub retired : m.retired ≡ b

module _ {X : Type 0} where
  pub one_at : (y x : X) (i : ℕ) → slice_get (y ∷ []) i ≡ Some x → (i ≡ 0) × (y ≡ x)
  one_at y x zero is = (refl, same_Some y x is)
  one_at y x (suc i) is = absurd (none-some x is)

  pub after_one : (L : List X) (y x : X) (j : ℕ) → slice_get (L ++ y ∷ []) j ≡ Some x → (slice_get L j ≡ Some x) ⊎ ((j ≡ length L) × (y ≡ x))
  after_one L y x j is =
      elim (at_append L (y ∷ []) j x is) [
        | inl old ↦ inl old
        | inr back ↦ (let at = one_at y x back.0 back.2 in let e : j ≡ length L + back.0 = back.1 in let z : back.0 ≡ 0 = at.0 in inr (omega arith, at.1))
      ]

same_list : (f : Mark) (L : List Event) (P : Option Event) (b : Bool) (m : Mark) → Noted f L P b m → Noted f (L ++ []) P b m
same_list f L P b m w = subst (λ l. Noted f l P b m) (sym (append-nil L)) w

reports_noted : (f : Mark) (L : List Event) (P P' : Option Event) (b b' : Bool) (m : Mark) → Noted f L P b m → Noted f L P' b' (reporting (option_map (λ x. x.number) P') b' m)
reports_noted f L P P' b b' m w = record { position = w.position; failed = w.failed; missing = w.missing; newest = w.newest; present = refl; retired = refl }

-- one more element that lasts
lasts_noted : (f : Mark) (L : List Event) (P : Option Event) (b : Bool) (m : Mark) (e : Event) → Noted f L P b m → Noted f (L ++ e ∷ []) P b (lasts e.number m)
lasts_noted f L P b m e w =
    let one_more : length (L ++ e ∷ []) ≡ length L + 1 = length-append L (e ∷ []) in
    let so_far : m.missing ≡ f.missing - length L = w.missing in
    elim (eqb_tells m.missing 0) [
      | inl is ↦
          (let none : m.missing ≡ 0 = is.1 in
          subst (Noted f (L ++ e ∷ []) P b) (sym (cond-true (nat_eq m.missing 0) m (record m { missing = m.missing - 1; newest = e.number }) is.0)) (record {
            position = w.position;
            failed = w.failed;
            missing = omega arith;
            newest = λ j x want at. elim (after_one L e x j at) [
              | inl old ↦ w.newest j x want old
              | inr last ↦ (let j_is : j ≡ length L = last.0 in let want' : f.missing ≡ suc j = want in absurd (omega arith))
            ];
            present = w.present;
            retired = w.retired;
          }))
      | inr is ↦
          (let some : m.missing ≢ 0 = is.1 in
          subst (Noted f (L ++ e ∷ []) P b) (sym (cond-false (nat_eq m.missing 0) m (record m { missing = m.missing - 1; newest = e.number }) is.0)) (record {
            position = w.position;
            failed = w.failed;
            missing = omega arith;
            newest = λ j x want at. elim (after_one L e x j at) [
              | inl old ↦ (let lt : j < length L = slice_get_within L j x old in let want' : f.missing ≡ suc j = want in absurd (omega arith))
              | inr last ↦ ap (λ (y : Event). y.number) last.1
            ];
            present = w.present;
            retired = w.retired;
          }))
    ]

-- ---- a step

module _ (f : Mark) (h : History) (s : Step) (p : Name) (L : List Event) (P : Option Event) (b : Bool) (m : Mark) (w : Noted f L P b m) where
  fork_noted : (c : Name) (i : IdTree) → Noted f (L ++ stable_by h s p (Fork c i)) P b (born (Fork c i) (length (s ∷ h)) p m)
  fork_noted c i =
      elim (cases_Bool (bytes_eq p c)) [
        | inl is ↦
            subst (λ l. Noted f (L ++ l) P b (born (Fork c i) (length (s ∷ h)) p m)) (sym (cond-true (bytes_eq p c) (birth_by h s c i ∷ []) [] is))
            (subst (Noted f (L ++ birth_by h s c i ∷ []) P b) (sym (cond-true (bytes_eq c p) (lasts (length (s ∷ h)) m) m (flipped c p ∙ is))) (lasts_noted f L P b m (birth_by h s c i) w))
        | inr is ↦
            subst (λ l. Noted f (L ++ l) P b (born (Fork c i) (length (s ∷ h)) p m)) (sym (cond-false (bytes_eq p c) (birth_by h s c i ∷ []) [] is))
            (subst (Noted f (L ++ []) P b) (sym (cond-false (bytes_eq c p) (lasts (length (s ∷ h)) m) m (flipped c p ∙ is))) (same_list f L P b m w))
      ]

  own_noted : (d : StepKind) → bytes_eq p s.process ≡ true → Noted f (L ++ stable_by h s p d) (present_by d (event_of h s) P) (retired_by d b) (own d (length (s ∷ h)) (born d (length (s ∷ h)) p m))
  own_noted Work is = same_list f L P b m w
  own_noted Check is =
      subst (λ l. Noted f (L ++ l) None false (own Check (length (s ∷ h)) m)) (sym (cond-true (bytes_eq p s.process) (event_of h s ∷ []) [] is))
      (lasts_noted f L None false (reporting None false m) (event_of h s) (reports_noted f L P None b false m w))
  own_noted Present is = same_list f L (Some (event_of h s)) false (reporting (Some (length (s ∷ h))) false m) (reports_noted f L P (Some (event_of h s)) b false m w)
  own_noted (Send t) is = same_list f L P b m w
  own_noted (Receive t) is = same_list f L P b m w
  own_noted (Fork c i) is = reports_noted f (L ++ stable_by h s p (Fork c i)) P None b false (born (Fork c i) (length (s ∷ h)) p m) (fork_noted c i)
  own_noted (Retire q) is = same_list f L None true (reporting None true m) (reports_noted f L P None b true m w)
  own_noted (Absorb r) is = same_list f L None false (reporting None false m) (reports_noted f L P None b false m w)

  other_noted : (d : StepKind) → bytes_eq p s.process ≡ false → Noted f (L ++ stable_by h s p d) P b (born d (length (s ∷ h)) p m)
  other_noted Work is = same_list f L P b m w
  other_noted Check is = subst (λ l. Noted f (L ++ l) P b m) (sym (cond-false (bytes_eq p s.process) (event_of h s ∷ []) [] is)) (same_list f L P b m w)
  other_noted Present is = same_list f L P b m w
  other_noted (Send t) is = same_list f L P b m w
  other_noted (Receive t) is = same_list f L P b m w
  other_noted (Fork c i) is = fork_noted c i
  other_noted (Retire q) is = same_list f L P b m w
  other_noted (Absorb r) is = same_list f L P b m w

  seen_noted : Noted f (L ++ stable_by h s p s.step_kind) (if bytes_eq p s.process then present_by s.step_kind (event_of h s) P else P) (if bytes_eq p s.process then retired_by s.step_kind b else b)
      (if bytes_eq s.process p then own s.step_kind (length (s ∷ h)) (born s.step_kind (length (s ∷ h)) p m) else born s.step_kind (length (s ∷ h)) p m)
  seen_noted =
      subst (λ o. Noted f (L ++ stable_by h s p s.step_kind) (if bytes_eq p s.process then present_by s.step_kind (event_of h s) P else P) (if bytes_eq p s.process then retired_by s.step_kind b else b)
      (if o then own s.step_kind (length (s ∷ h)) (born s.step_kind (length (s ∷ h)) p m) else born s.step_kind (length (s ∷ h)) p m)) (flipped p s.process)
      (elim (cases_Bool (bytes_eq p s.process)) [
        | inl is ↦
            subst (λ o. Noted f (L ++ stable_by h s p s.step_kind) (if o then present_by s.step_kind (event_of h s) P else P) (if o then retired_by s.step_kind b else b)
            (if o then own s.step_kind (length (s ∷ h)) (born s.step_kind (length (s ∷ h)) p m) else born s.step_kind (length (s ∷ h)) p m)) (sym is)
            (own_noted s.step_kind is)
        | inr is ↦
            subst (λ o. Noted f (L ++ stable_by h s p s.step_kind) (if o then present_by s.step_kind (event_of h s) P else P) (if o then retired_by s.step_kind b else b)
            (if o then own s.step_kind (length (s ∷ h)) (born s.step_kind (length (s ∷ h)) p m) else born s.step_kind (length (s ∷ h)) p m)) (sym is)
            (other_noted s.step_kind is)
      ])

-- ---- all steps

abbrev pub IsNoted : Name → History → Name → Mark → Mark → Type 0
IsNoted root h p f m = Noted f (stable_events root h p) (present_event h p) (retired_in h p) m

-- a mark that nothing was noted in
pub record IsFresh (f : Mark) : Type 0 where
  pub present : f.present ≡ None
  pub retired : f.retired ≡ false

fresh_noted : (f : Mark) → IsFresh f → Noted f [] None false f
fresh_noted f w = record {
  position = refl;
  failed = refl;
  missing = omega arith;
  newest = λ j x want at. absurd (none-some x at);
  present = w.present;
  retired = w.retired;
}

root_noted : (root p : Name) (f : Mark) → IsFresh f → IsNoted root [] p f (rooted root p f)
root_noted root p f w =
    elim (cases_Bool (bytes_eq p root)) [
      | inl is ↦
          subst (λ l. Noted f l None false (rooted root p f)) (sym (cond-true (bytes_eq p root) (birth_of_root root ∷ []) [] is))
          (subst (Noted f (birth_of_root root ∷ []) None false) (sym (cond-true (bytes_eq root p) (lasts 0 f) f (flipped root p ∙ is))) (lasts_noted f [] None false f (birth_of_root root) (fresh_noted f w)))
      | inr is ↦
          subst (λ l. Noted f l None false (rooted root p f)) (sym (cond-false (bytes_eq p root) (birth_of_root root ∷ []) [] is))
          (subst (Noted f [] None false) (sym (cond-false (bytes_eq root p) (lasts 0 f) f (flipped root p ∙ is))) (fresh_noted f w))
    ]

pub walked_noted : (root : Name) (h : History) (p : Name) (f : Mark) → IsFresh f → IsNoted root h p f (walked h p (rooted root p f))
walked_noted root [] p f w = root_noted root p f w
walked_noted root (s ∷ h) p f w = seen_noted f h s p (stable_events root h p) (present_event h p) (retired_in h p) (walked h p (rooted root p f)) (walked_noted root h p f w)
