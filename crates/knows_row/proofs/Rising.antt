-- The events of a process from element to element.
use Rattle.std.proofs.Common.{◌≡◌, ◌≢◌, inl, inr, ℕ, zero, suc, ◌≤◌, Bool, true, false, List, [], ◌∷◌, ◌++◌, Option, Some, None, refl, sym, ap, subst, ◌∙◌, arith, append-nil}
use Rattle.std.specs.Prelude.{⊤, slice_get}
use Rattle.std.specs.List.{list_any, cons_option}
use Rattle.std.specs.Str.{bytes_eq}
use Rattle.std.proofs.lemmas.Bool.{true≢false, cases_Bool, or_parts}
use Rattle.std.proofs.lemmas.List.Elements.{filter_map-append}
use Rattle.std.proofs.lemmas.Slice.Eq.{bytes_eq-Decides}
use Rattle.std.proofs.lemmas.Option.{same_Some}
use Rattle.id_tree.specs.IdTree.{One}
use Rattle.event_tree.specs.EventTree.{EventTree, Leaf}
use Rattle.event_tree.specs.Values.{value_at, IsAtOrBelow}
use Rattle.stamp.specs.declared.stamp.Stamp.{Stamp}
use Rattle.report_line.specs.declared.report.ReportKind.{ReportKind}
use Rattle.report_line.specs.declared.report.ReportKind.TheVariants.{Check, Present, Fork}
use Rattle.report_line.specs.declared.report.NumberedReport.{NumberedReport}
use Rattle.report_line.specs.declared.report.Report.{Report}
use Rattle.report_line.specs.declared.report.Report.TheVariants.{Begin, Numbered}
use Rattle.chains.specs.Processes.{Name, IsKnown, first_of, last_passing, is_birth_of, last_report, birth_report, events_after, last_events}
use Rattle.chains.specs.Elements.{only_if, stable_made, stable_by, stable_of, present_in, present_by, elements_of}
use Rattle.chains.specs.Folded.{IsFitReport, IsFolded, nothing_folded, one_folded}
use Rattle.chains.proofs.Stepping.{same_or_other, other_bytes, own_report, other_report, failing, passing, doing}
use Rattle.chains.proofs.Distinct.{unknown_child}
use Rattle.chains.proofs.Reaching.{well_made}
use Rattle.chains.proofs.InOrder.{unknown_none}

-- ---- events in order

pub below_same : (e f : EventTree) → e ≡ f → IsAtOrBelow e f
below_same e f same point = let h : value_at e point ≡ value_at f point = ap (λ (t : EventTree). value_at t point) same in omega arith

pub below_trans : (e f g : EventTree) → IsAtOrBelow e f → IsAtOrBelow f g → IsAtOrBelow e g
below_trans e f g h k point = let a = h point in let b = k point in omega arith

pub nothing_below : (e : EventTree) → IsAtOrBelow (Leaf 0) e
nothing_below e point = omega arith

-- from the low events to the top no stamp's events fall
abbrev pub Rise : EventTree → List Stamp → EventTree → Type 0
Rise low [] top = IsAtOrBelow low top
Rise low (s ∷ ss) top = IsAtOrBelow low s.events × Rise s.events ss top

rise_to : (low : EventTree) (ss : List Stamp) (top higher : EventTree) → Rise low ss top → IsAtOrBelow top higher → Rise low ss higher
rise_to low [] top higher h le = below_trans low top higher h le
rise_to low (s ∷ ss) top higher h le = (h.0, rise_to s.events ss top higher h.1 le)

rise_more : (low : EventTree) (ss : List Stamp) (top : EventTree) (s : Stamp) → Rise low ss top → IsAtOrBelow top s.events → Rise low (ss ++ s ∷ []) s.events
rise_more low [] top s h le = (below_trans low top s.events h le, below_same s.events s.events refl)
rise_more low (t ∷ ss) top s h le = (h.0, rise_more t.events ss top s h.1 le)

rise_all : (low : EventTree) (ss : List Stamp) (top : EventTree) → Rise low ss top → IsAtOrBelow low top
rise_all low [] top h = h
rise_all low (s ∷ ss) top h = below_trans low s.events top h.0 (rise_all s.events ss top h.1)

-- ---- what is read of them

pub below_top : (low : EventTree) (ss : List Stamp) (top : EventTree) (i : ℕ) (s : Stamp) → Rise low ss top → slice_get ss i ≡ Some s → IsAtOrBelow s.events top
below_top low [] top i s h at = absurd cc
below_top low (t ∷ ss) top zero s h at = below_trans s.events t.events top (below_same s.events t.events (ap (λ (u : Stamp). u.events) (sym (same_Some t s at)))) (rise_all t.events ss top h.1)
below_top low (t ∷ ss) top (suc i) s h at = below_top t.events ss top i s h.1 at

above_low : (low : EventTree) (ss : List Stamp) (top : EventTree) (j : ℕ) (t : Stamp) → Rise low ss top → slice_get ss j ≡ Some t → IsAtOrBelow low t.events
above_low low [] top j t h at = absurd cc
above_low low (s ∷ ss) top zero t h at = below_trans low s.events t.events h.0 (below_same s.events t.events (ap (λ (u : Stamp). u.events) (same_Some s t at)))
above_low low (s ∷ ss) top (suc j) t h at = below_trans low s.events t.events h.0 (above_low s.events ss top j t h.1 at)

pub below_later : (low : EventTree) (ss : List Stamp) (top : EventTree) (i j : ℕ) (s t : Stamp) → Rise low ss top → i ≤ j → slice_get ss i ≡ Some s → slice_get ss j ≡ Some t → IsAtOrBelow s.events t.events
below_later low [] top i j s t h le at at' = absurd cc
below_later low (u ∷ ss) top zero zero s t h le at at' = below_same s.events t.events (ap (λ (v : Stamp). v.events) (sym (same_Some u s at) ∙ same_Some u t at'))
below_later low (u ∷ ss) top zero (suc j) s t h le at at' =
    below_trans s.events u.events t.events (below_same s.events u.events (ap (λ (v : Stamp). v.events) (sym (same_Some u s at)))) (above_low u.events ss top j t h.1 at')
below_later low (u ∷ ss) top (suc i) zero s t h le at at' = absurd (omega arith)
below_later low (u ∷ ss) top (suc i) (suc j) s t h le at at' = below_later u.events ss top i j s t h.1 (omega arith) at at'

-- ---- one more report

-- what a report makes has its events
abbrev pub HasEvents : Option Stamp → EventTree → Type 0
HasEvents None e = ⊤
HasEvents (Some s) e = s.events ≡ e

only_events : (b : Bool) (s : Stamp) (e : EventTree) → s.events ≡ e → HasEvents (only_if b s) e
only_events true s e same = same
only_events false s e same = tt

made_events : (p : Name) (r : NumberedReport) (a : ReportKind) → HasEvents (stable_by p r a) r.stamp.events
made_events p r Check = only_events (bytes_eq p r.process) r.stamp r.stamp.events refl
made_events p r (Fork f) = only_events (bytes_eq p f.child) (record { id = f.given; events = r.stamp.events }) r.stamp.events refl
made_events p r _ = tt

rise_with : (low : EventTree) (ss : List Stamp) (o : Option Stamp) (top higher : EventTree) → Rise low ss top → IsAtOrBelow top higher → HasEvents o higher → Rise low (ss ++ cons_option o []) higher
rise_with low ss None top higher h le same = subst (λ (l : List Stamp). Rise low l higher) (sym (append-nil ss)) (rise_to low ss top higher h le)
rise_with low ss (Some s) top higher h le same =
    subst (λ (e : EventTree). Rise low (ss ++ s ∷ []) e) same (rise_more low ss top s h (below_trans top higher s.events le (below_same higher s.events (sym same))))

stable-push : (p : Name) (accepted : List Report) (r : Report) → stable_of p (accepted ++ r ∷ []) ≡ stable_of p accepted ++ cons_option (stable_made p r) []
stable-push p accepted r = filter_map-append (stable_made p) accepted (r ∷ [])

-- the stable elements of the name rise to its last events
abbrev pub HasRisen : Name → List Report → Type 0
HasRisen p accepted = Rise (Leaf 0) (stable_of p accepted) (last_events p accepted)

risen_with : (p : Name) (accepted : List Report) (r : Report) (higher : EventTree) → HasRisen p accepted → IsAtOrBelow (last_events p accepted) higher → HasEvents (stable_made p r) higher → last_events p (accepted ++ r ∷ []) ≡ higher → HasRisen p (accepted ++ r ∷ [])
risen_with p accepted r higher h le same last =
    subst (λ (l : List Stamp). Rise (Leaf 0) l (last_events p (accepted ++ r ∷ []))) (sym (stable-push p accepted r))
    (subst (λ (e : EventTree). Rise (Leaf 0) (stable_of p accepted ++ cons_option (stable_made p r) []) e) (sym last)
    (rise_with (Leaf 0) (stable_of p accepted) (stable_made p r) (last_events p accepted) higher h le same))

-- the report of the process itself
own_last : (accepted : List Report) (r : NumberedReport) → last_events r.process (accepted ++ Numbered r ∷ []) ≡ r.stamp.events
own_last accepted r = ap (λ (o : Option Report). events_after (first_of o (birth_report r.process (accepted ++ Numbered r ∷ [])))) (own_report accepted r)

-- the report of another one, of which the process is not born
other_last : (p : Name) (accepted : List Report) (r : NumberedReport) → p ≢ r.process → is_birth_of p (Numbered r) ≡ false → last_events p (accepted ++ Numbered r ∷ []) ≡ last_events p accepted
other_last p accepted r other unborn =
    ap (λ (o : Option Report). events_after (first_of o (birth_report p (accepted ++ Numbered r ∷ [])))) (other_report accepted p r other)
    ∙ ap (λ (o : Option Report). events_after (first_of (last_report p accepted) o)) (failing (is_birth_of p) accepted (Numbered r) unborn)

other_made : (p : Name) (r : NumberedReport) (a : ReportKind) → p ≢ r.process → is_birth_of p (Numbered (doing r a)) ≡ false → stable_by p r a ≡ None
other_made p r Check other unborn = ap (λ (b : Bool). only_if b r.stamp) (other_bytes p r.process other)
other_made p r (Fork f) other unborn = ap (λ (b : Bool). only_if b (record { id = f.given; events = r.stamp.events })) unborn
other_made p r _ other unborn = refl

-- ---- who is not known has no events

none_pass : {X : Type 0} (test : X → Bool) (xs : List X) → list_any test xs ≡ false → last_passing test xs ≡ None
none_pass test [] e = refl
none_pass test (x ∷ xs) e = let both = or_parts (test x) (list_any test xs) e in rw (none_pass test xs both.1, both.0) refl

unreported : (p : Name) (accepted : List Report) → IsFolded accepted → ¬ IsKnown accepted p → last_report p accepted ≡ None
unreported p accepted folded unknown = (well_made accepted folded).unreported p unknown

no_events : (p : Name) (accepted : List Report) → IsFolded accepted → ¬ IsKnown accepted p → last_events p accepted ≡ Leaf 0
no_events p accepted folded unknown =
    ap (λ (o : Option Report). events_after (first_of o (birth_report p accepted))) (unreported p accepted folded unknown)
    ∙ ap (λ (o : Option Report). events_after o) (none_pass (is_birth_of p) accepted (unknown_none accepted p folded unknown).0)

-- a child begins with the events of the fork
born_last : (p : Name) (accepted : List Report) (r : NumberedReport) → p ≢ r.process → last_report p accepted ≡ None → is_birth_of p (Numbered r) ≡ true → last_events p (accepted ++ Numbered r ∷ []) ≡ r.stamp.events
born_last p accepted r other none born =
    ap (λ (o : Option Report). events_after (first_of o (birth_report p (accepted ++ Numbered r ∷ [])))) (other_report accepted p r other ∙ none)
    ∙ ap (λ (o : Option Report). events_after o) (passing (is_birth_of p) accepted (Numbered r) born)

born_of : (p : Name) (r : NumberedReport) (a : ReportKind) (accepted : List Report) → IsFitReport accepted (doing r a) → is_birth_of p (Numbered (doing r a)) ≡ true → ¬ IsKnown accepted p
born_of p r (Fork f) accepted fit e = unknown_child accepted r (Fork f) fit.fit p (ap (λ (m : Name). Some m) (sym ((bytes_eq-Decides p f.child).0 e)))
born_of p r _ accepted fit e = absurd (true≢false (sym e))

-- ---- each folded list

risen_own : (accepted : List Report) (r : NumberedReport) → HasRisen r.process accepted → IsFitReport accepted r → HasRisen r.process (accepted ++ Numbered r ∷ [])
risen_own accepted r h fit = risen_with r.process accepted (Numbered r) r.stamp.events h fit.grown.0 (made_events r.process r r.action) (own_last accepted r)

risen_other : (p : Name) (accepted : List Report) (r : NumberedReport) → IsFolded accepted → HasRisen p accepted → IsFitReport accepted r → p ≢ r.process → HasRisen p (accepted ++ Numbered r ∷ [])
risen_other p accepted r folded h fit other = elim (cases_Bool (is_birth_of p (Numbered r))) [
  | inl born ↦
      let unknown = born_of p r r.action accepted fit born in
      let low : IsAtOrBelow (last_events p accepted) r.stamp.events = subst (λ (e : EventTree). IsAtOrBelow e r.stamp.events) (sym (no_events p accepted folded unknown)) (nothing_below r.stamp.events) in
      risen_with p accepted (Numbered r) r.stamp.events h low (made_events p r r.action) (born_last p accepted r other (unreported p accepted folded unknown) born)
  | inr unborn ↦
      risen_with p accepted (Numbered r) (last_events p accepted) h (below_same (last_events p accepted) (last_events p accepted) refl)
      (subst (λ (o : Option Stamp). HasEvents o (last_events p accepted)) (sym (other_made p r r.action other unborn)) tt) (other_last p accepted r other unborn)
]

root_last : (p q : Name) → last_events p (Begin q ∷ []) ≡ Leaf 0
root_last p q = elim (cases_Bool (bytes_eq p q)) [ inl e ↦ rw e refl | inr e ↦ rw e refl ]

root_risen : (p q : Name) → HasRisen p (Begin q ∷ [])
root_risen p q =
    risen_with p [] (Begin q) (Leaf 0) (nothing_below (Leaf 0)) (nothing_below (Leaf 0)) (only_events (bytes_eq p q) (record { id = One; events = Leaf 0 }) (Leaf 0) refl) (root_last p q)

pub risen : (p : Name) (accepted : List Report) → IsFolded accepted → HasRisen p accepted
risen p _ nothing_folded = nothing_below (Leaf 0)
risen p _ (one_folded before (Begin q) folded first) = subst (λ (xs : List Report). HasRisen p (xs ++ Begin q ∷ [])) (sym first) (root_risen p q)
risen p _ (one_folded before (Numbered r) folded fit) =
    elim (same_or_other p r.process) [
      | inl e ↦ subst (λ (m : Name). HasRisen m (before ++ Numbered r ∷ [])) (sym e) (risen_own before r (risen r.process before folded) fit)
      | inr other ↦ risen_other p before r folded (risen p before folded) fit other
    ]

-- ---- with the present state

with_present_by : (low : EventTree) (ss : List Stamp) (s : Stamp) (a : ReportKind) → Rise low ss s.events → Rise low (ss ++ present_by s a) s.events
with_present_by low ss s Present h = rise_more low ss s.events s h (below_same s.events s.events refl)
with_present_by low ss s _ h = subst (λ (l : List Stamp). Rise low l s.events) (sym (append-nil ss)) h

with_present : (low : EventTree) (ss : List Stamp) (o birth : Option Report) → Rise low ss (events_after (first_of o birth)) → Rise low (ss ++ present_in o) (events_after (first_of o birth))
with_present low ss None birth h = subst (λ (l : List Stamp). Rise low l (events_after birth)) (sym (append-nil ss)) h
with_present low ss (Some (Begin p)) birth h = subst (λ (l : List Stamp). Rise low l (Leaf 0)) (sym (append-nil ss)) h
with_present low ss (Some (Numbered r)) birth h = with_present_by low ss r.stamp r.action h

pub elements_rise : (p : Name) (accepted : List Report) → IsFolded accepted → Rise (Leaf 0) (elements_of p accepted) (last_events p accepted)
elements_rise p accepted folded = with_present (Leaf 0) (stable_of p accepted) (last_report p accepted) (birth_report p accepted) (risen p accepted folded)
