-- What stays in a longer list.
use Rattle.std.proofs.Common.{◌≡◌, ◌≢◌, ℕ, Some, None, Option, List, [], ◌∷◌, ◌++◌, refl, sym, ◌∙◌, ap, subst, inl, inr, append-nil, append_assoc}
use Rattle.std.specs.Prelude.{slice_get}
use Rattle.std.specs.List.{cons_option}
use Rattle.std.proofs.lemmas.List.Elements.{filter_map-append}
use Rattle.stamp.specs.declared.stamp.Stamp.{Stamp}
use Rattle.report_line.specs.declared.report.Report.{Report}
use Rattle.report_line.specs.declared.report.Report.TheVariants.{Begin, Numbered}
use Rattle.report_line.specs.histories.History.{History}
use Rattle.chains.specs.Processes.{Name, newborn, known, last_report, target_after, target_of}
use Rattle.chains.specs.Elements.{stable_made, stable_of, name_of}
use Rattle.chains.specs.Folded.{IsFit, IsFolded, one_folded}
use Rattle.chains.specs.Agrees.{Agrees}
use Rattle.chains.proofs.Stepping.{same_or_other, other_report, known-push}
use Rattle.law_lines.proofs.Listed.{at_front}
use Rattle.law_lines.proofs.Agreement.{fronts_agree}

-- from the one list to the other by reports that are fit
pub data LeadsTo (front : List Report) : List Report → Type 0 where
  no_more : LeadsTo front front
  one_further : {accepted : List Report} (r : Report) → LeadsTo front accepted → IsFit accepted r → LeadsTo front (accepted ++ r ∷ [])

pub folded_on : {front accepted : List Report} → IsFolded front → LeadsTo front accepted → IsFolded accepted
folded_on folded no_more = folded
folded_on folded (one_further {accepted = accepted} r way fit) = one_folded accepted r (folded_on folded way) fit

-- each report of a folded list is fit behind those before it
abbrev pub EachIsFit : List Report → Type 0
EachIsFit xs = (before after : List Report) (r : Report) → xs ≡ before ++ r ∷ after → IsFit before r

lead_earlier : {front : List Report} (r : Report) → IsFit front r → {accepted : List Report} → LeadsTo (front ++ r ∷ []) accepted → LeadsTo front accepted
lead_earlier r fit no_more = one_further r no_more fit
lead_earlier r fit (one_further next way later) = one_further next (lead_earlier r fit way) later

pub leads_on : (rest front : List Report) → EachIsFit (front ++ rest) → LeadsTo front (front ++ rest)
leads_on [] front each = subst (LeadsTo front) (sym (append-nil front)) no_more
leads_on (r ∷ rest) front each =
    let same : (front ++ r ∷ []) ++ rest ≡ front ++ r ∷ rest = append_assoc front (r ∷ []) rest in
    lead_earlier r (each front rest r refl) (subst (LeadsTo (front ++ r ∷ [])) same (leads_on rest (front ++ r ∷ []) (subst EachIsFit (sym same) each)))

-- a front of a list each of whose reports is fit is folded
pub front_folded : (rest front after : List Report) → IsFolded front → EachIsFit (front ++ (rest ++ after)) → IsFolded (front ++ rest)
front_folded [] front after folded each = subst IsFolded (sym (append-nil front)) folded
front_folded (r ∷ rest) front after folded each =
    let same : (front ++ r ∷ []) ++ rest ≡ front ++ r ∷ rest = append_assoc front (r ∷ []) rest in
    let whole : (front ++ r ∷ []) ++ (rest ++ after) ≡ front ++ r ∷ (rest ++ after) = append_assoc front (r ∷ []) (rest ++ after) in
    let one = one_folded front r folded (each front (rest ++ after) r refl) in
    subst IsFolded same (front_folded rest (front ++ r ∷ []) after one (subst EachIsFit (sym whole) each))

pub agrees_back : {front accepted : List Report} → LeadsTo front accepted → (root : Name) (h : History) → Agrees root h accepted → Agrees root h front
agrees_back no_more root h agrees = agrees
agrees_back (one_further {accepted = accepted} r way fit) root h agrees = agrees_back way root h (fronts_agree root h accepted (r ∷ []) agrees)

pub name_on : {front accepted : List Report} → LeadsTo front accepted → (p : ℕ) (name : Name) → name_of front p ≡ Some name → name_of accepted p ≡ Some name
name_on no_more p name is = is
name_on (one_further {accepted = accepted} r way fit) p name is =
    ap (λ (ks : List Name). slice_get ks p) (known-push accepted r) ∙ at_front (known accepted) (cons_option (newborn r) []) p name (name_on way p name is)

pub stable_on : {front accepted : List Report} → LeadsTo front accepted → (p : Name) (i : ℕ) (s : Stamp) → slice_get (stable_of p front) i ≡ Some s → slice_get (stable_of p accepted) i ≡ Some s
stable_on no_more p i s is = is
stable_on (one_further {accepted = accepted} r way fit) p i s is =
    ap (λ (l : List Stamp). slice_get l i) (filter_map-append (stable_made p) accepted (r ∷ []))
    ∙ at_front (stable_of p accepted) (cons_option (stable_made p r) []) i s (stable_on way p i s is)

-- a retirement is the last report of its process
none_target : (q : Name) → let o : Option Name = None in o ≢ Some q
none_target q e = cc

last_one : (accepted : List Report) (r : Report) → IsFit accepted r → (p q : Name) → target_of p accepted ≡ Some q → last_report p (accepted ++ r ∷ []) ≡ last_report p accepted
last_one accepted (Begin root) fit p q is = absurd (none_target q (ap (target_of p) (sym fit) ∙ is))
last_one accepted (Numbered r) fit p q is =
    elim (same_or_other p r.process) [
      | inl own ↦ absurd (none_target q (sym fit.living ∙ (ap (λ (x : Name). target_of x accepted) (sym own) ∙ is)))
      | inr other ↦ other_report accepted p r other
    ]

pub retirement_on : {front accepted : List Report} → LeadsTo front accepted → (p q : Name) → target_of p front ≡ Some q → last_report p accepted ≡ last_report p front
retirement_on no_more p q is = refl
retirement_on (one_further {accepted = accepted} r way fit) p q is =
    let before = retirement_on way p q is in
    last_one accepted r fit p q (ap target_after before ∙ is) ∙ before
