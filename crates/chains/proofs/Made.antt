-- What each accepted report keeps: who is known, who retired, and the parts of everything.
use Rattle.std.proofs.Common.{◌≡◌, ◌≢◌, inl, inr, true, false, List, [], ◌∷◌, ◌++◌, Option, Some, None, refl, sym, ap, subst, ◌∙◌, arith}
use Rattle.std.specs.Option.{option_map_or}
use Rattle.std.specs.Str.{bytes_eq}
use Rattle.std.proofs.lemmas.Bool.{true≢false, false_from_ne_true, or_cases, or_parts, or_from}
use Rattle.std.proofs.lemmas.Slice.Eq.{bytes_eq-Decides}
use Rattle.id_tree.specs.IdTree.{IdTree, One}
use Rattle.id_tree.specs.Points.{owns, OwnsSome}
use Rattle.id_tree.specs.Split.{IsSplit}
use Rattle.id_tree.proofs.Sums.{sum_together}
use Rattle.report_line.specs.declared.report.ReportKind.{ReportKind}
use Rattle.report_line.specs.declared.report.ReportKind.TheVariants.{Fork, Absorb}
use Rattle.report_line.specs.declared.report.Forked.{Forked}
use Rattle.report_line.specs.declared.report.NumberedReport.{NumberedReport}
use Rattle.report_line.specs.declared.report.Report.{Report}
use Rattle.report_line.specs.declared.report.Report.TheVariants.{Begin, Numbered}
use Rattle.chains.specs.Processes.{Name, newborn, IsKnown, is_birth_of, is_absorb_of, absorbs, last_report, id_kept, registered_id, target_after, target_of, is_absorbed}
use Rattle.chains.specs.Folded.{IsFitAction, IsFitReport}
use Rattle.chains.specs.Laws.{Holds}
use Rattle.chains.proofs.Certain.{known_or_not}
use Rattle.chains.proofs.Stepping.{none_some, some_name, same_bytes, other_bytes, same_or_other, still_known, known_new, known_cases, absorbed-push, other_report, other_target, own_id, other_id, child_id, doing}
use Rattle.chains.proofs.Parts.{AreParts, parts_same, IsForked, parts_fork, IsAbsorbed, parts_absorb}

-- the ids of the processes that hold
abbrev pub HoldParts : List Report → Type 0
HoldParts accepted = AreParts (Holds accepted) (λ q. registered_id q accepted)

-- who is not known has no report, who was absorbed had retired, and the ids are parts of everything
pub record IsWellMade (accepted : List Report) : Type 0 where
  pub unreported : (q : Name) → ¬ IsKnown accepted q → last_report q accepted ≡ None
  pub retired : (q : Name) → is_absorbed q accepted ≡ true → target_of q accepted ≢ None
  pub parts : accepted ≢ [] → HoldParts accepted

-- ---- who holds

same_known : (accepted : List Report) (r : Report) (q : Name) → newborn r ≡ None → IsKnown (accepted ++ r ∷ []) q → IsKnown accepted q
same_known accepted r q none h = elim (known_cases accepted r q h) [ inl before ↦ before | inr e ↦ absurd (none_some q (sym none ∙ e)) ]

-- what was not absorbed after one more report was not before, and not by it
unabsorbed : (accepted : List Report) (r : Report) (q : Name) → is_absorbed q (accepted ++ r ∷ []) ≡ false → (is_absorbed q accepted ≡ false) × (is_absorb_of q r ≡ false)
unabsorbed accepted r q e = or_parts (is_absorbed q accepted) (is_absorb_of q r) (sym (absorbed-push q accepted r) ∙ e)

still_holds : (accepted : List Report) (r : Report) (q : Name) → is_absorb_of q r ≡ false → Holds accepted q → Holds (accepted ++ r ∷ []) q
still_holds accepted r q e h = record {
  is_known = still_known accepted r q h.is_known;
  unabsorbed = absorbed-push q accepted r ∙ or_from (is_absorbed q accepted) (is_absorb_of q r) h.unabsorbed e;
}

held : (accepted : List Report) (r : Report) (q : Name) → newborn r ≡ None → Holds (accepted ++ r ∷ []) q → Holds accepted q
held accepted r q none h = record { is_known = same_known accepted r q none h.is_known; unabsorbed = (unabsorbed accepted r q h.unabsorbed).0 }

-- a process that reports holds
reporting : (accepted : List Report) (r : NumberedReport) → IsWellMade accepted → IsFitReport accepted r → Holds accepted r.process
reporting accepted r made h = record { is_known = h.is_known; unabsorbed = false_from_ne_true (is_absorbed r.process accepted) (λ e. made.retired r.process e h.living) }

-- ---- a report with a number

unreported_after : (accepted : List Report) (q : Name) (r : NumberedReport) → IsWellMade accepted → IsFitReport accepted r
    → ¬ IsKnown (accepted ++ Numbered r ∷ []) q → last_report q (accepted ++ Numbered r ∷ []) ≡ None
unreported_after accepted q r made h unknown =
    let before = λ (k : IsKnown accepted q). unknown (still_known accepted (Numbered r) q k) in
    other_report accepted q r (λ e. before (subst (IsKnown accepted) (sym e) h.is_known)) ∙ made.unreported q before

absorbed_from : (accepted : List Report) (r : NumberedReport) (q : Name) (a : ReportKind) → IsFitAction accepted r a → absorbs q a ≡ true → target_of q accepted ≡ Some r.process
absorbed_from accepted r q (Absorb retired) fit e = ap (λ (m : Name). target_of m accepted) ((bytes_eq-Decides q retired).0 e) ∙ fit.0.0
absorbed_from accepted r q _ fit e = absurd (true≢false (sym e))

retired_before : (accepted : List Report) (q : Name) (r : NumberedReport) → IsWellMade accepted → IsFitReport accepted r
    → is_absorbed q (accepted ++ Numbered r ∷ []) ≡ true → target_of q accepted ≢ None
retired_before accepted q r made h e =
    elim (or_cases (is_absorbed q accepted) (is_absorb_of q (Numbered r)) (sym (absorbed-push q accepted (Numbered r)) ∙ e)) [
      | inl before ↦ made.retired q before
      | inr now ↦ λ none. none_some r.process (sym none ∙ absorbed_from accepted r q r.action h.fit now)
    ]

retired_after : (accepted : List Report) (q : Name) (r : NumberedReport) → IsWellMade accepted → IsFitReport accepted r
    → is_absorbed q (accepted ++ Numbered r ∷ []) ≡ true → target_of q (accepted ++ Numbered r ∷ []) ≢ None
retired_after accepted q r made h e none =
    let before = retired_before accepted q r made h e in
    before (sym (other_target accepted q r (λ same. before (ap (λ (m : Name). target_of m accepted) same ∙ h.living))) ∙ none)

-- ---- the parts after a report with a number

unborn : (q : Name) (r : Report) → newborn r ≡ None → is_birth_of q r ≡ false
unborn q r none = ap (λ (o : Option Name). option_map_or (λ m. bytes_eq q m) o false) none

same_id : (accepted : List Report) (q : Name) (r : NumberedReport) → newborn (Numbered r) ≡ None → id_kept r.stamp r.action ≡ registered_id r.process accepted
    → registered_id q (accepted ++ Numbered r ∷ []) ≡ registered_id q accepted
same_id accepted q r none same = elim (same_or_other q r.process) [
  | inl e ↦ subst (λ (m : Name). registered_id m (accepted ++ Numbered r ∷ []) ≡ registered_id m accepted) (sym e) (own_id accepted r ∙ same)
  | inr other ↦ other_id accepted q r other (unborn q (Numbered r) none)
]

-- nobody is born or absorbed, and the process keeps its id
after_same : (accepted : List Report) (r : NumberedReport) → newborn (Numbered r) ≡ None → ((q : Name) → is_absorb_of q (Numbered r) ≡ false)
    → id_kept r.stamp r.action ≡ registered_id r.process accepted → HoldParts accepted → HoldParts (accepted ++ Numbered r ∷ [])
after_same accepted r none spared same parts =
    parts_same parts
    (λ q h. held accepted (Numbered r) q none h)
    (λ q h. still_holds accepted (Numbered r) q (spared q) h)
    (λ q. same_id accepted q r none same)

fork_step : (accepted : List Report) (r : NumberedReport) (f : Forked) → IsWellMade accepted → IsFitReport accepted (doing r (Fork f))
    → IsForked (Holds accepted) (Holds (accepted ++ Numbered (doing r (Fork f)) ∷ [])) (λ q. registered_id q accepted) (λ q. registered_id q (accepted ++ Numbered (doing r (Fork f)) ∷ [])) r.process f.child
fork_step accepted r f made h =
    let x = Numbered (doing r (Fork f)) in
    let child = f.child in
    let unreported = made.unreported child h.fit.0 in
    let other : child ≢ r.process = λ e. h.fit.0 (subst (IsKnown accepted) (sym e) h.is_known) in
    record {
      parent = reporting accepted (doing r (Fork f)) made h;
      back = λ q k. elim (known_cases accepted x q k.is_known) [
        | inl before ↦ inl (record { is_known = before; unabsorbed = (unabsorbed accepted x q k.unabsorbed).0 })
        | inr e ↦ inr (sym (some_name child q e))
      ];
      forth = λ q k. still_holds accepted x q refl k;
      born = record {
        is_known = known_new accepted x child refl;
        unabsorbed = absorbed-push child accepted x ∙ or_from (is_absorbed child accepted) false (false_from_ne_true (is_absorbed child accepted) (λ e. made.retired child e (ap target_after unreported))) refl;
      };
      split = subst (λ i. IsSplit (registered_id r.process accepted) i (registered_id child (accepted ++ x ∷ []))) (sym (own_id accepted (doing r (Fork f))))
          (subst (λ i. IsSplit (registered_id r.process accepted) f.kept i) (sym (child_id accepted r f other unreported)) h.fit.1);
      others = λ q k m. other_id accepted q (doing r (Fork f)) m (other_bytes q child (λ e. h.fit.0 (subst (IsKnown accepted) e k.is_known)));
    }

-- a process whose retirement waits holds
waiting_holds : (accepted : List Report) (p retired : Name) → IsWellMade accepted → target_of retired accepted ≡ Some p → is_absorbed retired accepted ≡ false → Holds accepted retired
waiting_holds accepted p retired made target spared = record {
  is_known = elim (known_or_not accepted retired) [ inl there ↦ there | inr unknown ↦ absurd (none_some p (sym (ap target_after (made.unreported retired unknown)) ∙ target)) ];
  unabsorbed = spared;
}

absorb_step : (accepted : List Report) (r : NumberedReport) (retired : Name) → IsWellMade accepted → IsFitReport accepted (doing r (Absorb retired))
    → IsAbsorbed (Holds accepted) (Holds (accepted ++ Numbered (doing r (Absorb retired)) ∷ [])) (λ q. registered_id q accepted) (λ q. registered_id q (accepted ++ Numbered (doing r (Absorb retired)) ∷ [])) r.process retired
absorb_step accepted r retired made h =
    let x = Numbered (doing r (Absorb retired)) in
    record {
      absorbing = reporting accepted (doing r (Absorb retired)) made h;
      waiting = waiting_holds accepted r.process retired made h.fit.0.0 h.fit.0.1;
      apart = λ e. none_some r.process (sym h.living ∙ ap (λ (m : Name). target_of m accepted) e ∙ h.fit.0.0);
      back = λ q k. (held accepted x q refl k, λ e. true≢false (sym ((bytes_eq-Decides q retired).1 e) ∙ (unabsorbed accepted x q k.unabsorbed).1));
      forth = λ q k m. still_holds accepted x q (other_bytes q retired m) k;
      joined = sum_together (registered_id r.process accepted) (registered_id retired accepted) (registered_id r.process (accepted ++ x ∷ [])) (own_id accepted (doing r (Absorb retired)) ∙ h.id);
      others = λ q k m. other_id accepted q (doing r (Absorb retired)) m refl;
    }

parts_after : (accepted : List Report) (r : NumberedReport) (a : ReportKind) → IsWellMade accepted → IsFitReport accepted (doing r a) → HoldParts (accepted ++ Numbered (doing r a) ∷ [])
parts_after accepted r (Fork f) made h = parts_fork (made.parts h.begun) (fork_step accepted r f made h)
parts_after accepted r (Absorb retired) made h = parts_absorb (made.parts h.begun) (absorb_step accepted r retired made h)
parts_after accepted r a made h = after_same accepted (doing r a) refl (λ q. refl) h.id (made.parts h.begun)

pub made_after : (accepted : List Report) (r : NumberedReport) → IsWellMade accepted → IsFitReport accepted r → IsWellMade (accepted ++ Numbered r ∷ [])
made_after accepted r made h = record {
  unreported = λ q unknown. unreported_after accepted q r made h unknown;
  retired = λ q e. retired_after accepted q r made h e;
  parts = λ filled. parts_after accepted r r.action made h;
}

-- ---- BEGIN

-- who holds after BEGIN is the root
root_alone : (p q : Name) → Holds (Begin p ∷ []) q → q ≡ p
root_alone p q h = elim (known_cases [] (Begin p) q h.is_known) [ inl before ↦ absurd (let some = before.1 in omega arith) | inr e ↦ sym (some_name p q e) ]

root_holds : (p : Name) → Holds (Begin p ∷ []) p
root_holds p = record { is_known = known_new [] (Begin p) p refl; unabsorbed = refl }

root_id : (p : Name) → registered_id p (Begin p ∷ []) ≡ One
root_id p = rw (same_bytes p) refl

pub root_made : (p : Name) → IsWellMade (Begin p ∷ [])
root_made p = record {
  unreported = λ q unknown. refl;
  retired = λ q e. absurd (true≢false (sym e));
  parts = λ filled. record {
    disjoint = λ q r h k n. absurd (n (root_alone p q h ∙ sym (root_alone p r k)));
    nonempty = λ q h. subst (λ (m : Name). OwnsSome (registered_id m (Begin p ∷ []))) (sym (root_alone p q h)) (subst OwnsSome (sym (root_id p)) ([], refl));
    all = λ point. (p, root_holds p, ap (λ (i : IdTree). owns i point) (root_id p));
  };
}
