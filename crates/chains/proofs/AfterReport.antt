-- Chains are in order again after one more report.
use Rattle.std.proofs.Common.{◌≡◌, ℕ, ◌<◌, ◌≤◌, List, [], ◌∷◌, ◌++◌, length, get_or, map, Some, refl, sym, ap, subst, ◌∙◌, arith}
use Rattle.std.specs.Prelude.{nat_eq, ⊤}
use Rattle.std.specs.Cmp.Lexicographic.{pointwise}
use Rattle.std.proofs.lemmas.Bool.{true≢false}
use Rattle.std.proofs.lemmas.List.{get_or-map, length-append}
use Rattle.std.proofs.lemmas.List.Sums.{count_by-le-length}
use Rattle.std.proofs.lemmas.Option.{slice_get_within}
use Rattle.indexmap.specs.IndexSet.{insert_key}
use Rattle.report_line.specs.declared.report.Report.{Report}
use Rattle.report_line.specs.declared.report.Report.TheVariants.{Begin, Numbered}
use Rattle.chains.specs.declared.process.Process.{Process}
use Rattle.chains.specs.Processes.{Name, known, is_numbered_of}
use Rattle.chains.specs.Elements.{name_of, stable_of}
use Rattle.chains.specs.working.LastRun.{run_by, run_after}
use Rattle.chains.specs.Admission.{report_limit, process_limit}
use Rattle.chains.specs.Folded.{IsFit, IsFolded, one_folded}
use Rattle.chains.specs.Kept.{Kept, HasRoomFor}
use Rattle.chains.specs.Answers.{IsNumberOf}
use Rattle.chains.specs.working.Keeping.{KeptProcess, kept_of, view_of}
use Rattle.chains.specs.working.Noting.{noted, born, is_check, changed_at, names_after, IsKeptBy, IsKeptByAction}
use Rattle.chains.specs.working.Room.{element_room, HasNoteRoom, MayBeKept}
use Rattle.chains.specs.working.Inside.{AreInOrder}
use Rattle.chains.proofs.Keeps.{as_many, kept_there}
use Rattle.chains.proofs.Stepping.{same_bytes}
use Rattle.chains.proofs.Distinct.{distinct_known}
use Rattle.chains.proofs.InOrder.{in_order_numbered}

-- ---- before

note_room : (accepted : List Report) (names : List Name) (processes : List Process) (i : ℕ) (p : Name) → AreInOrder accepted names processes → name_of accepted i ≡ Some p → 0 < get_or (map element_room processes) i 0 → HasNoteRoom processes i
note_room accepted names processes i p h at room =
    let within : i < length processes = omega (arith, slice_get_within (known accepted) i p at, as_many accepted processes h.kept) in
    record {
      within = within;
      counted = λ k. omega (arith, ap (λ (v : KeptProcess). v.reports) (kept_there accepted processes i p k h.kept at), count_by-le-length (is_numbered_of p) accepted, h.few);
      room = λ k. omega (arith, room, get_or-map element_room processes i k 0 within);
    }

pub may_be_kept : (k : Kept) (names : List Name) (processes : List Process) (r : Report) (i : ℕ) → AreInOrder k.accepted names processes → k.rooms ≡ map element_room processes → IsNumberOf k.accepted r i → HasRoomFor k r i → MayBeKept names processes r i
may_be_kept k names processes (Begin p) i h rooms at room = record { complete = ap length h.named ∙ sym (as_many k.accepted processes h.kept); noted = λ e. absurd (true≢false e) }
may_be_kept k names processes (Numbered r) i h rooms at room = record {
  complete = ap length h.named ∙ sym (as_many k.accepted processes h.kept);
  noted = λ e. note_room k.accepted names processes i r.process h at (subst (λ (l : List ℕ). 0 < get_or l i 0) rooms room);
}

-- ---- after

-- the last run of the process that reports, after its report
abbrev pub IsRunAfter : List Report → Report → ℕ → Type 0
IsRunAfter accepted (Begin p) run = ⊤
IsRunAfter accepted (Numbered r) run = run ≡ run_by (stable_of r.process accepted) r.stamp r.action

pub is_run_after : (accepted : List Report) (r : Report) (i run : ℕ) → IsNumberOf accepted r i → ((p : Name) → name_of accepted i ≡ Some p → run ≡ run_after (stable_of p accepted) r) → IsRunAfter accepted r run
is_run_after accepted (Begin p) i run at h = tt
is_run_after accepted (Numbered r) i run at h = h r.process at

after_numbered : (accepted : List Report) (names names' : List Name) (processes processes' : List Process) (r : Report) (i run : ℕ) → AreInOrder accepted names processes
    → IsFit accepted r → IsNumberOf accepted r i → IsRunAfter accepted r run
    → names' ≡ names_after names r → IsKeptBy (map view_of processes) names r i (length accepted) run (map view_of processes')
    → (names' ≡ known (accepted ++ r ∷ [])) × (map view_of processes' ≡ map (kept_of (accepted ++ r ∷ [])) (known (accepted ++ r ∷ [])))
after_numbered accepted names names' processes processes' (Numbered r) i run h fit at runs is kept =
    let change = noted (length accepted) run (is_check r.action) in
    let by : IsKeptByAction (known accepted) (changed_at change i (map (kept_of accepted) (known accepted))) r.action (length accepted) (map view_of processes') =
    subst (λ (ns : List Name). IsKeptByAction ns (changed_at change i (map (kept_of accepted) (known accepted))) r.action (length accepted) (map view_of processes')) h.named
    (subst (λ (v : List KeptProcess). IsKeptByAction names (changed_at change i v) r.action (length accepted) (map view_of processes')) h.kept kept) in
    let both = in_order_numbered accepted r r.action i run (map view_of processes') runs h.folded h.distinct at fit by in
    (is ∙ ap (λ (ns : List Name). names_after ns (Numbered r)) h.named ∙ both.0, both.1)
after_numbered accepted names names' processes processes' (Begin p) i run h empty at runs is kept =
    let none : known accepted ≡ [] = ap known empty in
    let start : kept_of (Begin p ∷ []) p ≡ born 0 = rw (same_bytes p) refl in
    let whole : accepted ++ Begin p ∷ [] ≡ Begin p ∷ [] = ap (λ (xs : List Report). xs ++ Begin p ∷ []) empty in
    let before : map view_of processes ≡ [] = h.kept ∙ ap (map (kept_of accepted)) none in
    let n : names ≡ [] = h.named ∙ none in (
      is ∙ ap (λ (ns : List Name). insert_key (pointwise nat_eq) ns p) n ∙ sym (ap known whole),
      kept ∙ ap (λ (v : List KeptProcess). v ++ born (length accepted) ∷ []) before ∙ ap (λ (xs : List Report). born (length xs) ∷ []) empty ∙ ap (λ (k : KeptProcess). k ∷ []) (sym start)
          ∙ sym (ap (λ (xs : List Report). map (kept_of xs) (known xs)) whole),
    )

pub after_report : (accepted after : List Report) (names names' : List Name) (processes processes' : List Process) (r : Report) (i run : ℕ) → AreInOrder accepted names processes
    → IsFit accepted r → length accepted < report_limit → length (known (accepted ++ r ∷ [])) ≤ process_limit → IsNumberOf accepted r i → IsRunAfter accepted r run → after ≡ accepted ++ r ∷ []
    → names' ≡ names_after names r → IsKeptBy (map view_of processes) names r i (length accepted) run (map view_of processes') → AreInOrder after names' processes'
after_report accepted after names names' processes processes' r i run h fit few few_known at runs is n kept =
    let folded : IsFolded (accepted ++ r ∷ []) = one_folded accepted r h.folded fit in
    let both = after_numbered accepted names names' processes processes' r i run h fit at runs n kept in
    subst (λ (xs : List Report). AreInOrder xs names' processes') (sym is) (record {
      folded = folded;
      few = omega (arith, length-append accepted (r ∷ []), few);
      few_known = few_known;
      distinct = distinct_known (accepted ++ r ∷ []) folded;
      named = both.0;
      kept = both.1;
    })
