use Rattle.std.proofs.Common.{map, ◌≡◌, ℕ, ◌≤◌, Some, sym, [], ◌∷◌, length, ap, ◌∙◌, subst, refl, arith}
use Rattle.std.specs.Prelude.{All}
use Rattle.std.proofs.lemmas.List.{length-append}
use Rattle.std.proofs.lemmas.List.Elements.{All-push}
use Rattle.report_line.specs.declared.report.Report.{Report}
use Rattle.chains.specs.Processes.{Name}
use Rattle.chains.specs.Elements.{name_of, stable_of}
use Rattle.chains.specs.working.LastRun.{run_after}
use Rattle.chains.specs.working.Fitting.{MayBePut}
use Rattle.chains.specs.working.Keeping.{view_of}
use Rattle.chains.specs.working.Noting.{names_after, IsKeptBy}
use Rattle.chains.specs.working.Inside.{kept_in}
use Rattle.chains.specs.working.Birth.{ready_in}
use Rattle.chains.proofs.AfterReport.{may_be_kept, is_run_after, after_report}
use Rattle.chains.proofs.chains.Chains.accept.Goals as goal

pub keep-requires-clause-fits : goal.keep-requires-clause-fits
keep-requires-clause-fits c =
    let a = c.self.inside in
    let ready : MayBePut (kept_in a) (ready_in c.ready.inside) = rw (← c.self.view_is, ← c.ready.view_is) at c.requires in
    rw c.deref-2.ensures (may_be_kept (kept_in a) a.names.keys a.processes.items c.ready.inside.report.report c.ready.inside.process c.self.invariant.fields refl ready.process ready.element_room)

pub invariant_of-self : goal.invariant_of-self
invariant_of-self c =
    let a = c.self.inside in
    let m = c.ready.inside.report in
    let r = m.report in
    let ready : MayBePut (kept_in a) (ready_in c.ready.inside) = rw (← c.self.view_is, ← c.ready.view_is) at c.requires in
    let front : c.len-index.result ≡ length a.reports.items = omega (arith, c.len-index.ensures, a.reports.ok.0) in
    let run = c.run_after-same_id_from.result in
    let kept = map view_of a.processes.items in
    let after = map view_of c.keep.new.processes.items in
    let views : IsKeptBy kept a.names.keys r c.ready.inside.process (length a.reports.items) run after =
    subst (λ (n : ℕ). IsKeptBy kept a.names.keys r c.ready.inside.process n run after) front (subst (λ (x : Report). IsKeptBy kept a.names.keys x c.ready.inside.process c.len-index.result run after) c.deref-2.ensures c.keep.ensures.views) in
    let runs = rw (← c.self.view_is) at c.run_after-same_id_from.ensures in
    record {
      fields = after_report a.reports.items c.push_reserved.new.self.items a.names.keys c.keep.new.names.keys a.processes.items c.keep.new.processes.items r c.ready.inside.process run c.self.invariant.fields
          ready.fit (omega (arith, ready.few, c.self.invariant.counted)) ready.few_known
          ready.process (is_run_after a.reports.items r c.ready.inside.process run ready.process (subst (λ (x : Report). (p : Name) → name_of a.reports.items c.ready.inside.process ≡ Some p → run ≡ run_after (stable_of p a.reports.items) x) c.deref.ensures runs)) c.push_reserved.ensures.items (c.keep.ensures.names ∙ ap (names_after a.names.keys) c.deref-2.ensures) views;
      marked = omega (arith, ap length c.push_reserved.ensures.items, ap length c.push_reserved-2.ensures.items, length-append a.reports.items (r ∷ []), length-append a.epochs.items (m.epoch ∷ []), c.self.invariant.marked);
      past = subst (All (λ e. e ≤ a.epoch)) (sym c.push_reserved-2.ensures.items) (All-push (λ e. e ≤ a.epoch) a.epochs.items m.epoch c.self.invariant.past ready.past);
      counted = omega (arith, ap length c.push_reserved.ensures.items, length-append a.reports.items (r ∷ []), c.self.invariant.counted);
      within = omega (arith, ready.few);
      first = c.self.invariant.first;
    }
