-- Who lives owns something, and nothing of a retirement that waits.
use Rattle.std.proofs.Common.{◌≡◌, ◌≢◌, sym, ◌∙◌, ap, subst}
use Rattle.std.specs.Prelude.{IsTrue}
use Rattle.id_tree.specs.Points.{owns, OwnsSome, Overlap}
use Rattle.stamp.specs.declared.stamp.Stamp.{Stamp}
use Rattle.report_line.specs.histories.History.{Name, Event, Living, Retired, last_of, status}
use Rattle.law_histories.proofs.Owners.{holder_owns}
use Rattle.law_histories.proofs.Chain.{one_holder}
use Rattle.driver.specs.declared.tables.Tables.{Tables}
use Rattle.driver.specs.declared.steps.Alive.{Alive}
use Rattle.driver.specs.working.Tables.{AreSound, history_in}
use Rattle.driver.specs.Stamping.{stamp_of}
use Rattle.driver.specs.working.Making.{IsAlive}

pub owner : (t : Tables) (p : Name) (a : Alive) → AreSound t → IsAlive t.root (history_in t) p a → OwnsSome a.stamp.now.id
owner t p a sound alive = subst (λ (x : Stamp). OwnsSome x.id) (sym alive.stamp) (holder_owns sound.lawful p alive.last (ap last_of alive.lives))

not_both : (d e : Event) (q : Name) → Living d ≢ Retired e q
not_both d e q is = cc

pub apart : (t : Tables) (p r : Name) (a : Alive) (s : Stamp) (e : Event) → AreSound t → IsAlive t.root (history_in t) p a
    → status t.root (history_in t) r ≡ Retired e p → s ≡ stamp_of e → ¬ Overlap a.stamp.now.id s.id
apart t p r a s e sound alive waits is both =
    let h = history_in t in
    let same : p ≡ r = one_holder sound.lawful p r alive.last e both.0 (ap last_of alive.lives) (ap last_of waits)
    (subst (λ (x : Stamp). IsTrue (owns x.id both.0)) alive.stamp both.1) (subst (λ (x : Stamp). IsTrue (owns x.id both.0)) is both.2) in
    not_both alive.last e p (sym alive.lives ∙ (ap (status t.root h) same ∙ waits))
