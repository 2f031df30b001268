use Rattle.std.proofs.Common.{◌≡◌, ◌≢◌, Bool, false, refl, sym, ◌∙◌}
use Rattle.std.specs.Str.{bytes_eq}
use Rattle.std.proofs.lemmas.Bool.{true≢false}
use Rattle.report_line.specs.histories.History.{Name}
use Rattle.law_histories.proofs.Bytes.{bytes_same}
use Rattle.driver.proofs.Owners.{owner}
use Rattle.driver.proofs.Made.{makes_retire}
use Rattle.driver.proofs.steps.retire.Goals as goal

differs : (x y q p : Name) (b : Bool) → b ≡ bytes_eq x y → b ≡ false → x ≡ q → y ≡ p → q ≢ p
differs x y q p b test is is_x is_y same = true≢false (sym (bytes_same x y (is_x ∙ (same ∙ sym is_y))) ∙ (sym test ∙ is))

pub event-requires : goal.event-requires
event-requires c = owner c.args.tables.now c.args.asked.now.process c.in_ok-alive.alive c.requires.sound c.in_ok-alive.ensures

pub add_reported-requires-clause-makes : goal.add_reported-requires-clause-makes
add_reported-requires-clause-makes c =
    rw c.requires.request
    (makes_retire _ _ _ _ _ _ c.in_ok-alive.alive c.in_ok-stamp.stamp c.in-Ok.report _
    c.in_ok-alive.ensures c.in_ok-stamp.ensures
    (λ unborn. true≢false (sym c.if-not-is_born.false ∙ c.is_born.ensures.1 unborn))
    (differs c.as_bytes.result.now c.as_bytes-2.result.now c.args.target.now c.args.asked.now.process c.eq.result c.eq.ensures c.if-eq.false c.as_bytes.ensures.value c.as_bytes-2.ensures.value)
    c.in-Ok.ensures.report c.copy.ensures c.in-Ok.ensures.name refl)
