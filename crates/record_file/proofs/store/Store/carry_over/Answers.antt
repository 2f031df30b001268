use Rattle.std.proofs.Common.{◌≡◌, ℕ, List, sym, ◌∙◌, subst}
use Rattle.line_disk.specs.Disk.{View}
use Rattle.record_file.specs.File.{Said, first_version}
use Rattle.record_file.specs.Resting.{IsAtRest}
use Rattle.record_file.proofs.Appending.{carry_any, carry_rests, on_ok}
use Rattle.record_file.proofs.store.Store.carry_over.Goals as goal

-- a file at rest of a version that is the first
of_first : (version : ℕ) (said : List Said) (end : ℕ) (a : View) → version ≡ first_version → IsAtRest version said end a → IsAtRest first_version said end a
of_first version said end a is s = subst (λ (v : ℕ). IsAtRest v said end a) is s

pub returns-then-is_err-clause-any_moment : goal.returns-then-is_err-clause-any_moment
returns-then-is_err-clause-any_moment g c = λ said keeps s.
    carry_any said _ _ _ (of_first _ said _ _ c.if-self-ne-FIRST_VERSION.false s) (c.write_durably.ensures.crash keeps)

pub returns-clause-any_moment : goal.returns-clause-any_moment
returns-clause-any_moment g c = λ said keeps s.
    carry_any said _ _ _ (of_first _ said _ _ c.if-self-ne-FIRST_VERSION.false s) (c.write_durably.ensures.crash keeps)

pub returns-clause-same_records : goal.returns-clause-same_records
returns-clause-same_records g c = λ said keeps s.
    let good = sym c.is_err.ensures.value ∙ c.if-is_err.false in
    carry_rests said _ _ _ (of_first _ said _ _ c.if-self-ne-FIRST_VERSION.false s) (c.write_durably.ensures.crash keeps)
    (on_ok c.write_durably.result good (c.write_durably.ensures.written keeps)) (on_ok c.write_durably.result good (c.write_durably.ensures.durable keeps))
