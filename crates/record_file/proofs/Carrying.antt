-- An append, behind the carrying over.
use Rattle.std.proofs.Common.{inl, ℕ, List, arith}
use Rattle.line_disk.specs.Disk.{View, Leaves, LeavesAlways}
use Rattle.record_file.specs.File.{Said, Stands}
use Rattle.record_file.specs.Resting.{IsBeforeOrAfter}
use Rattle.record_file.specs.Staging.{WasStaged}
use Rattle.record_file.specs.Append.{CameAsFar}
use Rattle.record_file.specs.declared.appended.Appended.{Appended}
use Rattle.record_file.specs.declared.appended.Appended.TheVariants.{Done, Before, Unknown, Stopped}
use Rattle.record_file.proofs.Moments.{always_then, always_weaker}

pub left_now : (said : List Said) (a b : View) → LeavesAlways (Stands said) a b → (c : List ℕ) → Leaves b c → Stands said c
left_now said a b carried c left = carried.each b.clock c carried.later (omega arith) left

pub any_before : (said : List Said) (one : Said) (a b : View) → LeavesAlways (Stands said) a b → LeavesAlways (IsBeforeOrAfter said one) a b
any_before said one a b carried = always_weaker (Stands said) (IsBeforeOrAfter said one) a b (λ c stands. inl stands) carried

module _ (said : List Said) (one : Said) (a b z : View) (carried : LeavesAlways (Stands said) a b) where
  pub any_behind : LeavesAlways (IsBeforeOrAfter said one) b z → LeavesAlways (IsBeforeOrAfter said one) a z
  any_behind always = always_then (IsBeforeOrAfter said one) a b z (any_before said one a b carried) always

  staged_since : WasStaged said one b z → WasStaged said one a z
  staged_since was = record {
    moment = was.moment;
    later = omega (arith, was.later, carried.later);
    sooner = was.sooner;
    file = was.file;
    staged = was.staged;
    only = was.only;
  }

  pub far_behind : (answer : Appended) → CameAsFar answer said one b z → CameAsFar answer said one a z
  far_behind Done far = staged_since far
  far_behind Before far = always_then (Stands said) a b z carried far
  far_behind Unknown far = staged_since far
  far_behind Stopped far = tt
