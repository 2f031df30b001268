-- What the answers of an append mean.
use Rattle.std.specs.Prelude.{◌≡◌, ℕ, nat_eq, if◌then◌else◌, List, [], ◌∷◌, ◌++◌, ⊤}
use Rattle.line_disk.specs.Disk.{View, LeavesAlways, one_more}
use Rattle.record_file.specs.File.{Said, first_version, second_version, Stands}
use Rattle.record_file.specs.Staging.{WasStaged}
use Rattle.record_file.specs.Resting.{IsBeforeOrAfter}
use Rattle.record_file.specs.declared.appended.Appended.{Appended}
use Rattle.record_file.specs.declared.appended.Appended.TheVariants.{Done, Before, Unknown, Stopped}

-- what a crash then leaves, where an append was made to a store of these records
abbrev pub LeavesAfter : Appended → List Said → Said → List ℕ → Type 0
LeavesAfter Done said one file = Stands (said ++ one ∷ []) file
LeavesAfter Before said one file = Stands said file
LeavesAfter Unknown said one file = IsBeforeOrAfter said one file
LeavesAfter Stopped said one file = Stands said file

-- How far a record came in an append with this answer: with Before it was behind an open gate at no moment, so that a
-- crash left the records without it at each one; with Done and Unknown it stood whole behind the closed gate before that was written.
abbrev pub CameAsFar : Appended → List Said → Said → View → View → Type 0
CameAsFar Done said one old new = WasStaged said one old new
CameAsFar Before said one old new = LeavesAlways (Stands said) old new
CameAsFar Unknown said one old new = WasStaged said one old new
CameAsFar Stopped said one old new = ⊤

-- the version of a file before its first append, and behind it
abbrev pub carried_over : ℕ → ℕ
carried_over version = if nat_eq version first_version then second_version else version

-- the device failed where the answer is Before or Unknown, and only there
abbrev pub CountsAppend : Appended → ℕ → ℕ → Type 0
CountsAppend Done old new = new ≡ old
CountsAppend Before old new = new ≡ one_more old
CountsAppend Unknown old new = new ≡ one_more old
CountsAppend Stopped old new = new ≡ old

-- what holds where the answer is Done
abbrev pub OnDone : Appended → Type 0 → Type 0
OnDone Done P = P
OnDone Before P = Unit {0}
OnDone Unknown P = Unit {0}
OnDone Stopped P = Unit {0}
