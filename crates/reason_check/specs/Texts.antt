-- The text of a verdict.
use Rattle.std.specs.Prelude.{ℕ, List, ◌++◌, codes}
use Rattle.std.specs.Fmt.{decimal}
use Rattle.reason_check.specs.declared.answer.Cause.TheVariants.{Front, Failed, Line, Knows, Reason}
use Rattle.reason_check.specs.declared.answer.Verdict.{Verdict}
use Rattle.reason_check.specs.declared.answer.Verdict.TheVariants.{Yes, No}

-- yes, or the first test that fails with its numbers
abbrev pub verdict_text : Verdict → List ℕ
verdict_text Yes = codes "YES"
verdict_text (No Front) = codes "NO front"
verdict_text (No (Failed k)) = codes "NO failed " ++ decimal k
verdict_text (No (Line k)) = codes "NO line " ++ decimal k
verdict_text (No (Knows k)) = codes "NO knows " ++ decimal k
verdict_text (No (Reason k j)) = codes "NO reason " ++ decimal k ++ codes " " ++ decimal j
