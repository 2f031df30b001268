-- Notices, one after the other.
use Rattle.std.proofs.Common.{List, [], ◌∷◌, ◌++◌, refl, sym, subst}
use Rattle.client_link.specs.Links.{LinkState}
use Rattle.recline.specs.Outcome.{Tells}
use Rattle.recline.specs.declared.notices.Notice.{Notice}
use Rattle.recline.specs.Notices.{MayTell, TellsEach, TellsNotices, notice_line}

-- nothing is told
pub told_nothing : {old : LinkState} → TellsNotices old old
told_nothing = ([], refl)

-- one notice
pub told_one : {old new : LinkState} (notice : Notice) → MayTell notice → Tells old new (notice_line notice) → TellsNotices old new
told_one {old = old} notice may told = (notice ∷ [], (old, refl, may, told))

told_each : (first later : List Notice) (old mid new : LinkState) → TellsEach first old mid → TellsEach later mid new → TellsEach (later ++ first) old new
told_each first [] old mid new before after = subst (λ (s : LinkState). TellsEach first old s) (sym after) before
told_each first (notice ∷ later) old mid new before after = (after.0, told_each first later old mid after.0 before after.1, after.2, after.3)

-- some, and then others
pub told_then : {old mid new : LinkState} → TellsNotices old mid → TellsNotices mid new → TellsNotices old new
told_then {old = old} {mid = mid} {new = new} before after = (after.0 ++ before.0, told_each before.0 after.0 old mid new before.1 after.1)
