-- What the command `serve` tells of itself while it goes on.
use Rattle.std.specs.Prelude.{◌≡◌, ◌<◌, ◌≤◌, ◌*◌, ℕ, List, [], ◌∷◌, ◌++◌, codes, Option, Some, None, ⊤}
use Rattle.std.specs.Fmt.{decimal}
use Rattle.chains.specs.Admission.{process_limit, report_limit}
use Rattle.client_link.specs.Links.{LinkState}
use Rattle.report_line.specs.Cutting.{ended}
use Rattle.recline.specs.Outcome.{Tells}
use Rattle.recline.specs.declared.notices.Notice.{Notice}
use Rattle.recline.specs.declared.notices.Notice.TheVariants as notices

-- the line of a notice: what stands before its number, the number, and what stands after it
abbrev pub before_number : Notice → List ℕ
before_number (notices.Waiting clients) = codes "recline: waiting "
before_number (notices.Front front) = codes "recline: front "
before_number (notices.Processes count) = codes "recline: processes "
before_number notices.SessionsUsedUp = codes "recline: sessions used up"
before_number notices.TurnsUsedUp = codes "recline: turns used up"
before_number notices.FileFailed = codes "recline: FILE failed"
before_number notices.NoConnection = codes "recline: no connection is taken"
before_number (notices.Checking lines) = codes "recline: checking "

abbrev pub number_in : Notice → Option ℕ
number_in (notices.Waiting clients) = Some clients
number_in (notices.Front front) = Some front
number_in (notices.Processes count) = Some count
number_in (notices.Checking lines) = Some lines
number_in _ = None

abbrev pub after_number : Notice → List ℕ
after_number (notices.Front front) = ended (codes " of 16384")
after_number (notices.Processes count) = ended (codes " of 1024")
after_number (notices.Checking lines) = ended (codes " lines")
after_number _ = ended []

abbrev pub number_text : Option ℕ → List ℕ
number_text None = []
number_text (Some n) = decimal n

abbrev pub notice_line : Notice → List ℕ
notice_line notice = before_number notice ++ (number_text (number_in notice) ++ after_number notice)

-- so many of at most so many are nine tenths of them or more
abbrev pub IsNear : ℕ → ℕ → Type 0
IsNear most n = 9 * most ≤ 10 * n

-- clients that wait are told of where there are some, and a limit where it is near
abbrev pub MayTell : Notice → Type 0
MayTell (notices.Waiting clients) = 0 < clients
MayTell (notices.Front front) = IsNear report_limit front
MayTell (notices.Processes count) = IsNear process_limit count
MayTell _ = ⊤

-- a line was told for each of these notices; the last one stands first
abbrev pub TellsEach : List Notice → LinkState → LinkState → Type 0
TellsEach [] old new = new ≡ old
TellsEach (notice ∷ earlier) old new = (mid : LinkState) × TellsEach earlier old mid × MayTell notice × Tells mid new (notice_line notice)

-- nothing was told but such lines
abbrev pub TellsNotices : LinkState → LinkState → Type 0
TellsNotices old new = (notices : List Notice) × TellsEach notices old new
