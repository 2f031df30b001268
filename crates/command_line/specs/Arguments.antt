-- What the words of a command line ask for, in the terms of `clap`. The first word is the one that the program was called
-- by.
use Rattle.std.specs.Prelude.{◌≡◌, ◌&&◌, ℕ, Bool, true, false, List, [], ◌∷◌, fold, Option, Some, None, codes, option_map, if◌then◌else◌}
use Rattle.std.specs.List.{list_any}
use Rattle.std.specs.Str.{bytes_eq}
use Rattle.std.specs.Option.{option_map_or}
use Rattle.std.specs.Str.Parse.{digits_value, without_leading_plus}
use Rattle.clap.specs.Words.{App, IsUnsignedIn, Kinds, Row, Rule, Text, fault_of, first_of, new_app, new_rule, subcommand_of, with_rule, with_subcommand}
use Rattle.clap.specs.Kinds.{or_else}
use Rattle.clap.specs.ValueTests.{is_unsigned_in}
use Rattle.clap.specs.declared.builder.action.ArgAction.TheVariants.{SetTrue}
use Rattle.clap.specs.declared.error.kind.ErrorKind.TheVariants as kinds
use Rattle.clap.specs.Simple.{on_top}
use Rattle.command_line.specs.declared.args.Command.{Command}
use Rattle.command_line.specs.declared.args.Command.TheVariants as commands
use Rattle.command_line.specs.declared.args.Wanted.{Wanted}

-- an argument that is one word, and is wanted
abbrev pub wanted_rule : Text → Rule
wanted_rule key = record (new_rule key) { required = true }

-- an option of this name, which takes one value
abbrev pub option_rule : Text → Rule
option_rule key = record (new_rule key) { long = Some key; value_names = 1 }

-- the same, where it is wanted
abbrev pub wanted_option : Text → Rule
wanted_option key = record (new_rule key) { long = Some key; value_names = 1; required = true }

-- a flag of this name, which takes no value
abbrev pub flag_rule : Text → Rule
flag_rule key = record (new_rule key) { long = Some key; action = Some SetTrue }

-- how many of the first records count
abbrev pub front_rule : Rule
front_rule = option_rule (codes "at")

-- the command of this name, with these arguments
abbrev pub command_with : Text → List Rule → App
command_with name rules = fold with_rule (new_app name) rules

-- the command `run`, which may be given the path of a record file
abbrev pub run : App
run = command_with (codes "run") (new_rule (codes "FILE") ∷ [])

-- the command `serve` with what says how much is served: the path of a record file, a port, how many sessions, if that is given, and workers
abbrev pub serve_wants : App
serve_wants =
    command_with (codes "serve") (wanted_rule (codes "FILE") ∷ wanted_option (codes "port") ∷ option_rule (codes "sessions") ∷ wanted_option (codes "workers") ∷ [])

-- and it may be given how long a client may be silent, and a flag
abbrev pub serve : App
serve = fold with_rule serve_wants (option_rule (codes "idle") ∷ flag_rule (codes "until-input-ends") ∷ [])

-- the command `check`, which takes the paths of a record file and of a certificate, and may be given a front
abbrev pub check : App
check = command_with (codes "check") (wanted_rule (codes "FILE") ∷ wanted_rule (codes "CERT") ∷ front_rule ∷ [])

-- the command `line`, which takes the path of a record file and the names of the processes that failed
abbrev pub line : App
line = command_with (codes "line") (wanted_rule (codes "FILE") ∷ wanted_rule (codes "NAMES") ∷ front_rule ∷ [])

-- the command `garbage`, which takes the path of a record file
abbrev pub garbage : App
garbage = command_with (codes "garbage") (wanted_rule (codes "FILE") ∷ front_rule ∷ [])

-- the command `show`, which takes the path of a record file, and may be given a front and two flags
abbrev pub show : App
show = command_with (codes "show") (wanted_rule (codes "FILE") ∷ front_rule ∷ flag_rule (codes "reports") ∷ flag_rule (codes "json") ∷ [])

-- the command `explain`, which may be given a line
abbrev pub explain : App
explain = command_with (codes "explain") (new_rule (codes "LINE") ∷ [])

-- the command `drive`, which takes the path of a script, and may be given a flag
abbrev pub drive : App
drive = command_with (codes "drive") (wanted_rule (codes "SCRIPT") ∷ flag_rule (codes "comments") ∷ [])

-- the command `draw` with what says what is drawn: the path of a script, with comments or without, or with a flag that of a record file
abbrev pub draw_wants : App
draw_wants = command_with (codes "draw") (wanted_rule (codes "SCRIPT") ∷ flag_rule (codes "comments") ∷ flag_rule (codes "records") ∷ [])

-- and it may be given the names of the processes that failed, that of one whose reasons are drawn, and a front
abbrev pub draw : App
draw = fold with_rule draw_wants (option_rule (codes "failed") ∷ option_rule (codes "why") ∷ front_rule ∷ [])

-- the program by itself: it has a version, and one of its commands is wanted
abbrev pub alone : App
alone = on_top (λ s. record s { has_version = true; subcommand_required = true }) (new_app (codes "recline"))

-- a program with these commands behind those that it has
abbrev pub with_commands : App → List App → App
with_commands above more = fold (λ a c. with_subcommand a c.top) above more

-- the flag of this command, too, by which faults say why
abbrev pub with_why : App → App
with_why command = with_rule command (flag_rule (codes "explain"))

-- the commands, as the help has them; all that open something have that flag
abbrev pub each_command : List App
each_command =
    with_why run ∷ with_why serve ∷ with_why check ∷ with_why line ∷ with_why garbage ∷ with_why show ∷ explain ∷ with_why drive ∷ with_why draw ∷ []

-- the program with its commands
abbrev pub program : App
program = with_commands alone each_command

-- the kinds of refusal that the parse of the words may give, none where it takes them; help and the version are refusals, too
abbrev pub parse_refusals : List Text → Kinds
parse_refusals words = fault_of program words

-- the value is a decimal number within these limits, a plus before it or not
abbrev pub has_number : ℕ → ℕ → Option Text → Bool
has_number least most value = option_map_or (is_unsigned_in least most) value false

-- it is, or there is no value
abbrev pub may_have_number : ℕ → ℕ → Option Text → Bool
may_have_number least most value = option_map_or (is_unsigned_in least most) value true

-- the numbers of the command `serve` are within their limits: its port and how many workers, and how many sessions and the seconds, if they are given
abbrev pub has_numbers_of_serve : List Row → Bool
has_numbers_of_serve rows =
    has_number 0 65535 (first_of (codes "port") rows) && (may_have_number 1 4096 (first_of (codes "sessions") rows)
    && (has_number 1 64 (first_of (codes "workers") rows) && may_have_number 1 4294967295 (first_of (codes "idle") rows)))

-- the commands that may be asked over the first records alone
abbrev pub takes_front : Text → Bool
takes_front name = list_any (bytes_eq name) (codes "check" ∷ codes "line" ∷ codes "garbage" ∷ codes "show" ∷ codes "draw" ∷ [])

-- how many records that is lies within its limits, if it is given
abbrev pub has_front : List Row → Bool
has_front rows = may_have_number 0 16384 (first_of (codes "at") rows)

-- the other commands have no numbers
abbrev pub has_numbers : Text → List Row → Bool
has_numbers name rows = if bytes_eq name (codes "serve") then has_numbers_of_serve rows else if takes_front name then has_front rows else true

-- a value that is out of its limits is a fault
abbrev pub value_refusals : Option (Text × List Row) → Kinds
value_refusals (Some (name, rows)) = if has_numbers name rows then [] else kinds.ValueValidation ∷ []
value_refusals None = []

-- the kinds of refusal that the words may get: those of the parse, and where it takes the words those of numbers
abbrev pub refusals : List Text → Kinds
refusals words = or_else (parse_refusals words) (value_refusals (subcommand_of program words))

-- the words are taken and name this command, whose own arguments have the values of these rows
abbrev pub Selects : List Text → Text → List Row → Type 0
Selects words name rows = (parse_refusals words ≡ []) × (subcommand_of program words ≡ Some (name, rows))

-- the value is a text, which spells this number, and that is within the limits
abbrev pub IsNumber : ℕ → ℕ → ℕ → Option Text → Type 0
IsNumber least most n (Some text) = IsUnsignedIn least most text × (n ≡ digits_value 10 (without_leading_plus text))
IsNumber least most n None = ⊥

-- the same, where there may be no value and no number
abbrev pub MayBeNumber : ℕ → ℕ → Option ℕ → Option Text → Type 0
MayBeNumber least most (Some n) value = IsNumber least most n value
MayBeNumber least most None value = value ≡ None

-- the front that these values give
abbrev pub IsFront : List Row → Option ℕ → Type 0
IsFront rows at = MayBeNumber 0 16384 at (first_of (codes "at") rows)

-- a flag that is given has the value `true`
abbrev pub is_set : Option Text → Bool
is_set value = option_map_or (λ text. bytes_eq text (codes "true")) value false

-- the name of a command
abbrev pub name_of : Command → Text
name_of (commands.Run file) = codes "run"
name_of (commands.Serve file port sessions workers idle until_input_ends) = codes "serve"
name_of (commands.Check file certificate at) = codes "check"
name_of (commands.Line file failed at) = codes "line"
name_of (commands.Garbage file at) = codes "garbage"
name_of (commands.Show file at reports json) = codes "show"
name_of (commands.Explain given) = codes "explain"
name_of (commands.Drive script comments) = codes "drive"
name_of (commands.Draw path comments records failed why at) = codes "draw"

-- the rows have the values of the command
abbrev pub HasValues : List Row → Command → Type 0
HasValues rows (commands.Run file) = first_of (codes "FILE") rows ≡ option_map (λ s. s.now) file
HasValues rows (commands.Serve file port sessions workers idle until_input_ends) =
    (first_of (codes "FILE") rows ≡ Some file.now) × IsNumber 0 65535 port (first_of (codes "port") rows) × MayBeNumber 1 4096 sessions (first_of (codes "sessions") rows)
    × IsNumber 1 64 workers (first_of (codes "workers") rows) × MayBeNumber 1 4294967295 idle (first_of (codes "idle") rows)
    × (is_set (first_of (codes "until-input-ends") rows) ≡ until_input_ends)
HasValues rows (commands.Check file certificate at) =
    (first_of (codes "FILE") rows ≡ Some file.now) × (first_of (codes "CERT") rows ≡ Some certificate.now) × IsFront rows at
HasValues rows (commands.Line file failed at) =
    (first_of (codes "FILE") rows ≡ Some file.now) × (first_of (codes "NAMES") rows ≡ Some failed.now) × IsFront rows at
HasValues rows (commands.Garbage file at) = (first_of (codes "FILE") rows ≡ Some file.now) × IsFront rows at
HasValues rows (commands.Show file at reports json) =
    (first_of (codes "FILE") rows ≡ Some file.now) × IsFront rows at × (is_set (first_of (codes "reports") rows) ≡ reports) × (is_set (first_of (codes "json") rows) ≡ json)
HasValues rows (commands.Explain given) = first_of (codes "LINE") rows ≡ option_map (λ s. s.now) given
HasValues rows (commands.Drive script comments) =
    (first_of (codes "SCRIPT") rows ≡ Some script.now) × (is_set (first_of (codes "comments") rows) ≡ comments)
HasValues rows (commands.Draw path comments records failed why at) =
    (first_of (codes "SCRIPT") rows ≡ Some path.now) × (is_set (first_of (codes "comments") rows) ≡ comments) × (is_set (first_of (codes "records") rows) ≡ records)
    × (first_of (codes "failed") rows ≡ option_map (λ s. s.now) failed) × (first_of (codes "why") rows ≡ option_map (λ s. s.now) why) × IsFront rows at

-- the words ask for the command, and for why it fails or not
abbrev pub AsksFor : List Text → Wanted → Type 0
AsksFor words wanted =
    (rows : List Row) × Selects words (name_of wanted.command) rows × HasValues rows wanted.command × (is_set (first_of (codes "explain") rows) ≡ wanted.explain)
