-- What the parts of the reader say to one another, in the terms of `Arguments`.
use Rattle.std.specs.Prelude.{◌≡◌, ◌&&◌, Bool, true, false, List, [], map, filter, flat_map, Some, is_some, if◌then◌else◌, codes, Result, IfOk}
use Rattle.std.specs.List.{list_any}
use Rattle.std.specs.Str.{bytes_eq}
use Rattle.clap.specs.Words.{App, FailsBy, Row, Text, app_of, first_of, found_of, rows_of}
use Rattle.clap.specs.Simple.{is_positional}
use Rattle.clap.specs.declared.error.Error.{Error}
use Rattle.clap.specs.declared.parser.matches.ArgMatches.{ArgMatches}
use Rattle.clap.specs.declared.builder.command.Command.{Command as Made}
use Rattle.clap.specs.declared.builder.command.Command.TheViews.{out-Command}
use Rattle.command_line.specs.declared.args.Command.{Command}
use Rattle.command_line.specs.declared.args.Wanted.{Wanted}
use Rattle.command_line.specs.Arguments.{HasValues, each_command, is_set, name_of, value_refusals}

-- no argument of the command counts for its subcommands, too
abbrev pub IsLocal : Made → Type 0
IsLocal made = (out-Command made).has_globals ≡ false

-- the command, where there was memory for it, is this one, and no argument of it counts for its subcommands
abbrev pub IsCommand : {E : Type 0} → App → Result Made E → Type 0
IsCommand app made = IfOk made (λ m. (app_of m ≡ app) × IsLocal m)

-- the values that were read
abbrev pub values_of : ArgMatches → List Row
values_of matches = rows_of (found_of matches)

-- one of the commands has this name
abbrev pub is_command : Text → Bool
is_command name = list_any (λ c. bytes_eq name c.top.name) each_command

-- the paths and other plain words that the command of this name wants
abbrev pub wanted_by : Text → List Text
wanted_by name =
    flat_map (λ c. if bytes_eq name c.top.name then map (λ r. r.id) (filter (λ r. r.required && is_positional r) c.top.rules) else []) each_command

-- each of them has a value
abbrev pub HasWanted : Text → List Row → Type 0
HasWanted name rows = (key : Text) → list_any (bytes_eq key) (wanted_by name) ≡ true → is_some (first_of key rows) ≡ true

-- the answer is the command of this name with these values, or the refusal of one of them
abbrev pub IsAnswer : Text → List Row → Result Command Error → Type 0
IsAnswer name rows answer = IfOk answer (λ command. (name_of command ≡ name) × HasValues rows command) × FailsBy (value_refusals (Some (name, rows))) answer

-- the same, where the answer says, too, whether faults say why
abbrev pub IsWanted : Text → List Row → Result Wanted Error → Type 0
IsWanted name rows answer =
    IfOk answer (λ wanted. (name_of wanted.command ≡ name) × HasValues rows wanted.command × (is_set (first_of (codes "explain") rows) ≡ wanted.explain))
    × FailsBy (value_refusals (Some (name, rows))) answer
