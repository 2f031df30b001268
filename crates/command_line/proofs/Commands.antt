-- How the program is put together.
use Rattle.std.proofs.Common.{◌≡◌, ◌||◌, Some, true, false, length, ℕ, List, Bor, ap, ap₂, ◌∙◌}
use Rattle.clap.specs.Built.{AddsArg}
use Rattle.clap.specs.Simple.{App, app_of, app_of_fields, on_top, with_rule}
use Rattle.clap.specs.Walk.{Rule, rule_of}
use Rattle.clap.specs.declared.builder.action.ArgAction.TheVariants.{SetTrue}
use Rattle.clap.specs.declared.builder.arg.Arg.{Arg}
use Rattle.clap.specs.Texts.{items_of}
use Rattle.clap.specs.declared.builder.command.Command.{Command as Made}
use Rattle.clap.specs.declared.builder.command.Command.TheViews.{out-Command}
use Rattle.command_line.specs.Parts.{IsLocal}

-- one argument more
pub argued : {old new : Made} {a : Arg} {app : App} {r : Rule} → AddsArg old a new → a.global ≡ false → IsLocal old → app_of old ≡ app → rule_of a ≡ r → (app_of new ≡ with_rule app r) × IsLocal new
argued adds a_local local old_is rule_is = (adds.shape a_local ∙ ap₂ with_rule old_is rule_is, adds.globals ∙ ap₂ ◌||◌ local a_local)

-- a command that is called otherwise in its usage
pub called : (old new : Made) {app : App} → out-Command new ≡ record (out-Command old) { bin_name = (out-Command new).bin_name } → app_of old ≡ app → app_of new ≡ app
called old new is old_is = ap app_of_fields is ∙ old_is

-- a command that has a version
pub versioned : (old new : Made) {app : App} {text : _} → out-Command new ≡ record (out-Command old) { version = Some text } → app_of old ≡ app → app_of new ≡ on_top (λ s. record s { has_version = true }) app
versioned old new is old_is = ap app_of_fields is ∙ ap (on_top (λ s. record s { has_version = true })) old_is

-- a command that says what it does
pub described : (old new : Made) {app : App} {text : _} → out-Command new ≡ record (out-Command old) { about = Some text } → app_of old ≡ app → app_of new ≡ app
described old new is old_is = ap app_of_fields is ∙ old_is

-- a command whose help ends with a text
pub ended : (old new : Made) {app : App} {text : _} → out-Command new ≡ record (out-Command old) { after_help = Some text } → app_of old ≡ app → app_of new ≡ app
ended old new is old_is = ap app_of_fields is ∙ old_is

-- a command that wants one of its commands
pub wanting : (old new : Made) {app : App} → out-Command new ≡ record (out-Command old) { subcommand_required = true } → app_of old ≡ app → app_of new ≡ on_top (λ s. record s { subcommand_required = true }) app
wanting old new is old_is = ap app_of_fields is ∙ ap (on_top (λ s. record s { subcommand_required = true })) old_is

-- no argument of the command counts for its subcommands: that stays so where it says what it does, and where its help ends with a text
pub described_local : (old new : Made) {text : _} → out-Command new ≡ record (out-Command old) { about = Some text } → IsLocal old → IsLocal new
described_local old new is local = ap (λ c. c.has_globals) is ∙ local

pub ended_local : (old new : Made) {text : _} → out-Command new ≡ record (out-Command old) { after_help = Some text } → IsLocal old → IsLocal new
ended_local old new is local = ap (λ c. c.has_globals) is ∙ local

-- an argument with a help
pub helped : (old : Arg) {new : Arg} {r : Rule} {text : _} → new ≡ record old { help = Some text } → rule_of old ≡ r → rule_of new ≡ r
helped old is old_is = ap rule_of is ∙ old_is

-- an argument that is wanted
pub required : (old : Arg) {new : Arg} {r : Rule} → new ≡ record old { required = true } → rule_of old ≡ r → rule_of new ≡ record r { required = true }
required old is old_is = ap rule_of is ∙ ap (λ (r : Rule). record r { required = true }) old_is

-- an option
pub long : (old : Arg) {new : Arg} {r : Rule} {name : Bor (List ℕ)} → new ≡ record old { long = Some name } → rule_of old ≡ r → rule_of new ≡ record r { long = Some name.now }
long old {name = name} is old_is = ap rule_of is ∙ ap (λ (r : Rule). record r { long = Some name.now }) old_is

-- an option whose value has a name
pub valued : (old : Arg) {new : Arg} {r : Rule} {names : _} → new ≡ record old { val_names = names } → rule_of old ≡ r → rule_of new ≡ record r { value_names = length (items_of names) }
valued old {names = names} is old_is = ap rule_of is ∙ ap (λ (r : Rule). record r { value_names = length (items_of names) }) old_is

-- a flag
pub flagged : (old : Arg) {new : Arg} {r : Rule} → new ≡ record old { action = Some SetTrue } → rule_of old ≡ r → rule_of new ≡ record r { action = Some SetTrue }
flagged old is old_is = ap rule_of is ∙ ap (λ (r : Rule). record r { action = Some SetTrue }) old_is
