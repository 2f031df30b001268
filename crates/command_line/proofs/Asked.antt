-- What words that a parse refuses for nothing ask for.
use Rattle.std.proofs.Common.{◌≡◌, Bool, ℕ, true, false, is_some, Option, Some, None, List, [], ◌∷◌, refl, subst, ap, codes, fold, true≢false, sym, ◌∙◌, inl, inr}
use Rattle.std.specs.Str.{bytes_eq}
use Rattle.std.specs.Option.{option_map_or}
use Rattle.std.proofs.lemmas.Slice.Eq.{bytes_eq-Decides}
use Rattle.clap.specs.Lexer.{short_of}
use Rattle.std.specs.Prelude.{Result, IfOk}
use Rattle.std.proofs.lemmas.Result.{IfOk-weaker}
use Rattle.clap.specs.Kinds.{FailsBy, HasKind, Kinds, or_else}
use Rattle.clap.specs.declared.error.Error.{Error}
use Rattle.command_line.specs.declared.args.Wanted.{Wanted}
use Rattle.clap.specs.Walk.{Held, Names, Outcome, Row, Rule, Step, Text, Waiting, Walk, after_flag, after_step, answers_to, arg_by_index, arg_by_long, bundle, done, finished, idle, long_met, long_or_other, next, nothing_held, option, plain, plain_word, positional, refused, rows_after, short_or_plain, subcommand, subcommand_met, subcommand_or_other, to_positional, trailing, value, waits, walk, walk_from, walked, walked_from, word_met}
use Rattle.clap.specs.Simple.{App, Shape, argument_words, built, entered, label_of, names_of, rows_at}
use Rattle.clap.specs.Faults.{check_fault, entered_fault, fault_of, is_simple_and_free, level_fault, other_fault, settle_fault, turn_fault, walk_fault, word_fault}
use Rattle.clap.specs.Simple.{HasMatchesOf, subcommand_of, subcommand_rows, subcommand_rows_of}
use Rattle.clap.specs.Matches.{subcommand_name_of}
use Rattle.clap.specs.declared.parser.matches.ArgMatches.{ArgMatches}
use Rattle.clap.specs.declared.parser.matches.ArgMatches.TheViews.{out-ArgMatches, out-SubCommand}
use Rattle.clap.specs.declared.parser.matches.SubCommand.{SubCommand}
use Rattle.std.specs.Prelude.{◌||◌, option_map, find, Box}
use Rattle.std.specs.List.{list_all}
use Rattle.std.specs.Box.{box_value}
use Rattle.command_line.specs.Arguments.{AsksFor, Selects, parse_refusals, program, refusals, value_refusals}
use Rattle.command_line.specs.Parts.{HasWanted, IsWanted, is_command, wanted_by}
use Rattle.command_line.proofs.Given.{wanted_first, wants}
use Rattle.command_line.proofs.Lists.{all_among, all_found, found, or_passes}

none_first : (a b : Kinds) → or_else a b ≡ [] → a ≡ []
none_first [] b e = refl
none_first (k ∷ ks) b e = e

none_next : (a b : Kinds) → or_else a b ≡ [] → b ≡ []
none_next [] b e = e
none_next (k ∷ ks) b e = cc

-- the walk stopped at `help`
abbrev is_help : Option (Text × List Text) → Bool
is_help stop = option_map_or (λ p. bytes_eq p.0 (codes "help")) stop false

abbrev enters_help : Step → Bool
enters_help (subcommand name) = bytes_eq name (codes "help")
enters_help _ = false

-- a word that is no subcommand enters none

plain_enters : (c : List Rule) (waiting : Waiting) (word : Text) (h : Held) → enters_help (plain_word c waiting word h).1 ≡ false
plain_enters c idle word h = refl
plain_enters c (option id) word h = refl
plain_enters c positional word h = refl

flag_enters : (c : List Rule) (waiting : Waiting) (word : Text) (h : Held) (outcome : Outcome) → enters_help (after_flag c waiting word h outcome).1 ≡ false
flag_enters c waiting word h done = refl
flag_enters c waiting word h (waits id) = refl
flag_enters c waiting word h plain = plain_enters c waiting word h
flag_enters c waiting word h refused = plain_enters c waiting word h

short_enters : (c : List Rule) (waiting : Waiting) (word : Text) (short : Option Text) (h : Held) → enters_help (short_or_plain c waiting word short h).1 ≡ false
short_enters c waiting word (Some flags) h = flag_enters c waiting word (bundle c flags h).0 (bundle c flags h).1
short_enters c waiting word None h = plain_enters c waiting word h

long_enters : (c : List Rule) (waiting : Waiting) (word : Text) (long : Option (Text × Option Text)) (h : Held) → enters_help (long_or_other c waiting word long h).1 ≡ false
long_enters c waiting word (Some p) h = flag_enters c waiting word (long_met c (arg_by_long c p.0) p.1 h).0 (long_met c (arg_by_long c p.0) p.1 h).1
long_enters c waiting word None h = short_enters c waiting word (short_of word) h

-- nor does `help`, where it is no refusal

other_enters : (s : Shape) (met : Option Text) (waiting : Waiting) (position : ℕ) (word : Text) (h : Held) → s.disable_help_subcommand ≡ false → other_fault s met word h ≡ []
    → enters_help (subcommand_or_other s.rules met waiting position word h).1 ≡ false
other_enters s (Some name) waiting position word h enabled none = go (bytes_eq name (codes "help")) refl
  where
    go : (t : Bool) → bytes_eq name (codes "help") ≡ t → bytes_eq name (codes "help") ≡ false
    go true t = let bad = rw (t, enabled) at none in cc
    go false t = t
other_enters s None waiting position word h enabled none = go (bytes_eq word (45 ∷ 45 ∷ [])) refl
  where
    go : (t : Bool) → bytes_eq word (45 ∷ 45 ∷ []) ≡ t → enters_help (subcommand_or_other s.rules None waiting position word h).1 ≡ false
    go true t = rw t refl
    go false t = rw t (long_enters s.rules waiting word _ h)

word_enters : (s : Shape) (names : Names) (is_trailing : Bool) (waiting : Waiting) (position : ℕ) (word : Text) (h : Held) → s.disable_help_subcommand ≡ false
    → word_fault s names is_trailing waiting word h ≡ [] → enters_help (word_met s.rules names is_trailing waiting position word h).1 ≡ false
word_enters s names true waiting position word h enabled none = refl
word_enters s names false waiting position word h enabled none = other_enters s (subcommand_met names waiting word) waiting position word h enabled none

-- the walk goes on, or stops at the step's subcommand

positional_stops : (c : List Rule) (a : Option Rule) (word : Text) (w : Walk) (h : Held) → w.stopped ≡ None → is_help (to_positional c a word w h).stopped ≡ false
positional_stops c None word w h none = rw none refl
positional_stops c (Some a) word w h none = refl

step_stops : (c : List Rule) (word : Text) (w : Walk) (h : Held) (step : Step) → w.stopped ≡ None → enters_help step ≡ false → is_help (after_step c word w h step).stopped ≡ false
step_stops c word w h (next waiting) none enters = rw none refl
step_stops c word w h (trailing position) none enters = rw none refl
step_stops c word w h (subcommand name) none enters = enters
step_stops c word w h value none enters = positional_stops c (arg_by_index c w.position) word w h none

turn_stops : (s : Shape) (names : Names) (w : Walk) (word : Text) → s.disable_help_subcommand ≡ false → turn_fault s names w word ≡ [] → is_help w.stopped ≡ false
    → is_help (walked s.rules names w word).stopped ≡ false
unfolding walked
turn_stops s names w word enabled none before = go w.stopped refl
  where
    go : (o : Option (Text × List Text)) → w.stopped ≡ o → is_help (walked_from s.rules names o w word).stopped ≡ false
    go (Some p) e = rw e at before
    go None e =
        let passed = rw e at none in
        let met = word_met s.rules names w.is_trailing w.waiting w.position word w.held in
        step_stops s.rules word w met.0 met.1 e (word_enters s names w.is_trailing w.waiting w.position word w.held enabled (none_first _ _ passed))

walk_stops : (s : Shape) (names : Names) (w : Walk) (words : List Text) → s.disable_help_subcommand ≡ false → walk_fault s names w words ≡ [] → is_help w.stopped ≡ false
    → is_help (fold (walked s.rules names) w words).stopped ≡ false
unfolding walk_fault
walk_stops s names w [] enabled none before = before
walk_stops s names w (word ∷ rest) enabled none before =
    walk_stops s names (walked s.rules names w word) rest enabled (none_next _ _ none) (turn_stops s names w word enabled (none_first _ _ none) before)

-- a level that refuses nothing passes its walk and its last check, and so does what it entered
level_passes : (s : Shape) (names : Names) (h : Held) (words : List Text) (has : Bool) (below : Kinds) → level_fault s names h words has below ≡ []
    → (walk_fault s names (walk_from h) words ≡ []) × (below ≡ []) × (check_fault s (finished s.rules (walk s.rules names h words).held) has ≡ [])
level_passes s names h words has below none =
    let entering = none_next (walk_fault s names (walk_from h) words) _ none in
    let settling = none_next below _ entering in
    let filling = none_next (settle_fault s.rules s.args_override_self (walk s.rules names h words).held) _ settling in
    (none_first _ _ none, none_first _ _ entering, none_next _ _ filling)

-- a command is wanted
wanted : (rows : List Row) (has : Bool) → check_fault (built program).top rows has ≡ [] → has ≡ true
wanted rows true none = refl
wanted rows false none = cc

-- ---- what is entered, of a program whose commands have one name each

abbrev has_none : List Text → Bool
has_none [] = true
has_none (x ∷ xs) = false

abbrev by_word : Text → Shape → Bool
by_word word s = answers_to word (label_of s)

-- each command passes the test, and so may `help`
abbrev IsPassed : App → (Shape → Bool) → Type 0
IsPassed a test = list_all (λ s. bytes_eq s.name (codes "help") || test s) a.subs ≡ true

-- What was entered is a command, and the words behind its name pass its last check.
record Enters (a : App) (stop : Option (Text × List Text)) : Type 0 where
  shape : Shape
  given : List Text
  is : entered a stop ≡ Some (shape.name, rows_after shape.rules [] given)
  is_one : (test : Shape → Bool) → IsPassed a test → test shape ≡ true
  checked : check_fault shape (rows_after shape.rules [] given) false ≡ []

first_name : (name word : Text) (aliases : List Text) → has_none aliases ≡ true → answers_to word (name, aliases) ≡ true → name ≡ word
first_name name word [] none answers = go (bytes_eq name word) refl answers
  where
    go : (t : Bool) → bytes_eq name word ≡ t → (t || false) ≡ true → name ≡ word
    go true e some = (bytes_eq-Decides name word).0 e
    go false e some = absurd (true≢false (sym some))
first_name name word (x ∷ xs) none answers = absurd (true≢false (sym none))

entering : (a : App) (stop : Option (Text × List Text)) → list_all (λ s. has_none s.aliases) a.subs ≡ true → is_help stop ≡ false → is_some (entered a stop) ≡ true → entered_fault a stop ≡ []
    → Enters a stop
entering a None one_name other some none = absurd (true≢false (sym some))
entering a (Some p) one_name other some none = go (find (by_word p.0) a.subs) refl some none
  where
    one : (s : Shape) → find (by_word p.0) a.subs ≡ Some s → (test : Shape → Bool) → IsPassed a test → test s ≡ true
    one s e test all =
        let same : s.name ≡ p.0 = first_name s.name p.0 s.aliases (all_found (λ s. has_none s.aliases) (by_word p.0) a.subs s one_name e) (found (by_word p.0) a.subs s e) in
        or_passes (bytes_eq s.name (codes "help")) (test s) (all_found (λ s. bytes_eq s.name (codes "help") || test s) (by_word p.0) a.subs s all e)
        (subst (λ (t : Text). bytes_eq t (codes "help") ≡ false) (sym same) other)

    go : (o : Option Shape) → find (by_word p.0) a.subs ≡ o → is_some (option_map (λ s. rows_at s p.1) o) ≡ true
        → option_map_or (λ s. level_fault s [] nothing_held p.1 false []) o [] ≡ [] → Enters a (Some p)
    go None e found none = absurd (true≢false (sym found))
    go (Some s) e found none = record {
      shape = s;
      given = p.1;
      is = ap (option_map (λ s. rows_at s p.1)) e;
      is_one = one s e;
      checked = (level_passes s [] nothing_held p.1 false [] none).2;
    }

-- what was parsed as `program` was refused for nothing
pub taken : (made : App) (words : List Text) → made ≡ program → (is_simple_and_free made ≡ true → fault_of made words ≡ []) → parse_refusals words ≡ []
taken made words same parsed = subst (λ (a : App). is_simple_and_free a ≡ true → fault_of a words ≡ []) same parsed refl

-- The words name the command of this name, whose own words gave these values.
pub record IsNamed (words : List Text) (name : Text) (rows : List Row) : Type 0 where
  pub selects : Selects words name rows
  pub one : is_command name ≡ true
  pub full : HasWanted name rows

names_one : (words : List Text) → parse_refusals words ≡ [] → (name : Text) × (rows : List Row) × IsNamed words name rows
names_one words none =
    let made = built program in
    let given = argument_words program words in
    let end = walk made.top.rules (names_of made) nothing_held given in
    let passes = level_passes made.top (names_of made) nothing_held given (is_some (entered made end.stopped)) (entered_fault made end.stopped) none in
    let stops = walk_stops made.top (names_of made) (walk_from nothing_held) given refl passes.0 refl in
    let enters = entering made end.stopped refl stops (wanted (finished made.top.rules end.held) _ passes.2) passes.1 in
    let s = enters.shape in (
      s.name,
      rows_after s.rules [] enters.given,
      record {
        selects = (none, enters.is);
        one = enters.is_one (λ s. is_command s.name) refl;
        full = λ key is. wanted_first s enters.given key (all_among (wants s) (wanted_by s.name) key (enters.is_one (λ s. list_all (wants s) (wanted_by s.name)) refl) is) enters.checked;
      },
    )

-- ---- what a parse tells of them

-- m tells the subcommand that the words name
abbrev Tells : List Text → ArgMatches → Type 0
Tells words m = subcommand_rows_of m ≡ subcommand_of program words

pub tells : (made : App) (words : List Text) (m : ArgMatches) → made ≡ program → HasMatchesOf made words m → Tells words m
tells made words m same has = (subst (λ (a : App). HasMatchesOf a words m) same has refl).1

module _ {Z : Type 0} where
  name_in : (o : Option (Box SubCommand Z)) → option_map (λ b. (out-SubCommand (box_value b)).name.now) o ≡ option_map (λ p. p.0) (subcommand_rows o)
  name_in None = refl
  name_in (Some b) = refl

name_in_rows : (m : ArgMatches) → subcommand_name_of m ≡ option_map (λ p. p.0) (subcommand_rows_of m)
name_in_rows m = name_in (out-ArgMatches m).subcommand

named : (words : List Text) (m : ArgMatches) (name : Text) (rows : List Row) → Tells words m → Selects words name rows → subcommand_name_of m ≡ Some name
named words m name rows told selects = name_in_rows m ∙ ap (option_map (λ p. p.0)) (told ∙ selects.1)

same_name : (x y : Text) → Some x ≡ Some y → x ≡ y
same_name x y e = cc

same_rows : (xs ys : List Row) → Some xs ≡ Some ys → xs ≡ ys
same_rows xs ys e = cc

pub is_named : (made : App) (words : List Text) (m : ArgMatches) (name : Text) (rows : List Row) → made ≡ program → (is_simple_and_free made ≡ true → fault_of made words ≡ []) → HasMatchesOf made words m
    → Some name ≡ subcommand_name_of m → Some rows ≡ option_map (λ p. p.1) (subcommand_rows_of m) → IsNamed words name rows
is_named made words m name rows same parsed has name_is rows_are =
    let one = names_one words (taken made words same parsed) in
    let told = tells made words m same has in
    let same_command : one.0 ≡ name = same_name one.0 name (sym (named words m one.0 one.1 told one.2.selects) ∙ sym name_is) in
    let same_values : one.1 ≡ rows = same_rows one.1 rows (sym (ap (option_map (λ p. p.1)) (told ∙ one.2.selects.1)) ∙ sym rows_are) in
    subst (λ (t : Text). IsNamed words t rows) same_command (subst (λ (r : List Row). IsNamed words one.0 r) same_values one.2)

-- ---- what `read_args` answers

pub asks_for : (words : List Text) (name : Text) (rows : List Row) (answer : Result Wanted Error) → IsNamed words name rows → IsWanted name rows answer → IfOk answer (AsksFor words)
asks_for words name rows answer h is = IfOk-weaker answer _ _ (λ wanted has. (rows, subst (λ (t : Text). Selects words t rows) (sym has.0) h.selects, has.1, has.2)) is.0

pub fails_by : (words : List Text) (name : Text) (rows : List Row) (answer : Result Wanted Error) → IsNamed words name rows → IsWanted name rows answer → FailsBy (refusals words) answer
fails_by words name rows answer h is = rw (h.selects.0, h.selects.1) is.1

-- what was parsed as `program` was refused by one of its kinds
pub parse_refused : (made : App) (words : List Text) (e : Error) → made ≡ program → (is_simple_and_free made ≡ true → HasKind (fault_of made words) e) → HasKind (parse_refusals words) e
parse_refused made words e same parsed = subst (λ (a : App). is_simple_and_free a ≡ true → HasKind (fault_of a words) e) same parsed refl

-- an error of the parse is one of these, too
pub parse_fails : (words : List Text) (e : Error) → HasKind (parse_refusals words) e → HasKind (refusals words) e
parse_fails words e has = go (parse_refusals words) (value_refusals (subcommand_of program words)) has
  where
    go : (first later : Kinds) → HasKind first e → HasKind (or_else first later) e
    go [] later (inl memory) = inl memory
    go [] later (inr none) = absurd none
    go (k ∷ ks) later has = has
