-- Words behind a command that wants arguments, which are refused for nothing, have them.
use Rattle.std.proofs.Common.{◌≡◌, ◌<◌, Bool, ℕ, zero, suc, true, false, Option, Some, None, List, [], ◌∷◌, ◌++◌, length, refl, sym, ap, ◌∙◌, subst, fold, true≢false, arith, ◌⊎◌, inl, inr}
use Rattle.std.specs.Prelude.{◌&&◌, ◌||◌, ◌+◌, min, not, is_some, find, slice_get, if◌then◌else◌}
use Rattle.std.specs.List.{list_all, list_any}
use Rattle.std.specs.Str.{bytes_eq}
use Rattle.std.proofs.lemmas.List.{length-append}
use Rattle.std.proofs.lemmas.Slice.Eq.{bytes_eq-Decides}
use Rattle.clap.specs.Lexer.{long_of, short_of}
use Rattle.clap.specs.Facts.{explicit_source}
use Rattle.clap.specs.Matches.{count_text}
use Rattle.clap.specs.Walk.{Held, Outcome, Row, Rule, Step, Text, Waiting, Walk, action_of, after_flag, after_step, arg_by_id, arg_by_index, arg_by_long, arg_by_short, at_row, attached_value, bundle_met, bundle_step, count_of, counted, default_rows, done, first_of, flag_met, has_long, has_row, has_short, idle, is_pending, long_met, long_or_other, more_values, new_count, next, nothing_held, option, option_met, option_word, plain, plain_word, positional, positional_held, pushed, reacted, reading_by, refused, rows_after, settled, settled_rows, short_met, short_or_plain, started, subcommand, subcommand_met, subcommand_or_other, takes_several, takes_values, to_positional, trailing, used, used_as, used_by_id, value, values_or_missing, waits, walk_from, walked, walked_from, with_count, with_default, with_values, without, word_met}
use Rattle.clap.specs.Simple.{Shape}
use Rattle.clap.specs.Takes.{is_given}
use Rattle.clap.specs.Faults.{check_fault}
use Rattle.clap.specs.Kinds.{check_kinds}
use Rattle.clap.specs.declared.builder.action.ArgAction.{ArgAction}
use Rattle.clap.specs.declared.builder.action.ArgAction.TheVariants as actions
use Rattle.clap.specs.declared.parser.matches.ValueSource.{ValueSource}
use Rattle.clap.specs.declared.parser.matches.ValueSource.TheVariants.{CommandLine, DefaultValue}
use Rattle.clap.specs.declared.builder.value_parser.Reading.{Reading}
use Rattle.command_line.proofs.Lists.{all_found, both, found}

other_by : (i t b : Bool) → (not i && t) ≡ true → (i || not b) ≡ true → b ≡ false
other_by true t b e f = absurd (true≢false (sym e))
other_by false t true e f = absurd (true≢false (sym f))
other_by false t false e f = refl

some_given : (a : Rule) (values : List Text) → 0 < length values → 0 < length (values_or_missing a values)
some_given a [] some = absurd (omega (arith, some))
some_given a (v ∷ vs) some = some

-- Only a positional argument has the key for its id.
abbrev pub has_other_flags : Text → List Rule → Bool
has_other_flags key c = list_all (λ a. is_some a.index || not (bytes_eq a.id key)) c

module _ (key : Text) (c : List Rule) (flags : has_other_flags key c ≡ true) where
  -- ---- a row of the key has a value

  abbrev Fits : Row → Type 0
  Fits r = bytes_eq r.id key ≡ true → 0 < length r.values

  abbrev AreFull : List Row → Type 0
  AreFull [] = Unit {0}
  AreFull (r ∷ rs) = Fits r × AreFull rs

  both_full : (xs ys : List Row) → AreFull xs → AreFull ys → AreFull (xs ++ ys)
  both_full [] ys f g = g
  both_full (x ∷ xs) ys f g = (f.0, both_full xs ys f.1 g)

  full_at : (id : Text) (change : Row → List Row) (missing rows : List Row) → ((r : Row) → Fits r → AreFull (change r)) → AreFull missing → AreFull rows
      → AreFull (at_row id change missing rows)
  full_at id change missing [] f g h = g
  full_at id change missing (r ∷ rs) f g h = go (bytes_eq r.id id) (full_at id change missing rs f g h.1)
    where
      go : (b : Bool) → AreFull (at_row id change missing rs) → AreFull (if b then change r ++ rs else r ∷ at_row id change missing rs)
      go true later = both_full (change r) rs (f r h.0) h.1
      go false later = (h.0, later)

  full_without : (id : Text) (rows : List Row) → AreFull rows → AreFull (without id rows)
  full_without id rows h = full_at id (λ r. []) [] rows (λ r fits. tt) tt h

  full_with : (id : Text) (how : Reading) (s : ValueSource) (values : List Text) (rows : List Row) → (bytes_eq id key ≡ true → 0 < length values) → AreFull rows
      → AreFull (with_values id how s values rows)
  full_with id how s values rows some h =
      full_at id (more_values s values) (record { id = id; values = values; count = None; source = Some s; reading = how } ∷ []) rows (λ r fits. (more r fits, tt)) (some, tt) h
    where
      more : (r : Row) → Fits r → bytes_eq r.id key ≡ true → 0 < length (r.values ++ values)
      more r fits is = (let before = fits is in omega (arith, length-append r.values values, before))

  full_count : (id : Text) (how : Reading) (s : ValueSource) (n : ℕ) (rows : List Row) → AreFull rows → AreFull (with_count id how s n rows)
  full_count id how s n rows h =
      full_at id (new_count s n) (record { id = id; values = count_text n ∷ []; count = Some n; source = Some s; reading = how } ∷ []) rows (λ r fits. ((λ is. more r), tt))
      ((λ is. omega arith), tt) h
    where
      more : (r : Row) → 0 < length (r.values ++ count_text n ∷ [])
      more r = omega (arith, length-append r.values (count_text n ∷ []))

  full_counted : (id : Text) (how : Reading) (values : List Text) (rows : List Row) → AreFull rows → AreFull (counted id how values rows)
  full_counted id how [] rows h = full_count id how CommandLine (min (count_of id rows + 1) 255) (without id rows) (full_without id rows h)
  full_counted id how (v ∷ vs) rows h = full_with id how CommandLine (v ∷ vs) (without id rows) (λ is. omega arith) (full_without id rows h)

  full_as : (action : ArgAction) (id : Text) (how : Reading) (values : List Text) (rows : List Row) → (bytes_eq id key ≡ true → 0 < length values) → AreFull rows
      → AreFull (used_as action id how values rows)
  full_as actions.Set id how values rows some h = full_with id how CommandLine values (without id rows) some (full_without id rows h)
  full_as actions.SetTrue id how values rows some h = full_with id how CommandLine values (without id rows) some (full_without id rows h)
  full_as actions.SetFalse id how values rows some h = full_with id how CommandLine values (without id rows) some (full_without id rows h)
  full_as actions.Append id how values rows some h = full_with id how CommandLine values rows some h
  full_as actions.Count id how values rows some h = full_counted id how values rows h
  full_as _ id how values rows some h = h

  full_used : (a : Rule) (values : List Text) (rows : List Row) → (bytes_eq a.id key ≡ true → 0 < length (values_or_missing a values)) → AreFull rows → AreFull (used a values rows)
  full_used a values rows some h = full_as (action_of a) a.id (reading_by a) (values_or_missing a values) rows some h

  -- ---- what is held keeps this: where the key is pending, it has a value, too

  abbrev IsPendingFull : Option (Text × List Text) → Type 0
  IsPendingFull None = Unit {0}
  IsPendingFull (Some p) = bytes_eq p.0 key ≡ true → 0 < length p.1

  abbrev IsFull : Held → Type 0
  IsFull h = AreFull h.rows × IsPendingFull h.pending

  same_key : (x id : Text) → bytes_eq x id ≡ true → bytes_eq x key ≡ true → bytes_eq id key ≡ true
  same_key x id e f = subst (λ (t : Text). bytes_eq t key ≡ true) ((bytes_eq-Decides x id).0 e) f

  full_by_id : (id : Text) (values : List Text) (rows : List Row) → (bytes_eq id key ≡ true → 0 < length values) → AreFull rows → (o : Option Rule) → arg_by_id c id ≡ o
      → AreFull (used_by_id o values rows)
  full_by_id id values rows some h None e = h
  full_by_id id values rows some h (Some a) e =
      full_used a values rows (λ is. some_given a values (some (same_key a.id id (found (λ x. bytes_eq x.id id) c a e) is))) h

  settled_full : (h : Held) → IsFull h → AreFull (settled_rows c h.pending h.rows)
  settled_full h full = go h.pending full.1
    where
      go : (p : Option (Text × List Text)) → IsPendingFull p → AreFull (settled_rows c p h.rows)
      go None some = full.0
      go (Some p) some = full_by_id p.0 p.1 h.rows some full.0 (arg_by_id c p.0) refl

  full_settled : (h : Held) → IsFull h → IsFull (settled c h)
  full_settled h full = (settled_full h full, tt)

  full_pushed : (id word : Text) (h : Held) → IsFull h → IsFull (pushed id word h)
  full_pushed id word h full = (full.0, λ is. more (started id h.pending).1)
    where
      more : (values : List Text) → 0 < length (values ++ word ∷ [])
      more values = omega (arith, length-append values (word ∷ []))

  full_reacted : (a : Rule) (values : List Text) (h : Held) → (bytes_eq a.id key ≡ true → 0 < length (values_or_missing a values)) → IsFull h → IsFull (reacted c a values h)
  full_reacted a values h some full = (full_used a values _ some (settled_full h full), tt)

  -- ---- words that are flags

  other_found : (test : Rule → Bool) (a : Rule) → find (λ a. not (is_some a.index) && test a) c ≡ Some a → bytes_eq a.id key ≡ false
  other_found test a e =
      other_by (is_some a.index) (test a) (bytes_eq a.id key) (found (λ a. not (is_some a.index) && test a) c a e)
      (all_found (λ a. is_some a.index || not (bytes_eq a.id key)) (λ a. not (is_some a.index) && test a) c a flags e)

  full_option_met : (a : Rule) (v : Option Text) (h : Held) → bytes_eq a.id key ≡ false → IsFull h → IsFull (option_met c a v h).0
  full_option_met a (Some v) h other full = full_reacted a (v ∷ []) h (λ is. omega arith) full
  full_option_met a None h other full = (settled_full h full, λ is. absurd (true≢false (sym is ∙ other)))

  full_helped : (a : Rule) (h : Held) → bytes_eq a.id key ≡ false → IsFull h → IsFull (reacted c a [] h)
  full_helped a h other full = full_reacted a [] h (λ is. absurd (true≢false (sym is ∙ other))) full

  full_flag_met : (a : Rule) (v : Option Text) (h : Held) → bytes_eq a.id key ≡ false → IsFull h → IsFull (flag_met c a v h).0
  full_flag_met a (Some v) h other full = full
  full_flag_met a None h other full = full_helped a h other full

  full_long : (o : Option Rule) (v : Option Text) (h : Held) → ((a : Rule) → o ≡ Some a → bytes_eq a.id key ≡ false) → IsFull h → IsFull (long_met c o v h).0
  full_long None v h other full = full
  full_long (Some a) v h other full = go (takes_values a)
    where
      go : (t : Bool) → IsFull (if t then option_met c a v h else flag_met c a v h).0
      go true = full_option_met a v h (other a refl) full
      go false = full_flag_met a v h (other a refl) full

  full_short : (o : Option Rule) (rest : Text) (h : Held) (after : Held → Held × Outcome) → ((a : Rule) → o ≡ Some a → bytes_eq a.id key ≡ false) → IsFull h
      → ((g : Held) → IsFull g → IsFull (after g).0) → IsFull (short_met c o rest h after).0
  full_short None rest h after other full goes_on = full
  full_short (Some a) rest h after other full goes_on = go (takes_values a)
    where
      go : (t : Bool) → IsFull (if t then option_met c a (attached_value rest) h else after (reacted c a [] h)).0
      go true = full_option_met a (attached_value rest) h (other a refl) full
      go false = goes_on (reacted c a [] h) (full_helped a h (other a refl) full)

  full_step : (x : Option ℕ) (flags : Text) (skip : ℕ) (so_far : Outcome) (h : Held) (after : Text → ℕ → Outcome → Held → Held × Outcome) → IsFull h
      → ((f : Text) (n : ℕ) (o : Outcome) (g : Held) → IsFull g → IsFull (after f n o g).0) → IsFull (bundle_step c x flags skip so_far h after).0
  full_step None word skip so_far h after full goes_on = full
  full_step (Some x) word zero so_far h after full goes_on =
      full_short (arg_by_short c x) _ h _ (λ a e. other_found (λ a. has_short a x) a e) full (goes_on _ 0 done)
  full_step (Some x) word (suc skip) so_far h after full goes_on = goes_on _ skip so_far h full

  full_bundle : (n : ℕ) (word : Text) (skip : ℕ) (so_far : Outcome) (h : Held) → IsFull h → IsFull (bundle_met c n word skip so_far h).0
  unfolding bundle_met
  full_bundle zero word skip so_far h full = full
  full_bundle (suc n) word skip so_far h full = full_step _ word skip so_far h (bundle_met c n) full (full_bundle n)

  -- ---- all words

  full_option : (o : Option Rule) (id word : Text) (h : Held) → IsFull h → IsFull (option_word o id word h).0
  full_option None id word h full = full
  full_option (Some a) id word h full = full_pushed id word h full

  full_plain : (waiting : Waiting) (word : Text) (h : Held) → IsFull h → IsFull (plain_word c waiting word h).0
  full_plain idle word h full = full
  full_plain (option id) word h full = full_option (arg_by_id c id) id word h full
  full_plain positional word h full = full

  full_flag : (waiting : Waiting) (word : Text) (h : Held) (outcome : Outcome) → IsFull h → IsFull (after_flag c waiting word h outcome).0
  full_flag waiting word h done full = full
  full_flag waiting word h (waits id) full = full
  full_flag waiting word h plain full = full_plain waiting word h full
  full_flag waiting word h refused full = full_plain waiting word h full

  full_or_plain : (waiting : Waiting) (word : Text) (short : Option Text) (h : Held) → IsFull h → IsFull (short_or_plain c waiting word short h).0
  full_or_plain waiting word None h full = full_plain waiting word h full
  full_or_plain waiting word (Some letters) h full =
      full_flag waiting word _ _ (full_bundle (length letters) letters h.skip plain (record h { skip = 0 }) full)

  full_or_other : (waiting : Waiting) (word : Text) (long : Option (Text × Option Text)) (h : Held) → IsFull h → IsFull (long_or_other c waiting word long h).0
  full_or_other waiting word None h full = full_or_plain waiting word (short_of word) h full
  full_or_other waiting word (Some p) h full =
      full_flag waiting word _ _ (full_long (arg_by_long c p.0) p.1 h (λ a e. other_found (λ a. has_long a p.0) a e) full)

  full_other : (met : Option Text) (waiting : Waiting) (position : ℕ) (word : Text) (h : Held) → IsFull h → IsFull (subcommand_or_other c met waiting position word h).0
  full_other (Some name) waiting position word h full = full
  full_other None waiting position word h full = go (bytes_eq word (45 ∷ 45 ∷ [])) refl
    where
      go : (t : Bool) → bytes_eq word (45 ∷ 45 ∷ []) ≡ t → IsFull (subcommand_or_other c None waiting position word h).0
      go true e = rw e full
      go false e = rw e (full_or_other waiting word (long_of word) h full)

  full_word : (is_trailing : Bool) (waiting : Waiting) (position : ℕ) (word : Text) (h : Held) → IsFull h → IsFull (word_met c [] is_trailing waiting position word h).0
  full_word true waiting position word h full = full
  full_word false waiting position word h full = full_other (subcommand_met [] waiting word) waiting position word h full

  full_value : (a : Rule) (word : Text) (h : Held) → IsFull h → IsFull (positional_held c a word h)
  full_value a word h full = go (is_pending a h.pending) (takes_several a)
    where
      go : (s t : Bool) → IsFull (pushed a.id word (if s && t then h else settled c h))
      go true true = full_pushed a.id word h full
      go true false = full_pushed a.id word (settled c h) (full_settled h full)
      go false t = full_pushed a.id word (settled c h) (full_settled h full)

  full_to : (a : Option Rule) (word : Text) (w : Walk) (h : Held) → IsFull h → IsFull (to_positional c a word w h).held
  full_to None word w h full = full
  full_to (Some a) word w h full = full_value a word h full

  full_after : (word : Text) (w : Walk) (h : Held) (step : Step) → IsFull h → IsFull (after_step c word w h step).held
  full_after word w h (next waiting) full = full
  full_after word w h (trailing position) full = full
  full_after word w h (subcommand name) full = full
  full_after word w h value full = full_to (arg_by_index c w.position) word w h full

  full_walked : (w : Walk) (word : Text) → IsFull w.held → IsFull (walked c [] w word).held
  unfolding walked
  full_walked w word full = go w.stopped
    where
      go : (o : Option (Text × List Text)) → IsFull (walked_from c [] o w word).held
      go (Some p) = full
      go None = full_after word w _ _ (full_word w.is_trailing w.waiting w.position word w.held full)

  full_walk : (w : Walk) (words : List Text) → IsFull w.held → IsFull (fold (walked c []) w words).held
  full_walk w [] full = full
  full_walk w (word ∷ words) full = full_walk (walked c [] w word) words (full_walked w word full)

  full_given : (id : Text) (how : Reading) (defaults : List Text) (rows : List Row) → AreFull rows → AreFull (default_rows id how defaults rows)
  full_given id how [] rows full = full
  full_given id how (v ∷ vs) rows full = full_with id how DefaultValue (v ∷ vs) rows (λ is. omega arith) full

  full_default : (a : Rule) (rows : List Row) → AreFull rows → AreFull (with_default rows a)
  full_default a rows full = go (has_row a.id rows)
    where
      go : (b : Bool) → AreFull (if b then rows else default_rows a.id (reading_by a) a.defaults rows)
      go true = full
      go false = full_given a.id (reading_by a) a.defaults rows full

  full_defaults : (rs : List Rule) (rows : List Row) → AreFull rows → AreFull (fold with_default rows rs)
  full_defaults [] rows full = full
  full_defaults (a ∷ rs) rows full = full_defaults rs (with_default rows a) (full_default a rows full)

  full_rows : (words : List Text) → AreFull (rows_after c [] words)
  full_rows words = full_defaults c _ (settled_full (fold (walked c []) (walk_from nothing_held) words).held (full_walk (walk_from nothing_held) words (tt, tt)))

  -- ---- the value

  found_full : (rows : List Row) (r : Row) → AreFull rows → find (λ r. bytes_eq r.id key) rows ≡ Some r → 0 < length r.values
  found_full [] r full is = absurd (cc)
  found_full (x ∷ rows) r full is = go (bytes_eq x.id key) refl (found_full rows r full.1)
    where
      go : (t : Bool) → bytes_eq x.id key ≡ t → (find (λ r. bytes_eq r.id key) rows ≡ Some r → 0 < length r.values) → 0 < length r.values
      go true e later = (let same : Some x ≡ Some r = rw e at is in let one : x ≡ r = cc in rw (← one) (full.0 e))
      go false e later = later (rw e at is)

  first_there : (values : List Text) → 0 < length values → (v : Text) × (slice_get values 0 ≡ Some v)
  first_there [] some = absurd (omega (arith, some))
  first_there (v ∷ vs) some = (v, refl)

  given_first : (rows : List Row) → AreFull rows → is_given key rows ≡ true → (v : Text) × (first_of key rows ≡ Some v)
  given_first rows full given = go (find (λ r. bytes_eq r.id key) rows) refl
    where
      go : (o : Option Row) → find (λ r. bytes_eq r.id key) rows ≡ o → (v : Text) × (first_of key rows ≡ Some v)
      go None e = (let bad = rw e at given in absurd (true≢false (sym bad)))
      go (Some r) e = (let v = first_there r.values (found_full rows r full e) in (v.0, rw e v.1))

  pub first_given : (words : List Text) → is_given key (rows_after c [] words) ≡ true → (v : Text) × (first_of key (rows_after c [] words) ≡ Some v)
  first_given words given = given_first (rows_after c [] words) (full_rows words) given

-- ---- the value of an argument that the command wants

-- the command wants the argument of this key, which is no flag
abbrev pub wants : Shape → Text → Bool
wants s key = list_any (λ a. a.required && bytes_eq a.id key) s.rules && has_other_flags key s.rules

abbrev is_missing : List Row → Rule → Bool
is_missing rows a = a.required && not (is_given a.id rows)

last_check : (n h c missing : Bool) → check_kinds h c (not (n && false) && missing) ≡ [] → missing ≡ false
last_check n h c false e = refl
last_check true true c true e = absurd (cc)
last_check false true c true e = absurd (cc)
last_check true false true true e = absurd (cc)
last_check false false true true e = absurd (cc)
last_check true false false true e = absurd (cc)
last_check false false false true e = absurd (cc)

none_missing : (s : Shape) (rows : List Row) → check_fault s rows false ≡ [] → list_any (is_missing rows) s.rules ≡ false
none_missing s rows none =
    last_check s.subcommand_negates_reqs (s.arg_required_else_help && not (list_any (λ r. explicit_source r.source) rows)) s.subcommand_required (list_any (is_missing rows) s.rules) none

missing_step : (r g rest : Bool) → ((r && not g) || rest) ≡ false → (rest ≡ false) × (r ≡ true → g ≡ true)
missing_step true true rest e = (e, λ r. refl)
missing_step true false rest e = absurd (true≢false e)
missing_step false g rest e = (e, λ r. absurd (true≢false (sym r)))

some_step : (r i rest : Bool) → ((r && i) || rest) ≡ true → ((r ≡ true) × (i ≡ true)) ⊎ (rest ≡ true)
some_step true true rest e = inl (refl, refl)
some_step true false rest e = inr e
some_step false i rest e = inr e

wanted_given : (rows : List Row) (rules : List Rule) (key : Text) → list_any (is_missing rows) rules ≡ false → list_any (λ a. a.required && bytes_eq a.id key) rules ≡ true → is_given key rows ≡ true
wanted_given rows [] key none some = absurd (true≢false (sym some))
wanted_given rows (a ∷ rules) key none some =
    let here = missing_step a.required (is_given a.id rows) (list_any (is_missing rows) rules) none in
    elim (some_step a.required (bytes_eq a.id key) (list_any (λ a. a.required && bytes_eq a.id key) rules) some) [
      | inl is ↦ subst (λ (t : Text). is_given t rows ≡ true) ((bytes_eq-Decides a.id key).0 is.1) (here.1 is.0)
      | inr later ↦ wanted_given rows rules key here.0 later
    ]

pub wanted_first : (s : Shape) (words : List Text) (key : Text) → wants s key ≡ true → check_fault s (rows_after s.rules [] words) false ≡ [] → is_some (first_of key (rows_after s.rules [] words)) ≡ true
wanted_first s words key wanted none =
    let parts = both (list_any (λ a. a.required && bytes_eq a.id key) s.rules) (has_other_flags key s.rules) wanted in
    let rows = rows_after s.rules [] words in
    ap is_some (first_given key s.rules parts.1 words (wanted_given rows s.rules key (none_missing s rows none) parts.0)).1
