-- The numbers of the command `serve`.
use Rattle.std.proofs.Common.{◌≡◌, Bool, ℕ, true, false, Option, Some, None, List, [], ◌∷◌, refl, sym, subst, codes, true≢false}
use Rattle.std.specs.Prelude.{◌&&◌, IfNone, if◌then◌else◌}
use Rattle.std.specs.Borrow.{Bor}
use Rattle.clap.specs.Kinds.{HasKind, Kinds}
use Rattle.clap.specs.Walk.{Row, Text, first_of}
use Rattle.clap.specs.Values.{IsUnsignedIn}
use Rattle.clap.specs.ValueTests.{is_unsigned_in}
use Rattle.clap.specs.declared.error.Error.{Error}
use Rattle.clap.specs.declared.error.kind.ErrorKind.TheVariants as kinds
use Rattle.clap.specs.declared.builder.value_parser.ValueParser.TheVariants as vp
use Rattle.clap.proofs.ValueTestLemmas.{accepts-Accepts, Accepts-accepts}
use Rattle.command_line.specs.declared.args.Command.TheVariants as commands
use Rattle.command_line.specs.Arguments.{HasValues, IsNumber, MayBeNumber, has_number, may_have_number, value_refusals}

-- a text that is no number within the limits, by the test
no_number : (least most : ℕ) (text : Text) → (IsUnsignedIn least most text → ⊥) → is_unsigned_in least most text ≡ false
no_number least most text none = go (is_unsigned_in least most text) refl
  where
    go : (b : Bool) → is_unsigned_in least most text ≡ b → is_unsigned_in least most text ≡ false
    go true e = absurd (none (accepts-Accepts false (vp.Unsigned least most) text e))
    go false e = e

pub none_in : (least most : ℕ) (text : Text) (value : Option Text) (o : Option ℕ) → Some text ≡ value → IfNone o (IsUnsignedIn least most text → ⊥) → IfNone o (has_number least most value ≡ false)
none_in least most text value None is none = subst (λ (v : Option Text). has_number least most v ≡ false) is (no_number least most text none)
none_in least most text value (Some n) is none = none

pub none_in_optional : {T : Type 0} (least most : ℕ) (text : Text) (value : Option Text) (o : Option T) → Some text ≡ value → (IsUnsignedIn least most text → ⊥)
    → IfNone o (may_have_number least most value ≡ false)
none_in_optional least most text value None is none = subst (λ (v : Option Text). may_have_number least most v ≡ false) is (no_number least most text none)
none_in_optional least most text value (Some x) is none = tt

-- a number within the limits, by the test
number_there : (least most n : ℕ) (value : Option Text) → IsNumber least most n value → has_number least most value ≡ true
number_there least most n (Some text) is = Accepts-accepts false (vp.Unsigned least most) text is.0
number_there least most n None is = absurd is

pub may_there : (least most : ℕ) (o : Option ℕ) (value : Option Text) → MayBeNumber least most o value → may_have_number least most value ≡ true
may_there least most (Some n) (Some text) is = Accepts-accepts false (vp.Unsigned least most) text is.0
may_there least most (Some n) None is = refl
may_there least most None value is = subst (λ (v : Option Text). may_have_number least most v ≡ true) (sym is) refl

-- ---- the four tests

abbrev kinds_by : Bool → Bool → Bool → Bool → Kinds
kinds_by p s w i = if p && (s && (w && i)) then [] else kinds.ValueValidation ∷ []

abbrev IsValueFault : Error → Type 0
IsValueFault e = HasKind (kinds.ValueValidation ∷ []) e

by_port : (p s w i : Bool) (e : Error) → p ≡ false → IsValueFault e → HasKind (kinds_by p s w i) e
by_port true s w i e is has = absurd (true≢false is)
by_port false s w i e is has = has

by_sessions : (p s w i : Bool) (e : Error) → s ≡ false → IsValueFault e → HasKind (kinds_by p s w i) e
by_sessions p true w i e is has = absurd (true≢false is)
by_sessions true false w i e is has = has
by_sessions false false w i e is has = has

by_workers : (p s w i : Bool) (e : Error) → w ≡ false → IsValueFault e → HasKind (kinds_by p s w i) e
by_workers p s true i e is has = absurd (true≢false is)
by_workers true true false i e is has = has
by_workers true false false i e is has = has
by_workers false s false i e is has = has

by_idle : (p s w i : Bool) (e : Error) → i ≡ false → IsValueFault e → HasKind (kinds_by p s w i) e
by_idle p s w true e is has = absurd (true≢false is)
by_idle true true true false e is has = has
by_idle true true false false e is has = has
by_idle true false w false e is has = has
by_idle false s w false e is has = has

by_none : (p s w i : Bool) → p ≡ true → s ≡ true → w ≡ true → i ≡ true → kinds_by p s w i ≡ []
by_none p s w i e f g h = rw (e, f, g, h) refl

-- ---- over the values that were read

module _ (rows : List Row) where
  abbrev has_port : Bool
  has_port = has_number 0 65535 (first_of (codes "port") rows)

  abbrev may_have_sessions : Bool
  may_have_sessions = may_have_number 1 4096 (first_of (codes "sessions") rows)

  abbrev has_workers : Bool
  has_workers = has_number 1 64 (first_of (codes "workers") rows)

  abbrev may_have_idle : Bool
  may_have_idle = may_have_number 1 4294967295 (first_of (codes "idle") rows)

  abbrev Fails : Error → Type 0
  Fails e = HasKind (value_refusals (Some (codes "serve", rows))) e

  pub no_port : (e : Error) → has_port ≡ false → IsValueFault e → Fails e
  no_port e none has = by_port has_port may_have_sessions has_workers may_have_idle e none has

  pub no_sessions : (e : Error) → may_have_sessions ≡ false → IsValueFault e → Fails e
  no_sessions e none has = by_sessions has_port may_have_sessions has_workers may_have_idle e none has

  pub no_workers : (e : Error) → has_workers ≡ false → IsValueFault e → Fails e
  no_workers e none has = by_workers has_port may_have_sessions has_workers may_have_idle e none has

  pub no_idle : (e : Error) → may_have_idle ≡ false → IsValueFault e → Fails e
  no_idle e none has = by_idle has_port may_have_sessions has_workers may_have_idle e none has

  pub all_numbers : (file : Bor Text) (port : ℕ) (sessions : Option ℕ) (workers : ℕ) (idle : Option ℕ) (until_input_ends : Bool) → HasValues rows (commands.Serve file port sessions workers idle until_input_ends)
      → value_refusals (Some (codes "serve", rows)) ≡ []
  all_numbers file port sessions workers idle until_input_ends has =
      by_none has_port may_have_sessions has_workers may_have_idle (number_there 0 65535 port _ has.1) (may_there 1 4096 sessions _ has.2) (number_there 1 64 workers _ has.3)
      (may_there 1 4294967295 idle _ has.4)
