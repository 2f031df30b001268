-- What a walk over the words tells of a line.
use Rattle.std.proofs.Common.{◌≡◌, ◌≢◌, inl, inr, ℕ, ◌+◌, ◌≤◌, get_or, List, [], ◌∷◌, ◌++◌, length, length-append, Option, Some, None, refl, sym, subst, ◌∙◌, append_assoc, arith}
use Rattle.std.proofs.lemmas.List.{append-nil}
use Rattle.std.specs.Prelude.{codes, IfOk, Result, Ok, Err}
use Rattle.report_line.specs.declared.call.Call.TheVariants as calls
use Rattle.line_explain.specs.declared.wanted.Wanted.{Wanted}
use Rattle.line_explain.specs.declared.wanted.Wanted.TheVariants as wanted
use Rattle.line_explain.specs.declared.fault.Why.{Why}
use Rattle.line_explain.specs.declared.fault.Why.TheVariants as why
use Rattle.line_explain.specs.declared.fault.WrongWord.{WrongWord}
use Rattle.line_explain.specs.declared.kind.Shape.{Shape}
use Rattle.line_explain.specs.Begun.{AreOfCall, IsBegun, MayFollow}
use Rattle.line_explain.specs.Wanting.{Fits, Wants}
use Rattle.line_explain.specs.Reasons.{IsMarked, Says, IsFirstWrong, IsMissing, IsWrongAt}
use Rattle.line_explain.specs.working.Shapes.{wanted_in, IsKindOf, FitAll, told, IsStampCause, IsIdCause, IsCause, IsNoKind, TellsFit, Stops, TellsOf, IsFirstWrongWord}
use Rattle.line_explain.proofs.FitLists.{FitAll-append}
use Rattle.line_explain.proofs.ShapedCalls.{of_shape, no_call_begins, begun, wants, none_follows, too_few}

-- ---- reasons that are told

some_byte : (b : ℕ) (bs : List ℕ) → b ∷ bs ≢ []
some_byte b bs e = absurd cc

-- a reason that is not that of a missing word
abbrev IsOfWord : Why → Type 0
IsOfWord (why.Missing kind) = ⊥
IsOfWord _ = Unit {0}

first_wrong : (words : List (List ℕ)) (number : ℕ) (reason : Why) → IsOfWord reason → IsFirstWrong words number reason → IsWrongAt words number reason
first_wrong words number (why.Missing kind) of_word is = absurd of_word
first_wrong words number why.Empty of_word is = is
first_wrong words number why.Kind of_word is = is
first_wrong words number why.Mark of_word is = is
first_wrong words number why.Extra of_word is = is
first_wrong words number why.Name of_word is = is
first_wrong words number why.Number of_word is = is
first_wrong words number why.Names of_word is = is
first_wrong words number (why.Stamp fault) of_word is = is
first_wrong words number why.TooLarge of_word is = is
first_wrong words number (why.Id fault) of_word is = is

-- the word at its place, and what is said of it
record IsSaid (front : List (List ℕ)) (word : List ℕ) (reason : Why) : Type 0 where
  of_word : IsOfWord reason
  says : Says reason front word

stamp_says : (front : List (List ℕ)) (b : ℕ) (bs : List ℕ) (cause : Why) → Wants front wanted.Stamp → IsStampCause (b ∷ bs) cause → IsSaid front (b ∷ bs) cause
stamp_says front b bs (why.Stamp fault) wants is = record { of_word = tt; says = (some_byte b bs, wants, is) }
stamp_says front b bs why.TooLarge wants is = record { of_word = tt; says = (some_byte b bs, wants, is) }
stamp_says front b bs (why.Missing kind) wants is = absurd is
stamp_says front b bs why.Empty wants is = absurd is
stamp_says front b bs why.Kind wants is = absurd is
stamp_says front b bs why.Mark wants is = absurd is
stamp_says front b bs why.Extra wants is = absurd is
stamp_says front b bs why.Name wants is = absurd is
stamp_says front b bs why.Number wants is = absurd is
stamp_says front b bs why.Names wants is = absurd is
stamp_says front b bs (why.Id fault) wants is = absurd is

id_says : (front : List (List ℕ)) (b : ℕ) (bs : List ℕ) (cause : Why) → Wants front wanted.Id → IsIdCause (b ∷ bs) cause → IsSaid front (b ∷ bs) cause
id_says front b bs (why.Id fault) wants is = record { of_word = tt; says = (some_byte b bs, wants, is) }
id_says front b bs (why.Stamp fault) wants is = absurd is
id_says front b bs why.TooLarge wants is = absurd is
id_says front b bs (why.Missing kind) wants is = absurd is
id_says front b bs why.Empty wants is = absurd is
id_says front b bs why.Kind wants is = absurd is
id_says front b bs why.Mark wants is = absurd is
id_says front b bs why.Extra wants is = absurd is
id_says front b bs why.Name wants is = absurd is
id_says front b bs why.Number wants is = absurd is
id_says front b bs why.Names wants is = absurd is

as_reason : (front : List (List ℕ)) (word : List ℕ) (cause reason : Why) → reason ≡ cause → IsSaid front word cause → IsSaid front word reason
as_reason front word cause reason is said = subst (IsSaid front word) (sym is) said

cause_says : (front : List (List ℕ)) (kind : Wanted) (word : List ℕ) (cause : Why) → Wants front kind → IsCause kind word cause → IsSaid front word (told word cause)
cause_says front kind [] cause wants is = record { of_word = tt; says = refl }
cause_says front wanted.Name (b ∷ bs) cause wants is = as_reason front (b ∷ bs) why.Name cause is (record { of_word = tt; says = (some_byte b bs, wants) })
cause_says front wanted.Number (b ∷ bs) cause wants is = as_reason front (b ∷ bs) why.Number cause is (record { of_word = tt; says = (some_byte b bs, wants) })
cause_says front wanted.Names (b ∷ bs) cause wants is = as_reason front (b ∷ bs) why.Names cause is (record { of_word = tt; says = (some_byte b bs, wants) })
cause_says front wanted.Stamp (b ∷ bs) cause wants is = stamp_says front b bs cause wants is
cause_says front wanted.Id (b ∷ bs) cause wants is = id_says front b bs cause wants is

extra_says : (front : List (List ℕ)) (word : List ℕ) → AreOfCall front → IsSaid front word (told word why.Extra)
extra_says front [] of_call = record { of_word = tt; says = refl }
extra_says front (b ∷ bs) of_call = record { of_word = tt; says = (some_byte b bs, of_call) }

mark_says : (word : List ℕ) → IsMarked word → IsSaid [] word (told word why.Mark)
mark_says [] is = record { of_word = tt; says = refl }
mark_says (b ∷ bs) is = record { of_word = tt; says = (some_byte b bs, refl, is) }

kind_says : (word : List ℕ) → ¬ IsMarked word → IsSaid [] word (told word why.Kind)
kind_says [] none = record { of_word = tt; says = refl }
kind_says (b ∷ bs) none = record { of_word = tt; says = (some_byte b bs, refl, none) }

no_kind_says : (word : List ℕ) (reason : Why) → IsNoKind word reason → IsSaid [] word reason
no_kind_says word reason (inl is) = as_reason [] word (told word why.Mark) reason is.1 (mark_says word is.0)
no_kind_says word reason (inr is) = as_reason [] word (told word why.Kind) reason is.1 (kind_says word is.0)

-- ---- the first word

some_call : IsBegun []
some_call = (codes "GARBAGE" ∷ [], (calls.Garbage, (tt, refl)))

pub wrong_first : (kind : List ℕ) (behind : List (List ℕ)) (reason : Why) → ((s : Shape) → ¬ IsKindOf s kind) → IsNoKind kind reason → IsWrongAt (kind ∷ behind) 1 reason
wrong_first kind behind reason none is =
    let said = no_kind_says kind reason is in
    first_wrong (kind ∷ behind) 1 reason said.of_word (record {
      front = [];
      word = kind;
      behind = behind;
      parts = refl;
      number_is = omega arith;
      begun = some_call;
      wrong = λ may. no_call_begins kind may.0 none may.1;
      says = said.says;
    })

-- ---- the words behind it

tail_again : (kind : List ℕ) (fields words : List (List ℕ)) (word : List ℕ) (number : ℕ) (reason : Why) → IsWrongAt (kind ∷ ((fields ++ word ∷ []) ++ words)) number reason → IsWrongAt (kind ∷ (fields ++ word ∷ words)) number reason
tail_again kind fields words word number reason is = subst (λ (ws : List (List ℕ)). IsWrongAt (kind ∷ ws) number reason) (append_assoc fields (word ∷ []) words) is

missing_there : (kind : List ℕ) (fields : List (List ℕ)) (number : ℕ) (wanted : Wanted) (reason : Why) → reason ≡ why.Missing wanted → IsMissing (kind ∷ fields) number wanted → IsWrongAt (kind ∷ (fields ++ [])) number reason
missing_there kind fields number wanted reason is missing =
    subst (λ (ws : List (List ℕ)). IsWrongAt (kind ∷ ws) number reason) (sym (append-nil fields)) (subst (IsWrongAt (kind ∷ fields) number) (sym is) missing)

-- a word of a call's fields that may not follow
wrong_there : (s : Shape) (kind : List ℕ) (kinds more : List Wanted) (fields words : List (List ℕ)) (word : List ℕ) (first number : ℕ) (reason : Why) → IsKindOf s kind → wanted_in s ≡ kinds ++ more → FitAll kinds fields → first ≡ length fields + 2
    → number ≡ first → ¬ MayFollow (kind ∷ fields) word → IsSaid (kind ∷ fields) word reason → IsWrongAt (kind ∷ (fields ++ word ∷ words)) number reason
wrong_there s kind kinds more fields words word first number reason is parts fit place at may_not said =
    first_wrong (kind ∷ (fields ++ word ∷ words)) number reason said.of_word (record {
      front = kind ∷ fields;
      word = word;
      behind = words;
      parts = refl;
      number_is = omega arith;
      begun = begun s kind kinds more fields is parts fit;
      wrong = may_not;
      says = said.says;
    })

stops : (s : Shape) (kind : List ℕ) (kinds more : List Wanted) (fields words : List (List ℕ)) (first number : ℕ) (reason : Why) → IsKindOf s kind → wanted_in s ≡ kinds ++ more → FitAll kinds fields → first ≡ length fields + 2
    → Stops more words first number reason → IsWrongAt (kind ∷ (fields ++ words)) number reason
stops s kind kinds [] fields [] first number reason is parts fit place stop = absurd stop
stops s kind kinds [] fields (word ∷ words) first number reason is parts fit place stop =
    let whole : FitAll (wanted_in s) fields = subst (λ (ks : List Wanted). FitAll ks fields) (sym (parts ∙ append-nil kinds)) fit in
    wrong_there s kind kinds [] fields words word first number reason is parts fit place stop.0 (none_follows s kind fields word is whole)
    (as_reason (kind ∷ fields) word (told word why.Extra) reason stop.1 (extra_says (kind ∷ fields) word (of_shape s kind fields is whole)))
stops s kind kinds (wanted ∷ more) fields [] first number reason is parts fit place stop =
    missing_there kind fields number wanted reason stop.1 (record {
      number_is = omega (arith, stop.0);
      begun = begun s kind kinds (wanted ∷ more) fields is parts fit;
      no_call = too_few s kind kinds more wanted fields is parts fit;
      wants = wants s kind kinds more wanted fields is parts fit;
    })
stops s kind kinds (wanted ∷ more) fields (word ∷ words) first number reason is parts fit place (inl on) =
    tail_again kind fields words word number reason (stops s kind (kinds ++ wanted ∷ []) more (fields ++ word ∷ []) words (first + 1) number reason is (parts ∙ sym (append_assoc kinds (wanted ∷ []) more))
    (FitAll-append kinds (wanted ∷ []) fields (word ∷ []) fit (on.0, tt)) (omega (arith, length-append fields (word ∷ []))) on.1)
stops s kind kinds (wanted ∷ more) fields (word ∷ words) first number reason is parts fit place (inr here) =
    let wanted_there = wants s kind kinds more wanted fields is parts fit in
    wrong_there s kind kinds (wanted ∷ more) fields words word first number reason is parts fit place here.0 (λ may. here.1 ((wanted_there word).0 may))
    (as_reason (kind ∷ fields) word (told word here.2.0) reason here.2.2 (cause_says (kind ∷ fields) wanted word here.2.0 wanted_there here.2.1))

told_behind : (s : Shape) (kind : List ℕ) (words : List (List ℕ)) (found : Option WrongWord) → IsKindOf s kind → TellsOf (wanted_in s) words 2 found → IsFirstWrongWord (kind ∷ words) found
told_behind s kind words None is tells = of_shape s kind words is tells
told_behind s kind words (Some found) is tells = stops s kind [] (wanted_in s) [] words 2 found.number found.why is refl tt (omega arith) tells

pub all_told : {E : Type 0} (r : Result (Option WrongWord) E) (s : Shape) (old : List (List ℕ)) (kind : List ℕ) (words : List (List ℕ)) → IsKindOf s kind → old ≡ kind ∷ words → IfOk r (TellsOf (wanted_in s) words 2) → IfOk r (IsFirstWrongWord old)
all_told (Ok found) s old kind words is parts tells = subst (λ (ws : List (List ℕ)). IsFirstWrongWord ws found) (sym parts) (told_behind s kind words found is tells)
all_told (Err fault) s old kind words is parts tells = tt

-- ---- one word more

pub step_more : {E : Type 0} (r : Result (Option WrongWord) E) (wanted : Wanted) (more : List Wanted) (word : List ℕ) (words old : List (List ℕ)) (kinds : List Wanted) (first : ℕ) → kinds ≡ wanted ∷ more → old ≡ word ∷ words → Fits wanted word
    → IfOk r (TellsOf more words (first + 1)) → IfOk r (TellsOf kinds old first)
step_more (Ok None) wanted more word words old kinds first kinds_are old_is fits tells = rw (kinds_are, old_is) (fits, tells)
step_more (Ok (Some found)) wanted more word words old kinds first kinds_are old_is fits tells = rw (kinds_are, old_is) (inl (fits, tells))
step_more (Err fault) wanted more word words old kinds first kinds_are old_is fits tells = tt

pub wrong_now : (kinds : List Wanted) (d : Wanted) (old words : List (List ℕ)) (word : List ℕ) (first : ℕ) (cause reason : Why) → 1 ≤ length kinds → old ≡ word ∷ words → TellsFit (get_or kinds 0 d) word (Some cause)
    → reason ≡ told word cause → Stops kinds old first first reason
wrong_now [] d old words word first cause reason some old_is fit is = absurd (omega (arith, some))
wrong_now (kind ∷ kinds) d old words word first cause reason some old_is fit is = rw old_is (inr (refl, fit.0, (cause, fit.1, is)))
