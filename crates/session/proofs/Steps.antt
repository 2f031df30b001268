-- One read.
use Rattle.std.proofs.Common.{◌≡◌, ℕ, ◌+◌, ◌≤◌, ◌<◌, List, [], ◌∷◌, ◌++◌, length, take, Option, Some, None, Ok, Err, refl, sym, ap, subst, ◌∙◌, arith, inl, inr, true, false}
use Rattle.std.specs.Prelude.{Bool, ◌==◌, nat_lt, if◌then◌else◌}
use Rattle.std.specs.Io.KnownBytes.{Appends, Consumes, Keeps}
use Rattle.report_line.specs.Cutting.{Stand, onto, cut_from}
use Rattle.session.specs.Exchanges.{Exchange}
use Rattle.session.specs.declared.kind.SessionEndKind.{SessionEndKind}
use Rattle.session.specs.declared.kind.SessionEndKind.TheVariants as kinds
use Rattle.client_link.specs.Links.{LinkState, IsRead}
use Rattle.session.specs.SessionText.{ServedOver}
use Rattle.session.specs.Ends.{EachHasGone}
use Rattle.session.specs.declared.flush_policy.FlushPolicy.{FlushPolicy}
use Rattle.session.specs.working.Parts.{AreLawful, HowFar, FaultsAt, Serves, ServesLines, Follows, StepsTo, IsQuiet, GaveBy, Steps, StepsOn}
use Rattle.client_link.proofs.Sent.{appends_none}
use Rattle.session.proofs.ServeSteps.{faults_then, some_none}
use Rattle.session.proofs.Gone.{nothing_gone, gone_then}

pub consumes_keeps_none : (a b : Option (List ℕ)) → Keeps a b → Consumes a b []
consumes_keeps_none None b k = tt
consumes_keeps_none (Some xs) None k = k
consumes_keeps_none (Some xs) (Some ys) k = sym k

-- nothing of a stream that stands open
nothing_cut : (rest : List ℕ) → cut_from (Some rest) [] ≡ ([], Some rest)
unfolding cut_from
nothing_cut rest = refl

abbrev same_held : (a b : Option (List ℕ)) → b ≡ a → Appends a b []
same_held a b same = subst (λ (x : Option (List ℕ)). Appends a x []) (sym same) (appends_none a)

-- a read that failed
abbrev read_failed : {S E : Type 0} (makes : S → List Exchange → S → Type 0) (grounds : S → ServedOver) (laws : AreLawful makes grounds) (old new : LinkState) (stand : Stand) (state : S) (e : E) (buf : List ℕ) → ¬ (stand ≡ None) → IsRead old new (Err e) buf → Steps makes grounds old new stand stand state state (Some kinds.ReadFailed) 0
read_failed makes grounds laws old new None state e buf some read = absurd (some refl)
read_failed makes grounds laws old new (Some rest) state e buf some read =
    record {
      piece = [];
      front = [];
      later = [];
      turned = [];
      text = [];
      lines_are = ap (λ (cut : List (List ℕ) × Stand). cut.0) (nothing_cut rest);
      mean = tt;
      turns = laws.none state;
      how = subst (λ (cut : List (List ℕ) × Stand). StepsTo (Some kinds.ReadFailed) (grounds state) cut.1 [] [] [] [] 0) (sym (nothing_cut rest)) (tt, refl, refl, (refl, refl));
      stands = λ none. absurd (some_none none);
      consumed = consumes_keeps_none old.left new.left read.bytes;
      written = same_held old.held new.held read.held;
      faults = (read.failures, read.stalls, read.ended);
      quiet = read.waiting;
      gave = refl;
      reads = read.counted;
    }

-- a read at the end
abbrev read_end : {S E : Type 0} (makes : S → List Exchange → S → Type 0) (grounds : S → ServedOver) (laws : AreLawful makes grounds) (old new : LinkState) (stand : Stand) (state : S) (n : ℕ) (buf : List ℕ) → ¬ (stand ≡ None) → n ≡ 0 → 0 < length buf → IsRead {E = E} old new (Ok n) buf
    → Steps makes grounds old new stand stand state state (Some kinds.End) 0
read_end makes grounds laws old new None state n buf some none room read = absurd (some refl)
read_end makes grounds laws old new (Some rest) state n buf some none room read =
    record {
      piece = [];
      front = [];
      later = [];
      turned = [];
      text = [];
      lines_are = ap (λ (cut : List (List ℕ) × Stand). cut.0) (nothing_cut rest);
      mean = tt;
      turns = laws.none state;
      how = subst (λ (cut : List (List ℕ) × Stand). StepsTo (Some kinds.End) (grounds state) cut.1 [] [] [] [] 0) (sym (nothing_cut rest)) (tt, refl, refl, (refl, refl));
      stands = λ never. absurd (some_none never);
      consumed = rw none at read.bytes.0;
      written = same_held old.held new.held read.held;
      faults = record { failures = read.failures; stalls = read.stalls; ended = read.ended };
      quiet = (read.waiting, read.bytes.1 none room);
      gave = refl;
      reads = read.counted;
    }

-- no memory for the lines of a piece
abbrev read_refused : {S E : Type 0} (makes : S → List Exchange → S → Type 0) (grounds : S → ServedOver) (laws : AreLawful makes grounds) (old new : LinkState) (stand stand_after : Stand) (state : S) (n : ℕ) (buf : List ℕ) → 0 < length (take n buf) → IsRead {E = E} old new (Ok n) buf
    → Steps makes grounds old new stand stand_after state state (Some kinds.Memory) 0
read_refused makes grounds laws old new stand stand_after state n buf some read =
    record {
      piece = take n buf;
      front = [];
      later = (cut_from stand (take n buf)).0;
      turned = [];
      text = [];
      lines_are = refl;
      mean = tt;
      turns = laws.none state;
      how = (tt, inl refl, (refl, refl));
      stands = λ none. absurd (some_none none);
      consumed = read.bytes.0;
      written = same_held old.held new.held read.held;
      faults = record { failures = read.failures; stalls = read.stalls; ended = read.ended };
      quiet = tt;
      gave = some;
      reads = read.counted;
    }

steps_by : (from end : Option SessionEndKind) (grounds : ServedOver) (stand : Stand) (front later : List (List ℕ)) (turned : List Exchange) (text : List ℕ) (count : ℕ) → Follows from stand end → HowFar from grounds later turned text count → StepsTo end grounds stand front later turned text count
steps_by None end grounds stand front later turned text count (inl f) far = rw f.1 (far.0, far.1, f.0, far.2)
steps_by None end grounds stand front later turned text count (inr f) far = rw f.1 (far.0, far.1, f.0, far.2)
steps_by (Some kinds.Bye) end grounds stand front later turned text count f far = rw f far
steps_by (Some kinds.Worn) end grounds stand front later turned text count f far = rw f far
steps_by (Some kinds.Foreign) end grounds stand front later turned text count f far = rw f far
steps_by (Some kinds.Memory) end grounds stand front later turned text count f far = rw f (far.0, inr far.1, far.2)
steps_by (Some kinds.WriteFailed) end grounds stand front later turned text count f far = rw f far
steps_by (Some kinds.End) end grounds stand front later turned text count f far = absurd far
steps_by (Some kinds.TooLong) end grounds stand front later turned text count f far = absurd far
steps_by (Some kinds.ReadFailed) end grounds stand front later turned text count f far = absurd far
steps_by (Some kinds.Endless) end grounds stand front later turned text count f far = absurd far

quiet_by : (from end : Option SessionEndKind) (grounds : ServedOver) (old new : LinkState) (stand : Stand) (later : List (List ℕ)) (turned : List Exchange) (text : List ℕ) (count : ℕ) → Follows from stand end → HowFar from grounds later turned text count → IsQuiet end old new
quiet_by None end grounds old new stand later turned text count (inl f) far = rw f.1 tt
quiet_by None end grounds old new stand later turned text count (inr f) far = rw f.1 tt
quiet_by (Some kinds.Bye) end grounds old new stand later turned text count f far = rw f tt
quiet_by (Some kinds.Worn) end grounds old new stand later turned text count f far = rw f tt
quiet_by (Some kinds.Foreign) end grounds old new stand later turned text count f far = rw f tt
quiet_by (Some kinds.Memory) end grounds old new stand later turned text count f far = rw f tt
quiet_by (Some kinds.WriteFailed) end grounds old new stand later turned text count f far = rw f tt
quiet_by (Some kinds.End) end grounds old new stand later turned text count f far = absurd far
quiet_by (Some kinds.TooLong) end grounds old new stand later turned text count f far = absurd far
quiet_by (Some kinds.ReadFailed) end grounds old new stand later turned text count f far = absurd far
quiet_by (Some kinds.Endless) end grounds old new stand later turned text count f far = absurd far

faults_by : (from end : Option SessionEndKind) (old new : LinkState) (stand : Stand) → Follows from stand end → FaultsAt from old new → FaultsAt end old new
faults_by None end old new stand (inl f) faults = rw f.1 faults
faults_by None end old new stand (inr f) faults = rw f.1 faults
faults_by (Some kind) end old new stand f faults = rw f faults

gave_by : (from end : Option SessionEndKind) (grounds : ServedOver) (stand : Stand) (later : List (List ℕ)) (turned : List Exchange) (text : List ℕ) (count : ℕ) (piece : List ℕ) → Follows from stand end → HowFar from grounds later turned text count → 0 < length piece → GaveBy end piece
gave_by None end grounds stand later turned text count piece (inl f) far some = rw f.1 some
gave_by None end grounds stand later turned text count piece (inr f) far some = rw f.1 some
gave_by (Some kinds.Bye) end grounds stand later turned text count piece f far some = rw f some
gave_by (Some kinds.Worn) end grounds stand later turned text count piece f far some = rw f some
gave_by (Some kinds.Foreign) end grounds stand later turned text count piece f far some = rw f some
gave_by (Some kinds.Memory) end grounds stand later turned text count piece f far some = rw f some
gave_by (Some kinds.WriteFailed) end grounds stand later turned text count piece f far some = rw f some
gave_by (Some kinds.End) end grounds stand later turned text count piece f far some = absurd far
gave_by (Some kinds.TooLong) end grounds stand later turned text count piece f far some = absurd far
gave_by (Some kinds.ReadFailed) end grounds stand later turned text count piece f far some = absurd far
gave_by (Some kinds.Endless) end grounds stand later turned text count piece f far some = absurd far

-- the lines of a piece were served
abbrev read_served : {S E : Type 0} (makes : S → List Exchange → S → Type 0) (grounds : S → ServedOver) (laws : AreLawful makes grounds) (from end : Option SessionEndKind) (old mid new : LinkState) (stand stand_after : Stand) (state after : S) (n count : ℕ) (buf : List ℕ) (lines : List (List ℕ)) → 0 < length (take n buf) → IsRead {E = E} old mid (Ok n) buf
    → cut_from stand (take n buf) ≡ (lines, stand_after) → Serves makes grounds mid new lines state after from count → Follows from stand_after end → Steps makes grounds old new stand stand_after state after end count
read_served makes grounds laws from end old mid new stand stand_after state after n count buf lines some read cut s follows =
    record {
      piece = take n buf;
      front = s.front;
      later = s.later;
      turned = s.turned;
      text = s.text;
      lines_are = ap (λ (c : List (List ℕ) × Stand). c.0) cut ∙ s.lines_are;
      mean = s.mean;
      turns = s.turns;
      how = subst (λ (c : List (List ℕ) × Stand). StepsTo end (grounds state) c.1 s.front s.later s.turned s.text count) (sym cut) (steps_by from end (grounds state) stand_after s.front s.later s.turned s.text count follows s.how);
      stands = λ none. ap (λ (c : List (List ℕ) × Stand). c.1) cut;
      consumed = subst (λ (l : Option (List ℕ)). Consumes old.left l (take n buf)) (sym s.left) read.bytes.0;
      written = subst (λ (h : Option (List ℕ)). Appends h new.held s.text) read.held s.written;
      faults = faults_then end old mid new (record { failures = read.failures; stalls = read.stalls; ended = read.ended }) (faults_by from end mid new stand_after follows s.faults);
      quiet = quiet_by from end (grounds state) old new stand_after s.later s.turned s.text count follows s.how;
      gave = gave_by from end (grounds state) stand_after s.later s.turned s.text count (take n buf) follows s.how some;
      reads = s.reads ∙ read.counted;
    }

-- ---- the same, where each reply is handed on

pub step_failed : {S K E : Type 0} (makes : S → List Exchange → S → Type 0) (grounds : S → ServedOver) (laws : AreLawful makes grounds) (told : K → LinkState) (when : FlushPolicy) (old new : K) (stand : Stand) (state : S) (e : E) (buf : List ℕ) → ¬ (stand ≡ None) → IsRead (told old) (told new) (Err e) buf
    → StepsOn makes grounds told when old new stand stand state state (Some kinds.ReadFailed) 0
step_failed makes grounds laws told when old new None state e buf some read = absurd (some refl)
step_failed makes grounds laws told when old new (Some rest) state e buf some read =
    record { steps = read_failed makes grounds laws (told old) (told new) (Some rest) state e buf some read; gone = λ each rests. nothing_gone told old 0 }

pub step_end : {S K E : Type 0} (makes : S → List Exchange → S → Type 0) (grounds : S → ServedOver) (laws : AreLawful makes grounds) (told : K → LinkState) (when : FlushPolicy) (old new : K) (stand : Stand) (state : S) (n : ℕ) (buf : List ℕ) → ¬ (stand ≡ None) → n ≡ 0 → 0 < length buf → IsRead {E = E} (told old) (told new) (Ok n) buf
    → StepsOn makes grounds told when old new stand stand state state (Some kinds.End) 0
step_end makes grounds laws told when old new None state n buf some none room read = absurd (some refl)
step_end makes grounds laws told when old new (Some rest) state n buf some none room read =
    record { steps = read_end makes grounds laws (told old) (told new) (Some rest) state n buf some none room read; gone = λ each rests. nothing_gone told old 0 }

pub step_refused : {S K E : Type 0} (makes : S → List Exchange → S → Type 0) (grounds : S → ServedOver) (laws : AreLawful makes grounds) (told : K → LinkState) (when : FlushPolicy) (old new : K) (stand stand_after : Stand) (state : S) (n : ℕ) (buf : List ℕ) → 0 < length (take n buf) → IsRead {E = E} (told old) (told new) (Ok n) buf
    → StepsOn makes grounds told when old new stand stand_after state state (Some kinds.Memory) 0
step_refused makes grounds laws told when old new stand stand_after state n buf some read =
    record { steps = read_refused makes grounds laws (told old) (told new) stand stand_after state n buf some read; gone = λ each rests. nothing_gone told old 0 }

pub step_served : {S K E : Type 0} (makes : S → List Exchange → S → Type 0) (grounds : S → ServedOver) (laws : AreLawful makes grounds) (told : K → LinkState) (when : FlushPolicy) (from end : Option SessionEndKind) (old mid new : K) (stand stand_after : Stand) (state after : S) (n count : ℕ) (buf : List ℕ) (lines : List (List ℕ)) → 0 < length (take n buf)
    → IsRead {E = E} (told old) (told mid) (Ok n) buf → cut_from stand (take n buf) ≡ (lines, stand_after) → ServesLines makes grounds told when mid new lines state after from count → Follows from stand_after end → StepsOn makes grounds told when old new stand stand_after state after end count
step_served makes grounds laws told when from end old mid new stand stand_after state after n count buf lines some read cut s follows =
    let t = s.served in
    record {
      steps = read_served makes grounds laws from end (told old) (told mid) (told new) stand stand_after state after n count buf lines some read cut t follows;
      gone = λ each rests.
          let none : 0 + count ≡ count = omega arith in
          subst (λ (n : ℕ). EachHasGone told old t.turned n) none
          (gone_then told old mid [] t.turned 0 count (nothing_gone told old 0) refl (same_held (told old).held (told mid).held read.held) (record { failures = read.failures; stalls = read.stalls; ended = read.ended })
          (s.gone each (read.waiting ∙ rests)));
    }

-- ---- a piece has no more lines than bytes

abbrev Cut : Type 0
Cut = List (List ℕ) × Stand

few_if : (t : Bool) (a b : Cut) (n : ℕ) → length a.0 ≤ n → length b.0 ≤ n → length (if t then a else b).0 ≤ n
few_if true a b n p q = p
few_if false a b n p q = q

lines_few : (stand : Stand) (bytes : List ℕ) → length (cut_from stand bytes).0 ≤ length bytes
unfolding cut_from
lines_few None bytes = omega arith
lines_few (Some rest) [] = omega arith
lines_few (Some rest) (b ∷ bs) =
    few_if (b == 10) (onto (rest ∷ []) (cut_from (Some []) bs)) (if nat_lt (length rest) 8192 then cut_from (Some (rest ++ b ∷ [])) bs else ([], None)) (length (b ∷ bs)) (let h = lines_few (Some []) bs in omega arith)
    (few_if (nat_lt (length rest) 8192) (cut_from (Some (rest ++ b ∷ [])) bs) ([], None) (length (b ∷ bs)) (let h = lines_few (Some (rest ++ b ∷ [])) bs in omega arith) (omega arith))

pub few_served : (stand stand_after : Stand) (piece : List ℕ) (lines : List (List ℕ)) (count n : ℕ) → cut_from stand piece ≡ (lines, stand_after) → count ≤ length lines → length piece ≤ n → count ≤ n
few_served stand stand_after piece lines count n cut few short =
    let lines_are : length (cut_from stand piece).0 ≡ length lines = ap (λ (c : Cut). length c.0) cut in
    omega (arith, lines_few stand piece)
