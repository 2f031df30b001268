-- Lines that are served, one after the other.
use Rattle.std.proofs.Common.{◌≡◌, ℕ, ◌+◌, ◌≤◌, get_or, take, drop, List, [], ◌∷◌, ◌++◌, length, Option, Some, None, Ok, Err, refl, sym, ap, subst, ◌∙◌, append_assoc, append-nil, arith, inl, inr}
use Rattle.std.specs.List.{slice_get}
use Rattle.std.proofs.lemmas.Option.{slice_get_within, get_or_from_slice_get}
use Rattle.std.specs.Io.KnownBytes.{Appends, Keeps}
use Rattle.std.proofs.lemmas.List.{length-append, take-append-drop, drop_more, take_more}
use Rattle.report_line.specs.declared.call.Call.TheVariants as calls
use Rattle.session.specs.Exchanges.{Exchange}
use Rattle.session.specs.declared.kind.SessionEndKind.{SessionEndKind}
use Rattle.session.specs.declared.kind.SessionEndKind.TheVariants as kinds
use Rattle.session.specs.declared.flush_policy.FlushPolicy.{FlushPolicy}
use Rattle.client_link.specs.Links.{LinkState, IsSound, IsFlush, Puts}
use Rattle.session.specs.SessionText.{Means, Mean, ServedOver, IsWorn, IsUnmade, IsForeign, exchange_line, session_text}
use Rattle.session.specs.working.Parts.{AreLawful, IsSaid, HowFar, FaultsAt, Serves, Flushes, ServesLines, one_reply}
use Rattle.client_link.proofs.Sent.{appends_none, appends_keeps, appends_then, sound_none, sound_then, fault_then}
use Rattle.session.proofs.ServedTurns.{mean_then, mean_length, far_then}
use Rattle.session.specs.Ends.{HaveGone}
use Rattle.session.proofs.Gone.{nothing_gone, nothing_counted, gone_few, gone_then}

pub faults_then : (end : Option SessionEndKind) (r s t : LinkState) → IsSound r s → FaultsAt end s t → FaultsAt end r t
faults_then None r s t p q = sound_then r s t p q
faults_then (Some kinds.End) r s t p q = sound_then r s t p q
faults_then (Some kinds.Bye) r s t p q = sound_then r s t p q
faults_then (Some kinds.TooLong) r s t p q = sound_then r s t p q
faults_then (Some kinds.Worn) r s t p q = sound_then r s t p q
faults_then (Some kinds.Memory) r s t p q = sound_then r s t p q
faults_then (Some kinds.ReadFailed) r s t p q = (rw p.failures at q.0, q.1 ∙ p.stalls, q.2 ∙ p.ended)
faults_then (Some kinds.WriteFailed) r s t p q = fault_then r s t p q
faults_then (Some kinds.Endless) r s t p q = sound_then r s t p q
faults_then (Some kinds.Foreign) r s t p q = sound_then r s t p q

-- ---- one line

one_text : (e : Exchange) → exchange_line e ≡ session_text (e ∷ [])
one_text e = sym (append-nil (exchange_line e))

-- a line whose reply was written whole, and which was no bye, or was one
pub said_on : {S E : Type 0} (makes : S → List Exchange → S → Type 0) (grounds : S → ServedOver) (laws : AreLawful makes grounds) (old new : LinkState) (line : List ℕ) (state after : S) (e : Exchange) (u : Unit {0}) → Means line e.call → makes state (e ∷ []) after
    → Puts {E = E} old new (Ok u) (exchange_line e) → ¬ (e.call ≡ calls.Bye) → Serves makes grounds old new (line ∷ []) state after None 1
said_on makes grounds laws old new line state after e u means turned puts on =
    record {
      front = line ∷ [];
      later = [];
      turned = e ∷ [];
      text = exchange_line e;
      lines_are = refl;
      mean = (means, tt);
      turns = turned;
      how = ((on, tt), refl, (one_text e, refl));
      written = puts.sent;
      faults = puts.faults;
      left = puts.left;
      reads = puts.reads;
    }

pub said_bye : {S E : Type 0} (makes : S → List Exchange → S → Type 0) (grounds : S → ServedOver) (laws : AreLawful makes grounds) (old new : LinkState) (line : List ℕ) (state after : S) (e : Exchange) (u : Unit {0}) → Means line e.call → makes state (e ∷ []) after
    → Puts {E = E} old new (Ok u) (exchange_line e) → e.call ≡ calls.Bye → Serves makes grounds old new (line ∷ []) state after (Some kinds.Bye) 1
said_bye makes grounds laws old new line state after e u means turned puts bye =
    record {
      front = line ∷ [];
      later = [];
      turned = e ∷ [];
      text = exchange_line e;
      lines_are = refl;
      mean = (means, tt);
      turns = turned;
      how = (record { before = []; last = e; exchanges_are = refl; none_before = tt; bye = bye }, (one_text e, refl));
      written = puts.sent;
      faults = puts.faults;
      left = puts.left;
      reads = puts.reads;
    }

-- a line whose reply was cut
pub said_part : {S E : Type 0} (makes : S → List Exchange → S → Type 0) (grounds : S → ServedOver) (laws : AreLawful makes grounds) (old new : LinkState) (line : List ℕ) (state after : S) (e : Exchange) (fault : E) → Means line e.call → makes state (e ∷ []) after
    → Puts old new (Err fault) (exchange_line e) → Serves makes grounds old new (line ∷ []) state after (Some kinds.WriteFailed) 0
said_part makes grounds laws old new line state after e fault means turned puts =
    let sent = puts.sent in
    record {
      front = line ∷ [];
      later = [];
      turned = e ∷ [];
      text = sent.0;
      lines_are = refl;
      mean = (means, tt);
      turns = turned;
      how = record { before = []; last = e; turned_are = refl; none_before = tt; part = sent.0; cut = inl (sent.1, sent.2, sent.3); text_is = refl; count_is = refl };
      written = sent.4;
      faults = puts.faults;
      left = puts.left;
      reads = puts.reads;
    }

-- a line without a turn: memory was wanting, no turn was left, or the pass is foreign
pub unmade : {S : Type 0} (makes : S → List Exchange → S → Type 0) (grounds : S → ServedOver) (laws : AreLawful makes grounds) (s : LinkState) (line : List ℕ) (state after : S) → after ≡ state → IsUnmade (grounds state) (line ∷ []) []
    → Serves makes grounds s s (line ∷ []) state after (Some kinds.Memory) 0
unmade makes grounds laws s line state after same none =
    record {
      front = [];
      later = line ∷ [];
      turned = [];
      text = [];
      lines_are = refl;
      mean = tt;
      turns = subst (makes state []) (sym same) (laws.none state);
      how = (tt, none, (refl, refl));
      written = appends_none s.held;
      faults = sound_none s;
      left = refl;
      reads = refl;
    }

pub worn_out : {S : Type 0} (makes : S → List Exchange → S → Type 0) (grounds : S → ServedOver) (laws : AreLawful makes grounds) (s : LinkState) (line : List ℕ) (state after : S) → after ≡ state → IsWorn (grounds state) []
    → Serves makes grounds s s (line ∷ []) state after (Some kinds.Worn) 0
worn_out makes grounds laws s line state after same worn =
    record {
      front = [];
      later = line ∷ [];
      turned = [];
      text = [];
      lines_are = refl;
      mean = tt;
      turns = subst (makes state []) (sym same) (laws.none state);
      how = (tt, (λ e. cc, worn), (refl, refl));
      written = appends_none s.held;
      faults = sound_none s;
      left = refl;
      reads = refl;
    }

pub foreign : {S : Type 0} (makes : S → List Exchange → S → Type 0) (grounds : S → ServedOver) (laws : AreLawful makes grounds) (s : LinkState) (line : List ℕ) (state after : S) → after ≡ state → IsForeign (grounds state) []
    → Serves makes grounds s s (line ∷ []) state after (Some kinds.Foreign) 0
foreign makes grounds laws s line state after same other =
    record {
      front = [];
      later = line ∷ [];
      turned = [];
      text = [];
      lines_are = refl;
      mean = tt;
      turns = subst (makes state []) (sym same) (laws.none state);
      how = (tt, (λ e. cc, other), (refl, refl));
      written = appends_none s.held;
      faults = sound_none s;
      left = refl;
      reads = refl;
    }

-- ---- a loop over lines

abbrev serves_none : {S : Type 0} (makes : S → List Exchange → S → Type 0) (grounds : S → ServedOver) (laws : AreLawful makes grounds) (s : LinkState) (state : S) → Serves makes grounds s s [] state state None 0
serves_none makes grounds laws s state =
    record {
      front = [];
      later = [];
      turned = [];
      text = [];
      lines_are = refl;
      mean = tt;
      turns = laws.none state;
      how = (tt, refl, (refl, refl));
      written = appends_none s.held;
      faults = sound_none s;
      left = refl;
      reads = refl;
    }

-- one more line behind some that were all answered; later ones follow only where it ends
abbrev serves_then : {S : Type 0} (makes : S → List Exchange → S → Type 0) (grounds : S → ServedOver) (laws : AreLawful makes grounds) (end : Option SessionEndKind) (old mid new : LinkState) (lines more later : List (List ℕ)) (state now after : S) (m n : ℕ) → Serves makes grounds old mid lines state now None m → Serves makes grounds mid new more now after end n
    → (end ≡ None → later ≡ []) → Serves makes grounds old new (lines ++ (more ++ later)) state after end (m + n)
serves_then makes grounds laws end old mid new lines more later state now after m n s t none =
    record {
      front = s.front ++ t.front;
      later = t.later ++ later;
      turned = s.turned ++ t.turned;
      text = s.text ++ t.text;
      lines_are = ap (λ (l : List (List ℕ)). l ++ (more ++ later)) (s.lines_are ∙ ap (λ (l : List (List ℕ)). s.front ++ l) s.how.1 ∙ append-nil s.front)
          ∙ ap (λ (l : List (List ℕ)). s.front ++ (l ++ later)) t.lines_are ∙ ap (λ (l : List (List ℕ)). s.front ++ l) (append_assoc t.front t.later later)
          ∙ sym (append_assoc s.front t.front (t.later ++ later));
      mean = mean_then s.front t.front s.turned t.turned s.mean t.mean;
      turns = laws.one_by_one state now after s.turned t.turned s.turns t.turns;
      how = far_then makes grounds laws end state now t.later later s.turned t.turned s.text t.text m n s.turns s.how.0 s.how.2 none t.how;
      written = appends_then old.held mid.held new.held s.text t.text s.written t.written;
      faults = faults_then end old mid new s.faults t.faults;
      left = t.left ∙ s.left;
      reads = t.reads ∙ s.reads;
    }

-- ---- handing on a reply

appends_kept : (a b c : Option (List ℕ)) (x : List ℕ) → Appends a b x → Keeps b c → Appends a c x
appends_kept a b c x p k = subst (λ (t : List ℕ). Appends a c t) (append-nil x) (appends_then a b c x [] p (appends_keeps b c k))

-- where a line has its reply no call failed
faults_sound : (end : Option SessionEndKind) (old new : LinkState) → one_reply end ≡ 1 → FaultsAt end old new → IsSound old new
faults_sound None old new one f = f
faults_sound (Some kinds.Bye) old new one f = f
faults_sound (Some kinds.End) old new one f = absurd (omega (arith, one))
faults_sound (Some kinds.TooLong) old new one f = absurd (omega (arith, one))
faults_sound (Some kinds.Worn) old new one f = absurd (omega (arith, one))
faults_sound (Some kinds.Memory) old new one f = absurd (omega (arith, one))
faults_sound (Some kinds.ReadFailed) old new one f = absurd (omega (arith, one))
faults_sound (Some kinds.WriteFailed) old new one f = absurd (omega (arith, one))
faults_sound (Some kinds.Endless) old new one f = absurd (omega (arith, one))
faults_sound (Some kinds.Foreign) old new one f = absurd (omega (arith, one))

sound_faults : (end : Option SessionEndKind) (old new : LinkState) → one_reply end ≡ 1 → IsSound old new → FaultsAt end old new
sound_faults None old new one s = s
sound_faults (Some kinds.Bye) old new one s = s
sound_faults (Some kinds.End) old new one s = absurd (omega (arith, one))
sound_faults (Some kinds.TooLong) old new one s = absurd (omega (arith, one))
sound_faults (Some kinds.Worn) old new one s = absurd (omega (arith, one))
sound_faults (Some kinds.Memory) old new one s = absurd (omega (arith, one))
sound_faults (Some kinds.ReadFailed) old new one s = absurd (omega (arith, one))
sound_faults (Some kinds.WriteFailed) old new one s = absurd (omega (arith, one))
sound_faults (Some kinds.Endless) old new one s = absurd (omega (arith, one))
sound_faults (Some kinds.Foreign) old new one s = absurd (omega (arith, one))

-- and the replies were written
said_of : (end : Option SessionEndKind) (grounds : ServedOver) (later : List (List ℕ)) (turned : List Exchange) (text : List ℕ) (count : ℕ) → one_reply end ≡ 1 → HowFar end grounds later turned text count → IsSaid turned text count
said_of None grounds later turned text count one far = far.2
said_of (Some kinds.Bye) grounds later turned text count one far = far.1
said_of (Some kinds.End) grounds later turned text count one far = absurd (omega (arith, one))
said_of (Some kinds.TooLong) grounds later turned text count one far = absurd (omega (arith, one))
said_of (Some kinds.Worn) grounds later turned text count one far = absurd (omega (arith, one))
said_of (Some kinds.Memory) grounds later turned text count one far = absurd (omega (arith, one))
said_of (Some kinds.ReadFailed) grounds later turned text count one far = absurd (omega (arith, one))
said_of (Some kinds.WriteFailed) grounds later turned text count one far = absurd (omega (arith, one))
said_of (Some kinds.Endless) grounds later turned text count one far = absurd (omega (arith, one))
said_of (Some kinds.Foreign) grounds later turned text count one far = absurd (omega (arith, one))

only_one : (turned : List Exchange) → 1 ≡ length turned → (e : Exchange) × (turned ≡ e ∷ [])
only_one [] one = absurd (omega (arith, one))
only_one (e ∷ []) one = (e, refl)
only_one (e ∷ (f ∷ es)) one = absurd (omega (arith, one))

pub some_none : {X : Type 0} {x : X} → ¬ (Some x ≡ None)
some_none e = cc

-- a reply that was handed on behind its line: all else is as it was
handed : {S E : Type 0} (makes : S → List Exchange → S → Type 0) (grounds : S → ServedOver) (old mid new : LinkState) (lines : List (List ℕ)) (state after : S) (end : Option SessionEndKind) (n : ℕ) (u : Unit {0}) → one_reply end ≡ 1 → Serves makes grounds old mid lines state after end n → IsFlush {E = E} mid new (Ok u)
    → Serves makes grounds old new lines state after end n
handed makes grounds old mid new lines state after end n u one s hand =
    record {
      front = s.front;
      later = s.later;
      turned = s.turned;
      text = s.text;
      lines_are = s.lines_are;
      mean = s.mean;
      turns = s.turns;
      how = s.how;
      written = appends_kept old.held mid.held new.held s.text s.written hand.held;
      faults = sound_faults end old new one (sound_then old mid new (faults_sound end old mid one s.faults) (record { failures = hand.failures; stalls = hand.stalls; ended = hand.ended }));
      left = hand.left ∙ s.left;
      reads = hand.reads ∙ s.reads;
    }

-- a reply that could not be handed on
not_handed : {S E : Type 0} (makes : S → List Exchange → S → Type 0) (grounds : S → ServedOver) (old mid new : LinkState) (line : List ℕ) (state after : S) (end : Option SessionEndKind) (e : E) → one_reply end ≡ 1 → Serves makes grounds old mid (line ∷ []) state after end 1 → IsFlush mid new (Err e)
    → Serves makes grounds old new (line ∷ []) state after (Some kinds.WriteFailed) 0
not_handed makes grounds old mid new line state after end e one s hand =
    let said = said_of end (grounds state) s.later s.turned s.text 1 one s.how in
    let only = only_one s.turned said.1 in
    record {
      front = s.front;
      later = s.later;
      turned = s.turned;
      text = s.text;
      lines_are = s.lines_are;
      mean = s.mean;
      turns = s.turns;
      how = record { before = []; last = only.0; turned_are = only.1; none_before = tt; part = exchange_line only.0; cut = inr refl; text_is = said.0 ∙ ap session_text only.1 ∙ append-nil (exchange_line only.0); count_is = refl };
      written = appends_kept old.held mid.held new.held s.text s.written hand.held;
      faults = fault_then old mid new (faults_sound end old mid one s.faults) (record { fault = inl (hand.failures, hand.stalls); ended = hand.ended });
      left = hand.left ∙ s.left;
      reads = hand.reads ∙ s.reads;
    }

-- a line has one turn at most
few_turned : (front later : List (List ℕ)) (line : List ℕ) (turned : List Exchange) → line ∷ [] ≡ front ++ later → Mean front turned → length turned ≤ 1
few_turned front later line turned parts mean = omega (arith, ap length parts, length-append front later, mean_length front turned mean)

-- one line, whose reply was handed on where each is
pub line_served : {S K : Type 0} (makes : S → List Exchange → S → Type 0) (grounds : S → ServedOver) (told : K → LinkState) (when : FlushPolicy) (old mid new : K) (line : List ℕ) (state after : S) (end result : Option SessionEndKind) → Serves makes grounds (told old) (told mid) (line ∷ []) state after end (one_reply end)
    → Flushes when end (told mid) (told new) result → ServesLines makes grounds told when old new (line ∷ []) state after result (one_reply result)
line_served makes grounds told when old mid new line state after end result s (inl none) =
    let served : Serves makes grounds (told old) (told new) (line ∷ []) state after end (one_reply end) = subst (λ (x : LinkState). Serves makes grounds (told old) x (line ∷ []) state after end (one_reply end)) (sym none.2) s in
    rw none.1 record {
      served = served;
      gone = λ each rests. gone_few told old served.turned (one_reply end) (few_turned served.front served.later line served.turned served.lines_are served.mean) rests (nothing_counted told old served.turned (one_reply end) (none.0 each));
      rests = λ each rests goes. absurd (let n = none.0 each in let m : one_reply end ≡ 1 = ap one_reply goes in omega (arith, n, m));
    }
line_served makes grounds told when old mid new line state after end result s (inr (one, (Ok u, hand, is))) =
    let served : Serves makes grounds (told old) (told new) (line ∷ []) state after end (one_reply end) = handed makes grounds (told old) (told mid) (told new) (line ∷ []) state after end (one_reply end) u one s hand in
    let said = said_of end (grounds state) served.later served.turned served.text (one_reply end) one served.how in
    let went : HaveGone told old served.turned = record {
      moment = new;
      written = subst (λ (x : List ℕ). Appends (told old).held (told new).held x) said.0 served.written;
      nothing_waits = hand.handed;
      sound = faults_sound end (told old) (told new) one served.faults;
    } in
    rw is record {
      served = served;
      gone = λ each rests. gone_few told old served.turned (one_reply end) (few_turned served.front served.later line served.turned served.lines_are served.mean) rests (λ some all. went);
      rests = λ each rests goes. hand.handed;
    }
line_served makes grounds told when old mid new line state after end result s (inr (one, (Err e, hand, is))) =
    let served : Serves makes grounds (told old) (told new) (line ∷ []) state after (Some kinds.WriteFailed) 0 = not_handed makes grounds (told old) (told mid) (told new) line state after end e one (rw one at s) hand in
    rw is record {
      served = served;
      gone = λ each rests. gone_few told old served.turned 0 (few_turned served.front served.later line served.turned served.lines_are served.mean) rests (nothing_counted told old served.turned 0 refl);
      rests = λ each rests goes. absurd (some_none goes);
    }

-- ---- a loop over lines, each reply handed on where that is wanted

pub lines_none : {S K : Type 0} (makes : S → List Exchange → S → Type 0) (grounds : S → ServedOver) (laws : AreLawful makes grounds) (told : K → LinkState) (when : FlushPolicy) (link : K) (state : S) → ServesLines makes grounds told when link link [] state state None 0
lines_none makes grounds laws told when link state =
    record { served = serves_none makes grounds laws (told link) state; gone = λ each rests. nothing_gone told link 0; rests = λ each rests goes. rests }

lines_then : {S K : Type 0} (makes : S → List Exchange → S → Type 0) (grounds : S → ServedOver) (laws : AreLawful makes grounds) (told : K → LinkState) (when : FlushPolicy) (end : Option SessionEndKind) (old mid new : K) (lines more later : List (List ℕ)) (state now after : S) (m n : ℕ) → ServesLines makes grounds told when old mid lines state now None m
    → ServesLines makes grounds told when mid new more now after end n → (end ≡ None → later ≡ []) → ServesLines makes grounds told when old new (lines ++ (more ++ later)) state after end (m + n)
lines_then makes grounds laws told when end old mid new lines more later state now after m n s t none =
    let first = s.served in
    record {
      served = serves_then makes grounds laws end (told old) (told mid) (told new) lines more later state now after m n first t.served none;
      gone = λ each rests. gone_then told old mid first.turned t.served.turned m n (s.gone each rests) first.how.2.1 (subst (λ (x : List ℕ). Appends (told old).held (told mid).held x) first.how.2.0 first.written) first.faults (t.gone each (s.rests each rests refl));
      rests = λ each rests goes. t.rests each (s.rests each rests refl) goes;
    }

-- the line at an index, where those before it were answered, and it is the last that is served
pub lines_to : {S K : Type 0} (makes : S → List Exchange → S → Type 0) (grounds : S → ServedOver) (laws : AreLawful makes grounds) (told : K → LinkState) (when : FlushPolicy) (end : Option SessionEndKind) (old mid new : K) (lines : List (List ℕ)) (i : ℕ) (line : List ℕ) (state now after : S) (m n : ℕ) → slice_get lines i ≡ Some line
    → ServesLines makes grounds told when old mid (take i lines) state now None m → ServesLines makes grounds told when mid new (line ∷ []) now after end n → ¬ (end ≡ None) → ServesLines makes grounds told when old new lines state after end (m + n)
lines_to makes grounds laws told when end old mid new lines i line state now after m n at s t stops =
    let is : line ≡ get_or lines i line = sym (get_or_from_slice_get lines i line line at) in
    let whole : take i lines ++ line ∷ drop (i + 1) lines ≡ lines =
    ap (λ (l : List ℕ). take i lines ++ l ∷ drop (i + 1) lines) is ∙ ap (λ (l : List (List ℕ)). take i lines ++ l) (sym (drop_more lines i line (slice_get_within lines i line at))) ∙ take-append-drop i lines in
    subst (λ (l : List (List ℕ)). ServesLines makes grounds told when old new l state after end (m + n)) whole
    (lines_then makes grounds laws told when end old mid new (take i lines) (line ∷ []) (drop (i + 1) lines) state now after m n s t (λ none. absurd (stops none)))

-- the line at an index, where those before it were answered, and it was too
pub lines_on : {S K : Type 0} (makes : S → List Exchange → S → Type 0) (grounds : S → ServedOver) (laws : AreLawful makes grounds) (told : K → LinkState) (when : FlushPolicy) (old mid new : K) (lines : List (List ℕ)) (i : ℕ) (line : List ℕ) (state now after : S) (m n : ℕ) → slice_get lines i ≡ Some line
    → ServesLines makes grounds told when old mid (take i lines) state now None m → ServesLines makes grounds told when mid new (line ∷ []) now after None n → ServesLines makes grounds told when old new (take (i + 1) lines) state after None (m + n)
lines_on makes grounds laws told when old mid new lines i line state now after m n at s t =
    let is : line ≡ get_or lines i line = sym (get_or_from_slice_get lines i line line at) in
    let more : take i lines ++ (line ∷ [] ++ []) ≡ take (i + 1) lines = ap (λ (l : List ℕ). take i lines ++ l ∷ []) is ∙ sym (take_more lines i line (slice_get_within lines i line at)) in
    subst (λ (l : List (List ℕ)). ServesLines makes grounds told when old new l state after None (m + n)) more
    (lines_then makes grounds laws told when None old mid new (take i lines) (line ∷ []) [] state now after m n s t (λ none. refl))
