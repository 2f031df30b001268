-- Reads, one after the other, and the end of a session.
use Rattle.std.proofs.Common.{◌≡◌, ℕ, ◌+◌, ◌≤◌, ◌<◌, List, [], ◌∷◌, ◌++◌, length, take, Option, Some, None, Ok, Err, refl, sym, ap, subst, ◌∙◌, append_assoc, append-nil, arith, inl, inr}
use Rattle.std.specs.Prelude.{IsSome}
use Rattle.std.specs.Io.KnownBytes.{Appends, Consumes, Keeps, IsAtEnd}
use Rattle.std.proofs.lemmas.List.{length-append, take-append-le}
use Rattle.std.proofs.lemmas.List.Concat.{flat_map-append}
use Rattle.std.proofs.Math.Seq.{take-append_seam}
use borrow.Author.Count.{below_more}
use Rattle.report_line.specs.Cutting.{Stand, onto, cut_from, cut_of}
use Rattle.report_line.proofs.Streams.{cut_append}
use Rattle.session.specs.Exchanges.{Exchange}
use Rattle.session.specs.declared.kind.SessionEndKind.{SessionEndKind}
use Rattle.session.specs.declared.kind.SessionEndKind.TheVariants as kinds
use Rattle.client_link.specs.Links.{up, LinkState, IsSound, IsFault, IsFlush}
use Rattle.session.specs.SessionText.{Mean, NoBye, exchange_line, session_text, joined, most_reads, ServedOver, ending_line, ending_count, IsWhole, IsCutInReply, EndReason, Ends, AreNonEmptyReads, GaveAll}
use Rattle.session.specs.declared.flush_policy.FlushPolicy.{FlushPolicy}
use Rattle.session.specs.declared.flush_policy.FlushPolicy.TheVariants as flush_policies
use Rattle.session.specs.Ends.{IsReadAt, IsPrompt, EachHasGone, Leaves}
use Rattle.session.specs.working.Parts.{AreLawful, IsSaid, FaultsAt, StepsTo, IsQuiet, GaveBy, StepsOn, Going, Closing, Closes, Ran}
use Rattle.client_link.proofs.Sent.{appends_none, appends_then, sound_none, sound_then, fault_then}
use Rattle.session.proofs.ServedTurns.{mean_then, mean_length, no_bye_then, bye_then, said_then, cut_then}
use Rattle.session.proofs.ServeSteps.{faults_then}
use Rattle.session.proofs.Gone.{nothing_gone, gone_then, gone_counted}

pub consumes_none : (a : Option (List ℕ)) → Consumes a a []
consumes_none None = tt
consumes_none (Some xs) = refl

pub consumes_then : (a b c : Option (List ℕ)) (x y : List ℕ) → Consumes a b x → Consumes b c y → Consumes a c (x ++ y)
consumes_then None b c x y p q = tt
consumes_then (Some xs) None c x y p q = absurd p
consumes_then (Some xs) (Some ys) None x y p q = absurd q
consumes_then (Some xs) (Some ys) (Some zs) x y p q = p ∙ ap (λ (l : List ℕ). x ++ l) q ∙ sym (append_assoc x y zs)

pub appends_held : (a b c : Option (List ℕ)) (x : List ℕ) → Appends a b x → Keeps b c → Appends a c x
appends_held None b c x p k = tt
appends_held (Some xs) None c x p k = absurd p
appends_held (Some xs) (Some ys) None x p k = absurd k
appends_held (Some xs) (Some ys) (Some zs) x p k = k ∙ p

pub text_then : (es fs : List Exchange) → session_text es ++ session_text fs ≡ session_text (es ++ fs)
text_then es fs = sym (flat_map-append exchange_line es fs)

pub joined_more : (pieces : List (List ℕ)) (piece : List ℕ) → joined pieces ++ piece ≡ joined (pieces ++ piece ∷ [])
joined_more pieces piece =
    ap (λ (l : List ℕ). joined pieces ++ l) (sym (append-nil piece)) ∙ sym (flat_map-append (λ (p : List ℕ). p) pieces (piece ∷ []))

pub length_more : (pieces : List (List ℕ)) (piece : List ℕ) → length (pieces ++ piece ∷ []) ≡ length pieces + 1
length_more pieces piece = omega (arith, length-append pieces (piece ∷ []))

abbrev Cut : Type 0
Cut = List (List ℕ) × Stand

-- the cut of what was read, with one more piece
cut_more : (pieces : List (List ℕ)) (piece : List ℕ) (stand : Stand) → (cut_of (joined pieces)).1 ≡ stand → cut_of (joined (pieces ++ piece ∷ [])) ≡ onto (cut_of (joined pieces)).0 (cut_from stand piece)
cut_more pieces piece stand e =
    ap cut_of (sym (joined_more pieces piece)) ∙ cut_append (Some []) (joined pieces) piece ∙ ap (λ (s : Stand). onto (cut_of (joined pieces)).0 (cut_from s piece)) e

-- ---- no reading ahead

pub widened : {K : Type 0} (told : K → LinkState) (link : K) (n : ℕ) (earlier : List ℕ) (turned more : List Exchange) → IsReadAt told link n earlier turned → IsReadAt told link n earlier (turned ++ more)
widened told link n earlier turned more r =
    record {
      reading = r.reading;
      reads_are = r.reads_are;
      consumed = r.consumed;
      answered = r.answered;
      later = r.later ++ more;
      turned_are = ap (λ (l : List Exchange). l ++ more) r.turned_are ∙ append_assoc r.answered r.later more;
      each_line = r.each_line;
      written = r.written;
      nothing_waits = r.nothing_waits;
      no_bye = r.no_bye;
      is_open = r.is_open;
    }

pub prompt_then : {K : Type 0} (told : K → LinkState) (link : K) (pieces : List (List ℕ)) (piece : List ℕ) (turned more : List Exchange) → IsPrompt told link pieces turned
    → IsReadAt told link (length pieces) (joined pieces) (turned ++ more) → IsPrompt told link (pieces ++ piece ∷ []) (turned ++ more)
prompt_then {K} told link pieces piece turned more before here =
    let P : ℕ → Type 0 = λ (n : ℕ). IsReadAt told link n (joined (take n (pieces ++ piece ∷ []))) (turned ++ more) in
    let earlier : (n : ℕ) → n < length pieces → P n =
    λ n lt.
    let within : n ≤ length pieces = omega arith in
    subst (λ (l : List (List ℕ)). IsReadAt told link n (joined l) (turned ++ more)) (sym (take-append-le n pieces (piece ∷ []) within)) (widened told link n (joined (take n pieces)) turned more (before n lt)) in
    let last : P (length pieces) = subst (λ (l : List (List ℕ)). IsReadAt told link (length pieces) (joined l) (turned ++ more)) (sym (take-append_seam pieces (piece ∷ []))) here in
    λ n lt. below_more P (length pieces) earlier last n (omega (arith, length_more pieces piece))

-- ---- one read after the other

pub going_none : {S K : Type 0} (makes : S → List Exchange → S → Type 0) (grounds : S → ServedOver) (laws : AreLawful makes grounds) (told : K → LinkState) (when : FlushPolicy) (link : K) (stand : Stand) (state : S) → stand ≡ Some [] → Going makes told when link link stand state state 0 0
unfolding cut_from
going_none makes grounds laws told when link stand state new =
    rw new record {
      pieces = [];
      turned = [];
      made = refl;
      mean = tt;
      stands = refl;
      is_open = refl;
      no_bye = tt;
      gave = tt;
      turns = laws.none state;
      consumed = consumes_none (told link).left;
      written = appends_none (told link).held;
      count_is = refl;
      reads_are = omega arith;
      sound = sound_none (told link);
      prompt = λ n lt. absurd (omega arith);
      gone = λ each. nothing_gone told link 0;
    }

-- what a hand-on that succeeded leaves
sound_hand_on : {E : Type 0} (old new : LinkState) (u : Unit {0}) → IsFlush {E = E} old new (Ok u) → IsSound old new
sound_hand_on old new u hand = record { failures = hand.failures; stalls = hand.stalls; ended = hand.ended }

-- the state in which the next read is made
read_at : {S K E : Type 0} (makes : S → List Exchange → S → Type 0) (grounds : S → ServedOver) (laws : AreLawful makes grounds) (told : K → LinkState) (when : FlushPolicy) (link now reading : K) (stand : Stand) (state mid : S) (reads count : ℕ) (u : Unit {0}) (more : List Exchange) → (s : Going makes told when link now stand state mid reads count)
    → IsFlush {E = E} (told now) (told reading) (Ok u) → IsReadAt told link (length s.pieces) (joined s.pieces) (s.turned ++ more)
read_at makes grounds laws told when link now reading stand state mid reads count u more s hand =
    record {
      reading = reading;
      reads_are = hand.reads ∙ s.reads_are ∙ ap (λ (n : ℕ). up n (told link).reads) (sym s.made);
      consumed = subst (λ (l : Option (List ℕ)). Consumes (told link).left l (joined s.pieces)) (sym hand.left) s.consumed;
      answered = s.turned;
      later = more;
      turned_are = refl;
      each_line = sym (mean_length (cut_of (joined s.pieces)).0 s.turned s.mean);
      written = appends_held (told link).held (told now).held (told reading).held (session_text s.turned) s.written hand.held;
      nothing_waits = hand.handed;
      no_bye = s.no_bye;
      is_open = subst (λ (x : Stand). IsSome x) (sym s.stands) s.is_open;
    }

pub reads_more : (first now reading next n : ℕ) → now ≡ up n first → reading ≡ now → next ≡ up 1 reading → next ≡ up (n + 1) first
reads_more first now reading next n a b c = omega arith

pub all_more : (pieces : List (List ℕ)) (piece : List ℕ) → AreNonEmptyReads pieces → 0 < length piece → AreNonEmptyReads (pieces ++ piece ∷ [])
all_more [] piece gave some = (some, tt)
all_more (p ∷ ps) piece gave some = (gave.0, all_more ps piece gave.1 some)

stop_gave : (kind : SessionEndKind) (pieces : List (List ℕ)) (piece : List ℕ) → AreNonEmptyReads pieces → GaveBy (Some kind) piece → GaveAll kind (pieces ++ piece ∷ [])
stop_gave kinds.End pieces piece gave g = (pieces, ap (λ (p : List ℕ). pieces ++ p ∷ []) g, gave)
stop_gave kinds.ReadFailed pieces piece gave g = (pieces, ap (λ (p : List ℕ). pieces ++ p ∷ []) g, gave)
stop_gave kinds.Bye pieces piece gave g = all_more pieces piece gave g
stop_gave kinds.TooLong pieces piece gave g = all_more pieces piece gave g
stop_gave kinds.Worn pieces piece gave g = all_more pieces piece gave g
stop_gave kinds.Memory pieces piece gave g = all_more pieces piece gave g
stop_gave kinds.WriteFailed pieces piece gave g = all_more pieces piece gave g
stop_gave kinds.Endless pieces piece gave g = all_more pieces piece gave g
stop_gave kinds.Foreign pieces piece gave g = all_more pieces piece gave g

pub going_on : {S K E : Type 0} (makes : S → List Exchange → S → Type 0) (grounds : S → ServedOver) (laws : AreLawful makes grounds) (told : K → LinkState) (when : FlushPolicy) (link now reading next : K) (stand stand_after : Stand) (state mid after : S) (reads count more : ℕ) (u : Unit {0}) → Going makes told when link now stand state mid reads count
    → IsFlush {E = E} (told now) (told reading) (Ok u) → StepsOn makes grounds told when reading next stand stand_after mid after None more → Going makes told when link next stand_after state after (reads + 1) (count + more)
going_on makes grounds laws told when link now reading next stand stand_after state mid after reads count more u s hand on =
    let t = on.steps in
    let cut = cut_more s.pieces t.piece stand s.stands in
    let before = appends_held (told link).held (told now).held (told reading).held (session_text s.turned) s.written hand.held in
    let sound = sound_then (told link) (told now) (told reading) s.sound (sound_hand_on (told now) (told reading) u hand) in
    let lines : (cut_from stand t.piece).0 ≡ t.front = t.lines_are ∙ ap (λ (l : List (List ℕ)). t.front ++ l) t.how.1 ∙ append-nil t.front in
    record {
      pieces = s.pieces ++ t.piece ∷ [];
      turned = s.turned ++ t.turned;
      made = length_more s.pieces t.piece ∙ ap (λ (n : ℕ). n + 1) s.made;
      mean = subst (λ (l : List (List ℕ)). Mean l (s.turned ++ t.turned)) (ap (λ (l : List (List ℕ)). (cut_of (joined s.pieces)).0 ++ l) (sym lines) ∙ sym (ap (λ (c : Cut). c.0) cut))
          (mean_then (cut_of (joined s.pieces)).0 t.front s.turned t.turned s.mean t.mean);
      stands = ap (λ (c : Cut). c.1) cut ∙ t.stands refl;
      is_open = subst (λ (x : Stand). IsSome x) (t.stands refl) t.how.2;
      no_bye = no_bye_then s.turned t.turned s.no_bye t.how.0;
      gave = all_more s.pieces t.piece s.gave t.gave;
      turns = laws.one_by_one state mid after s.turned t.turned s.turns t.turns;
      consumed = subst (λ (l : List ℕ). Consumes (told link).left (told next).left l) (joined_more s.pieces t.piece)
          (consumes_then (told link).left (told reading).left (told next).left (joined s.pieces) t.piece (subst (λ (l : Option (List ℕ)). Consumes (told link).left l (joined s.pieces)) (sym hand.left) s.consumed) t.consumed);
      written = subst (λ (l : List ℕ). Appends (told link).held (told next).held l) (ap (λ (l : List ℕ). session_text s.turned ++ l) t.how.3.0 ∙ text_then s.turned t.turned)
          (appends_then (told link).held (told reading).held (told next).held (session_text s.turned) t.text before t.written);
      count_is = omega (arith, length-append s.turned t.turned, s.count_is, t.how.3.1);
      reads_are = reads_more (told link).reads (told now).reads (told reading).reads (told next).reads reads s.reads_are hand.reads t.reads;
      sound = sound_then (told link) (told reading) (told next) sound t.faults;
      prompt = prompt_then told link s.pieces t.piece s.turned t.turned s.prompt (read_at makes grounds laws told when link now reading stand state mid reads count u t.turned s hand);
      gone = λ each. gone_then told link reading s.turned t.turned count more (s.gone each) s.count_is before sound (on.gone each hand.handed);
    }

-- ---- where it stops

-- how far the lines of all reads were answered, before the ending line
abbrev StopsTo : SessionEndKind → ServedOver → List (List ℕ) → Stand → List (List ℕ) → List (List ℕ) → List Exchange → List ℕ → ℕ → Type 0
StopsTo kinds.WriteFailed grounds pieces stand front later turned text count = IsCutInReply turned text count
StopsTo kind grounds pieces stand front later turned text count = EndReason kind grounds pieces stand front later turned × IsSaid turned text count

-- what a link tells before the ending line
abbrev LeftBy : SessionEndKind → LinkState → LinkState → Type 0
LeftBy kinds.End old now = IsSound old now × (now.waiting ≡ []) × IsAtEnd now.left
LeftBy kinds.ReadFailed old now = (now.failures ≡ up 1 old.failures) × (now.stalls ≡ old.stalls) × (now.waiting ≡ []) × (now.ended ≡ old.ended)
LeftBy kinds.WriteFailed old now = IsFault old now
LeftBy _ old now = IsSound old now

-- a session before its ending line
pub record Stopping {S K : Type 0} (makes : S → List Exchange → S → Type 0) (grounds : S → ServedOver) (told : K → LinkState) (when : FlushPolicy) (link now : K) (state after : S) (kind : SessionEndKind) (count : ℕ) : Type 0 where
  pub pieces : List (List ℕ)
  pub front : List (List ℕ)
  pub later : List (List ℕ)
  pub turned : List Exchange
  pub text : List ℕ
  pub lines_are : (cut_of (joined pieces)).0 ≡ front ++ later
  pub mean : Mean front turned
  pub how : StopsTo kind (grounds state) pieces (cut_of (joined pieces)).1 front later turned text count
  pub turns : makes state turned after
  pub consumed : Consumes (told link).left (told now).left (joined pieces)
  pub written : Appends (told link).held (told now).held text
  pub reads : (told now).reads ≡ up (length pieces) (told link).reads
  pub few : length pieces ≤ most_reads
  pub prompt : IsPrompt told link pieces turned
  pub gone : when ≡ flush_policies.EachReply → EachHasGone told link turned count
  pub leaves : LeftBy kind (told link) (told now)
  pub gave : GaveAll kind pieces

stops_then : {S : Type 0} (makes : S → List Exchange → S → Type 0) (grounds : S → ServedOver) (laws : AreLawful makes grounds) (kind : SessionEndKind) (s mid : S) (pieces : List (List ℕ)) (piece : List ℕ) (stand : Stand) (front later : List (List ℕ)) (es fs : List Exchange)
    (text line : List ℕ) (m n : ℕ) → makes s es mid → NoBye es → IsSaid es text m → StepsTo (Some kind) (grounds mid) stand front later fs line n
    → StopsTo kind (grounds s) (pieces ++ piece ∷ []) stand ((cut_of (joined pieces)).0 ++ front) later (es ++ fs) (text ++ line) (m + n)
stops_then makes grounds laws kinds.Bye s mid pieces piece stand front later es fs text line m n made none said t = (bye_then es fs none t.0, said_then es fs text line m n said t.1)
stops_then makes grounds laws kinds.Memory s mid pieces piece stand front later es fs text line m n made none said (a, inl nothing, b) = (
  (no_bye_then es fs none a, inl (pieces, piece, refl, ap (λ (l : List (List ℕ)). (cut_of (joined pieces)).0 ++ l) nothing ∙ append-nil (cut_of (joined pieces)).0)),
  said_then es fs text line m n said b,
)
stops_then makes grounds laws kinds.Memory s mid pieces piece stand front later es fs text line m n made none said (a, inr unmade, b) =
    ((no_bye_then es fs none a, inr (laws.unmade s mid later es fs made unmade)), said_then es fs text line m n said b)
stops_then makes grounds laws kinds.Worn s mid pieces piece stand front later es fs text line m n made none said t =
    ((no_bye_then es fs none t.0, t.1.0, laws.worn s mid es fs made t.1.1), said_then es fs text line m n said t.2)
stops_then makes grounds laws kinds.Foreign s mid pieces piece stand front later es fs text line m n made none said t =
    ((no_bye_then es fs none t.0, t.1.0, laws.foreign s mid es fs made t.1.1), said_then es fs text line m n said t.2)
stops_then makes grounds laws kinds.TooLong s mid pieces piece stand front later es fs text line m n made none said t = ((no_bye_then es fs none t.0, t.1, t.2), said_then es fs text line m n said t.3)
stops_then makes grounds laws kinds.End s mid pieces piece stand front later es fs text line m n made none said t = ((no_bye_then es fs none t.0, t.1, t.2), said_then es fs text line m n said t.3)
stops_then makes grounds laws kinds.ReadFailed s mid pieces piece stand front later es fs text line m n made none said t = ((no_bye_then es fs none t.0, t.1, t.2), said_then es fs text line m n said t.3)
stops_then makes grounds laws kinds.WriteFailed s mid pieces piece stand front later es fs text line m n made none said t = cut_then es fs text line m n none said t
stops_then makes grounds laws kinds.Endless s mid pieces piece stand front later es fs text line m n made none said t = absurd t

left_by : (kind : SessionEndKind) (old now : LinkState) → FaultsAt (Some kind) old now → (kind ≡ kinds.End → (now.waiting ≡ []) × IsAtEnd now.left) → (kind ≡ kinds.ReadFailed → now.waiting ≡ []) → LeftBy kind old now
left_by kinds.End old now faults quiet still = (faults, (quiet refl).0, (quiet refl).1)
left_by kinds.ReadFailed old now faults quiet still = (faults.0, faults.1, still refl, faults.2)
left_by kinds.WriteFailed old now faults quiet still = faults
left_by kinds.Bye old now faults quiet still = faults
left_by kinds.TooLong old now faults quiet still = faults
left_by kinds.Worn old now faults quiet still = faults
left_by kinds.Memory old now faults quiet still = faults
left_by kinds.Endless old now faults quiet still = faults
left_by kinds.Foreign old now faults quiet still = faults

quiet_end : (kind : SessionEndKind) (old now : LinkState) → old.waiting ≡ [] → IsQuiet (Some kind) old now → kind ≡ kinds.End → (now.waiting ≡ []) × IsAtEnd now.left
quiet_end kind old now nothing quiet is = let q = rw is at quiet in (q.0 ∙ nothing, q.1)

quiet_failed : (kind : SessionEndKind) (old now : LinkState) → old.waiting ≡ [] → IsQuiet (Some kind) old now → kind ≡ kinds.ReadFailed → now.waiting ≡ []
quiet_failed kind old now nothing quiet is = let q = rw is at quiet in q ∙ nothing

pub stopping : {S K E : Type 0} (makes : S → List Exchange → S → Type 0) (grounds : S → ServedOver) (laws : AreLawful makes grounds) (told : K → LinkState) (when : FlushPolicy) (link now reading next : K) (kind : SessionEndKind) (stand stand_after : Stand) (state mid after : S) (reads count more : ℕ) (u : Unit {0}) → reads < most_reads
    → Going makes told when link now stand state mid reads count → IsFlush {E = E} (told now) (told reading) (Ok u) → StepsOn makes grounds told when reading next stand stand_after mid after (Some kind) more
    → Stopping makes grounds told when link next state after kind (count + more)
stopping makes grounds laws told when link now reading next kind stand stand_after state mid after reads count more u few s hand on =
    let t = on.steps in
    let cut = cut_more s.pieces t.piece stand s.stands in
    let before = appends_held (told link).held (told now).held (told reading).held (session_text s.turned) s.written hand.held in
    let sound = sound_then (told link) (told now) (told reading) s.sound (sound_hand_on (told now) (told reading) u hand) in
    record {
      pieces = s.pieces ++ t.piece ∷ [];
      front = (cut_of (joined s.pieces)).0 ++ t.front;
      later = t.later;
      turned = s.turned ++ t.turned;
      text = session_text s.turned ++ t.text;
      lines_are = ap (λ (c : Cut). c.0) cut ∙ ap (λ (l : List (List ℕ)). (cut_of (joined s.pieces)).0 ++ l) t.lines_are ∙ sym (append_assoc (cut_of (joined s.pieces)).0 t.front t.later);
      mean = mean_then (cut_of (joined s.pieces)).0 t.front s.turned t.turned s.mean t.mean;
      how = subst (λ (x : Stand). StopsTo kind (grounds state) (s.pieces ++ t.piece ∷ []) x ((cut_of (joined s.pieces)).0 ++ t.front) t.later (s.turned ++ t.turned) (session_text s.turned ++ t.text) (count + more)) (sym (ap (λ (c : Cut). c.1) cut))
          (stops_then makes grounds laws kind state mid s.pieces t.piece (cut_from stand t.piece).1 t.front t.later s.turned t.turned (session_text s.turned) t.text count more s.turns s.no_bye (refl, s.count_is) t.how);
      turns = laws.one_by_one state mid after s.turned t.turned s.turns t.turns;
      consumed = subst (λ (l : List ℕ). Consumes (told link).left (told next).left l) (joined_more s.pieces t.piece)
          (consumes_then (told link).left (told reading).left (told next).left (joined s.pieces) t.piece (subst (λ (l : Option (List ℕ)). Consumes (told link).left l (joined s.pieces)) (sym hand.left) s.consumed) t.consumed);
      written = appends_then (told link).held (told reading).held (told next).held (session_text s.turned) t.text before t.written;
      reads = reads_more (told link).reads (told now).reads (told reading).reads (told next).reads (length s.pieces) (rw s.made s.reads_are) hand.reads t.reads ∙ ap (λ (n : ℕ). up n (told link).reads) (sym (length_more s.pieces t.piece));
      few = omega (arith, length_more s.pieces t.piece, s.made);
      prompt = prompt_then told link s.pieces t.piece s.turned t.turned s.prompt (read_at makes grounds laws told when link now reading stand state mid reads count u t.turned s hand);
      gone = λ each. gone_then told link reading s.turned t.turned count more (s.gone each) s.count_is before sound (on.gone each hand.handed);
      leaves = left_by kind (told link) (told next) (faults_then (Some kind) (told link) (told reading) (told next) sound t.faults) (quiet_end kind (told reading) (told next) hand.handed t.quiet)
          (quiet_failed kind (told reading) (told next) hand.handed t.quiet);
      gave = stop_gave kind s.pieces t.piece s.gave t.gave;
    }

-- all lines of all reads were answered
said_all : {S K : Type 0} (makes : S → List Exchange → S → Type 0) (grounds : S → ServedOver) (laws : AreLawful makes grounds) (told : K → LinkState) (when : FlushPolicy) (link now : K) (stand : Stand) (state after : S) (reads count : ℕ) (kind : SessionEndKind) → (s : Going makes told when link now stand state after reads count) → reads ≤ most_reads
    → StopsTo kind (grounds state) s.pieces (cut_of (joined s.pieces)).1 (cut_of (joined s.pieces)).0 [] s.turned (session_text s.turned) count → LeftBy kind (told link) (told now) → GaveAll kind s.pieces → Stopping makes grounds told when link now state after kind count
said_all makes grounds laws told when link now stand state after reads count kind s few how leaves gave =
    record {
      pieces = s.pieces;
      front = (cut_of (joined s.pieces)).0;
      later = [];
      turned = s.turned;
      text = session_text s.turned;
      lines_are = sym (append-nil (cut_of (joined s.pieces)).0);
      mean = s.mean;
      how = how;
      turns = s.turns;
      consumed = s.consumed;
      written = s.written;
      reads = s.reads_are ∙ ap (λ (n : ℕ). up n (told link).reads) (sym s.made);
      few = omega (arith, s.made);
      prompt = s.prompt;
      gone = s.gone;
      leaves = leaves;
      gave = gave;
    }

pub stopping_endless : {S K : Type 0} (makes : S → List Exchange → S → Type 0) (grounds : S → ServedOver) (laws : AreLawful makes grounds) (told : K → LinkState) (when : FlushPolicy) (link now : K) (stand : Stand) (state after : S) (reads count : ℕ) → reads ≡ most_reads → Going makes told when link now stand state after reads count
    → Stopping makes grounds told when link now state after kinds.Endless count
stopping_endless makes grounds laws told when link now stand state after reads count all s =
    said_all makes grounds laws told when link now stand state after reads count kinds.Endless s (omega arith)
    ((s.no_bye, refl, subst (λ (x : Stand). IsSome x) (sym s.stands) s.is_open, s.made ∙ all), (refl, s.count_is)) s.sound s.gave

-- ---- the ending line

whole_by : (kind : SessionEndKind) (turned : List Exchange) (text : List ℕ) (count total : ℕ) → IsSaid turned text count → total ≡ count + ending_count kind → IsWhole kind turned (text ++ ending_line kind) total
whole_by kind turned text count total said sum = (ap (λ (l : List ℕ). l ++ ending_line kind) said.0, sum ∙ ap (λ (n : ℕ). n + ending_count kind) said.1)

ends_by : (kind : SessionEndKind) (grounds : ServedOver) (pieces : List (List ℕ)) (stand : Stand) (front later : List (List ℕ)) (turned : List Exchange) (text : List ℕ) (count : ℕ) → EndReason kind grounds pieces stand front later turned → IsWhole kind turned text count
    → Ends kind grounds pieces stand front later turned text count
ends_by kinds.WriteFailed grounds pieces stand front later turned text count reached whole = absurd reached
ends_by kinds.End grounds pieces stand front later turned text count reached whole = (reached, whole)
ends_by kinds.Bye grounds pieces stand front later turned text count reached whole = (reached, whole)
ends_by kinds.TooLong grounds pieces stand front later turned text count reached whole = (reached, whole)
ends_by kinds.Worn grounds pieces stand front later turned text count reached whole = (reached, whole)
ends_by kinds.Memory grounds pieces stand front later turned text count reached whole = (reached, whole)
ends_by kinds.ReadFailed grounds pieces stand front later turned text count reached whole = (reached, whole)
ends_by kinds.Endless grounds pieces stand front later turned text count reached whole = (reached, whole)
ends_by kinds.Foreign grounds pieces stand front later turned text count reached whole = (reached, whole)

-- how it ended, and what the link tells then
pub record Finished {S K : Type 0} (makes : S → List Exchange → S → Type 0) (grounds : S → ServedOver) (told : K → LinkState) (when : FlushPolicy) (link final : K) (state after : S) (end : SessionEndKind) (total : ℕ) : Type 0 where
  pub ended : Ran makes grounds told when link final state after end total
  pub leaves : Leaves end (told link) (told final)

-- behind a session that stopped so, this more was written, and that is how it ends
ended_then : {S K : Type 0} (makes : S → List Exchange → S → Type 0) (grounds : S → ServedOver) (laws : AreLawful makes grounds) (told : K → LinkState) (when : FlushPolicy) (link now final : K) (state after : S) (kind end : SessionEndKind) (count total : ℕ) (more : List ℕ) → (s : Stopping makes grounds told when link now state after kind count) → GaveAll end s.pieces → (length s.turned ≤ total → length s.turned ≤ count)
    → Ends end (grounds state) s.pieces (cut_of (joined s.pieces)).1 s.front s.later s.turned (s.text ++ more) total → Appends (told now).held (told final).held more → (told final).left ≡ (told now).left → (told final).reads ≡ (told now).reads
    → Ran makes grounds told when link final state after end total
ended_then makes grounds laws told when link now final state after kind end count total more s gave counted ends sent left reads =
    record {
      pieces = s.pieces;
      turned = s.turned;
      text = s.text ++ more;
      session = record { front = s.front; later = s.later; lines_are = s.lines_are; gave = gave; mean = s.mean; ends = ends };
      turns = s.turns;
      consumed = subst (λ (l : Option (List ℕ)). Consumes (told link).left l (joined s.pieces)) (sym left) s.consumed;
      written = appends_then (told link).held (told now).held (told final).held s.text more s.written sent;
      reads = reads ∙ s.reads;
      few = s.few;
      prompt = s.prompt;
      gone = λ each. gone_counted told link s.turned count total counted (s.gone each);
    }

-- nothing more was written
ended_so : {S K : Type 0} (makes : S → List Exchange → S → Type 0) (grounds : S → ServedOver) (laws : AreLawful makes grounds) (told : K → LinkState) (when : FlushPolicy) (link now final : K) (state after : S) (kind : SessionEndKind) (count : ℕ) → (s : Stopping makes grounds told when link now state after kind count)
    → Ends kind (grounds state) s.pieces (cut_of (joined s.pieces)).1 s.front s.later s.turned s.text count → told final ≡ told now → Ran makes grounds told when link final state after kind count
ended_so makes grounds laws told when link now final state after kind count s ends same =
    ended_then makes grounds laws told when link now final state after kind kind count count [] s s.gave (λ all. all)
    (subst (λ (l : List ℕ). Ends kind (grounds state) s.pieces (cut_of (joined s.pieces)).1 s.front s.later s.turned l count) (sym (append-nil s.text)) ends)
    (subst (λ (h : Option (List ℕ)). Appends (told now).held h []) (sym (ap (λ (x : LinkState). x.held) same)) (appends_none (told now).held)) (ap (λ (x : LinkState). x.left) same) (ap (λ (x : LinkState). x.reads) same)

closed_by : {S K : Type 0} (makes : S → List Exchange → S → Type 0) (grounds : S → ServedOver) (laws : AreLawful makes grounds) (told : K → LinkState) (when : FlushPolicy) (link now final : K) (state after : S) (kind end : SessionEndKind) (count total : ℕ) → (s : Stopping makes grounds told when link now state after kind count)
    → EndReason kind (grounds state) s.pieces (cut_of (joined s.pieces)).1 s.front s.later s.turned × IsSaid s.turned s.text count → IsSound (told link) (told now) → (IsSound (told link) (told final) → (told final).waiting ≡ [] → Leaves kind (told link) (told final))
    → (GaveAll kind s.pieces → AreNonEmptyReads s.pieces) → Closing kind (told now) (told final) count end total → Finished makes grounds told when link final state after end total
closed_by makes grounds laws told when link now final state after kind end count total s how sound leaves plain c = elim c.closed [
  | inl w ↦ rw w.0 record {
    ended = ended_then makes grounds laws told when link now final state after kind kind count total (ending_line kind) s s.gave (λ all. omega (arith, how.1.1))
        (ends_by kind (grounds state) s.pieces (cut_of (joined s.pieces)).1 s.front s.later s.turned (s.text ++ ending_line kind) total how.0 (whole_by kind s.turned s.text count total how.1 w.1)) w.2 c.left c.reads;
    leaves = leaves (sound_then (told link) (told now) (told final) sound w.3) w.4;
  }
  | inr w ↦ rw w.0 record {
    ended = elim w.2 [
      | inl v ↦ ended_then makes grounds laws told when link now final state after kind kinds.WriteFailed count total v.1.0 s (plain s.gave) (λ all. omega (arith, how.1.1))
          (inr (kind, how.0, inl (record { part = v.1.0; short = v.1.1; text_is = ap (λ (l : List ℕ). l ++ v.1.0) how.1.0; count_is = v.0 ∙ how.1.1 }))) v.1.2 c.left c.reads
      | inr v ↦ ended_then makes grounds laws told when link now final state after kind kinds.WriteFailed count total (ending_line kind) s (plain s.gave) (λ all. omega (arith, how.1.1))
          (inr (kind, how.0, inr (ap (λ (l : List ℕ). l ++ ending_line kind) how.1.0, v.0 ∙ how.1.1))) v.1 c.left c.reads
    ];
    leaves = fault_then (told link) (told now) (told final) sound w.1;
  }
]

said_whole : (turned : List Exchange) (text : List ℕ) (count : ℕ) → IsSaid turned text count → (text ≡ session_text turned ++ []) × (count ≡ length turned + 0)
said_whole turned text count said = (said.0 ∙ sym (append-nil (session_text turned)), omega (arith, said.1))

same_leaves : (kind : SessionEndKind) (old now final : LinkState) → final ≡ now → Leaves kind old now → Leaves kind old final
same_leaves kind old now final same leaves = subst (λ (x : LinkState). Leaves kind old x) (sym same) leaves

pub finished : {S K : Type 0} (makes : S → List Exchange → S → Type 0) (grounds : S → ServedOver) (laws : AreLawful makes grounds) (told : K → LinkState) (when : FlushPolicy) (link now final : K) (state after : S) (kind end : SessionEndKind) (count total : ℕ) → Stopping makes grounds told when link now state after kind count
    → Closes kind (told now) (told final) count end total → Finished makes grounds told when link final state after end total
finished makes grounds laws told when link now final state after kinds.End end count total s c =
    rw (c.0, c.1) record {
      ended = ended_so makes grounds laws told when link now final state after kinds.End count s (s.how.0, said_whole s.turned s.text count s.how.1) c.2;
      leaves = same_leaves kinds.End (told link) (told now) (told final) c.2 s.leaves;
    }
finished makes grounds laws told when link now final state after kinds.ReadFailed end count total s c =
    rw (c.0, c.1) record {
      ended = ended_so makes grounds laws told when link now final state after kinds.ReadFailed count s (s.how.0, said_whole s.turned s.text count s.how.1) c.2;
      leaves = same_leaves kinds.ReadFailed (told link) (told now) (told final) c.2 s.leaves;
    }
finished makes grounds laws told when link now final state after kinds.WriteFailed end count total s c =
    rw (c.0, c.1) record {
      ended = ended_so makes grounds laws told when link now final state after kinds.WriteFailed count s (inl s.how) c.2;
      leaves = same_leaves kinds.WriteFailed (told link) (told now) (told final) c.2 s.leaves;
    }
finished makes grounds laws told when link now final state after kinds.Bye end count total s c = closed_by makes grounds laws told when link now final state after kinds.Bye end count total s s.how s.leaves (λ sound nothing. (sound, nothing)) (λ g. g) c
finished makes grounds laws told when link now final state after kinds.TooLong end count total s c = closed_by makes grounds laws told when link now final state after kinds.TooLong end count total s s.how s.leaves (λ sound nothing. (sound, nothing)) (λ g. g) c
finished makes grounds laws told when link now final state after kinds.Worn end count total s c = closed_by makes grounds laws told when link now final state after kinds.Worn end count total s s.how s.leaves (λ sound nothing. (sound, nothing)) (λ g. g) c
finished makes grounds laws told when link now final state after kinds.Memory end count total s c = closed_by makes grounds laws told when link now final state after kinds.Memory end count total s s.how s.leaves (λ sound nothing. (sound, nothing)) (λ g. g) c
finished makes grounds laws told when link now final state after kinds.Endless end count total s c = closed_by makes grounds laws told when link now final state after kinds.Endless end count total s s.how s.leaves (λ sound nothing. (sound, nothing)) (λ g. g) c
finished makes grounds laws told when link now final state after kinds.Foreign end count total s c = closed_by makes grounds laws told when link now final state after kinds.Foreign end count total s s.how s.leaves (λ sound nothing. (sound, nothing)) (λ g. g) c

-- what was written could not be handed on before a read
pub not_handed_on : {S K E : Type 0} (makes : S → List Exchange → S → Type 0) (grounds : S → ServedOver) (laws : AreLawful makes grounds) (told : K → LinkState) (when : FlushPolicy) (link now final : K) (stand : Stand) (state after : S) (reads count : ℕ) (e : E) → reads ≤ most_reads → Going makes told when link now stand state after reads count
    → IsFlush (told now) (told final) (Err e) → Finished makes grounds told when link final state after kinds.WriteFailed count
not_handed_on makes grounds laws told when link now final stand state after reads count e few s hand =
    let all : EndReason kinds.End (grounds state) s.pieces (cut_of (joined s.pieces)).1 (cut_of (joined s.pieces)).0 [] s.turned = (s.no_bye, refl, subst (λ (x : Stand). IsSome x) (sym s.stands) s.is_open) in
    record {
      ended = record {
        pieces = s.pieces;
        turned = s.turned;
        text = session_text s.turned;
        session = record {
          front = (cut_of (joined s.pieces)).0;
          later = [];
          lines_are = sym (append-nil (cut_of (joined s.pieces)).0);
          gave = s.gave;
          mean = s.mean;
          ends = inr (kinds.End, all, inr (sym (append-nil (session_text s.turned)), s.count_is));
        };
        turns = s.turns;
        consumed = subst (λ (l : Option (List ℕ)). Consumes (told link).left l (joined s.pieces)) (sym hand.left) s.consumed;
        written = appends_held (told link).held (told now).held (told final).held (session_text s.turned) s.written hand.held;
        reads = hand.reads ∙ s.reads_are ∙ ap (λ (n : ℕ). up n (told link).reads) (sym s.made);
        few = omega (arith, s.made);
        prompt = s.prompt;
        gone = s.gone;
      };
      leaves = record { fault = inl (rw s.sound.failures at hand.failures, hand.stalls ∙ s.sound.stalls); ended = hand.ended ∙ s.sound.ended };
    }
