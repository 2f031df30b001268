-- What the first bytes of a stream tell, and what is given of them.
use Rattle.std.proofs.Common.{suc, subst, Result, Ok, Err, ◌≡◌, ◌≢◌, ◌⊎◌, ℕ, ◌+◌, ◌-◌, ◌<◌, ◌≤◌, ◌==◌, max, Bool, true, false, if◌then◌else◌, List, [], ◌∷◌, ◌++◌, length, take, drop, slice_range, slice_set, take-add, Option, Some, None, option_map, refl, sym, ap, ◌∙◌, inl, inr, append_assoc, arith}
use Rattle.std.specs.Io.KnownBytes.{Consumes, Keeps, IsAtEnd, ReadConsumes}
use Rattle.std.proofs.lemmas.List.{append-nil, drop-drop, length-take-le}
use Rattle.std.proofs.Math.Seq.{take-append_seam, take-suc-set}
use Rattle.client_link.specs.Requests.{look, either, look_all, methods, given_by, from_client}
use Rattle.client_link.specs.Connections.{given_of}
use Rattle.client_link.specs.declared.request.Look.{Look}
use Rattle.client_link.specs.declared.request.Look.TheVariants.{Whole, Part, Other}

-- ---- more bytes behind those that were looked at

word_whole : (word bytes later : List ℕ) → look bytes word ≡ Whole → look (bytes ++ later) word ≡ Whole
word_whole [] bytes later h = refl
word_whole (w ∷ word) [] later h = absurd (cc)
word_whole (w ∷ word) (b ∷ bytes) later h =
    let go : (t : Bool) → (if t then look bytes word else Other) ≡ Whole → (if t then look (bytes ++ later) word else Other) ≡ Whole =
    λ t. elim t as (λ t. (if t then look bytes word else Other) ≡ Whole → (if t then look (bytes ++ later) word else Other) ≡ Whole) [ true ↦ word_whole word bytes later | false ↦ λ k. absurd (cc) ] in
    go (b == w) h

word_other : (word bytes later : List ℕ) → look bytes word ≡ Other → look (bytes ++ later) word ≡ Other
word_other [] bytes later h = absurd (cc)
word_other (w ∷ word) [] later h = absurd (cc)
word_other (w ∷ word) (b ∷ bytes) later h =
    let go : (t : Bool) → (if t then look bytes word else Other) ≡ Other → (if t then look (bytes ++ later) word else Other) ≡ Other =
    λ t. elim t as (λ t. (if t then look bytes word else Other) ≡ Other → (if t then look (bytes ++ later) word else Other) ≡ Other) [ true ↦ word_other word bytes later | false ↦ λ k. refl ] in
    go (b == w) h

either_whole : (x y : Look) → either x y ≡ Whole → (x ≡ Whole) ⊎ (y ≡ Whole)
either_whole Whole y h = inl refl
either_whole Part Whole h = inr refl
either_whole Part Part h = absurd (cc)
either_whole Part Other h = absurd (cc)
either_whole Other y h = inr h

whole_or : (x : Look) → either x Whole ≡ Whole
whole_or Whole = refl
whole_or Part = refl
whole_or Other = refl

whole_stays : (words : List (List ℕ)) (bytes later : List ℕ) → look_all bytes words ≡ Whole → look_all (bytes ++ later) words ≡ Whole
whole_stays [] bytes later h = absurd (cc)
whole_stays (word ∷ words) bytes later h =
    elim (either_whole (look bytes word) (look_all bytes words) h) [
      | inl k ↦ ap (λ l. either l (look_all (bytes ++ later) words)) (word_whole word bytes later k)
      | inr k ↦ ap (λ l. either (look (bytes ++ later) word) l) (whole_stays words bytes later k) ∙ whole_or (look (bytes ++ later) word)
    ]

either_other : (x y : Look) → either x y ≡ Other → (x ≡ Other) × (y ≡ Other)
either_other Whole y h = absurd (cc)
either_other Part Whole h = absurd (cc)
either_other Part Part h = absurd (cc)
either_other Part Other h = absurd (cc)
either_other Other y h = (refl, h)

other_stays : (words : List (List ℕ)) (bytes later : List ℕ) → look_all bytes words ≡ Other → look_all (bytes ++ later) words ≡ Other
other_stays [] bytes later h = refl
other_stays (word ∷ words) bytes later h =
    let both = either_other (look bytes word) (look_all bytes words) h in
    ap (λ l. either l (look_all (bytes ++ later) words)) (word_other word bytes later both.0) ∙ other_stays words bytes later both.1

-- what was seen of the first bytes says what is given of all
seen_says : (seen : Look) (bytes later : List ℕ) → seen ≡ look_all bytes methods → given_of seen bytes later ≡ from_client (bytes ++ later)
seen_says Whole bytes later e = sym (ap (λ l. given_by l (bytes ++ later)) (whole_stays methods bytes later (sym e)))
seen_says Part bytes later e = refl
seen_says Other bytes later e = sym (ap (λ l. given_by l (bytes ++ later)) (other_stays methods bytes later (sym e)))

-- ---- a part of a method is short

longest : List (List ℕ) → ℕ
longest [] = 0
longest (word ∷ words) = max (length word) (longest words)

word_part : (word bytes : List ℕ) → look bytes word ≡ Part → length bytes < length word
word_part [] bytes h = absurd (cc)
word_part (w ∷ word) [] h = omega arith
word_part (w ∷ word) (b ∷ bytes) h =
    let go : (t : Bool) → (if t then look bytes word else Other) ≡ Part → length bytes < length word =
    λ t. elim t as (λ t. (if t then look bytes word else Other) ≡ Part → length bytes < length word) [ true ↦ word_part word bytes | false ↦ λ k. absurd (cc) ] in
    let less = go (b == w) h in
    omega (arith, less)

either_part : (x y : Look) → either x y ≡ Part → (x ≡ Part) ⊎ (y ≡ Part)
either_part Whole y h = absurd (cc)
either_part Part y h = inl refl
either_part Other y h = inr h

part_below : (words : List (List ℕ)) (bytes : List ℕ) → look_all bytes words ≡ Part → length bytes < longest words
unfolding longest
part_below [] bytes h = absurd (cc)
part_below (word ∷ words) bytes h =
    elim (either_part (look bytes word) (look_all bytes words) h) [
      | inl k ↦ (let less = word_part word bytes k in omega (arith, less))
      | inr k ↦ (let less = part_below words bytes k in omega (arith, less))
    ]

pub part_is_short : (bytes : List ℕ) → look_all bytes methods ≡ Part → length bytes < 8
unfolding longest methods
part_is_short bytes h = part_below methods bytes h

-- ---- what is given stays the same

pub keeps_then : (a b c : Option (List ℕ)) → Keeps a b → Keeps b c → Keeps a c
keeps_then None b c p q = tt
keeps_then (Some xs) None c p q = absurd p
keeps_then (Some xs) (Some ys) None p q = absurd q
keeps_then (Some xs) (Some ys) (Some zs) p q = q ∙ p

-- a read fails
pub kept_by_fault : (seen : Look) (held : List ℕ) (a b : Option (List ℕ)) → Keeps a b → Keeps (option_map (given_of seen held) a) (option_map (given_of seen held) b)
kept_by_fault seen held None b p = tt
kept_by_fault seen held (Some xs) None p = absurd p
kept_by_fault seen held (Some xs) (Some ys) p = ap (given_of seen held) p

-- a read gives a byte, behind which the same is given
pub kept_by_byte : (f g : List ℕ → List ℕ) (byte : ℕ) (a b : Option (List ℕ)) → ((later : List ℕ) → g later ≡ f (byte ∷ later)) → Consumes a b (byte ∷ []) → Keeps (option_map f a) (option_map g b)
kept_by_byte f g byte None b same p = tt
kept_by_byte f g byte (Some xs) None same p = absurd p
kept_by_byte f g byte (Some xs) (Some ys) same p = same ys ∙ ap f (sym p)

-- the stream ends before its first bytes tell
pub kept_by_end : (held : List ℕ) (a b : Option (List ℕ)) → look_all held methods ≡ Part → Consumes a b [] → IsAtEnd b
    → Keeps (option_map (given_of Part held) a) (option_map (given_of Other held) b)
kept_by_end held None b e p end = tt
kept_by_end held (Some xs) None e p end = absurd p
kept_by_end held (Some xs) (Some ys) e p end =
    let none : held ++ xs ≡ held = ap (λ l. held ++ l) (p ∙ end) ∙ append-nil held in
    ap (λ l. held ++ l) end ∙ append-nil held ∙ sym (ap from_client none ∙ ap (λ l. given_by l held) e)

-- ---- giving what was held back

pub front_given : (first front later : List ℕ) (given n held : ℕ) → given + n ≤ held → front ≡ slice_range first given (given + n) → length front ≡ n
    → slice_range first given held ≡ take n (front ++ later) ++ slice_range first (given + n) held
front_given first front later given n held within is long =
    let parts : held - given ≡ n + (held - (given + n)) = omega arith in
    let all : take n (front ++ later) ≡ front = ap (λ k. take k (front ++ later)) (sym long) ∙ take-append_seam front later in
    let same : given + n - given ≡ n = omega arith in
    ap (λ k. take k (drop given first)) parts ∙ take-add n (held - (given + n)) (drop given first)
    ∙ ap (λ l. l ++ take (held - (given + n)) (drop n (drop given first))) (sym (all ∙ is ∙ ap (λ k. take k (drop given first)) same))
    ∙ ap (λ l. take n (front ++ later) ++ take (held - (given + n)) l) (drop-drop n given first)

-- ---- holding one byte more back

pub all_held : (first : List ℕ) (given held : ℕ) → given ≡ 0 → slice_range first given held ≡ take held first
all_held first given held none = let same : held - 0 ≡ held = omega arith in ap (λ k. slice_range first k held) none ∙ ap (λ k. take k first) same

pub more_says : (seen : Look) (first : List ℕ) (given held byte : ℕ) (later : List ℕ) → given ≡ 0 → held < length first → seen ≡ look_all (take (held + 1) (slice_set first held byte)) methods
    → given_of seen (slice_range (slice_set first held byte) given (held + 1)) later ≡ from_client (slice_range first given held ++ (byte ∷ later))
more_says seen first given held byte later none within e =
    let up : held + 1 ≡ suc held = omega arith in
    let more : take (held + 1) (slice_set first held byte) ≡ take held first ++ (byte ∷ []) = rw up (take-suc-set first held byte within) in
    ap (λ l. given_of seen l later) (all_held (slice_set first held byte) given (held + 1) none)
    ∙ seen_says seen (take (held + 1) (slice_set first held byte)) later e
    ∙ ap from_client (ap (λ l. l ++ later) more ∙ append_assoc (take held first) (byte ∷ []) later ∙ ap (λ l. l ++ (byte ∷ later)) (sym (all_held first given held none)))

-- what was read may still become a method, so there is room for more
pub room_for_more : (seen : Look) (first : List ℕ) (held : ℕ) → held < length first → seen ≡ look_all (take (held + 1) first) methods → seen ≡ Part → held + 1 < 8
room_for_more seen first held within e part =
    let short = part_is_short (take (held + 1) first) (sym e ∙ part) in
    let long = length-take-le (held + 1) first (omega arith) in
    omega (arith, short, long)

-- ---- reading past the first bytes

pub none_held : (first : List ℕ) (given held : ℕ) → held ≤ given → slice_range first given held ≡ []
none_held first given held le = let none : held - given ≡ 0 = omega arith in ap (λ k. take k (drop given first)) none

mapped : (a : Option (List ℕ)) → option_map (given_of Other []) a ≡ a
mapped None = refl
mapped (Some xs) = refl

kept_consumes : (o a b : Option (List ℕ)) (bytes : List ℕ) → Keeps o a → Consumes a b bytes → Consumes o b bytes
kept_consumes None a b bytes k p = tt
kept_consumes (Some xs) None b bytes k p = absurd k
kept_consumes (Some xs) (Some ys) None bytes k p = absurd p
kept_consumes (Some xs) (Some ys) (Some zs) bytes k p = sym k ∙ p

reads_on : {E : Type 0} (o a b : Option (List ℕ)) (r : Result ℕ E) (buf : List ℕ) → Keeps o a → ReadConsumes a b r buf → ReadConsumes o b r buf
reads_on o a b (Ok n) buf k p = (kept_consumes o a b (take n buf) k p.0, p.1)
reads_on o a b (Err e) buf k p = keeps_then o a b k p

pub read_past : {E : Type 0} (seen : Look) (held : List ℕ) (o a b : Option (List ℕ)) (r : Result ℕ E) (buf : List ℕ) → seen ≢ Whole → seen ≢ Part → held ≡ []
    → Keeps o (option_map (given_of seen held) a) → ReadConsumes a b r buf → ReadConsumes o (option_map (given_of seen held) b) r buf
read_past Whole held o a b r buf whole part none k p = absurd (whole refl)
read_past Part held o a b r buf whole part none k p = absurd (part refl)
read_past Other held o a b r buf whole part none k p =
    let before : option_map (given_of Other held) a ≡ a = ap (λ l. option_map (given_of Other l) a) none ∙ mapped a in
    let after : option_map (given_of Other held) b ≡ b = ap (λ l. option_map (given_of Other l) b) none ∙ mapped b in
    let kept : Keeps o a = subst (λ l. Keeps o l) before k in
    subst (λ l. ReadConsumes o l r buf) (sym after) (reads_on o a b r buf kept p)
