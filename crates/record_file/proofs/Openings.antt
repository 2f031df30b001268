-- Which records a file stands for, and what is left of it while it is opened.
use Rattle.std.proofs.Common.{◌≡◌, ◌≢◌, inl, inr, ℕ, ◌≤◌, List, [], ◌∷◌, ◌++◌, length, take, drop, refl, sym, ◌∙◌, ap, subst, arith, append_assoc, length-append}
use Rattle.std.proofs.lemmas.List.{take_at, drop_all, take_all, take-take}
use Rattle.line_disk.specs.Disk.{View, Leaves, LeavesAlways, LeavesOnly, IsTorn, IsShortened, Passes, Rests, written}
use Rattle.record_file.specs.File.{Said, Spelled, second_version, header, opened, all_said, AreFit, record_of, IsFileOf, Stands}
use Rattle.record_file.specs.Resting.{IsAtRest}
use Rattle.record_file.specs.declared.fault.OpenFault.{OpenFault}
use Rattle.record_file.specs.declared.fault.OpenFault.TheVariants.{Foreign, Damaged, Device, Memory}
use Rattle.record_file.specs.Opening.{KeepsFile, IsSynced, LeavesRefused, OnRefused}
use Rattle.record_file.specs.Reading.{IsReading}
use Rattle.record_file.proofs.Moments.{leaves, starts, goes_on}
use Rattle.record_file.proofs.Records.{same_parts, split_record}
use Rattle.record_file.proofs.Crash.{front, front_then, begins, length-front}

-- records behind open gates, up to a gate that is not open, are read in one way
pub one_reading : (version other : ℕ) (rs ss : List Spelled) (g h : ℕ) (x y : List ℕ) → AreFit version rs → AreFit other ss → g ≢ 1 → h ≢ 1 → opened rs ++ g ∷ x ≡ opened ss ++ h ∷ y → rs ≡ ss
one_reading version other [] [] g h x y fit fit' shut shut' same = refl
one_reading version other [] (s ∷ ss) g h x y fit fit' shut shut' same = let is : g ≡ 1 = cc in absurd (shut is)
one_reading version other (r ∷ rs) [] g h x y fit fit' shut shut' same = let is : h ≡ 1 = cc in absurd (shut' is)
one_reading version other (r ∷ rs) (s ∷ ss) g h x y fit fit' shut shut' same =
    let rest : (record_of r ++ opened rs) ++ g ∷ x ≡ (record_of s ++ opened ss) ++ h ∷ y = cc in
    let parts = split_record version other r s (opened rs ++ g ∷ x) (opened ss ++ h ∷ y) fit.0 fit'.0
    (sym (append_assoc (record_of r) (opened rs) (g ∷ x)) ∙ rest ∙ append_assoc (record_of s) (opened ss) (h ∷ y)) in
    (λ i. parts.0 i ∷ one_reading version other rs ss g h x y fit.1 fit'.1 shut shut' parts.1 i)

-- what stands behind the headers of one file
pub behind_header : (file : List ℕ) (version other : ℕ) (x y : List ℕ) → file ≡ header version ++ x → file ≡ header other ++ y → x ≡ y
behind_header file version other x y is is' = (same_parts (header version) (header other) x y refl (sym is ∙ is')).1

-- a file of records is of those alone
pub one_file : (ls ms : List Said) (file : List ℕ) → IsFileOf ls file → IsFileOf ms file → ls ≡ ms
one_file ls ms file a b =
    sym a.say ∙ ap all_said (one_reading a.version b.version a.records b.records a.gate b.gate a.rest b.rest a.fit b.fit a.closed b.closed (behind_header file a.version b.version _ _ a.bytes b.bytes)) ∙ b.say

no_records : (version : ℕ) (rs : List Spelled) (gate : ℕ) (rest file : List ℕ) → length file ≤ 9 → file ≡ header version ++ (opened rs ++ gate ∷ rest) → all_said rs ≡ []
no_records version [] gate rest file short is = refl
no_records version (r ∷ rs) gate rest file short is =
    absurd (omega (arith, ap length is, length-append (header version) (opened (r ∷ rs) ++ gate ∷ rest), length-append (opened (r ∷ rs)) (gate ∷ rest), length-append (1 ∷ record_of r) (opened rs)))

-- a new file stands for no records
pub new_records : (ls : List Said) (file : List ℕ) → length file ≤ 9 → Stands ls file → ls ≡ []
new_records ls file short (inl is) = is.1
new_records ls file short (inr is) = sym is.say ∙ no_records is.version is.records is.gate is.rest file short is.bytes

-- a file stands for one list
pub one_list : (ls ms : List Said) (file : List ℕ) → Stands ls file → Stands ms file → ls ≡ ms
one_list ls ms file (inl a) b = a.1 ∙ sym (new_records ms file a.0 b)
one_list ls ms file (inr a) (inl b) = new_records ls file b.0 (inr a) ∙ sym b.1
one_list ls ms file (inr a) (inr b) = one_file ls ms file a b

-- The file is as it was when the opening began, on the disk, and each crash since then kept its records.
pub record IsSettled (a b : View) : Type 0 where
  pub always : LeavesAlways (KeepsFile a.seen) a b
  pub only : LeavesOnly b a.seen
  pub seen : b.seen ≡ a.seen

-- the whole of a file is its front
same_front : (f c : List ℕ) → c ≡ f → c ≡ take (length c) f
same_front f c is = is ∙ sym (take_all (length c) f (omega (arith, ap length is)))

pub settled : (a : View) → LeavesOnly a a.seen → IsSettled a a
settled a only = record {
  always = starts (KeepsFile a.seen) a (λ c left. (λ ls stands. subst (Stands ls) (sym (only c left)) stands, (λ no_new. same_front a.seen c (only c left), λ none. only c left)));
  only = only;
  seen = refl;
}

pub settled_more : (a b z : View) → IsSettled a b → Rests b z → IsSettled a z
settled_more a b z s rest = record {
  always = goes_on (KeepsFile a.seen) (λ d c. c ≡ d) a b z s.always rest.0 (λ d c left same. (λ ls stands. subst (Stands ls) (sym (same ∙ s.only d left)) stands, (λ no_new. same_front a.seen c (same ∙ s.only d left), λ none. same ∙ s.only d left)));
  only = λ c left. let from = leaves (λ d c. c ≡ d) (λ d. refl) b z rest.0 c left in from.2 ∙ s.only from.0 from.1;
  seen = rest.1 ∙ s.seen;
}

-- while a new file is written
pub new_always : (a b z : View) → IsSettled a b → length a.seen ≤ 9 → Passes (IsTorn 0 9) b z → LeavesAlways (KeepsFile a.seen) a z
new_always a b z s short call = goes_on (KeepsFile a.seen) (IsTorn 0 9) a b z s.always call
    (λ d c left torn. (λ ls stands. inl (omega (arith, torn.no_longer, ap length (s.only d left)), new_records ls a.seen short stands), (λ no_new. absurd (omega (arith, no_new, short)), λ none. absurd (none [] (inl (short, refl))))))

module _ (version : ℕ) (said : List Said) (end : ℕ) (a : View) (reading : IsReading a.seen version said end) where
  is_file : IsFileOf said a.seen
  is_file = record { version = version; records = reading.records; fit = reading.fit; say = reading.say; gate = reading.gate; closed = reading.closed; rest = reading.rest; bytes = reading.bytes }

  size : end ≡ length (front version reading.records reading.gate)
  size = omega (arith, reading.size, length-front version reading.records reading.gate)

  whole : a.seen ≡ front version reading.records reading.gate ++ reading.rest
  whole = reading.bytes ∙ sym (front_then version reading.records reading.gate reading.rest)

  front_is : take end a.seen ≡ front version reading.records reading.gate
  front_is = ap (λ (l : List ℕ). take end l) whole ∙ take_at (front version reading.records reading.gate) reading.rest end (sym size)

  within : end ≤ length a.seen
  within = omega (arith, size, ap length whole, length-append (front version reading.records reading.gate) reading.rest)

  -- any cut keeps the records
  cut_keeps : (c : List ℕ) → IsShortened end a.seen c → KeepsFile a.seen c
  cut_keeps c cut =
      let long : end ≤ length c = omega (arith, cut.no_shorter, within) in
      let begins_so : take end c ≡ front version reading.records reading.gate = ap (λ (l : List ℕ). take end l) cut.front ∙ take-take end (length c) a.seen long ∙ front_is in (
        λ ls stands. subst (λ (l : List Said). Stands l c) (one_list said ls a.seen (inr is_file) stands) (inr (begins version reading.records said reading.gate end c reading.fit reading.say reading.closed begins_so)),
        (λ no_new. cut.front, λ none. absurd (none said (inr is_file))),
      )

  -- while what stands behind the closed gate is cut off
  pub cut_always : (b z : View) → IsSettled a b → Passes (IsShortened end) b z → LeavesAlways (KeepsFile a.seen) a z
  cut_always b z s call = goes_on (KeepsFile a.seen) (IsShortened end) a b z s.always call
      (λ d c left cut. cut_keeps c (subst (λ (f : List ℕ). IsShortened end f c) (s.only d left) cut))

  at_front : (z : View) → z.seen ≡ front version reading.records reading.gate → LeavesOnly z z.seen → IsAtRest version said end z
  at_front z is lasts = record { records = reading.records; fit = reading.fit; say = reading.say; gate = reading.gate; closed = reading.closed; file = is; size = size ∙ ap length (sym is); durable = lasts }

  pub cut_rests : (b z : View) → IsSettled a b → z.seen ≡ take end b.seen → LeavesOnly z z.seen → IsAtRest version said end z
  cut_rests b z s is lasts = at_front z (is ∙ ap (λ (l : List ℕ). take end l) s.seen ∙ front_is) lasts

  pub whole_rests : (b : View) → IsSettled a b → length a.seen ≤ end → IsAtRest version said end b
  whole_rests b s short = at_front b (s.seen ∙ sym (take_all end a.seen short) ∙ front_is) (λ c left. s.only c left ∙ sym s.seen)

-- a sync, and then a run at each moment of which a crash leaves a file that has P
pub synced : (P : List ℕ → Type 0) (a b z : View) → Rests a b → LeavesAlways P b z → IsSynced P a z
synced P a b z sync always = record {
  moment = b.clock;
  later = sync.0.later;
  sooner = always.later;
  past = λ k c le. (λ left. (sync.0.past k c le).0 ((always.past k c (omega (arith, le, sync.0.later))).0 left), λ left. (always.past k c (omega (arith, le, sync.0.later))).1 ((sync.0.past k c le).1 left));
  before = λ k c lt lt' left.
      let le : k ≤ b.clock = omega (arith, lt') in
      let from = sync.0.since k c lt le ((always.past k c le).0 left) in
      subst (λ (f : List ℕ). Leaves a f) (sym from.2) from.1;
  after = always.each;
}

pub refused_leaves : (fault : OpenFault) (a z : View) → OnRefused fault (IsSynced (λ c. c ≡ a.seen) a z) → IsSynced (KeepsFile a.seen) a z → LeavesRefused fault a z
refused_leaves Foreign a z same keeps = same
refused_leaves (Damaged k) a z same keeps = same
refused_leaves Device a z same keeps = inr keeps
refused_leaves Memory a z same keeps = inr same

pub on_refused : (fault : OpenFault) (P Q : Type 0) → (P → Q) → OnRefused fault P → OnRefused fault Q
on_refused Foreign P Q f p = f p
on_refused (Damaged k) P Q f p = f p
on_refused Device P Q f p = tt
on_refused Memory P Q f p = f p

pub untouched : (a : View) → Passes (λ d c. c ≡ d) a a
untouched a = record {
  later = omega arith;
  past = λ k c le. (λ left. left, λ left. left);
  since = λ k c lt le left. absurd (omega (arith, lt, le));
}

take_none : (l : List ℕ) → take 0 l ≡ []
take_none [] = refl
take_none (x ∷ l) = refl

-- a new file
pub new_rests : (old : List ℕ) (said : List Said) (z : View) → length old ≤ 9 → said ≡ [] → z.seen ≡ written old 0 (front second_version [] 0) → LeavesOnly z z.seen → IsAtRest second_version said 9 z
new_rests old said z short none is lasts =
    let file : z.seen ≡ front second_version [] 0 =
    is ∙ ap (λ (l : List ℕ). l ++ front second_version [] 0 ++ drop 9 old) (take_none old) ∙ ap (λ (l : List ℕ). front second_version [] 0 ++ l) (drop_all 9 old short) in
    record { records = []; fit = tt; say = sym none; gate = 0; closed = λ (e : 0 ≡ 1). omega arith; file = file; size = ap length (sym file); durable = lasts }
