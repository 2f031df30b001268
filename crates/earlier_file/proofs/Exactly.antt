-- Each outcome comes where it has to, and the first records are read as such.
use Rattle.std.proofs.Common.{◌≡◌, inl, inr, ℕ, ◌<◌, ◌≤◌, List, [], ◌∷◌, ◌++◌, length, take, refl, sym, ◌∙◌, ap, subst, arith, length-append}
use Rattle.std.proofs.lemmas.Bool.{cases_lt}
use Rattle.std.specs.Prelude.{Vec, Result, Ok, Err, IfOk, IfErr, MatchResult}
use Rattle.std.specs.declared.alloc.Global.{Global}
use Rattle.record_file.specs.File.{Said, header, opened, all_said, AreFit, second_version, Stands, IsFileOf, IsDamaged, IsNoRecord}
use Rattle.record_file.specs.Reading.{IsReading}
use Rattle.record_file.proofs.Openings.{behind_header, one_list, new_records}
use Rattle.record_file.proofs.Exclusion.{foreign_stands, damaged_stands, damaged_foreign, one_damage}
use Rattle.earlier_file.specs.Earlier.{HasFirst, IsFirst, IsRefusedAt, IsReadAsFirst}
use Rattle.earlier_file.specs.Facts.{AreFacts, IsUnread}
use Rattle.earlier_file.specs.declared.fault.EarlierFault.{EarlierFault}
use Rattle.earlier_file.specs.declared.fault.EarlierFault.TheVariants.{Foreign, Damaged, Short, Memory}
use Rattle.earlier_file.specs.declared.fault.FileFault.{FileFault}
use Rattle.earlier_file.specs.declared.fault.FileFault.TheVariants as unread
use Rattle.earlier_file.specs.declared.found.FileFacts.{FileFacts}
use Rattle.earlier_file.proofs.Prefixes.{prefix, not_closed, not_broken, same_version, first_said, count_said}

has_damaged : (front k : ℕ) (file earlier : List ℕ) → HasFirst front file earlier → k ≤ front → IsDamaged k file → ⊥
has_damaged front k file earlier has within damaged =
    let version = same_version file damaged.version has.version _ _ damaged.bytes has.bytes in
    not_broken has.version damaged.records has.records damaged.rest (has.gate ∷ has.rest) (subst (λ (v : ℕ). AreFit v damaged.records) version damaged.fit) has.fit
    (omega (arith, damaged.number, has.number, within)) (omega arith) (subst (λ (v : ℕ). IsNoRecord v damaged.rest) version damaged.none)
    (behind_header file damaged.version has.version _ _ damaged.bytes has.bytes)

first_damaged : (front k : ℕ) (file earlier : List ℕ) → IsFirst front file earlier → k ≤ front → IsDamaged k file → ⊥
first_damaged front k file earlier (inl new) within damaged = omega (arith, new.0, damaged.long_enough)
first_damaged front k file earlier (inr first) within damaged = has_damaged front k file earlier first.1 within damaged

has_few : (front : ℕ) (file earlier : List ℕ) (said : List Said) → HasFirst front file earlier → IsFileOf said file → length said < front → ⊥
has_few front file earlier said has is few =
    let version = same_version file is.version has.version _ _ is.bytes has.bytes in
    not_closed has.version is.records has.records is.gate is.rest (has.gate ∷ has.rest) (subst (λ (v : ℕ). AreFit v is.records) version is.fit) has.fit
    (omega (arith, count_said is.records said is.say, has.number, few)) is.closed (behind_header file is.version has.version _ _ is.bytes has.bytes)

first_few : (front : ℕ) (file earlier : List ℕ) (said : List Said) → IsFirst front file earlier → Stands said file → length said < front → ⊥
first_few front file earlier said (inl new) stands few = omega (arith, new.1, few)
first_few front file earlier said (inr first) (inl new) few = omega (arith, first.0, new.0)
first_few front file earlier said (inr first) (inr is) few = has_few front file earlier said first.1 is few

-- ---- what first_records answers

abbrev Answer : Type 0
Answer = Result (Vec ℕ Global) EarlierFault

abbrev IsFirstBytes : ℕ → List ℕ → Answer → Type 0
IsFirstBytes front file result = IfOk result (λ earlier. IsFirst front file earlier.items)

abbrev IsToldSo : ℕ → List ℕ → Answer → Type 0
IsToldSo front file result = IfErr result (IsRefusedAt front file)

pub damaged_alone : (front : ℕ) (file : List ℕ) (result : Answer) → IsFirstBytes front file result → IsToldSo front file result → (k : ℕ) → k ≤ front → IsDamaged k file → result ≡ Err (Damaged k)
damaged_alone front file (Ok earlier) made told k within damaged = absurd (first_damaged front k file earlier.items made within damaged)
damaged_alone front file (Err Foreign) made told k within damaged = absurd (damaged_foreign file k damaged told)
damaged_alone front file (Err (Damaged j)) made told k within damaged = ap (λ (n : ℕ). Err (Damaged n)) (one_damage file j k told.0 damaged)
damaged_alone front file (Err (Short n)) made told k within damaged = absurd (damaged_stands file k told.said damaged told.stands)
damaged_alone front file (Err Memory) made told k within damaged = absurd (first_damaged front k file told.0 told.1 within damaged)

pub short_alone : (front : ℕ) (file : List ℕ) (result : Answer) → IsFirstBytes front file result → IsToldSo front file result → (said : List Said) → Stands said file → length said < front → result ≡ Err (Short (length said))
short_alone front file (Ok earlier) made told said stands few = absurd (first_few front file earlier.items said made stands few)
short_alone front file (Err Foreign) made told said stands few = absurd (foreign_stands file said told stands)
short_alone front file (Err (Damaged k)) made told said stands few = absurd (damaged_stands file k said told.0 stands)
short_alone front file (Err (Short n)) made told said stands few = ap (λ (m : ℕ). Err (Short m)) (told.number_is ∙ ap (λ (ss : List Said). length ss) (one_list told.said said file told.stands stands))
short_alone front file (Err Memory) made told said stands few = absurd (first_few front file told.0 said told.1 stands few)

pub kept_else : (front : ℕ) (file : List ℕ) (result : Answer) → IsToldSo front file result → (said : List Said) → Stands said file → front ≤ length said → IfErr result (λ e. e ≡ Memory)
kept_else front file (Ok earlier) told said stands enough = tt
kept_else front file (Err Foreign) told said stands enough = absurd (foreign_stands file said told stands)
kept_else front file (Err (Damaged k)) told said stands enough = absurd (damaged_stands file k said told.0 stands)
kept_else front file (Err (Short n)) told said stands enough = absurd (omega (arith, told.number_is, told.more, enough, ap (λ (ss : List Said). length ss) (one_list told.said said file told.stands stands)))
kept_else front file (Err Memory) told said stands enough = refl

pub behind_else : (front : ℕ) (file : List ℕ) (result : Answer) → IsToldSo front file result → (k : ℕ) → front < k → IsDamaged k file → IfErr result (λ e. e ≡ Memory)
behind_else front file (Ok earlier) told k behind damaged = tt
behind_else front file (Err Foreign) told k behind damaged = absurd (damaged_foreign file k damaged told)
behind_else front file (Err (Damaged j)) told k behind damaged = absurd (omega (arith, one_damage file j k told.0 damaged, told.1, behind))
behind_else front file (Err (Short n)) told k behind damaged = absurd (damaged_stands file k told.said damaged told.stands)
behind_else front file (Err Memory) told k behind damaged = refl

-- ---- the first records are read as such

has_read : (front : ℕ) (file earlier : List ℕ) (version : ℕ) (said : List Said) → HasFirst front file earlier → take 8 file ≡ header version → IsFileOf said file
    → front ≤ length said → IsReading earlier version (take front said) (length earlier)
has_read front file earlier version said has head is enough =
    let same = same_version file has.version is.version _ _ has.bytes is.bytes in
    let told : header version ≡ header has.version = sym head ∙ ap (λ (l : List ℕ). take 8 l) has.bytes in
    let versions : has.version ≡ version = cc in
    let first = prefix is.version has.records is.records (has.gate ∷ has.rest) (is.gate ∷ is.rest) (subst (λ (v : ℕ). AreFit v has.records) same has.fit) is.fit
    (omega (arith, has.number, enough, count_said is.records said is.say)) (behind_header file has.version is.version _ _ has.bytes is.bytes) in
    record {
      records = has.records;
      fit = subst (λ (v : ℕ). AreFit v has.records) versions has.fit;
      say = first_said (length has.records) has.records is.records first.0 ∙ ap (λ (n : ℕ). take n (all_said is.records)) has.number ∙ ap (λ (ss : List Said). take front ss) is.say;
      gate = 0;
      closed = λ e. omega (arith, e);
      rest = [];
      bytes = has.earlier_is ∙ ap (λ (v : ℕ). header v ++ (opened has.records ++ 0 ∷ [])) versions;
      size = omega (arith, ap length has.earlier_is, length-append (header has.version) (opened has.records ++ 0 ∷ []), length-append (opened has.records) (0 ∷ []));
    }

none_read : (front : ℕ) (earlier : List ℕ) (version : ℕ) (said : List Said) → said ≡ [] → version ≡ second_version → earlier ≡ header second_version ++ 0 ∷ []
    → front ≡ 0 → IsReading earlier version (take front said) (length earlier)
none_read front earlier version said none second is zero = record {
  records = [];
  fit = tt;
  say = ap (λ (n : ℕ). take n said) (sym zero);
  gate = 0;
  closed = λ e. omega (arith, e);
  rest = [];
  bytes = is ∙ ap (λ (v : ℕ). header v ++ 0 ∷ []) (sym second);
  size = ap length is;
}

pub read_so : (front : ℕ) (file earlier : List ℕ) → IsFirst front file earlier → IsReadAsFirst front file earlier
read_so front file earlier (inl new) version said (inl (short, second)) stands = none_read front earlier version said (new_records said file new.0 stands) second new.2 new.1
read_so front file earlier (inl new) version said (inr long) stands = absurd (omega (arith, new.0, long.0))
read_so front file earlier (inr first) version said (inl short) stands = absurd (omega (arith, first.0, short.0))
read_so front file earlier (inr first) version said (inr long) (inl new) = absurd (omega (arith, first.0, new.0))
read_so front file earlier (inr first) version said (inr long) (inr is) = elim (cases_lt (length said) front) [
  | inl few ↦ absurd (has_few front file earlier said first.1 is few)
  | inr enough ↦ has_read front file earlier version said first.1 long.1 is enough
]

pub reads_so : (front : ℕ) (file : List ℕ) (result : Answer) → IsFirstBytes front file result → IfOk result (λ earlier. IsReadAsFirst front file earlier.items)
reads_so front file (Ok earlier) made = read_so front file earlier.items made
reads_so front file (Err fault) made = tt

-- ---- what facts answers

abbrev Told : Type 0
Told = Result FileFacts FileFault

told_stands : (file : List ℕ) (told : FileFacts) → AreFacts file told → (said : List Said) × Stands said file × (length said ≡ told.records)
told_stands file told (inl new) = ([], inl (new.0, refl), sym new.2)
told_stands file told (inr has) = (
  has.1.said,
  inr (record {
    version = told.version;
    records = has.1.reading.records;
    fit = has.1.reading.fit;
    say = has.1.reading.say;
    gate = has.1.reading.gate;
    closed = has.1.reading.closed;
    rest = has.1.reading.rest;
    bytes = has.1.reading.bytes;
  }),
  has.1.number,
)

pub facts_stand : (file : List ℕ) (result : Told) → IfOk result (AreFacts file) → IfErr result (IsUnread file) → (said : List Said) → Stands said file
    → MatchResult result (λ told. told.records ≡ length said) (λ fault. ⊥)
facts_stand file (Ok told) ok err said stands = let t = told_stands file told ok in sym t.2 ∙ ap (λ (ss : List Said). length ss) (one_list t.0 said file t.1 stands)
facts_stand file (Err unread.Foreign) ok err said stands = foreign_stands file said err stands
facts_stand file (Err (unread.Damaged k)) ok err said stands = damaged_stands file k said err stands

pub facts_damaged : (file : List ℕ) (result : Told) → IfOk result (AreFacts file) → IfErr result (IsUnread file) → (k : ℕ) → IsDamaged k file → result ≡ Err (unread.Damaged k)
facts_damaged file (Ok told) ok err k damaged = let t = told_stands file told ok in absurd (damaged_stands file k t.0 damaged t.1)
facts_damaged file (Err unread.Foreign) ok err k damaged = absurd (damaged_foreign file k damaged err)
facts_damaged file (Err (unread.Damaged j)) ok err k damaged = ap (λ (n : ℕ). Err (unread.Damaged n)) (one_damage file j k err damaged)
