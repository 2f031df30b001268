-- From gates to files.
use Rattle.std.proofs.Common.{◌≡◌, ◌≢◌, inr, ℕ, ◌+◌, ◌-◌, ◌<◌, ◌≤◌, List, [], ◌∷◌, ◌++◌, length, get_or, take, drop, refl, sym, ◌∙◌, ap, subst, arith, append_assoc, length-append, length-drop, take-append-drop}
use Rattle.std.proofs.lemmas.List.{drop_more, drop-drop, take_at, get_or-drop}
use Rattle.record_file.specs.File.{Spelled, opened, record_of, all_said, bytes_in, header, IsNoRecord}
use Rattle.record_file.specs.Reading.{IsSplit}
use Rattle.record_file.proofs.Records.{AreFit-push, opened-push}
use Rattle.record_file.proofs.Walking.{behind_is}
use Rattle.earlier_file.specs.Cuts.{IsCutAt}
use Rattle.earlier_file.specs.Earlier.{HasTooFew}
use Rattle.earlier_file.specs.Facts.{HasRecordsAndTail}
use Rattle.earlier_file.specs.working.Walks.{IsWalked, HasNone, IsPlaced}
use Rattle.earlier_file.specs.declared.walking.Gate.{Gate}
use Rattle.earlier_file.proofs.Prefixes.{count_said}

-- the gate at an offset, and what stands behind it
gate_at : (bytes after : List ℕ) (at gate : ℕ) → at < length bytes → get_or bytes at 0 ≡ gate → after ≡ drop (at + 1) bytes → drop at bytes ≡ gate ∷ after
gate_at bytes after at gate inside is rest = drop_more bytes at 0 inside ∙ ap (λ (g : ℕ). g ∷ drop (at + 1) bytes) is ∙ ap (λ (l : List ℕ). gate ∷ l) (sym rest)

-- records in front of an open gate
in_front : (version count at : ℕ) (bytes after : List ℕ) (w : IsWalked version count at bytes) → get_or bytes at 0 ≡ 1 → after ≡ drop (at + 1) bytes → bytes ≡ opened w.records ++ 1 ∷ after
in_front version count at bytes after w is rest = w.is ∙ ap (λ (l : List ℕ). opened w.records ++ l) (gate_at bytes after at 1 w.inside is rest)

pub one_walked : (version count at epoch : ℕ) (bytes after line behind : List ℕ) → IsWalked version count at bytes → get_or bytes at 0 ≡ 1 → after ≡ drop (at + 1) bytes
    → IsSplit version epoch line behind after → IsWalked version (count + 1) (length bytes - length behind) bytes
one_walked version count at epoch bytes after line behind w is rest split =
    let r : Spelled = record { form = split.form; epoch = epoch; line = line } in
    let from : drop (length bytes - length behind) bytes ≡ behind =
    behind_is bytes (bytes_in split.form epoch line) behind (at + 1) (omega (arith, w.inside)) (sym rest ∙ split.is) in
    record {
      records = w.records ++ r ∷ [];
      fit = AreFit-push version w.records r w.fit split.fit;
      number = omega (arith, w.number, length-append w.records (r ∷ []));
      inside = omega (arith, split.some, ap length from, length-drop (length bytes - length behind) bytes);
      is = in_front version count at bytes after w is rest ∙ ap (λ (l : List ℕ). opened w.records ++ 1 ∷ l) split.is ∙ sym (opened-push w.records r behind)
          ∙ ap (λ (l : List ℕ). opened (w.records ++ r ∷ []) ++ l) (sym from);
    }

pub none_behind : (version count at : ℕ) (bytes after : List ℕ) → IsWalked version count at bytes → get_or bytes at 0 ≡ 1 → after ≡ drop (at + 1) bytes
    → IsNoRecord version after → HasNone version (count + 1) bytes
none_behind version count at bytes after w is rest none = record {
  records = w.records;
  fit = w.fit;
  number = omega (arith, w.number);
  rest = after;
  none = none;
  is = in_front version count at bytes after w is rest;
}

-- the whole file, by its header
headed : (file : List ℕ) (version : ℕ) → take 8 file ≡ header version → file ≡ header version ++ drop 8 file
headed file version is = sym (take-append-drop 8 file) ∙ ap (λ (l : List ℕ). l ++ drop 8 file) is

pub placed : (most version count at : ℕ) (file bytes : List ℕ) → take 8 file ≡ header version → bytes ≡ drop 8 file → count ≤ most → IsWalked version count at bytes
    → (count < most → get_or bytes at 0 ≢ 1) → IsPlaced most file (record { version = version; count = count; at = 8 + at })
placed most version count at file bytes head same few w stops = record {
  head = head;
  behind_header = omega arith;
  inside = omega (arith, w.inside, ap (λ (l : List ℕ). length l) same, length-drop 8 file);
  records = w.records;
  fit = w.fit;
  number = w.number;
  few = few;
  is = sym same ∙ w.is ∙ ap (λ (l : List ℕ). opened w.records ++ l) (ap (λ (l : List ℕ). drop at l) same ∙ drop-drop at 8 file);
  stops = λ less. subst (λ (g : ℕ). g ≢ 1) (ap (λ (l : List ℕ). get_or l at 0) same ∙ get_or-drop 8 file at 0) (stops less);
}

-- ---- a gate that was found

gate_offset : (most : ℕ) (file : List ℕ) (gate : Gate) (p : IsPlaced most file gate) → 8 + length (opened p.records) ≡ gate.at
gate_offset most file gate p =
    omega (arith, p.inside, p.behind_header, ap length p.is, length-append (opened p.records) (drop gate.at file), length-drop 8 file, length-drop gate.at file)

-- the file by its parts
parts : (most : ℕ) (file : List ℕ) (gate : Gate) (p : IsPlaced most file gate)
    → file ≡ header gate.version ++ (opened p.records ++ get_or file gate.at 0 ∷ drop (gate.at + 1) file)
parts most file gate p =
    headed file gate.version p.head ∙ ap (λ (l : List ℕ). header gate.version ++ l) (p.is ∙ ap (λ (l : List ℕ). opened p.records ++ l) (drop_more file gate.at 0 p.inside))

pub cut_there : (front : ℕ) (file : List ℕ) (gate : Gate) → IsPlaced front file gate → front ≤ gate.count → IsCutAt front file gate.at
cut_there front file gate p all =
    let ahead : List ℕ = header gate.version ++ opened p.records in
    let whole : file ≡ ahead ++ drop gate.at file =
    headed file gate.version p.head ∙ ap (λ (l : List ℕ). header gate.version ++ l) p.is ∙ sym (append_assoc (header gate.version) (opened p.records) (drop gate.at file)) in
    let taken : take gate.at file ≡ ahead =
    ap (λ (l : List ℕ). take gate.at l) whole ∙ take_at ahead (drop gate.at file) gate.at (omega (arith, length-append (header gate.version) (opened p.records), gate_offset front file gate p)) in
    record {
      inside = p.inside;
      first = record {
        version = gate.version;
        records = p.records;
        fit = p.fit;
        number = omega (arith, p.number, p.few, all);
        gate = get_or file gate.at 0;
        rest = drop (gate.at + 1) file;
        bytes = parts front file gate p;
        earlier_is = ap (λ (l : List ℕ). l ++ 0 ∷ []) taken ∙ append_assoc (header gate.version) (opened p.records) (0 ∷ []);
      };
    }

pub too_few : (front : ℕ) (file : List ℕ) (gate : Gate) → IsPlaced front file gate → gate.count < front → HasTooFew front file gate.count
too_few front file gate p fewer = record {
  said = all_said p.records;
  stands = inr (record {
    version = gate.version;
    records = p.records;
    fit = p.fit;
    say = refl;
    gate = get_or file gate.at 0;
    closed = p.stops fewer;
    rest = drop (gate.at + 1) file;
    bytes = parts front file gate p;
  });
  number_is = omega (arith, p.number, count_said p.records (all_said p.records) refl);
  more = fewer;
}

-- a record takes more than one byte
fewer_than_bytes : (rs : List Spelled) → length rs ≤ length (opened rs)
fewer_than_bytes [] = omega arith
fewer_than_bytes (r ∷ rs) = omega (arith, fewer_than_bytes rs, length-append (1 ∷ record_of r) (opened rs))

pub told_of : (file : List ℕ) (gate : Gate) → IsPlaced (length file) file gate → HasRecordsAndTail file gate.version gate.count (length file - gate.at - 1)
told_of file gate p =
    let offset = gate_offset (length file) file gate p in
    record {
      said = all_said p.records;
      end = 9 + length (opened p.records);
      reading = record {
        records = p.records;
        fit = p.fit;
        say = refl;
        gate = get_or file gate.at 0;
        closed = p.stops (omega (arith, p.number, fewer_than_bytes p.records, offset, p.inside));
        rest = drop (gate.at + 1) file;
        bytes = parts (length file) file gate p;
        size = refl;
      };
      number = omega (arith, p.number, count_said p.records (all_said p.records) refl);
      behind = omega (arith, offset, p.inside);
    }
