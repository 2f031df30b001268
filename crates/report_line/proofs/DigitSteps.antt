-- Reading digits one after the other, as a loop does.
use Rattle.std.proofs.Common.{◌≡◌, ℕ, ◌+◌, ◌-◌, ◌*◌, ◌^◌, ◌<◌, ◌≤◌, true, false, ltb, List, ◌∷◌, length, get_or, drop, Option, Some, None, refl, sym, ◌∙◌}
use Rattle.std.specs.Char.{is_ascii_digit}
use Rattle.std.proofs.lemmas.Bool.{lt-ltb, le-ltb}
use Rattle.std.proofs.lemmas.List.{at_drop_more, at_drop_all}
use Rattle.report_line.specs.working.Numbers.{digits_from}

pub digits_more : (n : ℕ) (ds : List ℕ) (i m : ℕ) (total : Option ℕ) → i < length ds → is_ascii_digit (get_or ds i 0) ≡ true → n * 10 + (get_or ds i 0 - 48) ≡ m → m < 2 ^ 32
    → digits_from n (drop i ds) ≡ total → digits_from m (drop (i + 1) ds) ≡ total
unfolding digits_from
digits_more n ds i m total lt digit is small so_far =
    let one : digits_from n (drop i ds) ≡ digits_from n (get_or ds i 0 ∷ drop (i + 1) ds) = at_drop_more (digits_from n) ds i 0 lt in
    let fits : ltb m (2 ^ 32) ≡ true = lt-ltb _ _ small in
    let two : digits_from n (get_or ds i 0 ∷ drop (i + 1) ds) ≡ digits_from m (drop (i + 1) ds) = rw (digit, is, fits) refl in
    sym two ∙ sym one ∙ so_far

pub digits_wrong : (n : ℕ) (ds : List ℕ) (i : ℕ) (total : Option ℕ) → i < length ds → is_ascii_digit (get_or ds i 0) ≡ false
    → digits_from n (drop i ds) ≡ total → total ≡ None
unfolding digits_from
digits_wrong n ds i total lt digit so_far =
    let one : digits_from n (drop i ds) ≡ digits_from n (get_or ds i 0 ∷ drop (i + 1) ds) = at_drop_more (digits_from n) ds i 0 lt in
    let two : digits_from n (get_or ds i 0 ∷ drop (i + 1) ds) ≡ None = rw digit refl in
    sym so_far ∙ one ∙ two

pub digits_large : (n : ℕ) (ds : List ℕ) (i m : ℕ) (total : Option ℕ) → i < length ds → is_ascii_digit (get_or ds i 0) ≡ true → n * 10 + (get_or ds i 0 - 48) ≡ m → 2 ^ 32 ≤ m
    → digits_from n (drop i ds) ≡ total → total ≡ None
unfolding digits_from
digits_large n ds i m total lt digit is large so_far =
    let one : digits_from n (drop i ds) ≡ digits_from n (get_or ds i 0 ∷ drop (i + 1) ds) = at_drop_more (digits_from n) ds i 0 lt in
    let no : ltb m (2 ^ 32) ≡ false = le-ltb _ _ large in
    let two : digits_from n (get_or ds i 0 ∷ drop (i + 1) ds) ≡ None = rw (digit, is, no) refl in
    sym so_far ∙ one ∙ two

pub digits_end : (n : ℕ) (ds : List ℕ) (i : ℕ) (total : Option ℕ) → length ds ≤ i → digits_from n (drop i ds) ≡ total → total ≡ Some n
unfolding digits_from
digits_end n ds i total le so_far = sym so_far ∙ at_drop_all (digits_from n) ds i le
