-- Names in a row, parted by commas.
use Rattle.std.proofs.Common.{◌≡◌, ◌≢◌, ℕ, true, false, eqb, List, [], ◌∷◌, ◌++◌, length, refl, sym, ap, subst, ◌∙◌, IsTrue, arith, append_assoc, inl, inr}
use Rattle.std.specs.Prelude.{◌&&◌, nat_le, codes, OnOk, OnErr, Result, Ok, Err, Some, None, Bool, ◌↔◌, ◌+◌}
use Rattle.std.specs.List.{list_all, join_with_byte, slice_split, count_by}
use Rattle.std.proofs.lemmas.Bool.{cases_Bool, true≢false}
use Rattle.std.proofs.lemmas.List.Splits.{slice_split_none, slice_split_at, length-slice_split, join_with_byte-slice_split}
use Rattle.std.proofs.lemmas.List.Elements.{All-from_recursion}
use Rattle.report_line.specs.Names.{is_letter, is_name_byte, is_name, parts_in, first_wrong, wrong_part}
use Rattle.report_line.specs.Cuts.{Lacks}
use Rattle.report_line.specs.working.Rows.{named_in, appended}
use Rattle.report_line.specs.Spelling.{AreNames, names_text}
use Rattle.report_line.proofs.Cutting.{and_both, cut_same, Lacks-uncut}
use Rattle.report_line.proofs.Plain.{Lacks-name, byte_44, letter_44}

parts-join : (w : List ℕ) (ws : List (List ℕ)) → AreNames (w ∷ ws) → parts_in (join_with_byte 44 (w ∷ ws)) ≡ w ∷ ws
unfolding parts_in
parts-join w [] h = slice_split_none (λ b. eqb b 44) w (All-from_recursion (λ b. eqb b 44 ≡ false) w (Lacks-name 44 w byte_44 letter_44 h.0))
parts-join w (v ∷ vs) h =
    slice_split_at (λ b. eqb b 44) w 44 (join_with_byte 44 (v ∷ vs)) (All-from_recursion (λ b. eqb b 44 ≡ false) w (Lacks-name 44 w byte_44 letter_44 h.0)) refl
    ∙ ap (λ (ps : List (List ℕ)). w ∷ ps) (parts-join v vs h.1)

-- a name does not begin as `-` does
first_letter : (b : ℕ) (bs rest : List ℕ) → IsTrue (is_name (b ∷ bs)) → (b ∷ rest) ≢ (45 ∷ [])
unfolding is_name is_letter
first_letter b bs rest is e =
    let same : b ≡ 45 = cc in
    let outer = and_both (is_letter b && nat_le (length bs) 31) (list_all is_name_byte bs) is in
    let inner = and_both (is_letter b) (nat_le (length bs) 31) outer.0 in
    let wrong : is_letter 45 ≡ true = subst (λ (x : ℕ). is_letter x ≡ true) same inner.0 in
    cc

no_name : IsTrue (is_name []) → ⊥
unfolding is_name
no_name is = cc

not_dash : (n : List ℕ) (ns : List (List ℕ)) → AreNames (n ∷ ns) → names_text (n ∷ ns) ≢ codes "-"
not_dash [] ns are e = no_name are.0
not_dash (b ∷ bs) [] are e = first_letter b bs bs are.0 e
not_dash (b ∷ bs) (m ∷ ns) are e = first_letter b bs (bs ++ 44 ∷ join_with_byte 44 (m ∷ ns)) are.0 e

-- ---- what is read

-- names, each with a comma behind it, and then the rest
abbrev pub prefixed : List (List ℕ) → List ℕ → List ℕ
prefixed [] rest = rest
prefixed (n ∷ ns) rest = n ++ 44 ∷ prefixed ns rest

prefixed_push : (ns : List (List ℕ)) (n rest : List ℕ) → prefixed (ns ++ n ∷ []) rest ≡ prefixed ns (n ++ 44 ∷ rest)
prefixed_push [] n rest = refl
prefixed_push (m ∷ ns) n rest = ap (λ (r : List ℕ). m ++ 44 ∷ r) (prefixed_push ns n rest)

join-prefixed : (ns : List (List ℕ)) (n : List ℕ) → names_text (ns ++ n ∷ []) ≡ prefixed ns n
join-prefixed [] n = refl
join-prefixed (m ∷ []) n = refl
join-prefixed (m ∷ k ∷ ns) n = ap (λ (r : List ℕ). m ++ 44 ∷ r) (join-prefixed (k ∷ ns) n)

names_push : (ns : List (List ℕ)) (n word : List ℕ) → AreNames ns → n ≡ word → IsTrue (is_name word) → AreNames (ns ++ n ∷ [])
names_push [] n word are same is = (rw same is, tt)
names_push (m ∷ ns) n word are same is = (are.0, names_push ns n word are.1 same is)

-- what a turn of the loop keeps
pub row_step : (word rest part behind : List ℕ) (old : List (List ℕ)) (n : List ℕ) (new : List (List ℕ)) → new ≡ old ++ n ∷ [] → word ≡ prefixed old rest → rest ≡ part ++ 44 ∷ behind → n ≡ part → AreNames old → IsTrue (is_name part)
    → AreNames new × (word ≡ prefixed new behind)
row_step word rest part behind old n new pushed e cut same are is = (
  subst AreNames (sym pushed) (names_push old n part are same is),
  e ∙ ap (prefixed old) (cut ∙ ap (λ (m : List ℕ). m ++ 44 ∷ behind) (sym same)) ∙ sym (prefixed_push old n behind) ∙ ap (λ (ns : List (List ℕ)). prefixed ns behind) (sym pushed),
)

-- what the last name gives
pub row_end : (word rest : List ℕ) (old : List (List ℕ)) (n : List ℕ) (new : List (List ℕ)) → new ≡ old ++ n ∷ [] → word ≡ prefixed old rest → n ≡ rest → AreNames old → IsTrue (is_name rest) → AreNames new × (word ≡ names_text new)
row_end word rest old n new pushed e same are is =
    (subst AreNames (sym pushed) (names_push old n rest are same is), e ∙ ap (prefixed old) (sym same) ∙ sym (join-prefixed old n) ∙ ap names_text (sym pushed))

-- ---- what is no row of names

-- the bytes are not one name or more, parted by commas
abbrev pub NoFirst : List ℕ → Type 0
NoFirst rest = (m : List ℕ) (ms : List (List ℕ)) → AreNames (m ∷ ms) → rest ≢ join_with_byte 44 (m ∷ ms)

Lacks-comma : (n : List ℕ) → IsTrue (is_name n) → Lacks 44 n
Lacks-comma n is = Lacks-name 44 n byte_44 letter_44 is

pub no_last : (rest : List ℕ) → Lacks 44 rest → is_name rest ≡ false → NoFirst rest
no_last rest lacks none m [] are e = true≢false (sym are.0 ∙ ap is_name (sym e) ∙ none)
no_last rest lacks none m (k ∷ ms) are e = Lacks-uncut 44 m (join_with_byte 44 (k ∷ ms)) (subst (Lacks 44) e lacks)

pub no_part : (rest part behind : List ℕ) → Lacks 44 part → rest ≡ part ++ 44 ∷ behind → is_name part ≡ false → NoFirst rest
no_part rest part behind lacks is none m [] are e = Lacks-uncut 44 part behind (subst (Lacks 44) (sym e ∙ is) (Lacks-comma m are.0))
no_part rest part behind lacks is none m (k ∷ ms) are e =
    let both = cut_same 44 part m behind (join_with_byte 44 (k ∷ ms)) lacks (Lacks-comma m are.0) (sym is ∙ e) in
    true≢false (sym are.0 ∙ ap is_name (sym both.0) ∙ none)

no_first_behind : (ns : List (List ℕ)) (rest : List ℕ) → AreNames ns → NoFirst rest → NoFirst (prefixed ns rest)
no_first_behind [] rest are none m ms row e = none m ms row e
no_first_behind (n ∷ ns) rest are none m [] row e = Lacks-uncut 44 n (prefixed ns rest) (subst (Lacks 44) (sym e) (Lacks-comma m row.0))
no_first_behind (n ∷ ns) rest are none m (k ∷ ms) row e =
    let both = cut_same 44 n m (prefixed ns rest) (join_with_byte 44 (k ∷ ms)) (Lacks-comma n are.0) (Lacks-comma m row.0) e in
    no_first_behind ns rest are.1 none k ms row.1 both.1

-- the bytes are no row of names
abbrev pub NoRow : List ℕ → Type 0
NoRow word = (ns : List (List ℕ)) → ¬ (AreNames ns × (word ≡ names_text ns))

pub no_row : (word : List ℕ) (ns : List (List ℕ)) (rest : List ℕ) → word ≢ codes "-" → word ≡ prefixed ns rest → AreNames ns → NoFirst rest → NoRow word
no_row word ns rest other e are none [] row = other row.1
no_row word ns rest other e are none (m ∷ ms) row = no_first_behind ns rest are none m ms row.0 (sym e ∙ row.1)

-- ---- one text

pub row_again : (ms ns : List (List ℕ)) → AreNames ms → AreNames ns → names_text ms ≡ names_text ns → ms ≡ ns
row_again [] [] g h e = refl
row_again [] (n ∷ ns) g h e = absurd (not_dash n ns h (sym e))
row_again (m ∷ ms) [] g h e = absurd (not_dash m ms g e)
row_again (m ∷ ms) (n ∷ ns) g h e = sym (parts-join m ms g) ∙ ap parts_in e ∙ parts-join n ns h

-- ---- the text that names are kept as

-- a text has a part, be it an empty one
some_part : (text : List ℕ) → parts_in text ≢ []
unfolding parts_in
some_part text none = let many = length-slice_split (λ b. eqb b 44) text in omega (arith, many, ap length none)

parts_joined : (text : List ℕ) → join_with_byte 44 (parts_in text) ≡ text
unfolding parts_in
parts_joined text = join_with_byte-slice_split 44 text

join_more : (w : List ℕ) (ws : List (List ℕ)) (name : List ℕ) → join_with_byte 44 (w ∷ ws) ++ 44 ∷ name ≡ join_with_byte 44 (w ∷ (ws ++ name ∷ []))
join_more w [] name = refl
join_more w (v ∷ vs) name = append_assoc w (44 ∷ join_with_byte 44 (v ∷ vs)) (44 ∷ name) ∙ ap (λ (rest : List ℕ). w ++ 44 ∷ rest) (join_more v vs name)

one_more : (text name : List ℕ) (ns : List (List ℕ)) → ns ≡ parts_in text → AreNames ns → IsTrue (is_name name) → parts_in (text ++ 44 ∷ name) ≡ ns ++ name ∷ []
one_more text name [] e are is = absurd (some_part text (sym e))
one_more text name (w ∷ ws) e are is =
    ap parts_in (ap (λ (t : List ℕ). t ++ 44 ∷ name) (sym (ap (join_with_byte 44) e ∙ parts_joined text)) ∙ join_more w ws name)
    ∙ parts-join w (ws ++ name ∷ []) (names_push (w ∷ ws) name name are refl is)

-- a name that is appended to the text is the last of its names
pub named_push : (text name : List ℕ) → AreNames (named_in text) → IsTrue (is_name name) → named_in (appended text name) ≡ named_in text ++ name ∷ []
named_push [] [] are is = absurd (no_name is)
named_push [] (b ∷ bs) are is = parts-join (b ∷ bs) [] (is, tt)
named_push (b ∷ bytes) name are is = one_more (b ∷ bytes) name (parts_in (b ∷ bytes)) refl are is

pub named_push_are : (text name : List ℕ) → AreNames (named_in text) → IsTrue (is_name name) → AreNames (named_in (appended text name))
named_push_are text name are is = subst AreNames (sym (named_push text name are is)) (names_push (named_in text) name name are refl is)

told_as : (text : List ℕ) (ns : List (List ℕ)) → ns ≡ parts_in text → names_text ns ≡ text
told_as text [] e = absurd (some_part text (sym e))
told_as text (w ∷ ws) e = ap (join_with_byte 44) e ∙ parts_joined text

-- the text is the word of its names
pub named_text : (text : List ℕ) → text ≢ [] → names_text (named_in text) ≡ text
named_text [] some = absurd (some refl)
named_text (b ∷ bytes) some = told_as (b ∷ bytes) (parts_in (b ∷ bytes)) refl

-- names of two texts are the same just where the texts are
pub named_same : (one other : List ℕ) → named_in one ≡ named_in other → one ≡ other
named_same [] [] e = refl
named_same [] (c ∷ cs) e = absurd (some_part (c ∷ cs) (sym e))
named_same (b ∷ bs) [] e = absurd (some_part (b ∷ bs) e)
named_same (b ∷ bs) (c ∷ cs) e = sym (parts_joined (b ∷ bs)) ∙ ap (join_with_byte 44) e ∙ parts_joined (c ∷ cs)

-- what is left of names is taken from the front
pub last_part : (rest : List ℕ) → Lacks 44 rest → parts_in rest ≡ rest ∷ []
unfolding parts_in
last_part rest lacks = slice_split_none (λ b. eqb b 44) rest (All-from_recursion (λ b. eqb b 44 ≡ false) rest lacks)

pub first_part : (rest part behind : List ℕ) → Lacks 44 part → rest ≡ part ++ 44 ∷ behind → parts_in rest ≡ part ∷ parts_in behind
unfolding parts_in
first_part rest part behind lacks is = ap (slice_split (λ b. eqb b 44)) is ∙ slice_split_at (λ b. eqb b 44) part 44 behind (All-from_recursion (λ b. eqb b 44 ≡ false) part lacks) refl

-- ---- the first part that is no name

pub wrong_here : (word rest part behind : List ℕ) → wrong_part word ≡ wrong_part rest → Lacks 44 part → rest ≡ part ++ 44 ∷ behind → is_name part ≡ false → Some part ≡ wrong_part word
wrong_here word rest part behind same lacks is other =
    let here : first_wrong (part ∷ parts_in behind) ≡ Some part = rw other refl in
    sym (same ∙ ap first_wrong (first_part rest part behind lacks is) ∙ here)

pub wrong_behind : (word rest part behind : List ℕ) → wrong_part word ≡ wrong_part rest → Lacks 44 part → rest ≡ part ++ 44 ∷ behind → is_name part ≡ true → wrong_part word ≡ wrong_part behind
wrong_behind word rest part behind same lacks is named =
    let here : first_wrong (part ∷ parts_in behind) ≡ first_wrong (parts_in behind) = rw named refl in
    same ∙ ap first_wrong (first_part rest part behind lacks is) ∙ here

pub wrong_last : (word rest : List ℕ) → wrong_part word ≡ wrong_part rest → Lacks 44 rest → is_name rest ≡ false → Some rest ≡ wrong_part word
wrong_last word rest same lacks other =
    let here : first_wrong (rest ∷ []) ≡ Some rest = rw other refl in
    sym (same ∙ ap first_wrong (last_part rest lacks) ∙ here)

pub none_wrong : (word rest : List ℕ) → wrong_part word ≡ wrong_part rest → Lacks 44 rest → is_name rest ≡ true → None ≡ wrong_part word
none_wrong word rest same lacks named =
    let here : first_wrong (rest ∷ []) ≡ None = rw named refl in
    sym (same ∙ ap first_wrong (last_part rest lacks) ∙ here)

none_wrong_are : (ns : List (List ℕ)) → first_wrong ns ≡ None → AreNames ns
none_wrong_are [] none = tt
none_wrong_are (n ∷ ns) none = elim (cases_Bool (is_name n)) [
  | inl named ↦ (named, none_wrong_are ns (rw named at none))
  | inr other ↦ absurd (let f : Some n ≡ None = (rw other at none) in cc)
]

none_wrong_in : (ns : List (List ℕ)) → AreNames ns → first_wrong ns ≡ None
none_wrong_in [] are = refl
none_wrong_in (n ∷ ns) are = let named : is_name n ≡ true = are.0 in rw named (none_wrong_in ns are.1)

-- a list without a wrong part is the text of names
pub right_row : (word : List ℕ) → wrong_part word ≡ None → (ns : List (List ℕ)) × AreNames ns × (word ≡ names_text ns)
right_row word none = (parts_in word, none_wrong_are (parts_in word) none, sym (told_as word (parts_in word) refl))

-- one with a wrong part is the text of none, unless it is `-`
pub wrong_row : (word part : List ℕ) → word ≢ codes "-" → wrong_part word ≡ Some part → NoRow word
wrong_row word part other wrong [] row = other row.1
wrong_row word part other wrong (n ∷ ns) row =
    let none : wrong_part word ≡ None = ap wrong_part row.1 ∙ ap first_wrong (parts-join n ns row.0) ∙ none_wrong_in (n ∷ ns) row.0 in
    cc

-- they are names
pub last_name : (rest : List ℕ) → Lacks 44 rest → AreNames (parts_in rest) → IsTrue (is_name rest)
last_name rest lacks are = (subst AreNames (last_part rest lacks) are).0

pub first_name : (rest part behind : List ℕ) → Lacks 44 part → rest ≡ part ++ 44 ∷ behind → AreNames (parts_in rest) → IsTrue (is_name part)
first_name rest part behind lacks cut are = (subst AreNames (first_part rest part behind lacks cut) are).0

pub first_taken_are : (rest part behind : List ℕ) → Lacks 44 part → rest ≡ part ++ 44 ∷ behind → AreNames (parts_in rest) → AreNames (parts_in behind)
first_taken_are rest part behind lacks cut are = (subst AreNames (first_part rest part behind lacks cut) are).1

-- what a push makes of the text
pub named_push_if : {E : Type 0} (text new name : List ℕ) (result : Result (Unit {0}) E) → OnOk result (new ≡ appended text name) → OnErr result (new ≡ text) → AreNames (named_in text) → IsTrue (is_name name) → AreNames (named_in new)
named_push_if text new name (Ok u) ok err are is = subst (λ (t : List ℕ). AreNames (named_in t)) (sym ok) (named_push_are text name are is)
named_push_if text new name (Err e) ok err are is = subst (λ (t : List ℕ). AreNames (named_in t)) (sym err) are

-- texts of the same names are the same
pub same_texts : (one other : List ℕ) (ms ns : List (List ℕ)) (b : Bool) → named_in one ≡ ms → named_in other ≡ ns → (IsTrue b ↔ (one ≡ other)) → (IsTrue b ↔ (ms ≡ ns))
same_texts one other ms ns b of_one of_other told = (
  λ is. sym of_one ∙ ap named_in (told.0 is) ∙ of_other,
  λ same. told.1 (named_same one other (of_one ∙ same ∙ sym of_other)),
)

pub named_pushed : {E : Type 0} (text new name : List ℕ) (result : Result (Unit {0}) E) → OnOk result (new ≡ appended text name) → AreNames (named_in text) → IsTrue (is_name name) → OnOk result (named_in new ≡ named_in text ++ name ∷ [])
named_pushed text new name (Ok u) ok are is = ap named_in ok ∙ named_push text name are is
named_pushed text new name (Err e) ok are is = tt

-- one name more than there are commas
pub named_count : (text : List ℕ) → text ≢ [] → length (named_in text) ≡ count_by (λ b. eqb b 44) text + 1
unfolding parts_in
named_count [] some = absurd (some refl)
named_count (b ∷ bytes) some = length-slice_split (λ c. eqb c 44) (b ∷ bytes)
