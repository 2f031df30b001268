-- Lines of a stream, one after the other.
use Rattle.std.proofs.Common.{◌≡◌, ◌≢◌, ℕ, suc, ◌+◌, ◌≤◌, ◌<◌, Bool, true, false, cond, eqb, ltb, List, [], ◌∷◌, ◌++◌, length, length-append, take, Option, Some, None, refl, sym, ap, subst, ◌∙◌, append_assoc, arith}
use Rattle.std.specs.Prelude.{◌&&◌, ◌↔◌, IsTrue, slice_get, unwrap_or, get_or}
use Rattle.std.proofs.lemmas.List.{append-nil, take_more, length-take-le}
use Rattle.std.proofs.lemmas.List.Folds.{list_all-append}
use Rattle.std.proofs.lemmas.Option.{slice_get_within, unwrap_or-slice_get}
use Rattle.report_line.specs.Cutting.{Stand, onto, cut_from, cut_of}
use Rattle.report_line.proofs.Streams.{cut_append}
use Rattle.line_explain.specs.declared.explained.Explained.{Explained}
use Rattle.line_explain.specs.declared.explained.Explained.TheVariants.{TooLong}
use Rattle.line_explain.specs.declared.stream.Explanations.{Explanations}
use Rattle.line_explain.specs.declared.stream.Said.{Said}
use Rattle.line_explain.specs.Streams.{AreExplained, AreTold, told_line, told_lines, is_call, are_calls, IsAfter, Goes}
use Rattle.line_explain.specs.working.Streams.{AreToldBy, IsSaid, IsLineSaid}

-- ---- lines that are told

pub AreExplained-append : (xs ys : List (List ℕ)) (es fs : List Explained) → AreExplained xs es → AreExplained ys fs → AreExplained (xs ++ ys) (es ++ fs)
AreExplained-append [] ys [] fs are others = others
AreExplained-append [] ys (e ∷ es) fs are others = absurd are
AreExplained-append (x ∷ xs) ys [] fs are others = absurd are
AreExplained-append (x ∷ xs) ys (e ∷ es) fs are others = (are.0, AreExplained-append xs ys es fs are.1 others)

pub one_each : (xs : List (List ℕ)) (es : List Explained) → AreExplained xs es → length es ≡ length xs
one_each [] [] are = refl
one_each [] (e ∷ es) are = absurd are
one_each (x ∷ xs) [] are = absurd are
one_each (x ∷ xs) (e ∷ es) are = ap suc (one_each xs es are.1)

pub told_lines-append : (first : ℕ) (es fs : List Explained) → told_lines first (es ++ fs) ≡ told_lines first es ++ told_lines (first + length es) fs
told_lines-append first [] fs = ap (λ (n : ℕ). told_lines n fs) (omega arith)
told_lines-append first (e ∷ es) fs =
    ap (λ (l : List ℕ). told_line first e ++ l) (told_lines-append (first + 1) es fs ∙ ap (λ (n : ℕ). told_lines (first + 1) es ++ told_lines n fs) (omega arith))
    ∙ sym (append_assoc (told_line first e) (told_lines (first + 1) es) (told_lines (first + length (e ∷ es)) fs))

none_call : (b : Bool) → (b && false) ≡ false
none_call true = refl
none_call false = refl

one_call : (b : Bool) → (b && true) ≡ b
one_call true = refl
one_call false = refl

-- ---- what the loop over the lines keeps

-- the lines so far are told
pub record IsTextOf (lines : List (List ℕ)) (first : ℕ) (text : List ℕ) (calls : Bool) : Type 0 where
  pub told : List Explained
  pub explained : AreExplained lines told
  pub text_is : text ≡ told_lines first told
  pub calls_are : calls ≡ are_calls told

pub no_text : (lines : List (List ℕ)) (first : ℕ) → IsTextOf (take 0 lines) first [] true
no_text lines first = record { told = []; explained = tt; text_is = refl; calls_are = refl }

take_one_more : (lines : List (List ℕ)) (i : ℕ) (line : List ℕ) → slice_get lines i ≡ Some line → take (i + 1) lines ≡ take i lines ++ line ∷ []
take_one_more lines i line is =
    let read : get_or lines i [] ≡ line = sym (unwrap_or-slice_get lines i []) ∙ ap (λ (o : Option (List ℕ)). unwrap_or o []) is in
    take_more lines i [] (slice_get_within lines i line is) ∙ ap (λ (l : List ℕ). take i lines ++ l ∷ []) read

pub more_text : (lines : List (List ℕ)) (first i number : ℕ) (text new line : List ℕ) (calls call both : Bool) → IsTextOf (take i lines) first text calls → i < length lines → slice_get lines i ≡ Some line → number ≡ first + i
    → IsLineSaid line number text new call → both ≡ (calls && call) → IsTextOf (take (i + 1) lines) first new both
more_text lines first i number text new line calls call both so_far within is number_is said both_is =
    let count : length so_far.told ≡ i = one_each (take i lines) so_far.told so_far.explained ∙ length-take-le i lines (omega (arith, within)) in
    record {
      told = so_far.told ++ said.told ∷ [];
      explained = subst (λ (ls : List (List ℕ)). AreExplained ls (so_far.told ++ said.told ∷ [])) (sym (take_one_more lines i line is)) (AreExplained-append (take i lines) (line ∷ []) so_far.told (said.told ∷ []) so_far.explained (said.explained, tt));
      text_is = said.text_is ∙ ap (λ (l : List ℕ). l ++ told_line number said.told) so_far.text_is
          ∙ ap (λ (l : List ℕ). told_lines first so_far.told ++ l) (ap (λ (n : ℕ). told_line n said.told) (omega (arith, number_is, count)) ∙ sym (append-nil (told_line (first + length so_far.told) said.told)))
          ∙ sym (told_lines-append first so_far.told (said.told ∷ []));
      calls_are = both_is ∙ ap (λ (b : Bool). b && call) so_far.calls_are ∙ ap (λ (b : Bool). are_calls so_far.told && b) (said.call_is ∙ sym (one_call (is_call said.told))) ∙ sym (list_all-append is_call so_far.told (said.told ∷ []));
    }

-- ---- what is said of lines

pub said_of : (lines : List (List ℕ)) (first : ℕ) (said : Said) → IsTextOf lines first said.text.items said.calls → said.number ≡ length lines → IsSaid lines false first said
said_of lines first said text number = record {
  told = text.told;
  are = text.explained;
  text_is = text.text_is;
  number = number ∙ sym (one_each lines text.told text.explained);
  calls = text.calls_are;
}

said_long : (lines : List (List ℕ)) (first : ℕ) (said new : Said) → IsSaid lines false first said → new.text.items ≡ said.text.items ++ told_line (first + said.number) TooLong → new.number ≡ said.number + 1 → new.calls ≡ false
    → IsSaid lines true first new
said_long lines first said new is text number calls = record {
  told = is.told ++ TooLong ∷ [];
  are = (is.told, is.are, refl);
  text_is = text ∙ ap (λ (l : List ℕ). l ++ told_line (first + said.number) TooLong) is.text_is
      ∙ ap (λ (l : List ℕ). told_lines first is.told ++ l) (ap (λ (n : ℕ). told_line (first + n) TooLong) is.number ∙ sym (append-nil (told_line (first + length is.told) TooLong))) ∙ sym (told_lines-append first is.told (TooLong ∷ []));
  number = number ∙ omega (arith, is.number, length-append is.told (TooLong ∷ []));
  calls = calls ∙ sym (none_call (are_calls is.told)) ∙ sym (list_all-append is_call is.told (TooLong ∷ []));
}

pub said_behind : (lines : List (List ℕ)) (too_long : Bool) (first : ℕ) (said new : Said) → too_long ≡ true → IsSaid lines false first said → new.text.items ≡ said.text.items ++ told_line (first + said.number) TooLong → new.number ≡ said.number + 1
    → new.calls ≡ false → IsSaid lines too_long first new
said_behind lines too_long first said new long is text number calls = subst (λ (b : Bool). IsSaid lines b first new) (sym long) (said_long lines first said new is text number calls)

-- ---- a piece of the stream

few_cond : (b c : Bool) (rest : List ℕ) (x y : List (List ℕ) × Stand) (n : ℕ) → length x.0 ≤ n → length y.0 ≤ n → length (cond b (onto (rest ∷ []) x) (cond c y ([], None))).0 ≤ suc n
few_cond true c rest x y n le more = omega arith
few_cond false true rest x y n le more = omega arith
few_cond false false rest x y n le more = omega arith

few_lines : (stand : Stand) (piece : List ℕ) → length (cut_from stand piece).0 ≤ length piece
unfolding cut_from
few_lines None piece = omega arith
few_lines (Some rest) [] = omega arith
few_lines (Some rest) (b ∷ bs) = few_cond (eqb b 10) (ltb (length rest) 8192) rest (cut_from (Some []) bs) (cut_from (Some (rest ++ b ∷ [])) bs) (length bs) (few_lines (Some []) bs) (few_lines (Some (rest ++ b ∷ [])) bs)

few_said : (lines : List (List ℕ)) (too_long : Bool) (told : List Explained) → AreToldBy lines too_long told → length told ≤ length lines + 1
few_said lines false told are = omega (arith, one_each lines told are)
few_said lines true told are = omega (arith, one_each lines are.0 are.1, ap length are.2, length-append are.0 (TooLong ∷ []))

pub few_more : (stand now : Stand) (piece : List ℕ) (lines : List (List ℕ)) (too_long : Bool) (first : ℕ) (said : Said) → cut_from stand piece ≡ (lines, now) → IsSaid lines too_long first said → said.number ≤ length piece + 1
few_more stand now piece lines too_long first said cut is =
    let some : length (cut_from stand piece).0 ≤ length piece = few_lines stand piece in
    let same : length (cut_from stand piece).0 ≡ length lines = ap (λ (x : List (List ℕ) × Stand). length x.0) cut in
    omega (arith, some, same, few_said lines too_long is.told is.are, is.number)

all_whole : (lines : List (List ℕ)) (stand : Stand) (told : List Explained) → stand ≢ None → AreTold (lines, stand) told → AreExplained lines told
all_whole lines None told some are = absurd (some refl)
all_whole lines (Some rest) told some are = are

behind_told : (lines more : List (List ℕ)) (stand : Stand) (too_long : Bool) (told others : List Explained) → IsTrue too_long ↔ (stand ≡ None) → AreExplained lines told → AreToldBy more too_long others → AreTold (lines ++ more, stand) (told ++ others)
behind_told lines more None false told others iff are behind = absurd (let yes = iff.1 refl in cc)
behind_told lines more None true told others iff are behind = (told ++ behind.0, AreExplained-append lines more told behind.0 are behind.1, ap (λ (l : List Explained). told ++ l) behind.2 ∙ sym (append_assoc told behind.0 (TooLong ∷ [])))
behind_told lines more (Some rest) false told others iff are behind = AreExplained-append lines more told others are behind
behind_told lines more (Some rest) true told others iff are behind = absurd (let none = iff.0 refl in cc)

pub goes_on : (stream piece : List ℕ) (told : List Explained) (old now : Explanations) (lines : List (List ℕ)) (too_long : Bool) (said : Said) → IsAfter stream told old → old.feed ≢ None → cut_from old.feed piece ≡ (lines, now.feed)
    → IsTrue too_long ↔ (now.feed ≡ None) → IsSaid lines too_long (old.told + 1) said → now.told ≡ old.told + said.number → now.calls ≡ (old.calls && said.calls) → Goes stream told piece now said.text.items
goes_on stream piece told old now lines too_long said after going cut iff is number calls =
    let going_on : (cut_of stream).1 ≢ None = λ none. going (after.stand ∙ none) in
    let behind : cut_from (cut_of stream).1 piece ≡ (lines, now.feed) = ap (λ (s : Stand). cut_from s piece) (sym after.stand) ∙ cut in
    let joined : cut_of (stream ++ piece) ≡ ((cut_of stream).0 ++ lines, now.feed) = cut_append (Some []) stream piece ∙ ap (onto (cut_of stream).0) behind in
    let explained : AreTold ((cut_of stream).0 ++ lines, now.feed) (told ++ is.told) =
    behind_told (cut_of stream).0 lines now.feed too_long told is.told iff (all_whole (cut_of stream).0 (cut_of stream).1 told going_on after.explain) is.are in
    record {
      more = is.told;
      after = record {
        explain = subst (λ (x : List (List ℕ) × Stand). AreTold x (told ++ is.told)) (sym joined) explained;
        stand = sym (ap (λ (x : List (List ℕ) × Stand). x.1) joined);
        number = omega (arith, number, after.number, is.number, length-append told is.told);
        calls = calls ∙ ap (λ (b : Bool). b && said.calls) after.calls ∙ ap (λ (b : Bool). are_calls told && b) is.calls ∙ sym (list_all-append is_call told is.told);
      };
      text_is = is.text_is ∙ ap (λ (n : ℕ). told_lines (n + 1) is.told) after.number;
    }

pub lines_within : (stand now : Stand) (piece : List ℕ) (lines : List (List ℕ)) → cut_from stand piece ≡ (lines, now) → length lines ≤ length piece
lines_within stand now piece lines cut =
    let some : length (cut_from stand piece).0 ≤ length piece = few_lines stand piece in
    let same : length (cut_from stand piece).0 ≡ length lines = ap (λ (x : List (List ℕ) × Stand). length x.0) cut in
    omega (arith, some, same)

pub said_number : (lines : List (List ℕ)) (first : ℕ) (said : Said) → IsSaid lines false first said → said.number ≡ length lines
said_number lines first said is = is.number ∙ one_each lines is.told is.are

pub new_after : (now : Explanations) → now.feed ≡ Some [] → now.told ≡ 0 → now.calls ≡ true → IsAfter [] [] now
unfolding cut_from
new_after now feed number calls = record { explain = tt; stand = feed; number = number; calls = calls }
