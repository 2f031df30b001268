-- Values whose text is read as them again.
use Rattle.std.proofs.Common.{◌≡◌, ℕ, zero, suc, ◌<◌, ◌≤◌, ◌^◌, List, [], ◌∷◌, ◌++◌, Bool, true, false, codes, decimal, map, get_or, Some, refl, sym, ap, subst, ◌∙◌, arith, append-nil}
use Rattle.std.proofs.lemmas.Str.{IsUtf8-append, IsUtf8-from_ascii}
use Rattle.std.proofs.lemmas.Fmt.{IsAscii-decimal}
use Rattle.std.specs.Prelude.{All, IsUtf8, Option, option_and_then}
use Rattle.json.specs.Token.{Token}
use Rattle.json.specs.Json as json
use Rattle.json.specs.Lex.{tokens}
use Rattle.json.specs.Print.{quoted}
use Rattle.json.specs.Tree as tree
use Rattle.json.proofs.Printed.Decimals.{IsNumber-decimal}
use Rattle.json.proofs.Printed.Tokens.{tokens-print}
use Rattle.json.proofs.Printed.Trees.{value-json_tokens, ArePrintable-json_tokens}
use Rattle.json.proofs.Printed.Utf8.{IsUtf8-quoted, IsUtf8-are_ascii}
use Rattle.serde_json.proofs.Numbers.{number_of-decimal}
use Rattle.serde_json.proofs.OnLiterals.{serde_json_on_literals}
use Rattle.serde_json.proofs.Texts.{print-outline}
use Rattle.serde_json.specs.Data.{Data, string, number, unsigned, array, object, Items, no_items, item, Members, member, no_members}
use Rattle.serde_json.specs.Read.{of_json, of_items, max_depth}
use Rattle.serde_json.specs.Written.{outline, items_outline, compact_text, items_text, members_text}
use Rattle.reasons.specs.CertificateReading.{items_by, IsJsonOf}
use Rattle.reasons.specs.working.Json.{IsJsonText, AreWritten}
use Rattle.reasons.proofs.Broken.{tokens_broken}

-- as JSON it is read as the same value, no deeper than this, and its text is UTF-8
pub record IsReadBack (d : Data) (n : ℕ) : Type 0 where
  pub numbers : tree.HasNumbers (outline d)
  pub back : of_json (outline d) ≡ Some d
  pub shallow : tree.depth (outline d) ≤ n
  pub utf8 : IsUtf8 (compact_text d)

pub record AreReadBack (ds : Items) (n : ℕ) : Type 0 where
  pub numbers : tree.ItemsHaveNumbers (items_outline ds)
  pub back : of_items (items_outline ds) ≡ Some ds
  pub shallow : tree.items_depth (items_outline ds) ≤ n
  pub utf8 : (later : Bool) → IsUtf8 (items_text later ds)

byte_utf8 : (b : ℕ) → b < 128 → IsUtf8 (b ∷ [])
byte_utf8 b low = IsUtf8-from_ascii (b ∷ []) one
  where
    one : (i : ℕ) → get_or (b ∷ []) i 0 < 128
    one zero = low
    one (suc i) = omega arith

pub string_back : (name : List ℕ) → IsUtf8 name → IsReadBack (string name) 0
string_back name utf8 = record { numbers = tt; back = refl; shallow = omega arith; utf8 = IsUtf8-quoted name utf8 }

pub number_back : (n : ℕ) → n < 2 ^ 64 → IsReadBack (number (unsigned n)) 0
number_back n low =
    record {
      numbers = IsNumber-decimal n low;
      back = rw (number_of-decimal n low);
      shallow = omega arith;
      utf8 = IsUtf8-from_ascii (decimal n) (IsAscii-decimal n low);
    }

none_back : (n : ℕ) → AreReadBack no_items n
none_back n = record { numbers = tt; back = refl; shallow = omega arith; utf8 = λ later. byte_utf8 93 (omega arith) }

more_back : (d : Data) (ds : Items) (n : ℕ) → IsReadBack d n → AreReadBack ds n → AreReadBack (item d ds) n
more_back d ds n first rest =
    record {
      numbers = (first.numbers, rest.numbers);
      back = rw (first.back, rest.back);
      shallow = omega (arith, first.shallow, rest.shallow);
      utf8 = utf8;
    }
  where
    utf8 : (later : Bool) → IsUtf8 (items_text later (item d ds))
    utf8 true = IsUtf8-append (44 ∷ []) (compact_text d ++ items_text true ds) (byte_utf8 44 (omega arith)) (IsUtf8-append (compact_text d) (items_text true ds) first.utf8 (rest.utf8 true))
    utf8 false = IsUtf8-append (compact_text d) (items_text true ds) first.utf8 (rest.utf8 true)

pub array_back : (ds : Items) (n : ℕ) → AreReadBack ds n → IsReadBack (array ds) (suc n)
array_back ds n are =
    record {
      numbers = are.numbers;
      back = rw are.back;
      shallow = omega (arith, are.shallow);
      utf8 = IsUtf8-append (91 ∷ []) (items_text false ds) (byte_utf8 91 (omega arith)) (are.utf8 false);
    }

pub pair_back : (a b : Data) (n : ℕ) → IsReadBack a n → IsReadBack b n → IsReadBack (array (item a (item b no_items))) (suc n)
pair_back a b n first second = array_back _ n (more_back a _ n first (more_back b _ n second (none_back n)))

-- a list of such values
pub each_back : (U T : Type 0) (is : U → Type 0) (g : U → T) (f : T → Data) (n : ℕ) → ((u : U) → is u → IsReadBack (f (g u)) n) → (us : List U) → All is us → AreReadBack (items_by f (map g us)) n
each_back U T is g f n one [] all = none_back n
each_back U T is g f n one (u ∷ us) all = more_back _ _ n (one u (all 0 u (omega arith))) (each_back U T is g f n one us (λ k d l. all (suc k) d (omega arith)))

-- and what is written of it
pub each_written : (U T : Type 0) (is : U → Type 0) (g : U → T) (f : T → Data) (text : U → List ℕ) → ((u : U) → is u → IsJsonText (f (g u)) (text u)) → (us : List U) → All is us → AreWritten (items_by f (map g us)) (map text us)
each_written U T is g f text one [] all = tt
each_written U T is g f text one (u ∷ us) all = (one u (all 0 u (omega arith)), each_written U T is g f text one us (λ k d l. all (suc k) d (omega arith)))

-- the whole object
abbrev pub four_members : Data → Data → Data → Data → Data
four_members failed front line reasons = object (member (codes "failed") failed (member (codes "front") front (member (codes "line") line (member (codes "reasons") reasons no_members))))

back_from : (failed front line reasons : Data) (n : ℕ) → IsReadBack failed n → IsReadBack front n → IsReadBack line n → IsReadBack reasons n → of_json (outline (four_members failed front line reasons)) ≡ Some (four_members failed front line reasons)
unfolding serde_json_on_literals
back_from failed front line reasons n a b c d = rw (a.back, b.back, c.back, d.back)

member_utf8 : (k : List ℕ) (d : Data) (ms : Members) → IsUtf8 k → IsUtf8 (compact_text d) → IsUtf8 (members_text true ms) → IsUtf8 (members_text false (member k d ms))
member_utf8 k d ms key part rest =
    IsUtf8-append (quoted k) (58 ∷ (compact_text d ++ members_text true ms)) (IsUtf8-quoted k key)
    (IsUtf8-append (58 ∷ []) (compact_text d ++ members_text true ms) (byte_utf8 58 (omega arith)) (IsUtf8-append (compact_text d) (members_text true ms) part rest))

later_utf8 : (k : List ℕ) (d : Data) (ms : Members) → IsUtf8 k → IsUtf8 (compact_text d) → IsUtf8 (members_text true ms) → IsUtf8 (members_text true (member k d ms))
later_utf8 k d ms key part rest = IsUtf8-append (44 ∷ []) (members_text false (member k d ms)) (byte_utf8 44 (omega arith)) (member_utf8 k d ms key part rest)

pub object_back : (failed front line reasons : Data) (n : ℕ) → IsReadBack failed n → IsReadBack front n → IsReadBack line n → IsReadBack reasons n → IsReadBack (four_members failed front line reasons) (suc n)
object_back failed front line reasons n a b c d =
    record {
      numbers = (a.numbers, (b.numbers, (c.numbers, (d.numbers, tt))));
      back = back_from failed front line reasons n a b c d;
      shallow = omega (arith, a.shallow, b.shallow, c.shallow, d.shallow);
      utf8 =
          IsUtf8-append (123 ∷ []) _ (byte_utf8 123 (omega arith))
          (member_utf8 (codes "failed") failed (member (codes "front") front (member (codes "line") line (member (codes "reasons") reasons no_members))) (IsUtf8-are_ascii (codes "failed") refl) a.utf8
          (later_utf8 (codes "front") front (member (codes "line") line (member (codes "reasons") reasons no_members)) (IsUtf8-are_ascii (codes "front") refl) b.utf8
          (later_utf8 (codes "line") line (member (codes "reasons") reasons no_members) (IsUtf8-are_ascii (codes "line") refl) c.utf8
          (later_utf8 (codes "reasons") reasons no_members (IsUtf8-are_ascii (codes "reasons") refl) d.utf8 (byte_utf8 125 (omega arith))))));
    }

pub weaker : (d : Data) (m n : ℕ) → m ≤ n → IsReadBack d m → IsReadBack d n
weaker d m n low is = record { numbers = is.numbers; back = is.back; shallow = omega (arith, is.shallow); utf8 = is.utf8 }

abbrev whole : Option (json.Json × List Token) → Option Data
whole o = option_and_then of_json (option_and_then (λ p. json.if_last p.0 p.1) o)

-- a text of these tokens is one of the value
tokens_back : (d : Data) (text : List ℕ) (n : ℕ) → n ≤ max_depth → IsReadBack d n → tokens text ≡ tree.json_tokens (outline d) → whole (json.value max_depth (tokens text)) ≡ Some d
tokens_back d text n low is same =
    ap whole (ap (json.value max_depth) (same ∙ sym (append-nil _)) ∙ value-json_tokens (outline d) max_depth [] (omega (arith, is.shallow))) ∙ is.back

printed_back : (d : Data) (text : List ℕ) (n : ℕ) → IsJsonText d text → IsReadBack d n → tokens text ≡ tree.json_tokens (outline d)
printed_back d text n written is = ap tokens (sym written.text_is ∙ sym (print-outline d)) ∙ tokens-print (tree.json_tokens (outline d)) (ArePrintable-json_tokens (outline d) is.numbers)

-- a text that is written of such a value is one of it
pub text_of_back : (d : Data) (text : List ℕ) (n : ℕ) → n ≤ max_depth → IsJsonText d text → IsReadBack d n → IsJsonOf text d
text_of_back d text n low written is = (subst (λ (t : List ℕ). IsUtf8 t) written.text_is is.utf8, tokens_back d text n low is (printed_back d text n written is))

-- and with a line feed behind it too
pub broken_text_of_back : (d : Data) (text : List ℕ) (n : ℕ) → n ≤ max_depth → IsJsonText d text → IsReadBack d n → IsJsonOf (text ++ 10 ∷ []) d
broken_text_of_back d text n low written is = (
  IsUtf8-append text (10 ∷ []) (subst (λ (t : List ℕ). IsUtf8 t) written.text_is is.utf8) (byte_utf8 10 (omega arith)),
  tokens_back d (text ++ 10 ∷ []) n low is
      (ap (λ (t : List ℕ). tokens (t ++ 10 ∷ [])) (sym written.text_is ∙ sym (print-outline d)) ∙ tokens_broken (tree.json_tokens (outline d)) (ArePrintable-json_tokens (outline d) is.numbers)),
)
