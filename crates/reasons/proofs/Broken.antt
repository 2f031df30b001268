-- A line feed behind a printed text changes nothing of what is read.
use Rattle.std.proofs.Common.{◌≡◌, ℕ, Bool, true, false, cond, ◌&&◌, List, [], ◌∷◌, ◌++◌, refl, sym, ap, ap₂, ◌∙◌, append_assoc, append-nil}
use Rattle.json.specs.Token.{Token, begin_object, end_object, begin_array, end_array, key, string, number, boolean, null, bad}
use Rattle.json.specs.Word.{ends_word, word}
use Rattle.json.specs.Lex.{Lexeme, token, comma, colon, string_token, lex, between, fresh, punctuate, tokens}
use Rattle.json.specs.Print.{escape, quoted, token_text, begins, ends, separator, print_from, print, IsPrintable, ArePrintable}
use Rattle.json.proofs.Printed.Strings.{content-escape, lex-escape}
use Rattle.json.proofs.Printed.Numbers.{lex-number, in_word-ended}
use Rattle.json.proofs.Printed.Tokens.{tokens-print}

abbrev lexemes_of : Token → List Lexeme
lexemes_of begin_object = token begin_object ∷ []
lexemes_of end_object = token end_object ∷ []
lexemes_of begin_array = token begin_array ∷ []
lexemes_of end_array = token end_array ∷ []
lexemes_of (key s) = token (string s) ∷ colon ∷ []
lexemes_of (string s) = token (string s) ∷ []
lexemes_of (number s) = token (number s) ∷ []
lexemes_of (boolean b) = token (boolean b) ∷ []
lexemes_of null = token null ∷ []
lexemes_of bad = []

quoted_read : (s r : List ℕ) → lex between (quoted s ++ r) ≡ token (string s) ∷ lex between r
unfolding lex
quoted_read s r =
    ap (λ l. lex between (34 ∷ l)) (append_assoc (escape s) (34 ∷ []) r) ∙ ap₂ (λ o l. token (string_token o) ∷ l) (content-escape s r) (lex-escape s r)

token_read : (t : Token) (r : List ℕ) → IsPrintable t → (ends t ≡ true → ends_word r ≡ true) → lex between (token_text t ++ r) ≡ lexemes_of t ++ lex between r
unfolding lex word
token_read begin_object r h ended = refl
token_read end_object r h ended = refl
token_read begin_array r h ended = refl
token_read end_array r h ended = refl
token_read (key s) r h ended = ap (lex between) (append_assoc (quoted s) (58 ∷ []) r) ∙ quoted_read s (58 ∷ r)
token_read (string s) r h ended = quoted_read s r
token_read (number s) r h ended = lex-number s r h (ended refl)
token_read (boolean true) r h ended = ap₂ (λ b l. token (cond b (boolean true) bad) ∷ l) (ended refl) (in_word-ended r (ended refl))
token_read (boolean false) r h ended = ap₂ (λ b l. token (cond b (boolean false) bad) ∷ l) (ended refl) (in_word-ended r (ended refl))
token_read null r h ended = ap₂ (λ b l. token (cond b null bad) ∷ l) (ended refl) (in_word-ended r (ended refl))
token_read bad r h ended = absurd h

comma_read : (b : Bool) (r : List ℕ) → lex between (cond b (44 ∷ []) [] ++ r) ≡ cond b (comma ∷ []) [] ++ lex between r
unfolding lex
comma_read true r = refl
comma_read false r = refl

-- a word ends before what stands behind a value
value_ends : (g : List ℕ) → ends_word g ≡ true → (ts : List Token) → ends_word (print_from true ts ++ g) ≡ true
unfolding print_from
value_ends g e [] = e
value_ends g e (begin_object ∷ ts) = refl
value_ends g e (end_object ∷ ts) = refl
value_ends g e (begin_array ∷ ts) = refl
value_ends g e (end_array ∷ ts) = refl
value_ends g e (key s ∷ ts) = refl
value_ends g e (string s ∷ ts) = refl
value_ends g e (number s ∷ ts) = refl
value_ends g e (boolean b ∷ ts) = refl
value_ends g e (null ∷ ts) = refl
value_ends g e (bad ∷ ts) = refl

-- the lexemes of printed tokens, and of what stands behind them
abbrev lexemes : Bool → List Token → List Lexeme → List Lexeme
lexemes c [] more = more
lexemes c (t ∷ ts) more = cond (c && begins t) (comma ∷ []) [] ++ (lexemes_of t ++ lexemes (ends t) ts more)

printed_read : (g : List ℕ) → ends_word g ≡ true → (c : Bool) (ts : List Token) → ArePrintable ts → lex between (print_from c ts ++ g) ≡ lexemes c ts (lex between g)
unfolding print_from ArePrintable
printed_read g e c [] h = refl
printed_read g e c (t ∷ ts) h =
    ap (lex between) (append_assoc (separator c t) (token_text t ++ print_from (ends t) ts) g ∙ ap (λ l. separator c t ++ l) (append_assoc (token_text t) (print_from (ends t) ts) g))
    ∙ comma_read (c && begins t) _
    ∙ ap (λ l. cond (c && begins t) (comma ∷ []) [] ++ l)
    (token_read t (print_from (ends t) ts ++ g) h.0 (λ f. ap (λ b. ends_word (print_from b ts ++ g)) f ∙ value_ends g e ts)
    ∙ ap (λ l. lexemes_of t ++ l) (printed_read g e (ends t) ts h.1))

-- the round trip of tokens, with a line feed behind the text
pub tokens_broken : (ts : List Token) → ArePrintable ts → tokens (print ts ++ 10 ∷ []) ≡ ts
unfolding lex
tokens_broken ts h = ap (punctuate fresh) (printed_read (10 ∷ []) refl false ts h ∙ sym (printed_read [] refl false ts h)) ∙ ap tokens (append-nil (print ts)) ∙ tokens-print ts h
