-- What is written of values in a row, and of a whole certificate.
use Rattle.std.proofs.Common.{◌≡◌, ℕ, ◌+◌, ◌<◌, List, [], ◌∷◌, ◌++◌, true, false, codes, decimal, map, take, get_or, length, refl, sym, ap, ap₂, ◌∙◌, arith, append_assoc, append-nil}
use Rattle.std.proofs.lemmas.List.{map_more, length-map, length-take-le}
use Rattle.std.specs.List.{join_with_byte}
use Rattle.serde_json.proofs.OnLiterals.{serde_json_on_literals}
use Rattle.serde_json.specs.Data.{Data, number, unsigned, array, object, Items, no_items, item, member, no_members}
use Rattle.serde_json.specs.Written.{items_have_float, items_text}
use Rattle.reasons.specs.CertificateText.{key, bracketed}
use Rattle.reasons.specs.working.Json.{IsJsonText, AreWritten, comma_before}

-- ---- texts in a row, written one by one

joined_more : (texts : List (List ℕ)) (text : List ℕ) → join_with_byte 44 (texts ++ text ∷ []) ≡ join_with_byte 44 texts ++ (comma_before (length texts) ++ text)
joined_more [] text = refl
joined_more (one ∷ []) text = refl
joined_more (one ∷ next ∷ texts) text =
    ap (λ (l : List ℕ). one ++ 44 ∷ l) (joined_more (next ∷ texts) text) ∙ sym (append_assoc one (44 ∷ join_with_byte 44 (next ∷ texts)) (44 ∷ text))

-- one more of what is mapped to texts, behind its comma
pub one_more : {X : Type 0} (f : X → List ℕ) (xs : List X) (i : ℕ) (d : X) (before out comma new : List ℕ) → i < length xs → out ≡ before ++ join_with_byte 44 (map f (take i xs)) → comma ≡ out ++ comma_before i → new ≡ comma ++ f (get_or xs i d)
    → new ≡ before ++ join_with_byte 44 (map f (take (i + 1) xs))
one_more {X = X} f xs i d before out comma new lt e g h =
    let count : length (map f (take i xs)) ≡ i = length-map (take i xs) f ∙ length-take-le i xs (omega arith) in
    rw (map_more f xs i d lt, joined_more (map f (take i xs)) (f (get_or xs i d)), count) (h ∙ rw (g, e) (simp append_assoc))

-- ---- values in a row

-- what stands behind the first of the joined texts
abbrev behind : List (List ℕ) → List ℕ
behind [] = []
behind (text ∷ texts) = 44 ∷ join_with_byte 44 (text ∷ texts)

join_first : (text : List ℕ) (texts : List (List ℕ)) → join_with_byte 44 (text ∷ texts) ≡ text ++ behind texts
join_first text [] = sym (append-nil text)
join_first text (next ∷ texts) = refl

closed : (text : List ℕ) (texts : List (List ℕ)) → text ++ (behind texts ++ 93 ∷ []) ≡ join_with_byte 44 (text ∷ texts) ++ 93 ∷ []
closed text texts = sym (append_assoc text (behind texts) (93 ∷ [])) ∙ ap (λ (l : List ℕ). l ++ 93 ∷ []) (sym (join_first text texts))

later_text : (ds : Items) (texts : List (List ℕ)) → AreWritten ds texts → items_text true ds ≡ behind texts ++ 93 ∷ []
later_text no_items [] are = refl
later_text no_items (text ∷ texts) are = absurd are
later_text (item d ds) [] are = absurd are
later_text (item d ds) (text ∷ texts) are =
    ap (λ (l : List ℕ). 44 ∷ l) (ap₂ (λ (s t : List ℕ). s ++ t) are.0.text_is (later_text ds texts are.1) ∙ closed text texts)

first_text : (ds : Items) (texts : List (List ℕ)) → AreWritten ds texts → items_text false ds ≡ join_with_byte 44 texts ++ 93 ∷ []
first_text no_items [] are = refl
first_text no_items (text ∷ texts) are = absurd are
first_text (item d ds) [] are = absurd are
first_text (item d ds) (text ∷ texts) are = ap₂ (λ (s t : List ℕ). s ++ t) are.0.text_is (later_text ds texts are.1) ∙ closed text texts

no_floats : (ds : Items) (texts : List (List ℕ)) → AreWritten ds texts → items_have_float ds ≡ false
no_floats no_items [] are = refl
no_floats no_items (text ∷ texts) are = absurd are
no_floats (item d ds) [] are = absurd are
no_floats (item d ds) (text ∷ texts) are = rw (are.0.no_float, no_floats ds texts are.1)

-- a list is written by its values
pub array_written : (ds : Items) (texts : List (List ℕ)) → AreWritten ds texts → IsJsonText (array ds) (bracketed texts)
array_written ds texts are = record { no_float = no_floats ds texts are; text_is = ap (λ (l : List ℕ). 91 ∷ l) (first_text ds texts are) }

-- ---- the whole text

regroup : (p kf f m kn n kl l kr r z : List ℕ) → p ++ (kf ++ (f ++ (m ++ (kn ++ (n ++ (m ++ (kl ++ (l ++ (m ++ (kr ++ (r ++ z))))))))))) ≡ p ++ kf ++ f ++ m ++ kn ++ n ++ m ++ kl ++ l ++ m ++ kr ++ r ++ z
regroup p kf f m kn n kl l kr r z = simp append_assoc

pub object_written : (failed line reasons : Data) (front : ℕ) (f l r : List ℕ) → IsJsonText failed f → IsJsonText line l → IsJsonText reasons r
    → IsJsonText (object (member (codes "failed") failed (member (codes "front") (number (unsigned front)) (member (codes "line") line (member (codes "reasons") reasons no_members)))))
    (codes "{" ++ key (codes "failed") ++ f ++ codes "," ++ key (codes "front") ++ decimal front ++ codes "," ++ key (codes "line") ++ l ++ codes "," ++ key (codes "reasons") ++ r ++ codes "}")
unfolding serde_json_on_literals
object_written failed line reasons front f l r wf wl wr =
    record {
      no_float = rw (wf.no_float, wl.no_float, wr.no_float);
      text_is =
          rw (wf.text_is, wl.text_is, wr.text_is)
          (regroup (codes "{") (key (codes "failed")) f (codes ",") (key (codes "front")) (decimal front) (key (codes "line")) l (key (codes "reasons")) r (codes "}"));
    }

-- the parts of a certificate's text, one behind the other
pub record ArePut (before f l r new : List ℕ) (front : ℕ) : Type 0 where
  pub opened : List ℕ
  pub failed : List ℕ
  pub front_key : List ℕ
  pub front_put : List ℕ
  pub line_key : List ℕ
  pub line : List ℕ
  pub reasons_key : List ℕ
  pub reasons : List ℕ
  pub opened_is : opened ≡ before ++ (codes "{" ++ key (codes "failed"))
  pub failed_is : failed ≡ opened ++ f
  pub front_key_is : front_key ≡ failed ++ (codes "," ++ key (codes "front"))
  pub front_is : front_put ≡ front_key ++ decimal front
  pub line_key_is : line_key ≡ front_put ++ (codes "," ++ key (codes "line"))
  pub line_is : line ≡ line_key ++ l
  pub reasons_key_is : reasons_key ≡ line ++ (codes "," ++ key (codes "reasons"))
  pub reasons_is : reasons ≡ reasons_key ++ r
  pub closed : new ≡ reasons ++ codes "}"

regroup_put : (before p kf f m kn n kl l kr r z : List ℕ) → before ++ (p ++ kf) ++ f ++ (m ++ kn) ++ n ++ (m ++ kl) ++ l ++ (m ++ kr) ++ r ++ z ≡ before ++ (p ++ kf ++ f ++ m ++ kn ++ n ++ m ++ kl ++ l ++ m ++ kr ++ r ++ z)
regroup_put before p kf f m kn n kl l kr r z = simp append_assoc

pub all_put : (before f l r new : List ℕ) (front : ℕ) → ArePut before f l r new front
    → new ≡ before ++ (codes "{" ++ key (codes "failed") ++ f ++ codes "," ++ key (codes "front") ++ decimal front ++ codes "," ++ key (codes "line") ++ l ++ codes "," ++ key (codes "reasons") ++ r ++ codes "}")
all_put before f l r new front h =
    h.closed ∙ rw (h.reasons_is, h.reasons_key_is, h.line_is, h.line_key_is, h.front_is, h.front_key_is, h.failed_is, h.opened_is)
    (regroup_put before (codes "{") (key (codes "failed")) f (codes ",") (key (codes "front")) (decimal front) (key (codes "line")) l (key (codes "reasons")) r (codes "}"))
