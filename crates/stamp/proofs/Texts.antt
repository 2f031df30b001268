-- The bytes of a stamp's text, and that no text is that of two stamps.
use Rattle.std.proofs.Common.{◌≡◌, ℕ, List, [], ◌∷◌, IsTrue, refl, ap, ◌∙◌}
use Rattle.std.specs.List.{list_all}
use Rattle.std.proofs.lemmas.Bool.{and_parts}
use Rattle.id_tree.specs.IdTree.{IdTree}
use Rattle.id_tree.specs.Spelling.{is_tree_byte}
use Rattle.id_tree.specs.Spelling as ids
use Rattle.id_tree.proofs.Texts as ids_texts
use Rattle.id_tree.proofs.Texts.{list_all-append_true}
use Rattle.event_tree.specs.EventTree.{EventTree}
use Rattle.event_tree.specs.Spelling as events
use Rattle.event_tree.proofs.Texts as events_texts
use Rattle.stamp.specs.declared.stamp.Stamp.{Stamp}
use Rattle.stamp.specs.Stamps.{IsStamp, stamp_text, is_stamp_byte}
use Rattle.stamp.proofs.Cuts.{one_cut, tree_free}

stamp_bytes : (xs : List ℕ) → IsTrue (list_all is_tree_byte xs) → IsTrue (list_all is_stamp_byte xs)
stamp_bytes [] h = refl
stamp_bytes (x ∷ xs) h = let both = and_parts (is_tree_byte x) (list_all is_tree_byte xs) h in rw both.0 (stamp_bytes xs both.1)

pub plain : (s : Stamp) → IsStamp s → IsTrue (list_all is_stamp_byte (stamp_text s))
plain s is = list_all-append_true is_stamp_byte (ids.spelling s.id) (59 ∷ events.spelling s.events) (stamp_bytes (ids.spelling s.id) (ids_texts.plain s.id)) (stamp_bytes (events.spelling s.events) (events_texts.plain s.events is.events.small))

abbrev stamp_of : IdTree → EventTree → Stamp
stamp_of i e = record { id = i; events = e }

same_stamp : (s t : Stamp) → s.id ≡ t.id → s.events ≡ t.events → s ≡ t
same_stamp s t e f = ap (λ (i : IdTree). stamp_of i s.events) e ∙ ap (λ (v : EventTree). stamp_of t.id v) f

pub one_text : (s t : Stamp) → stamp_text s ≡ stamp_text t → IsStamp s → IsStamp t → s ≡ t
one_text s t e is are =
    let both = one_cut (ids.spelling s.id) (ids.spelling t.id) (events.spelling s.events) (events.spelling t.events) (tree_free (ids.spelling s.id) (ids_texts.plain s.id)) (tree_free (ids.spelling t.id) (ids_texts.plain t.id)) e in
    same_stamp s t (ids_texts.one_spelling s.id t.id both.0) (events_texts.one_spelling s.events t.events is.events are.events both.1)
