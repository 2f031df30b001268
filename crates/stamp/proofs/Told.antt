-- What the answers on both trees tell of a stamp's text.
use Rattle.std.proofs.Common.{◌≡◌, ℕ, ◌+◌, ◌-◌, List, ◌∷◌, ◌++◌, length, take, drop, refl, sym, ◌∙◌, arith}
use Rattle.std.proofs.lemmas.List.{take_rest}
use Rattle.std.specs.Prelude.{Result, Ok, Err, IfOk, IfErr, MatchResult}
use Rattle.id_tree.specs.IdTree.{IdTree}
use Rattle.id_tree.specs.Spelling.{spelling}
use Rattle.id_tree.specs.Faults as ids
use Rattle.id_tree.specs.declared.fault.IdFault.{IdFault}
use Rattle.id_tree.specs.declared.fault.IdFault.TheVariants as id_fault
use Rattle.id_tree.proofs.Texts as ids_texts
use Rattle.event_tree.specs.EventTree.{EventTree}
use Rattle.event_tree.specs.NormalForm.{IsNormal}
use Rattle.event_tree.specs.Spelling.{IsTextOf}
use Rattle.event_tree.specs.Spelling as events_text
use Rattle.event_tree.specs.Faults as events
use Rattle.event_tree.specs.declared.fault.EventsFault.{EventsFault}
use Rattle.event_tree.specs.declared.fault.EventsFault.TheVariants as events_fault
use Rattle.event_tree.proofs.Texts.{spelling_is_text, one_tree}
use Rattle.stamp.specs.declared.stamp.Stamp.{Stamp}
use Rattle.stamp.specs.declared.fault.StampTextFault.{StampTextFault}
use Rattle.stamp.specs.declared.fault.StampTextFault.TheVariants.{Syntax, NotNormal, TooDeep, TooLarge, Memory}
use Rattle.stamp.specs.Stamps.{IsStamp, stamp_text}
use Rattle.stamp.specs.Faults.{Spells, IsFaultOfStamp}
use Rattle.stamp.specs.working.Answers.{IsFree, IdTold, EventsTold, StampTold, answer_of}
use Rattle.stamp.proofs.Cuts.{IsCut, not_free, one_cut, tree_free}
use Rattle.stamp.proofs.Texts.{one_text}

id_free : (i : IdTree) → IsFree (spelling i)
id_free i = tree_free (spelling i) (ids_texts.plain i)

-- ---- a text and its parts

spelled : (i : IdTree) (e : EventTree) (front back : List ℕ) → front ≡ spelling i → IsTextOf e back → Spells i e (front ++ 59 ∷ back)
spelled i e front back h k = record { events_text = back; parts = rw h refl; events = k }

parts_of : (i : IdTree) (e : EventTree) (front back : List ℕ) → IsFree front → Spells i e (front ++ 59 ∷ back) → (front ≡ spelling i) × IsTextOf e back
parts_of i e front back free s =
    let cut = one_cut front (spelling i) back s.events_text free (id_free i) s.parts in
    (cut.0, rw cut.1 s.events)

-- no text of a stamp is without a semicolon
pub no_stamp : (bytes : List ℕ) → IsFree bytes → IsFaultOfStamp Syntax bytes
no_stamp bytes free = λ i e s. not_free (spelling i) s.events_text (rw s.parts at free)

text_of : (e : EventTree) (text : List ℕ) → EventsTold (Ok e) text → IsTextOf e text
text_of e text h = rw h.1 (spelling_is_text e h.0.small)

-- ---- each fault of a part as one of the whole

no_id : (front back : List ℕ) → IsFree front → ids.IsFaultOfId id_fault.Syntax front → IsFaultOfStamp Syntax (front ++ 59 ∷ back)
no_id front back free h = λ i e s. h i (parts_of i e front back free s).0

no_events : (front back : List ℕ) → IsFree front → events.IsFaultOfEvents events_fault.Syntax back → IsFaultOfStamp Syntax (front ++ 59 ∷ back)
no_events front back free h = λ i e s. h e (parts_of i e front back free s).1

unnormal_id : (front back : List ℕ) (e : EventTree) → ids.SpellsUnnormal front → IsTextOf e back → IsFaultOfStamp NotNormal (front ++ 59 ∷ back)
unnormal_id front back e h k = (h.tree, e, spelled h.tree e front back h.spelled k, λ n. h.unnormal n.0)

unnormal_events : (front back : List ℕ) (i : IdTree) → front ≡ spelling i → events.SpellsUnnormal back → IsFaultOfStamp NotNormal (front ++ 59 ∷ back)
unnormal_events front back i h k = (i, k.tree, spelled i k.tree front back h k.spelled, λ n. k.unnormal n.1)

deep_id : (front back : List ℕ) (e : EventTree) → ids.SpellsDeep front → IsTextOf e back → IsNormal e → IsFaultOfStamp TooDeep (front ++ 59 ∷ back)
deep_id front back e h k n = (h.tree, e, spelled h.tree e front back h.spelled k, (h.normal, n), let deep = h.deep in omega arith)

-- ---- the answer on the whole

told : (id : Result IdTree IdFault) (events : Result EventTree EventsFault) (front back : List ℕ) → IsFree front → IdTold id front → EventsTold events back
    → StampTold (answer_of id events) (front ++ 59 ∷ back)
told (Ok i) (Ok e) a b free h k = (record { id = h.0; events = k.0 }, rw (h.1, k.1) refl)
told (Ok i) (Err events_fault.Syntax) a b free h k = no_events a b free k
told (Ok i) (Err events_fault.NotNormal) a b free h k = unnormal_events a b i h.1 k
told (Ok i) (Err events_fault.TooDeep) a b free h k = (i, k.tree, spelled i k.tree a b h.1 k.spelled, (h.0.normal, k.normal), let deep = k.deep in omega arith)
told (Ok i) (Err events_fault.TooLarge) a b free h k =
    (i, k.tree, spelled i k.tree a b h.1 k.spelled, (h.0.normal, k.normal), let one = h.0.shallow in let two = k.shallow in omega arith, k.large)
told (Ok i) (Err events_fault.Memory) a b free h k = tt
told (Err id_fault.Syntax) (Ok e) a b free h k = no_id a b free h
told (Err id_fault.Syntax) (Err events_fault.Syntax) a b free h k = no_id a b free h
told (Err id_fault.Syntax) (Err events_fault.NotNormal) a b free h k = no_id a b free h
told (Err id_fault.Syntax) (Err events_fault.TooDeep) a b free h k = no_id a b free h
told (Err id_fault.Syntax) (Err events_fault.TooLarge) a b free h k = no_id a b free h
told (Err id_fault.Syntax) (Err events_fault.Memory) a b free h k = tt
told (Err id_fault.NotNormal) (Ok e) a b free h k = unnormal_id a b e h (text_of e b k)
told (Err id_fault.NotNormal) (Err events_fault.Syntax) a b free h k = no_events a b free k
told (Err id_fault.NotNormal) (Err events_fault.NotNormal) a b free h k = unnormal_id a b k.tree h k.spelled
told (Err id_fault.NotNormal) (Err events_fault.TooDeep) a b free h k = unnormal_id a b k.tree h k.spelled
told (Err id_fault.NotNormal) (Err events_fault.TooLarge) a b free h k = unnormal_id a b k.tree h k.spelled
told (Err id_fault.NotNormal) (Err events_fault.Memory) a b free h k = tt
told (Err id_fault.TooDeep) (Ok e) a b free h k = deep_id a b e h (text_of e b k) k.0.normal
told (Err id_fault.TooDeep) (Err events_fault.Syntax) a b free h k = no_events a b free k
told (Err id_fault.TooDeep) (Err events_fault.NotNormal) a b free h k = unnormal_events a b h.tree h.spelled k
told (Err id_fault.TooDeep) (Err events_fault.TooDeep) a b free h k = deep_id a b k.tree h k.spelled k.normal
told (Err id_fault.TooDeep) (Err events_fault.TooLarge) a b free h k = deep_id a b k.tree h k.spelled k.normal
told (Err id_fault.TooDeep) (Err events_fault.Memory) a b free h k = tt
told (Err id_fault.Memory) events a b free h k = tt

pub told_whole : (id : Result IdTree IdFault) (events : Result EventTree EventsFault) (r : Result Stamp StampTextFault) (at : ℕ) (bytes : List ℕ) → IsCut at bytes
    → IdTold id (take at bytes) → EventsTold events (take (length bytes - (at + 1)) (drop (at + 1) bytes)) → r ≡ answer_of id events → StampTold r bytes
told_whole id events r at bytes cut h k is =
    let back : EventsTold events (drop (at + 1) bytes) = rw (take_rest bytes (at + 1)) at k in
    let whole : StampTold (answer_of id events) bytes = rw (← cut.parts) at (told id events (take at bytes) (drop (at + 1) bytes) cut.free h back) in
    rw is whole

-- ---- what it tells a caller

pub told_ok : (r : Result Stamp StampTextFault) (bytes : List ℕ) → StampTold r bytes → IfOk r (λ s. bytes ≡ stamp_text s)
told_ok (Ok s) bytes h = h.1
told_ok (Err fault) bytes h = tt

pub told_err : (r : Result Stamp StampTextFault) (bytes : List ℕ) → StampTold r bytes → IfErr r (λ fault. IsFaultOfStamp fault bytes)
told_err (Ok s) bytes h = tt
told_err (Err fault) bytes h = h

spelled_stamp : (s : Stamp) → IsStamp s → Spells s.id s.events (stamp_text s)
spelled_stamp s is = record { events_text = events_text.spelling s.events; parts = refl; events = spelling_is_text s.events is.events.small }

-- the text of a stamp is that of no other trees
same_trees : (s : Stamp) (i : IdTree) (e : EventTree) → IsStamp s → Spells i e (stamp_text s) → (s.id ≡ i) × (s.events ≡ e)
same_trees s i e is p =
    let parts = parts_of i e (spelling s.id) (events_text.spelling s.events) (id_free s.id) p in
    (ids_texts.one_spelling s.id i parts.0, one_tree s.events e _ (spelling_is_text s.events is.events.small) parts.1)

pub fault_of_stamp : (fault : StampTextFault) (s : Stamp) → IsStamp s → IsFaultOfStamp fault (stamp_text s) → fault ≡ Memory
fault_of_stamp Syntax s is h = absurd (h s.id s.events (spelled_stamp s is))
fault_of_stamp NotNormal s is h =
    let same = same_trees s h.0 h.1 is h.2 in
    absurd (h.3 (rw (← same.0, ← same.1) (is.id.normal, is.events.normal)))
fault_of_stamp TooDeep s is h =
    let same = same_trees s h.0 h.1 is h.2 in
    absurd (let deep = rw (← same.0, ← same.1) at h.4 in let one = is.id.shallow in let two = is.events.shallow in omega arith)
fault_of_stamp TooLarge s is h =
    let same = same_trees s h.0 h.1 is h.2 in
    absurd (let large = rw (← same.1) at h.5 in let small = is.events.small in omega arith)
fault_of_stamp Memory s is h = refl

pub told_only : (r : Result Stamp StampTextFault) (bytes : List ℕ) → StampTold r bytes → (s : Stamp) → IsStamp s → bytes ≡ stamp_text s
    → MatchResult r (λ t. t ≡ s) (λ fault. fault ≡ Memory)
told_only (Ok t) bytes h s is e = one_text t s (sym h.1 ∙ e) h.0 is
told_only (Err fault) bytes h s is e = fault_of_stamp fault s is (rw e at h)
