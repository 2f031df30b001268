-- What was sent, one piece after the other.
use Rattle.std.proofs.Common.{◌≡◌, ℕ, ◌+◌, ◌<◌, List, [], ◌∷◌, ◌++◌, length, get_or, take, drop, Option, Some, None, Result, Ok, Err, sym, ap, refl, inl, inr, ◌∙◌, append_assoc, arith}
use Rattle.std.specs.Io.KnownBytes.{Appends, Keeps}
use Rattle.std.proofs.lemmas.List.{append-nil, take-append-drop, length-append, drop_more}
use Rattle.std.proofs.lemmas.List.Concat.{flat_map-append}
use Rattle.std.specs.List.{flat_map}
use Rattle.client_link.specs.Links.{LinkState, IsSound, IsFault, Sends, Puts}

pub appends_none : (a : Option (List ℕ)) → Appends a a []
appends_none None = tt
appends_none (Some xs) = sym (append-nil xs)

pub appends_keeps : (a b : Option (List ℕ)) → Keeps a b → Appends a b []
appends_keeps None b k = tt
appends_keeps (Some xs) None k = k
appends_keeps (Some xs) (Some ys) k = k ∙ sym (append-nil xs)

pub appends_then : (a b c : Option (List ℕ)) (x y : List ℕ) → Appends a b x → Appends b c y → Appends a c (x ++ y)
appends_then None b c x y p q = tt
appends_then (Some xs) None c x y p q = absurd p
appends_then (Some xs) (Some ys) None x y p q = absurd q
appends_then (Some xs) (Some ys) (Some zs) x y p q = q ∙ ap (λ (l : List ℕ). l ++ y) p ∙ append_assoc xs x y

-- a part was sent, and the rest is sent or cut
pub sends_then : {E : Type 0} (a b c : Option (List ℕ)) (r : Result (Unit {0}) E) (x y : List ℕ) → Appends a b x → Sends b c r y → Sends a c r (x ++ y)
sends_then a b c (Ok u) x y p q = appends_then a b c x y p q
sends_then a b c (Err e) x y p q = (x ++ q.0, q.1, ap (λ (l : List ℕ). x ++ l) q.2 ∙ sym (append_assoc x q.0 q.1), q.3, appends_then a b c x q.0 p q.4)

-- cut in a part is cut in the whole
pub sends_cut : {E : Type 0} (a b : Option (List ℕ)) (e : E) (x y : List ℕ) → Sends a b (Err e) x → Sends a b (Err e) (x ++ y)
sends_cut a b e x y p = (p.0, p.1 ++ y, ap (λ (l : List ℕ). l ++ y) p.2 ∙ append_assoc p.0 p.1 y, omega (arith, length-append p.1 y, p.3), p.4)

-- cut in one of several pieces, each of which has a text
pieces_cut : {E X : Type 0} (a b c : Option (List ℕ)) (e : E) (f : X → List ℕ) (pieces : List X) (i : ℕ) (d : X) → i < length pieces
    → Appends a b (flat_map f (take i pieces)) → Sends b c (Err e) (f (get_or pieces i d)) → Sends a c (Err e) (flat_map f pieces)
pieces_cut a b c e f pieces i d lt before cut =
    let x = get_or pieces i d in
    let parts : pieces ≡ take i pieces ++ (x ∷ drop (i + 1) pieces) = sym (take-append-drop i pieces) ∙ ap (λ l. take i pieces ++ l) (drop_more pieces i d lt) in
    let whole : flat_map f pieces ≡ flat_map f (take i pieces) ++ (f x ++ flat_map f (drop (i + 1) pieces)) = ap (flat_map f) parts ∙ flat_map-append f (take i pieces) (x ∷ drop (i + 1) pieces) in
    rw whole (sends_then a b c (Err e) (flat_map f (take i pieces)) (f x ++ flat_map f (drop (i + 1) pieces)) before (sends_cut b c e (f x) (flat_map f (drop (i + 1) pieces)) cut))

-- ---- calls that failed

pub sound_none : (s : LinkState) → IsSound s s
sound_none s = record { failures = refl; stalls = refl; ended = refl }

pub sound_then : (r s t : LinkState) → IsSound r s → IsSound s t → IsSound r t
sound_then r s t p q = record { failures = q.failures ∙ p.failures; stalls = q.stalls ∙ p.stalls; ended = q.ended ∙ p.ended }

pub fault_then : (r s t : LinkState) → IsSound r s → IsFault s t → IsFault r t
fault_then r s t p q = record {
  fault = elim q.fault [ inl f ↦ inl (rw p.failures at f.0, f.1 ∙ p.stalls) | inr f ↦ inr (f.0 ∙ p.failures, rw p.stalls at f.1) ];
  ended = q.ended ∙ p.ended;
}

-- one of several pieces was cut, if those before it were sent
pub piece_cut : {E F X : Type 0} (f : X → List ℕ) (a b c : LinkState) (e : E) (fault : F) (pieces : List X) (i : ℕ) (d : X) → i < length pieces
    → Appends a.held b.held (flat_map f (take i pieces)) → IsSound a b → b.left ≡ a.left → b.reads ≡ a.reads → Puts b c (Err e) (f (get_or pieces i d)) → Puts a c (Err fault) (flat_map f pieces)
piece_cut f a b c e fault pieces i d lt before sound left reads cut =
    record {
      sent = pieces_cut a.held b.held c.held e f pieces i d lt before cut.sent;
      faults = fault_then a b c sound cut.faults;
      left = cut.left ∙ left;
      reads = cut.reads ∙ reads;
    }
