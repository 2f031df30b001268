-- Tests over lists.
use Rattle.std.proofs.Common.{◌≡◌, Bool, true, false, Some, List, [], ◌∷◌, refl, sym, true≢false}
use Rattle.std.specs.Prelude.{◌&&◌, ◌||◌, find}
use Rattle.std.specs.List.{list_all, list_any}
use Rattle.std.specs.Str.{bytes_eq}
use Rattle.std.proofs.lemmas.Slice.Eq.{bytes_eq-Decides}
use Rattle.clap.specs.Walk.{Text}

pub both : (s t : Bool) → (s && t) ≡ true → (s ≡ true) × (t ≡ true)
both true t e = (refl, e)
both false t e = absurd (true≢false (sym e))

pub or_passes : (s t : Bool) → (s || t) ≡ true → s ≡ false → t ≡ true
or_passes true t e f = absurd (true≢false f)
or_passes false t e f = e

module _ {X : Type 0} where
  pub found : (p : X → Bool) (c : List X) (a : X) → find p c ≡ Some a → p a ≡ true
  found p [] a is = absurd (cc)
  found p (x ∷ c) a is = go (p x) refl (found p c a)
    where
      go : (t : Bool) → p x ≡ t → (find p c ≡ Some a → p a ≡ true) → p a ≡ true
      go true e later = (let same : Some x ≡ Some a = rw e at is in let one : x ≡ a = cc in rw (← one) e)
      go false e later = later (rw e at is)

  -- what all pass, the one that is found passes
  pub all_found : (q p : X → Bool) (c : List X) (a : X) → list_all q c ≡ true → find p c ≡ Some a → q a ≡ true
  all_found q p [] a all is = absurd (cc)
  all_found q p (x ∷ c) a all is = (let parts = both (q x) (list_all q c) all in go (p x) refl parts.0 (all_found q p c a parts.1))
    where
      go : (t : Bool) → p x ≡ t → q x ≡ true → (find p c ≡ Some a → q a ≡ true) → q a ≡ true
      go true e here later = (let same : Some x ≡ Some a = rw e at is in let one : x ≡ a = cc in rw (← one) here)
      go false e here later = later (rw e at is)

-- and so does each text among them
pub all_among : (q : Text → Bool) (keys : List Text) (key : Text) → list_all q keys ≡ true → list_any (bytes_eq key) keys ≡ true → q key ≡ true
all_among q [] key all is = absurd (true≢false (sym is))
all_among q (x ∷ keys) key all is = (let parts = both (q x) (list_all q keys) all in go (bytes_eq key x) refl parts.0 (all_among q keys key parts.1))
  where
    go : (t : Bool) → bytes_eq key x ≡ t → q x ≡ true → (list_any (bytes_eq key) keys ≡ true → q key ≡ true) → q key ≡ true
    go true e here later = rw ((bytes_eq-Decides key x).0 e) here
    go false e here later = later (rw e at is)
