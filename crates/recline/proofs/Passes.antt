-- Passes of sessions that were served.
use Rattle.std.proofs.Common.{◌≡◌, ℕ, ◌+◌, List, [], ◌∷◌, ◌++◌, ◌∙◌, refl, sym, ap, subst, map, append_assoc, arith, Option, Some, None}
use Rattle.std.specs.List.{flat_map}
use Rattle.std.proofs.lemmas.List.{append-nil, map-append}
use Rattle.std.proofs.lemmas.List.Concat.{flat_map-append}
use Rattle.std.specs.Io.KnownBytes.{Appends}
use Rattle.std.proofs.Math.Logic.{∥∥₁_map}
use Rattle.line_disk.specs.Disk.{View}
use Rattle.coordinator.specs.Passes.{PassState}
use Rattle.session.specs.declared.kind.SessionEndKind.{SessionEndKind}
use Rattle.client_link.specs.Links.{LinkState}
use Rattle.session.specs.Sessions.{WasServed}
use Rattle.recline.specs.Serving.{AreOfSessions, AreServed, IsOfSession, dropped_in, drops}

one_dropped : (kinds : List SessionEndKind) (kind : SessionEndKind) → dropped_in (kinds ++ kind ∷ []) ≡ dropped_in kinds + drops kind
one_dropped [] kind = omega (arith)
one_dropped (k ∷ kinds) kind = let rest = one_dropped kinds kind in omega (arith, rest)

-- what is taken of each element, behind one element more
pub one_taken : {A B : Type 0} (f : A → B) (xs : List A) (x : A) (first before behind : List B) → before ≡ first ++ map f xs → behind ≡ before ++ f x ∷ []
    → behind ≡ first ++ map f (xs ++ x ∷ [])
one_taken f xs x first before behind is next =
    next ∙ (ap (λ l. l ++ f x ∷ []) is ∙ (append_assoc first (map f xs) (f x ∷ []) ∙ ap (λ l. first ++ l) (sym (map-append f xs (x ∷ [])))))

pub one_counted : {A : Type 0} (f : A → SessionEndKind) (xs : List A) (x : A) (first before behind : ℕ) → before ≡ first + dropped_in (map f xs) → behind ≡ before + drops (f x)
    → behind ≡ first + dropped_in (map f (xs ++ x ∷ []))
one_counted f xs x first before behind is next =
    let more = ap dropped_in (map-append f xs (x ∷ [])) ∙ one_dropped (map f xs) (f x) in
    omega (arith, is, next, more)

-- the same of what is taken of each list
pub list_taken : {A B : Type 0} (f : A → List B) (xs : List A) (x : A) (before behind : List B) → before ≡ flat_map f xs → behind ≡ before ++ f x → behind ≡ flat_map f (xs ++ x ∷ [])
list_taken f xs x before behind is next =
    next ∙ (ap (λ l. l ++ f x) is ∙ (ap (λ l. flat_map f xs ++ l) (sym (append-nil (f x))) ∙ sym (flat_map-append f xs (x ∷ []))))

dropped_apart : (kinds others : List SessionEndKind) → dropped_in (kinds ++ others) ≡ dropped_in kinds + dropped_in others
dropped_apart [] others = omega (arith)
dropped_apart (k ∷ kinds) others = let rest = dropped_apart kinds others in omega (arith, rest)

pub list_counted : {A : Type 0} (f : A → List SessionEndKind) (xs : List A) (x : A) (before behind : ℕ) → before ≡ dropped_in (flat_map f xs) → behind ≡ before + dropped_in (f x)
    → behind ≡ dropped_in (flat_map f (xs ++ x ∷ []))
list_counted f xs x before behind is next =
    let whole = ap dropped_in (list_taken f xs x (flat_map f xs) (flat_map f xs ++ f x) refl refl) in
    let parts = dropped_apart (flat_map f xs) (f x) in
    omega (arith, is, next, whole, parts)

module _ {D K : Type 0} (keeps : D → Type 0) (view : D → View) (told : K → LinkState) where
  -- what a worker keeps of a session
  pub of_session : (link : K) (pass : PassState) (kind : SessionEndKind) (replies : ℕ) → ∥ WasServed keeps view told link pass kind replies ∥₁ → ∥ IsOfSession keeps view told pass kind ∥₁
  of_session link pass kind replies t = ∥∥₁_map t (λ w. record { link = link; replies = replies; served = w })

  -- before the first session
  pub none_served : (passes : List PassState) → passes ≡ [] → AreServed keeps view told passes 0
  none_served passes is = subst (λ (l : List PassState). AreServed keeps view told l 0) (sym is) ([], tt, refl)

  one_of_sessions : (passes : List PassState) (kinds : List SessionEndKind) (pass : PassState) (kind : SessionEndKind) → AreOfSessions keeps view told passes kinds → ∥ IsOfSession keeps view told pass kind ∥₁
      → AreOfSessions keeps view told (passes ++ pass ∷ []) (kinds ++ kind ∷ [])
  one_of_sessions [] [] pass kind before this = (this, tt)
  one_of_sessions [] (k ∷ kinds) pass kind before this = absurd before
  one_of_sessions (p ∷ passes) [] pass kind before this = absurd before
  one_of_sessions (p ∷ passes) (k ∷ kinds) pass kind before this = (before.0, one_of_sessions passes kinds pass kind before.1 this)

  -- and behind one session more
  pub one_more : (passes : List PassState) (pass : PassState) (kind : SessionEndKind) (dropped more : ℕ) → AreServed keeps view told passes dropped → ∥ IsOfSession keeps view told pass kind ∥₁ → more ≡ dropped + drops kind
      → AreServed keeps view told (passes ++ pass ∷ []) more
  one_more passes pass kind dropped more before this is =
      let so_far = before.2 in
      let behind = one_dropped before.0 kind in
      (before.0 ++ kind ∷ [], one_of_sessions passes before.0 pass kind before.1 this, omega (arith, so_far, behind, is))

-- ---- what was written

pub appends_then : (a b c : Option (List ℕ)) (x y : List ℕ) → Appends a b x → Appends b c y → Appends a c (x ++ y)
appends_then None b c x y p q = tt
appends_then (Some xs) None c x y p q = absurd p
appends_then (Some xs) (Some ys) None x y p q = absurd q
appends_then (Some xs) (Some ys) (Some zs) x y p q = q ∙ (ap (λ (l : List ℕ). l ++ y) p ∙ append_assoc xs x y)
