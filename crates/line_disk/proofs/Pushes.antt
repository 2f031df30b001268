-- One more call on a disk in memory.
use Rattle.std.proofs.Common.{◌≡◌, ◌↔◌, ℕ, ◌≤◌, List, [], ◌∷◌, ◌++◌, length, take, refl, sym, ◌∙◌, ap, subst, arith, length-append, Bool, true, false, cond}
use Rattle.std.specs.Prelude.{Result, Ok, Err, OnOk}
use Rattle.std.specs.Result.{is_err}
use Rattle.std.proofs.lemmas.Bool.{le-leb}
use Rattle.std.proofs.lemmas.List.{take_all, take-append-le}
use Rattle.line_disk.specs.Disk.{View, Leaves, IsTorn, IsShortened, Passes, Rests, written, DidNothing, DidWrite, DidCut, DidSync}
use Rattle.line_disk.specs.Replay.{after_call, after_calls, left_by, left_by_calls, replay}
use Rattle.line_disk.specs.working.ReadIsLeft.{left_at_end}
use Rattle.line_disk.specs.Calls.{Call, Write, Cut, Sync, Idle}

pub after_calls-push : (file : List ℕ) (calls : List Call) (call : Call) → after_calls file (calls ++ call ∷ []) ≡ after_call (after_calls file calls) call
after_calls-push file [] call = refl
after_calls-push file (x ∷ calls) call = after_calls-push (after_call file x) calls call

left_by-push : (file : List ℕ) (images : List ℕ → Type 0) (calls : List Call) (call : Call) (c : List ℕ)
    → left_by_calls file images (calls ++ call ∷ []) c → left_by (after_calls file calls) (left_by_calls file images calls) call c
left_by-push file images [] call c left = left
left_by-push file images (x ∷ calls) call c left = left_by-push (after_call file x) (left_by file images x) calls call c left

left_by-pushed : (file : List ℕ) (images : List ℕ → Type 0) (calls : List Call) (call : Call) (c : List ℕ)
    → left_by (after_calls file calls) (left_by_calls file images calls) call c → left_by_calls file images (calls ++ call ∷ []) c
left_by-pushed file images [] call c left = left
left_by-pushed file images (x ∷ calls) call c left = left_by-pushed (after_call file x) (left_by file images x) calls call c left

-- what a crash after these calls could leave
abbrev pub images : List ℕ → List Call → List ℕ → Type 0
images first calls = left_by_calls first (λ f. f ≡ first) calls

module _ (first : List ℕ) (calls later : List Call) (call : Call) (is : later ≡ calls ++ call ∷ []) where
  pub passes : (step : List ℕ → List ℕ → Type 0) → ((c : List ℕ) → left_by (after_calls first calls) (images first calls) call c → (d : List ℕ) × images first calls d × step d c)
      → Passes step (replay first calls) (replay first later)
  passes step from = subst (λ (l : List Call). Passes step (replay first calls) (replay first l)) (sym is) (record {
    later = omega (arith, length-append calls (call ∷ []));
    past = λ k c le.
        let same : take k (calls ++ call ∷ []) ≡ take k calls = take-append-le k calls (call ∷ []) le in
        (λ left. subst (λ (l : List Call). images first l c) same left, λ left. subst (λ (l : List Call). images first l c) (sym same) left);
    since = λ k c lt le left.
        let all : take k (calls ++ call ∷ []) ≡ calls ++ call ∷ [] = take_all k (calls ++ call ∷ []) (omega (arith, lt, length-append calls (call ∷ []))) in
        let here = from c (left_by-push first (λ f. f ≡ first) calls call c (subst (λ (l : List Call). images first l c) all left)) in
        (here.0, subst (λ (l : List Call). images first l here.0) (sym (take_all (length calls) calls (omega arith))) here.1, here.2);
  })

  pub seen : after_calls first later ≡ after_call (after_calls first calls) call
  seen = ap (λ (l : List Call). after_calls first l) is ∙ after_calls-push first calls call

  -- what a crash now could leave
  pub now : (c : List ℕ) → Leaves (replay first later) c → left_by (after_calls first calls) (images first calls) call c
  now c left =
      left_by-push first (λ f. f ≡ first) calls call c (subst (λ (l : List Call). images first l c) (take_all (length later) later (omega arith) ∙ is) left)

  -- and all of that could be left
  pub now_too : (c : List ℕ) → left_by (after_calls first calls) (images first calls) call c → Leaves (replay first later) c
  now_too c left =
      subst (λ (l : List Call). images first l c) (sym (take_all (length later) later (omega arith) ∙ is)) (left_by-pushed first (λ f. f ≡ first) calls call c left)

-- what a crash now could leave, by the calls
left_by_all : (first : List ℕ) (calls : List Call) (c : List ℕ) → Leaves (replay first calls) c ↔ images first calls c
left_by_all first calls c =
    let all = take_all (length calls) calls (omega arith) in
    (λ left. subst (λ (l : List Call). images first l c) all left, λ left. subst (λ (l : List Call). images first l c) (sym all) left)

module _ (first : List ℕ) (calls later : List Call) where
  pub did_nothing : (b : Bool) → later ≡ cond b (calls ++ Idle ∷ []) calls → DidNothing (replay first calls) (replay first later)
  did_nothing true is = (
    seen first calls later Idle is,
    λ c. (λ left. (left_by_all first calls c).1 (now first calls later Idle is c left), λ left. now_too first calls later Idle is c ((left_by_all first calls c).0 left)),
  )
  did_nothing false is = subst (λ (l : List Call). DidNothing (replay first calls) (replay first l)) (sym is) (refl, λ c. (λ left. left, λ left. left))

  pub did_write : (at : ℕ) (bytes copy : List ℕ) → copy ≡ bytes → at ≤ length (after_calls first calls) → later ≡ calls ++ Write at copy ∷ [] → DidWrite at bytes (replay first calls) (replay first later)
  did_write at bytes copy same le is = subst (λ (l : List ℕ). DidWrite at l (replay first calls) (replay first later)) same (
    seen first calls later (Write at copy) is ∙ ap (λ (b : Bool). cond b (written (after_calls first calls) at copy) (after_calls first calls)) (le-leb at (length (after_calls first calls)) le),
    λ c. (
      λ left. let d = now first calls later (Write at copy) is c left in (d.0, (left_by_all first calls d.0).1 d.1, d.2),
      λ d. now_too first calls later (Write at copy) is c (d.0, (left_by_all first calls d.0).0 d.1, d.2),
    ),
  )

  pub did_cut : (n : ℕ) → later ≡ calls ++ Cut n ∷ [] → DidCut n (replay first calls) (replay first later)
  did_cut n is = (
    seen first calls later (Cut n) is,
    λ c. (
      λ left. let d = now first calls later (Cut n) is c left in (d.0, (left_by_all first calls d.0).1 d.1, d.2),
      λ d. now_too first calls later (Cut n) is c (d.0, (left_by_all first calls d.0).0 d.1, d.2),
    ),
  )

  pub did_sync : later ≡ calls ++ Sync ∷ [] → DidSync (replay first calls) (replay first later)
  did_sync is = (seen first calls later Sync is, now first calls later Sync is)

-- no call
pub rests : (a : View) → Rests a a
rests a = (
  record {
    later = omega arith;
    past = λ k c le. (λ left. left, λ left. left);
    since = λ k c lt le left. absurd (omega (arith, lt, le));
  },
  refl,
)

pub same_calls : (step : List ℕ → List ℕ → Type 0) (first : List ℕ) (calls later : List Call) → later ≡ calls → Passes step (replay first calls) (replay first later)
same_calls step first calls later is = subst (λ (l : List Call). Passes step (replay first calls) (replay first l)) (sym is) (record {
  later = omega arith;
  past = λ k c le. (λ left. left, λ left. left);
  since = λ k c lt le left. absurd (omega (arith, lt, le));
})

module _ (first : List ℕ) (calls later : List Call) where
  -- a call that changes nothing, recorded or not
  pub after_idle : (b : Bool) → later ≡ cond b (calls ++ Idle ∷ []) calls → Rests (replay first calls) (replay first later)
  after_idle true is = (passes first calls later Idle is (λ d c. c ≡ d) (λ c left. (c, left, refl)), seen first calls later Idle is)
  after_idle false is = (same_calls (λ d c. c ≡ d) first calls later is, ap (λ (l : List Call). after_calls first l) is)

  pub after_sync : (b : Bool) → later ≡ cond b (calls ++ Sync ∷ []) calls → Rests (replay first calls) (replay first later)
  after_sync true is = (
    passes first calls later Sync is (λ d c. c ≡ d) (λ c left. (after_calls first calls, left_at_end first (λ f. f ≡ first) calls refl, left)),
    seen first calls later Sync is,
  )
  after_sync false is = (same_calls (λ d c. c ≡ d) first calls later is, ap (λ (l : List Call). after_calls first l) is)

  pub after_cut : (n : ℕ) → later ≡ calls ++ Cut n ∷ [] → Passes (IsShortened n) (replay first calls) (replay first later)
  after_cut n is = passes first calls later (Cut n) is (IsShortened n) (λ c left. left)

  pub after_write : (at : ℕ) (bytes copy : List ℕ) → copy ≡ bytes → later ≡ calls ++ Write at copy ∷ [] → Passes (IsTorn at (length bytes)) (replay first calls) (replay first later)
  after_write at bytes copy same is =
      subst (λ (l : List ℕ). Passes (IsTorn at (length l)) (replay first calls) (replay first later)) same (passes first calls later (Write at copy) is (IsTorn at (length copy)) (λ c left. left))

  pub write_seen : (at : ℕ) (v : List ℕ) → at ≤ length (after_calls first calls) → later ≡ calls ++ Write at v ∷ [] → after_calls first later ≡ written (after_calls first calls) at v
  write_seen at v le is =
      seen first calls later (Write at v) is
      ∙ ap (λ (b : Bool). cond b (written (after_calls first calls) at v) (after_calls first calls)) (le-leb at (length (after_calls first calls)) le)

-- what holds where a call was answered Ok
pub on_ok : {T E P : Type 0} (r : Result T E) → is_err r ≡ false → OnOk r P → P
on_ok (Ok x) good holds = holds
on_ok (Err e) good holds = absurd (cc good)
