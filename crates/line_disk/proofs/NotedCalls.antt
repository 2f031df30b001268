-- One more call among those that are noted, and the images in the middle of them.
use Rattle.std.proofs.Common.{◌≡◌, ℕ, zero, suc, ◌+◌, ◌-◌, ◌<◌, ◌≤◌, List, [], ◌∷◌, ◌++◌, replicate, length, length-append, drop, get_or, refl, sym, ◌∙◌, ap, arith, append_assoc}
use Rattle.std.proofs.lemmas.List.{append-nil, replicate_more, drop_more}
use Rattle.line_disk.specs.Calls.{Call, Idle}
use Rattle.line_disk.specs.working.Noting.{call_of, noted_calls, calls_in}
use Rattle.line_disk.specs.Replay.{after_call, after_part, image_at}
use Rattle.line_disk.specs.declared.change.Change.{Change}
use Rattle.line_disk.specs.declared.change.Noted.{Noted}

pub one_idle : (changes : List Noted) (i : ℕ) → calls_in changes (i + 1) ≡ calls_in changes i ++ Idle ∷ []
one_idle changes i =
    ap (λ (l : List Call). noted_calls changes ++ l) (sym (replicate_more i Idle)) ∙ sym (append_assoc (noted_calls changes) (replicate i Idle) (Idle ∷ []))

noted_calls-push : (changes : List Noted) (noted : Noted) → noted_calls (changes ++ noted ∷ []) ≡ noted_calls changes ++ (replicate noted.idle Idle ++ call_of noted.change ∷ [])
noted_calls-push [] noted = refl
noted_calls-push (x ∷ changes) noted =
    ap (λ (l : List Call). replicate x.idle Idle ++ (call_of x.change ∷ l)) (noted_calls-push changes noted)
    ∙ sym (append_assoc (replicate x.idle Idle) (call_of x.change ∷ noted_calls changes) (replicate noted.idle Idle ++ call_of noted.change ∷ []))

abbrev pub noted : ℕ → Change → Noted
noted i change = record { idle = i; change = change }

pub one_change : (changes later : List Noted) (i : ℕ) (change : Change) → later ≡ changes ++ noted i change ∷ [] → calls_in later 0 ≡ calls_in changes i ++ call_of change ∷ []
one_change changes later i change is =
    append-nil (noted_calls later) ∙ ap noted_calls is ∙ noted_calls-push changes (noted i change) ∙ sym (append_assoc (noted_calls changes) (replicate i Idle) (call_of change ∷ []))

pub one_idle_counted : (changes : List Noted) (i count : ℕ) → count ≡ length (calls_in changes i) → count + 1 ≡ length (calls_in changes (i + 1))
one_idle_counted changes i count is = omega (arith, is, ap length (one_idle changes i), length-append (calls_in changes i) (Idle ∷ []))

pub one_change_counted : (changes later : List Noted) (i count : ℕ) (change : Change) → later ≡ changes ++ noted i change ∷ [] → count ≡ length (calls_in changes i) → count + 1 ≡ length (calls_in later 0)
one_change_counted changes later i count change is counted =
    omega (arith, counted, ap length (one_change changes later i change is), length-append (calls_in changes i) (call_of change ∷ []))

pub next_noted : (all : List Noted) (i : ℕ) (call : Noted) → i < length all → call ≡ get_or all i call → drop i all ≡ call ∷ drop (i + 1) all
next_noted all i call lt is = drop_more all i call lt ∙ ap (λ (x : Noted). x ∷ drop (i + 1) all) (sym is)

-- calls that do nothing
idle_image : (file : List ℕ) (i k n : ℕ) → image_at file (replicate i Idle) k n ≡ file
idle_image file zero k n = refl
idle_image file (suc i) zero n = refl
idle_image file (suc i) (suc k) n = idle_image file i k n

within_idle : (file : List ℕ) (i k n : ℕ) (calls : List Call) → k < i → image_at file (replicate i Idle ++ calls) k n ≡ file
within_idle file zero k n calls lt = absurd (omega (arith, lt))
within_idle file (suc i) zero n calls lt = refl
within_idle file (suc i) (suc k) n calls lt = within_idle file i k n calls (omega (arith, lt))

past_idle : (file : List ℕ) (i k n : ℕ) (calls : List Call) → i ≤ k → image_at file (replicate i Idle ++ calls) k n ≡ image_at file calls (k - i) n
past_idle file zero k n calls le = let same : k ≡ k - 0 = omega arith in ap (λ (m : ℕ). image_at file calls m n) same
past_idle file (suc i) zero n calls le = absurd (omega (arith, le))
past_idle file (suc i) (suc k) n calls le =
    let same : k - i ≡ suc k - suc i = omega arith in
    past_idle file i k n calls (omega (arith, le)) ∙ ap (λ (m : ℕ). image_at file calls m n) same

-- calls behind the last change make no other image
pub image_behind : (file : List ℕ) (calls : List Call) (i k n : ℕ) → image_at file (calls ++ replicate i Idle) k n ≡ image_at file calls k n
image_behind file [] i k n = idle_image file i k n
image_behind file (call ∷ calls) i zero n = refl
image_behind file (call ∷ calls) i (suc k) n = image_behind (after_call file call) calls i k n

module _ (file : List ℕ) (call : Noted) (later : List Noted) (left n : ℕ) where
  pub stops_before : left < call.idle → image_at file (noted_calls (call ∷ later)) left n ≡ file
  stops_before lt = within_idle file call.idle left n (call_of call.change ∷ noted_calls later) lt

  pub stops_inside : call.idle ≤ left → left - call.idle ≡ 0 → image_at file (noted_calls (call ∷ later)) left n ≡ after_part file (call_of call.change) n
  stops_inside le is =
      past_idle file call.idle left n (call_of call.change ∷ noted_calls later) le ∙ ap (λ (m : ℕ). image_at file (call_of call.change ∷ noted_calls later) m n) is

  pub goes_past : call.idle < left → image_at file (noted_calls (call ∷ later)) left n ≡ image_at (after_call file (call_of call.change)) (noted_calls later) (left - call.idle - 1) n
  goes_past lt =
      let more : left - call.idle ≡ suc (left - call.idle - 1) = omega (arith, lt) in
      past_idle file call.idle left n (call_of call.change ∷ noted_calls later) (omega (arith, lt)) ∙ ap (λ (m : ℕ). image_at file (call_of call.change ∷ noted_calls later) m n) more
