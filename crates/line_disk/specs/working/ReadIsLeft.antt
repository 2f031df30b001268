-- A law that the model of a disk in memory asks for: what a read gives is among what a crash could leave.
use Rattle.std.specs.Prelude.{◌≡◌, ℕ, ◌+◌, ◌≤◌, List, [], ◌∷◌, ◌++◌, length, take, drop, max, refl}
use Rattle.std.proofs.Common.{sym, ◌∙◌, ap, subst, arith, inl, inr, length-append, length-take, length-drop, append_assoc}
use Rattle.std.proofs.lemmas.Bool.Decides.{leb_tells}
use Rattle.std.proofs.lemmas.List.{take_at, drop_at, take_all, take_min, length-take-le}
use Rattle.line_disk.specs.Disk.{IsTorn, IsShortened, written}
use Rattle.line_disk.specs.Replay.{after_call, after_calls, left_by, left_by_calls}
use Rattle.line_disk.specs.Calls.{Call, Write, Cut, Sync, Idle}

pub torn_same : (at n : ℕ) (d : List ℕ) → IsTorn at n d d
torn_same at n d = record { before = refl; after = refl; no_shorter = omega arith; no_longer = omega arith }

pub torn_written : (file bytes : List ℕ) (at : ℕ) → at ≤ length file → IsTorn at (length bytes) file (written file at bytes)
torn_written file bytes at le =
    let size : length (written file at bytes) ≡ max (length file) (at + length bytes) =
    omega (arith, length-append (take at file ++ bytes) (drop (at + length bytes) file), length-append (take at file) bytes, length-take at file, length-drop (at + length bytes) file) in
    let front : length (take at file) ≡ at = length-take-le at file le in
    let parts : length (take at file ++ bytes) ≡ at + length bytes = omega (arith, front, length-append (take at file) bytes) in
    record {
      before = ap (λ (l : List ℕ). take at l) (append_assoc (take at file) bytes (drop (at + length bytes) file)) ∙ take_at (take at file) (bytes ++ drop (at + length bytes) file) at front;
      after = drop_at (take at file ++ bytes) (drop (at + length bytes) file) (at + length bytes) parts;
      no_shorter = omega (arith, size);
      no_longer = omega (arith, size);
    }

pub shortened_cut : (n : ℕ) (file : List ℕ) → IsShortened n file (take n file)
shortened_cut n file = record {
  no_shorter = omega (arith, length-take n file);
  no_longer = omega (arith, length-take n file);
  front = sym (ap (λ (m : ℕ). take m file) (length-take n file) ∙ take_min n file);
}

pub left_after : (file : List ℕ) (images : List ℕ → Type 0) (call : Call) → images file → left_by file images call (after_call file call)
left_after file images (Write at bytes) here = elim (leb_tells at (length file)) [
  | inl fits ↦ rw fits.0 (file, here, torn_written file bytes at fits.1)
  | inr past ↦ rw past.0 (file, here, torn_same at (length bytes) file)
]
left_after file images (Cut n) here = (file, here, shortened_cut n file)
left_after file images Sync here = refl
left_after file images Idle here = here

pub left_at_end : (file : List ℕ) (images : List ℕ → Type 0) (calls : List Call) → images file → left_by_calls file images calls (after_calls file calls)
left_at_end file images [] here = here
left_at_end file images (call ∷ calls) here = left_at_end (after_call file call) (left_by file images call) calls (left_after file images call here)

pub left_now : (first : List ℕ) (calls : List Call) → left_by_calls first (λ f. f ≡ first) (take (length calls) calls) (after_calls first calls)
left_now first calls =
    subst (λ (cs : List Call). left_by_calls first (λ f. f ≡ first) cs (after_calls first calls)) (sym (take_all (length calls) calls (omega arith))) (left_at_end first (λ f. f ≡ first) calls refl)
