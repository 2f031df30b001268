-- The bytes after some calls and a part of the next are among what a crash could leave.
use Rattle.std.proofs.Common.{◌≡◌, ℕ, zero, suc, ◌+◌, ◌-◌, ◌≤◌, List, [], ◌∷◌, length, take, drop, min, refl, sym, ◌∙◌, ap, subst, arith, inl, inr, length-take}
use Rattle.std.proofs.lemmas.Bool.Decides.{leb_tells}
use Rattle.std.proofs.lemmas.List.{take_all, take_min, drop-drop}
use Rattle.line_disk.specs.Disk.{IsTorn}
use Rattle.line_disk.specs.working.ReadIsLeft.{torn_same, torn_written, left_after}
use Rattle.line_disk.specs.Replay.{after_call, after_part, image_at, left_by, left_by_calls}
use Rattle.line_disk.specs.working.Noting.{noted_calls, calls_in}
use Rattle.line_disk.specs.declared.change.Noted.{Noted}
use Rattle.line_disk.proofs.NotedCalls.{image_behind}
use Rattle.line_disk.specs.Calls.{Call, Write, Cut, Sync, Idle}

torn_wider : (at m n : ℕ) (d c : List ℕ) → m ≤ n → IsTorn at m d c → IsTorn at n d c
torn_wider at m n d c le torn = record {
  before = torn.before;
  after =
      let far : at + n ≡ (at + m) + (n - m) = omega (arith, le) in
      ap (λ (k : ℕ). drop k c) far ∙ sym (drop-drop (n - m) (at + m) c) ∙ ap (λ (l : List ℕ). drop (n - m) l) torn.after ∙ drop-drop (n - m) (at + m) d ∙ ap (λ (k : ℕ). drop k d) (sym far);
  no_shorter = torn.no_shorter;
  no_longer = omega (arith, torn.no_longer, le);
}

part_left : (file : List ℕ) (images : List ℕ → Type 0) (call : Call) (n : ℕ) → images file → left_by file images call (after_part file call n)
part_left file images (Write at bytes) n here = elim (leb_tells at (length file)) [
  | inl fits ↦ rw fits.0 (file, here, torn_wider at (length (take n bytes)) (length bytes) _ _ (omega (arith, length-take n bytes)) (torn_written file (take n bytes) at fits.1))
  | inr past ↦ rw past.0 (file, here, torn_same at (length bytes) file)
]
part_left file images (Cut m) n here = (file, here, record { no_shorter = omega arith; no_longer = omega arith; front = sym (take_all (length file) file (omega arith)) })
part_left file images Sync n here = refl
part_left file images Idle n here = here

image_left : (file : List ℕ) (images : List ℕ → Type 0) (calls : List Call) (k n : ℕ) → images file → left_by_calls file images (take (suc k) calls) (image_at file calls k n)
image_left file images [] k n here = here
image_left file images (call ∷ calls) zero n here = part_left file images call n here
image_left file images (call ∷ calls) (suc k) n here = image_left (after_call file call) (left_by file images call) calls k n (left_after file images call here)

pub image_is_left : (first : List ℕ) (calls : List Call) (k n : ℕ) → left_by_calls first (λ f. f ≡ first) (take (min (k + 1) (length calls)) calls) (image_at first calls k n)
image_is_left first calls k n =
    let one_on : k + 1 ≡ suc k = omega arith in
    let same : take (min (k + 1) (length calls)) calls ≡ take (suc k) calls = take_min (k + 1) calls ∙ ap (λ (m : ℕ). take m calls) one_on in
    subst (λ (cs : List Call). left_by_calls first (λ f. f ≡ first) cs (image_at first calls k n)) (sym same) (image_left first (λ f. f ≡ first) calls k n refl)

-- the image that is made of the noted changes, over what the disk held at first
pub image_made : (first held : List ℕ) (changes done : List Noted) (idle k n : ℕ) (image : List ℕ) → held ≡ first → done ≡ changes → image ≡ image_at held (noted_calls done) k n → image ≡ image_at first (calls_in changes idle) k n
image_made first held changes done idle k n image same all is =
    is ∙ ap (λ (f : List ℕ). image_at f (noted_calls done) k n) same ∙ ap (λ (l : List Noted). image_at first (noted_calls l) k n) all
    ∙ sym (image_behind first (noted_calls changes) idle k n)

pub image_crash : (first : List ℕ) (calls : List Call) (k n : ℕ) (image : List ℕ) → image ≡ image_at first calls k n
    → left_by_calls first (λ f. f ≡ first) (take (min (k + 1) (length calls)) calls) image
image_crash first calls k n image is =
    subst (λ (c : List ℕ). left_by_calls first (λ f. f ≡ first) (take (min (k + 1) (length calls)) calls) c) (sym is) (image_is_left first calls k n)
