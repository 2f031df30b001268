-- One more call on a file, and the devices that keep the model.
use Rattle.std.proofs.Common.{◌≡◌, ℕ, suc, ◌-◌, ◌≤◌, List, [], ◌∷◌, length, drop, refl, sym, ◌∙◌, ap, subst, arith, Bool, true, false, cond}
use Rattle.std.proofs.lemmas.Bool.{le-leb}
use Rattle.std.proofs.lemmas.List.{take_all}
use Rattle.line_disk.specs.Disk.{IsTorn, IsShortened, Passes, Rests}
use Rattle.line_disk.specs.Device.{Done, Written, CutTo, Synced, NotWritten, NotCut, NotSynced, held, any_failed, Leaving, KeepsModel, up_to, view_by, modelled, PremiseCanHold, PremiseCanFail, IsWithinModel}
use Rattle.line_disk.specs.working.ReadIsLeft.{torn_same, torn_written, shortened_cut}
use Rattle.line_disk.specs.FileReadIsLeft.{up_to_all}

up_to_more : (k : ℕ) (call : Done) (calls : List Done) → k ≤ length calls → up_to k (call ∷ calls) ≡ up_to k calls
up_to_more k call calls le =
    let more : length (call ∷ calls) - k ≡ suc (length calls - k) = omega (arith, le) in
    ap (λ (n : ℕ). drop n (call ∷ calls)) more

up_to_new : (k : ℕ) (call : Done) (calls : List Done) → suc (length calls) ≤ k → up_to k (call ∷ calls) ≡ call ∷ calls
up_to_new k call calls le =
    let none : length (call ∷ calls) - k ≡ 0 = omega (arith, le) in
    ap (λ (n : ℕ). drop n (call ∷ calls)) none

module _ (leaves : Leaving) (first first' : List ℕ) (calls calls' : List Done) (same : first' ≡ first) where
  passes : (step : List ℕ → List ℕ → Type 0) (call : Done) → calls' ≡ call ∷ calls
      → ((c : List ℕ) → leaves first (call ∷ calls) c → (d : List ℕ) × leaves first calls d × step d c)
      → Passes step (view_by leaves first calls) (view_by leaves first' calls')
  passes step call is from =
      subst (λ (f : List ℕ). Passes step (view_by leaves first calls) (view_by leaves f calls')) (sym same)
      (subst (λ (l : List Done). Passes step (view_by leaves first calls) (view_by leaves first l)) (sym is) (record {
        later = omega arith;
        past = λ k c le.
            let e = up_to_more k call calls le in
            (λ left. subst (λ (l : List Done). leaves first l c) e left, λ left. subst (λ (l : List Done). leaves first l c) (sym e) left);
        since = λ k c lt le left.
            let here = from c (subst (λ (l : List Done). leaves first l c) (up_to_new k call calls (omega (arith, lt))) left) in
            (here.0, subst (λ (l : List Done). leaves first l here.0) (sym (up_to_all calls)) here.1, here.2);
      }))

  module _ (keeps : KeepsModel leaves) where
    pub after_write : (at : ℕ) (bytes : List ℕ) (b : Bool) → at ≤ length (held first calls)
        → calls' ≡ cond b (Written at bytes) (NotWritten at (length bytes)) ∷ calls
        → Passes (IsTorn at (length bytes)) (view_by leaves first calls) (view_by leaves first' calls')
    after_write at bytes true le is = passes (IsTorn at (length bytes)) (Written at bytes) is (λ c left. keeps.write first calls at bytes c le left)
    after_write at bytes false le is = passes (IsTorn at (length bytes)) (NotWritten at (length bytes)) is (λ c left. keeps.no_write first calls at (length bytes) c le left)

    pub after_cut : (n : ℕ) (b : Bool) → n ≤ length (held first calls)
        → calls' ≡ cond b (CutTo n) (NotCut n) ∷ calls
        → Passes (IsShortened n) (view_by leaves first calls) (view_by leaves first' calls')
    after_cut n true le is = passes (IsShortened n) (CutTo n) is (λ c left. keeps.cut first calls n c le left)
    after_cut n false le is = passes (IsShortened n) (NotCut n) is (λ c left. keeps.no_cut first calls n c le left)

    pub after_sync : (b : Bool) → any_failed calls ≡ false
        → calls' ≡ cond b Synced NotSynced ∷ calls
        → Rests (view_by leaves first calls) (view_by leaves first' calls')
    after_sync true ok is = (
      passes (λ d c. c ≡ d) Synced is (λ c left. (held first calls, keeps.read first calls, keeps.sync first calls c ok left)),
      ap (λ (f : List ℕ). held f calls') same ∙ ap (λ (l : List Done). held first l) is,
    )
    after_sync false ok is = (
      passes (λ d c. c ≡ d) NotSynced is (λ c left. (c, keeps.no_sync first calls c left, refl)),
      ap (λ (f : List ℕ). held f calls') same ∙ ap (λ (l : List Done). held first l) is,
    )

shortened_same : (n : ℕ) (d : List ℕ) → IsShortened n d d
shortened_same n d = record { no_shorter = omega arith; no_longer = omega arith; front = sym (take_all (length d) d (omega arith)) }

modelled_read : (first : List ℕ) (calls : List Done) → modelled first calls (held first calls)
modelled_read first [] = tt
modelled_read first (Written at bytes ∷ calls) = λ le.
    rw (le-leb at (length (held first calls)) le) (held first calls, modelled_read first calls, torn_written (held first calls) bytes at le)
modelled_read first (CutTo n ∷ calls) = λ le. (held first calls, modelled_read first calls, shortened_cut n (held first calls))
modelled_read first (Synced ∷ calls) = λ ok. refl
modelled_read first (NotWritten at n ∷ calls) = λ le. (held first calls, modelled_read first calls, torn_same at n (held first calls))
modelled_read first (NotCut n ∷ calls) = λ le. (held first calls, modelled_read first calls, shortened_same n (held first calls))
modelled_read first (NotSynced ∷ calls) = modelled_read first calls

pub can_hold : PremiseCanHold
can_hold = record {
  read = modelled_read;
  write = λ first calls at bytes c le left. left le;
  no_write = λ first calls at n c le left. left le;
  cut = λ first calls n c le left. left le;
  no_cut = λ first calls n c le left. left le;
  sync = λ first calls c ok left. left ok;
  no_sync = λ first calls c left. left;
}

pub can_fail : PremiseCanFail
can_fail keeps = absurd (cc (keeps.sync [] [] (0 ∷ []) refl tt))

pub within_model : (leaves : Leaving) → IsWithinModel leaves
within_model leaves keeps first [] c left = tt
within_model leaves keeps first (Written at bytes ∷ calls) c left = λ le.
    let d = keeps.write first calls at bytes c le left in
    (d.0, within_model leaves keeps first calls d.0 d.1, d.2)
within_model leaves keeps first (NotWritten at n ∷ calls) c left = λ le.
    let d = keeps.no_write first calls at n c le left in
    (d.0, within_model leaves keeps first calls d.0 d.1, d.2)
within_model leaves keeps first (CutTo n ∷ calls) c left = λ le.
    let d = keeps.cut first calls n c le left in
    (d.0, within_model leaves keeps first calls d.0 d.1, d.2)
within_model leaves keeps first (NotCut n ∷ calls) c left = λ le.
    let d = keeps.no_cut first calls n c le left in
    (d.0, within_model leaves keeps first calls d.0 d.1, d.2)
within_model leaves keeps first (Synced ∷ calls) c left = λ ok. keeps.sync first calls c ok left
within_model leaves keeps first (NotSynced ∷ calls) c left = within_model leaves keeps first calls c (keeps.no_sync first calls c left)
