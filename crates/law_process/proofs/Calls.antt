-- Calls that were made, by their places; what they gave; and which processes there were.
use Rattle.std.proofs.Common.{◌≡◌, ◌≢◌, ◌⊎◌, inl, inr, ℕ, ◌+◌, ◌<◌, Some, None, List, [], ◌∷◌, ◌++◌, length, refl, sym, ◌∙◌, ap, subst, arith}
use Rattle.std.specs.Prelude.{Contains}
use Rattle.std.specs.Str.{bytes_eq}
use Rattle.std.proofs.lemmas.Bool.{cond-true, cond-false}
use Rattle.std.proofs.lemmas.List.{length-append}
use Rattle.std.proofs.lemmas.Option.{none-some, same_Some}
use Rattle.law_histories.proofs.Bytes.{cases_name, bytes_same, bytes_other}
use Rattle.law_lines.proofs.Listed.{first_in, later_in, in_cases}
use Rattle.report_line.specs.histories.History.{Name}
use Rattle.process.specs.declared.process.Process.{Process}
use Rattle.process.specs.declared.handed.Message.{Message}
use Rattle.process.specs.declared.handed.Start.{Start}
use Rattle.process.specs.declared.handed.Retirement.{Retirement}
use Rattle.law_process.specs.Accounts.{Act, Work, Send, Again, Receive, Check, Present, Fork, Begin, Retire, Absorb, Return, Doing}
use Rattle.law_process.specs.Handing.{Past, first, goes_on, newest, GoesFromNewest, WasOnce, IsCall, IsNewName, IsUnbegun, IsUnabsorbed}

-- ---- places

same_first : (x y : Doing) (xs ys : Past) → x ∷ xs ≡ y ∷ ys → x ≡ y
same_first x y xs ys is = cc

same_rest : (x y : Doing) (xs ys : Past) → x ∷ xs ≡ y ∷ ys → xs ≡ ys
same_rest x y xs ys is = cc

in_back : (later earlier : Past) (d : Doing) → Contains (later ++ d ∷ earlier) d
in_back [] earlier d = first_in d earlier
in_back (x ∷ later) earlier d = later_in x d (later ++ d ∷ earlier) (in_back later earlier d)

pub call_in : (past : Past) (n : ℕ) (d : Doing) → IsCall past n d → Contains past d
call_in past n d call = subst (λ (l : Past). Contains l d) (sym call.past_is) (in_back call.later call.earlier d)

pub call_within : (past : Past) (n : ℕ) (d : Doing) → IsCall past n d → n < length past
call_within past n d call =
    let whole : length past ≡ length call.later + length (d ∷ call.earlier) = ap (λ (l : Past). length l) call.past_is ∙ length-append call.later (d ∷ call.earlier) in
    let number : length call.earlier ≡ n = call.number in
    omega arith

pub newest_call : (past : Past) (d : Doing) → IsCall (d ∷ past) (length past) d
newest_call past d = record { later = []; earlier = past; past_is = refl; number = refl }

pub call_cases : (past : Past) (d e : Doing) (n : ℕ) → IsCall (d ∷ past) n e → ((d ≡ e) × (length past ≡ n)) ⊎ IsCall past n e
call_cases past d e n call = by call.later call.earlier call.past_is call.number
  where
    by : (later before : Past) → d ∷ past ≡ later ++ e ∷ before → length before ≡ n → ((d ≡ e) × (length past ≡ n)) ⊎ IsCall past n e
    by [] before is number = inl (same_first d e past before is, ap (λ (l : Past). length l) (same_rest d e past before is) ∙ number)
    by (x ∷ later) before is number = inr (record { later = later; earlier = before; past_is = same_rest d x past (later ++ e ∷ before) is; number = number })

-- ---- what calls gave

abbrev pub GaveMessage : Past → ℕ → Message → Type 0
GaveMessage past n message = (d : Doing) × IsCall past n d × (d.act ≡ Send message)

-- it was handed over once more by a call, and sent by this one
abbrev pub GaveAgain : Past → ℕ → Message → Type 0
GaveAgain past n again = (d : Doing) × (sent : Message) × Contains past d × (d.act ≡ Again n sent again)

abbrev pub GaveStart : Past → ℕ → Start → Type 0
GaveStart past n start = (d : Doing) × (line : List ℕ) × IsCall past n d × (d.act ≡ Fork start line)

abbrev pub GaveRetirement : Past → ℕ → Retirement → Type 0
GaveRetirement past n retirement =
    (d : Doing) × (target : Name) × (given : List ℕ) × IsCall past n d × (d.act ≡ Retire target retirement given)

pub message_cases : (past : Past) (d : Doing) (n : ℕ) (m : Message) → GaveMessage (d ∷ past) n m
    → ((d.act ≡ Send m) × (length past ≡ n)) ⊎ GaveMessage past n m
message_cases past d n m gave =
    elim (call_cases past d gave.0 n gave.1) [
      | inl w ↦ inl (ap (λ (x : Doing). x.act) w.0 ∙ gave.2, w.1)
      | inr before ↦ inr (gave.0, before, gave.2)
    ]

pub again_cases : (past : Past) (d : Doing) (n : ℕ) (m : Message) → GaveAgain (d ∷ past) n m → ((sent : Message) × (d.act ≡ Again n sent m)) ⊎ GaveAgain past n m
again_cases past d n m gave =
    elim (in_cases d gave.0 past gave.2) [
      | inl same ↦ inl (gave.1, ap (λ (x : Doing). x.act) same ∙ gave.3)
      | inr before ↦ inr (gave.0, gave.1, before, gave.3)
    ]

pub start_cases : (past : Past) (d : Doing) (n : ℕ) (s : Start) → GaveStart (d ∷ past) n s
    → ((line : List ℕ) × (d.act ≡ Fork s line) × (length past ≡ n)) ⊎ GaveStart past n s
start_cases past d n s gave =
    elim (call_cases past d gave.0 n gave.2) [
      | inl w ↦ inl (gave.1, ap (λ (x : Doing). x.act) w.0 ∙ gave.3, w.1)
      | inr before ↦ inr (gave.0, gave.1, before, gave.3)
    ]

pub retirement_cases : (past : Past) (d : Doing) (n : ℕ) (r : Retirement) → GaveRetirement (d ∷ past) n r
    → ((target : Name) × (line : List ℕ) × (d.act ≡ Retire target r line) × (length past ≡ n)) ⊎ GaveRetirement past n r
retirement_cases past d n r gave =
    elim (call_cases past d gave.0 n gave.3) [
      | inl w ↦ inl (gave.1, gave.2, ap (λ (x : Doing). x.act) w.0 ∙ gave.4, w.1)
      | inr before ↦ inr (gave.0, gave.1, gave.2, before, gave.4)
    ]

pub unbegun_before : (past : Past) (d : Doing) (n : ℕ) → IsUnbegun (d ∷ past) n → IsUnbegun past n
unbegun_before past d n none x start at = none x start (later_in d x past at)

pub unabsorbed_before : (past : Past) (d : Doing) (n : ℕ) → IsUnabsorbed (d ∷ past) n → IsUnabsorbed past n
unabsorbed_before past d n none x retirement line at = none x retirement line (later_in d x past at)

-- ---- names

-- some call gave a start for a child of this name
abbrev pub IsForked : Past → Name → Type 0
IsForked past p = (d : Doing) × (start : Start) × (line : List ℕ) × Contains past d × (d.act ≡ Fork start line) × (start.child ≡ p)

abbrev pub IsNamed : Name → Past → Name → Type 0
IsNamed root past p = (p ≡ root) ⊎ IsForked past p

pub forked_later : (past : Past) (d : Doing) (p : Name) → IsForked past p → IsForked (d ∷ past) p
forked_later past d p w = (w.0, w.1, w.2, later_in d w.0 past w.3, w.4, w.5)

pub named_later : (root : Name) (past : Past) (d : Doing) (p : Name) → IsNamed root past p → IsNamed root (d ∷ past) p
named_later root past d p (inl is) = inl is
named_later root past d p (inr forked) = inr (forked_later past d p forked)

pub start_named : (past : Past) (n : ℕ) (s : Start) → GaveStart past n s → IsForked past s.child
start_named past n s gave = (gave.0, s, gave.1, call_in past n gave.0 gave.2, gave.3, refl)

pub new_is_unnamed : (root : Name) (past : Past) (p : Name) → IsNewName root past p → IsNamed root past p → ⊥
new_is_unnamed root past p new (inl is) = new.0 is
new_is_unnamed root past p new (inr w) = new.1 w.0 w.1 w.2 w.3 w.4 w.5

-- ---- who was once, and who is by now

pub once_cases : (root : Name) (past : Past) (d : Doing) (p : Process) → WasOnce root (d ∷ past) p → (p ≡ d.new) ⊎ WasOnce root past p
once_cases root past d p (inl is) = inr (inl is)
once_cases root past d p (inr w) =
    elim (in_cases d w.0 past w.1) [
      | inl same ↦ inl (w.2 ∙ ap (λ (x : Doing). x.new) (sym same))
      | inr old ↦ inr (inr (w.0, old, w.2))
    ]

pub once_later : (root : Name) (past : Past) (d : Doing) (p : Process) → WasOnce root past p → WasOnce root (d ∷ past) p
once_later root past d p (inl is) = inl is
once_later root past d p (inr w) = inr (w.0, later_in d w.0 past w.1, w.2)

pub goes_on_is : (a : Act) (new s : Process) → goes_on a new ≡ Some s → s ≡ new
goes_on_is Work new s is = sym (same_Some new s is)
goes_on_is (Send message) new s is = sym (same_Some new s is)
goes_on_is (Again from message again) new s is = sym (same_Some new s is)
goes_on_is (Receive from message) new s is = sym (same_Some new s is)
goes_on_is (Check line) new s is = sym (same_Some new s is)
goes_on_is (Present line) new s is = sym (same_Some new s is)
goes_on_is (Fork start line) new s is = sym (same_Some new s is)
goes_on_is (Begin from start) new s is = sym (same_Some new s is)
goes_on_is (Retire target retirement line) new s is = absurd (none-some s is)
goes_on_is (Absorb from retirement line) new s is = sym (same_Some new s is)
goes_on_is (Return epoch) new s is = sym (same_Some new s is)

pub newest_cases : (root : Name) (past : Past) (d : Doing) (p : Name) (s : Process) → newest root (d ∷ past) p ≡ Some s
    → ((p ≡ d.new.name) × (goes_on d.act d.new ≡ Some s)) ⊎ ((p ≢ d.new.name) × (newest root past p ≡ Some s))
unfolding newest
newest_cases root past d p s is =
    elim (cases_name p d.new.name) [
      | inl same ↦ inl (same, sym (cond-true (bytes_eq p d.new.name) (goes_on d.act d.new) (newest root past p) (bytes_same p d.new.name same)) ∙ is)
      | inr other ↦ inr (other, sym (cond-false (bytes_eq p d.new.name) (goes_on d.act d.new) (newest root past p) (bytes_other p d.new.name other)) ∙ is)
    ]

pub first_is : (root p : Name) (s : Process) → newest root [] p ≡ Some s → (p ≡ root) × (s ≡ first root)
unfolding newest
first_is root p s is =
    elim (cases_name p root) [
      | inl same ↦ (same, sym (same_Some (first root) s (sym (cond-true (bytes_eq p root) (Some (first root)) None (bytes_same p root same)) ∙ is)))
      | inr other ↦ absurd (none-some s (sym (cond-false (bytes_eq p root) (Some (first root)) None (bytes_other p root other)) ∙ is))
    ]

-- the root goes on from what it is as it begins
pub first_is_newest : (root : Name) (s : Process) → s ≡ first root → GoesFromNewest root [] s
unfolding newest
first_is_newest root s is =
    subst (λ (p : Process). GoesFromNewest root [] p) (sym is) (cond-true (bytes_eq root root) (Some (first root)) None (bytes_same root root refl))

pub newest_is : (root : Name) (past : Past) (p : Name) (s : Process) → newest root past p ≡ Some s → (s.name ≡ p) × WasOnce root past s
newest_is root [] p s is =
    let w = first_is root p s is in
    (ap (λ (x : Process). x.name) w.1 ∙ sym w.0, inl w.1)
newest_is root (d ∷ past) p s is =
    elim (newest_cases root past d p s is) [
      | inl now ↦
          (let is_new = goes_on_is d.act d.new s now.1 in
          (ap (λ (x : Process). x.name) is_new ∙ sym now.0, inr (d, first_in d past, is_new)))
      | inr before ↦ (let w = newest_is root past p s before.1 in (w.0, once_later root past d s w.1))
    ]
