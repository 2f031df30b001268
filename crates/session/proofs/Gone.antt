-- Replies that have gone before the next turn, or before an ending line.
use Rattle.std.proofs.Common.{◌≡◌, ℕ, ◌+◌, ◌-◌, ◌≤◌, ◌<◌, List, [], ◌∷◌, ◌++◌, length, take, refl, sym, ap, subst, ◌∙◌, append-nil, arith, inl, inr}
use Rattle.std.specs.Io.KnownBytes.{Appends}
use Rattle.std.proofs.lemmas.List.{length-append, take-append-le}
use Rattle.std.proofs.lemmas.List.Concat.{flat_map-append}
use Rattle.std.proofs.Math.Seq.{take-append-add}
use Rattle.std.proofs.lemmas.Bool.{cases_lt}
use Rattle.session.specs.Exchanges.{Exchange}
use Rattle.client_link.specs.Links.{LinkState, IsSound}
use Rattle.session.specs.SessionText.{exchange_line, session_text}
use Rattle.session.specs.Ends.{HaveGone, EachHasGone}
use Rattle.client_link.proofs.Sent.{appends_none, appends_then, sound_none, sound_then}

-- before the first turn there is nothing to hand on
pub none_gone : {K : Type 0} (told : K → LinkState) (link : K) → (told link).waiting ≡ [] → HaveGone told link []
none_gone told link rests = record { moment = link; written = appends_none (told link).held; nothing_waits = rests; sound = sound_none (told link) }

take_none : (es : List Exchange) → take 0 es ≡ []
take_none [] = refl
take_none (e ∷ es) = refl

-- where no turn was made
pub nothing_gone : {K : Type 0} (told : K → LinkState) (link : K) (count : ℕ) → EachHasGone told link [] count
nothing_gone told link count = record { before_each = λ n lt. absurd (omega (arith, lt)); last = λ some all. absurd (omega (arith, some)) }

-- where no reply is counted
pub nothing_counted : {K : Type 0} (told : K → LinkState) (link : K) (es : List Exchange) (count : ℕ) → count ≡ 0 → 0 < length es → length es ≤ count → HaveGone told link es
nothing_counted told link es count none some all = absurd (omega (arith, none, some, all))

-- of no turns or one, whose reply has gone where it is counted
pub gone_few : {K : Type 0} (told : K → LinkState) (link : K) (es : List Exchange) (count : ℕ) → length es ≤ 1 → (told link).waiting ≡ [] → (0 < length es → length es ≤ count → HaveGone told link es) → EachHasGone told link es count
gone_few told link es count few rests last =
    record {
      before_each = λ n lt.
          let first : n ≡ 0 = omega (arith, few, lt) in
          subst (λ (l : List Exchange). HaveGone told link l) (sym (ap (λ (m : ℕ). take m es) first ∙ take_none es)) (none_gone told link rests);
      last = last;
    }

-- at a moment behind some turns, whose replies were written by then
gone_behind : {K : Type 0} (told : K → LinkState) (link mid : K) (es fs : List Exchange) → Appends (told link).held (told mid).held (session_text es) → IsSound (told link) (told mid) → HaveGone told mid fs → HaveGone told link (es ++ fs)
gone_behind told link mid es fs written sound g =
    record {
      moment = g.moment;
      written = subst (λ (t : List ℕ). Appends (told link).held (told g.moment).held t) (sym (flat_map-append exchange_line es fs))
          (appends_then (told link).held (told mid).held (told g.moment).held (session_text es) (session_text fs) written g.written);
      nothing_waits = g.nothing_waits;
      sound = sound_then (told link) (told mid) (told g.moment) sound g.sound;
    }

-- before a turn of some, or of more behind them
gone_before : {K : Type 0} (told : K → LinkState) (link mid : K) (es fs : List Exchange) (m n : ℕ) → EachHasGone told link es m → Appends (told link).held (told mid).held (session_text es) → IsSound (told link) (told mid) → EachHasGone told mid fs n
    → (k : ℕ) → k < length (es ++ fs) → HaveGone told link (take k (es ++ fs))
gone_before told link mid es fs m n before written sound behind k lt = elim (cases_lt k (length es)) [
  | inl less ↦ let within : k ≤ length es = omega (arith, less) in subst (λ (l : List Exchange). HaveGone told link l) (sym (take-append-le k es fs within)) (before.before_each k less)
  | inr more ↦
      let i : ℕ = k - length es in
      let whole : length es + i ≡ k = omega (arith, more) in
      let some : i < length fs = omega (arith, lt, more, length-append es fs) in
      subst (λ (l : List Exchange). HaveGone told link l) (sym (take-append-add es fs i) ∙ ap (λ (j : ℕ). take j (es ++ fs)) whole) (gone_behind told link mid es (take i fs) written sound (behind.before_each i some))
]

-- the last one of all of them, which is one of the later ones, or, where there are none, of the first
gone_last : {K : Type 0} (told : K → LinkState) (link mid : K) (es fs : List Exchange) (m n : ℕ) → EachHasGone told link es m → m ≡ length es → Appends (told link).held (told mid).held (session_text es) → IsSound (told link) (told mid) → EachHasGone told mid fs n
    → 0 < length (es ++ fs) → length (es ++ fs) ≤ m + n → HaveGone told link (es ++ fs)
gone_last told link mid es [] m n before same written sound behind some all =
    subst (λ (l : List Exchange). HaveGone told link l) (sym (append-nil es)) (before.last (omega (arith, some, length-append es [])) (omega (arith, same)))
gone_last told link mid es (f ∷ fs) m n before same written sound behind some all =
    gone_behind told link mid es (f ∷ fs) written sound (behind.last (omega arith) (omega (arith, all, length-append es (f ∷ fs), same)))

-- turns whose replies were counted, and more turns behind them
pub gone_then : {K : Type 0} (told : K → LinkState) (link mid : K) (es fs : List Exchange) (m n : ℕ) → EachHasGone told link es m → m ≡ length es → Appends (told link).held (told mid).held (session_text es) → IsSound (told link) (told mid) → EachHasGone told mid fs n
    → EachHasGone told link (es ++ fs) (m + n)
gone_then told link mid es fs m n before same written sound behind =
    record {
      before_each = gone_before told link mid es fs m n before written sound behind;
      last = gone_last told link mid es fs m n before same written sound behind;
    }

-- another count, which reaches the number of the replies only where the first one does
pub gone_counted : {K : Type 0} (told : K → LinkState) (link : K) (es : List Exchange) (count total : ℕ) → (length es ≤ total → length es ≤ count) → EachHasGone told link es count → EachHasGone told link es total
gone_counted told link es count total counted gone = record { before_each = gone.before_each; last = λ some all. gone.last some (counted all) }
