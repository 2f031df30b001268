-- One step more of those that are kept with the oldest first.
use Rattle.std.proofs.Common.{◌≡◌, ℕ, ◌+◌, ◌≤◌, ◌<◌, Option, Some, None, List, [], ◌∷◌, ◌++◌, length, get_or, take, refl, sym, ◌∙◌, ap, arith}
use Rattle.std.specs.Prelude.{reverse}
use Rattle.std.specs.Option.{option_map}
use Rattle.std.proofs.lemmas.List.{take_more, take_all, reverse-append, length-reverse, length-take-le}
use Rattle.report_line.specs.declared.step.Step.{Step as Taken}
use Rattle.report_line.specs.histories.History.{Name, History}
use Rattle.driver.specs.declared.mark.Mark.{Mark}
use Rattle.driver.specs.working.Marks.{seen, walked}
use Rattle.driver.proofs.Naming.{mapped}

module _ (steps : List Taken) (i : ℕ) (s : Taken) (lt : i < length steps) (is : s ≡ get_or steps i s) where
  pub behind_more : reverse (take (i + 1) steps) ≡ s ∷ reverse (take i steps)
  behind_more = ap reverse (take_more steps i s lt ∙ ap (λ (x : Taken). take i steps ++ x ∷ []) (sym is)) ∙ reverse-append (take i steps) (s ∷ [])

  pub behind_count : length (s ∷ reverse (take i steps)) ≡ i + 1
  behind_count = (let w : length (reverse (take i steps)) ≡ length (take i steps) = length-reverse (take i steps) in let few : length (take i steps) ≡ i = length-take-le i steps (omega arith) in omega arith)

  pub seen_more : (p : Name) (first before after : Option Mark) → before ≡ option_map (walked (reverse (take i steps)) p) first → after ≡ option_map (seen s (i + 1) p) before
      → after ≡ option_map (walked (reverse (take (i + 1) steps)) p) first
  seen_more p first before after is_before is_after =
      is_after
      ∙ (ap (option_map (seen s (i + 1) p)) is_before
      ∙ (mapped (seen s (i + 1) p) (walked (reverse (take i steps)) p) (walked (s ∷ reverse (take i steps)) p) first
      (λ m. ap (λ (n : ℕ). seen s n p (walked (reverse (take i steps)) p m)) (sym behind_count))
      ∙ ap (λ (h : History). option_map (walked h p) first) (sym behind_more)))

pub seen_none : (p : Name) (o : Option Mark) → o ≡ option_map (walked [] p) o
seen_none p None = refl
seen_none p (Some m) = refl

pub all_seen : (steps : List Taken) (i : ℕ) (p : Name) (first now : Option Mark) → length steps ≤ i → now ≡ option_map (walked (reverse (take i steps)) p) first → now ≡ option_map (walked (reverse steps) p) first
all_seen steps i p first now past is = is ∙ ap (λ (l : List Taken). option_map (walked (reverse l) p) first) (take_all i steps past)
