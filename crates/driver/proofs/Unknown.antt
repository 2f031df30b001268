-- Whether each name of a settlement is known.
use Rattle.std.proofs.Common.{◌≡◌, ◌≢◌, ℕ, List, Option, Some, None, refl, sym, ◌∙◌, ap, inl, inr}
use Rattle.std.specs.Prelude.{All, Contains, slice_get}
use Rattle.std.specs.Option.{option_map}
use Rattle.std.proofs.lemmas.List.Elements.{All-contains}
use Rattle.std.proofs.lemmas.Option.{slice_get-map}
use Rattle.report_line.specs.histories.History.{Name, Unborn, status}
use Rattle.law_lines.proofs.Listed.{at_in, in_at}
use Rattle.driver.specs.declared.line.NamedPosition.{NamedPosition}
use Rattle.driver.specs.Chronicle.{Chronicle}
use Rattle.driver.specs.Lines.{names_of}
use Rattle.driver.specs.Settling.{HasUnknownName}

-- a name of the line is that of one of its entries
pub entry_of : (line : List NamedPosition) (p : Name) → Contains (names_of line) p → (x : NamedPosition) × Contains line x × (x.name ≡ p)
entry_of line p at =
    let there = at_in (names_of line) p at in
    by_entry there.0 (slice_get line there.0) refl (sym (slice_get-map (λ (x : NamedPosition). x.name) line there.0) ∙ there.2)
  where
    same_name : (q r : Name) → Some q ≡ Some r → q ≡ r
    same_name q r is = cc

    by_entry : (i : ℕ) (o : Option NamedPosition) → slice_get line i ≡ o → option_map (λ x. x.name) o ≡ Some p → (x : NamedPosition) × Contains line x × (x.name ≡ p)
    by_entry i (Some x) is named = (x, in_at line i x is, same_name x.name p named)
    by_entry i None is named = absurd (cc)

pub name_in : (line : List NamedPosition) (x : NamedPosition) → Contains line x → Contains (names_of line) x.name
name_in line x at =
    let there = at_in line x at in
    in_at (names_of line) there.0 x.name (slice_get-map (λ (y : NamedPosition). y.name) line there.0 ∙ ap (λ (o : Option NamedPosition). option_map (λ y. y.name) o) there.2)

pub all_known : (w : Chronicle) (failed : List Name) (line : List NamedPosition) → All (λ p. status w.root w.history p ≢ Unborn) failed → All (λ x. status w.root w.history x.name ≢ Unborn) line
    → ¬ HasUnknownName w failed line
all_known w failed line all each unknown =
    elim unknown.given [
      | inl in_failed ↦ All-contains (λ p. status w.root w.history p ≢ Unborn) failed unknown.name all in_failed unknown.unborn
      | inr in_line ↦
          (let x = entry_of line unknown.name in_line in
          All-contains (λ y. status w.root w.history y.name ≢ Unborn) line x.0 each x.1 (ap (status w.root w.history) x.2 ∙ unknown.unborn))
    ]

pub unknown_failed : (w : Chronicle) (failed : List Name) (line : List NamedPosition) → (p : Name) × Contains failed p × (status w.root w.history p ≡ Unborn) → HasUnknownName w failed line
unknown_failed w failed line one = record { name = one.0; given = inl one.1; unborn = one.2 }

pub unknown_in_line : (w : Chronicle) (failed : List Name) (line : List NamedPosition) → (x : NamedPosition) × Contains line x × (status w.root w.history x.name ≡ Unborn) → HasUnknownName w failed line
unknown_in_line w failed line one = record { name = one.0.name; given = inr (name_in line one.0 one.1); unborn = one.2 }
