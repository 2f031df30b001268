use Rattle.std.proofs.Common.{◌≡◌, None, List, [], ℕ, refl, ap, ◌∙◌}
use Rattle.std.specs.Str.{bytes_eq}
use Rattle.std.specs.Prelude.{reverse}
use Rattle.std.specs.Map.{lookup}
use Rattle.indexmap.specs.IndexMap.{get}
use Rattle.driver.proofs.Sound.{begins}
use Rattle.driver.proofs.beginning.begun.Goals as goal

nothing : {X : Type 0} (es : List (List ℕ × X)) → es ≡ [] → (q : List ℕ) → lookup (bytes_eq q) es ≡ None
nothing es is q = ap (lookup (bytes_eq q)) is

pub returns : goal.returns
returns c = (
  refl,
  refl,
  ap reverse c.new.ensures.items,
  begins _ c.first.result c.copy.result (λ (q : List ℕ). get bytes_eq c.reserve.new.self q) c.as_bytes-name.ensures.name c.new.ensures.items c.first.ensures c.copy.ensures
      (nothing _ (c.reserve.ensures.entries ∙ c.new-known.ensures.empty)) c.note.ensures (nothing _ c.new-2.ensures.empty),
)
