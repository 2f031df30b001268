use Rattle.std.proofs.Common.{inl, inr, refl}
use Rattle.process.proofs.LeafParts.{in_greater, either_way}
use Rattle.process.proofs.LeafWays.{as_deep}
use Rattle.process.proofs.carving.deeper_last.Goals as goal

pub returns-then-is_second : goal.returns-then-is_second
returns-then-is_second c =
    let le = c.is_second.ensures.yes c.if-is_second.true in
    record {
      leaf = in_greater c.deepest_of-first.result c.deepest_of-second.result _ _ c.deepest_of-first.ensures.leaf c.deepest_of-second.ensures.leaf le c.requires;
      deepest = as_deep _ _ _ _ _ c.deepest_of-first.ensures.depth c.deepest_of-second.ensures.depth le;
      are = inl (refl, refl);
    }

pub returns-else-is_second : goal.returns-else-is_second
returns-else-is_second c =
    let le = c.is_second.ensures.no c.if-is_second.false in
    record {
      leaf = in_greater c.deepest_of-second.result c.deepest_of-first.result _ _ c.deepest_of-second.ensures.leaf c.deepest_of-first.ensures.leaf le (either_way _ _ c.requires);
      deepest = as_deep _ _ _ _ _ c.deepest_of-second.ensures.depth c.deepest_of-first.ensures.depth le;
      are = inr (refl, refl);
    }
