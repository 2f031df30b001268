-- The greatest stamp-consistent cut.
pub use Rattle.chains.specs.Greatest.{IsAtOrBefore, IsConsistentCut, IsGreatestCut}
