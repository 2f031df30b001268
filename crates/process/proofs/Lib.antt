pub mod Pieces
pub mod WordLists
pub mod OneText
pub mod LeafWays
pub mod LeafParts
pub mod Depths
