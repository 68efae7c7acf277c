pub mod CutLemmas
pub mod PlaceLemmas
pub mod ShapeLemmas
pub mod TokenCounts
pub mod WordLemmas
