pub mod PlaceLemmas
pub mod ShapeLemmas
pub mod SignLemmas
pub mod SpaceLemmas
pub mod TokenLemmas
