pub mod Layouts
pub mod Memory
pub mod PlacesLemmas
pub mod Sharing
pub mod Values
