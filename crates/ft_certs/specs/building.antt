pub mod Pieces
pub mod Stuck
