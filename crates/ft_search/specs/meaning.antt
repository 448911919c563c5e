-- Trees that a search leaves when its splits are used up.
pub mod Spent
