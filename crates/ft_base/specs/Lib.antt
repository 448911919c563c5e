pub mod Digits
pub mod Division
pub mod Interval
pub mod Names
pub mod Reserved
pub mod Three
pub mod formers
