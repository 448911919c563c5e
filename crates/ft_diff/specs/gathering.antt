-- The difference lines of a part, gathered atom by atom.
pub mod Lines
