-- The items of a generated set, as they are made.
pub mod Drafts
pub mod Items
