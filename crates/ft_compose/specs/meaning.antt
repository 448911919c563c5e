-- What the facts of blocks come to together, where one fails, their obligations as they are made, and certificates of all obligations.
pub mod Checked
pub mod Composing
pub mod Decided
pub mod FactForms
pub mod Failing
pub mod Shared
