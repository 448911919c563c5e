-- What rows are made with.
pub mod Forms
pub mod Found
pub mod Lending
pub mod Points
pub mod Quotients
pub mod Table
pub mod Turns
