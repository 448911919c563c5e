-- What the steps that build the obligation of a fact compute with, and what the checks of certificates know.
pub mod Checking
pub mod Deciding
pub mod Forming
pub mod Rounds
