-- What contracts see of a replayer, and what its answers say.
pub mod Replayed
pub mod Replaying
