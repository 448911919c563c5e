-- What a report means, and the status of the program.
pub mod Completeness
pub mod Exit
pub mod Generation
pub mod Judgement
pub mod Replay
