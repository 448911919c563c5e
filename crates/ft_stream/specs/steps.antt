-- How a trace is replayed scan by scan.
pub mod Streams
