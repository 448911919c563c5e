-- What nodes are judged in.
pub mod Room
