pub mod block
pub mod formers
pub mod meaning
