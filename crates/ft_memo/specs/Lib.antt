pub mod Band
pub mod Timer
