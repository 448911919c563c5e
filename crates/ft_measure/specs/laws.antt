-- The statements of laws, and equations of the definitions.
pub mod Bounded
pub mod Layers
