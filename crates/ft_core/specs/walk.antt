-- The walk that makes an order or finds a circle, and what it goes over.
pub mod Circles
pub mod Gathering
pub mod Walk
