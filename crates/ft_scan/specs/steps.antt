-- How a scan is run step by step: what contracts of private functions and proofs cite. Nothing here has to be believed.
pub mod Found
pub mod Frame
pub mod Homes
pub mod Mapping
pub mod Opening
pub mod Passing
pub mod Plan
pub mod Planning
pub mod Put
pub mod Rows
pub mod Stands
pub mod Stepping
pub mod Told
