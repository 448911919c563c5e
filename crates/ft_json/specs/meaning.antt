-- What a report says as JSON.
pub mod Json
pub mod Values
