-- What has to be believed.
pub mod Generated
pub mod Places
