pub mod Laws
pub mod Made
pub mod Mixer
pub mod Relay
pub mod Running
pub mod Trip
pub mod Watched
pub mod Worked
