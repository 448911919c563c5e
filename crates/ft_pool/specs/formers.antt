pub mod id
