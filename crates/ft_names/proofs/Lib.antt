pub mod CardLemmas
pub mod DeclareLemmas
pub mod DistinctLemmas
pub mod FaultLemmas
pub mod NameLemmas
pub mod RoomLemmas
