-- Equations of formulas as they are built, the law of src/law.rt, and how forms are hashed.
pub mod Hashes
pub mod Raws
pub mod Settling
