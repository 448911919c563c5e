-- What the crates below say of the definitions, as far as proofs need it. Nothing here has to be believed.
pub mod Laws
