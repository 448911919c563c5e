-- A text that grows, as the code writes it: the contracts of private functions and proofs cite it, and nothing here has to be believed.
pub mod Writer
