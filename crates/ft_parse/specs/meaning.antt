-- What has to be believed: public contracts cite it. It is the grammar, and what spells a tree or is a fault.
pub mod Expressions
pub mod Items
pub mod Language
pub mod Parse
pub mod Room
