-- What a set is: its variables, cells, reads and orders.
pub mod Grids
pub mod Inits
pub mod Items
pub mod Kinds
pub mod Order
pub mod Reads
