-- Numbers for the names of the scans of a list, the lists that have the values of a point, and what is found of short lists.
pub mod Found
pub mod Unrolling
