-- What has to be believed: public contracts cite it, here or in `ft_parse`.
pub mod Bare
pub mod Canonical
pub mod Expression
pub mod Level
pub mod Limits
pub mod Line
pub mod Lines
