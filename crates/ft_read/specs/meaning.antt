-- What has to be believed: the grammar of `ft_parse` cites it.
pub mod Choices
pub mod Lexeme
pub mod Limit
pub mod Operators
