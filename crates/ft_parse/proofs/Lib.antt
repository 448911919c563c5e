mod Answers
mod ExprWritten
mod ExpressionRules
mod Faithful
mod FaultLemmas
mod Fits
mod Forms
mod InnerTokens
mod ItemRules
mod ItemsWritten
mod LawfulExpressions
mod LawfulItems
mod Loosening
mod Many
mod Marks
mod NestedRules
mod ParsingLemmas
mod PartsWritten
mod RealTokens
mod Rises
mod RoundTrip
mod Rule
mod SameLemmas
mod Whole
mod Writes
pub mod BlockLemmas
pub mod CountLemmas
pub mod ListLemmas
pub mod MemoryLemmas
pub mod PrecedenceLemmas
pub mod SetLemmas
pub mod Shorter
pub mod TableLemmas
