-- Laws over these definitions, the clauses of the functions of src/law.rt, and equations that need no tactic.
pub mod Alike
pub mod Ends
pub mod Equations
pub mod EvaluationLaws
pub mod Laws
pub mod LookLaws
pub mod Moves
pub mod PastLaws
pub mod RowLaws
pub mod SafetyLaws
pub mod ScanTests
pub mod TableLaws
pub mod TimeLaws
pub mod TraceLaws
pub mod Whole
