mod CountLemmas
mod DifferLemmas
mod FirstLemmas
mod LongerLemmas
mod RowLemmas
mod StepLemmas
