pub mod ExprLemmas
pub mod LayoutLemmas
pub mod LineLemmas
pub mod MadeLemmas
pub mod PieceLemmas
pub mod SoundLemmas
pub mod TreeLemmas
pub mod WritingLemmas
