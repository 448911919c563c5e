use Rattle.std.proofs.Common.{ℕ, subst}
use Rattle.std.specs.Prelude.{IfSome, IfNone}
use Rattle.ft_mean.specs.meaning.Refines.{FirstDiffers}
use Rattle.ft_replay.specs.meaning.Replaying.{Replaying}
use Rattle.ft_replay.proofs.DifferLemmas.{first-is, none-is}
use Rattle.ft_replay.proofs.replayer.Replayer.first.Goals as goal

pub returns-clause-some : goal.returns-clause-some
returns-clause-some c =
    let p = c.self.inside in
    subst (λ (w : Replaying). IfSome p.first (FirstDiffers w.set w.list)) c.self.view_is
    (first-is c.laws.ensures p.tables.now c.self.invariant.proper p.required.given p.required.rows p.design.given p.design.rows p.first
    c.self.invariant.replays)

pub returns-clause-none : goal.returns-clause-none
returns-clause-none c =
    let p = c.self.inside in
    subst (λ (w : Replaying). IfNone p.first ((k : ℕ) → FirstDiffers w.set w.list k → ⊥)) c.self.view_is
    (none-is c.laws.ensures p.tables.now c.self.invariant.proper p.required.given p.required.rows p.design.given p.design.rows p.first
    c.self.invariant.replays)
