use Rattle.std.proofs.Common.{◌∙◌, sym, ap, subst, ℕ, ◌+◌}
use Rattle.ft_mean.specs.declared.seen.Seen.{Seen}
use Rattle.ft_mean.specs.judge.Scope.{reading_by}
use Rattle.ft_mean.specs.judge.Safe.{AreSafeMemories}
use Rattle.ft_mean.specs.judge.Seen.{view_at, after_rounds}
use Rattle.ft_mean.proofs.RecallLemmas.{safe_after, rounds_join}
use Rattle.ft_mean.proofs.recall.recall_all.Goals as goal

pub recall-requires-2 : goal.recall-requires-2
recall-requires-2 c =
    subst (λ (seen : Seen). (t : ℕ) → AreSafeMemories (view_at seen t) c.args.known.now.tables.now.memories) (sym c.in_ok-half.ensures)
    (safe_after c.args.known.now.tables.now (reading_by c.args.known.now.tables.now c.args.known.now.scope c.args.known.now.scans.now)
    c.args.start c.len.result c.requires)

pub returns : goal.returns
returns c =
    c.in_ok-seen.ensures ∙ ap (after_rounds c.args.known.now.tables.now
    (reading_by c.args.known.now.tables.now c.args.known.now.scope c.args.known.now.scans.now) c.len-2.result) c.in_ok-half.ensures
    ∙ rounds_join c.args.known.now.tables.now (reading_by c.args.known.now.tables.now c.args.known.now.scope c.args.known.now.scans.now)
    c.args.start c.len-2.result c.len.result
    ∙ (λ i. after_rounds c.args.known.now.tables.now (reading_by c.args.known.now.tables.now c.args.known.now.scope
    c.args.known.now.scans.now) (c.len-2.ensures i + c.len.ensures i) c.args.start)
