use Rattle.std.proofs.Common.{◌∙◌, sym, ap, subst, ℕ, ◌+◌, length, true≢false}
use Rattle.std.specs.Prelude.{◌↔◌, IsTrue}
use Rattle.std.specs.List.{list_all}
use Rattle.ft_core.specs.declared.tables.Table.{Table}
use Rattle.ft_core.specs.checked.Size.{is_sized_memory, is_sized_grid}
use Rattle.ft_mean.specs.declared.seen.Seen.{Seen}
use Rattle.ft_mean.specs.meaning.Fits.{Fits, side_reading}
use Rattle.ft_mean.specs.judge.Safe.{AreSafeMemories, AreSafeTables}
use Rattle.ft_mean.specs.judge.Scope.{scans_of, follows_by}
use Rattle.ft_mean.specs.judge.Seen.{view_at, after_rounds}
use Rattle.ft_mean.proofs.RecallLemmas.{safe_after}
use Rattle.ft_mean.proofs.JudgeLemmas.{judged, lists_from, trace_is, safe_list}
use Rattle.ft_mean.proofs.judge.fits_list.Goals as goal

pub returns-then-not-are_lists : goal.returns-then-not-are_lists
returns-then-not-are_lists c = (
  λ e. absurd (true≢false (sym e)),
  λ f. c.if-not-are_lists.ensures ∙ lists_from c.args.tables.now c.args.side c.args.trace.now c.args.given.now f,
)

pub recall_all-requires : goal.recall_all-requires
recall_all-requires c =
    let list = trace_is c.args.tables.now c.args.side c.args.trace.now c.args.given.now (sym c.if-not-are_lists.ensures) in
    subst (λ (seen : Seen). (t : ℕ) → AreSafeMemories (view_at seen t) c.args.tables.now.memories) (sym c.in_ok-start.ensures)
    (safe_list c.args.tables.now c.args.side c.args.trace.now list (λ vars memories. list_all (is_sized_memory vars memories)
    c.args.tables.now.memories) c.args.tables.now.sound.sized_memories)

pub follows-requires : goal.follows-requires
follows-requires c =
    let list = trace_is c.args.tables.now c.args.side c.args.trace.now c.args.given.now (sym c.if-not-are_lists.ensures) in
    let is = c.in_ok-seen.ensures ∙ ap (after_rounds c.args.tables.now (side_reading c.args.tables.now c.args.side c.args.trace.now)
    (length c.args.tables.now.vars + length c.args.tables.now.memories)) c.in_ok-start.ensures in
    subst (λ (seen : Seen). (t : ℕ) → AreSafeTables (view_at seen t) c.args.tables.now.tables) (sym is)
    (safe_after c.args.tables.now (side_reading c.args.tables.now c.args.side c.args.trace.now)
    (scans_of c.args.tables.now (side_reading c.args.tables.now c.args.side c.args.trace.now) (length c.args.trace.now))
    (length c.args.tables.now.vars + length c.args.tables.now.memories)
    (safe_list c.args.tables.now c.args.side c.args.trace.now list
    (λ vars memories. list_all (λ (table : Table). is_sized_grid vars memories table.grid) c.args.tables.now.tables)
    c.args.tables.now.sound.sized_tables))

pub returns : goal.returns
returns c =
    let is = c.in_ok-seen.ensures ∙ ap (after_rounds c.args.tables.now (side_reading c.args.tables.now c.args.side c.args.trace.now)
    (length c.args.tables.now.vars + length c.args.tables.now.memories)) c.in_ok-start.ensures in
    subst (λ b. IsTrue b ↔ Fits c.args.tables.now c.args.side c.args.given.now c.args.trace.now)
    (sym (c.follows.ensures ∙ ap (follows_by c.args.tables.now c.args.side c.args.given.now c.args.trace.now) is))
    (judged c.args.tables.now c.args.side c.args.trace.now c.args.given.now (sym c.if-not-are_lists.ensures))
