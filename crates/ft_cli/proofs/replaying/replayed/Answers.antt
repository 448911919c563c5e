use Rattle.std.proofs.lemmas.Result.{err_from_is_err_and}
use Rattle.ft_cli.specs.Top.{use_of}
use Rattle.ft_cli.proofs.ReplayLemmas.{one-file, set-alone, set-stopped, set-unfetched, texts-same, texts-two, two-alone, two-files}
use Rattle.ft_cli.proofs.replaying.replayed.Goals as goal

pub returns-in_err-text-clause-stopped : goal.returns-in_err-text-clause-stopped
returns-in_err-text-clause-stopped g c =
    let p = err_from_is_err_and c.from_residual.result c.from_residual.ensures.1 in
    let outcome = set-unfetched c.args.file.now c.args.trace.now
    (use_of (g.S.Shelf.content c.args.shelf.now) (g.S.Shelf.reads c.fetched.new.shelf) (g.S.Shelf.faults c.args.shelf.now)
    (g.S.Shelf.faults c.fetched.new.shelf) (g.S.Shelf.reach c.fetched.new.shelf)) _ c.in_err-text.ensures.cause in
    rw (p.1, p.2) outcome

pub returns-in_err-text-clause-others : goal.returns-in_err-text-clause-others
returns-in_err-text-clause-others g c = set-alone _ _ _ _ _ _ _ _ c.fetched.ensures.others

pub returns-in_err-tables-clause-stopped : goal.returns-in_err-tables-clause-stopped
returns-in_err-tables-clause-stopped g c =
    let p = err_from_is_err_and c.from_residual-in_err-tables.result c.from_residual-in_err-tables.ensures.1 in
    let outcome = set-stopped c.args.file.now c.args.trace.now
    (use_of (g.S.Shelf.content c.args.shelf.now) (g.S.Shelf.reads c.fetched.new.shelf) (g.S.Shelf.faults c.args.shelf.now)
    (g.S.Shelf.faults c.fetched.new.shelf) (g.S.Shelf.reach c.fetched.new.shelf)) _ _
    c.in_ok-text.ensures.file c.in_err-tables.ensures.early (rw c.as_slice.ensures at c.in_err-tables.ensures.stopped) in
    rw (p.1, p.2) outcome

pub returns-in_err-tables-clause-others : goal.returns-in_err-tables-clause-others
returns-in_err-tables-clause-others g c = set-alone _ _ _ _ _ _ _ _ c.fetched.ensures.others

pub returns-then-eq-clause-ended : goal.returns-then-eq-clause-ended
returns-then-eq-clause-ended g c =
    one-file _ _ _ c.in_ok-tables.tables _ _ (texts-same _ _ _ c.eq.ensures c.if-eq.true) c.in_ok-text.ensures.file
    (rw c.as_slice.ensures at c.in_ok-tables.ensures.set) c.in_ok-tables.ensures.blocks c.in_ok-tables.ensures.proper
    (rw c.as_slice-then-eq.ensures at c.replay_text.ensures)

pub returns-then-eq-clause-others : goal.returns-then-eq-clause-others
returns-then-eq-clause-others g c = set-alone _ _ _ _ _ _ _ _ c.fetched.ensures.others

pub returns-clause-ended : goal.returns-clause-ended
returns-clause-ended g c =
    two-files _ _ (texts-two _ _ _ c.eq.ensures c.if-eq.false) _ _ _ _ _ _ _ _ _ _ _ c.fetched.ensures.content c.fetched.ensures.others
    c.replay_file.ensures.others c.in_ok-tables.tables _ _ c.in_ok-text.ensures.file
    (rw c.as_slice.ensures at c.in_ok-tables.ensures.set) c.in_ok-tables.ensures.blocks c.in_ok-tables.ensures.proper
    c.replay_file.ensures.outcome

pub returns-clause-others : goal.returns-clause-others
returns-clause-others g c =
    two-alone _ _ (texts-two _ _ _ c.eq.ensures c.if-eq.false) _ _ _ _ _ _ _ _ _ _ _ c.fetched.ensures.content c.fetched.ensures.others
    c.replay_file.ensures.others
