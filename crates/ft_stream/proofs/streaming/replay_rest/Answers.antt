use Rattle.std.proofs.Common.{sym, subst, ◌++◌, ◌∷◌, [], ℕ}
use Rattle.std.proofs.lemmas.Result.{on_ok_weaker}
use Rattle.ft_core.specs.declared.tables.Tables.{Tables}
use Rattle.ft_mean.specs.meaning.Allowed.{Allowed}
use Rattle.ft_trace.specs.meaning.Spelling.{IsFirstFault, SpellsHistory}
use Rattle.ft_stream.specs.meaning.Streamed.{ForbiddenAt, IsStreamed}
use Rattle.ft_stream.specs.steps.Streams.{Spells}
use Rattle.ft_stream.proofs.StreamLemmas.{forbids, is-allowed, refused-so, told-so}
use Rattle.ft_stream.proofs.streaming.replay_rest.Goals as goal

pub returns-in-Ok-End-clause-told : goal.returns-in-Ok-End-clause-told
returns-in-Ok-End-clause-told c = λ bytes s.
    let S = c.args.tables.now in
    let h = c.replay_scans.new.replayer.list in
    let end = rw c.in-Ok-End.field-0-is at c.in-Ok-End.ensures.stopped bytes s in
    subst (λ (T : Tables). SpellsHistory T bytes h → Allowed T h → IsStreamed T bytes c.told.result) end.of_set (c.told.ensures bytes)
    end.spelled (is-allowed c.laws.ensures S bytes h end.spelled end.clauses)

pub read_to_end-rest-requires-clause-given : goal.read_to_end-rest-requires-clause-given
read_to_end-rest-requires-clause-given c =
    let stop = rw c.in-Ok-Forbidden.field-0-is at c.in-Ok-Forbidden.ensures.stopped c.requires.streams.0 c.requires.streams.1 in
    (c.requires.streams.0, c.replay_scans.new.replayer.list ++ c.replay_scans.new.row ∷ [], stop.given)

pub returns-in-Ok-Forbidden-clause-told : goal.returns-in-Ok-Forbidden-clause-told
returns-in-Ok-Forbidden-clause-told c = λ bytes s.
    let S = c.args.tables.now in
    let h = c.replay_scans.new.replayer.list in
    let row = c.replay_scans.new.row in
    let stop = rw c.in-Ok-Forbidden.field-0-is at c.in-Ok-Forbidden.ensures.stopped bytes s in
    told-so c.scans.result c.read_to_end-rest.result c.forbidden_at.result c.forbidden_at.ensures.ok c.forbidden_at.ensures.fault
    (IsStreamed S bytes) (on_ok_weaker c.read_to_end-rest.result
    (λ (read : Spells S bytes (h ++ row ∷ [])). subst (λ (n : ℕ). ForbiddenAt S bytes n) (sym c.scans.ensures)
    (forbids c.laws.ensures S bytes h row read.0 read.1 stop.clauses stop.forbids))
    (c.read_to_end-rest.ensures.ok bytes (h ++ row ∷ []) stop.given))

pub returns-in-Ok-Forbidden-clause-fault : goal.returns-in-Ok-Forbidden-clause-fault
returns-in-Ok-Forbidden-clause-fault c = λ bytes s.
    let stop = rw c.in-Ok-Forbidden.field-0-is at c.in-Ok-Forbidden.ensures.stopped bytes s in
    refused-so c.scans.result c.read_to_end-rest.result c.forbidden_at.result c.forbidden_at.ensures.ok c.forbidden_at.ensures.fault
    (IsFirstFault c.args.tables.now bytes)
    (c.read_to_end-rest.ensures.fault bytes (c.replay_scans.new.replayer.list ++ c.replay_scans.new.row ∷ []) stop.given)

pub returns-in-Err-clause-fault : goal.returns-in-Err-clause-fault
returns-in-Err-clause-fault c = λ bytes s. c.in-Err.ensures.fault bytes s
