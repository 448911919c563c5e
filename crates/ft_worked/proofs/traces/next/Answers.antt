use Rattle.std.proofs.Common.{ℕ, true, false, List, [], ◌∷◌, ◌++◌}
use Rattle.std.specs.Prelude.{MatchBool}
use Rattle.ft_mean.specs.meaning.Reading.{Scans}
use Rattle.ft_trace.specs.meaning.Reader.{HasGiven}
use Rattle.ft_trace.specs.meaning.Spelling.{SpellsHistory}
use Rattle.ft_worked.proofs.traces.next.Goals as goal

pub returns-in-Ok-clause-given : goal.returns-in-Ok-clause-given
returns-in-Ok-clause-given c =
    let S = c.args.set.now in
    let bytes = c.requires.given.0 in
    let h = c.requires.given.1 in
    let reader = c.next.new.self in
    let more = h ++ c.next.new.values ∷ [] in
    elim c.in-Ok.found as (λ found. MatchBool found (HasGiven S bytes reader more) (SpellsHistory S bytes h × HasGiven S bytes reader h)
    → (b : List ℕ) × (k : Scans) × HasGiven S b reader k) [
      | true ↦ λ given. (bytes, more, given)
      | false ↦ λ given. (bytes, h, given.1)
    ] (c.in-Ok.ensures.ok bytes h c.requires.given.2)
