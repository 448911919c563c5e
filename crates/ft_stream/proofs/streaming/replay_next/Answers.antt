use Rattle.std.proofs.Common.{◌≡◌, ◌∙◌, sym, ap, subst, ℕ, ℤ, true, List, [], ◌∷◌, length, Option}
use Rattle.std.specs.Prelude.{IsFalse}
use Rattle.std.proofs.lemmas.List.{length-append}
use Rattle.ft_core.specs.declared.tables.Tables.{Tables}
use Rattle.ft_core.specs.meaning.Kinds.{monitored}
use Rattle.ft_mean.specs.meaning.Reading.{IsListOf}
use Rattle.ft_scan.specs.meaning.Allowing.{nat_after}
use Rattle.ft_stream.specs.steps.Streams.{Streams, kept}
use Rattle.ft_stream.proofs.SpelledLemmas.{last_given}
use Rattle.ft_stream.proofs.StreamLemmas.{grown}
use Rattle.ft_stream.proofs.streaming.replay_next.Goals as goal

pub allows-requires-clause-row : goal.allows-requires-clause-row
allows-requires-clause-row c =
    let bytes = c.requires.streams.0 in
    let list = c.args.replayer.now.list in
    last_given c.laws.ensures.at_place c.args.tables.now bytes c.next.new.self list c.next.new.values
    (rw c.in-Ok-true.field-0-test at c.in-Ok-true.ensures.ok bytes list c.requires.streams.1.given)

pub scan-requires-clause-row : goal.scan-requires-clause-row
scan-requires-clause-row c =
    let bytes = c.requires.streams.0 in
    let list = c.args.replayer.now.list in
    subst (λ (T : Tables). IsListOf T monitored (c.next.new.values ∷ [])) (sym c.requires.streams.1.of_set)
    (last_given c.laws.ensures.at_place c.args.tables.now bytes c.next.new.self list c.next.new.values
    (rw c.in-Ok-true.field-0-test at c.in-Ok-true.ensures.ok bytes list c.requires.streams.1.given))

pub returns-in-Ok-false-clause-next : goal.returns-in-Ok-false-clause-next
returns-in-Ok-false-clause-next c = λ bytes s.
    let ended = rw c.in-Ok-false.field-0-test at c.in-Ok-false.ensures.ok bytes c.args.replayer.now.list s.given in
    record { of_set = s.of_set; spelled = ended.0; clauses = s.clauses }

pub returns-then-not-allows-clause-next : goal.returns-then-not-allows-clause-next
returns-then-not-allows-clause-next c = λ bytes s.
    let S = c.args.tables.now in
    let row = c.next.new.values in
    record {
      given = rw c.in-Ok-true.field-0-test at c.in-Ok-true.ensures.ok bytes c.args.replayer.now.list s.given;
      clauses = s.clauses;
      forbids = subst (λ (o : Option (List ℤ)). IsFalse (nat_after S o row)) (sym s.last)
          (subst (λ (n : ℕ). IsFalse (nat_after S (kept n c.args.earlier.now) row)) c.scans.ensures
          (sym c.allows.ensures ∙ c.if-not-allows.true));
    }

pub returns-in-Err-clause-fault : goal.returns-in-Err-clause-fault
returns-in-Err-clause-fault c = λ bytes s. (c.in-Err.ensures.fault bytes c.args.replayer.now.list s.given).0

pub returns-clause-next : goal.returns-clause-next
returns-clause-next c = λ bytes s.
    let S = c.args.tables.now in
    let list = c.args.replayer.now.list in
    let row = c.next.new.values in (
      subst (Streams S bytes c.next.new.self c.scan.new.self) (sym c.copy_from_slice.ensures.after)
          (grown c.laws.ensures S bytes c.args.reader.now c.next.new.self c.args.replayer.now c.scan.new.self c.args.earlier.now row s
          (rw c.in-Ok-true.field-0-test at c.in-Ok-true.ensures.ok bytes list s.given)
          (subst (λ (n : ℕ). true ≡ nat_after S (kept n c.args.earlier.now) row) c.scans.ensures
          (sym c.if-not-allows.false ∙ c.allows.ensures))
          c.scan.ensures.set c.scan.ensures.list (c.next.ensures.room ∙ c.requires.room)),
      ap length c.scan.ensures.list ∙ length-append list (row ∷ []),
    )
