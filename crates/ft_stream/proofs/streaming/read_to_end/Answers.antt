use Rattle.std.proofs.Common.{◌∙◌, sym, subst, refl, [], ◌∷◌, ◌++◌, append_assoc, arith}
use Rattle.std.proofs.lemmas.List.{append-nil, length-append}
use Rattle.ft_trace.specs.meaning.Reader.{HasGiven}
use Rattle.ft_stream.proofs.streaming.read_to_end.Goals as goal

pub scans-init : goal.scans-init
scans-init c = record {
  room = refl;
  given = λ bytes h given. ([], subst (HasGiven c.args.tables.now bytes c.args.reader.now) (sym (append-nil h)) given);
}

pub next-requires-clause-given : goal.next-requires-clause-given
next-requires-clause-given c =
    let bytes = c.requires.given.0 in
    let h = c.requires.given.1 in
    let so_far = c.scans.invariant.given bytes h c.requires.given.2 in
    (bytes, h ++ so_far.0, so_far.1)

pub scans-smaller : goal.scans-smaller
scans-smaller c =
    let bytes = c.requires.given.0 in
    let h = c.requires.given.1 in
    let so_far = c.scans.invariant.given bytes h c.requires.given.2 in
    let more = rw c.in-Ok-true.field-0-test at c.in-Ok-true.ensures.ok bytes (h ++ so_far.0) so_far.1 in
    omega (arith, so_far.1.count, more.count, more.so_far.few, length-append (h ++ so_far.0) (c.next.new.values ∷ []))

pub scans-preserved : goal.scans-preserved
scans-preserved c = record {
  room = c.next.ensures.room ∙ c.scans.invariant.room;
  given = λ bytes h given.
      let so_far = c.scans.invariant.given bytes h given in
      let row = c.next.new.values in (
        so_far.0 ++ row ∷ [],
        subst (HasGiven c.args.tables.now bytes c.next.new.self) (append_assoc h so_far.0 (row ∷ []))
            (rw c.in-Ok-true.field-0-test at c.in-Ok-true.ensures.ok bytes (h ++ so_far.0) so_far.1),
      );
}

pub returns-in-Ok-false-clause-ok : goal.returns-in-Ok-false-clause-ok
returns-in-Ok-false-clause-ok c = λ bytes h given.
    let so_far = c.scans.invariant.given bytes h given in
    (so_far.0, (rw c.in-Ok-false.field-0-test at c.in-Ok-false.ensures.ok bytes (h ++ so_far.0) so_far.1).0)

pub returns-in-Err-clause-fault : goal.returns-in-Err-clause-fault
returns-in-Err-clause-fault c = λ bytes h given.
    let so_far = c.scans.invariant.given bytes h given in (c.in-Err.ensures.fault bytes (h ++ so_far.0) so_far.1).0
