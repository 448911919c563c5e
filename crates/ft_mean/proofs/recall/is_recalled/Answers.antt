use Rattle.std.proofs.Common.{◌∙◌, sym, subst, FitsSigned, w64, rules, arith}
use Rattle.std.proofs.lemmas.Int.{to_z-of_z}
use Rattle.ft_core.specs.declared.tables.Memory.{Memory}
use Rattle.ft_mean.specs.judge.Scope.{reading_by}
use Rattle.ft_mean.specs.meaning.Reading.{since}
use Rattle.ft_mean.specs.judge.Safe.{IsSafeMemory}
use Rattle.ft_mean.specs.judge.Seen.{view_at, recalled}
use Rattle.ft_mean.proofs.TimeLemmas.{begun_low}
use Rattle.ft_mean.proofs.recall.is_recalled.Goals as goal

pub was_held-requires-clause-safe : goal.was_held-requires-clause-safe
was_held-requires-clause-safe c = λ t. subst (λ (m : Memory). IsSafeMemory (view_at c.args.seen.now t) m) c.in-Held.is (c.requires.safe t)

pub was_met-requires-clause-safe : goal.was_met-requires-clause-safe
was_met-requires-clause-safe c = λ t. subst (λ (m : Memory). IsSafeMemory (view_at c.args.seen.now t) m) c.in-Hyst.is (c.requires.safe t)

pub was_held-requires-clause-begun : goal.was_held-requires-clause-begun
was_held-requires-clause-begun c =
    let low = begun_low c.args.known.now.tables.now (reading_by c.args.known.now.tables.now c.args.known.now.scope
    c.args.known.now.scans.now) c.args.scan in
    omega (arith, low, c.begun-from.ensures)

pub was_met-requires-clause-begun : goal.was_met-requires-clause-begun
was_met-requires-clause-begun c =
    let low = begun_low c.args.known.now.tables.now (reading_by c.args.known.now.tables.now c.args.known.now.scope
    c.args.known.now.scans.now) c.args.scan in
    omega (arith, low, c.begun-from.ensures)

pub returns-in-Held : goal.returns-in-Held
returns-in-Held c =
    let hold : FitsSigned w64 c.in-Held.hold = search rules in
    let is = simp to_z-of_z at c.was_held.ensures in
    is ∙ (λ i. recalled (c.begun-from.ensures i) (λ j. since c.args.known.now.tables.now
    (reading_by c.args.known.now.tables.now c.args.known.now.scope c.args.known.now.scans.now) j c.args.scan) c.args.seen.now
    (sym c.in-Held.is i) c.args.scan)

pub returns-in-Hyst : goal.returns-in-Hyst
returns-in-Hyst c =
    let lo : FitsSigned w64 c.in-Hyst.lo = search rules in
    let hi : FitsSigned w64 c.in-Hyst.hi = search rules in
    let is = simp to_z-of_z at c.was_met.ensures in
    is ∙ (λ i. recalled (c.begun-from.ensures i) (λ j. since c.args.known.now.tables.now
    (reading_by c.args.known.now.tables.now c.args.known.now.scope c.args.known.now.scans.now) j c.args.scan) c.args.seen.now
    (sym c.in-Hyst.is i) c.args.scan)
