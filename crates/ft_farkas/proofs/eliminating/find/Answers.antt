use Rattle.std.proofs.Common.{rules, ◌≡◌, ◌∙◌, ap, sym, subst, ◌+◌, ℕ, ℤ, List, length, arith}
use Rattle.ft_farkas.specs.meaning.Rows.{row_of, sources}
use Rattle.ft_farkas.specs.building.Turns.{HaveLower, IsNext, Turns, IsUnderWay}
use Rattle.ft_farkas.proofs.TableLemmas.{length-more}
use Rattle.ft_farkas.proofs.UnderWayLemmas.{all-rows, found, lower-at, under-way-more}
use Rattle.ft_farkas.proofs.eliminating.find.Goals as goal

pub returns-then-keep_sources-clause-finds : goal.returns-then-keep_sources-clause-finds
returns-then-keep_sources-clause-finds c = c.keep_sources.ensures.shows c.if-keep_sources.true

pub turn-requires-clause-lower : goal.turn-requires-clause-lower
turn-requires-clause-lower c =
    subst (λ (n : ℕ). HaveLower n c.turns.kept.rows (length c.args.lines.now)) (sym (c.turns.invariant.0 ∙ c.requires.unknowns))
    (lower-at c.args.formula.now c.args.part.now c.args.lines.now c.turns.kept.rows c.turns.invariant.6.rows)

pub returns-in-Some-clause-finds : goal.returns-in-Some-clause-finds
returns-in-Some-clause-finds c =
    found c.args.formula.now c.args.part.now c.requires.over c.args.lines.now c.requires.lines.few c.turns.kept.rows c.turn.new.kept.rows (row_of c.turn.new.point) (row_of c.turn.new.row) c.in-Some.found c.turns.invariant.6
    (subst (λ (n : ℕ). Turns n c.turns.kept.rows c.turn.new.kept.rows (row_of c.turn.new.point) (row_of c.turn.new.row) c.in-Some.found) (c.turns.invariant.0 ∙ c.requires.unknowns) c.in-Some.ensures.ends)

pub turns-preserved : goal.turns-preserved
turns-preserved c =
    let ends = c.in_default.ensures.ends in
    let next = subst (λ (n : ℕ). IsNext n c.turns.kept.rows (row_of c.turn.new.row)) (c.turns.invariant.0 ∙ c.requires.unknowns) ends.1 in
    let long = ap (λ (rows : List (List ℤ)). length rows) ends.0 ∙ length-more c.turns.kept.rows c.turn.new.row in
    let before = c.turns.invariant.5 in (
      c.turn.ensures.unknowns ∙ c.turns.invariant.0,
      c.turn.ensures.room ∙ c.turns.invariant.1,
      c.turn.ensures.point ∙ c.turns.invariant.2,
      c.turn.ensures.sum ∙ c.turns.invariant.3,
      c.turn.ensures.row ∙ c.turns.invariant.4,
      omega (arith, long, before),
      subst (IsUnderWay c.args.formula.now c.args.part.now c.args.lines.now) (sym ends.0)
          (under-way-more c.args.formula.now c.args.part.now c.args.lines.now c.turns.kept.rows c.turn.new.row c.turns.invariant.6 next),
    )

pub returns-clause-finds : goal.returns-clause-finds
returns-clause-finds c =
    let end : c.turns._turn ≡ 2000 = search rules in
    all-rows c.args.formula.now c.args.part.now c.requires.over c.args.lines.now c.requires.lines.few c.turns.kept.rows (row_of c.turns.point) (row_of c.turns.row)
    (c.turns.invariant.5 ∙ ap (λ (k : ℕ). length (sources c.args.part.now c.args.lines.now) + k) end) c.turns.invariant.6
