use Rattle.std.proofs.Common.{rules, ◌≡◌, sym, subst, suc, ◌+◌, ◌<◌, ◌≤◌, ◌+ℤ◌, ◌*ℤ◌, ◌≢◌, ℕ, ℤ, List, pos, length, arith}
use Rattle.std.specs.Int.{w64}
use Rattle.std.proofs.lemmas.Int.{to_z-of_z}
use Rattle.ft_farkas.specs.meaning.Rows.{row_of, factor, width}
use Rattle.ft_farkas.specs.meaning.Kept.{row_in, Cancels}
use Rattle.ft_farkas.proofs.TurnLemmas.{cancels-same, clash-some, all-narrow}
use mir.Val.{SFits}
use Rattle.ft_farkas.proofs.turning.derive.Goals as goal

pub combine-requires-clause-cancels : goal.combine-requires-clause-cancels
combine-requires-clause-cancels c =
    let first_fits : SFits w64 (row_of c.row-first.result.now (c.args.unknown + 1)) = search rules in
    let second_fits : SFits w64 (row_of c.row-second.result.now (c.args.unknown + 1)) = search rules in
    cancels-same c.args.unknown (row_of c.row-first.result.now) (row_of c.row-second.result.now) _ _ c.multipliers-times_first.result.0 c.multipliers-times_first.result.1
    (to_z-of_z w64 (row_of c.row-first.result.now (c.args.unknown + 1)) first_fits) (to_z-of_z w64 (row_of c.row-second.result.now (c.args.unknown + 1)) second_fits)
    c.multipliers-times_first.ensures.cancels

pub combine-requires-clause-some : goal.combine-requires-clause-some
combine-requires-clause-some c =
    let first = c.row-first.ensures.value in
    let second = c.row-second.ensures.value in
    let columns : length c.row-first.result.now ≡ width c.args.kept.now.unknowns = c.row-first.ensures.row.0 in
    let within = c.requires.clash.within in
    let fits : suc c.args.unknown ≤ length c.row-first.result.now = omega (arith, columns, within) in
    let cancels = subst (λ (xs : List ℤ). Cancels (factor c.args.unknown (row_of xs)) (factor c.args.unknown (row_in c.args.kept.now.rows c.args.lower)) c.multipliers-times_first.result.0 c.multipliers-times_first.result.1) first
    (subst (λ (xs : List ℤ). Cancels (factor c.args.unknown (row_of c.row-first.result.now)) (factor c.args.unknown (row_of xs)) c.multipliers-times_first.result.0 c.multipliers-times_first.result.1) second (combine-requires-clause-cancels c)) in
    let w = clash-some c.args.kept.now.unknowns c.args.unknown c.args.kept.now.rows c.args.upper c.args.lower c.requires.clash c.multipliers-times_first.result.0 c.multipliers-times_first.result.1 (length c.row-first.result.now) fits cancels in (
      w.0,
      w.1,
      subst (λ (xs : List ℤ). ((pos c.multipliers-times_first.result.0 *ℤ row_of xs w.0) +ℤ (pos c.multipliers-times_first.result.1 *ℤ row_of c.row-second.result.now w.0)) ≢ pos 0) (sym first)
          (subst (λ (xs : List ℤ). ((pos c.multipliers-times_first.result.0 *ℤ row_in c.args.kept.now.rows c.args.upper w.0) +ℤ (pos c.multipliers-times_first.result.1 *ℤ row_of xs w.0)) ≢ pos 0) (sym second) w.2),
    )

pub returns-clause-row : goal.returns-clause-row
returns-clause-row c so =
    let columns : length c.combine.new.row ≡ width c.args.kept.now.unknowns = search rules in
    let same : length c.combine.new.row ≡ length c.row-first.result.now = search rules in
    (columns, all-narrow c.combine.new.row (λ k below. c.combine.ensures.numbers so k (subst (λ (n : ℕ). k < n) same below)))
