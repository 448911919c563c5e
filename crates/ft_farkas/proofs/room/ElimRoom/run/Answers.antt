use Rattle.std.proofs.Common.{rules, ◌≡◌, ◌∙◌, ap, refl, ◌≤◌, ◌+◌, ◌++◌, ℕ, ℤ, List, length, take, arith}
use Rattle.std.proofs.lemmas.List.{with_items_is}
use Rattle.ft_linear.specs.declared.lines.Line.{Line}
use Rattle.ft_farkas.specs.meaning.Rows.{row_of, bounds, chosen}
use Rattle.ft_farkas.proofs.KeepingLemmas.{sources-length}
use Rattle.ft_farkas.proofs.LendingLemmas.{told}
use Rattle.ft_farkas.proofs.room.ElimRoom.run.Goals as goal

pub find-found-requires-clause-kept : goal.find-found-requires-clause-kept
find-found-requires-clause-kept c =
    let long = sources-length c.args.formula.now c.args.part.now c.args.lines.now in
    let few = c.requires.lines.few in
    let room = c.self.invariant.1 in
    let n : c.self.inside.kept.unknowns ≡ length c.args.part.now.spans = search rules in
    omega (arith, long, few, room, n)

pub returns-clause-tells : goal.returns-clause-tells
returns-clause-tells c =
    let point = with_items_is c.self.inside.point c.find-found.new.point (c.find-found.auto.point ∙ c.as_mut_slice.ensures.len) in
    let row = with_items_is c.self.inside.row c.find-found.new.row (c.find-found.auto.row ∙ c.as_mut_slice-3.ensures.len) in
    let lent = with_items_is c.self.inside.lines c.lend_after-self-inside.new.lent (c.lend_after-self-inside.auto.lent ∙ c.as_mut_slice-4.ensures.len) in
    let before : c.self.inside.kept.unknowns ≡ length c.args.part.now.spans = search rules in
    let n = c.unknowns.ensures ∙ c.find-found.ensures.unknowns ∙ before in
    let few : length c.args.part.now.spans ≤ 2000 = let most = c.self.invariant.0 in omega (arith, most, before) in
    told c.args.formula.now c.args.part.now c.requires.over c.args.lines.now c.requires.lines few c.find-found.new.kept.rows c.find-found.new.point c.find-found.new.row c.find-found.result (record { unknowns = c.find-found.new.kept.unknowns; kept = _; lines = _; point = _ }) c.find-found.ensures.finds
    refl point (λ so. ap (λ (xs : List Line). take c.lend_after-self-inside.result xs) lent ∙ c.lend_after-self-inside.ensures.sum so
    ∙ ap (λ (xs : List ℤ). chosen (row_of xs) (c.unknowns.result + 1) (c.args.lines.now ++ bounds c.unknowns.result)) (c.as_slice.ensures.value ∙ row)
    ∙ ap (λ (k : ℕ). chosen (row_of c.find-found.new.row) (k + 1) (c.args.lines.now ++ bounds k)) n)
