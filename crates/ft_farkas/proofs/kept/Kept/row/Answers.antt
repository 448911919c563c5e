use Rattle.std.proofs.Common.{◌∙◌, sym, ap, subst, ◌*◌, ℕ, ℤ, List, length, take, drop, arith}
use Rattle.ft_farkas.specs.building.Table.{KeptView, IsRow}
use Rattle.ft_farkas.proofs.TableLemmas.{row-within, row-there, row-taken, row-kept}
use Rattle.ft_farkas.proofs.kept.Kept.row.Goals as goal

pub row_at-requires : goal.row_at-requires
row_at-requires c =
    let there = row-there c.self.inside.columns (length c.self.inside.tops.items) c.args.at c.self.inside.numbers.items c.args.self.now.rows (ap (λ (v : KeptView). v.rows) c.self.view_is) c.requires in
    let fits = row-within c.self.inside.columns c.args.at (length c.self.inside.tops.items) there in
    let long = c.self.invariant.0.1 in
    let same = ap (λ (xs : List ℤ). length xs) c.as_slice.ensures.value in
    omega (arith, fits, long, same)

pub returns-clause-value : goal.returns-clause-value
returns-clause-value c =
    c.row_at.ensures ∙ ap (λ (xs : List ℤ). take c.self.inside.columns (drop (c.args.at * c.self.inside.columns) xs)) c.as_slice.ensures.value
    ∙ row-taken c.self.inside.columns (length c.self.inside.tops.items) c.args.at c.self.inside.numbers.items c.args.self.now.rows (ap (λ (v : KeptView). v.rows) c.self.view_is) c.requires

pub returns-clause-row : goal.returns-clause-row
returns-clause-row c =
    let there = row-there c.self.inside.columns (length c.self.inside.tops.items) c.args.at c.self.inside.numbers.items c.args.self.now.rows (ap (λ (v : KeptView). v.rows) c.self.view_is) c.requires in
    let is = c.row_at.ensures ∙ ap (λ (xs : List ℤ). take c.self.inside.columns (drop (c.args.at * c.self.inside.columns) xs)) c.as_slice.ensures.value in
    subst (λ (xs : List ℤ). IsRow c.args.self.now.unknowns xs) (sym is)
    (subst (λ (n : ℕ). IsRow n (take c.self.inside.columns (drop (c.args.at * c.self.inside.columns) c.self.inside.numbers.items))) (ap (λ (v : KeptView). v.unknowns) c.self.view_is)
    (row-kept c.self.inside.unknowns c.self.inside.columns (length c.self.inside.tops.items) c.args.at c.self.inside.numbers.items c.self.invariant.0.0 c.self.invariant.0.1 c.self.invariant.0.2 there))
