use Rattle.std.proofs.Common.{rules, ◌≡◌, ◌∙◌, sym, ap, subst, length, arith}
use Rattle.std.specs.Prelude.{vec_len, slice_index_or}
use Rattle.std.proofs.lemmas.List.{get_or_default}
use Rattle.ft_farkas.specs.meaning.Kept.{row_in}
use Rattle.ft_farkas.specs.building.Points.{IsTop}
use Rattle.ft_farkas.specs.building.Table.{KeptView, rows_of}
use Rattle.ft_farkas.proofs.TableLemmas.{row-there}
use Rattle.ft_farkas.proofs.kept.Kept.top.Goals as goal

pub index-requires : goal.index-requires
index-requires c =
    let there = row-there c.self.inside.columns (length c.self.inside.tops.items) c.args.at c.self.inside.numbers.items c.args.self.now.rows (ap (λ (v : KeptView). v.rows) c.self.view_is) c.requires in
    let same : vec_len c.self.inside.tops ≡ length c.self.inside.tops.items = search rules in
    omega (arith, there, same)

pub returns : goal.returns
returns c =
    let there = row-there c.self.inside.columns (length c.self.inside.tops.items) c.args.at c.self.inside.numbers.items c.args.self.now.rows (ap (λ (v : KeptView). v.rows) c.self.view_is) c.requires in
    let is : slice_index_or c.self.inside.tops.items c.args.at 0 ≡ c.index.result.now = get_or_default c.self.inside.tops.items c.args.at 0 c.index.result.now there ∙ sym c.index.ensures in
    subst (λ (v : KeptView). IsTop v.unknowns (row_in v.rows c.args.at) c.index.result.now) c.self.view_is
    (subst (IsTop c.self.inside.unknowns (row_in (rows_of c.self.inside.columns (length c.self.inside.tops.items) c.self.inside.numbers.items) c.args.at)) is (c.self.invariant.0.3 c.args.at there))
