use Rattle.std.proofs.Common.{rules, ◌≡◌, ◌∙◌, sym, ap, length}
use Rattle.std.specs.Prelude.{vec_len}
use Rattle.ft_farkas.specs.building.Table.{KeptView}
use Rattle.ft_farkas.proofs.TableLemmas.{rows-length}
use Rattle.ft_farkas.proofs.kept.Kept.len.Goals as goal

pub returns : goal.returns
returns c =
    let same : vec_len c.self.inside.tops ≡ length c.self.inside.tops.items = search rules in
    c.len.ensures ∙ same ∙ sym (rows-length c.self.inside.columns (length c.self.inside.tops.items) c.self.inside.numbers.items)
    ∙ ap (λ (v : KeptView). length v.rows) c.self.view_is
