use Rattle.std.proofs.Common.{◌∙◌, ap, ℕ, List, length}
use Rattle.ft_farkas.specs.building.Table.{KeptView, rows_of}
use Rattle.ft_farkas.proofs.kept.Kept.clear.Goals as goal

pub returns : goal.returns
returns c = λ i. record {
  unknowns = ap (λ (v : KeptView). v.unknowns) c.self.view_is i;
  room = (c.clear-2.ensures.capacity ∙ ap (λ (v : KeptView). v.room) c.self.view_is) i;
  rows = ap (λ (tops : List ℕ). rows_of c.self.inside.columns (length tops) c.clear.new.self.items) c.clear-2.ensures.items i;
}
