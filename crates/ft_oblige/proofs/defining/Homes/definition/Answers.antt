use Rattle.std.proofs.Common.{◌∙◌}
use Rattle.ft_oblige.specs.building.Homes.{home_table}
use Rattle.ft_oblige.proofs.DefineLemmas.{some-said, none-said}
use Rattle.ft_oblige.proofs.defining.Homes.definition.Goals as goal

pub returns-in_ok-cells-in-Some : goal.returns-in_ok-cells-in-Some
returns-in_ok-cells-in-Some c =
    some-said c.args.tables.now c.args.frame.now c.args.variable c.args.self.now c.in-Some.table.now c.in_ok-cells-in-Some.cells
    c.table_laws.ensures.cells_are c.requires
    (c.in-Some.ensures ∙ (λ i. home_table (c.as_slice.ensures i) (c.as_slice-2.ensures i) c.args.variable))
    c.in_ok-cells-in-Some.ensures

pub returns-in-None : goal.returns-in-None
returns-in-None c =
    none-said c.args.tables.now c.args.frame.now c.args.variable c.args.self.now c.new.result c.requires
    (c.in-None.ensures ∙ (λ i. home_table (c.as_slice.ensures i) (c.as_slice-2.ensures i) c.args.variable)) c.new.ensures
