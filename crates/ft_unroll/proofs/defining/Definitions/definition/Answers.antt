use Rattle.std.proofs.Common.{◌≡◌, sym, subst, IfOk}
use Rattle.ft_claims.specs.meaning.Parts.{definition}
use Rattle.ft_oblige.specs.building.Homes.{IsHomesOf}
use Rattle.ft_unroll.specs.declared.defining.Defined.{Defined}
use Rattle.ft_unroll.proofs.defining.Definitions.definition.Goals as goal

pub definition-requires : goal.definition-requires
definition-requires c =
    let its = subst (λ (d : Defined). IsHomesOf c.args.tables.now c.args.section d.homes) (sym c.defined.ensures)
    (c.requires.each c.args.section).homes in
    subst (λ s. IsHomesOf c.args.tables.now s c.defined.result.now.homes) (sym its.its) its

pub returns : goal.returns
returns c =
    let its = subst (λ (d : Defined). IsHomesOf c.args.tables.now c.args.section d.homes) (sym c.defined.ensures)
    (c.requires.each c.args.section).homes in
    subst (λ s. IfOk c.definition.result (λ whole. whole ≡ definition c.args.tables.now s c.args.frame.now c.args.variable)) its.its
    c.definition.ensures
