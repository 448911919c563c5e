use Rattle.std.proofs.Common.{◌∙◌, sym, subst, refl, arith}
use Rattle.std.proofs.lemmas.List.{take_all}
use Rattle.std.proofs.lemmas.List.Elements.{All-nil, All-more}
use Rattle.std.specs.Prelude.{All}
use Rattle.ft_linear.specs.meaning.Form.{LinView, HasUnknowns}
use Rattle.ft_linear.proofs.formula.are_over.Goals as goal

pub loop-form-init : goal.loop-form-init
loop-form-init c = All-nil (λ (f : LinView). HasUnknowns c.args.count f.factors)

pub loop-form-preserved : goal.loop-form-preserved
loop-form-preserved c = All-more (λ (f : LinView). HasUnknowns c.args.count f.factors) c.args.atoms.now c.loop-form.form-index
    c.form-item.result c.loop-form-test.true c.loop-form.invariant
    (subst (λ (f : LinView). HasUnknowns c.args.count f.factors) c.form-item.is (c.is_over.ensures.0 c.if-not-is_over.false))

pub returns-then-not-is_over : goal.returns-then-not-is_over
returns-then-not-is_over c = (
  λ never. cc never,
  λ all.
      sym c.if-not-is_over.true ∙ c.is_over.ensures.1 (subst (λ (f : LinView). HasUnknowns c.args.count f.factors) (sym c.form-item.is)
      (all c.loop-form.form-index c.form-item.result c.loop-form-test.true)),
)

pub returns : goal.returns
returns c = (
  λ so. subst (All (λ (f : LinView). HasUnknowns c.args.count f.factors)) (take_all c.loop-form.form-index c.args.atoms.now (omega arith))
      c.loop-form.invariant,
  λ all. refl,
)
