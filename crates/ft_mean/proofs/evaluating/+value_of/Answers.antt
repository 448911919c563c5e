use Rattle.std.proofs.Common.{◌∙◌, rules, sym, subst, ap, FitsSigned, w64}
use Rattle.std.proofs.lemmas.Int.{to_z-of_z}
use Rattle.ft_core.specs.declared.term.Term.{the_lemmas}
use Rattle.ft_mean.specs.meaning.Value.{value}
use Rattle.ft_mean.proofs.Agree.{value-Num, value-Now, value-Prev, value-Age}
use Rattle.ft_mean.specs.judge.Safe.{IsSafe}
use Rattle.ft_mean.proofs.SafeLemmas.{safe_neg, safe_add_left, safe_add_right, safe_sub_left, safe_sub_right, safe_times, safe_div}
use Rattle.ft_mean.proofs.SafeLemmas.{safe_divisor, part_small, product_small, neg_value, add_value, sub_value, times_value, div_value}
use Rattle.ft_mean.proofs.evaluating.+value_of.Goals as goal

pub value_of-requires : goal.value_of-requires
value_of-requires g t c κs lives =
    (search (rules, the_lemmas), (lives, subst (IsSafe _) (sym c.get.ensures) (safe_neg _ _ (subst (IsSafe _) c.in-Neg.is c.requires))))

pub value_of-requires-in-Add : goal.value_of-requires-in-Add
value_of-requires-in-Add g t c κs lives = (
  search (rules, the_lemmas),
  (
    lives,
    subst (IsSafe _) (sym c.get-in-Add.ensures)
        (safe_add_left _ _ _ (subst (IsSafe _) c.in-Add.is c.requires)),
  ),
)

pub value_of-requires-in-Add-2 : goal.value_of-requires-in-Add-2
value_of-requires-in-Add-2 g t c κs lives = (
  search (rules, the_lemmas),
  (
    lives,
    subst (IsSafe _) (sym c.get-in-Add-2.ensures)
        (safe_add_right _ _ _ (subst (IsSafe _) c.in-Add.is c.requires)),
  ),
)

pub value_of-requires-in-Sub : goal.value_of-requires-in-Sub
value_of-requires-in-Sub g t c κs lives = (
  search (rules, the_lemmas),
  (
    lives,
    subst (IsSafe _) (sym c.get-in-Sub.ensures)
        (safe_sub_left _ _ _ (subst (IsSafe _) c.in-Sub.is c.requires)),
  ),
)

pub value_of-requires-in-Sub-2 : goal.value_of-requires-in-Sub-2
value_of-requires-in-Sub-2 g t c κs lives = (
  search (rules, the_lemmas),
  (
    lives,
    subst (IsSafe _) (sym c.get-in-Sub-2.ensures)
        (safe_sub_right _ _ _ (subst (IsSafe _) c.in-Sub.is c.requires)),
  ),
)

pub value_of-requires-in-Times : goal.value_of-requires-in-Times
value_of-requires-in-Times g t c κs lives = (
  search (rules, the_lemmas),
  (
    lives,
    subst (IsSafe _) (sym c.get-in-Times.ensures)
        (safe_times _ _ _ (subst (IsSafe _) c.in-Times.is c.requires)),
  ),
)

pub value_of-requires-in-Div : goal.value_of-requires-in-Div
value_of-requires-in-Div g t c κs lives = (
  search (rules, the_lemmas),
  (
    lives,
    subst (IsSafe _) (sym c.get-in-Div.ensures)
        (safe_div _ _ _ (subst (IsSafe _) c.in-Div.is c.requires)),
  ),
)

pub negated-requires : goal.negated-requires
negated-requires g t c =
    let fits : FitsSigned w64 c.value_of.result = search rules in simp to_z-of_z
    (part_small _ _ _ _ c.get.ensures c.value_of.ensures (safe_neg _ _ (subst (IsSafe _) c.in-Neg.is c.requires)))

pub sum-requires-clause-left : goal.sum-requires-clause-left
sum-requires-clause-left g t c =
    let fits : FitsSigned w64 c.value_of-in-Add.result = search rules in
    simp to_z-of_z (part_small _ _ _ _ c.get-in-Add.ensures c.value_of-in-Add.ensures
    (safe_add_left _ _ _ (subst (IsSafe _) c.in-Add.is c.requires)))

pub sum-requires-clause-right : goal.sum-requires-clause-right
sum-requires-clause-right g t c =
    let fits : FitsSigned w64 c.value_of-in-Add-2.result = search rules in
    simp to_z-of_z (part_small _ _ _ _ c.get-in-Add-2.ensures c.value_of-in-Add-2.ensures
    (safe_add_right _ _ _ (subst (IsSafe _) c.in-Add.is c.requires)))

pub difference-requires-clause-left : goal.difference-requires-clause-left
difference-requires-clause-left g t c =
    let fits : FitsSigned w64 c.value_of-in-Sub.result = search rules in
    simp to_z-of_z (part_small _ _ _ _ c.get-in-Sub.ensures c.value_of-in-Sub.ensures
    (safe_sub_left _ _ _ (subst (IsSafe _) c.in-Sub.is c.requires)))

pub difference-requires-clause-right : goal.difference-requires-clause-right
difference-requires-clause-right g t c =
    let fits : FitsSigned w64 c.value_of-in-Sub-2.result = search rules in
    simp to_z-of_z (part_small _ _ _ _ c.get-in-Sub-2.ensures c.value_of-in-Sub-2.ensures
    (safe_sub_right _ _ _ (subst (IsSafe _) c.in-Sub.is c.requires)))

pub product-requires : goal.product-requires
product-requires g t c =
    let fits : FitsSigned w64 c.value_of-in-Times.result = search rules in let factor : FitsSigned w64 c.in-Times.factor = search rules in
    simp to_z-of_z (product_small _ _ _ _ _ c.get-in-Times.ensures c.value_of-in-Times.ensures (subst (IsSafe _) c.in-Times.is c.requires))

pub div_floor-requires : goal.div_floor-requires
div_floor-requires g t c =
    let divisor : FitsSigned w64 c.in-Div.divisor = search rules in simp to_z-of_z
    (safe_divisor _ _ _ (subst (IsSafe _) c.in-Div.is c.requires))

pub returns-in-Num : goal.returns-in-Num
returns-in-Num g t c =
    let whole : FitsSigned w64 c.in-Num.number = search rules in simp to_z-of_z (sym (ap (value _) c.in-Num.is ∙ value-Num _ _))

pub returns-in-Now : goal.returns-in-Now
returns-in-Now g t c =
    let whole : FitsSigned w64 c.now_of.result = search rules in
    simp to_z-of_z (c.now_of.ensures ∙ sym (ap (value (g.L.Look.view c.args.look.now)) c.in-Now.is
    ∙ value-Now (g.L.Look.view c.args.look.now) _))

pub returns-in-Prev : goal.returns-in-Prev
returns-in-Prev g t c =
    let whole : FitsSigned w64 c.before_of.result = search rules in
    simp to_z-of_z (c.before_of.ensures ∙ sym (ap (value (g.L.Look.view c.args.look.now)) c.in-Prev.is
    ∙ value-Prev (g.L.Look.view c.args.look.now) _))

pub returns-in-Age : goal.returns-in-Age
returns-in-Age g t c =
    let whole : FitsSigned w64 c.age_of.result = search rules in
    simp to_z-of_z (c.age_of.ensures ∙ sym (ap (value (g.L.Look.view c.args.look.now)) c.in-Age.is
    ∙ value-Age (g.L.Look.view c.args.look.now) _))

pub returns-in-Neg : goal.returns-in-Neg
returns-in-Neg g t c =
    let fits : FitsSigned w64 c.value_of.result = search rules in let is = simp to_z-of_z at c.negated.ensures in
    let whole : FitsSigned w64 c.negated.result = search rules in simp to_z-of_z
    (neg_value _ _ _ _ _ _ c.in-Neg.is c.get.ensures c.value_of.ensures is)

pub returns-in-Add : goal.returns-in-Add
returns-in-Add g t c =
    let left : FitsSigned w64 c.value_of-in-Add.result = search rules in let right : FitsSigned w64 c.value_of-in-Add-2.result =
    search rules in
    let is = simp to_z-of_z at c.sum.ensures in
    let whole : FitsSigned w64 c.sum.result = search rules in simp to_z-of_z
    (add_value _ _ _ _ _ _ _ _ _ c.in-Add.is c.get-in-Add.ensures c.get-in-Add-2.ensures c.value_of-in-Add.ensures
    c.value_of-in-Add-2.ensures is)

pub returns-in-Sub : goal.returns-in-Sub
returns-in-Sub g t c =
    let left : FitsSigned w64 c.value_of-in-Sub.result = search rules in let right : FitsSigned w64 c.value_of-in-Sub-2.result =
    search rules in
    let is = simp to_z-of_z at c.difference.ensures in
    let whole : FitsSigned w64 c.difference.result = search rules in simp to_z-of_z
    (sub_value _ _ _ _ _ _ _ _ _ c.in-Sub.is c.get-in-Sub.ensures c.get-in-Sub-2.ensures c.value_of-in-Sub.ensures
    c.value_of-in-Sub-2.ensures is)

pub returns-in-Times : goal.returns-in-Times
returns-in-Times g t c =
    let fits : FitsSigned w64 c.value_of-in-Times.result = search rules in let factor : FitsSigned w64 c.in-Times.factor = search rules in
    let is = simp to_z-of_z at c.product.ensures in
    let whole : FitsSigned w64 c.product.result = search rules in simp to_z-of_z
    (times_value _ _ _ _ _ _ _ c.in-Times.is c.get-in-Times.ensures c.value_of-in-Times.ensures is)

pub returns-in-Div : goal.returns-in-Div
returns-in-Div g t c =
    let fits : FitsSigned w64 c.value_of-in-Div.result = search rules in let divisor : FitsSigned w64 c.in-Div.divisor = search rules in
    let is = simp to_z-of_z at c.div_floor.ensures.value in
    let whole : FitsSigned w64 c.div_floor.result = search rules in simp to_z-of_z
    (div_value _ _ _ _ _ _ _ c.in-Div.is c.get-in-Div.ensures c.value_of-in-Div.ensures is)
