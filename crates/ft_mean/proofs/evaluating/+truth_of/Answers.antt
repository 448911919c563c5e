use Rattle.std.proofs.Common.{◌∙◌, rules, sym, subst, ap, FitsSigned, w64}
use Rattle.std.proofs.lemmas.Int.{to_z-of_z}
use Rattle.ft_core.specs.declared.term.Cond.{the_lemmas}
use Rattle.ft_mean.specs.meaning.Value.{truth}
use Rattle.ft_mean.proofs.Agree.{truth-Yes, truth-No, truth-Memory}
use Rattle.ft_mean.specs.judge.Safe.{IsSafeCond}
use Rattle.ft_mean.proofs.SafeLemmas.{safe_left, safe_right, safe_not, safe_and_left, safe_and_right, safe_or_left, safe_or_right}
use Rattle.ft_mean.proofs.SafeLemmas.{compare_truth, not_truth, and_truth, and_false, or_truth, or_true}
use Rattle.ft_mean.proofs.evaluating.+truth_of.Goals as goal

pub value_of-requires : goal.value_of-requires
value_of-requires g t c =
    safe_left _ _ _ _ (subst (IsSafeCond _) c.in-Compare.is c.requires)

pub value_of-requires-in-Compare : goal.value_of-requires-in-Compare
value_of-requires-in-Compare g t c =
    safe_right _ _ _ _ (subst (IsSafeCond _) c.in-Compare.is c.requires)

pub truth_of-requires : goal.truth_of-requires
truth_of-requires g t c κs within = (
  search (rules, the_lemmas),
  (
    within,
    subst (IsSafeCond _) (sym c.get.ensures)
        (safe_not _ _ (subst (IsSafeCond _) c.in-Not.is c.requires)),
  ),
)

pub truth_of-requires-in-And : goal.truth_of-requires-in-And
truth_of-requires-in-And g t c κs within = (
  search (rules, the_lemmas),
  (
    within,
    subst (IsSafeCond _) (sym c.get-in-And.ensures)
        (safe_and_left _ _ _ (subst (IsSafeCond _) c.in-And.is c.requires)),
  ),
)

pub truth_of-requires-then-truth_of : goal.truth_of-requires-then-truth_of
truth_of-requires-then-truth_of g t c κs within = (
  search (rules, the_lemmas),
  (
    within,
    subst (IsSafeCond _) (sym c.get-then-truth_of.ensures)
        (safe_and_right _ _ _ (subst (IsSafeCond _) c.in-And.is c.requires)),
  ),
)

pub truth_of-requires-in-Or : goal.truth_of-requires-in-Or
truth_of-requires-in-Or g t c κs within = (
  search (rules, the_lemmas),
  (
    within,
    subst (IsSafeCond _) (sym c.get-in-Or.ensures)
        (safe_or_left _ _ _ (subst (IsSafeCond _) c.in-Or.is c.requires)),
  ),
)

pub truth_of-requires-else-truth_of-2 : goal.truth_of-requires-else-truth_of-2
truth_of-requires-else-truth_of-2 g t c κs within = (
  search (rules, the_lemmas),
  (
    within,
    subst (IsSafeCond _) (sym c.get-else-truth_of-2.ensures)
        (safe_or_right _ _ _ (subst (IsSafeCond _) c.in-Or.is c.requires)),
  ),
)

pub returns-in-Yes : goal.returns-in-Yes
returns-in-Yes g t c =
    sym (ap (truth _) c.in-Yes.is ∙ truth-Yes _)

pub returns-in-No : goal.returns-in-No
returns-in-No g t c =
    sym (ap (truth _) c.in-No.is ∙ truth-No _)

pub returns-in-Memory : goal.returns-in-Memory
returns-in-Memory g t c =
    c.memory_of.ensures ∙ sym (ap (truth (g.L.Look.view c.args.look.now)) c.in-Memory.is ∙ truth-Memory (g.L.Look.view c.args.look.now) _)

pub returns-in-Compare : goal.returns-in-Compare
returns-in-Compare g t c =
    let left : FitsSigned w64 c.value_of.result = search rules in let right : FitsSigned w64 c.value_of-in-Compare.result = search rules in
    let is = simp to_z-of_z at c.compare.ensures in
    compare_truth _ _ _ _ _ _ _ _ c.in-Compare.is c.value_of.ensures c.value_of-in-Compare.ensures is

pub returns-in-Not : goal.returns-in-Not
returns-in-Not g t c =
    not_truth _ _ _ _ _ c.in-Not.is c.get.ensures c.truth_of.ensures

pub returns-then-truth_of : goal.returns-then-truth_of
returns-then-truth_of g t c =
    and_truth _ _ _ _ _ _ _ _ c.in-And.is c.get-in-And.ensures c.get-then-truth_of.ensures c.truth_of-in-And.ensures c.if-truth_of.true
    c.truth_of-then-truth_of.ensures

pub returns-else-truth_of : goal.returns-else-truth_of
returns-else-truth_of g t c =
    c.if-truth_of.false ∙ and_false _ _ _ _ _ _ c.in-And.is c.get-in-And.ensures c.truth_of-in-And.ensures c.if-truth_of.false

pub returns-then-truth_of-2 : goal.returns-then-truth_of-2
returns-then-truth_of-2 g t c =
    c.if-truth_of-2.true ∙ or_true _ _ _ _ _ _ c.in-Or.is c.get-in-Or.ensures c.truth_of-in-Or.ensures c.if-truth_of-2.true

pub returns-else-truth_of-2 : goal.returns-else-truth_of-2
returns-else-truth_of-2 g t c =
    or_truth _ _ _ _ _ _ _ _ c.in-Or.is c.get-in-Or.ensures c.get-else-truth_of-2.ensures c.truth_of-in-Or.ensures c.if-truth_of-2.false
    c.truth_of-else-truth_of-2.ensures
