use Rattle.std.proofs.Common.{◌≡◌, subst, ◌+◌, arith}
use Rattle.ft_mean.specs.meaning.Refines.{ShortSafe}
use Rattle.ft_oblige.specs.meaning.Lists.{difference_parts}
use Rattle.ft_unroll.specs.building.Telling.{IsSought}
use Rattle.ft_unroll.proofs.FoundLemmas.{few_scans, none-more, shortest, refute-spent}
use Rattle.ft_unroll.proofs.refuting.refute.Goals as goal

pub difference_of-requires-clause-few : goal.difference_of-requires-clause-few
difference_of-requires-clause-few c = few_scans c.args.tables.now c.loop-before.before c.loop-before-test.true

pub loop-before-preserved : goal.loop-before-preserved
loop-before-preserved c =
    let S = c.args.tables.now in
    let n = c.loop-before.before + 1 in
    none-more S c.loop-before.before c.loop-before.invariant
    (subst (IsSought S n (difference_parts S n) S.splits) c.in-NoList.is c.in_ok-sought.ensures)

pub returns-in-List : goal.returns-in-List
returns-in-List c =
    let S = c.args.tables.now in
    let n = c.loop-before.before + 1 in
    shortest S c.requires.proper c.short_laws.ensures.safe c.loop-before.before c.loop-before.invariant c.loop-before-test.true
    c.list_laws.ensures.differ c.in-List.history (subst (IsSought S n (difference_parts S n) S.splits) c.in-List.is c.in_ok-sought.ensures)

pub returns-in-Spent : goal.returns-in-Spent
returns-in-Spent c =
    let S = c.args.tables.now in
    let n = c.loop-before.before + 1 in
    refute-spent S c.requires.proper c.short_laws.ensures.safe c.loop-before.before c.loop-before.invariant c.loop-before-test.true
    c.in-Spent.tree (subst (IsSought S n (difference_parts S n) S.splits) c.in-Spent.is c.in_ok-sought.ensures)

pub returns : goal.returns
returns c =
    let S = c.args.tables.now in
    let same : c.loop-before.before ≡ S.depth = omega (arith, c.loop-before-test.false, c.loop-before.auto.before-end) in
    subst (ShortSafe S) same (c.short_laws.ensures.safe S c.requires.proper c.loop-before.before c.loop-before.invariant)
