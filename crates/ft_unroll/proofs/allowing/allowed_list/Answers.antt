use Rattle.std.proofs.Common.{subst, ◌+◌}
use Rattle.ft_oblige.specs.meaning.Lists.{list_parts}
use Rattle.ft_unroll.specs.building.Telling.{IsSought}
use Rattle.ft_unroll.proofs.FoundLemmas.{few_scans, stops, list-spent, deep, longest-more}
use Rattle.ft_unroll.proofs.allowing.allowed_list.Goals as goal

pub allowed_of-requires-clause-few : goal.allowed_of-requires-clause-few
allowed_of-requires-clause-few c = few_scans c.args.tables.now c.loop-before.before c.loop-before-test.true

pub loop-before-preserved : goal.loop-before-preserved
loop-before-preserved c =
    let S = c.args.tables.now in
    let n = c.loop-before.before + 1 in
    longest-more c.list_laws.ensures.allow S c.loop-before.before c.in-List.history
    (subst (IsSought S n (list_parts S n) S.splits) c.in-List.is c.in_ok-sought.ensures)

pub returns-in-NoList : goal.returns-in-NoList
returns-in-NoList c =
    let S = c.args.tables.now in
    let n = c.loop-before.before + 1 in
    stops S c.loop-before.before c.loop-before.longest c.loop-before.invariant c.list_laws.ensures.allowed c.loop-before-test.true
    (subst (IsSought S n (list_parts S n) S.splits) c.in-NoList.is c.in_ok-sought.ensures)

pub returns-in-Spent : goal.returns-in-Spent
returns-in-Spent c =
    let S = c.args.tables.now in
    let n = c.loop-before.before + 1 in
    list-spent S c.loop-before.before c.loop-before.longest c.loop-before.invariant c.loop-before-test.true c.in-Spent.tree
    (subst (IsSought S n (list_parts S n) S.splits) c.in-Spent.is c.in_ok-sought.ensures)

pub returns : goal.returns
returns c = deep c.args.tables.now c.loop-before.before c.loop-before.longest c.loop-before.invariant c.loop-before-test.false
    c.loop-before.auto.before-end
