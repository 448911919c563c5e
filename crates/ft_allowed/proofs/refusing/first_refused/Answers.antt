use Rattle.std.proofs.Common.{◌∙◌, sym, arith, true≢false}
use Rattle.ft_allowed.proofs.RowLemmas.{all-allowed, each-allowed}
use Rattle.ft_allowed.proofs.refusing.first_refused.Goals as goal

pub is_allowed-requires-clause-before : goal.is_allowed-requires-clause-before
is_allowed-requires-clause-before c = c.loop-scan.invariant

pub returns-then-not-is_allowed-clause-some : goal.returns-then-not-is_allowed-clause-some
returns-then-not-is_allowed-clause-some c = record {
  there = omega (arith, c.loop-scan-test.true, c.scans-scan-end.ensures);
  before = c.loop-scan.invariant;
  refused = λ allowed. true≢false (sym (c.is_allowed.ensures.1 allowed) ∙ c.if-not-is_allowed.true);
}

pub returns-then-not-is_allowed-clause-only : goal.returns-then-not-is_allowed-clause-only
returns-then-not-is_allowed-clause-only c =
    λ allowed. absurd (true≢false (sym (c.is_allowed.ensures.1 (each-allowed c.args.tables.now c.args.list.now allowed c.loop-scan.scan
    (omega (arith, c.loop-scan-test.true, c.scans-scan-end.ensures)))) ∙ c.if-not-is_allowed.true))

pub returns-clause-none : goal.returns-clause-none
returns-clause-none c =
    λ _ some. all-allowed c.args.tables.now c.args.list.now some
    (λ t below. c.loop-scan.invariant t (omega (arith, below, c.loop-scan-test.false, c.scans-scan-end.ensures)))
