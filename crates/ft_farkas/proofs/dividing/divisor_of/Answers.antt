use Rattle.std.proofs.Common.{rules, ◌≡◌, subst, ℕ, unsigned_abs}
use Rattle.std.specs.Int.{IsGcd}
use Rattle.ft_farkas.specs.meaning.Rows.{row_of}
use Rattle.ft_farkas.proofs.DividingLemmas.{divisor-more}
use Rattle.ft_farkas.proofs.dividing.divisor_of.Goals as goal

pub columns-preserved : goal.columns-preserved
columns-preserved c =
    let e : c.size.result ≡ unsigned_abs (row_of c.args.numbers.now c.columns.column) = search rules in
    divisor-more (λ k. unsigned_abs (row_of c.args.numbers.now k)) c.columns.column c.columns.divisor c.gcd-divisor.result c.columns.invariant
    (subst (λ (k : ℕ). IsGcd c.columns.divisor k c.gcd-divisor.result) e c.gcd-divisor.ensures.value)
