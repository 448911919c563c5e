use Rattle.std.proofs.Common.{rules, w64, FitsSigned}
use Rattle.std.proofs.lemmas.Int.{to_z-of_z}
use Rattle.ft_claims.proofs.NamingLemmas.{names-Times}
use Rattle.ft_claims.proofs.terms.+sym_of.Goals as goal

pub returns-in_ok-sym_of-in-Times : goal.returns-in_ok-sym_of-in-Times
returns-in_ok-sym_of-in-Times t c =
    let fits : FitsSigned w64 c.in-Times.factor = search rules in
    rw (c.in-Times.is, names-Times, ← c.get-in-Times.ensures, ← c.in_ok-sym_of-in-Times.ensures) (simp to_z-of_z at c.product.ensures)
