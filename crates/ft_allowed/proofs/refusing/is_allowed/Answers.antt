use Rattle.std.proofs.Common.{◌∙◌, sym, subst, ℤ, List, [], ◌∷◌, true≢false}
use Rattle.ft_core.specs.meaning.Kinds.{monitored}
use Rattle.ft_mean.specs.meaning.Reading.{IsListOf}
use Rattle.ft_allowed.proofs.refusing.is_allowed.Goals as goal

pub returns-then-is_row : goal.returns-then-is_row
returns-then-is_row c =
    let S = c.args.tables.now in (
      λ yes. record {
        values = subst (λ (r : List ℤ). IsListOf S monitored (r ∷ [])) c.row.ensures (c.is_row.ensures.0 c.if-is_row.true);
        clauses = sym c.may_come.ensures ∙ yes;
      },
      λ allowed. c.may_come.ensures ∙ allowed.clauses,
    )

pub returns-else-is_row : goal.returns-else-is_row
returns-else-is_row c =
    let S = c.args.tables.now in (
      λ good. absurd (true≢false (sym good ∙ c.if-is_row.false)),
      λ allowed. c.is_row.ensures.1 (subst (λ (r : List ℤ). IsListOf S monitored (r ∷ [])) (sym c.row.ensures) allowed.values),
    )
