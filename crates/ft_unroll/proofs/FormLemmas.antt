-- The formula of parts that are those of a list.
use Rattle.std.proofs.Common.{◌≡◌, sym, subst, List}
use Rattle.ft_claims.specs.declared.claim.Claim.{Claim}
use Rattle.ft_claims.specs.laws.FormulaLaws.{AreGood}
use Rattle.ft_claims.specs.meaning.Areas.{Spans, finished}
use Rattle.ft_unroll.specs.declared.forming.ListForm.{ListForm}
use Rattle.ft_unroll.specs.meaning.Found.{IsListForm}

module _ (spans all : Spans) (parts whole : List Claim) (same_spans : spans ≡ all) (same_parts : parts ≡ whole) where
  pub good-parts : AreGood all whole → AreGood spans parts
  good-parts good = subst (λ s. AreGood s parts) (sym same_spans) (subst (AreGood all) (sym same_parts) good)

  pub form-parts : (form : ListForm) → IsListForm (finished spans parts) form → IsListForm (finished all whole) form
  form-parts form is = subst (λ p. IsListForm (finished all p) form) same_parts
      (subst (λ s. IsListForm (finished s parts) form) same_spans is)
