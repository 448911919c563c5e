use Rattle.std.proofs.Common.{◌≡◌, ◌<◌, ℕ, ℤ, List, length, subst}
use Rattle.ft_linear.specs.meaning.Form.{InArea, values_at}
use Rattle.ft_cert.specs.walk.Waiting.{first_of}
use Rattle.ft_search.proofs.searching.go_to_found.Goals as goal

pub returns-clause-point : goal.returns-clause-point
returns-clause-point c =
    subst (λ (vs : List ℤ). (x : ℕ → ℤ) → InArea (first_of c.go_to_point.new.descent.parts).spans x → (u : ℕ) → u < length vs → x u
    ≡ values_at vs u) c.as_slice.ensures.value c.go_to_point.ensures.point
