-- The parts of the grammar of expressions, from the loosest: what a tighter one spells, a looser one spells too, and chains go on.
use Rattle.std.proofs.Common.{◌≡◌, ◌∙◌, inr, ℕ, zero, suc, ◌+◌, List, [], ◌++◌, length, Option, refl, sym, ap, subst, append_assoc}
use Rattle.std.proofs.lemmas.List.{append-nil, length-append}
use native.Mathlib.Omega.{arith}
use Rattle.ft_tree.specs.declared.expr.Expr.{Expr}
use Rattle.ft_read.specs.meaning.Lexeme.{Lexeme}
use Rattle.ft_parse.specs.meaning.Language.{Language, Step, times, ◌▷◌}
use Rattle.ft_parse.specs.meaning.Expressions.{Nest, atom, chain, comparison, conjunction, disjunction, negation, product, right_of, sum}
use Rattle.ft_parse.specs.meaning.Expressions.{unary}
use Rattle.ft_read.specs.meaning.Operators.{as_and, as_or, as_product, as_sum}
use Rattle.ft_read.specs.declared.parts.Site.{Site}
use Rattle.ft_read.specs.declared.parts.Operator.{Operator}
use Rattle.ft_parse.proofs.Writes.{Within}

-- the part of a rank
abbrev pub part_at : Site → (Nest → Language Expr) → (room : ℕ) → ℕ → Language Expr
part_at site inner room zero = disjunction site inner room
part_at site inner room (suc zero) = conjunction site inner room
part_at site inner room (suc (suc zero)) = negation site inner room
part_at site inner room (suc (suc (suc zero))) = comparison site inner room
part_at site inner room (suc (suc (suc (suc zero)))) = sum site inner room
part_at site inner room (suc (suc (suc (suc (suc zero))))) = product site inner room
part_at site inner room (suc (suc (suc (suc (suc (suc zero)))))) = unary site inner room
part_at site inner room (suc (suc (suc (suc (suc (suc (suc r))))))) = atom site inner room

-- the rank so many after one
abbrev pub tighter_by : ℕ → ℕ → ℕ
tighter_by zero r = r
tighter_by (suc k) r = suc (tighter_by k r)

pub tighter_by-is : (k r : ℕ) → tighter_by k r ≡ k + r
tighter_by-is zero r = omega arith
tighter_by-is (suc k) r = omega (arith, tighter_by-is k r)

chained : (site : Site) (ops : Lexeme → Option Operator) (operand : Language Expr) → Within operand (chain site ops operand)
unfolding ◌▷◌ times
chained site ops operand = record { up = λ at steps e h. (e, steps, [], sym (append-nil steps), h, (0, (refl, refl))) }

compared : (site : Site) (inner : Nest → Language Expr) (room : ℕ) → Within (sum site inner room) (comparison site inner room)
unfolding ◌▷◌
compared site inner room = record { up = λ at steps e h. (e, steps, [], sym (append-nil steps), h, inr (refl, refl)) }

module _ (site : Site) (inner : Nest → Language Expr) (room : ℕ) where
  looser : (r : ℕ) → Within (part_at site inner room (suc r)) (part_at site inner room r)
  looser zero = chained site as_or (conjunction site inner room)
  looser (suc zero) = chained site as_and (negation site inner room)
  looser (suc (suc zero)) = record { up = λ at steps e h. inr h }
  looser (suc (suc (suc zero))) = compared site inner room
  looser (suc (suc (suc (suc zero)))) = chained site as_sum (product site inner room)
  looser (suc (suc (suc (suc (suc zero))))) = chained site as_product (unary site inner room)
  looser (suc (suc (suc (suc (suc (suc zero)))))) = record { up = λ at steps e h. inr h }
  looser (suc (suc (suc (suc (suc (suc (suc r))))))) = record { up = λ at steps e h. h }

  pub loosen : (k r : ℕ) → Within (part_at site inner room (tighter_by k r)) (part_at site inner room r)
  loosen zero r = record { up = λ at steps e h. h }
  loosen (suc k) r = record { up = λ at steps e h. (loosen k r).up at steps e ((looser (tighter_by k r)).up at steps e h) }

-- one turn more
times-more : {A : Type 0} (part : A → Language A) (n at : ℕ) (us vs : List Step) (a b c : A) → times n part a at us b
    → part b (at + length us) vs c
    → times (suc n) part a at (us ++ vs) c
unfolding ◌▷◌ times
times-more part zero at us vs a b c (none, same) h =
    let place : at + length us ≡ at = ap (λ (l : List Step). at + length l) none ∙ omega arith in
    let turn : part a at vs c = subst (λ (k : ℕ). part a k vs c) place (subst (λ x. part x (at + length us) vs c) (sym same) h) in
    (c, vs, [], ap (λ (l : List Step). l ++ vs) none ∙ sym (append-nil vs), turn, (refl, refl))
times-more part (suc n) at us vs a b c (d, u, w, is, f, t) h =
    let long : length us ≡ length u + length w = ap length is ∙ length-append u w in
    let place : at + length us ≡ at + length u + length w = omega (arith, long) in (
      d,
      u,
      w ++ vs,
      ap (λ (l : List Step). l ++ vs) is ∙ append_assoc u w vs,
      f,
      times-more part n (at + length u) w vs d b c t (subst (λ (k : ℕ). part b k vs c) place h),
    )

-- a chain goes on
pub chain-more : (site : Site) (ops : Lexeme → Option Operator) (operand : Language Expr)
    → Within (chain site ops operand ▷ λ left. right_of site ops operand left) (chain site ops operand)
unfolding ◌▷◌
chain-more site ops operand = record { up = go } where
  go : (at : ℕ) (steps : List Step) (e : Expr) → (chain site ops operand ▷ λ left. right_of site ops operand left) at steps e
      → chain site ops operand at steps e
  go at steps e (left, us, vs, is, (first, u, w, split, f, (n, t)), h) =
      let long : length us ≡ length u + length w = ap length split ∙ length-append u w in
      let place : at + length us ≡ at + length u + length w = omega (arith, long) in (
        first,
        u,
        w ++ vs,
        is ∙ ap (λ (l : List Step). l ++ vs) split ∙ append_assoc u w vs,
        f,
        (
          suc n,
          times-more (right_of site ops operand) n (at + length u) w vs first left e t
              (subst (λ (k : ℕ). right_of site ops operand left k vs e) place h),
        ),
      )
