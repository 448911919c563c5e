-- The first part of an expression that isn't linear, by those of its operands.
use Rattle.std.proofs.Common.{◌≡◌, ◌∙◌, sym, ap, Option, None}
use Rattle.std.specs.Option.{option_or}
use Rattle.ft_base.specs.declared.place.Place.{Place}
use Rattle.ft_tree.specs.declared.expr.Op.{Op}
use Rattle.ft_tree.specs.declared.expr.Expr.{Expr}
use Rattle.ft_tree.specs.declared.expr.Expr.TheVariants.{Not, Neg, Two}
use Rattle.ft_names.specs.declared.asked.Asked.{Asked}
use Rattle.ft_names.specs.declared.asked.Asked.TheVariants.{Condition, Term}
use Rattle.ft_names.specs.declared.asked.ExprKind.TheVariants.{Number}
use Rattle.ft_names.specs.meaning.Cards.{Env}
use Rattle.ft_names.specs.meaning.Parts.{first_part, operands}
use Rattle.ft_names.specs.laws.Parts.{first_parts, first-Not, first-Neg, first-Two}
use Rattle.ft_measure.specs.declared.measure.Measure.{Measure}
use Rattle.ft_measure.specs.declared.slope.Slope.{Slope}
use Rattle.ft_measure.specs.declared.slope.Why.{Why}
use Rattle.ft_measure.specs.meaning.Measures.{measure, of_negation, of_operator}
use Rattle.ft_measure.specs.meaning.Slopes.{operator_fault, slope, slope_at}
use Rattle.ft_measure.specs.laws.Layers.{measures, slopes, slope-Not, slope-Neg, slope-Two}
use Rattle.ft_measure.proofs.BoundedLemmas.{measure_bounded}

pub ruleset linears = (measures, slopes, first_parts, measure_bounded)

-- the first place of an expression that isn't linear, by those of its parts, whatever is asked
pub first-in-Not : (env : Env) (asked : Asked) (e of inner : Expr) (place : Place) (first : Option Slope) → e ≡ Not of place → inner ≡ of
    → ((a : Asked) → first ≡ first_part (λ _. slope env) a inner) → first ≡ first_part (λ _. slope env) asked e
first-in-Not env asked e of inner place first is same h =
    rw (is, first-Not {Y = Slope} (λ _. slope env) asked of place, slope-Not env of place) (rw same at h Condition)

pub first-in-Neg : (env : Env) (asked : Asked) (e of inner : Expr) (place : Place) (first own result : Option Slope) (m n : Measure)
    → e ≡ Neg of place → inner ≡ of → ((a : Asked) → first ≡ first_part (λ _. slope env) a inner) → m ≡ measure env inner
    → n ≡ of_negation m → own ≡ slope_at place None n.size → result ≡ option_or None (option_or own first)
    → result ≡ first_part (λ _. slope env) asked e
first-in-Neg env asked e of inner place first own result m n is same h measured negated here made =
    let mine : own ≡ slope env (Neg of place) = here ∙ ap (λ (k : Measure). slope_at place None k.size)
    (negated ∙ ap of_negation (measured ∙ ap (measure env) same))
    ∙ sym (slope-Neg env of place) in
    let inside : first ≡ first_part (λ _. slope env) (Term Number) of = rw same at h (Term Number) in
    made ∙ (λ i. option_or (mine i) (inside i)) ∙ sym (first-Neg {Y = Slope} (λ _. slope env) asked of place)
    ∙ ap (first_part (λ _. slope env) asked) (sym is)

pub first-in-Two : (env : Env) (asked : Asked) (e left right l r : Expr) (o : Op) (place : Place) (first own last result : Option Slope)
    (a b n : Measure) (why : Option Why) → e ≡ Two o left right place → l ≡ left → r ≡ right
    → ((x : Asked) → first ≡ first_part (λ _. slope env) x l) → ((x : Asked) → last ≡ first_part (λ _. slope env) x r)
    → a ≡ measure env l → b ≡ measure env r → n ≡ of_operator o a b → why ≡ operator_fault o a b
    → own ≡ slope_at place why n.size → result ≡ option_or first (option_or own last)
    → result ≡ first_part (λ _. slope env) asked e
first-in-Two env asked e left right l r o place first own last result a b n why is same again h k measured other made told here joined =
    rw (
      is,
      first-Two {Y = Slope} (λ _. slope env) asked o left right place,
      slope-Two env o left right place,
      ← same,
      ← again,
      ← measured,
      ← other,
      ← made,
      ← told,
      ← here,
      ← h (operands o),
      ← k (operands o),
    ) joined
