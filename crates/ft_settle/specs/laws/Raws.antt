-- Formulas as they are built by their parts: induction, and the equations of each kind of node.
use Rattle.std.proofs.Common.{◌≡◌, ◌∙◌, sym, ap, subst, ℕ, ℤ, pos, Bool, not, List, map}
use Rattle.std.specs.Prelude.{int_le}
use Rattle.std.specs.List.{list_all, list_any}
use Rattle.std.proofs.lemmas.List.Folds.{list_all-map}
use Rattle.ft_linear.specs.laws.Nodes.{list_any-map}
use Rattle.ft_linear.specs.meaning.Form.{LinView, form_at}
use Rattle.ft_linear.specs.meaning.Truth.{itself}
use Rattle.ft_settle.specs.declared.raw.Raw.{Raw, Raw-F, map-Raw, fold-Raw, roll-Raw, fold-roll-Raw, ind-Raw}
use Rattle.ft_settle.specs.declared.raw.Raw.TheOpen as layer
use Rattle.ft_settle.specs.declared.raw.Raw.TheVariants.{Le, Not, And, Or, rolls-Le, rolls-Not, rolls-And, rolls-Or}
use Rattle.ft_settle.specs.meaning.Raw.{raw_truth, layer_raw_truth, all_begin_well, layer_begins, begins_well}

-- a formula of which P holds
abbrev pub WithRaw : (Raw → Type 0) → Type 0
WithRaw P = (raw : Raw) × P raw

abbrev pub bare_raw : {P : Raw → Type 0} → List (WithRaw P) → List Raw
bare_raw ns = map (λ e. e.0) ns

-- what holds of each kind of formula where it holds of its parts
pub record InductiveRaw (P : Raw → Type 0) : Type 0 where
  pub form : (l : LinView) → P (Le l)
  pub negated : (inner : Raw) → P inner → P (Not inner)
  pub all : (parts : List (WithRaw P)) → P (And (bare_raw parts))
  pub any : (parts : List (WithRaw P)) → P (Or (bare_raw parts))

of_layer : (P : Raw → Type 0) → InductiveRaw P → (y : Raw-F (WithRaw P)) → P (roll-Raw (map-Raw (WithRaw P) Raw (λ e. e.0) y))
of_layer P h (layer.Le l) = subst P (sym (rolls-Le l)) (h.form l)
of_layer P h (layer.Not inner) = subst P (sym (rolls-Not inner.0)) (h.negated inner.0 inner.1)
of_layer P h (layer.And parts) = subst P (sym (rolls-And (bare_raw parts))) (h.all parts)
of_layer P h (layer.Or parts) = subst P (sym (rolls-Or (bare_raw parts))) (h.any parts)

pub raw_induction : (P : Raw → Type 0) → InductiveRaw P → (raw : Raw) → P raw
raw_induction P h = ind-Raw P (λ x y is. subst (λ z. P (roll-Raw z)) is (of_layer P h y))

-- a fold at a formula that is rolled from a layer
pub folds : (A : Type 0) (step : Raw-F A → A) (raw : Raw) (a_layer : Raw-F Raw) → roll-Raw a_layer ≡ raw
    → fold-Raw A step raw ≡ step (map-Raw Raw A (fold-Raw A step) a_layer)
folds A step raw a_layer is = ap (fold-Raw A step) (sym is) ∙ fold-roll-Raw A step a_layer

module _ (x : ℕ → ℤ) where
  pub raw-Le : (l : LinView) → raw_truth x (Le l) ≡ int_le (form_at x l) (pos 0)
  unfolding raw_truth
  raw-Le l = folds Bool (layer_raw_truth x) _ (layer.Le l) (rolls-Le l)

  pub raw-Not : (inner : Raw) → raw_truth x (Not inner) ≡ not (raw_truth x inner)
  unfolding raw_truth
  raw-Not inner = folds Bool (layer_raw_truth x) _ (layer.Not inner) (rolls-Not inner)

  pub raw-And : (parts : List Raw) → raw_truth x (And parts) ≡ list_all (raw_truth x) parts
  unfolding raw_truth
  raw-And parts = folds Bool (layer_raw_truth x) _ (layer.And parts) (rolls-And parts) ∙ list_all-map itself (raw_truth x) parts

  pub raw-Or : (parts : List Raw) → raw_truth x (Or parts) ≡ list_any (raw_truth x) parts
  unfolding raw_truth
  raw-Or parts = folds Bool (layer_raw_truth x) _ (layer.Or parts) (rolls-Or parts) ∙ list_any-map itself (raw_truth x) parts

pub begins-Le : (l : LinView) → all_begin_well (Le l) ≡ begins_well l.factors
unfolding all_begin_well
begins-Le l = folds Bool layer_begins _ (layer.Le l) (rolls-Le l)

pub begins-Not : (inner : Raw) → all_begin_well (Not inner) ≡ all_begin_well inner
unfolding all_begin_well
begins-Not inner = folds Bool layer_begins _ (layer.Not inner) (rolls-Not inner)

pub begins-And : (parts : List Raw) → all_begin_well (And parts) ≡ list_all all_begin_well parts
unfolding all_begin_well
begins-And parts = folds Bool layer_begins _ (layer.And parts) (rolls-And parts) ∙ list_all-map itself all_begin_well parts

pub begins-Or : (parts : List Raw) → all_begin_well (Or parts) ≡ list_all all_begin_well parts
unfolding all_begin_well
begins-Or parts = folds Bool layer_begins _ (layer.Or parts) (rolls-Or parts) ∙ list_all-map itself all_begin_well parts
