-- The equation of each kind of node of a formula as it is built.
use Rattle.std.proofs.Common.{◌≡◌, ◌∙◌, ap, refl, Bool, List, [], ◌∷◌, ◌++◌, map}
use Rattle.std.specs.Prelude.{nat_le, unsigned_abs}
use Rattle.std.specs.List.{list_all, flat_map}
use Rattle.std.proofs.lemmas.List.Folds.{list_all-map}
use Rattle.ft_settle.specs.meaning.Raw.{moderate_most}
use Rattle.ft_linear.specs.declared.node.Node.{Node}
use Rattle.ft_linear.specs.declared.node.Node.TheVariants as node
use Rattle.ft_settle.specs.declared.raw.Raw.{Raw}
use Rattle.ft_settle.specs.declared.raw.Raw.TheOpen as layer
use Rattle.ft_settle.specs.declared.raw.Raw.TheVariants.{Le, Not, And, Or, rolls-Le, rolls-Not, rolls-And, rolls-Or}
use Rattle.ft_linear.specs.meaning.Form.{LinView}
use Rattle.ft_linear.specs.meaning.Truth.{itself}
use Rattle.ft_settle.specs.meaning.Raw.{is_moderate, layer_moderate}
use Rattle.ft_settle.specs.meaning.Settled.{forms_of, layer_atoms, atoms_in, placed, layer_placed, placed_form}
use Rattle.ft_settle.specs.laws.Raws.{folds}
pub use Rattle.ft_settle.specs.laws.Raws.{WithRaw, bare_raw, InductiveRaw, raw_induction, raw-Le, raw-Not, raw-And, raw-Or, begins-Le}
pub use Rattle.ft_settle.specs.laws.Raws.{begins-Not, begins-And, begins-Or}

pub moderate-Le : (l : LinView) → is_moderate (Le l) ≡ nat_le (unsigned_abs l.constant) moderate_most
unfolding is_moderate
moderate-Le l = folds Bool layer_moderate _ (layer.Le l) (rolls-Le l)

pub moderate-Not : (inner : Raw) → is_moderate (Not inner) ≡ is_moderate inner
unfolding is_moderate
moderate-Not inner = folds Bool layer_moderate _ (layer.Not inner) (rolls-Not inner)

pub moderate-And : (parts : List Raw) → is_moderate (And parts) ≡ list_all is_moderate parts
unfolding is_moderate
moderate-And parts = folds Bool layer_moderate _ (layer.And parts) (rolls-And parts) ∙ list_all-map itself is_moderate parts

pub moderate-Or : (parts : List Raw) → is_moderate (Or parts) ≡ list_all is_moderate parts
unfolding is_moderate
moderate-Or parts = folds Bool layer_moderate _ (layer.Or parts) (rolls-Or parts) ∙ list_all-map itself is_moderate parts

flat-map : {X Y : Type 0} (f : X → List Y) (xs : List X) → flat_map (λ ys. ys) (map f xs) ≡ flat_map f xs
flat-map f [] = refl
flat-map f (x ∷ xs) = ap (λ ys. f x ++ ys) (flat-map f xs)

pub forms-Le : (l : LinView) → forms_of (Le l) ≡ atoms_in l l.factors
unfolding forms_of
forms-Le l = folds (List LinView) layer_atoms _ (layer.Le l) (rolls-Le l)

pub forms-Not : (inner : Raw) → forms_of (Not inner) ≡ forms_of inner
unfolding forms_of
forms-Not inner = folds (List LinView) layer_atoms _ (layer.Not inner) (rolls-Not inner)

pub forms-And : (parts : List Raw) → forms_of (And parts) ≡ flat_map forms_of parts
unfolding forms_of
forms-And parts = folds (List LinView) layer_atoms _ (layer.And parts) (rolls-And parts) ∙ flat-map forms_of parts

pub forms-Or : (parts : List Raw) → forms_of (Or parts) ≡ flat_map forms_of parts
unfolding forms_of
forms-Or parts = folds (List LinView) layer_atoms _ (layer.Or parts) (rolls-Or parts) ∙ flat-map forms_of parts

module _ (forms : List LinView) where
  pub placed-Le : (l : LinView) → placed forms (Le l) ≡ placed_form forms l l.factors
  unfolding placed
  placed-Le l = folds Node (layer_placed forms) _ (layer.Le l) (rolls-Le l)

  pub placed-Not : (inner : Raw) → placed forms (Not inner) ≡ node.Not (placed forms inner)
  unfolding placed
  placed-Not inner = folds Node (layer_placed forms) _ (layer.Not inner) (rolls-Not inner)

  pub placed-And : (parts : List Raw) → placed forms (And parts) ≡ node.And (map (placed forms) parts)
  unfolding placed
  placed-And parts = folds Node (layer_placed forms) _ (layer.And parts) (rolls-And parts)

  pub placed-Or : (parts : List Raw) → placed forms (Or parts) ≡ node.Or (map (placed forms) parts)
  unfolding placed
  placed-Or parts = folds Node (layer_placed forms) _ (layer.Or parts) (rolls-Or parts)
