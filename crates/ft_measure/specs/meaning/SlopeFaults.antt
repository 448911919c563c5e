-- The first place of a set's text where a term isn't linear.
use Rattle.std.specs.Prelude.{List, Option, None}
use Rattle.ft_tree.specs.declared.expr.Expr.{Expr}
use Rattle.ft_tree.specs.declared.item.Item.{Item}
use Rattle.ft_names.specs.declared.asked.Asked.TheVariants.{Anything}
use Rattle.ft_names.specs.meaning.Cards.{Env, env_of}
use Rattle.ft_names.specs.meaning.First.{first_of}
use Rattle.ft_names.specs.meaning.Parts.{first_part}
use Rattle.ft_names.specs.meaning.Spots.{Spot, spots, named, bound, initial, condition, number, term_for}
use Rattle.ft_measure.specs.declared.slope.Slope.{Slope}
use Rattle.ft_measure.specs.meaning.Slopes.{slope}

-- the first part of an expression that isn't linear
abbrev pub slope_in : Env → Expr → Option Slope
slope_in env e = first_part (λ _. slope env) Anything e

abbrev pub slope_spot : Env → Spot → Option Slope
slope_spot env (named r w) = None
slope_spot env (bound b) = None
slope_spot env (initial of b) = None
slope_spot env (condition site e) = slope_in env e
slope_spot env (number site e) = slope_in env e
slope_spot env (term_for site w e) = slope_in env e

abbrev pub first_slope : List Item → Option Slope
first_slope items = first_of (slope_spot (env_of items)) (spots items)
