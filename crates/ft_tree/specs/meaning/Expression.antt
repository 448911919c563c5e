-- The tokens of an expression.
use Rattle.std.specs.Prelude.{ℕ, Bool, true, false, List, [], ◌∷◌, ◌++◌, codes, decimal, if◌then◌else◌}
use Rattle.ft_tree.specs.declared.expr.Expr.{Expr, Expr-F, fold-Expr}
use Rattle.ft_tree.specs.declared.expr.Expr.TheOpen as layer
use Rattle.ft_tree.specs.declared.level.Level.{Level}
use Rattle.ft_tree.specs.declared.level.Level.TheVariants.{Negation, Unary, Atom}
use Rattle.ft_tree.specs.meaning.Level.{is_looser, left_level, op_level, op_sign, right_level}
use Rattle.ft_tree.specs.meaning.Line.{Piece, token, minus}

-- the tokens of an expression, and how tightly it binds
pub record Spelled : Type 0 where
  pub level : Level
  pub pieces : List Piece

abbrev pub spells : Level → List Piece → Spelled
spells level pieces = record { level = level; pieces = pieces }

-- an operand, in parentheses exactly where it is looser than its place takes
unfoldable pub operand : Level → Spelled → List Piece
operand needed part = if is_looser part.level needed then token (codes "(") ∷ (part.pieces ++ token (codes ")") ∷ []) else part.pieces

abbrev pub truth_word : Bool → List ℕ
truth_word true = codes "true"
truth_word false = codes "false"

-- `prev` or `age` of a name
abbrev pub history : List ℕ → List ℕ → List Piece
history word name = token word ∷ token (codes "(") ∷ token name ∷ token (codes ")") ∷ []

abbrev pub spelled_layer : Expr-F Spelled → Spelled
spelled_layer (layer.Num value place) = spells Atom (token (decimal value) ∷ [])
spelled_layer (layer.Name name place) = spells Atom (token name ∷ [])
spelled_layer (layer.Truth value place) = spells Atom (token (truth_word value) ∷ [])
spelled_layer (layer.Prev name place) = spells Atom (history (codes "prev") name)
spelled_layer (layer.Age name place) = spells Atom (history (codes "age") name)
spelled_layer (layer.Not part place) = spells Negation (token (codes "not") ∷ operand Negation part)
spelled_layer (layer.Neg part place) = spells Unary (minus ∷ operand Unary part)
spelled_layer (layer.Two op left right place) =
    spells (op_level op) (operand (left_level op) left ++ token (op_sign op) ∷ operand (right_level op) right)

unfoldable pub spelled : Expr → Spelled
spelled = fold-Expr Spelled spelled_layer

-- the tokens of an expression
abbrev pub expr_pieces : Expr → List Piece
expr_pieces expr = (spelled expr).pieces
