-- What may stand within an expression, and one turn of a chain of operands.
use Rattle.std.proofs.Common.{◌≡◌, ◌∙◌, refl, ℕ, zero, suc, ◌≤◌, ◌<◌, Bool, true, false, List, [], ◌∷◌, length, Option, Some, None, Ok, Err}
use Rattle.std.proofs.Common.{codes}
use Rattle.ft_base.specs.declared.place.Place.{Place}
use Rattle.ft_tree.specs.declared.expr.Expr.{Expr}
use Rattle.ft_tree.specs.declared.expr.Expr.TheVariants as expr
use Rattle.ft_read.specs.meaning.Lexeme.{Lexeme, as_name, as_sign, as_word}
use Rattle.ft_read.specs.meaning.Limit.{opening, within}
use Rattle.ft_read.specs.parsers.Cursor.{head}
use Rattle.ft_parse.specs.meaning.Expressions.{Nest, negated, signed, whole}
use Rattle.ft_read.specs.meaning.Operators.{as_relation, as_simple, two}
use Rattle.ft_parse.specs.parsers.Precedence.{inner_by, precedence_by, operand_by}
use Rattle.ft_read.specs.parsers.Tokens.{ops_of}
use Rattle.ft_parse.specs.parsers.Expressions.{atom_by, chain_by, comparison_by, conjunction_by, disjunction_by, expression_by}
use Rattle.ft_parse.specs.parsers.Expressions.{expression_from, group_by, history_by, layer_by, negation_by, nested_by, prefixed_by}
use Rattle.ft_parse.specs.parsers.Expressions.{product_by, refuse, right_by, sum_by, unary_by}
use Rattle.ft_read.specs.parsers.Combinators.{Parser, ParserState, begins, can, bind, read_token, state}
use Rattle.ft_parse.specs.parsers.Repetition.{many}
use Rattle.ft_read.specs.declared.operators.Precedence.{Precedence}
use Rattle.ft_read.specs.declared.operators.Precedence.TheVariants.{Disjunction, Conjunction, Comparison, Sum, Product}
use Rattle.ft_read.specs.declared.parts.Site.{Site}
use Rattle.ft_read.specs.declared.parts.Operator.{Operator}
use Rattle.ft_read.specs.declared.stop.Stop.TheVariants.{Syntax}
use Rattle.ft_parse.proofs.Shorter.{AtMost, Keeps, Shortens, alternative-keeps, alternative-shortens, repetition-end, first-then, gives}
use Rattle.ft_parse.proofs.Shorter.{keeps, less}
use Rattle.ft_parse.proofs.Shorter.{many-keeps, part-then, token, turn}

nested-is : (room : ℕ) (site : Site) (nest : Nest) (s : ParserState)
    → nested_by room site nest s ≡ layer_by site (inner_by room site) room nest s
unfolding nested_by
nested-is zero site nest s = refl
nested-is (suc room) site nest s = refl

disjunction-is : (site : Site) (room : ℕ) (s : ParserState)
    → disjunction_by site (inner_by room site) room s ≡ precedence_by Disjunction site room s
unfolding disjunction_by
disjunction-is site room s = refl

inner-is : (room inside : ℕ) (site : Site) (nest : Nest) (s : ParserState) → room ≡ suc inside
    → inner_by room site nest s ≡ layer_by site (inner_by inside site) inside nest s
inner-is room inside site nest s e = rw e (nested-is inside site nest s)

pub inner_whole : (room inside : ℕ) (site : Site) (s : ParserState) → room ≡ suc inside
    → inner_by room site whole s ≡ precedence_by Disjunction site inside s
inner_whole room inside site s e = inner-is room inside site whole s e ∙ disjunction-is site inside s

pub inner_negated : (room inside : ℕ) (site : Site) (s : ParserState) → room ≡ suc inside
    → inner_by room site negated s ≡ negation_by site (inner_by inside site) inside s
inner_negated room inside site s e = inner-is room inside site negated s e

pub inner_signed : (room inside : ℕ) (site : Site) (s : ParserState) → room ≡ suc inside
    → inner_by room site signed s ≡ unary_by site (inner_by inside site) inside s
inner_signed room inside site s e = inner-is room inside site signed s e

pub ruleset inner = (inner_whole, inner_negated, inner_signed)

pub of_conjunctions : (site : Site) (room : ℕ) (s : ParserState)
    → operand_by Disjunction site (inner_by room site) room s ≡ precedence_by Conjunction site room s
unfolding conjunction_by
of_conjunctions site room s = refl

pub of_sums : (site : Site) (room : ℕ) (s : ParserState)
    → operand_by Comparison site (inner_by room site) room s ≡ precedence_by Sum site room s
unfolding sum_by
of_sums site room s = refl

pub of_products : (site : Site) (room : ℕ) (s : ParserState)
    → operand_by Sum site (inner_by room site) room s ≡ precedence_by Product site room s
unfolding product_by
of_products site room s = refl

pub ruleset precedences = (of_conjunctions, of_sums, of_products)

of_none : (is_beyond : Bool) (at : ℕ) (rest : List Lexeme) → head rest ≡ None
    → expression_from is_beyond at rest ≡ (Err Syntax, state at rest)
of_none is_beyond at [] e = refl
of_none is_beyond at (l ∷ rest) e = cc e

of_some : (is_beyond : Bool) (at : ℕ) (rest : List Lexeme) (l : Lexeme) → head rest ≡ Some l
    → expression_from is_beyond at rest
    ≡ precedence_by Disjunction (record { before = at; start = l.place; is_beyond = is_beyond }) 64 (state at rest)
of_some is_beyond at [] l e = cc e
of_some is_beyond at (k ∷ rest) l e =
    let same : k ≡ l = cc e in
    rw same (nested-is 64 (record { before = at; start = l.place; is_beyond = is_beyond }) whole (state at (l ∷ rest))
    ∙ disjunction-is (record { before = at; start = l.place; is_beyond = is_beyond }) 64 (state at (l ∷ rest)))

pub expression_none : (is_beyond : Bool) (s : ParserState) → head s.rest ≡ None → expression_by is_beyond s ≡ (Err Syntax, s)
unfolding expression_by
expression_none is_beyond s e = of_none is_beyond s.at s.rest e

pub expression_some : (is_beyond : Bool) (s : ParserState) (l : Lexeme) → head s.rest ≡ Some l
    → expression_by is_beyond s ≡ precedence_by Disjunction (record { before = s.at; start = l.place; is_beyond = is_beyond }) 64 s
unfolding expression_by
expression_some is_beyond s l e = of_some is_beyond s.at s.rest l e

pub ruleset wholes = (expression_none, expression_some)

-- each part of an expression takes tokens away
module _ (site : Site) (inner : Nest → Parser Expr) (room : ℕ) (within-keeps : (nest : Nest) → Keeps (inner nest)) where
  sign-keeps : (text : List ℕ) → Keeps (read_token (as_sign text) (within site))
  sign-keeps text = keeps (read_token (as_sign text) (within site)) (token (as_sign text) (within site))

  history-shortens : (word : List ℕ) (make : List ℕ → Place → Expr) → Shortens (history_by site room word make)
  unfolding history_by
  history-shortens word make =
      first-then _ _ (token (as_word word) (within site)) (λ place.
      keeps _ (first-then _ _ (token (as_sign (codes "(")) (opening site room)) (λ _.
      keeps _ (first-then _ _ (token as_name (within site)) (λ name.
      keeps _ (first-then _ _ (token (as_sign (codes ")")) (within site)) (λ _. gives (make name.text place))))))))

  group-shortens : Shortens (group_by site inner room)
  unfolding group_by
  group-shortens =
      first-then _ _ (token (as_sign (codes "(")) (opening site room)) (λ _.
      part-then _ _ (within-keeps whole) (λ e.
      keeps _ (first-then _ _ (token (as_sign (codes ")")) (within site)) (λ _. gives e))))

  atom-shortens : Shortens (atom_by site inner room)
  unfolding atom_by
  atom-shortens =
      alternative-shortens _ _ _ (token as_simple (within site))
      (alternative-shortens _ _ _ (history-shortens (codes "prev") expr.Prev)
      (alternative-shortens _ _ _ (history-shortens (codes "age") expr.Age) group-shortens))

  prefixed-shortens : (read : Lexeme → Option Place) (nest : Nest) (make : Expr → Place → Expr)
      → Shortens (prefixed_by site room read (inner nest) make)
  unfolding prefixed_by
  prefixed-shortens read nest make =
      first-then _ _ (token read (opening site room)) (λ place. part-then _ _ (within-keeps nest) (λ e. gives (make e place)))

  unary-shortens : Shortens (unary_by site inner room)
  unfolding unary_by
  unary-shortens = alternative-shortens _ _ _ (prefixed-shortens (as_sign (codes "-")) signed expr.Neg) atom-shortens

  right-shortens : (ops : Lexeme → Option Operator) (operand : Parser Expr) → Shortens operand → (left : Expr)
      → Shortens (right_by site ops operand left)
  unfolding right_by
  right-shortens ops operand h left =
      first-then _ _ (token ops (within site)) (λ o. part-then _ _ (keeps operand h) (λ right. gives (two o left right)))

  chain-shortens : (ops : Lexeme → Option Operator) (operand : Parser Expr) → Shortens operand → Shortens (chain_by site ops operand)
  chain-shortens ops operand h =
      first-then _ _ h (many-keeps (can ops) (right_by site ops operand) (λ left. keeps _ (right-shortens ops operand h left)))

  product-shortens : Shortens (product_by site inner room)
  unfolding product_by
  product-shortens = chain-shortens (ops_of Product) (unary_by site inner room) unary-shortens

  sum-shortens : Shortens (sum_by site inner room)
  unfolding sum_by
  sum-shortens = chain-shortens (ops_of Sum) (product_by site inner room) product-shortens

  comparison-shortens : Shortens (comparison_by site inner room)
  unfolding comparison_by
  comparison-shortens =
      first-then _ _ sum-shortens (λ left. alternative-keeps _ _ _ (keeps _
      (right-shortens as_relation (sum_by site inner room) sum-shortens left)) (gives left))

  negation-shortens : Shortens (negation_by site inner room)
  unfolding negation_by
  negation-shortens = alternative-shortens _ _ _ (prefixed-shortens (as_word (codes "not")) negated expr.Not) comparison-shortens

  conjunction-shortens : Shortens (conjunction_by site inner room)
  unfolding conjunction_by
  conjunction-shortens = chain-shortens (ops_of Conjunction) (negation_by site inner room) negation-shortens

  operand-shortens : (precedence : Precedence) → Shortens (operand_by precedence site inner room)
  operand-shortens Disjunction = conjunction-shortens
  operand-shortens Conjunction = negation-shortens
  operand-shortens Comparison = sum-shortens
  operand-shortens Sum = product-shortens
  operand-shortens Product = unary-shortens

  layer-shortens : (nest : Nest) → Shortens (layer_by site inner room nest)
  unfolding disjunction_by
  layer-shortens whole = chain-shortens (ops_of Disjunction) (conjunction_by site inner room) conjunction-shortens
  layer-shortens negated = negation-shortens
  layer-shortens signed = unary-shortens

refuse-keeps : (nest : Nest) → Keeps (refuse nest)
refuse-keeps nest = record { by = λ n s e. tt }

nested-shortens : (room : ℕ) (site : Site) (nest : Nest) → Shortens (nested_by room site nest)
unfolding nested_by
nested-shortens zero site nest = record { by = λ n s e. (layer-shortens site refuse zero refuse-keeps nest).by n s e }
nested-shortens (suc room) site nest =
    record {
      by = λ n s e. (layer-shortens site (nested_by room site) (suc room) (λ other. keeps _ (nested-shortens room site other))
          nest).by n s e;
    }

inner-keeps : (room : ℕ) (site : Site) (nest : Nest) → Keeps (inner_by room site nest)
inner-keeps zero site nest = refuse-keeps nest
inner-keeps (suc room) site nest = keeps _ (nested-shortens room site nest)

of-first : (is_beyond : Bool) (n at : ℕ) (rest : List Lexeme) → length rest ≤ suc n → AtMost n (expression_from is_beyond at rest)
of-first is_beyond n at [] e = tt
of-first is_beyond n at (l ∷ rest) e =
    (nested-shortens 64 (record { before = at; start = l.place; is_beyond = is_beyond }) whole).by n (state at (l ∷ rest)) e

pub expression-shortens : (is_beyond : Bool) → Shortens (expression_by is_beyond)
unfolding expression_by
expression-shortens is_beyond = record { by = λ n s e. of-first is_beyond n s.at s.rest e }

-- one turn of a chain, and its end
part-shortens : (precedence : Precedence) (site : Site) (room : ℕ) (left : Expr)
    → Shortens (right_by site (ops_of precedence) (operand_by precedence site (inner_by room site) room) left)
part-shortens precedence site room left =
    right-shortens site (inner_by room site) room (inner-keeps room site) (ops_of precedence)
    (operand_by precedence site (inner_by room site) room)
    (operand-shortens site (inner_by room site) room (inner-keeps room site) precedence) left

pub chain_turn : (precedence : Precedence) (site : Site) (room : ℕ) (left : Expr) (s : ParserState)
    → begins (can (ops_of precedence)) s.rest ≡ true
    → many (can (ops_of precedence)) (right_by site (ops_of precedence) (operand_by precedence site (inner_by room site) room)) left s
    ≡ bind (many (can (ops_of precedence)) (right_by site (ops_of precedence) (operand_by precedence site (inner_by room site) room)))
    (right_by site (ops_of precedence) (operand_by precedence site (inner_by room site) room) left s)
chain_turn precedence site room left s e =
    turn (can (ops_of precedence)) (right_by site (ops_of precedence) (operand_by precedence site (inner_by room site) room))
    (part-shortens precedence site room) left s.at s.rest e

pub chain_end : (precedence : Precedence) (site : Site) (room : ℕ) (left : Expr) (s : ParserState)
    → begins (can (ops_of precedence)) s.rest ≡ false
    → many (can (ops_of precedence)) (right_by site (ops_of precedence) (operand_by precedence site (inner_by room site) room)) left s
    ≡ (Ok left, s)
chain_end precedence site room left s e =
    repetition-end (can (ops_of precedence)) (right_by site (ops_of precedence) (operand_by precedence site (inner_by room site) room))
    (part-shortens precedence site room) left s.at s.rest e

pub chain_less : (precedence : Precedence) (site : Site) (room : ℕ) (left next : Expr) (s after : ParserState)
    → begins (can (ops_of precedence)) s.rest ≡ true
    → right_by site (ops_of precedence) (operand_by precedence site (inner_by room site) room) left s ≡ (Ok next, after)
    → length after.rest < length s.rest
chain_less precedence site room left next s after e f =
    less (can (ops_of precedence)) _ (part-shortens precedence site room left) s.at s.rest next after e f

pub ruleset turns = (chain_turn, chain_end, chain_less)
