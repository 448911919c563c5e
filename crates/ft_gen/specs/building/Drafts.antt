-- Expressions and items without places. Their trees stand at the start of a text.
use Rattle.std.specs.Prelude.{ℕ, Bool, true, false, List, [], ◌∷◌, map}
use Rattle.ft_tree.specs.declared.expr.Op.{Op}
use Rattle.ft_tree.specs.declared.expr.Expr.{Expr}
use Rattle.ft_tree.specs.declared.expr.Expr.TheVariants as expr
use Rattle.ft_tree.specs.declared.item.Word.{Word}
use Rattle.ft_tree.specs.declared.item.Plain.{Plain}
use Rattle.ft_tree.specs.declared.item.Plain.TheVariants as plain
use Rattle.ft_tree.specs.declared.item.Bound.{Bound}
use Rattle.ft_tree.specs.declared.item.Kind.{Kind}
use Rattle.ft_tree.specs.declared.item.VarWord.{VarWord}
use Rattle.ft_tree.specs.declared.item.SectionWord.{SectionWord}
use Rattle.ft_tree.specs.declared.item.SectionWord.TheVariants as section
use Rattle.ft_tree.specs.declared.item.Row.{Row}
use Rattle.ft_tree.specs.declared.item.FactItem.TheVariants as fact
use Rattle.ft_tree.specs.declared.item.Item.{Item}
use Rattle.ft_tree.specs.declared.item.Item.TheVariants as item
use Rattle.ft_tree.specs.meaning.Bare.{start}

-- an expression
pub data Draft : Type 0 where
  number : ℕ → Draft
  name : List ℕ → Draft
  truth : Bool → Draft
  before : List ℕ → Draft
  aged : List ℕ → Draft
  denied : Draft → Draft
  negated : Draft → Draft
  joined : Op → Draft → Draft → Draft

abbrev pub expr_of : Draft → Expr
expr_of (number value) = expr.Num value start
expr_of (name text) = expr.Name text start
expr_of (truth value) = expr.Truth value start
expr_of (before text) = expr.Prev text start
expr_of (aged text) = expr.Age text start
expr_of (denied part) = expr.Not (expr_of part) start
expr_of (negated part) = expr.Neg (expr_of part) start
expr_of (joined op left right) = expr.Two op (expr_of left) (expr_of right) start

abbrev pub word_of : List ℕ → Word
word_of text = record { text = text; place = start }

abbrev pub bound_of : Plain → Bound
bound_of value = record { minus = false; value = value; place = start }

abbrev pub number_bound : ℕ → Bound
number_bound value = bound_of (plain.Number value)

-- a row of one entry
pub record RowDraft : Type 0 where
  pub head : Draft
  pub entry : Draft

abbrev pub row_draft : Draft → Draft → RowDraft
row_draft head entry = record { head = head; entry = entry }

abbrev pub row_of : RowDraft → Row
row_of row = record { place = start; head = expr_of row.head; entries = expr_of row.entry ∷ [] }

-- an item: a variable, a held memory of the requirement, a normal table of one column, a block that shows an invariant or one with a goal
pub data ItemDraft : Type 0 where
  variable : VarWord → List ℕ → Kind → Bound → ItemDraft
  memory : List ℕ → Draft → ℕ → ItemDraft
  table : SectionWord → List ℕ → List RowDraft → ItemDraft
  shown : (text : List ℕ) (takes : List Word) (shows : List ℕ) → Draft → ItemDraft
  aimed : (text : List ℕ) (takes uses : List Word) (goal : List ℕ) → ItemDraft

abbrev pub item_of : ItemDraft → Item
item_of (variable word text of init) = item.Variable word (word_of text) of init
item_of (memory text cond hold) = item.Held section.Req (word_of text) (expr_of cond) (number_bound hold)
item_of (table section target rows) = item.Normal section (word_of target) (expr_of (truth true) ∷ []) (map row_of rows)
item_of (shown text takes shows cond) = item.Block (word_of text) takes [] (fact.Shows (word_of shows) (expr_of cond) ∷ [])
item_of (aimed text takes uses goal) = item.Block (word_of text) takes uses (fact.Goal (word_of goal) ∷ [])
