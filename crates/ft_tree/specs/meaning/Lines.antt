-- The lines of a tree.
use Rattle.std.specs.Prelude.{ℕ, Bool, true, false, List, [], ◌∷◌, ◌++◌, codes, decimal, map, Option, Some, None}
use Rattle.std.specs.List.{flat_map}
use Rattle.ft_tree.specs.declared.expr.Expr.{Expr}
use Rattle.ft_tree.specs.declared.item.Word.{Word}
use Rattle.ft_tree.specs.declared.item.Number.{Number}
use Rattle.ft_tree.specs.declared.item.Plain.{Plain}
use Rattle.ft_tree.specs.declared.item.Plain.TheVariants as plain
use Rattle.ft_tree.specs.declared.item.Bound.{Bound}
use Rattle.ft_tree.specs.declared.item.Kind.{Kind}
use Rattle.ft_tree.specs.declared.item.Kind.TheVariants as kind
use Rattle.ft_tree.specs.declared.item.VarWord.{VarWord}
use Rattle.ft_tree.specs.declared.item.VarWord.TheVariants.{Mon, Con, Input, Output, ReqVar, SofVar}
use Rattle.ft_tree.specs.declared.item.SectionWord.{SectionWord}
use Rattle.ft_tree.specs.declared.item.SectionWord.TheVariants.{In, Req, Sof, Out}
use Rattle.ft_tree.specs.declared.item.NatWord.{NatWord}
use Rattle.ft_tree.specs.declared.item.NatWord.TheVariants.{First, Always, Step}
use Rattle.ft_tree.specs.declared.item.Row.{Row}
use Rattle.ft_tree.specs.declared.item.VRow.{VRow}
use Rattle.ft_tree.specs.declared.item.FactItem.{FactItem}
use Rattle.ft_tree.specs.declared.item.FactItem.TheVariants.{Shows, Goal}
use Rattle.ft_tree.specs.declared.item.Item.{Item}
use Rattle.ft_tree.specs.declared.item.Item.TheVariants.{Constant, RangeType, EnumType, Variable, Held, Hyst, Normal, Inverted, Vector}
use Rattle.ft_tree.specs.declared.item.Item.TheVariants.{Nat, Block}
use Rattle.ft_tree.specs.meaning.Expression.{expr_pieces, truth_word}
use Rattle.ft_tree.specs.meaning.Line.{Line, Piece, inner, minus, outer, token}

-- the tokens of a list's parts, with `,` between them
abbrev pub listed : {X : Type 0} → (X → List Piece) → List X → List Piece
listed parts [] = []
listed parts (first ∷ more) = parts first ++ flat_map (λ next. token (codes ",") ∷ parts next) more

abbrev pub word_pieces : Word → List Piece
word_pieces word = token word.text ∷ []

abbrev pub names_pieces : List Word → List Piece
names_pieces words = listed word_pieces words

abbrev pub exprs_pieces : List Expr → List Piece
exprs_pieces exprs = listed expr_pieces exprs

-- a minus where there is one
abbrev pub sign_pieces : Bool → List Piece
sign_pieces true = minus ∷ []
sign_pieces false = []

abbrev pub plain_text : Plain → List ℕ
plain_text (plain.Number value) = decimal value
plain_text (plain.Name name) = name
plain_text (plain.Truth value) = truth_word value

abbrev pub bound_pieces : Bound → List Piece
bound_pieces bound = sign_pieces bound.minus ++ token (plain_text bound.value) ∷ []

abbrev pub range_pieces : Bound → Bound → List Piece
range_pieces lo hi = bound_pieces lo ++ token (codes "..") ∷ bound_pieces hi

abbrev pub kind_pieces : Kind → List Piece
kind_pieces (kind.Range lo hi) = range_pieces lo hi
kind_pieces (kind.Named word) = word_pieces word
kind_pieces kind.Bool = token (codes "bool") ∷ []

abbrev pub var_pieces : VarWord → List Piece
var_pieces Mon = token (codes "mon") ∷ []
var_pieces Con = token (codes "con") ∷ []
var_pieces Input = token (codes "input") ∷ []
var_pieces Output = token (codes "output") ∷ []
var_pieces ReqVar = token (codes "req") ∷ token (codes "var") ∷ []
var_pieces SofVar = token (codes "sof") ∷ token (codes "var") ∷ []

abbrev pub section_text : SectionWord → List ℕ
section_text In = codes "in"
section_text Req = codes "req"
section_text Sof = codes "sof"
section_text Out = codes "out"

abbrev pub moment_text : NatWord → List ℕ
moment_text First = codes "first"
moment_text Always = codes "always"
moment_text Step = codes "step"

-- tokens that `;` ends
abbrev pub terminated : List Piece → List Piece
terminated pieces = pieces ++ token (codes ";") ∷ []

abbrev pub exprs_line : List ℕ → List Expr → Line
exprs_line word exprs = inner (token word ∷ terminated (exprs_pieces exprs))

abbrev pub row_line : Row → Line
row_line row = inner (token (codes "row") ∷ (expr_pieces row.head ++ token (codes ":") ∷ terminated (exprs_pieces row.entries)))

abbrev pub vrow_line : VRow → Line
vrow_line row = inner (token (codes "row") ∷ token row.target.text ∷ token (codes ":") ∷ terminated (exprs_pieces row.entries))

abbrev pub shows_line : Word → Expr → Line
shows_line name cond = inner (token (codes "shows") ∷ token name.text ∷ token (codes ":") ∷ terminated (expr_pieces cond))

abbrev pub goal_line : Word → Line
goal_line con = inner (token (codes "goal") ∷ terminated (word_pieces con))

abbrev pub fact_line : FactItem → Line
fact_line (Shows name cond) = shows_line name cond
fact_line (Goal con) = goal_line con

-- a part of a block that isn't there where it has no names
abbrev pub part_lines : List ℕ → List Word → List Line
part_lines word [] = []
part_lines word (first ∷ more) = inner (token word ∷ terminated (names_pieces (first ∷ more))) ∷ []

-- the last line of a table or block
abbrev pub brace_line : Line
brace_line = outer (token (codes "}") ∷ [])

-- the first line of a table or block
abbrev pub head_line : List Piece → Line
head_line head = outer (head ++ token (codes "{") ∷ [])

-- a table or block: its first line, its inner lines, and `}`
abbrev pub body_lines : List Piece → List Line → List Line
body_lines head lines = head_line head ∷ (lines ++ brace_line ∷ [])

abbrev pub table_lines : {X : Type 0} → (X → Line) → List Piece → List ℕ → List Expr → List X → List Line
table_lines line head word header rows = body_lines head (exprs_line word header ∷ map line rows)

abbrev pub block_lines : Word → List Word → List Word → List FactItem → List Line
block_lines name takes uses facts =
    body_lines (token (codes "block") ∷ token name.text ∷ []) (part_lines (codes "takes") takes
    ++ (part_lines (codes "uses") uses ++ map fact_line facts))

abbrev pub one_line : List Piece → List Line
one_line pieces = outer (terminated pieces) ∷ []

abbrev pub constant_pieces : Word → Bool → Number → List Piece
constant_pieces name sign value = token (codes "const") ∷ token name.text ∷ token (codes "=")
    ∷ (sign_pieces sign ++ token (decimal value.value) ∷ [])

abbrev pub range_type_pieces : Word → Bound → Bound → List Piece
range_type_pieces name lo hi = token (codes "type") ∷ token name.text ∷ token (codes "=") ∷ range_pieces lo hi

abbrev pub enum_type_pieces : Word → List Word → List Piece
enum_type_pieces name members =
    token (codes "type") ∷ token name.text ∷ token (codes "=") ∷ token (codes "{") ∷ (names_pieces members ++ token (codes "}") ∷ [])

abbrev pub variable_pieces : VarWord → Word → Kind → Bound → List Piece
variable_pieces word name of init =
    var_pieces word ++ token name.text ∷ token (codes ":") ∷ (kind_pieces of ++ token (codes "init") ∷ bound_pieces init)

abbrev pub memory_head : SectionWord → List ℕ → Word → List Piece
memory_head side word name = token (section_text side) ∷ token word ∷ token name.text ∷ token (codes "(") ∷ []

abbrev pub hold_pieces : Bound → List Piece
hold_pieces hold = bound_pieces hold ++ token (codes "ms") ∷ token (codes ")") ∷ []

abbrev pub held_pieces : SectionWord → Word → Expr → Bound → List Piece
held_pieces side name cond hold = memory_head side (codes "held") name ++ (expr_pieces cond ++ token (codes ",") ∷ hold_pieces hold)

abbrev pub band_pieces : Bound → Bound → Bool → List Piece
band_pieces lo hi start = bound_pieces lo ++ token (codes ",") ∷ (bound_pieces hi ++ token (codes ",") ∷ token (truth_word start)
    ∷ token (codes ")") ∷ [])

abbrev pub hyst_pieces : SectionWord → Word → Expr → Bound → Bound → Bool → List Piece
hyst_pieces side name term lo hi start =
    memory_head side (codes "hyst") name ++ (expr_pieces term ++ token (codes ",") ∷ band_pieces lo hi start)

abbrev pub nat_pieces : NatWord → Expr → List Piece
nat_pieces moment cond = token (codes "nat") ∷ token (moment_text moment) ∷ expr_pieces cond

abbrev pub table_head : SectionWord → List ℕ → Word → List Piece
table_head section word target = token (section_text section) ∷ token word ∷ token target.text ∷ []

abbrev pub vector_head : SectionWord → List Piece
vector_head section = token (section_text section) ∷ token (codes "vector") ∷ []

-- the lines of an item
abbrev pub item_lines : Item → List Line
item_lines (Constant name sign value) = one_line (constant_pieces name sign value)
item_lines (RangeType name lo hi) = one_line (range_type_pieces name lo hi)
item_lines (EnumType name members) = one_line (enum_type_pieces name members)
item_lines (Variable word name of init) = one_line (variable_pieces word name of init)
item_lines (Held side name cond hold) = one_line (held_pieces side name cond hold)
item_lines (Hyst side name term lo hi start) = one_line (hyst_pieces side name term lo hi start)
item_lines (Normal section target columns rows) = table_lines row_line (table_head section (codes "normal") target) (codes "columns")
    columns rows
item_lines (Inverted section target terms rows) = table_lines row_line (table_head section (codes "inverted") target) (codes "terms") terms
    rows
item_lines (Vector section columns rows) = table_lines vrow_line (vector_head section) (codes "columns") columns rows
item_lines (Nat moment cond) = one_line (nat_pieces moment cond)
item_lines (Block name takes uses facts) = block_lines name takes uses facts

-- a line of a word and a number, where there is one
abbrev pub option_lines : List ℕ → Option Number → List Line
option_lines word None = []
option_lines word (Some number) = one_line (token word ∷ token (decimal number.value) ∷ [])

abbrev pub set_pieces : List ℕ → List Piece
set_pieces name = token (codes "set") ∷ token name ∷ []

abbrev pub period_pieces : Number → List Piece
period_pieces period = token (codes "period") ∷ token (decimal period.value) ∷ token (codes "ms") ∷ []

-- the lines of a set: its own, and those of its items in order
abbrev pub set_lines : List ℕ → Number → Option Number → Option Number → List Item → List Line
set_lines name period splits depth items =
    one_line (set_pieces name) ++ (one_line (period_pieces period)
    ++ (option_lines (codes "splits") splits ++ (option_lines (codes "depth") depth ++ flat_map item_lines items)))
