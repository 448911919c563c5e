-- The grammar of a set and its items.
use Rattle.std.specs.Prelude.{ℕ, Bool, true, false, List, [], ◌∷◌, ◌++◌, codes, length, nat_le, Option, Some, None}
use Rattle.ft_base.specs.declared.place.Place.{Place}
use Rattle.ft_tree.specs.declared.expr.Expr.{Expr}
use Rattle.ft_tree.specs.declared.item.Word.{Word}
use Rattle.ft_tree.specs.declared.item.Number.{Number}
use Rattle.ft_tree.specs.declared.item.Bound.{Bound}
use Rattle.ft_tree.specs.declared.item.Kind.{Kind}
use Rattle.ft_tree.specs.declared.item.VarWord.{VarWord}
use Rattle.ft_tree.specs.declared.item.SectionWord.{SectionWord}
use Rattle.ft_tree.specs.declared.item.Row.{Row}
use Rattle.ft_tree.specs.declared.item.VRow.{VRow}
use Rattle.ft_tree.specs.declared.item.FactItem.{FactItem}
use Rattle.ft_tree.specs.declared.item.Item.{Item}
use Rattle.ft_tree.specs.meaning.Limits.{Sort, constants, types, variables, memories, tables, clauses, blocks}
use Rattle.ft_tree.specs.declared.item.Plain.TheVariants as plain
use Rattle.ft_tree.specs.declared.item.Kind.TheVariants as kind
use Rattle.ft_tree.specs.declared.item.Item.TheVariants as item
use Rattle.ft_tree.specs.declared.item.VarWord.TheVariants as var
use Rattle.ft_tree.specs.declared.item.SectionWord.TheVariants as section
use Rattle.ft_tree.specs.declared.item.FactItem.TheVariants as fact
use Rattle.ft_read.specs.meaning.Lexeme.{as_end, as_name, as_number, as_sign, as_word}
use Rattle.ft_read.specs.meaning.Limit.{no_pass, lexical_passes, counted, counted_at}
use Rattle.ft_read.specs.declared.parts.SectionAt.{SectionAt}
use Rattle.ft_read.specs.declared.stop.LimitWord.{LimitWord}
use Rattle.ft_read.specs.meaning.Choices.{as_plain, as_truth, as_start, as_moment, as_map, as_side, as_var_word}
use Rattle.ft_read.specs.declared.stop.LimitWord.TheVariants as limit
use Rattle.ft_parse.specs.meaning.Language.{Language, alternative, nothing, repeated, ◌▷◌, token}
use Rattle.ft_parse.specs.meaning.Room.{is_full, no_more_facts}
use Rattle.ft_parse.specs.meaning.Expressions.{expression}
use Rattle.ft_parse.specs.declared.parts.Parts.{Parts}

abbrev pub word : List ℕ → Language Place
word text = token (as_word text) no_pass

abbrev pub sign : List ℕ → Language Place
sign text = token (as_sign text) no_pass

-- a number of a declaration
abbrev pub number : Language Number
number = token as_number lexical_passes

-- a name that is used
abbrev pub name : Language Word
name = token as_name lexical_passes

-- the name of an item of a sort, after these items
abbrev pub declared : Sort → LimitWord → List Item → Language Word
declared sort which before = token as_name (counted (is_full sort before) which)

-- number | name
abbrev pub plain_bound : Language Bound
plain_bound = token as_plain lexical_passes

-- "-" ( number | name )
abbrev pub minus_bound : Language Bound
minus_bound = sign (codes "-") ▷ λ place. plain_bound ▷ λ b. nothing (record { minus = true; value = b.value; place = place })

-- [ "-" ] ( number | name )
abbrev pub bound : Language Bound
bound = alternative minus_bound plain_bound

-- bound | "true" | "false"
abbrev pub value : Language Bound
value = alternative (token as_truth no_pass) bound

-- what stands after the lower bound of a range: ".." bound
abbrev pub upper : Language Bound
upper = sign (codes "..") ▷ λ _. bound

-- a range that begins with "-" or a number, a name alone or as the lower bound of a range, or "bool"
abbrev pub kind_of_name : Word → Language Kind
kind_of_name w = alternative
    (upper ▷ λ hi. nothing (kind.Range (record { minus = false; value = plain.Name w.text; place = w.place }) hi)) (nothing (kind.Named w))

abbrev pub range_after : Bound → Language Kind
range_after lo = upper ▷ λ hi. nothing (kind.Range lo hi)

abbrev pub number_bound : Language Bound
number_bound = number ▷ λ n. nothing (record { minus = false; value = plain.Number n.value; place = n.place })

abbrev pub kind_part : Language Kind
kind_part =
    alternative (word (codes "bool") ▷ λ _. nothing kind.Bool)
    (alternative (name ▷ kind_of_name)
    (alternative minus_bound number_bound ▷ range_after))

-- expr { "," expr }
abbrev pub more_entries : List Expr → Language (List Expr)
more_entries entries = sign (codes ",") ▷ λ _. expression (nat_le 32 (length entries)) ▷ λ e. nothing (entries ++ e ∷ [])

abbrev pub entries : Language (List Expr)
entries = expression false ▷ λ e. repeated more_entries (e ∷ [])

-- name { "," name }, where there is room for so many
abbrev pub more_names : (most : ℕ) → LimitWord → List Word → Language (List Word)
more_names most which names =
    sign (codes ",") ▷ λ _. token as_name (counted (nat_le most (length names)) which) ▷ λ w. nothing (names ++ w ∷ [])

abbrev pub names : (most : ℕ) → LimitWord → Language (List Word)
names most which = name ▷ λ w. repeated (more_names most which) (w ∷ [])

-- the word of a row, after so many rows
abbrev pub row_word : ℕ → Language Place
row_word before = token (as_word (codes "row")) (counted (nat_le 32 before) limit.Rows)

-- "row" expr ":" expr { "," expr } ";"
abbrev pub row : ℕ → Language Row
row before =
    row_word before ▷ λ place. expression false ▷ λ head. sign (codes ":") ▷ λ _. entries ▷ λ cells. sign (codes ";") ▷ λ _.
    nothing (record { place = place; head = head; entries = cells })

-- "row" name ":" expr { "," expr } ";"
abbrev pub vrow : ℕ → Language VRow
vrow before =
    row_word before ▷ λ place. name ▷ λ target. sign (codes ":") ▷ λ _. entries ▷ λ cells. sign (codes ";") ▷ λ _.
    nothing (record { place = place; target = target; entries = cells })

-- one part and any number of others, each by the number of those before it
abbrev pub several : {A : Type 0} → (ℕ → Language A) → Language (List A)
several part = part 0 ▷ λ a. repeated (λ before. part (length before) ▷ λ b. nothing (before ++ b ∷ [])) (a ∷ [])

-- a header: its word, expr { "," expr } ";"
abbrev pub header : List ℕ → Language (List Expr)
header text = word text ▷ λ _. entries ▷ λ cells. sign (codes ";") ▷ λ _. nothing cells

-- the rest of a table that defines one variable: name "{" header row { row } "}"
abbrev pub grid : List Item → List ℕ → (Word → List Expr → List Row → Item) → Language Item
grid before text make =
    declared tables limit.Tables before ▷ λ target. sign (codes "{") ▷ λ _. header text ▷ λ cells. several row ▷ λ rows.
    sign (codes "}") ▷ λ _. nothing (make target cells rows)

-- the rest of a vector table: "{" header vrow { vrow } "}"
abbrev pub vector_grid : SectionWord → Language Item
vector_grid s =
    sign (codes "{") ▷ λ _. header (codes "columns") ▷ λ cells. several vrow ▷ λ rows.
    sign (codes "}") ▷ λ _. nothing (item.Vector s cells rows)

-- a table after its section
abbrev pub table : List Item → SectionAt → Language Item
table before s =
    alternative (word (codes "normal") ▷ λ _. grid before (codes "columns") (item.Normal s.word))
    (alternative (word (codes "inverted") ▷ λ _. grid before (codes "terms") (item.Inverted s.word))
    (token (as_word (codes "vector")) (counted_at (is_full tables before) limit.Tables s.place) ▷ λ _. vector_grid s.word))

-- a variable after its words: name ":" kind "init" value ";"
abbrev pub variable : List Item → VarWord → Language Item
variable before words =
    declared variables limit.Variables before ▷ λ w. sign (codes ":") ▷ λ _. kind_part ▷ λ of. word (codes "init") ▷ λ _. value ▷ λ init.
    sign (codes ";") ▷ λ _. nothing (item.Variable words w of init)

abbrev pub inner_variable : SectionWord → VarWord
inner_variable section.Req = var.ReqVar
inner_variable section.Sof = var.SofVar
inner_variable section.In = var.ReqVar
inner_variable section.Out = var.SofVar

-- a timer after its words: name "(" expr "," hold "ms" ")" ";"
abbrev pub held : List Item → SectionWord → Language Item
held before side =
    declared memories limit.Memories before ▷ λ w. sign (codes "(") ▷ λ _. expression false ▷ λ cond. sign (codes ",") ▷ λ _.
    plain_bound ▷ λ hold. word (codes "ms") ▷ λ _. sign (codes ")") ▷ λ _. sign (codes ";") ▷ λ _. nothing (item.Held side w cond hold)

-- a band after its words: name "(" expr "," bound "," bound "," ( "true" | "false" ) ")" ";"
abbrev pub hyst : List Item → SectionWord → Language Item
hyst before side =
    declared memories limit.Memories before ▷ λ w. sign (codes "(") ▷ λ _. expression false ▷ λ term. sign (codes ",") ▷ λ _.
    bound ▷ λ lo. sign (codes ",") ▷ λ _. bound ▷ λ hi. sign (codes ",") ▷ λ _. token as_start no_pass ▷ λ start.
    sign (codes ")") ▷ λ _. sign (codes ";") ▷ λ _. nothing (item.Hyst side w term lo hi start)

-- what stands after the word of a side
abbrev pub sided : List Item → SectionAt → Language Item
sided before s =
    alternative (word (codes "var") ▷ λ _. variable before (inner_variable s.word))
    (alternative (word (codes "held") ▷ λ _. held before s.word)
    (alternative (word (codes "hyst") ▷ λ _. hyst before s.word)
    (table before s)))

-- a constant: "const" name "=" [ "-" ] number ";"
abbrev pub signed_number : Language (Bool × Number)
signed_number =
    alternative (sign (codes "-") ▷ λ _. number ▷ λ n. nothing (true, n)) (number ▷ λ n. nothing (false, n))

abbrev pub constant : List Item → Language Item
constant before =
    word (codes "const") ▷ λ _. declared constants limit.Constants before ▷ λ w. sign (codes "=") ▷ λ _. signed_number ▷ λ n.
    sign (codes ";") ▷ λ _. nothing (item.Constant w n.0 n.1)

-- a type: "type" name "=" ( range | "{" names "}" ) ";"
abbrev pub members : Word → Language Item
members w =
    sign (codes "{") ▷ λ _. names 64 limit.Members ▷ λ ms. sign (codes "}") ▷ λ _. nothing (item.EnumType w ms)

abbrev pub range_type : Word → Language Item
range_type w = bound ▷ λ lo. upper ▷ λ hi. nothing (item.RangeType w lo hi)

abbrev pub type_item : List Item → Language Item
type_item before =
    word (codes "type") ▷ λ _. declared types limit.Types before ▷ λ w. sign (codes "=") ▷ λ _.
    alternative (members w) (range_type w) ▷ λ made.
    sign (codes ";") ▷ λ _. nothing made

-- a clause on the environment: "nat" ( "first" | "always" | "step" ) expr ";"
abbrev pub clause : List Item → Language Item
clause before =
    token (as_word (codes "nat")) (counted (is_full clauses before) limit.Nat) ▷ λ _. token as_moment no_pass ▷ λ moment. expression false ▷
    λ cond.
    sign (codes ";") ▷ λ _. nothing (item.Nat moment cond)

-- a part of a block that may be absent: its word, names ";"
abbrev pub listed : List ℕ → Language (List Word)
listed text = alternative (word text ▷ λ _. names 300 limit.List ▷ λ ws. sign (codes ";") ▷ λ _. nothing ws) (nothing [])

-- the name of a fact, after so many facts of the block
abbrev pub fact_name : List Item → ℕ → Language Word
fact_name before facts = token as_name (counted (no_more_facts before facts) limit.Facts)

-- "shows" name ":" expr ";" | "goal" name ";"
abbrev pub fact_part : List Item → ℕ → Language FactItem
fact_part before facts =
    alternative (word (codes "shows") ▷ λ _. fact_name before facts ▷ λ w. sign (codes ":") ▷ λ _. expression false ▷ λ cond.
    sign (codes ";") ▷ λ _. nothing (fact.Shows w cond))
    (word (codes "goal") ▷ λ _. fact_name before facts ▷ λ w. sign (codes ";") ▷ λ _. nothing (fact.Goal w))

-- "block" name "{" [ "takes" names ";" ] [ "uses" names ";" ] fact { fact } "}"
abbrev pub block : List Item → Language Item
block before =
    word (codes "block") ▷ λ _. declared blocks limit.Blocks before ▷ λ w. sign (codes "{") ▷ λ _. listed (codes "takes") ▷ λ takes.
    listed (codes "uses") ▷ λ uses. several (fact_part before) ▷ λ facts. sign (codes "}") ▷ λ _.
    nothing (item.Block w takes uses facts)

-- an item, after these
abbrev pub item_part : List Item → Language Item
item_part before =
    alternative (constant before)
    (alternative (type_item before)
    (alternative (token as_var_word no_pass ▷ variable before)
    (alternative (token as_side no_pass ▷ sided before)
    (alternative (token as_map no_pass ▷ table before)
    (alternative (clause before)
    (block before))))))

abbrev pub more_items : List Item → Language (List Item)
more_items before = item_part before ▷ λ made. nothing (before ++ made ∷ [])

-- a number that may be absent: its word, number ";"
abbrev pub setting : List ℕ → Language (Option Number)
setting text = alternative (word text ▷ λ _. number ▷ λ n. sign (codes ";") ▷ λ _. nothing (Some n)) (nothing None)

-- "set" name ";" "period" number "ms" ";" [ "splits" number ";" ] [ "depth" number ";" ] { item }, and the text's end
abbrev pub set : Language Parts
set =
    word (codes "set") ▷ λ _. name ▷ λ w. sign (codes ";") ▷ λ _. word (codes "period") ▷ λ _. number ▷ λ period. word (codes "ms") ▷ λ _.
    sign (codes ";") ▷ λ _. setting (codes "splits") ▷ λ splits. setting (codes "depth") ▷ λ depth. repeated more_items [] ▷ λ items.
    token as_end no_pass ▷ λ _. nothing (record { name = w.text; period = period; splits = splits; depth = depth; items = items })
