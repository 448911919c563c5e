-- The items for a number.
use Rattle.std.specs.Prelude.{ℕ, ◌*◌, true, List, [], ◌∷◌, ◌++◌, codes, decimal, map}
use Rattle.std.specs.List.{flat_map, range_with_len}
use Rattle.ft_tree.specs.declared.expr.Op.{Op}
use Rattle.ft_tree.specs.declared.expr.Op.TheVariants.{Or, And, Eq, Lt, Ge, Add, Sub, Mul, Div}
use Rattle.ft_tree.specs.declared.item.Plain.TheVariants as plain
use Rattle.ft_tree.specs.declared.item.Kind.TheVariants as kind
use Rattle.ft_tree.specs.declared.item.VarWord.{VarWord}
use Rattle.ft_tree.specs.declared.item.VarWord.TheVariants.{Mon, Con, Input, Output, SofVar}
use Rattle.ft_tree.specs.declared.item.SectionWord.TheVariants.{In, Req, Sof, Out}
use Rattle.ft_tree.specs.declared.item.Item.{Item}
use Rattle.ft_tree.specs.declared.item.Item.TheVariants.{EnumType}
use Rattle.ft_gen.specs.building.Drafts.{Draft, number, name, truth, before, aged, denied, negated, joined, RowDraft, row_draft}
use Rattle.ft_gen.specs.building.Drafts.{ItemDraft, variable, memory, table, shown, aimed, item_of, bound_of, number_bound, word_of}

-- a letter and the number
abbrev pub numbered : List ℕ → ℕ → List ℕ
numbered letter k = letter ++ decimal k

-- from 0 to the top, at first 0
abbrev pub ranged : VarWord → List ℕ → ℕ → ItemDraft
ranged word text top = variable word text (kind.Range (number_bound 0) (number_bound top)) (number_bound 0)

-- off or on, at first off
abbrev pub switched : VarWord → List ℕ → ItemDraft
switched word text = variable word text (kind.Named (word_of (codes "sw"))) (bound_of (plain.Name (codes "off")))

abbrev pub named : List ℕ → ℕ → Draft
named letter k = name (numbered letter k)

-- an expression and a number
abbrev pub joined_number : Op → Draft → ℕ → Draft
joined_number op left value = joined op left (number value)

abbrev pub last : ℕ → Draft
last k = before (numbered (codes "s") k)

abbrev pub held_memory : ℕ → ItemDraft
held_memory k = memory (numbered (codes "h") k) (joined_number Ge (named (codes "m") k) (4 * k)) 100

abbrev pub input_rows : ℕ → List RowDraft
input_rows k = row_draft (truth true) (joined_number Div (named (codes "m") k) 4) ∷ []

abbrev pub required_rows : ℕ → List RowDraft
required_rows k =
    row_draft (named (codes "h") k) (name (codes "on")) ∷ row_draft (denied (named (codes "h") k)) (name (codes "off")) ∷ []

-- the input is high, and the count one scan before is so
abbrev pub high_after : ℕ → Op → Draft
high_after k op = joined And (joined_number Ge (named (codes "i") k) k) (joined_number op (last k) 3)

-- one more than one scan before
abbrev pub counted_on : ℕ → Draft
counted_on k = joined_number Add (last k) 1

abbrev pub count_rows : ℕ → List RowDraft
count_rows k =
    row_draft (joined_number Lt (named (codes "i") k) k) (number 0)
    ∷ row_draft (high_after k Lt) (counted_on k)
    ∷ row_draft (high_after k Eq) (number 3) ∷ []

abbrev pub output_rows : ℕ → List RowDraft
output_rows k =
    row_draft (joined_number Eq (named (codes "s") k) 3) (name (codes "on"))
    ∷ row_draft (joined_number Lt (named (codes "s") k) 3) (name (codes "off")) ∷ []

abbrev pub applied_rows : ℕ → List RowDraft
applied_rows k = row_draft (truth true) (named (codes "o") k) ∷ []

-- no scan is counted, and the memory doesn't hold
abbrev pub idle : ℕ → Draft
idle k = joined And (joined_number Eq (named (codes "s") k) 0) (joined Eq (aged (numbered (codes "h") k)) (negated (number 1)))

-- how old the memory is, by the count
abbrev pub elapsed : ℕ → Draft
elapsed k = joined_number Sub (joined Mul (number 50) (named (codes "s") k)) 50

-- the memory is as old as the count says
abbrev pub counting : ℕ → Draft
counting k =
    joined And (joined_number Ge (named (codes "s") k) 1)
    (joined Eq (aged (numbered (codes "h") k)) (elapsed k))

abbrev pub shown_block : ℕ → ItemDraft
shown_block k =
    shown (numbered (codes "a") k) (word_of (numbered (codes "h") k) ∷ word_of (numbered (codes "s") k) ∷ []) (numbered (codes "t") k)
    (joined Or (idle k) (counting k))

abbrev pub aimed_block : ℕ → ItemDraft
aimed_block k =
    aimed (numbered (codes "b") k) (word_of (numbered (codes "c") k) ∷ word_of (numbered (codes "o") k) ∷ [])
    (word_of (numbered (codes "t") k) ∷ []) (numbered (codes "c") k)

abbrev pub variables : ℕ → List ItemDraft
variables k =
    ranged Mon (numbered (codes "m") k) 1000
    ∷ switched Con (numbered (codes "c") k)
    ∷ ranged Input (numbered (codes "i") k) 250
    ∷ switched Output (numbered (codes "o") k)
    ∷ ranged SofVar (numbered (codes "s") k) 3 ∷ []

abbrev pub first_tables : ℕ → List ItemDraft
first_tables k = table In (numbered (codes "i") k) (input_rows k) ∷ table Req (numbered (codes "c") k) (required_rows k) ∷ []

abbrev pub last_tables : ℕ → List ItemDraft
last_tables k =
    table Sof (numbered (codes "s") k) (count_rows k)
    ∷ table Sof (numbered (codes "o") k) (output_rows k)
    ∷ table Out (numbered (codes "c") k) (applied_rows k) ∷ []

abbrev pub blocks : ℕ → List ItemDraft
blocks k = shown_block k ∷ aimed_block k ∷ []

-- the items for the number k
abbrev pub drafts : ℕ → List ItemDraft
drafts k = variables k ++ (held_memory k ∷ first_tables k ++ (last_tables k ++ blocks k))

abbrev pub items_for : ℕ → List Item
items_for k = map item_of (drafts k)

abbrev pub switch_type : Item
switch_type = EnumType (word_of (codes "sw")) (word_of (codes "off") ∷ word_of (codes "on") ∷ [])

-- the items of the set for n
abbrev pub items_of : ℕ → List Item
items_of n = switch_type ∷ flat_map items_for (range_with_len 1 n)
