-- Rows that have not as many entries as the header.
use Rattle.std.specs.Prelude.{ℕ, ◌==◌, List, [], ◌∷◌, ◌++◌, length, codes, Option, None}
use Rattle.ft_base.specs.declared.place.Place.{Place}
use Rattle.ft_tree.specs.declared.item.SectionWord.{SectionWord}
use Rattle.ft_tree.specs.declared.item.SectionWord.TheVariants.{In, Req, Sof, Out}
use Rattle.ft_tree.specs.declared.item.Row.{Row}
use Rattle.ft_tree.specs.declared.item.VRow.{VRow}
use Rattle.ft_tree.specs.declared.item.Item.{Item}
use Rattle.ft_tree.specs.declared.item.Item.TheVariants.{Normal, Inverted, Vector}
use Rattle.ft_names.specs.meaning.First.{first_of}
use Rattle.ft_types.specs.declared.fault.ItemFault.{ItemFault}
use Rattle.ft_types.specs.declared.fault.ItemFault.TheVariants.{Shape}
use Rattle.ft_types.specs.meaning.Ranges.{unless}

abbrev pub section_name : SectionWord → List ℕ
section_name In = codes "in"
section_name Req = codes "req"
section_name Sof = codes "sof"
section_name Out = codes "out"

-- a table's title: its section and its first defined variable
abbrev pub title : SectionWord → List ℕ → List ℕ
title s name = section_name s ++ codes " " ++ name

-- so many entries where the header has so many columns
abbrev pub entries_fault : SectionWord → List ℕ → (columns entries : ℕ) → Place → Option ItemFault
entries_fault s name columns entries place = unless (entries == columns) (Shape (title s name) place)

abbrev pub row_fault : SectionWord → List ℕ → (columns : ℕ) → Row → Option ItemFault
row_fault s name columns row = entries_fault s name columns (length row.entries) row.place

abbrev pub vector_row_fault : SectionWord → List ℕ → (columns : ℕ) → VRow → Option ItemFault
vector_row_fault s name columns row = entries_fault s name columns (length row.entries) row.place

-- the name of the first row, where there is one
abbrev pub first_target : List VRow → List ℕ
first_target [] = []
first_target (row ∷ rows) = row.target.text

abbrev pub item_shape : Item → Option ItemFault
item_shape (Normal s target columns rows) = first_of (row_fault s target.text (length columns)) rows
item_shape (Inverted s target headers rows) = first_of (row_fault s target.text (length headers)) rows
item_shape (Vector s columns rows) = first_of (vector_row_fault s (first_target rows) (length columns)) rows
item_shape _ = None
