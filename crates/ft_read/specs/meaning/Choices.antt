-- What tokens are read as in items: words that are chosen among, bounds and truths.
use Rattle.std.specs.Prelude.{ℕ, Bool, true, false, List, codes, Option, Some, None}
use Rattle.ft_tree.specs.declared.item.Bound.{Bound}
use Rattle.ft_tree.specs.declared.item.VarWord.{VarWord}
use Rattle.ft_tree.specs.declared.item.SectionWord.{SectionWord}
use Rattle.ft_tree.specs.declared.item.NatWord.{NatWord}
use Rattle.ft_tree.specs.declared.item.Plain.TheVariants as plain
use Rattle.ft_tree.specs.declared.item.SectionWord.TheVariants as section
use Rattle.ft_tree.specs.declared.item.VarWord.TheVariants as var
use Rattle.ft_tree.specs.declared.item.NatWord.TheVariants as moment
use Rattle.ft_read.specs.meaning.Lexeme.{Lexeme, as_name, as_number, as_word, or_else}
use Rattle.ft_read.specs.declared.parts.SectionAt.{SectionAt}

-- a choice of words
abbrev pub choice : {A : Type 0} → List ℕ → A → Lexeme → Option A
choice text a lexeme = elim (as_word text lexeme) [ None ↦ None | Some place ↦ Some a ]

abbrev pub as_plain : Lexeme → Option Bound
as_plain lexeme =
    or_else (elim (as_number lexeme) [
      | None ↦ None
      | Some n ↦ Some (record { minus = false; value = plain.Number n.value; place = n.place })
    ])
    (elim (as_name lexeme) [ None ↦ None | Some w ↦ Some (record { minus = false; value = plain.Name w.text; place = w.place }) ])

abbrev pub as_truth : Lexeme → Option Bound
as_truth lexeme =
    or_else (elim (as_word (codes "true") lexeme) [
      | None ↦ None
      | Some place
          ↦ Some (record { minus = false; value = plain.Truth true; place = place })
    ])
    (elim (as_word (codes "false") lexeme) [
      | None ↦ None
      | Some place ↦ Some
          (record { minus = false; value = plain.Truth false; place = place })
    ])

abbrev pub section_choice : List ℕ → SectionWord → Lexeme → Option SectionAt
section_choice text s lexeme = elim (as_word text lexeme) [ None ↦ None | Some place ↦ Some (record { word = s; place = place }) ]

-- the sections of maps
abbrev pub as_map : Lexeme → Option SectionAt
as_map lexeme = or_else (section_choice (codes "in") section.In lexeme) (section_choice (codes "out") section.Out lexeme)

-- the sections of sides
abbrev pub as_side : Lexeme → Option SectionAt
as_side lexeme = or_else (section_choice (codes "req") section.Req lexeme) (section_choice (codes "sof") section.Sof lexeme)

abbrev pub as_start : Lexeme → Option Bool
as_start lexeme = or_else (choice (codes "true") true lexeme) (choice (codes "false") false lexeme)

abbrev pub as_var_word : Lexeme → Option VarWord
as_var_word lexeme =
    or_else (choice (codes "mon") var.Mon lexeme) (or_else (choice (codes "con") var.Con lexeme)
    (or_else (choice (codes "input") var.Input lexeme) (choice (codes "output") var.Output lexeme)))

abbrev pub as_moment : Lexeme → Option NatWord
as_moment lexeme =
    or_else (choice (codes "first") moment.First lexeme) (or_else (choice (codes "always") moment.Always lexeme)
    (choice (codes "step") moment.Step lexeme))
