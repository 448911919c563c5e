-- Sections and sides that pass as one, without a tactic.
use Rattle.std.proofs.Common.{◌≡◌, ◌∙◌, sym, ap, refl, ℕ, true, ◌||◌, true≢false}
use Rattle.std.specs.Prelude.{IsTrue}
use Rattle.std.proofs.lemmas.Bool.{and_from, or_left, or_right}
use Rattle.ft_core.specs.declared.tables.Table.{Table}
use Rattle.ft_core.specs.declared.tables.Section.{Section}
use Rattle.ft_core.specs.declared.tables.Section.TheVariants as section
use Rattle.ft_core.specs.declared.tables.Side.{Side}
use Rattle.ft_core.specs.declared.tables.Side.TheVariants as side
use Rattle.ft_core.specs.meaning.Grids.{defines, is_for, is_section}
use Rattle.ft_core.specs.meaning.Kinds.{section_of}
use Rattle.ft_core.specs.checked.Sound.{is_side}

pub same_section : (a b : Section) → is_section a b ≡ true → a ≡ b
same_section section.In section.In e = refl
same_section section.Req section.Req e = refl
same_section section.Sof section.Sof e = refl
same_section section.Out section.Out e = refl
same_section a b e = absurd (true≢false (sym e))

pub section_self : (s : Section) → is_section s s ≡ true
section_self section.In = refl
section_self section.Req = refl
section_self section.Sof = refl
section_self section.Out = refl

pub is_for_from : (section : Section) (x : ℕ) (table : Table) → table.section ≡ section → IsTrue (defines table.grid x)
    → is_for section x table ≡ true
is_for_from section x table e d = and_from (is_section table.section section) (defines table.grid x)
    (ap (is_section table.section) (sym e) ∙ section_self table.section) d

pub same_side : (a b : Side) → is_side a b ≡ true → a ≡ b
same_side side.Req side.Req e = refl
same_side side.Sof side.Sof e = refl
same_side side.Req side.Sof e = absurd (true≢false (sym e))
same_side side.Sof side.Req e = absurd (true≢false (sym e))

-- a table of a side is one of the requirement or of the design
pub of_side : (s : Side) (x : ℕ) (table : Table) → is_for (section_of s) x table ≡ true
    → (is_for section.Req x table || is_for section.Sof x table) ≡ true
of_side side.Req x table e = or_left (is_for section.Req x table) (is_for section.Sof x table) e
of_side side.Sof x table e = or_right (is_for section.Req x table) (is_for section.Sof x table) e
