-- At one scan the tables of a section have exactly one answer.
use Rattle.std.proofs.Common.{◌≡◌, ◌∙◌, sym, ap, subst, refl, ℕ, ◌<◌, ℤ, Bool, true, false, ◌||◌, List, inl, inr, ◌⊎◌, ⊎_elim}
use Rattle.std.specs.Prelude.{IsTrue}
use Rattle.std.specs.List.{flat_map, list_any}
use Rattle.std.specs.Ordering.{int_eq}
use Rattle.std.proofs.lemmas.Bool.{or_cases, or_right}
use Rattle.std.proofs.lemmas.Bool.Decides.{Decides-int_eq}
use Rattle.ft_base.specs.Interval.{IsWithin}
use Rattle.ft_core.specs.declared.tables.Tables.{Tables}
use Rattle.ft_core.specs.declared.tables.Table.{Table}
use Rattle.ft_core.specs.declared.tables.Var.{Var}
use Rattle.ft_core.specs.declared.tables.Side.{Side}
use Rattle.ft_core.specs.declared.tables.Side.TheVariants as side
use Rattle.ft_core.specs.declared.tables.Section.{Section}
use Rattle.ft_core.specs.meaning.Grids.{Cell, cells_for, defines}
use Rattle.ft_core.specs.meaning.Kinds.{given_kinds, defined_kinds, side_kinds, section_of}
use Rattle.ft_core.specs.meaning.Reads.{Read, at_now, grid_reads, cell_reads}
use Rattle.ft_mean.specs.meaning.Value.{View, value}
use Rattle.ft_mean.specs.meaning.Reading.{Reading, IsVar}
use Rattle.ft_mean.specs.meaning.Memory.{look}
use Rattle.ft_mean.specs.meaning.Cells.{holding, cells_of, defined}
use Rattle.ft_mean.specs.meaning.Proper.{IsLocal, AllProper}
use Rattle.ft_mean.proofs.Agree.{AllSame}
use Rattle.ft_mean.proofs.CellLemmas.{OneCell, one_cell, cells_alike, cells_of-is, own_reads, same_defined}
use Rattle.ft_core.specs.laws.Sections.{is_for_from}
use Rattle.ft_mean.proofs.WellFormed.{IsOf, IsTable, OnSide, MayRead, IsWellFormed}
use Rattle.ft_mean.proofs.MemoryLemmas.{look_same}

-- the one table of a section for a variable
pub record TableOf (S : Tables) (section : Section) (x : ℕ) : Type 0 where
  pub place : ℕ
  pub table : Table
  pub is : IsTable S section place table
  pub defines_it : IsTrue (defines table.grid x)
  pub cells_are : cells_of S section x ≡ cells_for x table.grid

-- the one value that the tables of a section give a variable
pub record Answer (S : Tables) (section : Section) (V : View) (x : ℕ) (range : ℤ × ℤ) : Type 0 where
  pub z : ℤ
  pub in_range : IsWithin range z
  pub is : IsTrue (defined S section V x z)
  pub only : (y : ℤ) → IsTrue (defined S section V x y) → y ≡ z

or_none : (b : Bool) → (b || false) ≡ b
or_none true = refl
or_none false = refl

one_answer : (S : Tables) (section : Section) (V : View) (x : ℕ) (range : ℤ × ℤ) (cs : List Cell) → cells_of S section x ≡ cs
    → OneCell V cs range
    → Answer S section V x range
one_answer S section V x range cs are one =
    let says : (y : ℤ) → defined S section V x y ≡ int_eq y (value V one.cell.term) = λ y.
    ap (λ c. list_any (λ d. int_eq y (value V d.term)) (holding V c)) are
    ∙ ap (list_any (λ d. int_eq y (value V d.term))) one.is
    ∙ or_none (int_eq y (value V one.cell.term)) in
    record {
      z = value V one.cell.term;
      in_range = one.in_range;
      is = says (value V one.cell.term) ∙ (Decides-int_eq (value V one.cell.term) (value V one.cell.term)).1 refl;
      only = λ y e. (Decides-int_eq y (value V one.cell.term)).0 (sym (says y) ∙ e);
    }

module _ (S : Tables) (wf : IsWellFormed S) where
  pub table_of : (section : Section) (x : ℕ) (v : Var) → IsVar S (defined_kinds section) x v → TableOf S section x
  table_of section x v is =
      let at = wf.has_table section x v is in
      let it = is_for_from section x at.1 at.2.1 at.3 in
      record {
        place = at.0;
        table = at.1;
        is = at.2;
        defines_it = at.3;
        cells_are = cells_of-is S section x at.0 at.1 at.2.0 it (λ l a there for. S.sound.one_table section x l at.0 a at.1 there at.2.0 for
            it);
      }

  -- views that agree on what the cells for it read define the same value
  pub defined_same : (section : Section) (V W : View) (x : ℕ) (z : ℤ) (t : TableOf S section x)
      → AllSame V W (flat_map cell_reads (cells_for x t.table.grid))
      → defined S section V x z ≡ defined S section W x z
  defined_same section V W x z t same =
      ap (λ c. list_any (λ d. int_eq z (value V d.term)) (holding V c)) t.cells_are
      ∙ same_defined V W z (cells_for x t.table.grid) (cells_alike V W (cells_for x t.table.grid) same)
      ∙ ap (λ c. list_any (λ d. int_eq z (value W d.term)) (holding W c)) (sym t.cells_are)

  module _ (proper : AllProper S) where
    -- a proper table gives exactly one value, in range, at each local view
    pub answer : (section : Section) (V : View) (x : ℕ) (v : Var) → IsVar S (defined_kinds section) x v
        → ((t : TableOf S section x) → IsLocal S (grid_reads t.table.grid) V) → Answer S section V x v.range
    answer section V x v is local =
        let t = table_of section x v is in
        one_answer S section V x v.range (cells_for x t.table.grid) t.cells_are
        (one_cell V (cells_for x t.table.grid) v.range (proper t.place t.table t.is.0 V (local t) x v is.0 t.defines_it))

  module _ (s : Side) where
    -- a variable of the side is given or defined
    pub given_or_defined : (x : ℕ) (v : Var) → IsVar S (side_kinds s) x v → IsVar S (given_kinds s) x v
        ⊎ IsVar S (defined_kinds (section_of s)) x v
    given_or_defined x v is = ⊎_elim (λ g. inl (is.0, g)) (λ d. inr (is.0, d))
        (or_cases (given_kinds s x v) (defined_kinds (section_of s) x v) is.1)

    -- and the other way round
    pub on_side : (x : ℕ) (v : Var) → IsVar S (defined_kinds (section_of s)) x v → IsVar S (side_kinds s) x v
    on_side x v is = (is.0, or_right (given_kinds s x v) (defined_kinds (section_of s) x v) is.1)

    may_read : (s : Side) (r : Read) → MayRead S (section_of s) r → OnSide S s r
    may_read side.Req r h = h
    may_read side.Sof r h = h

    -- what the cells for x of a table of the side read has a lower rank than x
    pub table_same : (a b : Reading) (t : ℕ) → ((j x : ℕ) → j < t → IsOf S (side_kinds s) x → a j x ≡ b j x)
        → (x : ℕ) → ((y : ℕ) → IsOf S (side_kinds s) y → wf.rank (at_now y) < wf.rank (at_now x) → a t y ≡ b t y)
        → (o : TableOf S (section_of s) x) → AllSame (look S a t) (look S b t) (flat_map cell_reads (cells_for x o.table.grid))
    table_same a b t past x now o r c =
        look_same S wf s a b t past (wf.rank (at_now x)) now r
        (may_read s r (subst (λ z. MayRead S z r) o.is.1 (wf.tables_read o.place o.table r o.is.0 (own_reads o.table.grid x r c))))
        (λ current. wf.order.tables s o.place o.table x r o.is o.defines_it c current)
