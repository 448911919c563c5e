-- What is put in table by table, and row by row, is where the tables of a section define each variable.
use Rattle.std.proofs.Common.{◌≡◌, ◌∙◌, sym, ap, subst, refl, inl, inr, ℕ, suc, ◌+◌, Bool, true, false, ◌&&◌, ◌||◌, List, [], ◌∷◌, length}
use Rattle.std.proofs.Common.{slice_get, slice_set, Option, Some, None, arith, ⊎_elim, true≢false}
use Rattle.std.specs.Prelude.{IsTrue, IsFalse, ◌==◌}
use Rattle.std.specs.List.{list_any}
use Rattle.std.proofs.lemmas.Bool.{cases_lt, and_from, eq-eqb, eqb-true, cases_Bool}
use Rattle.std.proofs.lemmas.List.{length-set}
use Rattle.std.proofs.lemmas.Option.{none-some, same_Some, slice_get_within}
use Rattle.ft_core.specs.declared.tables.Tables.{Tables}
use Rattle.ft_core.specs.declared.tables.Table.{Table}
use Rattle.ft_core.specs.declared.tables.Section.{Section}
use Rattle.ft_core.specs.declared.tables.Grid.{Grid}
use Rattle.ft_core.specs.declared.tables.Grid.TheVariants.{Normal, Inverted, Vector}
use Rattle.ft_core.specs.declared.term.Cond.{Cond}
use Rattle.ft_core.specs.declared.term.Term.{Term}
use Rattle.ft_core.specs.meaning.Kinds.{defined_kinds, is_of}
use Rattle.ft_core.specs.meaning.Grids.{defines, is_for, is_section}
use Rattle.ft_core.specs.laws.Places.{of-set}
use Rattle.ft_core.specs.laws.Sections.{same_section}
use Rattle.ft_scan.specs.steps.Homes.{IsHome, AreHomes, IsPart, PutsHomes, PutsRowHomes}
use Rattle.ft_scan.specs.declared.homes.Home.{Home}
use Rattle.ft_scan.specs.declared.homes.Home.TheVariants.{Whole, Row}

-- before the first row
pub no-rows : (at : ℕ) (targets : List ℕ) (homes : List (Option Home)) → PutsRowHomes at targets 0 homes homes
no-rows at targets homes = record {
  long = refl;
  none = λ x is. (is, λ row below there. omega (arith, below));
  some = λ x home is. inl is;
}

-- one more row
pub one-row : (at : ℕ) (targets : List ℕ) (row target : ℕ) (old mid new : List (Option Home)) → PutsRowHomes at targets row old mid
    → slice_get targets row ≡ Some target → new ≡ slice_set mid target (Some (Row at row)) → PutsRowHomes at targets (row + 1) old new
one-row at targets row target old mid new so there is = record {
  long = ap length is ∙ length-set mid target (Some (Row at row)) ∙ so.long;
  none = λ x e. elim (of-set mid target (Some (Row at row)) x None (subst (λ hs. slice_get hs x ≡ Some None) is e)) [
    | inl (here, bad) ↦ absurd (none-some (Row at row) (sym bad))
    | inr (other, kept) ↦ (
      (so.none x kept).0,
      λ r below target_is. ⊎_elim
          (λ less. (so.none x kept).1 r less target_is)
          (λ most. let same : r ≡ row = omega (arith, below, most) in
          other (same_Some x target (sym target_is ∙ ap (slice_get targets) same ∙ there)))
          (cases_lt r row),
    )
  ];
  some = λ x home e. elim (of-set mid target (Some (Row at row)) x (Some home) (subst (λ hs. slice_get hs x ≡ Some (Some home)) is e)) [
    | inl (here, same) ↦ inr (row, there ∙ ap Some (sym here), sym (same_Some (Row at row) home same))
    | inr (other, kept) ↦ so.some x home kept
  ];
}

none-any : (x : ℕ) (targets : List ℕ) → ((row : ℕ) → slice_get targets row ≡ Some x → ⊥) → list_any (λ target. target == x) targets ≡ false
none-any x [] none = refl
none-any x (t ∷ targets) none = ⊎_elim
    (λ same. absurd (none 0 (ap Some (eqb-true t x same))))
    (λ other. (λ i. other i || list_any (λ target. target == x) targets) ∙ none-any x targets (λ row e. none (suc row) e))
    (cases_Bool (t == x))

-- all rows of a vector table
pub all-rows : (at : ℕ) (columns : List Cond) (targets : List ℕ) (terms : List (List Term)) (old new : List (Option Home))
    → PutsRowHomes at targets (length targets) old new → PutsHomes at (Vector columns targets terms) old new
all-rows at columns targets terms old new so = record {
  long = so.long;
  none = λ x e. let at = so.none x e in
      (at.0, none-any x targets (λ row there. at.1 row (slice_get_within targets row x there) there));
  some = so.some;
}

module _ (tables : List Table) (section : Section) where
  -- a home that is found stays one
  stays : (n m x : ℕ) (home : Home) → IsHome tables section n x (Some home) → IsHome tables section m x (Some home)
  stays n m x (Whole at) is = is
  stays n m x (Row at row) is = is

  -- what a table of the section defines has its home there
  of-part : (n at x : ℕ) (its : Section) (grid : Grid) (home : Home) → slice_get tables at ≡ Some (record { section = its; grid = grid })
      → is_section its section ≡ true
      → IsPart at grid x home → IsHome tables section n x (Some home)
  of-part n at x its (Normal target columns rows terms) home there own part =
      subst (λ h. IsHome tables section n x (Some h)) (sym part.1) (record {
        table = record {
          table = record { section = its; grid = Normal target columns rows terms };
          there = there;
          is_for_it = and_from (is_section its section) (target == x) own (eq-eqb target x part.0);
        };
        whole = tt;
      })
  of-part n at x its (Inverted target terms rows grid) home there own part =
      subst (λ h. IsHome tables section n x (Some h)) (sym part.1) (record {
        table = record {
          table = record { section = its; grid = Inverted target terms rows grid };
          there = there;
          is_for_it = and_from (is_section its section) (target == x) own (eq-eqb target x part.0);
        };
        whole = tt;
      })
  of-part n at x its (Vector columns targets terms) home there own part =
      subst (λ h. IsHome tables section n x (Some h)) (sym part.2) (record {
        columns = columns;
        targets = targets;
        terms = terms;
        there = there ∙ ap (λ (s : Section). Some (record { section = s; grid = Vector columns targets terms })) (same_section its section own);
        target = part.1;
      })

  -- one more table of the section
  pub one-table : (at : ℕ) (table : Table) (old new : List (Option Home)) → slice_get tables at ≡ Some table
      → is_section table.section section ≡ true
      → PutsHomes at table.grid old new → AreHomes tables section at old → AreHomes tables section (at + 1) new
  one-table at table old new there own notes so x None is = λ k t below here. ⊎_elim
      (λ less. so x None (notes.none x is).0 k t less here)
      (λ most. let same : k ≡ at = omega (arith, below, most) in
      subst (λ (u : Table). IsFalse (is_for section x u)) (same_Some table t (sym there ∙ ap (slice_get tables) (sym same) ∙ here))
      (none-of (is_section table.section section) (defines table.grid x) (notes.none x is).1))
      (cases_lt k at)
    where
      none-of : (a b : Bool) → b ≡ false → (a && b) ≡ false
      none-of true b e = e
      none-of false b e = refl
  one-table at table old new there own notes so x (Some home) is = ⊎_elim
      (λ kept. stays at (at + 1) x home (so x (Some home) kept))
      (λ part. of-part (at + 1) at x table.section table.grid home there own part)
      (notes.some x home is)

  -- a table of another section
  pub other-table : (at : ℕ) (table : Table) (homes : List (Option Home)) → slice_get tables at ≡ Some table
      → is_section table.section section ≡ false
      → AreHomes tables section at homes → AreHomes tables section (at + 1) homes
  other-table at table homes there other so x None is = λ k t below here. ⊎_elim
      (λ less. so x None is k t less here)
      (λ most. let same : k ≡ at = omega (arith, below, most) in
      subst (λ (u : Table). IsFalse (is_for section x u)) (same_Some table t (sym there ∙ ap (slice_get tables) (sym same) ∙ here))
      (λ i. other i && defines table.grid x))
      (cases_lt k at)
  other-table at table homes there other so x (Some home) is = stays at (at + 1) x home (so x (Some home) is)

-- a variable that the section defines has a home
pub has-home : (S : Tables) (section : Section) (x : ℕ) (o : Option Home) → IsTrue (is_of S.vars (defined_kinds section) x) → o ≡ None
    → IsHome S.tables section (length S.tables) x o → ⊥
has-home S section x o own none is = true≢false (sym (S.sound.has_table section x own) ∙ no-table S.tables (λ at table there.
    subst (IsHome S.tables section (length S.tables) x) none is at table (slice_get_within S.tables at table there) there))
  where
    no-table : (tables : List Table) → ((at : ℕ) (table : Table) → slice_get tables at ≡ Some table → is_for section x table ≡ false)
        → list_any (is_for section x) tables ≡ false
    no-table [] h = refl
    no-table (t ∷ tables) h = (λ i. h 0 t refl i || list_any (is_for section x) tables) ∙ no-table tables (λ at. h (suc at))
