-- A row filled with the values of a section's tables is the image of the row that they look at.
use Rattle.std.proofs.Common.{◌≡◌, ◌∙◌, sym, subst, refl, ℕ, zero, suc, ◌<◌, ℤ, true, List, [], ◌∷◌, length, slice_index_or, arith}
use Rattle.std.proofs.Common.{true≢false}
use Rattle.std.specs.Prelude.{IsTrue}
use Rattle.std.specs.List.{flat_map}
use Rattle.ft_base.specs.Interval.{IsWithin}
use Rattle.ft_core.specs.declared.tables.Tables.{Tables}
use Rattle.ft_core.specs.declared.tables.Var.{Var}
use Rattle.ft_core.specs.declared.tables.Section.{Section}
use Rattle.ft_core.specs.meaning.Kinds.{Kinds, count_of, defined_kinds}
use Rattle.ft_core.specs.meaning.Reads.{Read, at_now, at_before, of_memory, of_age, cell_reads}
use Rattle.ft_mean.specs.meaning.Cells.{Follows, defined}
use Rattle.ft_mean.specs.meaning.Fits.{Maps}
use Rattle.ft_mean.specs.meaning.Memory.{look}
use Rattle.ft_mean.specs.meaning.Proper.{AllProper}
use Rattle.ft_mean.specs.meaning.Reading.{IsListOf, IsVar, reading_of}
use Rattle.ft_mean.specs.meaning.Value.{View}
use Rattle.ft_mean.specs.laws.EvaluationLaws.{Same, AllSame}
use Rattle.ft_mean.specs.laws.TableLaws.{OneValue}
use Rattle.ft_core.specs.checked.Sound.{may_read, now_of}
use Rattle.ft_scan.proofs.PlaceLemmas.{same_image}
use Rattle.ft_scan.specs.steps.Rows.{row_view, HasValues, AreValues}
use Rattle.ft_scan.specs.laws.Laws.{Laws}

module _ (L : Laws) (S : Tables) (proper : AllProper S) (section : Section) (kinds : Kinds)
    (reads : (r : Read) → may_read S.vars S.memories section r ≡ true → now_of S.vars kinds r ≡ true)
    (row : List ℤ) (given : IsListOf S kinds (row ∷ [])) where
  abbrev V : View
  V = row_view S kinds row [] true

  abbrev W : View
  W = look S (reading_of S kinds (row ∷ [])) 0

  same_read : (r : Read) → now_of S.vars kinds r ≡ true → Same V W r
  same_read (at_now x) on = refl
  same_read (at_before x) on = absurd (true≢false (sym on))
  same_read (of_memory m) on = absurd (true≢false (sym on))
  same_read (of_age m) on = absurd (true≢false (sym on))

  same_value : (x : ℕ) (v : Var) → IsVar S (defined_kinds section) x v → (z : ℤ) → defined S section V x z ≡ defined S section W x z
  same_value x v is z =
      let o = L.has_table S section x v is in
      L.same_defined S section V W x z (subst (λ cs. AllSame V W (flat_map cell_reads cs)) (sym o.cells_are) (λ r c. same_read r (reads r
      (subst (λ z. may_read S.vars S.memories z r ≡ true) o.section_is
      (S.sound.tables_read o.place o.table r o.there (L.own_reads o.table.grid x r c))))))

  answer_at : (x : ℕ) (v : Var) → IsVar S (defined_kinds section) x v → OneValue S section W x v.range
  answer_at x v is = L.one_value S proper section W x v is
      (λ k table there own. L.local S (reading_of S kinds (row ∷ [])) 0
      (λ j y u l e. L.in_range S kinds (row ∷ []) given j y u (omega (arith, l)) e) _)

  pub has_values : HasValues S section V
  has_values x v is = let one = answer_at x v is in (one.z, same_value x v is one.z ∙ one.is)

  module _ (image : List ℤ) (width : length image ≡ count_of (defined_kinds section) S.vars) (values : AreValues S section V image) where
    only : (P : ℕ → Type 0) → P 0 → (t : ℕ) → t < 1 → P t
    only P p zero l = p
    only P p (suc t) l = absurd (omega (arith, l))

    -- the image of the kinds that the section defines
    abbrev told : Kinds → ℕ → ℕ → ℤ
    told k = reading_of S k (image ∷ [])

    holds : (x : ℕ) (v : Var) → IsVar S (defined_kinds section) x v → IsTrue (defined S section W x (told (defined_kinds section) 0 x))
    holds x v is = subst (λ z. IsTrue (defined S section W x z)) (sym (L.at_place S (defined_kinds section) (image ∷ []) 0 x v is))
        (sym (same_value x v is _) ∙ values x v is)

    is_list : IsListOf S (defined_kinds section) (image ∷ [])
    is_list = record {
      widths = λ t l. only (λ t. length (slice_index_or (image ∷ []) t []) ≡ count_of (defined_kinds section) S.vars) width t l;
      ranges = λ t x v l is. only (λ t. IsWithin v.range (told (defined_kinds section) t x))
          (let one = answer_at x v is in subst (λ z. IsWithin v.range z) (sym (one.only _ (holds x v is))) one.in_range) t l;
    }

    follows : (t : ℕ) → t < 1 → Follows S section (look S (reading_of S kinds (row ∷ [])) t) (told (defined_kinds section) t)
    follows t l x v is = only (λ t. IsTrue (defined S section (look S (reading_of S kinds (row ∷ [])) t) x
        (told (defined_kinds section) t x))) (holds x v is) t l

    pub image_maps : Maps S section kinds (row ∷ []) (image ∷ [])
    image_maps = record {
      lengths = refl;
      values = subst (λ (k : Kinds). IsListOf S k (image ∷ [])) (sym (same_image section)) is_list;
      same_given = λ t x v l is other. absurd (true≢false (sym (subst (λ (k : Kinds). k x v ≡ true) (same_image section) is.1) ∙ other));
      follows = λ t l. subst (λ (k : Kinds). Follows S section (look S (reading_of S kinds (row ∷ [])) t) (told k t))
          (sym (same_image section)) (follows t l);
    }
