-- Tables put values into a row, one after another, until each variable of a section has its own.
use Rattle.std.proofs.Common.{◌≡◌, ◌∙◌, sym, ap, subst, refl, ℕ, ◌+◌, ◌<◌, ◌≤◌, ℤ, pos, Bool, cond, ◌||◌, List, length, length-set, take}
use Rattle.std.proofs.Common.{get_or, slice_set, arith, ⊎_elim, true≢false}
use Rattle.std.specs.Prelude.{IsTrue, ◌==◌}
use Rattle.std.specs.List.{list_any}
use Rattle.std.proofs.lemmas.Bool.{cases_Bool, cond-true, cond-false, or_cases, or_parts, eq-eqb, eqb-true}
use Rattle.std.proofs.lemmas.List.{get_or-set_other, get_or-set_same, take_all}
use Rattle.std.proofs.lemmas.List.Folds.{list_any_more}
use Rattle.ft_core.specs.declared.tables.Tables.{Tables}
use Rattle.ft_core.specs.declared.tables.Var.{Var}
use Rattle.ft_core.specs.declared.tables.Section.{Section}
use Rattle.ft_core.specs.meaning.Grids.{is_for}
use Rattle.ft_core.specs.meaning.Kinds.{Kinds, count_of, defined_kinds, is_of, place_of}
use Rattle.ft_mean.specs.meaning.Cells.{defined}
use Rattle.ft_mean.specs.meaning.Reading.{IsVar}
use Rattle.ft_mean.specs.meaning.Value.{View}
use Rattle.ft_scan.specs.steps.Mapping.{IsFilled}
use Rattle.ft_scan.specs.steps.Rows.{AreValues, row_value}
use Rattle.ft_scan.proofs.FrameLemmas.{of_kinds}
use Rattle.ft_scan.proofs.ListedLemmas.{of_var}
use Rattle.ft_core.specs.laws.VarPlaces.{other-place}
use Rattle.ft_scan.specs.laws.Laws.{Laws}

module _ (L : Laws) (S : Tables) (section : Section) (V : View) where
  abbrev kinds : Kinds
  kinds = defined_kinds section

  -- nothing is put where no variable of the section passes the test
  pub nothing : (test : ℕ → Bool) (row : List ℤ) → ((x : ℕ) (v : Var) → IsVar S kinds x v → IsTrue (test x) → ⊥)
      → IsFilled S section V test row row
  nothing test row none = record { width = refl; filled = λ x v is passes. absurd (none x v is passes); rest = λ x v is fails. refl }

  -- a value that is one of a variable of the section is put at its place
  one_put : (x : ℕ) (z : ℤ) (old : List ℤ) → length old ≡ count_of kinds S.vars → (v : Var) → IsVar S kinds x v
      → IsTrue (defined S section V x z)
      → IsFilled S section V (λ y. x == y) old (slice_set old (place_of kinds S.vars x) z)
  one_put x z old room v is value = record {
    width = length-set old (place_of kinds S.vars x) z;
    filled = λ y w there same. subst (λ k. IsTrue (defined S section V k
        (row_value S section (slice_set old (place_of kinds S.vars x) z) k))) (eqb-true x y same)
        (subst (λ k. IsTrue (defined S section V x k))
        (sym (get_or-set_same old (place_of kinds S.vars x) z (pos 0) (let below = L.inside S kinds x v is in omega (arith, below, room))))
        value);
    rest = λ y w there differs. get_or-set_other old (place_of kinds S.vars x) (place_of kinds S.vars y) z (pos 0)
        (λ same. other-place kinds S.vars y x w v there.0 is.0 there.1 is.1 (λ e. true≢false (sym (eq-eqb x y (sym e)) ∙ differs)) same);
  }

  -- the value of a variable is put, if the section defines it
  pub one_filled : (x : ℕ) (z : ℤ) (old new : List ℤ) → length old ≡ count_of kinds S.vars
      → ((v : Var) → IsVar S kinds x v → IsTrue (defined S section V x z))
      → new ≡ cond (is_of S.vars kinds x) (slice_set old (place_of kinds S.vars x) z) old → IsFilled S section V (λ y. x == y) old new
  one_filled x z old new room value is = ⊎_elim
      (λ its.
      let v = of_kinds S.vars kinds x its in
      subst (λ row. IsFilled S section V (λ y. x == y) old row) (sym (is
      ∙ cond-true (is_of S.vars kinds x) (slice_set old (place_of kinds S.vars x) z) old its))
      (one_put x z old room v.0 (v.1, v.2) (value v.0 (v.1, v.2))))
      (λ not_its. subst (λ row. IsFilled S section V (λ y. x == y) old row)
      (sym (is ∙ cond-false (is_of S.vars kinds x) (slice_set old (place_of kinds S.vars x) z) old not_its))
      (nothing (λ y. x == y) old (λ y w there same.
      true≢false (sym (ap (is_of S.vars kinds) (eqb-true x y same) ∙ of_var kinds S.vars y w there.0 ∙ there.1) ∙ not_its))))
      (cases_Bool (is_of S.vars kinds x))

  -- what is put later has its value too
  both_filled : (one other both : ℕ → Bool) (old mid new : List ℤ) → ((x : ℕ) → both x ≡ (one x || other x))
      → IsFilled S section V one old mid → IsFilled S section V other mid new → IsFilled S section V both old new
  both_filled one other both old mid new parts first next = record {
    width = next.width ∙ first.width;
    filled = λ x v is passes. ⊎_elim
        (λ later. next.filled x v is later)
        (λ kept. subst (λ z. IsTrue (defined S section V x z)) (sym (next.rest x v is kept))
        (first.filled x v is (⊎_elim (λ sooner. sooner) (λ later. absurd (true≢false (sym later ∙ kept)))
        (or_cases (one x) (other x) (sym (parts x) ∙ passes)))))
        (cases_Bool (other x));
    rest = λ x v is fails. let none = or_parts (one x) (other x) (sym (parts x) ∙ fails) in next.rest x v is none.1
        ∙ first.rest x v is none.0;
  }

  -- one more of a list is put
  pub more_filled : {A : Type 0} (test : A → ℕ → Bool) (items : List A) (n : ℕ) (d : A) (old mid new : List ℤ) → n < length items
      → IsFilled S section V (λ x. list_any (λ a. test a x) (take n items)) old mid → IsFilled S section V (test (get_or items n d)) mid new
      → IsFilled S section V (λ x. list_any (λ a. test a x) (take (n + 1) items)) old new
  more_filled test items n d old mid new below = both_filled (λ x. list_any (λ a. test a x) (take n items)) (test (get_or items n d))
      (λ x. list_any (λ a. test a x) (take (n + 1) items)) old mid new (λ x. list_any_more (λ a. test a x) items n d below)

  -- the whole list was put
  pub whole_filled : {A : Type 0} (test : A → ℕ → Bool) (items : List A) (n : ℕ) (old new : List ℤ) → length items ≤ n
      → IsFilled S section V (λ x. list_any (λ a. test a x) (take n items)) old new
      → IsFilled S section V (λ x. list_any (λ a. test a x) items) old new
  whole_filled test items n old new all = subst (λ some. IsFilled S section V (λ x. list_any (λ a. test a x) some) old new)
      (take_all n items all)

  -- when all tables have put theirs, the row has the value of each variable of the section
  pub all_filled : (old new : List ℤ) → IsFilled S section V (λ x. list_any (is_for section x) S.tables) old new → AreValues S section V new
  all_filled old new filled x v is = filled.filled x v is (S.sound.has_table section x (of_var kinds S.vars x v is.0 ∙ is.1))
