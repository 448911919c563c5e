-- What a step asks of a frame, and that what it makes is what it must leave.
use Rattle.std.proofs.Common.{◌≡◌, ◌∙◌, sym, ap, subst, refl, ℕ, ℤ, pos, Bool, true, false, List, [], length, slice_get, slice_index_or}
use Rattle.std.proofs.Common.{slice_set, Option, Some, None, arith, ⊎_elim, true≢false}
use Rattle.std.specs.Prelude.{IsTrue, unwrap_or}
use Rattle.std.specs.List.{list_all}
use Rattle.std.proofs.lemmas.Bool.{and_parts}
use Rattle.std.proofs.lemmas.Option.{none-some, same_Some, slice_get_cases, slice_get_past, unwrap_or-slice_get}
use Rattle.ft_core.specs.declared.tables.Tables.{Tables}
use Rattle.ft_core.specs.declared.tables.Table.{Table}
use Rattle.ft_core.specs.declared.tables.Var.{Var}
use Rattle.ft_core.specs.declared.tables.Side.{Side}
use Rattle.ft_core.specs.declared.tables.Memory.{Memory}
use Rattle.ft_core.specs.declared.tables.Memory.TheVariants.{Held, Hyst}
use Rattle.ft_core.specs.declared.tables.Grid.{Grid}
use Rattle.ft_core.specs.declared.tables.Grid.TheVariants.{Normal, Inverted, Vector}
use Rattle.ft_core.specs.declared.term.Cond.{Cond}
use Rattle.ft_core.specs.declared.term.Term.{Term}
use Rattle.ft_core.specs.meaning.Grids.{cells_for, is_for, term_at}
use Rattle.ft_core.specs.meaning.Kinds.{Kinds, is_of, section_of}
use Rattle.ft_core.specs.checked.Size.{is_sized, is_sized_term, is_sized_grid, is_sized_memory}
use Rattle.ft_mean.specs.meaning.Cells.{defined}
use Rattle.ft_mean.specs.meaning.Value.{View, value}
use Rattle.ft_scan.specs.declared.frame.Frame.{Frame}
use Rattle.ft_scan.specs.declared.frame.Running.{Running}
use Rattle.ft_scan.specs.declared.frame.Running.TheVariants.{Timer, Band}
use Rattle.ft_scan.specs.steps.Found.{IsFound, IsOpenColumn}
use Rattle.ft_scan.specs.steps.Frame.{view_of, IsFrameOf, IsRunOf, Advances, HasColumn, FindsColumn, HasCell, HasEntry, FindsEntry}
use Rattle.ft_scan.specs.steps.Plan.{IsVector}
use Rattle.ft_mean.specs.judge.Safe.{KeepsSizes, IsSafe, IsSafeBy, IsSafeGrid, IsSafeMemory}
use Rattle.ft_scan.specs.steps.Stepping.{sample_of, CanHear, Hears}
use Rattle.ft_scan.proofs.FoundLemmas.{inside}
use Rattle.ft_scan.proofs.RowLemmas.{value_size, no_age}
use Rattle.ft_scan.proofs.TableLemmas.{all_at, for_it, grid_safe, found_defined, found_none}
use Rattle.ft_scan.specs.laws.Laws.{Laws}

-- a list of numbers has 0 at each place where another of its length has nothing
past_end : {X : Type 0} (xs : List X) (ys : List ℤ) (x : ℕ) → length ys ≡ length xs → slice_get xs x ≡ None → slice_index_or ys x (pos 0)
    ≡ pos 0
past_end xs ys x same none = ⊎_elim
    (λ there. absurd (none-some there.0 (sym none ∙ there.2)))
    (λ out. sym (unwrap_or-slice_get ys x (pos 0)) ∙ ap (λ o. unwrap_or o (pos 0)) (slice_get_past ys x (omega (arith, out.0, same))))
    (slice_get_cases xs x).1

module _ (S : Tables) (frame : Frame) (is : IsFrameOf S frame) where
  pub frame_keeps : KeepsSizes S.vars S.memories (view_of frame)
  frame_keeps = record {
    now = value_size S.vars (λ x. slice_index_or frame.now x (pos 0)) is.now_in_range (λ x none. past_end S.vars frame.now x is.now none);
    before = value_size S.vars (λ x. slice_index_or frame.past x (pos 0)) is.past_in_range
        (λ x none. past_end S.vars frame.past x is.past none);
    age = λ m. no_age (slice_get S.memories m);
  }

  pub table_safe : (place : ℕ) (table : Table) → slice_get S.tables place ≡ Some table → IsSafeGrid (view_of frame) table.grid
  table_safe place table there = grid_safe S place table there (view_of frame) frame_keeps

  pub memory_safe : (place : ℕ) (memory : Memory) → slice_get S.memories place ≡ Some memory → IsSafeMemory (view_of frame) memory
  memory_safe place memory there = record {
    vars = S.vars;
    memories = S.memories;
    keeps = frame_keeps;
    small = all_at (is_sized_memory S.vars S.memories) S.memories place memory S.sound.sized_memories there;
  }

-- the table at the place of a vector table is that one
grid_at : (S : Tables) (s : Side) (place : ℕ) (table : Table) (columns : List Cond) (targets : List ℕ) (terms : List (List Term))
    → slice_get S.tables place ≡ Some table
    → IsVector S s place columns targets terms → table.grid ≡ Vector columns targets terms
grid_at S s place table columns targets terms there vector = ap (λ (t : Table). t.grid) (same_Some table _ (sym there ∙ vector))

module _ (S : Tables) (s : Side) (place : ℕ) (table : Table) (there : slice_get S.tables place ≡ Some table) (frame : Frame) where
  pub has_open : HasColumn S s place frame → (at : ℕ) × IsOpenColumn (view_of frame) table.grid at
  has_open has = (
    has.column,
    subst (λ g. IsOpenColumn (view_of frame) g has.column) (sym (grid_at S s place table has.columns has.targets has.terms there has.there))
        (has.condition, has.at, has.holds),
  )

  pub column_found : (column : ℕ) (columns : List ℕ) → IsOpenColumn (view_of frame) table.grid column → columns
      ≡ slice_set frame.columns place column
      → HasColumn S s place frame
      → FindsColumn S s place frame (record {
        now = frame.now;
        past = frame.past;
        truths = frame.truths;
        columns = columns;
        runs =
            frame.runs;
      })
  column_found column columns held_at put has =
      let held = subst (λ g. IsOpenColumn (view_of frame) g column) (grid_at S s place table has.columns has.targets has.terms there
      has.there) held_at in
      record {
        columns = has.columns;
        targets = has.targets;
        terms = has.terms;
        there = has.there;
        column = column;
        condition = held.0;
        at = held.1;
        holds = held.2;
        leaves = λ i. record { now = frame.now; past = frame.past; truths = frame.truths; columns = put i; runs = frame.runs };
      }

  module _ (row column : ℕ) (is : slice_index_or frame.columns place 0 ≡ column) where
    entry_at : (has : HasEntry S s place row frame) → term_at table.grid row column ≡ Some has.term
    entry_at has = subst (λ g. term_at g row column ≡ Some has.term)
        (sym (grid_at S s place table has.columns has.targets has.terms there has.there))
        (ap (slice_get (slice_index_or has.terms row [])) (sym is) ∙ has.at)

    pub has_entry : HasEntry S s place row frame → (e : Term) × (term_at table.grid row column ≡ Some e)
    has_entry has = (has.term, entry_at has)

    pub entry_found : (variable : ℕ) (z : ℤ) (now : List ℤ)
        → ((e : Term) → term_at table.grid row column ≡ Some e → z ≡ value (view_of frame) e)
        → now ≡ slice_set frame.now variable z → HasEntry S s place row frame
        → FindsEntry S s variable place row frame (record {
          now = now;
          past = frame.past;
          truths = frame.truths;
          columns =
              frame.columns;
          runs = frame.runs;
        })
    entry_found variable z now value_is put has =
        let all = put ∙ ap (slice_set frame.now variable) (value_is has.term (entry_at has)) in
        record {
          columns = has.columns;
          targets = has.targets;
          terms = has.terms;
          there = has.there;
          term = has.term;
          at = has.at;
          leaves = λ i. record { now = all i; past = frame.past; truths = frame.truths; columns = frame.columns; runs = frame.runs };
        }

-- the table of a variable has a cell for it that holds, and gives its value
module _ (L : Laws) (S : Tables) (s : Side) (place : ℕ) (table : Table) (there : slice_get S.tables place ≡ Some table)
    (frame : Frame) (x : ℕ) (has : HasCell S s x place frame) where
  mine : IsTrue (is_for (section_of s) x table)
  mine = for_it S.tables (section_of s) x place has.there table there

  pub cell_missed : IsFound (view_of frame) (cells_for x table.grid) None → ⊥
  cell_missed none = (found_none L) S (section_of s) x place table there mine (view_of frame) has.z none has.is

  pub cell_found : (z : ℤ) → IsFound (view_of frame) (cells_for x table.grid) (Some z)
      → IsTrue (defined S (section_of s) (view_of frame) x z)
  cell_found z found = (found_defined L) S (section_of s) x place table there mine (view_of frame) z found

-- what is safe by a test is safe by one that follows from it
by_less : {V : View} {test other : List Var → List Memory → Bool} → ((vars : List Var) (memories : List Memory)
    → IsTrue (test vars memories) → IsTrue (other vars memories))
    → IsSafeBy V test → IsSafeBy V other
by_less h s = record { vars = s.vars; memories = s.memories; keeps = s.keeps; small = h s.vars s.memories s.small }

-- a term of a safe table is safe
term_passes : (test : Term → Bool) (terms : List (List Term)) (row column : ℕ) (e : Term)
    → slice_get (slice_index_or terms row []) column ≡ Some e → list_all (list_all test) terms ≡ true → test e ≡ true
term_passes test terms row column e there all =
    all_at test (slice_index_or terms row []) column e
    (all_at (list_all test) terms row (slice_index_or terms row []) all (inside terms row column e there)) there

term_sized : (vars : List Var) (memories : List Memory) (grid : Grid) (row column : ℕ) (e : Term) → term_at grid row column ≡ Some e
    → IsTrue (is_sized_grid vars memories grid) → IsTrue (is_sized_term vars memories e)
term_sized vars memories (Normal target columns rows terms) row column e there sized =
    term_passes (is_sized_term vars memories) terms row column e there
    (and_parts _ (list_all (list_all (is_sized_term vars memories)) terms) sized).1
term_sized vars memories (Inverted target terms rows grid) row column e there sized =
    all_at (is_sized_term vars memories) terms column e
    (and_parts (list_all (is_sized_term vars memories) terms) _
    (and_parts _ (list_all (list_all (is_sized vars memories)) grid) sized).0).0 there
term_sized vars memories (Vector columns targets terms) row column e there sized =
    term_passes (is_sized_term vars memories) terms row column e there
    (and_parts _ (list_all (list_all (is_sized_term vars memories)) terms) sized).1

pub term_safe : (V : View) (grid : Grid) (row column : ℕ) (e : Term) → term_at grid row column ≡ Some e → IsSafeGrid V grid → IsSafe V e
term_safe V grid row column e there = by_less (λ vars memories. term_sized vars memories grid row column e there)

-- the variable at a place that passes a test of kinds
pub of_kinds : (vars : List Var) (kinds : Kinds) (x : ℕ) → IsTrue (is_of vars kinds x) → (v : Var) × (slice_get vars x ≡ Some v)
    × IsTrue (kinds x v)
of_kinds vars kinds x = of (slice_get vars x) refl
  where
    of : (o : Option Var) → slice_get vars x ≡ o → elim o as (λ z. Bool) [ None ↦ false | Some v ↦ kinds x v ] ≡ true
        → (v : Var) × (slice_get vars x ≡ Some v) × IsTrue (kinds x v)
    of None e t = absurd (true≢false (sym t))
    of (Some v) e t = (v, e, t)

-- a memory's sample suits it as it runs
pub can_hear : (V : View) (period : ℤ) (memory : Memory) (run : Running) → IsRunOf period memory run → CanHear run (sample_of V memory)
can_hear V period (Held name s c hold) (Timer t) is = tt
can_hear V period (Hyst name s e lo hi start) (Band b) is = tt
can_hear V period (Held name s c hold) (Band b) is = absurd is
can_hear V period (Hyst name s e lo hi start) (Timer t) is = absurd is

-- what goes on with its sample goes on as the memory
pub hears_advances : (V : View) (memory : Memory) (run next : Running) (says : Bool) → Hears run (sample_of V memory) next says
    → Advances V memory run next says
hears_advances V (Held name s c hold) (Timer t) (Timer u) says is = is
hears_advances V (Hyst name s e lo hi start) (Band b) (Band u) says is = is
hears_advances V (Held name s c hold) (Timer t) (Band u) says is = absurd is
hears_advances V (Held name s c hold) (Band t) (Timer u) says is = absurd is
hears_advances V (Held name s c hold) (Band t) (Band u) says is = absurd is
hears_advances V (Hyst name s e lo hi start) (Timer t) (Timer u) says is = absurd is
hears_advances V (Hyst name s e lo hi start) (Timer t) (Band u) says is = absurd is
hears_advances V (Hyst name s e lo hi start) (Band t) (Timer u) says is = absurd is
