-- Tests that compute, and together show that a set is sound.
use Rattle.std.proofs.Common.{◌≡◌, sym, subst, refl, ℕ, zero, suc, ◌+◌, ◌<◌, ◌≤◌, ℤ, pos, int_lt, Bool, true, false, not, ◌&&◌, ◌||◌}
use Rattle.std.proofs.Common.{List, [], ◌∷◌, ◌++◌, length, slice_get, slice_index_or, Some, None, Option, arith, true≢false, ⊎_elim}
use Rattle.std.specs.Prelude.{◌==◌, if◌then◌else◌}
use Rattle.std.specs.List.{Contains, flat_map, list_all, list_any}
use Rattle.std.proofs.lemmas.Int.{ints}
use Rattle.std.proofs.lemmas.Bool.{and_parts, and_from, or_cases, or_left, or_right}
use Rattle.std.proofs.lemmas.Bool.Decides.{Decides-eqb}
use Rattle.ft_core.specs.declared.tables.Table.{Table}
use Rattle.ft_core.specs.declared.tables.Var.{Var}
use Rattle.ft_core.specs.declared.tables.Memory.{Memory}
use Rattle.ft_core.specs.declared.tables.Memory.TheVariants.{Held, Hyst}
use Rattle.ft_core.specs.declared.tables.Section.{Section}
use Rattle.ft_core.specs.declared.tables.Section.TheVariants as section
use Rattle.ft_core.specs.declared.tables.Grid.{Grid}
use Rattle.ft_core.specs.declared.tables.Grid.TheVariants.{Normal, Inverted, Vector}
use Rattle.ft_core.specs.declared.term.Cond.{Cond}
use Rattle.ft_core.specs.meaning.Kinds.{Kinds, after_first, monitored, defined_kinds, of_kind, is_of, place_of}
use Rattle.ft_core.specs.meaning.Grids.{cells_for, defines, is_section, is_for, is_shaped}
use Rattle.ft_core.specs.meaning.Reads.{Read, at_now, at_before, of_memory, of_age, cond_reads, memory_reads, grid_reads, cell_reads}
use Rattle.ft_core.specs.checked.Size.{is_sized, is_sized_memory, is_sized_grid}
use Rattle.ft_core.specs.checked.Sound.{IsSound, AllRead, now_of, step_of, side_of, may_read, on_side, is_current, item_reads}
use Rattle.ft_core.specs.laws.Lists.{all_pass, from_one}
use Rattle.ft_core.specs.laws.Ranges.{is_within, within}
use Rattle.ft_worked.proofs.Passes.{each, passes, asked}
use Rattle.ft_worked.proofs.ProperTests.{targets_of}

pub declared : (kinds : Kinds) (test : ℕ → Bool) (vs : List Var) → each (λ x v. test x || not (kinds x v)) vs ≡ true → (x : ℕ)
    → is_of vs kinds x ≡ true → test x ≡ true
declared kinds test [] h x e = absurd (true≢false (sym e))
declared kinds test (v ∷ vs) h zero e = asked (test 0) (kinds 0 v) (and_parts (test 0 || not (kinds 0 v))
    (each (λ x v. test (suc x) || not (kinds (suc x) v)) vs) h).0 e
declared kinds test (v ∷ vs) h (suc x) e =
    declared (after_first kinds) (λ k. test (suc k)) vs (and_parts (test 0 || not (kinds 0 v))
    (each (λ x v. test (suc x) || not (kinds (suc x) v)) vs) h).1 x e

-- whether a test passes for each section
abbrev pub all_sections : (Section → Bool) → Bool
all_sections test = test section.In && (test section.Req && (test section.Sof && test section.Out))

of_section : (test : Section → Bool) → all_sections test ≡ true → (s : Section) → test s ≡ true
of_section test h section.In = (and_parts (test section.In) _ h).0
of_section test h section.Req = (and_parts (test section.Req) _ (and_parts (test section.In) _ h).1).0
of_section test h section.Sof = (and_parts (test section.Sof) _ (and_parts (test section.Req) _ (and_parts (test section.In) _ h).1).1).0
of_section test h section.Out = (and_parts (test section.Sof) _ (and_parts (test section.Req) _ (and_parts (test section.In) _ h).1).1).1

-- whether each of these ranks is below a number
abbrev pub are_below : ℕ → List ℕ → Bool
are_below n ranks = each (λ k a. int_lt (pos a) (pos n)) ranks

rank_below : (n : ℕ) → 0 < n → (ranks : List ℕ) → are_below n ranks ≡ true → (x : ℕ) → slice_index_or ranks x 0 < n
rank_below n some [] h x = some
rank_below n some (a ∷ ranks) h zero = omega (arith, ints, (and_parts (int_lt (pos a) (pos n)) (are_below n ranks) h).0)
rank_below n some (a ∷ ranks) h (suc x) = rank_below n some ranks (and_parts (int_lt (pos a) (pos n)) (are_below n ranks) h).1 x

read-where : (b : Bool) (reads : List Read) (q : Read) → Contains (if b then reads else []) q → (b ≡ true) × Contains reads q
read-where true reads q c = (refl, c)
read-where false reads q c = absurd (omega (arith, c.1))

-- whether a test passes at each of a grid's variables
abbrev pub at_targets : (ℕ → Bool) → Grid → Bool
at_targets test grid = list_all test (targets_of grid)

of_list : (test : ℕ → Bool) (xs : List ℕ) → list_all test xs ≡ true → (x : ℕ) → list_any (λ target. target == x) xs ≡ true → test x ≡ true
of_list test [] h x e = absurd (true≢false (sym e))
of_list test (y ∷ ys) h x e =
    let both = and_parts (test y) (list_all test ys) h in
    ⊎_elim (λ here. subst (λ z. test z ≡ true) ((Decides-eqb y x).0 here) both.0) (λ there. of_list test ys both.1 x there)
    (or_cases (y == x) (list_any (λ target. target == x) ys) e)

pub of_target : (test : ℕ → Bool) (grid : Grid) → at_targets test grid ≡ true → (x : ℕ) → defines grid x ≡ true → test x ≡ true
of_target test (Normal target columns rows terms) h x e = subst (λ z. test z ≡ true) ((Decides-eqb target x).0 e)
    (and_parts (test target) true h).0
of_target test (Inverted target terms rows grid) h x e = subst (λ z. test z ≡ true) ((Decides-eqb target x).0 e)
    (and_parts (test target) true h).0
of_target test (Vector columns targets terms) h x e = of_list test targets h x e

-- whether each variable that a section defines has a table there
abbrev pub have_table : List Var → List Table → Section → Bool
have_table vars tables s = each (λ x v. list_any (is_for s x) tables || not (defined_kinds s x v)) vars

-- whether no two tables define one variable of a section
abbrev pub are_apart : List Table → Section → Bool
are_apart tables s = each (λ k t. each (λ l u. at_targets (λ x. (k == l) || not (is_for s x t && is_for s x u)) t.grid) tables) tables

abbrev pub on_a_side : Table → Bool
on_a_side t = is_section t.section section.Req || is_section t.section section.Sof

-- what the cells for a variable read
abbrev pub own_reads : ℕ → Table → List Read
own_reads x table = flat_map cell_reads (cells_for x table.grid)

abbrev pub keeps_limits : Memory → Bool
keeps_limits (Held name s c hold) = is_within (pos 0, pos 1000000) hold
keeps_limits (Hyst name s e lo hi start) = int_lt lo hi

-- the ranks of the variables and of the memories; what is of no scan or is not there has none
abbrev pub rank : (of_vars of_memories : List ℕ) → Read → ℕ
rank of_vars of_memories (at_now x) = slice_index_or of_vars x 0
rank of_vars of_memories (of_memory m) = slice_index_or of_memories m 0
rank of_vars of_memories _ = 0

-- whether what is read at the same scan has a lower rank
abbrev pub is_lower : (of_vars of_memories : List ℕ) → ℕ → Read → Bool
is_lower of_vars of_memories level q = int_lt (pos (rank of_vars of_memories q)) (pos level) || not (is_current q)

-- what a table of a side reads at the same scan for a variable has a lower rank than the variable
abbrev pub table_falls : (of_vars of_memories : List ℕ) → Table → Bool
table_falls of_vars of_memories t =
    at_targets (λ x. list_all (is_lower of_vars of_memories (rank of_vars of_memories (at_now x))) (own_reads x t)) t.grid
    || not (on_a_side t)

-- the tests, with ranks for the variables and the memories
pub record Passes (period : ℤ) (vars : List Var) (memories : List Memory) (tables : List Table) (first always step : List Cond)
    (of_vars of_memories : List ℕ) : Type 0 where
  pub some_vars : 0 < length vars + length memories
  pub few_vars : length vars ≤ 1100
  pub few_memories : length memories ≤ 200
  pub few_tables : length tables ≤ 400
  pub period_fits : is_within (pos 1, pos 10000) period ≡ true
  pub places : each (λ x v. v.place == place_of (of_kind v.kind) vars x) vars ≡ true
  pub inits : each (λ x v. is_within v.range v.init) vars ≡ true
  pub limits : each (λ m memory. keeps_limits memory) memories ≡ true
  pub shapes : list_all (λ table. is_shaped table.grid) tables ≡ true
  pub sized_memories : list_all (is_sized_memory vars memories) memories ≡ true
  pub sized_tables : list_all (λ table. is_sized_grid vars memories table.grid) tables ≡ true
  pub few_clauses : length (first ++ always ++ step) ≤ 700
  pub sized_clauses : list_all (is_sized vars memories) (first ++ always ++ step) ≡ true
  pub first_read : each (λ k c. list_all (now_of vars monitored) (cond_reads c)) first ≡ true
  pub always_read : each (λ k c. list_all (now_of vars monitored) (cond_reads c)) always ≡ true
  pub step_read : each (λ k c. list_all (step_of vars monitored) (cond_reads c)) step ≡ true
  pub tables_read : each (λ k table. list_all (may_read vars memories table.section) (grid_reads table.grid)) tables ≡ true
  pub memories_read : each (λ m memory. list_all (on_side vars memories (side_of memory)) (memory_reads (Some memory))) memories ≡ true
  pub has_table : all_sections (λ s. have_table vars tables s) ≡ true
  pub apart : all_sections (λ s. are_apart tables s) ≡ true
  pub vars_below : are_below (length vars + length memories) of_vars ≡ true
  pub memories_below : are_below (length vars + length memories) of_memories ≡ true
  pub tables_fall : each (λ k t. table_falls of_vars of_memories t) tables ≡ true
  pub memories_fall : each (λ m memory. list_all (is_lower of_vars of_memories (rank of_vars of_memories (of_memory m)))
      (memory_reads (Some memory))) memories ≡ true

all_read : (may : Read → Bool) (conds : List Cond) → each (λ k c. list_all may (cond_reads c)) conds ≡ true → AllRead may conds
all_read may conds h k c r e n = all_pass may (cond_reads c) (passes (λ k c. list_all may (cond_reads c)) conds h k c e) r n

module _ (period : ℤ) (vars : List Var) (memories : List Memory) (tables : List Table) (first always step : List Cond)
    (of_vars of_memories : List ℕ)
    (P : Passes period vars memories tables first always step of_vars of_memories) where
  abbrev level : Read → ℕ
  level = rank of_vars of_memories

  one_table : (s : Section) (x k l : ℕ) (a b : Table) → slice_get tables k ≡ Some a → slice_get tables l ≡ Some b → is_for s x a ≡ true
      → is_for s x b ≡ true → k ≡ l
  one_table s x k l a b ea eb fa fb =
      let tested = passes (λ l u. at_targets (λ x. (k == l) || not (is_for s x a && is_for s x u)) a.grid) tables
      (passes (λ k t. each (λ l u. at_targets (λ x. (k == l) || not (is_for s x t && is_for s x u)) t.grid) tables) tables
      (of_section (are_apart tables) P.apart s) k a ea) l b eb in
      let here = of_target (λ x. (k == l) || not (is_for s x a && is_for s x b)) a.grid tested x
      (and_parts (is_section a.section s) (defines a.grid x) fa).1 in
      (Decides-eqb _ _).0 (asked (k == l) (is_for s x a && is_for s x b) here (and_from (is_for s x a) (is_for s x b) fa fb))

  bounded : (r : Read) → level r < length vars + length memories
  bounded (at_now x) = rank_below _ P.some_vars of_vars P.vars_below x
  bounded (at_before x) = P.some_vars
  bounded (of_memory m) = rank_below _ P.some_vars of_memories P.memories_below m
  bounded (of_age m) = P.some_vars

  lower : (at : ℕ) (reads : List Read) → list_all (is_lower of_vars of_memories at) reads ≡ true → (q : Read) → Contains reads q
      → is_current q ≡ true → level q < at
  lower at reads h q c now =
      let below : int_lt (pos (level q)) (pos at) ≡ true = asked (int_lt (pos (level q)) (pos at)) (is_current q)
      (all_pass (is_lower of_vars of_memories at) reads h q c) now in
      omega (arith, ints, below)

  of_table : (x k : ℕ) (t : Table) (q : Read) → is_current q ≡ true → slice_get tables k ≡ Some t
      → (is_for section.Req x t || is_for section.Sof x t) ≡ true
      → Contains (own_reads x t) q → level q < level (at_now x)
  of_table x k t q now e is c =
      let here : (on_a_side t ≡ true) × (defines t.grid x ≡ true) = ⊎_elim
      (λ l. let i = and_parts (is_section t.section section.Req) (defines t.grid x) l in
      (or_left _ (is_section t.section section.Sof) i.0, i.1))
      (λ r. let i = and_parts (is_section t.section section.Sof) (defines t.grid x) r in
      (or_right (is_section t.section section.Req) _ i.0, i.1))
      (or_cases (is_for section.Req x t) (is_for section.Sof x t) is) in
      let test : ℕ → Bool = λ x. list_all (is_lower of_vars of_memories (level (at_now x))) (own_reads x t) in
      lower (level (at_now x)) (own_reads x t) (of_target test t.grid
      (asked (at_targets test t.grid) (on_a_side t)
      (passes (λ k t. table_falls of_vars of_memories t) tables P.tables_fall k t e) here.0) x here.1) q c now

  memory_falls : (m : ℕ) (q : Read) → Contains (memory_reads (slice_get memories m)) q → is_current q ≡ true
      → level q < level (of_memory m)
  memory_falls m q c now = at (slice_get memories m) refl c
    where
      at : (found : Option Memory) → slice_get memories m ≡ found → Contains (memory_reads found) q → level q < level (of_memory m)
      at None e c = absurd (omega (arith, c.1))
      at (Some memory) e c = lower (level (of_memory m)) (memory_reads (Some memory))
          (passes (λ m memory. list_all (is_lower of_vars of_memories (level (of_memory m)))
          (memory_reads (Some memory))) memories P.memories_fall m memory e) q c now

  falls : (r q : Read) → Contains (item_reads memories tables r) q → is_current q ≡ true → level q < level r
  falls (at_before x) q c now = absurd (omega (arith, c.1))
  falls (of_age m) q c now = absurd (omega (arith, c.1))
  falls (of_memory m) q c now = memory_falls m q c now
  falls (at_now x) q c now =
      let at = from_one (λ t. if is_for section.Req x t || is_for section.Sof x t then own_reads x t else []) tables q c in
      let there = read-where (is_for section.Req x at.1 || is_for section.Sof x at.1) (own_reads x at.1) q at.3 in
      of_table x at.0 at.1 q now at.2 there.0 there.1

  pub sound_by : IsSound period vars memories tables first always step
  sound_by = record {
    few_vars = P.few_vars;
    few_memories = P.few_memories;
    few_tables = P.few_tables;
    few_clauses = P.few_clauses;
    places = λ x v e. (Decides-eqb _ _).0 (passes (λ x v. v.place == place_of (of_kind v.kind) vars x) vars P.places x v e);
    shapes = P.shapes;
    has_period = within (pos 1, pos 10000) period P.period_fits;
    inits = λ x v e. within v.range v.init (passes (λ x v. is_within v.range v.init) vars P.inits x v e);
    timers = λ m name s c hold e. within (pos 0, pos 1000000) hold (passes (λ m memory. keeps_limits memory) memories P.limits m
        (Held name s c hold) e);
    bands = λ m name s e lo hi start there.
        let apart : int_lt lo hi ≡ true = passes (λ m memory. keeps_limits memory) memories P.limits m
        (Hyst name s e lo hi start) there in omega (arith, ints, apart);
    sized_memories = P.sized_memories;
    sized_tables = P.sized_tables;
    sized_clauses = P.sized_clauses;
    tables_read = λ k table r e c. all_pass (may_read vars memories table.section) (grid_reads table.grid)
        (passes (λ k table. list_all (may_read vars memories table.section) (grid_reads table.grid)) tables P.tables_read k table e) r c;
    memories_read = λ m memory r e c. all_pass (on_side vars memories (side_of memory)) (memory_reads (Some memory))
        (passes (λ m memory. list_all (on_side vars memories (side_of memory))
        (memory_reads (Some memory))) memories P.memories_read m memory e) r c;
    first_reads = all_read (now_of vars monitored) first P.first_read;
    always_reads = all_read (now_of vars monitored) always P.always_read;
    step_reads = all_read (step_of vars monitored) step P.step_read;
    has_table = λ s. declared (defined_kinds s) (λ x. list_any (is_for s x) tables) vars
        (of_section (have_table vars tables) P.has_table s);
    one_table = one_table;
    order = ∣ (level, record { bounded = bounded; falls = falls }) ∣₁;
  }
