-- One table for each variable in each section, and no target twice.
use Rattle.std.proofs.Common.{◌≡◌, ◌∙◌, sym, ap, subst, refl, inl, inr, ℕ, ◌≤◌, Bool, true, false, ◌&&◌, cond}
use Rattle.std.proofs.Common.{List, [], ◌∷◌, ◌++◌, map, take, slice_get, Some, None, bytes_eq, append-nil, append_assoc, arith}
use Rattle.std.specs.Prelude.{◌==◌}
use Rattle.std.specs.List.{Contains, flat_map, list_any}
use Rattle.std.proofs.lemmas.Bool.{and_from, and_parts, cases_Bool, eq-eqb, eqb-true}
use Rattle.std.proofs.lemmas.Slice.Eq.{bytes_eq-Decides}
use Rattle.ft_tree.specs.declared.item.VRow.{VRow}
use Rattle.ft_tree.specs.declared.item.SectionWord.{SectionWord}
use Rattle.ft_tree.specs.declared.item.Item.{Item}
use Rattle.ft_tree.specs.declared.item.Item.TheVariants as item
use Rattle.ft_core.specs.declared.tables.Grid.TheVariants.{Vector}
use Rattle.ft_core.specs.declared.tables.Section.{Section}
use Rattle.ft_core.specs.declared.tables.Table.{Table}
use Rattle.ft_core.specs.declared.tables.Var.{Var}
use Rattle.ft_core.specs.declared.term.Cond.{Cond}
use Rattle.ft_core.specs.declared.term.Term.{Term}
use Rattle.ft_core.specs.meaning.Grids.{defines, is_for, is_section}
use Rattle.ft_core.specs.meaning.Kinds.{defined_kinds, is_of}
use Rattle.ft_core.specs.checked.Distinct.{AreDistinct}
use Rattle.ft_core.specs.laws.Lists.{from_one, in_all, mapped}
use Rattle.ft_core.specs.laws.Places.{contained, place-of}
use Rattle.ft_core.specs.laws.Sections.{is_for_from, same_section, section_self}
use Rattle.ft_names.specs.declared.card.Card.TheVariants as card
use Rattle.ft_names.specs.meaning.Cards.{Env, count_before, declares_variable, env_of, item_cards, kind_values}
use Rattle.ft_names.specs.meaning.Declared.{listing, names_in}
use Rattle.ft_names.specs.meaning.First.{first_of}
use Rattle.ft_types.specs.meaning.PlaceFaults.{first_mismatch, first_wrong_side}
use Rattle.ft_types.specs.meaning.Sides.{same_section_word}
use Rattle.ft_types.specs.meaning.Targets.{Target, first_lack, first_table_fault, first_twice, in_turn, is_defined, is_target, item_lack}
use Rattle.ft_types.specs.meaning.Targets.{item_targets, targets, twice}
use Rattle.ft_build.specs.meaning.Tables.{build_table, inverted_grid, normal_grid, place_in, row_target}
use Rattle.ft_build.specs.meaning.Tables.{section_of, table_of, variable_place, vector_grid}
use Rattle.ft_build.specs.meaning.Variables.{no_places, var_kind, vars_from}
use Rattle.ft_admit.proofs.forms.Lists.{any-passes, failed, few-times, no-fault, nothing-in, one-more, one-place, only, or-none}
use Rattle.ft_admit.proofs.forms.Lists.{same-self, some-passes, some-times, term-le, times, times-is, total-flat, total-le, total-map}
use Rattle.ft_admit.proofs.forms.Lookups.{carded, one-variable}
use Rattle.ft_admit.proofs.forms.Targets.{IsTarget, defined-kind, map-there, target-is, var-here}
use Rattle.ft_admit.proofs.forms.Variables.{IsDeclared, is-of, of-is, var-from}
use Rattle.ft_admit.proofs.forms.Spelled.{Defines, HasTable, HasTarget, has_kind, kinds-of, lack-none, one-word, same-word}
use Rattle.ft_admit.proofs.forms.Spelled.{table-defines, target-table, word-self}

-- no target stands twice

abbrev Key : Type 0
Key = SectionWord × List ℕ

abbrev keyed : Key → Target → Bool
keyed key t = is_target key.0 key.1 t

abbrev key_of : Target → Key
key_of t = (t.0, t.1.text)

key-agrees : (key : Key) (t : Target) → keyed key t ≡ true → key ≡ key_of t
key-agrees key t is =
    let both = and_parts (same_section_word key.0 t.0) (bytes_eq key.1 t.1.text) is in
    let s = same-word key.0 t.0 both.0 in
    let n = (bytes_eq-Decides key.1 t.1.text).0 both.1 in
    λ i. (s i, n i)

key-self : (t : Target) → keyed (key_of t) t ≡ true
key-self t = and_from (same_section_word t.0 t.0) (bytes_eq t.1.text t.1.text) (word-self t.0) (same-self t.1.text)

not-defined : (before : List Target) (t : Target) → twice (before, t) ≡ None → list_any (keyed (key_of t)) before ≡ false
not-defined before t none = failed (is_defined before t.0 t.1.text) _ none

turns-once : (before more : List Target) → ((key : Key) → times (keyed key) before ≤ 1) → first_of twice (in_turn before more) ≡ None
    → (key : Key) → times (keyed key) (before ++ more) ≤ 1
turns-once before [] few none key = subst (λ l. times (keyed key) l ≤ 1) (sym (append-nil before)) (few key)
turns-once before (t ∷ more) few none key =
    let both = or-none (twice (before, t)) (first_of twice (in_turn (before ++ t ∷ []) more)) none in
    subst (λ l. times (keyed key) l ≤ 1) (append_assoc before (t ∷ []) more)
    (turns-once (before ++ t ∷ []) more (λ k. one-more keyed key_of key-agrees k before t (not-defined before t both.0) (few k)) both.1 key)

-- the targets of a section that stand for variable x
abbrev aims : Env → Section → ℕ → Target → Bool
aims env s x t = is_section (section_of t.0) s && (place_in env t.1.text == x)

vector-times : (env : Env) (s : Section) (w : SectionWord) (x : ℕ) (rows : List VRow)
    → cond {A = ℕ} (is_section (section_of w) s && list_any (λ target. target == x) (map (row_target env) rows)) 1 0
    ≤ times (aims env s x) (map (λ (row : VRow). (w, row.target)) rows)
vector-times env s w x rows =
    elim (cases_Bool (is_section (section_of w) s && list_any (λ target. target == x) (map (row_target env) rows))) [
      | inl is ↦
          let both = and_parts (is_section (section_of w) s) (list_any (λ target. target == x) (map (row_target env) rows)) is in
          let at = some-passes (λ target. target == x) (map (row_target env) rows) both.1 in
          let row = mapped (row_target env) rows at.0 at.1 at.2 in
          let mine : Target = (w, row.0.target) in
          let theirs : List Target = map (λ (r : VRow). (w, r.target)) rows in
          let there = place-of theirs mine (map-there (λ (r : VRow). (w, r.target)) rows at.0 row.0 row.1) in
          let some : 1 ≤ times (aims env s x) theirs = some-times (aims env s x) theirs there.0 mine there.1
          (and_from (is_section (section_of w) s) (row_target env row.0 == x) both.0
          (eq-eqb (row_target env row.0) x (row.2 ∙ eqb-true at.1 x at.3))) in
          let one : cond {A = ℕ} (is_section (section_of w) s && list_any (λ target. target == x) (map (row_target env) rows)) 1 0 ≡ 1 =
          ap (λ b. cond {A = ℕ} b 1 0) is in
          omega arith
      | inr other ↦
          let none : cond {A = ℕ} (is_section (section_of w) s && list_any (λ target. target == x) (map (row_target env) rows)) 1 0 ≡ 0 =
          ap (λ b. cond {A = ℕ} b 1 0) other in
          omega arith
    ]

item-times : (env : Env) (s : Section) (x : ℕ) (it : Item)
    → times (is_for s x) (build_table env it) ≤ times (aims env s x) (item_targets it)
item-times env s x (item.Normal w target columns rows) = omega arith
item-times env s x (item.Inverted w target headers rows) = omega arith
item-times env s x (item.Vector w columns rows) = let row = vector-times env s w x rows in omega arith
item-times env s x _ = omega arith

-- within one vector table
rows-times : (env : Env) (w : SectionWord) (x : ℕ) (rows : List VRow)
    → times (λ y. y == x) (map (row_target env) rows) ≤ times (aims env (section_of w) x) (map (λ (row : VRow). (w, row.target)) rows)
rows-times env w x rows =
    let a = total-map (λ y. cond {A = ℕ} (y == x) 1 0) (row_target env) rows in
    let b = total-map (λ t. cond {A = ℕ} (aims env (section_of w) x t) 1 0) (λ (row : VRow). (w, row.target)) rows in
    let c = total-le (λ row. cond {A = ℕ} (row_target env row == x) 1 0)
    (λ (row : VRow). cond {A = ℕ} (aims env (section_of w) x (w, row.target)) 1 0) rows (λ row. within (row_target env row == x)) in
    omega arith
  where
    within : (b : Bool) → cond {A = ℕ} b 1 0 ≤ cond {A = ℕ} (is_section (section_of w) (section_of w) && b) 1 0
    within b = subst (λ c. cond {A = ℕ} b 1 0 ≤ cond {A = ℕ} (c && b) 1 0) (sym (section_self (section_of w))) (omega arith)

vector-item : (env : Env) (it : Item) (table : Table) (columns : List Cond) (places : List ℕ) (terms : List (List Term))
    → Contains (build_table env it) table → table.grid ≡ Vector columns places terms → (x : ℕ)
    → times (λ y. y == x) places ≤ times (aims env table.section x) (item_targets it)
vector-item env (item.Vector w headers rows) table columns places terms has is x =
    let same = only (table_of w (vector_grid env headers rows)) table has in
    let grid = ap (λ (t : Table). t.grid) same ∙ is in
    let made : map (row_target env) rows ≡ places = cc in
    subst (λ (l : List ℕ). times (λ y. y == x) l ≤ times (aims env table.section x) (item_targets (item.Vector w headers rows))) made
    (subst (λ (t : Table). times (λ y. y == x) (map (row_target env) rows)
    ≤ times (aims env t.section x) (item_targets (item.Vector w headers rows))) same (rows-times env w x rows))
vector-item env (item.Normal w target headers rows) table columns places terms has is x =
    let same = only (table_of w (normal_grid env target.text headers rows)) table has in
    let grid = ap (λ (t : Table). t.grid) same ∙ is in
    absurd (cc)
vector-item env (item.Inverted w target headers rows) table columns places terms has is x =
    let same = only (table_of w (inverted_grid env target.text headers rows)) table has in
    let grid = ap (λ (t : Table). t.grid) same ∙ is in
    absurd (cc)
vector-item env _ table columns places terms has is x = absurd (nothing-in table has)

-- A name of a target and the variable that it stands for, of which the rest speaks as of things that are given.

module _ (items : List Item) where
  abbrev vars : List Var
  vars = vars_from items (env_of items) no_places items

  abbrev tables : List Table
  tables = flat_map (build_table (env_of items)) items

  target-place : (s : SectionWord) (name : List ℕ) (t : IsTarget items s name) → place_in (env_of items) name ≡ t.place
  target-place s name t = ap variable_place t.found

  defines-right : (it : Item) (s : Section) (x : ℕ) (d : Defines (env_of items) it s x) → IsTarget items d.target.0 d.target.1.text
      → is_of vars (defined_kinds s) x ≡ true
  defines-right it s x d t =
      let place : t.place ≡ x = sym (target-place d.target.0 d.target.1.text t) ∙ d.place in
      let v = var-here items d.target.1.text t.place t.word t.values t.found in
      subst (λ (a : Section). is_of vars (defined_kinds a) x ≡ true) (sym d.of)
      (is-of vars (defined_kinds (section_of d.target.0)) x v.0 (ap (slice_get vars) (sym place) ∙ v.1)
      (defined-kind d.target.0 t.word x v.0 t.defines_it v.2))

  -- the place of a declared variable is what its name stands for
  declared-place : AreDistinct (names_in (listing 0 items)) → (x : ℕ) (v : Var) (d : IsDeclared items (env_of items) items x v)
      → place_in (env_of items) d.name.text ≡ x
  declared-place differ x v d =
      let it : Item = item.Variable d.word d.name d.of d.init in
      let found = carded items differ d.number it d.name.text
      (card.Variable (count_before declares_variable items d.number) d.word (kind_values items d.of)) d.at
      (contained (item_cards items d.number it) 0 _ refl) in
      ap variable_place found ∙ sym (times-is declares_variable (take d.number items)) ∙ sym d.counts

  -- a target with its name has a table for it
  table-there : (s : Section) (x : ℕ) (w : SectionWord) (name : List ℕ) (k : ℕ) (it : Item) (t : Target) → slice_get items k ≡ Some it
      → HasTable (env_of items) it t → is_target w name t ≡ true → section_of w ≡ s → place_in (env_of items) name ≡ x
      → list_any (is_for s x) tables ≡ true
  table-there s x w name k it t at h is word place =
      let same = and_parts (same_section_word w t.0) (bytes_eq name t.1.text) is in
      let here : place_in (env_of items) t.1.text ≡ x =
      ap (place_in (env_of items)) (sym ((bytes_eq-Decides name t.1.text).0 same.1)) ∙ place in
      let of : h.table.section ≡ s = h.of ∙ ap section_of (sym (same-word w t.0 same.0)) ∙ word in
      let there = place-of tables h.table (in_all (build_table (env_of items)) items k it h.table at h.has) in
      any-passes (is_for s x) tables there.0 h.table there.1
      (is_for_from s x h.table of (ap (defines h.table.grid) (sym here) ∙ h.does))

  -- two targets that stand for one variable in a section are of one name
  one-aim : (s : Section) (x : ℕ) (t u : Target) → IsTarget items t.0 t.1.text → IsTarget items u.0 u.1.text
      → aims (env_of items) s x t ≡ true → aims (env_of items) s x u ≡ true → keyed (key_of u) t ≡ true
  one-aim s x t u v w p q =
      let a = and_parts (is_section (section_of t.0) s) (place_in (env_of items) t.1.text == x) p in
      let b = and_parts (is_section (section_of u.0) s) (place_in (env_of items) u.1.text == x) q in
      let word = one-word t.0 u.0 (same_section (section_of t.0) s a.0 ∙ sym (same_section (section_of u.0) s b.0)) in
      let mine = sym (target-place t.0 t.1.text v) ∙ eqb-true (place_in (env_of items) t.1.text) x a.1 in
      let theirs = sym (target-place u.0 u.1.text w) ∙ eqb-true (place_in (env_of items) u.1.text) x b.1 in
      let name = one-variable items t.1.text u.1.text w.place v.word w.word v.values w.values
      (v.found ∙ ap (λ n. Some (card.Variable n v.word v.values)) (mine ∙ sym theirs)) w.found in
      and_from (same_section_word u.0 t.0) (bytes_eq u.1.text t.1.text) (ap (same_section_word u.0) word ∙ word-self u.0)
      ((bytes_eq-Decides u.1.text t.1.text).1 (sym name))

module _ (items : List Item) (sides : first_wrong_side items ≡ None) (kinds : first_mismatch items ≡ None) where
  -- a table defines variables of its own section
  pub targets-right : (k x : ℕ) (table : Table) → slice_get (tables items) k ≡ Some table → defines table.grid x ≡ true
      → is_of (vars items) (defined_kinds table.section) x ≡ true
  targets-right k x table at does =
      let one = from_one (build_table (env_of items)) items table (contained (tables items) k table at) in
      let d = table-defines (env_of items) one.1 table one.3 x does in
      defines-right items one.1 table.section x d (target-is items sides kinds one.0 one.1 one.2 d.target d.has)

  module _ (differ : AreDistinct (names_in (listing 0 items))) (faults : first_table_fault items ≡ None) where
    both : (first_lack items ≡ None) × (first_twice (targets items) ≡ None)
    both = or-none (first_lack items) (first_twice (targets items)) faults

    wanted : (s : Section) (x : ℕ) (v : Var) (d : IsDeclared items (env_of items) items x v) → defined_kinds s x v ≡ true
        → HasTarget (targets items) s d.name.text
    wanted s x v d is =
        let kind : has_kind s (var_kind d.word) ≡ true = ap (λ (u : Var). has_kind s u.kind) (sym d.is) ∙ sym (kinds-of s x v) ∙ is in
        let it : Item = item.Variable d.word d.name d.of d.init in
        lack-none (targets items) s d.word d.name d.of d.init kind
        (no-fault (item_lack (targets items)) items both.0 it (contained items d.number it d.at))

    -- each variable of a section's kinds has a table there
    pub has-table : (s : Section) (x : ℕ) → is_of (vars items) (defined_kinds s) x ≡ true → list_any (is_for s x) (tables items) ≡ true
    has-table s x is =
        let v = of-is (vars items) (defined_kinds s) x is in
        let d = var-from items (env_of items) no_places items x v.0 v.1 in
        let w = wanted s x v.0 d v.2 in
        let at = some-passes (is_target w.word d.name.text) (targets items) w.there in
        let one = from_one item_targets items at.1 (contained (targets items) at.0 at.1 at.2) in
        table-there items s x w.word d.name.text one.0 one.1 at.1 one.2 (target-table (env_of items) one.1 at.1 one.3) at.3 w.is
        (declared-place items differ x v.0 d)

    nothing-twice : (key : Key) → times (keyed key) (targets items) ≤ 1
    nothing-twice = turns-once [] (targets items) (λ key. omega arith) both.1

    target-there : (k : ℕ) (t : Target) → slice_get (targets items) k ≡ Some t → IsTarget items t.0 t.1.text
    target-there k t at =
        let one = from_one item_targets items t (contained (targets items) k t at) in
        target-is items sides kinds one.0 one.1 one.2 t one.3

    -- what stands for a variable in a section stands once
    aimed-once : (s : Section) (x : ℕ) → times (aims (env_of items) s x) (targets items) ≤ 1
    aimed-once s x = few-times (aims (env_of items) s x) (targets items) (λ k l t u at_k at_l p q.
        one-place (keyed (key_of u)) (targets items) (nothing-twice (key_of u)) k l t u at_k at_l
        (one-aim items s x t u (target-there k t at_k) (target-there l u at_l) p q) (key-self u))

    -- one table for each variable in each section
    pub one-table : (s : Section) (x k l : ℕ) (a b : Table) → slice_get (tables items) k ≡ Some a → slice_get (tables items) l ≡ Some b
        → is_for s x a ≡ true → is_for s x b ≡ true → k ≡ l
    one-table s x k l a b at_k at_l p q =
        let few = aimed-once s x in
        let made = total-flat (λ t. cond {A = ℕ} (is_for s x t) 1 0) (build_table (env_of items)) items in
        let aimed = total-flat (λ t. cond {A = ℕ} (aims (env_of items) s x t) 1 0) item_targets items in
        let each = total-le (λ it. times (is_for s x) (build_table (env_of items) it))
        (λ it. times (aims (env_of items) s x) (item_targets it)) items (item-times (env_of items) s x) in
        let once : times (is_for s x) (tables items) ≤ 1 = omega arith in
        one-place (is_for s x) (tables items) once k l a b at_k at_l p q

    places-once : (table : Table) (k : ℕ) (it : Item) → slice_get items k ≡ Some it → Contains (build_table (env_of items) it) table
        → (columns : List Cond) (places : List ℕ) (terms : List (List Term)) → table.grid ≡ Vector columns places terms → (x : ℕ)
        → times (λ y. y == x) places ≤ 1
    places-once table k it at has columns places terms is x =
        let here = vector-item (env_of items) it table columns places terms has is x in
        let part = term-le (λ y. times (aims (env_of items) table.section x) (item_targets y)) items k it at in
        let aimed = total-flat (λ t. cond {A = ℕ} (aims (env_of items) table.section x t) 1 0) item_targets items in
        let few = aimed-once table.section x in
        omega arith

    -- a vector table defines no variable twice
    pub targets-differ : (k : ℕ) (table : Table) (columns : List Cond) (places : List ℕ) (terms : List (List Term))
        → slice_get (tables items) k ≡ Some table → table.grid ≡ Vector columns places terms → AreDistinct places
    targets-differ k table columns places terms at is i j x at_i at_j =
        let one = from_one (build_table (env_of items)) items table (contained (tables items) k table at) in
        one-place (λ y. y == x) places (places-once table one.0 one.1 one.2 one.3 columns places terms is x) i j x x at_i at_j
        (eq-eqb x x refl) (eq-eqb x x refl)
