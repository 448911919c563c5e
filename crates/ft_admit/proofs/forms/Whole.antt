-- A tree without a fault spells a set of lawful form.
use Rattle.std.proofs.Common.{◌≡◌, sym, ap, subst, refl, ℕ, ◌-◌, ◌≤◌, ◌<◌, true, List, [], ◌∷◌, length, slice_get, Option, Some, None}
use Rattle.std.proofs.Common.{arith}
use Rattle.std.specs.Prelude.{pos}
use Rattle.std.specs.List.{list_all}
use Rattle.std.specs.Option.{option_or}
use Rattle.ft_base.specs.Interval.{IsBounded, IsWithin}
use Rattle.ft_tree.specs.declared.item.Item.{Item}
use Rattle.ft_tree.specs.declared.item.Item.TheVariants as item
use Rattle.ft_tree.specs.declared.item.Number.{Number}
use Rattle.ft_tree.specs.meaning.Limits.{is_item}
use Rattle.ft_core.specs.declared.tables.Var.{Var}
use Rattle.ft_core.specs.checked.Distinct.{AreDistinct}
use Rattle.ft_core.specs.checked.Sound.{IsPeriod}
use Rattle.ft_core.specs.laws.Places.{contained}
use Rattle.ft_core.specs.laws.Lists.{in_all}
use Rattle.std.proofs.lemmas.List.Elements.{Contains-append_right}
use Rattle.ft_names.specs.declared.card.Values.{Values}
use Rattle.ft_names.specs.laws.Names.{NamesDiffer}
use Rattle.ft_names.specs.meaning.Cards.{Env, env_of, kind_values}
use Rattle.ft_names.specs.meaning.Declared.{listing, names_in}
use Rattle.ft_names.specs.meaning.First.{first_of}
use Rattle.ft_names.specs.meaning.NameFaults.{duplicate, no_variable, unknown_name}
use Rattle.ft_names.specs.meaning.Spots.{initial, item_spots, kind_spots, spots}
use Rattle.ft_types.specs.meaning.Mismatch.{is_value_of, mismatch_spot, type_kind}
use Rattle.ft_types.specs.meaning.Ranges.{item_range, set_range}
use Rattle.ft_build.specs.meaning.Sets.{or_default, set_of}
use Rattle.ft_build.specs.meaning.Variables.{no_places, value_members, vars_from}
use Rattle.ft_admit.specs.laws.FormFacts.{FormIsLawful, HasLawfulForm}
use Rattle.ft_admit.specs.meaning.Faultless.{IsFaultless}
use Rattle.ft_admit.proofs.forms.Blocks.{goals-right, some-fact, takes-differ, takes-right}
use Rattle.ft_admit.proofs.forms.Counts.{few-blocks, few-clauses, few-facts, few-memories, few-tables, few-vars}
use Rattle.ft_admit.proofs.forms.Lists.{no-fault, or-none, passed}
use Rattle.ft_admit.proofs.forms.Names.{names-lawful}
use Rattle.ft_admit.proofs.forms.Numbers.{bands, has-both, holds, numbers-within}
use Rattle.ft_admit.proofs.forms.Shapes.{shaped}
use Rattle.ft_admit.proofs.forms.Tables.{has-table, one-table, targets-differ, targets-right}
use Rattle.ft_admit.proofs.forms.Values.{Fit, enum-range, few-members, init-within, range-bounded, values-fit}
use Rattle.ft_admit.proofs.forms.Variables.{IsDeclared, placed, var-from}

module _ (name : List ℕ) (period : Number) (splits depth : Option Number) (items : List Item)
    (fine : IsFaultless name period splits depth items) (differ : AreDistinct (names_in (listing 0 items)))
  where
    abbrev env : Env
    env = env_of items

    abbrev vars : List Var
    vars = vars_from items env no_places items

    all : list_all is_item items ≡ true
    all = fine.lawful.parts

    names : (no_variable items ≡ None) × (duplicate items ≡ None)
    names =
        let first = or-none (no_variable items) (option_or (duplicate items) (unknown_name items)) fine.names in
        (first.0, (or-none (duplicate items) (unknown_name items) first.1).0)

    numbers : (set_range period splits depth ≡ None) × (first_of (item_range items) items ≡ None)
    numbers = or-none (set_range period splits depth) (first_of (item_range items) items) fine.ranges

    declared : (x : ℕ) (v : Var) → slice_get vars x ≡ Some v → IsDeclared items env items x v
    declared x v at = var-from items env no_places items x v at

    fit : (x : ℕ) (v : Var) (d : IsDeclared items env items x v) → Fit items (kind_values items d.of)
    fit x v d = (values-fit items all numbers.1 d.number d.word d.name d.of d.init d.at).0

    -- the `init` of a variable is a value of its type
    initial-right : (x : ℕ) (v : Var) (d : IsDeclared items env items x v)
        → is_value_of env (type_kind env d.of) d.init ≡ true
    initial-right x v d =
        let it : Item = item.Variable d.word d.name d.of d.init in
        let last = Contains-append_right (kind_spots d.of) (initial d.of d.init ∷ []) (initial d.of d.init)
        (contained (initial d.of d.init ∷ []) 0 (initial d.of d.init) refl) in
        passed (is_value_of env (type_kind env d.of) d.init) _
        (no-fault (mismatch_spot env) (spots items) fine.kinds (initial d.of d.init)
        (in_all item_spots items d.number it (initial d.of d.init) d.at last))

    init-right : (x : ℕ) (v : Var) → slice_get vars x ≡ Some v → IsWithin v.range v.init
    init-right x v at =
        let d = declared x v at in
        let within = values-fit items all numbers.1 d.number d.word d.name d.of d.init d.at in
        subst (λ (u : Var). IsWithin u.range u.init) (sym d.is)
        (init-within items differ d.of d.init (kind_values items d.of) refl within.0 within.1 (initial-right x v d))

    range-right : (x : ℕ) (v : Var) → slice_get vars x ≡ Some v → IsBounded 1000000000 v.range.0 v.range.1
    range-right x v at =
        let d = declared x v at in
        subst (λ (u : Var). IsBounded 1000000000 u.range.0 u.range.1) (sym d.is) (range-bounded (kind_values items d.of))

    members-of : (x : ℕ) (v : Var) → slice_get vars x ≡ Some v
        → (values : Values) × (v.members ≡ value_members items values) × Fit items values
    members-of x v at =
        let d = declared x v at in
        (kind_values items d.of, ap (λ (u : Var). u.members) d.is, fit x v d)

    members-few : (x : ℕ) (v : Var) → slice_get vars x ≡ Some v → length v.members ≤ 64
    members-few x v at =
        let d = declared x v at in
        subst (λ (u : Var). length u.members ≤ 64) (sym d.is) (few-members items (kind_values items d.of) (fit x v d))

    members-range : (x : ℕ) (v : Var) → slice_get vars x ≡ Some v → 0 < length v.members
        → v.range ≡ (pos 0, pos (length v.members - 1))
    members-range x v at =
        let d = declared x v at in
        subst (λ (u : Var). 0 < length u.members → u.range ≡ (pos 0, pos (length u.members - 1))) (sym d.is)
        (enum-range items (kind_values items d.of) (fit x v d))

    heads : IsPeriod (pos period.value) × (or_default 200000 splits ≤ 200000) × (1 ≤ or_default 4 depth) × (or_default 4 depth ≤ 8)
    heads = numbers-within period splits depth numbers.0

    pub form-lawful : HasLawfulForm (set_of name period splits depth items)
    form-lawful = record {
      few_vars = let few = few-vars items env fine.lawful.counts in omega arith;
      few_memories = few-memories items env fine.lawful.counts;
      few_tables = let few = few-tables items env fine.lawful.counts in omega arith;
      few_clauses = let few = few-clauses items env fine.lawful.counts in omega arith;
      places = placed items env;
      shapes = shaped items env all fine.shapes;
      has_period = heads.0;
      inits = init-right;
      timers = holds items env fine.holds;
      bands = λ m name s e lo hi start at. (bands items env fine.bands all m name s e lo hi start at).0;
      has_table = has-table items fine.sides fine.kinds differ fine.tables;
      one_table = one-table items fine.sides fine.kinds differ fine.tables;
      names = names-lawful items env all differ name fine.lawful.named members-of;
      few_splits = heads.1;
      some_depth = heads.2;
      low_depth = heads.3;
      has_monitored = (has-both items env names.0).0;
      has_controlled = (has-both items env names.0).1;
      ranges = range-right;
      band_bounds = λ m name s e lo hi start at. (bands items env fine.bands all m name s e lo hi start at).1;
      few_members = members-few;
      enums = members-range;
      targets = targets-right items fine.sides fine.kinds;
      targets_differ = targets-differ items fine.sides fine.kinds differ fine.tables;
      few_blocks = let few = few-blocks items env fine.lawful.counts in omega arith;
      few_facts = let few = few-facts items env fine.lawful.counts fine.lawful.facts in omega arith;
      some_fact = some-fact items all names.1 fine.sides fine.kinds;
      takes = takes-right items all names.1 fine.sides fine.kinds;
      takes_differ = takes-differ items all names.1 fine.sides fine.kinds;
      goals = goals-right items all names.1 fine.sides fine.kinds;
    }

pub lawful : NamesDiffer → FormIsLawful
lawful differ name period splits depth items fine =
    let first = or-none (no_variable items) (option_or (duplicate items) (unknown_name items)) fine.names in
    form-lawful name period splits depth items fine (differ items (or-none (duplicate items) (unknown_name items) first.1).0)
