-- What stands at the places of a fault-free tree: names that are used stand for what they may.
use Rattle.std.proofs.Common.{◌≡◌, ◌∙◌, sym, ap, subst, refl, ℕ, true, ◌||◌, List, map, take}
use Rattle.std.proofs.Common.{slice_get, Option, Some, None, option_map}
use Rattle.std.specs.List.{Contains, flat_map}
use Rattle.std.proofs.lemmas.Bool.{true≢false}
use Rattle.std.proofs.lemmas.List.Elements.{Contains-append_right}
use Rattle.std.proofs.lemmas.Option.{slice_get-map}
use Rattle.ft_tree.specs.declared.item.Word.{Word}
use Rattle.ft_tree.specs.declared.item.VRow.{VRow}
use Rattle.ft_tree.specs.declared.item.VarWord.{VarWord}
use Rattle.ft_tree.specs.declared.item.VarWord.TheVariants as word
use Rattle.ft_tree.specs.declared.item.SectionWord.{SectionWord}
use Rattle.ft_tree.specs.declared.item.SectionWord.TheVariants as section
use Rattle.ft_tree.specs.declared.item.Item.{Item}
use Rattle.ft_tree.specs.declared.item.Item.TheVariants as item
use Rattle.ft_core.specs.declared.tables.Var.{Var}
use Rattle.ft_core.specs.declared.tables.VarKind.TheVariants as kind
use Rattle.ft_core.specs.meaning.Kinds.{defined_kinds, same_kind}
use Rattle.ft_core.specs.laws.Lists.{in_all, mapped}
use Rattle.ft_core.specs.laws.Places.{contained, place-of}
use Rattle.ft_names.specs.declared.card.Card.{Card}
use Rattle.ft_names.specs.declared.card.Card.TheVariants as card
use Rattle.ft_names.specs.declared.card.Values.{Values}
use Rattle.ft_names.specs.declared.walk.Role.{Role}
use Rattle.ft_names.specs.declared.walk.Role.TheVariants as role
use Rattle.ft_names.specs.meaning.Cards.{declares_variable, env_of}
use Rattle.ft_names.specs.meaning.Spots.{conditions, item_spots, named, section_site, spots, vector_row}
use Rattle.ft_types.specs.meaning.Mismatch.{fits, is_variable}
use Rattle.ft_types.specs.meaning.PlaceFaults.{first_mismatch, first_wrong_side}
use Rattle.ft_types.specs.meaning.Mismatch.{mismatch_spot}
use Rattle.ft_types.specs.meaning.Sides.{defines, may_define, may_use, side_spot}
use Rattle.ft_types.specs.meaning.Targets.{Target, item_targets}
use Rattle.ft_build.specs.meaning.Tables.{section_of}
use Rattle.ft_build.specs.meaning.Variables.{no_places, var_kind, vars_from}
use Rattle.ft_admit.proofs.forms.Lists.{no-fault, nothing-in, only, passed, times, times-is}
use Rattle.ft_admit.proofs.forms.Lookups.{variable-of}
use Rattle.ft_admit.proofs.forms.Variables.{declared_var, var-at}

pub map-there : {X Y : Type 0} (f : X → Y) (xs : List X) (k : ℕ) (x : X) → slice_get xs k ≡ Some x → Contains (map f xs) (f x)
map-there f xs k x at = contained (map f xs) k (f x) (slice_get-map f xs k ∙ ap (option_map f) at)

-- a name that is used is so as it may be
pub used : (items : List Item) → first_wrong_side items ≡ None → first_mismatch items ≡ None → (k : ℕ) (it : Item)
    → slice_get items k ≡ Some it → (r : Role) (w : Word) → Contains (item_spots it) (named r w)
    → (may_use r (env_of items w.text) ≡ true) × (fits r (env_of items w.text) ≡ true)
used items sides kinds k it at r w has =
    let there = in_all item_spots items k it (named r w) at has in (
      passed (may_use r (env_of items w.text)) _
          (no-fault (side_spot (env_of items)) (spots items) sides (named r w) there),
      passed (fits r (env_of items w.text)) _ (no-fault (mismatch_spot (env_of items)) (spots items) kinds (named r w) there),
    )

-- the target of a table is a place of its item
pub target-spot : (it : Item) (t : Target) → Contains (item_targets it) t → Contains (item_spots it) (named (role.Target t.0) t.1)
target-spot (item.Normal s target columns rows) t has =
    subst (λ (u : Target). Contains (item_spots (item.Normal s target columns rows)) (named (role.Target u.0) u.1)) (only (s, target) t has)
    (contained (item_spots (item.Normal s target columns rows)) 0 (named (role.Target s) target) refl)
target-spot (item.Inverted s target headers rows) t has =
    subst (λ (u : Target). Contains (item_spots (item.Inverted s target headers rows)) (named (role.Target u.0) u.1))
    (only (s, target) t has)
    (contained (item_spots (item.Inverted s target headers rows)) 0 (named (role.Target s) target) refl)
target-spot (item.Vector s columns rows) t has =
    let at = place-of (map (λ (row : VRow). (s, row.target)) rows) t has in
    let row = mapped (λ (row : VRow). (s, row.target)) rows at.0 t at.1 in
    subst (λ (u : Target). Contains (item_spots (item.Vector s columns rows)) (named (role.Target u.0) u.1)) row.2
    (Contains-append_right (conditions (section_site s) columns) (flat_map (vector_row s) rows) (named (role.Target s) row.0.target)
    (in_all (vector_row s) rows at.0 row.0 (named (role.Target s) row.0.target) row.1
    (contained (vector_row s row.0) 0 (named (role.Target s) row.0.target) refl)))
target-spot (item.Constant name minus value) t has = absurd (nothing-in t has)
target-spot (item.RangeType name lo hi) t has = absurd (nothing-in t has)
target-spot (item.EnumType name members) t has = absurd (nothing-in t has)
target-spot (item.Variable w name of init) t has = absurd (nothing-in t has)
target-spot (item.Held side name cond hold) t has = absurd (nothing-in t has)
target-spot (item.Hyst side name term lo hi start) t has = absurd (nothing-in t has)
target-spot (item.Nat moment cond) t has = absurd (nothing-in t has)
target-spot (item.Block name takes uses facts) t has = absurd (nothing-in t has)

-- what a table of a section defines is a variable for it
pub record IsTarget (items : List Item) (s : SectionWord) (name : List ℕ) : Type 0 where
  pub place : ℕ
  pub word : VarWord
  pub values : Values
  pub found : env_of items name ≡ Some (card.Variable place word values)
  pub defines_it : defines s word ≡ true

pub target-is : (items : List Item) → first_wrong_side items ≡ None → first_mismatch items ≡ None → (k : ℕ) (it : Item)
    → slice_get items k ≡ Some it → (t : Target) → Contains (item_targets it) t → IsTarget items t.0 t.1.text
target-is items sides kinds k it at t has =
    let u = used items sides kinds k it at (role.Target t.0) t.1 (target-spot it t has) in
    by (env_of items t.1.text) refl u.0 u.1
  where
    by : (o : Option Card) → env_of items t.1.text ≡ o → may_define t.0 o ≡ true → is_variable o ≡ true → IsTarget items t.0 t.1.text
    by (Some (card.Variable place word values)) is side kind =
        record { place = place; word = word; values = values; found = is; defines_it = side }
    by _ is side kind = cc

-- the variable at the place that a name stands for
pub var-here : (items : List Item) (name : List ℕ) (place : ℕ) (w : VarWord) (values : Values)
    → env_of items name ≡ Some (card.Variable place w values)
    → (v : Var) × (slice_get (vars_from items (env_of items) no_places items) place ≡ Some v) × (v.kind ≡ var_kind w)
var-here items name place w values is =
    let x = variable-of items name place w values is in
    let v = var-at items (env_of items) no_places items x.0 w x.3.word x.3.of x.3.init (x.2 ∙ ap (λ (it : Item). Some it) x.3.is) in
    let here : place ≡ times declares_variable (take x.0 items) =
    x.3.placed ∙ sym (times-is declares_variable (take x.0 items)) in (
      declared_var items (env_of items) w x.3.word x.3.of x.3.init v.0,
      ap (slice_get (vars_from items (env_of items) no_places items)) here ∙ v.1,
      refl,
    )

-- a variable that a section's tables may define is one of the section's kinds
pub defined-kind : (s : SectionWord) (w : VarWord) (x : ℕ) (v : Var) → defines s w ≡ true → v.kind ≡ var_kind w
    → defined_kinds (section_of s) x v ≡ true
defined-kind section.In word.Input x v d e = ap (λ k. same_kind kind.Input k) e
defined-kind section.Req word.Con x v d e = ap (λ k. same_kind kind.Con k || same_kind kind.ReqInner k) e
defined-kind section.Req word.ReqVar x v d e = ap (λ k. same_kind kind.Con k || same_kind kind.ReqInner k) e
defined-kind section.Sof word.Output x v d e = ap (λ k. same_kind kind.Output k || same_kind kind.SofInner k) e
defined-kind section.Sof word.SofVar x v d e = ap (λ k. same_kind kind.Output k || same_kind kind.SofInner k) e
defined-kind section.Out word.Con x v d e = ap (λ k. same_kind kind.Con k) e
defined-kind s w x v d e = absurd (true≢false (sym d))
