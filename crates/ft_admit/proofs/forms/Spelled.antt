-- What the tables that items spell define, and what a variable without a lack has.
use Rattle.std.proofs.Common.{◌≡◌, ◌∙◌, sym, subst, refl, ℕ, Bool, true, ◌||◌, cond}
use Rattle.std.proofs.Common.{List, [], ◌∷◌, map, None}
use Rattle.std.specs.Prelude.{◌==◌}
use Rattle.std.specs.List.{Contains, list_any}
use Rattle.std.proofs.lemmas.Bool.{eq-eqb, eqb-true, true≢false}
use Rattle.ft_tree.specs.declared.expr.Expr.{Expr}
use Rattle.ft_tree.specs.declared.item.Word.{Word}
use Rattle.ft_tree.specs.declared.item.Kind.{Kind}
use Rattle.ft_tree.specs.declared.item.Bound.{Bound}
use Rattle.ft_tree.specs.declared.item.VRow.{VRow}
use Rattle.ft_tree.specs.declared.item.VarWord.{VarWord}
use Rattle.ft_tree.specs.declared.item.VarWord.TheVariants as word
use Rattle.ft_tree.specs.declared.item.SectionWord.{SectionWord}
use Rattle.ft_tree.specs.declared.item.SectionWord.TheVariants as section
use Rattle.ft_tree.specs.declared.item.Item.{Item}
use Rattle.ft_tree.specs.declared.item.Item.TheVariants as item
use Rattle.ft_core.specs.declared.tables.Section.{Section}
use Rattle.ft_core.specs.declared.tables.Section.TheVariants as core
use Rattle.ft_core.specs.declared.tables.Table.{Table}
use Rattle.ft_core.specs.declared.tables.Var.{Var}
use Rattle.ft_core.specs.declared.tables.VarKind.{VarKind}
use Rattle.ft_core.specs.declared.tables.VarKind.TheVariants as kind
use Rattle.ft_core.specs.meaning.Grids.{defines}
use Rattle.ft_core.specs.meaning.Kinds.{defined_kinds, same_kind}
use Rattle.ft_core.specs.laws.Lists.{mapped}
use Rattle.ft_core.specs.laws.Places.{contained, place-of}
use Rattle.ft_names.specs.meaning.Cards.{Env}
use Rattle.ft_types.specs.meaning.Sides.{same_section_word}
use Rattle.ft_types.specs.meaning.Targets.{Target, is_defined, item_lack}
use Rattle.ft_types.specs.meaning.Targets.{item_targets, lack}
use Rattle.ft_build.specs.meaning.Tables.{build_table, inverted_grid, normal_grid, place_in, row_target}
use Rattle.ft_build.specs.meaning.Tables.{section_of, table_of, vector_grid}
use Rattle.ft_build.specs.meaning.Variables.{var_kind}
use Rattle.ft_admit.proofs.forms.Lists.{any-passes, nothing-in, only, or-none, passed, some-passes}
use Rattle.ft_admit.proofs.forms.Targets.{map-there}

-- a table that an item spells defines what its targets stand for

pub record Defines (env : Env) (it : Item) (at_section : Section) (x : ℕ) : Type 0 where
  pub target : Target
  pub has : Contains (item_targets it) target
  pub of : at_section ≡ section_of target.0
  pub place : place_in env target.1.text ≡ x

vector-defines : (env : Env) (s : SectionWord) (columns : List Expr) (rows : List VRow) (x : ℕ)
    → list_any (λ target. target == x) (map (row_target env) rows) ≡ true → Defines env (item.Vector s columns rows) (section_of s) x
vector-defines env s columns rows x any =
    let at = some-passes (λ target. target == x) (map (row_target env) rows) any in
    let row = mapped (row_target env) rows at.0 at.1 at.2 in
    record {
      target = (s, row.0.target);
      has = map-there (λ (r : VRow). (s, r.target)) rows at.0 row.0 row.1;
      of = refl;
      place = row.2 ∙ eqb-true at.1 x at.3;
    }

pub table-defines : (env : Env) (it : Item) (table : Table) → Contains (build_table env it) table → (x : ℕ) → defines table.grid x ≡ true
    → Defines env it table.section x
table-defines env (item.Normal s target columns rows) table has x =
    subst (λ (t : Table). defines t.grid x ≡ true → Defines env (item.Normal s target columns rows) t.section x)
    (only (table_of s (normal_grid env target.text columns rows)) table has)
    (λ d. record {
      target = (s, target);
      has = contained ((s, target) ∷ []) 0 (s, target) refl;
      of = refl;
      place = eqb-true (place_in env target.text) x d;
    })
table-defines env (item.Inverted s target headers rows) table has x =
    subst (λ (t : Table). defines t.grid x ≡ true → Defines env (item.Inverted s target headers rows) t.section x)
    (only (table_of s (inverted_grid env target.text headers rows)) table has)
    (λ d. record {
      target = (s, target);
      has = contained ((s, target) ∷ []) 0 (s, target) refl;
      of = refl;
      place = eqb-true (place_in env target.text) x d;
    })
table-defines env (item.Vector s columns rows) table has x =
    subst (λ (t : Table). defines t.grid x ≡ true → Defines env (item.Vector s columns rows) t.section x)
    (only (table_of s (vector_grid env columns rows)) table has) (vector-defines env s columns rows x)
table-defines env _ table has x = absurd (nothing-in table has)

-- and each target has its table
pub record HasTable (env : Env) (it : Item) (t : Target) : Type 0 where
  pub table : Table
  pub has : Contains (build_table env it) table
  pub of : table.section ≡ section_of t.0
  pub does : defines table.grid (place_in env t.1.text) ≡ true

pub target-table : (env : Env) (it : Item) (t : Target) → Contains (item_targets it) t → HasTable env it t
target-table env (item.Normal s target columns rows) t has =
    subst (HasTable env (item.Normal s target columns rows)) (only (s, target) t has) (record {
      table = table_of s (normal_grid env target.text columns rows);
      has = contained (table_of s (normal_grid env target.text columns rows) ∷ []) 0 _ refl;
      of = refl;
      does = eq-eqb (place_in env target.text) (place_in env target.text) refl;
    })
target-table env (item.Inverted s target headers rows) t has =
    subst (HasTable env (item.Inverted s target headers rows)) (only (s, target) t has) (record {
      table = table_of s (inverted_grid env target.text headers rows);
      has = contained (table_of s (inverted_grid env target.text headers rows) ∷ []) 0 _ refl;
      of = refl;
      does = eq-eqb (place_in env target.text) (place_in env target.text) refl;
    })
target-table env (item.Vector s columns rows) t has =
    let at = place-of (map (λ (row : VRow). (s, row.target)) rows) t has in
    let row = mapped (λ (row : VRow). (s, row.target)) rows at.0 t at.1 in
    let there = place-of (map (row_target env) rows) (row_target env row.0) (map-there (row_target env) rows at.0 row.0 row.1) in
    subst (HasTable env (item.Vector s columns rows)) row.2 (record {
      table = table_of s (vector_grid env columns rows);
      has = contained (table_of s (vector_grid env columns rows) ∷ []) 0 _ refl;
      of = refl;
      does = any-passes (λ target. target == row_target env row.0) (map (row_target env) rows) there.0 (row_target env row.0) there.1
          (eq-eqb (row_target env row.0) (row_target env row.0) refl);
    })
target-table env (item.Constant name minus value) t has = absurd (nothing-in t has)
target-table env (item.RangeType name lo hi) t has = absurd (nothing-in t has)
target-table env (item.EnumType name members) t has = absurd (nothing-in t has)
target-table env (item.Variable w name of init) t has = absurd (nothing-in t has)
target-table env (item.Held side name cond hold) t has = absurd (nothing-in t has)
target-table env (item.Hyst side name term lo hi start) t has = absurd (nothing-in t has)
target-table env (item.Nat moment cond) t has = absurd (nothing-in t has)
target-table env (item.Block name takes uses facts) t has = absurd (nothing-in t has)

-- sections by their words

pub same-word : (a b : SectionWord) → same_section_word a b ≡ true → a ≡ b
same-word section.In section.In is = refl
same-word section.Req section.Req is = refl
same-word section.Sof section.Sof is = refl
same-word section.Out section.Out is = refl
same-word a b is = absurd (true≢false (sym is))

pub word-self : (s : SectionWord) → same_section_word s s ≡ true
word-self section.In = refl
word-self section.Req = refl
word-self section.Sof = refl
word-self section.Out = refl

pub one-word : (a b : SectionWord) → section_of a ≡ section_of b → a ≡ b
one-word section.In section.In e = refl
one-word section.Req section.Req e = refl
one-word section.Sof section.Sof e = refl
one-word section.Out section.Out e = refl
one-word a b e = cc

-- the kinds of a section by a variable's kind alone
abbrev pub has_kind : Section → VarKind → Bool
has_kind core.In k = same_kind kind.Input k
has_kind core.Req k = same_kind kind.Con k || same_kind kind.ReqInner k
has_kind core.Sof k = same_kind kind.Output k || same_kind kind.SofInner k
has_kind core.Out k = same_kind kind.Con k

pub kinds-of : (s : Section) (x : ℕ) (v : Var) → defined_kinds s x v ≡ has_kind s v.kind
kinds-of core.In x v = refl
kinds-of core.Req x v = refl
kinds-of core.Sof x v = refl
kinds-of core.Out x v = refl

-- what a variable without a lack has in each of its sections
pub record HasTarget (defined : List Target) (at_section : Section) (name : List ℕ) : Type 0 where
  pub word : SectionWord
  pub is : section_of word ≡ at_section
  pub there : is_defined defined word name ≡ true

pub lack-none : (defined : List Target) (s : Section) (w : VarWord) (name : Word) (of : Kind) (init : Bound)
    → has_kind s (var_kind w) ≡ true → item_lack defined (item.Variable w name of init) ≡ None → HasTarget defined s name.text
lack-none defined core.In word.Input name of init has none =
    record { word = section.In; is = refl; there = passed (is_defined defined section.In name.text) _ none }
lack-none defined core.Req word.Con name of init has none =
    let both = or-none (lack defined section.Req name) (lack defined section.Out name) none in
    record { word = section.Req; is = refl; there = passed (is_defined defined section.Req name.text) _ both.0 }
lack-none defined core.Req word.ReqVar name of init has none =
    record { word = section.Req; is = refl; there = passed (is_defined defined section.Req name.text) _ none }
lack-none defined core.Sof word.Output name of init has none =
    record { word = section.Sof; is = refl; there = passed (is_defined defined section.Sof name.text) _ none }
lack-none defined core.Sof word.SofVar name of init has none =
    record { word = section.Sof; is = refl; there = passed (is_defined defined section.Sof name.text) _ none }
lack-none defined core.Out word.Con name of init has none =
    let both = or-none (lack defined section.Req name) (lack defined section.Out name) none in
    record { word = section.Out; is = refl; there = passed (is_defined defined section.Out name.text) _ both.1 }
lack-none defined s w name of init has none = absurd (true≢false (sym has))
