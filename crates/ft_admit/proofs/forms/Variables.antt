-- The variables of a set by the items that declare them: their places among all and among those of their kind.
use Rattle.std.proofs.Common.{◌≡◌, ◌∙◌, sym, ap, subst, refl, ℕ, zero, suc, ◌+◌, true, false, cond, List, [], ◌∷◌, ◌++◌}
use Rattle.std.proofs.Common.{length, take, slice_get, Option, Some, None, arith}
use Rattle.std.proofs.lemmas.Option.{none-some, same_Some}
use Rattle.ft_tree.specs.declared.item.Word.{Word}
use Rattle.ft_tree.specs.declared.item.Bound.{Bound}
use Rattle.ft_tree.specs.declared.item.Kind.{Kind}
use Rattle.ft_tree.specs.declared.item.VarWord.{VarWord}
use Rattle.ft_tree.specs.declared.item.VarWord.TheVariants as word
use Rattle.ft_tree.specs.declared.item.Item.{Item}
use Rattle.ft_tree.specs.declared.item.Item.TheVariants as item
use Rattle.ft_core.specs.declared.tables.Var.{Var}
use Rattle.ft_core.specs.declared.tables.VarKind.{VarKind}
use Rattle.ft_core.specs.declared.tables.VarKind.TheVariants as kind
use Rattle.ft_core.specs.meaning.Kinds.{Kinds, is_of, of_kind, place_of, same_kind}
use Rattle.ft_names.specs.meaning.Cards.{Env, declares_variable, kind_values}
use Rattle.ft_build.specs.declared.places.Places.{Places}
use Rattle.ft_build.specs.meaning.Variables.{build_var, counted, init_value, no_places, one_more, place_among, var_kind, var_of, vars_from}
use Rattle.ft_admit.proofs.forms.Lists.{times}

-- the variable that an item declares, at some place among those of its kind
abbrev pub declared_var : List Item → Env → VarWord → Word → Kind → Bound → ℕ → Var
declared_var items env w name of init place =
    var_of items name.text w place (kind_values items of) (init_value items env (kind_values items of) init)

-- the item that declares the variable at a place
pub record IsDeclared (items : List Item) (env : Env) (xs : List Item) (x : ℕ) (v : Var) : Type 0 where
  pub number : ℕ
  pub word : VarWord
  pub name : Word
  pub of : Kind
  pub init : Bound
  pub place : ℕ
  pub at : slice_get xs number ≡ Some (item.Variable word name of init)
  pub counts : x ≡ times declares_variable (take number xs)
  pub is : v ≡ declared_var items env word name of init place

further : (items : List Item) (env : Env) (y : Item) (xs : List Item) (x z : ℕ) (v : Var) → IsDeclared items env xs x v
    → z ≡ cond (declares_variable y) 1 0 + x → IsDeclared items env (y ∷ xs) z v
further items env y xs x z v d more = record {
  number = suc d.number;
  word = d.word;
  name = d.name;
  of = d.of;
  init = d.init;
  place = d.place;
  at = d.at;
  counts = more ∙ ap (λ n. cond (declares_variable y) 1 0 + n) d.counts;
  is = d.is;
}

-- each variable has its item
pub var-from : (items : List Item) (env : Env) (before : Places) (xs : List Item) (x : ℕ) (v : Var)
    → slice_get (vars_from items env before xs) x ≡ Some v → IsDeclared items env xs x v
unfolding vars_from
var-from items env before [] x v at = absurd (none-some v at)
var-from items env before (item.Variable w name of init ∷ xs) zero v at = record {
  number = 0;
  word = w;
  name = name;
  of = of;
  init = init;
  place = place_among w before;
  at = refl;
  counts = refl;
  is = sym (same_Some (declared_var items env w name of init (place_among w before)) v at);
}
var-from items env before (item.Variable w name of init ∷ xs) (suc x) v at =
    further items env (item.Variable w name of init) xs x (suc x) v (var-from items env (one_more w before) xs x v at) (omega arith)
var-from items env before (item.Constant name minus value ∷ xs) x v at =
    further items env (item.Constant name minus value) xs x x v (var-from items env before xs x v at) (omega arith)
var-from items env before (item.RangeType name lo hi ∷ xs) x v at =
    further items env (item.RangeType name lo hi) xs x x v (var-from items env before xs x v at) (omega arith)
var-from items env before (item.EnumType name members ∷ xs) x v at =
    further items env (item.EnumType name members) xs x x v (var-from items env before xs x v at) (omega arith)
var-from items env before (item.Held side name cond hold ∷ xs) x v at =
    further items env (item.Held side name cond hold) xs x x v (var-from items env before xs x v at) (omega arith)
var-from items env before (item.Hyst side name term lo hi start ∷ xs) x v at =
    further items env (item.Hyst side name term lo hi start) xs x x v (var-from items env before xs x v at) (omega arith)
var-from items env before (item.Normal section target columns rows ∷ xs) x v at =
    further items env (item.Normal section target columns rows) xs x x v (var-from items env before xs x v at) (omega arith)
var-from items env before (item.Inverted section target headers rows ∷ xs) x v at =
    further items env (item.Inverted section target headers rows) xs x x v (var-from items env before xs x v at) (omega arith)
var-from items env before (item.Vector section columns rows ∷ xs) x v at =
    further items env (item.Vector section columns rows) xs x x v (var-from items env before xs x v at) (omega arith)
var-from items env before (item.Nat moment cond ∷ xs) x v at =
    further items env (item.Nat moment cond) xs x x v (var-from items env before xs x v at) (omega arith)
var-from items env before (item.Block name takes uses facts ∷ xs) x v at =
    further items env (item.Block name takes uses facts) xs x x v (var-from items env before xs x v at) (omega arith)

-- what an item builds stands before the rest
behind : (items : List Item) (env : Env) (before : Places) (y : Item) (rest : List Var) (n : ℕ)
    → slice_get (build_var items env before y ++ rest) (cond (declares_variable y) 1 0 + n) ≡ slice_get rest n
behind items env before (item.Variable w name of init) rest n =
    let next : 1 + n ≡ suc n = omega arith in
    ap (slice_get (declared_var items env w name of init (place_among w before) ∷ rest)) next
behind items env before (item.Constant name minus value) rest n = ap (slice_get rest) (omega arith)
behind items env before (item.RangeType name lo hi) rest n = ap (slice_get rest) (omega arith)
behind items env before (item.EnumType name members) rest n = ap (slice_get rest) (omega arith)
behind items env before (item.Held side name cond hold) rest n = ap (slice_get rest) (omega arith)
behind items env before (item.Hyst side name term lo hi start) rest n = ap (slice_get rest) (omega arith)
behind items env before (item.Normal section target columns rows) rest n = ap (slice_get rest) (omega arith)
behind items env before (item.Inverted section target headers rows) rest n = ap (slice_get rest) (omega arith)
behind items env before (item.Vector section columns rows) rest n = ap (slice_get rest) (omega arith)
behind items env before (item.Nat moment cond) rest n = ap (slice_get rest) (omega arith)
behind items env before (item.Block name takes uses facts) rest n = ap (slice_get rest) (omega arith)

-- each item that declares a variable has it at its place
pub var-at : (items : List Item) (env : Env) (before : Places) (xs : List Item) (k : ℕ) (w : VarWord) (name : Word) (of : Kind)
    (init : Bound) → slice_get xs k ≡ Some (item.Variable w name of init)
    → (p : ℕ) × (slice_get (vars_from items env before xs) (times declares_variable (take k xs))
    ≡ Some (declared_var items env w name of init p))
unfolding vars_from
var-at items env before [] k w name of init at = absurd (none-some (item.Variable w name of init) at)
var-at items env before (y ∷ xs) zero w name of init at = (
  place_among w before,
  ap (λ (z : Item). slice_get (build_var items env before z ++ vars_from items env (counted before z) xs) 0)
      (same_Some y (item.Variable w name of init) at),
)
var-at items env before (y ∷ xs) (suc k) w name of init at =
    let rest = var-at items env (counted before y) xs k w name of init at in
    (rest.0, behind items env before y (vars_from items env (counted before y) xs) (times declares_variable (take k xs)) ∙ rest.1)

-- a variable of the set is one of some kinds by its own kind
pub is-of : (vars : List Var) (kinds : Kinds) (x : ℕ) (v : Var) → slice_get vars x ≡ Some v → kinds x v ≡ true → is_of vars kinds x ≡ true
is-of vars kinds x v at passes =
    ap (λ (o : Option Var). elim o [ None ↦ false | Some u ↦ kinds x u ]) at ∙ passes

pub of-is : (vars : List Var) (kinds : Kinds) (x : ℕ) → is_of vars kinds x ≡ true
    → (v : Var) × (slice_get vars x ≡ Some v) × (kinds x v ≡ true)
of-is vars kinds x is = by (slice_get vars x) is
  where
    by : (o : Option Var) → elim o [ None ↦ false | Some u ↦ kinds x u ] ≡ true → (v : Var) × (o ≡ Some v) × (kinds x v ≡ true)
    by None is = cc
    by (Some v) is = (v, refl, is)

-- places among those of a kind

among : VarKind → Places → ℕ
among kind.Mon places = places.monitored
among kind.Con places = places.controlled
among kind.Input places = places.inputs
among kind.Output places = places.outputs
among kind.ReqInner places = places.requirement
among kind.SofInner places = places.design

start-of : (w : VarWord) (before : Places) → place_among w before ≡ among (var_kind w) before + 0
unfolding among
start-of word.Mon before = omega arith
start-of word.Con before = omega arith
start-of word.Input before = omega arith
start-of word.Output before = omega arith
start-of word.ReqVar before = omega arith
start-of word.SofVar before = omega arith

step-of : (k : VarKind) (w : VarWord) (before : Places) (n : ℕ)
    → among k (one_more w before) + n ≡ among k before + cond (same_kind k (var_kind w)) (suc n) n
unfolding among
step-of kind.Mon word.Mon before n = omega arith
step-of kind.Con word.Con before n = omega arith
step-of kind.Input word.Input before n = omega arith
step-of kind.Output word.Output before n = omega arith
step-of kind.ReqInner word.ReqVar before n = omega arith
step-of kind.SofInner word.SofVar before n = omega arith
step-of k w before n = refl

start-none : (k : VarKind) (n : ℕ) → among k no_places + n ≡ n
unfolding among
start-none kind.Mon n = omega arith
start-none kind.Con n = omega arith
start-none kind.Input n = omega arith
start-none kind.Output n = omega arith
start-none kind.ReqInner n = omega arith
start-none kind.SofInner n = omega arith

placed-after : (items : List Item) (env : Env) (before : Places) (xs : List Item) (x : ℕ) (v : Var)
    → slice_get (vars_from items env before xs) x ≡ Some v
    → v.place ≡ among v.kind before + place_of (of_kind v.kind) (vars_from items env before xs) x
unfolding vars_from
placed-after items env before [] x v at = absurd (none-some v at)
placed-after items env before (item.Variable w name of init ∷ xs) zero v at =
    subst (λ (u : Var). u.place ≡ among u.kind before + 0)
    (same_Some (declared_var items env w name of init (place_among w before)) v at) (start-of w before)
placed-after items env before (item.Variable w name of init ∷ xs) (suc x) v at =
    placed-after items env (one_more w before) xs x v at
    ∙ step-of v.kind w before (place_of (of_kind v.kind) (vars_from items env (one_more w before) xs) x)
placed-after items env before (item.Constant name minus value ∷ xs) x v at = placed-after items env before xs x v at
placed-after items env before (item.RangeType name lo hi ∷ xs) x v at = placed-after items env before xs x v at
placed-after items env before (item.EnumType name members ∷ xs) x v at = placed-after items env before xs x v at
placed-after items env before (item.Held side name cond hold ∷ xs) x v at = placed-after items env before xs x v at
placed-after items env before (item.Hyst side name term lo hi start ∷ xs) x v at = placed-after items env before xs x v at
placed-after items env before (item.Normal section target columns rows ∷ xs) x v at = placed-after items env before xs x v at
placed-after items env before (item.Inverted section target headers rows ∷ xs) x v at = placed-after items env before xs x v at
placed-after items env before (item.Vector section columns rows ∷ xs) x v at = placed-after items env before xs x v at
placed-after items env before (item.Nat moment cond ∷ xs) x v at = placed-after items env before xs x v at
placed-after items env before (item.Block name takes uses facts ∷ xs) x v at = placed-after items env before xs x v at

-- a variable's place is how many of its kind are declared before it
pub placed : (items : List Item) (env : Env) (x : ℕ) (v : Var) → slice_get (vars_from items env no_places items) x ≡ Some v
    → v.place ≡ place_of (of_kind v.kind) (vars_from items env no_places items) x
placed items env x v at =
    placed-after items env no_places items x v at ∙ start-none v.kind (place_of (of_kind v.kind) (vars_from items env no_places items) x)

-- as many variables as items that declare one
pub vars-length : (items : List Item) (env : Env) (before : Places) (xs : List Item)
    → length (vars_from items env before xs) ≡ times declares_variable xs
unfolding vars_from
vars-length items env before [] = refl
vars-length items env before (item.Variable w name of init ∷ xs) = let rest = vars-length items env (one_more w before) xs in omega arith
vars-length items env before (item.Constant name minus value ∷ xs) = let rest = vars-length items env before xs in omega arith
vars-length items env before (item.RangeType name lo hi ∷ xs) = let rest = vars-length items env before xs in omega arith
vars-length items env before (item.EnumType name members ∷ xs) = let rest = vars-length items env before xs in omega arith
vars-length items env before (item.Held side name cond hold ∷ xs) = let rest = vars-length items env before xs in omega arith
vars-length items env before (item.Hyst side name term lo hi start ∷ xs) = let rest = vars-length items env before xs in omega arith
vars-length items env before (item.Normal section target columns rows ∷ xs) = let rest = vars-length items env before xs in omega arith
vars-length items env before (item.Inverted section target headers rows ∷ xs) = let rest = vars-length items env before xs in omega arith
vars-length items env before (item.Vector section columns rows ∷ xs) = let rest = vars-length items env before xs in omega arith
vars-length items env before (item.Nat moment cond ∷ xs) = let rest = vars-length items env before xs in omega arith
vars-length items env before (item.Block name takes uses facts ∷ xs) = let rest = vars-length items env before xs in omega arith
