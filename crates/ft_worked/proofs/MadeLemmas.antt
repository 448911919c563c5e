-- What is shown of the set of some parts holds of each that is made of them.
use Rattle.std.proofs.Common.{◌≡◌, sym, subst, ℕ, ℤ, List}
use Rattle.std.proofs.Props.{props}
use mathlib.Core.HLevel.{is_prop→PathP}
use Rattle.ft_core.specs.declared.tables.Tables.{Tables}
use Rattle.ft_core.specs.declared.tables.Table.{Table}
use Rattle.ft_core.specs.declared.tables.Block.{Block}
use Rattle.ft_core.specs.declared.tables.Var.{Var}
use Rattle.ft_core.specs.declared.tables.Memory.{Memory}
use Rattle.ft_core.specs.declared.term.Cond.{Cond}
use Rattle.ft_core.specs.checked.Checked.{IsChecked, checked_prop}
use Rattle.ft_core.specs.checked.Sound.{IsSound}
use Rattle.ft_worked.specs.Made.{Parts, IsMadeOf}

-- what is sound is sound of any parts that equal them
pub sound_as : {p q : ℤ} {vs ws : List Var} {ms ns : List Memory} {ts us : List Table} {a b c x y z : List Cond}
    → p ≡ q → vs ≡ ws → ms ≡ ns → ts ≡ us → a ≡ x → b ≡ y → c ≡ z → IsSound q ws ns us x y z → IsSound p vs ms ts a b c
sound_as {p = p} {q = q} {vs = vs} {ws = ws} {ms = ms} {ns = ns} {ts = ts} {us = us} {a = a} {b = b} {c = c} {x = x} {y = y}
    {z = z} ep ev em et ea eb ec h =
    subst (λ i. IsSound i vs ms ts a b c) (sym ep)
    (subst (λ i. IsSound q i ms ts a b c) (sym ev)
    (subst (λ i. IsSound q ws i ts a b c) (sym em)
    (subst (λ i. IsSound q ws ns i a b c) (sym et)
    (subst (λ i. IsSound q ws ns us i b c) (sym ea)
    (subst (λ i. IsSound q ws ns us x i c) (sym eb)
    (subst (λ i. IsSound q ws ns us x y i) (sym ec) h))))))

abbrev pub IsSoundOf : Parts → Type 0
IsSoundOf p = IsSound p.period p.vars p.memories p.tables p.first p.always p.step

-- all that a set has beside its parts
pub record Rest (p : Parts) : Type 0 where
  pub name : List ℕ
  pub splits : ℕ
  pub depth : ℕ
  pub blocks : List Block
  pub sound : IsSoundOf p
  pub checked : IsChecked name splits depth p.vars p.memories p.tables p.first p.always p.step blocks

-- the set of these parts with this rest
abbrev pub set_of : (parts : Parts) → Rest parts → Tables
set_of p rest = record {
  name = rest.name;
  period = p.period;
  splits = rest.splits;
  depth = rest.depth;
  vars = p.vars;
  memories = p.memories;
  tables = p.tables;
  first = p.first;
  always = p.always;
  step = p.step;
  blocks = rest.blocks;
  sound = rest.sound;
  checked = rest.checked;
}

-- what is sound is so in one way
sound-prop : (period : ℤ) (vars : List Var) (memories : List Memory) (tables : List Table) (first always step : List Cond)
    → IsProp (IsSound period vars memories tables first always step)
sound-prop period vars memories tables first always step = hlevel props

-- what is checked is checked of any parts that equal them
pub checked_as : (name : List ℕ) (splits depth : ℕ) (blocks : List Block)
    {vs ws : List Var} {ms ns : List Memory} {ts us : List Table} {a b c x y z : List Cond}
    → vs ≡ ws → ms ≡ ns → ts ≡ us → a ≡ x → b ≡ y → c ≡ z → IsChecked name splits depth ws ns us x y z blocks
    → IsChecked name splits depth vs ms ts a b c blocks
checked_as name splits depth blocks {vs = vs} {ws = ws} {ms = ms} {ns = ns} {ts = ts} {us = us} {a = a} {b = b} {c = c} {x = x}
    {y = y} {z = z} ev em et ea eb ec h =
    subst (λ i. IsChecked name splits depth i ms ts a b c blocks) (sym ev)
    (subst (λ i. IsChecked name splits depth ws i ts a b c blocks) (sym em)
    (subst (λ i. IsChecked name splits depth ws ns i a b c blocks) (sym et)
    (subst (λ i. IsChecked name splits depth ws ns us i b c blocks) (sym ea)
    (subst (λ i. IsChecked name splits depth ws ns us x i c blocks) (sym eb)
    (subst (λ i. IsChecked name splits depth ws ns us x y i blocks) (sym ec) h)))))

-- what is checked is checked of any name, parts and blocks that equal its own
pub checked_with : (splits depth : ℕ) {name other : List ℕ} {vs ws : List Var} {ms ns : List Memory} {ts us : List Table}
    {a b c x y z : List Cond} {ks ls : List Block}
    → name ≡ other → vs ≡ ws → ms ≡ ns → ts ≡ us → a ≡ x → b ≡ y → c ≡ z → ks ≡ ls
    → IsChecked other splits depth ws ns us x y z ls → IsChecked name splits depth vs ms ts a b c ks
checked_with splits depth {other = other} {vs = vs} {ms = ms} {ts = ts} {a = a} {b = b} {c = c} {ks = ks} {ls = ls}
    en ev em et ea eb ec es h =
    subst (λ n. IsChecked n splits depth vs ms ts a b c ks) (sym en)
    (subst (λ l. IsChecked other splits depth vs ms ts a b c l) (sym es)
    (checked_as other splits depth ls ev em et ea eb ec h))

module _ (p : Parts) (S : Tables) (is : IsMadeOf p S) where
  abbrev rest_of : Rest p
  rest_of = record {
    name = S.name;
    splits = S.splits;
    depth = S.depth;
    blocks = S.blocks;
    sound = sound_as (sym is.period_is) (sym is.vars_are) (sym is.memories_are) (sym is.tables_are) (sym is.first_is) (sym is.always_is)
        (sym is.step_is) S.sound;
    checked = checked_as S.name S.splits S.depth S.blocks (sym is.vars_are) (sym is.memories_are) (sym is.tables_are) (sym is.first_is)
        (sym is.always_is) (sym is.step_is) S.checked;
  }

  same : S ≡ set_of p rest_of
  same = λ i. record {
    name = S.name;
    period = is.period_is i;
    splits = S.splits;
    depth = S.depth;
    vars = is.vars_are i;
    memories = is.memories_are i;
    tables = is.tables_are i;
    first = is.first_is i;
    always = is.always_is i;
    step = is.step_is i;
    blocks = S.blocks;
    sound = is_prop→PathP (λ j. IsSound (is.period_is j) (is.vars_are j) (is.memories_are j) (is.tables_are j) (is.first_is j)
        (is.always_is j) (is.step_is j))
        (λ j. sound-prop (is.period_is j) (is.vars_are j) (is.memories_are j) (is.tables_are j) (is.first_is j) (is.always_is j)
        (is.step_is j)) S.sound rest_of.sound i;
    checked = is_prop→PathP
        (λ j. IsChecked S.name S.splits S.depth (is.vars_are j) (is.memories_are j) (is.tables_are j) (is.first_is j) (is.always_is j)
        (is.step_is j) S.blocks)
        (λ j. checked_prop S.name S.splits S.depth (is.vars_are j) (is.memories_are j) (is.tables_are j) (is.first_is j) (is.always_is j)
        (is.step_is j) S.blocks)
        S.checked rest_of.checked i;
  }

  pub for_each : (P : Tables → Type 0) → ((rest : Rest p) → P (set_of p rest)) → P S
  for_each P h = subst P (sym same) (h rest_of)
