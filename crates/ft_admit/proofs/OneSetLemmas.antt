-- A text spells one set: its tree is one, and a set is determined by its parts.
use Rattle.std.proofs.Common.{◌≡◌, ◌∙◌, sym, ap, ℤ, List}
use Rattle.std.proofs.Props.{props}
use mathlib.Core.HLevel.{is_prop→PathP}
use Rattle.ft_core.specs.checked.Checked.{IsChecked, checked_prop}
use Rattle.ft_core.specs.checked.Sound.{IsSound}
use Rattle.ft_core.specs.declared.tables.Memory.{Memory}
use Rattle.ft_core.specs.declared.tables.Table.{Table}
use Rattle.ft_core.specs.declared.tables.Tables.{Tables}
use Rattle.ft_core.specs.declared.tables.Var.{Var}
use Rattle.ft_core.specs.declared.term.Cond.{Cond}
use Rattle.ft_parse.specs.laws.Uniqueness.{OneTree}
use Rattle.ft_admit.specs.laws.OneSet.{OneSet}
use Rattle.ft_admit.specs.meaning.Trees.{parts_of, set_of_tree}

-- what is sound is so in one way
sound-prop : (period : ℤ) (vars : List Var) (memories : List Memory) (tables : List Table) (first always step : List Cond)
    → IsProp (IsSound period vars memories tables first always step)
sound-prop period vars memories tables first always step = hlevel props

-- sets of the same parts are the same
same-set : (S T : Tables) → parts_of S ≡ parts_of T → S ≡ T
same-set S T same = λ i. record {
  name = (same i).name;
  period = (same i).period;
  splits = (same i).splits;
  depth = (same i).depth;
  vars = (same i).vars;
  memories = (same i).memories;
  tables = (same i).tables;
  first = (same i).first;
  always = (same i).always;
  step = (same i).step;
  blocks = (same i).blocks;
  sound = is_prop→PathP (λ j. IsSound ((same j).period) ((same j).vars) ((same j).memories) ((same j).tables) ((same j).first)
      ((same j).always) ((same j).step))
      (λ j. sound-prop ((same j).period) ((same j).vars) ((same j).memories) ((same j).tables) ((same j).first) ((same j).always)
      ((same j).step)) S.sound T.sound i;
  checked = is_prop→PathP (λ j. IsChecked ((same j).name) ((same j).splits) ((same j).depth) ((same j).vars) ((same j).memories)
      ((same j).tables) ((same j).first) ((same j).always) ((same j).step) ((same j).blocks))
      (λ j. checked_prop ((same j).name) ((same j).splits) ((same j).depth) ((same j).vars) ((same j).memories) ((same j).tables)
      ((same j).first) ((same j).always) ((same j).step) ((same j).blocks)) S.checked T.checked i;
}

pub one-set : OneTree → OneSet
one-set one_tree text S T s t =
    same-set S T (s.same ∙ ap set_of_tree (one_tree text s.tree t.tree s.spelled t.spelled) ∙ sym t.same)
