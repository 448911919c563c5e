-- How both sides of a set go on by one scan.
use Rattle.std.specs.Prelude.{◌≡◌, ℤ, Bool, List, [], ◌∷◌, ◌++◌, MatchBool}
use Rattle.ft_core.specs.declared.tables.Tables.{Tables}
use Rattle.ft_core.specs.declared.tables.Section.TheVariants as section
use Rattle.ft_core.specs.meaning.Kinds.{outputs}
use Rattle.ft_mean.specs.meaning.Fits.{Fits, InputMap, Maps}
use Rattle.ft_mean.specs.meaning.Refines.{SameAt}
use Rattle.ft_replay.specs.scans.Differing.{DiffersAt}
use Rattle.ft_replay.specs.scans.Outputs.{AreOutputs}
use Rattle.ft_scan.specs.meaning.Scanning.{Scanning}

-- a scanner went on by one scan: it was given this row, and told that one
pub record Ran (old new : Scanning) (given row : List ℤ) : Type 0 where
  pub set : new.set ≡ old.set
  pub side : new.side ≡ old.side
  pub list : new.given ≡ old.given ++ given ∷ []
  pub rows : new.rows ≡ old.rows ++ row ∷ []
  pub fits : Fits new.set new.side new.given new.rows

-- from a row of monitored values both sides went on, and the controlled values of the scan are alike or not
pub record BothRan (S : Tables) (monitored : List ℤ) (required required_new design design_new : Scanning) (alike : Bool) : Type 0 where
  pub inputs_row : List ℤ
  pub required_row : List ℤ
  pub design_row : List ℤ
  pub outputs_row : List ℤ
  pub controlled_row : List ℤ
  pub input_map : InputMap S (monitored ∷ []) (inputs_row ∷ [])
  pub required_ran : Ran required required_new monitored required_row
  pub design_ran : Ran design design_new inputs_row design_row
  pub put_out : AreOutputs S (design_row ∷ []) (outputs_row ∷ [])
  pub output_map : Maps S section.Out outputs (outputs_row ∷ []) (controlled_row ∷ [])
  pub compared : MatchBool alike (SameAt S (required_row ∷ []) (controlled_row ∷ []) 0)
      (DiffersAt S (required_row ∷ []) (controlled_row ∷ []) 0)
