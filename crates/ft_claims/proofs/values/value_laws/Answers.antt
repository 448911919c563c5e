use Rattle.ft_claims.proofs.values.value_laws.Goals as goal
use Rattle.ft_claims.proofs.CoverPoints.{points_of_numbers}
use Rattle.ft_claims.proofs.NumberLemmas.{number_now, number_kept, number_past, number_kept_past}

pub returns-clause-made : goal.returns-clause-made
returns-clause-made c S now kept_now past kept_past = record {
  is_now = number_now S now kept_now past kept_past;
  is_kept = number_kept S now kept_now past kept_past;
  is_past = number_past S now kept_now past kept_past;
  is_kept_past = number_kept_past S now kept_now past kept_past;
}

pub returns-clause-points : goal.returns-clause-points
returns-clause-points c = points_of_numbers
