use Rattle.ft_mean.proofs.ByScan.{allowed_by_scan}
use Rattle.ft_mean.proofs.law.allowed_by_scan.Goals as goal

pub returns : goal.returns
returns c = allowed_by_scan
