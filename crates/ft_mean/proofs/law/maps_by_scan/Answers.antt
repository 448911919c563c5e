use Rattle.ft_mean.proofs.ByScan.{maps_by_scan}
use Rattle.ft_mean.proofs.law.maps_by_scan.Goals as goal

pub returns : goal.returns
returns c = maps_by_scan
