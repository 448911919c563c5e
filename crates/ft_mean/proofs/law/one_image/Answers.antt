use Rattle.ft_mean.proofs.MapsLaw.{one_image}
use Rattle.ft_mean.proofs.law.one_image.Goals as goal

pub returns : goal.returns
returns c = one_image
