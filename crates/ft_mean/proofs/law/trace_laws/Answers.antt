use Rattle.ft_mean.proofs.FirstScans.{longer, allowed_shorter, fits_shorter, inputs_shorter, outputs_shorter, same_fronts, differs_shorter}
use Rattle.ft_mean.proofs.law.trace_laws.Goals as goal

pub returns-clause-longer : goal.returns-clause-longer
returns-clause-longer c = longer

pub returns-clause-allowed : goal.returns-clause-allowed
returns-clause-allowed c = allowed_shorter

pub returns-clause-fits : goal.returns-clause-fits
returns-clause-fits c = fits_shorter

pub returns-clause-inputs : goal.returns-clause-inputs
returns-clause-inputs c = inputs_shorter

pub returns-clause-outputs : goal.returns-clause-outputs
returns-clause-outputs c = outputs_shorter

pub returns-clause-same_front : goal.returns-clause-same_front
returns-clause-same_front c = same_fronts

pub returns-clause-differs : goal.returns-clause-differs
returns-clause-differs c = differs_shorter
