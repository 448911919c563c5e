use Rattle.ft_mean.proofs.TimeLemmas.{elapsed_up, since_none, since_next, since_falls, begun_low, begun_here, begun_past}
use Rattle.ft_mean.proofs.TimeLemmas.{begins_first, begins_once, begun_first, elapsed_period, since_periods, scan_before_is}
use Rattle.ft_mean.proofs.BegunLemmas.{before_begins, before_later, before_alike}
use Rattle.ft_mean.proofs.WellFormed.{opened}
use Rattle.ft_mean.proofs.law.time_laws.Goals as goal

pub returns-clause-elapsed_up : goal.returns-clause-elapsed_up
returns-clause-elapsed_up c = λ S ρ. elapsed_up S ρ (opened S).goes_on

pub returns-clause-since_none : goal.returns-clause-since_none
returns-clause-since_none c = λ S ρ. since_none S ρ (opened S).goes_on

pub returns-clause-since_next : goal.returns-clause-since_next
returns-clause-since_next c = λ S ρ. since_next S ρ (opened S).goes_on

pub returns-clause-since_falls : goal.returns-clause-since_falls
returns-clause-since_falls c = λ S ρ. since_falls S ρ (opened S).goes_on

pub returns-clause-begun_low : goal.returns-clause-begun_low
returns-clause-begun_low c = begun_low

pub returns-clause-begun_here : goal.returns-clause-begun_here
returns-clause-begun_here c = begun_here

pub returns-clause-begun_past : goal.returns-clause-begun_past
returns-clause-begun_past c = begun_past

pub returns-clause-begins_first : goal.returns-clause-begins_first
returns-clause-begins_first c = begins_first

pub returns-clause-before_begins : goal.returns-clause-before_begins
returns-clause-before_begins c = before_begins

pub returns-clause-before_later : goal.returns-clause-before_later
returns-clause-before_later c = before_later

pub returns-clause-scan_before : goal.returns-clause-scan_before
returns-clause-scan_before c = scan_before_is

pub returns-clause-before_same : goal.returns-clause-before_same
returns-clause-before_same c = before_alike

pub returns-clause-begins_once : goal.returns-clause-begins_once
returns-clause-begins_once c = begins_once

pub returns-clause-begun_first : goal.returns-clause-begun_first
returns-clause-begun_first c = begun_first

pub returns-clause-elapsed_period : goal.returns-clause-elapsed_period
returns-clause-elapsed_period c = elapsed_period

pub returns-clause-since_periods : goal.returns-clause-since_periods
returns-clause-since_periods c = since_periods
