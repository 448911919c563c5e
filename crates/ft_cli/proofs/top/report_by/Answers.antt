use Rattle.std.proofs.Common.{ap, refl, [], ◌∷◌}
use Rattle.ft_cli.specs.Top.{demo, gen, print, verify}
use Rattle.ft_cli.specs.stages.Command.{asked_by}
use Rattle.ft_cli.proofs.TopLemmas.{demo-outcome, first-known, generated-outcome, known-as, none-read, numbered-as, others-as, others-stay}
use Rattle.ft_cli.proofs.TopLemmas.{outcome-as, second-known}
use Rattle.ft_cli.proofs.top.report_by.Goals as goal

pub verify-requires : goal.verify-requires
verify-requires g c = first-known _ _ [] (known-as _ _ (ap asked_by c.in-Verify.is) _ c.requires.known)

pub returns-in-Verify-clause-outcome : goal.returns-in-Verify-clause-outcome
returns-in-Verify-clause-outcome g c = outcome-as _ _ (ap asked_by c.in-Verify.is) _ _ c.verify.ensures.outcome

pub returns-in-Verify-clause-others : goal.returns-in-Verify-clause-others
returns-in-Verify-clause-others g c =
    others-as _ _ (ap asked_by c.in-Verify.is) _ _ _ _ _ _ (others-stay (verify _) _ refl _ _ _ _ _ _ c.verify.ensures.others)

pub print_file-requires : goal.print_file-requires
print_file-requires g c = first-known _ _ [] (known-as _ _ (ap asked_by c.in-Print.is) _ c.requires.known)

pub returns-in-Print-clause-outcome : goal.returns-in-Print-clause-outcome
returns-in-Print-clause-outcome g c = outcome-as _ _ (ap asked_by c.in-Print.is) _ _ c.print_file.ensures.outcome

pub returns-in-Print-clause-others : goal.returns-in-Print-clause-others
returns-in-Print-clause-others g c =
    others-as _ _ (ap asked_by c.in-Print.is) _ _ _ _ _ _ (others-stay (print _) _ refl _ _ _ _ _ _ c.print_file.ensures.others)

pub replay-requires-clause-file : goal.replay-requires-clause-file
replay-requires-clause-file g c =
    first-known _ _ (c.in-Replay.trace.now ∷ []) (known-as _ _ (ap asked_by c.in-Replay.is) _ c.requires.known)

pub replay-requires-clause-trace : goal.replay-requires-clause-trace
replay-requires-clause-trace g c = second-known _ _ _ (known-as _ _ (ap asked_by c.in-Replay.is) _ c.requires.known)

pub returns-in-Replay-clause-outcome : goal.returns-in-Replay-clause-outcome
returns-in-Replay-clause-outcome g c = outcome-as _ _ (ap asked_by c.in-Replay.is) _ _ c.replay.ensures.outcome

pub returns-in-Replay-clause-others : goal.returns-in-Replay-clause-others
returns-in-Replay-clause-others g c = others-as _ _ (ap asked_by c.in-Replay.is) _ _ _ _ _ _ c.replay.ensures.others

pub generated-requires-clause-some : goal.generated-requires-clause-some
generated-requires-clause-some g c = (numbered-as _ _ (ap asked_by c.in-Gen.is) c.requires.number).0

pub generated-requires-clause-few : goal.generated-requires-clause-few
generated-requires-clause-few g c = (numbered-as _ _ (ap asked_by c.in-Gen.is) c.requires.number).1

pub returns-in-Gen-clause-outcome : goal.returns-in-Gen-clause-outcome
returns-in-Gen-clause-outcome g c = outcome-as _ _ (ap asked_by c.in-Gen.is) _ _ (generated-outcome _ _ _ c.generated.ensures)

pub returns-in-Gen-clause-others : goal.returns-in-Gen-clause-others
returns-in-Gen-clause-others g c = others-as _ _ (ap asked_by c.in-Gen.is) _ _ _ _ _ _ (none-read (gen _) _ _ _)

pub demo-requires-clause-some : goal.demo-requires-clause-some
demo-requires-clause-some g c = (numbered-as _ _ (ap asked_by c.in-Demo.is) c.requires.number).0

pub demo-requires-clause-few : goal.demo-requires-clause-few
demo-requires-clause-few g c = (numbered-as _ _ (ap asked_by c.in-Demo.is) c.requires.number).1

pub returns-in-Demo-clause-outcome : goal.returns-in-Demo-clause-outcome
returns-in-Demo-clause-outcome g c = outcome-as _ _ (ap asked_by c.in-Demo.is) _ _ (demo-outcome _ _ _ c.demo.ensures)

pub returns-in-Demo-clause-others : goal.returns-in-Demo-clause-others
returns-in-Demo-clause-others g c = others-as _ _ (ap asked_by c.in-Demo.is) _ _ _ _ _ _ (none-read (demo _) _ _ _)
