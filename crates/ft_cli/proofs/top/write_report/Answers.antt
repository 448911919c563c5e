use Rattle.std.proofs.Common.{◌∙◌, sym, ap, refl, Some, ◌++◌, length, take}
use Rattle.std.proofs.Math.Seq.{take-length}
use Rattle.ft_cli.specs.Top.{written_as}
use Rattle.ft_cli.proofs.top.write_report.Goals as goal

pub returns-in-Ok-clause-written : goal.returns-in-Ok-clause-written
returns-in-Ok-clause-written g c = record {
  all = λ old content _. c.in-Ok.ensures.taken.all old content ∙ ap (λ text. Some (old ++ text)) c.requires;
  part = λ old content _. (
    length (written_as c.args.output c.args.report),
    c.in-Ok.ensures.taken.all old content ∙ ap (λ text. Some (old ++ text)) (c.requires ∙ sym (take-length (written_as c.args.output c.args.report))),
  );
}

pub returns-in-Err-clause-written : goal.returns-in-Err-clause-written
returns-in-Err-clause-written g c = record {
  all = λ old content not_six. absurd (not_six refl);
  part = λ old content _.
      let some = c.in-Err.ensures.taken.part old content in
      (some.0, some.1 ∙ ap (λ text. Some (old ++ take some.0 text)) c.requires);
}
