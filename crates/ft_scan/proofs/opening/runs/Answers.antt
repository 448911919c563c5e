use Rattle.std.proofs.Common.{◌∙◌, sym, ap, subst, ◌+◌, length}
use Rattle.std.proofs.lemmas.List.{length_push}
use Rattle.ft_scan.specs.steps.Opening.{AllStart}
use Rattle.ft_scan.proofs.OpeningLemmas.{all_start_more}
use Rattle.ft_scan.proofs.opening.runs.Goals as goal

pub loop-at-preserved : goal.loop-at-preserved
loop-at-preserved c =
    let items = c.in_ok-push.ensures.items in (
      ap length items ∙ length_push c.loop-at.runs.items c.run_of.result ∙ ap (λ n. n + 1) c.loop-at.invariant.0,
      subst (AllStart c.args.tables.now (c.loop-at.at + 1)) (sym items)
          (all_start_more c.args.tables.now c.loop-at.at c.loop-at.runs.items c.run_of.result c.loop-at.invariant.0 c.run_of.ensures
          c.loop-at.invariant.1),
    )
