use Rattle.std.proofs.Common.{◌∙◌, sym, ap, subst, length, arith}
use Rattle.std.specs.Prelude.{IsTrue, None}
use Rattle.std.specs.List.{last_or}
use Rattle.std.proofs.lemmas.List.{length_push}
use Rattle.ft_scan.specs.meaning.Allowing.{nat_after}
use Rattle.ft_replay.specs.scans.Differing.{first_with}
use Rattle.ft_replay.specs.scans.IsReplaying.{Replays}
use Rattle.ft_replay.specs.meaning.Replaying.{Replaying}
use Rattle.ft_replay.proofs.StepLemmas.{replays-more}
use Rattle.ft_replay.proofs.replayer.Replayer.scan.Goals as goal

pub invariant_of-self : goal.invariant_of-self
invariant_of-self c =
    let p = c.self.inside in
    let S = p.tables.now in
    let m = c.args.monitored_row.now in
    let run = c.run_scan-alike.ensures.runs in
    let now = subst (λ (w : Replaying). IsTrue (nat_after w.set (last_or None w.list) m)) (sym c.self.view_is) c.requires.allowed in
    let more = replays-more c.laws.ensures S m p.required c.run_scan-alike.new.required p.design c.run_scan-alike.new.design
    c.run_scan-alike.result p.first
    c.self.invariant.required_set c.self.invariant.required_side c.self.invariant.design_set c.self.invariant.design_side
    c.self.invariant.replays now run in
    record {
      proper = c.self.invariant.proper;
      required_set = run.required_ran.set ∙ c.self.invariant.required_set;
      required_side = run.required_ran.side ∙ c.self.invariant.required_side;
      design_set = run.design_ran.set ∙ c.self.invariant.design_set;
      design_side = run.design_ran.side ∙ c.self.invariant.design_side;
      replays = subst (λ o. Replays S c.run_scan-alike.new.required.given c.run_scan-alike.new.required.rows
          c.run_scan-alike.new.design.given c.run_scan-alike.new.design.rows o)
          (ap (λ n. first_with p.first n c.run_scan-alike.result) (sym c.self.invariant.count) ∙ sym c.first_with-self-inside.ensures) more;
      count = omega (arith, c.self.invariant.count, ap length run.required_ran.list, length_push p.required.given m);
      rooms = c.run_scan-alike.ensures.rooms;
    }
