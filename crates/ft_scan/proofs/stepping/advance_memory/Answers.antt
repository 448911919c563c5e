use Rattle.std.proofs.Common.{◌∙◌, sym, ap, subst, refl, List, Some, arith}
use Rattle.std.proofs.lemmas.Option.{slice_get_within, get_or_from_slice_get}
use Rattle.ft_scan.specs.declared.frame.Running.{Running}
use Rattle.ft_scan.specs.steps.Frame.{view_of}
use Rattle.ft_scan.specs.steps.Stepping.{CanHear, Hears}
use Rattle.ft_scan.proofs.FrameLemmas.{memory_safe, can_hear, hears_advances}
use Rattle.ft_scan.proofs.stepping.advance_memory.Goals as goal

pub sample_of-sample-requires : goal.sample_of-sample-requires
sample_of-sample-requires c = memory_safe c.args.tables.now c.args.frame.now c.requires.frame c.args.memory c.get.result.now c.get.ensures

pub index_mut-requires : goal.index_mut-requires
index_mut-requires c =
    let ran = c.requires.frame.runs c.args.memory c.get.result.now c.get.ensures in
    let below = slice_get_within c.args.frame.now.runs.items c.args.memory ran.0 ran.1 in
    omega (arith, below, c.args.frame.now.runs.ok.0)

pub advance-truth-requires : goal.advance-truth-requires
advance-truth-requires c =
    let ran = c.requires.frame.runs c.args.memory c.get.result.now c.get.ensures in
    let is = c.index_mut.ensures.value ∙ get_or_from_slice_get c.args.frame.now.runs.items c.args.memory ran.0 _ ran.1 in
    subst (λ r. CanHear r c.sample_of-sample.result) (sym is)
    (subst (CanHear ran.0) (sym c.sample_of-sample.ensures) (can_hear (view_of c.args.frame.now) c.args.tables.now.period c.get.result.now
    ran.0 ran.2))

pub returns : goal.returns
returns c =
    let ran = c.requires.frame.runs c.args.memory c.get.result.now c.get.ensures in
    let is = c.index_mut.ensures.value ∙ get_or_from_slice_get c.args.frame.now.runs.items c.args.memory ran.0 _ ran.1 in
    record {
      memory = c.get.result.now;
      there = c.get.ensures;
      run = c.index_mut.result.now;
      next = c.advance-truth.new.run;
      says = c.advance-truth.result;
      ran = ran.1 ∙ ap Some (sym is);
      advances = hears_advances (view_of c.args.frame.now) c.get.result.now c.index_mut.result.now c.advance-truth.new.run
          c.advance-truth.result
          (subst (λ s. Hears c.index_mut.result.now s c.advance-truth.new.run c.advance-truth.result) c.sample_of-sample.ensures
          c.advance-truth.ensures);
      runs = refl {A = List Running};
      now = refl;
      past = refl;
      truths = c.put_truth.ensures;
      columns = refl;
    }
