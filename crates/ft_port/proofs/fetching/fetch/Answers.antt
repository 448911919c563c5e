use Rattle.std.proofs.Common.{rules, arith, ◌∙◌, ◌<◌, ◌≤◌, ◌+◌, length}
use Rattle.std.proofs.lemmas.Grind.{common_steps}
use Rattle.ft_port.proofs.FetchLemmas.{more, done, grows}
use Rattle.ft_port.proofs.fetching.fetch.Goals as goal

pub returns-then-count-eq0-clause-file : goal.returns-then-count-eq0-clause-file
returns-then-count-eq0-clause-file g c =
    let room : 0 < length c.read.new.into = omega (arith, c.loop-turn.invariant.room) in
    done _ _ _ _ _ _ _ _ _ _ c.loop-turn.invariant.content c.len-place.ensures c.loop-turn.invariant.so_far c.in-Ok-read.ensures.bytes
    c.in-Ok-read.ensures.reads
    c.if-count-eq0.true room

pub loop-turn-preserved : goal.loop-turn-preserved
loop-turn-preserved g c =
    let fits : length c.loop-turn.text + c.in-Ok-read.count ≤ c.args.limit = grind (arith, common_steps) in
    record {
      so_far = rw c.in-Ok-extend.ensures.ok (more _ _ _ _ _ _ _ _ _ _ c.loop-turn.invariant.content c.len-place.ensures
          c.loop-turn.invariant.so_far
          c.in-Ok-read.ensures.bytes c.in-Ok-read.ensures.reads c.if-count-eq0.false fits);
      room = omega (arith, c.loop-turn.invariant.room);
      names = search rules;
      content = search rules;
      faults = c.in-Ok-read.ensures.cause.kept ∙ c.loop-turn.invariant.faults;
      reach = omega (
        arith,
        c.loop-turn.invariant.reach,
        grows (g.S.Shelf.reach c.loop-turn.shelf c.args.name.now)
            (g.S.Shelf.reach c.read.new.self c.args.name.now) c.len-place.result c.in-Ok-read.count c.in-Ok-read.ensures.reach.read,
      );
      others = record {
        reach = λ other differs. c.in-Ok-read.ensures.others.reach other differs ∙ c.loop-turn.invariant.others.reach other differs;
        faults = λ other differs. c.in-Ok-read.ensures.others.faults other differs ∙ c.loop-turn.invariant.others.faults other differs;
        reads = λ other differs. c.in-Ok-read.ensures.others.reads other differs ∙ c.loop-turn.invariant.others.reads other differs;
      };
    }
