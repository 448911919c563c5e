use Rattle.std.proofs.lemmas.Result.{err_from_is_err_and}
use Rattle.ft_names.specs.meaning.First.{first_of}
use Rattle.ft_names.specs.meaning.Spots.{row_spots}
use Rattle.ft_names.specs.laws.First.{first_more, stops_at}
use Rattle.ft_names.proofs.walk.judge_rows.Goals as goal

pub returns-in_err-judge_row : goal.returns-in_err-judge_row
returns-in_err-judge_row g c =
    let p = err_from_is_err_and c.from_residual.result c.from_residual.ensures.1 in
    rw (p.1, p.2)
    (stops_at c.in_err-judge_row.field-0.0 (λ x. first_of (g.J.Judge.test c.args.judge.now)
    (row_spots c.args.entries c.args.site c.args.word.now x)) c.args.rows.now c.loop-row.row-index c.row-item.result
    c.loop-row-test.true c.row-item.is c.loop-row.invariant c.in_err-judge_row.ensures)

pub loop-row-preserved : goal.loop-row-preserved
loop-row-preserved g c =
    first_more (λ x. first_of (g.J.Judge.test c.args.judge.now)
    (row_spots c.args.entries c.args.site c.args.word.now x)) c.args.rows.now c.loop-row.row-index c.row-item.result
    c.loop-row-test.true c.row-item.is c.loop-row.invariant c.in_ok-judge_row.ensures
