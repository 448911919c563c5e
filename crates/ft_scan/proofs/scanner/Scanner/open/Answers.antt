use Rattle.std.proofs.Common.{ap, subst, sym}
use Rattle.ft_scan.specs.steps.Stands.{Stands, rows_at}
use Rattle.ft_scan.proofs.OpeningLemmas.{stands_first}
use Rattle.ft_scan.proofs.scanner.Scanner.open.Goals as goal

pub invariant_of-result : goal.invariant_of-result
invariant_of-result c =
    let S = c.args.tables.now in
    let given = c.in_ok-scope_places.field-0 in let side_variables = c.in_ok-scope_places-2.field-0 in
    subst (λ scans. Stands S (record {
      side = c.args.side;
      steps = c.in_ok-plan.field-0;
      given = given;
      side_variables =
          side_variables;
      frame = c.in_ok-first_frame.field-0;
    })
    (rows_at given scans) (rows_at side_variables scans)) (sym c.new.ensures)
    ((stands_first c.laws.ensures) S c.args.side c.in_ok-plan.field-0 given side_variables c.in_ok-first_frame.field-0
    c.in_ok-first_frame.ensures c.in_ok-plan.ensures
    c.in_ok-scope_places.ensures c.in_ok-scope_places-2.ensures)

pub returns-clause-given : goal.returns-clause-given
returns-clause-given c = ap (rows_at c.in_ok-scope_places.field-0) c.new.ensures

pub returns-clause-rows : goal.returns-clause-rows
returns-clause-rows c = ap (rows_at c.in_ok-scope_places-2.field-0) c.new.ensures
