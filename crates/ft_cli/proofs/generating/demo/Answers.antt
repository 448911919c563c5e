use Rattle.std.proofs.Common.{subst, sym}
use Rattle.ft_cli.specs.meaning.Generation.{IsDemo}
use Rattle.ft_cli.proofs.GenerationLemmas.{judged-demo}
use Rattle.ft_cli.proofs.generating.demo.Goals as goal

pub returns-in-Ok : goal.returns-in-Ok
returns-in-Ok c = subst (IsDemo c.args.number) (sym c.demonstrated.ensures)
    (judged-demo c.args.number c.judged.result (rw c.in-Ok.ensures at (rw c.as_slice.ensures at c.judged.ensures)))
