use Rattle.std.proofs.Common.{◌∙◌, sym, ap, subst}
use Rattle.ft_read.specs.parsers.Combinators.{Stops}
use Rattle.ft_parse.specs.parsers.Items.{set_by}
use Rattle.ft_parse.proofs.ParsingLemmas.{ahead, read-fault, read-lawful, read-only, read-same, read-spelled, read-unless, same-unless}
use Rattle.ft_parse.proofs.parsing.from_tokens.Goals as goal

pub tree-requires : goal.tree-requires
tree-requires c =
    read-lawful c.args.text.now c.args.tokens.now c.requires.tokens c.in-Ok.parts c.set.new.cursor
    (ap set_by (sym c.new-cursor.ensures) ∙ c.in-Ok.ensures)

pub fault-requires : goal.fault-requires
fault-requires c =
    ahead c.args.text.now c.args.tokens.now c.requires.tokens c.in-Err.stop c.set.new.cursor
    (subst (λ s. Stops c.in-Err.stop c.set.new.cursor (set_by s)) c.new-cursor.ensures c.in-Err.ensures)

pub returns-in-Ok-clause-spelled : goal.returns-in-Ok-clause-spelled
returns-in-Ok-clause-spelled c =
    read-spelled c.args.text.now c.args.tokens.now c.requires.tokens c.in-Ok.parts c.set.new.cursor c.tree.result
    (ap set_by (sym c.new-cursor.ensures) ∙ c.in-Ok.ensures) c.tree.ensures

pub returns-in-Ok-clause-only : goal.returns-in-Ok-clause-only
returns-in-Ok-clause-only c =
    λ tree s. read-only c.args.text.now c.args.tokens.now c.requires.tokens c.requires.sole c.in-Ok.parts c.set.new.cursor c.tree.result
    tree
    (ap set_by (sym c.new-cursor.ensures) ∙ c.in-Ok.ensures) c.tree.ensures s

pub returns-in-Err-clause-only : goal.returns-in-Err-clause-only
returns-in-Err-clause-only c =
    λ tree s. read-unless c.args.text.now c.args.tokens.now c.requires.tokens c.requires.sole c.in-Err.stop c.set.new.cursor c.fault.result
    tree
    (subst (λ s. Stops c.in-Err.stop c.set.new.cursor (set_by s)) c.new-cursor.ensures c.in-Err.ensures) c.fault.ensures s

pub returns-in-Err-clause-fault : goal.returns-in-Err-clause-fault
returns-in-Err-clause-fault c =
    read-fault c.args.text.now c.args.tokens.now c.requires.tokens c.in-Err.stop c.set.new.cursor c.fault.result
    (subst (λ s. Stops c.in-Err.stop c.set.new.cursor (set_by s)) c.new-cursor.ensures c.in-Err.ensures) c.fault.ensures

pub returns-in-Ok-clause-same : goal.returns-in-Ok-clause-same
returns-in-Ok-clause-same c =
    λ tree s. read-same c.args.text.now c.args.tokens.now c.requires.tokens c.requires.sole c.canonical_tokens.ensures c.in-Ok.parts
    c.set.new.cursor c.tree.result tree
    (ap set_by (sym c.new-cursor.ensures) ∙ c.in-Ok.ensures) c.tree.ensures s

pub returns-in-Err-clause-same : goal.returns-in-Err-clause-same
returns-in-Err-clause-same c =
    λ tree s. same-unless c.args.text.now c.args.tokens.now c.requires.tokens c.requires.sole c.canonical_tokens.ensures c.in-Err.stop
    c.set.new.cursor c.fault.result tree
    (subst (λ s. Stops c.in-Err.stop c.set.new.cursor (set_by s)) c.new-cursor.ensures c.in-Err.ensures) c.fault.ensures s
