use Rattle.ft_diff.proofs.gathering.add_atom.Goals as goal

pub returns-clause-over : goal.returns-clause-over
returns-clause-over c n all over = c.add.ensures.over n (c.add-with_yes.ensures.over n all (c.difference.ensures.over n over))
    (c.difference-2.ensures.over n over)
