use Rattle.ft_tree.proofs.items.write_item.Goals as goal

pub returns-in-Normal : goal.returns-in-Normal
returns-in-Normal c = rw (c.in-Normal.is, ← c.as_slice-in-Normal.ensures, ← c.as_slice-in-Normal-2.ensures) c.write_table.ensures

pub returns-in-Inverted : goal.returns-in-Inverted
returns-in-Inverted c = rw (c.in-Inverted.is, ← c.as_slice-in-Inverted.ensures, ← c.as_slice-in-Inverted-2.ensures)
    c.write_table-in-Inverted.ensures
