use Rattle.ft_oblige.proofs.FindLemmas.{finds-normal, finds-inverted, finds-vector}
use Rattle.ft_oblige.proofs.reading.find_in_grid.Goals as goal

pub returns-in_ok-find_in_all-in-Normal-2 : goal.returns-in_ok-find_in_all-in-Normal-2
returns-in_ok-find_in_all-in-Normal-2 c =
    finds-normal c.args.grid.now c.in-Normal.target c.in-Normal.columns c.as_slice.result.now c.in-Normal.rows
    c.as_slice-in-Normal.result.now c.in-Normal.terms c.args.found.now c.find_in_all.new.found
    c.find_in_all-in-Normal.new.found c.in-Normal.is c.as_slice.ensures c.as_slice-in-Normal.ensures
    c.in_ok-find_in_all-in-Normal.ensures c.in_ok-find_in_all-in-Normal-2.ensures

pub returns-in_ok-find_in_rows-in-Inverted : goal.returns-in_ok-find_in_rows-in-Inverted
returns-in_ok-find_in_rows-in-Inverted c =
    finds-inverted c.args.grid.now c.in-Inverted.target c.in-Inverted.terms c.in-Inverted.rows c.as_slice-in-Inverted.result.now
    c.in-Inverted.grid c.as_slice-in-Inverted-2.result.now c.args.found.now c.find_in_all-in-Inverted.new.found
    c.find_in_rows.new.found c.in-Inverted.is c.as_slice-in-Inverted.ensures c.as_slice-in-Inverted-2.ensures
    c.in_ok-find_in_all-in-Inverted.ensures c.in_ok-find_in_rows-in-Inverted.ensures

pub returns-in_ok-find_in_all-in-Vector : goal.returns-in_ok-find_in_all-in-Vector
returns-in_ok-find_in_all-in-Vector c =
    finds-vector c.args.grid.now c.in-Vector.columns c.as_slice-in-Vector.result.now c.in-Vector.targets c.in-Vector.terms c.args.found.now
    c.find_in_all-in-Vector.new.found c.in-Vector.is c.as_slice-in-Vector.ensures c.in_ok-find_in_all-in-Vector.ensures
