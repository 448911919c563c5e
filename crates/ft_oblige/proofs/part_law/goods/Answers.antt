use Rattle.ft_oblige.proofs.part_law.goods.Goals as goal

pub returns : goal.returns
returns c = record {
  conditions = c.good_laws.ensures.conditions;
  definitions = c.good_laws.ensures.definitions;
  moves = c.good_laws.ensures.moves;
  negations = c.good_laws.ensures.negations;
  conjunctions = c.good_laws.ensures.conjunctions;
}
