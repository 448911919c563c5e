use Rattle.std.proofs.Common.{◌≡◌, ◌++◌, take, flat_map, None}
use Rattle.ft_names.specs.meaning.Declared.{entries, fact_words}
use Rattle.ft_names.proofs.DeclareLemmas.{repeat_in}
use Rattle.ft_names.proofs.declare.declare_facts.Given as goal

abbrev pub invariant-loop-fact : goal.invariant-loop-fact
invariant-loop-fact l = record {
  made : l.names ≡ l.initial.names ++ entries l.number (flat_map fact_words (take l.fact-index l.facts));
  none : repeat_in l.initial.names (flat_map fact_words (take l.fact-index l.facts)) ≡ None;
}
