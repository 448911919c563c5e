-- A set with lawful terms, form, uses and an order is checked.
use Rattle.std.proofs.Common.{arith, ◌≡◌, sym, subst, ◌+◌, ◌≤◌, length, None}
use Rattle.ft_tree.specs.declared.tree.Tree.{Tree}
use Rattle.ft_names.specs.laws.Names.{NamesDiffer}
use Rattle.ft_core.specs.checked.Blocks.{AreBlocks}
use Rattle.ft_core.specs.checked.Checked.{IsChecked}
use Rattle.ft_core.specs.checked.Sound.{HasOrder, IsSound}
use Rattle.ft_build.specs.declared.parts.Parts.{Parts}
use Rattle.ft_admit.specs.laws.FormFacts.{FormIsLawful, HasLawfulForm}
use Rattle.ft_admit.specs.laws.TermFacts.{HaveLawfulTerms, TermsAreLawful}
use Rattle.ft_admit.specs.meaning.Trees.{set_of_tree}
use Rattle.ft_admit.specs.meaning.TypeFaults.{fault_before_circles}
use Rattle.ft_admit.specs.meaning.Uses.{first_unknown_invariant}
use Rattle.ft_admit.specs.stages.Uses.{HaveLawfulUses}
use Rattle.ft_admit.proofs.ChainLemmas.{faultless}
use Rattle.ft_admit.proofs.UsesLemmas.{lawful-uses}

pub sound-set : (set : Parts) → HaveLawfulTerms set → HasLawfulForm set → HasOrder set.vars set.memories set.tables
    → IsSound set.period set.vars set.memories set.tables set.first set.always set.step
sound-set set terms form order = record {
  few_vars = form.few_vars;
  few_memories = form.few_memories;
  few_tables = form.few_tables;
  few_clauses = form.few_clauses;
  places = form.places;
  shapes = form.shapes;
  has_period = form.has_period;
  inits = form.inits;
  timers = form.timers;
  bands = form.bands;
  sized_memories = terms.sized_memories;
  sized_tables = terms.sized_tables;
  sized_clauses = terms.sized_clauses;
  tables_read = terms.tables_read;
  memories_read = terms.memories_read;
  first_reads = terms.first_reads;
  always_reads = terms.always_reads;
  step_reads = terms.step_reads;
  has_table = form.has_table;
  one_table = form.one_table;
  order = ∣ order ∣₁;
}

blocks-set : (set : Parts) → HaveLawfulTerms set → HasLawfulForm set → HaveLawfulUses set.blocks
    → AreBlocks set.vars set.memories set.blocks
blocks-set set terms form uses = record {
  few = form.few_blocks;
  few_facts = form.few_facts;
  some_fact = form.some_fact;
  takes = form.takes;
  takes_differ = form.takes_differ;
  uses = uses.invariants;
  uses_differ = uses.differ;
  invariants_read = terms.invariants_read;
  invariants_sized = terms.invariants_sized;
  invariants_short = terms.invariants_short;
  goals = form.goals;
}

pub checked-set : (set : Parts) → HaveLawfulTerms set → HasLawfulForm set → HaveLawfulUses set.blocks
    → IsChecked set.name set.splits set.depth set.vars set.memories set.tables set.first set.always set.step set.blocks
unfolding IsChecked
checked-set set terms form uses = record {
  names = form.names;
  few_splits = form.few_splits;
  some_depth = form.some_depth;
  low_depth = form.low_depth;
  has_monitored = form.has_monitored;
  has_controlled = form.has_controlled;
  ranges = form.ranges;
  bands = form.band_bounds;
  few_members = form.few_members;
  enums = form.enums;
  targets = form.targets;
  targets_differ = form.targets_differ;
  terms = terms.short;
  facts = blocks-set set terms form uses;
}

pub form-of : FormIsLawful → (tree : Tree) (set : Parts) → set ≡ set_of_tree tree → fault_before_circles tree ≡ None → HasLawfulForm set
form-of law tree set is before = subst HasLawfulForm (sym is)
    (law tree.name tree.period tree.splits tree.depth tree.items (faultless tree before))

pub terms-of : TermsAreLawful → (tree : Tree) (set : Parts) → set ≡ set_of_tree tree → fault_before_circles tree ≡ None
    → HaveLawfulTerms set
terms-of law tree set is before = subst HaveLawfulTerms (sym is)
    (law tree.name tree.period tree.splits tree.depth tree.items (faultless tree before))

pub uses-of : NamesDiffer → (tree : Tree) (set : Parts) → set ≡ set_of_tree tree → fault_before_circles tree ≡ None
    → first_unknown_invariant tree.items ≡ None → HaveLawfulUses set.blocks
uses-of law tree set is before known = subst (λ (s : Parts). HaveLawfulUses s.blocks) (sym is)
    (lawful-uses law tree.items (faultless tree before).names known)

pub few-items : (set : Parts) → HasLawfulForm set → length set.vars + length set.memories ≤ 10000
few-items set form = let vars = form.few_vars in let memories = form.few_memories in omega (arith, vars, memories)
