use Rattle.std.proofs.Common.{◌≡◌, ◌∙◌, sym, ap, [], Some, slice_get, slice_index_or, option_map, unwrap_or}
use Rattle.std.specs.List.{position}
use Rattle.std.proofs.lemmas.List.Quantifiers.{position-Some}
use Rattle.std.proofs.lemmas.Option.{slice_get-get_or}
use Rattle.ft_port.specs.declared.entry.Entry.{Entry}
use Rattle.ft_port.specs.Counts.{is_of}
use Rattle.ft_port.proofs.CountsLemmas.{seen, after, others, names-set, some-place}
use Rattle.ft_port.proofs.counts.note_read.Goals as goal

place : (c : goal.After-count_read) → position (is_of c.args.name.now) c.args.counts.now ≡ Some c.in-Some.at
place c = sym c.place_of.ensures ∙ c.in-Some.is

abbrev old : goal.After-count_read → Entry
old c = slice_index_or c.args.counts.now c.in-Some.at c.index-counts-at.result

here : (c : goal.After-count_read) → slice_get c.args.counts.now c.in-Some.at ≡ Some (old c)
here c = slice_get-get_or _ _ c.index-counts-at.result (position-Some _ _ _ (old c) (place c)).0

pub unreachable-requires : goal.unreachable-requires
unreachable-requires c = some-place _ _ c.requires (sym c.place_of.ensures ∙ c.in-None.is)

pub returns-clause-names : goal.returns-clause-names
returns-clause-names c = names-set _ _ _ (old c) c.count_read.new.self (place c) (here c) c.count_read.ensures.name

pub returns-clause-reach : goal.returns-clause-reach
returns-clause-reach c =
    rw (
      seen _ _ _ (old c) c.count_read.new.self (place c) (here c) c.count_read.ensures.name,
      after _ _ _ (old c) c.count_read.new.self (place c) (here c) c.count_read.ensures.name,
    ) c.count_read.ensures.reach

pub returns-clause-cause : goal.returns-clause-cause
returns-clause-cause c =
    rw (
      seen _ _ _ (old c) c.count_read.new.self (place c) (here c) c.count_read.ensures.name,
      after _ _ _ (old c) c.count_read.new.self (place c) (here c) c.count_read.ensures.name,
    ) c.count_read.ensures.cause

pub returns-clause-reads : goal.returns-clause-reads
returns-clause-reads c =
    rw (
      seen _ _ _ (old c) c.count_read.new.self (place c) (here c) c.count_read.ensures.name,
      after _ _ _ (old c) c.count_read.new.self (place c) (here c) c.count_read.ensures.name,
    ) c.count_read.ensures.reads

pub returns-clause-others : goal.returns-clause-others
returns-clause-others c = record {
  reach = λ other differs. ap (λ e. unwrap_or (option_map (λ entry. entry.reach) e) 0)
      (others _ _ _ (old c) c.count_read.new.self (place c) (here c) c.count_read.ensures.name other differs);
  faults = λ other differs. ap (λ e. unwrap_or (option_map (λ entry. entry.faults) e) 0)
      (others _ _ _ (old c) c.count_read.new.self (place c) (here c) c.count_read.ensures.name other differs);
  reads = λ other differs. ap (λ e. unwrap_or (option_map (λ entry. entry.reads.list) e) [])
      (others _ _ _ (old c) c.count_read.new.self (place c) (here c) c.count_read.ensures.name other differs);
}
