use Rattle.std.proofs.Common.{rules, ◌≡◌, ◌∙◌, sym, ap, subst, ◌<◌, ◌+◌, ℕ, ℤ, List, length, arith}
use Rattle.std.specs.Prelude.{slice_get}
use Rattle.ft_farkas.specs.meaning.Rows.{row_of, sources}
use Rattle.ft_farkas.specs.building.Table.{KeptView}
use Rattle.ft_farkas.proofs.TableLemmas.{length-more, none-new}
use Rattle.ft_farkas.proofs.KeepingLemmas.{form-at, source-forms, sources-length, shows-source, given-all, given-more, none-more, narrow-all}
use Rattle.ft_farkas.proofs.sources.keep_sources.Goals as goal

pub keep_source-requires-clause-form : goal.keep_source-requires-clause-form
keep_source-requires-clause-form c =
    let below : c.sources.at < length c.args.lines.now + (length c.args.part.now.spans + length c.args.part.now.spans) = search rules in
    form-at c.args.formula.now c.args.part.now (sources c.args.part.now c.args.lines.now) c.sources.at c.source_at.result
    (source-forms c.args.formula.now c.args.part.now c.args.lines.now c.requires.lines)
    (c.source_at.ensures (length c.args.part.now.spans) below)

pub keep_source-requires-clause-kept : goal.keep_source-requires-clause-kept
keep_source-requires-clause-kept c =
    let below : c.sources.at < length c.args.lines.now + (length c.args.part.now.spans + length c.args.part.now.spans) = search rules in
    let long = sources-length c.args.formula.now c.args.part.now c.args.lines.now in
    let room = c.requires.kept in
    let same = c.sources.invariant.1 in
    let here = c.sources.invariant.3 in
    omega (arith, below, long, room, same, here)

pub returns-then-keep_source-clause-shows : goal.returns-then-keep_source-clause-shows
returns-then-keep_source-clause-shows c so =
    let below : c.sources.at < length c.args.lines.now + (length c.args.part.now.spans + length c.args.part.now.spans) = search rules in
    let there = c.source_at.ensures (length c.args.part.now.spans) below in
    shows-source c.args.formula.now c.args.part.now c.args.lines.now (length c.sources.kept.rows) (row_of c.keep_source.new.row)
    (c.keep_source.ensures.entries c.args.lines.now (ap (slice_get (sources c.args.part.now c.args.lines.now)) c.sources.invariant.3 ∙ there))
    (narrow-all c.keep_source.new.row c.keep_source.ensures.row.1) (c.keep_source.ensures.contradicts.0 c.if-keep_source.true)

pub sources-preserved : goal.sources-preserved
sources-preserved c =
    let below : c.sources.at < length c.args.lines.now + (length c.args.part.now.spans + length c.args.part.now.spans) = search rules in
    let there = c.source_at.ensures (length c.args.part.now.spans) below in
    let is = c.keep_source.ensures.kept in
    let rows = ap (λ (v : KeptView). v.rows) is in
    let entries = c.keep_source.ensures.entries c.args.lines.now (ap (slice_get (sources c.args.part.now c.args.lines.now)) c.sources.invariant.3 ∙ there) in (
      ap (λ (v : KeptView). v.unknowns) is ∙ c.sources.invariant.0,
      ap (λ (v : KeptView). v.room) is ∙ c.sources.invariant.1,
      c.keep_source.ensures.row.0 ∙ sym c.requires.room,
      ap (λ (rows : List (List ℤ)). length rows) rows ∙ length-more c.sources.kept.rows c.keep_source.new.row ∙ ap (λ (k : ℕ). k + 1) c.sources.invariant.3,
      given-more c.args.formula.now c.args.part.now c.args.lines.now c.sources.kept.rows c.keep_source.new.row c.sources.at c.sources.invariant.3 c.keep_source.new.kept.rows rows c.sources.invariant.4 entries,
      none-more c.args.formula.now c.args.part.now c.args.lines.now c.sources.kept.rows c.keep_source.new.row c.sources.at c.sources.invariant.3 c.keep_source.new.kept.rows rows c.sources.invariant.5
          (none-new (length c.args.part.now.spans) (row_of c.keep_source.new.row) c.keep_source.result c.keep_source.ensures.contradicts c.if-keep_source.false),
    )

pub returns-clause-count : goal.returns-clause-count
returns-clause-count c isnt =
    let long = sources-length c.args.formula.now c.args.part.now c.args.lines.now in
    let end : c.sources.at ≡ length c.args.lines.now + (length c.args.part.now.spans + length c.args.part.now.spans) = search rules in
    c.sources.invariant.3 ∙ end ∙ sym long

pub returns-clause-given : goal.returns-clause-given
returns-clause-given c isnt =
    given-all c.args.formula.now c.args.part.now c.args.lines.now c.sources.kept.rows (returns-clause-count c isnt)
    (λ k j below. c.sources.invariant.4 k j (subst (λ (n : ℕ). k < n) c.sources.invariant.3 below))
