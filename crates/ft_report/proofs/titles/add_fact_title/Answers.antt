use Rattle.std.proofs.Common.{◌≡◌, ◌++◌, OnOk, subst}
use Rattle.std.proofs.lemmas.Option.{slice_get_within}
use Rattle.ft_report.proofs.NameLemmas.{in-block, titled}
use Rattle.ft_report.proofs.titles.add_fact_title.Goals as goal

pub get-owner-requires : goal.get-owner-requires
get-owner-requires c =
    let has = c.requires in
    slice_get_within c.args.tables.now.blocks c.args.block has.block has.its.in_set

pub get-fact-requires : goal.get-fact-requires
get-fact-requires c = in-block c.args.tables.now c.args.block c.args.fact c.get-owner.result.now c.requires c.get-owner.ensures

pub returns : goal.returns
returns c =
    subst (λ name. OnOk c.add_names.result (c.add_names.new.text ≡ c.args.text.now ++ name))
    (titled c.args.tables.now c.as_slice.result.now c.args.block c.args.fact c.get-owner.result.now c.get-fact.result.now
    c.as_slice.ensures c.get-owner.ensures c.get-fact.ensures)
    c.add_names.ensures
