use Rattle.std.proofs.lemmas.Option.{slice_get_within}
use Rattle.ft_report.proofs.NameLemmas.{about-fact, in-block}
use Rattle.ft_report.proofs.open.fact_of.Goals as goal

pub get-owner-requires : goal.get-owner-requires
get-owner-requires c =
    let at = c.fact_at-at.result in
    let has = c.fact_at-at.ensures.there in
    slice_get_within c.args.tables.now.blocks at.block has.block has.its.in_set

pub get-requires : goal.get-requires
get-requires c =
    let at = c.fact_at-at.result in
    in-block c.args.tables.now at.block at.fact c.get-owner.result.now c.fact_at-at.ensures.there c.get-owner.ensures

pub returns : goal.returns
returns c =
    about-fact c.args.tables.now c.args.obligation c.fact_at-at.result c.get-owner.result.now c.get.result.now c.fact_at-at.ensures
    c.get-owner.ensures c.get.ensures
