use Rattle.std.proofs.Common.{rules, arith, subst, sym, refl, ◌+◌, pos, slice_index_or, FitsSigned, w64}
use Rattle.std.proofs.lemmas.Int.{to_z-of_z}
use Rattle.std.proofs.lemmas.Option.{slice_get-get_or}
use Rattle.ft_scan.specs.steps.Put.{ArePut}
use Rattle.ft_scan.proofs.PutLemmas.{put_more}
use Rattle.ft_scan.proofs.places.put_values.Goals as goal

pub loop-at-preserved : goal.loop-at-preserved
loop-at-preserved c =
    let z = slice_index_or c.args.values.now c.loop-at.at (pos 0) in
    let fits : FitsSigned w64 z = search rules in
    let row = simp to_z-of_z at c.set.ensures in
    let there = slice_get-get_or c.args.places.now c.loop-at.at 0 c.loop-at-test.true in
    subst (ArePut c.args.places.now c.args.values.now (c.loop-at.at + 1) c.args.row.now) (sym row)
    (put_more c.args.places.now c.args.values.now c.args.row.now c.requires.once c.loop-at.at _ c.loop-at.row z there
    (let inside = c.requires.inside c.loop-at.at _ there in omega (arith, inside, c.loop-at.invariant.width)) refl c.loop-at.invariant)
