use Rattle.std.proofs.Common.{rules, FitsSigned, w64}
use Rattle.std.proofs.lemmas.Int.{to_z-of_z}
use Rattle.ft_scan.proofs.FillLemmas.{one_filled}
use Rattle.ft_scan.proofs.ImageLemmas.{finds, finds_none}
use Rattle.ft_scan.proofs.TableLemmas.{grid_safe}
use Rattle.ft_scan.proofs.mapping.put_cell.Goals as goal

pub value_in-requires : goal.value_in-requires
value_in-requires g c = grid_safe c.args.tables.now c.requires.table.0 c.args.table.now c.requires.table.1
    (g.L.Look.view c.args.look.now) c.requires.can.keeps

pub returns-in_default : goal.returns-in_default
returns-in_default g c = (finds_none c.laws.ensures) c.args.tables.now c.args.section (g.L.Look.view c.args.look.now) c.requires.can
    c.args.table.now c.requires.table
    c.args.target c.requires.target c.in_default.ensures c.args.image.now

pub returns : goal.returns
returns g c =
    let fits : FitsSigned w64 c.in-Some.value = search rules in
    let put = simp to_z-of_z at c.put_value.ensures in
    (one_filled c.laws.ensures) c.args.tables.now c.args.section (g.L.Look.view c.args.look.now) c.args.target c.in-Some.value
    c.args.image.now c.put_value.new.image c.requires.room
    (λ v is. (finds c.laws.ensures) c.args.tables.now c.args.section (g.L.Look.view c.args.look.now) c.requires.can c.args.table.now
    c.requires.table c.args.target c.requires.target
    c.in-Some.value c.in-Some.ensures) put
