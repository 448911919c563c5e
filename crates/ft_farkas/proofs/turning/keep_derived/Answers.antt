use Rattle.std.proofs.Common.{rules, ap, subst, ℕ, pos, ◌<ℤ◌, ◌↔◌, IsTrue}
use Rattle.ft_farkas.specs.meaning.Rows.{row_of, constant}
use Rattle.ft_farkas.specs.meaning.Fractions.{IsBelow}
use Rattle.ft_farkas.specs.building.Table.{KeptView}
use Rattle.ft_farkas.proofs.KeepingLemmas.{narrow-all}
use Rattle.ft_farkas.proofs.TableLemmas.{none-new}
use Rattle.ft_farkas.proofs.TurnLemmas.{apart-new, derived-row, shows-last}
use Rattle.ft_farkas.proofs.turning.keep_derived.Goals as goal

pub returns-then-contradicts-clause-ends : goal.returns-then-contradicts-clause-ends
returns-then-contradicts-clause-ends c x =
    let rows = ap (λ (v : KeptView). v.rows) c.push.ensures in
    let unknowns = ap (λ (v : KeptView). v.unknowns) c.push.ensures in
    let so : IsTrue c.derive.result = search rules in
    let shows = subst (λ (n : ℕ). IsTrue c.contradicts.result ↔ (IsBelow n 0 (row_of c.derive.new.row) × (pos 0 <ℤ constant (row_of c.derive.new.row)))) unknowns
    (shows-last c.push.new.self.unknowns c.args.kept.now.rows c.push.new.self.rows c.derive.new.row c.len-at.result c.contradicts.result rows c.len-at.ensures c.contradicts.ensures) in
    (derived-row c.args.kept.now.unknowns c.args.unknown c.args.kept.now.rows c.args.upper c.args.lower c.requires.clash c.derive.new.row (c.derive.ensures.made so) (narrow-all c.derive.new.row (c.derive.ensures.row so).1), (shows.0 c.if-contradicts.true).0, (shows.0 c.if-contradicts.true).1)

pub returns-else-contradicts-clause-ends : goal.returns-else-contradicts-clause-ends
returns-else-contradicts-clause-ends c x =
    let rows = ap (λ (v : KeptView). v.rows) c.push.ensures in
    let unknowns = ap (λ (v : KeptView). v.unknowns) c.push.ensures in
    let so : IsTrue c.derive.result = search rules in
    let shows = subst (λ (n : ℕ). IsTrue c.contradicts.result ↔ (IsBelow n 0 (row_of c.derive.new.row) × (pos 0 <ℤ constant (row_of c.derive.new.row)))) unknowns
    (shows-last c.push.new.self.unknowns c.args.kept.now.rows c.push.new.self.rows c.derive.new.row c.len-at.result c.contradicts.result rows c.len-at.ensures c.contradicts.ensures) in (
      rows,
      record {
        derived = derived-row c.args.kept.now.unknowns c.args.unknown c.args.kept.now.rows c.args.upper c.args.lower c.requires.clash c.derive.new.row (c.derive.ensures.made so) (narrow-all c.derive.new.row (c.derive.ensures.row so).1);
        apart = apart-new c.args.kept.now.unknowns c.args.unknown c.args.kept.now.rows c.args.upper c.args.lower c.requires.clash (row_of c.derive.new.row) (c.derive.ensures.made so);
        quiet = none-new c.args.kept.now.unknowns (row_of c.derive.new.row) c.contradicts.result shows c.if-contradicts.false;
      },
    )
