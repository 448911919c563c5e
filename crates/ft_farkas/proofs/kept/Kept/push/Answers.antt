use Rattle.std.proofs.Common.{rules, ◌≡◌, ◌∙◌, sym, ap, subst, ◌≤◌, ◌*◌, ◌++◌, ◌∷◌, [], ℕ, ℤ, List, length, arith}
use Rattle.std.specs.Prelude.{vec_len, vec_capacity}
use Rattle.ft_farkas.specs.meaning.Rows.{width}
use Rattle.ft_farkas.specs.building.Table.{KeptView, IsRow, IsTable, rows_of}
use Rattle.ft_farkas.proofs.TableLemmas.{row-room, some-room, table-more, kept-more}
use Rattle.ft_farkas.proofs.kept.Kept.push.Goals as goal

pub top_of-top-requires : goal.top_of-top-requires
top_of-top-requires c =
    let own = c.requires.row.0 in
    let unknowns = ap (λ (v : KeptView). v.unknowns) c.self.view_is in
    omega (arith, own, unknowns)

pub add-requires : goal.add-requires
add-requires c =
    let same : vec_len c.self.inside.numbers ≡ length c.self.inside.numbers.items = search rules in
    let unknowns = ap (λ (v : KeptView). v.unknowns) c.self.view_is in
    let own : length c.args.numbers.now ≡ c.self.inside.columns = c.requires.row.0 ∙ sym (c.self.invariant.0.0 ∙ ap (λ (n : ℕ). width n) unknowns) in
    let some = some-room c.self.inside.columns (length c.self.inside.tops.items) (vec_capacity c.self.inside.tops) c.args.self.now.room c.self.inside.numbers.items c.args.self.now.rows
    (ap (λ (v : KeptView). v.rows) c.self.view_is) (ap (λ (v : KeptView). v.room) c.self.view_is) c.requires.room in
    let fits = row-room c.self.inside.columns (length c.self.inside.tops.items) (vec_capacity c.self.inside.tops) (length c.self.inside.numbers.items) (vec_capacity c.self.inside.numbers) c.self.invariant.0.1 some c.self.invariant.1 in
    omega (arith, same, own, fits)

pub push_reserved-requires : goal.push_reserved-requires
push_reserved-requires c =
    let same : vec_len c.self.inside.tops ≡ length c.self.inside.tops.items = search rules in
    let some = some-room c.self.inside.columns (length c.self.inside.tops.items) (vec_capacity c.self.inside.tops) c.args.self.now.room c.self.inside.numbers.items c.args.self.now.rows
    (ap (λ (v : KeptView). v.rows) c.self.view_is) (ap (λ (v : KeptView). v.room) c.self.view_is) c.requires.room in
    omega (arith, same, some)

pub invariant_of-self : goal.invariant_of-self
invariant_of-self c =
    let unknowns = ap (λ (v : KeptView). v.unknowns) c.self.view_is in
    let table = table-more c.self.inside.unknowns c.self.inside.columns c.self.inside.numbers.items c.self.inside.tops.items c.args.numbers.now c.top_of-top.result c.self.invariant.0
    (subst (λ (n : ℕ). IsRow n c.args.numbers.now) (sym unknowns) c.requires.row) c.top_of-top.ensures in
    let whole = subst (λ (numbers : List ℤ). IsTable c.self.inside.unknowns c.self.inside.columns numbers c.push_reserved.new.self.items) (sym c.add.ensures.items)
    (subst (λ (tops : List ℕ). IsTable c.self.inside.unknowns c.self.inside.columns (c.self.inside.numbers.items ++ c.args.numbers.now) tops) (sym c.push_reserved.ensures.items) table) in (
      whole,
      subst (λ (room : ℕ). room * c.self.inside.columns ≤ vec_capacity c.add.new.numbers) (sym c.push_reserved.ensures.capacity)
          (let most = c.self.invariant.1 in let grown = c.add.ensures.capacity in omega (arith, most, grown)),
    )

pub returns : goal.returns
returns c =
    let unknowns = ap (λ (v : KeptView). v.unknowns) c.self.view_is in
    let own : length c.args.numbers.now ≡ c.self.inside.columns = c.requires.row.0 ∙ sym (c.self.invariant.0.0 ∙ ap (λ (n : ℕ). width n) unknowns) in
    let rows = kept-more c.self.inside.columns c.self.inside.numbers.items c.self.inside.tops.items c.args.numbers.now c.top_of-top.result c.self.invariant.0.1 own in
    λ i. record {
      unknowns = unknowns i;
      room = (c.push_reserved.ensures.capacity ∙ ap (λ (v : KeptView). v.room) c.self.view_is) i;
      rows = (ap (λ (tops : List ℕ). rows_of c.self.inside.columns (length tops) c.add.new.numbers.items) c.push_reserved.ensures.items
          ∙ ap (λ (numbers : List ℤ). rows_of c.self.inside.columns (length (c.self.inside.tops.items ++ c.top_of-top.result ∷ [])) numbers) c.add.ensures.items
          ∙ rows ∙ ap (λ (rs : List (List ℤ)). rs ++ c.args.numbers.now ∷ []) (ap (λ (v : KeptView). v.rows) c.self.view_is)) i;
    }
