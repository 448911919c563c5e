-- What contracts see of a region.
use Rattle.std.specs.Prelude.{ℕ, List, refl}
use Rattle.std.specs.Coded.{Coded, code_by, coded×, coded_list, coded_ℕ}

-- the values in the order in which they were added, and how many more there is room for
pub record Region (X : Type 0) : Type 0 where
  pub items : List X
  pub spare : ℕ

module _ {X : Type 0} where
  abbrev pub region : List X → ℕ → Region X
  region items spare = record { items = items; spare = spare }

  abbrev pub region_code : Coded X → Coded (Region X)
  region_code of = code_by (List X × ℕ) (coded× (coded_list of) coded_ℕ) (λ r. (r.items, r.spare)) (λ p. region p.0 p.1) (λ _. refl)
