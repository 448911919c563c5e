-- A way along lines whose greatest differences add up.
use Rattle.std.proofs.Common.{arith, ◌≡◌, ap, ℕ, ℤ, pos, ◌+ℤ◌, ◌≤ℤ◌, ◌<ℤ◌, List, Some, Contains, All}
use Rattle.std.proofs.lemmas.Int.{ints}
use Rattle.std.proofs.lemmas.List.Elements.{All-contains}
use Rattle.ft_diff.specs.declared.diff.Diff.{Diff}
use Rattle.ft_diff.specs.meaning.Differences.{Meets, number_at}

-- one more line on the way
pub further : (list : List Diff) (start u v : ℕ) (total now : ℤ) (d : Diff) → ((x : ℕ → ℤ) → All (Meets x) list → x start ≤ℤ (x u +ℤ total))
    → Contains list d
    → d.x ≡ Some u → d.y ≡ Some v → now ≡ total +ℤ d.c → (x : ℕ → ℤ) → All (Meets x) list → x start ≤ℤ (x v +ℤ now)
further list start u v total now d so has first second sum x all =
    let before = so x all in
    let met = All-contains (Meets x) list d all has in
    let at : number_at x d.x ≡ x u = ap (number_at x) first in
    let to : number_at x d.y ≡ x v = ap (number_at x) second in
    omega (arith, ints, before, met, at, to, sum)

-- a way back to its start with a sum below 0
pub no-way : (list : List Diff) (start u : ℕ) (total : ℤ) → ((x : ℕ → ℤ) → All (Meets x) list → x start ≤ℤ (x u +ℤ total)) → u ≡ start
    → total <ℤ pos 0
    → (x : ℕ → ℤ) → All (Meets x) list → ⊥
no-way list start u total so back less x all = let way = so x all in let same : x u ≡ x start = ap x back in
    absurd (omega (arith, ints, way, same, less))
