-- What blocks use is there, and what an order or a circle of places says of them.
use Rattle.std.proofs.Common.{arith, ◌≡◌, ◌∙◌, sym, ap, subst, refl, inl, inr, ℕ, zero, suc, ◌+◌, ◌-◌, ◌≤◌, ◌<◌, List, [], ◌∷◌, length, map}
use Rattle.std.proofs.Common.{slice_get}
use Rattle.std.proofs.Common.{Some, nat_lt, true, true≢false}
use Rattle.std.specs.Prelude.{Contains, slice_index_or}
use Rattle.std.proofs.lemmas.Bool.{cases_Bool, ltb-true, ltb-false}
use Rattle.std.proofs.lemmas.List.{length-map}
use Rattle.std.proofs.lemmas.Option.{slice_get_within}
use Rattle.ft_core.specs.declared.tables.Block.{Block}
use Rattle.ft_core.specs.declared.tables.Memory.{Memory}
use Rattle.ft_core.specs.declared.tables.Tables.{Tables}
use Rattle.ft_core.specs.declared.tables.Var.{Var}
use Rattle.ft_core.specs.checked.Blocks.{AreBlocks, names_invariant}
use Rattle.ft_core.specs.checked.Checked.{IsChecked}
use Rattle.ft_core.specs.laws.Lists.{mapped}
use Rattle.ft_core.specs.laws.Places.{contained, place-of, some-at}
use Rattle.ft_core.specs.meaning.Order.{AreItems, IsCircle, IsFirstCircle, ReadsItem}
use Rattle.ft_blocks.specs.meaning.Cycles.{IsBlockCycle, block_names, block_reads}

pub are-blocks : (tables : Tables) → AreBlocks tables.vars tables.memories tables.blocks
unfolding IsChecked
are-blocks tables = tables.checked.facts

-- a block that uses another is there, with that use
user : (blocks : List Block) (k q : ℕ) → ReadsItem (block_reads blocks) k q → (block : Block) × (slice_get blocks k ≡ Some block)
    × Contains (map (λ used. used.0) block.uses) q
user [] k q reads = absurd (omega (arith, reads.1))
user (b ∷ bs) zero q reads = (b, refl, reads)
user (b ∷ bs) (suc k) q reads = user bs k q reads

invariant-there : (blocks : List Block) (n f : ℕ) → names_invariant blocks (n, f) ≡ true → n < length blocks
invariant-there [] n f is = absurd (true≢false (sym is))
invariant-there (b ∷ bs) zero f is = omega arith
invariant-there (b ∷ bs) (suc n) f is = let less = invariant-there bs n f is in omega (arith, less)

pub uses-blocks : (vars : List Var) (memories : List Memory) (blocks : List Block) → AreBlocks vars memories blocks
    → AreItems (block_reads blocks)
uses-blocks vars memories blocks are k q reads =
    let block = user blocks k q reads in
    let at = place-of (map (λ used. used.0) block.0.uses) q block.2 in
    let used = mapped (λ (u : ℕ × ℕ). u.0) block.0.uses at.0 q at.1 in
    let is = are.uses k block.0 used.0 block.1 (contained block.0.uses at.0 used.0 used.1) in
    let less = invariant-there blocks used.0.0 used.0.1 is in
    let same : used.0.0 ≡ q = used.2 in
    let long = length-map blocks (λ (b : Block). map (λ used. used.0) b.uses) in
    omega (arith, less, same, long)

pub few-blocks : (vars : List Var) (memories : List Memory) (blocks : List Block) → AreBlocks vars memories blocks
    → length (block_reads blocks) ≤ 10000
few-blocks vars memories blocks are =
    let few = are.few in
    let long = length-map blocks (λ (b : Block). map (λ used. used.0) b.uses) in
    omega (arith, few, long)

user-there : (blocks : List Block) (k q : ℕ) → ReadsItem (block_reads blocks) k q → k < length blocks
user-there [] k q reads = absurd (omega (arith, reads.1))
user-there (b ∷ bs) zero q reads = omega arith
user-there (b ∷ bs) (suc k) q reads = let less = user-there bs k q reads in omega (arith, less)

-- each place of a circle is a block's
pub circle-there : (blocks : List Block) (places : List ℕ) → IsCircle (block_reads blocks) places → (k : ℕ) → Contains places k
    → k < length blocks
circle-there blocks places circle k there =
    let at = place-of places k there in
    by at.0 at.1
  where
    by : (p : ℕ) → slice_get places p ≡ Some k → k < length blocks
    by p at = elim (cases_Bool (nat_lt (p + 1) (length places))) [
      | inl more
          ↦ let next = some-at places (p + 1) (ltb-true (p + 1) (length places) more) in
          user-there blocks k next.0 (circle.next k next.0 p at next.1)
      | inr last
          ↦ let end : length places ≤ p + 1 = ltb-false (p + 1) (length places) last in
          let within : p < length places = slice_get_within places p k at in
          let is : p ≡ length places - 1 = omega (arith, end, within) in
          let first = some-at places 0 circle.some in
          user-there blocks k first.0 (circle.closes k first.0 (subst (λ (j : ℕ). slice_get places j ≡ Some k) is at) first.1)
    ]

pub lent-there : (blocks : List Block) (reads : List (List ℕ)) (places lent : List ℕ) → reads ≡ block_reads blocks → lent ≡ places
    → IsCircle reads places → (k : ℕ) → Contains lent k → k < length blocks
lent-there blocks reads places lent is same circle k there =
    circle-there blocks places (subst (λ (r : List (List ℕ)). IsCircle r places) is circle) k
    (subst (λ (l : List ℕ). Contains l k) same there)

pub named-blocks : (blocks given : List Block) (reads : List (List ℕ)) (places lent : List ℕ) (names : List (List ℕ)) → given ≡ blocks
    → reads ≡ block_reads given → lent ≡ places → IsFirstCircle reads places
    → names ≡ map (λ k. slice_index_or (block_names given) k []) lent → IsBlockCycle blocks names
named-blocks blocks given reads places lent names same is moved first named = record {
  places = places;
  named = named ∙ ap (λ (l : List ℕ). map (λ k. slice_index_or (block_names given) k []) l) moved
      ∙ ap (λ (b : List Block). map (λ k. slice_index_or (block_names b) k []) places) same;
  first = subst (λ (r : List (List ℕ)). IsFirstCircle r places) (is ∙ ap block_reads same) first;
}
