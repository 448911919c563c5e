-- A search between two nodes, and what it found at its end.
use Rattle.std.proofs.Common.{◌≡◌, ◌∙◌, ◌⊎◌, inl, inr, sym, ap, subst, ℕ, ◌+◌, ◌^◌, ◌<◌, ◌≤◌, ℤ, Bool, true, List, [], ◌∷◌, ◌++◌, length, arith}
use Rattle.std.specs.Prelude.{nat_lt}
use Rattle.std.proofs.lemmas.Bool.{cases_eq}
use Rattle.std.proofs.lemmas.List.{length-append}
use Rattle.ft_linear.specs.meaning.Formula.{FormulaView, atoms_below}
use Rattle.ft_linear.specs.meaning.Part.{PartView}
use Rattle.ft_cert.specs.meaning.Parts.{whole_of}
use Rattle.ft_cert.specs.meaning.Tree.{Tree}
use Rattle.ft_cert.specs.walk.Steps.{parts_by, room_by}
use Rattle.ft_cert.specs.walk.Waiting.{first_of, rest_of}
use Rattle.ft_search.specs.declared.counts.Allowed.{Allowed}
use Rattle.ft_search.specs.declared.counts.Counts.{Counts}
use Rattle.ft_search.specs.declared.kept.KeptNode.{KeptNode}
use Rattle.ft_search.specs.declared.room.Room.{Room}
use Rattle.ft_search.specs.declared.turns.Turn.{Turn}
use Rattle.ft_search.specs.laws.Budget.{SpendsLess}
use Rattle.ft_search.specs.meaning.Spent.{IsSpentBy, enough_for}
use Rattle.ft_search.specs.searching.Kept.{nodes_by}
use Rattle.ft_search.specs.searching.Sizes.{IsEnough, nodes_for, others_for}
use Rattle.ft_search.specs.searching.Space.{IsFreshFor, IsRoomFor, IsUnderWay}
use Rattle.ft_search.specs.searching.Turn.{IsAllowedTurn, IsTurn, halvings_by, splits_by, tightens_by}
use Rattle.ft_search.specs.searching.Walk.{IsWalk}
use Rattle.ft_search.proofs.TurnLemmas.{few-more, halves-less, limits-more, room-is}
use Rattle.ft_search.proofs.WalkLemmas.{count-nodes, goes-on, nodes-push, starts}

-- a node and its step, taken from one room to another
pub record Goes (old new : Room) (t : Turn) : Type 0 where
  pub nodes : new.nodes.items ≡ old.nodes.items ++ t.node ∷ []
  pub parts : new.descent.parts ≡ parts_by (first_of old.descent.parts) t.step ++ rest_of old.descent.parts
  pub unknowns : new.descent.unknowns ≡ old.descent.unknowns
  pub atoms : new.descent.atoms ≡ old.descent.atoms
  pub steps : old.descent.spare ≤ new.descent.spare + room_by t.step
  pub spare : new.nodes.spare + 1 ≡ old.nodes.spare
  pub budget : new.budget ≡ old.budget

-- the counts with one node more
pub record Counted (old new : Counts) (t : Turn) : Type 0 where
  pub used : new.used ≡ old.used + splits_by t.step
  pub halved : new.halved ≡ old.halved + halvings_by t.halves
  pub tight : new.tight ≡ old.tight + tightens_by t.step

-- a tightening is within the limits
abbrev pub IsWithinLimits : ℕ → Counts → Turn → Type 0
IsWithinLimits budget c t = tightens_by t.step ≡ 1
    → ((c.tight < c.halved + others_for budget) × (c.tight < enough_for budget + others_for budget))
    ⊎ ((c.halved < enough_for budget) × (t.halves ≡ true))

-- any tightening is
abbrev pub WithinAll : ℕ → Counts → Type 0
WithinAll budget c = (c.tight < c.halved + others_for budget) × (c.tight < enough_for budget + others_for budget)

below-is : (h e : ℕ) (b : Bool) → b ≡ nat_lt h e → b ≡ true → h < e
below-is h e b is so = let t : nat_lt h e ≡ true = sym is ∙ so in grind (arith, t)

pub within-limits : (budget : ℕ) (c : Counts) (allowed : Allowed) (t : Turn) → allowed.halving ≡ nat_lt c.halved (enough_for budget)
    → (allowed.others ≡ true → WithinAll budget c) → IsAllowedTurn allowed t → IsWithinLimits budget c t
within-limits budget c allowed t halving others h one = elim (h one) [
  | inl so ↦ inl (others so)
  | inr so ↦ inr (below-is c.halved (enough_for budget) allowed.halving halving so.0, so.1)
]

module _ (f : FormulaView) (spans : List (ℤ × ℤ)) (r : Room) (c : Counts) (way : IsUnderWay f spans r c) where
  pub all-few : length (nodes_by f r.nodes.items) < 2 ^ 32
  all-few =
      let count = way.walk.count in
      let few = way.few in
      let limit = way.limit in
      let most = way.most in
      omega (arith, count, few, limit, most)

  pub few-nodes : 0 < length r.descent.parts → length r.nodes.items < nodes_for r.budget
  few-nodes some =
      let count = way.walk.count in
      let same = count-nodes f r.nodes.items in
      let few = way.few in
      let limit = way.limit in
      omega (arith, count, same, few, limit, some)

  pub way-more : (s : Room) (d : Counts) (t : Turn) → 0 < length r.descent.parts
      → IsTurn f (first_of r.descent.parts) (enough_for r.budget) c.halved t → IsWithinLimits r.budget c t
      → ((splits_by t.step ≡ 1) × (c.used ≡ r.budget) → ⊥) → Goes r s t → Counted c d t → IsRoomFor f (length spans) s.judging
      → IsUnderWay f spans s d
  way-more s d t some turn within left go count judging =
      let limits = limits-more t.step t.halves c.tight c.halved (others_for r.budget) (enough_for r.budget) way.by_halved way.limit within in
      let l0 = limits.0 in
      let l1 = limits.1 in
      let halves = halves-less t.step t.halves turn.tightens in
      let few = few-more t.step c.used r.budget way.few left in
      let exact = way.exact in
      let u = count.used in
      let h = count.halved in
      let g = count.tight in
      let b = go.budget in
      let steps = way.steps in
      let spare = way.spare in
      let taken = go.steps in
      let is = room-is t.step in
      let longer = ap (λ (ks : List KeptNode). length ks) go.nodes ∙ length-append r.nodes.items (t.node ∷ []) in
      let one = go.spare in
      let most = way.most in
      record {
        walk = subst (λ (n : ℕ). IsWalk f (enough_for n) (whole_of f spans) (nodes_by f s.nodes.items) s.descent.parts d.used d.halved
            d.tight) (sym b)
            (goes-on f (enough_for r.budget) (whole_of f spans) (nodes_by f r.nodes.items) r.descent.parts c.used c.halved c.tight way.walk t
            s.descent.parts (nodes_by f s.nodes.items) d.used d.halved d.tight some turn
            (nodes-push f r.nodes.items s.nodes.items t.node go.nodes) go.parts u h g);
        few = omega (arith, few, u, b);
        exact = omega (arith, exact, halves, h, g);
        by_halved = omega (arith, l0, h, g, b);
        limit = omega (arith, l1, g, b);
        most = omega (arith, most, b);
        unknowns = go.unknowns ∙ way.unknowns;
        atoms = go.atoms ∙ way.atoms;
        judging = judging;
        steps = omega (arith, steps, taken, is, u, g, b);
        spare = omega (arith, spare, longer, one, b);
      }

pub way-begins : (f : FormulaView) (spans : List (ℤ × ℤ)) (r : Room) (c : Counts) → IsFreshFor f spans r → c.used ≡ 0 → c.halved ≡ 0
    → c.tight ≡ 0 → IsUnderWay f spans r c
way-begins f spans r c fresh u h g =
    let budget = fresh.budget in
    let splits = fresh.splits in
    let steps = fresh.steps in
    let spare = fresh.spare in
    let none = ap (λ (ks : List KeptNode). length ks) fresh.nodes in
    record {
      walk = moved fresh.nodes fresh.parts;
      few = omega (arith, u);
      exact = omega (arith, h, g);
      by_halved = omega (arith, g);
      limit = omega (arith, g);
      most = omega (arith, budget, splits);
      unknowns = fresh.unknowns;
      atoms = fresh.atoms;
      judging = fresh.judging;
      steps = omega (arith, steps, u, g);
      spare = omega (arith, spare, none);
    }
  where
    moved : r.nodes.items ≡ [] → r.descent.parts ≡ whole_of f spans ∷ []
        → IsWalk f (enough_for r.budget) (whole_of f spans) (nodes_by f r.nodes.items) r.descent.parts c.used c.halved c.tight
    moved e p = subst (λ (n : ℕ). IsWalk f (enough_for r.budget) (whole_of f spans) (nodes_by f r.nodes.items) r.descent.parts c.used
        c.halved n) (sym g)
        (subst (λ (n : ℕ). IsWalk f (enough_for r.budget) (whole_of f spans) (nodes_by f r.nodes.items) r.descent.parts c.used n 0) (sym h)
        (subst (λ (n : ℕ). IsWalk f (enough_for r.budget) (whole_of f spans) (nodes_by f r.nodes.items) r.descent.parts n 0 0) (sym u)
        (subst (λ (ps : List PartView). IsWalk f (enough_for r.budget) (whole_of f spans) (nodes_by f r.nodes.items) ps 0 0 0) (sym p)
        (subst (λ (ks : List KeptNode). IsWalk f (enough_for r.budget) (whole_of f spans) (nodes_by f ks) (whole_of f spans ∷ []) 0 0 0)
        (sym e) (starts f (enough_for r.budget) (whole_of f spans))))))

-- a spent tree of fewer splits than were asked for there is none
pub spent-all : (law : SpendsLess) (f : FormulaView) (spans : List (ℤ × ℤ)) (budget splits : ℕ) (t : Tree) → budget ≤ splits
    → (budget < splits → IsEnough f spans budget) → atoms_below (length f.atoms) f.root ≡ true
    → IsSpentBy f (enough_for budget) (whole_of f spans) budget t → IsSpentBy f (enough_for splits) (whole_of f spans) splits t
spent-all law f spans budget splits t few enough below spent = elim (cases_eq budget splits) [
  | inl same ↦ subst (λ (n : ℕ). IsSpentBy f (enough_for n) (whole_of f spans) n t) same spent
  | inr other ↦
      let more : budget < splits = grind (arith, few, other) in
      let less = law f (enough_for budget) budget spans t (enough more).nonempty below spent in
      let choices = (enough more).choices in
      absurd (omega (arith, less, choices))
]
