-- The goals of blocks in one list, and where each stands.
use Rattle.std.proofs.Common.{arith, ◌≡◌, ◌∙◌, sym, ap, subst, refl, ◌⊎◌, inl, inr, ℕ, zero, suc, ◌+◌, ◌≤◌, ◌<◌, List, [], ◌∷◌, ◌++◌}
use Rattle.std.proofs.Common.{length, take, slice_get, Some, true, true≢false}
use Rattle.std.specs.List.{Contains, flat_map}
use Rattle.std.specs.Prelude.{slice_index_or}
use Rattle.std.proofs.lemmas.List.{take_all, take_more}
use Rattle.std.proofs.lemmas.Option.{none-some, same_Some, slice_get_within}
use Rattle.ft_core.specs.declared.tables.Block.{Block}
use Rattle.ft_core.specs.declared.tables.Fact.{Fact}
use Rattle.ft_core.specs.declared.tables.Fact.TheVariants.{Goal, Invariant}
use Rattle.ft_core.specs.declared.tables.Memory.{Memory}
use Rattle.ft_core.specs.declared.tables.Var.{Var}
use Rattle.ft_core.specs.checked.Blocks.{AreBlocks}
use Rattle.ft_core.specs.checked.Distinct.{AreDistinct}
use Rattle.ft_core.specs.laws.Lists.{from_one, in_all}
use Rattle.ft_core.specs.laws.Places.{contained, one-at, on-left, place-of, of-push}
use Rattle.ft_core.specs.meaning.Kinds.{Kinds, controlled, is_of}
use Rattle.ft_blocks.specs.meaning.Goals.{HasGoals, HaveGoals, IsGoalOf, block_goals, fact_goals}
use Rattle.ft_blocks.specs.steps.Answers.{AreVariables}

pub is-there : (vars : List Var) (kinds : Kinds) (x : ℕ) → is_of vars kinds x ≡ true → x < length vars
is-there [] kinds x is = absurd (true≢false (sym is))
is-there (v ∷ vars) kinds zero is = omega arith
is-there (v ∷ vars) kinds (suc x) is = let less = is-there vars (λ y u. kinds (suc y) u) x is in omega (arith, less)

-- a goal in the list is that of a fact of a block
is-goal : (fact : Fact) (x : ℕ) → Contains (fact_goals fact) x → fact ≡ Goal x
is-goal (Goal y) x (zero, below, is) = ap Goal is
is-goal (Goal y) x (suc k, below, is) = absurd (omega (arith, below))
is-goal (Invariant name cond) x there = absurd (omega (arith, there.1))

goal-of : (blocks : List Block) (x : ℕ) → Contains (block_goals blocks) x → (b f : ℕ) × IsGoalOf blocks b f x
goal-of blocks x there =
    let block = from_one (λ (b : Block). flat_map fact_goals b.facts) blocks x there in
    let fact = from_one fact_goals block.1.facts x block.3 in
    (block.0, fact.0, (block.1, block.2, fact.2 ∙ ap Some (is-goal fact.1 x fact.3)))

on-right : {X : Type 0} (xs ys : List X) (i : ℕ) (x : X) → slice_get ys i ≡ Some x → slice_get (xs ++ ys) (length xs + i) ≡ Some x
on-right [] ys i x at = let same : i ≡ 0 + i = omega arith in subst (λ (j : ℕ). slice_get ys j ≡ Some x) same at
on-right (y ∷ xs) ys i x at =
    let same : suc (length xs + i) ≡ suc (length xs) + i = omega arith in
    subst (λ (j : ℕ). slice_get (y ∷ (xs ++ ys)) j ≡ Some x) same (on-right xs ys i x at)

left-once : {X : Type 0} (xs ys : List X) → AreDistinct (xs ++ ys) → AreDistinct xs
left-once xs ys once k l x at_k at_l = once k l x (on-left xs ys k x at_k) (on-left xs ys l x at_l)

right-once : {X : Type 0} (xs ys : List X) → AreDistinct (xs ++ ys) → AreDistinct ys
right-once xs ys once k l x at_k at_l =
    let same = once (length xs + k) (length xs + l) x (on-right xs ys k x at_k) (on-right xs ys l x at_l) in
    omega (arith, same)

apart : {X : Type 0} (xs ys : List X) (x : X) → AreDistinct (xs ++ ys) → Contains xs x → Contains ys x → ⊥
apart xs ys x once left right =
    let a = place-of xs x left in
    let b = place-of ys x right in
    let same = once a.0 (length xs + b.0) x (on-left xs ys a.0 x a.1) (on-right xs ys b.0 x b.1) in
    let within = slice_get_within xs a.0 x a.1 in
    omega (arith, same, within)

-- in lists joined, where nothing stands twice: the part in which something stands
one-part : {A X : Type 0} (f : A → List X) (xs : List A) → AreDistinct (flat_map f xs) → (i j : ℕ) (a b : A) (x : X)
    → slice_get xs i ≡ Some a → slice_get xs j ≡ Some b → Contains (f a) x → Contains (f b) x → i ≡ j
one-part f [] once i j a b x at_a at_b in_a in_b = absurd (none-some a at_a)
one-part f (y ∷ ys) once zero zero a b x at_a at_b in_a in_b = refl
one-part f (y ∷ ys) once zero (suc j) a b x at_a at_b in_a in_b =
    absurd (apart (f y) (flat_map f ys) x once (subst (λ c. Contains (f c) x) (sym (same_Some y a at_a)) in_a)
    (in_all f ys j b x at_b in_b))
one-part f (y ∷ ys) once (suc i) zero a b x at_a at_b in_a in_b =
    absurd (apart (f y) (flat_map f ys) x once (subst (λ c. Contains (f c) x) (sym (same_Some y b at_b)) in_b)
    (in_all f ys i a x at_a in_a))
one-part f (y ∷ ys) once (suc i) (suc j) a b x at_a at_b in_a in_b =
    ap suc (one-part f ys (right-once (f y) (flat_map f ys) once) i j a b x at_a at_b in_a in_b)

part-once : {A X : Type 0} (f : A → List X) (xs : List A) → AreDistinct (flat_map f xs) → (i : ℕ) (a : A) → slice_get xs i ≡ Some a
    → AreDistinct (f a)
part-once f [] once i a at = absurd (none-some a at)
part-once f (y ∷ ys) once zero a at =
    subst (λ c. AreDistinct (f c)) (same_Some y a at) (left-once (f y) (flat_map f ys) once)
part-once f (y ∷ ys) once (suc i) a at = part-once f ys (right-once (f y) (flat_map f ys) once) i a at

itself : {X : Type 0} (x : X) → Contains (x ∷ []) x
itself x = contained (x ∷ []) 0 x refl

pub has-goals : (vars : List Var) (blocks : List Block) → HaveGoals vars (block_goals blocks) (length vars)
    → AreDistinct (block_goals blocks) → HasGoals vars blocks
has-goals vars blocks every once = record {
  some = λ x is. goal-of blocks x (every x (is-there vars controlled x is) is);
  one = λ x b c f g left right. one x b c f g left right;
}
  where
    within : (f x : ℕ) (block : Block) → slice_get block.facts f ≡ Some (Goal x) → Contains (flat_map fact_goals block.facts) x
    within f x block at = in_all fact_goals block.facts f (Goal x) x at (itself x)

    one : (x b c f g : ℕ) → IsGoalOf blocks b f x → IsGoalOf blocks c g x → (b ≡ c) × (f ≡ g)
    one x b c f g (here, at_b, at_f) (there, at_c, at_g) =
        let places : b ≡ c = one-part (λ (k : Block). flat_map fact_goals k.facts) blocks once b c here there x at_b at_c
        (within f x here at_f) (within g x there at_g) in
        let same : here ≡ there = one-at blocks c here there (subst (λ (n : ℕ). slice_get blocks n ≡ Some here) places at_b) at_c in
        let fact = subst (λ (k : Block). slice_get k.facts f ≡ Some (Goal x)) same at_f in (
          places,
          one-part fact_goals there.facts (part-once (λ (k : Block). flat_map fact_goals k.facts) blocks once c there at_c)
              f g (Goal x) (Goal x) x fact at_g (itself x) (itself x),
        )

-- each goal is a variable
pub are-variables : (vars : List Var) (memories : List Memory) (blocks : List Block) → AreBlocks vars memories blocks
    → AreVariables (length vars) (block_goals blocks)
are-variables vars memories blocks are k x at =
    let goal = goal-of blocks x (contained (block_goals blocks) k x at) in
    is-there vars controlled x (are.goals goal.0 goal.1 x goal.2.0 goal.2.1 goal.2.2)

-- one goal more that is none of those before
pub push-once : (xs : List ℕ) (y : ℕ) → AreDistinct xs → (Contains xs y → ⊥) → AreDistinct (xs ++ y ∷ [])
push-once xs y once new k l x at_k at_l = by (of-push xs y k x at_k) (of-push xs y l x at_l)
  where
    by : ((slice_get xs k ≡ Some x) ⊎ ((k ≡ length xs) × (y ≡ x))) → ((slice_get xs l ≡ Some x) ⊎ ((l ≡ length xs) × (y ≡ x))) → k ≡ l
    by (inl a) (inl b) = once k l x a b
    by (inl a) (inr b) = absurd (new (subst (λ (z : ℕ). Contains xs z) (sym b.1) (contained xs k x a)))
    by (inr a) (inl b) = absurd (new (subst (λ (z : ℕ). Contains xs z) (sym a.1) (contained xs l x b)))
    by (inr a) (inr b) = a.0 ∙ sym b.0

-- one place more without an earlier goal of its variable
pub take-once : (xs : List ℕ) (i : ℕ) → i < length xs → AreDistinct (take i xs) → (Contains (take i xs) (slice_index_or xs i 0) → ⊥)
    → AreDistinct (take (i + 1) xs)
take-once xs i low once new = subst AreDistinct (sym (take_more xs i 0 low)) (push-once (take i xs) (slice_index_or xs i 0) once new)

pub all-once : (xs : List ℕ) (i : ℕ) → length xs ≤ i → AreDistinct (take i xs) → AreDistinct xs
all-once xs i past once = subst AreDistinct (take_all i xs past) once
