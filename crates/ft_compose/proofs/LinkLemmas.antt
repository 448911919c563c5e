-- The rounds that mark the other parts that belong: what each step keeps, and what is so when nothing more is marked.
use Rattle.std.proofs.Common.{◌≡◌, ◌∙◌, sym, ap, subst, refl, ℕ, zero, suc, ◌+◌, ◌<◌, ◌≤◌, ◌⊎◌, inl, inr, Bool, true, false, ◌||◌}
use Rattle.std.proofs.Common.{List, [], ◌∷◌, length, replicate, Some, slice_get, slice_set, arith, ⊎_elim}
use Rattle.std.specs.Prelude.{IsTrue, nat_lt}
use Rattle.std.specs.List.{flat_map}
use Rattle.std.proofs.lemmas.Bool.{cases_Bool, ltb-true, ltb-false, true≢false}
use Rattle.std.proofs.lemmas.List.{length-map, length-set, length-replicate}
use Rattle.std.proofs.lemmas.Option.{none-some, same_Some, slice_get_within}
use Rattle.ft_core.specs.laws.Lists.{in_all, from_one, mapped}
use Rattle.ft_core.specs.laws.Places.{contained, place-of, of-replicate, of-set, one-at}
use Rattle.ft_claims.specs.declared.claim.Claim.{Claim}
use Rattle.ft_oblige.specs.meaning.Linked.{HasName, IsLinked, bare, near, next, AreSettled, names_in}
use Rattle.ft_compose.specs.declared.linking.Links.{Links}
use Rattle.ft_compose.specs.declared.part.Part.{Part}
use Rattle.ft_compose.specs.building.Rounds.{AreNamed, IsFirst, IsKnown, IsRound, IsStep, IsStill, IsUnderWay, Joins, Keeps, Stays}
use Rattle.ft_compose.specs.building.Rounds.{belongs, claims_in, of_own, of_other, unmarked, with_part}
use Rattle.ft_compose.proofs.MarkLemmas.{IsMet, marks-long, stays-marked, was-marked, gets-marked, belongs-met, belongs-bare}
use Rattle.ft_compose.proofs.MarkLemmas.{why-belongs, name-bound}

claim-at : (parts : List Part) (k : ℕ) (p : Part) → slice_get parts k ≡ Some p → slice_get (claims_in parts) k ≡ Some p.claim
claim-at [] k p at = absurd (none-some p at)
claim-at (q ∷ parts) zero p at = ap (λ (r : Part). Some r.claim) (same_Some q p at)
claim-at (q ∷ parts) (suc k) p at = claim-at parts k p at

module _ (base : ℕ) (own others : List Claim) (l : Links) (under : IsUnderWay base own others l) where
  -- a part that belongs is linked
  linked-by : (k : ℕ) (c : Claim) → slice_get others k ≡ Some c → (u : ℕ) → HasName base c u → IsKnown base own others u
      → IsLinked base own others k
  linked-by k c at u has (of_own j d it name) = near c j d at it (u, name, has)
  linked-by k c at u has (of_other j d it more name) = next c j d at it more (u, name, has)

  is-linked : (k : ℕ) (c : Claim) → slice_get others k ≡ Some c → belongs l.reached (names_in base c) ≡ true → IsLinked base own others k
  is-linked k c at may = ⊎_elim
      (λ none. bare c at none)
      (λ (m : IsMet l.reached (names_in base c)). linked-by k c at m.1 (m.0, m.2) (under.known m.1 m.3))
      (why-belongs l.reached (names_in base c) may)

  -- and marking it keeps what is so
  pub joined : (k : ℕ) (c : Claim) → slice_get others k ≡ Some c → belongs l.reached (names_in base c) ≡ true
      → IsUnderWay base own others (with_part k (names_in base c) l)
  joined k c at may =
      let names = names_in base c in
      let here = is-linked k c at may in record {
        long = length-set l.marks k true ∙ under.long;
        wide = marks-long names l.reached ∙ under.wide;
        sound = λ j mark. elim (of-set l.marks k true j true mark) [
          | inl (e, f) ↦ subst (IsLinked base own others) (sym e) here
          | inr (e, f) ↦ under.sound j f
        ];
        known = λ u mark. elim (was-marked names l.reached u mark) [
          | inl before ↦ under.known u before
          | inr new ↦ of_other k c at here new
        ];
        by_own = λ j d u it has. stays-marked names l.reached u (under.by_own j d u it has);
        by_others = λ j d u it mark has. elim (of-set l.marks k true j true mark) [
          | inl (e, f)
              ↦ let same : d ≡ c = one-at others k d c (subst (λ i. slice_get others i ≡ Some d) e it) at in
              let its : HasName base c u = subst (λ z. HasName base z u) same has in
              gets-marked names l.reached its.0 u its.1 (subst (λ n. u < n) (sym under.wide) (name-bound base c u its))
          | inr (e, f) ↦ stays-marked names l.reached u (under.by_others j d u it f has)
        ];
      }

  -- where each part that belongs is marked, nothing can be added
  pub settled : ((k : ℕ) (c : Claim) → slice_get others k ≡ Some c → belongs l.reached (names_in base c) ≡ true
      → slice_get l.marks k ≡ Some true)
      → AreSettled base own others l.marks
  settled still = record {
    sound = under.sound;
    no_bare = λ k c at none. still k c at (belongs-bare l.reached (names_in base c) none);
    no_near = λ k j c d at it share. still k c at
        (belongs-met l.reached (names_in base c) share.2.0 share.0 share.2.1 (under.by_own j d share.0 it share.1));
    no_next = λ k j c d at it mark share. still k c at
        (belongs-met l.reached (names_in base c) share.2.0 share.0 share.2.1 (under.by_others j d share.0 it mark share.1));
  }

-- the number of places that aren't marked
one-fewer : (marks : List Bool) (k : ℕ) → slice_get marks k ≡ Some false → suc (unmarked (slice_set marks k true)) ≡ unmarked marks
one-fewer [] k at = absurd (none-some false at)
one-fewer (true ∷ marks) zero at = absurd (true≢false (same_Some true false at))
one-fewer (false ∷ marks) zero at = refl
one-fewer (true ∷ marks) (suc k) at = one-fewer marks k at
one-fewer (false ∷ marks) (suc k) at = ap suc (one-fewer marks k at)

at-most : (marks : List Bool) → unmarked marks ≤ length marks
at-most [] = omega arith
at-most (true ∷ marks) = let more = at-most marks in omega (arith, more)
at-most (false ∷ marks) = let more = at-most marks in omega (arith, more)

all-marked : (marks : List Bool) → unmarked marks ≡ 0 → (k : ℕ) → k < length marks → slice_get marks k ≡ Some true
all-marked [] none k l = absurd (omega (arith, l))
all-marked (true ∷ marks) none zero l = refl
all-marked (true ∷ marks) none (suc k) l = all-marked marks none k (omega (arith, l))
all-marked (false ∷ marks) none k l = absurd (omega (arith, none))

-- the first parts of a round
pub record IsUntil (others : List Part) (i : ℕ) (old new : Links) (grew : Bool) : Type 0 where
  pub keeps : Keeps others old new
  pub long : length new.marks ≡ length old.marks
  pub most : unmarked new.marks ≤ unmarked old.marks
  pub fewer : grew ≡ true → unmarked new.marks < unmarked old.marks
  pub still : grew ≡ false → (k : ℕ) (part : Part) → k < i → slice_get others k ≡ Some part → IsTrue (belongs new.reached part.names)
      → slice_get new.marks k ≡ Some true

pub round-begins : (others : List Part) (l : Links) → IsUntil others 0 l l false
round-begins others l = record {
  keeps = λ base named own under. under;
  long = refl;
  most = omega arith;
  fewer = λ e. absurd (true≢false (sym e));
  still = λ e k part less. absurd (omega (arith, less));
}

module _ (others : List Part) (i : ℕ) (part : Part) (at : slice_get others i ≡ Some part) (old mid new : Links) where
  joins : (grew : Bool) → IsUntil others i old mid grew → Joins i part.names mid new → IsUntil others (i + 1) old new (grew || true)
  joins grew until j =
      let marks : new.marks ≡ slice_set mid.marks i true = ap (λ (l : Links). l.marks) j.is in
      let less : suc (unmarked new.marks) ≡ unmarked mid.marks = ap (λ ms. suc (unmarked ms)) marks ∙ one-fewer mid.marks i j.free in
      let most = until.most in record {
        keeps = λ base named own under.
            let same = named i part at in
            subst (IsUnderWay base own (claims_in others)) (ap (λ ns. with_part i ns mid) (sym same) ∙ sym j.is)
            (joined base own (claims_in others) mid (until.keeps base named own under) i part.claim (claim-at others i part at)
            (subst (λ ns. belongs mid.reached ns ≡ true) same j.may));
        long = ap length marks ∙ length-set mid.marks i true ∙ until.long;
        most = omega (arith, less, most);
        fewer = λ e. omega (arith, less, most);
        still = λ e. absurd (true≢false (sym (or-true grew) ∙ e));
      }
    where
      or-true : (b : Bool) → (b || true) ≡ true
      or-true true = refl
      or-true false = refl

  stays : (grew : Bool) → IsUntil others i old mid grew → Stays i part.names mid new → IsUntil others (i + 1) old new (grew || false)
  stays grew until s = subst (λ b. IsUntil others (i + 1) old new b) (sym (or-false grew))
      (subst (λ l. IsUntil others (i + 1) old l grew) (sym s.same) (record {
        keeps = until.keeps;
        long = until.long;
        most = until.most;
        fewer = until.fewer;
        still = λ e k p less it may. last e k p (below k less) it may;
      }))
    where
      or-false : (b : Bool) → (b || false) ≡ b
      or-false true = refl
      or-false false = refl

      below : (k : ℕ) → k < i + 1 → (k < i) ⊎ (k ≡ i)
      below k less = ⊎_elim (λ low. inl (ltb-true k i low)) (λ high. let past = ltb-false k i high in inr (omega (arith, less, past)))
          (cases_Bool (nat_lt k i))

      last : grew ≡ false → (k : ℕ) (p : Part) → (k < i) ⊎ (k ≡ i) → slice_get others k ≡ Some p → IsTrue (belongs mid.reached p.names)
          → slice_get mid.marks k ≡ Some true
      last e k p (inl less) it may = until.still e k p less it may
      last e k p (inr same) it may =
          let one : p ≡ part = one-at others i p part (subst (λ n. slice_get others n ≡ Some p) same it) at in
          subst (λ n. slice_get mid.marks n ≡ Some true) (sym same)
          (s.why (subst (λ (q : Part). belongs mid.reached q.names ≡ true) one may))

  -- one part more
  pub round-more : (grew done : Bool) → IsUntil others i old mid grew → IsStep i part.names mid new done
      → IsUntil others (i + 1) old new (grew || done)
  round-more grew true until step = joins grew until step
  round-more grew false until step = stays grew until step

pub round-ends : (others : List Part) (i : ℕ) (old new : Links) (grew : Bool) → length others ≤ i → IsUntil others i old new grew
    → IsRound others old new grew
round-ends others i old new grew past until = record {
  keeps = until.keeps;
  long = until.long;
  fewer = until.fewer;
  still = λ e k part at may. let within = slice_get_within others k part at in until.still e k part (omega (arith, past, within)) at may;
}

-- after some rounds, each of which marked a part
pub record IsAfter (others : List Part) (rounds : ℕ) (old new : Links) : Type 0 where
  pub keeps : Keeps others old new
  pub long : length new.marks ≡ length others
  pub left : unmarked new.marks + rounds ≤ length others

pub rounds-begin : (others : List Part) (l : Links) → length l.marks ≡ length others → IsAfter others 0 l l
rounds-begin others l long = let most = at-most l.marks in record {
  keeps = λ base named own under. under;
  long = long;
  left = omega (arith, most, long);
}

pub rounds-more : (others : List Part) (rounds : ℕ) (old mid new : Links) → IsAfter others rounds old mid → IsRound others mid new true
    → IsAfter others (rounds + 1) old new
rounds-more others rounds old mid new after round =
    let fewer = round.fewer refl in
    let left = after.left in record {
      keeps = λ base named own under. round.keeps base named own (after.keeps base named own under);
      long = round.long ∙ after.long;
      left = omega (arith, fewer, left);
    }

pub rounds-stop : (others : List Part) (rounds : ℕ) (old mid new : Links) → IsAfter others rounds old mid → IsRound others mid new false
    → Keeps others old new × IsStill others new
rounds-stop others rounds old mid new after round = (
  λ base named own under. round.keeps base named own (after.keeps base named own under),
  round.still refl,
)

-- after as many rounds as there are parts each is marked
pub rounds-end : (others : List Part) (rounds : ℕ) (old new : Links) → length others ≤ rounds → IsAfter others rounds old new
    → IsStill others new
rounds-end others rounds old new past after k part at may =
    let left = after.left in
    let none : unmarked new.marks ≡ 0 = omega (arith, past, left) in
    let within = slice_get_within others k part at in
    all-marked new.marks none k (subst (λ n. k < n) (sym after.long) within)

-- where rounds begin
pub first-under : (base : ℕ) (own : List Claim) (parts : List Part) (l : Links) → IsFirst base own (length parts) l
    → IsUnderWay base own (claims_in parts) l
first-under base own parts l first =
    let none = replicate base false in
    let names = flat_map (names_in base) own in
    let free : (k : ℕ) → slice_get l.marks k ≡ Some true → ⊥ =
    λ k mark. true≢false (sym (of-replicate (length parts) k true false (subst (λ ms. slice_get ms k ≡ Some true) first.marks mark))) in
    let wide : length none ≡ base = length-replicate base false in record {
      long = ap length first.marks ∙ length-replicate (length parts) false ∙ sym (length-map parts (λ (part : Part). part.claim));
      wide = ap length first.reached ∙ marks-long names none ∙ wide;
      sound = λ k mark. absurd (free k mark);
      known = λ u mark. elim (was-marked names none u (subst (λ ms. slice_get ms u ≡ Some true) first.reached mark)) [
        | inl before ↦ absurd (true≢false (sym (of-replicate base u true false before)))
        | inr new
            ↦ let one = from_one (names_in base) own u (contained names new.0 u new.1) in
            of_own one.0 one.1 one.2 (place-of (names_in base one.1) u one.3)
      ];
      by_own = λ j d u it has.
          let there = place-of names u (in_all (names_in base) own j d u it (contained (names_in base d) has.0 u has.1)) in
          subst (λ ms. slice_get ms u ≡ Some true) (sym first.reached)
          (gets-marked names none there.0 u there.1 (subst (λ n. u < n) (sym wide) (name-bound base d u has)));
      by_others = λ j d u it mark has. absurd (free j mark);
    }

-- and where they end
pub linked-is : (base : ℕ) (own : List Claim) (parts : List Part) (old new : Links) → AreNamed base parts
    → IsFirst base own (length parts) old → Keeps parts old new → IsStill parts new → AreSettled base own (claims_in parts) new.marks
linked-is base own parts old new named first keeps still =
    settled base own (claims_in parts) new (keeps base named own (first-under base own parts old first)) (λ k c at may.
    let one = mapped (λ (part : Part). part.claim) parts k c at in
    still k one.0 one.1 (subst (λ ns. belongs new.reached ns ≡ true) (sym (named k one.0 one.1 ∙ ap (names_in base) one.2)) may))

pub linked-long : (base : ℕ) (own : List Claim) (parts : List Part) (old new : Links) → AreNamed base parts
    → IsFirst base own (length parts) old → Keeps parts old new → length new.marks ≡ length parts
linked-long base own parts old new named first keeps =
    (keeps base named own (first-under base own parts old first)).long ∙ length-map parts (λ (part : Part). part.claim)
