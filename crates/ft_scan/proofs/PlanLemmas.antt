-- The steps of one more item of an order may follow those so far, and all items make a plan.
use Rattle.std.proofs.Common.{◌≡◌, ◌∙◌, sym, ap, subst, refl, inl, inr, ℕ, ◌+◌, ◌-◌, ◌<◌, ◌≤◌, true, false, List, [], ◌∷◌, ◌++◌, length}
use Rattle.std.proofs.Common.{slice_get, slice_set, Some, replicate, arith, ⊎_elim, true≢false}
use Rattle.std.proofs.lemmas.Bool.{cases_Bool, cases_lt}
use Rattle.std.proofs.lemmas.List.{length_push, length-set, length-replicate}
use Rattle.std.proofs.lemmas.Option.{none-some, same_Some, slice_get_within}
use Rattle.ft_core.specs.declared.tables.Tables.{Tables}
use Rattle.ft_core.specs.declared.tables.Side.{Side}
use Rattle.ft_core.specs.meaning.Kinds.{defined_kinds, section_of, is_of}
use Rattle.ft_core.specs.meaning.Items.{IsScanOrder}
use Rattle.ft_core.specs.meaning.Reads.{Read, at_now, at_before, of_memory, of_age}
use Rattle.ft_core.specs.checked.Sound.{is_memory_of}
use Rattle.ft_core.specs.laws.Places.{on-left, of-push, at-end, of-set, set-here, set-there, of-replicate, none-at}
use Rattle.ft_scan.specs.declared.homes.Home.{Home}
use Rattle.ft_scan.specs.declared.homes.Home.TheVariants.{Whole, Row}
use Rattle.ft_scan.specs.declared.plan.Planned.{Planned}
use Rattle.ft_scan.specs.declared.plan.Step.{Step}
use Rattle.ft_scan.specs.declared.plan.Step.TheVariants as step
use Rattle.ft_scan.specs.steps.Homes.{IsHome, IsRowHome}
use Rattle.ft_scan.specs.steps.Plan.{Makes, IsMade, IsKnown, CanFindColumn, CanFollow, IsPlan}
use Rattle.ft_scan.specs.steps.Planning.{Keeps, Adds, FirstColumn, AddsHome, AddsItem, item_of, IsRightSoFar, HasMade, IsSoFar}
use Rattle.ft_scan.proofs.PlanReads.{known-cells, known-entries, known-columns, known-memory, of-within, memory-within}
use Rattle.ft_scan.specs.laws.Laws.{Laws}

-- what stands in a list of steps stands at the same place in a longer one
abbrev Begins : (steps more : List Step) → Type 0
Begins steps more = (q : ℕ) (one : Step) → slice_get steps q ≡ Some one → slice_get more q ≡ Some one

pushed : (steps more : List Step) (one : Step) → more ≡ steps ++ one ∷ [] → Begins steps more
pushed steps more one is q two there = subst (λ xs. slice_get xs q ≡ Some two) (sym is) (on-left steps (one ∷ []) q two there)

module _ (S : Tables) (s : Side) (steps more : List Step) (begins : Begins steps more) where
  made-more : (n m : ℕ) (r : Read) → n ≤ m → IsMade steps n r → IsMade more m r
  made-more n m r low (q, one, below, there, makes) = (q, one, omega (arith, below, low), begins q one there, makes)

  known-more : (n : ℕ) (r : Read) → IsKnown S s steps n r → IsKnown S s more n r
  known-more n (at_now x) known = ⊎_elim (λ given. inl given) (λ made. inr (made-more n n (at_now x) (omega arith) made)) known
  known-more n (at_before x) known = known
  known-more n (of_memory m) made = made-more n n (of_memory m) (omega arith) made
  known-more n (of_age m) never = never

  follows-more : (n : ℕ) (one : Step) → CanFollow S s steps n one → CanFollow S s more n one
  follows-more n (step.Column table) can = record {
    columns = can.columns;
    targets = can.targets;
    terms = can.terms;
    there = can.there;
    known = λ r c. known-more n r (can.known r c);
    row = can.row;
    variable = can.variable;
    target = can.target;
    defined = can.defined;
  }
  follows-more n (step.Cell x table) can = record {
    there = can.there;
    whole = can.whole;
    defined = can.defined;
    known =
        λ r c. known-more n r (can.known r c);
  }
  follows-more n (step.Entry x table row) can = record {
    columns = can.columns;
    targets = can.targets;
    terms = can.terms;
    there = can.there;
    target = can.target;
    defined = can.defined;
    found = (can.found.0, can.found.1, begins can.found.0 (step.Column table) can.found.2);
    known = λ r c. known-more n r (can.known r c);
  }
  follows-more n (step.Memory m) can = record { there = can.there; known = λ r c. known-more n r (can.known r c) }

-- what is made so far stays made where nothing but more steps comes to it
abbrev Grows : (old new : Planned) → Type 0
Grows old new = Begins old.steps new.steps × (length old.steps ≤ length new.steps)

grown : (one : Step) (old new : Planned) → new.steps ≡ old.steps ++ one ∷ [] → Grows old new
grown one old new is = (pushed old.steps new.steps one is, let more = ap length is ∙ length_push old.steps one in omega (arith, more))

same-planned : (old new : Planned) → Keeps old new → new ≡ old
same-planned old new keeps = λ i. record { steps = keeps.steps i; columns = keeps.columns i }

module _ (L : Laws) (S : Tables) (s : Side) (order : List ℕ) where
  -- what is one more may follow
  follows-push : (steps more : List Step) (one : Step) → more ≡ steps ++ one ∷ []
      → ((n : ℕ) (two : Step) → slice_get steps n ≡ Some two → CanFollow S s steps n two)
      → CanFollow S s steps (length steps) one → (n : ℕ) (two : Step) → slice_get more n ≡ Some two → CanFollow S s more n two
  follows-push steps more one is so can n two there = ⊎_elim
      (λ old. follows-more S s steps more (pushed steps more one is) n two (so n two old))
      (λ new. follows-more S s steps more (pushed steps more one is) n two
      (subst (λ k. CanFollow S s steps k two) (sym new.0) (subst (λ t. CanFollow S s steps (length steps) t) new.1 can)))
      (of-push steps one n two (subst (λ xs. slice_get xs n ≡ Some two) is there))

  -- a new step stands once
  once-push : (steps more : List Step) (one : Step) → more ≡ steps ++ one ∷ []
      → ((two : Step) (p q : ℕ) → slice_get steps p ≡ Some two → slice_get steps q ≡ Some two → p ≡ q)
      → ((q : ℕ) → slice_get steps q ≡ Some one → ⊥)
      → (two : Step) (p q : ℕ) → slice_get more p ≡ Some two → slice_get more q ≡ Some two → p ≡ q
  once-push steps more one is once new two p q at_p at_q = ⊎_elim
      (λ old_p. ⊎_elim
      (λ old_q. once two p q old_p old_q)
      (λ new_q. absurd (new p (old_p ∙ ap Some (sym new_q.1))))
      (of-push steps one q two (subst (λ xs. slice_get xs q ≡ Some two) is at_q)))
      (λ new_p. ⊎_elim
      (λ old_q. absurd (new q (old_q ∙ ap Some (sym new_p.1))))
      (λ new_q. new_p.0 ∙ sym new_q.0)
      (of-push steps one q two (subst (λ xs. slice_get xs q ≡ Some two) is at_q)))
      (of-push steps one p two (subst (λ xs. slice_get xs p ≡ Some two) is at_p))

  -- the column of a table that had none
  first-column : (at table : ℕ) (old new : Planned) → IsRightSoFar S s order at old → FirstColumn table old new
      → CanFindColumn S s old.steps (length old.steps) table
      → IsRightSoFar S s order at new
  first-column at table old new so first can = record {
    long = ap length first.columns ∙ length-set old.columns table true ∙ so.long;
    follows = follows-push old.steps new.steps (step.Column table) first.steps so.follows can;
    once = once-push old.steps new.steps (step.Column table) first.steps so.once
        (λ q there. true≢false (same_Some true false (sym (so.said q table there) ∙ first.missed)));
    of_item = λ n k one there its. ⊎_elim
        (λ was. so.of_item n k one was its)
        (λ is. absurd (none-some k (subst (λ t. item_of (length S.vars) t ≡ Some k) (sym is.1) its)))
        (of-push old.steps (step.Column table) n one (subst (λ xs. slice_get xs n ≡ Some one) first.steps there));
    stands = λ t is. ⊎_elim
        (λ here. (
          length old.steps,
          subst (λ xs. slice_get xs (length old.steps) ≡ Some (step.Column t)) (sym first.steps)
              (at-end old.steps (step.Column table) ∙ ap (λ k. Some (step.Column k)) (sym here.0)),
        ))
        (λ other. let q = so.stands t other.1 in (q.0, pushed old.steps new.steps (step.Column table) first.steps q.0 (step.Column t) q.1))
        (of-set old.columns table true t true (subst (λ xs. slice_get xs t ≡ Some true) first.columns is));
    said = λ q t there. subst (λ xs. slice_get xs t ≡ Some true) (sym first.columns) (⊎_elim
        (λ was. said-still t (so.said q t was))
        (λ is. subst (λ k. slice_get (slice_set old.columns table true) k ≡ Some true) (same-column table t is.1)
        (set-here old.columns table true (slice_get_within old.columns table false first.missed)))
        (of-push old.steps (step.Column table) q (step.Column t) (subst (λ xs. slice_get xs q ≡ Some (step.Column t)) first.steps there)));
  }
    where
      same-column : (a b : ℕ) → step.Column a ≡ step.Column b → a ≡ b
      same-column a b e = ap table-of e
        where
          table-of : Step → ℕ
          table-of (step.Column t) = t
          table-of (step.Cell x t) = t
          table-of (step.Entry x t row) = t
          table-of (step.Memory m) = m

      said-still : (t : ℕ) → slice_get old.columns t ≡ Some true → slice_get (slice_set old.columns table true) t ≡ Some true
      said-still t was = set-there old.columns table true t (λ same. true≢false
          (same_Some true false (sym was ∙ ap (slice_get old.columns) same ∙ first.missed))) ∙ was

  module _ (right : IsScanOrder (length S.vars) S.memories S.tables order) (at k : ℕ) (here : slice_get order at ≡ Some k) where
    -- the step that makes the next item
    pub next-step : (one : Step) (old new : Planned) → IsRightSoFar S s order at old → item_of (length S.vars) one ≡ Some k
        → CanFollow S s old.steps (length old.steps) one
        → Adds one old new → IsRightSoFar S s order (at + 1) new
    next-step one old new so its can adds = record {
      long = ap length adds.columns ∙ so.long;
      follows = follows-push old.steps new.steps one adds.steps so.follows can;
      once = once-push old.steps new.steps one adds.steps so.once
          (λ q there. let p = so.of_item q k one there its in let same = right.once k p.0 at p.2 here in omega (arith, p.1, same));
      of_item = λ n j two there of_it. ⊎_elim
          (λ was. let p = so.of_item n j two was of_it in (p.0, omega (arith, p.1), p.2))
          (λ is. (at, omega arith, here ∙ sym its ∙ ap (item_of (length S.vars)) is.1 ∙ of_it))
          (of-push old.steps one n two (subst (λ xs. slice_get xs n ≡ Some two) adds.steps there));
      stands = λ t is. let q = so.stands t (subst (λ xs. slice_get xs t ≡ Some true) adds.columns is) in
          (q.0, pushed old.steps new.steps one adds.steps q.0 (step.Column t) q.1);
      said = λ q t there. subst (λ xs. slice_get xs t ≡ Some true) (sym adds.columns) (⊎_elim
          (λ was. so.said q t was)
          (λ is. absurd (none-some k (ap (item_of (length S.vars)) (sym is.1) ∙ its)))
          (of-push old.steps one q (step.Column t) (subst (λ xs. slice_get xs q ≡ Some (step.Column t)) adds.steps there)));
    }

    -- an item that is passed over
    later : (planned : Planned) → IsRightSoFar S s order at planned → IsRightSoFar S s order (at + 1) planned
    later planned so = record {
      long = so.long;
      follows = so.follows;
      once = so.once;
      of_item = λ n j one there its. let p = so.of_item n j one there its in (p.0, omega (arith, p.1), p.2);
      stands = so.stands;
      said = so.said;
    }

    still-made : (old new : Planned) → Grows old new → HasMade S s order at old → HasMade S s order at new
    still-made old new grows made = record {
      variables = λ p x below there own. made-more S s old.steps new.steps grows.0 (length old.steps) (length new.steps) (at_now x) grows.1
          (made.variables p x below there own);
      memories = λ p j m below there is own.
          made-more S s old.steps new.steps grows.0 (length old.steps) (length new.steps) (of_memory m) grows.1
          (made.memories p j m below there is own);
    }

    -- what is made of one more item
    made-next : (planned : Planned) → HasMade S s order at planned
        → ((x : ℕ) → k ≡ x → is_of S.vars (defined_kinds (section_of s)) x ≡ true → IsMade planned.steps (length planned.steps) (at_now x))
        → ((m : ℕ) → k ≡ length S.vars + m → is_memory_of S.memories s m ≡ true → IsMade planned.steps (length planned.steps) (of_memory m))
        → HasMade S s order (at + 1) planned
    made-next planned made variable memory = record {
      variables = λ p x below there own. ⊎_elim
          (λ less. made.variables p x less there own)
          (λ most. variable x (now p x below most there) own)
          (cases_lt p at);
      memories = λ p j m below there is own. ⊎_elim
          (λ less. made.memories p j m less there is own)
          (λ most. memory m (now p j below most there ∙ is) own)
          (cases_lt p at);
    }
      where
        now : (p j : ℕ) → p < at + 1 → at ≤ p → slice_get order p ≡ Some j → k ≡ j
        now p j below most there = let same : p ≡ at = omega (arith, below, most) in
            same_Some k j (sym here ∙ ap (slice_get order) (sym same) ∙ there)

    -- a step that is added is made
    makes-it : (one : Step) (r : Read) (old new : Planned) → Adds one old new → Makes one r → IsMade new.steps (length new.steps) r
    makes-it one r old new adds makes = (
      length old.steps,
      one,
      let more = ap length adds.steps ∙ length_push old.steps one in omega (arith, more),
      subst (λ xs. slice_get xs (length old.steps) ≡ Some one) (sym adds.steps) (at-end old.steps one),
      makes,
    )

    module _ (old new : Planned) (so : IsRightSoFar S s order at old) (made : HasMade S s order at old) where
      abbrev IsNext : Type 0
      IsNext = IsRightSoFar S s order (at + 1) new × HasMade S s order (at + 1) new

      module _ (own : is_of S.vars (defined_kinds (section_of s)) k ≡ true) where
        within : k < length S.vars
        within = of-within S.vars (defined_kinds (section_of s)) k own

        -- after a step that makes the variable
        variable-made : (one : Step) (mid : Planned) → IsRightSoFar S s order at mid → HasMade S s order at mid → Makes one (at_now k)
            → item_of (length S.vars) one ≡ Some k
            → CanFollow S s mid.steps (length mid.steps) one → Adds one mid new → IsNext
        variable-made one mid mid_so mid_made makes its can adds = (
          next-step one mid new mid_so its can adds,
          made-next new (still-made mid new (grown one mid new adds.steps) mid_made)
              (λ x is other. subst (λ y. IsMade new.steps (length new.steps) (at_now y)) is (makes-it one (at_now k) mid new adds makes))
              (λ m is other. absurd (omega (arith, within, is))),
        )

        -- after its entry, where the column stands
        entry-made : (table row : ℕ) (mid : Planned) → IsRowHome S.tables (section_of s) k table row → IsRightSoFar S s order at mid
            → HasMade S s order at mid
            → slice_get mid.columns table ≡ Some true → Adds (step.Entry k table row) mid new → IsNext
        entry-made table row mid home mid_so mid_made stands adds = variable-made (step.Entry k table row) mid mid_so mid_made refl refl
            (record {
              columns = home.columns;
              targets = home.targets;
              terms = home.terms;
              there = home.there;
              target = home.target;
              defined = own;
              found = let q = mid_so.stands table stands in (q.0, slice_get_within mid.steps q.0 (step.Column table) q.1, q.1);
              known = (known-entries L) S s order right at k here mid mid_made within table row home.columns home.targets home.terms home.there
                  home.target;
            }) adds

        home-made : (home : Home) → IsHome S.tables (section_of s) (length S.tables) k (Some home) → AddsHome k home old new → IsNext
        home-made (Whole table) home adds = variable-made (step.Cell k table) old so made refl refl (record {
          there = home.table;
          whole = home.whole;
          defined = own;
          known = (known-cells L) S s order right at k here old made within table home.table.table home.table.there home.table.is_for_it;
        }) adds
        home-made (Row table row) home (mid, column, adds) = ⊎_elim
            (λ stood. let same = same-planned old mid stood.1 in
            entry-made table row mid home (subst (IsRightSoFar S s order at) (sym same) so) (subst (HasMade S s order at) (sym same) made)
            (ap (λ xs. slice_get xs table) stood.1.columns ∙ stood.0) adds)
            (λ first. entry-made table row mid home
            (first-column at table old mid so first (record {
              columns = home.columns;
              targets = home.targets;
              terms = home.terms;
              there = home.there;
              known = (known-columns L) S s order right at k here old made within table row home.columns home.targets home.terms home.there
                  home.target;
              row = row;
              variable = k;
              target = home.target;
              defined = own;
            }))
            (still-made old mid (grown (step.Column table) old mid first.steps) made)
            (ap (λ xs. slice_get xs table) first.columns ∙ set-here old.columns table true
            (slice_get_within old.columns table false first.missed)) adds)
            column

      passed-over : Keeps old new → (is_of S.vars (defined_kinds (section_of s)) k ≡ true → ⊥)
          → ((m : ℕ) → k ≡ length S.vars + m → is_memory_of S.memories s m ≡ true → ⊥) → IsNext
      passed-over keeps no_variable no_memory = let same = same-planned old new keeps in (
        later new (subst (IsRightSoFar S s order at) (sym same) so),
        made-next new (subst (HasMade S s order at) (sym same) made)
            (λ x is own. absurd (no_variable (subst (λ y. is_of S.vars (defined_kinds (section_of s)) y ≡ true) (sym is) own)))
            (λ m is own. absurd (no_memory m is own)),
      )

      memory-made : (m : ℕ) → k ≡ length S.vars + m → is_memory_of S.memories s m ≡ true → Adds (step.Memory m) old new → IsNext
      memory-made m is own adds = (
        next-step (step.Memory m) old new so (ap Some (sym is)) (record
            { there = own; known = (known-memory L) S s order right at k here old made m is own }) adds,
        made-next new (still-made old new (grown (step.Memory m) old new adds.steps) made)
            (λ x same other. let within = of-within S.vars (defined_kinds (section_of s)) x other in
            absurd (omega (arith, within, same, is)))
            (λ j same other. let one : m ≡ j = omega (arith, is, same) in
            subst (λ i. IsMade new.steps (length new.steps) (of_memory i)) one (makes-it (step.Memory m) (of_memory m) old new adds refl)),
      )

      pub item-made : AddsItem S s k old new → IsNext
      item-made adds = ⊎_elim
          (λ less. let variable = adds.variable less in ⊎_elim
          (λ own. let home = variable.defined own in home-made own home.0 home.1 home.2)
          (λ other. passed-over (variable.other other) (λ own. true≢false (sym own ∙ other)) (λ m is own. omega (arith, less, is)))
          (cases_Bool (is_of S.vars (defined_kinds (section_of s)) k)))
          (λ past. let is : k ≡ length S.vars + (k - length S.vars) = omega (arith, past) in let memory =
          adds.memory (k - length S.vars) is in ⊎_elim
          (λ own. memory-made (k - length S.vars) is own (memory.of_side own))
          (λ other. passed-over (memory.other other)
          (λ own. let within = of-within S.vars (defined_kinds (section_of s)) k own in omega (arith, within, past))
          (λ m same own. let one : m ≡ k - length S.vars = omega (arith, same) in
          true≢false (sym own ∙ ap (is_memory_of S.memories s) one ∙ other)))
          (cases_Bool (is_memory_of S.memories s (k - length S.vars))))
          (cases_lt k (length S.vars))

  -- before the first item
  pub none-made : (planned : Planned) → planned.steps ≡ [] → planned.columns ≡ replicate (length S.tables) false
      → IsSoFar S s order 0 planned
  none-made planned no_steps no_columns = (
    record {
      long = ap length no_columns ∙ length-replicate (length S.tables) false;
      follows = λ n one there. absurd (none-at n one (subst (λ xs. slice_get xs n ≡ Some one) no_steps there));
      once = λ one p q there again. absurd (none-at p one (subst (λ xs. slice_get xs p ≡ Some one) no_steps there));
      of_item = λ n k one there its. absurd (none-at n one (subst (λ xs. slice_get xs n ≡ Some one) no_steps there));
      stands = λ t is. absurd (true≢false (sym (of-replicate (length S.tables) t true false
          (subst (λ xs. slice_get xs t ≡ Some true) no_columns is))));
      said = λ q t there. absurd (none-at q (step.Column t) (subst (λ xs. slice_get xs q ≡ Some (step.Column t)) no_steps there));
    },
    record {
      variables = λ p x below there own. absurd (omega (arith, below));
      memories = λ p k m below there is own. absurd (omega (arith, below));
    },
  )

  -- after the last
  pub all-made : IsScanOrder (length S.vars) S.memories S.tables order → (planned : Planned) → IsSoFar S s order (length order) planned
      → IsPlan S s planned.steps
  all-made right planned so = record {
    follows = so.0.follows;
    once = so.0.once;
    variables = λ x own.
        let within = of-within S.vars (defined_kinds (section_of s)) x own in
        let p = right.each x (omega (arith, within)) in
        so.1.variables p.0 x (slice_get_within order p.0 x p.1) p.1 own;
    memories = λ m own.
        let there = memory-within S.memories s m own in
        let within = slice_get_within S.memories m there.0 there.1 in
        let p = right.each (length S.vars + m) (omega (arith, within)) in
        so.1.memories p.0 (length S.vars + m) m (slice_get_within order p.0 (length S.vars + m) p.1) p.1 refl own;
  }
