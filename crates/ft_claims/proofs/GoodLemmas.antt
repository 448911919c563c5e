-- The parts of a checked set have names of the scans that they are about, and positive divisors.
use Rattle.std.proofs.Common.{◌≡◌, ◌∙◌, sym, ap, subst, refl, ℕ, ◌+◌, ◌<◌, ◌≤◌, ℤ, pos, negsuc, Bool, true, false, ◌&&◌, cond, List, []}
use Rattle.std.proofs.Common.{◌∷◌, ◌++◌, length, Option, Some, None, arith, true≢false}
use Rattle.std.specs.Prelude.{int_le}
use Rattle.std.specs.List.{Contains, list_all}
use Rattle.std.proofs.lemmas.Bool.{and_parts, and_from, lt-ltb}
use Rattle.std.proofs.lemmas.List.Folds.{list_all-map}
use Rattle.std.proofs.lemmas.List.Elements.{Contains-append_left, Contains-append_right}
use Rattle.ft_core.specs.declared.tables.Tables.{Tables}
use Rattle.ft_core.specs.declared.tables.Memory as tables
use Rattle.ft_core.specs.declared.tables.Memory.TheVariants.{Held, Hyst}
use Rattle.ft_core.specs.declared.term.Rel.{Rel}
use Rattle.ft_core.specs.declared.term.Rel.TheVariants as rel
use Rattle.ft_core.specs.declared.term.Term.{Term}
use Rattle.ft_core.specs.declared.term.Term.TheOpen as tl
use Rattle.ft_core.specs.declared.term.Term.TheVariants.{rolls-Num, rolls-Now, rolls-Prev, rolls-Age, rolls-Neg, rolls-Add, rolls-Sub}
use Rattle.ft_core.specs.declared.term.Term.TheVariants.{rolls-Times, rolls-Div}
use Rattle.ft_core.specs.declared.term.Cond.{Cond}
use Rattle.ft_core.specs.declared.term.Cond.TheOpen as cl
use Rattle.ft_core.specs.declared.term.Cond.TheVariants.{rolls-Yes, rolls-No, rolls-Compare, rolls-Memory, rolls-Not, rolls-And, rolls-Or}
use Rattle.ft_core.specs.meaning.Reads.{Read, at_now, at_before, of_memory, of_age, term_reads, cond_reads}
use Rattle.ft_core.specs.checked.Size.{is_sized_term, is_sized}
use Rattle.ft_core.specs.laws.SizeEquations.{small-Neg, small-Add, small-Sub, small-Times, small-Div, sized-Compare, sized-Not, sized-And}
use Rattle.ft_core.specs.laws.SizeEquations.{sized-Or}
use Rattle.ft_core.specs.laws.Equations.{term_induction, cond_induction, reads-rolled, cond_reads-rolled}
use Rattle.ft_mean.specs.meaning.Reading.{init_of}
use Rattle.ft_claims.specs.declared.claim.Sym.{Sym}
use Rattle.ft_claims.specs.declared.claim.Sym.TheOpen as part
use Rattle.ft_claims.specs.declared.claim.Sym.TheVariants as out
use Rattle.ft_claims.specs.declared.claim.Claim.{Claim}
use Rattle.ft_claims.specs.declared.claim.Claim.TheOpen as layer
use Rattle.ft_claims.specs.declared.claim.Claim.TheVariants as claim
use Rattle.ft_claims.specs.laws.GoodLaws.{IsThere}
use Rattle.ft_claims.specs.meaning.Claims.{equal, compared}
use Rattle.ft_claims.specs.meaning.Names.{Frame, width, memo, sym_of, claim_of, recalled, keeper}
use Rattle.ft_claims.specs.meaning.Parts.{joined, held_begins, held_goes_on, hyst_goes_on}
use Rattle.ft_claims.specs.meaning.Forms.{Gathered, gathered}
use Rattle.ft_claims.specs.meaning.Formulas.{Collected, collected}
use Rattle.ft_claims.proofs.FormulaLemmas.{collected-rolled}
use Rattle.ft_claims.proofs.GatherLemmas.{rolled}
use Rattle.ft_claims.proofs.ReadLemmas.{sym-rolled, claim-rolled}

module _ (base : ℕ) where
  abbrev pub SymGood : Sym → Type 0
  SymGood e = (gathered base e).good ≡ true

  abbrev pub ClaimGood : Claim → Type 0
  ClaimGood c = (collected base c).good ≡ true

  pub num-good : (n : ℤ) → SymGood (out.Num n)
  num-good n = ap (λ (g : Gathered). g.good) (rolled base _ (part.Num n) (out.rolls-Num n))

  pub slot-good : (x : ℕ) → x < base → SymGood (out.Slot x)
  slot-good x l = ap (λ (g : Gathered). g.good) (rolled base _ (part.Slot x) (out.rolls-Slot x)) ∙ lt-ltb x base l

  neg-good : (a : Sym) → SymGood a → SymGood (out.Neg a)
  neg-good a h = ap (λ (g : Gathered). g.good) (rolled base _ (part.Neg a) (out.rolls-Neg a)) ∙ h

  add-good : (a b : Sym) → SymGood a → SymGood b → SymGood (out.Add a b)
  add-good a b h k = ap (λ (g : Gathered). g.good) (rolled base _ (part.Add a b) (out.rolls-Add a b)) ∙ and_from _ _ h k

  sub-good : (a b : Sym) → SymGood a → SymGood b → SymGood (out.Sub a b)
  sub-good a b h k = ap (λ (g : Gathered). g.good) (rolled base _ (part.Sub a b) (out.rolls-Sub a b)) ∙ and_from _ _ h k

  times-good : (c : ℤ) (a : Sym) → SymGood a → SymGood (out.Times c a)
  times-good c a h = ap (λ (g : Gathered). g.good) (rolled base _ (part.Times c a) (out.rolls-Times c a)) ∙ h

  div-good : (a : Sym) (k : ℤ) → SymGood a → int_le (pos 1) k ≡ true → SymGood (out.Div a k)
  div-good a k h up = ap (λ (g : Gathered). g.good) (rolled base _ (part.Div a k) (out.rolls-Div a k)) ∙ and_from _ _ h up

  pub le-good : (a b : Sym) → SymGood a → SymGood b → ClaimGood (claim.Le a b)
  le-good a b h k = ap (λ (g : Collected). g.good) (collected-rolled base _ (layer.Le a b) (claim.rolls-Le a b)) ∙ and_from _ _ h k

  pub lt-good : (a b : Sym) → SymGood a → SymGood b → ClaimGood (claim.Lt a b)
  lt-good a b h k = ap (λ (g : Collected). g.good) (collected-rolled base _ (layer.Lt a b) (claim.rolls-Lt a b)) ∙ and_from _ _ h k

  pub not-good : (c : Claim) → ClaimGood c → ClaimGood (claim.Not c)
  not-good c h = ap (λ (g : Collected). g.good) (collected-rolled base _ (layer.Not c) (claim.rolls-Not c)) ∙ h

  pub and-good : (cs : List Claim) → list_all (λ c. (collected base c).good) cs ≡ true → ClaimGood (claim.And cs)
  and-good cs h = ap (λ (g : Collected). g.good) (collected-rolled base _ (layer.And cs) (claim.rolls-And cs))
      ∙ list_all-map (λ (g : Collected). g.good) (collected base) cs ∙ h

  pub or-good : (cs : List Claim) → list_all (λ c. (collected base c).good) cs ≡ true → ClaimGood (claim.Or cs)
  or-good cs h = ap (λ (g : Collected). g.good) (collected-rolled base _ (layer.Or cs) (claim.rolls-Or cs))
      ∙ list_all-map (λ (g : Collected). g.good) (collected base) cs ∙ h

  pub two-good : (a b : Claim) → ClaimGood a → ClaimGood b → list_all (λ c. (collected base c).good) (a ∷ b ∷ []) ≡ true
  two-good a b h k = and_from _ _ h (and_from _ _ k refl)

  pub equal-good : (a b : Sym) → SymGood a → SymGood b → ClaimGood (equal a b)
  equal-good a b h k = and-good (claim.Le a b ∷ claim.Not (claim.Lt a b) ∷ [])
      (two-good _ _ (le-good a b h k) (not-good _ (lt-good a b h k)))

  compared-good : (r : Rel) (a b : Sym) → SymGood a → SymGood b → ClaimGood (compared r a b)
  compared-good rel.Eq a b h k = equal-good a b h k
  compared-good rel.Ne a b h k = not-good _ (equal-good a b h k)
  compared-good rel.Lt a b h k = lt-good a b h k
  compared-good rel.Le a b h k = le-good a b h k
  compared-good rel.Gt a b h k = not-good _ (le-good a b h k)
  compared-good rel.Ge a b h k = not-good _ (lt-good a b h k)

  recalled-good : (o : Option tables.Memory) (z : Sym) → SymGood z → ClaimGood (recalled o z)
  recalled-good None z h = equal-good z (out.Num (pos 1)) h (num-good (pos 1))
  recalled-good (Some (Held name side c hold)) z h = not-good _ (lt-good z (out.Num hold) h (num-good hold))
  recalled-good (Some (Hyst name side e lo hi start)) z h = equal-good z (out.Num (pos 1)) h (num-good (pos 1))

  pub joined-good : (cs : List Claim) → list_all (λ c. (collected base c).good) cs ≡ true → ClaimGood (joined cs)
  joined-good [] h = and-good [] h
  joined-good (c ∷ []) h = (and_parts (collected base c).good true h).0
  joined-good (c ∷ d ∷ cs) h = and-good (c ∷ d ∷ cs) h

  pub held-good : (anew : Bool) (p d : Sym) (c : Claim) (before a : Sym) → SymGood p → SymGood d → ClaimGood c → SymGood before → SymGood a
      → ClaimGood (cond anew (held_begins c a) (held_goes_on p d c before a))
  held-good true p d c before a gp gd gc gb ga = or-good _ (two-good _ _
      (and-good _ (two-good _ _ (not-good c gc) (equal-good a (out.Num (negsuc 0)) ga (num-good (negsuc 0)))))
      (and-good _ (two-good _ _ gc (equal-good a (out.Num (pos 0)) ga (num-good (pos 0))))))
  held-good false p d c before a gp gd gc gb ga =
      let sum = add-good before p gb gp in
      let zero' = num-good (pos 0) in let none = num-good (negsuc 0) in
      or-good _ (and_from _ _ (and-good _ (two-good _ _ (not-good c gc) (equal-good a (out.Num (negsuc 0)) ga none)))
      (and_from _ _ (and-good _ (and_from _ _ gc (two-good _ _ (equal-good before (out.Num (negsuc 0)) gb none)
      (equal-good a (out.Num (pos 0)) ga zero'))))
      (two-good _ _
      (and-good _ (and_from _ _ gc (and_from _ _ (not-good _ (lt-good before (out.Num (pos 0)) gb zero'))
      (two-good _ _ (le-good (out.Add before p) d sum gd) (equal-good a (out.Add before p) ga sum)))))
      (and-good _ (and_from _ _ gc (and_from _ _ (not-good _ (lt-good before (out.Num (pos 0)) gb zero'))
      (two-good _ _ (not-good _ (le-good (out.Add before p) d sum gd)) (equal-good a d ga gd))))))))

  pub hyst-good : (lo hi e before l : Sym) → SymGood lo → SymGood hi → SymGood e → SymGood before → SymGood l
      → ClaimGood (hyst_goes_on lo hi e before l)
  hyst-good lo hi e before l glo ghi ge gb gl =
      let on = equal-good l (out.Num (pos 1)) gl (num-good (pos 1)) in
      let below = lt-good e hi ge ghi in
      or-good _ (and_from _ _ (and-good _ (two-good _ _ (not-good _ below) on))
      (two-good _ _ (and-good _ (and_from _ _ below (two-good _ _ (le-good e lo ge glo) (not-good _ on))))
      (and-good _ (and_from _ _ below (two-good _ _ (not-good _ (le-good e lo ge glo)) (equal-good l before gl gb))))))

carried : {xs ys : List Read} {r : Read} → ys ≡ xs → Contains xs r → Contains ys r
carried {r = r} e = subst (λ zs. Contains zs r) (sym e)

-- a part of what is read
first-of : (P : Read → Type 0) (xs ys zs : List Read) → zs ≡ xs ++ ys → ((r : Read) → Contains zs r → P r) → (r : Read) → Contains xs r
    → P r
first-of P xs ys zs e h r c = h r (carried e (Contains-append_left xs ys r c))

second-of : (P : Read → Type 0) (xs ys zs : List Read) → zs ≡ xs ++ ys → ((r : Read) → Contains zs r → P r) → (r : Read) → Contains ys r
    → P r
second-of P xs ys zs e h r c = h r (carried e (Contains-append_right xs ys r c))

same-of : (P : Read → Type 0) (xs zs : List Read) → zs ≡ xs → ((r : Read) → Contains zs r → P r) → (r : Read) → Contains xs r → P r
same-of P xs zs e h r c = h r (carried e c)

one-of : (P : Read → Type 0) (q : Read) (zs : List Read) → zs ≡ (q ∷ []) → ((r : Read) → Contains zs r → P r) → P q
one-of P q zs e h = h q (carried e (0, omega arith, refl))

module _ (S : Tables) (frame : Frame) (base : ℕ) (low : frame.this + width S ≤ base) (prior_low : frame.prior + width S ≤ base) where
  abbrev Reads : List Read → Type 0
  Reads zs = (r : Read) → Contains zs r → IsThere S r

  abbrev Goes : Term → Type 0
  Goes e = Reads (term_reads e) → is_sized_term S.vars S.memories e ≡ true → SymGood base (sym_of S frame e)

  past-good : (b : Bool) (z : ℤ) (x : ℕ) → x < length S.vars → SymGood base (cond b (out.Num z) (out.Slot (frame.prior + x)))
  past-good true z x l = num-good base z
  past-good false z x l = slot-good base (frame.prior + x) (omega (arith, l, prior_low))

  pub memo-good : (m : ℕ) → m < length S.memories → SymGood base (out.Slot (memo S frame.this m))
  memo-good m l = slot-good base (memo S frame.this m) (omega (arith, l, low))

  pub prior-good : (m : ℕ) → m < length S.memories → SymGood base (out.Slot (memo S frame.prior m))
  prior-good m l = slot-good base (memo S frame.prior m) (omega (arith, l, prior_low))

  pub term_good : (e : Term) → Goes e
  term_good = term_induction Goes (record {
    num = λ n h z. ap (λ s. (gathered base s).good) (sym-rolled S frame _ (tl.Num n) (rolls-Num n)) ∙ num-good base n;
    now = λ x h z. ap (λ s. (gathered base s).good) (sym-rolled S frame _ (tl.Now x) (rolls-Now x))
        ∙ slot-good base (frame.this + x) (let l = one-of (IsThere S) (at_now x) _ (reads-rolled _ (tl.Now x) (rolls-Now x)) h in
        omega (arith, l, low));
    prev = λ x h z. ap (λ s. (gathered base s).good) (sym-rolled S frame _ (tl.Prev x) (rolls-Prev x))
        ∙ past-good frame.anew (init_of S x) x (one-of (IsThere S) (at_before x) _ (reads-rolled _ (tl.Prev x) (rolls-Prev x)) h);
    aged = λ m h z. ap (λ s. (gathered base s).good) (sym-rolled S frame _ (tl.Age m) (rolls-Age m))
        ∙ (let it = one-of (IsThere S) (of_age m) _ (reads-rolled _ (tl.Age m) (rolls-Age m)) h in memo-good m it);
    negated = λ e p h z. ap (λ s. (gathered base s).good) (sym-rolled S frame _ (tl.Neg e) (rolls-Neg e))
        ∙ neg-good base (sym_of S frame e) (p (same-of (IsThere S) _ _ (reads-rolled _ (tl.Neg e) (rolls-Neg e)) h)
        (and_parts _ _ (sym (small-Neg S.vars S.memories e) ∙ z)).0);
    added = λ a b p q h z.
        let e = reads-rolled _ (tl.Add a b) (rolls-Add a b) in
        let small = and_parts (is_sized_term S.vars S.memories a) (is_sized_term S.vars S.memories b)
        (and_parts (is_sized_term S.vars S.memories a && is_sized_term S.vars S.memories b) _
        (sym (small-Add S.vars S.memories a b) ∙ z)).0 in
        ap (λ s. (gathered base s).good) (sym-rolled S frame _ (tl.Add a b) (rolls-Add a b))
        ∙ add-good base (sym_of S frame a) (sym_of S frame b) (p (first-of (IsThere S) _ _ _ e h) small.0)
        (q (second-of (IsThere S) _ _ _ e h) small.1);
    less = λ a b p q h z.
        let e = reads-rolled _ (tl.Sub a b) (rolls-Sub a b) in
        let small = and_parts (is_sized_term S.vars S.memories a) (is_sized_term S.vars S.memories b)
        (and_parts (is_sized_term S.vars S.memories a && is_sized_term S.vars S.memories b) _
        (sym (small-Sub S.vars S.memories a b) ∙ z)).0 in
        ap (λ s. (gathered base s).good) (sym-rolled S frame _ (tl.Sub a b) (rolls-Sub a b))
        ∙ sub-good base (sym_of S frame a) (sym_of S frame b) (p (first-of (IsThere S) _ _ _ e h) small.0)
        (q (second-of (IsThere S) _ _ _ e h) small.1);
    scaled = λ c e p h z. ap (λ s. (gathered base s).good) (sym-rolled S frame _ (tl.Times c e) (rolls-Times c e))
        ∙ times-good base c (sym_of S frame e) (p (same-of (IsThere S) _ _ (reads-rolled _ (tl.Times c e) (rolls-Times c e)) h)
        (and_parts (is_sized_term S.vars S.memories e) _ (sym (small-Times S.vars S.memories c e) ∙ z)).0);
    divided = λ e k p h z.
        let small = three (is_sized_term S.vars S.memories e) (int_le (pos 1) k) (int_le k (pos 1000000)) _
        (sym (small-Div S.vars S.memories e k) ∙ z) in
        ap (λ s. (gathered base s).good) (sym-rolled S frame _ (tl.Div e k) (rolls-Div e k))
        ∙ div-good base (sym_of S frame e) k (p (same-of (IsThere S) _ _ (reads-rolled _ (tl.Div e k) (rolls-Div e k)) h) small.0) small.1;
  })
    where
      three : (a b c d : Bool) → ((a && b && c) && d) ≡ true → (a ≡ true) × (b ≡ true)
      three true true c d h = (refl, refl)
      three true false c d h = absurd (true≢false (sym h))
      three false b c d h = absurd (true≢false (sym h))

  abbrev Claims : Cond → Type 0
  Claims c = Reads (cond_reads c) → is_sized S.vars S.memories c ≡ true → ClaimGood base (claim_of S frame c)

  pub cond_good : (c : Cond) → Claims c
  cond_good = cond_induction Claims (record {
    yes = λ h z. ap (λ s. (collected base s).good) (claim-rolled S frame _ cl.Yes rolls-Yes) ∙ and-good base [] refl;
    no = λ h z. ap (λ s. (collected base s).good) (claim-rolled S frame _ cl.No rolls-No) ∙ or-good base [] refl;
    compare = λ r a b h z.
        let e = cond_reads-rolled _ (cl.Compare r a b) (rolls-Compare r a b) in
        let small = and_parts (is_sized_term S.vars S.memories a) (is_sized_term S.vars S.memories b)
        (sym (sized-Compare S.vars S.memories r a b) ∙ z) in
        ap (λ s. (collected base s).good) (claim-rolled S frame _ (cl.Compare r a b) (rolls-Compare r a b))
        ∙ compared-good base r (sym_of S frame a) (sym_of S frame b) (term_good a (first-of (IsThere S) _ _ _ e h) small.0)
        (term_good b (second-of (IsThere S) _ _ _ e h) small.1);
    memory = λ m h z.
        let it = one-of (IsThere S) (of_memory m) _ (cond_reads-rolled _ (cl.Memory m) (rolls-Memory m)) h in
        ap (λ s. (collected base s).good) (claim-rolled S frame _ (cl.Memory m) (rolls-Memory m))
        ∙ recalled-good base (keeper S frame m) (out.Slot (memo S frame.this m)) (memo-good m it);
    negated = λ a p h z. ap (λ s. (collected base s).good) (claim-rolled S frame _ (cl.Not a) (rolls-Not a))
        ∙ not-good base (claim_of S frame a) (p (same-of (IsThere S) _ _ (cond_reads-rolled _ (cl.Not a) (rolls-Not a)) h)
        (sym (sized-Not S.vars S.memories a) ∙ z));
    both = λ a b p q h z.
        let e = cond_reads-rolled _ (cl.And a b) (rolls-And a b) in
        let small = and_parts (is_sized S.vars S.memories a) (is_sized S.vars S.memories b) (sym (sized-And S.vars S.memories a b) ∙ z) in
        ap (λ s. (collected base s).good) (claim-rolled S frame _ (cl.And a b) (rolls-And a b))
        ∙ and-good base _ (two-good base _ _ (p (first-of (IsThere S) _ _ _ e h) small.0) (q (second-of (IsThere S) _ _ _ e h) small.1));
    either = λ a b p q h z.
        let e = cond_reads-rolled _ (cl.Or a b) (rolls-Or a b) in
        let small = and_parts (is_sized S.vars S.memories a) (is_sized S.vars S.memories b) (sym (sized-Or S.vars S.memories a b) ∙ z) in
        ap (λ s. (collected base s).good) (claim-rolled S frame _ (cl.Or a b) (rolls-Or a b))
        ∙ or-good base _ (two-good base _ _ (p (first-of (IsThere S) _ _ _ e h) small.0) (q (second-of (IsThere S) _ _ _ e h) small.1));
  })
