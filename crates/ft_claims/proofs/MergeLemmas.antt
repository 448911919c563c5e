-- Two rising lists of factors are added by merging them.
use Rattle.std.proofs.Common.{◌≡◌, ◌≢◌, ◌∙◌, sym, ap, subst, refl, ℕ, suc, ◌+◌, ◌≤◌, ◌<◌, ℤ, pos, ◌+ℤ◌, Bool, true, false, List, [], ◌∷◌}
use Rattle.std.proofs.Common.{◌++◌, arith, ⊎_elim, length, get_or, drop, take, ◌-◌, if◌then◌else◌}
use Rattle.std.specs.Prelude.{nat_lt, nat_eq}
use Rattle.std.specs.Ordering.{int_eq}
use Rattle.std.proofs.lemmas.Bool.{cases_Bool, cond-true, cond-false}
use Rattle.std.proofs.lemmas.Bool.Decides.{Decides-int_eq, Decides-eqb}
use Rattle.std.proofs.lemmas.List.{append-nil}
use Rattle.std.proofs.Math.Seq.{drop-cons, take-length}
use Rattle.std.proofs.lemmas.List.{length-drop}
use Rattle.std.proofs.Math.ListN.{drop_of_length-le}
use Rattle.ft_linear.specs.meaning.Form.{Factor}
use Rattle.ft_claims.specs.meaning.Forms.{Rises, with_front, with_factor, with_factors}
use Rattle.ft_claims.proofs.GatherLemmas.{append-assoc}
use Rattle.ft_claims.proofs.RisingLemmas.{lower, factor-rises}

not_less : (u k : ℕ) → k ≤ u → nat_lt u k ≡ false
not_less u k l = grind (arith, l)

is_less : (u k : ℕ) → u < k → nat_lt u k ≡ true
is_less u k l = grind (arith, l)

other : (u k : ℕ) → k < u → nat_eq u k ≡ false
other u k l = grind (arith, l)

pub some : (z : ℤ) → z ≢ pos 0 → int_eq z (pos 0) ≡ false
some z h = ⊎_elim (λ e. absurd (h ((Decides-int_eq z (pos 0)).0 e))) (λ e. e) (cases_Bool (int_eq z (pos 0)))

-- a factor before all others stands first
comes-first : (u : ℕ) (z : ℤ) (fs : List Factor) → z ≢ pos 0 → Rises (u + 1) fs → with_factor u z fs ≡ (u, z) ∷ fs
comes-first u z [] h r = cond-false (int_eq z (pos 0)) [] ((u, z) ∷ []) (some z h)
comes-first u z (g ∷ gs) h r =
    cond-true (nat_lt u g.0) _ _ (is_less u g.0 (let l = r.0 in omega (arith, l)))
    ∙ cond-false (int_eq z (pos 0)) (g ∷ gs) ((u, z) ∷ g ∷ gs) (some z h)

-- a factor after the first passes it
passes-one : (u : ℕ) (z : ℤ) (g : Factor) (gs : List Factor) → g.0 < u → with_factor u z (g ∷ gs) ≡ g ∷ with_factor u z gs
passes-one u z g gs l =
    cond-false (nat_lt u g.0) (with_front u z (g ∷ gs)) _ (not_less u g.0 (omega (arith, l)))
    ∙ cond-false (nat_eq u g.0) (with_front u (z +ℤ g.1) gs) (g ∷ with_factor u z gs) (other u g.0 l)

pub passes : (g : Factor) (gs fs : List Factor) → Rises (g.0 + 1) fs → with_factors fs (g ∷ gs) ≡ g ∷ with_factors fs gs
passes g gs [] r = refl
passes g gs (f ∷ fs) r =
    let l = r.0 in
    ap (with_factor f.0 f.1) (passes g gs fs (lower (f.0 + 1) (g.0 + 1) fs (omega (arith, l)) r.2))
    ∙ passes-one f.0 f.1 g (with_factors fs gs) (omega (arith, l))

rise-on : (at : ℕ) (fs gs : List Factor) → Rises at fs → Rises at gs → Rises at (with_factors fs gs)
rise-on at [] gs h k = k
rise-on at (f ∷ fs) gs h k =
    let l = h.0 in
    factor-rises at f.0 f.1 (with_factors fs gs) l (rise-on at fs gs (lower (f.0 + 1) at fs (omega (arith, l)) h.2) k)

pub nothing-more : (at : ℕ) (fs : List Factor) → Rises at fs → with_factors fs [] ≡ fs
nothing-more at [] r = refl
nothing-more at (f ∷ fs) r = ap (with_factor f.0 f.1) (nothing-more (f.0 + 1) fs r.2) ∙ comes-first f.0 f.1 fs r.1 r.2

left-first : (f g : Factor) (fs gs : List Factor) → Rises 0 (f ∷ fs) → Rises 0 (g ∷ gs) → f.0 < g.0 → with_factors (f ∷ fs) (g ∷ gs) ≡ f
    ∷ with_factors fs (g ∷ gs)
left-first f g fs gs r s l =
    comes-first f.0 f.1 (with_factors fs (g ∷ gs)) r.1 (rise-on (f.0 + 1) fs (g ∷ gs) r.2 (omega (arith, l), s.1, s.2))

right-first : (f g : Factor) (fs gs : List Factor) → Rises 0 (f ∷ fs) → g.0 < f.0 → with_factors (f ∷ fs) (g ∷ gs) ≡ g
    ∷ with_factors (f ∷ fs) gs
right-first f g fs gs r l = passes g gs (f ∷ fs) (omega (arith, l), r.1, r.2)

both-first : (f g : Factor) (fs gs : List Factor) → Rises 0 (f ∷ fs) → f.0 ≡ g.0
    → with_factors (f ∷ fs) (g ∷ gs) ≡ with_front f.0 (f.1 +ℤ g.1) [] ++ with_factors fs gs
both-first f g fs gs r e =
    ap (with_factor f.0 f.1) (passes g gs fs (subst (λ k. Rises (k + 1) fs) e r.2))
    ∙ cond-false (nat_lt f.0 g.0) (with_front f.0 f.1 (g ∷ with_factors fs gs)) _ (not_less f.0 g.0 (omega (arith, e)))
    ∙ cond-true (nat_eq f.0 g.0) (with_front f.0 (f.1 +ℤ g.1) (with_factors fs gs)) (g ∷ with_factor f.0 f.1 (with_factors fs gs))
    ((Decides-eqb f.0 g.0).1 e)
    ∙ apart (int_eq (f.1 +ℤ g.1) (pos 0)) (with_factors fs gs)
  where
    apart : (b : Bool) (rest : List Factor) → (if b then rest else (f.0, f.1 +ℤ g.1) ∷ rest) ≡ (if b then [] else (f.0, f.1 +ℤ g.1) ∷ [])
        ++ rest
    apart true rest = refl
    apart false rest = refl

-- what is merged so far, and what is left of both lists
pub record IsMerged (fs gs done : List Factor) (i j : ℕ) : Type 0 where
  pub whole : done ++ with_factors (drop i fs) (drop j gs) ≡ with_factors fs gs
  pub left : Rises 0 (drop i fs)
  pub right : Rises 0 (drop j gs)

tail-rises : (f : Factor) (fs : List Factor) → Rises 0 (f ∷ fs) → Rises 0 fs
tail-rises f fs r = lower (f.0 + 1) 0 fs (omega arith) r.2

module _ (fs gs done : List Factor) (i j : ℕ) (d : Factor) (in_left : i < length fs) (in_right : j < length gs)
    (m : IsMerged fs gs done i j) where
  here : drop i fs ≡ get_or fs i d ∷ drop (suc i) fs
  here = drop-cons fs i d in_left

  there : drop j gs ≡ get_or gs j d ∷ drop (suc j) gs
  there = drop-cons gs j d in_right

  left_rises : Rises 0 (get_or fs i d ∷ drop (suc i) fs)
  left_rises = subst (Rises 0) here m.left

  right_rises : Rises 0 (get_or gs j d ∷ drop (suc j) gs)
  right_rises = subst (Rises 0) there m.right

  parts : done ++ with_factors (get_or fs i d ∷ drop (suc i) fs) (get_or gs j d ∷ drop (suc j) gs) ≡ with_factors fs gs
  parts = ap (λ r. done ++ r) (sym (λ k. with_factors (here k) (there k))) ∙ m.whole

  next : (k : ℕ) → k + 1 ≡ suc k
  next k = omega arith

  pub left-turn : (get_or fs i d).0 < (get_or gs j d).0 → (new : List Factor) → new ≡ done ++ get_or fs i d ∷ []
      → IsMerged fs gs new (i + 1) j
  left-turn l new e = record {
    whole = ap (λ k. new ++ with_factors (drop k fs) (drop j gs)) (next i) ∙ ap (λ n. n ++ with_factors (drop (suc i) fs) (drop j gs)) e
        ∙ append-assoc done (get_or fs i d ∷ []) (with_factors (drop (suc i) fs) (drop j gs))
        ∙ ap (λ r. done ++ get_or fs i d ∷ with_factors (drop (suc i) fs) r) there
        ∙ ap (λ r. done ++ r) (sym (left-first (get_or fs i d) (get_or gs j d) (drop (suc i) fs) (drop (suc j) gs) left_rises right_rises
        l)) ∙ parts;
    left = subst (λ k. Rises 0 (drop k fs)) (sym (next i)) (tail-rises (get_or fs i d) (drop (suc i) fs) left_rises);
    right = m.right;
  }

  pub right-turn : (get_or gs j d).0 < (get_or fs i d).0 → (new : List Factor) → new ≡ done ++ get_or gs j d ∷ []
      → IsMerged fs gs new i (j + 1)
  right-turn l new e = record {
    whole = ap (λ k. new ++ with_factors (drop i fs) (drop k gs)) (next j) ∙ ap (λ n. n ++ with_factors (drop i fs) (drop (suc j) gs)) e
        ∙ append-assoc done (get_or gs j d ∷ []) (with_factors (drop i fs) (drop (suc j) gs))
        ∙ ap (λ r. done ++ get_or gs j d ∷ with_factors r (drop (suc j) gs)) here
        ∙ ap (λ r. done ++ r) (sym (right-first (get_or fs i d) (get_or gs j d) (drop (suc i) fs) (drop (suc j) gs) left_rises l)) ∙ parts;
    left = m.left;
    right = subst (λ k. Rises 0 (drop k gs)) (sym (next j)) (tail-rises (get_or gs j d) (drop (suc j) gs) right_rises);
  }

  pub both-turn : (get_or fs i d).0 ≡ (get_or gs j d).0 → (new : List Factor)
      → new ≡ done ++ with_front (get_or fs i d).0 ((get_or fs i d).1 +ℤ (get_or gs j d).1) [] → IsMerged fs gs new (i + 1) (j + 1)
  both-turn same new e = record {
    whole = (λ k. new ++ with_factors (drop (next i k) fs) (drop (next j k) gs))
        ∙ ap (λ n. n ++ with_factors (drop (suc i) fs) (drop (suc j) gs)) e
        ∙ append-assoc done (with_front (get_or fs i d).0 ((get_or fs i d).1 +ℤ (get_or gs j d).1) [])
        (with_factors (drop (suc i) fs) (drop (suc j) gs))
        ∙ ap (λ r. done ++ r) (sym (both-first (get_or fs i d) (get_or gs j d) (drop (suc i) fs) (drop (suc j) gs) left_rises same))
        ∙ parts;
    left = subst (λ k. Rises 0 (drop k fs)) (sym (next i)) (tail-rises (get_or fs i d) (drop (suc i) fs) left_rises);
    right = subst (λ k. Rises 0 (drop k gs)) (sym (next j)) (tail-rises (get_or gs j d) (drop (suc j) gs) right_rises);
  }

pub ends-left : (fs gs done : List Factor) (i j : ℕ) → IsMerged fs gs done i j → length fs ≤ i → (done ++ drop i fs) ++ drop j gs
    ≡ with_factors fs gs
ends-left fs gs done i j m past =
    let none : drop i fs ≡ [] = drop_of_length-le fs past in
    ap (λ r. (done ++ r) ++ drop j gs) none ∙ ap (λ r. r ++ drop j gs) (append-nil done)
    ∙ sym (ap (λ r. done ++ with_factors r (drop j gs)) none) ∙ m.whole

pub ends-right : (fs gs done : List Factor) (i j : ℕ) → IsMerged fs gs done i j → length gs ≤ j → (done ++ drop i fs) ++ drop j gs
    ≡ with_factors fs gs
ends-right fs gs done i j m past =
    let none : drop j gs ≡ [] = drop_of_length-le gs past in
    ap (λ r. (done ++ drop i fs) ++ r) none ∙ append-nil (done ++ drop i fs) ∙ ap (λ r. done ++ r) (sym (nothing-more 0 (drop i fs) m.left))
    ∙ sym (ap (λ r. done ++ with_factors (drop i fs) r) none) ∙ m.whole

pub rest-whole : (i : ℕ) (fs : List Factor) → take (length fs - i) (drop i fs) ≡ drop i fs
rest-whole i fs = ap (λ n. take n (drop i fs)) (sym (length-drop i fs)) ∙ take-length (drop i fs)
