-- Steps and how they are taken back.
use Rattle.std.proofs.Common.{◌≡◌, ◌∙◌, sym, ap, refl, ℕ, ◌<◌, ℤ, Bool, true, false, arith}
use Rattle.std.proofs.Common.{List, [], ◌∷◌, ◌++◌, length, reverse, Option, Some, None, slice_get, slice_set}
use Rattle.std.specs.List.{list_all}
use Rattle.std.proofs.lemmas.List.{reverse-append, set-set, set-get_or}
use Rattle.std.proofs.lemmas.List.Folds.{list_all-append}
use Rattle.std.proofs.lemmas.Option.{get_or_from_slice_get}
use Rattle.ft_linear.specs.meaning.Part.{PartView}
use Rattle.ft_cert.specs.declared.descent.Undo.{Undo}
use Rattle.ft_cert.specs.declared.descent.Undo.TheVariants.{Narrowed, Half, Decided, Case}
use Rattle.ft_cert.specs.declared.step.Step.{Step}
use Rattle.ft_cert.specs.meaning.Parts.{cut_to, decided_to}
use Rattle.ft_cert.specs.walk.Steps.{is_undo, parts_by, parts_from, second_of, taken_back, waiting_of}
use Rattle.ft_cert.specs.walk.Waiting.{first_of, rest_of}

pub reverse-last : {X : Type 0} (xs : List X) (x : X) → reverse (xs ++ x ∷ []) ≡ x ∷ reverse xs
reverse-last xs x = reverse-append xs (x ∷ [])

-- a part with one field changed
pub cut-is : (p q : PartView) (u : ℕ) (s : ℤ × ℤ) → q.spans ≡ slice_set p.spans u s → q.decided ≡ p.decided → q ≡ cut_to p u s
cut-is p q u s e d = λ i. record { spans = e i; decided = d i }

pub decided-is :
    (p q : PartView) (a : ℕ) (v : Option Bool) → q.spans ≡ p.spans → q.decided ≡ slice_set p.decided a v → q ≡ decided_to p a v
decided-is p q a v e d = λ i. record { spans = e i; decided = d i }

cut-cut : (p : PartView) (u : ℕ) (s t : ℤ × ℤ) → cut_to (cut_to p u s) u t ≡ cut_to p u t
cut-cut p u s t = λ i. record { spans = set-set p.spans u s t i; decided = p.decided }

decided-again : (p : PartView) (a : ℕ) (v w : Option Bool) → decided_to (decided_to p a v) a w ≡ decided_to p a w
decided-again p a v w = λ i. record { spans = p.spans; decided = set-set p.decided a v w i }

same-set : {X : Type 0} (xs : List X) (i : ℕ) (x : X) → slice_get xs i ≡ Some x → slice_set xs i x ≡ xs
same-set xs i x got = ap (slice_set xs i) (sym (get_or_from_slice_get xs i x x got)) ∙ set-get_or xs i x

cut-back : (p : PartView) (u : ℕ) (s t : ℤ × ℤ) → slice_get p.spans u ≡ Some t → cut_to (cut_to p u s) u t ≡ p
cut-back p u s t got = cut-cut p u s t ∙ (λ i. record { spans = same-set p.spans u t got i; decided = p.decided })

decided-back : (p : PartView) (a : ℕ) (v w : Option Bool) → slice_get p.decided a ≡ Some w → decided_to (decided_to p a v) a w ≡ p
decided-back p a v w got = decided-again p a v w ∙ (λ i. record { spans = p.spans; decided = same-set p.decided a w got i })

waiting-push : (q : PartView) (items : List Undo) (e : Undo)
    → waiting_of q (reverse (items ++ e ∷ [])) ≡ second_of q e ++ waiting_of (taken_back q e) (reverse items)
waiting-push q items e = ap (waiting_of q) (reverse-last items e)

-- going on to the other part of a split
module _ (p q : PartView) (items rest : List Undo) where
  pub back-half : (u : ℕ) (s t : ℤ × ℤ) → rest ≡ items ++ Narrowed u s ∷ [] → q.spans ≡ slice_set p.spans u t → q.decided ≡ p.decided
      → waiting_of p (Half u s t ∷ reverse items) ≡ q ∷ waiting_of q (reverse rest)
  back-half u s t left e d =
      ap (λ (r : PartView). cut_to p u t ∷ waiting_of r (reverse items)) (sym (cut-cut p u t s))
      ∙ ap (λ (ws : List PartView). cut_to p u t ∷ ws) (sym (waiting-push (cut_to p u t) items (Narrowed u s)))
      ∙ sym (λ i. cut-is p q u t e d i ∷ waiting_of (cut-is p q u t e d i) (reverse (left i)))

  pub back-case : (a : ℕ) → rest ≡ items ++ Decided a ∷ [] → q.spans ≡ p.spans → q.decided ≡ slice_set p.decided a (Some false)
      → waiting_of p (Case a ∷ reverse items) ≡ q ∷ waiting_of q (reverse rest)
  back-case a left e d =
      ap (λ (r : PartView). decided_to p a (Some false) ∷ waiting_of r (reverse items)) (sym (decided-again p a (Some false) None))
      ∙ ap (λ (ws : List PartView). decided_to p a (Some false) ∷ ws) (sym (waiting-push (decided_to p a (Some false)) items (Decided a)))
      ∙ sym (λ i. decided-is p q a (Some false) e d i ∷ waiting_of (decided-is p q a (Some false) e d i) (reverse (left i)))

  pub step-cut : (u : ℕ) (whole low high : ℤ × ℤ) → slice_get p.spans u ≡ Some whole
      → rest ≡ items ++ Half u whole high ∷ [] → q.spans ≡ slice_set p.spans u low → q.decided ≡ p.decided
      → (q ∷ waiting_of q (reverse rest)) ≡ (cut_to p u low ∷ cut_to p u high ∷ waiting_of p (reverse items))
  step-cut u whole low high got pushed e d =
      (λ i. cut-is p q u low e d i ∷ waiting_of (cut-is p q u low e d i) (reverse (pushed i)))
      ∙ ap (λ (ws : List PartView). cut_to p u low ∷ ws) (waiting-push (cut_to p u low) items (Half u whole high))
      ∙ (λ i. cut_to p u low ∷ cut-cut p u low high i ∷ waiting_of (cut-back p u low whole got i) (reverse items))

  pub step-decide : (a : ℕ) → slice_get p.decided a ≡ Some None → rest ≡ items ++ Case a ∷ []
      → q.spans ≡ p.spans → q.decided ≡ slice_set p.decided a (Some true)
      → (q ∷ waiting_of q (reverse rest)) ≡ (decided_to p a (Some true) ∷ decided_to p a (Some false) ∷ waiting_of p (reverse items))
  step-decide a got pushed e d =
      (λ i. decided-is p q a (Some true) e d i ∷ waiting_of (decided-is p q a (Some true) e d i) (reverse (pushed i)))
      ∙ ap (λ (ws : List PartView). decided_to p a (Some true) ∷ ws) (waiting-push (decided_to p a (Some true)) items (Case a))
      ∙ (λ i. decided_to p a (Some true) ∷ decided-again p a (Some true) (Some false) i
      ∷ waiting_of (decided-back p a (Some true) None got i) (reverse items))

  pub step-tighten : (u : ℕ) (whole low : ℤ × ℤ) → slice_get p.spans u ≡ Some whole
      → rest ≡ items ++ Narrowed u whole ∷ [] → q.spans ≡ slice_set p.spans u low → q.decided ≡ p.decided
      → (q ∷ waiting_of q (reverse rest)) ≡ (cut_to p u low ∷ waiting_of p (reverse items))
  step-tighten u whole low got pushed e d =
      (λ i. cut-is p q u low e d i ∷ waiting_of (cut-is p q u low e d i) (reverse (pushed i)))
      ∙ ap (λ (ws : List PartView). cut_to p u low ∷ ws) (waiting-push (cut_to p u low) items (Narrowed u whole))
      ∙ (λ i. cut_to p u low ∷ waiting_of (cut-back p u low whole got i) (reverse items))

-- steps that are of what is there, with one more
pub valid-push : (n m k l : ℕ) (xs ys : List Undo) (e : Undo) → k ≡ n → l ≡ m → ys ≡ xs ++ e ∷ []
    → list_all (is_undo n m) xs ≡ true → is_undo n m e ≡ true
    → list_all (is_undo k l) ys ≡ true
valid-push n m k l xs ys e first second pushed all one =
    (λ i. list_all (is_undo (first i) (second i)) (pushed i)) ∙ list_all-append (is_undo n m) xs (e ∷ []) ∙ rw (all, one) refl

-- where parts wait the descent hasn't ended
pub not-ended : (ended : Bool) (p : PartView) (ws parts : List PartView) → parts ≡ parts_from ended p ws → 0 < length parts
    → (ended ≡ false) × (first_of parts ≡ p) × (rest_of parts ≡ ws)
not-ended true p ws parts e some = absurd (none parts e some)
  where
    none : (parts : List PartView) → parts ≡ [] → 0 < length parts → ⊥
    none [] e some = omega (arith, some)
    none (p ∷ ps) e some = cc e
not-ended false p ws parts e some = (refl, ap first_of e, ap rest_of e)

pub take-parts : (ended : Bool) (p q : PartView) (ws vs parts : List PartView) (taken step : Step)
    → parts_from ended p ws ≡ parts → 0 < length parts → taken ≡ step
    → (q ∷ vs) ≡ parts_by p step ++ ws → parts_from ended q vs ≡ parts_by (first_of parts) taken ++ rest_of parts
take-parts ended p q ws vs parts taken step view some is e =
    let (lasts, first, rest) = not-ended ended p ws parts (sym view) some in
    (λ i. parts_from (lasts i) q vs) ∙ e ∙ sym (λ i. parts_by (first i) (is i) ++ rest i)

pub first-is : (ended : Bool) (p : PartView) (ws parts : List PartView)
    → parts_from ended p ws ≡ parts → 0 < length parts → first_of parts ≡ p
first-is ended p ws parts view some = (not-ended ended p ws parts (sym view) some).1
