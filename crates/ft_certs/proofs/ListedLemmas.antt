-- Lists with a mark before each item and LF after them all.
use Rattle.std.proofs.Common.{◌≡◌, ◌∙◌, sym, ap, subst, refl, ℕ, Bool, true, false, List, [], ◌∷◌, ◌++◌, append_assoc, append-nil, arith, ◌==◌, ◌||◌, ◌⊎◌, inl, inr, ⊎_elim}
use Rattle.std.specs.List.{All, flat_map}
use Rattle.std.proofs.lemmas.Bool.{eqb-true, true≢false}
use Rattle.std.proofs.lemmas.List.Elements.{All-cons, All-tail}
use Rattle.std.proofs.lemmas.List.Concat.{flat_map-append}
use Rattle.ft_certs.specs.meaning.Text.{end_line}
use Rattle.ft_certs.specs.building.Pieces.{Items, Listed, is_one_of}
use Rattle.ft_certs.specs.building.Stuck.{Stuck}
use Rattle.ft_certs.proofs.StuckLemmas.{head-same, stuck-first, stuck-second, tail-same}

abbrev pub ends_of : ℕ → List ℕ
ends_of mark = mark ∷ 10 ∷ []

-- one item stands there, whatever comes after it
abbrev pub AreFree : {A : Type 0} → (A → Type 0) → (A → List ℕ) → ℕ → Type 0
AreFree {A} can text mark = (x y : A) (e f : ℕ) (u v : List ℕ) → can x → can y → is_one_of (ends_of mark) e ≡ true → is_one_of (ends_of mark) f ≡ true
    → text x ++ e ∷ u ≡ text y ++ f ∷ v → (x ≡ y) × (e ≡ f) × (u ≡ v)

module _ {A : Type 0} (can : A → Type 0) (text : A → List ℕ) (mark : ℕ)
    (own : is_one_of (ends_of mark) mark ≡ true) (other : mark ≡ 10 → ⊥) (plain : A) (is-plain : can plain) (free : AreFree can text mark) where
  abbrev all_text : List A → List ℕ
  all_text xs = flat_map (λ x. mark ∷ text x) xs

  -- what is after an item begins with the mark or is LF
  pub record After (xs : List A) (u : List ℕ) : Type 0 where
    pub end : ℕ
    pub rest : List ℕ
    pub one : is_one_of (ends_of mark) end ≡ true
    pub parts : all_text xs ++ 10 ∷ u ≡ end ∷ rest

  lf-one : is_one_of (ends_of mark) 10 ≡ true
  lf-one = by (mark == 10)
    where
      by : (t : Bool) → (t || true) ≡ true
      by true = refl
      by false = refl

  pub after : (xs : List A) (u : List ℕ) → After xs u
  after [] u = record { end = 10; rest = u; one = lf-one; parts = refl }
  after (x ∷ xs) u = record { end = mark; rest = (text x ++ all_text xs) ++ 10 ∷ u; one = own; parts = refl }

  one-text : (x : A) (xs : List A) (w : List ℕ) → mark ∷ w ≡ all_text (x ∷ xs) ++ end_line → w ≡ text x ++ (all_text xs ++ end_line)
  one-text x xs w e = tail-same mark mark w ((text x ++ all_text xs) ++ end_line) e ∙ append_assoc (text x) (all_text xs) end_line

  whole-text : (x : A) (xs : List A) → mark ∷ (text x ++ (all_text xs ++ end_line)) ≡ all_text (x ∷ xs) ++ end_line
  whole-text x xs = ap (λ (l : List ℕ). mark ∷ l) (sym (append_assoc (text x) (all_text xs) end_line))

  only-one : (x : A) → can x → All can (x ∷ [])
  only-one x is = All-cons can x [] is (λ k d l. absurd (omega (arith, l)))

  pub either-end : (e : ℕ) → is_one_of (ends_of mark) e ≡ true → (mark ≡ e) ⊎ (10 ≡ e)
  either-end e one = by (mark == e) (10 == e) refl refl one
    where
      by : (s t : Bool) → (mark == e) ≡ s → (10 == e) ≡ t → (s || (t || false)) ≡ true → (mark ≡ e) ⊎ (10 ≡ e)
      by true t is _ h = inl (eqb-true mark e is)
      by false true _ is h = inr (eqb-true 10 e is)
      by false false _ _ h = absurd (true≢false (sym h))

  first-goes : (w : List ℕ) → Items can text (ends_of mark) w → (more : List ℕ) × Listed can text mark mark (w ++ more)
  first-goes w t = ⊎_elim (with-mark w t.0 t.1 t.2 t.4) (with-lf w t.0 t.1 t.2 t.4) (either-end t.1 t.3)
    where
      with-mark : (w : List ℕ) (x : A) (e : ℕ) → can x → w ≡ text x ++ e ∷ [] → mark ≡ e → (more : List ℕ) × Listed can text mark mark (w ++ more)
      with-mark w x e is parts same =
          let more : List ℕ = (text plain ++ []) ++ end_line in (
            more,
            (
              x ∷ plain ∷ [],
              All-cons can x (plain ∷ []) is (only-one plain is-plain),
              ap (λ (l : List ℕ). mark ∷ l) (ap (λ (l : List ℕ). l ++ more) parts ∙ append_assoc (text x) (e ∷ []) more ∙ ap (λ (n : ℕ). text x ++ n ∷ more) (sym same))
                  ∙ whole-text x (plain ∷ []),
            ),
          )

      with-lf : (w : List ℕ) (x : A) (e : ℕ) → can x → w ≡ text x ++ e ∷ [] → 10 ≡ e → (more : List ℕ) × Listed can text mark mark (w ++ more)
      with-lf w x e is parts same = (
        [],
        (
          x ∷ [],
          only-one x is,
          ap (λ (l : List ℕ). mark ∷ l) (append-nil w ∙ parts ∙ ap (λ (n : ℕ). text x ++ n ∷ []) (sym same)) ∙ whole-text x [],
        ),
      )

  first-begun : (w : List ℕ) → Listed can text mark mark w → (p q : List ℕ) × (w ≡ p ++ q) × Items can text (ends_of mark) p
  first-begun w t = by t.0 t.1 t.2
    where
      by : (xs : List A) → All can xs → mark ∷ w ≡ all_text xs ++ end_line → (p q : List ℕ) × (w ≡ p ++ q) × Items can text (ends_of mark) p
      by [] all e = absurd (other (head-same mark 10 w [] e))
      by (x ∷ xs) all e =
          let a = after xs [] in (
            text x ++ a.end ∷ [],
            a.rest,
            one-text x xs w e ∙ ap (λ (l : List ℕ). text x ++ l) a.parts ∙ sym (append_assoc (text x) (a.end ∷ []) a.rest),
            (x, a.end, all 0 x (omega arith), a.one, refl),
          )

  -- the reader of an item is stuck after a mark
  pub listed-first : (bytes : List ℕ) (left : ℕ) → Stuck (Items can text (ends_of mark)) bytes left → Stuck (Listed can text mark mark) bytes left
  listed-first bytes left s = stuck-first (Items can text (ends_of mark)) (Listed can text mark mark) first-goes first-begun bytes left s

  -- the reader of what is after an item is stuck
  pub listed-second : (x : A) (e : ℕ) (bytes rest : List ℕ) (left : ℕ) → can x → is_one_of (ends_of mark) e ≡ true → bytes ≡ text x ++ e ∷ rest
      → Stuck (Listed can text mark e) rest left → Stuck (Listed can text mark mark) bytes left
  listed-second x e bytes rest left is-x one parts s =
      subst (λ (l : List ℕ). Stuck (Listed can text mark mark) l left) (append_assoc (text x) (e ∷ []) rest ∙ sym parts)
      (stuck-second (Listed can text mark e) (Listed can text mark mark) (text x ++ e ∷ []) goes only rest left s)
    where
      goes : (w : List ℕ) → Listed can text mark e w → Listed can text mark mark ((text x ++ e ∷ []) ++ w)
      goes w t = (
        x ∷ t.0,
        All-cons can x t.0 is-x t.1,
        ap (λ (l : List ℕ). mark ∷ l) (append_assoc (text x) (e ∷ []) w ∙ ap (λ (l : List ℕ). text x ++ l) t.2 ∙ sym (append_assoc (text x) (all_text t.0) end_line)),
      )

      by : (w u v : List ℕ) (xs : List A) → All can xs → mark ∷ w ≡ all_text xs ++ end_line → w ++ u ≡ (text x ++ e ∷ []) ++ v
          → (q : List ℕ) × (w ≡ (text x ++ e ∷ []) ++ q) × Listed can text mark e q
      by w u v [] all is same = absurd (other (head-same mark 10 w [] is))
      by w u v (y ∷ ys) all is same =
          let a = after ys [] in
          let whole : w ≡ text y ++ a.end ∷ a.rest = one-text y ys w is ∙ ap (λ (l : List ℕ). text y ++ l) a.parts in
          let f = free y x a.end e (a.rest ++ u) v (all 0 y (omega arith)) is-x a.one one
          (sym (append_assoc (text y) (a.end ∷ a.rest) u) ∙ ap (λ (l : List ℕ). l ++ u) (sym whole) ∙ same ∙ append_assoc (text x) (e ∷ []) v) in (
            a.rest,
            whole ∙ ap (λ (z : A). text z ++ a.end ∷ a.rest) f.0 ∙ ap (λ (n : ℕ). text x ++ n ∷ a.rest) f.1 ∙ sym (append_assoc (text x) (e ∷ []) a.rest),
            (ys, All-tail can y ys all, ap (λ (n : ℕ). n ∷ a.rest) (sym f.1) ∙ sym a.parts),
          )

      only : (w u v : List ℕ) → Listed can text mark mark w → w ++ u ≡ (text x ++ e ∷ []) ++ v → (q : List ℕ) × (w ≡ (text x ++ e ∷ []) ++ q) × Listed can text mark e q
      only w u v t same = by w u v t.0 t.1 t.2 same

  -- one item more
  pub listed-push : (xs : List A) (x : A) (e : ℕ) (front rest more : List ℕ) → front ≡ all_text xs ++ mark ∷ rest → rest ≡ text x ++ e ∷ more
      → front ≡ all_text (xs ++ x ∷ []) ++ e ∷ more
  listed-push xs x e front rest more before here =
      before ∙ ap (λ (l : List ℕ). all_text xs ++ mark ∷ l) here
      ∙ sym (append_assoc (all_text xs) (mark ∷ text x) (e ∷ more))
      ∙ ap (λ (l : List ℕ). l ++ e ∷ more) (ap (λ (l : List ℕ). all_text xs ++ l) (sym (append-nil (mark ∷ text x))) ∙ sym (flat_map-append (λ y. mark ∷ text y) xs (x ∷ [])))

  -- one list with its LF, whatever comes after it
  pub listed-free : (xs ys : List A) (u v : List ℕ) → All can xs → All can ys → all_text xs ++ 10 ∷ u ≡ all_text ys ++ 10 ∷ v → (xs ≡ ys) × (u ≡ v)
  listed-free [] [] u v all-x all-y e = (refl, tail-same 10 10 u v e)
  listed-free [] (y ∷ ys) u v all-x all-y e = absurd (other (sym (head-same 10 mark u ((text y ++ all_text ys) ++ 10 ∷ v) e)))
  listed-free (x ∷ xs) [] u v all-x all-y e = absurd (other (head-same mark 10 ((text x ++ all_text xs) ++ 10 ∷ u) v e))
  listed-free (x ∷ xs) (y ∷ ys) u v all-x all-y e =
      let a = after xs u in
      let b = after ys v in
      let f = free x y a.end b.end a.rest b.rest (all-x 0 x (omega arith)) (all-y 0 y (omega arith)) a.one b.one
      (ap (λ (l : List ℕ). text x ++ l) (sym a.parts) ∙ sym (append_assoc (text x) (all_text xs) (10 ∷ u))
      ∙ tail-same mark mark ((text x ++ all_text xs) ++ 10 ∷ u) ((text y ++ all_text ys) ++ 10 ∷ v) e
      ∙ append_assoc (text y) (all_text ys) (10 ∷ v) ∙ ap (λ (l : List ℕ). text y ++ l) b.parts) in
      let g = listed-free xs ys u v (All-tail can x xs all-x) (All-tail can y ys all-y)
      (a.parts ∙ ap (λ (n : ℕ). n ∷ a.rest) f.1 ∙ ap (λ (l : List ℕ). b.end ∷ l) f.2 ∙ sym b.parts) in
      (ap (λ (z : A). z ∷ xs) f.0 ∙ ap (λ (zs : List A). y ∷ zs) g.0, g.1)
