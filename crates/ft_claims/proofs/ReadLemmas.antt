-- What numbered terms, conditions, tables and moves say is what they mean at the view of a scan that the numbers tell.
use Rattle.std.proofs.Common.{◌≡◌, ◌∙◌, sym, ap, refl, ℕ, ◌+◌, ℤ, pos, ◌+ℤ◌, ◌-ℤ◌, ◌*ℤ◌, neg_ℤ, Bool, true, false, not, ◌&&◌, ◌||◌, cond}
use Rattle.std.proofs.Common.{List, [], ◌∷◌, map, Option, Some, None}
use Rattle.std.specs.Prelude.{int_le}
use Rattle.std.specs.Ordering.{int_eq}
use Rattle.std.specs.List.{list_all, list_any}
use Rattle.ft_base.specs.Division.{floor_of}
use Rattle.ft_core.specs.declared.tables.Tables.{Tables}
use Rattle.ft_core.specs.declared.tables.Memory as tables
use Rattle.ft_core.specs.declared.tables.Memory.TheVariants.{Held, Hyst}
use Rattle.ft_core.specs.declared.tables.Section.{Section}
use Rattle.ft_core.specs.declared.term.Term.{Term, Term-F, map-Term, roll-Term}
use Rattle.ft_core.specs.declared.term.Term.TheOpen as tl
use Rattle.ft_core.specs.declared.term.Term.TheVariants.{rolls-Num, rolls-Now, rolls-Prev, rolls-Age, rolls-Neg, rolls-Add, rolls-Sub}
use Rattle.ft_core.specs.declared.term.Term.TheVariants.{rolls-Times, rolls-Div}
use Rattle.ft_core.specs.declared.term.Cond.{Cond, Cond-F, map-Cond, roll-Cond}
use Rattle.ft_core.specs.declared.term.Cond.TheOpen as cl
use Rattle.ft_core.specs.declared.term.Cond.TheVariants.{rolls-Yes, rolls-No, rolls-Compare, rolls-Memory, rolls-Not, rolls-And, rolls-Or}
use Rattle.ft_core.specs.meaning.Grids.{Cell}
use Rattle.ft_core.specs.laws.Equations.{term_induction, cond_induction, term_folds, cond_folds}
use Rattle.ft_mean.specs.meaning.Cells.{cell_holds, holding, cells_of, defined}
use Rattle.ft_mean.specs.meaning.Reading.{init_of}
use Rattle.ft_mean.specs.meaning.Value.{value, truth, compares}
use Rattle.ft_mean.specs.laws.Equations.{value-Num, value-Now, value-Prev, value-Age, value-Neg, value-Add, value-Sub, value-Times}
use Rattle.ft_mean.specs.laws.Equations.{value-Div, truth-Yes, truth-No, truth-Compare, truth-Memory, truth-Not, truth-And, truth-Or}
use Rattle.ft_claims.specs.declared.claim.Sym.{Sym}
use Rattle.ft_claims.specs.declared.claim.Sym.TheVariants as out
use Rattle.ft_claims.specs.declared.claim.Claim.{Claim}
use Rattle.ft_claims.specs.declared.claim.Claim.TheVariants as claim
use Rattle.ft_claims.specs.meaning.Claims.{sym_value, claim_true, equal}
use Rattle.ft_claims.specs.meaning.Names.{Frame, memo, sym_of, layer_sym, claim_of, layer_claim, recalled, keeper, kept_true, view}
use Rattle.ft_claims.specs.meaning.Parts.{joined, cell_claim, definition}
use Rattle.ft_claims.specs.laws.Equations.{sym-Num, sym-Slot, sym-Neg, sym-Add, sym-Sub, sym-Times, sym-Div, true-Not, true-And, true-Or}
use Rattle.ft_claims.proofs.ClaimLemmas.{true-equal, true-ge, true-compared}

module _ (S : Tables) (frame : Frame) where
  pub sym-rolled : (e : Term) (a_layer : Term-F Term) → roll-Term a_layer ≡ e → sym_of S frame e
      ≡ layer_sym S frame (map-Term Term Sym (sym_of S frame) a_layer)
  unfolding sym_of
  sym-rolled = term_folds Sym (layer_sym S frame)

  pub claim-rolled : (c : Cond) (a_layer : Cond-F Cond) → roll-Cond a_layer ≡ c → claim_of S frame c
      ≡ layer_claim S frame (map-Cond Cond Claim (claim_of S frame) a_layer)
  unfolding claim_of
  claim-rolled = cond_folds Claim (layer_claim S frame)

  module _ (σ : ℕ → ℤ) where
    abbrev Says : Term → Type 0
    Says e = sym_value σ (sym_of S frame e) ≡ value (view S frame σ) e

    past : (b : Bool) (z : ℤ) (x : ℕ) → sym_value σ (cond b (out.Num z) (out.Slot x)) ≡ cond b z (σ x)
    past true z x = sym-Num σ z
    past false z x = sym-Slot σ x

    -- a term has the value that it has at the view
    pub sym_says : (e : Term) → Says e
    sym_says = term_induction Says (record {
      num = λ n. ap (sym_value σ) (sym-rolled _ (tl.Num n) (rolls-Num n)) ∙ sym-Num σ n ∙ sym (value-Num (view S frame σ) n);
      now = λ x. ap (sym_value σ) (sym-rolled _ (tl.Now x) (rolls-Now x)) ∙ sym-Slot σ _ ∙ sym (value-Now (view S frame σ) x);
      prev = λ x. ap (sym_value σ) (sym-rolled _ (tl.Prev x) (rolls-Prev x)) ∙ past frame.anew (init_of S x) (frame.prior + x)
          ∙ sym (value-Prev (view S frame σ) x);
      aged = λ m. ap (sym_value σ) (sym-rolled _ (tl.Age m) (rolls-Age m)) ∙ sym-Slot σ _ ∙ sym (value-Age (view S frame σ) m);
      negated = λ e same. ap (sym_value σ) (sym-rolled _ (tl.Neg e) (rolls-Neg e)) ∙ sym-Neg σ _ ∙ ap neg_ℤ same
          ∙ sym (value-Neg (view S frame σ) e);
      added = λ a b p q. ap (sym_value σ) (sym-rolled _ (tl.Add a b) (rolls-Add a b)) ∙ sym-Add σ _ _ ∙ (λ i. p i +ℤ q i)
          ∙ sym (value-Add (view S frame σ) a b);
      less = λ a b p q. ap (sym_value σ) (sym-rolled _ (tl.Sub a b) (rolls-Sub a b)) ∙ sym-Sub σ _ _ ∙ (λ i. p i -ℤ q i)
          ∙ sym (value-Sub (view S frame σ) a b);
      scaled = λ c e same. ap (sym_value σ) (sym-rolled _ (tl.Times c e) (rolls-Times c e)) ∙ sym-Times σ c _ ∙ ap (λ z. c *ℤ z) same
          ∙ sym (value-Times (view S frame σ) c e);
      divided = λ e k same. ap (sym_value σ) (sym-rolled _ (tl.Div e k) (rolls-Div e k)) ∙ sym-Div σ _ k ∙ ap (λ z. floor_of z k) same
          ∙ sym (value-Div (view S frame σ) e k);
    })

    recalled_says : (o : Option tables.Memory) (z : Sym) → claim_true σ (recalled o z) ≡ kept_true o (sym_value σ z)
    recalled_says None z = true-equal σ z (out.Num (pos 1)) ∙ ap (int_eq (sym_value σ z)) (sym-Num σ (pos 1))
    recalled_says (Some (Held name side c hold)) z = true-ge σ z (out.Num hold) ∙ ap (λ d. int_le d (sym_value σ z)) (sym-Num σ hold)
    recalled_says (Some (Hyst name side e lo hi start)) z = true-equal σ z (out.Num (pos 1))
        ∙ ap (int_eq (sym_value σ z)) (sym-Num σ (pos 1))

    and_true : (b : Bool) → (b && true) ≡ b
    and_true true = refl
    and_true false = refl

    or_false : (b : Bool) → (b || false) ≡ b
    or_false true = refl
    or_false false = refl

    abbrev Tells : Cond → Type 0
    Tells c = claim_true σ (claim_of S frame c) ≡ truth (view S frame σ) c

    -- a condition has the truth that it has at the view
    pub claim_tells : (c : Cond) → Tells c
    claim_tells = cond_induction Tells (record {
      yes = ap (claim_true σ) (claim-rolled _ cl.Yes rolls-Yes) ∙ true-And σ [] ∙ sym (truth-Yes (view S frame σ));
      no = ap (claim_true σ) (claim-rolled _ cl.No rolls-No) ∙ true-Or σ [] ∙ sym (truth-No (view S frame σ));
      compare = λ r a b. let p = sym_says a in let q = sym_says b in
          ap (claim_true σ) (claim-rolled _ (cl.Compare r a b) (rolls-Compare r a b)) ∙ true-compared σ r _ _
          ∙ (λ i. compares r (p i) (q i))
          ∙ sym (truth-Compare (view S frame σ) r a b);
      memory = λ m. ap (claim_true σ) (claim-rolled _ (cl.Memory m) (rolls-Memory m))
          ∙ recalled_says (keeper S frame m) (out.Slot (memo S frame.this m))
          ∙ ap (kept_true (keeper S frame m)) (sym-Slot σ (memo S frame.this m)) ∙ sym (truth-Memory (view S frame σ) m);
      negated = λ a same. ap (claim_true σ) (claim-rolled _ (cl.Not a) (rolls-Not a)) ∙ true-Not σ _ ∙ ap not same
          ∙ sym (truth-Not (view S frame σ) a);
      both = λ a b p q. ap (claim_true σ) (claim-rolled _ (cl.And a b) (rolls-And a b)) ∙ true-And σ _ ∙ (λ i. p i && and_true (q i) i)
          ∙ sym (truth-And (view S frame σ) a b);
      either = λ a b p q. ap (claim_true σ) (claim-rolled _ (cl.Or a b) (rolls-Or a b)) ∙ true-Or σ _ ∙ (λ i. p i || or_false (q i) i)
          ∙ sym (truth-Or (view S frame σ) a b);
    })

    -- all of these conditions, where one alone is itself
    joined_true : (cs : List Claim) → claim_true σ (joined cs) ≡ list_all (claim_true σ) cs
    joined_true [] = true-And σ []
    joined_true (c ∷ []) = sym (and_true (claim_true σ c))
    joined_true (c ∷ d ∷ cs) = true-And σ (c ∷ d ∷ cs)

    pub all_tell : (cs : List Cond) → list_all (claim_true σ) (map (claim_of S frame) cs) ≡ list_all (truth (view S frame σ)) cs
    all_tell [] = refl
    all_tell (c ∷ cs) = let here = claim_tells c in let more = all_tell cs in λ i. here i && more i

    pub cell_says : (cell : Cell) → claim_true σ (cell_claim S frame cell) ≡ cell_holds (view S frame σ) cell
    cell_says cell = joined_true (map (claim_of S frame) cell.conds) ∙ all_tell cell.conds

    abbrev entry : ℕ → Cell → Claim
    entry x cell = claim.And (cell_claim S frame cell ∷ equal (out.Slot (frame.this + x)) (sym_of S frame cell.term) ∷ [])

    entry_says : (x : ℕ) (cell : Cell) → claim_true σ (entry x cell) ≡
        (cell_holds (view S frame σ) cell && int_eq (σ (frame.this + x)) (value (view S frame σ) cell.term))
    entry_says x cell =
        let first = cell_says cell in
        let second = true-equal σ (out.Slot (frame.this + x)) (sym_of S frame cell.term)
        ∙ (λ i. int_eq (sym-Slot σ (frame.this + x) i) (sym_says cell.term i)) in
        true-And σ _ ∙ (λ i. first i && and_true (second i) i)

    entries_say : (x : ℕ) (cells : List Cell) → list_any (claim_true σ) (map (entry x) cells)
        ≡ list_any (λ cell. int_eq (σ (frame.this + x)) (value (view S frame σ) cell.term)) (holding (view S frame σ) cells)
    entries_say x [] = refl
    entries_say x (cell ∷ cells) =
        let here = entry_says x cell in let more = entries_say x cells in
        (λ i. here i || more i) ∙ split (cell_holds (view S frame σ) cell)
      where
        split : (b : Bool) → ((b && int_eq (σ (frame.this + x)) (value (view S frame σ) cell.term))
            || list_any (λ c. int_eq (σ (frame.this + x)) (value (view S frame σ) c.term)) (holding (view S frame σ) cells))
            ≡ list_any (λ c. int_eq (σ (frame.this + x)) (value (view S frame σ) c.term))
            (cond b (cell ∷ holding (view S frame σ) cells) (holding (view S frame σ) cells))
        split true = refl
        split false = refl

    -- a table's definition of a variable says that it has the value of a cell that holds
    pub definition_says : (section : Section) (x : ℕ)
        → claim_true σ (definition S section frame x) ≡ defined S section (view S frame σ) x (σ (frame.this + x))
    definition_says section x = true-Or σ (map (entry x) (cells_of S section x)) ∙ entries_say x (cells_of S section x)
