-- What terms and conditions read by their form, and lists of items to which reads are added.
use Rattle.std.proofs.Common.{◌≡◌, ◌∙◌, sym, ap, ℕ, inl, inr, ◌+◌, ◌<◌, ℤ, List, [], ◌∷◌, ◌++◌, length, take, ◌⊎◌, append-nil, append_assoc}
use Rattle.std.proofs.Common.{OnOk}
use Rattle.std.specs.Prelude.{Result}
use Rattle.std.proofs.lemmas.Result.{on_ok_weaker}
use Rattle.std.specs.Prelude.{slice_index_or}
use Rattle.std.specs.List.{flat_map}
use Rattle.std.proofs.lemmas.List.{take_more}
use Rattle.std.proofs.lemmas.List.Concat.{flat_map-append}
use Rattle.std.proofs.lemmas.List.Elements.{filter_map-append}
use Rattle.ft_core.specs.declared.term.Rel.{Rel}
use Rattle.ft_core.specs.declared.term.Term.{Term}
use Rattle.ft_core.specs.declared.term.Term.TheOpen as tl
use Rattle.ft_core.specs.declared.term.Term.TheVariants.{Num, Now, Prev, Age, Neg, Add, Sub, Times, Div, rolls-Num, rolls-Now, rolls-Prev}
use Rattle.ft_core.specs.declared.term.Term.TheVariants.{rolls-Age, rolls-Neg, rolls-Add, rolls-Sub, rolls-Times, rolls-Div}
use Rattle.ft_core.specs.declared.term.Cond.{Cond}
use Rattle.ft_core.specs.declared.term.Cond.TheOpen as cl
use Rattle.ft_core.specs.declared.term.Cond.TheVariants.{Yes, No, Compare, Memory, Not, And, Or, rolls-Yes, rolls-No, rolls-Compare}
use Rattle.ft_core.specs.declared.term.Cond.TheVariants.{rolls-Memory, rolls-Not, rolls-And, rolls-Or}
use Rattle.ft_core.specs.walk.Gathering.{Adds, items_in}
use Rattle.ft_core.specs.meaning.Items.{item_read}
use Rattle.ft_core.specs.meaning.Reads.{Read, at_now, at_before, of_memory, of_age, term_reads, cond_reads}
use Rattle.ft_core.specs.laws.Equations.{reads-Num, reads-Now, reads-Prev, reads-Age, reads-Neg, reads-Add, reads-Sub, reads-Times}
use Rattle.ft_core.specs.laws.Equations.{reads-Div, reads-Yes, reads-No, reads-Compare, reads-Memory, reads-Not, reads-And, reads-Or}

-- the forms that read the same of their parts
pub reads-either : (t a b : Term) → (t ≡ Add a b) ⊎ (t ≡ Sub a b) → term_reads t ≡ term_reads a ++ term_reads b
reads-either t a b is = elim is [ inl e ↦ ap term_reads e ∙ reads-Add a b | inr e ↦ ap term_reads e ∙ reads-Sub a b ]

pub cond_reads-either : (c a b : Cond) → (c ≡ And a b) ⊎ (c ≡ Or a b) → cond_reads c ≡ cond_reads a ++ cond_reads b
cond_reads-either c a b is = elim is [ inl e ↦ ap cond_reads e ∙ reads-And a b | inr e ↦ ap cond_reads e ∙ reads-Or a b ]

-- one more of a list is read
pub flat_map-next : {X Y : Type 0} (f : X → List Y) (xs : List X) (i : ℕ) (x : X) → i < length xs → x ≡ slice_index_or xs i x
    → flat_map f (take (i + 1) xs) ≡ flat_map f (take i xs) ++ f x
flat_map-next {X} {Y} f xs i x within is =
    ap (flat_map f) (take_more xs i x within ∙ ap (λ (y : X). take i xs ++ y ∷ []) (sym is)) ∙ flat_map-append f (take i xs) (x ∷ [])
    ∙ ap (λ (l : List Y). flat_map f (take i xs) ++ l) (append-nil (f x))

module _ (vars memories : ℕ) where
  -- what reads no item of this scan
  pub adds-silent : (t : Term) (items : List ℕ) → ((n : ℤ) × (t ≡ Num n)) ⊎ ((m : ℕ) × (t ≡ Age m))
      → Adds vars memories (term_reads t) items items
  adds-silent t items is = sym (append-nil items) ∙ ap (λ (l : List ℕ). items ++ l) (sym (silent is))
    where
      silent : ((n : ℤ) × (t ≡ Num n)) ⊎ ((m : ℕ) × (t ≡ Age m)) → items_in vars memories (term_reads t) ≡ []
      silent (inl (n, e)) = ap (items_in vars memories) (ap term_reads e ∙ reads-Num n)
      silent (inr (m, e)) = ap (items_in vars memories) (ap term_reads e ∙ reads-Age m)

  pub adds-before : (t : Term) (items : List ℕ) (x : ℕ) → t ≡ Prev x → Adds vars memories (term_reads t) items items
  adds-before t items x is = sym (append-nil items) ∙ ap (λ (l : List ℕ). items ++ l)
      (sym (ap (items_in vars memories) (ap term_reads is ∙ reads-Prev x)))

  pub adds-constant : (c : Cond) (items : List ℕ) → (c ≡ Yes) ⊎ (c ≡ No) → Adds vars memories (cond_reads c) items items
  adds-constant c items is = sym (append-nil items) ∙ ap (λ (l : List ℕ). items ++ l) (sym (silent is))
    where
      silent : (c ≡ Yes) ⊎ (c ≡ No) → items_in vars memories (cond_reads c) ≡ []
      silent (inl e) = ap (items_in vars memories) (ap cond_reads e ∙ reads-Yes)
      silent (inr e) = ap (items_in vars memories) (ap cond_reads e ∙ reads-No)

  pub adds_none : (items : List ℕ) → Adds vars memories [] items items
  adds_none items = sym (append-nil items)

  pub adds_both : (a b : List Read) (old mid new : List ℕ) → Adds vars memories a old mid → Adds vars memories b mid new
      → Adds vars memories (a ++ b) old new
  adds_both a b old mid new first second = second ∙ ap (λ (l : List ℕ). l ++ items_in vars memories b) first
      ∙ append_assoc old (items_in vars memories a) (items_in vars memories b)
      ∙ ap (λ (l : List ℕ). old ++ l) (sym (filter_map-append (item_read vars memories) a b))

  -- the last step of two, where it may be refused
  pub adds-last : {T E : Type 0} (r : Result T E) (reads a b : List Read) (old mid new : List ℕ) → reads ≡ a ++ b
      → Adds vars memories a old mid
      → OnOk r (Adds vars memories b mid new) → OnOk r (Adds vars memories reads old new)
  adds-last r reads a b old mid new are first second = on_ok_weaker r (λ (e : Adds vars memories b mid new). adds_both a b old mid new first
      e
      ∙ ap (λ (l : List Read). old ++ items_in vars memories l) (sym are)) second

  -- one more of a list is read
  pub adds_more : {X : Type 0} (f : X → List Read) (xs : List X) (i : ℕ) (x : X) (old mid new : List ℕ) → i < length xs → x
      ≡ slice_index_or xs i x
      → Adds vars memories (flat_map f (take i xs)) old mid → Adds vars memories (f x) mid new
      → Adds vars memories (flat_map f (take (i + 1) xs)) old new
  adds_more f xs i x old mid new within is before here = adds_both (flat_map f (take i xs)) (f x) old mid new before here
      ∙ ap (λ (l : List Read). old ++ items_in vars memories l) (sym (flat_map-next f xs i x within is))

pub ruleset term_parts = (
  reads-Num,
  reads-Now,
  reads-Prev,
  reads-Age,
  reads-Neg,
  reads-Add,
  reads-Sub,
  reads-Times,
  reads-Div,
  adds_none,
  adds_both,
)

pub ruleset cond_parts = (reads-Yes, reads-No, reads-Compare, reads-Memory, reads-Not, reads-And, reads-Or, adds_none, adds_both)
