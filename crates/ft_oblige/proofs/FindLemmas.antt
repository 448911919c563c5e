-- The memories that are found in what is read.
use Rattle.std.proofs.Common.{◌≡◌, ◌∙◌, sym, ap, refl, ℕ, ℤ, Bool, ◌+◌, ◌<◌, List, [], ◌∷◌, ◌++◌, length, take, Some, OnOk, ◌⊎◌, inl, inr}
use Rattle.std.specs.Prelude.{Result, slice_index_or}
use Rattle.std.specs.List.{flat_map}
use Rattle.std.proofs.lemmas.Result.{on_ok_weaker}
use Rattle.std.proofs.lemmas.List.{append-nil, take_more}
use Rattle.std.proofs.lemmas.List.Concat.{flat_map-append}
use Rattle.ft_core.specs.declared.tables.Grid.{Grid}
use Rattle.ft_core.specs.declared.tables.Grid.TheVariants.{Normal, Inverted, Vector}
use Rattle.ft_core.specs.declared.tables.Memory.{Memory}
use Rattle.ft_core.specs.declared.tables.Memory.TheVariants.{Hyst}
use Rattle.ft_core.specs.declared.tables.Side.{Side}
use Rattle.ft_core.specs.declared.term.Rel.{Rel}
use Rattle.ft_core.specs.declared.term.Term.{Term}
use Rattle.ft_core.specs.declared.term.Cond.{Cond}
use Rattle.ft_core.specs.declared.term.Cond.TheVariants.{Yes, No, Compare, And, Or}
use Rattle.ft_core.specs.laws.Equations.{term_induction, reads-Num, reads-Now, reads-Prev, reads-Age, reads-Neg, reads-Add, reads-Sub}
use Rattle.ft_core.specs.laws.Equations.{reads-Times, reads-Div, reads-Yes, reads-No, reads-Compare, reads-Memory, reads-Not, reads-And}
use Rattle.ft_core.specs.laws.Equations.{reads-Or}
use Rattle.ft_core.specs.meaning.Reads.{Read, term_reads, cond_reads, grid_reads, memory_reads}
use Rattle.ft_oblige.specs.declared.reading.Found.{Found}
use Rattle.ft_oblige.specs.building.Finding.{Finds, with_read, with_reads}

pub with-append : (a b : List Read) (f : Found) → with_reads f (a ++ b) ≡ with_reads (with_reads f a) b
with-append [] b f = refl
with-append (r ∷ a) b f = with-append a b (with_read f r)

pub finds_none : (f : Found) → Finds [] f f
finds_none f = refl

pub finds_both : (a b : List Read) (old mid new : Found) → Finds a old mid → Finds b mid new → Finds (a ++ b) old new
finds_both a b old mid new first second = second ∙ ap (λ f. with_reads f b) first ∙ sym (with-append a b old)

-- the last step of two, where it may be refused
pub finds-last : {T E : Type 0} (r : Result T E) (reads a b : List Read) (old mid new : Found) → reads ≡ a ++ b → Finds a old mid
    → OnOk r (Finds b mid new) → OnOk r (Finds reads old new)
finds-last r reads a b old mid new are first second = on_ok_weaker r (λ (e : Finds b mid new). finds_both a b old mid new first e
    ∙ ap (with_reads old) (sym are)) second

flat_map-next : {X : Type 0} (f : X → List Read) (xs : List X) (i : ℕ) (x : X) → i < length xs → x ≡ slice_index_or xs i x
    → flat_map f (take (i + 1) xs) ≡ flat_map f (take i xs) ++ f x
flat_map-next {X} f xs i x within is =
    ap (flat_map f) (take_more xs i x within ∙ ap (λ (y : X). take i xs ++ y ∷ []) (sym is)) ∙ flat_map-append f (take i xs) (x ∷ [])
    ∙ ap (λ l. flat_map f (take i xs) ++ l) (append-nil (f x))

pub finds_more : {X : Type 0} (f : X → List Read) (xs : List X) (i : ℕ) (x : X) (old mid new : Found) → i < length xs → x
    ≡ slice_index_or xs i x
    → Finds (flat_map f (take i xs)) old mid → Finds (f x) mid new → Finds (flat_map f (take (i + 1) xs)) old new
finds_more f xs i x old mid new within is before here = finds_both (flat_map f (take i xs)) (f x) old mid new before here
    ∙ ap (with_reads old) (sym (flat_map-next f xs i x within is))

-- terms read no memory
abbrev IsSilent : List Read → Type 0
IsSilent reads = (f : Found) → with_reads f reads ≡ f

silent-both : (a b : List Read) → IsSilent a → IsSilent b → IsSilent (a ++ b)
silent-both a b p q f = with-append a b f ∙ ap (λ g. with_reads g b) (p f) ∙ q f

pub silent : (e : Term) → IsSilent (term_reads e)
silent = term_induction (λ e. IsSilent (term_reads e)) (record {
  num = λ n f. ap (with_reads f) (reads-Num n);
  now = λ x f. ap (with_reads f) (reads-Now x);
  prev = λ x f. ap (with_reads f) (reads-Prev x);
  aged = λ m f. ap (with_reads f) (reads-Age m);
  negated = λ e p f. ap (with_reads f) (reads-Neg e) ∙ p f;
  added = λ a b p q f. ap (with_reads f) (reads-Add a b) ∙ silent-both (term_reads a) (term_reads b) p q f;
  less = λ a b p q f. ap (with_reads f) (reads-Sub a b) ∙ silent-both (term_reads a) (term_reads b) p q f;
  scaled = λ c e p f. ap (with_reads f) (reads-Times c e) ∙ p f;
  divided = λ e k p f. ap (with_reads f) (reads-Div e k) ∙ p f;
})

pub silent-terms : (terms : List Term) → IsSilent (flat_map term_reads terms)
silent-terms [] = λ f. refl
silent-terms (e ∷ terms) = silent-both (term_reads e) (flat_map term_reads terms) (silent e) (silent-terms terms)

pub silent-rows : (rows : List (List Term)) → IsSilent (flat_map (flat_map term_reads) rows)
silent-rows [] = λ f. refl
silent-rows (r ∷ rows) = silent-both (flat_map term_reads r) (flat_map (flat_map term_reads) rows) (silent-terms r) (silent-rows rows)

pub finds-compare : (c : Cond) (f : Found) (r : Rel) (a b : Term) → c ≡ Compare r a b → Finds (cond_reads c) f f
finds-compare c f r a b is = sym (ap (with_reads f) (ap cond_reads is ∙ reads-Compare r a b)
    ∙ silent-both (term_reads a) (term_reads b) (silent a) (silent b) f)

pub finds-constant : (c : Cond) (f : Found) → (c ≡ Yes) ⊎ (c ≡ No) → Finds (cond_reads c) f f
finds-constant c f is = sym (ap (with_reads f) (none is))
  where
    none : (c ≡ Yes) ⊎ (c ≡ No) → cond_reads c ≡ []
    none (inl e) = ap cond_reads e ∙ reads-Yes
    none (inr e) = ap cond_reads e ∙ reads-No

pub reads-either : (c a b : Cond) → (c ≡ And a b) ⊎ (c ≡ Or a b) → cond_reads c ≡ cond_reads a ++ cond_reads b
reads-either c a b is = elim is [ inl e ↦ ap cond_reads e ∙ reads-And a b | inr e ↦ ap cond_reads e ∙ reads-Or a b ]

pub ruleset cond_parts = (reads-Yes, reads-No, reads-Compare, reads-Memory, reads-Not, reads-And, reads-Or, finds_none, finds_both)

-- a table, by the slices that are lent of it
pub finds-normal : (grid : Grid) (target : ℕ) (columns lent_columns rows lent_rows : List Cond) (terms : List (List Term))
    (old mid new : Found) → grid ≡ Normal target columns rows terms → lent_columns ≡ columns → lent_rows ≡ rows
    → Finds (flat_map cond_reads lent_columns) old mid → Finds (flat_map cond_reads lent_rows) mid new → Finds (grid_reads grid) old new
finds-normal grid target columns lent_columns rows lent_rows terms old mid new is same_columns same_rows first second =
    finds_both (flat_map cond_reads lent_columns ++ flat_map cond_reads lent_rows) (flat_map (flat_map term_reads) terms) old new new
    (finds_both (flat_map cond_reads lent_columns) (flat_map cond_reads lent_rows) old mid new first second) (sym (silent-rows terms new))
    ∙ ap (with_reads old) ((λ i. flat_map cond_reads (same_columns i) ++ flat_map cond_reads (same_rows i)
    ++ flat_map (flat_map term_reads) terms) ∙ sym (ap grid_reads is))

pub finds-inverted : (grid : Grid) (target : ℕ) (terms : List Term) (rows lent_rows : List Cond) (entries lent_entries : List (List Cond))
    (old mid new : Found) → grid ≡ Inverted target terms rows entries → lent_rows ≡ rows → lent_entries ≡ entries
    → Finds (flat_map cond_reads lent_rows) old mid → Finds (flat_map (flat_map cond_reads) lent_entries) mid new
    → Finds (grid_reads grid) old new
finds-inverted grid target terms rows lent_rows entries lent_entries old mid new is same_rows same_entries first second =
    finds_both (flat_map term_reads terms ++ flat_map cond_reads lent_rows) (flat_map (flat_map cond_reads) lent_entries) old mid new
    (finds_both (flat_map term_reads terms) (flat_map cond_reads lent_rows) old old mid (sym (silent-terms terms old)) first) second
    ∙ ap (with_reads old) ((λ i. flat_map term_reads terms ++ flat_map cond_reads (same_rows i) ++ flat_map (flat_map cond_reads)
    (same_entries i)) ∙ sym (ap grid_reads is))

pub finds-vector : (grid : Grid) (columns lent_columns : List Cond) (targets : List ℕ) (terms : List (List Term)) (old new : Found)
    → grid ≡ Vector columns targets terms → lent_columns ≡ columns → Finds (flat_map cond_reads lent_columns) old new
    → Finds (grid_reads grid) old new
finds-vector grid columns lent_columns targets terms old new is same_columns first =
    finds_both (flat_map cond_reads lent_columns) (flat_map (flat_map term_reads) terms) old new new first (sym (silent-rows terms new))
    ∙ ap (with_reads old) ((λ i. flat_map cond_reads (same_columns i) ++ flat_map (flat_map term_reads) terms) ∙ sym (ap grid_reads is))

-- a band reads no memory
pub finds-hyst : (memory : Memory) (f : Found) (name : List ℕ) (side : Side) (e : Term) (lo hi : ℤ) (start : Bool)
    → memory ≡ Hyst name side e lo hi start → Finds (memory_reads (Some memory)) f f
finds-hyst memory f name side e lo hi start is = sym (ap (λ m. with_reads f (memory_reads (Some m))) is ∙ silent e f)
