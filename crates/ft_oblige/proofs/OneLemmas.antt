-- A number has one obligation: of what is read, marked or numbered there is one list.
use Rattle.std.proofs.Common.{◌≡◌, ◌∙◌, sym, ap, subst, refl, ℕ, zero, suc, ◌<◌, Bool, true, false, List, [], ◌∷◌, ◌++◌, length, Some}
use Rattle.std.proofs.Common.{slice_get, arith, true≢false}
use Rattle.std.specs.Prelude.{◌↔◌}
use Rattle.std.proofs.lemmas.Option.{none-some, same_Some}
use Rattle.ft_core.specs.declared.tables.Tables.{Tables}
use Rattle.ft_core.specs.declared.tables.Table.{Table}
use Rattle.ft_core.specs.declared.tables.Block.{Block}
use Rattle.ft_core.specs.declared.tables.Fact.{Fact}
use Rattle.ft_core.specs.meaning.Reads.{Read, grid_reads}
use Rattle.ft_claims.specs.declared.claim.Claim.{Claim}
use Rattle.ft_claims.specs.laws.PointLaws.{cover_obliged}
use Rattle.ft_claims.specs.meaning.Areas.{finished}
use Rattle.ft_claims.specs.meaning.Coverage.{Fault, gap}
use Rattle.ft_claims.specs.meaning.Shown.{AreReadMemories}
use Rattle.ft_oblige.specs.laws.Marked.{are_marks}
use Rattle.ft_oblige.specs.laws.NumberLaws.{OneObligation}
use Rattle.ft_oblige.specs.meaning.Blocks.{IsFactAt, own, others}
use Rattle.ft_oblige.specs.meaning.Linked.{marked}
use Rattle.ft_oblige.specs.meaning.Obligations.{AreOf, block_obliged, Subject, about_table, about_fact, IsSubject}
use Rattle.ft_oblige.specs.meaning.Obligations.{of_table, of_fact}
use Rattle.ft_oblige.specs.meaning.States.{slot_spans}

-- what rises, and has the same elements, is one list
abbrev Rises : List ℕ → Type 0
Rises xs = (i j m k : ℕ) → slice_get xs i ≡ Some m → slice_get xs j ≡ Some k → i < j → m < k

abbrev Within : List ℕ → List ℕ → Type 0
Within xs ys = (i m : ℕ) → slice_get xs i ≡ Some m → (j : ℕ) × (slice_get ys j ≡ Some m)

same-head : (x y : ℕ) (xs ys : List ℕ) → Rises (x ∷ xs) → Rises (y ∷ ys) → (i j : ℕ) → slice_get (y ∷ ys) j ≡ Some x
    → slice_get (x ∷ xs) i ≡ Some y → x ≡ y
same-head x y xs ys up down zero j a b = same_Some x y b
same-head x y xs ys up down (suc i) zero a b = sym (same_Some y x a)
same-head x y xs ys up down (suc i) (suc j) a b =
    let below = up 0 (suc i) x y refl b (omega arith) in
    let above = down 0 (suc j) y x refl a (omega arith) in absurd (omega (arith, below, above))

tail-within : (x y : ℕ) (xs ys : List ℕ) → x ≡ y → Rises (x ∷ xs) → Within (x ∷ xs) (y ∷ ys) → Within xs ys
tail-within x y xs ys same up within i m at = inner (within (suc i) m at)
  where
    inner : (j : ℕ) × (slice_get (y ∷ ys) j ≡ Some m) → (j : ℕ) × (slice_get ys j ≡ Some m)
    inner (zero, e) =
        let above = up 0 (suc i) x m refl at (omega arith) in
        let is = same_Some y m e in absurd (omega (arith, above, is, same))
    inner (suc j, e) = (j, e)

one-rising : (xs ys : List ℕ) → Rises xs → Rises ys → Within xs ys → Within ys xs → xs ≡ ys
one-rising [] [] up down there back = refl
one-rising [] (y ∷ ys) up down there back = absurd (none-some y (back 0 y refl).1)
one-rising (x ∷ xs) [] up down there back = absurd (none-some x (there 0 x refl).1)
one-rising (x ∷ xs) (y ∷ ys) up down there back =
    let a = there 0 x refl in
    let b = back 0 y refl in
    let same = same-head x y xs ys up down b.0 a.0 a.1 b.1 in
    let rest = one-rising xs ys (λ i j m k p q l. up (suc i) (suc j) m k p q (omega (arith, l)))
    (λ i j m k p q l. down (suc i) (suc j) m k p q (omega (arith, l)))
    (tail-within x y xs ys same up there) (tail-within y x ys xs (sym same) down back) in
    λ i. same i ∷ rest i

one-reading : (S : Tables) (reads : List Read) (ms ns : List ℕ) → AreReadMemories S reads ms → AreReadMemories S reads ns → ms ≡ ns
one-reading S reads ms ns a b = one-rising ms ns a.rising b.rising
    (λ i m at. b.each m (a.there i m at) (a.read i m at)) (λ i m at. a.each m (b.there i m at) (b.read i m at))

-- marks of the same places mark the same
abbrev SameMarks : List Bool → List Bool → Type 0
SameMarks ms ns = (k : ℕ) → (slice_get ms k ≡ Some true) ↔ (slice_get ns k ≡ Some true)

same-marked : (ms ns : List Bool) (cs : List Claim) → SameMarks ms ns → marked ms cs ≡ marked ns cs
same-marked [] [] cs same = refl
same-marked [] (n ∷ ns) [] same = refl
same-marked [] (true ∷ ns) (c ∷ cs) same = absurd (none-some true ((same 0).1 refl))
same-marked [] (false ∷ ns) (c ∷ cs) same = same-marked [] ns cs (λ k. ((λ at. absurd (none-some true at)), (λ at. (same (suc k)).1 at)))
same-marked (m ∷ ms) [] [] same = refl
same-marked (true ∷ ms) [] (c ∷ cs) same = absurd (none-some true ((same 0).0 refl))
same-marked (false ∷ ms) [] (c ∷ cs) same = same-marked ms [] cs (λ k. ((λ at. (same (suc k)).0 at), (λ at. absurd (none-some true at))))
same-marked (m ∷ ms) (n ∷ ns) [] same = refl
same-marked (true ∷ ms) (true ∷ ns) (c ∷ cs) same = ap (λ ds. c ∷ ds) (same-marked ms ns cs (λ k. same (suc k)))
same-marked (false ∷ ms) (false ∷ ns) (c ∷ cs) same = same-marked ms ns cs (λ k. same (suc k))
same-marked (true ∷ ms) (false ∷ ns) (c ∷ cs) same = absurd (true≢false (sym (same_Some false true ((same 0).0 refl))))
same-marked (false ∷ ms) (true ∷ ns) (c ∷ cs) same = absurd (true≢false (sym (same_Some false true ((same 0).1 refl))))

one-marking : (S : Tables) (anew : Bool) (block : Block) (fact : Fact) (ms ns : List Bool) → AreOf S anew block fact ms
    → AreOf S anew block fact ns → block_obliged S anew block fact ms ≡ block_obliged S anew block fact ns
one-marking S anew block fact ms ns a b =
    let base = length (slot_spans S) in
    let mine = are_marks base (own S anew block fact) (others S anew) ms a in
    let theirs = are_marks base (own S anew block fact) (others S anew) ns b in
    let same = same-marked ms ns (others S anew) (λ k. ((λ at. (theirs k).1 ((mine k).0 at)), (λ at. (mine k).1 ((theirs k).0 at)))) in
    λ i. finished (slot_spans S) (own S anew block fact ++ same i)

-- what a subject is about
abbrev is_of_table : Subject → Bool
is_of_table (about_table k fault) = true
is_of_table (about_fact b f anew) = false

abbrev first_place : Subject → ℕ
first_place (about_table k fault) = k
first_place (about_fact b f anew) = b

abbrev second_place : Subject → ℕ
second_place (about_table k fault) = 0
second_place (about_fact b f anew) = f

abbrev fault_in : Subject → Fault
fault_in (about_table k fault) = fault
fault_in (about_fact b f anew) = gap

abbrev anew_in : Subject → Bool
anew_in (about_table k fault) = true
anew_in (about_fact b f anew) = anew

one-subject : (S : Tables) (n : ℕ) (s t : Subject) → IsSubject S n s → IsSubject S n t → s ≡ t
one-subject S n s t a b = same_Some s t (sym a.at ∙ b.at)

same-table : (S : Tables) (k l : ℕ) (t u : Table) (f g : Fault) (ms ns : List ℕ) → k ≡ l → f ≡ g → slice_get S.tables k ≡ Some t
    → slice_get S.tables l ≡ Some u → AreReadMemories S (grid_reads t.grid) ms → AreReadMemories S (grid_reads u.grid) ns
    → cover_obliged S f t.grid ms ≡ cover_obliged S g u.grid ns
same-table S k l t u f g ms ns kl fg a b are also =
    let tables : t ≡ u = same_Some t u (sym a ∙ ap (slice_get S.tables) kl ∙ b) in
    let memories = one-reading S (grid_reads t.grid) ms ns are
    (subst (λ v. AreReadMemories S (grid_reads v.grid) ns) (sym tables) also) in
    λ i. cover_obliged S (fg i) (tables i).grid (memories i)

same-fact : (S : Tables) (b c f g : ℕ) (block other : Block) (fact its : Fact) (anew also : Bool) (ms ns : List Bool) → b ≡ c → f ≡ g
    → anew ≡ also → IsFactAt S b f block fact → IsFactAt S c g other its → AreOf S anew block fact ms → AreOf S also other its ns
    → block_obliged S anew block fact ms ≡ block_obliged S also other its ns
same-fact S b c f g block other fact its anew also ms ns bc fg aa at there are too =
    let blocks : block ≡ other = same_Some block other (sym at.in_set ∙ ap (slice_get S.blocks) bc ∙ there.in_set) in
    let facts : fact ≡ its = same_Some fact its (sym at.in_block ∙ (λ i. slice_get (blocks i).facts (fg i)) ∙ there.in_block) in
    let back : AreOf S anew block fact ns = subst (λ a. AreOf S a block fact ns) (sym aa)
    (subst (λ d. AreOf S also d fact ns) (sym blocks) (subst (λ d. AreOf S also other d ns) (sym facts) too)) in
    one-marking S anew block fact ms ns are back ∙ (λ i. block_obliged S (aa i) (blocks i) (facts i) ns)

pub one_obligation : OneObligation
one_obligation S n o p (of_table k t f ms at there are is) (of_table l u g ns at' there' are' is') =
    let same = one-subject S n (about_table k f) (about_table l g) at at' in
    is ∙ same-table S k l t u f g ms ns (ap first_place same) (ap fault_in same) there there' are are' ∙ sym is'
one_obligation S n o p (of_table k t f ms at there are is) (of_fact b g block fact anew ns at' there' are' is') =
    absurd (true≢false (ap is_of_table (one-subject S n (about_table k f) (about_fact b g anew) at at')))
one_obligation S n o p (of_fact b g block fact anew ns at' there' are' is') (of_table k t f ms at there are is) =
    absurd (true≢false (ap is_of_table (one-subject S n (about_table k f) (about_fact b g anew) at at')))
one_obligation S n o p (of_fact b f block fact anew ms at there are is) (of_fact c g other its also ns at' there' are' is') =
    let same = one-subject S n (about_fact b f anew) (about_fact c g also) at at' in
    is ∙ same-fact S b c f g block other fact its anew also ms ns (ap first_place same) (ap second_place same) (ap anew_in same)
    there there' are are' ∙ sym is'
