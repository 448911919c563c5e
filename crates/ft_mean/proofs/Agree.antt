-- What is read alike has one value.
use Rattle.std.proofs.Common.{◌≡◌, ◌∙◌, sym, ap, subst, ◌+ℤ◌, ◌-ℤ◌, ◌*ℤ◌, neg_ℤ, not, ◌&&◌, ◌||◌, List, [], ◌∷◌, ◌++◌}
use Rattle.std.specs.List.{Contains}
use Rattle.std.proofs.lemmas.List.Elements.{Contains-append_left, Contains-append_right, Contains-push}
use Rattle.ft_base.specs.Division.{floor_of}
use Rattle.ft_core.specs.declared.term.Term.{Term}
use Rattle.ft_core.specs.declared.term.Term.TheOpen as tl
use Rattle.ft_core.specs.declared.term.Term.TheVariants.{rolls-Now, rolls-Prev, rolls-Age, rolls-Neg, rolls-Add, rolls-Sub, rolls-Times}
use Rattle.ft_core.specs.declared.term.Term.TheVariants.{rolls-Div}
use Rattle.ft_core.specs.declared.term.Cond.{Cond}
use Rattle.ft_core.specs.declared.term.Cond.TheOpen as cl
use Rattle.ft_core.specs.declared.term.Cond.TheVariants.{rolls-Compare, rolls-Memory, rolls-Not, rolls-And, rolls-Or}
use Rattle.ft_core.specs.meaning.Reads.{Read, at_now, at_before, of_memory, of_age, term_reads, cond_reads}
use Rattle.ft_core.specs.laws.Equations.{term_induction, cond_induction, reads-rolled, cond_reads-rolled}
pub use Rattle.ft_mean.specs.laws.Equations.{value-Num, value-Now, value-Prev, value-Age, value-Neg, value-Add, value-Sub, value-Times}
pub use Rattle.ft_mean.specs.laws.Equations.{value-Div, truth-Yes, truth-No, truth-Compare, truth-Memory, truth-Not, truth-And, truth-Or}
pub use Rattle.ft_mean.specs.laws.Equations.{evaluation}
pub use Rattle.ft_mean.specs.laws.EvaluationLaws.{Same, AllSame}
use Rattle.ft_mean.specs.meaning.Value.{View, value, compares, truth}

-- what stands in one list stands in another that equals it
pub carried : {xs ys : List Read} {r : Read} → ys ≡ xs → Contains xs r → Contains ys r
carried {r = r} e = subst (λ zs. Contains zs r) (sym e)

module _ (v w : View) where
  left : (xs ys zs : List Read) → zs ≡ xs ++ ys → AllSame v w zs → AllSame v w xs
  left xs ys zs e h r c = h r (carried e (Contains-append_left xs ys r c))

  right : (xs ys zs : List Read) → zs ≡ xs ++ ys → AllSame v w zs → AllSame v w ys
  right xs ys zs e h r c = h r (carried e (Contains-append_right xs ys r c))

  all : (xs zs : List Read) → zs ≡ xs → AllSame v w zs → AllSame v w xs
  all xs zs e h r c = h r (carried e c)

  one : (r : Read) (zs : List Read) → zs ≡ (r ∷ []) → AllSame v w zs → Same v w r
  one r zs e h = h r (carried e (Contains-push [] r))

  abbrev IsSameTerm : Term → Type 0
  IsSameTerm e = AllSame v w (term_reads e) → value v e ≡ value w e

  pub same_value : (e : Term) → IsSameTerm e
  same_value = term_induction IsSameTerm (record {
    num = λ n h. value-Num v n ∙ sym (value-Num w n);
    now = λ x h. value-Now v x ∙ one (at_now x) _ (reads-rolled _ (tl.Now x) (rolls-Now x)) h ∙ sym (value-Now w x);
    prev = λ x h. value-Prev v x ∙ one (at_before x) _ (reads-rolled _ (tl.Prev x) (rolls-Prev x)) h ∙ sym (value-Prev w x);
    aged = λ m h. value-Age v m ∙ one (of_age m) _ (reads-rolled _ (tl.Age m) (rolls-Age m)) h ∙ sym (value-Age w m);
    negated = λ e same h. value-Neg v e ∙ ap neg_ℤ (same (all _ _ (reads-rolled _ (tl.Neg e) (rolls-Neg e)) h)) ∙ sym (value-Neg w e);
    added = λ a b p q h. let e = reads-rolled _ (tl.Add a b) (rolls-Add a b) in
        let l = p (left _ _ _ e h) in let r = q (right _ _ _ e h) in value-Add v a b ∙ (λ i. l i +ℤ r i) ∙ sym (value-Add w a b);
    less = λ a b p q h. let e = reads-rolled _ (tl.Sub a b) (rolls-Sub a b) in
        let l = p (left _ _ _ e h) in let r = q (right _ _ _ e h) in value-Sub v a b ∙ (λ i. l i -ℤ r i) ∙ sym (value-Sub w a b);
    scaled = λ c e same h. value-Times v c e ∙ ap (λ z. c *ℤ z) (same (all _ _ (reads-rolled _ (tl.Times c e) (rolls-Times c e)) h))
        ∙ sym (value-Times w c e);
    divided = λ e k same h. value-Div v e k ∙ ap (λ z. floor_of z k) (same (all _ _ (reads-rolled _ (tl.Div e k) (rolls-Div e k)) h))
        ∙ sym (value-Div w e k);
  })

  abbrev IsSameCond : Cond → Type 0
  IsSameCond c = AllSame v w (cond_reads c) → truth v c ≡ truth w c

  pub same_truth : (c : Cond) → IsSameCond c
  same_truth = cond_induction IsSameCond (record {
    yes = λ h. truth-Yes v ∙ sym (truth-Yes w);
    no = λ h. truth-No v ∙ sym (truth-No w);
    compare = λ rel a b h. let e = cond_reads-rolled _ (cl.Compare rel a b) (rolls-Compare rel a b) in
        let l = same_value a (left _ _ _ e h) in let r = same_value b (right _ _ _ e h) in
        truth-Compare v rel a b ∙ (λ i. compares rel (l i) (r i)) ∙ sym (truth-Compare w rel a b);
    memory = λ m h. truth-Memory v m ∙ one (of_memory m) _ (cond_reads-rolled _ (cl.Memory m) (rolls-Memory m)) h ∙ sym (truth-Memory w m);
    negated = λ a same h. truth-Not v a ∙ ap not (same (all _ _ (cond_reads-rolled _ (cl.Not a) (rolls-Not a)) h)) ∙ sym (truth-Not w a);
    both = λ a b p q h. let e = cond_reads-rolled _ (cl.And a b) (rolls-And a b) in
        let l = p (left _ _ _ e h) in let r = q (right _ _ _ e h) in truth-And v a b ∙ (λ i. l i && r i) ∙ sym (truth-And w a b);
    either = λ a b p q h. let e = cond_reads-rolled _ (cl.Or a b) (rolls-Or a b) in
        let l = p (left _ _ _ e h) in let r = q (right _ _ _ e h) in truth-Or v a b ∙ (λ i. l i || r i) ∙ sym (truth-Or w a b);
  })
