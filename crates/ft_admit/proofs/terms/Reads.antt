-- What terms and conditions read may be read where their expressions stand, if no part stands on the wrong side.
use Rattle.std.proofs.Common.{◌≡◌, ◌∙◌, sym, ap, refl, ℕ, ℤ, pos, Bool, true, false, ◌||◌, ◌&&◌, not, List, [], ◌∷◌, ◌++◌, length, Option}
use Rattle.std.proofs.Common.{Some, None, codes, lt-ltb, true≢false}
use Rattle.std.specs.List.{list_all}
use Rattle.std.proofs.lemmas.Bool.{not-false}
use Rattle.std.proofs.lemmas.Option.{slice_get_within}
use Rattle.ft_base.specs.declared.place.Place.{Place}
use Rattle.ft_tree.specs.declared.expr.Op.{Op}
use Rattle.ft_tree.specs.declared.expr.Op.TheVariants as op
use Rattle.ft_tree.specs.declared.expr.Expr.{Expr}
use Rattle.ft_tree.specs.declared.expr.Expr.TheVariants.{Name, Prev, Age, Two}
use Rattle.ft_tree.specs.declared.item.SectionWord.{SectionWord}
use Rattle.ft_tree.specs.declared.item.SectionWord.TheVariants as section_word
use Rattle.ft_tree.specs.declared.item.VarWord.{VarWord}
use Rattle.ft_tree.specs.declared.item.VarWord.TheVariants as word
use Rattle.ft_core.specs.declared.tables.Memory.{Memory}
use Rattle.ft_core.specs.declared.tables.Memory.TheVariants.{Held, Hyst}
use Rattle.ft_core.specs.declared.tables.Section.TheVariants as section
use Rattle.ft_core.specs.declared.tables.Side.{Side}
use Rattle.ft_core.specs.declared.tables.Side.TheVariants as side
use Rattle.ft_core.specs.declared.tables.Var.{Var}
use Rattle.ft_core.specs.declared.tables.VarKind.{VarKind}
use Rattle.ft_core.specs.declared.tables.VarKind.TheVariants as kind
use Rattle.ft_core.specs.declared.term.Cond.{Cond}
use Rattle.ft_core.specs.declared.term.Cond.TheVariants as cond
use Rattle.ft_core.specs.declared.term.Rel.{Rel}
use Rattle.ft_core.specs.declared.term.Term.{Term}
use Rattle.ft_core.specs.declared.term.Term.TheVariants as term
use Rattle.ft_core.specs.meaning.Kinds.{is_of, monitored, same_kind}
use Rattle.ft_core.specs.meaning.Reads.{Read, at_now, at_before, of_memory, of_age, cond_reads, term_reads}
use Rattle.ft_core.specs.checked.Blocks.{is_held, may_show}
use Rattle.ft_core.specs.checked.Sound.{is_memory_of, is_side, may_read as section_may, now_of, side_of, step_of}
use Rattle.ft_core.specs.laws.Equations.{reads-Num, reads-Now, reads-Prev, reads-Age, reads-Neg, reads-Add, reads-Sub, reads-Times}
use Rattle.ft_core.specs.laws.Equations.{reads-Div, reads-Yes, reads-No, reads-Compare, reads-Memory, reads-Not, reads-And, reads-Or}
use Rattle.ft_names.specs.declared.asked.Asked.{Asked}
use Rattle.ft_names.specs.declared.card.Card.{Card}
use Rattle.ft_names.specs.declared.card.Card.TheVariants as card
use Rattle.ft_names.specs.declared.card.Values.{Values}
use Rattle.ft_names.specs.declared.site.Site.{Site}
use Rattle.ft_names.specs.declared.site.Site.TheVariants as site
use Rattle.ft_names.specs.meaning.Cards.{Env}
use Rattle.ft_names.specs.laws.Parts.{out-Name, out-Prev, out-Age}
use Rattle.ft_types.specs.declared.fault.ItemFault.TheVariants.{WrongSide}
use Rattle.ft_types.specs.meaning.Mismatch.{is_timer, is_wrong, layer_wrong}
use Rattle.ft_types.specs.meaning.Sides.{has_age, has_prev, is_designed, is_monitored, is_output, is_required, layer_wrong_side, may_read}
use Rattle.ft_types.specs.meaning.Sides.{reads, remembers, same_section_word, wrong_history, wrong_name, wrong_side}
use Rattle.ft_build.specs.meaning.Conditions.{cond_of, is_one, name_cond}
use Rattle.ft_build.specs.meaning.Tables.{side_of as side_by}
use Rattle.ft_build.specs.meaning.Terms.{age_term, folded, name_term, negated, operator_term, operator_value, prev_term, product_term, kept}
use Rattle.ft_build.specs.meaning.Terms.{quotient_term, term_of, truth_value, value_of}
use Rattle.ft_build.specs.meaning.Variables.{var_kind}
use Rattle.ft_build.specs.laws.Terms.{term-Num, term-Name, term-Truth, term-Prev, term-Age, term-Not, term-Neg, term-Two, cond-Num}
use Rattle.ft_build.specs.laws.Terms.{cond-Name, cond-Truth, cond-Prev, cond-Age, cond-Not, cond-Neg, cond-Two}
use Rattle.ft_admit.proofs.terms.Lists.{if-passed, joined-passes}
use Rattle.ft_admit.proofs.terms.Clean.{IsClean, clean_induction, is-on-side, is-right}
use Rattle.ft_admit.proofs.terms.Compose.{Composes, conds-pass, truth-passes}
use Rattle.ft_admit.proofs.terms.Cards.{AreThere, HasMemory, HasVar, hold_of}

-- what may be read where an expression stands
abbrev pub may_at : List Var → List Memory → Site → Read → Bool
may_at vars memories site.First r = now_of vars monitored r
may_at vars memories site.Always r = now_of vars monitored r
may_at vars memories site.Step r = step_of vars monitored r
may_at vars memories site.In r = section_may vars memories section.In r
may_at vars memories site.Req r = section_may vars memories section.Req r
may_at vars memories site.Sof r = section_may vars memories section.Sof r
may_at vars memories site.Out r = section_may vars memories section.Out r
may_at vars memories site.Shows r = may_show vars memories r

abbrev on_requirement : VarKind → Bool
on_requirement k = same_kind kind.Mon k || (same_kind kind.Con k || same_kind kind.ReqInner k)

abbrev on_design : VarKind → Bool
on_design k = same_kind kind.Input k || (same_kind kind.Output k || same_kind kind.SofInner k)

mon-kind : (w : VarWord) → is_monitored w ≡ true → same_kind kind.Mon (var_kind w) ≡ true
mon-kind word.Mon e = refl
mon-kind w e = absurd (true≢false (sym e))

out-kind : (w : VarWord) → is_output w ≡ true → same_kind kind.Output (var_kind w) ≡ true
out-kind word.Output e = refl
out-kind w e = absurd (true≢false (sym e))

required-kind : (w : VarWord) → is_required w ≡ true → on_requirement (var_kind w) ≡ true
required-kind word.Mon e = refl
required-kind word.Con e = refl
required-kind word.ReqVar e = refl
required-kind w e = absurd (true≢false (sym e))

designed-kind : (w : VarWord) → is_designed w ≡ true → on_design (var_kind w) ≡ true
designed-kind word.Input e = refl
designed-kind word.Output e = refl
designed-kind word.SofVar e = refl
designed-kind w e = absurd (true≢false (sym e))

module _ (vars : List Var) (memories : List Memory) where
  of-test : (test : VarKind → Bool) (place : ℕ) (w : VarWord) (values : Values) → HasVar vars place w values
      → is_of vars (λ x v. test v.kind) place ≡ test (var_kind w)
  of-test test place w values h = ap (λ (o : Option Var). elim o [ None ↦ false | Some v ↦ test v.kind ]) h.1 ∙ ap test h.2

  now-allowed : (s : Site) (place : ℕ) (w : VarWord) (values : Values) → HasVar vars place w values → reads s w ≡ true
      → may_at vars memories s (at_now place) ≡ true
  now-allowed site.First place w values h r = of-test (same_kind kind.Mon) place w values h ∙ mon-kind w r
  now-allowed site.Always place w values h r = of-test (same_kind kind.Mon) place w values h ∙ mon-kind w r
  now-allowed site.Step place w values h r = of-test (same_kind kind.Mon) place w values h ∙ mon-kind w r
  now-allowed site.In place w values h r = of-test (same_kind kind.Mon) place w values h ∙ mon-kind w r
  now-allowed site.Req place w values h r = of-test on_requirement place w values h ∙ required-kind w r
  now-allowed site.Sof place w values h r = of-test on_design place w values h ∙ designed-kind w r
  now-allowed site.Out place w values h r = of-test (same_kind kind.Output) place w values h ∙ out-kind w r
  now-allowed site.Shows place w values h r = lt-ltb place (length vars) (slice_get_within vars place h.0 h.1)

  before-allowed : (s : Site) (place : ℕ) (w : VarWord) (values : Values) → HasVar vars place w values → has_prev s ≡ true
      → reads s w ≡ true → may_at vars memories s (at_before place) ≡ true
  before-allowed site.Step place w values h p r = of-test (same_kind kind.Mon) place w values h ∙ mon-kind w r
  before-allowed site.Req place w values h p r = of-test on_requirement place w values h ∙ required-kind w r
  before-allowed site.Sof place w values h p r = of-test on_design place w values h ∙ designed-kind w r
  before-allowed site.First place w values h p r = absurd (true≢false (sym p))
  before-allowed site.Always place w values h p r = absurd (true≢false (sym p))
  before-allowed site.In place w values h p r = absurd (true≢false (sym p))
  before-allowed site.Out place w values h p r = absurd (true≢false (sym p))
  before-allowed site.Shows place w values h p r = absurd (true≢false (sym p))

  held-by : (m : Memory) (hold : ℤ) → hold_of m ≡ Some hold → is_held (Some m) ≡ true
  held-by (Held name s c h) hold e = refl
  held-by (Hyst name s t lo hi start) hold e = absurd (none (sym e))
    where
      none : Some hold ≡ None → ⊥
      none e = cc e

  age-allowed : (s : Site) (place : ℕ) (w : SectionWord) (hold : ℤ) → HasMemory memories place w (Some hold) → has_age s ≡ true
      → may_at vars memories s (of_age place) ≡ true
  age-allowed site.Shows place w hold h p = ap is_held h.1 ∙ held-by h.0 hold h.3
  age-allowed s place w hold h p = absurd (true≢false (sym p))

  of-side : (s : Side) (place : ℕ) (w : SectionWord) (hold : Option ℤ) → HasMemory memories place w hold
      → is_memory_of memories s place ≡ is_side (side_by w) s
  of-side s place w hold h =
      ap (λ (o : Option Memory). elim o [ None ↦ false | Some m ↦ is_side (side_of m) s ]) h.1 ∙ ap (λ (t : Side). is_side t s) h.2

  req-side : (w : SectionWord) → same_section_word w section_word.Req ≡ true → is_side (side_by w) side.Req ≡ true
  req-side section_word.Req e = refl
  req-side w e = absurd (true≢false (sym e))

  sof-side : (w : SectionWord) → same_section_word w section_word.Sof ≡ true → is_side (side_by w) side.Sof ≡ true
  sof-side section_word.Sof e = refl
  sof-side w e = absurd (true≢false (sym e))

  memory-allowed : (s : Site) (place : ℕ) (w : SectionWord) (hold : Option ℤ) → HasMemory memories place w hold → remembers s w ≡ true
      → may_at vars memories s (of_memory place) ≡ true
  memory-allowed site.Req place w hold h r = of-side side.Req place w hold h ∙ req-side w r
  memory-allowed site.Sof place w hold h r = of-side side.Sof place w hold h ∙ sof-side w r
  memory-allowed site.Shows place w hold h r = lt-ltb place (length memories) (slice_get_within memories place h.0 h.1)
  memory-allowed site.First place w hold h r = absurd (true≢false (sym r))
  memory-allowed site.Always place w hold h r = absurd (true≢false (sym r))
  memory-allowed site.Step place w hold h r = absurd (true≢false (sym r))
  memory-allowed site.In place w hold h r = absurd (true≢false (sym r))
  memory-allowed site.Out place w hold h r = absurd (true≢false (sym r))

module _ (may : Read → Bool) where
  abbrev pub TermPasses : Term → Type 0
  TermPasses t = list_all may (term_reads t) ≡ true

  abbrev pub CondPasses : Cond → Type 0
  CondPasses c = list_all may (cond_reads c) ≡ true

  by : (t : Term) (rs : List Read) → term_reads t ≡ rs → list_all may rs ≡ true → TermPasses t
  by t rs is h = ap (list_all may) is ∙ h

  cond-by : (c : Cond) (rs : List Read) → cond_reads c ≡ rs → list_all may rs ≡ true → CondPasses c
  cond-by c rs is h = ap (list_all may) is ∙ h

  one : (r : Read) → may r ≡ true → list_all may (r ∷ []) ≡ true
  one r h = ap (λ b. b && true) h

  num : (z : ℤ) → TermPasses (term.Num z)
  num z = by _ _ (reads-Num z) refl

  both : (s t : Term) → TermPasses s → TermPasses t → list_all may (term_reads s ++ term_reads t) ≡ true
  both s t h k = joined-passes may (term_reads s) (term_reads t) h k

  fold-passes : (v : Option ℤ) (t : Term) → TermPasses t → TermPasses (folded v t)
  fold-passes None t h = h
  fold-passes (Some z) t h = num z

  product-passes : (u w : Option ℤ) (s t : Term) → TermPasses s → TermPasses t → TermPasses (product_term u w s t)
  product-passes (Some c) w s t h k = by _ _ (reads-Times c t) k
  product-passes None (Some c) s t h k = by _ _ (reads-Times c s) h
  product-passes None None s t h k = num (pos 0)

  quotient-passes : (w : Option ℤ) (s : Term) → TermPasses s → TermPasses (quotient_term w s)
  quotient-passes (Some k) s h = by _ _ (reads-Div s k) h
  quotient-passes None s h = num (pos 0)

  two-pass : (o : Op) (u w : Option ℤ) (s t : Term) → TermPasses s → TermPasses t → TermPasses (operator_term o u w s t)
  two-pass op.Add u w s t h k = by _ _ (reads-Add s t) (both s t h k)
  two-pass op.Sub u w s t h k = by _ _ (reads-Sub s t) (both s t h k)
  two-pass op.Mul u w s t h k = product-passes u w s t h k
  two-pass op.Div u w s t h k = quotient-passes w s h
  two-pass op.Or u w s t h k = num (pos 0)
  two-pass op.And u w s t h k = num (pos 0)
  two-pass op.Eq u w s t h k = num (pos 0)
  two-pass op.Ne u w s t h k = num (pos 0)
  two-pass op.Lt u w s t h k = num (pos 0)
  two-pass op.Le u w s t h k = num (pos 0)
  two-pass op.Gt u w s t h k = num (pos 0)
  two-pass op.Ge u w s t h k = num (pos 0)

  nothing : CondPasses cond.No
  nothing = cond-by _ _ reads-No refl

  compared : (r : Rel) (s t : Term) → TermPasses s → TermPasses t → CondPasses (cond.Compare r s t)
  compared r s t h k = cond-by _ _ (reads-Compare r s t) (both s t h k)

  one-passes : (t : Term) → TermPasses t → CondPasses (is_one t)
  one-passes t h = compared _ t (term.Num (pos 1)) h (num (pos 1))

  composes : Composes (λ c. list_all may (cond_reads c)) (λ t. list_all may (term_reads t))
  composes = record {
    yes = cond-by _ _ reads-Yes refl;
    no = nothing;
    compare = compared;
    negated = λ a h. cond-by _ _ (reads-Not a) h;
    both = λ a b h k. cond-by _ _ (reads-And a b) (joined-passes may (cond_reads a) (cond_reads b) h k);
    either = λ a b h k. cond-by _ _ (reads-Or a b) (joined-passes may (cond_reads a) (cond_reads b) h k);
  }

module _ (env : Env) (s : Site) where
  at-name : (name : List ℕ) (place : Place) → wrong_side env s (Name name place) ≡ wrong_name name place (may_read s (env name))
  unfolding wrong_side
  at-name name place = ap (layer_wrong_side env s) (out-Name name place)

  at-prev : (name : List ℕ) (place : Place)
      → wrong_side env s (Prev name place) ≡ wrong_history env s (has_prev s) (codes "prev") name place
  unfolding wrong_side
  at-prev name place = ap (layer_wrong_side env s) (out-Prev name place)

  at-age : (name : List ℕ) (place : Place) → wrong_side env s (Age name place) ≡ wrong_history env s (has_age s) (codes "age") name place
  unfolding wrong_side
  at-age name place = ap (layer_wrong_side env s) (out-Age name place)

  history-passes : (allowed : Bool) (text name : List ℕ) (place : Place) → wrong_history env s allowed text name place ≡ None
      → (allowed ≡ true) × (may_read s (env name) ≡ true)
  history-passes true text name place e = (refl, if-passed (may_read s (env name)) (WrongSide name place) e)
  history-passes false text name place e = cc e

  timer-wrong : (name : List ℕ) (place : Place) → is_wrong env (Age name place) ≡ not (is_timer (env name))
  unfolding is_wrong
  timer-wrong name place = ap (layer_wrong env) (out-Age name place)

module _ (env : Env) (vars : List Var) (memories : List Memory) (there : AreThere env vars memories) (s : Site) where
  abbrev may : Read → Bool
  may = may_at vars memories s

  name-passes : (name : List ℕ) (c : Option Card) → env name ≡ c → may_read s c ≡ true → TermPasses may (name_term c)
  name-passes name None e m = num may (pos 0)
  name-passes name (Some (card.Constant value)) e m = num may value
  name-passes name (Some (card.TypeName values)) e m = num may (pos 0)
  name-passes name (Some (card.Member k position)) e m = num may (pos position)
  name-passes name (Some (card.Variable place w values)) e m =
      by may _ _ (reads-Now place) (one may (at_now place) (now-allowed vars memories s place w values (there name _ e) m))
  name-passes name (Some (card.Memory place w hold)) e m = num may (pos 0)
  name-passes name (Some (card.Block place)) e m = num may (pos 0)
  name-passes name (Some (card.Invariant block fact)) e m = num may (pos 0)

  name-cond-passes : (name : List ℕ) (c : Option Card) → env name ≡ c → may_read s c ≡ true → CondPasses may (name_cond c)
  name-cond-passes name None e m = nothing may
  name-cond-passes name (Some (card.Constant value)) e m = nothing may
  name-cond-passes name (Some (card.TypeName values)) e m = nothing may
  name-cond-passes name (Some (card.Member k position)) e m = nothing may
  name-cond-passes name (Some (card.Variable place w values)) e m = one-passes may (term.Now place) (name-passes name _ e m)
  name-cond-passes name (Some (card.Memory place w hold)) e m =
      cond-by may _ _ (reads-Memory place) (one may (of_memory place) (memory-allowed vars memories s place w hold (there name _ e) m))
  name-cond-passes name (Some (card.Block place)) e m = nothing may
  name-cond-passes name (Some (card.Invariant block fact)) e m = nothing may

  prev-passes : (name : List ℕ) (c : Option Card) → env name ≡ c → has_prev s ≡ true → may_read s c ≡ true → TermPasses may (prev_term c)
  prev-passes name None e p m = num may (pos 0)
  prev-passes name (Some (card.Constant value)) e p m = num may (pos 0)
  prev-passes name (Some (card.TypeName values)) e p m = num may (pos 0)
  prev-passes name (Some (card.Member k position)) e p m = num may (pos 0)
  prev-passes name (Some (card.Variable place w values)) e p m =
      by may _ _ (reads-Prev place) (one may (at_before place) (before-allowed vars memories s place w values (there name _ e) p m))
  prev-passes name (Some (card.Memory place w hold)) e p m = num may (pos 0)
  prev-passes name (Some (card.Block place)) e p m = num may (pos 0)
  prev-passes name (Some (card.Invariant block fact)) e p m = num may (pos 0)

  age-passes : (name : List ℕ) (c : Option Card) → env name ≡ c → has_age s ≡ true → is_timer c ≡ true → TermPasses may (age_term c)
  age-passes name None e p m = num may (pos 0)
  age-passes name (Some (card.Constant value)) e p m = num may (pos 0)
  age-passes name (Some (card.TypeName values)) e p m = num may (pos 0)
  age-passes name (Some (card.Member k position)) e p m = num may (pos 0)
  age-passes name (Some (card.Variable place w values)) e p m = num may (pos 0)
  age-passes name (Some (card.Memory place w None)) e p m = absurd (true≢false (sym m))
  age-passes name (Some (card.Memory place w (Some hold))) e p m =
      by may _ _ (reads-Age place) (one may (of_age place) (age-allowed vars memories s place w hold (there name _ e) p))
  age-passes name (Some (card.Block place)) e p m = num may (pos 0)
  age-passes name (Some (card.Invariant block fact)) e p m = num may (pos 0)

  abbrev Pass : Expr → Type 0
  Pass e = TermPasses may (term_of env e) × CondPasses may (cond_of env e)

  term-passes : (t u : Term) → t ≡ u → TermPasses may u → TermPasses may t
  term-passes t u e h = ap (λ (x : Term). list_all may (term_reads x)) e ∙ h

  cond-passes : (c d : Cond) → c ≡ d → CondPasses may d → CondPasses may c
  cond-passes c d e h = ap (λ (x : Cond). list_all may (cond_reads x)) e ∙ h

  on-name : (name : List ℕ) (place : Place) (asked : Asked) → IsClean env s asked (Name name place) → Pass (Name name place)
  on-name name place asked c =
      let m = if-passed (may_read s (env name)) (WrongSide name place)
      (sym (at-name env s name place) ∙ is-on-side env s asked (Name name place) c) in (
        term-passes _ _ (term-Name env name place) (name-passes name (env name) refl m),
        cond-passes _ _ (cond-Name env name place) (name-cond-passes name (env name) refl m),
      )

  on-prev : (name : List ℕ) (place : Place) (asked : Asked) → IsClean env s asked (Prev name place) → Pass (Prev name place)
  on-prev name place asked c =
      let h = history-passes env s (has_prev s) (codes "prev") name place
      (sym (at-prev env s name place) ∙ is-on-side env s asked (Prev name place) c) in
      let passes = prev-passes name (env name) refl h.0 h.1 in (
        term-passes _ _ (term-Prev env name place) passes,
        cond-passes _ _ (cond-Prev env name place) (one-passes may (prev_term (env name)) passes),
      )

  on-age : (name : List ℕ) (place : Place) (asked : Asked) → IsClean env s asked (Age name place) → Pass (Age name place)
  on-age name place asked c =
      let h = history-passes env s (has_age s) (codes "age") name place
      (sym (at-age env s name place) ∙ is-on-side env s asked (Age name place) c) in
      let timer = not-false (is_timer (env name)) (sym (timer-wrong env s name place) ∙ is-right env s asked (Age name place) c) in (
        term-passes _ _ (term-Age env name place) (age-passes name (env name) refl h.0 timer),
        cond-passes _ _ (cond-Age env name place) (nothing may),
      )

  on-two : (o : Op) (left right : Expr) (place : Place) → Pass left → Pass right → Pass (Two o left right place)
  on-two o left right place h k = (
    term-passes _ _ (term-Two env o left right place)
        (fold-passes may (operator_value o (value_of env left) (value_of env right)) _
        (two-pass may o (value_of env left) (value_of env right) (term_of env left) (term_of env right) h.0 k.0)),
    cond-passes _ _ (cond-Two env o left right place)
        (conds-pass (λ c. list_all may (cond_reads c)) (λ t. list_all may (term_reads t)) (composes may) o
        (cond_of env left) (cond_of env right) (term_of env left) (term_of env right) h.1 k.1 h.0 k.0),
  )

  -- the term and the condition of a clean expression read only what may be read where it stands
  pub read-allowed : (e : Expr) (asked : Asked) → IsClean env s asked e → Pass e
  read-allowed = clean_induction env s Pass (record {
    number = λ value place asked c. (
      term-passes _ _ (term-Num env value place) (fold-passes may (kept (pos value)) (term.Num (pos 0)) (num may (pos 0))),
      cond-passes _ _ (cond-Num env value place) (nothing may),
    );
    name = on-name;
    truth = λ value place. (
      term-passes _ _ (term-Truth env value place) (num may (truth_value value)),
      cond-passes _ _ (cond-Truth env value place)
          (truth-passes (λ c. list_all may (cond_reads c)) (λ t. list_all may (term_reads t)) (composes may) value),
    );
    prev = on-prev;
    aged = on-age;
    denied = λ of place h. (
      term-passes _ _ (term-Not env of place) (num may (pos 0)),
      cond-passes _ _ (cond-Not env of place) (cond-by may _ _ (reads-Not (cond_of env of)) h.1),
    );
    negated = λ of place asked c inner h. (
      term-passes _ _ (term-Neg env of place)
          (fold-passes may (negated (value_of env of)) _ (by may _ _ (reads-Neg (term_of env of)) h.0)),
      cond-passes _ _ (cond-Neg env of place) (nothing may),
    );
    two = λ o left right place asked c first second h k. on-two o left right place h k;
  })
