-- What a point of the obligation of a fact shows.
use Rattle.std.proofs.Common.{◌≡◌, ◌∙◌, sym, ap, subst, refl, ℕ, ◌*◌, ◌<◌, ◌≤◌, ℤ, Bool, true, false, ◌||◌, List, [], ◌∷◌, map, length}
use Rattle.std.proofs.Common.{Some, slice_get, arith}
use Rattle.std.proofs.lemmas.List.{length-map}
use Rattle.std.proofs.lemmas.Option.{same_Some}
use Rattle.ft_core.specs.declared.tables.Tables.{Tables}
use Rattle.ft_core.specs.declared.tables.Var.{Var}
use Rattle.ft_core.specs.declared.tables.VarKind.TheVariants as kind
use Rattle.ft_core.specs.declared.tables.Block.{Block}
use Rattle.ft_core.specs.declared.tables.Fact.{Fact}
use Rattle.ft_core.specs.declared.tables.Fact.TheVariants.{Invariant, Goal}
use Rattle.ft_core.specs.declared.tables.Section.TheVariants as section
use Rattle.ft_core.specs.laws.Places.{one-at}
use Rattle.ft_core.specs.meaning.Kinds.{controlled, of_kind, requirement}
use Rattle.ft_linear.specs.meaning.Form.{values_at}
use Rattle.ft_mean.specs.judge.Safe.{KeepsSizes}
use Rattle.ft_mean.specs.meaning.Reading.{IsVar}
use Rattle.ft_mean.specs.meaning.Value.{View}
use Rattle.ft_claims.specs.declared.claim.Claim.{Claim}
use Rattle.ft_claims.specs.meaning.Areas.{Obliged}
use Rattle.ft_claims.specs.meaning.Points.{IsPointOf}
use Rattle.ft_claims.specs.meaning.Spans.{InSpans}
use Rattle.ft_oblige.specs.declared.labelling.Slot.{Slot}
use Rattle.ft_oblige.specs.declared.made.Obligation.{Obligation}
use Rattle.ft_oblige.specs.laws.ReadsThere.{blocks_of, var_of}
use Rattle.ft_oblige.specs.meaning.Blocks.{IsFactAt, block_parts}
use Rattle.ft_oblige.specs.meaning.Labels.{label_of, slot_at}
use Rattle.ft_oblige.specs.meaning.Obligations.{IsSubject, about_fact, obligation_count}
use Rattle.ft_oblige.specs.meaning.States.{slot_spans}
use Rattle.ft_oblige.specs.meaning.Tried.{IsPointIn}
use Rattle.ft_cover.specs.building.KeptView.{kept_view}
use Rattle.ft_cover.specs.laws.KeptLaws.{AreOnce}
use Rattle.ft_compose.specs.building.Deciding.{AreCellsBy, IsFormed, IsGoalThere}
use Rattle.ft_compose.specs.declared.blocks.Cells.{Cells}
use Rattle.ft_compose.specs.declared.blocks.Blocks.TheVariants.{Fails}
use Rattle.ft_compose.specs.laws.DecidingLaws.{DecidingLaws}
use Rattle.ft_compose.specs.meaning.Decided.{AreCells, HasNumbers, IsFailing, IsStop, first_seen}
use Rattle.ft_compose.proofs.DecideLemmas.{obliged_of, is_point}
use Rattle.ft_compose.proofs.FailureLemmas.{points_are_states, points_fail}
use Rattle.ft_compose.proofs.NameLemmas.{gives, numbers}
use Rattle.ft_compose.proofs.ShownLemmas.{keeps, seen_alike}

map-map : {A B C : Type 0} (g : B → C) (f : A → B) (xs : List A) → map g (map f xs) ≡ map (λ x. g (f x)) xs
map-map g f [] = refl
map-map g f (x ∷ xs) = ap (λ l. g (f x) ∷ l) (map-map g f xs)

-- the variable of a goal is controlled
pub goal-there : (S : Tables) (b f : ℕ) (block : Block) (fact : Fact) → IsFactAt S b f block fact → IsGoalThere S fact
goal-there S b f block (Invariant name c) is = tt
goal-there S b f block (Goal x) is = var_of S controlled x ((blocks_of S).goals b f x block is.in_set is.in_block)

pub required : (x : ℕ) (v : Var) → controlled x v ≡ true → requirement x v ≡ true
required x v is = ap (λ b. b || of_kind kind.ReqInner x v) is

module _ (laws : DecidingLaws) (S : Tables) (n b f : ℕ) (anew : Bool) (subject : IsSubject S n (about_fact b f anew)) (o : Obligation)
    (names : List ℕ) (formed : IsFormed S b f anew o names) (p : List ℤ) (point : IsPointIn o.formula o.area.spans p) (values : List ℤ)
    (long : length values ≡ length o.slots) (same : (i : ℕ) → i < length o.slots → values_at values i ≡ values_at p i) where
  abbrev obliged : Obliged
  obliged = obliged_of laws S n b f anew subject o names formed

  abbrev parts : List Claim
  parts = block_parts S anew formed.form.block formed.form.fact formed.form.marks

  many : length o.slots ≡ length obliged.names
  many = ap length formed.form.form.slots ∙ length-map obliged.names (slot_at S)

  long_all : length values ≡ length obliged.names
  long_all = long ∙ many

  same_all : (i : ℕ) → i < length obliged.names → values_at values i ≡ values_at p i
  same_all i l = same i (let all = many in omega (arith, l, all))

  its_point : IsPointOf obliged p
  its_point = is_point laws S n b f anew subject o names formed p point

  once : AreOnce obliged.names
  once i j u = laws.once (slot_spans S) parts i j u

  some_state : (σ : ℕ → ℤ) × InSpans S σ × HasNumbers obliged values σ
  some_state =
      let at = points_are_states laws.all S anew formed.form.block formed.form.fact formed.form.marks p its_point in
      (at.0, at.1, numbers (slot_spans S) parts p values same_all at.0 at.2)

  abbrev V : View
  V = kept_view S false anew o.slots values

  pub keeps_sizes : KeepsSizes S.vars S.memories V
  keeps_sizes = subst (λ (slots : List Slot). KeepsSizes S.vars S.memories (kept_view S false anew slots values))
      (sym formed.form.form.slots)
      (keeps laws S anew obliged.names once values long_all some_state.0 some_state.1 some_state.2)

  module _ (cells : Cells) where
    cells_of_fact : (fact : Fact) → IsGoalThere S fact → AreCellsBy S anew names V fact cells → AreCells S anew obliged values fact cells
    cells_of_fact (Invariant name c) there by = by
    cells_of_fact (Goal x) there by = λ σ has. (
      seen_alike laws S anew obliged.names once values section.Req x there.0 (there.1.0, required x there.0 there.1.1) σ has
          ∙ (λ i. first_seen S section.Req x anew (sym formed.names_are i) (kept_view S false anew (sym formed.form.form.slots i) values))
          ∙ by.0,
      seen_alike laws S anew obliged.names once values section.Out x there.0 there.1 σ has
          ∙ (λ i. first_seen S section.Out x anew (sym formed.names_are i) (kept_view S false anew (sym formed.form.form.slots i) values))
          ∙ by.1,
    )

    pub failing : AreCellsBy S anew names V formed.form.fact cells → IsFailing S n cells values o.labels
    failing by = record {
      b = b;
      f = f;
      block = formed.form.block;
      fact = formed.form.fact;
      anew = anew;
      subject = subject;
      its_fact = formed.form.its;
      marks = formed.form.marks;
      belong = formed.form.belong;
      labels_are = formed.form.form.labels ∙ ap (map (label_of S false)) formed.form.form.slots
          ∙ map-map (label_of S false) (slot_at S) obliged.names;
      one_each = long_all;
      some = some_state;
      each = λ σ has. points_fail laws.all S b f formed.form.block formed.form.fact anew formed.form.its formed.form.marks
          formed.form.belong p its_point σ (gives (slot_spans S) parts p values same_all σ has);
      cells_are = cells_of_fact formed.form.fact (goal-there S b f formed.form.block formed.form.fact formed.form.its) by;
    }

-- the same, by the slices that are lent of the slots and the values, and the fact as it was found
module _ (laws : DecidingLaws) (S : Tables) (n b f : ℕ) (anew : Bool) (subject : IsSubject S n (about_fact b f anew)) (o : Obligation)
    (names : List ℕ) (formed : IsFormed S b f anew o names) (p : List ℤ) (point : IsPointIn o.formula o.area.spans p) (slots : List Slot)
    (lent : slots ≡ o.slots) (values : List ℤ) (long : length values ≡ length slots)
    (same : (i : ℕ) → i < length slots → values_at values i ≡ values_at p i) (lent_values : List ℤ) (are_values : lent_values ≡ values)
  where
    long_lent : length values ≡ length o.slots
    long_lent = long ∙ ap length lent

    same_lent : (i : ℕ) → i < length o.slots → values_at values i ≡ values_at p i
    same_lent i l = same i (let e = ap length lent in omega (arith, e, l))

    same_view : kept_view S false anew slots lent_values ≡ kept_view S false anew o.slots values
    same_view i = kept_view S false anew (lent i) (are_values i)

    pub lent_keeps : KeepsSizes S.vars S.memories (kept_view S false anew slots lent_values)
    lent_keeps = subst (KeepsSizes S.vars S.memories) (sym same_view)
        (keeps_sizes laws S n b f anew subject o names formed p point values long_lent same_lent)

    pub lent_fails : (fact : Fact) → ((block : Block) × IsFactAt S b f block fact) → (cells : Cells)
        → AreCellsBy S anew names (kept_view S false anew slots lent_values) fact cells → 3 * length S.tables < n → n ≤ obligation_count S
        → IsStop S n (Fails n cells values o.labels)
    lent_fails fact there cells by above below = (
      refl,
      (above, below),
      failing laws S n b f anew subject o names formed p point values long_lent same_lent cells
          (subst (λ g. AreCellsBy S anew names (kept_view S false anew o.slots values) g cells) same_fact
          (subst (λ W. AreCellsBy S anew names W fact cells) same_view by)),
    )
      where
        same_fact : fact ≡ formed.form.fact
        same_fact =
            let same_block = one-at S.blocks b there.0 formed.form.block there.1.in_set formed.form.its.in_set in
            one-at formed.form.block.facts f fact formed.form.fact
            (subst (λ (x : Block). slice_get x.facts f ≡ Some fact) same_block there.1.in_block) formed.form.its.in_block
