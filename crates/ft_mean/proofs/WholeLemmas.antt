-- An allowed list with its inputs and its traces, as one reading of all variables, and such a reading cut into its lists.
use Rattle.std.proofs.Common.{◌≡◌, ◌∙◌, sym, ap, subst, ℕ, ◌<◌, ℤ, false, length, slice_get, Some, arith, ⊎_elim, true≢false}
use Rattle.std.specs.Prelude.{IsTrue}
use Rattle.std.proofs.lemmas.Bool.{cond-true, cond-false}
use Rattle.ft_base.specs.Interval.{IsWithin}
use Rattle.ft_core.specs.declared.tables.Tables.{Tables}
use Rattle.ft_core.specs.declared.tables.Var.{Var}
use Rattle.ft_core.specs.declared.tables.Side.{Side}
use Rattle.ft_core.specs.declared.tables.Side.TheVariants as side
use Rattle.ft_core.specs.declared.tables.Section.TheVariants as section
use Rattle.ft_core.specs.meaning.Kinds.{Kinds, monitored, controlled, inputs, outputs, given_kinds, side_kinds, section_of, is_of}
use Rattle.ft_core.specs.meaning.Reads.{Read, at_now, at_before, of_memory, of_age}
use Rattle.ft_mean.specs.meaning.Allowed.{Allowed}
use Rattle.ft_mean.specs.meaning.Cells.{defined, Follows}
use Rattle.ft_mean.specs.laws.EvaluationLaws.{Same}
use Rattle.ft_mean.specs.meaning.Fits.{Fits, InputMap, OutputMap, Only, side_reading}
use Rattle.ft_mean.specs.meaning.Memory.{look}
use Rattle.ft_mean.specs.meaning.Proper.{AllProper}
use Rattle.ft_mean.specs.meaning.Reading.{Reading, Scans, IsListOf, IsVar, reading_of}
use Rattle.ft_mean.specs.meaning.Refines.{Runs, SameAt, FirstDiffers}
use Rattle.ft_mean.specs.laws.RowLaws.{RowsOf}
use Rattle.ft_mean.specs.meaning.Value.{View}
use Rattle.ft_mean.specs.laws.Whole.{joint, IsWhole, ReadsAsWhole, RunsAreWhole, WholeSplits, WholesSplit, SplitsAreRuns, SplitsDiffer}
use Rattle.ft_mean.proofs.ByScan.{follows_again}
use Rattle.ft_mean.proofs.Exists.{given_side}
use Rattle.ft_mean.proofs.ImageLemmas.{none_given}
use Rattle.ft_mean.proofs.LookLemmas.{side_follows, nat_same}
use Rattle.ft_mean.proofs.MapsLaw.{one_image}
use Rattle.ft_mean.proofs.MemoryLemmas.{look_local}
use Rattle.ft_mean.proofs.OneScan.{answer}
use Rattle.ft_mean.proofs.RowReads.{has_rows}
use Rattle.ft_mean.proofs.SideLemmas.{of_var, some_side, not_required, controlled_side, output_side}
use Rattle.ft_mean.proofs.TableReads.{cells_may_read, defined_alike}
use Rattle.ft_mean.proofs.Traces.{one_trace, reading_range}
use Rattle.ft_mean.proofs.WellFormed.{opened, read_test, NowOf}

-- what OUT gives along a reading whose outputs are those of a design trace, it gives along the trace
module _ (S : Tables) (ρ : Reading) (s c : Scans) (values : IsListOf S (side_kinds side.Sof) s) (maps : OutputMap S s c) (t : ℕ)
    (inside : t < length s)
    (agree : (x : ℕ) (v : Var) → IsVar S outputs x v → ρ t x ≡ side_reading S side.Sof s t x) where
  abbrev there : View
  there = look S (side_reading S side.Sof s) t

  sees_outputs : (q : Read) → NowOf S outputs q → Same there (look S ρ t) q
  sees_outputs (at_now y) on = sym (agree y on.0 on.1)
  sees_outputs (at_before y) on = absurd on
  sees_outputs (of_memory m) on = absurd on
  sees_outputs (of_age m) on = absurd on

  out_same : (x : ℕ) (z : ℤ) → defined S section.Out there x z ≡ defined S section.Out (look S ρ t) x z
  out_same x z = defined_alike S section.Out there (look S ρ t) x z
      (λ q k. sees_outputs q (read_test S section.Out q (cells_may_read S section.Out x q k)))

  pub out_given : (x : ℕ) (v : Var) → IsVar S controlled x v → IsTrue (defined S section.Out (look S ρ t) x (reading_of S controlled c t x))
  out_given x v is = sym (out_same x _) ∙ maps.follows t (omega (arith, inside, maps.lengths)) x v is

  pub out_only : AllProper S → (x : ℕ) (v : Var) (z : ℤ) → IsVar S controlled x v → IsTrue (defined S section.Out (look S ρ t) x z) → z
      ≡ reading_of S controlled c t x
  out_only proper x v z is d =
      let one = answer S (opened S) proper section.Out there x v is
      (λ o. look_local S (opened S) (side_reading S side.Sof s) t (λ j y u m at. reading_range S (opened S) (side_kinds side.Sof) s values j
      y u (omega (arith, m, inside)) at) _) in
      one.only z (out_same x z ∙ d) ∙ sym (one.only _ (maps.follows t (omega (arith, inside, maps.lengths)) x v is))

module _ (S : Tables) (h r i s : Scans) (allowed : Allowed S h) (fits : Fits S side.Req h r) (ins : InputMap S h i)
    (design : Fits S side.Sof i s) where
  abbrev ρ : Reading
  ρ = joint S r s

  long : length s ≡ length h
  long = design.lengths ∙ ins.lengths

  on_req : (t x : ℕ) (v : Var) → t < length h → IsVar S (side_kinds side.Req) x v → ρ t x ≡ side_reading S side.Req r t x
  on_req t x v l is = cond-true (is_of S.vars (side_kinds side.Req) x) _ (side_reading S side.Sof s t x)
      (of_var S (side_kinds side.Req) x v is)

  on_sof : (t x : ℕ) (v : Var) → t < length h → IsVar S (side_kinds side.Sof) x v → ρ t x ≡ side_reading S side.Sof s t x
  on_sof t x v l is = cond-false (is_of S.vars (side_kinds side.Req) x) (side_reading S side.Req r t x) _ (not_required S x v is)

  range_at : (t x : ℕ) (v : Var) → t < length h → slice_get S.vars x ≡ Some v → IsWithin v.range (ρ t x)
  range_at t x v l is = ⊎_elim
      (λ on. subst (IsWithin v.range) (sym (on_req t x v l on)) (fits.values.ranges t x v (omega (arith, l, fits.lengths)) on))
      (λ on. subst (IsWithin v.range) (sym (on_sof t x v l on)) (design.values.ranges t x v (omega (arith, l, long)) on))
      (some_side S x v is)

  as_monitored : (t x : ℕ) (v : Var) → t < length h → IsVar S monitored x v → ρ t x ≡ reading_of S monitored h t x
  as_monitored t x v l is = on_req t x v l (given_side S side.Req x v is) ∙ fits.same_given t x v (omega (arith, l, fits.lengths)) is

  as_input : (t x : ℕ) (v : Var) → t < length h → IsVar S inputs x v → ρ t x ≡ reading_of S inputs i t x
  as_input t x v l is = on_sof t x v l (given_side S side.Sof x v is) ∙ design.same_given t x v (omega (arith, l, long)) is

  as_output : (t x : ℕ) (v : Var) → t < length h → IsVar S outputs x v → ρ t x ≡ side_reading S side.Sof s t x
  as_output t x v l is = on_sof t x v l (output_side S x v is)

  whole : IsWhole S (length h) ρ
  whole = record {
    ranges = range_at;
    clauses = λ t l. nat_same S ρ (reading_of S monitored h) t (λ j x v m is. as_monitored j x v (omega (arith, l, m)) is)
        ∙ allowed.clauses t l;
    inputs = λ t l x v is.
        let follows = follows_again S (opened S) section.In monitored (λ q m. m) (look S (reading_of S monitored h) t) (look S ρ t)
        (reading_of S inputs i t)
        (λ y on. sym (as_monitored t y on.0 l on.1)) (ins.follows t (omega (arith, l, ins.lengths))) in
        ap (defined S section.In (look S ρ t) x) (as_input t x v l is) ∙ follows x v is;
    required = λ t l. side_follows S side.Req (side_reading S side.Req r) ρ t (λ j x v m is. sym (on_req j x v (omega (arith, l, m)) is))
        (fits.follows t (omega (arith, l, fits.lengths)));
    designed = λ t l. side_follows S side.Sof (side_reading S side.Sof s) ρ t (λ j x v m is. sym (on_sof j x v (omega (arith, l, m)) is))
        (design.follows t (omega (arith, l, long)));
  }

  pub reads_as_whole : ReadsAsWhole S h r s ρ
  reads_as_whole = record {
    whole = whole;
    as_required = on_req;
    as_designed = on_sof;
    gives = λ c maps t x v l is. out_given S ρ s c design.values maps t (omega (arith, l, long)) (λ y u on. as_output t y u l on) x v is;
    as_put_out = λ proper c maps t x v z l is d. out_only S ρ s c design.values maps t (omega (arith, l, long))
        (λ y u on. as_output t y u l on) proper x v z is d;
  }

pub runs_are_whole : RunsAreWhole
runs_are_whole S h r i s allowed fits ins design = reads_as_whole S h r i s allowed fits ins design

-- a whole reading cut into its lists
module _ (S : Tables) (n : ℕ) (ρ : Reading) (some : 0 < n) (whole : IsWhole S n ρ) where
  abbrev cut : Kinds → Scans
  cut kinds = (has_rows S kinds ρ n).0

  rows_of : (kinds : Kinds) → RowsOf S kinds ρ n (cut kinds)
  rows_of kinds = (has_rows S kinds ρ n).1

  cut_list : (kinds : Kinds) → IsListOf S kinds (cut kinds)
  cut_list kinds = let of = rows_of kinds in record {
    widths = λ t l. of.widths t (omega (arith, l, of.long));
    ranges = λ t x v l is. subst (IsWithin v.range) (sym (of.tells t x v (omega (arith, l, of.long)) is))
        (whole.ranges t x v (omega (arith, l, of.long)) is.0);
  }

  cut_follows : (s : Side) → ((t : ℕ) → t < n → Follows S (section_of s) (look S ρ t) (ρ t)) → (t : ℕ) → t < length (cut (side_kinds s))
      → Follows S (section_of s) (look S (side_reading S s (cut (side_kinds s))) t) (side_reading S s (cut (side_kinds s)) t)
  cut_follows s follows t l =
      let of = rows_of (side_kinds s) in
      let low : t < n = omega (arith, l, of.long) in
      side_follows S s ρ (side_reading S s (cut (side_kinds s))) t (λ j x v m is. sym (of.tells j x v (omega (arith, m, low)) is))
      (follows t low)

  cut_fits : (s : Side) → ((t : ℕ) → t < n → Follows S (section_of s) (look S ρ t) (ρ t))
      → Fits S s (cut (given_kinds s)) (cut (side_kinds s))
  cut_fits s follows = let of = rows_of (side_kinds s) in let given = rows_of (given_kinds s) in record {
    is_given = cut_list (given_kinds s);
    lengths = of.long ∙ sym given.long;
    values = cut_list (side_kinds s);
    same_given = λ t x v l is.
        let low : t < n = omega (arith, l, of.long) in of.tells t x v low (given_side S s x v is) ∙ sym (given.tells t x v low is);
    follows = cut_follows s follows;
  }

  cut_allowed : Allowed S (cut monitored)
  cut_allowed = let of = rows_of monitored in record {
    monitored_list = record {
      nonempty = λ e. let long = of.long in let none = ap length e in absurd (omega (arith, long, none, some));
      values = cut_list monitored;
    };
    clauses = λ t l.
        let low : t < n = omega (arith, l, of.long) in
        nat_same S (reading_of S monitored (cut monitored)) ρ t (λ j x v m is. of.tells j x v (omega (arith, m, low)) is)
        ∙ whole.clauses t low;
  }

  cut_inputs : InputMap S (cut monitored) (cut inputs)
  cut_inputs = let of = rows_of monitored in let image = rows_of inputs in record {
    lengths = image.long ∙ sym of.long;
    values = cut_list inputs;
    same_given = λ t x v l is other. absurd (none_given S section.In x v is other);
    follows = λ t l x v is.
        let low : t < n = omega (arith, l, image.long) in
        ap (defined S section.In (look S (reading_of S monitored (cut monitored)) t) x) (image.tells t x v low is)
        ∙ follows_again S (opened S) section.In monitored (λ q m. m) (look S ρ t) (look S (reading_of S monitored (cut monitored)) t) (ρ t)
        (λ y on. sym (of.tells t y on.0 low on.1)) (whole.inputs t low) x v is;
  }

  pub splits : WholeSplits S n ρ
  splits = record {
    h = cut monitored;
    r = cut (side_kinds side.Req);
    i = cut inputs;
    s = cut (side_kinds side.Sof);
    long = (rows_of monitored).long;
    allowed = cut_allowed;
    required = cut_fits side.Req whole.required;
    input_map = cut_inputs;
    design = cut_fits side.Sof whole.designed;
    tells_given = (rows_of monitored).tells;
    tells_required = (rows_of (side_kinds side.Req)).tells;
    tells_designed = (rows_of (side_kinds side.Sof)).tells;
  }

pub wholes_split : WholesSplit
wholes_split S n ρ some whole = splits S n ρ some whole

only_one : (P : Scans → Type 0) (q p : Scans) → Only P q → P p → Only P p
only_one P q p only is = record { is = is; alone = λ o also. only.alone o also ∙ sym (only.alone p is) }

-- where the tables are proper, lists that fit are the only ones of their kinds
module _ (S : Tables) (proper : AllProper S) (h r i s c : Scans) (allowed : Allowed S h) (fits : Fits S side.Req h r) (ins : InputMap S h i)
    (design : Fits S side.Sof i s) (out : OutputMap S s c) where
  pub runs : Runs S h r i s c
  runs = record {
    allowed = allowed;
    required = let one = one_trace S proper side.Req h fits.is_given in only_one (Fits S side.Req h) one.0 r one.1 fits;
    inputs = let one = (one_image S proper).0 h allowed.monitored_list.values in only_one (InputMap S h) one.0 i one.1 ins;
    design = let one = one_trace S proper side.Sof i design.is_given in only_one (Fits S side.Sof i) one.0 s one.1 design;
    outputs = let one = (one_image S proper).1 s design.values in only_one (OutputMap S s) one.0 c one.1 out;
  }

module _ (S : Tables) (proper : AllProper S) (n : ℕ) (ρ : Reading) (w : WholeSplits S n ρ) where
  pub split_runs : (c : Scans) × Runs S w.h w.r w.i w.s c
  split_runs =
      let image = (one_image S proper).1 w.s w.design.values in
      (image.0, runs S proper w.h w.r w.i w.s image.0 w.allowed w.required w.input_map w.design image.1.is)

  abbrev c : Scans
  c = split_runs.0

  maps : OutputMap S w.s c
  maps = split_runs.1.outputs.is

  long_s : length w.s ≡ n
  long_s = w.design.lengths ∙ w.input_map.lengths ∙ w.long

  agrees : (t : ℕ) → t < n → (x : ℕ) (v : Var) → IsVar S outputs x v → ρ t x ≡ side_reading S side.Sof w.s t x
  agrees t l x v is = sym (w.tells_designed t x v l (output_side S x v is))

  same_at : (t : ℕ) → t < n → ((x : ℕ) (v : Var) → IsVar S controlled x v → IsTrue (defined S section.Out (look S ρ t) x (ρ t x)))
      → SameAt S w.r c t
  same_at t l met x v is =
      w.tells_required t x v l (controlled_side S x v is)
      ∙ out_only S ρ w.s c w.design.values maps t (omega (arith, l, long_s)) (agrees t l) proper x v (ρ t x) is (met x v is)

  -- they first differ where OUT first fails to give the controlled values
  pub first_differs : (k x : ℕ) (v : Var) → k < n → ((t y : ℕ) (u : Var) → t < k → IsVar S controlled y u
      → IsTrue (defined S section.Out (look S ρ t) y (ρ t y)))
      → IsVar S controlled x v → defined S section.Out (look S ρ k) x (ρ k x) ≡ false → FirstDiffers S w.h k
  first_differs k x v l met is fails = record {
    r = w.r;
    i = w.i;
    s = w.s;
    c = c;
    runs = split_runs.1;
    in_list = omega (arith, l, w.long);
    same_before = λ t m. same_at t (omega (arith, m, l)) (λ y u on. met t y u m on);
    variable = x;
    declared = v;
    is_controlled = is;
    differs = λ e.
        let given = out_given S ρ w.s c w.design.values maps k (omega (arith, l, long_s)) (agrees k l) x v is in
        let same = sym e ∙ w.tells_required k x v l (controlled_side S x v is) in
        true≢false (sym given ∙ ap (defined S section.Out (look S ρ k) x) same ∙ fails);
  }

pub splits_are_runs : SplitsAreRuns
splits_are_runs S proper n ρ w = split_runs S proper n ρ w

pub splits_differ : SplitsDiffer
splits_differ S proper n ρ w k x v l met is fails = first_differs S proper n ρ w k x v l met is fails
