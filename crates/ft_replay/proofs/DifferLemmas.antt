-- What a replayer found of its list.
use Rattle.std.proofs.Common.{◌∙◌, sym, ap, subst, ℕ, ◌<◌, length, Option, Some, None, arith}
use Rattle.std.specs.Prelude.{IfSome, IfNone}
use Rattle.ft_core.specs.declared.tables.Tables.{Tables}
use Rattle.ft_core.specs.declared.tables.Side.TheVariants as side
use Rattle.ft_mean.specs.meaning.Fits.{Fits, InputMap, Only, OutputMap}
use Rattle.ft_mean.specs.meaning.Proper.{AllProper}
use Rattle.ft_mean.specs.meaning.Reading.{Scans}
use Rattle.ft_mean.specs.meaning.Refines.{FirstDiffers, Runs, SameAt}
use Rattle.ft_replay.specs.scans.Differing.{IsFirst}
use Rattle.ft_replay.specs.scans.IsReplaying.{Replays}
use Rattle.ft_replay.specs.laws.Laws.{Laws}
use Rattle.ft_replay.proofs.FirstLemmas.{one-run}

-- what is one of a kind that has only one is the only one
only-one : (P : Scans → Type 0) → (q : Scans) × Only P q → (r : Scans) → P r → Only P r
only-one P one r is = record { is = is; alone = λ p also. one.1.alone p also ∙ sym (one.1.alone r is) }

module _ (L : Laws) (S : Tables) (proper : AllProper S) (h r i s : Scans) (o : Option ℕ) (run : Replays S h r i s o) where
  controlled-map : OutputMap S s run.controlled_list
  controlled-map = (L.outputs_alone S s run.outputs_list run.controlled_list run.put_out.0 run.put_out.1).1 run.output_map

  -- a list with a scan runs so
  runs : (k : ℕ) → k < length h → Runs S h r i s run.controlled_list
  runs k less = record {
    allowed = record {
      monitored_list = record { nonempty = λ none. omega (arith, less, ap length none); values = run.required.is_given };
      clauses = run.clauses;
    };
    required = only-one (Fits S side.Req h) (L.one_trace S proper side.Req h run.required.is_given) r run.required;
    inputs = only-one (InputMap S h) ((L.one_image S proper).0 h run.required.is_given) i run.input_map;
    design = only-one (Fits S side.Sof i) (L.one_trace S proper side.Sof i run.design.is_given) s run.design;
    outputs = only-one (OutputMap S s) ((L.one_image S proper).1 s run.design.values) run.controlled_list controlled-map;
  }

  found : (k : ℕ) → IsFirst S r run.controlled_list (length h) (Some k) → FirstDiffers S h k
  found k f = record {
    r = r;
    i = i;
    s = s;
    c = run.controlled_list;
    runs = runs k f.0;
    in_list = f.0;
    same_before = f.1;
    variable = f.2.variable;
    declared = f.2.declared;
    is_controlled = f.2.is_controlled;
    differs = f.2.differs;
  }

  none-found : IsFirst S r run.controlled_list (length h) None → (k : ℕ) → FirstDiffers S h k → ⊥
  none-found same k d =
      let lists = one-run S h r i s run.controlled_list d.r d.i d.s d.c (runs k d.in_list) d.runs in
      d.differs (subst (λ (x : Scans). SameAt S x d.c k) (sym lists.0)
      (subst (λ (x : Scans). SameAt S r x k) (sym lists.1) (same k d.in_list)) d.variable d.declared d.is_controlled)

  pub first-is : IfSome o (FirstDiffers S h)
  first-is = by o run.is_first
    where
      by : (p : Option ℕ) → IsFirst S r run.controlled_list (length h) p → IfSome p (FirstDiffers S h)
      by None f = tt
      by (Some k) f = found k f

  pub none-is : IfNone o ((k : ℕ) → FirstDiffers S h k → ⊥)
  none-is = by o run.is_first
    where
      by : (p : Option ℕ) → IsFirst S r run.controlled_list (length h) p → IfNone p ((k : ℕ) → FirstDiffers S h k → ⊥)
      by None f = none-found f
      by (Some k) f = tt
