-- From what one scan of both sides ensures to the longer list.
use Rattle.std.proofs.Common.{◌≡◌, ◌∙◌, sym, subst, refl, ℕ, ℤ, Bool, List, [], ◌∷◌, ◌++◌, length, Option, None, arith, slice_index_or}
use Rattle.std.specs.Prelude.{IsTrue}
use Rattle.std.specs.List.{last_or}
use Rattle.std.proofs.lemmas.List.{length_push}
use Rattle.ft_core.specs.declared.tables.Tables.{Tables}
use Rattle.ft_core.specs.declared.tables.Side.{Side}
use Rattle.ft_core.specs.declared.tables.Side.TheVariants as side
use Rattle.ft_core.specs.meaning.Kinds.{outputs, side_kinds, count_of}
use Rattle.ft_base.specs.Interval.{IsWithin}
use Rattle.ft_mean.specs.meaning.Fits.{Fits}
use Rattle.ft_mean.specs.meaning.Reading.{IsListOf, Scans, reading_of}
use Rattle.ft_scan.specs.meaning.Allowing.{nat_after}
use Rattle.ft_scan.specs.meaning.Scanning.{Scanning}
use Rattle.ft_replay.specs.scans.Differing.{IsFirst, first_with}
use Rattle.ft_replay.specs.scans.IsReplaying.{Replays}
use Rattle.ft_replay.specs.laws.Laws.{Laws}
use Rattle.ft_replay.specs.scans.Outputs.{AreOutputs}
use Rattle.ft_replay.specs.scans.BothRan.{BothRan, Ran}
use Rattle.ft_replay.proofs.CountLemmas.{output-of-design}
use Rattle.ft_mean.specs.laws.Ends.{last-tells}
use Rattle.ft_replay.proofs.LongerLemmas.{clauses-more, first-more, in-map-more, out-map-more, outputs-more}

-- the rows that a scanner of this set and side told fit what it was given
ran-fits : (S : Tables) (k : Side) (old new : Scanning) (given row : List ℤ) → old.set ≡ S → old.side ≡ k → Ran old new given row
    → Fits S k (old.given ++ given ∷ []) (old.rows ++ row ∷ [])
ran-fits S k old new given row set side_is ran =
    subst (λ (x : Scans). Fits S k x (old.rows ++ row ∷ [])) ran.list
    (subst (λ (x : Scans). Fits S k new.given x) ran.rows
    (subst (λ (x : Side). Fits S x new.given new.rows) (ran.side ∙ side_is)
    (subst (λ (x : Tables). Fits x new.side new.given new.rows) (ran.set ∙ set) ran.fits)))

carried : (S : Tables) (o : Option ℕ) (h g r q i j s t : Scans) → g ≡ h → q ≡ r → j ≡ i → t ≡ s → Replays S h r i s o → Replays S g q j t o
carried S o h g r q i j s t eh er ei es run =
    subst (λ (x : Scans). Replays S x q j t o) (sym eh)
    (subst (λ (x : Scans). Replays S h x j t o) (sym er)
    (subst (λ (x : Scans). Replays S h r x t o) (sym ei)
    (subst (λ (x : Scans). Replays S h r i x o) (sym es) run)))

-- what is kept goes on with the list
pub replays-more : Laws → (S : Tables) (m : List ℤ) (p q d e : Scanning) (alike : Bool) (first : Option ℕ)
    → p.set ≡ S → p.side ≡ side.Req → d.set ≡ S → d.side ≡ side.Sof
    → Replays S p.given p.rows d.given d.rows first → IsTrue (nat_after S (last_or None p.given) m) → BothRan S m p q d e alike
    → Replays S q.given q.rows e.given e.rows (first_with first (length p.given) alike)
replays-more L S m p q d e alike first p_set p_side d_set d_side run now on =
    carried S (first_with first (length p.given) alike)
    (p.given ++ m ∷ []) q.given (p.rows ++ on.required_row ∷ []) q.rows (d.given ++ on.inputs_row ∷ []) e.given
    (d.rows ++ on.design_row ∷ []) e.rows
    on.required_ran.list on.required_ran.rows on.design_ran.list on.design_ran.rows
    (record {
      outputs_list = run.outputs_list ++ on.outputs_row ∷ [];
      controlled_list = run.controlled_list ++ on.controlled_row ∷ [];
      clauses = clauses-more L S p.given m run.clauses now;
      required = ran-fits S side.Req p q m on.required_row p_set p_side on.required_ran;
      input_map = in-map-more L S p.given d.given m on.inputs_row run.input_map on.input_map;
      design = ran-fits S side.Sof d e on.inputs_row on.design_row d_set d_side on.design_ran;
      put_out = outputs-more L S d.rows run.outputs_list on.design_row on.outputs_row run.put_out on.put_out;
      output_map = out-map-more L S run.outputs_list run.controlled_list on.outputs_row on.controlled_row run.output_map on.output_map;
      is_first = subst (λ (n : ℕ). IsFirst S (p.rows ++ on.required_row ∷ []) (run.controlled_list ++ on.controlled_row ∷ []) n
          (first_with first (length p.given) alike))
          (sym (length_push p.given m))
          (first-more L S p.rows run.controlled_list on.required_row on.controlled_row (length p.given) run.required.lengths
          (run.output_map.lengths ∙ run.put_out.0 ∙ run.design.lengths ∙ run.input_map.lengths) first alike run.is_first on.compared);
    })

-- the outputs of the last scan of a trace of the design are in range
pub outputs-listed : (S : Tables) (rows : Scans) (design_row outputs_row : List ℤ)
    → IsListOf S (side_kinds side.Sof) (rows ++ design_row ∷ [])
    → AreOutputs S (design_row ∷ []) (outputs_row ∷ []) → length outputs_row ≡ count_of outputs S.vars
    → IsListOf S outputs (outputs_row ∷ [])
outputs-listed S rows design_row outputs_row listed put wide = record {
  widths = λ t l. let e : 0 ≡ t = omega (arith, l) in
      subst (λ (k : ℕ). length (slice_index_or (outputs_row ∷ []) k []) ≡ count_of outputs S.vars) e wide;
  ranges = λ t x v l is.
      let e : 0 ≡ t = omega (arith, l) in
      subst (λ (k : ℕ). IsWithin v.range (reading_of S outputs (outputs_row ∷ []) k x)) e
      (subst (λ (z : ℤ). IsWithin v.range z)
      (last-tells S (side_kinds side.Sof) rows design_row (length rows) x refl ∙ put.1 0 x v (omega arith) is)
      (listed.ranges (length rows) x v (omega (arith, length_push rows design_row)) (is.0, output-of-design x v is.1)));
}
