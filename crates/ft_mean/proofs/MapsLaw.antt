-- Every list in range has exactly one image under IN or OUT.
use Rattle.std.proofs.Common.{◌≡◌, ◌∙◌, sym, ap, subst, ℕ, ◌<◌, ◌≤◌, ℤ, [], length, arith, ext_get_or, inl, inr, ◌⊎◌}
use Rattle.std.specs.Prelude.{IsTrue}
use Rattle.std.proofs.lemmas.Bool.{cases_lt}
use Rattle.ft_base.specs.Interval.{IsWithin}
use Rattle.ft_core.specs.declared.tables.Tables.{Tables}
use Rattle.ft_core.specs.declared.tables.Var.{Var}
use Rattle.ft_core.specs.declared.tables.Section.{Section}
use Rattle.ft_core.specs.declared.tables.Section.TheVariants as section
use Rattle.ft_core.specs.declared.tables.Side.TheVariants as side
use Rattle.ft_core.specs.meaning.Kinds.{Kinds, monitored, defined_kinds, image_kinds, side_kinds}
use Rattle.ft_mean.specs.meaning.Value.{View}
use Rattle.ft_mean.specs.meaning.Reading.{Scans, IsListOf, IsVar, reading_of}
use Rattle.ft_mean.specs.meaning.Memory.{look}
use Rattle.ft_mean.specs.meaning.Cells.{defined}
use Rattle.ft_mean.specs.meaning.Proper.{AllProper}
use Rattle.ft_mean.specs.meaning.Fits.{Maps, Only}
use Rattle.ft_mean.specs.laws.Laws.{HasOneImage}
use Rattle.ft_mean.proofs.ImageLemmas.{in_image, of_image, none_given}
use Rattle.ft_mean.proofs.WellFormed.{opened, IsWellFormed}
use Rattle.ft_mean.proofs.Rows.{length-gathered, same_rows}
use Rattle.ft_mean.proofs.MemoryLemmas.{look_local}
use Rattle.ft_mean.proofs.OneScan.{Answer, answer}
use Rattle.ft_mean.proofs.Exists.{Pick, pick}
use Rattle.ft_mean.proofs.Traces.{reading_at, reading_range, rows, length-rows, row_at, reading-rows}

module _ (S : Tables) (wf : IsWellFormed S) (proper : AllProper S) (section : Section) (kinds : Kinds) (h : Scans)
    (in_range : IsListOf S kinds h) where
  abbrev here : ℕ → View
  here t = look S (reading_of S kinds h) t

  answer_at : (t x : ℕ) (v : Var) → t < length h → IsVar S (defined_kinds section) x v → Answer S section (here t) x v.range
  answer_at t x v l is = answer S wf proper section (here t) x v is
      (λ o. look_local S wf (reading_of S kinds h) t (λ j y u m there. reading_range S wf kinds h in_range j y u (omega (arith, m, l))
      there) _)

  abbrev Wanted : ℕ → ℕ → ℤ → Type 0
  Wanted t x z = t < length h → IsTrue (defined S section (here t) x z)

  picks : (t x : ℕ) → Pick S (image_kinds section) (Wanted t x) x
  picks t x = pick S wf (image_kinds section) (Wanted t x) x (λ v is. made v (of_image S section x v is) (cases_lt t (length h)))
    where
      made : (v : Var) → IsVar S (defined_kinds section) x v → (t < length h) ⊎ (length h ≤ t) → (z : ℤ) × IsWithin v.range z × Wanted t x z
      made v is (inl below) = let one = answer_at t x v below is in (one.z, one.in_range, λ l. one.is)
      made v is (inr past) = (v.init, wf.inits x v is.0, λ l. absurd (omega (arith, l, past)))

  abbrev image : Scans
  image = rows S (image_kinds section) (λ t x. (picks t x).z) (length h)

  maps : Maps S section kinds h image
  maps =
      let long : length image ≡ length h = length-rows S (image_kinds section) (λ t x. (picks t x).z) (length h) in
      let tells : (t x : ℕ) (v : Var) → t < length image → IsVar S (image_kinds section) x v → reading_of S (image_kinds section) image t x
      ≡ (picks t x).z =
      λ t x v l is. reading-rows S (image_kinds section) (λ t x. (picks t x).z) (length h) t x v (omega (arith, l, long)) is in
      record {
        lengths = long;
        values = record {
          widths = λ t l. ap length (row_at S (image_kinds section) (λ t x. (picks t x).z) (length h) t (omega (arith, l, long)))
              ∙ length-gathered (image_kinds section) S.vars (λ x. (picks t x).z);
          ranges = λ t x v l is. subst (λ z. IsWithin v.range z) (sym (tells t x v l is)) ((picks t x).in_range v is.0);
        };
        same_given = λ t x v l is other. absurd (none_given S section x v is other);
        follows = λ t l x v is. let on = in_image S section x v is in
            subst (λ z. IsTrue (defined S section (here t) x z)) (sym (tells t x v l on)) ((picks t x).holds v on (omega (arith, l, long)));
      }

  same_images : (p q : Scans) → Maps S section kinds h p → Maps S section kinds h q → p ≡ q
  same_images p q fp fq = ext_get_or [] p q (fp.lengths ∙ sym fq.lengths) (λ i below.
      same_rows (image_kinds section) S.vars _ _ (fp.values.widths i below)
      (fq.values.widths i (omega (arith, below, fp.lengths, fq.lengths)))
      (λ x v is k.
      let on = of_image S section x v (is, k) in
      let one = answer_at i x v (omega (arith, below, fp.lengths)) on in
      sym (reading_at S (image_kinds section) p i x v (is, k))
      ∙ one.only _ (fp.follows i below x v on)
      ∙ sym (one.only _ (fq.follows i (omega (arith, below, fp.lengths, fq.lengths)) x v on))
      ∙ reading_at S (image_kinds section) q i x v (is, k)))

  pub maps_one : (p : Scans) × Only (Maps S section kinds h) p
  maps_one = (image, record { is = maps; alone = λ q fq. same_images q image fq maps })

-- every monitored list has exactly one list of inputs, and every design trace in range exactly one list of controlled values
pub one_image : HasOneImage
one_image S proper = (
  (λ h in_range. maps_one S (opened S) proper section.In monitored h in_range),
  (λ s in_range. maps_one S (opened S) proper section.Out (side_kinds side.Sof) s in_range),
)
