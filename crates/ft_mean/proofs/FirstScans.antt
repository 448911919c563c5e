-- Lists and traces that go on by a scan, and their first scans.
use Rattle.std.proofs.Common.{◌≡◌, ◌∙◌, sym, ap, subst, refl, ℕ, suc, ◌<◌, min, [], ◌∷◌, cond, length, take, slice_index_or, pos, arith}
use Rattle.std.proofs.lemmas.List.{length-take, get_or-take}
use Rattle.ft_base.specs.Interval.{IsWithin}
use Rattle.ft_core.specs.declared.tables.Tables.{Tables}
use Rattle.ft_core.specs.declared.tables.Side.TheVariants as side
use Rattle.ft_core.specs.declared.tables.Section.{Section}
use Rattle.ft_core.specs.declared.tables.Section.TheVariants as section
use Rattle.ft_core.specs.meaning.Kinds.{Kinds, monitored, controlled, outputs, image_kinds, given_kinds, side_kinds, place_of, is_of}
use Rattle.ft_core.specs.meaning.Reads.{Read}
use Rattle.ft_mean.specs.meaning.Cells.{defined}
use Rattle.ft_mean.specs.meaning.Fits.{Fits, Maps, side_reading}
use Rattle.ft_mean.specs.meaning.Memory.{look}
use Rattle.ft_mean.specs.meaning.Reading.{Scans, IsListOf, reading_of, init_of}
use Rattle.ft_mean.specs.laws.TraceLaws.{FitsLonger, AllowedShorter, FitsShorter, InputsShorter, OutputsShorter, SameFront, DiffersShorter}
use Rattle.ft_mean.proofs.ByScan.{follows_again}
use Rattle.ft_mean.proofs.LookLemmas.{side_follows, nat_same}
use Rattle.ft_mean.proofs.Longer.{fits_longer}
use Rattle.ft_mean.proofs.Traces.{one_trace}
use Rattle.ft_mean.proofs.WellFormed.{opened, NowOf, MayRead}
use Rattle.ft_mean.proofs.WholeLemmas.{runs}

pub longer : FitsLonger
longer = fits_longer

-- a scan of the first n is one of the list
inside : (n t : ℕ) (h : Scans) → t < length (take n h) → (t < n) × (t < length h)
inside n t h l = let long = length-take n h in (omega (arith, l, long), omega (arith, l, long))

module _ (S : Tables) (kinds : Kinds) (h : Scans) (n : ℕ) where
  -- the first n scans tell what the list tells there
  reading_take : (t x : ℕ) → t < n → reading_of S kinds (take n h) t x ≡ reading_of S kinds h t x
  reading_take t x l =
      ap (λ row. cond (is_of S.vars kinds x) (slice_index_or row (place_of kinds S.vars x) (pos 0)) (init_of S x)) (get_or-take n h t [] l)

  list_take : IsListOf S kinds h → IsListOf S kinds (take n h)
  list_take list = record {
    widths = λ t l. let in_both = inside n t h l in ap length (get_or-take n h t [] in_both.0) ∙ list.widths t in_both.1;
    ranges = λ t x v l is. let in_both = inside n t h l in subst (IsWithin v.range) (sym (reading_take t x in_both.0))
        (list.ranges t x v in_both.1 is);
  }

same_lengths : (n : ℕ) (p q : Scans) → length p ≡ length q → length (take n p) ≡ length (take n q)
same_lengths n p q same = length-take n p ∙ ap (min n) same ∙ sym (length-take n q)

some_scan : (h : Scans) → (h ≡ [] → ⊥) → 0 < length h
some_scan [] none = absurd (none refl)
some_scan (row ∷ rows) some = omega arith

pub allowed_shorter : AllowedShorter
allowed_shorter S h n some allowed = record {
  monitored_list = record {
    nonempty = λ e.
        let long = length-take n h in
        let none : length (take n h) ≡ 0 = ap length e in
        let many = some_scan h allowed.monitored_list.nonempty in
        absurd (omega (arith, long, none, many, some));
    values = list_take S monitored h n allowed.monitored_list.values;
  };
  clauses = λ t l. let in_both = inside n t h l in
      nat_same S (reading_of S monitored (take n h)) (reading_of S monitored h) t
      (λ j x v m is. reading_take S monitored h n j x (omega (arith, m, in_both.0)))
      ∙ allowed.clauses t in_both.1;
}

pub fits_shorter : FitsShorter
fits_shorter S s given trace n fits = record {
  is_given = list_take S (given_kinds s) given n fits.is_given;
  lengths = same_lengths n trace given fits.lengths;
  values = list_take S (side_kinds s) trace n fits.values;
  same_given = λ t x v l is. let in_both = inside n t trace l in
      reading_take S (side_kinds s) trace n t x in_both.0 ∙ fits.same_given t x v in_both.1 is
      ∙ sym (reading_take S (given_kinds s) given n t x in_both.0);
  follows = λ t l. let in_both = inside n t trace l in
      side_follows S s (side_reading S s trace) (side_reading S s (take n trace)) t
      (λ j x v m is. sym (reading_take S (side_kinds s) trace n j x (omega (arith, m, in_both.0)))) (fits.follows t in_both.1);
}

module _ (S : Tables) (section : Section) (kinds own : Kinds) (reads : (r : Read) → MayRead S section r → NowOf S own r)
    (list image : Scans) (n : ℕ) where
  maps_shorter : Maps S section kinds list image → Maps S section kinds (take n list) (take n image)
  maps_shorter maps = record {
    lengths = same_lengths n image list maps.lengths;
    values = list_take S (image_kinds section) image n maps.values;
    same_given = λ t x v l is other. let in_both = inside n t image l in
        reading_take S (image_kinds section) image n t x in_both.0 ∙ maps.same_given t x v in_both.1 is other
        ∙ sym (reading_take S kinds list n t x in_both.0);
    follows = λ t l x v is. let in_both = inside n t image l in
        ap (defined S section (look S (reading_of S kinds (take n list)) t) x) (reading_take S (image_kinds section) image n t x in_both.0)
        ∙ follows_again S (opened S) section own reads (look S (reading_of S kinds list) t) (look S (reading_of S kinds (take n list)) t)
        (reading_of S (image_kinds section) image t) (λ y on. sym (reading_take S kinds list n t y in_both.0)) (maps.follows t in_both.1) x
        v is;
  }

pub inputs_shorter : InputsShorter
inputs_shorter S h i n = maps_shorter S section.In monitored monitored (λ r may. may) h i n

pub outputs_shorter : OutputsShorter
outputs_shorter S trace image n = maps_shorter S section.Out (side_kinds side.Sof) outputs (λ r may. may) trace image n

pub same_fronts : SameFront
same_fronts S proper s given trace other its n fr fq same =
    let mine = fits_shorter S s given trace n fr in
    let one = one_trace S proper s (take n given) mine.is_given in
    one.1.alone (take n trace) mine ∙ sym (one.1.alone (take n its) (subst (λ g. Fits S s g (take n its)) (sym same)
    (fits_shorter S s other its n fq)))

pub differs_shorter : DiffersShorter
differs_shorter S proper h k d =
    let n : ℕ = suc k in
    let long = length-take n h in
    record {
      r = take n d.r;
      i = take n d.i;
      s = take n d.s;
      c = take n d.c;
      runs = runs S proper (take n h) (take n d.r) (take n d.i) (take n d.s) (take n d.c)
          (allowed_shorter S h n (omega arith) d.runs.allowed)
          (fits_shorter S side.Req h d.r n d.runs.required.is)
          (inputs_shorter S h d.i n d.runs.inputs.is)
          (fits_shorter S side.Sof d.i d.s n d.runs.design.is)
          (outputs_shorter S d.s d.c n d.runs.outputs.is);
      in_list = omega (arith, long, d.in_list);
      same_before = λ t l x v is.
          reading_take S (side_kinds side.Req) d.r n t x (omega (arith, l)) ∙ d.same_before t l x v is
          ∙ sym (reading_take S controlled d.c n t x (omega (arith, l)));
      variable = d.variable;
      declared = d.declared;
      is_controlled = d.is_controlled;
      differs = λ e. d.differs (sym (reading_take S (side_kinds side.Req) d.r n k d.variable (omega arith)) ∙ e
          ∙ reading_take S controlled d.c n k d.variable (omega arith));
    }
