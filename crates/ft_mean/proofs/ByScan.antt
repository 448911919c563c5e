-- IN, OUT and NAT, scan by scan.
use Rattle.std.proofs.Common.{◌≡◌, ◌∙◌, sym, subst, ap, refl, ℕ, zero, suc, ◌<◌, ℤ, Bool, true, false, cond, ◌&&◌, [], ◌∷◌, length, List}
use Rattle.std.proofs.Common.{slice_index_or, arith, ⊎_elim}
use Rattle.std.specs.List.{list_all}
use Rattle.std.proofs.lemmas.Bool.{cases_Bool}
use Rattle.ft_base.specs.Interval.{IsWithin}
use Rattle.ft_core.specs.declared.tables.Tables.{Tables}
use Rattle.ft_core.specs.declared.tables.Section.{Section}
use Rattle.ft_core.specs.declared.tables.Section.TheVariants as section
use Rattle.ft_core.specs.declared.tables.Side.TheVariants as side
use Rattle.ft_core.specs.declared.term.Cond.{Cond}
use Rattle.ft_core.specs.laws.Lists.{from_one}
use Rattle.ft_core.specs.meaning.Kinds.{Kinds, monitored, controlled, outputs, image_kinds, side_kinds, count_of}
use Rattle.ft_core.specs.meaning.Reads.{Read, at_now, at_before, of_memory, of_age, cond_reads}
use Rattle.ft_core.specs.checked.Sound.{AllRead, now_of, step_of}
use Rattle.ft_mean.specs.meaning.Value.{View, truth}
use Rattle.ft_mean.specs.meaning.Reading.{Reading, reading_of, begins, before}
use Rattle.ft_mean.specs.meaning.Memory.{look}
use Rattle.ft_mean.specs.meaning.Cells.{Follows}
use Rattle.ft_mean.specs.meaning.Allowed.{nat_at}
use Rattle.ft_mean.specs.meaning.Fits.{Maps}
use Rattle.ft_mean.specs.laws.Alike.{now_alike, step_alike}
use Rattle.ft_mean.specs.laws.Laws.{GoesByScan, MapsByScan, OutputsAlone, AllowedByScan}
use Rattle.ft_mean.proofs.Agree.{Same}
use Rattle.ft_mean.proofs.BegunLemmas.{before_begins, before_later}
use Rattle.ft_mean.proofs.CellLemmas.{own_reads, all_alike}
use Rattle.ft_mean.proofs.TimeLemmas.{begins_first, begins_later}
use Rattle.ft_mean.proofs.ImageLemmas.{none_given}
use Rattle.ft_mean.proofs.WellFormed.{opened, IsOf, NowOf, MayRead, IsWellFormed}
use Rattle.ft_mean.proofs.OneScan.{table_of, defined_same}

module _ (S : Tables) (wf : IsWellFormed S) (section : Section) (kinds : Kinds) (reads : (r : Read) → MayRead S section r → NowOf S kinds r)
  where
    pub same_read : (V W : View) → ((x : ℕ) → IsOf S kinds x → V.now x ≡ W.now x) → (r : Read) → NowOf S kinds r → Same V W r
    same_read V W same (at_now x) on = same x on
    same_read V W same (at_before x) on = absurd on
    same_read V W same (of_memory m) on = absurd on
    same_read V W same (of_age m) on = absurd on

    -- a section that reads variables of these kinds at this scan alone is followed alike where they have the same values
    pub follows_again : (V W : View) (values : ℕ → ℤ) → ((x : ℕ) → IsOf S kinds x → V.now x ≡ W.now x) → Follows S section V values
        → Follows S section W values
    follows_again V W values same follows x v is =
        let o = table_of S wf section x v is in
        sym (defined_same S wf section V W x (values x) o (λ r c.
        same_read V W same r (reads r (subst (λ z. MayRead S z r) o.is.1
        (wf.tables_read o.place o.table r o.is.0 (own_reads o.table.grid x r c))))))
        ∙ follows x v is

    by_scan : GoesByScan S section kinds
    by_scan list image long = (there, back)
      where
        there : Maps S section kinds list image → (t : ℕ) → t < length list
            → Maps S section kinds (slice_index_or list t [] ∷ []) (slice_index_or image t [] ∷ [])
        there maps t below =
            let inside : t < length image = omega (arith, below, long) in
            record {
              lengths = refl;
              values = record {
                widths = λ k one. first (λ k. length (slice_index_or (slice_index_or image t [] ∷ []) k [])
                    ≡ count_of (image_kinds section) S.vars) (maps.values.widths t inside) k one;
                ranges = λ k x v one is. first (λ k. IsWithin v.range (reading_of S (image_kinds section) (slice_index_or image t [] ∷ []) k
                    x)) (maps.values.ranges t x v inside is) k one;
              };
              same_given = λ k x v one is other. first (λ k. reading_of S (image_kinds section) (slice_index_or image t [] ∷ []) k x
                  ≡ reading_of S kinds (slice_index_or list t [] ∷ []) k x)
                  (maps.same_given t x v inside is other) k one;
              follows = λ k one. first (λ k. Follows S section (look S (reading_of S kinds (slice_index_or list t [] ∷ [])) k)
                  (reading_of S (image_kinds section) (slice_index_or image t [] ∷ []) k))
                  (follows_again (look S (reading_of S kinds list) t) (look S (reading_of S kinds (slice_index_or list t [] ∷ [])) 0)
                  (reading_of S (image_kinds section) image t)
                  (λ x on. refl) (maps.follows t inside)) k one;
            }
          where
            first : (P : ℕ → Type 0) → P 0 → (k : ℕ) → k < 1 → P k
            first P p zero l = p
            first P p (suc k) l = absurd (omega (arith, l))

        back : ((t : ℕ) → t < length list → Maps S section kinds (slice_index_or list t [] ∷ []) (slice_index_or image t [] ∷ []))
            → Maps S section kinds list image
        back each = record {
          lengths = long;
          values = record {
            widths = λ t l. (each t (omega (arith, l, long))).values.widths 0 (omega arith);
            ranges = λ t x v l is. (each t (omega (arith, l, long))).values.ranges 0 x v (omega arith) is;
          };
          same_given = λ t x v l is other. (each t (omega (arith, l, long))).same_given 0 x v (omega arith) is other;
          follows = λ t l. follows_again (look S (reading_of S kinds (slice_index_or list t [] ∷ [])) 0) (look S (reading_of S kinds list) t)
              (reading_of S (image_kinds section) image t) (λ x on. refl) ((each t (omega (arith, l, long))).follows 0 (omega arith));
        }

pub maps_by_scan : MapsByScan
maps_by_scan S = (
  by_scan S (opened S) section.In monitored (λ r may. may),
  by_scan S (opened S) section.Out outputs (λ r may. may),
)

pub outputs_alone : OutputsAlone
outputs_alone S trace list image long same = (
  (λ maps. record {
    lengths = maps.lengths ∙ sym long;
    values = maps.values;
    same_given = λ t x v l is other. absurd (none_given S section.Out x v is other);
    follows = λ t l. again (look S (reading_of S (side_kinds side.Sof) trace) t) (look S (reading_of S outputs list) t)
        (reading_of S controlled image t)
        (λ x on. same t x on.0 (omega (arith, l, maps.lengths)) on.1) (maps.follows t l);
  }),
  (λ maps. record {
    lengths = maps.lengths ∙ long;
    values = maps.values;
    same_given = λ t x v l is other. absurd (none_given S section.Out x v is other);
    follows = λ t l. again (look S (reading_of S outputs list) t) (look S (reading_of S (side_kinds side.Sof) trace) t)
        (reading_of S controlled image t)
        (λ x on. sym (same t x on.0 (omega (arith, l, maps.lengths, long)) on.1)) (maps.follows t l);
  }),
)
  where
    again : (V W : View) (values : ℕ → ℤ) → ((x : ℕ) → IsOf S outputs x → V.now x ≡ W.now x) → Follows S section.Out V values
        → Follows S section.Out W values
    again = follows_again S (opened S) section.Out outputs (λ r may. may)

-- clauses whose reads are seen alike hold alike
pub clauses_alike : (may : Read → Bool) (conds : List Cond) (V W : View) → AllRead may conds → ((r : Read) → may r ≡ true → Same V W r)
    → list_all (truth V) conds ≡ list_all (truth W) conds
clauses_alike may conds V W all same =
    all_alike V W conds (λ r c. let at = from_one cond_reads conds r c in same r (all at.0 at.1 r at.2 at.3))

-- the clauses of a scan by whether it begins
nat_by : (S : Tables) (ρ : Reading) (t : ℕ) (anew : Bool) → begins S ρ t ≡ anew
    → nat_at S ρ t ≡ (list_all (truth (look S ρ t)) S.always && list_all (truth (look S ρ t)) (cond anew S.first S.step))
nat_by S ρ t anew is = ap (λ b. list_all (truth (look S ρ t)) S.always && list_all (truth (look S ρ t)) (cond b S.first S.step)) is

-- scans that begin or do not, with the same values at each and one scan before, meet the clauses alike
nat_alike : (S : Tables) (a b : Reading) (t u : ℕ) → begins S a t ≡ begins S b u → ((x : ℕ) → a t x ≡ b u x)
    → ((x : ℕ) → before S a t x ≡ before S b u x)
    → nat_at S a t ≡ nat_at S b u
nat_alike S a b t u same now past =
    let V = look S a t in
    let W = look S b u in
    let always = clauses_alike (now_of S.vars monitored) S.always V W S.sound.always_reads (now_alike S V W now) in
    let first = clauses_alike (now_of S.vars monitored) S.first V W S.sound.first_reads (now_alike S V W now) in
    let next = clauses_alike (step_of S.vars monitored) S.step V W S.sound.step_reads (step_alike S V W now past) in
    ⊎_elim
    (λ is. nat_by S a t true is ∙ (λ i. always i && first i) ∙ sym (nat_by S b u true (sym same ∙ is)))
    (λ is. nat_by S a t false is ∙ (λ i. always i && next i) ∙ sym (nat_by S b u false (sym same ∙ is)))
    (cases_Bool (begins S a t))

pub allowed_by_scan : AllowedByScan
allowed_by_scan S h = (begin, step)
  where
    begin : nat_at S (reading_of S monitored h) 0 ≡ nat_at S (reading_of S monitored (slice_index_or h 0 [] ∷ [])) 0
    begin =
        let a = reading_of S monitored h in
        let b = reading_of S monitored (slice_index_or h 0 [] ∷ []) in
        nat_alike S a b 0 0 (begins_first S a ∙ sym (begins_first S b)) (λ x. refl)
        (λ x. before_begins S a 0 x (begins_first S a) ∙ sym (before_begins S b 0 x (begins_first S b)))

    step : (t : ℕ) → nat_at S (reading_of S monitored h) (suc t) ≡ nat_at S
        (reading_of S monitored (slice_index_or h t [] ∷ slice_index_or h (suc t) [] ∷ [])) 1
    step t =
        let a = reading_of S monitored h in
        let b = reading_of S monitored (slice_index_or h t [] ∷ slice_index_or h (suc t) [] ∷ []) in
        let same = begins_later S a b t 0 in
        nat_alike S a b (suc t) 1 same (λ x. refl) (λ x. ⊎_elim
        (λ is. before_begins S a (suc t) x is ∙ sym (before_begins S b 1 x (sym same ∙ is)))
        (λ is. before_later S a t x is ∙ sym (before_later S b 0 x (sym same ∙ is)))
        (cases_Bool (begins S a (suc t))))
