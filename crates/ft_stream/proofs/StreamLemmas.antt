-- A replayer that is fed by a reader, from its opening on.
use Rattle.std.proofs.Common.{◌≡◌, ◌∙◌, sym, ap, subst, refl, ℕ, zero, suc, ◌+◌, ◌<◌, ℤ, List, [], ◌∷◌, ◌++◌, length, take}
use Rattle.std.proofs.Common.{Some, None, Option, arith, append_assoc, true≢false, ⊎_elim, slice_index_or}
use Rattle.std.specs.Prelude.{IfErr, IfOk, IfSome, IsTrue, IsFalse, OnOk, Result, Ok, Err, true}
use Rattle.std.specs.List.{last_or}
use Rattle.std.proofs.Math.Seq.{take-append_seam}
use Rattle.std.proofs.lemmas.Bool.{cases_lt}
use Rattle.std.proofs.lemmas.List.{get_or_append_left, length-append}
use Rattle.ft_base.specs.Interval.{IsWithin}
use Rattle.ft_core.specs.declared.tables.Tables.{Tables}
use Rattle.ft_core.specs.meaning.Kinds.{monitored, count_of}
use Rattle.ft_mean.specs.meaning.Allowed.{Allowed, nat_at}
use Rattle.ft_mean.specs.meaning.Reading.{Scans, IsListOf, reading_of}
use Rattle.ft_replay.specs.meaning.Replaying.{Replaying}
use Rattle.ft_scan.specs.meaning.Allowing.{nat_after}
use Rattle.ft_trace.specs.declared.fault.TraceFault.{TraceFault}
use Rattle.ft_trace.specs.meaning.Left.{Left}
use Rattle.ft_trace.specs.meaning.Reader.{HasGiven}
use Rattle.ft_trace.specs.meaning.Spelling.{SpellsHistory}
use Rattle.ft_stream.specs.declared.streaming.Streamed.{Streamed}
use Rattle.ft_stream.specs.declared.streaming.Streamed.TheVariants.{Forbidden}
use Rattle.ft_stream.specs.laws.Laws.{Laws}
use Rattle.ft_stream.specs.meaning.Streamed.{ForbiddenAt}
use Rattle.ft_stream.specs.steps.Streams.{MeetsClauses, Streams, kept}
use Rattle.ft_stream.proofs.SpelledLemmas.{is_monitored, last_given}

last-pushed : {A : Type 0} (o : Option A) (xs : List A) (x : A) → last_or o (xs ++ x ∷ []) ≡ Some x
last-pushed o [] x = refl
last-pushed o (y ∷ xs) x = last-pushed (Some y) xs x

kept-pushed : (xs : Scans) (x row : List ℤ) → kept (length (xs ++ x ∷ [])) row ≡ Some row
kept-pushed [] x row = refl
kept-pushed (y ∷ xs) x row = refl

-- what is told of a forbidden scan, by how the rest was read
module _ (scan : ℕ) (rest : Result Unit TraceFault) (result : Result Streamed TraceFault)
    (ok : IfOk rest (λ read. result ≡ Ok (Forbidden scan))) (fault : IfErr rest (λ later. result ≡ Err later)) where
  pub told-so : (P : Streamed → Type 0) → OnOk rest (P (Forbidden scan)) → IfOk result P
  told-so P is = by rest ok fault is
    where
      by : (r : Result Unit TraceFault) → IfOk r (λ read. result ≡ Ok (Forbidden scan)) → IfErr r (λ later. result ≡ Err later)
          → OnOk r (P (Forbidden scan)) → IfOk result P
      by (Ok read) e f p = subst (λ t. IfOk t P) (sym e) p
      by (Err later) e f p = subst (λ t. IfOk t P) (sym f) tt

  pub refused-so : (Q : TraceFault → Type 0) → IfErr rest Q → IfErr result Q
  refused-so Q is = by rest ok fault is
    where
      by : (r : Result Unit TraceFault) → IfOk r (λ read. result ≡ Ok (Forbidden scan)) → IfErr r (λ later. result ≡ Err later)
          → IfErr r Q → IfErr result Q
      by (Ok read) e f q = subst (λ t. IfErr t Q) (sym e) tt
      by (Err later) e f q = subst (λ t. IfErr t Q) (sym f) q

module _ (laws : Laws) (S : Tables) where
  -- what comes after changes no clause
  in-front : (h rest : Scans) (t : ℕ) → t < length h
      → nat_at S (reading_of S monitored (h ++ rest)) t ≡ nat_at S (reading_of S monitored h) t
  in-front h rest zero less =
      (laws.by_scan S (h ++ rest)).0
      ∙ ap (λ (row : List ℤ). nat_at S (reading_of S monitored (row ∷ [])) 0) (get_or_append_left h rest [] 0 less)
      ∙ sym (laws.by_scan S h).0
  in-front h rest (suc t) less =
      (laws.by_scan S (h ++ rest)).1 t
      ∙ ap (λ (row : List ℤ). nat_at S (reading_of S monitored (row ∷ slice_index_or (h ++ rest) (suc t) [] ∷ [])) 1)
      (get_or_append_left h rest [] t (omega (arith, less)))
      ∙ ap (λ (row : List ℤ). nat_at S (reading_of S monitored (slice_index_or h t [] ∷ row ∷ [])) 1)
      (get_or_append_left h rest [] (suc t) less)
      ∙ sym ((laws.by_scan S h).1 t)

  meets-none : (h : Scans) → h ≡ [] → MeetsClauses S h
  meets-none h none t less = absurd (omega (arith, ap length none, less))

  -- the clauses hold at one more scan that is allowed after the last
  meets-more : (h : Scans) (row : List ℤ) → MeetsClauses S h → IsTrue (nat_after S (last_or None h) row) → MeetsClauses S (h ++ row ∷ [])
  meets-more h row meets now t less = ⊎_elim
      (λ below. in-front h (row ∷ []) t below ∙ meets t below)
      (λ least.
      let end : t ≡ length h = omega (arith, least, less, length-append h (row ∷ [])) in
      subst (λ (n : ℕ). IsTrue (nat_at S (reading_of S monitored (h ++ row ∷ [])) n)) (sym end) (laws.after_last S h row ∙ now))
      (cases_lt t (length h))

  -- a list that is spelled, and meets the clauses, is allowed
  pub is-allowed : (bytes : List ℕ) (h : Scans) → SpellsHistory S bytes h → MeetsClauses S h → Allowed S h
  is-allowed bytes h spelled meets = record { monitored_list = is_monitored laws.at_place S bytes h spelled; clauses = meets }

  -- the first scans of a list in range are in range
  front-listed : (h rest : Scans) → IsListOf S monitored (h ++ rest) → IsListOf S monitored h
  front-listed h rest listed = record {
    widths = λ t less. ap length (sym (get_or_append_left h rest [] t less)) ∙ listed.widths t (longer t less);
    ranges = λ t x v less is. subst (λ n. IsWithin v.range n) (laws.in_front S monitored h rest t x less)
        (listed.ranges t x v (longer t less) is);
  }
    where
      longer : (t : ℕ) → t < length h → t < length (h ++ rest)
      longer t less = omega (arith, less, length-append h rest)

  -- g begins with the scans of a list and then a row
  module _ (h g : Scans) (row : List ℤ) (rest : Scans) (made_of : g ≡ (h ++ row ∷ []) ++ rest) where
    pushed : length (h ++ row ∷ []) ≡ length h + 1
    pushed = length-append h (row ∷ [])

    longer : length h < length g
    longer = let long = ap length made_of in omega (arith, long, length-append (h ++ row ∷ []) rest, pushed)

    split : g ≡ h ++ row ∷ rest
    split = made_of ∙ append_assoc h (row ∷ []) rest

    front : take (length h) g ≡ h
    front = ap (take (length h)) split ∙ take-append_seam h (row ∷ rest)

    through : take (length h + 1) g ≡ h ++ row ∷ []
    through = ap (λ (n : ℕ). take n g) (sym pushed) ∙ ap (take (length (h ++ row ∷ []))) made_of ∙ take-append_seam (h ++ row ∷ []) rest

    allowed-before : IsListOf S monitored g → MeetsClauses S h → 0 < length h → Allowed S (take (length h) g)
    allowed-before listed meets some = subst (Allowed S) (sym front) (record {
      monitored_list = record {
        nonempty = λ e. absurd (let none = ap length e in omega (arith, some, none));
        values = front-listed h (row ∷ rest) (subst (IsListOf S monitored) split listed);
      };
      clauses = meets;
    })

    at-row : Allowed S (take (length h + 1) g) → nat_after S (last_or None h) row ≡ true
    at-row allowed = sym (laws.after_last S h row)
        ∙ (subst (Allowed S) through allowed).clauses (length h) (omega (arith, pushed))

  -- a row that the environment doesn't allow after the scans of a list
  pub forbids : (bytes : List ℕ) (h : Scans) (row : List ℤ) (rest : Scans) → SpellsHistory S bytes ((h ++ row ∷ []) ++ rest)
      → MeetsClauses S h → IsFalse (nat_after S (last_or None h) row) → ForbiddenAt S bytes (length h)
  forbids bytes h row rest spelled meets never =
      let g = (h ++ row ∷ []) ++ rest in
      record {
        h = g;
        spelled = spelled;
        in_list = longer h g row rest refl;
        before = allowed-before h g row rest refl (is_monitored laws.at_place S bytes g spelled).values meets;
        forbidden = λ allowed. absurd (true≢false (sym (at-row h g row rest refl allowed) ∙ never));
      }

  module _ (bytes : List ℕ) where
    -- what is said of the last of these scans
    abbrev Kept : List ℤ → Scans → Type 0
    Kept row h = (last_or None h ≡ kept (length h) row) × IfSome (kept (length h) row) (λ last. IsListOf S monitored (last ∷ []))

    made : (reader : Left) (p : Replaying) (row : List ℤ) → p.set ≡ S → HasGiven S bytes reader p.list → MeetsClauses S p.list
        → Kept row p.list → length row ≡ count_of monitored S.vars
        → Streams S bytes reader p row
    made reader p row of_set given clauses last room =
        record { of_set = of_set; given = given; clauses = clauses; last = last.0; within = last.1; room = room }

    pub opened : (reader : Left) (p : Replaying) (row : List ℤ) → p.set ≡ S → p.list ≡ [] → HasGiven S bytes reader []
        → length row ≡ count_of monitored S.vars
        → Streams S bytes reader p row
    opened reader p row of_set none given room =
        made reader p row of_set (subst (HasGiven S bytes reader) (sym none) given) (meets-none p.list none)
        (subst (Kept row) (sym none) (refl, tt)) room

    pub grown : (old new : Left) (p q : Replaying) (earlier row : List ℤ) → Streams S bytes old p earlier
        → HasGiven S bytes new (p.list ++ row ∷ []) → true ≡ nat_after S (kept (length p.list) earlier) row
        → q.set ≡ p.set → q.list ≡ p.list ++ row ∷ [] → length row ≡ count_of monitored S.vars
        → Streams S bytes new q row
    grown old new p q earlier row s given allowed same more room =
        made new q row (same ∙ s.of_set) (subst (HasGiven S bytes new) (sym more) given)
        (subst (MeetsClauses S) (sym more) (meets-more p.list row s.clauses
        (subst (λ (o : Option (List ℤ)). IsTrue (nat_after S o row)) (sym s.last) (sym allowed))))
        (subst (Kept row) (sym more) (
          last-pushed None p.list row ∙ sym (kept-pushed p.list row row),
          subst (λ (o : Option (List ℤ)). IfSome o (λ last. IsListOf S monitored (last ∷ []))) (sym (kept-pushed p.list row row))
              (last_given laws.at_place S bytes new p.list row given),
        )) room
