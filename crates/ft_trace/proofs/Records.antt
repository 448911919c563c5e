-- The records of some bytes, one at a time.
use Rattle.std.proofs.Common.{◌≡◌, ◌∙◌, ◌⊎◌, ◌+◌, ◌<◌, ℕ, zero, suc, List, [], ◌∷◌, ◌++◌, length, Option, Some, None, Bool, true, false}
use Rattle.std.proofs.Common.{refl, sym, ap, inl, inr, arith, Bor, add-one}
use Rattle.std.specs.Prelude.{MatchBool, cond}
use Rattle.std.proofs.lemmas.Bool.{cases_Bool}
use Rattle.csv.specs.Machine.{Read, ends_at_end, field_after, fields_after, is_end, next_record, step}
use Rattle.csv.specs.Reading.{NextIs, ReadRecord, ReadsNext, default_config, has_failed, pending_of, records_from, records_next, source_of}
use Rattle.csv.specs.declared.parser.Config.{Config}
use Rattle.csv.specs.declared.parser.State.{State}
use Rattle.csv.specs.declared.parser.State.TheVariants as st
use Rattle.csv.specs.declared.reader.Reader.{Reader}
use Rattle.ft_trace.specs.meaning.Source.{Follows, IsPlain, records_at, records_known, rows_left}

-- a record takes bytes, or stands at the end of them
abbrev Takes : List ℕ → Read → Type 0
Takes xs p = (length p.2 < length xs) ⊎ ((xs ≡ []) × (p.2 ≡ []) × (p.1 ≡ st.StartRecord))

longer : (c : ℕ) (rest : List ℕ) (p : Read) → Takes rest p → Takes (c ∷ rest) p
longer c rest p (inl less) = inl (omega arith)
longer c rest p (inr h) = inl (rw h.1 (omega arith))

at-end : (s : State) (fields : List (List ℕ)) (field : List ℕ) (p : Read) (b : Bool)
    → (cond b (Some (fields ++ (field ∷ []), st.StartRecord, [])) None) ≡ Some p → Takes [] p
at-end s fields field p true e = inr (refl, cc e, cc e)
at-end s fields field p false e = cc e

takes : (cfg : Config) (s : State) (fields : List (List ℕ)) (field xs : List ℕ) (p : Read)
    → next_record cfg s fields field xs ≡ Some p → Takes xs p
unfolding next_record
takes cfg s fields field [] p e = at-end s fields field p (ends_at_end s) e
takes cfg s fields field (c ∷ rest) p e = elim (cases_Bool (is_end (step cfg s c).1)) [
  | inl ends ↦ let same : rest ≡ p.2 = cc (rw ends at e) in inl (rw (← same) (omega arith))
  | inr goes ↦ longer c rest p (takes cfg (step cfg s c).0 (fields_after (step cfg s c).1 fields field)
      (field_after (step cfg s c).1 c field) rest p (rw goes at e))
]

pub nothing-left : (n : ℕ) → records_from default_config n st.StartRecord [] ≡ []
unfolding records_from next_record
nothing-left zero = refl
nothing-left (suc n) = refl

same-next : (o : Option Read) (f g : State → List ℕ → List (List (List ℕ))) → ((p : Read) → o ≡ Some p → f p.1 p.2 ≡ g p.1 p.2)
    → records_next f o ≡ records_next g o
same-next None f g h = refl
same-next (Some p) f g h = ap (λ (t : List (List (List ℕ))). p.0 ∷ t) (h p refl)

-- more turns than bytes give the same records
same-records : (n m : ℕ) (s : State) (xs : List ℕ) → length xs < n → length xs < m
    → records_from default_config n s xs ≡ records_from default_config m s xs
unfolding records_from
same-records zero m s xs a b = absurd (omega arith)
same-records (suc n) zero s xs a b = absurd (omega arith)
same-records (suc n) (suc m) s xs a b =
    same-next (next_record default_config s [] [] xs) (records_from default_config n) (records_from default_config m)
    (λ p e. elim (takes default_config s [] [] xs p e) [
      | inl less ↦ same-records n m p.1 p.2 (omega arith) (omega arith)
      | inr h ↦ rw (h.1, h.2) (nothing-left n ∙ sym (nothing-left m))
    ])

-- the first record of some bytes
pub first-record : (s : State) (xs : List ℕ) (p : Read) → next_record default_config s [] [] xs ≡ Some p
    → records_at s xs ≡ p.0 ∷ records_at p.1 p.2
unfolding records_from
first-record s xs p e =
    rw (add-one, e) (ap (λ (t : List (List (List ℕ))). p.0 ∷ t) (elim (takes default_config s [] [] xs p e) [
      | inl less ↦ same-records (length xs) (length p.2 + 1) p.1 p.2 less (omega arith)
      | inr h ↦ rw (h.1, h.2) (nothing-left (length xs) ∙ sym (nothing-left 1))
    ]))

no-record : (s : State) (xs : List ℕ) → next_record default_config s [] [] xs ≡ None → records_at s xs ≡ []
unfolding records_from
no-record s xs e = rw (add-one, e) refl

next-is : (s : State) (xs : List ℕ) (o : Option Read) (found : Bool) (f : List (List ℕ)) (s2 : State) (ys : List ℕ)
    → next_record default_config s [] [] xs ≡ o → NextIs o found f s2 ys
    → MatchBool found (records_at s xs ≡ f ∷ records_at s2 ys) (records_at s xs ≡ [])
next-is s xs None true f s2 ys e h = cc h
next-is s xs None false f s2 ys e h = no-record s xs e
next-is s xs (Some p) true f s2 ys e h = rw (h.1, h.2, h.3) (first-record s xs p e)
next-is s xs (Some p) false f s2 ys e h = cc h.0

reads-next : (s : State) (x k : Option (List ℕ)) (found : Bool) (f : List (List ℕ)) (s2 : State) → (x ≡ None → found ≡ false)
    → ReadsNext default_config s x k found f s2
    → MatchBool found (records_known s x ≡ f ∷ records_known s2 k) (records_known s x ≡ [])
reads-next s None k true f s2 known h = cc (known refl)
reads-next s None k false f s2 known h = refl
reads-next s (Some xs) None found f s2 known h = absurd h
reads-next s (Some xs) (Some ys) found f s2 known h = next-is s xs (next_record default_config s [] [] xs) found f s2 ys refl h

abbrev bytes-in : Bor (List ℕ) → Option (List ℕ)
bytes-in s = Some s.now

some-either : (b : Bool) (x y : List ℕ) → cond b (Some x) (Some y) ≡ None → ⊥
some-either true x y e = cc e
some-either false x y e = cc e

known-unless : (failed b : Bool) (x y : List ℕ) → cond failed None (cond b (Some x) (Some y)) ≡ None → failed ≡ true
known-unless true b x y e = refl
known-unless false b x y e = absurd (some-either b x y e)

-- a reader of bytes in memory that has not failed knows what it has left
known-source : (r : Reader (Bor (List ℕ))) → source_of bytes-in r ≡ None → has_failed r ≡ true
known-source r e = known-unless (has_failed r) _ _ _ e

-- what a read of a record says of the records that are left
pub row-read : (a b : Reader (Bor (List ℕ))) (found : Bool) (f : List (List ℕ)) → Follows a → (has_failed a ≡ true → found ≡ false)
    → (IsPlain a → ReadRecord bytes-in a b found f) → MatchBool found (rows_left a ≡ f ∷ rows_left b) (rows_left a ≡ [])
row-read a b found f (inl failed) stops reads = rw (stops failed, failed) refl
row-read a b found f (inr plain) stops reads =
    let r = reads plain in
    let read = reads-next a.state (source_of bytes-in a) (pending_of (bytes-in b.rdr) b) found f b.state (λ e. stops (known-source a e))
    (rw plain.0 at r.0) in
    rw r.1 read
