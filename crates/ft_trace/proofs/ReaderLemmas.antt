-- What a reader stands for, one scan at a time.
use Rattle.std.proofs.Common.{◌≡◌, ◌∙◌, sym, ap, subst, refl, ℕ, ◌+◌, ◌-◌, ◌<◌, ◌≤◌, ℤ, List, [], ◌∷◌, ◌++◌, length, Option, Some, None}
use Rattle.std.proofs.Common.{arith, append_assoc}
use Rattle.std.specs.Prelude.{◌≢◌}
use Rattle.std.proofs.lemmas.List.{length-append}
use Rattle.ft_core.specs.declared.tables.Tables.{Tables}
use Rattle.ft_mean.specs.meaning.Reading.{Scans}
use Rattle.ft_trace.specs.meaning.Left.{Left}
use Rattle.ft_trace.specs.meaning.Reader.{HasGiven, IsEnd}
use Rattle.ft_trace.specs.meaning.Spelling.{FaultNext, IsFirstFault, IsHeader, NextScan, Row, SpellAll, SpellsHistory, SpellsScan}
use Rattle.ft_trace.specs.meaning.Spelling.{SpellsSoFar, records_of}
use Rattle.ft_trace.specs.declared.fault.TraceFault.{TraceFault}
use Rattle.ft_trace.specs.declared.fault.TraceFault.TheVariants as faults
use Rattle.ft_trace.specs.declared.reading.End.{End}
use Rattle.ft_trace.specs.declared.reading.End.TheVariants as end

spell-more : (S : Tables) (rows : List Row) (h : Scans) (row : Row) (values : List ℤ) → SpellAll S rows h → SpellsScan S row values
    → SpellAll S (rows ++ row ∷ []) (h ++ values ∷ [])
unfolding SpellAll
spell-more S [] [] row values all one = (one, tt)
spell-more S [] (x ∷ xs) row values all one = absurd all
spell-more S (r ∷ rows) [] row values all one = absurd all
spell-more S (r ∷ rows) (x ∷ xs) row values all one = (all.0, spell-more S rows xs row values all.1 one)

module _ (S : Tables) (bytes : List ℕ) (h : Scans) where
  -- nothing was read but the header
  pub begun : (header : Row) (rest : List Row) → records_of bytes ≡ header ∷ rest → IsHeader S header → SpellsSoFar S bytes [] rest
  unfolding SpellAll
  begun header rest e is = record { header = header; rows = []; records = e; is_header = is; spell = tt; few = omega arith }

  -- one more scan
  pub one-more : (rest more : List Row) (values : List ℤ) → SpellsSoFar S bytes h rest → NextScan S (length h) rest values more
      → SpellsSoFar S bytes (h ++ values ∷ []) more
  one-more rest more values s n = record {
    header = s.header;
    rows = s.rows ++ n.row ∷ [];
    records = s.records ∙ ap (λ (rs : List Row). s.header ∷ (s.rows ++ rs)) n.next
        ∙ ap (λ (rs : List Row). s.header ∷ rs) (sym (append_assoc s.rows (n.row ∷ []) more));
    is_header = s.is_header;
    spell = spell-more S s.rows h n.row values s.spell n.spells;
    few = omega (arith, n.few, length-append h (values ∷ []));
  }

  -- the records are all read
  pub whole : (rest : List Row) → SpellsSoFar S bytes h rest → rest ≡ [] → length h ≢ 0 → SpellsHistory S bytes h
  whole rest s e some = record {
    spells = subst (λ (rs : List Row). SpellsSoFar S bytes h rs) e s;
    nonempty =
        λ none. some (ap length none);
  }

  -- the fault that stands next is the first of the bytes
  pub first-fault : (rest : List Row) (fault : TraceFault) → SpellsSoFar S bytes h rest → FaultNext S (length h) rest fault
      → IsFirstFault S bytes fault
  first-fault [] faults.Head s f = absurd f
  first-fault (r ∷ rs) faults.Head s f = absurd f.1
  first-fault rest (faults.Width k) s f = record { h = h; rest = rest; spells = s; next = f }
  first-fault rest (faults.Value k c) s f = record { h = h; rest = rest; spells = s; next = f }
  first-fault rest (faults.OutOfRange k c) s f = record { h = h; rest = rest; spells = s; next = f }
  first-fault rest faults.ManyScans s f = record { h = h; rest = rest; spells = s; next = f }
  first-fault rest faults.Empty s f = record { h = h; rest = rest; spells = s; next = f }
  first-fault rest faults.NoMemory s f = tt

  module _ (reader : Left) (given : HasGiven S bytes reader h) where
    pub open-end : reader.ended ≡ None → SpellsSoFar S bytes h reader.rest
    open-end e = subst (λ (o : Option End). IsEnd S bytes h reader.rest o) e given.is_end

    pub whole-end : reader.ended ≡ Some end.Whole → SpellsHistory S bytes h
    whole-end e = subst (λ (o : Option End). IsEnd S bytes h reader.rest o) e given.is_end

    pub refused-end : (fault : TraceFault) → reader.ended ≡ Some (end.Refused fault) → IsFirstFault S bytes fault
    refused-end fault e = subst (λ (o : Option End). IsEnd S bytes h reader.rest o) e given.is_end

    pub few-given : reader.scans ≤ 100000
    few-given = subst (λ (n : ℕ). n ≤ 100000) (sym given.count) given.so_far.few

    -- a scan was given
    pub gives : reader.ended ≡ None → (values : List ℤ) (new : Left) → new.scans ≡ reader.scans + 1 → new.ended ≡ None
        → NextScan S reader.scans reader.rest values new.rest → HasGiven S bytes new (h ++ values ∷ [])
    gives e values new one going n =
        let s = one-more reader.rest new.rest values (open-end e) (subst (λ (k : ℕ). NextScan S k reader.rest values new.rest) given.count
        n) in
        record {
          count = omega (arith, one, given.count, length-append h (values ∷ []));
          after = new.rest;
          so_far = s;
          is_end = subst (λ (o : Option End). IsEnd S bytes (h ++ values ∷ []) new.rest o) (sym going) s;
        }

    -- the end was met
    pub meets-end : reader.ended ≡ None → (more : List Row) → reader.rest ≡ [] → reader.scans ≢ 0
        → HasGiven S bytes (record { rest = more; scans = reader.scans; ended = Some end.Whole }) h
    meets-end e more none some = record {
      count = given.count;
      after = given.after;
      so_far = given.so_far;
      is_end =
          whole reader.rest (open-end e) none (λ z. some (given.count ∙ z));
    }

    -- a fault was met
    pub meets-fault : reader.ended ≡ None → (fault : TraceFault) (new : Left) → new.scans ≡ reader.scans
        → new.ended ≡ Some (end.Refused fault)
        → FaultNext S reader.scans reader.rest fault → IsFirstFault S bytes fault × HasGiven S bytes new h
    meets-fault e fault new same refused f =
        let first = first-fault reader.rest fault (open-end e) (subst (λ (k : ℕ). FaultNext S k reader.rest fault) given.count f) in (
          first,
          record {
            count = same ∙ given.count;
            after = given.after;
            so_far = given.so_far;
            is_end = subst (λ (o : Option End). IsEnd S bytes h new.rest o) (sym refused) first;
          },
        )

pub opened : (S : Tables) (bytes : List ℕ) (header : Row) (rest : List Row) → records_of bytes ≡ header ∷ rest → IsHeader S header
    → HasGiven S bytes (record { rest = rest; scans = 0; ended = None }) []
opened S bytes header rest e is = let s = begun S bytes [] header rest e is in record { count = refl; after = rest; so_far = s; is_end = s }

-- one scan less may come
pub less-left : (h new : Scans) (values : List ℤ) → length (h ++ values ∷ []) ≤ 100000 → new ≡ h ++ values ∷ []
    → 100000 - length new < 100000 - length h
less-left h new values few e = omega (arith, few, ap length e, length-append h (values ∷ []))
