-- The memories that a table reads, as the places that were marked.
use Rattle.std.proofs.Common.{subst, ℕ, ◌<◌, true, List}
use Rattle.std.proofs.lemmas.Option.{slice_get_within}
use Rattle.ft_core.specs.declared.tables.Tables.{Tables}
use Rattle.ft_core.specs.meaning.Reads.{Read}
use Rattle.ft_claims.specs.building.Marking.{ArePlaces}
use Rattle.ft_claims.specs.meaning.Shown.{AreReadMemories}
use Rattle.ft_oblige.specs.declared.reading.Found.{Found}
use Rattle.ft_oblige.specs.building.Finding.{FindsAll}

pub are_read : (S : Tables) (reads : List Read) (f : Found) (places : List ℕ) → FindsAll S reads f → ArePlaces f.marks places
    → AreReadMemories S reads places
are_read S reads f places found are = record {
  there = λ j m at. subst (λ n. m < n) found.long (slice_get_within f.marks m true (are.marked j m at));
  read = λ j m at. found.only m (are.marked j m at);
  each = λ m l read. are.each m (found.each m l read);
  rising = are.rising;
}
