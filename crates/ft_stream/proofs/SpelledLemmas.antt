-- What a trace spells is a monitored list, and so is each scan of it.
use Rattle.std.proofs.Common.{◌∙◌, sym, subst, ℕ, zero, suc, ◌<◌, ℤ, pos, List, [], ◌∷◌, ◌++◌, length, slice_index_or, arith}
use Rattle.std.proofs.Math.Seq.{get_or-append_seam}
use Rattle.std.proofs.lemmas.List.{length-append}
use Rattle.std.proofs.lemmas.Option.{get_or_from_slice_get}
use Rattle.ft_base.specs.Interval.{IsWithin}
use Rattle.ft_core.specs.declared.tables.Tables.{Tables}
use Rattle.ft_core.specs.meaning.Kinds.{monitored, place_of}
use Rattle.ft_mean.specs.laws.RowLaws.{ReadAtPlace}
use Rattle.ft_mean.specs.meaning.Allowed.{IsMonitored}
use Rattle.ft_mean.specs.meaning.Reading.{Scans, IsListOf}
use Rattle.ft_trace.specs.meaning.Left.{Left}
use Rattle.ft_trace.specs.meaning.Reader.{HasGiven}
use Rattle.ft_trace.specs.meaning.Spelling.{Row, SpellAll, SpellsHistory, SpellsScan}

at_row : (S : Tables) (rows : List Row) (h : Scans) → SpellAll S rows h → (t : ℕ) → t < length h
    → (row : Row) × SpellsScan S row (slice_index_or h t [])
unfolding SpellAll
at_row S [] [] all t l = absurd (omega (arith, l))
at_row S [] (x ∷ h) all t l = absurd all
at_row S (r ∷ rows) [] all t l = absurd all
at_row S (r ∷ rows) (x ∷ h) all zero l = (r, all.0)
at_row S (r ∷ rows) (x ∷ h) all (suc t) l = at_row S rows h all.1 t (omega (arith, l))

list_of : ReadAtPlace → (S : Tables) (rows : List Row) (h : Scans) → SpellAll S rows h → IsListOf S monitored h
list_of at_place S rows h spell = record {
  widths = λ t l. (at_row S rows h spell t l).1.count;
  ranges = λ t x v l is.
      let at = (at_row S rows h spell t l).1.each x v is in
      let told = at_place S monitored h t x v is
      ∙ get_or_from_slice_get (slice_index_or h t []) (place_of monitored S.vars x) at.value (pos 0) at.in_values in
      subst (λ z. IsWithin v.range z) (sym told) at.spells.1;
}

pub is_monitored : ReadAtPlace → (S : Tables) (bytes : List ℕ) (h : Scans) → SpellsHistory S bytes h → IsMonitored S h
is_monitored at_place S bytes h spelled = record {
  nonempty = spelled.nonempty;
  values = list_of at_place S spelled.spells.rows h spelled.spells.spell;
}

row_alone : ReadAtPlace → (S : Tables) (row : Row) (scan : List ℤ) → SpellsScan S row scan → IsListOf S monitored (scan ∷ [])
unfolding SpellAll
row_alone at_place S row scan spells = list_of at_place S (row ∷ []) (scan ∷ []) (spells, tt)

-- so is the last scan that a reader gave
pub last_given : ReadAtPlace → (S : Tables) (bytes : List ℕ) (reader : Left) (h : Scans) (scan : List ℤ)
    → HasGiven S bytes reader (h ++ scan ∷ []) → IsListOf S monitored (scan ∷ [])
last_given at_place S bytes reader h scan given =
    let less : length h < length (h ++ scan ∷ []) = omega (arith, length-append h (scan ∷ [])) in
    let at = at_row S given.so_far.rows (h ++ scan ∷ []) given.so_far.spell (length h) less in
    row_alone at_place S at.0 scan (subst (λ s. SpellsScan S at.0 s) (get_or-append_seam h scan [] []) at.1)
