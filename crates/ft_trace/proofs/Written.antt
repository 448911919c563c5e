-- The records of a text that the default writer wrote.
use Rattle.std.proofs.Common.{◌≡◌, ◌∙◌, ℕ, List, [], ◌∷◌, ◌++◌, map, ap}
use Rattle.csv.specs.Writing.{default_writer, read_back, row_text}
use Rattle.csv.specs.declared.parser.State.TheVariants as st
use Rattle.csv.proofs.RoundTrip.{read-write, rows_text}
use Rattle.ft_trace.specs.meaning.Source.{records_at}
use Rattle.ft_trace.proofs.Records.{first-record, nothing-left}

pub records-written : (rows : List (List (List ℕ))) → records_at st.StartRecord (rows_text rows) ≡ map read_back rows
unfolding rows_text
records-written [] = nothing-left 1
records-written (row ∷ rows) =
    first-record st.StartRecord (row_text default_writer row ++ rows_text rows) (read_back row, st.StartRecord, rows_text rows)
    (read-write row (rows_text rows))
    ∙ ap (λ (t : List (List (List ℕ))). read_back row ∷ t) (records-written rows)
