mod RowLemmas
