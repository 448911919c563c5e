-- What a list of scans tells at its end, without a tactic.
use Rattle.std.proofs.Common.{◌≡◌, ap, ℕ, ℤ, pos, List, [], ◌∷◌, ◌++◌, length, slice_index_or, cond}
use Rattle.std.proofs.lemmas.List.{get_or_push}
use Rattle.ft_core.specs.declared.tables.Tables.{Tables}
use Rattle.ft_core.specs.meaning.Kinds.{Kinds, is_of, place_of}
use Rattle.ft_mean.specs.meaning.Reading.{Scans, init_of, reading_of}

-- the last scan tells what it tells alone
pub last-tells : (S : Tables) (kinds : Kinds) (h : Scans) (g : List ℤ) (t x : ℕ) → length h ≡ t
    → reading_of S kinds (h ++ g ∷ []) t x ≡ reading_of S kinds (g ∷ []) 0 x
last-tells S kinds h g t x e =
    ap (λ (row : List ℤ). cond (is_of S.vars kinds x) (slice_index_or row (place_of kinds S.vars x) (pos 0)) (init_of S x))
    (get_or_push h g [] t e)
