-- What is known of finished scans: a value of each variable of the set at each scan and one scan before, and the truth of each
-- memory there.
use Rattle.std.specs.Prelude.{ℕ, zero, suc, ℤ, pos, negsuc, Bool, false, ◌&&◌, ◌==◌, List, [], map, length, slice_index_or}
use Rattle.std.specs.List.{list_any, zip, range_with_len}
use Rattle.std.specs.Ordering.{int_eq}
use Rattle.ft_core.specs.declared.tables.Tables.{Tables}
use Rattle.ft_core.specs.declared.tables.Memory.{Memory}
use Rattle.ft_core.specs.declared.tables.Memory.TheVariants.{Held, Hyst}
use Rattle.ft_core.specs.declared.tables.Grid.{Grid}
use Rattle.ft_core.specs.declared.tables.Grid.TheVariants.{Normal, Inverted, Vector}
use Rattle.ft_core.specs.declared.term.Term.{Term}
use Rattle.ft_core.specs.declared.term.Cond.{Cond}
use Rattle.ft_mean.specs.declared.seen.Seen.{Seen}
use Rattle.ft_mean.specs.meaning.Past.{held, hyst}
use Rattle.ft_mean.specs.meaning.Reading.{Reading, begun, since}
use Rattle.ft_mean.specs.meaning.Value.{View, value, truth}

-- scan t; no table and no memory reads an age
abbrev pub view_at : Seen → ℕ → View
view_at seen t = record {
  now = λ x. slice_index_or (slice_index_or seen.rows t []) x (pos 0);
  before = λ x. slice_index_or (slice_index_or seen.past t []) x (pos 0);
  age = λ m. negsuc 0;
  memory = λ m. slice_index_or (slice_index_or seen.bits t []) m false;
}

-- a memory at scan t, looking back to a scan, where each scan is so many milliseconds ago and the truths of the memories that
-- it reads are those seen
abbrev pub recalled : (from : ℕ) → (ago : ℕ → ℤ) → Seen → Memory → ℕ → Bool
recalled from ago seen (Held name side cond hold) t = held from ago hold (λ j. truth (view_at seen j) cond) t
recalled from ago seen (Hyst name side e lo hi start) t = hyst from lo hi start (λ j. value (view_at seen j) e) t

-- every memory at scan t, back to the last scan that begins
abbrev pub recalled_at : Tables → Reading → Seen → ℕ → List Bool
recalled_at S ρ seen t = map (λ memory. recalled (begun S ρ t) (λ j. since S ρ j t) seen memory t) S.memories

-- the same scans, with the truths of the memories after so many rounds, each from those of the round before
abbrev pub after_rounds : Tables → Reading → ℕ → Seen → Seen
after_rounds S ρ zero seen = seen
after_rounds S ρ (suc n) seen =
    let past = after_rounds S ρ n seen in
    record { rows = past.rows; past = past.past; bits = map (recalled_at S ρ past) (range_with_len 0 (length past.rows)) }

-- one of the terms whose condition is true has this value
abbrev pub gives_in : View → ℤ → List Cond → List Term → Bool
gives_in V z conds terms = list_any (λ c. truth V c.0 && int_eq z (value V c.1)) (zip conds terms)

-- a row of a normal or an inverted table: its condition is true, and one of its entries has this value
abbrev pub row_gives : View → ℤ → Cond → List Cond → List Term → Bool
row_gives V z row conds terms = truth V row && gives_in V z conds terms

-- some cell of a table, for variable x, that holds has this value
abbrev pub grid_gives : View → ℕ → ℤ → Grid → Bool
grid_gives V x z (Normal target columns rows terms) = (target == x) && list_any (λ r. row_gives V z r.0 columns r.1) (zip rows terms)
grid_gives V x z (Inverted target terms rows grid) = (target == x) && list_any (λ r. row_gives V z r.0 r.1 terms) (zip rows grid)
grid_gives V x z (Vector columns targets terms) = list_any (λ r. (r.0 == x) && gives_in V z columns r.1) (zip targets terms)
