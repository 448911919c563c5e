-- A sink in memory.
use Rattle.std.specs.Prelude.{◌⊎◌, ℕ, ◌<◌, min, List, Option, IsSome, ◌==◌, unwrap_or}
use Rattle.std.specs.List.{find}
use Rattle.std.specs.Option.{option_map}
use Rattle.ft_port.specs.Causes.{one_more}

-- what it has taken, the room that is left, its calls so far, the calls that fail, and how many did
pub record SinkState : Type 0 where
  pub taken : List ℕ
  pub room : ℕ
  pub calls : ℕ
  pub failing : List (ℕ × ℕ)
  pub faults : ℕ

-- the number of bytes after which the next call fails, where it is listed: the first entry of its number counts
abbrev pub cut_of : SinkState → Option ℕ
cut_of sink = option_map (λ entry. entry.1) (find (λ entry. entry.0 == one_more sink.calls) sink.failing)

-- how many bytes of a write of this length the next call takes
abbrev pub taken_of : SinkState → ℕ → ℕ
taken_of sink size = min (min (unwrap_or (cut_of sink) size) size) sink.room

-- the next call is listed, or a write of this length doesn't fit
abbrev pub MustFail : SinkState → ℕ → Type 0
MustFail sink size = IsSome (cut_of sink) ⊎ (sink.room < size)
