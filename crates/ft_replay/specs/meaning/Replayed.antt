-- What the answer of a replay says.
use Rattle.std.specs.Prelude.{ℕ, ⊤}
use Rattle.ft_replay.specs.declared.replaying.Replayed.{Replayed}
use Rattle.ft_replay.specs.declared.replaying.Replayed.TheVariants.{Agree, Differ}

-- an answer that the sides differ at a scan, of which this is true
abbrev pub IfDiffer : (ℕ → Type 0) → Replayed → Type 0
IfDiffer P Agree = ⊤
IfDiffer P (Differ scan) = P scan

-- an answer that they agree, where this is true
abbrev pub IfAgree : Type 0 → Replayed → Type 0
IfAgree P Agree = P
IfAgree P (Differ scan) = ⊤
