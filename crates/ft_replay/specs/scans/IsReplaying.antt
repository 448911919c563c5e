-- What a replayer keeps: how the two sides ran over the list so far, and the first scan at which they differ.
use Rattle.std.specs.Prelude.{ℕ, ◌≡◌, ◌<◌, length, Option, IsTrue}
use Rattle.ft_core.specs.declared.tables.Tables.{Tables}
use Rattle.ft_core.specs.declared.tables.Side.TheVariants as side
use Rattle.ft_core.specs.declared.tables.Section.TheVariants as section
use Rattle.ft_core.specs.meaning.Kinds.{monitored, outputs}
use Rattle.ft_mean.specs.meaning.Allowed.{nat_at}
use Rattle.ft_mean.specs.meaning.Fits.{Fits, InputMap, Maps}
use Rattle.ft_mean.specs.meaning.Proper.{AllProper}
use Rattle.ft_mean.specs.meaning.Reading.{Scans, reading_of}
use Rattle.ft_replay.specs.declared.replayer.Replayer.TheInside.{Inside}
use Rattle.ft_replay.specs.scans.Differing.{IsFirst}
use Rattle.ft_replay.specs.scans.Outputs.{AreOutputs}
use Rattle.ft_replay.specs.meaning.Replaying.{Replaying}
use Rattle.ft_replay.specs.scans.Rows.{HasRooms}

-- a monitored list h, allowed scan by scan, with the requirement's trace r, the inputs i, the design's trace s, the outputs and the
-- controlled values that it puts out, and the first scan at which these differ from the requirement's
pub record Replays (S : Tables) (h r i s : Scans) (first : Option ℕ) : Type 0 where
  pub outputs_list : Scans
  pub controlled_list : Scans
  pub clauses : (t : ℕ) → t < length h → IsTrue (nat_at S (reading_of S monitored h) t)
  pub required : Fits S side.Req h r
  pub input_map : InputMap S h i
  pub design : Fits S side.Sof i s
  pub put_out : AreOutputs S s outputs_list
  pub output_map : Maps S section.Out outputs outputs_list controlled_list
  pub is_first : IsFirst S r controlled_list (length h) first

-- it shows its set, and what the requirement was given
abbrev pub replaying : Inside → Replaying
replaying p = record { set = p.tables.now; list = p.required.given }

pub record IsReplaying (p : Inside) : Type 0 where
  pub proper : AllProper p.tables.now
  pub required_set : p.required.set ≡ p.tables.now
  pub required_side : p.required.side ≡ side.Req
  pub design_set : p.design.set ≡ p.tables.now
  pub design_side : p.design.side ≡ side.Sof
  pub replays : Replays p.tables.now p.required.given p.required.rows p.design.given p.design.rows p.first
  pub count : p.scans ≡ length p.required.given
  pub rooms : HasRooms p.tables.now p.rows
