-- What the stages of a verdict know of a checked set.
use Rattle.std.specs.Prelude.{ℕ, ◌≡◌, List}
use Rattle.ft_core.specs.declared.tables.Tables.{Tables}
use Rattle.ft_core.specs.meaning.Order.{IsOrder}
use Rattle.ft_blocks.specs.declared.links.Graph.{Graph}
use Rattle.ft_blocks.specs.meaning.Cycles.{block_reads}
use Rattle.ft_blocks.specs.meaning.Faults.{HasNoBlockFault}
use Rattle.ft_blocks.specs.meaning.Goals.{HasGoals}
use Rattle.ft_mean.specs.meaning.Reading.{Scans}
use Rattle.ft_unroll.specs.meaning.Found.{IsDeep}
use Rattle.ft_admit.specs.meaning.SetFaults.{IsSetOfText}
use Rattle.ft_cli.specs.meaning.Judgement.{IsJudgement, IsShort}
use Rattle.ft_report.specs.declared.report.Report.{Report}
use Rattle.ft_report.specs.declared.short.Short.{Short}

-- the checked set that the bytes spell, whose blocks have no fault, with the order and the goals of its blocks
pub record IsAdmitted (bytes : List ℕ) (S : Tables) (graph : Graph) : Type 0 where
  pub spelled : IsSetOfText bytes S
  pub blocks : HasNoBlockFault S.vars S.blocks
  pub order : IsOrder (block_reads S.blocks) graph.order
  pub goals : HasGoals S.vars S.blocks

-- the report judges all bytes that spell the set
abbrev pub IsReportOn : Tables → Report → Type 0
IsReportOn S report = (bytes : List ℕ) → IsSetOfText bytes S → IsJudgement bytes report

-- the set as it was, with an allowed list of `depth` scans
abbrev pub IsListed : Tables → Tables × Scans → Type 0
IsListed S kept = (kept.0 ≡ S) × IsDeep S kept.1

-- the set as it was, with what is known of its short lists
abbrev pub IsSearched : Tables → Tables × Short → Type 0
IsSearched S kept = (kept.0 ≡ S) × IsShort S kept.1
