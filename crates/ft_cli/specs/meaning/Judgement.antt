-- What a report says of the bytes of a set.
use Rattle.std.specs.Prelude.{ℕ, ℤ, ◌≡◌, ◌≢◌, false, List, length, Option, None, Some}
use Rattle.ft_core.specs.declared.tables.Tables.{Tables}
use Rattle.ft_tree.specs.declared.tree.Tree.{Tree}
use Rattle.ft_mean.specs.meaning.Allowed.{Allowed}
use Rattle.ft_mean.specs.meaning.Proper.{AllProper}
use Rattle.ft_mean.specs.meaning.Refines.{Refines, ShortSafe}
use Rattle.ft_parse.specs.meaning.Parse.{Spells, IsFault}
use Rattle.ft_parse.specs.declared.fault.ParseFault.{ParseFault}
use Rattle.ft_parse.specs.declared.fault.ParseFault.TheVariants as parse
use Rattle.ft_blocks.specs.meaning.Faults.{HasNoBlockFault}
use Rattle.ft_admit.specs.meaning.SetFaults.{IsSetFault, IsSetOfText, of_parse}
use Rattle.ft_admit.specs.meaning.TreeFaults.{HasNoFault}
use Rattle.ft_admit.specs.meaning.Trees.{set_of_tree}
use Rattle.ft_admit.specs.declared.set_fault.SetFault.{SetFault}
use Rattle.ft_admit.specs.declared.set_fault.SetFault.TheVariants as set
use Rattle.ft_cert.specs.meaning.Tree as cert
use Rattle.ft_cover.specs.meaning.Covered.{IsCover}
use Rattle.ft_cover.specs.declared.answer.Cover.{Cover}
use Rattle.ft_cover.specs.declared.answer.Cover.TheVariants as cover
use Rattle.ft_compose.specs.meaning.Decided.{AllClose, IsBlocks}
use Rattle.ft_compose.specs.declared.blocks.Blocks.{Blocks}
use Rattle.ft_compose.specs.declared.blocks.Blocks.TheVariants as blocks
use Rattle.ft_unroll.specs.meaning.Found.{HasAllowed, IsListSpent, IsRefuteSpent, IsShortest, IsStop}
use Rattle.ft_report.specs.declared.short.Short.{Short}
use Rattle.ft_report.specs.declared.short.Short.TheVariants as short
use Rattle.ft_report.specs.declared.short.Subject.{Subject}
use Rattle.ft_report.specs.declared.short.Subject.TheVariants.{Obligation, NatList}
use Rattle.ft_report.specs.declared.report.Report.{Report}
use Rattle.ft_report.specs.declared.report.Report.TheVariants as report

-- the design of the set that the bytes spell refines its requirement: no obligation has a point, and the list is allowed and has `depth`
-- scans
pub record IsVerified (bytes : List ℕ) (S : Tables) (list : List (List ℤ)) : Type 0 where
  pub spelled : IsSetOfText bytes S
  pub refines : Refines S
  pub closed : AllClose S
  pub proper : AllProper S
  pub allowed : Allowed S list
  pub long : length list ≡ S.depth

-- the bytes spell a set with proper tables, and its environment allows a list of `depth` scans
pub record IsTried (bytes : List ℕ) (S : Tables) : Type 0 where
  pub spelled : IsSetOfText bytes S
  pub proper : AllProper S
  pub lists : HasAllowed S S.depth

-- and on this list the design first differs at its last scan, and no shorter list shows a difference
pub record IsRefuted (bytes : List ℕ) (S : Tables) (list : List (List ℤ)) (scan : ℕ) : Type 0 where
  pub tried : IsTried bytes S
  pub shortest : IsShortest S list scan

-- no list of at most `depth` scans shows a difference; or the search at this length used its splits up, and no shorter one does
abbrev pub IsShort : Tables → Short → Type 0
IsShort S (short.Safe n) = (n ≡ S.depth) × ShortSafe S S.depth
IsShort S (short.SpentAt n tree) = IsRefuteSpent S n tree

-- what is found of the facts of the set's blocks, and of short lists
pub record IsOpen (bytes : List ℕ) (S : Tables) (of_facts : Blocks) (of_lists : Short) : Type 0 where
  pub tried : IsTried bytes S
  pub found : IsBlocks S false of_facts
  pub short : IsShort S of_lists

-- the least length, at most `depth`, of which the environment of a set with proper tables allows no list
pub record IsStopped (bytes : List ℕ) (S : Tables) (n : ℕ) : Type 0 where
  pub spelled : IsSetOfText bytes S
  pub proper : AllProper S
  pub stop : IsStop S n

-- the search for an allowed list of so many scans used its splits up
pub record IsUnlisted (bytes : List ℕ) (S : Tables) (n : ℕ) (tree : cert.Tree) : Type 0 where
  pub spelled : IsSetOfText bytes S
  pub proper : AllProper S
  pub spent : IsListSpent S n tree

-- the bytes spell no set without a fault, and this is the first fault
pub record IsRefused (bytes : List ℕ) (fault : SetFault) : Type 0 where
  pub cause : IsSetFault bytes fault
  pub some : fault ≢ set.NoMemory
  pub none : (tree : Tree) → Spells bytes tree → HasNoFault tree
      → HasNoBlockFault (set_of_tree tree).vars (set_of_tree tree).blocks → ⊥

-- what is found of the coverage of the tables of the set that the bytes spell
abbrev pub IsCovered : List ℕ → Tables → Cover → Type 0
IsCovered bytes S found = IsSetOfText bytes S × IsCover S false found

-- a search that was spent: of the coverage of tables, of allowed lists, or of the facts of blocks, and then short lists were searched
abbrev pub IsSpentOn : List ℕ → Tables → Subject → cert.Tree → Option Short → Type 0
IsSpentOn bytes S (Obligation n) tree None = IsCovered bytes S (cover.Spent n tree)
IsSpentOn bytes S (Obligation n) tree (Some short) = IsOpen bytes S (blocks.Spent n tree) short
IsSpentOn bytes S (NatList n) tree None = IsUnlisted bytes S n tree
IsSpentOn bytes S (NatList n) tree (Some short) = ⊥

-- What a report of these bytes means. A fault that a table shows, a fact that fails and a search that was spent are those of the first
-- obligation that isn't closed. Want of memory is free.
abbrev pub IsJudgement : List ℕ → Report → Type 0
IsJudgement bytes (report.Verified S list) = IsVerified bytes S list
IsJudgement bytes (report.Refuted S list scan) = IsRefuted bytes S list scan
IsJudgement bytes (report.Fails S n req out state short) =
    IsOpen bytes S (blocks.Fails n (record { req = req; out = out }) state.values state.labels) short
IsJudgement bytes (report.Spent S subject tree short) = IsSpentOn bytes S subject tree short
IsJudgement bytes (report.NatStops n) = (S : Tables) × IsStopped bytes S n
IsJudgement bytes (report.Gap S k state) = IsCovered bytes S (cover.Gap k state.values state.labels)
IsJudgement bytes (report.Overlap S k first second state) = IsCovered bytes S (cover.Overlap k first second state.values state.labels)
IsJudgement bytes (report.OutOfRange S k cell state) = IsCovered bytes S (cover.OutOfRange k cell state.values state.labels)
IsJudgement bytes (report.Refused fault) = IsRefused bytes fault
IsJudgement bytes report.NoMemory = Unit {0}
IsJudgement bytes (report.Demo n S list) = ⊥
IsJudgement bytes report.Usage = ⊥
IsJudgement bytes report.ReadFault = ⊥
IsJudgement bytes (report.TooLong which) = ⊥
IsJudgement bytes (report.Printed tree) = ⊥
IsJudgement bytes (report.Agree scans) = ⊥
IsJudgement bytes (report.Differ scan) = ⊥
IsJudgement bytes (report.TraceRefused fault) = ⊥
IsJudgement bytes (report.NatRefuses scan) = ⊥

-- why bytes spell no tree
abbrev pub IsRefusal : List ℕ → ParseFault → Type 0
IsRefusal bytes (parse.Syntax place) = IsFault bytes (parse.Syntax place)
IsRefusal bytes (parse.Limit which place) = IsFault bytes (parse.Limit which place)
IsRefusal bytes parse.NoMemory = ⊥

-- the bytes spell this tree, and no other
pub record IsPrinted (bytes : List ℕ) (tree : Tree) : Type 0 where
  pub spelled : Spells bytes tree
  pub alone : (other : Tree) → Spells bytes other → tree ≡ other

-- the bytes spell no tree, for this reason
pub record IsUnread (bytes : List ℕ) (fault : SetFault) : Type 0 where
  pub found : ParseFault
  pub is : fault ≡ of_parse found
  pub refusal : IsRefusal bytes found
  pub none : (tree : Tree) → Spells bytes tree → ⊥

-- what a report on the tree that bytes spell means; want of memory is free
abbrev pub IsPrint : List ℕ → Report → Type 0
IsPrint bytes (report.Printed tree) = IsPrinted bytes tree
IsPrint bytes (report.Refused fault) = IsUnread bytes fault
IsPrint bytes report.NoMemory = Unit {0}
IsPrint bytes _ = ⊥
