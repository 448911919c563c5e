-- What a report says of a generated set.
use Rattle.std.specs.Prelude.{ℕ, ◌≡◌}
use Rattle.ft_tree.specs.meaning.Canonical.{canonical}
use Rattle.ft_gen.specs.meaning.Generated.{generated}
use Rattle.ft_report.specs.declared.report.Report.{Report}
use Rattle.ft_report.specs.declared.report.Report.TheVariants as report
use Rattle.ft_cli.specs.meaning.Judgement.{IsJudgement, IsVerified}

-- a tree whose canonical text is that of the generated set; want of memory is free
abbrev pub IsGenerated : ℕ → Report → Type 0
IsGenerated n (report.Printed tree) = canonical tree ≡ generated n
IsGenerated n report.NoMemory = Unit {0}
IsGenerated n _ = ⊥

-- what the text of the generated set is judged to be, with the set's number where it is verified
abbrev pub IsDemo : ℕ → Report → Type 0
IsDemo n (report.Demo number S list) = (number ≡ n) × IsVerified (generated n) S list
IsDemo n (report.Verified S list) = ⊥
IsDemo n r = IsJudgement (generated n) r
