-- Counts that are kept beside the items that they count.
use Rattle.std.proofs.Common.{◌≡◌, refl, sym, ap, ℕ, zero, suc, ◌+◌, ◌≤◌, min, arith, nat_le, Bool, true, false, List, [], ◌∷◌, ◌++◌}
use Rattle.std.proofs.Common.{length}
use Rattle.ft_parse.specs.parsers.Counts.{up_to_most}

pub full : (limit count n : ℕ) → limit ≤ 18446744073709551615 → count ≡ up_to_most n → nat_le limit count ≡ nat_le limit n
full limit count n small is = grind (arith, small, is)

pub facts_full : (count facts n : ℕ) → count ≡ up_to_most n → nat_le 300 (up_to_most (count + facts)) ≡ nat_le 300 (n + facts)
facts_full count facts n is = grind (arith, is)

pub ruleset rooms = (full, facts_full)

pub ruleset counts = (arith)
