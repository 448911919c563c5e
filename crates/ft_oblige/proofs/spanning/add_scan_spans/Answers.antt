use Rattle.std.proofs.Common.{subst, sym}
use Rattle.ft_oblige.specs.building.Spanning.{AreKept}
use Rattle.ft_oblige.proofs.KeptLemmas.{are-kept}
use Rattle.ft_oblige.proofs.spanning.add_scan_spans.Goals as goal

pub add_kept-requires : goal.add_kept-requires
add_kept-requires c = subst AreKept (sym c.as_slice-2.ensures) (are-kept c.args.tables.now)
