use Rattle.std.proofs.Common.{◌≡◌, true, take}
use Rattle.std.specs.List.{flat_map, list_all}
use Rattle.ft_settle.specs.meaning.Settled.{forms_of, with_forms}
use Rattle.ft_settle.specs.meaning.Raw.{all_begin_well}
use Rattle.ft_settle.proofs.settling.+collect.Given as goal

abbrev pub invariant-collect_all-loop-part : goal.invariant-collect_all-loop-part
invariant-collect_all-loop-part l = (l.forms ≡ with_forms l.initial.forms (flat_map forms_of (take l.part-index l.parts)))
    × (list_all all_begin_well (take l.part-index l.parts) ≡ true)
