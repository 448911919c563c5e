use Rattle.std.proofs.Common.{◌∙◌, ap, sym, length, map, true, false}
use Rattle.ft_compose.specs.meaning.Shared.{part_of}
use Rattle.ft_compose.proofs.OthersLemmas.{all-good}
use Rattle.ft_compose.proofs.sharing.Shared.of.Goals as goal

pub parts_of-requires : goal.parts_of-requires
parts_of-requires c = record {
  good = all-good c.laws.ensures.others_good c.args.tables.now c.as_slice.result.now
      (c.as_slice.ensures ∙ c.in_ok-spans.ensures) true c.as_slice-2.result.now (c.as_slice-2.ensures ∙ c.in_ok-known.ensures);
}

pub parts_of-requires-2 : goal.parts_of-requires-2
parts_of-requires-2 c = record {
  good = all-good c.laws.ensures.others_good c.args.tables.now c.as_slice-3.result.now
      (c.as_slice-3.ensures ∙ c.in_ok-spans.ensures) false c.as_slice-4.result.now (c.as_slice-4.ensures ∙ c.in_ok-also_known.ensures);
}

pub returns : goal.returns
returns c =
    let base = c.in_ok-base.ensures ∙ c.len.ensures in record {
      spans = c.in_ok-spans.ensures;
      base = base ∙ ap length c.in_ok-spans.ensures;
      first = c.in_ok-first.ensures
          ∙ ap (λ n. map (part_of n) c.as_slice-2.result.now) (ap length c.as_slice.ensures ∙ sym base)
          ∙ ap (map (part_of c.in_ok-base.base)) (c.as_slice-2.ensures ∙ c.in_ok-known.ensures);
      later = c.in_ok-later.ensures
          ∙ ap (λ n. map (part_of n) c.as_slice-4.result.now) (ap length c.as_slice-3.ensures ∙ sym base)
          ∙ ap (map (part_of c.in_ok-base.base)) (c.as_slice-4.ensures ∙ c.in_ok-also_known.ensures);
      definitions = c.in_ok-definitions.ensures;
    }
