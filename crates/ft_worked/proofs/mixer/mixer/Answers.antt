use Rattle.std.proofs.Common.{◌∙◌, ap, refl, [], ◌∷◌}
use Rattle.ft_core.specs.declared.term.Cond.{Cond}
use Rattle.ft_worked.proofs.MadeLemmas.{sound_as}
use Rattle.ft_worked.proofs.MixerSound.{sound, checked_of}
use Rattle.ft_worked.proofs.mixer.mixer.Goals as goal

pub invariant_of-result : goal.invariant_of-result
invariant_of-result c =
    let first = c.in_ok-first.ensures ∙ ap (λ (cond : Cond). cond ∷ []) c.compared.ensures in
    let always = c.in_ok-always.ensures ∙ ap (λ (cond : Cond). cond ∷ []) c.compared-2.ensures in
    let step = c.in_ok-step.ensures ∙ ap (λ (cond : Cond). cond ∷ []) c.in_ok-rising.ensures in
    record {
      sound = sound_as refl c.in_ok-vars.ensures c.in_ok-memories.ensures c.in_ok-tables.ensures first always step sound;
      checked = checked_of c.checked_by_tests.ensures c.in_ok-name.ensures c.in_ok-vars.ensures c.in_ok-memories.ensures
          c.in_ok-tables.ensures first always step c.in_ok-blocks.ensures;
    }
