-- The traces of the mixer and its images: the definitions, computed.
use Rattle.std.proofs.Common.{◌≡◌, refl, ℕ, zero, suc, ◌<◌, Bool, true, not, ◌||◌, [], arith}
use Rattle.std.proofs.lemmas.Bool.{and_from}
use Rattle.ft_core.specs.declared.tables.Tables.{Tables}
use Rattle.ft_core.specs.declared.tables.Side.TheVariants as side
use Rattle.ft_core.specs.declared.tables.Section.TheVariants as section
use Rattle.ft_core.specs.meaning.Kinds.{monitored, side_kinds, defined_kinds, is_of}
use Rattle.ft_mean.specs.meaning.Allowed.{Allowed, nat_at}
use Rattle.ft_mean.specs.meaning.Cells.{defined}
use Rattle.ft_mean.specs.meaning.Memory.{look, memory_within}
use Rattle.ft_mean.specs.judge.Scope.{at_all}
use Rattle.ft_mean.specs.meaning.Reading.{Reading, reading_of}
use Rattle.ft_mean.specs.meaning.Fits.{Fits, InputMap, OutputMap, side_reading}
use Rattle.ft_mean.specs.laws.Equations.{evaluation}
use Rattle.ft_mean.specs.laws.ScanTests.{fits, list_is}
use Rattle.ft_worked.specs.Mixer.{mixer, levels, required, probed, designed, put_out}
use Rattle.ft_worked.specs.Worked.{MixerRuns, MixerIsWorked}
use Rattle.ft_worked.proofs.MadeLemmas.{Rest, set_of, for_each}
use Rattle.ft_worked.proofs.MapTests.{maps}

module _ (rest : Rest mixer) where
  abbrev S : Tables
  S = set_of mixer rest

  -- the readings of the requirement's trace
  abbrev ρ : Reading
  ρ = side_reading S side.Req required

  abbrev follows_at : ℕ → ℕ → Bool
  follows_at t x = not (is_of S.vars (defined_kinds section.Req) x) || defined S section.Req (look S ρ t) x (ρ t x)

  at_0 : at_all S (follows_at 0) ≡ true
  unfolding memory_within
  at_0 = simp evaluation

  at_1 : at_all S (follows_at 1) ≡ true
  unfolding memory_within
  at_1 = simp evaluation

  at_2 : at_all S (follows_at 2) ≡ true
  unfolding memory_within
  at_2 = simp evaluation

  at_3 : at_all S (follows_at 3) ≡ true
  unfolding memory_within
  at_3 = simp evaluation

  at_4 : at_all S (follows_at 4) ≡ true
  unfolding memory_within
  at_4 = simp evaluation

  at_5 : at_all S (follows_at 5) ≡ true
  unfolding memory_within
  at_5 = simp evaluation

  requirement : Fits S side.Req levels required
  requirement = fits S side.Req levels required refl refl refl refl
      (and_from _ _ at_0 (and_from _ _ at_1 (and_from _ _ at_2 (and_from _ _ at_3 (and_from _ _ at_4 (and_from _ _ at_5 refl))))))

  inputs : InputMap S levels probed
  inputs = maps S section.In monitored levels probed (λ x v e. e) refl refl (simp evaluation)

  design : Fits S side.Sof probed designed
  unfolding memory_within
  design = fits S side.Sof probed designed refl refl refl refl (simp evaluation)

  outputs : OutputMap S designed put_out
  outputs = maps S section.Out (side_kinds side.Sof) designed put_out (λ x v e. e) refl refl (simp evaluation)

  clauses : (t : ℕ) → t < 6 → nat_at S (reading_of S monitored levels) t ≡ true
  clauses zero below = simp evaluation
  clauses (suc zero) below = simp evaluation
  clauses (suc (suc zero)) below = simp evaluation
  clauses (suc (suc (suc zero))) below = simp evaluation
  clauses (suc (suc (suc (suc zero)))) below = simp evaluation
  clauses (suc (suc (suc (suc (suc zero))))) below = simp evaluation
  clauses (suc (suc (suc (suc (suc (suc t)))))) below = absurd (omega (arith, below))

  allowed : Allowed S levels
  allowed = record { monitored_list = record { nonempty = λ e. some e; values = list_is S monitored levels refl }; clauses = clauses }
    where
      some : levels ≡ [] → ⊥
      some e = cc

  runs : MixerRuns S
  runs = record { allowed = allowed; requirement = requirement; inputs = inputs; design = design; outputs = outputs }

pub worked : MixerIsWorked
worked S is = for_each mixer S is MixerRuns runs
