-- Numbers for all names: those that are made of what the names stand for, and those that have the values of a point.
use Rattle.std.specs.Prelude.{ℕ, ◌+◌, ◌≡◌, ◌<◌, ℤ, ◌≤ℤ◌, List, length, Some, slice_get}
use Rattle.ft_core.specs.declared.tables.Tables.{Tables}
use Rattle.ft_linear.specs.meaning.Form.{InArea}
use Rattle.ft_claims.specs.declared.claim.Claim.{Claim}
use Rattle.ft_claims.specs.laws.FormulaLaws.{Gives}
use Rattle.ft_claims.specs.meaning.Areas.{Spans, finished}
use Rattle.ft_claims.specs.meaning.Names.{width, memo}
use Rattle.ft_claims.specs.meaning.Numbers.{numbers}
use Rattle.ft_claims.specs.meaning.Points.{IsPointOf}

-- each name of two scans has the number of what it stands for
pub record AreMade (S : Tables) (now kept_now past kept_past : ℕ → ℤ) : Type 0 where
  pub is_now : (x : ℕ) → x < length S.vars → numbers S now kept_now past kept_past (0 + x) ≡ now x
  pub is_kept : (m : ℕ) → m < length S.memories → numbers S now kept_now past kept_past (memo S 0 m) ≡ kept_now m
  pub is_past : (x : ℕ) → x < length S.vars → numbers S now kept_now past kept_past (width S + x) ≡ past x
  pub is_kept_past : (m : ℕ) → numbers S now kept_now past kept_past (memo S (width S) m) ≡ kept_past m

abbrev pub NumbersAreMade : Type 0
NumbersAreMade = (S : Tables) (now kept_now past kept_past : ℕ → ℤ) → AreMade S now kept_now past kept_past

-- a point of a formula has the values of some numbers for all names, each in its span
abbrev pub PointsAreOfNumbers : Type 0
PointsAreOfNumbers = (spans : Spans) (parts : List Claim) → ((u : ℕ) (s : ℤ × ℤ) → slice_get spans u ≡ Some s → s.0 ≤ℤ s.1)
    → (p : List ℤ) → IsPointOf (finished spans parts) p → (σ : ℕ → ℤ) × InArea spans σ × Gives spans parts p σ
