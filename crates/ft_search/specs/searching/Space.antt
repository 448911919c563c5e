-- What a room holds, and what a search leaves in it.
use Rattle.std.specs.Prelude.{◌≡◌, ◌≤◌, ◌<◌, ◌+◌, ◌*◌, ◌^◌, ℕ, ℤ, List, [], ◌∷◌, length}
use Rattle.ft_linear.specs.meaning.Form.{InArea}
use Rattle.ft_linear.specs.meaning.Formula.{FormulaView, Satisfies}
use Rattle.ft_linear.specs.meaning.Marks.{size_of}
use Rattle.ft_cert.specs.meaning.Parts.{whole_of}
use Rattle.ft_cert.specs.prefix.Row.{tree_of}
use Rattle.ft_cert.specs.walk.Waiting.{first_of}
use Rattle.ft_search.specs.declared.counts.Counts.{Counts}
use Rattle.ft_search.specs.declared.room.Judging.{Judging}
use Rattle.ft_search.specs.declared.room.Room.{Room}
use Rattle.ft_search.specs.declared.searching.Found.{Found}
use Rattle.ft_search.specs.declared.searching.Found.TheVariants as found
use Rattle.ft_search.specs.meaning.Spent.{IsSpent, enough_for}
use Rattle.ft_search.specs.searching.Kept.{IsEvidence, nodes_by}
use Rattle.ft_search.specs.searching.Sizes.{IsEnough, nodes_for, others_for, steps_for}
use Rattle.ft_search.specs.searching.Sweep.{IsSweepFor}
use Rattle.ft_search.specs.searching.Walk.{IsWalk}

pub record IsRoomFor (f : FormulaView) (unknowns : ℕ) (r : Judging) : Type 0 where
  pub values : length r.marks.values ≡ length f.atoms
  pub signs : length r.marks.signs ≡ length f.atoms
  pub slots : r.marks.room ≡ size_of f.root
  pub lines : length r.lines.items ≡ 2 * length f.atoms
  pub numbers : unknowns ≤ length r.numbers
  pub point : length r.point.items ≡ unknowns
  pub sweep : IsSweepFor f unknowns r.sweep
  pub few_atoms : length f.atoms < 2 ^ 32
  pub few_unknowns : unknowns < 2 ^ 32

-- a room for a formula and an area, in which no search has been made
pub record IsFreshFor (f : FormulaView) (spans : List (ℤ × ℤ)) (r : Room) : Type 0 where
  pub judging : IsRoomFor f (length spans) r.judging
  pub parts : r.descent.parts ≡ whole_of f spans ∷ []
  pub unknowns : r.descent.unknowns ≡ length spans
  pub atoms : r.descent.atoms ≡ length f.atoms
  pub steps : steps_for r.budget + length spans ≤ r.descent.spare
  pub nodes : r.nodes.items ≡ []
  pub spare : nodes_for r.budget ≤ r.nodes.spare
  pub splits : r.splits ≤ 200000
  pub budget : r.budget ≤ r.splits
  pub enough : r.budget < r.splits → IsEnough f spans r.budget

-- a search between two nodes
pub record IsUnderWay (f : FormulaView) (spans : List (ℤ × ℤ)) (r : Room) (c : Counts) : Type 0 where
  pub walk : IsWalk f (enough_for r.budget) (whole_of f spans) (nodes_by f r.nodes.items) r.descent.parts c.used c.halved c.tight
  pub few : c.used ≤ r.budget
  pub exact : c.halved ≤ c.tight
  pub by_halved : c.tight ≤ c.halved + others_for r.budget
  pub limit : c.tight ≤ enough_for r.budget + others_for r.budget
  pub most : r.budget ≤ 200000
  pub unknowns : r.descent.unknowns ≡ length spans
  pub atoms : r.descent.atoms ≡ length f.atoms
  pub judging : IsRoomFor f (length spans) r.judging
  pub steps : steps_for r.budget + length spans ≤ r.descent.spare + c.used + c.tight
  pub spare : nodes_for r.budget ≤ length r.nodes.items + r.nodes.spare

-- there is a part each point of which is a point of the area that satisfies the formula
pub record HasPoints (f : FormulaView) (spans : List (ℤ × ℤ)) (r : Room) : Type 0 where
  pub some : 0 < length r.descent.parts
  pub inside : (x : ℕ → ℤ) → InArea (first_of r.descent.parts).spans x → InArea spans x
  pub satisfies : (x : ℕ → ℤ) → InArea (first_of r.descent.parts).spans x → Satisfies f x

abbrev pub IsFound : FormulaView → List (ℤ × ℤ) → Room → Found → Type 0
IsFound f spans r found.Closed = IsEvidence f (whole_of f spans) (nodes_by f r.nodes.items)
IsFound f spans r found.Point = HasPoints f spans r
IsFound f spans r found.Spent = IsSpent f (whole_of f spans) r.splits (tree_of (nodes_by f r.nodes.items))
