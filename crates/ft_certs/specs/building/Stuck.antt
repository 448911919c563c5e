-- Where a reader of one kind of texts is stuck.
use Rattle.std.specs.Prelude.{ℕ, ◌+◌, ◌≡◌, List, ◌++◌, length}
use Rattle.ft_certs.specs.meaning.Fault.{Begins, FaultAfter, Stops, Texts}
use Rattle.ft_certs.specs.declared.stop.Stop.{Stop}
use Rattle.ft_certs.specs.declared.stop.Stop.TheVariants as stop

-- the bytes begin with no text of the kind, and with so many bytes left none goes on
pub record Stuck (texts : Texts) (bytes : List ℕ) (left : ℕ) : Type 0 where
  pub front : List ℕ
  pub rest : List ℕ
  pub parts : bytes ≡ front ++ rest
  pub count : length rest ≡ left
  pub begins : Begins texts front
  pub none : (p q : List ℕ) → front ≡ p ++ q → texts p → ⊥
  pub stops : Stops texts front rest

-- a reader of such texts stops so
abbrev pub Stopped : Texts → List ℕ → Stop → Type 0
Stopped texts bytes (stop.Stuck left) = Stuck texts bytes left
Stopped texts bytes stop.NoMemory = Unit {0}

-- the first byte with which no text of the kind goes on stands before so many left
abbrev pub Refused : Texts → List ℕ → ℕ → Type 0
Refused texts bytes left = (front : List ℕ) × FaultAfter texts bytes front × (length bytes ≡ length front + left)

abbrev pub RefusedBy : Texts → List ℕ → Stop → Type 0
RefusedBy texts bytes (stop.Stuck left) = Refused texts bytes left
RefusedBy texts bytes stop.NoMemory = Unit {0}
