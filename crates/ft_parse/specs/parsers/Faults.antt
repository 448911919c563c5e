-- What stopping tells of the text.
use Rattle.std.specs.Prelude.{◌≡◌, List, [], ◌∷◌}
use Rattle.ft_read.specs.meaning.Lexeme.{Lexeme}
use Rattle.ft_read.specs.declared.stop.Stop.{Stop}
use Rattle.ft_read.specs.declared.stop.Stop.TheVariants as stop
use Rattle.ft_parse.specs.declared.fault.ParseFault.{ParseFault}
use Rattle.ft_parse.specs.declared.fault.ParseFault.TheVariants.{Syntax, Limit, NoMemory}

-- reading that stops for its syntax stands before a token
abbrev pub IsAhead : Stop → List Lexeme → Type 0
IsAhead stop.Syntax [] = ⊥
IsAhead _ _ = Unit {0}

-- the fault of a reading that stopped there
abbrev pub IsFaultOf : Stop → List Lexeme → ParseFault → Type 0
IsFaultOf stop.Syntax [] fault = ⊥
IsFaultOf stop.Syntax (lexeme ∷ rest) fault = fault ≡ Syntax lexeme.place
IsFaultOf (stop.Limit pass) rest fault = fault ≡ Limit pass.which pass.place
IsFaultOf stop.NoMemory rest fault = fault ≡ NoMemory
