-- What a form is hashed by: equal forms are hashed alike, and to be equal is an equivalence.
use Rattle.std.specs.Prelude.{◌++◌}
use Rattle.std.specs.Cmp.{IsEquivalence, and_equiv, int_eq_equiv, nat_eq_equiv, on_equiv, signed_Decides, unsigned_Decides}
use Rattle.std.specs.Cmp.Lexicographic.{lists_equiv}
use Rattle.std.specs.Hash as fed
use Rattle.std.specs.Hash.{Alike, HashWrites, and-Alike, items_Alike, on_Alike, same_Alike}
use Rattle.ft_linear.specs.meaning.Form.{Factor, LinView}
use Rattle.ft_settle.specs.meaning.Settled.{same_factor, same_form}

-- a factor is hashed by its unknown and its number, and a form by its constant and its factors
abbrev pub factor_writes : Factor → HashWrites
factor_writes f = fed.u32 f.0 ++ fed.i64 f.1

abbrev pub form_writes : LinView → HashWrites
form_writes l = fed.i64 l.constant ++ fed.slice factor_writes l.factors

pub factor_equiv : IsEquivalence same_factor
factor_equiv = and_equiv (on_equiv (λ f. f.0) nat_eq_equiv) (on_equiv (λ f. f.1) int_eq_equiv)

pub form_equiv : IsEquivalence same_form
form_equiv = and_equiv (on_equiv (λ l. l.constant) int_eq_equiv) (on_equiv (λ l. l.factors) (lists_equiv factor_equiv))

pub factor_alike : Alike same_factor factor_writes
factor_alike =
    and-Alike (on_Alike (λ f. f.0) (same_Alike fed.u32 unsigned_Decides)) (on_Alike (λ f. f.1) (same_Alike fed.i64 signed_Decides))

pub form_alike : Alike same_form form_writes
form_alike = and-Alike (on_Alike (λ l. l.constant) (same_Alike fed.i64 signed_Decides)) (on_Alike (λ l. l.factors) (items_Alike factor_alike))
