use Rattle.std.proofs.Common.{◌∙◌, ap, is_some}
use Rattle.ft_names.specs.meaning.Declared.{names_in}
use Rattle.ft_names.proofs.NameLemmas.{is_some-place_of}
use Rattle.ft_names.proofs.names.Names.has.Goals as goal

pub returns : goal.returns
returns c = c.is_some.ensures ∙ ap is_some c.find.ensures ∙ is_some-place_of (names_in c.args.self.now) c.args.name.now
