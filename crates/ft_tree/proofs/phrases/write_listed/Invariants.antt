use Rattle.std.proofs.Common.{◌≡◌, ◌∷◌, codes, take}
use Rattle.std.specs.List.{flat_map}
use Rattle.ft_tree.specs.meaning.Line.{token}
use Rattle.ft_tree.specs.writing.Writer.{put_all}
use Rattle.ft_tree.proofs.phrases.write_listed.Given as goal

-- the parts before this one are written, each after a comma
abbrev pub invariant-loop-next : goal.invariant-loop-next
invariant-loop-next g l = l.writer
    ≡ put_all l.initial.writer (flat_map (λ next. token (codes ",") ∷ g.T.Phrase.pieces next) (take l.next-index l.more))
