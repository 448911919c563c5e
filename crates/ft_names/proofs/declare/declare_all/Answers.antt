use Rattle.std.proofs.Common.{◌∙◌, ◌+◌, ◌∷◌, [], sym, take, drop}
use Rattle.std.proofs.lemmas.List.{take-append-drop}
use Rattle.std.proofs.lemmas.Result.{err_from_is_err_and}
use Rattle.ft_names.specs.laws.First.{option_or-None}
use Rattle.ft_names.specs.meaning.Duplicates.{repeated}
use Rattle.ft_names.specs.meaning.Declared.{names_in}
use Rattle.ft_names.specs.laws.Lists.{take_next}
use Rattle.ft_names.proofs.DeclareLemmas.{declared-made, declared-none, declared-room, declared-stops}
use Rattle.ft_names.proofs.declare.declare_all.Goals as goal

pub declare-requires : goal.declare-requires
declare-requires c =
    let i = c.loop-word.word-index in
    declared-room c.args.names.now c.loop-word.names c.args.number (take i c.args.words.now) (c.word-item.result ∷ [])
    (take (i + 1) c.args.words.now) (drop (i + 1) c.args.words.now) c.args.words.now
    (take_next c.args.words.now i c.word-item.result c.loop-word-test.true c.word-item.is) (sym (take-append-drop
    (i + 1) c.args.words.now))
    c.loop-word.invariant.made c.requires

pub returns-in_err-declare-clause-answers : goal.returns-in_err-declare-clause-answers
returns-in_err-declare-clause-answers c =
    let p = err_from_is_err_and c.from_residual.result c.from_residual.ensures.1 in
    let i = c.loop-word.word-index in
    rw (p.1, p.2)
    (declared-stops c.in_err-declare.field-0.0 c.args.names.now c.loop-word.names c.args.number (take i c.args.words.now)
    (c.word-item.result ∷ [])
    (take (i + 1) c.args.words.now) (drop (i + 1) c.args.words.now) c.args.words.now
    (take_next c.args.words.now i c.word-item.result c.loop-word-test.true c.word-item.is) (sym (take-append-drop
    (i + 1) c.args.words.now))
    c.loop-word.invariant.made c.loop-word.invariant.none
    (rw (option_or-None (repeated (names_in c.loop-word.names, c.word-item.result))) c.in_err-declare.ensures.answers))

pub loop-word-preserved : goal.loop-word-preserved
loop-word-preserved c =
    let i = c.loop-word.word-index in
    let next = take_next c.args.words.now i c.word-item.result c.loop-word-test.true c.word-item.is in
    record {
      made = declared-made c.args.names.now c.loop-word.names c.declare.new.names c.args.number (take i c.args.words.now)
          (c.word-item.result ∷ [])
          (take (i + 1) c.args.words.now) next c.loop-word.invariant.made c.in_ok-declare.ensures.added;
      none = declared-none c.args.names.now c.loop-word.names c.args.number (take i c.args.words.now) (c.word-item.result ∷ [])
          (take (i + 1) c.args.words.now) next c.loop-word.invariant.made c.loop-word.invariant.none
          (option_or-None (repeated (names_in c.loop-word.names, c.word-item.result)) ∙ c.in_ok-declare.ensures.answers);
    }
