use Rattle.std.proofs.Common.{sym, refl}
use Rattle.ft_claims.proofs.CollectingLemmas.{like, like_all, collects-Le, collects-Lt, collects-Not, collects-And, collects-Or, part-more}
use Rattle.ft_claims.proofs.formulating.+formula.Goals as goal

pub formula_of-returns-in_ok-whole-in-Le : goal.formula_of-returns-in_ok-whole-in-Le
formula_of-returns-in_ok-whole-in-Le t c =
    like c.args.base c.in-Le.is c.in_ok-whole-in-Le.ensures (collects-Le c.args.base c.in-Le.a c.in-Le.b c.args.pairs.now
    c.form_of.new.pairs c.form_of-in-Le.new.pairs
    c.in_ok-first-in-Le.first c.in_ok-second-in-Le.second c.in_ok-first-in-Le.ensures c.in_ok-second-in-Le.ensures)

pub formula_of-returns-in_ok-whole-in-Lt : goal.formula_of-returns-in_ok-whole-in-Lt
formula_of-returns-in_ok-whole-in-Lt t c =
    like c.args.base c.in-Lt.is c.in_ok-whole-in-Lt.ensures (collects-Lt c.args.base c.in-Lt.a c.in-Lt.b c.args.pairs.now
    c.form_of-in-Lt.new.pairs c.form_of-in-Lt-2.new.pairs
    c.in_ok-first-in-Lt.first c.in_ok-second-in-Lt.second c.in_ok-first-in-Lt.ensures c.in_ok-second-in-Lt.ensures)

pub formula_of-returns-in_ok-whole-in-Not : goal.formula_of-returns-in_ok-whole-in-Not
formula_of-returns-in_ok-whole-in-Not t c =
    like c.args.base c.in-Not.is c.in_ok-whole-in-Not.ensures (collects-Not c.args.base c.in-Not.inner c.args.pairs.now
    c.formula_of.new.pairs c.in_ok-formula-in-Not.formula
    (like c.args.base (sym c.get.ensures) refl c.in_ok-formula-in-Not.ensures))

pub formula_of-returns-in_ok-list-in-And : goal.formula_of-returns-in_ok-list-in-And
formula_of-returns-in_ok-list-in-And t c =
    like c.args.base c.in-And.is refl (collects-And c.args.base c.in-And.parts c.args.pairs.now c.formulas_of.new.pairs
    c.in_ok-list-in-And.list
    (like_all c.args.base (sym c.as_slice.ensures) c.in_ok-list-in-And.ensures))

pub formula_of-returns-in_ok-list-in-Or : goal.formula_of-returns-in_ok-list-in-Or
formula_of-returns-in_ok-list-in-Or t c =
    like c.args.base c.in-Or.is refl (collects-Or c.args.base c.in-Or.parts c.args.pairs.now c.formulas_of-in-Or.new.pairs
    c.in_ok-list-in-Or.list
    (like_all c.args.base (sym c.as_slice-in-Or.ensures) c.in_ok-list-in-Or.ensures))

pub formulas_of-loop-part-preserved : goal.formulas_of-loop-part-preserved
formulas_of-loop-part-preserved t c =
    part-more c.args.base c.args.pairs.now c.loop-part.pairs c.formula_of.new.pairs c.loop-part.list c.push.new.self c.in_ok-formula.formula
    c.args.parts.now c.loop-part.part-index c.part-item.result
    c.loop-part-test.true c.part-item.is c.loop-part.invariant c.in_ok-formula.ensures c.in_ok-push.ensures.ok
