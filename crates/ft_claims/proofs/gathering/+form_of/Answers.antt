use Rattle.std.proofs.Common.{rules, ◌≡◌, ◌∙◌, sym, ap, refl, w64, FitsSigned, to_z, of_z}
use Rattle.std.proofs.lemmas.Int.{to_z-of_z}
use Rattle.ft_claims.specs.meaning.Forms.{constant_form, times, with_entry, quotient}
use Rattle.ft_claims.proofs.MakingLemmas.{alike, gathers-Num, gathers-Slot, gathers-Neg, gathers-Times, gathers-Add, gathers-Sub}
use Rattle.ft_claims.proofs.MakingLemmas.{gathers-Div}
use Rattle.ft_claims.proofs.gathering.+form_of.Goals as goal

pub returns-in-Num : goal.returns-in-Num
returns-in-Num t c =
    let fits : FitsSigned w64 c.in-Num.number = search rules in
    alike c.args.base c.in-Num.is (c.constant.ensures ∙ ap constant_form (to_z-of_z w64 c.in-Num.number fits))
    (gathers-Num c.args.base c.in-Num.number c.args.pairs.now)

pub returns-in_ok-form-in-Slot : goal.returns-in_ok-form-in-Slot
returns-in_ok-form-in-Slot t c = alike c.args.base c.in-Slot.is (simp c.from.ensures at c.in_ok-form-in-Slot.ensures)
    (gathers-Slot c.args.base c.in-Slot.name c.args.pairs.now)

pub returns-in_ok-whole-in-Neg : goal.returns-in_ok-whole-in-Neg
returns-in_ok-whole-in-Neg t c =
    alike c.args.base c.in-Neg.is c.in_ok-whole-in-Neg.ensures (gathers-Neg c.args.base c.in-Neg.inner c.args.pairs.now c.form_of.new.pairs
    c.in_ok-form-in-Neg.form
    (alike c.args.base (sym c.get.ensures) refl c.in_ok-form-in-Neg.ensures))

pub returns-in_ok-whole-in-Add : goal.returns-in_ok-whole-in-Add
returns-in_ok-whole-in-Add t c =
    alike c.args.base c.in-Add.is c.in_ok-whole-in-Add.ensures (gathers-Add c.args.base c.in-Add.a c.in-Add.b c.args.pairs.now
    c.form_of-in-Add.new.pairs c.form_of-in-Add-2.new.pairs
    c.in_ok-first-in-Add.first c.in_ok-second-in-Add.second
    (alike c.args.base (sym c.get-in-Add.ensures) refl c.in_ok-first-in-Add.ensures)
    (alike c.args.base (sym c.get-in-Add-2.ensures) refl c.in_ok-second-in-Add.ensures))

pub returns-in_ok-whole-in-Sub : goal.returns-in_ok-whole-in-Sub
returns-in_ok-whole-in-Sub t c =
    alike c.args.base c.in-Sub.is c.in_ok-whole-in-Sub.ensures (gathers-Sub c.args.base c.in-Sub.a c.in-Sub.b c.args.pairs.now
    c.form_of-in-Sub.new.pairs c.form_of-in-Sub-2.new.pairs
    c.in_ok-first-in-Sub.first c.in_ok-second-in-Sub.second
    (alike c.args.base (sym c.get-in-Sub.ensures) refl c.in_ok-first-in-Sub.ensures)
    (alike c.args.base (sym c.get-in-Sub-2.ensures) refl c.in_ok-second-in-Sub.ensures))

pub returns-in_ok-whole-in-Times : goal.returns-in_ok-whole-in-Times
returns-in_ok-whole-in-Times t c =
    let fits : FitsSigned w64 c.in-Times.factor = search rules in
    alike c.args.base c.in-Times.is (c.in_ok-whole-in-Times.ensures ∙ ap (λ z. times z c.in_ok-form-in-Times.form)
    (to_z-of_z w64 c.in-Times.factor fits))
    (gathers-Times c.args.base c.in-Times.factor c.in-Times.inner c.args.pairs.now c.form_of-in-Times.new.pairs c.in_ok-form-in-Times.form
    (alike c.args.base (sym c.get-in-Times.ensures) refl c.in_ok-form-in-Times.ensures))

pub returns-in_ok-whole-in-Div : goal.returns-in_ok-whole-in-Div
returns-in_ok-whole-in-Div t c =
    let fits : FitsSigned w64 c.in-Div.divisor = search rules in
    let same : to_z w64 (of_z w64 c.in-Div.divisor) ≡ c.in-Div.divisor = to_z-of_z w64 c.in-Div.divisor fits in
    alike c.args.base c.in-Div.is refl (gathers-Div c.args.base c.in-Div.inner c.in-Div.divisor c.args.pairs.now c.form_of-in-Div.new.pairs
    c.quotient.new.pairs
    c.in_ok-form-in-Div.form c.in_ok-whole-in-Div.whole
    (alike c.args.base (sym c.get-in-Div.ensures) refl c.in_ok-form-in-Div.ensures)
    (c.in_ok-whole-in-Div.ensures.pairs ∙ ap (with_entry c.form_of-in-Div.new.pairs c.in_ok-form-in-Div.form) same)
    (c.in_ok-whole-in-Div.ensures.value ∙ ap (quotient c.args.base c.quotient.new.pairs c.in_ok-form-in-Div.form) same))
