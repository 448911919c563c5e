use Rattle.std.proofs.Common.{◌≡◌, ◌∙◌, sym, ap, subst, All, length, List, pos, []}
use Rattle.std.specs.List.{IsDistinct}
use Rattle.std.proofs.lemmas.List.Elements.{All-nil}
use Rattle.ft_settle.specs.meaning.Canonical.{IsCanonical}
use Rattle.ft_settle.proofs.AtomLemmas.{all-with, distinct-with, forms-canonical, none-distinct}
use Rattle.ft_linear.specs.meaning.Form.{LinView}
use Rattle.ft_linear.specs.meaning.Formula.{FormulaView, atoms_below, truth_at}
use Rattle.ft_settle.specs.meaning.Settled.{AreFirstOccurrences, forms_of, placed, same_form, with_forms}
use Rattle.ft_settle.proofs.OccurrenceLemmas.{first-occurrences, none-occurs}
use Rattle.ft_settle.proofs.SettleLemmas.{has-all, is-placed}
use Rattle.ft_settle.proofs.settling.settle.Goals as goal

pub of_parts-requires : goal.of_parts-requires
of_parts-requires c =
    let raw = c.args.raw.now in
    let forms : c.collect.new.forms ≡ with_forms [] (forms_of raw) = c.in_ok-collect.ensures.forms
    ∙ ap (λ (l : List LinView). with_forms l (forms_of raw)) c.new-forms.ensures in
    let root : c.in_ok-root.root ≡ placed (with_forms [] (forms_of raw)) raw = c.in_ok-root.ensures
    ∙ ap (λ (l : List LinView). placed l raw) forms in
    let atoms = c.in_ok-atoms.ensures ∙ forms in
    (λ i. atoms_below (length (atoms i)) (root i)) ∙ (is-placed c.form_laws.ensures.literal c.form_laws.ensures.divided
    c.form_laws.ensures.quotient (with_forms [] (forms_of raw)) (λ u. pos 0) raw (has-all [] (forms_of raw))
    c.in_ok-collect.ensures.begins).below

pub returns-clause-same : goal.returns-clause-same
returns-clause-same c x =
    let raw = c.args.raw.now in
    let forms : c.collect.new.forms ≡ with_forms [] (forms_of raw) = c.in_ok-collect.ensures.forms
    ∙ ap (λ (l : List LinView). with_forms l (forms_of raw)) c.new-forms.ensures in
    let root : c.in_ok-root.root ≡ placed (with_forms [] (forms_of raw)) raw = c.in_ok-root.ensures
    ∙ ap (λ (l : List LinView). placed l raw) forms in
    let atoms = c.in_ok-atoms.ensures ∙ forms in
    let whole : ◌≡◌ {A = FormulaView} c.of_parts.result (record {
      atoms = with_forms [] (forms_of raw);
      root =
          placed (with_forms [] (forms_of raw)) raw;
    }) =
    c.of_parts.ensures ∙ (λ i. record { atoms = atoms i; root = root i }) in
    ap (λ (f : FormulaView). truth_at f x) whole ∙ (is-placed c.form_laws.ensures.literal c.form_laws.ensures.divided
    c.form_laws.ensures.quotient (with_forms [] (forms_of raw)) x raw (has-all [] (forms_of raw)) c.in_ok-collect.ensures.begins).same

pub returns-clause-canonical : goal.returns-clause-canonical
returns-clause-canonical c =
    let raw = c.args.raw.now in
    let forms : c.collect.new.forms ≡ with_forms [] (forms_of raw) = c.in_ok-collect.ensures.forms
    ∙ ap (λ (l : List LinView). with_forms l (forms_of raw)) c.new-forms.ensures in
    subst (All IsCanonical) (sym (ap (λ (f : FormulaView). f.atoms) c.of_parts.ensures ∙ c.in_ok-atoms.ensures ∙ forms))
    (all-with IsCanonical [] (forms_of raw) (All-nil IsCanonical) (forms-canonical c.form_laws.ensures.quotient raw
    c.in_ok-collect.ensures.begins))

pub returns-clause-different : goal.returns-clause-different
returns-clause-different c =
    let raw = c.args.raw.now in
    let forms : c.collect.new.forms ≡ with_forms [] (forms_of raw) = c.in_ok-collect.ensures.forms
    ∙ ap (λ (l : List LinView). with_forms l (forms_of raw)) c.new-forms.ensures in
    subst (IsDistinct same_form) (sym (ap (λ (f : FormulaView). f.atoms) c.of_parts.ensures ∙ c.in_ok-atoms.ensures ∙ forms))
    (distinct-with [] (forms_of raw) none-distinct)

pub returns-clause-numbered : goal.returns-clause-numbered
returns-clause-numbered c =
    let raw = c.args.raw.now in
    let forms : c.collect.new.forms ≡ with_forms [] (forms_of raw) = c.in_ok-collect.ensures.forms
    ∙ ap (λ (l : List LinView). with_forms l (forms_of raw)) c.new-forms.ensures in
    subst (AreFirstOccurrences (forms_of raw)) (sym (ap (λ (f : FormulaView). f.atoms) c.of_parts.ensures ∙ c.in_ok-atoms.ensures ∙ forms))
    (first-occurrences [] (forms_of raw) [] none-occurs)
