use Rattle.std.proofs.Common.{◌≡◌, sym, subst, ℕ, List, [], ◌∷◌, ◌++◌, map, arith}
use Rattle.std.specs.Prelude.{codes}
use Rattle.std.proofs.lemmas.Result.{err_from_is_err_and}
use Rattle.std.proofs.lemmas.List.{length-map}
use Rattle.ft_cert.specs.declared.node.CertNode.{CertNode}
use Rattle.ft_cert.specs.meaning.Tree.{nodes_of}
use Rattle.ft_certs.specs.meaning.Text.{Spells}
use Rattle.ft_certs.specs.meaning.Refusal.{Whole}
use Rattle.ft_certs.specs.building.Pieces.{NameLines, Numbers, Obligations, Scans, Word}
use Rattle.ft_certs.proofs.StuckLemmas.{refused-as, refused-on}
use Rattle.ft_certs.proofs.ReadingLemmas.{at-count, at-list, at-name, at-scans, front1, front2, front3, front4, front5, read-whole, refused1, refused2, refused3, refused4, refused5, refused6}
use Rattle.ft_certs.proofs.reading.read.Goals as goal

pub returns-in_err-rest-clause-refused : goal.returns-in_err-rest-clause-refused
returns-in_err-rest-clause-refused c =
    let p = err_from_is_err_and c.from_residual.result c.from_residual.ensures.1 in
    rw (p.1, p.2)
    (refused-as c.in_err-rest.field-0.0 (Word front1) Whole c.args.text.now c.args.text.now (λ left s. refused1 c.args.text.now left s) c.in_err-rest.ensures.stopped)

pub returns-in_err-name-clause-refused : goal.returns-in_err-name-clause-refused
returns-in_err-name-clause-refused c =
    let p = err_from_is_err_and c.from_residual-in_err-name.result c.from_residual-in_err-name.ensures.1 in
    rw (p.1, p.2)
    (refused-as c.in_err-name.field-0.0 NameLines Whole c.in_ok-rest.rest.now c.args.text.now
    (λ left s. refused2 c.args.text.now c.in_ok-rest.rest.now left c.in_ok-rest.ensures.read s) c.in_err-name.ensures.stopped)

pub returns-in_err-rest-2-clause-refused : goal.returns-in_err-rest-2-clause-refused
returns-in_err-rest-2-clause-refused c =
    let p = err_from_is_err_and c.from_residual-in_err-rest-2.result c.from_residual-in_err-rest-2.ensures.1 in
    let at2 : c.args.text.now ≡ front2 c.in_ok-name.name.now ++ c.in_ok-name.rest.now =
    at-name c.args.text.now c.in_ok-rest.rest.now c.in_ok-name.name.now c.in_ok-name.rest.now c.in_ok-rest.ensures.read c.in_ok-name.ensures.read.1 in
    rw (p.1, p.2)
    (refused-as c.in_err-rest-2.field-0.0 (Word (codes "list ")) Whole c.in_ok-name.rest.now c.args.text.now
    (λ left s. refused3 c.args.text.now c.in_ok-name.rest.now c.in_ok-name.name.now left c.in_ok-name.ensures.read.0 at2 s) c.in_err-rest-2.ensures.stopped)

pub returns-in_err-count-clause-refused : goal.returns-in_err-count-clause-refused
returns-in_err-count-clause-refused c =
    let p = err_from_is_err_and c.from_residual-in_err-count.result c.from_residual-in_err-count.ensures.1 in
    let at2 : c.args.text.now ≡ front2 c.in_ok-name.name.now ++ c.in_ok-name.rest.now =
    at-name c.args.text.now c.in_ok-rest.rest.now c.in_ok-name.name.now c.in_ok-name.rest.now c.in_ok-rest.ensures.read c.in_ok-name.ensures.read.1 in
    let at3 : c.args.text.now ≡ front3 c.in_ok-name.name.now ++ c.in_ok-rest-2.rest.now =
    at-list c.args.text.now c.in_ok-name.rest.now c.in_ok-name.name.now c.in_ok-rest-2.rest.now at2 c.in_ok-rest-2.ensures.read in
    rw (p.1, p.2)
    (refused-as c.in_err-count.field-0.0 (Numbers 0 4294967295 (10 ∷ [])) Whole c.in_ok-rest-2.rest.now c.args.text.now
    (λ left s. refused4 c.args.text.now c.in_ok-rest-2.rest.now c.in_ok-name.name.now left c.in_ok-name.ensures.read.0 at3 s) c.in_err-count.ensures.stopped)

pub returns-in_err-list-clause-refused : goal.returns-in_err-list-clause-refused
returns-in_err-list-clause-refused c =
    let p = err_from_is_err_and c.from_residual-in_err-list.result c.from_residual-in_err-list.ensures.1 in
    let at2 : c.args.text.now ≡ front2 c.in_ok-name.name.now ++ c.in_ok-name.rest.now =
    at-name c.args.text.now c.in_ok-rest.rest.now c.in_ok-name.name.now c.in_ok-name.rest.now c.in_ok-rest.ensures.read c.in_ok-name.ensures.read.1 in
    let at3 : c.args.text.now ≡ front3 c.in_ok-name.name.now ++ c.in_ok-rest-2.rest.now =
    at-list c.args.text.now c.in_ok-name.rest.now c.in_ok-name.name.now c.in_ok-rest-2.rest.now at2 c.in_ok-rest-2.ensures.read in
    let n = c.in_ok-count.ensures.read in
    let at4 : c.args.text.now ≡ front4 c.in_ok-name.name.now c.in_ok-count.count ++ c.in_ok-count.rest.now =
    at-count c.args.text.now c.in_ok-rest-2.rest.now c.in_ok-name.name.now c.in_ok-count.rest.now c.in_ok-count.count c.in_ok-count.field-0-1 n.2 at3 n.3 in
    rw (p.1, p.2)
    (refused-as c.in_err-list.field-0.0 (Scans c.in_ok-count.count) Whole c.in_ok-count.rest.now c.args.text.now
    (λ left s. refused5 c.args.text.now c.in_ok-count.rest.now c.in_ok-name.name.now c.in_ok-count.count left c.in_ok-name.ensures.read.0 (omega (arith, n.1)) at4 s) c.in_err-list.ensures.stopped)

pub returns-in_err-certs-clause-refused : goal.returns-in_err-certs-clause-refused
returns-in_err-certs-clause-refused c =
    let p = err_from_is_err_and c.from_residual-in_err-certs.result c.from_residual-in_err-certs.ensures.1 in
    let at2 : c.args.text.now ≡ front2 c.in_ok-name.name.now ++ c.in_ok-name.rest.now =
    at-name c.args.text.now c.in_ok-rest.rest.now c.in_ok-name.name.now c.in_ok-name.rest.now c.in_ok-rest.ensures.read c.in_ok-name.ensures.read.1 in
    let at3 : c.args.text.now ≡ front3 c.in_ok-name.name.now ++ c.in_ok-rest-2.rest.now =
    at-list c.args.text.now c.in_ok-name.rest.now c.in_ok-name.name.now c.in_ok-rest-2.rest.now at2 c.in_ok-rest-2.ensures.read in
    let n = c.in_ok-count.ensures.read in
    let at4 : c.args.text.now ≡ front4 c.in_ok-name.name.now c.in_ok-count.count ++ c.in_ok-count.rest.now =
    at-count c.args.text.now c.in_ok-rest-2.rest.now c.in_ok-name.name.now c.in_ok-count.rest.now c.in_ok-count.count c.in_ok-count.field-0-1 n.2 at3 n.3 in
    let l = c.in_ok-list.ensures.read in
    let at5 : c.args.text.now ≡ front5 c.in_ok-name.name.now c.in_ok-list.list ++ c.in_ok-list.rest.now =
    at-scans c.args.text.now c.in_ok-count.rest.now c.in_ok-name.name.now c.in_ok-list.rest.now c.in_ok-count.count c.in_ok-list.list l.0 at4 l.2 in
    rw (p.1, p.2)
    (refused-on c.in_err-certs.field-0.0 (Obligations 0) Whole c.in_ok-list.rest.now c.args.text.now
    (λ left r. refused6 c.args.text.now c.in_ok-list.rest.now c.in_ok-name.name.now c.in_ok-list.list left c.in_ok-name.ensures.read.0 l.1 (omega (arith, l.0, n.1)) at5 r) c.in_err-certs.ensures.refused)

pub returns-clause-read : goal.returns-clause-read
returns-clause-read c =
    let at2 : c.args.text.now ≡ front2 c.in_ok-name.name.now ++ c.in_ok-name.rest.now =
    at-name c.args.text.now c.in_ok-rest.rest.now c.in_ok-name.name.now c.in_ok-name.rest.now c.in_ok-rest.ensures.read c.in_ok-name.ensures.read.1 in
    let at3 : c.args.text.now ≡ front3 c.in_ok-name.name.now ++ c.in_ok-rest-2.rest.now =
    at-list c.args.text.now c.in_ok-name.rest.now c.in_ok-name.name.now c.in_ok-rest-2.rest.now at2 c.in_ok-rest-2.ensures.read in
    let n = c.in_ok-count.ensures.read in
    let at4 : c.args.text.now ≡ front4 c.in_ok-name.name.now c.in_ok-count.count ++ c.in_ok-count.rest.now =
    at-count c.args.text.now c.in_ok-rest-2.rest.now c.in_ok-name.name.now c.in_ok-count.rest.now c.in_ok-count.count c.in_ok-count.field-0-1 n.2 at3 n.3 in
    let l = c.in_ok-list.ensures.read in
    let at5 : c.args.text.now ≡ front5 c.in_ok-name.name.now c.in_ok-list.list ++ c.in_ok-list.rest.now =
    at-scans c.args.text.now c.in_ok-count.rest.now c.in_ok-name.name.now c.in_ok-list.rest.now c.in_ok-count.count c.in_ok-list.list l.0 at4 l.2 in
    let r = c.in_ok-certs.ensures.read in
    let cs : List (List CertNode) = map nodes_of c.in_ok-certs.certs in
    subst (λ (name : List ℕ). Spells c.args.text.now (record { set = name; list = c.in_ok-list.list; certs = cs })) (sym c.in_ok-set.ensures)
    (read-whole c.args.text.now c.in_ok-list.rest.now c.in_ok-name.name.now c.in_ok-list.list cs c.in_ok-name.ensures.read.0 l.1 (omega (arith, l.0, n.1)) r.0
    (omega (arith, length-map c.in_ok-certs.certs nodes_of, r.1)) at5 r.2)
