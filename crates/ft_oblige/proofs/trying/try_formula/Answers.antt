use Rattle.std.proofs.Common.{◌∙◌, subst, sym}
use Rattle.ft_cert.specs.meaning.Parts.{whole_of}
use Rattle.ft_cert.specs.prefix.Row.{tree_of}
use Rattle.ft_search.specs.laws.Budget.{AreNonempty}
use Rattle.ft_search.specs.meaning.Spent.{IsSpent}
use Rattle.ft_search.specs.searching.Space.{IsFound}
use Rattle.ft_search.specs.searching.Kept.{nodes_by}
use Rattle.ft_oblige.proofs.TriedLemmas.{closed_by, point_in, spent-in}
use Rattle.ft_oblige.proofs.trying.try_formula.Goals as goal

pub returns-in-Closed : goal.returns-in-Closed
returns-in-Closed c = closed_by c.cert_laws.ensures.none c.args.formula.now c.args.area.now.spans c.in_ok-cert-in-Closed.cert
    c.requires.over c.in_ok-cert-in-Closed.ensures.holds

pub returns-in-Point : goal.returns-in-Point
returns-in-Point c = point_in c.args.formula.now c.args.area.now.spans c.search.new.room c.in_ok-point-in-Point.point
    (subst (IsFound c.args.formula.now c.args.area.now.spans c.search.new.room) c.in-Point.is c.search.ensures.found)
    c.in_ok-point-in-Point.ensures

pub returns : goal.returns
returns c =
    let f = c.args.formula.now in let spans = c.args.area.now.spans in
    let found = subst (IsFound f spans c.search.new.room) c.in-Spent.is c.search.ensures.found in
    let as_many = subst (λ n. IsSpent f (whole_of f spans) n (tree_of (nodes_by f c.search.new.room.nodes.items)))
    (c.search.ensures.splits ∙ c.in_ok-room.ensures.splits) found in
    spent-in c.search_laws.ensures.budget f spans c.args.splits c.in_ok-tree-in-Spent.tree
    (subst AreNonempty c.as_slice.ensures c.have_values.ensures) c.root-root.ensures.below
    (subst (IsSpent f (whole_of f spans) c.args.splits) (sym c.in_ok-tree-in-Spent.ensures) as_many)
