use Rattle.std.proofs.Common.{◌≡◌, ◌≤◌, ◌+◌, ◌-◌, ◌∙◌, sym, subst, ap, ℕ, List, length, take, drop, arith}
use Rattle.std.proofs.lemmas.List.{drop-drop, length-drop}
use Rattle.std.proofs.Math.Seq.{take-length}
use Rattle.ft_lex.specs.meaning.Space.{IsSpaceBefore}
use Rattle.ft_lex.specs.meaning.Tokens.{Begins, IsShape}
use Rattle.ft_lex.specs.meaning.Bytes.{begins_space}
use Rattle.ft_lex.specs.lexing.Lexing.{Shape, shape_of, space_len}
use Rattle.ft_lex.proofs.SpaceLemmas.{space-counted, space-over}
use Rattle.ft_lex.proofs.ShapeLemmas.{shape-is, shape-within}
use Rattle.ft_lex.proofs.lexing.next_token.Goals as goal

-- the slice from a place on is what is left there
rest-is : (text : List ℕ) (n : ℕ) → take (length text - n) (drop n text) ≡ drop n text
rest-is text n = ap (λ (k : ℕ). take k (drop n text)) (sym (length-drop n text)) ∙ take-length (drop n text)

pub overflow_add-result : goal.overflow_add-result
overflow_add-result c =
    let text = c.args.text.now in
    let start = c.args.from + c.space.result in
    let counted : c.space.result ≤ length (drop c.args.from text) = subst (λ (l : List ℕ). c.space.result ≤ length l)
    (rest-is text c.args.from) c.space.ensures.within in
    let shape = subst (λ (s : Shape). IsShape s.0 (drop start text) s.1) (ap shape_of (sym (rest-is text start)) ∙ sym c.shape-kind.ensures)
    (shape-is (drop start text)) in
    omega (arith, counted, length-drop c.args.from text, length-drop start text, shape-within _ (drop start text) _ shape)

pub returns : goal.returns
returns c =
    let text = c.args.text.now in
    let from = c.args.from in
    let start = from + c.space.result in
    let bytes = drop from text in
    let counted : c.space.result ≤ length bytes = subst (λ (l : List ℕ). c.space.result ≤ length l) (rest-is text from)
    c.space.ensures.within in
    let len : c.space.result ≡ space_len bytes = c.space.ensures.length ∙ ap space_len (rest-is text from) in
    let shape = subst (λ (s : Shape). IsShape s.0 (drop start text) s.1) (ap shape_of (sym (rest-is text start)) ∙ sym c.shape-kind.ensures)
    (shape-is (drop start text)) in
    let size = shape-within _ (drop start text) _ shape in
    let skipped : drop (space_len bytes) bytes ≡ drop start text = drop-drop (space_len bytes) from text
    ∙ ap (λ (n : ℕ). drop (from + n) text) (sym len) in
    let back : start + c.shape-kind.result.1 - start ≡ c.shape-kind.result.1 = omega arith in
    record {
      follows = omega arith;
      lies = record { ordered = omega arith; within = omega (arith, counted, length-drop from text, length-drop start text, size) };
      space = subst (IsSpaceBefore bytes) skipped (space-counted bytes);
      no_space = subst (λ (rest : List ℕ). Begins begins_space rest → ⊥) skipped (space-over bytes);
      shape = subst (λ (n : ℕ). IsShape c.shape-kind.result.0 (drop start text) n) (sym back) shape;
      place = c.place_at.ensures;
    }
