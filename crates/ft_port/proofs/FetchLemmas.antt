-- What a fetch has read after some turns.
use Rattle.std.proofs.Common.{◌≡◌, ◌≢◌, ◌∙◌, sym, ap, subst, inl, inr, nat_lt, false, ℕ, ◌+◌, ◌<◌, ◌≤◌, List, ◌∷◌, ◌++◌, length, take}
use Rattle.std.proofs.Common.{Option, Some, Ok, arith, length-append, length-take-le, append-nil}
use Rattle.std.proofs.Math.Seq.{take-add, take-length}
use Rattle.ft_port.specs.Fetching.{IsFile}
use Rattle.ft_port.specs.Reads.{Read, given, joined, read_of, HasEnded}
use Rattle.ft_port.specs.Shelf.{ReadsFrom, reached}

-- the text is the front of what the reads gave
pub record SoFar (content : Option (List ℕ)) (reads : List Read) (limit : ℕ) (text : List ℕ) : Type 0 where
  pub short : length text ≤ limit
  pub inside : (file : List ℕ) → content ≡ Some file → length text ≤ length file
  pub part : (file : List ℕ) → content ≡ Some file → text ≡ take (length text) file
  pub front : take (length text) (given reads) ≡ text
  pub less : length text ≤ length (given reads)

-- a read at the end of the front takes the place of the rest
joins : (known text bytes : List ℕ) → take (length text) known ≡ text → length text ≤ length known → joined known (length text) (Some bytes)
    ≡ text ++ bytes
joins known text bytes front less =
    let at : nat_lt (length known) (length text) ≡ false = grind arith in
    rw at (λ i. front i ++ bytes)

-- after a read of n bytes at the text's end they stand after it
pub next : (E : Type 0) (reads now : List Read) (text into : List ℕ) (place n : ℕ) → place ≡ length text
    → take (length text) (given reads) ≡ text → length text ≤ length (given reads)
    → now ≡ read_of {E = E} place (Ok n) into ∷ reads → given now ≡ text ++ take n into
next E reads now text into place n at front less is =
    ap given is ∙ ap (λ p. joined (given reads) p (Some (take n into))) at ∙ joins (given reads) text (take n into) front less

module _ {E : Type 0} (content told_now : List ℕ → Option (List ℕ)) (reads now : List Read) (name : List ℕ) (limit place n : ℕ)
    (text into : List ℕ)
    (same : told_now ≡ content) (at : place ≡ length text) (so_far : SoFar (content name) reads limit text)
    (read : ReadsFrom {E = E} (told_now name) place (Ok n) into) (is : now ≡ read_of {E = E} place (Ok n) into ∷ reads) where
  reads_here : ReadsFrom {E = E} (content name) (length text) (Ok n) into
  reads_here = subst (λ p. ReadsFrom {E = E} (content name) p (Ok n) into) at
      (subst (λ f. ReadsFrom {E = E} (f name) place (Ok n) into) same read)

  pub known : given now ≡ text ++ take n into
  known = next E reads now text into place n at so_far.front so_far.less is

  pub long : length (text ++ take n into) ≡ length text + n
  long = length-append text (take n into) ∙ ap (λ m. length text + m) (length-take-le n into reads_here.within)

  -- one more read that gave something
  pub more : n ≢ 0 → length text + n ≤ limit → SoFar (content name) now limit (text ++ take n into)
  more some fits = record {
    short = omega (arith, long, fits);
    inside = λ file e. omega (arith, long, so_far.inside file e, reads_here.inside file e, some);
    part = λ file e. (λ i. so_far.part file e i ++ reads_here.bytes file e i) ∙ sym (take-add (length text) n file)
        ∙ ap (λ m. take m file) (sym long);
    front = ap (take (length (text ++ take n into))) known ∙ take-length (text ++ take n into);
    less = omega (arith, ap length known);
  }

  -- a read that gave nothing
  pub done : n ≡ 0 → 0 < length into → IsFile (content name) now limit text
  done none room =
      let nothing : text ++ take n into ≡ text = (λ i. text ++ take (none i) into) ∙ append-nil text in
      record {
        given = sym (known ∙ nothing);
        ended = subst HasEnded (sym is) (
          room,
          at ∙ ap length (sym nothing) ∙ ap length (sym known) ∙ ap (λ rs. length (given rs)) is,
          λ i. Some (take (none i) into),
        );
        short = so_far.short;
        whole = λ file e.
            let all : length text ≡ length file = elim ((reads_here.ended file e).0 none) [
              | inl nowhere ↦ absurd (omega (arith, nowhere, room))
              | inr past ↦ omega (arith, past, so_far.inside file e)
            ] in
            so_far.part file e ∙ ap (λ n. take n file) all ∙ take-length file;
      }

  -- a read that led beyond the limit
  pub beyond : limit < length text + n → limit < length (given now)
  beyond far = omega (arith, far, long, ap length known)

-- the reach never falls
pub grows : (before now place n : ℕ) → now ≡ reached before place n → before ≤ now
grows before now place n is = grind arith
