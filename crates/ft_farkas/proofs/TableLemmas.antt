-- The table of kept rows: what a row more leaves, and tops.
use Rattle.std.proofs.Common.{◌≡◌, ◌∙◌, sym, ap, subst, refl, ℕ, zero, suc, ◌+◌, ◌*◌, ◌<◌, ◌≤◌, ℤ, pos, ◌<ℤ◌, ◌≤ℤ◌, ◌↔◌, List, [], ◌∷◌, ◌++◌, length, take, drop, IsTrue, Bool, true, false, nat_eq, arith}
use Rattle.std.proofs.lemmas.Int.{ints, by_lt_z}
use Rattle.std.proofs.lemmas.List.{get_or_append_left, take_all, take-append-le, drop-append-le, drop-drop, length-drop, length-take, length-append}
use Rattle.std.proofs.lemmas.List.Elements.{All-take, All-drop, All-append}
use Rattle.std.proofs.Math.Nat.{mul-le-mul_right}
use Rattle.std.proofs.Math.Seq.{get_or-append_seam}
use Rattle.ft_farkas.specs.meaning.Rows.{Row, row_of, constant, width}
use Rattle.std.specs.Prelude.{slice_index_or, All}
use Rattle.ft_farkas.specs.meaning.Kept.{row_in, IsNarrow}
use Rattle.ft_farkas.specs.meaning.Fractions.{IsBelow}
use Rattle.ft_farkas.specs.building.Points.{IsTop}
use Rattle.ft_farkas.specs.building.Table.{HaveTops, IsRow, IsTable, rows_of}

-- a row with an unknown left
pub some-left : (n top : ℕ) (r : Row) → IsTop n r top → (top ≡ 0 → ⊥) → IsBelow n 0 r → ⊥
some-left n zero r is some none = some refl
some-left n (suc u) r is some none = is.2 u refl (none u (omega arith) (omega (arith, is.0)))

pub contradicts-not : (n : ℕ) (r : Row) (top : ℕ) → IsTop n r top → (top ≡ 0 → ⊥) →
    (IsTrue (nat_eq top 0) → IsBelow n 0 r × (pos 0 <ℤ constant r)) × (IsBelow n 0 r × (pos 0 <ℤ constant r) → IsTrue (nat_eq top 0))
contradicts-not n r top is isnt = (λ so. absurd (isnt (is-zero top so)), λ h. absurd (some-left n top r is isnt h.0))
  where
    is-zero : (t : ℕ) → IsTrue (nat_eq t 0) → t ≡ 0
    is-zero t e = grind (arith, e)

-- one row more
pub more-old : (kept : List (List ℤ)) (row : List ℤ) (k : ℕ) → k < length kept → row_in (kept ++ row ∷ []) k ≡ row_in kept k
more-old kept row k below = ap row_of (get_or_append_left kept (row ∷ []) [] k below)

pub more-new : (kept : List (List ℤ)) (row : List ℤ) (k : ℕ) → k ≡ length kept → row_in (kept ++ row ∷ []) k ≡ row_of row
more-new kept row k e = ap (row_in (kept ++ row ∷ [])) e ∙ ap row_of (get_or-append_seam kept row [] [])

-- what is so of each row before and of the new one is so of all
pub each-more : (P : ℕ → Row → Type 0) (kept : List (List ℤ)) (row : List ℤ) → ((k : ℕ) → k < length kept → P k (row_in kept k)) → P (length kept) (row_of row) →
    (k : ℕ) → k < length kept + 1 → P k (row_in (kept ++ row ∷ []) k)
each-more P kept row old new k below = by (nat_eq k (length kept)) refl
  where
    same : (a b : ℕ) → nat_eq a b ≡ true → a ≡ b
    same a b e = grind (arith, e)

    less : (a b : ℕ) → nat_eq a b ≡ false → a < b + 1 → a < b
    less a b e h = grind (arith, e, h)

    by : (b : Bool) → nat_eq k (length kept) ≡ b → P k (row_in (kept ++ row ∷ []) k)
    by true e = subst (P k) (sym (more-new kept row k (same k (length kept) e))) (subst (λ (j : ℕ). P j (row_of row)) (sym (same k (length kept) e)) new)
    by false e = let low = less k (length kept) e below in subst (P k) (sym (more-old kept row k low)) (old k low)

pub length-more : (kept : List (List ℤ)) (row : List ℤ) → length (kept ++ row ∷ []) ≡ length kept + 1
length-more [] row = omega arith
length-more (r ∷ kept) row = let rest = length-more kept row in omega (arith, rest)

-- the new row doesn't contradict
pub none-new : (n : ℕ) (r : Row) (b : Bool) → (IsTrue b ↔ (IsBelow n 0 r × (pos 0 <ℤ constant r))) → b ≡ false → IsBelow n 0 r → constant r ≤ℤ pos 0
none-new n r b is isnt none = by_lt_z (pos 0) (constant r) (λ above. absurd (differ b isnt (is.1 (none, above)))) (λ other. omega (arith, ints, other))
  where
    differ : (b : Bool) → b ≡ false → IsTrue b → ⊥
    differ b e so = grind (arith, e, so)

-- rows that lie one after another
pub next-row : (columns count : ℕ) → suc count * columns ≡ columns + count * columns
next-row columns count = grind arith

pub rows-length : (columns count : ℕ) (numbers : List ℤ) → length (rows_of columns count numbers) ≡ count
rows-length columns zero numbers = refl
rows-length columns (suc count) numbers = let rest = rows-length columns count (drop columns numbers) in omega (arith, rest)

pub row-within : (columns at count : ℕ) → at < count → at * columns + columns ≤ count * columns
row-within columns at count below =
    let most : suc at * columns ≤ count * columns = mul-le-mul_right columns (omega (arith, below)) in
    let next = next-row columns at in
    omega (arith, most, next)

pub row-is : (columns count : ℕ) (numbers : List ℤ) (at : ℕ) → at < count → slice_index_or (rows_of columns count numbers) at [] ≡ take columns (drop (at * columns) numbers)
row-is columns zero numbers at below = absurd (omega (arith, below))
row-is columns (suc count) numbers zero below = ap (λ (n : ℕ). take columns (drop n numbers)) (sym (none columns))
  where
    none : (columns : ℕ) → 0 * columns ≡ 0
    none columns = grind arith
row-is columns (suc count) numbers (suc at) below =
    row-is columns count (drop columns numbers) at (omega (arith, below))
    ∙ ap (take columns) (drop-drop (at * columns) columns numbers ∙ ap (λ (n : ℕ). drop n numbers) (sym (next-row columns at)))

pub rows-more : (columns count : ℕ) (numbers row : List ℤ) → length numbers ≡ count * columns → length row ≡ columns →
    rows_of columns (suc count) (numbers ++ row) ≡ rows_of columns count numbers ++ row ∷ []
rows-more columns zero [] row long own = ap (λ (r : List ℤ). r ∷ []) (take_all columns row (omega (arith, own)))
rows-more columns zero (x ∷ numbers) row long own = absurd (omega (arith, long))
rows-more columns (suc count) numbers row long own =
    let next = next-row columns count in
    let enough : columns ≤ length numbers = omega (arith, next, long) in
    let rest : length (drop columns numbers) ≡ count * columns = let left = length-drop columns numbers in omega (arith, left, next, long) in
    ap (λ (r : List ℤ). r ∷ rows_of columns (suc count) (drop columns (numbers ++ row))) (take-append-le columns numbers row enough)
    ∙ ap (λ (r : List ℤ). take columns numbers ∷ rows_of columns (suc count) r) (drop-append-le columns numbers row enough)
    ∙ ap (λ (rs : List (List ℤ)). take columns numbers ∷ rs) (rows-more columns count (drop columns numbers) row rest own)

tops-more : (n : ℕ) (rows : List (List ℤ)) (tops : List ℕ) (row : List ℤ) (top : ℕ) → length rows ≡ length tops → HaveTops n rows tops (length tops) → IsTop n (row_of row) top →
    HaveTops n (rows ++ row ∷ []) (tops ++ top ∷ []) (suc (length tops))
tops-more n rows tops row top long old new k below =
    each-more (λ (j : ℕ) (r : Row). IsTop n r (slice_index_or (tops ++ top ∷ []) j 0)) rows row
    (λ j low. let low-top : j < length tops = omega (arith, low, long) in subst (IsTop n (row_in rows j)) (sym (get_or_append_left tops (top ∷ []) 0 j low-top)) (old j low-top))
    (subst (IsTop n (row_of row)) (sym (ap (λ (j : ℕ). slice_index_or (tops ++ top ∷ []) j 0) long ∙ get_or-append_seam tops top [] 0)) new)
    k (omega (arith, below, long))

-- the table with one row more
pub table-more : (n columns : ℕ) (numbers : List ℤ) (tops : List ℕ) (row : List ℤ) (top : ℕ) → IsTable n columns numbers tops → IsRow n row → IsTop n (row_of row) top →
    IsTable n columns (numbers ++ row) (tops ++ top ∷ [])
table-more n columns numbers tops row top table new is = (
  table.0,
  long,
  All-append IsNarrow numbers row table.2 new.1,
  subst (λ (c : ℕ). HaveTops n (rows_of columns c (numbers ++ row)) (tops ++ top ∷ []) c) (sym one)
      (subst (λ (rows : List (List ℤ)). HaveTops n rows (tops ++ top ∷ []) (suc (length tops))) (sym (rows-more columns (length tops) numbers row table.1 (new.0 ∙ sym table.0)))
      (tops-more n (rows_of columns (length tops) numbers) tops row top (rows-length columns (length tops) numbers) table.3 is)),
)
  where
    one : length (tops ++ top ∷ []) ≡ suc (length tops)
    one = length-append tops (top ∷ []) ∙ omega arith

    long : length (numbers ++ row) ≡ length (tops ++ top ∷ []) * columns
    long = let added = length-append numbers row in let next = next-row columns (length tops) in let old = table.1 in let own = new.0 in let wide = table.0 in
        omega (arith, added, next, old, own, wide) ∙ ap (λ (c : ℕ). c * columns) (sym one)

pub kept-more : (columns : ℕ) (numbers : List ℤ) (tops : List ℕ) (row : List ℤ) (top : ℕ) → length numbers ≡ length tops * columns → length row ≡ columns →
    rows_of columns (length (tops ++ top ∷ [])) (numbers ++ row) ≡ rows_of columns (length tops) numbers ++ row ∷ []
kept-more columns numbers tops row top long own =
    ap (λ (c : ℕ). rows_of columns c (numbers ++ row)) one ∙ rows-more columns (length tops) numbers row long own
  where
    one : length (tops ++ top ∷ []) ≡ suc (length tops)
    one = length-append tops (top ∷ []) ∙ omega arith

pub row-room : (columns count room held spare : ℕ) → held ≡ count * columns → count < room → room * columns ≤ spare → held + columns ≤ spare
row-room columns count room held spare full below most = let fits = row-within columns count room below in omega (arith, full, most, fits)

pub some-room : (columns count room seen : ℕ) (numbers : List ℤ) (rows : List (List ℤ)) → rows_of columns count numbers ≡ rows → room ≡ seen → length rows < seen → count < room
some-room columns count room seen numbers rows is same below =
    let long = rows-length columns count numbers in
    let rows-long = ap (λ (rs : List (List ℤ)). length rs) is in
    omega (arith, long, rows-long, same, below)

pub row-there : (columns count at : ℕ) (numbers : List ℤ) (rows : List (List ℤ)) → rows_of columns count numbers ≡ rows → at < length rows → at < count
row-there columns count at numbers rows is below =
    let long = rows-length columns count numbers in
    let rows-long = ap (λ (rs : List (List ℤ)). length rs) is in
    omega (arith, long, rows-long, below)

-- a row of the table
pub row-taken : (columns count at : ℕ) (numbers : List ℤ) (rows : List (List ℤ)) → rows_of columns count numbers ≡ rows → at < length rows →
    take columns (drop (at * columns) numbers) ≡ slice_index_or rows at []
row-taken columns count at numbers rows is below =
    sym (row-is columns count numbers at (row-there columns count at numbers rows is below)) ∙ ap (λ (rs : List (List ℤ)). slice_index_or rs at []) is

pub row-kept : (n columns count at : ℕ) (numbers : List ℤ) → columns ≡ width n → length numbers ≡ count * columns → All IsNarrow numbers → at < count →
    IsRow n (take columns (drop (at * columns) numbers))
row-kept n columns count at numbers wide long narrow below = (
  exact ∙ wide,
  All-take IsNarrow columns (drop (at * columns) numbers) (All-drop IsNarrow (at * columns) numbers narrow),
)
  where
    exact : length (take columns (drop (at * columns) numbers)) ≡ columns
    exact =
        let fits = row-within columns at count below in
        let left = length-drop (at * columns) numbers in
        length-take columns (drop (at * columns) numbers) ∙ omega (arith, fits, left, long)
