-- Bytes spell one history, or have a fault.
use Rattle.std.proofs.Common.{◌≡◌, ◌∙◌, sym, ap, subst, refl, ℕ, suc, ◌<◌, ℤ, pos, List, [], ◌∷◌, ◌++◌, length, slice_index_or, arith}
use Rattle.std.proofs.lemmas.List.{append-nil}
use Rattle.std.proofs.lemmas.Option.{none-some, same_Some, get_or_from_slice_get}
use Rattle.ft_core.specs.declared.tables.Tables.{Tables}
use Rattle.ft_core.specs.declared.tables.Var.{Var}
use Rattle.ft_core.specs.meaning.Kinds.{monitored, place_of}
use Rattle.ft_mean.specs.meaning.Reading.{Scans}
use Rattle.ft_base.specs.Interval.{IsWithin}
use Rattle.ft_mean.specs.laws.RowLaws.{SameRows}
use Rattle.ft_trace.specs.meaning.Field.{field_value}
use Rattle.ft_trace.specs.meaning.Spelling.{FaultAfter, FaultNext, FirstBad, HasNoHeader, IsFirstFault, IsNoValue, IsOutside, RecordFault}
use Rattle.ft_trace.specs.meaning.Spelling.{Row, SpellAll, SpellsAt, SpellsHistory, SpellsScan, SpellsSoFar}
use Rattle.ft_trace.specs.declared.fault.TraceFault.{TraceFault}
use Rattle.ft_trace.specs.declared.fault.TraceFault.TheVariants as faults

same-values : (S : Tables) (row : Row) (a b : List ℤ) (x : ℕ) (v : Var) → SpellsAt S row a x v → SpellsAt S row b x v
    → slice_index_or a (place_of monitored S.vars x) (pos 0) ≡ slice_index_or b (place_of monitored S.vars x) (pos 0)
same-values S row a b x v s t =
    let fields : s.field ≡ t.field = same_Some s.field t.field (sym s.in_row ∙ t.in_row) in
    let values : s.value ≡ t.value = same_Some s.value t.value (sym s.spells.0 ∙ ap (λ (f : List ℕ). field_value v f) fields ∙ t.spells.0)
    in
    get_or_from_slice_get a (place_of monitored S.vars x) s.value (pos 0) s.in_values ∙ values
    ∙ sym (get_or_from_slice_get b (place_of monitored S.vars x) t.value (pos 0) t.in_values)

one-scan : SameRows → (S : Tables) (row : Row) (a b : List ℤ) → SpellsScan S row a → SpellsScan S row b → a ≡ b
one-scan same S row a b s t = same S monitored a b s.count t.count (λ x v is. same-values S row a b x v (s.each x v is) (t.each x v is))

one-list : SameRows → (S : Tables) (rows : List Row) (h k : Scans) → SpellAll S rows h → SpellAll S rows k → h ≡ k
unfolding SpellAll
one-list same S [] [] [] a b = refl
one-list same S [] [] (y ∷ k) a b = absurd b
one-list same S [] (x ∷ h) k a b = absurd a
one-list same S (r ∷ rows) [] k a b = absurd a
one-list same S (r ∷ rows) (x ∷ h) [] a b = absurd b
one-list same S (r ∷ rows) (x ∷ h) (y ∷ k) a b =
    ap (λ (z : List ℤ). z ∷ h) (one-scan same S r x y a.0 b.0) ∙ ap (λ (z : Scans). y ∷ z) (one-list same S rows h k a.1 b.1)

tail-of : (r s : Row) (rs ss : List Row) → r ∷ rs ≡ s ∷ ss → (r ≡ s) × (rs ≡ ss)
tail-of r s rs ss e = (cc e, cc e)

-- what is read to the end has the same rows
same-rows : (S : Tables) (bytes : List ℕ) (h k : Scans) (a : SpellsSoFar S bytes h []) (b : SpellsSoFar S bytes k []) → a.rows ≡ b.rows
same-rows S bytes h k a b =
    let e = tail-of a.header b.header (a.rows ++ []) (b.rows ++ []) (sym a.records ∙ b.records) in
    sym (append-nil a.rows) ∙ e.1 ∙ append-nil b.rows

pub one-history : SameRows → (S : Tables) (bytes : List ℕ) (h k : Scans) → SpellsHistory S bytes h → SpellsHistory S bytes k → h ≡ k
one-history same S bytes h k a b =
    one-list same S b.spells.rows h k (subst (λ (rs : List Row). SpellAll S rs h) (same-rows S bytes h k a.spells b.spells) a.spells.spell)
    b.spells.spell

as-many : (S : Tables) (rows : List Row) (h : Scans) → SpellAll S rows h → length rows ≡ length h
unfolding SpellAll
as-many S [] [] all = refl
as-many S [] (x ∷ h) all = absurd all
as-many S (r ∷ rows) [] all = absurd all
as-many S (r ∷ rows) (x ∷ h) all = ap suc (as-many S rows h all.1)

-- the row at the fault spells a scan of the history
reached : (S : Tables) (rows : List Row) (h : Scans) (front : List Row) (g : Scans) (row : Row) (rest : List Row) → SpellAll S rows h
    → SpellAll S front g → rows ≡ front ++ row ∷ rest
    → (length g < length h) × (scan : List ℤ) × SpellsScan S row scan
unfolding SpellAll
reached S [] h [] g row rest a b e = cc e
reached S [] h (f ∷ front) g row rest a b e = cc e
reached S (r ∷ rows) [] front g row rest a b e = absurd a
reached S (r ∷ rows) (x ∷ h) [] [] row rest a b e = (
  omega arith,
  x,
  subst (λ (z : Row). SpellsScan S z x) (tail-of r row rows rest e).0
      a.0,
)
reached S (r ∷ rows) (x ∷ h) [] (y ∷ g) row rest a b e = absurd b
reached S (r ∷ rows) (x ∷ h) (f ∷ front) [] row rest a b e = absurd b
reached S (r ∷ rows) (x ∷ h) (f ∷ front) (y ∷ g) row rest a b e =
    let more = reached S rows h front g row rest a.1 b.1 (tail-of r f rows (front ++ row ∷ rest) e).1 in
    (omega (arith, more.0), more.1, more.2)

not-bad : (S : Tables) (row : Row) (scan : List ℤ) (column : ℕ) → SpellsScan S row scan → FirstBad S row column IsNoValue → ⊥
not-bad S row scan column s f =
    let at = s.each f.x f.v f.is in
    let fields : at.field ≡ f.field = same_Some at.field f.field (sym at.in_row ∙ f.at) in
    none-some at.value (sym f.is_bad ∙ ap (λ (z : List ℕ). field_value f.v z) (sym fields) ∙ at.spells.0)

not-outside : (S : Tables) (row : Row) (scan : List ℤ) (column : ℕ) → SpellsScan S row scan → FirstBad S row column IsOutside → ⊥
not-outside S row scan column s f =
    let at = s.each f.x f.v f.is in
    let fields : at.field ≡ f.field = same_Some at.field f.field (sym at.in_row ∙ f.at) in
    let same : at.value ≡ f.is_bad.0 = same_Some at.value f.is_bad.0 (sym at.spells.0 ∙ ap (λ (z : List ℕ). field_value f.v z) fields
    ∙ f.is_bad.1) in
    f.is_bad.2 (subst (λ (z : ℤ). IsWithin f.v.range z) same at.spells.1)

no-row-fault : (S : Tables) (k : ℕ) (row : Row) (scan : List ℤ) (f : TraceFault) → SpellsScan S row scan → k < 100000
    → RecordFault S k row f → f ≡ faults.NoMemory
no-row-fault S k row scan faults.Head s few r = absurd r.1
no-row-fault S k row scan (faults.Width n) s few r = absurd (r.1.1 s.width)
no-row-fault S k row scan (faults.Value n c) s few r = absurd (not-bad S row scan c s r.1.2)
no-row-fault S k row scan (faults.OutOfRange n c) s few r = absurd (not-outside S row scan c s r.1.2)
no-row-fault S k row scan faults.ManyScans s few r = absurd (omega (arith, few, r))
no-row-fault S k row scan faults.Empty s few r = absurd r.1
no-row-fault S k row scan faults.NoMemory s few r = refl

no-end-fault : (S : Tables) (bytes : List ℕ) (h g : Scans) (f : TraceFault) → SpellsHistory S bytes h → SpellsSoFar S bytes g []
    → FaultNext S (length g) [] f → f ≡ faults.NoMemory
no-end-fault S bytes h g faults.Empty a s e = absurd (a.nonempty (empty h
    (sym (as-many S a.spells.rows h a.spells.spell) ∙ ap length (same-rows S bytes h g a.spells s) ∙ as-many S s.rows g s.spell ∙ e)))
  where
    empty : (xs : Scans) → length xs ≡ 0 → xs ≡ []
    empty [] e = refl
    empty (x ∷ xs) e = absurd (omega (arith, e))
no-end-fault S bytes h g faults.NoMemory a s e = refl
no-end-fault S bytes h g faults.Head a s e = absurd e
no-end-fault S bytes h g (faults.Width n) a s e = absurd e
no-end-fault S bytes h g (faults.Value n c) a s e = absurd e
no-end-fault S bytes h g (faults.OutOfRange n c) a s e = absurd e
no-end-fault S bytes h g faults.ManyScans a s e = absurd e

no-next : (S : Tables) (bytes : List ℕ) (h g : Scans) (rest : List Row) (f : TraceFault) → SpellsHistory S bytes h
    → SpellsSoFar S bytes g rest → FaultNext S (length g) rest f → f ≡ faults.NoMemory
no-next S bytes h g [] f a s e = no-end-fault S bytes h g f a s e
no-next S bytes h g (row ∷ rest) f a s e =
    let t = tail-of a.spells.header s.header (a.spells.rows ++ []) (s.rows ++ row ∷ rest) (sym a.spells.records ∙ s.records) in
    let k = reached S a.spells.rows h s.rows g row rest a.spells.spell s.spell (sym (append-nil a.spells.rows) ∙ t.1) in
    no-row-fault S (length g) row k.1 f k.2 (omega (arith, k.0, a.spells.few)) e

no-after : (S : Tables) (bytes : List ℕ) (h : Scans) (f : TraceFault) → SpellsHistory S bytes h → FaultAfter S bytes f
    → f ≡ faults.NoMemory
no-after S bytes h f a d = no-next S bytes h d.h d.rest f a d.spells d.next

pub history-or-fault : (S : Tables) (bytes : List ℕ) (h : Scans) (f : TraceFault) → SpellsHistory S bytes h → IsFirstFault S bytes f
    → f ≡ faults.NoMemory
history-or-fault S bytes h faults.NoMemory a d = refl
history-or-fault S bytes h faults.Head a d = absurd (subst (λ (rs : List Row). HasNoHeader S rs) a.spells.records d a.spells.is_header)
history-or-fault S bytes h (faults.Width n) a d = no-after S bytes h (faults.Width n) a d
history-or-fault S bytes h (faults.Value n c) a d = no-after S bytes h (faults.Value n c) a d
history-or-fault S bytes h (faults.OutOfRange n c) a d = no-after S bytes h (faults.OutOfRange n c) a d
history-or-fault S bytes h faults.ManyScans a d = no-after S bytes h faults.ManyScans a d
history-or-fault S bytes h faults.Empty a d = no-after S bytes h faults.Empty a d
