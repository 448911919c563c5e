-- Where the reader of a part is stuck, the reader of the whole is.
use Rattle.std.proofs.Common.{◌≡◌, ◌∙◌, sym, ap, subst, refl, ◌⊎◌, inl, inr, ⊎_elim, ℕ, List, [], ◌∷◌, ◌++◌, length, get_or, drop, append_assoc, append-nil, arith, Result, Ok, Err, IfErr}
use Rattle.std.proofs.lemmas.List.{append_cancel_left, length-append}
use Rattle.ft_certs.specs.meaning.Fault.{Begins, FaultAfter, Stops, Texts}
use Rattle.ft_certs.specs.building.Stuck.{Refused, RefusedBy, Stopped, Stuck}
use Rattle.ft_certs.specs.declared.stop.Stop.{Stop}
use Rattle.ft_certs.specs.declared.stop.Stop.TheVariants as stop

pub head-same : (b c : ℕ) (xs ys : List ℕ) → b ∷ xs ≡ c ∷ ys → b ≡ c
head-same b c xs ys e = ap (λ (l : List ℕ). get_or l 0 0) e

pub tail-same : (b c : ℕ) (xs ys : List ℕ) → b ∷ xs ≡ c ∷ ys → xs ≡ ys
tail-same b c xs ys e = ap (drop 1) e

pub no-front : (p q : List ℕ) → [] ≡ p ++ q → p ≡ []
no-front [] q e = refl
no-front (b ∷ p) q e = absurd (omega (arith, ap length e))

-- of two fronts of a list, one begins the other
abbrev pub Split : (p q front rest : List ℕ) → Type 0
Split p q front rest =
    ((r : List ℕ) × (p ≡ front ++ r) × (rest ≡ r ++ q)) ⊎ ((r : List ℕ) × (front ≡ p ++ r) × (q ≡ r ++ rest))

pub split : (p q front rest : List ℕ) → p ++ q ≡ front ++ rest → Split p q front rest
split p q [] rest e = inl (p, refl, sym e)
split [] q (b ∷ front) rest e = inr (b ∷ front, refl, e)
split (c ∷ p) q (b ∷ front) rest e =
    let same : c ≡ b = head-same c b (p ++ q) (front ++ rest) e in
    ⊎_elim
    (λ l. inl (l.0, ap (λ (x : ℕ). x ∷ p) same ∙ ap (λ (l : List ℕ). b ∷ l) l.1, l.2))
    (λ r. inr (r.0, ap (λ (x : ℕ). x ∷ front) (sym same) ∙ ap (λ (l : List ℕ). c ∷ l) r.1, r.2))
    (split p q front rest (tail-same c b (p ++ q) (front ++ rest) e))

-- a part that is read first
module _ (part whole : Texts)
    (goes : (w : List ℕ) → part w → (more : List ℕ) × whole (w ++ more))
    (begun : (w : List ℕ) → whole w → (p q : List ℕ) × (w ≡ p ++ q) × part p) where
  stops-by : (p q front : List ℕ) (b : ℕ) (more : List ℕ) → part p
      → ((p q : List ℕ) → front ≡ p ++ q → part p → ⊥) → (Begins part (front ++ b ∷ []) → ⊥)
      → (r : List ℕ) → p ≡ front ++ r → b ∷ more ≡ r ++ q → ⊥
  stops-by p q front b more is none s [] e f = none p [] (sym (append-nil front) ∙ sym e ∙ sym (append-nil p)) is
  stops-by p q front b more is none s (c ∷ r) e f =
      let same : c ≡ b = sym (head-same b c more (r ++ q) f) in
      s (r, subst part (e ∙ ap (λ (x : ℕ). front ++ x ∷ r) same ∙ sym (append_assoc front (b ∷ []) r)) is)

  stops-first : (front rest : List ℕ) → ((p q : List ℕ) → front ≡ p ++ q → part p → ⊥) → Stops part front rest → Stops whole front rest
  stops-first front [] none s = λ t. let b = begun front t in none b.0 b.1 b.2 b.3
  stops-first front (b ∷ rest) none s = λ g.
      let t = begun ((front ++ b ∷ []) ++ g.0) g.1 in
      ⊎_elim (λ l. stops-by t.0 t.1 front b g.0 t.3 none s l.0 l.1 l.2) (λ r. none t.0 r.0 r.1 t.3)
      (split t.0 t.1 front (b ∷ g.0) (sym t.2 ∙ append_assoc front (b ∷ []) g.0))

  pub stuck-first : (bytes : List ℕ) (left : ℕ) → Stuck part bytes left → Stuck whole bytes left
  stuck-first bytes left s =
      let m = goes (s.front ++ s.begins.0) s.begins.1 in
      record {
        front = s.front;
        rest = s.rest;
        parts = s.parts;
        count = s.count;
        begins = (s.begins.0 ++ m.0, subst whole (append_assoc s.front s.begins.0 m.0) m.1);
        none = λ p q e t. let b = begun p t in s.none b.0 (b.1 ++ q) (e ∙ ap (λ (l : List ℕ). l ++ q) b.2 ∙ append_assoc b.0 b.1 q) b.3;
        stops = stops-first s.front s.rest s.none s.stops;
      }

-- a part after these bytes
module _ (part whole : Texts) (p : List ℕ)
    (goes : (w : List ℕ) → part w → whole (p ++ w))
    (only : (w x y : List ℕ) → whole w → w ++ x ≡ p ++ y → (q : List ℕ) × (w ≡ p ++ q) × part q) where
  stops-second : (front rest : List ℕ) → Stops part front rest → Stops whole (p ++ front) rest
  stops-second front [] s = λ t.
      let o = only (p ++ front) [] front t (append-nil (p ++ front)) in
      s (subst part (sym (append_cancel_left p front o.0 o.1)) o.2)
  stops-second front (b ∷ rest) s = λ g.
      let w : List ℕ = ((p ++ front) ++ b ∷ []) ++ g.0 in
      let parts : w ≡ p ++ ((front ++ b ∷ []) ++ g.0) =
      ap (λ (l : List ℕ). l ++ g.0) (append_assoc p front (b ∷ [])) ∙ append_assoc p (front ++ b ∷ []) g.0 in
      let o = only w [] ((front ++ b ∷ []) ++ g.0) g.1 (append-nil w ∙ parts) in
      s (g.0, subst part (sym (append_cancel_left p ((front ++ b ∷ []) ++ g.0) o.0 (sym parts ∙ o.1))) o.2)

  fault-second : (bytes front : List ℕ) → FaultAfter part bytes front → FaultAfter whole (p ++ bytes) (p ++ front)
  fault-second bytes front f = record {
    rest = f.rest;
    parts = ap (λ (l : List ℕ). p ++ l) f.parts ∙ sym (append_assoc p front f.rest);
    begins = (f.begins.0, subst whole (sym (append_assoc p front f.begins.0)) (goes (front ++ f.begins.0) f.begins.1));
    stops = stops-second front f.rest f.stops;
  }

  pub refused-second : (bytes : List ℕ) (left : ℕ) → Refused part bytes left → Refused whole (p ++ bytes) left
  refused-second bytes left r = (p ++ r.0, fault-second bytes r.0 r.1, omega (arith, r.2, length-append p bytes, length-append p r.0))

  pub stuck-second : (bytes : List ℕ) (left : ℕ) → Stuck part bytes left → Stuck whole (p ++ bytes) left
  stuck-second bytes left s = record {
    front = p ++ s.front;
    rest = s.rest;
    parts = ap (λ (l : List ℕ). p ++ l) s.parts ∙ sym (append_assoc p s.front s.rest);
    count = s.count;
    begins = (s.begins.0, subst whole (sym (append_assoc p s.front s.begins.0)) (goes (s.front ++ s.begins.0) s.begins.1));
    none = λ w q e t.
        let o = only w q s.front t (sym e) in
        s.none o.0 q (append_cancel_left p s.front (o.0 ++ q) (e ∙ ap (λ (l : List ℕ). l ++ q) o.1 ∙ append_assoc p o.0 q)) o.2;
    stops = stops-second s.front s.rest s.stops;
  }

-- no byte is read
pub stuck-here : (whole : Texts) (bytes : List ℕ) → Begins whole [] → (whole [] → ⊥) → Stops whole [] bytes → Stuck whole bytes (length bytes)
stuck-here whole bytes begins empty stops = record {
  front = [];
  rest = bytes;
  parts = refl;
  count = refl;
  begins = begins;
  none = λ p q e t. empty (subst whole (no-front p q e) t);
  stops = stops;
}

-- one part of a kind that alone has texts with this first byte
module _ (part whole : Texts) (bytes : List ℕ)
    (goes : (w : List ℕ) → part w → whole w)
    (empty : whole [] → ⊥)
    (only : (b : ℕ) (u v : List ℕ) → whole (b ∷ u) → bytes ≡ b ∷ v → part (b ∷ u)) where
  among-none : (front rest : List ℕ) → bytes ≡ front ++ rest → (p q : List ℕ) → front ≡ p ++ q → whole p → part p
  among-none front rest parts [] q e t = absurd (empty t)
  among-none front rest parts (b ∷ p) q e t = only b p (p-rest q) t (parts ∙ ap (λ (l : List ℕ). l ++ rest) e)
    where
      p-rest : List ℕ → List ℕ
      p-rest q = (p ++ q) ++ rest

  among-more : (front rest : List ℕ) (b : ℕ) → bytes ≡ front ++ b ∷ rest → (more : List ℕ) → whole ((front ++ b ∷ []) ++ more) → part ((front ++ b ∷ []) ++ more)
  among-more [] rest b parts more t = only b more rest t parts
  among-more (c ∷ front) rest b parts more t = only c ((front ++ b ∷ []) ++ more) (front ++ b ∷ rest) t parts

  among-stops : (front rest : List ℕ) → bytes ≡ front ++ rest → Stops part front rest → Stops whole front rest
  among-stops front [] parts s = λ t. s (among-none front [] parts front [] (sym (append-nil front)) t)
  among-stops front (b ∷ rest) parts s = λ g. s (g.0, among-more front rest b parts g.0 g.1)

  pub stuck-among : (left : ℕ) → Stuck part bytes left → Stuck whole bytes left
  stuck-among left s = record {
    front = s.front;
    rest = s.rest;
    parts = s.parts;
    count = s.count;
    begins = (s.begins.0, goes (s.front ++ s.begins.0) s.begins.1);
    none = λ p q e t. s.none p q e (among-none s.front s.rest s.parts p q e t);
    stops = among-stops s.front s.rest s.parts s.stops;
  }

-- a stop of a part's reader, for the whole
pub stop-as : (s : Stop) (part whole : Texts) (bytes more : List ℕ)
    → ((left : ℕ) → Stuck part bytes left → Stuck whole more left) → Stopped part bytes s → Stopped whole more s
stop-as (stop.Stuck left) part whole bytes more h s = h left s
stop-as stop.NoMemory part whole bytes more h s = tt

pub stopped-as : {A : Type 0} (r : Result A Stop) (part whole : Texts) (bytes more : List ℕ)
    → ((left : ℕ) → Stuck part bytes left → Stuck whole more left) → IfErr r (Stopped part bytes) → IfErr r (Stopped whole more)
stopped-as (Ok a) part whole bytes more h s = tt
stopped-as (Err e) part whole bytes more h s = stop-as e part whole bytes more h s

-- a whole text

pub refused-as : (s : Stop) (part whole : Texts) (bytes more : List ℕ)
    → ((left : ℕ) → Stuck part bytes left → Refused whole more left) → Stopped part bytes s → RefusedBy whole more s
refused-as (stop.Stuck left) part whole bytes more h s = h left s
refused-as stop.NoMemory part whole bytes more h s = tt

pub refused-on : (s : Stop) (part whole : Texts) (bytes more : List ℕ)
    → ((left : ℕ) → Refused part bytes left → Refused whole more left) → RefusedBy part bytes s → RefusedBy whole more s
refused-on (stop.Stuck left) part whole bytes more h s = h left s
refused-on stop.NoMemory part whole bytes more h s = tt

pub stuck-refused : (texts : Texts) (bytes : List ℕ) (left : ℕ) → Stuck texts bytes left → Refused texts bytes left
stuck-refused texts bytes left s = (
  s.front,
  record { rest = s.rest; parts = s.parts; begins = s.begins; stops = s.stops },
  omega (arith, ap length s.parts, length-append s.front s.rest, s.count),
)

-- what comes after these bytes in a whole text
module _ (whole : Texts) (p : List ℕ) where
  rest-stops : (front rest : List ℕ) → Stops (λ w. whole (p ++ w)) front rest → Stops whole (p ++ front) rest
  rest-stops front [] s = s
  rest-stops front (b ∷ rest) s = λ g.
      s (g.0, subst whole (ap (λ (l : List ℕ). l ++ g.0) (append_assoc p front (b ∷ [])) ∙ append_assoc p (front ++ b ∷ []) g.0) g.1)

  pub refused-after : (bytes : List ℕ) (left : ℕ) → Refused (λ w. whole (p ++ w)) bytes left → Refused whole (p ++ bytes) left
  refused-after bytes left r =
      let f = r.1 in (
        p ++ r.0,
        record {
          rest = f.rest;
          parts = ap (λ (l : List ℕ). p ++ l) f.parts ∙ sym (append_assoc p r.0 f.rest);
          begins = (f.begins.0, subst whole (sym (append_assoc p r.0 f.begins.0)) f.begins.1);
          stops = rest-stops r.0 f.rest f.stops;
        },
        omega (arith, r.2, length-append p bytes, length-append p r.0),
      )

-- the same texts
module _ (part whole : Texts) (goes : (w : List ℕ) → part w → whole w) (back : (w : List ℕ) → whole w → part w) where
  same-stops : (front rest : List ℕ) → Stops part front rest → Stops whole front rest
  same-stops front [] s = λ t. s (back front t)
  same-stops front (b ∷ rest) s = λ g. s (g.0, back ((front ++ b ∷ []) ++ g.0) g.1)

  pub refused-same : (bytes : List ℕ) (left : ℕ) → Refused part bytes left → Refused whole bytes left
  refused-same bytes left r =
      let f = r.1 in
      (r.0, record { rest = f.rest; parts = f.parts; begins = (f.begins.0, goes (r.0 ++ f.begins.0) f.begins.1); stops = same-stops r.0 f.rest f.stops }, r.2)
