-- A text has one row, row 0 is the empty text, the rows are unique, and where they are at most n
-- there are not more than n standings. Assumes nothing.
use mathlib.Core.Path.{◌≡◌, sym}
use mathlib.Core.Logic.{inl, inr}
use mathlib.Core.List.{List, [], ◌++◌}
use Prim.Native.Nat.{ℕ, zero, suc, ◌≤◌, ◌<◌}
use native.Mathlib.Omega.{arith}
use native.Mathlib.Decide.{dec_lt}
use lib.ListN.{length, get_or, length-append, get_or-append}
use lib.Seq.{ext_get_or}
use Rattle.rows.specs.Rows.{ByteText, Before, IsRow, Ascending, IsRows, MoreThan, AtMost}
use Rattle.rows.specs.Unique.{Congruence, Settles}
use Rattle.rows.proofs.Compare.{less, equal, more, order}
use Rattle.rows.proofs.Order.{before_nil, before_trans, before_total}
use Rattle.rows.proofs.Pigeon.{pigeon}

module _ {Same : List ℕ → List ℕ → Type 0} {ts : List (List ℕ)} (a : Ascending Same ts) where
  pub distinct : (i j : ℕ) → i < j → j < length ts → ¬ Same (get_or ts i []) (get_or ts j [])
  distinct i j l m s = a.least j m (a.bytes i (omega arith)) s (a.ordered i j l m)

  -- A text that comes before the text of row s has its row before s.
  pub row_before : (s : ℕ) → s < length ts → {u : List ℕ} {i : ℕ} → ByteText u → IsRow Same ts u i → Before u (get_or ts s []) → i < s
  row_before s m {u} {i} by r b =
      let h : i < length ts = omega (arith, r.below) in
      elim (order i s) [
        | less l ↦ l
        | equal e ↦ absurd (a.least i h by r.same (rw e b))
        | more l ↦ absurd (a.least i h by r.same (before_trans b (a.ordered s i l h)))
      ]

module _ {Same : List ℕ → List ℕ → Type 0} (S : Congruence Same) where
  pub row_same : {ts : List (List ℕ)} {t u : List ℕ} {i : ℕ} → Same t u → IsRow Same ts u i → IsRow Same ts t i
  row_same e r = record { below = r.below; same = S.join e r.same }

  pub row_own : (ts : List (List ℕ)) (i : ℕ) → i < length ts → IsRow Same ts (get_or ts i []) i
  row_own ts i l = record { below = l; same = S.same (get_or ts i []) }

  pub row_append : {ts : List (List ℕ)} {t : List ℕ} {i : ℕ} (us : List (List ℕ)) → IsRow Same ts t i → IsRow Same (ts ++ us) t i
  row_append {ts} us r =
      let l = r.below in record { below = omega (arith, length-append ts us); same = rw get_or-append r.same }

  pub one_row : {ts : List (List ℕ)} → Ascending Same ts → {t : List ℕ} {i j : ℕ} → IsRow Same ts t i → IsRow Same ts t j → i ≡ j
  one_row a {t} {i} {j} p q =
      elim (order i j) [
        | less l ↦ absurd (distinct a i j l q.below (S.join (S.flip p.same) q.same))
        | equal e ↦ e
        | more l ↦ absurd (distinct a j i l p.below (S.join (S.flip q.same) p.same))
      ]

  pub root : {ts : List (List ℕ)} → IsRows Same ts → (0 < length ts) × (get_or ts 0 [] ≡ [])
  root {ts} r =
      let a = r.ascending in
      let (i, record { below = l; same = s }) = r.complete [] (λ j. omega arith) in
      let e : get_or ts i [] ≡ [] =
      elim (before_total [] (get_or ts i []))
      [ inl b ↦ absurd (a.least i l (λ j. omega arith) s b) | inr (inl e) ↦ sym e | inr (inr b) ↦ absurd (before_nil b) ]
      in
      let z : i ≡ 0 = elim (dec_lt 0 i) [ yes h ↦ absurd (before_nil (rw e at (a.ordered 0 i h l))) | no g ↦ omega arith ] in
      (omega arith, rw z at e)

  pub not_both : {n : ℕ} → AtMost Same n → ¬ MoreThan Same n
  not_both a m =
      let us = m.texts in
      let h : length us ≤ length a.texts =
      pigeon (length us) (length a.texts) (λ i k. Same (get_or us i []) (get_or a.texts k []))
      (λ i b. let f = a.rows.complete (get_or us i []) (m.bytes i b) in (f.0, f.1.below, f.1.same))
      (λ i j k b c p q. m.different i j b c (S.join p (S.flip q)))
      in omega (arith, m.long, a.few)

  module _ {ts us : List (List ℕ)} (a : IsRows Same ts) (b : IsRows Same us) where
    -- Each text of ts stands in us.
    other : (i : ℕ) → i < length ts → (j : ℕ) × (j < length us) × (get_or ts i [] ≡ get_or us j [])
    other i l =
        let by = a.ascending.bytes i l in
        let (j, record { below = m; same = s }) = b.complete (get_or ts i []) by in
        elim (before_total (get_or ts i []) (get_or us j [])) [
          | inl c ↦ absurd (b.ascending.least j m by s c)
          | inr (inl e) ↦ (j, m, e)
          | inr (inr c) ↦ absurd (a.ascending.least i l (b.ascending.bytes j m) (S.flip s) c)
        ]

    -- And not at an earlier place.
    not_earlier : (i : ℕ) → i < length ts → (j : ℕ) → j < length us → get_or ts i [] ≡ get_or us j [] → i ≤ j
    not_earlier zero l j m e = omega arith
    not_earlier (suc i) l j m e =
        let (k, n, f) = other i (omega arith) in
        let h : i ≤ k = not_earlier i (omega arith) k n f in
        let c : Before (get_or us k []) (get_or us j []) = rw (← f, ← e) (a.ascending.ordered i (suc i) (omega arith) l) in
        let g : k < j =
        row_before b.ascending j m (b.ascending.bytes k n) (row_own us k n) c
        in omega arith

  agree : {ts us : List (List ℕ)} → IsRows Same ts → IsRows Same us → (i : ℕ) → i < length ts → (i < length us) × (get_or ts i [] ≡ get_or us i [])
  agree a b i l =
      let (j, m, e) = other a b i l in
      let x : i ≤ j = not_earlier a b i l j m e in
      let y : j ≤ i = not_earlier b a j m i l (sym e) in
      let z : i ≡ j = omega arith in
      (rw (← z) at m, rw (← z) at e)

  at_most : {ts us : List (List ℕ)} → IsRows Same ts → IsRows Same us → length ts ≤ length us
  at_most {ts} {us} a b =
      elim (dec_lt (length us) (length ts)) [ yes l ↦ absurd (omega (arith, (agree a b (length us) l).0)) | no g ↦ omega arith ]

  pub unique : {ts us : List (List ℕ)} → IsRows Same ts → IsRows Same us → ts ≡ us
  unique {ts} {us} a b = ext_get_or [] ts us (omega (arith, at_most a b, at_most b a)) (λ i l. (agree a b i l).1)

pub settles : Settles
settles Same S = record { one_row = one_row S; root = root S; unique = unique S; not_both = not_both S }
