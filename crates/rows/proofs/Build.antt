-- The builder's steps keep `Partial`: `start`, then for each byte `found` or `added`, `next` at a row's end, and `finish`, which gives the rows.
-- Where a row is wanted and there is no room, `crowded`.
-- Assumes nothing.
use mathlib.Core.Path.{◌≡◌, refl}
use mathlib.Core.List.{List, [], ◌∷◌, ◌++◌}
use Prim.Native.Nat.{ℕ, zero, suc, ◌+◌, ◌≤◌, ◌<◌}
use native.Mathlib.Omega.{arith}
use native.Mathlib.Decide.{dec_lt}
use lib.ListN.{length, get_or, length-append, get_or-append}
use lib.Seq.{get_or-append_seam}
use Rattle.rows.specs.Rows.{ByteText, Before, none, earlier, last, IsRow, HasRow, Ascending, IsRows, MoreThan}
use Rattle.rows.specs.Unique.{Congruence}
use Rattle.rows.proofs.Bytes.{byte_cons}
use Rattle.rows.proofs.Order.{before_nil, before_trans, before_cons}
use Rattle.rows.proofs.Rows.{distinct, row_before, row_same, row_append}

pub length-snoc : (ts : List (List ℕ)) (x : List ℕ) → length (ts ++ x ∷ []) ≡ suc (length ts)
length-snoc ts x = rw length-append (omega arith)

-- What holds of each text and of one more holds of each text of the longer list.
snoc : (ts : List (List ℕ)) (x : List ℕ) (P : ℕ → List ℕ → Type 0) → ((i : ℕ) → i < length ts → P i (get_or ts i [])) → P (length ts) x
    → (i : ℕ) → i < length (ts ++ x ∷ []) → P i (get_or (ts ++ x ∷ []) i [])
snoc ts x P old new i l =
    elim (dec_lt i (length ts)) [
      | yes h ↦ rw get_or-append (old i h)
      | no g ↦ let e : i ≡ length ts = omega (arith, length-snoc ts x) in rw (e, get_or-append_seam) new
    ]

-- The builder, where byte c of row s is next: the rows before s are done, and row s is done for the bytes below c.
pub record Partial (Same : List ℕ → List ℕ → Type 0) (ts : List (List ℕ)) (s c : ℕ) : Type 0 where
  pub ascending : Ascending Same ts
  pub root : (0 < length ts) × (get_or ts 0 [] ≡ [])
  pub behind : s < length ts → (i : ℕ) → i < length ts → Before (get_or ts i []) (c ∷ get_or ts s [])
  pub done : (q e : ℕ) → q < s → e < 256 → HasRow Same ts (e ∷ get_or ts q [])
  pub part : (e : ℕ) → e < c → HasRow Same ts (e ∷ get_or ts s [])

module _ {Same : List ℕ → List ℕ → Type 0} (S : Congruence Same) where
  pub row_new : (ts : List (List ℕ)) (x : List ℕ) → IsRow Same (ts ++ x ∷ []) x (length ts)
  row_new ts x = record { below = omega (arith, length-snoc ts x); same = rw get_or-append_seam (S.same x) }

  root_row : {ts : List (List ℕ)} {s c : ℕ} → Partial Same ts s c → HasRow Same ts []
  root_row p = (0, record { below = p.root.0; same = rw p.root.1 (S.same []) })

  pub start : Partial Same ([] ∷ []) 0 0
  start =
      record {
        ascending = record { bytes = bytes; ordered = λ i j l m. absurd (omega arith); least = least };
        root = (omega arith, refl);
        behind = λ l. behind;
        done = λ q e l. absurd (omega arith);
        part = λ e l. absurd (omega arith);
      }
    where
      one : (P : List ℕ → Type 0) → P [] → (i : ℕ) → i < 1 → P (get_or ([] ∷ []) i [])
      one P h zero l = h
      one P h (suc i) l = absurd (omega arith)

      bytes : (i : ℕ) → i < 1 → ByteText (get_or ([] ∷ []) i [])
      bytes = one ByteText (λ j. omega arith)

      least : (i : ℕ) → i < 1 → (u : List ℕ) → ByteText u → Same u (get_or ([] ∷ []) i []) → ¬ Before u (get_or ([] ∷ []) i [])
      least = one (λ t. (u : List ℕ) → ByteText u → Same u t → ¬ Before u t) (λ u by s. before_nil)

      behind : (i : ℕ) → i < 1 → Before (get_or ([] ∷ []) i []) (0 ∷ [])
      behind = one (λ t. Before t (0 ∷ [])) none

  pub found : {ts : List (List ℕ)} {s c : ℕ} → Partial Same ts s c → HasRow Same ts (c ∷ get_or ts s []) → Partial Same ts s (c + 1)
  found {ts} {s} {c} p r =
      record {
        ascending = p.ascending;
        root = p.root;
        behind = λ l i m. before_trans (p.behind l i m) (last (omega arith));
        done = p.done;
        part = λ e l. elim (dec_lt e c) [ yes h ↦ p.part e h | no g ↦ let z : e ≡ c = omega arith in rw z r ];
      }

  pub next : {ts : List (List ℕ)} {s : ℕ} → Partial Same ts s 256 → Partial Same ts (s + 1) 0
  next {ts} {s} p =
      record {
        ascending = p.ascending;
        root = p.root;
        behind = λ l i m. before_trans (p.behind (omega arith) i m) (earlier (p.ascending.ordered s (s + 1) (omega arith) l));
        done = λ q e l b. elim (dec_lt q s) [ yes h ↦ p.done q e h b | no g ↦ let z : q ≡ s = omega arith in rw z (p.part e b) ];
        part = λ e l. absurd (omega arith);
      }

  pub finish : {ts : List (List ℕ)} {s : ℕ} → Partial Same ts s 0 → length ts ≤ s → IsRows Same ts
  finish {ts} {s} p l = record { ascending = p.ascending; complete = complete }
    where
      complete : (u : List ℕ) → ByteText u → HasRow Same ts u
      complete [] b = root_row p
      complete (e ∷ u) b =
          let (q, r) = complete u (λ i. b (suc i)) in
          let (i, r') = p.done q e (omega arith) (b 0) in
          (i, row_same S (S.more e r.same) r')

  module _ {ts : List (List ℕ)} {s c : ℕ} (p : Partial Same ts s c) (m : s < length ts) where
    -- Every text before the next one has a row already.
    covered : (u : List ℕ) → ByteText u → Before u (c ∷ get_or ts s []) → HasRow Same ts u
    covered [] b none = root_row p
    covered (e ∷ v) b (earlier l) =
        let tail : ByteText v = λ i. b (suc i) in
        let (q, r) = covered v tail (before_trans l (before_cons c (get_or ts s []))) in
        let (i, r') = p.done q e (row_before p.ascending s m tail r l) (b 0) in
        (i, row_same S (S.more e r.same) r')
    covered (e ∷ v) b (last l) = p.part e l

    module _ (b : c < 256) (unseen : ¬ HasRow Same ts (c ∷ get_or ts s [])) where
      longer : Ascending Same (ts ++ (c ∷ get_or ts s []) ∷ [])
      longer =
          let x = c ∷ get_or ts s [] in
          let a = p.ascending in
          record {
            bytes = snoc ts x (λ i t. ByteText t) a.bytes (byte_cons c (get_or ts s []) b (a.bytes s m));
            ordered = λ i j l h.
                snoc ts x (λ j t. (i : ℕ) → i < j → Before (get_or (ts ++ x ∷ []) i []) t)
                (λ j h i l. let k : i < length ts = omega arith in rw get_or-append (a.ordered i j l h))
                (λ i l. rw get_or-append (p.behind m i l)) j h i l;
            least =
                snoc ts x (λ i t. (u : List ℕ) → ByteText u → Same u t → ¬ Before u t) a.least
                (λ u by e l. let (i, r) = covered u by l in unseen (i, row_same S (S.flip e) r));
          }

      pub added : Partial Same (ts ++ (c ∷ get_or ts s []) ∷ []) s (c + 1)
      added =
          let x = c ∷ get_or ts s [] in
          let at : get_or (ts ++ x ∷ []) s [] ≡ get_or ts s [] = get_or-append ts (x ∷ []) [] s m in
          let len = length-snoc ts x in
          record {
            ascending = longer;
            root = (omega arith, rw (get_or-append, p.root.0) p.root.1);
            behind = λ l. rw at
                (snoc ts x (λ i t. Before t ((c + 1) ∷ get_or ts s [])) (λ i h. before_trans (p.behind m i h) (last (omega arith)))
                (last (omega arith)));
            done = λ q e l h. let k : q < length ts = omega arith in let (i, r) = p.done q e l h in rw get_or-append (i, row_append S (x ∷ []) r);
            part = λ e l. rw at
                (elim (dec_lt e c) [
                  | yes h ↦ let (i, r) = p.part e h in (i, row_append S (x ∷ []) r)
                  | no g ↦ let z : e ≡ c = omega arith in rw z (length ts, row_new ts x)
                ]);
          }

      pub crowded : MoreThan Same (length ts)
      crowded =
          record {
            texts = ts ++ (c ∷ get_or ts s []) ∷ [];
            long = length-snoc ts (c ∷ get_or ts s []);
            bytes = longer.bytes;
            different = distinct longer;
          }
