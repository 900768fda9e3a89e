-- The order of texts and the rows of three bands of bytes are as written out. Assumes nothing.
use mathlib.Core.List.{List, [], ◌∷◌}
use mathlib.Core.Path.{◌≡◌, refl}
use Prim.Native.Nat.{ℕ, zero, suc, ◌/◌, ◌<◌}
use native.Mathlib.Decide.{dec_lt}
use native.Mathlib.Omega.{arith}
use lib.ListN.{get_or}
use Rattle.rows.specs.Rows.{ByteText, Before, none, earlier, last, HasRow, Ascending}
use Rattle.rows.specs.Bands.{ComesFirst, TextsByBytes, band, SameBand, RowsByBytes}
use Rattle.rows.proofs.Bytes.{no_byte, bytes_of, is_bytes}
use Rattle.rows.proofs.Order.{before_nil, before_irrefl, before_trans}

comes-first : {t u : List ℕ} → Before t u → ComesFirst t u
comes-first b = (b, λ c. before_irrefl (before_trans b c))

pub texts_by_bytes : TextsByBytes
texts_by_bytes = record {
  smaller = comes-first (last {c = 1} {d = 2} (omega arith));
  shorter = comes-first (earlier none);
  read = comes-first (earlier (last {c = 1} {d = 2} (omega arith)));
}

-- ---- lists that are not the rows

-- texts of one byte are in the order of their bytes
of_bytes : (c d : ℕ) → c < d → Before (c ∷ []) (d ∷ [])
of_bytes c d = last

in_bytes : {c d : ℕ} → Before (c ∷ []) (d ∷ []) → c < d
in_bytes (earlier b) = absurd (before_nil b)
in_bytes (last l) = l

not_least_lem : ¬ Ascending SameBand ([] ∷ (98 ∷ []) ∷ (194 ∷ []) ∷ [])
unfolding is_bytes
not_least_lem a = a.least 1 (omega arith) (bytes_of (97 ∷ []) refl) refl (of_bytes _ _ (omega arith))

not_in_order_lem : ¬ Ascending SameBand ([] ∷ (194 ∷ []) ∷ (97 ∷ []) ∷ [])
not_in_order_lem a = omega (arith, in_bytes (a.ordered 1 2 (omega arith) (omega arith)))

-- ---- the rows

abbrev three : List (List ℕ)
three = [] ∷ (97 ∷ []) ∷ (194 ∷ []) ∷ []

ordered : (i j : ℕ) → i < j → j < 3 → Before (get_or three i []) (get_or three j [])
ordered zero (suc zero) l m = none
ordered zero (suc (suc zero)) l m = none
ordered (suc zero) (suc (suc zero)) l m = of_bytes _ _ (omega arith)
ordered zero zero l m = absurd (omega arith)
ordered (suc i) zero l m = absurd (omega arith)
ordered (suc i) (suc zero) l m = absurd (omega arith)
ordered (suc (suc i)) (suc (suc zero)) l m = absurd (omega arith)
ordered i (suc (suc (suc j))) l m = absurd (omega arith)

bytes : (i : ℕ) → i < 3 → ByteText (get_or three i [])
unfolding is_bytes
bytes zero l = no_byte
bytes (suc zero) l = bytes_of (97 ∷ []) refl
bytes (suc (suc zero)) l = bytes_of (194 ∷ []) refl
bytes (suc (suc (suc i))) l = absurd (omega arith)

-- before a band's least byte its band has no text
none_before : {d k : ℕ} (u : List ℕ) → d / 97 ≡ suc k → ((c : ℕ) → c < d → c / 97 < d / 97) → band u ≡ d / 97 → ¬ Before u (d ∷ [])
none_before [] n f s none = omega arith
none_before (c ∷ t) n f s (earlier b) = before_nil b
none_before (c ∷ t) n f s (last l) = omega (arith, f c l)

least : (i : ℕ) → i < 3 → (u : List ℕ) → ByteText u → SameBand u (get_or three i []) → ¬ Before u (get_or three i [])
least zero l u by s = before_nil
least (suc zero) l u by s = none_before u refl (λ c h. omega arith) s
least (suc (suc zero)) l u by s = none_before u refl (λ c h. omega arith) s
least (suc (suc (suc i))) l u by s = absurd (omega arith)

complete : (u : List ℕ) → ByteText u → HasRow SameBand three u
complete [] b = (0, record { below = omega arith; same = refl })
complete (c ∷ t) b =
    elim (dec_lt c 97) [
      | yes h ↦ (0, record { below = omega arith; same = omega arith })
      | no f ↦
          elim (dec_lt c 194) [
            | yes h ↦ (1, record { below = omega arith; same = omega arith })
            | no g ↦ (2, record { below = omega arith; same = omega (arith, b 0) })
          ]
    ]

pub rows_by_bytes : RowsByBytes
rows_by_bytes = record {
  rows = record { ascending = record { bytes = bytes; ordered = ordered; least = least }; complete = complete };
  not_least = not_least_lem;
  not_in_order = not_in_order_lem;
}
