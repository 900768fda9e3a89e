-- The steps of a build's course as the code takes them, and what they keep. Assumes nothing.
use mathlib.Core.Path.{◌≡◌, refl, sym, subst, subst⁻¹, ◌∙◌}
use mathlib.Core.Logic.{◌≢◌}
use mathlib.Core.Bool.{Bool, ◌&&◌}
use mathlib.Core.List.{List, ◌++◌, append_assoc}
use Rattle.std.proofs.Common.{Option, Some}
use Prim.Native.Nat.{ℕ, suc, ◌+◌, ◌-◌, ◌*◌, ◌≤◌, ◌<◌}
use native.Mathlib.Nat.{le_refl, le_trans, lt_of_lt_of_le}
use native.Mathlib.Omega.{arith}
use native.Mathlib.Decide.{dec_lt}
use lib.Dec.{eqb}
use lib.ListN.{length, get_or, set, take, drop, length-set}
use lib.Seq.{get_or-set_same, get_or-set_other, drop-drop, sets, length-sets, sets-eq}
use borrow.Author.Tests.{eq-eqb}
use Rattle.sets.specs.Sets.{set_of}
use Rattle.sets.specs.Table.{row_words, rules_at}
use Rattle.sets.proofs.Table.{row_of, rules-part, rules-words, row_long, rules-same}
use Rattle.meaning.specs.Rules.{Rules}
use Rattle.lent.specs.Lent.{stored_row}
use Rattle.lent.proofs.Storing.{stored_row_lem}
use Rattle.build.specs.Course.{Others, number_at, Stored, Added, RowsUsed, Rising, InHand, RowOf, there, made, full, Place, root, none, some, Filling, begin, next, RowFilled, whole, SameRows}
use Rattle.build.specs.declared.Rows.{Rows}
use Rattle.build.proofs.Parts.{put_before, put_in, put_after}

-- ---- stores

module _ (n v : ℕ) (xs : List ℕ) (room : n < length xs) where
  other : (i : ℕ) → i ≢ n → get_or (set xs n v) i 0 ≡ get_or xs i 0
  other i ne = get_or-set_other xs n i v 0 (λ e. ne (omega arith))

  pub stored_number : Stored 1 number_at n v xs (set xs n v)
  stored_number = record {
    long = length-set xs n v;
    here = get_or-set_same xs n v 0 room;
    kept = λ i l. other i (λ e. omega arith);
    past = λ i l. other i (λ e. omega arith);
  }

-- the words of a set, stored in row n
module _ (n : ℕ) (xs ws : List ℕ) (room : row_words * suc n ≤ length xs) (long : length ws ≡ row_words) where
  row_parts : sets xs (row_words * n) ws ≡ take (row_words * n) xs ++ (ws ++ drop row_words (drop (row_words * n) xs))
  row_parts = sets-eq ws xs (row_words * n) (omega arith) ∙ rw (long, drop-drop) (append_assoc (take (row_words * n) xs) ws (drop (row_words * n + row_words) xs))

  row_stored : Stored row_words rules_at n (set_of ws) xs (sets xs (row_words * n) ws)
  row_stored = record {
    long = length-sets xs (row_words * n) ws;
    here = rules-words _ n ws (omega arith) (λ j l. rw row_parts (put_in xs ws (row_words * n) row_words (omega arith) long j l));
    kept = λ i l. rules-same _ xs i (λ j k. rw row_parts (put_before xs ws (row_words * n) row_words (omega arith) long (row_words * i + j) (omega arith)));
    past = λ i l.
        let p : row_words * n + (row_words + (i - row_words * suc n)) ≡ i = omega arith in
        rw row_parts (rw p at (put_after xs ws (row_words * n) row_words (omega arith) long (i - row_words * suc n)));
  }

  pub stored_words : {ys : List ℕ} → ys ≡ stored_row xs n ws → Stored row_words rules_at n (set_of ws) xs ys
  stored_words e = subst⁻¹ (Stored row_words rules_at n (set_of ws) xs) (e ∙ stored_row_lem xs n ws (omega arith) long) row_stored

-- whether a row's words are those of a set
pub same_row : {t : Bool} (xs ws : List ℕ) (i : ℕ) → t ≡ (eqb (length (row_of xs i)) (length ws) && eqb (set_of (row_of xs i)) (set_of ws))
    → row_words * suc i ≤ length xs → length ws ≡ row_words → t ≡ eqb (rules_at xs i) (set_of ws)
same_row xs ws i e room n = e ∙ rw (eq-eqb _ _ (row_long xs i room ∙ sym n), rules-part xs i)

-- what holds of the rows below n, and of the new one, holds of the rows below n + 1
pub stored_all : {w n v : ℕ} {read : List ℕ → ℕ → ℕ} {xs ys : List ℕ} (P : ℕ → ℕ → Type 0) → Stored w read n v xs ys → ((i : ℕ) → i < n → P i (read xs i)) → P n v
    → (i : ℕ) → i < n + 1 → P i (read ys i)
stored_all {n = n} P st old new i l =
    elim (dec_lt i n) [ yes h ↦ rw (st.kept i h) (old i h) | no g ↦ let e : i ≡ n = omega arith in rw (e, st.here) new ]

-- the room for rows, after a new one
pub room_added : {e lent n h l f : ℕ} {t u : Others} → RowsUsed lent n t → n < lent → Added e n h l f t u → RowsUsed lent (n + 1) u
room_added room lt a = record {
  used = omega arith;
  few = room.few;
  fall_room = rw a.fall_put.long room.fall_room;
  held_room = rw a.held_put.long room.held_room;
  live_room = rw a.live_put.long room.live_room;
  out_room = rw a.out_put.long room.out_room;
}

-- ---- what a step keeps

-- a table that is as long as it was, and whose rows below n are as they were
pub record Grew (read : List ℕ → ℕ → ℕ) (n : ℕ) (xs ys : List ℕ) : Type 0 where
  pub long : length ys ≡ length xs
  pub old : (i : ℕ) → i < n → read ys i ≡ read xs i

grew_refl : (read : List ℕ → ℕ → ℕ) (n : ℕ) (xs : List ℕ) → Grew read n xs xs
grew_refl read n xs = record { long = refl; old = λ i h. refl }

grew_stored : {w n v : ℕ} {read : List ℕ → ℕ → ℕ} {xs ys : List ℕ} → Stored w read n v xs ys → Grew read n xs ys
grew_stored st = record { long = st.long; old = st.kept }

grew_more : {n m : ℕ} {read : List ℕ → ℕ → ℕ} {xs ys zs : List ℕ} → n ≤ m → Grew read n xs ys → Grew read m ys zs → Grew read n xs zs
grew_more le p q = record { long = q.long ∙ p.long; old = λ i h. q.old i (lt_of_lt_of_le h le) ∙ p.old i h }

-- the rows that there were are as they were
pub record Kept (n : ℕ) (t : Others) (m : ℕ) (u : Others) : Type 0 where
  pub grown : n ≤ m
  pub fall : Grew number_at n t.fall u.fall
  pub held : Grew number_at n t.held u.held
  pub live : Grew rules_at n t.live u.live
  pub out : Grew rules_at n t.out u.out

pub kept_refl : (n : ℕ) (t : Others) → Kept n t n t
kept_refl n t = record {
  grown = le_refl n;
  fall = grew_refl number_at n t.fall;
  held = grew_refl number_at n t.held;
  live = grew_refl rules_at n t.live;
  out = grew_refl rules_at n t.out;
}

pub kept_more : {n m k : ℕ} {t u w : Others} → Kept n t m u → Kept m u k w → Kept n t k w
kept_more p q = record {
  grown = le_trans p.grown q.grown;
  fall = grew_more p.grown p.fall q.fall;
  held = grew_more p.grown p.held q.held;
  live = grew_more p.grown p.live q.live;
  out = grew_more p.grown p.out q.out;
}

module _ {lent d : ℕ} where
  row_of_keeps : {n h l f m : ℕ} {t u : Others} {x : Option ℕ} → RowOf d lent n h l f t u m x → Kept n t m u
  row_of_keeps {n = n} {t = t} (there i h k) = kept_refl n t
  row_of_keeps {n = n} {t = t} (full new h) = kept_refl n t
  row_of_keeps (made new room a) = record {
    grown = omega arith;
    fall = grew_stored a.fall_put;
    held = grew_stored a.held_put;
    live = grew_stored a.live_put;
    out = grew_stored a.out_put;
  }

  row_of_fits : {n h l f e m : ℕ} {t u : Others} → n ≤ lent → RowOf d lent n h l f t u m (Some e) → m ≤ lent
  row_of_fits le (there i h k) = le
  row_of_fits le (made new room a) = omega arith

module _ {r : Rules} {lent : ℕ} where
  pub place-keeps : {s c v n m : ℕ} {t u : Others} {x : Option ℕ} → Place r lent s c v n t u m x → Kept n t m u
  place-keeps {n = n} {t = t} (root z l) = kept_refl n t
  place-keeps {n = n} {t = t} (none z l) = kept_refl n t
  place-keeps (some l r) = row_of_keeps r

  place-fits : {s c v n e m : ℕ} {t u : Others} → n ≤ lent → Place r lent s c v n t u m (Some e) → m ≤ lent
  place-fits le (root z l) = le
  place-fits le (none z l) = le
  place-fits le (some l r) = row_of_fits le r

  module _ {s n₀ : ℕ} {via row₀ : List ℕ} {t₀ : Others} where
    pub filling-keeps : {c n : ℕ} {row : List ℕ} {t : Others} → Filling r lent s via row₀ n₀ t₀ c row n t → Kept n₀ t₀ n t
    filling-keeps begin = kept_refl n₀ t₀
    filling-keeps (next f p) = kept_more (filling-keeps f) (place-keeps p)

    pub filling-long : {c n : ℕ} {row : List ℕ} {t : Others} → Filling r lent s via row₀ n₀ t₀ c row n t → length row ≡ length row₀
    filling-long begin = refl
    filling-long (next f p) = rw length-set (filling-long f)

    filling-fits : {c n : ℕ} {row : List ℕ} {t : Others} → n₀ ≤ lent → Filling r lent s via row₀ n₀ t₀ c row n t → n ≤ lent
    filling-fits le begin = le
    filling-fits le (next f p) = place-fits (filling-fits le f) p

    pub filling-room : {c n : ℕ} {row : List ℕ} {t : Others} → RowsUsed lent n₀ t₀ → Filling r lent s via row₀ n₀ t₀ c row n t → RowsUsed lent n t
    filling-room room f =
        let k = filling-keeps f in
        record {
          used = filling-fits room.used f;
          few = room.few;
          fall_room = rw k.fall.long room.fall_room;
          held_room = rw k.held.long room.held_room;
          live_room = rw k.live.long room.live_room;
          out_room = rw k.out.long room.out_room;
        }

    pub whole_at : {c m : ℕ} {row : List ℕ} {u : Others} → c ≡ 256 → Filling r lent s via row₀ n₀ t₀ c row m u → RowFilled r lent s via row₀ n₀ t₀ row u m (Some tt)
    whole_at {m = m} {row = row} {u = u} e f = whole (subst (λ (k : ℕ). Filling r lent s via row₀ n₀ t₀ k row m u) e f)

-- ---- the held lengths ascend, with none more than one above that of the row in hand

rising_stored : {s n : ℕ} {xs ys : List ℕ} → s < n → Rising xs n (get_or xs s 0 + 1) → Stored 1 number_at n (get_or xs s 0 + 1) xs ys → Rising ys (n + 1) (get_or ys s 0 + 1)
rising_stored {s} {n} {xs} {ys} hs k st = rw (st.kept s hs) (record { up = up; top = top; low = omega (arith, st.kept 0 (omega arith), k.low) })
  where
    v : ℕ
    v = get_or xs s 0 + 1

    top : (i : ℕ) → i < n + 1 → get_or ys i 0 ≤ v
    top = stored_all (λ i y. y ≤ v) st k.top (le_refl v)

    up : (i j : ℕ) → i < j → j < n + 1 → get_or ys i 0 ≤ get_or ys j 0
    up i j l h =
        elim (dec_lt j n) [
          | yes m ↦ omega (arith, st.kept i (omega arith), st.kept j m, k.up i j l m)
          | no g ↦ let e : j ≡ n = omega arith in rw (e, st.here) (top i (omega arith))
        ]

module _ {r : Rules} {lent s : ℕ} where
  place-rising : {c v n e m : ℕ} {t u : Others} → s < n → Rising t.held n (get_or t.held s 0 + 1) → Place r lent s c v n t u m (Some e)
      → Rising u.held m (get_or u.held s 0 + 1)
  place-rising hs k (root z l) = k
  place-rising hs k (none z l) = k
  place-rising hs k (some l (there i h x)) = k
  place-rising hs k (some l (made new h a)) = rising_stored hs k a.held_put

  pub filling-rising : {n₀ : ℕ} {via row₀ : List ℕ} {t₀ : Others} → s < n₀ → Rising t₀.held n₀ (get_or t₀.held s 0 + 1)
      → {c n : ℕ} {row : List ℕ} {t : Others} → Filling r lent s via row₀ n₀ t₀ c row n t → Rising t.held n (get_or t.held s 0 + 1)
  filling-rising hs k begin = k
  filling-rising hs k (next f p) = place-rising (lt_of_lt_of_le hs (filling-keeps f).grown) (filling-rising hs k f) p

  pub filling_in_hand : {n₀ : ℕ} {via row₀ : List ℕ} {t₀ : Others} → InHand n₀ s t₀ → {c n : ℕ} {row : List ℕ} {t : Others} → Filling r lent s via row₀ n₀ t₀ c row n t → InHand n s t
  filling_in_hand x f =
      let k = filling-keeps f in record {
        row = lt_of_lt_of_le x.row k.grown;
        short_held = rw (k.held.old _ x.row) x.short_held;
        rising = filling-rising x.row x.rising f;
      }

-- ---- the same buffers

pub same_refl : (r : Rows) → SameRows r r
same_refl r = record { fall_same = refl; held_same = refl; live_same = refl; out_same = refl; lent_same = refl; book_same = refl }

pub same_more : {a b c : Rows} → SameRows a b → SameRows b c → SameRows a c
same_more p q = record {
  fall_same = q.fall_same ∙ p.fall_same;
  held_same = q.held_same ∙ p.held_same;
  live_same = q.live_same ∙ p.live_same;
  out_same = q.out_same ∙ p.out_same;
  lent_same = q.lent_same ∙ p.lent_same;
  book_same = q.book_same ∙ p.book_same;
}
