-- The course of a build is that of `meaning`'s builder: its rows are the rows of the rules, and where there is no room there are more standings.
-- Assumes nothing.
use mathlib.Core.Path.{◌≡◌, refl, subst, subst⁻¹, ◌∙◌}
use mathlib.Core.Logic.{inl, inr}
use mathlib.Core.List.{List, [], ◌∷◌, ◌++◌}
use Rattle.std.proofs.Common.{Some, None}
use Prim.Native.Nat.{ℕ, ◌+◌, ◌-◌, ◌*◌, ◌≤◌, ◌<◌}
use native.Mathlib.Nat.{le_refl, mul-suc}
use native.Mathlib.Numerals.{add-one}
use native.Mathlib.Omega.{arith}
use native.Mathlib.Decide.{dec_lt}
use lib.Bits.{bit_or}
use lib.ListN.{length, get_or, set, length-take, length-drop, length-replicate}
use Rattle.rows.specs.Rows.{MoreThan}
use Rattle.rows.proofs.Rows.{root as root_row}
use Rattle.rows.proofs.Build.{length-snoc}
use Rattle.sets.specs.Table.{row_words, rules_at}
use Rattle.sets.proofs.Table.{rules-none}
use Rattle.meaning.specs.Rules.{Rules}
use Rattle.meaning.specs.Standing.{Same}
use Rattle.meaning.specs.Tables.{Five, goto_at, ZeroFrom, Tables}
use Rattle.meaning.specs.Step.{Follows, goes, falls}
use Rattle.meaning.proofs.Congruent.{congruence}
use Rattle.meaning.proofs.Unique.{rows_or_more}
use Rattle.meaning.proofs.Build.{Filling as Filled-to, Built, Via, Put, Row, place-root, place_none, place-there, place-full, place-made, built-start, built_fill, built_via, built-next, built_finish}
use Rattle.build.specs.Sets.{Short}
use Rattle.lent.specs.Lent.{zeros, zeroed}
use Rattle.promised.specs.Promise.{Built as Answer, number_of, value_of, Builds, accepted, no_room}
use Rattle.build.specs.Course.{Others, five_of, number_at, columns_of, Stored, Added, Leads, RowsUsed, there, made, full, Place, root, none, some, Filling, begin, next, RowFilled, whole, short, Sane, RowBuilt, row_of, Building, start, grow, sides, all, stuck, AllFilled, filled, crowded, Makes, made_all, empty, refused}
use Rattle.sets.proofs.Zeros.{zero_at}
use Rattle.build.proofs.Parts.{put_before, put_in, put_after}
use Rattle.build.proofs.Steps.{stored_number, filling-keeps, filling-room, filling-long}
use Rattle.build.proofs.Sanity.{Grown, grown, row_length}
use Rattle.build.proofs.Zeroed.{zero_sane}

-- ---- what is past the rows

record Blanks (n : ℕ) (t : Others) : Type 0 where
  fall : ZeroFrom n t.fall
  held : ZeroFrom n t.held
  live : ZeroFrom (row_words * n) t.live
  out : ZeroFrom (row_words * n) t.out

zero_stored : {w n v : ℕ} {read : List ℕ → ℕ → ℕ} {xs ys : List ℕ} → Stored w read n v xs ys → ZeroFrom (w * n) xs → ZeroFrom (w * (n + 1)) ys
zero_stored {w} {n} st b i h = let l : w * n + w ≤ i = rw (add-one, mul-suc) at h in st.past i (rw mul-suc l) ∙ b i (omega arith)

place_blank : {r : Rules} {lent s c v n e m : ℕ} {t u : Others} → Blanks n t → Place r lent s c v n t u m (Some e) → Blanks m u
place_blank b (root z l) = b
place_blank b (none z l) = b
place_blank b (some l (there i h k)) = b
place_blank b (some l (made new h a)) = record {
  fall = λ i l. zero_stored a.fall_put (λ j k. b.fall j (omega arith)) i (omega arith);
  held = λ i l. zero_stored a.held_put (λ j k. b.held j (omega arith)) i (omega arith);
  live = zero_stored a.live_put b.live;
  out = zero_stored a.out_put b.out;
}

filling_blank : {r : Rules} {lent s n₀ : ℕ} {via row₀ : List ℕ} {t₀ : Others} → Blanks n₀ t₀ → {c n : ℕ} {row : List ℕ} {t : Others} → Filling r lent s via row₀ n₀ t₀ c row n t → Blanks n t
filling_blank b begin = b
filling_blank b (next f p) = place_blank (filling_blank b f) p

filled_blank : {r : Rules} {lent s n m : ℕ} {via row₀ row : List ℕ} {t u : Others} → Blanks n t → RowFilled r lent s via row₀ n t row u m (Some tt) → Blanks m u
filled_blank b (whole f) = filling_blank b f

-- ---- one row

-- c entries of row s are filled, with n rows
record InRow (r : Rules) (goto via row : List ℕ) (s c n : ℕ) (t : Others) : Type 0 where
  ts : List (List ℕ)
  count : length ts ≡ n
  is : Filled-to r ts (goto_at goto) (number_at via) (number_at row) (columns_of t) s c

put_stored : {w n v : ℕ} {read : List ℕ → ℕ → ℕ} {xs ys : List ℕ} → Stored w read n v xs ys → Put n v (read xs) (read ys)
put_stored st = record { kept = st.kept; here = st.here }

-- an entry more in a row, and a row more in the tables
put-entry : (row : List ℕ) (c e : ℕ) → c < length row → Put c e (number_at row) (number_at (set row c e))
put-entry row c e h = put_stored (stored_number c e row h)

added_row : {e n h l f : ℕ} {t u : Others} → Added e n h l f t u → Row n f h l (bit_or e (rules_at t.out f)) (columns_of t) (columns_of u)
added_row a = record { fall_put = put_stored a.fall_put; held_put = put_stored a.held_put; live_put = put_stored a.live_put; out_put = put_stored a.out_put }

module _ {r : Rules} (goto via row : List ℕ) {s c : ℕ} (t : Others) {ts : List (List ℕ)} (f : Filled-to r ts (goto_at goto) (number_at via) (number_at row) (columns_of t) s c)
    (l : s < length ts) (byte : c < 256) (wide : c < length row) where
  placed_on : {lent e m : ℕ} {u : Others} → Place r lent s c (get_or via c 0) (length ts) t u m (Some e) → InRow r goto via (set row c e) s (c + 1) m u
  placed_on (root z dry) = record { ts = ts; count = refl; is = place-root f l byte dry z (put-entry row c _ wide) }
  placed_on (none nz dry) = record { ts = ts; count = refl; is = place_none f l byte dry (omega arith) (put-entry row c _ wide) }
  placed_on (some wet (there i h k)) = record { ts = ts; count = refl; is = place-there f l byte wet i h (k.held_is, k.live_is, k.fall_is) (put-entry row c i wide) }
  placed_on (some wet (made new h a)) =
      record {
        ts = ts ++ (c ∷ get_or ts s []) ∷ [];
        count = length-snoc ts (c ∷ get_or ts s []) ∙ omega arith;
        is =
            place-made f l byte wet (λ i k (x, y, z). new i k (record { held_is = x; live_is = y; fall_is = z }))
            (put-entry row c (length ts) wide) (added_row a);
      }

  placed_full : {lent m : ℕ} {u : Others} → RowsUsed lent (length ts) t → Place r lent s c (get_or via c 0) (length ts) t u m None → MoreThan (Same r) lent
  placed_full {lent} room (some wet (full new h)) =
      let e : length ts ≡ lent = omega (arith, room.used) in
      subst (MoreThan (Same r)) e (place-full f l byte wet (λ i k (x, y, z). new i k (record { held_is = x; live_is = y; fall_is = z })))

module _ {r : Rules} {goto via row₀ : List ℕ} {lent s n₀ : ℕ} {t₀ : Others} (room : RowsUsed lent n₀ t₀) (hs : s < n₀) (long : length row₀ ≡ 256)
    (x : InRow r goto via row₀ s 0 n₀ t₀) where
  in_row : {c n : ℕ} {row : List ℕ} {t : Others} → c ≤ 256 → Filling r lent s via row₀ n₀ t₀ c row n t → InRow r goto via row s c n t
  in_row h begin = x
  in_row h (next {c = c} {n = n} {m = m} {e = e} {row = row} {t = t} {u = u} f p) =
      let k = in_row (omega arith) f in
      let up = (filling-keeps f).grown in
      placed_on goto via row t k.is (omega (arith, k.count)) (omega arith) (omega (arith, filling-long f))
      (subst⁻¹ (λ (i : ℕ). Place r lent s c (get_or via c 0) i t u m (Some e)) k.count p)

  row_whole : {m : ℕ} {row : List ℕ} {u : Others} → RowFilled r lent s via row₀ n₀ t₀ row u m (Some tt) → InRow r goto via row s 256 m u
  row_whole (whole f) = in_row (le_refl 256) f

  row_short : {m : ℕ} {row : List ℕ} {u : Others} → RowFilled r lent s via row₀ n₀ t₀ row u m None → MoreThan (Same r) lent
  row_short {m = m} {row = row} {u = u} (short {c = c} {t = t} h f p) =
      let k = in_row (omega arith) f in
      let up = (filling-keeps f).grown in
      placed_full goto via row t k.is (omega (arith, k.count)) h (omega (arith, filling-long f))
      (subst⁻¹ (λ (i : ℕ). RowsUsed lent i t) k.count (filling-room room f))
      (subst⁻¹ (λ (i : ℕ). Place r lent s c (get_or via c 0) i t u m None) k.count p)

-- ---- row after row

-- the first s rows are filled, with n rows
record SoFar (r : Rules) (s : ℕ) (goto : List ℕ) (n : ℕ) (t : Others) : Type 0 where
  ts : List (List ℕ)
  count : length ts ≡ n
  is : Built r ts (goto_at goto) (columns_of t) s
  goto_blank : ZeroFrom (256 * s) goto
  blanks : Blanks n t

-- where goto is all 0, every byte leads to row 0
follows_zero : (goto fall : List ℕ) {c s m e : ℕ} → ZeroFrom 0 goto → Follows (goto_at goto) (number_at fall) c s m e → e ≡ 0
follows_zero goto fall {c = c} {s = s} b (goes ne) = b (256 * s + c) (omega arith)
follows_zero goto fall {c = c} {s = s} b (falls q f) = absurd (omega (arith, b (256 * s + c) (omega arith)))

module _ {r : Rules} {lent s n : ℕ} {goto : List ℕ} {t : Others} (sane : Sane lent n goto t) (h : s < n) (k : SoFar r s goto n t) where
  fits : 256 * s + 256 ≤ length goto
  fits = omega (arith, sane.goto_room, sane.room.used)

  lent-long : length (row_of goto s) ≡ 256
  lent-long = simp (length-take, length-drop) (omega (arith, fits))

  via_right : (via : List ℕ) → ((c : ℕ) → c < 256 → Leads goto t.fall c (get_or t.fall s 0) (get_or via c 0)) → (c : ℕ) → c < 256 → Via r k.ts s c (get_or via c 0)
  via_right via leads c byte =
      elim (dec_lt 0 s) [
        | yes p ↦ built_via k.is (omega (arith, k.count)) (omega (arith, k.count, sane.room.used, sane.room.few)) p c byte (leads c byte).way
        | no g ↦ record { first = λ z. follows_zero goto t.fall (λ i l. k.goto_blank i (omega arith)) (leads c byte).way; later = λ p. absurd (g p) }
      ]

  opened : (via : List ℕ) → ((c : ℕ) → c < 256 → Leads goto t.fall c (get_or t.fall s 0) (get_or via c 0)) → InRow r goto via (row_of goto s) s 0 n t
  opened via leads = record { ts = k.ts; count = k.count; is = built_fill k.is (number_at via) (number_at (row_of goto s)) (via_right via leads) }

  row_crowded : {goto' : List ℕ} {u : Others} {m : ℕ} → RowBuilt r lent n s goto t goto' u m None → MoreThan (Same r) lent
  row_crowded x = row_short sane.room h lent-long (opened x.via x.leads) x.filled_row

  row_more : {goto' : List ℕ} {u : Others} {m : ℕ} → RowBuilt r lent n s goto t goto' u m (Some tt) → SoFar r (s + 1) goto' m u
  row_more {goto' = goto'} x =
      let w = row_whole sane.room h lent-long (opened x.via x.leads) x.filled_row in
      let long = row_length x.filled_row ∙ lent-long in
      record {
        ts = w.ts;
        count = w.count;
        is =
            built-next w.is (λ q e l byte. rw x.put (put_before goto x.row (256 * s) 256 fits long (256 * q + e) (omega arith)))
            (λ e byte. rw x.put (put_in goto x.row (256 * s) 256 fits long e byte));
        goto_blank = λ i l.
            let q : i ≡ 256 * s + (256 + (i - (256 * s + 256))) = omega arith in
            rw (x.put, q) (put_after goto x.row (256 * s) 256 fits long (i - (256 * s + 256)) ∙ k.goto_blank _ (omega arith));
        blanks = filled_blank k.blanks x.filled_row;
      }

tables_of : {r : Rules} {n : ℕ} {goto : List ℕ} {t : Others} → SoFar r n goto n t → Tables r (five_of goto t) n
tables_of k =
    let (all-rows, gotos) = built_finish k.is (omega (arith, k.count)) in
    record {
      texts = k.ts;
      count = k.count;
      rows = all-rows;
      numbers = k.is.numbers;
      gotos = gotos;
      rest = record { goto_rest = k.goto_blank; fall_rest = k.blanks.fall; held_rest = k.blanks.held; live_rest = k.blanks.live; out_rest = k.blanks.out };
    }

module _ {r : Rules} {lent : ℕ} {goto₀ : List ℕ} {t₀ : Others} (small : Short r) (sane : Sane lent 1 goto₀ t₀) (blank : ZeroFrom 0 goto₀) (blanks : Blanks 0 t₀) where
  building : {s n : ℕ} {goto : List ℕ} {t : Others} → Building r lent goto₀ t₀ s goto n t → SoFar r s goto n t
  building start = record {
    ts = [] ∷ [];
    count = refl;
    is =
        built-start r (goto_at goto₀) (columns_of t₀) (blanks.fall 0 (omega arith)) (blanks.held 0 (omega arith))
        (rules-none t₀.live 0 (λ j h. blanks.live (row_words * 0 + j) (omega arith))) (rules-none t₀.out 0 (λ j h. blanks.out (row_words * 0 + j) (omega arith)));
    goto_blank = λ i l. blank i (omega arith);
    blanks = record {
      fall = λ i l. blanks.fall i (omega arith);
      held = λ i l. blanks.held i (omega arith);
      live = λ i l. blanks.live i (omega arith);
      out = λ i l. blanks.out i (omega arith);
    };
  }
  building (grow f h x) = row_more (grown small sane f).sane h (building f) x

module _ {r : Rules} {lent : ℕ} {a b : Five} (small : Short r) (sane : Sane lent 1 a.goto (sides a)) (blank : ZeroFrom 0 a.goto) (blanks : Blanks 0 (sides a)) where
  accepted_of : {n : ℕ} → AllFilled r lent a b (Some n) → (Grown lent a.goto (sides a) n b.goto (sides b)) × (SoFar r n b.goto n (sides b))
  accepted_of (filled (all f)) = (grown small sane f, building small sane blank blanks f)

  crowded_of : AllFilled r lent a b None → MoreThan (Same r) lent
  crowded_of (crowded (stuck f h x)) = row_crowded (grown small sane f).sane h (building small sane blank blanks f) x

-- ---- the whole, from tables of zeros

zero-blanks : (b : Five) → Blanks 0 (sides (zeroed b))
zero-blanks b = record {
  fall = λ i l. zero_at (length b.fall) i;
  held = λ i l. zero_at (length b.held) i;
  live = λ i l. zero_at (length b.live) i;
  out = λ i l. zero_at (length b.out) i;
}

as_long : {n : ℕ} (old : List ℕ) → n ≡ length (zeros old) → n ≡ length old
as_long old e = e ∙ length-replicate (length old) 0

-- where no row is lent
none_lent : (r : Rules) → MoreThan (Same r) 0
none_lent r = elim (rows_or_more r 0) [ inl m ↦ m | inr a ↦ absurd (omega (arith, a.few, (root_row (congruence r) a.rows).0)) ]

pub builds_of : {r : Rules} → Short r → (old : Five) {b : Five} {x : Answer} → Makes r old b x → Builds r old b (number_of x) (value_of x)
builds_of {r} small old (made_all ne f) =
    let (g, k) = accepted_of small (zero_sane old ne) (λ i l. zero_at (length old.goto) i) (zero-blanks old) f in
    accepted g.sane.room.used (tables_of k)
    (record {
      goto_long = as_long old.goto g.long;
      fall_long = as_long old.fall g.kept.fall.long;
      held_long = as_long old.held g.kept.held.long;
      live_long = as_long old.live g.kept.live.long;
      out_long = as_long old.out g.kept.out.long;
    })
builds_of {r} small old (empty z) = subst (λ (n : ℕ). Builds r old (zeroed old) 10 n) z (no_room (subst⁻¹ (MoreThan (Same r)) z (none_lent r)))
builds_of {r} small old (refused ne f) = no_room (crowded_of small (zero_sane old ne) (λ i l. zero_at (length old.goto) i) (zero-blanks old) f)
