-- What the code of a build relies on holds throughout its course. Assumes nothing.
use Rattle.std.proofs.Common.{Option, Some, None}
use Prim.Native.Nat.{ℕ, zero, suc, ◌+◌, ◌*◌, ◌-◌, ◌≤◌, ◌<◌}
use mathlib.Core.Path.{◌≡◌, refl, ap, subst, subst⁻¹, ◌∙◌}
use mathlib.Core.Logic.{◌≢◌, inl, inr, ⊎_elim}
use mathlib.Core.List.{List, ◌++◌}
use native.Mathlib.Nat.{le_refl, le_trans, lt_of_lt_of_le, lt_of_not-le, add-sub_cancel_left}
use native.Mathlib.Omega.{arith}
use native.Mathlib.Decide.{dec_lt}
use borrow.Author.Tests.{le-ltb}
use lib.Seq.{get_or-take}
use lib.ListN.{length, get_or-eq_default, get_or, take, drop, length-take, length-drop, length-append, get_or-append}
use Rattle.sets.proofs.Laws.{set_where-none}
use Rattle.meaning.specs.Rules.{Rules, count, size, fits_at}
use Rattle.meaning.specs.Tables.{Five, no_entry, goto_at}
use Rattle.lent.specs.Lent.{AsLong}
use Rattle.meaning.specs.Step.{goes_on, next_live, Follows, goes, falls}
use Rattle.book.specs.Limits.{most_symbols}
use Rattle.build.specs.Sets.{Short}
use Rattle.build.specs.Course.{Others, number_at, Leads, RowsUsed, Rising, there, made, Place, root, none, some, Filling, begin, next, RowFilled, whole, short as cut_short, RowsOk, IsEntry, Sane, RowBuilt, row_of, with_row, Building, start, grow, EveryRow, all, stuck, sides, AllFilled, crowded}
use Rattle.std.specs.List.{All, AllWithin}
use Rattle.std.proofs.lemmas.List.Elements.{All-set, All-take, All-drop, All-append, All-weaker, AllWithin-none, AllWithin-more_set}
use Rattle.build.proofs.Steps.{stored_all, Kept, kept_refl, kept_more, place-keeps, filling-keeps, filling-long, filling-room, filling-rising}

-- the part of goto that is lent for row s, as the code cuts it
abbrev part : List ℕ → ℕ → List ℕ
part goto s = take (256 * s + 256 - 256 * s) (drop (256 * s) goto)

span : (a : ℕ) → a + 256 - a ≡ 256
span a = add-sub_cancel_left a 256

more : {n m e : ℕ} → n ≤ m → IsEntry n e → IsEntry m e
more le (inl q) = inl q
more le (inr l) = inr (lt_of_lt_of_le l le)

-- past the end stands 0, which is a row
entry_at : {n : ℕ} (xs : List ℕ) → 0 < n → All (IsEntry n) xs → (j : ℕ) → IsEntry n (get_or xs j 0)
entry_at xs pos h j = elim (dec_lt j (length xs)) [ yes l ↦ h j 0 l | no g ↦ rw (get_or-eq_default xs 0 {n = j} (omega arith)) (inr pos) ]

module _ {lent n : ℕ} {goto : List ℕ} {t : Others} (sane : Sane lent n goto t) (pos : 0 < n) where
  follows_below : {c r m e : ℕ} → Follows (goto_at goto) (number_at t.fall) c r m e → e < n
  follows_below (goes ne) = ⊎_elim (λ q. absurd (ne q)) (λ l. l) (entry_at goto pos sane.entries _)
  follows_below (falls e f) = follows_below f

  pub leads_below : {c r e : ℕ} → Leads goto t.fall c r e → e < n
  leads_below x = follows_below x.way

-- a row filled in the part of goto that was lent, which comes back in its place
pub built : {r : Rules} {lent n s m : ℕ} {goto : List ℕ} {t u : Others} {x : Option (Unit {0})} (via row : List ℕ)
    → ((c : ℕ) → c < 256 → Leads goto t.fall c (get_or t.fall s 0) (get_or via c 0))
    → RowFilled r lent s via (part goto s) n t row u m x
    → RowBuilt r lent n s goto t (take (256 * s) goto ++ (row ++ drop (256 * s + 256 - 256 * s) (drop (256 * s) goto))) u m x
built {r} {lent} {n} {s} {m} {goto} {t} {u} {x} via row leads f =
    record { via = via; row = row; leads = leads; filled_row = rw span at f; put = rw span }

-- a rule that goes on is longer than what is held
on-short : {r : Rules} → Short r → (h s c : ℕ) → next_live r h s c ≢ 0 → h < most_symbols
unfolding next_live fits_at
on-short {r} short h s c ne =
    lt_of_not-le (λ le. ne (set_where-none (count r) (goes_on r h s c) (λ k i. simp (le-ltb h (size r k) (le_trans (short.at k i) le)))))

-- after one byte, and after c bytes of row s
record Entered (s e m : ℕ) (u : Others) : Type 0 where
  ok : RowsOk m u
  entry : IsEntry m e
  rooted : s ≡ 0 → e ≢ no_entry

record Rowed (s c : ℕ) (row : List ℕ) (n : ℕ) (t : Others) : Type 0 where
  ok : RowsOk n t
  entries : All (IsEntry n) row
  rooted : s ≡ 0 → AllWithin (λ x. x ≢ no_entry) row 0 c

module _ {r : Rules} {lent : ℕ} (short : Short r) where
  place_sane : {s c v n e m : ℕ} {t u : Others} → RowsUsed lent n t → RowsOk n t → s < n → v < n → Place r lent s c v n t u m (Some e) → Entered s e m u
  place_sane room ok hs hv (root z l) = record { ok = ok; entry = inr (omega arith); rooted = λ _ q. omega arith }
  place_sane room ok hs hv (none nz l) = record { ok = ok; entry = inl refl; rooted = λ z _. nz z }
  place_sane room ok hs hv (some ne (there i h k)) = record { ok = ok; entry = inr h; rooted = λ _ q. omega arith }
  place_sane {s} {c} {v} {n} {t = t} room ok hs hv (some ne (made new more a)) =
      record {
        ok =
            record {
              down = stored_all (λ k e. k ≢ 0 → e < k) a.fall_put ok.down (λ _. hv);
              first = a.fall_put.kept 0 (omega arith) ∙ ok.first;
              short_held = stored_all (λ k e. e ≤ most_symbols) a.held_put ok.short_held (omega (arith, on-short short _ _ _ ne));
            };
        entry = inr (omega arith);
        rooted = λ _ q. omega arith;
      }

  module _ {s n₀ : ℕ} {via row₀ : List ℕ} {t₀ : Others} (room : RowsUsed lent n₀ t₀) (ok : RowsOk n₀ t₀) (old : All (IsEntry n₀) row₀) (long : length row₀ ≡ 256) (hs : s < n₀)
      (hv : (c : ℕ) → c < 256 → get_or via c 0 < n₀) where
    filling_sane : {c n : ℕ} {row : List ℕ} {t : Others} → c ≤ 256 → Filling r lent s via row₀ n₀ t₀ c row n t → Rowed s c row n t
    filling_sane h begin = record { ok = ok; entries = old; rooted = λ z. AllWithin-none (λ x. x ≢ no_entry) row₀ 0 }
    filling_sane h (next {c = c} {e = e} {row = row} f p) =
        let k = filling_sane (omega arith) f in
        let up = (filling-keeps f).grown in
        let q = place_sane (filling-room room f) k.ok (lt_of_lt_of_le hs up) (lt_of_lt_of_le (hv c (omega arith)) up) p in
        record {
          ok = q.ok;
          entries = All-set (IsEntry _) row c e q.entry (All-weaker (IsEntry _) (IsEntry _) (λ x. more (place-keeps p).grown) row k.entries);
          rooted = λ z. AllWithin-more_set row c e (omega (arith, filling-long f)) (λ x. x ≢ no_entry) (k.rooted z) (q.rooted z);
        }

-- a list with a row put in its place
with_long : (goto : List ℕ) (s : ℕ) (row : List ℕ) → 256 * s + 256 ≤ length goto → length row ≡ 256 → length (with_row goto s row) ≡ length goto
with_long goto s row h l = simp (length-append, length-take, length-drop, l) (omega arith)

with_first : (P : ℕ → Type 0) (goto : List ℕ) (s : ℕ) (row : List ℕ) → 256 * s + 256 ≤ length goto → length row ≡ 256
    → ((c : ℕ) → c < 256 → P (get_or goto c 0)) → (s ≡ 0 → (c : ℕ) → c < 256 → P (get_or row c 0)) → (c : ℕ) → c < 256 → P (get_or (with_row goto s row) c 0)
with_first P goto zero row h l old new c lt = rw (get_or-append row _ 0 c (omega arith)) (new refl c lt)
with_first P goto (suc s) row h l old new c lt =
    rw (get_or-append (take (256 * suc s) goto) _ 0 c (simp length-take (omega arith)), get_or-take (256 * suc s) goto c 0 (omega arith)) (old c lt)

of_filled : {r : Rules} {lent s n m : ℕ} {via row₀ row : List ℕ} {t u : Others} {x : Option (Unit {0})} → RowFilled r lent s via row₀ n t row u m x → Kept n t m u
of_filled (whole f) = filling-keeps f
of_filled (cut_short h f p) = kept_more (filling-keeps f) (place-keeps p)

pub row_length : {r : Rules} {lent s n m : ℕ} {via row₀ row : List ℕ} {t u : Others} {x : Option (Unit {0})} → RowFilled r lent s via row₀ n t row u m x → length row ≡ length row₀
row_length (whole f) = filling-long f
row_length (cut_short h f p) = filling-long f

module _ {r : Rules} {lent n s : ℕ} {goto : List ℕ} {t : Others} (short : Short r) (sane : Sane lent n goto t) (hs : s < n) where
  in_goto : 256 * s + 256 ≤ length goto
  in_goto = omega (arith, sane.goto_room, sane.room.used)

  -- row s filled and put in its place
  of_row : {u : Others} {m : ℕ} (via row : List ℕ) → ((c : ℕ) → c < 256 → Leads goto t.fall c (get_or t.fall s 0) (get_or via c 0))
      → RowFilled r lent s via (row_of goto s) n t row u m (Some tt) → Sane lent m (with_row goto s row) u
  of_row {m = m} via row leads (whole f) =
      let long : length (row_of goto s) ≡ 256 = simp (length-take, length-drop) (omega (arith, in_goto)) in
      let old = All-take (IsEntry n) 256 (drop (256 * s) goto) (All-drop (IsEntry n) (256 * s) goto sane.entries) in
      let k = filling_sane short sane.room sane.rows old long hs (λ c h. leads_below sane (omega arith) (leads c h)) (le_refl 256) f in
      let up = (filling-keeps f).grown in
      let keep = All-weaker (IsEntry n) (IsEntry m) (λ x. more up) goto sane.entries in
      record {
        room = filling-room sane.room f;
        rows = k.ok;
        goto_room = rw (with_long goto s row in_goto (filling-long f ∙ long)) sane.goto_room;
        entries =
            All-append (IsEntry m) (take (256 * s) goto) (row ++ drop 256 (drop (256 * s) goto)) (All-take (IsEntry m) (256 * s) goto keep)
            (All-append (IsEntry m) row (drop 256 (drop (256 * s) goto)) k.entries (All-drop (IsEntry m) 256 (drop (256 * s) goto) (All-drop (IsEntry m) (256 * s) goto keep)));
        last = with_first (λ x. x ≢ no_entry) goto s row in_goto (filling-long f ∙ long) sane.last (λ z c. k.rooted z c 0 (omega arith));
      }

  -- where row s is filled, all is as the next row relies on
  pub row_sane : {goto' : List ℕ} {u : Others} {m : ℕ} → RowBuilt r lent n s goto t goto' u m (Some tt) → Sane lent m goto' u
  row_sane {u = u} {m = m} x = subst⁻¹ (λ (g : List ℕ). Sane lent m g u) x.put (of_row x.via x.row x.leads x.filled_row)

  pub row_keeps : {goto' : List ℕ} {u : Others} {m : ℕ} {x : Option (Unit {0})} → RowBuilt r lent n s goto t goto' u m x → Kept n t m u
  row_keeps x = of_filled x.filled_row

  pub row_long : {goto' : List ℕ} {u : Others} {m : ℕ} {x : Option (Unit {0})} → RowBuilt r lent n s goto t goto' u m x → length goto' ≡ length goto
  row_long x = ap length x.put ∙ with_long goto s x.row in_goto (row_length x.filled_row ∙ simp (length-take, length-drop) (omega (arith, in_goto)))

-- the first s rows keep what the next relies on, and the tables' lengths
pub record Grown (lent : ℕ) (goto₀ : List ℕ) (t₀ : Others) (n : ℕ) (goto : List ℕ) (t : Others) : Type 0 where
  pub sane : Sane lent n goto t
  pub long : length goto ≡ length goto₀
  pub kept : Kept 1 t₀ n t

pub grown : {r : Rules} {lent : ℕ} {goto₀ : List ℕ} {t₀ : Others} {s n : ℕ} {goto : List ℕ} {t : Others} → Short r → Sane lent 1 goto₀ t₀ → Building r lent goto₀ t₀ s goto n t → Grown lent goto₀ t₀ n goto t
grown short sane₀ start = record { sane = sane₀; long = refl; kept = kept_refl 1 _ }
grown short sane₀ (grow f h x) =
    let k = grown short sane₀ f in
    record { sane = row_sane short k.sane h x; long = row_long short k.sane h x ∙ k.long; kept = kept_more k.kept (row_keeps short k.sane h x) }

-- where there is no room, the tables are as long as they were
pub crowded-long : {r : Rules} {lent : ℕ} {a b : Five} → Short r → Sane lent 1 a.goto (sides a) → AllFilled r lent a b None → AsLong a b
crowded-long short sane (crowded (stuck f h x)) =
    let g = grown short sane f in
    let k = kept_more g.kept (row_keeps short g.sane h x) in
    record {
      goto_long = row_long short g.sane h x ∙ g.long;
      fall_long = k.fall.long;
      held_long = k.held.long;
      live_long = k.live.long;
      out_long = k.out.long;
    }

pub all-at : {r : Rules} {lent s n : ℕ} {goto₀ goto : List ℕ} {t₀ t : Others} → s ≡ n → Building r lent goto₀ t₀ s goto n t → EveryRow r lent goto₀ t₀ goto t n (Some tt)
all-at {r} {lent} {s} {n} {goto₀} {goto} {t₀} {t} e f = all (subst (λ (k : ℕ). Building r lent goto₀ t₀ k goto n t) e f)

-- the held lengths of the rows so far ascend, with none more than one above that of the next row
filled-rising : {r : Rules} {lent s n m : ℕ} {via row₀ row : List ℕ} {t u : Others} → s < n → Rising t.held n (get_or t.held s 0 + 1)
    → RowFilled r lent s via row₀ n t row u m (Some tt) → Rising u.held m (get_or u.held s 0 + 1)
filled-rising hs k (whole f) = filling-rising hs k f

first-rising : (xs : List ℕ) → Rising xs 1 (get_or xs 0 0 + 1)
first-rising xs = record { up = λ i j l h. absurd (omega arith); top = λ i h. let e : i ≡ 0 = omega arith in rw e (omega arith); low = omega arith }

next-rising : {xs : List ℕ} (s : ℕ) {n : ℕ} → s + 1 < n → Rising xs n (get_or xs s 0 + 1) → Rising xs n (get_or xs (s + 1) 0 + 1)
next-rising s h k = let e = k.up s (s + 1) (omega arith) h in record { up = k.up; top = λ i l. omega (arith, k.top i l); low = omega (arith, k.low) }

pub rising : {r : Rules} {lent : ℕ} {goto₀ : List ℕ} {t₀ : Others} {s n : ℕ} {goto : List ℕ} {t : Others} → Building r lent goto₀ t₀ s goto n t → s < n → Rising t.held n (get_or t.held s 0 + 1)
rising {t₀ = t₀} start l = first-rising t₀.held
rising (grow {s = s} f h x) l = next-rising s l (filled-rising h (rising f h) x.filled_row)
