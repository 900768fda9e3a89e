-- The builder's steps: what one byte of row s comes to, where the rows so far have right numbers. A row is known by its held length, its live set and its
-- fall; the byte's standing has a row already, or one is made for it, or there is no room. Of the tables nothing is used but how they are read, so the
-- steps hold of any layout. Assumes nothing.
use mathlib.Core.Path.{◌≡◌, refl, sym, ◌∙◌}
use mathlib.Core.Logic.{◌≢◌, inl, inr}
use mathlib.Core.Bool.{Bool, true, false, or-true, true≢false}
use mathlib.Core.List.{List, [], ◌∷◌, ◌++◌}
use Prim.Native.Nat.{ℕ, zero, suc, ◌+◌, ◌≤◌, ◌<◌}
use native.Mathlib.Nat.{eq-zero-or-pos}
use native.Mathlib.Omega.{arith}
use native.Mathlib.Decide.{dec_lt}
use native.Mathlib.Numerals.{add-one}
use lib.Bits.{bit_or}
use lib.ListN.{length, get_or, get_or-append}
use lib.Seq.{get_or-append_seam}
use borrow.Author.Tests.{eq-eqb, ne_eqb}
use Rattle.rows.specs.Rows.{IsRow, HasRow, Ascending, IsRows, MoreThan}
use Rattle.rows.specs.Unique.{Congruence}
use Rattle.rows.proofs.Rows.{row_same, row_own, row_append, one_row}
use Rattle.rows.proofs.Build.{Partial, start, found, added, next, finish, crowded, length-snoc, row_new}
use Rattle.meaning.specs.Rules.{Rules}
use Rattle.meaning.specs.Standing.{Same, held, live, out}
use Rattle.meaning.specs.Tables.{no_entry, Columns, IsFall, Numbers, Entry, goes_on_at, EntryAt, Gotos}
use Rattle.meaning.specs.Step.{next_live, finished, Follows}
use Rattle.meaning.proofs.Levels.{same_refl, same_sym, same_trans}
use Rattle.meaning.proofs.Held.{held-nil, live-none, same-held, same_live}
use Rattle.meaning.proofs.Shorter.{shorter, shorter-nil, fall_row, row_fall, same-shorter, same_key}
use Rattle.meaning.proofs.Next.{grows, extends-grows, grows-held, grows-shorter, grows-shorter-first, fails_same, fails_first, grows_some, grows_none, grows-live}
use Rattle.meaning.proofs.Outs.{same_out, out_or, out_none}
use Rattle.meaning.proofs.Congruent.{congruence}
use Rattle.meaning.proofs.Rooted.{row_empty, held_pos, fall-lower}
use Rattle.meaning.proofs.Looks.{Linked, follows_row}

-- ---- a row by its key

module _ {r : Rules} {ts : List (List ℕ)} {x : Columns} (numbers : Numbers r ts x) {u : List ℕ} {v : ℕ} (f : IsRow (Same r) ts (shorter r u) v) where
  row_of_key : (i : ℕ) → i < length ts → x.held i ≡ held r u → x.live i ≡ live r u → x.fall i ≡ v → IsRow (Same r) ts u i
  row_of_key i l h a q =
      let y : IsRow (Same r) ts (shorter r (get_or ts i [])) v = rw q at (fall_row (numbers.fall_is i l)) in
      record {
        below = l;
        same = same_key r u (get_or ts i []) (sym h ∙ numbers.held_is i l) (sym a ∙ numbers.live_is i l) (same_trans f.same (same_sym y.same));
      }

  key_of_row : Ascending (Same r) ts → (i : ℕ) → IsRow (Same r) ts u i → (x.held i ≡ held r u) × (x.live i ≡ live r u) × (x.fall i ≡ v)
  key_of_row asc i y = (
    numbers.held_is i y.below ∙ sym (same-held y.same),
    numbers.live_is i y.below ∙ sym (same_live y.same),
    one_row (congruence r) asc (fall_row (numbers.fall_is i y.below)) (row_same (congruence r) (same_sym (same-shorter y.same)) f),
  )

-- ---- one row more

entry-append : {r : Rules} {ts : List (List ℕ)} {t : List ℕ} {c e : ℕ} {b : Bool} (us : List (List ℕ)) → Entry r ts t c e b → Entry r (ts ++ us) t c e b
entry-append {r} us x = record { on = λ q. row_append (congruence r) us (x.on q); back = x.back }

-- an entry, where it is known which way it goes
entry-on : {r : Rules} {ts : List (List ℕ)} {t : List ℕ} {c e : ℕ} {b : Bool} → b ≡ true → IsRow (Same r) ts (c ∷ t) e → Entry r ts t c e b
entry-on q x = record { on = λ _. x; back = λ p. absurd (true≢false (sym q ∙ p)) }

entry-back : (r : Rules) (ts : List (List ℕ)) (t : List ℕ) (c : ℕ) {b : Bool} → b ≡ false → Entry r ts t c no_entry b
entry-back r ts t c q = record { on = λ p. absurd (true≢false (sym p ∙ q)); back = λ _. refl }

-- a table is as it was below n, and v at n
pub record Put (n v : ℕ) (old new : ℕ → ℕ) : Type 0 where
  pub kept : (i : ℕ) → i < n → new i ≡ old i
  pub here : new n ≡ v

-- what holds below n of the old, and of v, holds of the new up to n
put_all : {n v : ℕ} {old new : ℕ → ℕ} (P : ℕ → ℕ → Type 0) → Put n v old new → ((i : ℕ) → i < n → P i (old i)) → P n v → (i : ℕ) → i < suc n → P i (new i)
put_all {n} P x below at i l =
    elim (dec_lt i n) [ yes h ↦ rw (x.kept i h) (below i h) | no g ↦ let e : i ≡ n = omega arith in rw (e, x.here) at ]

-- a row more in the four tables
pub record Row (n f h l o : ℕ) (x y : Columns) : Type 0 where
  pub fall_put : Put n f x.fall y.fall
  pub held_put : Put n h x.held y.held
  pub live_put : Put n l x.live y.live
  pub out_put : Put n o x.out y.out

module _ {r : Rules} {ts : List (List ℕ)} {x : Columns} (numbers : Numbers r ts x) (u : List ℕ) where
  abbrev us : List (List ℕ)
  us = ts ++ u ∷ []

  -- a table whose numbers are P of the rows' texts, with one more
  grow : {v : ℕ} {old new : ℕ → ℕ} (P : List ℕ → ℕ → Type 0) → Put (length ts) v old new → ((i : ℕ) → i < length ts → P (get_or ts i []) (old i)) → P u v
      → (i : ℕ) → i < length us → P (get_or us i []) (new i)
  grow P p old new i l =
      put_all (λ i y. P (get_or us i []) y) p (λ i k. rw (get_or-append ts (u ∷ []) [] i k) (old i k))
      (rw (get_or-append_seam ts u [] []) new) i (omega (arith, length-snoc ts u))

  numbers_more : {v h a o : ℕ} {y : Columns} → Row (length ts) v h a o x y → IsRow (Same r) ts (shorter r u) v → h ≡ held r u → a ≡ live r u → o ≡ out r u
      → Numbers r us y
  numbers_more w f qh qa qo = record {
    fall_is = grow (λ t y. IsFall r us t y) w.fall_put
        (λ i k. row_fall (row_append (congruence r) (u ∷ []) (fall_row (numbers.fall_is i k)))) (row_fall (row_append (congruence r) (u ∷ []) f));
    held_is = grow (λ t y. y ≡ held r t) w.held_put numbers.held_is qh;
    live_is = grow (λ t y. y ≡ live r t) w.live_put numbers.live_is qa;
    out_is = grow (λ t y. y ≡ out r t) w.out_put numbers.out_is qo;
  }

-- ---- the bytes of row s, in order

-- the row that the fall of s leads to at the byte c: it serves as the fall of a new row
pub record Via (r : Rules) (ts : List (List ℕ)) (s c v : ℕ) : Type 0 where
  pub first : s ≡ 0 → v ≡ 0
  pub later : 0 < s → IsRow (Same r) ts (c ∷ shorter r (get_or ts s [])) v

-- the rows before s are done in goto, and `row`, which will be row s of it, is filled as far as the byte c; `via` is what the fall of s leads to
pub record Filling (r : Rules) (ts : List (List ℕ)) (goto : ℕ → ℕ → ℕ) (via row : ℕ → ℕ) (x : Columns) (s c : ℕ) : Type 0 where
  pub partial : Partial (Same r) ts s c
  pub numbers : Numbers r ts x
  pub done : (q e : ℕ) → q < s → e < 256 → EntryAt r ts goto q e
  pub leads : (e : ℕ) → e < 256 → Via r ts s e (via e)
  pub part : (e : ℕ) → e < c → Entry r ts (get_or ts s []) e (row e) (goes_on_at r ts s e)

module _ {r : Rules} {ts : List (List ℕ)} {goto : ℕ → ℕ → ℕ} {via row : ℕ → ℕ} {x : Columns} {s c : ℕ} (f : Filling r ts goto via row x s c)
    (l : s < length ts) (byte : c < 256) where
  C : Congruence (Same r)
  C = congruence r

  abbrev t : List ℕ
  t = get_or ts s []

  asc : Ascending (Same r) ts
  asc = f.partial.ascending

  top : (0 < length ts) × (get_or ts 0 [] ≡ [])
  top = f.partial.root

  root-held : s ≡ 0 → held r t ≡ 0
  root-held z = rw (z, top.1) (held-nil r)

  some-held : 0 < s → 0 < held r t
  some-held = held_pos asc top s t (row_own C ts s l)

  -- the rules that go on with the byte
  abbrev onward : ℕ
  onward = next_live r (x.held s) (x.live s) c

  -- the next entry is right, and the byte has a row
  filled : {e : ℕ} {row' : ℕ → ℕ} → Put c e row row' → Entry r ts t c e (goes_on_at r ts s c) → HasRow (Same r) ts (c ∷ t) → Filling r ts goto via row' x s (c + 1)
  filled p y h = record {
    partial = found C f.partial h;
    numbers = f.numbers;
    done = f.done;
    leads = f.leads;
    part = λ i k. put_all (λ i z. Entry r ts t i z (goes_on_at r ts s i)) p f.part y i (omega arith);
  }

  -- no rule goes on
  module _ (none : onward ≡ 0) where
    stops : grows r t c ≡ false
    stops = grows_none r t c (rw (f.numbers.held_is s l, f.numbers.live_is s l) at none)

    pub place-root : s ≡ 0 → {row' : ℕ → ℕ} → Put c 0 row row' → Filling r ts goto via row' x s (c + 1)
    place-root z p =
        let y = row_same C (fails_first r t c stops (root-held z)) (row_empty asc top) in
        filled p (entry-on (rw (eq-eqb s 0 z)) y) (0, y)

    pub place_none : 0 < s → {row' : ℕ → ℕ} → Put c no_entry row row' → Filling r ts goto via row' x s (c + 1)
    place_none some p =
        let ne : s ≢ 0 = omega arith in
        filled p (entry-back r ts t c (rw (ne_eqb s 0 ne, extends-grows r t c (some-held some), stops)))
        (via c, row_same C (fails_same r t c stops (some-held some)) ((f.leads c byte).later some))

  -- some rule goes on
  module _ (some : onward ≢ 0) where
    abbrev v : ℕ
    v = via c

    abbrev u : List ℕ
    u = c ∷ t

    goes_on : grows r t c ≡ true
    goes_on = grows_some r t c (rw (f.numbers.held_is s l, f.numbers.live_is s l) at some)

    on-goes : goes_on_at r ts s c ≡ true
    on-goes =
        elim (eq-zero-or-pos s) [ inl z ↦ rw (eq-eqb s 0 z) | inr p ↦ rw (extends-grows r t c (some-held p), goes_on, or-true) ]

    held_next : held r u ≡ x.held s + 1
    held_next = grows-held r t c goes_on ∙ rw (f.numbers.held_is s l) (sym (add-one (held r t)))

    live-next : live r u ≡ onward
    live-next = grows-live r t c goes_on ∙ rw (f.numbers.held_is s l, f.numbers.live_is s l)

    -- the fall of the byte's standing
    fall-next : IsRow (Same r) ts (shorter r u) v
    fall-next =
        elim (eq-zero-or-pos s) [
          | inl z ↦ rw (grows-shorter-first r t c goes_on (root-held z), (f.leads c byte).first z) (row_empty asc top)
          | inr p ↦ rw (grows-shorter r t c goes_on (some-held p)) ((f.leads c byte).later p)
        ]

    out-next : bit_or (finished r (x.held s + 1) onward) (x.out v) ≡ out r u
    out-next =
        rw (← held_next, ← live-next, f.numbers.out_is v fall-next.below, ← same_out fall-next.same)
        (sym (out_or r u (omega (arith, held_next))))

    -- its key
    abbrev Key : ℕ → Type 0
    Key i = (x.held i ≡ x.held s + 1) × (x.live i ≡ onward) × (x.fall i ≡ v)

    pub place-there : (i : ℕ) → i < length ts → Key i → {row' : ℕ → ℕ} → Put c i row row' → Filling r ts goto via row' x s (c + 1)
    place-there i k (h, a, q) p =
        let y = row_of_key f.numbers fall-next i k (h ∙ sym held_next) (a ∙ sym live-next) q in
        filled p (entry-on on-goes y) (i, y)

    module _ (fresh : (i : ℕ) → i < length ts → ¬ Key i) where
      unseen : ¬ HasRow (Same r) ts u
      unseen (i, y) =
          let (h, a, q) = key_of_row f.numbers fall-next asc i y in
          fresh i y.below (h ∙ held_next, a ∙ live-next, q)

      pub place-full : MoreThan (Same r) (length ts)
      place-full = crowded C f.partial l byte unseen

      pub place-made : {row' : ℕ → ℕ} {y : Columns} → Put c (length ts) row row'
          → Row (length ts) v (x.held s + 1) onward (bit_or (finished r (x.held s + 1) onward) (x.out v)) x y
          → Filling r (ts ++ u ∷ []) goto via row' y s (c + 1)
      place-made p w = record {
        partial = added C f.partial l byte unseen;
        numbers = numbers_more f.numbers u w fall-next (sym held_next) (sym live-next) out-next;
        done = λ q e h b.
            let k : q < length ts = omega arith in
            rw (get_or-append ts (u ∷ []) [] q k) (entry-append (u ∷ []) (f.done q e h b));
        leads = λ e b.
            let y = f.leads e b in
            record { first = y.first; later = λ p. rw (get_or-append ts (u ∷ []) [] s l) (row_append C (u ∷ []) (y.later p)) };
        part =
            rw (get_or-append ts (u ∷ []) [] s l) (λ i k.
            put_all (λ i z. Entry r (ts ++ u ∷ []) t i z (goes_on_at r ts s i)) p
            (λ i h. entry-append (u ∷ []) (f.part i h)) (entry-on on-goes (row_new C ts u)) i (omega arith));
      }

-- ---- row after row

-- the rows before s are done
pub record Built (r : Rules) (ts : List (List ℕ)) (goto : ℕ → ℕ → ℕ) (x : Columns) (s : ℕ) : Type 0 where
  pub partial : Partial (Same r) ts s 0
  pub numbers : Numbers r ts x
  pub done : (q e : ℕ) → q < s → e < 256 → EntryAt r ts goto q e

pub built-start : (r : Rules) (goto : ℕ → ℕ → ℕ) (x : Columns) → x.fall 0 ≡ 0 → x.held 0 ≡ 0 → x.live 0 ≡ 0 → x.out 0 ≡ 0 → Built r ([] ∷ []) goto x 0
built-start r goto x qf qh ql qo = record {
  partial = start (congruence r);
  numbers = record {
    fall_is = one (λ t y. IsFall r ([] ∷ []) t y) x.fall (row_fall (rw (qf, shorter-nil r) (record { below = omega arith; same = same_refl r [] })));
    held_is = one (λ t y. y ≡ held r t) x.held (qh ∙ sym (held-nil r));
    live_is = one (λ t y. y ≡ live r t) x.live (ql ∙ sym (live-none r [] (held-nil r)));
    out_is = one (λ t y. y ≡ out r t) x.out (qo ∙ sym (out_none r [] (held-nil r)));
  };
  done = λ q e l. absurd (omega arith);
}
  where
    one : (P : List ℕ → ℕ → Type 0) (y : ℕ → ℕ) → P [] (y 0) → (i : ℕ) → i < 1 → P (get_or ([] ∷ []) i []) (y i)
    one P y h zero l = h
    one P y h (suc i) l = absurd (omega arith)

module _ {r : Rules} {ts : List (List ℕ)} {goto : ℕ → ℕ → ℕ} {x : Columns} {s : ℕ} (b : Built r ts goto x s) where
  pub built_fill : (via row : ℕ → ℕ) → ((e : ℕ) → e < 256 → Via r ts s e (via e)) → Filling r ts goto via row x s 0
  built_fill via row leads =
      record { partial = b.partial; numbers = b.numbers; done = b.done; leads = leads; part = λ e l. absurd (omega arith) }

  -- the row that the fall leads to, by the falls of the rows that are done
  pub built_via : s < length ts → length ts ≤ no_entry → 0 < s → (c : ℕ) → c < 256 → {n v : ℕ} → Follows goto x.fall c (x.fall s) n v → Via r ts s c v
  built_via l few p c byte f =
      let asc = b.partial.ascending in
      let k : Linked r ts goto x.fall s =
      record { ascending = asc; root = b.partial.root; few = few; fall_is = b.numbers.fall_is; entry = b.done }
      in
      let y = b.numbers.fall_is s l in
      let low : x.fall s < s = fall-lower asc b.partial.root s (x.fall s) l p y in
      record { first = λ z. absurd (omega arith); later = λ _. (follows_row k byte f low (fall_row y)).0 }

  pub built_finish : length ts ≤ s → IsRows (Same r) ts × Gotos r ts goto
  built_finish l = (finish (congruence r) b.partial l, record { entry = λ i c h byte. b.done i c (omega arith) byte })

-- the row is whole, and stands in goto
pub built-next : {r : Rules} {ts : List (List ℕ)} {goto goto' : ℕ → ℕ → ℕ} {via row : ℕ → ℕ} {x : Columns} {s : ℕ} → Filling r ts goto via row x s 256
    → ((q e : ℕ) → q < s → e < 256 → goto' q e ≡ goto q e) → ((e : ℕ) → e < 256 → goto' s e ≡ row e) → Built r ts goto' x (s + 1)
built-next {r} {ts} {s = s} f before here = record {
  partial = next (congruence r) f.partial;
  numbers = f.numbers;
  done = λ q e l byte. elim (dec_lt q s) [
    | yes h ↦ rw (before q e h byte) (f.done q e h byte)
    | no g ↦ let z : q ≡ s = omega arith in rw (z, here e byte) (f.part e byte)
  ];
}
