-- Rules have one list of rows or more than n standings, and five buffers have one content. Assumes nothing.
use mathlib.Core.Path.{◌≡◌, refl, sym, ap, subst, ◌∙◌}
use mathlib.Core.Logic.{◌⊎◌}
use mathlib.Core.Bool.{Bool, true, false}
use mathlib.Core.List.{List, []}
use Prim.Native.Nat.{ℕ, ◌+◌, ◌*◌, ◌/◌, ◌%◌, ◌<◌}
use native.Mathlib.Nat.{mod-lt}
use native.Mathlib.Omega.{arith}
use native.Mathlib.Decide.{dec_lt}
use lib.ListN.{length, get_or}
use lib.Seq.{ext_get_or}
use Rattle.rows.specs.Rows.{Ascending, MoreThan, AtMost}
use Rattle.rows.proofs.Rows.{one_row, unique}
use Rattle.rows.proofs.Exists.{exists}
use Rattle.sets.specs.Table.{row_words, rules_at}
use Rattle.sets.proofs.Table.{same_table}
use Rattle.meaning.specs.Rules.{Rules}
use Rattle.meaning.specs.Standing.{Same}
use Rattle.meaning.specs.Tables.{Numbers, Entry, goes_on_at, Gotos, Five, goto_at, columns, ZeroFrom, Tables, Alike, OneFive}
use Rattle.meaning.proofs.Congruent.{congruence}
use Rattle.meaning.proofs.Shorter.{fall_row}
use Rattle.meaning.proofs.Tested.{same_decided}

pub rows_or_more : (r : Rules) (n : ℕ) → MoreThan (Same r) n ⊎ AtMost (Same r) n
rows_or_more r n = exists (Same r) (congruence r) (same_decided r) n

-- ---- row by row

module _ {r : Rules} {ts : List (List ℕ)} (asc : Ascending (Same r) ts) where
  one_goto : {g g' : ℕ → ℕ → ℕ} → Gotos r ts g → Gotos r ts g' → (i c : ℕ) → i < length ts → c < 256 → g i c ≡ g' i c
  one_goto x y i c k byte = go (goes_on_at r ts i c) (x.entry i c k byte) (y.entry i c k byte)
    where
      go : (b : Bool) {e e' : ℕ} → Entry r ts (get_or ts i []) c e b → Entry r ts (get_or ts i []) c e' b → e ≡ e'
      go true a a' = one_row (congruence r) asc (a.on refl) (a'.on refl)
      go false a a' = a.back refl ∙ sym (a'.back refl)

-- ---- place by place

-- two lists of one length, equal below n and 0 from there on
same_list : (n : ℕ) (xs ys : List ℕ) → length xs ≡ length ys → ZeroFrom n xs → ZeroFrom n ys → ((i : ℕ) → i < n → get_or xs i 0 ≡ get_or ys i 0) → xs ≡ ys
same_list n xs ys e x y same =
    ext_get_or 0 xs ys e (λ i h. elim (dec_lt i n) [ yes l ↦ same i l | no g ↦ x i (omega arith) ∙ sym (y i (omega arith)) ])

module _ {r : Rules} {b b' : Five} {n : ℕ} (x : Tables r b n) (y : Tables r b' n) where
  numbers' : Numbers r x.texts (columns b')
  numbers' = rw (unique (congruence r) x.rows y.rows) y.numbers

  gotos' : Gotos r x.texts (goto_at b'.goto)
  gotos' = rw (unique (congruence r) x.rows y.rows) y.gotos

  -- what the row determines
  by_row : {f g v : ℕ → ℕ} → ((i : ℕ) → i < length x.texts → f i ≡ v i) → ((i : ℕ) → i < length x.texts → g i ≡ v i) → (i : ℕ) → i < n → f i ≡ g i
  by_row p q i l = let k : i < length x.texts = omega (arith, x.count) in p i k ∙ sym (q i k)

  goto_same : (i : ℕ) → i < 256 * n → get_or b.goto i 0 ≡ get_or b'.goto i 0
  goto_same i l =
      let m : i % 256 < 256 = mod-lt i (omega arith) in
      let e : 256 * (i / 256) + i % 256 ≡ i = omega arith in
      subst (λ (k : ℕ). get_or b.goto k 0 ≡ get_or b'.goto k 0) e
      (one_goto x.rows.ascending x.gotos gotos' (i / 256) (i % 256) (omega (arith, x.count)) m)

  same-five : Alike b b' → b ≡ b'
  unfolding rules_at
  same-five a =
      let (wl, wl', wo, wo') = a.words in
      λ i. record {
        goto = same_list (256 * n) b.goto b'.goto a.goto x.rest.goto_rest y.rest.goto_rest goto_same i;
        fall = same_list n b.fall b'.fall a.fall x.rest.fall_rest y.rest.fall_rest
            (λ j l. let k : j < length x.texts = omega (arith, x.count) in
            one_row (congruence r) x.rows.ascending (fall_row (x.numbers.fall_is j k)) (fall_row (numbers'.fall_is j k))) i;
        held = same_list n b.held b'.held a.held x.rest.held_rest y.rest.held_rest (by_row x.numbers.held_is numbers'.held_is) i;
        live = same_list (row_words * n) b.live b'.live a.live x.rest.live_rest y.rest.live_rest
            (same_table row_words n b.live b'.live wl wl' (by_row x.numbers.live_is numbers'.live_is)) i;
        out = same_list (row_words * n) b.out b'.out a.out x.rest.out_rest y.rest.out_rest
            (same_table row_words n b.out b'.out wo wo' (by_row x.numbers.out_is numbers'.out_is)) i;
      }

pub one-five : OneFive
one-five r b b' n x y a = same-five x y a

-- the rules determine how many rows there are
pub one-count : {r : Rules} {b b' : Five} {n n' : ℕ} → Tables r b n → Tables r b' n' → n ≡ n'
one-count {r} x y = sym x.count ∙ ap length (unique (congruence r) x.rows y.rows) ∙ y.count
