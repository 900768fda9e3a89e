-- One look of a walk over tables that link the rows of a book, from the row of a text on a byte: the entry is the row of the longer text, or the fall is the
-- row of a shorter text, from which the byte leads to the same standing with one fallback less. Assumes nothing.
use mathlib.Core.Path.{◌≡◌, sym, ◌∙◌}
use mathlib.Core.Logic.{◌≢◌}
use mathlib.Core.Bool.{true, or-true}
use mathlib.Core.List.{List, [], ◌∷◌}
use Prim.Native.Nat.{ℕ, suc, ◌≤◌, ◌<◌}
use native.Mathlib.Omega.{arith}
use lib.ListN.{length, get_or}
use borrow.Author.Tests.{eq-eqb, ne_eqb}
use Rattle.rows.specs.Rows.{IsRow, Ascending}
use Rattle.rows.specs.Unique.{Congruence}
use Rattle.rows.proofs.Rows.{row_same, root}
use Rattle.meaning.specs.Rules.{Rules}
use Rattle.meaning.specs.Standing.{Same, held, out}
use Rattle.meaning.specs.Falls.{falls}
use Rattle.meaning.specs.Tables.{no_entry, IsFall, goes_on_at, EntryAt, columns, goto_at, Five, Tables}
use Rattle.meaning.specs.Step.{Follows, goes, falls as back_to}
use Rattle.meaning.proofs.Levels.{same-cons}
use Rattle.meaning.proofs.Held.{same-held}
use Rattle.meaning.proofs.Shorter.{shorter, same-shorter, fall_row}
use Rattle.meaning.proofs.Next.{same-extends}
use Rattle.meaning.proofs.Outs.{same_out}
use Rattle.meaning.proofs.Falls.{first, on, back, move}
use Rattle.meaning.proofs.Congruent.{congruence}
use Rattle.meaning.proofs.Rooted.{row_empty, row_zero, row_pos, fall-lower}

-- Texts that ascend, with right falls, and right entries in the first b rows: what a look from one of these rows rests on.
pub record Linked (r : Rules) (ts : List (List ℕ)) (goto : ℕ → ℕ → ℕ) (fall : ℕ → ℕ) (b : ℕ) : Type 0 where
  pub ascending : Ascending (Same r) ts
  pub root : (0 < length ts) × (get_or ts 0 [] ≡ [])
  pub few : length ts ≤ no_entry
  pub fall_is : (i : ℕ) → i < length ts → IsFall r ts (get_or ts i []) (fall i)
  pub entry : (i c : ℕ) → i < b → c < 256 → EntryAt r ts goto i c

pub data Look (r : Rules) (ts : List (List ℕ)) (goto : ℕ → ℕ → ℕ) (fall : ℕ → ℕ) (t : List ℕ) (s c : ℕ) : Type 0 where
  ahead : goto s c ≢ no_entry → IsRow (Same r) ts (c ∷ t) (goto s c) → falls r t c ≡ 0 → Look r ts goto fall t s c
  behind : goto s c ≡ no_entry → fall s < s → IsRow (Same r) ts (shorter r t) (fall s) → Same r (c ∷ t) (c ∷ shorter r t)
      → falls r t c ≡ suc (falls r (shorter r t) c) → Look r ts goto fall t s c

module _ {r : Rules} {ts : List (List ℕ)} {goto : ℕ → ℕ → ℕ} {fall : ℕ → ℕ} {b : ℕ} (k : Linked r ts goto fall b) {c : ℕ} (byte : c < 256) where
  C : Congruence (Same r)
  C = congruence r

  pub look : {s : ℕ} {t : List ℕ} → s < b → IsRow (Same r) ts t s → Look r ts goto fall t s c
  look {s} {t} below x =
      elim (move r t c) [
        | first q z ↦ goes_on (rw (eq-eqb s 0 (row_zero k.ascending k.root s t x q))) z
        | on p q z ↦ goes_on (rw (sym (same-extends c x.same) ∙ q, or-true)) z
        | back p q same z ↦
            let some : 0 < s = row_pos k.ascending k.root s t x p in
            let ne : s ≢ 0 = omega arith in
            let f = k.fall_is s x.below in
            behind (here.back (rw (ne_eqb s 0 ne, sym (same-extends c x.same) ∙ q))) (fall-lower k.ascending k.root s _ x.below some f)
            (row_same C (same-shorter x.same) (fall_row f)) same z
      ]
    where
      u : List ℕ
      u = get_or ts s []

      here : EntryAt r ts goto s c
      here = k.entry s c below byte

      goes_on : goes_on_at r ts s c ≡ true → falls r t c ≡ 0 → Look r ts goto fall t s c
      goes_on q z = let y = here.on q in ahead (λ e. omega (arith, y.below, k.few)) (row_same C (same-cons c x.same) y) z

  -- what a row leads to, and by how many falls
  pub follows_row : {s n e : ℕ} → Follows goto fall c s n e → {t : List ℕ} → s < b → IsRow (Same r) ts t s → IsRow (Same r) ts (c ∷ t) e × (n ≡ falls r t c)
  follows_row (goes ne) below x = elim (look below x) [ ahead _ y z ↦ (y, sym z) | behind q _ _ _ _ ↦ absurd (ne q) ]
  follows_row (back_to q f) below x =
      elim (look below x) [
        | ahead ne _ _ ↦ absurd (ne q)
        | behind _ l y same z ↦ let (row, n) = follows_row f (omega arith) y in (row_same C same row, cc)
      ]

-- ---- finished tables

module _ {r : Rules} {b : Five} {n : ℕ} (tables : Tables r b n) where
  pub tables_linked : n ≤ no_entry → Linked r tables.texts (goto_at b.goto) (columns b).fall n
  tables_linked few =
      let q = tables.count in record {
        ascending = tables.rows.ascending;
        root = root (congruence r) tables.rows;
        few = omega arith;
        fall_is = tables.numbers.fall_is;
        entry = λ i c l byte. tables.gotos.entry i c (omega arith) byte;
      }

  -- a row's numbers are its text's
  pub row_held : {t : List ℕ} {e : ℕ} → IsRow (Same r) tables.texts t e → (columns b).held e ≡ held r t
  row_held x = tables.numbers.held_is _ x.below ∙ sym (same-held x.same)

  pub row_out : {t : List ℕ} {e : ℕ} → IsRow (Same r) tables.texts t e → (columns b).out e ≡ out r t
  row_out x = tables.numbers.out_is _ x.below ∙ sym (same_out x.same)

  -- row 0 is the row of the empty text
  pub row_first : IsRow (Same r) tables.texts [] 0
  row_first = row_empty tables.rows.ascending (root (congruence r) tables.rows)
