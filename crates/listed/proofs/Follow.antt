-- A walk over the tables of rules: one byte's move, and a run. After a text the run is in the row of its standing, and has made its fallbacks and reports.
-- A text that is read is kept latest byte first. Assumes nothing.
use mathlib.Core.List.{List, [], ◌∷◌, reverse_aux}
use mathlib.Core.Path.{◌≡◌, refl, ◌∙◌}
use Prim.Native.Nat.{ℕ, zero, suc, ◌+◌, ◌≤◌, ◌<◌}
use native.Mathlib.Nat.{add-zero, zero-add}
use native.Mathlib.Omega.{arith}
use lib.ListN.{length}
use Rattle.rows.specs.Rows.{ByteText, IsRow}
use Rattle.rows.proofs.Rows.{row_same}
use Rattle.meaning.specs.Rules.{Rules}
use Rattle.meaning.specs.Standing.{Same}
use Rattle.meaning.specs.Falls.{falls, falls_in}
use Rattle.meaning.specs.Tables.{no_entry, Five, goto_at, Tables}
use Rattle.meaning.proofs.Congruent.{congruence}
use Rattle.meaning.proofs.Looks.{ahead, behind, look, tables_linked, row_out}
use Rattle.meaning.proofs.Shorter.{shorter}
use Rattle.book.specs.Limits.{most_rules}
use Rattle.one_byte.specs.Move.{reached, move_from}
use Rattle.walk.specs.Walk.{read, reported, run_from, reports_from}
use Rattle.one_byte.proofs.Laws.{goes, falls_to, by_go, by_fall}
use Rattle.meaning.proofs.Occurrences.{occurrences_from}

module _ {r : Rules} {b : Five} {n : ℕ} (tables : Tables r b n) (rows : n ≤ no_entry) where
  -- row i is the row of t
  abbrev pub At : List ℕ → ℕ → Type 0
  At t i = IsRow (Same r) tables.texts t i

  pub at_below : {t : List ℕ} {i : ℕ} → At t i → i < n
  at_below x = omega (arith, x.below, tables.count)

  -- one byte's move, by induction on the falls
  move_in : (k : ℕ) {t : List ℕ} {i : ℕ} (c h : ℕ) → i < k → At t i → c < 256
      → (e : ℕ) × (move_from b.goto b.fall n i c h ≡ reached e (h + falls r t c)) × At (c ∷ t) e
  move_in zero c h l x byte = absurd (omega arith)
  move_in (suc k) {t} {i} c h l x byte =
      elim (look (tables_linked tables rows) byte (at_below x) x) [
        | ahead ne y z ↦ (
          goto_at b.goto i c,
          (by_go b.goto b.fall n i c h (goes b.goto b.fall n i c ne (at_below y))).1 ∙ rw (z, add-zero),
          y,
        )
        | behind q d y same z ↦
            let (e, m, w) = move_in k c (h + 1) (omega arith) y byte in
            let one : h + falls r t c ≡ h + 1 + falls r (shorter r t) c = omega arith in (
              e,
              (by_fall b.goto b.fall n i c h (falls_to b.goto b.fall n i c q d)).1 ∙ rw one m,
              row_same (congruence r) same w,
            )
      ]

  pub move : {t : List ℕ} {i : ℕ} (c : ℕ) → At t i → c < 256
      → (e : ℕ) × (move_from b.goto b.fall n i c 0 ≡ reached e (falls r t c)) × At (c ∷ t) e
  move {i} c x byte = let (e, m, y) = move_in (suc i) c 0 (omega arith) x byte in (e, m ∙ rw zero-add, y)

  -- a run over what is left of a text: its last row, its reports, and its fallbacks
  pub record Followed (at : ℕ) (t : List ℕ) (i : ℕ) (text : List ℕ) : Type 0 where
    pub last : ℕ
    pub row : At (reverse_aux text t) last
    pub reports : reports_from b.goto b.fall b.out n at i text ≡ occurrences_from most_rules r at t text
    pub run : (so_far : ℕ) → (made : ℕ) × (run_from b.goto b.fall b.out n at i (falls_in r t) so_far text ≡ read made (falls_in r (reverse_aux text t)) last)

  pub follow : (text : List ℕ) → ByteText text → (at : ℕ) {t : List ℕ} {i : ℕ} → At t i → Followed at t i text
  unfolding run_from reports_from occurrences_from reported falls_in
  follow [] bytes at {i} x = record { last = i; row = x; reports = refl; run = λ so_far. (so_far, refl) }
  follow (c ∷ text) bytes at {t} {i} x =
      let (e, m, y) = move c x (bytes 0) in
      let rest = follow text (λ k. bytes (suc k)) (at + 1) y in
      record {
        last = rest.last;
        row = rest.row;
        reports = rw (m, row_out tables y, rest.reports);
        run = λ so_far. rw m (rest.run (so_far + length (reported b.out e)));
      }
