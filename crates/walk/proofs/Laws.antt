-- Laws of a run: what the loops over a text go by. Assumes nothing.
use Prim.Native.Nat.{ℕ, ◌+◌, ◌*◌, ◌/◌, ◌≤◌, ◌<◌}
use mathlib.Core.Bool.{true}
use Rattle.std.specs.Prelude.{Option, Some, None, Result, Ok, Err}
use mathlib.Core.List.{List, [], ◌∷◌, ◌++◌}
use mathlib.Core.Path.{◌≡◌}
use native.Mathlib.Nat.{zero-add}
use native.Mathlib.Numerals.{add-one}
use native.Mathlib.Omega.{arith}
use lib.ListN.{length, get_or, drop, length-append, drop_of_length-le}
use lib.Seq.{drop-cons, sets as stored, sets-eq}
use borrow.Author.Tests.{le-ltb}
use Rattle.sets.specs.Sets.{reports as pairs}
use Rattle.sets.proofs.Members.{reports-length}
use Rattle.meaning.specs.Tables.{Five}
use Rattle.book.specs.Limits.{most_bytes}
use Rattle.lent.specs.Lent.{has_rows}
use Rattle.one_byte.specs.declared.Moved.{Moved}
use Rattle.one_byte.specs.Move.{move_from, on_move}
use Rattle.one_byte.proofs.Laws.{Within, move-within}
use Rattle.answers.specs.declared.Damaged.{Damaged}
use Rattle.walk.specs.declared.Run.{Run}
use Rattle.walk.specs.Walk.{read, stopped, reported, run_from, run_of, reports_from, reports_of, written, answer_of, walk_of}

-- ---- a run, byte by byte

module _ (goto fall out : List ℕ) (n : ℕ) (text : List ℕ) (at row : ℕ) where
  -- the run at the text's end
  pub run_end : (falls made : ℕ) → length text ≤ at → run_from goto fall out n at row falls made (drop at text) ≡ read made falls row
  unfolding run_from
  run_end falls made h = rw drop_of_length-le

  -- a byte's part in a run, where its move is m
  pub run-move : (falls made : ℕ) (m : Option Moved) → at < length text → move_from goto fall n row (get_or text at 0) 0 ≡ m
      → run_from goto fall out n at row falls made (drop at text)
      ≡ on_move m (λ to more. run_from goto fall out n (at + 1) to (falls + more) (made + length (reported out to)) (drop (at + 1) text)) (stopped at)
  unfolding run_from
  run-move falls made m h e = rw (drop-cons text at 0, e, add-one at)

  -- the reports likewise
  pub reports_end : length text ≤ at → reports_from goto fall out n at row (drop at text) ≡ []
  unfolding reports_from
  reports_end h = rw drop_of_length-le

  pub reports-move : (m : Option Moved) → at < length text → move_from goto fall n row (get_or text at 0) 0 ≡ m
      → reports_from goto fall out n at row (drop at text)
      ≡ on_move m (λ to more. pairs (at + 1) (reported out to) ++ reports_from goto fall out n (at + 1) to (drop (at + 1) text)) []
  unfolding reports_from
  reports-move m h e = rw (drop-cons text at 0, e, add-one at)

-- ---- the number of reports and their list

-- a run from `made` reports on, whose reports are rs: its last row is one of the n, and it counts them
abbrev pub Right : ℕ → ℕ → List ℕ → Result Run Damaged → Type 0
Right n made rs (Ok r) = (r.row < n) × (2 * r.made ≡ 2 * made + length rs)
Right n made rs (Err d) = Unit {0}

right_more : (n made e : ℕ) (ks rs : List ℕ) (r : Result Run Damaged) → Right n (made + length ks) rs r → Right n made (pairs e ks ++ rs) r
right_more n made e ks rs (Ok r) h = (h.0, simp (length-append, reports-length) (omega arith))
right_more n made e ks rs (Err d) h = tt

module _ (goto fall out : List ℕ) (n : ℕ) where
  right_move : (at falls made : ℕ) (text : List ℕ) (m : Option Moved) → Within n m
      → ((to falls made : ℕ) → to < n → Right n made (reports_from goto fall out n (at + 1) to text) (run_from goto fall out n (at + 1) to falls made text))
      → Right n made (on_move m (λ to more. pairs (at + 1) (reported out to) ++ reports_from goto fall out n (at + 1) to text) [])
      (on_move m (λ to more. run_from goto fall out n (at + 1) to (falls + more) (made + length (reported out to)) text) (stopped at))
  right_move at falls made text (Some m) w h =
      let total = made + length (reported out m.row) in
      right_more n made (at + 1) (reported out m.row) (reports_from goto fall out n (at + 1) m.row text) (run_from goto fall out n (at + 1) m.row (falls + m.falls) total text)
      (h m.row (falls + m.falls) total w)
  right_move at falls made text None w h = tt

  run_right : (text : List ℕ) (at row falls made : ℕ) → row < n
      → Right n made (reports_from goto fall out n at row text) (run_from goto fall out n at row falls made text)
  unfolding run_from reports_from
  run_right [] at row falls made h = (h, omega arith)
  run_right (c ∷ text) at row falls made h =
      right_move at falls made text (move_from goto fall n row c 0) (move-within goto fall n row c 0) (λ to f m w. run_right text (at + 1) to f m w)

  -- what a whole run r that is q tells
  pub counted : (text : List ℕ) {r q : Result Run Damaged} → 0 < n → r ≡ run_of goto fall out n text → r ≡ q → Right n 0 (reports_of goto fall out n text) q
  counted text h p q = rw (← q, p) (run_right text 0 0 0 0 h)

-- ---- what is stored from the first place on

pub stored_all : (l xs : List ℕ) → length xs ≤ length l → stored l 0 xs ≡ written xs l
unfolding written
stored_all l xs h = rw zero-add at (sets-eq xs l 0 (omega arith))

-- ---- the rows, and the answer of a walk that reaches its run

module _ (b : Five) (n : ℕ) where
  -- where the run r is q
  pub walked : (text : List ℕ) (space : ℕ) {r q : Result Run Damaged} → length text ≤ most_bytes → has_rows b n ≡ true
      → r ≡ run_of b.goto b.fall b.out n text → r ≡ q → answer_of b.held (space / 2) q ≡ walk_of b n text space
  walked text space x y p q = rw (← q, p) (rw (le-ltb most_bytes (length text) x, y))
