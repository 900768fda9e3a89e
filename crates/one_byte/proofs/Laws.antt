-- Laws of one look and of one byte's move: what the loops over falls go by. Assumes nothing.
use Prim.Native.Nat.{ℕ, zero, suc, ◌+◌, ◌*◌, ◌<◌}
use mathlib.Core.Bool.{false}
use Rattle.std.specs.Prelude.{Option, Some, None}
use mathlib.Core.List.{List}
use mathlib.Core.Logic.{◌≢◌}
use mathlib.Core.Path.{◌≡◌, refl, ◌∙◌}
use native.Mathlib.Omega.{arith}
use Rattle.std.proofs.lemmas.Grind.{common_steps}
use lib.ListN.{length, get_or}
use borrow.Author.Tests.{lt-leb, le-ltb}
use Rattle.meaning.specs.Tables.{no_entry, goto_at}
use Rattle.book.specs.Limits.{most_rows}
use Rattle.one_byte.specs.declared.Moved.{Moved}
use Rattle.one_byte.specs.declared.Look.{Look}
use Rattle.one_byte.specs.declared.Look.TheVariants.{Go, Fall, Wrong}
use Rattle.one_byte.specs.Move.{Lent, reached, look_at, on_look, move_in, move_from, is_short, move_of}

-- ---- one look

-- a look goes to one of the n rows, and falls to a lower row
abbrev pub Sound : ℕ → ℕ → Look → Type 0
Sound n row (Go e) = e < n
Sound n row (Fall f) = f < row
Sound n row Wrong = Unit {0}

module _ (goto fall : List ℕ) (n row c : ℕ) where
  at_sound : Sound n row (look_at goto fall n row c)
  unfolding look_at
  at_sound = grind (arith, common_steps)

  -- a look by the row's entry and its fall
  pub goes : goto_at goto row c ≢ no_entry → goto_at goto row c < n → Go (goto_at goto row c) ≡ look_at goto fall n row c
  unfolding look_at
  goes ne h = grind (arith, common_steps)

  pub falls_to : goto_at goto row c ≡ no_entry → get_or fall row 0 < row → Fall (get_or fall row 0) ≡ look_at goto fall n row c
  unfolding look_at
  falls_to q h = grind (arith, common_steps)

-- ---- one byte's move

-- two ways on from a fall that agree at each lower row
on-look-same : (n row falls : ℕ) (l : Look) (k j : ℕ → Option Moved) → Sound n row l → ((f : ℕ) → f < row → k f ≡ j f)
    → on_look l falls k ≡ on_look l falls j
on-look-same n row falls (Go e) k j s h = refl
on-look-same n row falls (Fall f) k j s h = h f s
on-look-same n row falls Wrong k j s h = refl

-- a move reaches one of the n rows
abbrev pub Within : ℕ → Option Moved → Type 0
Within n (Some m) = m.row < n
Within n None = Unit {0}

within-look : (n row falls : ℕ) (l : Look) (k : ℕ → Option Moved) → Sound n row l → ((f : ℕ) → Within n (k f)) → Within n (on_look l falls k)
within-look n row falls (Go e) k s h = s
within-look n row falls (Fall f) k s h = h f
within-look n row falls Wrong k s h = tt

module _ (goto fall : List ℕ) (n : ℕ) where
  within_in : (k row c falls : ℕ) → Within n (move_in goto fall n k row c falls)
  unfolding move_in
  within_in zero row c falls = tt
  within_in (suc k) row c falls = within-look n row falls (look_at goto fall n row c) _ (at_sound goto fall n row c) (λ f. within_in k f c (falls + 1))

  pub move-within : (row c falls : ℕ) → Within n (move_from goto fall n row c falls)
  unfolding move_from
  move-within row c falls = within_in (suc row) row c falls

  -- what a move r that is m tells
  pub moved : (row c falls : ℕ) {r m : Option Moved} → r ≡ move_from goto fall n row c falls → r ≡ m → Within n m × (move_from goto fall n row c falls ≡ m)
  moved row c falls p q = (rw (← q, p) (move-within row c falls), rw (← p) q)

  -- looks beyond `row + 1` change nothing
  enough : (k j row c falls : ℕ) → row < k → row < j → move_in goto fall n k row c falls ≡ move_in goto fall n j row c falls
  unfolding move_in
  enough zero j row c falls h g = absurd (omega arith)
  enough (suc k) zero row c falls h g = absurd (omega arith)
  enough (suc k) (suc j) row c falls h g =
      on-look-same n row falls (look_at goto fall n row c) _ _ (at_sound goto fall n row c) (λ f s.
      enough k j f c (falls + 1) (omega arith) (omega arith))

  move-look : (row c falls : ℕ) → move_from goto fall n row c falls ≡ on_look (look_at goto fall n row c) falls (λ f. move_from goto fall n f c (falls + 1))
  unfolding move_from
  move-look row c falls =
      on-look-same n row falls (look_at goto fall n row c) _ _ (at_sound goto fall n row c) (λ f s. enough row (suc f) f c (falls + 1) s (omega arith))

module _ (goto fall : List ℕ) (n row c falls : ℕ) where
  -- a move by its first look
  pub by_go : {e : ℕ} → Go e ≡ look_at goto fall n row c → (e < n) × (move_from goto fall n row c falls ≡ reached e falls)
  by_go q = (rw (← q) at (at_sound goto fall n row c), move-look goto fall n row c falls ∙ rw (← q))

  pub by_fall : {f : ℕ} → Fall f ≡ look_at goto fall n row c → (f < row) × (move_from goto fall n row c falls ≡ move_from goto fall n f c (falls + 1))
  by_fall q = (rw (← q) at (at_sound goto fall n row c), move-look goto fall n row c falls ∙ rw (← q))

  pub by_wrong : Wrong ≡ look_at goto fall n row c → move_from goto fall n row c falls ≡ None
  by_wrong q = move-look goto fall n row c falls ∙ rw (← q)

-- ---- tables that are long enough

module _ (goto fall : List ℕ) (n row : ℕ) where
  long-enough : Lent goto fall n → row < n → is_short goto fall n row ≡ false
  long-enough x h =
      rw (lt-leb n row h, le-ltb most_rows n x.few, le-ltb (length goto) (256 * n) x.entries, le-ltb (length fall) n x.falls)

  -- there a move is the byte's move
  pub move-lent : (c : ℕ) → Lent goto fall n → row < n → move_of goto fall n row c ≡ move_from goto fall n row c 0
  move-lent c x h = rw (long-enough x h)
