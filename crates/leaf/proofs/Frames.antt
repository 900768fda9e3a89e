-- The last frame of a stack: it starts behind the last mark, and is all from there on. Assumes nothing.
use Prim.Native.Nat.{ℕ, suc, ◌+◌, ◌-◌, ◌≤◌, ◌<◌}
use mathlib.Core.Bool.{Bool, true, false, cond}
use mathlib.Core.List.{List, [], ◌∷◌}
use mathlib.Core.Path.{◌≡◌, refl, ◌∙◌}
use native.Mathlib.Omega.{arith}
use Rattle.std.specs.Prelude.{Option, Some, None}
use lib.Dec.{eqb}
use lib.ListN.{length, get_or, drop}
use Rattle.lines.specs.Lines.{semicolon, joined, split, last_mark_of}
use Rattle.lines.specs.Written.{start_of}
use Rattle.lines.proofs.Pieces.{start_from}
use Rattle.leaf.specs.Leaf.{leaf_of, leaf_start}

-- The last of a text's pieces: the text itself where no mark is in it, or else what stands behind the last mark, at i.
data Last (mark : ℕ) : List ℕ → List (List ℕ) → Type 0 where
  only : {text : List ℕ} → last_mark_of mark text ≡ None → Last mark text (text ∷ [])
  behind : {text p q : List ℕ} {qs : List (List ℕ)} (i : ℕ) → i < length text → last_mark_of mark text ≡ Some i
      → start_of 0 (p ∷ q ∷ qs) (suc (length qs)) ≡ suc i → get_or (q ∷ qs) (length qs) [] ≡ drop (suc i) text → Last mark text (p ∷ q ∷ qs)

module _ (mark : ℕ) where
  -- the first piece is one byte longer, or a mark stands in front of it
  last_cons : (c : ℕ) (text : List ℕ) (b : Bool) (ps : List (List ℕ)) → eqb c mark ≡ b → Last mark text ps
      → Last mark (c ∷ text) (cond b ([] ∷ ps) (joined c ps))
  unfolding start_of last_mark_of
  last_cons c text true _ e (only f) =
      let h : 0 < length (c ∷ text) = omega arith in
      behind 0 h (rw (e, f)) refl refl
  last_cons c text false _ e (only f) = only (rw (e, f))
  last_cons c text true _ e (behind {p = p} {q = q} {qs = qs} i h f s g) =
      let l : suc i < length (c ∷ text) = omega arith in
      let t = start_from (p ∷ q ∷ qs) 1 (suc (length qs)) in
      behind (suc i) l (rw f) (t ∙ omega arith) g
  last_cons c text false _ e (behind {p = p} {q = q} {qs = qs} i h f s g) =
      let l : suc i < length (c ∷ text) = omega arith in
      let t = start_from (q ∷ qs) (0 + length p + 1) (length qs) in
      let u = start_from (q ∷ qs) (0 + length (c ∷ p) + 1) (length qs) in
      behind (suc i) l (rw f) (u ∙ omega arith) g

  last_is : (text : List ℕ) → Last mark text (split mark ([] ∷ []) text)
  unfolding split last_mark_of
  last_is [] = only refl
  last_is (c ∷ text) = last_cons c text (eqb c mark) (split mark ([] ∷ []) text) refl (last_is text)

-- behind a mark, or the start where there is none
abbrev pub behind_mark : Option ℕ → ℕ
behind_mark (Some i) = i + 1
behind_mark None = 0

-- What is known of the start and the bytes of the last piece.
record LastPiece (mark : ℕ) (text : List ℕ) (start : ℕ) (bytes : List ℕ) : Type 0 where
  place : behind_mark (last_mark_of mark text) ≡ start
  within : start ≤ length text
  rest : bytes ≡ drop start text

last-piece : {mark : ℕ} {text : List ℕ} {ps : List (List ℕ)} → Last mark text ps → LastPiece mark text (start_of 0 ps (length ps - 1)) (get_or ps (length ps - 1) [])
unfolding start_of
last-piece (only {text = text} f) = record { place = rw f; within = omega arith; rest = refl }
last-piece {mark} (behind {text = text} {p = p} {q = q} {qs = qs} i h f s g) =
    let n : length (p ∷ q ∷ qs) - 1 ≡ suc (length qs) = omega arith in
    rw n record { place = rw f (omega (arith, s)); within = omega arith; rest = rw s g }

-- ---- the leaf of a stack

module _ (stack : List ℕ) where
  leaf_piece : LastPiece semicolon stack (leaf_start stack) (leaf_of stack)
  leaf_piece = last-piece (last_is semicolon stack)

  pub leaf_behind : behind_mark (last_mark_of semicolon stack) ≡ leaf_start stack
  leaf_behind = leaf_piece.place

  pub start-within : leaf_start stack ≤ length stack
  start-within = leaf_piece.within

  -- all from its start on
  pub leaf_is : leaf_of stack ≡ drop (leaf_start stack) stack
  leaf_is = leaf_piece.rest
