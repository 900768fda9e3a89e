-- Lines and frames are the pieces that `Written` says in plain words. Assumes nothing.
use Prim.Native.Nat.{ℕ, zero, suc, ◌+◌, ◌≤◌, ◌<◌}
use mathlib.Core.Bool.{Bool, true, false, cond}
use mathlib.Core.List.{List, [], ◌∷◌, ◌++◌, append-nil, append_assoc}
use mathlib.Core.Logic.{◌⊎◌, inl, inr, ◌≢◌}
use mathlib.Core.Path.{◌≡◌, refl, ap, ◌∙◌}
use native.Mathlib.Nat.{add-zero}
use native.Mathlib.Omega.{arith}
use borrow.Author.Tests.{eqb-true, eqb-false}
use lib.Dec.{eqb}
use lib.ListN.{length, get_or, take, drop}
use lib.Seq.{take-append_seam, drop-append-add}
use Rattle.lines.specs.Lines.{lf, semicolon, joined, split, lines_of, frames_of}
use Rattle.lines.specs.Written.{join, Without, LastSome, start_of, Lines, Frames}

some-empty : (p : List ℕ) (ps : List (List ℕ)) → LastSome (p ∷ ps) → LastSome ([] ∷ p ∷ ps)
some-empty p ps s zero h = absurd (omega arith)
some-empty p ps s (suc i) h = s i (omega arith)

some-joined : (c : ℕ) (ps : List (List ℕ)) → LastSome ps → LastSome (joined c ps)
some-joined c [] s zero h = omega arith
some-joined c [] s (suc i) h = absurd (omega arith)
some-joined c (p ∷ ps) s zero h = omega arith
some-joined c (p ∷ ps) s (suc i) h = s (suc i) h

joined-le : (c : ℕ) (ps : List (List ℕ)) → length ps ≤ length (joined c ps)
joined-le c [] = omega arith
joined-le c (p ∷ ps) = omega arith

module _ (mark : ℕ) where
  -- a byte in front of the first piece stands in front of all
  join-joined : (c : ℕ) (ps : List (List ℕ)) → join mark (joined c ps) ≡ c ∷ join mark ps
  unfolding join
  join-joined c [] = refl
  join-joined c (p ∷ []) = refl
  join-joined c (p ∷ q ∷ ps) = refl

  without_joined : (c : ℕ) (ps : List (List ℕ)) → c ≢ mark → Without mark ps → Without mark (joined c ps)
  without_joined c [] n w zero zero h g = n
  without_joined c [] n w zero (suc j) h g = absurd (omega arith)
  without_joined c [] n w (suc i) j h g = absurd (omega arith)
  without_joined c (p ∷ ps) n w zero zero h g = n
  without_joined c (p ∷ ps) n w zero (suc j) h g = w zero j h (omega arith)
  without_joined c (p ∷ ps) n w (suc i) j h g = w (suc i) j h g

  without_empty : (ps : List (List ℕ)) → Without mark ps → Without mark ([] ∷ ps)
  without_empty ps w zero j h g = absurd (omega arith)
  without_empty ps w (suc i) j h g = w i j (omega arith) g

  module _ (none : List (List ℕ)) where
    split_without : Without mark none → (text : List ℕ) → Without mark (split mark none text)
    unfolding split
    split_without w [] = w
    split_without w (c ∷ text) = go (eqb c mark) (split mark none text) refl (split_without w text)
      where
        go : (b : Bool) (ps : List (List ℕ)) → eqb c mark ≡ b → Without mark ps → Without mark (cond b ([] ∷ ps) (joined c ps))
        go true ps e r = without_empty ps r
        go false ps e r = without_joined c ps (eqb-false _ _ e) r

    -- only an empty text may have no piece
    split-none : (text : List ℕ) → split mark none text ≡ [] → (text ≡ []) × (none ≡ [])
    unfolding split
    split-none [] e = (refl, e)
    split-none (c ∷ text) e = go (eqb c mark) (split mark none text) (ap length e)
      where
        go : (b : Bool) (ps : List (List ℕ)) → length (cond b ([] ∷ ps) (joined c ps)) ≡ 0 → (c ∷ text ≡ []) × (none ≡ [])
        go true ps g = absurd (omega arith)
        go false [] g = absurd (omega arith)
        go false (p ∷ ps) g = absurd (omega arith)

    -- The pieces make the text. Where an empty rest has no piece, a mark ends the last one, or that is not empty.
    abbrev Whole : List (List ℕ) → List ℕ → Type 0
    Whole ps text = ((join mark ps ≡ text) × (none ≡ [] → LastSome ps)) ⊎ (none ≡ []) × (join mark ps ++ mark ∷ [] ≡ text) × (1 ≤ length ps)

    whole-cons : (c : ℕ) (text : List ℕ) (ps qs : List (List ℕ)) → join mark qs ≡ c ∷ join mark ps → (LastSome ps → LastSome qs) → length ps ≤ length qs
        → Whole ps text → Whole qs (c ∷ text)
    whole-cons c text ps qs e s l (inl h) = inl (rw (e, h.0), λ z. s (h.1 z))
    whole-cons c text ps qs e s l (inr h) = inr (h.0, rw (e, h.1), omega (arith, h.2))

    split-whole : join mark none ≡ [] → (text : List ℕ) → Whole (split mark none text) text
    unfolding split join
    split-whole n [] = inl (n, λ z. rw z (λ i h. absurd (omega arith)))
    split-whole n (c ∷ text) = go (eqb c mark) (split mark none text) refl refl (split-whole n text)
      where
        go : (b : Bool) (ps : List (List ℕ)) → eqb c mark ≡ b → split mark none text ≡ ps → Whole ps text
            → Whole (cond b ([] ∷ ps) (joined c ps)) (c ∷ text)
        go true [] e s r = let z = split-none text s in inr (z.1, rw (eqb-true c mark e, z.0), omega arith)
        go true (p ∷ ps) e s r = whole-cons c text (p ∷ ps) ([] ∷ p ∷ ps) (rw (eqb-true c mark e)) (some-empty p ps) (omega arith) r
        go false ps e s r = whole-cons c text ps (joined c ps) (join-joined c ps) (some-joined c ps) (joined-le c ps) r

-- ---- where a piece starts

pub start_from : (ps : List (List ℕ)) (at i : ℕ) → start_of at ps i ≡ at + start_of 0 ps i
unfolding start_of
start_from [] at i = rw add-zero
start_from (p ∷ ps) at zero = rw add-zero
start_from (p ∷ ps) at (suc i) = start_from ps (at + length p + 1) i ∙ omega (arith, start_from ps (0 + length p + 1) i)

-- after the first piece and its mark
start-next : (mark : ℕ) (p rest : List ℕ) (ps : List (List ℕ)) (i : ℕ) → drop (start_of 0 (p ∷ ps) (suc i)) (p ++ mark ∷ rest) ≡ drop (start_of 0 ps i) rest
unfolding start_of
start-next mark p rest ps i =
    let q : start_of (0 + length p + 1) ps i ≡ length p + suc (start_of 0 ps i) = omega (arith, start_from ps (0 + length p + 1) i) in
    rw q (drop-append-add p (mark ∷ rest) (suc (start_of 0 ps i)))

start_at : (mark : ℕ) (tail : List ℕ) (ps : List (List ℕ)) (i : ℕ) → i < length ps
    → take (length (get_or ps i [])) (drop (start_of 0 ps i) (join mark ps ++ tail)) ≡ get_or ps i []
unfolding join start_of
start_at mark tail [] i h = absurd (omega arith)
start_at mark tail (p ∷ []) zero h = take-append_seam p tail
start_at mark tail (p ∷ []) (suc i) h = absurd (omega arith)
start_at mark tail (p ∷ q ∷ ps) zero h = rw (append_assoc p (mark ∷ join mark (q ∷ ps)) tail) (take-append_seam p _)
start_at mark tail (p ∷ q ∷ ps) (suc i) h =
    rw (append_assoc p (mark ∷ join mark (q ∷ ps)) tail, start-next mark p (join mark (q ∷ ps) ++ tail) (q ∷ ps) i) (start_at mark tail (q ∷ ps) i (omega arith))

pub lines : (profile : List ℕ) → Lines profile
unfolding join
lines profile = record {
  whole = go (split-whole lf [] refl profile);
  without = split_without lf [] (λ i j h g. absurd (omega arith)) profile;
  starts = λ i h. at i h (split-whole lf [] refl profile);
}
  where
    at : (i : ℕ) → i < length (lines_of profile) → Whole lf [] (lines_of profile) profile
        → take (length (get_or (lines_of profile) i [])) (drop (start_of 0 (lines_of profile) i) profile) ≡ get_or (lines_of profile) i []
    at i h (inl e) = rw (append-nil, e.0) at (start_at lf [] (lines_of profile) i h)
    at i h (inr e) = rw e.1 at (start_at lf (lf ∷ []) (lines_of profile) i h)

    go : Whole lf [] (lines_of profile) profile
        → ((join lf (lines_of profile) ≡ profile) × LastSome (lines_of profile)) ⊎ (join lf (lines_of profile) ++ lf ∷ [] ≡ profile) × (1 ≤ length (lines_of profile))
    go (inl e) = inl (e.0, e.1 refl)
    go (inr e) = inr (e.1, e.2)

no_pieces : {A : Type 0} → ◌≡◌ {A = List (List ℕ)} ([] ∷ []) [] → A
no_pieces e = let z : ◌≡◌ {A = ℕ} 1 0 = ap length e in absurd (omega arith)

pub frames : (stack : List ℕ) → Frames stack
unfolding join
frames stack = record {
  whole = go (split-whole semicolon ([] ∷ []) refl stack);
  some = some (frames_of stack) refl;
  without = split_without semicolon ([] ∷ []) (without_empty semicolon [] (λ i j h g. absurd (omega arith))) stack;
}
  where
    go : Whole semicolon ([] ∷ []) (frames_of stack) stack → join semicolon (frames_of stack) ≡ stack
    go (inl e) = e.0
    go (inr e) = no_pieces e.0

    some : (fs : List (List ℕ)) → frames_of stack ≡ fs → 1 ≤ length fs
    some [] e = no_pieces (split-none semicolon ([] ∷ []) stack e).1
    some (f ∷ fs) e = omega arith
