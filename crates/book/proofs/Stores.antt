-- A turn of each loop that writes, as a law of the definition that the loop computes. Assumes nothing.
use Prim.Native.Nat.{ℕ, suc, ◌+◌, ◌*◌, ◌%◌, ◌^◌, ◌≤◌, ◌<◌}
use mathlib.Core.Path.{◌≡◌, refl, sym, ap, ◌∙◌}
use mathlib.Core.List.{List, [], ◌∷◌, ◌++◌}
use native.Mathlib.Omega.{arith}
use lib.ListN.{length, get_or, set, drop, drop_of_length-le}
use lib.Seq.{sets}
use Rattle.std.specs.Int.Bits.{bit_or}
use lib.Pow.{shl_exact}
use native.Mathlib.Nat.{one-mul}
use Rattle.sets.proofs.Laws.{adding_with}
use Rattle.sets.specs.Sets.{adding}
use Rattle.book.specs.Limits.{most_pictures}
use Rattle.book.specs.Grown.{mark, symbols_of}
use Rattle.std.proofs.lemmas.List.{drop_more}

-- a byte is marked: `1 << p` is 2 ^ p, since nothing is shifted out
pub mark-more : (p : ℕ) (map s : List ℕ) (i c : ℕ) → i < length s → c ≡ get_or s i 0 → p < most_pictures → get_or map c 0 < 2 ^ most_pictures
    → mark p map (drop i s) ≡ mark p (set map c (bit_or (get_or map c 0) (1 * 2 ^ p % 65536))) (drop (i + 1) s)
unfolding mark
mark-more p map s i c h e few fits =
    let b : bit_or (get_or map c 0) (1 * 2 ^ p % 65536) ≡ adding most_pictures (get_or map c 0) p =
    ap (bit_or (get_or map c 0)) (shl_exact 1 p most_pictures (omega arith) (omega arith) ∙ one-mul (2 ^ p)) ∙ sym (adding_with most_pictures (get_or map c 0) p fits few) in
    rw (b, e, drop_more s i 0 h)

pub mark-ends : (p : ℕ) (map s : List ℕ) (i : ℕ) → length s ≤ i → mark p map (drop i s) ≡ map
unfolding mark
mark-ends p map s i h = rw (drop_of_length-le s h)

-- a pair is taken from what is left
pub pair_stored : (m : List ℕ) (from j : ℕ) (l pair rest : List ℕ) → l ≡ pair ++ rest → length pair ≡ 2 → sets m (from + j) (symbols_of l) ≡ sets (set m (from + j) (get_or pair 0 0 * 256 + get_or pair 1 0)) (from + (j + 1)) (symbols_of rest)
unfolding symbols_of
pair_stored m from j l (k ∷ b ∷ []) rest e h =
    let x : 256 * k + b ≡ k * 256 + b = omega arith in
    let y : from + (j + 1) ≡ suc (from + j) = omega arith in
    rw (e, x, y)
pair_stored m from j l (k ∷ b ∷ c ∷ r) rest e h = absurd (omega arith)
pair_stored m from j l (k ∷ []) rest e h = absurd (omega arith)
pair_stored m from j l [] rest e h = absurd (omega arith)

-- no pair is left
pub none_left : (l : List ℕ) → length l < 2 → symbols_of l ≡ []
unfolding symbols_of
none_left [] h = refl
none_left (k ∷ []) h = refl
none_left (k ∷ b ∷ l) h = absurd (omega arith)

pub ruleset marks = (mark-more, mark-ends)

pub ruleset stores = (pair_stored, none_left)
