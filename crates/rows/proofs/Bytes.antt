-- Texts of bytes: one byte more, a part, and a test that computes. Assumes nothing.
use mathlib.Core.Bool.{Bool, true, ◌&&◌, and-eq-true_iff}
use mathlib.Core.List.{List, [], ◌∷◌}
use mathlib.Core.Path.{◌≡◌}
use Prim.Native.Nat.{ℕ, zero, suc, ◌<◌}
use native.Mathlib.Omega.{arith}
use borrow.Author.Tests.{ltb-true}
use lib.Dec.{ltb}
use lib.ListN.{take}
use Rattle.rows.specs.Rows.{ByteText}

pub no_byte : ByteText []
no_byte i = omega arith

pub byte_cons : (c : ℕ) (t : List ℕ) → c < 256 → ByteText t → ByteText (c ∷ t)
byte_cons c t l b zero = l
byte_cons c t l b (suc i) = b i

pub bytes_take : (m : ℕ) (t : List ℕ) → ByteText t → ByteText (take m t)
bytes_take zero t b = no_byte
bytes_take (suc m) [] b = no_byte
bytes_take (suc m) (c ∷ t) b = byte_cons c (take m t) (b 0) (bytes_take m t (λ i. b (suc i)))

-- whether all are bytes
unfoldable pub is_bytes : List ℕ → Bool
is_bytes [] = true
is_bytes (c ∷ t) = ltb c 256 && is_bytes t

pub bytes_of : (t : List ℕ) → is_bytes t ≡ true → ByteText t
unfolding is_bytes
bytes_of [] x = no_byte
bytes_of (c ∷ t) x =
    let (here, rest) = (and-eq-true_iff (ltb c 256) (is_bytes t)).0 x in
    byte_cons c t (ltb-true c 256 here) (bytes_of t rest)
