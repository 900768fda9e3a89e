-- The members of a picture, and how many they are at most. Assumes nothing.
use Prim.Native.Nat.{ℕ, zero, suc, ◌+◌, ◌≤◌, ◌<◌}
use mathlib.Core.Path.{◌≡◌, refl, sym}
use mathlib.Core.Bool.{Bool, true, false}
use native.Mathlib.Numerals.{add-one}
use Rattle.std.specs.List.{IsAllAdjacentAnswer}
use mathlib.Core.List.{List, [], ◌∷◌}
use native.Mathlib.Omega.{arith}
use borrow.Author.Tests.{eqb-true, le-ltb, lt-ltb}
use lib.ListN.{length, get_or}
use lib.Dec.{eqb, ltb}
use Rattle.book.specs.Content.{member}
use Rattle.format.specs.Format.{rises, ascending_body}
use Rattle.rows.specs.Rows.{ByteText}
use Rattle.book.proofs.Cases.{by_test, by_lt, clash}

-- a member is a byte
pub member_byte : (m : List ℕ) → ByteText m → (c : ℕ) → member c m ≡ true → c < 256
unfolding member
member_byte [] h c k = clash k refl
member_byte (x ∷ m) h c k =
    by_test (eqb c x)
    (λ e. rw (eqb-true c x e) (h 0))
    (λ e. member_byte m (λ i. h (suc i)) c (rw e at k))

-- each byte of an ascending body is below the next
pub rises_at : (m : List ℕ) → rises m ≡ true → (i : ℕ) → suc i < length m → get_or m i 0 < get_or m (suc i) 0
unfolding rises
rises_at [] e i h = absurd (omega arith)
rises_at (c ∷ []) e i h = absurd (omega arith)
rises_at (c ∷ d ∷ m) e zero h = by_lt c d (λ l. l) (λ l. clash e (rw (le-ltb c d l)))
rises_at (c ∷ d ∷ m) e (suc i) h =
    by_test (ltb c d)
    (λ t. rises_at (d ∷ m) (rw t at e) i (omega arith))
    (λ t. clash e (rw t))

-- the test of neighbours says whether they rise
rise_all : (m : List ℕ) → ((k d : ℕ) → suc k < length m → true ≡ ltb (get_or m k d) (get_or m (suc k) d)) → rises m ≡ true
unfolding rises
rise_all [] f = refl
rise_all (c ∷ []) f = refl
rise_all (c ∷ d ∷ m) f = rw (sym (f 0 0 (omega arith))) (rise_all (d ∷ m) (λ k e h. f (suc k) e (omega arith)))

pub rises-test : (m : List ℕ) (r : Bool) → IsAllAdjacentAnswer (λ x y b. b ≡ ltb x y) m r → r ≡ rises m
rises-test m true f = sym (rise_all m (λ k d h. rw add-one at (f k d (omega arith))))
rises-test m false (k, h, f) =
    by_test (rises m)
    (λ t.
    let l : get_or m k 0 < get_or m (k + 1) 0 = rw add-one (rises_at m t k (omega arith)) in
    clash (lt-ltb (get_or m k 0) (get_or m (k + 1) 0) l) (sym (f 0)))
    sym

-- an accepted body has a byte
pub ascending_at : (m : List ℕ) → ascending_body m ≡ true → (0 < length m) × (rises m ≡ true)
unfolding ascending_body
ascending_at m e =
    by_lt 0 (length m)
    (λ h. (h, rw (lt-ltb 0 (length m) h) at e))
    (λ h. clash e (rw (le-ltb 0 (length m) h)))

-- the byte at i is no less than i
rises_from : (m : List ℕ) → rises m ≡ true → (i : ℕ) → i < length m → i ≤ get_or m i 0
rises_from m e zero h = omega arith
rises_from m e (suc i) h = omega (arith, rises_from m e i (omega arith), rises_at m e i h)

-- so there are at most 256 of them
pub few-rising : (m : List ℕ) → ByteText m → rises m ≡ true → length m ≤ 256
few-rising m small e = by_lt 256 (length m) (λ h. absurd (omega (arith, rises_from m e 256 h, small 256))) (λ h. h)
