-- Laws of what is added, and of the room for it. Assumes nothing.
use mathlib.Core.Bool.{Bool, true, false, cond, ◌||◌}
use mathlib.Core.List.{List, [], ◌∷◌, ◌++◌}
use mathlib.Core.Path.{◌≡◌, refl, sym, ◌∙◌}
use Prim.Native.Nat.{ℕ, zero, suc, ◌+◌, ◌*◌, ◌≤◌, ◌<◌}
use native.Mathlib.Nat.{add-zero}
use native.Mathlib.Omega.{arith}
use borrow.Author.Tests.{eqb-true, eqb-false}
use lib.Dec.{eqb}
use lib.ListN.{length, get_or, set, replicate, length-set}
use lib.Seq.{get_or-set_same, get_or-set_other}
use Rattle.sets.specs.Sets.{has, members, set_of, members_of}
use Rattle.sets.specs.Table.{row_words}
use Rattle.sets.proofs.Members.{members-le}
use Rattle.sets.proofs.Table.{members-whole}
use Rattle.book.specs.Limits.{most_rules, most_bytes}
use Rattle.lines.specs.Lines.{most_count}
use Rattle.tally.specs.Tally.{add_all}
use Rattle.sets.specs.Sets.{among}
use Rattle.tally.specs.Passes.{Room}
use Rattle.sets.proofs.Among.{Apart, among-members, apart-members}
use Rattle.sets.proofs.Zeros.{zero_at}

pub add_append : (count : ℕ) (js ks sums : List ℕ) → add_all count (js ++ ks) sums ≡ add_all count ks (add_all count js sums)
unfolding add_all
add_append count [] ks sums = refl
add_append count (j ∷ js) ks sums = add_append count js ks (set sums j (get_or sums j 0 + count))

pub length_add : (count : ℕ) (ks sums : List ℕ) → length (add_all count ks sums) ≡ length sums
unfolding add_all
length_add count [] sums = refl
length_add count (k ∷ ks) sums = length_add count ks (set sums k (get_or sums k 0 + count)) ∙ simp length-set

-- ---- a sum

-- where no rule comes twice, k gets the count once, if it is among them
add_once : (count k : ℕ) (ks sums : List ℕ) → Apart ks → k < length sums → get_or (add_all count ks sums) k 0 ≡ get_or sums k 0 + cond (among k ks) count 0
unfolding add_all among
add_once count k [] sums d h = rw add-zero
add_once count k (j ∷ ks) sums (d, ds) h = add_once count k ks (set sums j (get_or sums j 0 + count)) ds (simp length-set h) ∙ go (eqb j k) refl
  where
    go : (t : Bool) → eqb j k ≡ t
        → get_or (set sums j (get_or sums j 0 + count)) k 0 + cond (among k ks) count 0 ≡ get_or sums k 0 + cond (t || among k ks) count 0
    go true e =
        let q = eqb-true j k e in
        rw (q, rw q at d, get_or-set_same sums k (get_or sums k 0 + count) 0 h, add-zero)
    go false e = rw (get_or-set_other sums j k (get_or sums j 0 + count) 0 (λ q. eqb-false j k e (sym q)))

pub add_members : (count n s k : ℕ) (sums : List ℕ) → k < n → k < length sums → get_or (add_all count (members n s) sums) k 0 ≡ get_or sums k 0 + cond (has s k) count 0
add_members count n s k sums h l = rw (add_once count k (members n s) sums (apart-members n s) l, among-members k n s h)

-- ---- room

set-le : (count : ℕ) (sums : List ℕ) (j k : ℕ) → get_or (set sums j (get_or sums j 0 + count)) k 0 ≤ get_or sums k 0 + count
set-le count [] j k = omega arith
set-le count (s ∷ sums) zero zero = omega arith
set-le count (s ∷ sums) zero (suc k) = omega arith
set-le count (s ∷ sums) (suc j) zero = omega arith
set-le count (s ∷ sums) (suc j) (suc k) = set-le count sums j k

add_le : (count : ℕ) → count ≤ most_count → (ks sums : List ℕ) (k : ℕ) → get_or (add_all count ks sums) k 0 ≤ get_or sums k 0 + most_count * length ks
unfolding add_all
add_le count h [] sums k = omega arith
add_le count h (j ∷ ks) sums k = omega (arith, add_le count h ks (set sums j (get_or sums j 0 + count)) k, set-le count sums j k)

pub room_less : {a b : ℕ} {sums : List ℕ} → b ≤ a → Room a sums → Room b sums
room_less h r = record { fits = λ k. omega (arith, r.fits k) }

pub room_add : (count a b : ℕ) (ks sums : List ℕ) → count ≤ most_count → length ks + b ≤ a → Room a sums → Room b (add_all count ks sums)
room_add count a b ks sums h l r = record { fits = λ k. omega (arith, r.fits k, add_le count h ks sums k) }

-- at first there is room for the count of every rule, for each byte of the longest profile
pub room_zeros : (a : ℕ) → a ≤ most_rules * most_bytes → Room a (replicate most_rules 0)
room_zeros a h = record { fits = λ k. omega (arith, zero_at most_rules k) }

-- the members of as many words as a row has are at most all rules
pub few : (ws : List ℕ) → length ws ≡ row_words → length (members_of ws) ≤ most_rules
few ws e = rw (members-whole ws e) (members-le most_rules (set_of ws))
