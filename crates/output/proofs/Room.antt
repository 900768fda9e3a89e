-- How long a line is, and an answer that has room for all its lines. Assumes nothing.
use mathlib.Core.Bool.{true, false, cond}
use mathlib.Core.List.{List, [], ◌∷◌, ◌++◌, append-nil}
use mathlib.Core.Path.{◌≡◌, refl, sym, ap, ◌∙◌}
use Prim.Native.Nat.{ℕ, zero, suc, ◌+◌, ◌/◌, ◌%◌, ◌^◌, ◌≤◌, ◌<◌}
use native.Mathlib.Decide.{dec_lt}
use native.Mathlib.Numerals.{unary_clauses}
use native.Mathlib.Omega.{arith}
use borrow.Author.Tests.{lt-ltb, le-ltb, ne_eqb}
use lib.Dec.{ltb, eqb}
use lib.ListN.{length, take, drop, length-append, drop_of_length-le}
use lib.Seq.{sets-eq, length-sets, take_at, drop_at}
use Rattle.output.specs.Printed.{Puts, numeral, numeral_in, pair_line, rows_line, refused_line, built_line, answer_lines}
use Rattle.output.proofs.Laws.{puts_append}

-- ---- a number

numeral-length : (t k n : ℕ) → n < 10 ^ suc k → length (numeral_in t n) ≤ suc k
unfolding numeral_in
numeral-length zero k n h = omega arith
numeral-length (suc t) zero n h = rw (lt-ltb n 10 (omega arith)) (omega arith)
numeral-length (suc t) (suc k) n h =
    let high = simp unary_clauses at h in
    let rest : n / 10 < 10 ^ suc k = simp unary_clauses (omega (arith, high)) in
    let last : length (numeral_in t (n / 10) ++ ((48 + n % 10) ∷ [])) ≤ suc (suc k) = rw length-append (omega (arith, numeral-length t k (n / 10) rest)) in
    elim (dec_lt n 10) [ yes l ↦ rw (lt-ltb n 10 l) (omega arith) | no g ↦ let m : 10 ≤ n = omega arith in rw (le-ltb n 10 m) last ]

-- with at most so many digits before its last
numeral-most : (t n : ℕ) → length (numeral_in t n) ≤ suc t
unfolding numeral_in
numeral-most zero n = omega arith
numeral-most (suc t) n =
    let last : length (numeral_in t (n / 10) ++ ((48 + n % 10) ∷ [])) ≤ suc (suc t) = rw length-append (omega (arith, numeral-most t (n / 10))) in
    elim (ltb n 10) as (λ b. length (cond b ((48 + n) ∷ []) (numeral_in t (n / 10) ++ ((48 + n % 10) ∷ []))) ≤ suc (suc t)) [ true ↦ omega arith | false ↦ last ]

-- any, and one of 32 bits
pub numeral_any : (n : ℕ) → length (numeral n) ≤ 20
numeral_any n = numeral-most 19 n

pub numeral_32 : (n : ℕ) → n < 2 ^ 32 → length (numeral n) ≤ 10
numeral_32 n h = numeral-length 19 9 n (omega arith)

-- ---- a line

pub pair_length : (first second : List ℕ) (a b : ℕ) → length (pair_line first a second b) ≡ length first + length (numeral a) + length second + length (numeral b) + 1
pair_length first second a b = simp length-append refl

pub refused-length : (number value : ℕ) → length (refused_line number value) ≤ 50
refused-length number value = omega (arith, numeral_any number, numeral_any value, pair_length (114 ∷ 101 ∷ 102 ∷ 117 ∷ 115 ∷ 101 ∷ 100 ∷ 32 ∷ []) (32 ∷ []) number value)

built-length : (number value : ℕ) → length (built_line number value) ≤ 50
built-length number value =
    let rows : length (rows_line value) ≤ 50 = simp length-append (omega (arith, numeral_any value)) in
    elim (eqb number 0) as (λ b. length (cond b (rows_line value) (refused_line number value)) ≤ 50) [ true ↦ rows | false ↦ refused-length number value ]

-- ---- the whole answer

-- what is put in front where there is room for it
fitted : {bytes before after : List ℕ} {r : ℕ} → Puts bytes before 0 after r → length bytes ≤ length before → (length bytes ≡ r) × (after ≡ bytes ++ drop r before)
fitted {bytes} {before} {after} {r} p h =
    let end : 0 + length bytes ≡ r = omega (arith, p.behind) in
    let all : after ≡ bytes ++ drop (0 + length bytes) before = p.filled ∙ sets-eq bytes before 0 (omega arith) in
    (omega (arith, end), all ∙ ap (λ k. bytes ++ drop k before) end)

-- It ends within the buffer, and the rest of the buffer is as it was.
pub put_ends : {bytes before after : List ℕ} {r : ℕ} → Puts bytes before 0 after r → (r ≤ length after) × (drop r after ≡ drop r before)
put_ends {bytes} {before} {after} {r} p =
    let long : length after ≡ length before = ap length p.filled ∙ length-sets before 0 bytes in
    let rest : drop r after ≡ drop r before =
    elim (dec_lt (length before) (length bytes)) [
      | yes full ↦ drop_of_length-le after {i = r} (omega (arith, p.behind, long)) ∙ sym (drop_of_length-le before {i = r} (omega (arith, p.behind)))
      | no fits ↦ let (end, all) = fitted p (omega arith) in ap (drop r) all ∙ drop_at bytes (drop r before) r end
    ] in
    (omega (arith, p.behind, long), rest)

whole : {bytes before after : List ℕ} {r : ℕ} → Puts bytes before 0 after r → length bytes ≤ length before → take r after ≡ bytes
whole {bytes} {before} {after} {r} p h =
    let (end, all) = fitted p h in ap (take r) all ∙ take_at bytes (drop r before) r end

-- Of a build that is refused the line stands alone,
pub alone : (number value : ℕ) (more : List ℕ) → (number ≡ 0 → ⊥) → built_line number value ≡ answer_lines number value more
alone number value more refused = sym (append-nil (built_line number value)) ∙ ap (λ b. built_line number value ++ cond b more []) (sym (ne_eqb number 0 refused))

-- and the answer is whole where there is room for a line of 64 bytes and for those that come after it: of such a build,
pub whole-refused : (number value : ℕ) (more : List ℕ) {r : ℕ} {l l' : List ℕ} → 64 ≤ length l → (number ≡ 0 → ⊥) → Puts (built_line number value) l 0 l' r
    → take r l' ≡ answer_lines number value more
whole-refused number value more room refused put = whole put (omega (arith, built-length number value)) ∙ alone number value more refused

-- and of one that is accepted
pub whole-accepted : (rows : ℕ) (more : List ℕ) {at r : ℕ} {l l₁ l' : List ℕ} → 64 + length more ≤ length l → Puts (built_line 0 rows) l 0 l₁ at → Puts more l₁ at l' r
    → take r l' ≡ answer_lines 0 rows more
whole-accepted rows more room put next = whole (puts_append put next) (rw length-append (omega (arith, built-length 0 rows)))
