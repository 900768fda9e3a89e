-- What is put behind what was put, and a number's digits. Assumes nothing.
use mathlib.Core.List.{List, [], ◌∷◌, ◌++◌, append_assoc}
use mathlib.Core.Path.{◌≡◌, refl, sym, ap, ap₂, ◌∙◌}
use Prim.Native.Nat.{ℕ, zero, suc, ◌+◌, ◌-◌, ◌/◌, ◌%◌, ◌^◌, ◌≤◌, ◌<◌, min}
use native.Mathlib.Nat.{pow-suc, one-le-pow, pow-le-pow_right}
use native.Mathlib.Decide.{dec_lt}
use native.Mathlib.Numerals.{unary_clauses}
use native.Mathlib.Omega.{arith}
use borrow.Rule.Slice.PartMut.{put_mid}
use borrow.Author.Tests.{lt-ltb, le-ltb}
use lib.ListN.{length, take, drop, length-append, length-take, take-append-drop, drop_of_length-le}
use lib.Seq.{sets, length-sets, set_out, sets-eq, drop-drop}
use Rattle.sets.proofs.Members.{sets_append}
use Rattle.io.specs.Digits.{hex_digit_ascii, last_digits, IsDigitCount}
use Rattle.output.specs.declared.Answer.{Answer}
use Rattle.output.specs.Printed.{Puts, numeral, numeral_in}
use Rattle.output.specs.PutsNext.{PutsNext}

-- ---- a run of stores

-- past the end nothing is stored
pub sets_past : (vs l : List ℕ) (i : ℕ) → length l ≤ i → sets l i vs ≡ l
sets_past [] l i h = refl
sets_past (v ∷ vs) l i h = ap (λ m. sets m (suc i) vs) (set_out l i v h) ∙ sets_past vs l (suc i) (omega arith)

-- the bytes that have room are copied: m of them, over k places
put-fits : (l bytes part : List ℕ) (at k m : ℕ) → at ≤ length l → k ≡ m → m ≡ min (length bytes) (length l - at) → part ≡ take m bytes → put_mid at k l part ≡ sets l at bytes
put-fits l bytes part at k m inside same many copied =
    let long : length (take m bytes) ≡ m = length-take m bytes ∙ omega arith in
    let rest : sets (sets l at (take m bytes)) (at + length (take m bytes)) (drop m bytes) ≡ sets l at (take m bytes) =
    elim (dec_lt (length l - at) (length bytes)) [
      | yes full ↦ sets_past (drop m bytes) (sets l at (take m bytes)) _ (omega (arith, length-sets l at (take m bytes)))
      | no fits ↦ ap (sets (sets l at (take m bytes)) (at + length (take m bytes))) (drop_of_length-le bytes {i = m} (omega arith))
    ] in
    ap (λ d. take at l ++ (part ++ d)) (drop-drop k at l)
    ∙ ap (λ j. take at l ++ (part ++ drop (at + j) l)) (same ∙ sym long)
    ∙ ap (λ p. take at l ++ (p ++ drop (at + length (take m bytes)) l)) copied
    ∙ sym (append_assoc (take at l) (take m bytes) (drop (at + length (take m bytes)) l))
    ∙ sym (sets-eq (take m bytes) l at (omega arith))
    ∙ sym rest
    ∙ sym (sets_append l (take m bytes) (drop m bytes) at)
    ∙ ap (sets l at) (take-append-drop m bytes)

-- where the first place may be past the end
pub put-part : (l bytes part : List ℕ) (at start k m : ℕ) → start ≡ min at (length l) → k ≡ m → m ≡ min (length bytes) (length l - start) → part ≡ take m bytes
    → put_mid start k l part ≡ sets l at bytes
put-part l bytes part at start k m from same many copied =
    put-fits l bytes part start k m (omega arith) same many copied
    ∙ elim (dec_lt (length l) at) [
      | yes past ↦ sets_past bytes l start (omega arith) ∙ sym (sets_past bytes l at (omega arith))
      | no inside ↦ let e : start ≡ at = omega arith in ap (λ i. sets l i bytes) e
    ]

pub puts_append : {xs ys l₀ l₁ l₂ : List ℕ} {at r₁ r₂ : ℕ} → Puts xs l₀ at l₁ r₁ → Puts ys l₁ r₁ l₂ r₂ → Puts (xs ++ ys) l₀ at l₂ r₂
puts_append {xs} {ys} {l₀} {l₁} {l₂} {at} {r₁} {r₂} p q = record {
  filled = q.filled ∙ ap (λ l. sets l r₁ ys) p.filled ∙ elim (dec_lt (length l₀ - at) (length xs)) [ yes m ↦ full m | no m ↦ fits (omega arith) ];
  behind = let many = length-append xs ys in rw many (omega (arith, long, p.behind, q.behind));
}
  where
    long : length l₁ ≡ length l₀
    long = ap length p.filled ∙ length-sets l₀ at xs

    fits : length xs ≤ length l₀ - at → sets (sets l₀ at xs) r₁ ys ≡ sets l₀ at (xs ++ ys)
    fits m = let e : r₁ ≡ at + length xs = omega (arith, p.behind) in rw e (sym (sets_append l₀ xs ys at))

    full : length l₀ - at < length xs → sets (sets l₀ at xs) r₁ ys ≡ sets l₀ at (xs ++ ys)
    full m =
        let end = length-sets l₀ at xs in
        sets_past ys (sets l₀ at xs) r₁ (omega (arith, p.behind, end))
        ∙ sym (sets_append l₀ xs ys at ∙ sets_past ys (sets l₀ at xs) (at + length xs) (omega (arith, end)))

-- the same of an answer
pub adds_append : {xs ys : List ℕ} {a b c : Answer} → PutsNext xs a b → PutsNext ys b c → PutsNext (xs ++ ys) a c
adds_append p q = record { puts = puts_append p.puts q.puts; same = q.same ∙ p.same }

-- ---- a number's digits

glyph_digit : (d : ℕ) → d < 10 → hex_digit_ascii d ≡ 48 + d
glyph_digit d h = rw (lt-ltb d 10 h) refl

digits-numeral : (k t n : ℕ) → k ≤ t → IsDigitCount 10 1 n (suc k) → last_digits 10 (suc k) n ≡ numeral_in t n
unfolding numeral_in
digits-numeral zero zero n h f = ap (λ d. d ∷ []) (glyph_digit (n % 10) (omega arith))
digits-numeral zero (suc t) n h (p, q, r) = let e : n % 10 ≡ n = omega arith in rw (lt-ltb n 10 (omega arith), e) (ap (λ d. d ∷ []) (glyph_digit n (omega arith)))
digits-numeral (suc k) (suc t) n h (p, q, r) =
    let least = simp unary_clauses at (r (omega arith)) in
    let most = simp unary_clauses at q in
    let large : 10 ≤ n = omega (arith, least, one-le-pow k 10 (omega arith)) in
    let rest : IsDigitCount 10 1 (n / 10) (suc k) = (omega arith, rw (pow-suc 10 k) (omega (arith, most)), λ _. simp unary_clauses (omega (arith, least))) in
    rw (le-ltb n 10 large) (ap₂ (λ ds d. ds ++ (d ∷ [])) (digits-numeral k t (n / 10) (omega arith) rest) (glyph_digit (n % 10) (omega arith)))
digits-numeral (suc k) zero n h f = absurd (omega arith)

-- 10 ^ 20 is more than any number of 64 bits
few-digits : (k n : ℕ) → n < 2 ^ 64 → (1 < suc k → 10 ^ (suc k - 1) ≤ n) → k ≤ 19
few-digits k n h r = elim (dec_lt 19 k) [
  | yes m ↦ absurd (omega (arith, pow-le-pow_right {n = 10} (omega arith) {i = 20} {j = k} (omega arith), simp unary_clauses at (r (omega arith))))
  | no m ↦ omega arith
]

-- the digits that `io` spells, as few as hold n, are its numeral
pub spelt : (k n : ℕ) → n < 2 ^ 64 → IsDigitCount 10 1 n k → last_digits 10 k n ≡ numeral n
spelt zero n h (p, q, r) = absurd (omega arith)
spelt (suc k) n h (p, q, r) = digits-numeral k 19 n (few-digits k n h r) (p, q, r)
