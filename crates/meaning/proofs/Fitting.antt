-- A byte and a symbol; and `stands`, byte by byte: the last j bytes are there, the first j symbols are there, and each byte fits its symbol.
-- Assumes nothing.
use mathlib.Core.Path.{◌≡◌, refl}
use mathlib.Core.Bool.{true, ◌&&◌, and-eq-true_iff, false≢true}
use mathlib.Core.List.{List, [], ◌∷◌}
use Prim.Native.Nat.{ℕ, zero, suc, ◌+◌, ◌-◌, zero-le}
use native.Mathlib.Omega.{arith}
use native.Mathlib.Decide.{dec_lt}
use lib.Dec.{ltb}
use borrow.Author.Tests.{ltb-true, lt-ltb, le-ltb, eqb-true, eq-eqb}
use Rattle.meaning.specs.Rules.{Rules, size, symbol, fits, FitsSymbols, fits_at, stands, Fits, StandsIff}

pub fits_symbols : FitsSymbols
unfolding fits
fits_symbols r c = record {
  byte = λ b l. rw (lt-ltb b 256 l) (eqb-true c b, eq-eqb c b);
  picture = λ p. let q : 256 + p - 256 ≡ p = omega arith in rw (le-ltb (256 + p) 256 (omega arith), q);
}

stands-fits : (r : Rules) (t : List ℕ) (k j : ℕ) → stands r t k j ≡ true → Fits r t k j
unfolding stands fits_at
stands-fits r t k zero x = record { bytes = zero-le; symbols = zero-le; each = λ i l. absurd (omega arith) }
stands-fits r [] k (suc j) x = absurd (false≢true x)
stands-fits r (c ∷ t) k (suc j) x =
    let (a, b) = (and-eq-true_iff (ltb j (size r k) && fits r c (symbol r k j)) (stands r t k j)).0 x in
    let (d, e) = (and-eq-true_iff (ltb j (size r k)) (fits r c (symbol r k j))).0 a in
    let ih = stands-fits r t k j b in
    record {
      bytes = omega (arith, ih.bytes);
      symbols = ltb-true j (size r k) d;
      each = λ i l. elim (dec_lt i j) [
        | yes h ↦ let q : suc j - suc i ≡ suc (j - suc i) = omega arith in rw q (ih.each i h)
        | no g ↦ let q : suc j - suc i ≡ 0 = omega arith in let z : i ≡ j = omega arith in rw (q, z) e
      ];
    }

fits-stands : (r : Rules) (t : List ℕ) (k j : ℕ) → Fits r t k j → stands r t k j ≡ true
unfolding stands fits_at
fits-stands r t k zero x = refl
fits-stands r [] k (suc j) x = absurd (omega (arith, x.bytes))
fits-stands r (c ∷ t) k (suc j) x =
    let q : suc j - suc j ≡ 0 = omega arith in
    let e : fits r c (symbol r k j) ≡ true = rw q at (x.each j (omega arith)) in
    let b : stands r t k j ≡ true = fits-stands r t k j (record {
      bytes = omega (arith, x.bytes);
      symbols = omega (arith, x.symbols);
      each = λ i l. let p : suc j - suc i ≡ suc (j - suc i) = omega arith in rw p at (x.each i (omega arith));
    }) in
    rw (lt-ltb j (size r k) x.symbols, e, b)

pub stands_iff : StandsIff
stands_iff r t k j = (stands-fits r t k j, fits-stands r t k j)
