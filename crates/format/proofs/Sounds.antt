-- The content of an accepted book is sound, and a rule names only pictures that stand earlier. Assumes nothing.
use Prim.Native.Nat.{ℕ, zero, suc, ◌+◌, ◌*◌, ◌≤◌, ◌<◌}
use mathlib.Core.Path.{◌≡◌, refl}
use mathlib.Core.Logic.{inl, inr}
use mathlib.Core.Bool.{true}
use mathlib.Core.List.{List, [], ◌∷◌}
use native.Mathlib.Omega.{arith}
use lib.ListN.{length, get_or}
use Rattle.std.specs.Prelude.{Ok, Err}
use Rattle.format.specs.Answers.{Answer}
use Rattle.book.specs.Limits.{most_pictures, most_symbols}
use Rattle.book.specs.Content.{Content, nothing, with_picture, with_rule, member}
use Rattle.book.specs.Grown.{symbols_of}
use Rattle.format.specs.Format.{ascending_body, judge_symbol, first_of, judge_symbols, judge_rule, goes, outcome, rule_field}
use Rattle.rows.specs.Rows.{ByteText}
use Rattle.book.specs.Sound.{Sound}
use Rattle.format.specs.Lawful.{NamedEarlier}
use Rattle.format.specs.Which.{IsSymbol}
use Rattle.book.proofs.Cases.{clash}
use Rattle.format.proofs.Answers.{never}
use Rattle.format.proofs.Symbols.{is_symbol}
use Rattle.book.proofs.Tables.{length-snoc, at_snoc}
use Rattle.book.proofs.Records.{length_symbols}
use Rattle.format.proofs.Judged.{rule-sound}
use Rattle.format.proofs.Members.{member_byte, rises_at, ascending_at, few-rising}

pub sound-nothing : Sound nothing
unfolding member
sound-nothing = record {
  few_pictures = omega arith;
  few_rules = omega arith;
  not_empty = λ k h. omega arith;
  short = λ k. omega arith;
  symbols = λ k j. omega arith;
  filled = λ p h. omega arith;
  up_to = λ p. omega arith;
  rising = λ p i h. omega arith;
  bytes = λ p c h. clash h refl;
}

-- ---- a picture more

module _ (a : Content) (S : Sound a) (m : List ℕ) (small : ByteText m)
    (h : length a.pictures < most_pictures) (up : ascending_body m ≡ true) where
  pub sound-picture : Sound (with_picture a m)
  sound-picture = record {
    few_pictures = rw length-snoc (omega arith);
    few_rules = S.few_rules;
    not_empty = S.not_empty;
    short = S.short;
    symbols = λ i j. rw length-snoc (omega (arith, S.symbols i j));
    filled = λ p u. at_snoc a.pictures m (λ l. 0 < length l) p (λ e. (ascending_at m up).0) (λ n. S.filled p (let v = rw length-snoc at u in omega arith));
    up_to = λ p. at_snoc a.pictures m (λ l. length l ≤ 256) p (λ e. few-rising m small (ascending_at m up).1) (λ n. S.up_to p);
    rising = λ p i. at_snoc a.pictures m (λ l. suc i < length l → get_or l i 0 < get_or l (suc i) 0) p (λ e. rises_at m (ascending_at m up).1 i) (λ n. S.rising p i);
    bytes = λ p c. at_snoc a.pictures m (λ l. member c l ≡ true → c < 256) p (λ e. member_byte m small c) (λ n. S.bytes p c);
  }

-- ---- a rule more

symbol-below : {p k b : ℕ} → b < 256 → IsSymbol p k b → 256 * k + b < 256 + p
symbol-below h (inl e) = omega arith
symbol-below h (inr (e, l)) = omega arith

-- of two answers of which none is a refusal
both : (x y : Answer) → first_of x y ≡ Ok tt → (x ≡ Ok tt) × (y ≡ Ok tt)
unfolding first_of
both (Ok tt) y e = (refl, e)
both (Err r) y e = never e

judge_below : (p i : ℕ) (l : List ℕ) → ByteText l → judge_symbols p i l ≡ Ok tt → (j : ℕ) → get_or (symbols_of l) j 0 < 256 + p
unfolding judge_symbols symbols_of
judge_below p i [] h e j = omega arith
judge_below p i (k ∷ []) h e j = omega arith
judge_below p i (k ∷ b ∷ l) h e zero = symbol-below (h 1) (is_symbol p i k b (both (judge_symbol p i k b) (judge_symbols p (i + 2) l) e).0)
judge_below p i (k ∷ b ∷ l) h e (suc j) = judge_below p (i + 2) l (λ x. h (suc (suc x))) (both (judge_symbol p i k b) (judge_symbols p (i + 2) l) e).1 j

pub sound-rule : (a : Content) → Sound a → (at : ℕ) (l : List ℕ) → ByteText l
    → judge_rule (length a.rules) (length a.pictures) at l ≡ Ok tt → Sound (with_rule a (symbols_of l))
sound-rule a S at l small e =
    let h = rule-sound (length a.rules) (length a.pictures) at l refl e in
    let n = length_symbols l in
    record {
      few_pictures = S.few_pictures;
      few_rules = rw length-snoc (omega arith);
      not_empty = λ k u. at_snoc a.rules (symbols_of l) (λ x. 0 < length x) k (λ q. omega arith) (λ q. S.not_empty k (let v = rw length-snoc at u in omega arith));
      short = λ k. at_snoc a.rules (symbols_of l) (λ x. length x ≤ most_symbols) k (λ q. omega arith) (λ q. S.short k);
      symbols = λ k j. at_snoc a.rules (symbols_of l) (λ x. get_or x j 0 < 256 + length a.pictures) k (λ q. judge_below (length a.pictures) (at + 3) l small h.4 j) (λ q. S.symbols k j);
      filled = S.filled;
      up_to = S.up_to;
      rising = S.rising;
      bytes = S.bytes;
    }

-- a picture named by a rule stands earlier
pub named_earlier : NamedEarlier
unfolding rule_field outcome
named_earlier at e e' a b l small q =
    go (judge_rule (length a.rules) (length a.pictures) at l) refl q
  where
    go : (t : Answer) → judge_rule (length a.rules) (length a.pictures) at l ≡ t → outcome t e (with_rule a (symbols_of l)) ≡ goes e' b → (j : ℕ) → get_or (symbols_of l) j 0 < 256 + length a.pictures
    go (Ok tt) u v = judge_below (length a.pictures) (at + 3) l small (rule-sound (length a.rules) (length a.pictures) at l refl u).4
    go (Err r) u v = absurd (cc)
