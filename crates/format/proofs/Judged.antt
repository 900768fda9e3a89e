-- A picture and a rule, by the tests that they are judged by. Assumes nothing.
use Prim.Native.Nat.{ℕ, ◌+◌, ◌*◌, ◌%◌, ◌≤◌, ◌<◌}
use mathlib.Core.Path.{◌≡◌, sym, ◌∙◌}
use mathlib.Core.Bool.{true}
use mathlib.Core.List.{List}
use native.Mathlib.Omega.{arith}
use borrow.Author.Tests.{lt-ltb, le-ltb, le-leb, lt-leb, eq-eqb, ne_eqb}
use lib.ListN.{length}
use lib.Dec.{leb}
use Rattle.format.specs.declared.Refusal.{Refusal}
use Rattle.format.specs.declared.Refusal.TheVariants.{PictureBody, PictureMany, RuleBody, RuleLong, RuleMany}
use Rattle.std.specs.Prelude.{Ok, Err}
use Rattle.book.specs.Limits.{most_pictures, most_rules, most_symbols}
use Rattle.format.specs.Answers.{Answer, number}
use Rattle.format.specs.Format.{ascending_body, judge_picture, judge_symbols, judge_rule}
use Rattle.book.proofs.Cases.{by_test, by_lt, by_eq}
use Rattle.format.proofs.Answers.{never, number_same}

-- ---- a picture

pub picture_fine : (p at : ℕ) (m : List ℕ) → p < most_pictures → ascending_body m ≡ true → Ok tt ≡ judge_picture p at m
unfolding judge_picture
picture_fine p at m h x = rw (lt-leb most_pictures p h, x)

-- an accepted picture is one of few and ascends
pub picture-sound : (p at : ℕ) (m : List ℕ) → judge_picture p at m ≡ Ok tt → (p < most_pictures) × (ascending_body m ≡ true)
unfolding judge_picture
picture-sound p at m e =
    by_lt p most_pictures
    (λ h.
    by_test (ascending_body m)
    (λ x. (h, x))
    (λ x. never (rw (lt-leb most_pictures p h, x) at e)))
    (λ h. never (rw (le-leb most_pictures p h) at e))

-- a picture is refused with 5 or 3
pub picture-refused : (p at : ℕ) (m : List ℕ) {r : Refusal} → judge_picture p at m ≡ Err r → number r ≤ 5
unfolding judge_picture
picture-refused p at m e =
    by_test (leb most_pictures p)
    (λ x. few (PictureMany at) (rw x at e) (omega arith))
    (λ x.
    by_test (ascending_body m)
    (λ y. never (sym (rw (x, y) at e)))
    (λ y. few (PictureBody at) (rw (x, y) at e) (omega arith)))
  where
    few : {r : Refusal} (x : Refusal) → ◌≡◌ {A = Answer} (Err x) (Err r) → number x ≤ 5 → number r ≤ 5
    few x q h = rw (number_same q) at h

-- ---- a rule

module _ (n p at : ℕ) (l : List ℕ) where
  pub rule-many : most_rules ≤ n → Err (RuleMany at) ≡ judge_rule n p at l
  unfolding judge_rule
  rule-many h = rw (le-leb most_rules n h)

  module _ (h : n < most_rules) where
    pub rule-long : 2 * most_symbols < length l → Err (RuleLong at) ≡ judge_rule n p at l
    unfolding judge_rule
    rule-long k = rw (lt-leb most_rules n h, lt-ltb (2 * most_symbols) (length l) k)

    module _ (k : length l ≤ 2 * most_symbols) where
      pub rule-empty : length l ≡ 0 → Err (RuleBody at) ≡ judge_rule n p at l
      unfolding judge_rule
      rule-empty x = rw (lt-leb most_rules n h, le-ltb (2 * most_symbols) (length l) k, le-ltb 0 (length l) (omega arith))

      pub rule_odd : (length l ≡ 0 → ⊥) → length l % 2 ≡ 1 → Err (RuleBody at) ≡ judge_rule n p at l
      unfolding judge_rule
      rule_odd x y = rw (lt-leb most_rules n h, le-ltb (2 * most_symbols) (length l) k, lt-ltb 0 (length l) (omega arith), ne_eqb (length l % 2) 0 (omega arith))

      pub rule-judged : (length l ≡ 0 → ⊥) → (length l % 2 ≡ 1 → ⊥) → judge_symbols p (at + 3) l ≡ judge_rule n p at l
      unfolding judge_rule
      rule-judged x y = rw (lt-leb most_rules n h, le-ltb (2 * most_symbols) (length l) k, lt-ltb 0 (length l) (omega arith), eq-eqb (length l % 2) 0 (omega arith))

  -- an answer that is none of 8, 7 and 6 is that of the symbols
  pub rule_left : {t : Answer} → t ≡ judge_rule n p at l → (t ≡ Err (RuleMany at) → ⊥) → (t ≡ Err (RuleLong at) → ⊥) → (t ≡ Err (RuleBody at) → ⊥)
      → (n < most_rules) × (length l ≤ 2 * most_symbols) × (0 < length l) × (length l % 2 ≡ 0) × (judge_symbols p (at + 3) l ≡ t)
  rule_left u many long body =
      by_lt n most_rules
      (λ h.
      by_lt (2 * most_symbols) (length l)
      (λ k. absurd (long (u ∙ sym (rule-long h k))))
      (λ k.
      by_eq (length l) 0
      (λ x. absurd (body (u ∙ sym (rule-empty h k x))))
      (λ x.
      by_eq (length l % 2) 1
      (λ y. absurd (body (u ∙ sym (rule_odd h k x y))))
      (λ y. (h, k, omega arith, omega arith, rule-judged h k x y ∙ sym u)))))
      (λ h. absurd (many (u ∙ sym (rule-many h))))

  -- an accepted rule has room and whole symbols, each accepted
  pub rule-sound : {t : Answer} → t ≡ judge_rule n p at l → t ≡ Ok tt → (n < most_rules) × (length l ≤ 2 * most_symbols) × (0 < length l) × (length l % 2 ≡ 0) × (judge_symbols p (at + 3) l ≡ Ok tt)
  rule-sound u v = rule_left (sym v ∙ u) (λ z. never (sym z)) (λ z. never (sym z)) (λ z. never (sym z))
