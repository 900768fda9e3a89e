-- What each accepted field keeps is so at the end of an accepted book. Assumes nothing.
use Prim.Native.Nat.{ℕ, ◌+◌, ◌-◌, ◌<◌}
use mathlib.Core.Path.{◌≡◌, refl, subst}
use mathlib.Core.List.{List}
use native.Mathlib.Omega.{arith}
use borrow.Author.Tests.{eqb-false}
use lib.ListN.{length, length-take, get_or-eq_default}
use lib.Dec.{eqb}
use Rattle.std.specs.Prelude.{Result, Ok, Err}
use Rattle.format.specs.declared.Refusal.{Refusal}
use Rattle.format.specs.Answers.{Answer}
use Rattle.format.specs.declared.Field.{Field}
use Rattle.book.specs.Content.{Content, nothing, with_picture, with_rule}
use Rattle.book.specs.Grown.{symbols_of}
use Rattle.format.specs.Format.{size_at, judge_picture, judge_rule, Outcome, goes, stops, outcome, picture_field, rule_field, part, field_of, field_at, Meaning, means, refused, ended, meaning_of}
use Rattle.rows.specs.Rows.{ByteText}
use Rattle.format.specs.Which.{ReadUpTo, start, next}
use Rattle.book.proofs.Cases.{by_test, by_lt}
use Rattle.format.proofs.Fields.{part_at, part-long, HeadIs, short, unknown, picture, rule, head_is}
use Rattle.format.proofs.Rests.{Ending, ends, halts, ending}

part_bytes : (s : List ℕ) → ByteText s → (b e : ℕ) → ByteText (part s b e)
part_bytes s small b e i =
    by_lt i (e - b)
    (λ h. rw (part_at s b e i h) (small (b + i)))
    (λ h. rw (get_or-eq_default (part s b e) 0 {n = i} (rw length-take (omega arith))) (omega arith))

-- P holds of a place and of what stands before it
module _ (P : ℕ → Content → Type 0)
    (by_picture : (at : ℕ) (a : Content) (m : List ℕ) → ByteText m → P at a → judge_picture (length a.pictures) at m ≡ Ok tt → P (at + 3 + length m) (with_picture a m))
    (by_rule : (at : ℕ) (a : Content) (l : List ℕ) → ByteText l → P at a → judge_rule (length a.rules) (length a.pictures) at l ≡ Ok tt → P (at + 3 + length l) (with_rule a (symbols_of l)))
    (s : List ℕ) (small : ByteText s) where
  abbrev After : Outcome → Type 0
  After (goes e a) = P e a
  After (stops r) = Unit

  after_judged : (t : Answer) (e : ℕ) (a : Content) → (t ≡ Ok tt → P e a) → After (outcome t e a)
  unfolding outcome
  after_judged (Ok tt) e a h = h refl
  after_judged (Err r) e a h = tt

  after_head : (at : ℕ) (a : Content) → P at a → {h : Result Field Refusal} → HeadIs s at h → After (field_of s at a h)
  unfolding field_of picture_field rule_field
  after_head at a p short = tt
  after_head at a p unknown = tt
  after_head at a p (picture k) =
      let m = part s (at + 3) (at + 3 + size_at s at) in
      after_judged (judge_picture (length a.pictures) at m) (at + 3 + size_at s at) (with_picture a m)
      (λ x. subst (λ n. P n (with_picture a m)) (part-long s (at + 3) (at + 3 + size_at s at) (omega arith) k) (by_picture at a m (part_bytes s small (at + 3) (at + 3 + size_at s at)) p x))
  after_head at a p (rule k t) =
      let l = part s (at + 3) (at + 3 + size_at s at) in
      after_judged (judge_rule (length a.rules) (length a.pictures) at l) (at + 3 + size_at s at) (with_rule a (symbols_of l))
      (λ x. subst (λ n. P n (with_rule a (symbols_of l))) (part-long s (at + 3) (at + 3 + size_at s at) (omega arith) k) (by_rule at a l (part_bytes s small (at + 3) (at + 3 + size_at s at)) p x))

  after_field : (at : ℕ) (a : Content) → P at a → After (field_at s at a)
  unfolding field_at
  after_field at a p = after_head at a p (head_is s at)

  before_kept : {at : ℕ} {a : Content} → P 0 nothing → ReadUpTo s at a → P at a
  before_kept p start = p
  before_kept p (next {at} {e} {a} x h k) = subst After k (after_field at a (before_kept p x))

  -- what holds at the end of a book that holds b
  abbrev Kept : Content → Type 0
  Kept b = P (length s) b × (0 < length b.rules)

  at-end : (a b : Content) → P (length s) a → ended (length s) a ≡ means b → Kept b
  unfolding ended
  at-end a b p e =
      by_test (eqb (length a.rules) 0)
      (λ t. let w : refused _ ≡ means b = rw t at e in absurd (cc))
      (λ t.
      let w : means a ≡ means b = rw t at e in
      let q : a ≡ b = cc in
      let n = eqb-false (length a.rules) 0 t in
      subst Kept q (p, omega arith))

  pub kept : P 0 nothing → (b : Content) → meaning_of s ≡ means b → Kept b
  kept p b e = go (ending s) e
    where
      go : {m : Meaning} → Ending s m → m ≡ means b → Kept b
      go (ends {a} x) q = at-end a b (before_kept p x) q
      go (halts x h k) q = absurd (cc)
