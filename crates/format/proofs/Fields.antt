-- Where a field ends, and a turn of the loop over the fields. Assumes nothing.
use Prim.Native.Nat.{ℕ, zero, suc, ◌+◌, ◌-◌, ◌≤◌, ◌<◌}
use mathlib.Core.Path.{◌≡◌, refl, sym, ap, subst, ◌∙◌}
use mathlib.Core.List.{List}
use native.Mathlib.Omega.{arith}
use borrow.Author.Tests.{lt-ltb, le-ltb}
use lib.ListN.{length, get_or, drop, length-take, length-drop}
use lib.Seq.{get_or-take, get_or-drop}
use Rattle.format.specs.declared.Field.{Field}
use Rattle.format.specs.declared.Field.TheVariants.{Picture, Rule}
use Rattle.format.specs.declared.Refusal.{Refusal}
use Rattle.format.specs.Answers.{Answer}
use Rattle.format.specs.declared.Refusal.TheVariants.{Cut, OtherTag}
use Rattle.std.specs.Prelude.{Result, Ok, Err}
use Rattle.book.specs.Content.{Content}
use Rattle.format.specs.Format.{size_at, head_at, BodyWithin, Outcome, goes, stops, outcome, picture_field, rule_field, part, field_of, field_at, refused, follow, ended, fields}
use Rattle.book.proofs.Cases.{by_lt, by_eq}
use Rattle.format.proofs.Turns.{head_short, head_cut, head_picture, head_rule, head_unknown}

-- ---- where a field ends

-- a part of the bytes
module _ (s : List ℕ) (b e : ℕ) where
  pub part-long : b ≤ e → e ≤ length s → b + length (part s b e) ≡ e
  part-long k l = simp (length-take, length-drop) (omega arith)

  pub part_at : (i : ℕ) → i < e - b → get_or (part s b e) i 0 ≡ get_or s (b + i) 0
  part_at i h = get_or-take (e - b) (drop b s) i 0 h ∙ get_or-drop b s i 0

-- a header, with what it says of the bytes
pub data HeadIs (s : List ℕ) (at : ℕ) : Result Field Refusal → Type 0 where
  short : HeadIs s at (Err (Cut at))
  unknown : HeadIs s at (Err (OtherTag at))
  picture : at + 3 + size_at s at ≤ length s → HeadIs s at (Ok (Picture (at + 3) (at + 3 + size_at s at)))
  rule : at + 3 + size_at s at ≤ length s → get_or s at 0 ≡ 0x52 → HeadIs s at (Ok (Rule (at + 3) (at + 3 + size_at s at)))

pub head_is : (s : List ℕ) (at : ℕ) → HeadIs s at (head_at s at)
head_is s at =
    by_lt (length s) (at + 3)
    (λ h. subst (HeadIs s at) (head_short s at h) short)
    (λ h.
    by_lt (length s) (at + 3 + size_at s at)
    (λ k. subst (HeadIs s at) (head_cut s at h k) short)
    (λ k.
    by_eq (get_or s at 0) 0x50
    (λ x. subst (HeadIs s at) (head_picture s at h k x) (picture k))
    (λ x.
    by_eq (get_or s at 0) 0x52
    (λ y. subst (HeadIs s at) (head_rule s at h k x y) (rule k y))
    (λ y. subst (HeadIs s at) (head_unknown s at h k x y) unknown))))

pub within : (s : List ℕ) (at : ℕ) → BodyWithin (length s) at (head_at s at)
within s at = go (head_is s at)
  where
    go : {h : Result Field Refusal} → HeadIs s at h → BodyWithin (length s) at h
    go short = tt
    go unknown = tt
    go (picture k) = (refl, omega arith, k)
    go (rule k t) = (refl, omega arith, k)

-- what was found to be the head of the field
module _ (s : List ℕ) (at : ℕ) (x : Result Field Refusal) {h : Result Field Refusal} (p : h ≡ head_at s at) (q : h ≡ x) where
  pub field_headed : (a : Content) → field_at s at a ≡ field_of s at a x
  unfolding field_at
  field_headed a = ap (field_of s at a) (sym p ∙ q)

-- ---- the loop over the fields

-- a field that is taken ends further on, in the book
abbrev pub Ahead : ℕ → ℕ → Outcome → Type 0
Ahead n at (goes e a) = (at < e) × (e ≤ n)
Ahead n at (stops r) = Unit

ahead-judged : (n at : ℕ) (t : Answer) (e : ℕ) (a : Content) → (at < e) × (e ≤ n) → Ahead n at (outcome t e a)
unfolding outcome
ahead-judged n at (Ok tt) e a h = h
ahead-judged n at (Err r) e a h = tt

ahead_of : (s : List ℕ) (at : ℕ) (a : Content) (h : Result Field Refusal) → BodyWithin (length s) at h → Ahead (length s) at (field_of s at a h)
unfolding field_of picture_field rule_field
ahead_of s at a (Err r) w = tt
ahead_of s at a (Ok (Picture b e)) w = ahead-judged (length s) at _ e _ (omega arith)
ahead_of s at a (Ok (Rule b e)) w = ahead-judged (length s) at _ e _ (omega arith)

pub ahead : (s : List ℕ) (at : ℕ) (a : Content) → Ahead (length s) at (field_at s at a)
unfolding field_at
ahead s at a = ahead_of s at a (head_at s at) (within s at)

module _ (n : ℕ) (s : List ℕ) (at : ℕ) (a : Content) where
  pub fields-goes : (e : ℕ) (b : Content) → at < length s → field_at s at a ≡ goes e b → fields (suc n) s at a ≡ fields n s e b
  unfolding fields follow
  fields-goes e b h k = rw (lt-ltb at (length s) h, k)

  pub fields-stops : (r : Refusal) → at < length s → field_at s at a ≡ stops r → fields (suc n) s at a ≡ refused r
  unfolding fields follow
  fields-stops r h k = rw (lt-ltb at (length s) h, k)

pub fields-none : (s : List ℕ) (at : ℕ) (a : Content) → fields zero s at a ≡ ended (length s) a
unfolding fields
fields-none s at a = refl

pub fields-ends : (n : ℕ) (s : List ℕ) (at : ℕ) (a : Content) → length s ≤ at → fields n s at a ≡ ended (length s) a
unfolding fields
fields-ends zero s at a h = fields-none s at a
fields-ends (suc n) s at a h = rw (le-ltb at (length s) h)
