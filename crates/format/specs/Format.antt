-- What the bytes of a rule book mean: field by field, each judged in the order of the paper. Assumes nothing.
use Rattle.std.specs.Prelude.{ℕ, zero, suc, ◌+◌, ◌-◌, ◌*◌, ◌%◌, ◌≤◌, ◌≡◌, Bool, true, ◌&&◌, cond, List, [], ◌∷◌, length, get_or, take, drop, eqb, leb, ltb}
use Rattle.format.specs.declared.Field.{Field}
use Rattle.format.specs.declared.Refusal.{Refusal}
use Rattle.format.specs.Answers.{Answer}
use Rattle.format.specs.declared.Field.TheVariants.{Picture, Rule}
use Rattle.std.specs.Prelude.{Result, Ok, Err}
use Rattle.format.specs.declared.Refusal.TheVariants.{Cut, OtherTag, PictureBody, PictureMany, RuleBody, RuleLong, RuleMany, NoRule, UnknownKind, UndefinedPicture}
use Rattle.book.specs.Limits.{most_pictures, most_rules, most_symbols}
use Rattle.book.specs.Content.{Content, nothing, with_picture, with_rule}
use Rattle.book.specs.Grown.{symbols_of}

-- ---- a field's header

-- the length that a header gives: two bytes, the high one first
abbrev pub size_at : List ℕ → ℕ → ℕ
size_at s at = 256 * get_or s (at + 1) 0 + get_or s (at + 2) 0

-- the header of the field at a place: its kind with the start and the end of its body; 1 where it or its body runs past the end, 2 by its tag
unfoldable pub head_at : List ℕ → ℕ → Result Field Refusal
head_at s at =
    cond (ltb (length s) (at + 3)) (Err (Cut at))
    (cond (ltb (length s) (at + 3 + size_at s at)) (Err (Cut at))
    (cond (eqb (get_or s at 0) 0x50) (Ok (Picture (at + 3) (at + 3 + size_at s at)))
    (cond (eqb (get_or s at 0) 0x52) (Ok (Rule (at + 3) (at + 3 + size_at s at))) (Err (OtherTag at)))))

-- the body of a field at a place starts after the header, and ends within a book of n bytes
abbrev pub BodyWithin : ℕ → ℕ → Result Field Refusal → Type 0
BodyWithin n at (Err r) = Unit {0}
BodyWithin n at (Ok (Picture b e)) = (b ≡ at + 3) × (b ≤ e) × (e ≤ n)
BodyWithin n at (Ok (Rule b e)) = (b ≡ at + 3) × (b ≤ e) × (e ≤ n)

-- ---- a picture's body

-- each byte is below the next
unfoldable pub rises : List ℕ → Bool
rises [] = true
rises (c ∷ []) = true
rises (c ∷ d ∷ m) = ltb c d && rises (d ∷ m)

-- not empty and strictly ascending
unfoldable pub ascending_body : List ℕ → Bool
ascending_body m = ltb 0 (length m) && rises m

-- the picture at a place, with the body m, after p pictures: 5, 3
unfoldable pub judge_picture : ℕ → ℕ → List ℕ → Answer
judge_picture p at m =
    cond (leb most_pictures p) (Err (PictureMany at))
    (cond (ascending_body m) (Ok tt) (Err (PictureBody at)))

-- ---- a rule's body

-- the pair `k b` at i, after p pictures: a byte, a picture that stands earlier, or 17 or 18 with the place of its first byte
unfoldable pub judge_symbol : ℕ → ℕ → ℕ → ℕ → Answer
judge_symbol p i k b =
    cond (eqb k 0) (Ok tt)
    (cond (eqb k 1) (cond (ltb b p) (Ok tt) (Err (UndefinedPicture i))) (Err (UnknownKind i)))

-- the first refusal of two answers
unfoldable pub first_of : Answer → Answer → Answer
first_of (Ok u) y = y
first_of (Err r) y = Err r

-- the pairs of a body, where the first stands at i: the first at fault counts
unfoldable pub judge_symbols : ℕ → ℕ → List ℕ → Answer
judge_symbols p i [] = Ok tt
judge_symbols p i (k ∷ []) = Ok tt
judge_symbols p i (k ∷ b ∷ l) = first_of (judge_symbol p i k b) (judge_symbols p (i + 2) l)

-- the rule at a place, with the body l, after n rules and p pictures: 8, 7, 6, then its symbols
unfoldable pub judge_rule : ℕ → ℕ → ℕ → List ℕ → Answer
judge_rule n p at l =
    cond (leb most_rules n) (Err (RuleMany at))
    (cond (ltb (2 * most_symbols) (length l)) (Err (RuleLong at))
    (cond (ltb 0 (length l) && eqb (length l % 2) 0) (judge_symbols p (at + 3) l) (Err (RuleBody at))))

-- ---- a field

-- what a field leads to: the place after it and what the book then holds, or a refusal
pub data Outcome : Type 0 where
  goes : ℕ → Content → Outcome
  stops : Refusal → Outcome

-- an accepted field leads to e and a
unfoldable pub outcome : Answer → ℕ → Content → Outcome
outcome (Ok u) e a = goes e a
outcome (Err r) e a = stops r

-- a picture with the body m, which ends before e
unfoldable pub picture_field : ℕ → ℕ → Content → List ℕ → Outcome
picture_field at e a m = outcome (judge_picture (length a.pictures) at m) e (with_picture a m)

-- a rule with the body l, which ends before e
unfoldable pub rule_field : ℕ → ℕ → Content → List ℕ → Outcome
rule_field at e a l = outcome (judge_rule (length a.rules) (length a.pictures) at l) e (with_rule a (symbols_of l))

-- the bytes from b on, before e
abbrev pub part : List ℕ → ℕ → ℕ → List ℕ
part s b e = take (e - b) (drop b s)

-- a field by its header: the refusal of that, or by its kind
unfoldable pub field_of : List ℕ → ℕ → Content → Result Field Refusal → Outcome
field_of s at a (Err r) = stops r
field_of s at a (Ok (Picture b e)) = picture_field at e a (part s b e)
field_of s at a (Ok (Rule b e)) = rule_field at e a (part s b e)

-- the field at a place, after what stands before
unfoldable pub field_at : List ℕ → ℕ → Content → Outcome
field_at s at a = field_of s at a (head_at s at)

-- ---- a book

-- what a whole book means
pub data Meaning : Type 0 where
  means : Content → Meaning
  refused : Refusal → Meaning

-- a field taken goes on, a refusal ends
unfoldable pub follow : Outcome → (ℕ → Content → Meaning) → Meaning
follow (goes e a) k = k e a
follow (stops r) k = refused r

-- after the last field of a book of n bytes: 9 where there is no rule
unfoldable pub ended : ℕ → Content → Meaning
ended n a = cond (eqb (length a.rules) 0) (refused (NoRule n)) (means a)

-- the fields from a place on, at most n of them, after what stands before
unfoldable pub fields : ℕ → List ℕ → ℕ → Content → Meaning
fields zero s at a = ended (length s) a
fields (suc n) s at a = cond (ltb at (length s)) (follow (field_at s at a) (λ e b. fields n s e b)) (ended (length s) a)

-- no field is empty, so a book has at most as many as bytes
unfoldable pub meaning_of : List ℕ → Meaning
meaning_of s = fields (length s) s 0 nothing
