-- Which symbol of which rule a book is refused for, in plain words over its bytes. Assumes nothing.
use Rattle.std.specs.Prelude.{ℕ, ◌+◌, ◌*◌, ◌%◌, ◌≤◌, ◌<◌, ◌≡◌, ◌⊎◌, List, length, get_or}
use Rattle.format.specs.declared.Refusal.{Refusal}
use Rattle.format.specs.declared.Refusal.TheVariants.{UnknownKind, UndefinedPicture}
use Rattle.book.specs.Limits.{most_rules, most_symbols}
use Rattle.book.specs.Content.{Content, nothing}
use Rattle.format.specs.Format.{size_at, goes, field_at}

-- ---- a pair

-- after p pictures `k b` is a symbol: a byte, or a picture that stands earlier
abbrev pub IsSymbol : ℕ → ℕ → ℕ → Type 0
IsSymbol p k b = (k ≡ 0) ⊎ ((k ≡ 1) × (b < p))

-- what is wrong with `k b` at v, after p pictures: its kind, or its picture
pub data Amiss (p v k b : ℕ) : Refusal → Type 0 where
  unknown : 1 < k → Amiss p v k b (UnknownKind v)
  undefined : k ≡ 1 → p ≤ b → Amiss p v k b (UndefinedPicture v)

-- ---- a book

-- the fields of s before a place are accepted, and hold the content
pub data ReadUpTo (s : List ℕ) : ℕ → Content → Type 0 where
  start : ReadUpTo s 0 nothing
  next : {at e : ℕ} {a b : Content} → ReadUpTo s at a → at < length s → field_at s at a ≡ goes e b → ReadUpTo s e b

-- the field at a place is a whole rule that 8, 7 and 6 let pass; of its symbols all before the i-th are sound, and the i-th is not
pub record Faulty (s : List ℕ) (r : Refusal) : Type 0 where
  pub at : ℕ
  pub content : Content
  pub i : ℕ
  pub before : ReadUpTo s at content
  pub whole : at + 3 + size_at s at ≤ length s
  pub tag : get_or s at 0 ≡ 0x52
  pub room : length content.rules < most_rules
  pub short : size_at s at ≤ 2 * most_symbols
  pub even : size_at s at % 2 ≡ 0
  pub inside : 2 * i < size_at s at
  pub sound : (j : ℕ) → j < i → IsSymbol (length content.pictures) (get_or s (at + 3 + 2 * j) 0) (get_or s (at + 3 + 2 * j + 1) 0)
  pub amiss : Amiss (length content.pictures) (at + 3 + 2 * i) (get_or s (at + 3 + 2 * i) 0) (get_or s (at + 3 + 2 * i + 1) 0) r
