-- The record of the empty book, and the records of a content with a picture or a rule more. Assumes nothing.
use Prim.Native.Nat.{ℕ, ◌*◌, ◌/◌, ◌%◌, ◌≤◌, ◌<◌}
use mathlib.Core.Path.{◌≡◌, refl, sym, ap, ◌∙◌}
use mathlib.Core.Bool.{true}
use mathlib.Core.List.{List, [], ◌∷◌, ◌++◌}
use native.Mathlib.Omega.{arith}
use borrow.Author.Tests.{lt-ltb, le-leb}
use lib.ListN.{length, get_or, set, replicate, get_or-eq_default}
use lib.Seq.{sets}
use Rattle.sets.proofs.Laws.{set_where-none}
use Rattle.book.specs.Limits.{most_pictures, most_rules, most_symbols, places}
use Rattle.book.specs.Content.{Content, nothing, with_picture, with_rule, member, pictures_with, symbol_at, padded, sizes, map_of, record_of}
use Rattle.book.specs.Grown.{symbols_of, has_room, symbols_with, lengths_with, picture_more, rule_more}
use Rattle.book.proofs.Tables.{table_constant, padded-set, sizes-set, snoc_here, snoc-other, length-snoc}
use Rattle.book.proofs.Pictures.{map_more}

pub empty-held : record { symbols = replicate places 0; lengths = replicate most_rules 0; picture = replicate 256 0; pictures = 0; rules = 0 } ≡ record_of nothing
unfolding record_of pictures_with member padded sizes map_of
empty-held = λ i. record {
  symbols = table_constant places 0 (λ k. symbol_at [] (k / most_symbols) (k % most_symbols)) (λ k. refl) i;
  lengths = table_constant most_rules 0 (λ k. length (get_or {A = List ℕ} [] k [])) (λ k. refl) i;
  picture = table_constant 256 0 (pictures_with []) (λ k. set_where-none most_pictures _ (λ p h. refl)) i;
  pictures = 0;
  rules = 0;
}

-- two bytes make a symbol
pub length_symbols : (l : List ℕ) → length (symbols_of l) ≡ length l / 2
unfolding symbols_of
length_symbols [] = refl
length_symbols (k ∷ []) = refl
length_symbols (k ∷ b ∷ l) = omega (arith, length_symbols l)

-- ---- a picture more, a rule more

-- where there is room for a rule, both arrays are stored to
module _ (n : ℕ) (l : List ℕ) (h : n < most_rules) (k : length l ≤ 2 * most_symbols) where
  room : has_room n l ≡ true
  unfolding has_room
  room = rw (lt-ltb n most_rules h, le-leb (length l) (2 * most_symbols) k)

  symbols_stored : (symbols : List ℕ) → sets symbols (most_symbols * n) (symbols_of l) ≡ symbols_with symbols n l
  unfolding symbols_with
  symbols_stored symbols = rw room

  length_stored : (lengths : List ℕ) → set lengths n (length l / 2) ≡ lengths_with lengths n l
  unfolding lengths_with
  length_stored lengths = rw room

-- the arrays of a content with the rule more
module _ (rs : List (List ℕ)) (l : List ℕ) (h : length rs < most_rules) (k : length l ≤ 2 * most_symbols) where
  abbrev r : List ℕ
  r = symbols_of l

  none : get_or rs (length rs) [] ≡ []
  none = get_or-eq_default rs [] (omega arith)

  symbols_more : symbols_with (padded most_rules most_symbols rs) (length rs) l ≡ padded most_rules most_symbols (rs ++ r ∷ [])
  symbols_more =
      sym (symbols_stored (length rs) l h k (padded most_rules most_symbols rs))
      ∙ padded-set most_rules (length rs) rs (rs ++ r ∷ []) r h none (snoc_here rs r) (snoc-other rs r) most_symbols (omega (arith, length_symbols l))

  lengths_more : lengths_with (sizes most_rules rs) (length rs) l ≡ sizes most_rules (rs ++ r ∷ [])
  lengths_more =
      sym (length_stored (length rs) l h k (sizes most_rules rs))
      ∙ ap (set (sizes most_rules rs) (length rs)) (sym (length_symbols l))
      ∙ sizes-set most_rules (length rs) rs (rs ++ r ∷ []) r h none (snoc_here rs r) (snoc-other rs r)

-- the record of a content with the picture more
pub record-picture_more : (a : Content) (m : List ℕ) → length a.pictures < most_pictures → picture_more (record_of a) m ≡ record_of (with_picture a m)
unfolding picture_more record_of
record-picture_more a m h = rw (lt-ltb (length a.pictures) most_pictures h, map_more, length-snoc) refl

-- the record of a content with the rule more
pub record-rule_more : (a : Content) (l : List ℕ) → length a.rules < most_rules → length l ≤ 2 * most_symbols → rule_more (record_of a) l ≡ record_of (with_rule a (symbols_of l))
unfolding rule_more record_of
record-rule_more a l h k = rw (room (length a.rules) l h k, symbols_more a.rules l h k, lengths_more a.rules l h k, length-snoc) refl
