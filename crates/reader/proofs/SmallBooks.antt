-- The small books are answered so: by computation, and that with a rule too many by the laws of many rules. Assumes nothing.
use Prim.Native.Nat.{ℕ, suc, ◌+◌, ◌<◌}
use mathlib.Core.Path.{◌≡◌, refl, sym}
use mathlib.Core.List.{List, [], ◌∷◌, ◌++◌, append-nil}
use native.Mathlib.Omega.{arith}
use borrow.Author.Tests.{lt-leb}
use lib.ListN.{length, length-append}
use Rattle.std.specs.Prelude.{Ok}
use Rattle.format.specs.declared.Refusal.TheVariants.{RuleMany}
use Rattle.book.specs.Limits.{most_rules}
use Rattle.book.specs.Content.{nothing}
use Rattle.book.specs.Grown.{symbols_of}
use Rattle.format.specs.Format.{head_at, rises, ascending_body, judge_picture, judge_symbol, first_of, judge_symbols, judge_rule, outcome, picture_field, rule_field, field_of, field_at, refused, follow, ended, fields, meaning_of}
use Rattle.reader.specs.Handed.{handed, read_of}
use Rattle.format.specs.Largest.{repeated}
use Rattle.reader.specs.Numbers.{ReadGives, small_books, EachReadSo}
use Rattle.format.specs.Which.{start}
use Rattle.format.proofs.Judged.{rule-many}
use Rattle.format.proofs.Rests.{rest_before, rest-stops}
use Rattle.reader.proofs.Numbers.{gives}
use Rattle.format.proofs.Written.{rule-read, length-repeated, repeated-last, Stands, rules_stand}

-- the rule of one byte a
abbrev one : List ℕ
one = 0x52 ∷ 0 ∷ 2 ∷ 0 ∷ 97 ∷ []

one-sound : (n at : ℕ) → n < most_rules → judge_rule n 0 at (0 ∷ 97 ∷ []) ≡ Ok tt
unfolding judge_rule judge_symbols judge_symbol first_of
one-sound n at h = rw (lt-leb most_rules n h)

-- as many as there may be, and one more
module _ {s : List ℕ} (q : s ≡ repeated most_rules one ++ one) where
  all_stand : Stands s (length (repeated most_rules one)) 0 most_rules
  all_stand = rules_stand 0 0 2 (0 ∷ 97 ∷ []) refl one-sound [] one q (record { content = nothing; before = start; pictures = refl; rules = refl })

  one_too_many : meaning_of s ≡ refused (RuleMany (length (repeated most_rules one)))
  unfolding outcome
  one_too_many =
      let r = all_stand in
      let x = repeated most_rules one in
      let long : length s ≡ length x + 5 = rw q (length-append x one) in
      let e : s ≡ x ++ (one ++ []) = rw (append-nil one) q in
      rest-stops s (length x) r.content (rest_before r.before) (omega arith)
      (rule-read x [] 0x52 0 2 (0 ∷ 97 ∷ []) e refl r.content refl (sym (rule-many _ _ (length x) _ (omega (arith, r.rules)))))

many-answered : ReadGives (repeated (suc most_rules) one) 8 1280
many-answered =
    let e : length (repeated most_rules one) ≡ 1280 = length-repeated most_rules one in
    (gives (repeated (suc most_rules) one) (RuleMany 1280)).1 (rw e at (one_too_many (repeated-last most_rules one)))

pub answered : EachReadSo small_books
unfolding repeated read_of handed meaning_of fields follow ended field_at field_of head_at picture_field judge_picture ascending_body rises rule_field outcome judge_rule judge_symbols judge_symbol first_of symbols_of
answered = ((refl, refl), ((refl, refl), ((refl, refl), ((refl, refl), ((refl, refl), ((refl, refl), ((refl, refl), ((refl, refl), ((refl, refl), (many-answered, ((refl, refl), ((refl, refl), tt))))))))))))
