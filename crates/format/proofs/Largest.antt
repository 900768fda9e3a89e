-- The largest book is accepted: its pictures one by one, then its rules. Assumes nothing.
use Prim.Native.Nat.{ℕ, zero, suc, ◌+◌, ◌*◌, ◌<◌}
use mathlib.Core.Path.{◌≡◌, refl, sym, ap, ◌∙◌}
use mathlib.Core.Bool.{true}
use mathlib.Core.List.{List, [], ◌∷◌, ◌++◌, append-nil}
use native.Mathlib.Omega.{arith}
use borrow.Author.Tests.{ne_eqb}
use lib.ListN.{length, length-append}
use Rattle.std.specs.Prelude.{Ok}
use Rattle.book.specs.Limits.{most_pictures, most_rules, most_symbols}
use Rattle.book.specs.Content.{Content, nothing, with_picture, table}
use Rattle.format.specs.Format.{rises, ascending_body, judge_symbol, first_of, judge_symbols, judge_rule, means, ended, meaning_of}
use Rattle.format.specs.Lawful.{most_book}
use Rattle.format.specs.Which.{ReadUpTo, start}
use Rattle.format.specs.Largest.{repeated, all_bytes, long_rule, largest_book}
use Rattle.book.proofs.Tables.{length_table, length-snoc}
use Rattle.format.proofs.Judged.{picture_fine, rule-judged}
use Rattle.format.proofs.Rests.{rest_before, rest-ends}
use Rattle.format.proofs.Written.{before_end, picture-read, length-repeated, many, Stands, rules_stand}

-- ---- a picture and a rule

all_ascend : ascending_body (table 256 (λ c. c)) ≡ true
unfolding table ascending_body rises
all_ascend = refl

symbols_sound : (k i : ℕ) → judge_symbols most_pictures i (repeated k (1 ∷ 15 ∷ [])) ≡ Ok tt
unfolding repeated judge_symbols judge_symbol first_of
symbols_sound zero i = refl
symbols_sound (suc k) i = symbols_sound k (i + 2)

long-sound : (n at : ℕ) → n < most_rules → judge_rule n most_pictures at (repeated most_symbols (1 ∷ 15 ∷ [])) ≡ Ok tt
long-sound n at h =
    let body = repeated most_symbols (1 ∷ 15 ∷ []) in
    let l : length body ≡ most_symbols * 2 = length-repeated most_symbols (1 ∷ 15 ∷ []) in
    sym (rule-judged n most_pictures at body h (omega arith) (λ z. omega arith) (λ z. omega arith)) ∙ symbols_sound most_symbols (at + 3)

-- ---- all of them

picture-more : {s : List ℕ} (x y : List ℕ) (i : ℕ) → s ≡ x ++ (all_bytes ++ y) → i < most_pictures → Stands s (length x) i 0 → Stands s (length x + length all_bytes) (suc i) 0
picture-more x y i q h r =
    let a = r.content in
    let m = table 256 (λ c. c) in
    let l : length m ≡ 256 = length_table 256 (λ c. c) in
    record {
      content = with_picture a m;
      before = before_end x y 0x50 1 0 m q l r.before (picture-read x y 0x50 1 0 m q l a refl (sym (picture_fine (length a.pictures) (length x) m (rw r.pictures h) all_ascend)));
      pictures = length-snoc a.pictures m ∙ omega (arith, r.pictures);
      rules = r.rules;
    }

all_stand : Stands largest_book (length largest_book) most_pictures most_rules
all_stand =
    let ps = repeated most_pictures all_bytes in
    let rs = repeated most_rules long_rule in
    let first = many all_bytes most_pictures (λ at i. Stands largest_book at i 0) picture-more most_pictures [] rs 0 refl (omega arith) (record { content = nothing; before = start; pictures = refl; rules = refl }) in
    rules_stand most_pictures 0 128 (repeated most_symbols (1 ∷ 15 ∷ [])) (length-repeated most_symbols (1 ∷ 15 ∷ [])) long-sound ps [] (ap (λ (z : List ℕ). ps ++ z) (sym (append-nil rs))) first

accepted : (a : Content) → ReadUpTo largest_book (length largest_book) a → length a.rules ≡ most_rules → meaning_of largest_book ≡ means a
unfolding ended
accepted a p k = rest-ends largest_book (length largest_book) a (rest_before p) (omega arith) ∙ rw (ne_eqb (length a.rules) 0 (λ z. omega arith))

pub largest-means : (a : Content) × (meaning_of largest_book ≡ means a)
largest-means =
    let r = all_stand in
    (r.content, accepted r.content r.before r.rules)

pub largest-long : length largest_book ≡ most_book
largest-long =
    length-append (repeated most_pictures all_bytes) (repeated most_rules long_rule)
    ∙ omega (arith, length-repeated most_pictures all_bytes, length-repeated most_rules long_rule, length_table 256 (λ c. c), length-repeated most_symbols (1 ∷ 15 ∷ []))
