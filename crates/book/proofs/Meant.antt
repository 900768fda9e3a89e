-- The rules of a record's arrays, place by place, and they are the rules of what an accepted book holds. Assumes nothing.
use Prim.Native.Nat.{ℕ, ◌+◌, ◌*◌, ◌≤◌, ◌<◌}
use mathlib.Core.Path.{◌≡◌, sym, ap, ◌∙◌}
use mathlib.Core.Bool.{false}
use mathlib.Core.List.{List, []}
use native.Mathlib.Omega.{arith}
use lib.ListN.{length, get_or, get_or-eq_default}
use lib.Seq.{ext_get_or}
use Rattle.sets.proofs.Laws.{has-empty}
use Rattle.meaning.specs.Rules.{Rules, count, size, symbol}
use Rattle.book.specs.declared.Book.{Book}
use Rattle.book.specs.Limits.{most_rules, most_symbols}
use Rattle.book.specs.Content.{Content, member, table, padded, sizes, map_of, record_of}
use Rattle.book.specs.Sound.{Sound}
use Rattle.book.specs.Meant.{rules_of, member_in, rules_in, rules_held}
use Rattle.book.proofs.Cases.{by_test, by_lt}
use Rattle.book.proofs.Tables.{length_table, get_or_table, is_table, get_or-padded, get_or-sizes}
use Rattle.book.proofs.Pictures.{get_or-map, length-map, has_pictures}

-- ---- place by place

module _ (symbols lengths picture : List ℕ) (n : ℕ) where
  abbrev r : Rules
  r = rules_in symbols lengths picture n

  pub count_in : count r ≡ n
  unfolding rules_in
  count_in = length_table n _

  pub size_in : (k : ℕ) → k < n → size r k ≡ get_or lengths k 0
  unfolding rules_in
  size_in k h = ap length (get_or_table n _ k [] h) ∙ length_table (get_or lengths k 0) _

  pub symbol_in : (k j : ℕ) → k < n → j < get_or lengths k 0 → symbol r k j ≡ get_or symbols (most_symbols * k + j) 0
  unfolding rules_in
  symbol_in k j h i = ap (λ l. get_or l j 0) (get_or_table n _ k [] h) ∙ get_or_table (get_or lengths k 0) _ j 0 i

-- ---- the rules of a book

module _ (a : Content) (S : Sound a) where
  -- the rules by the arrays and by the lists
  rules-same : table (length a.rules) (λ k. table (get_or (sizes most_rules a.rules) k 0) (λ j. get_or (padded most_rules most_symbols a.rules) (most_symbols * k + j) 0)) ≡ a.rules
  rules-same =
      ext_get_or [] (table (length a.rules) _) a.rules (length_table (length a.rules) _)
      (λ k h.
      let i : k < length a.rules = rw length_table at h in
      let m : k < most_rules = omega (arith, S.few_rules) in
      let s = get_or-sizes most_rules a.rules k m in
      get_or_table (length a.rules) _ k [] i
      ∙ sym (is_table (get_or (sizes most_rules a.rules) k 0) _ (get_or a.rules k []) (sym s)
      (λ j l. sym (get_or-padded most_rules most_symbols a.rules k j m (omega (arith, S.short k))))))

  -- no picture has a number that is no byte
  pub member-past : (p c : ℕ) → 256 ≤ c → false ≡ member c (get_or a.pictures p [])
  member-past p c h = by_test (member c (get_or a.pictures p [])) (λ t. absurd (omega (arith, S.bytes p c t))) sym

  -- the members by the map and by the lists
  pub member-same : (p c : ℕ) → member_in (map_of a.pictures) p c ≡ member c (get_or a.pictures p [])
  unfolding member_in
  member-same p c =
      by_lt c 256
      (λ h. rw (get_or-map a.pictures c h) (has_pictures a.pictures S.few_pictures p c))
      (λ h. rw (get_or-eq_default (map_of a.pictures) 0 {n = c} (rw length-map h), has-empty p) (member-past p c h))

  -- the record that holds the content has its rules
  pub rules-same-held : {b : Book} → b ≡ record_of a → rules_held b ≡ rules_of a
  unfolding record_of rules_in
  rules-same-held e = rw e (λ i. record { rules = rules-same i; member = λ p c. member-same p c i })
