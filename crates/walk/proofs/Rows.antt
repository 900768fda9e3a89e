-- What a row reports, word by word. Assumes nothing.
use mathlib.Core.Path.{◌≡◌, sym, ap, ◌∙◌}
use mathlib.Core.List.{List, [], ◌++◌}
use Prim.Native.Nat.{ℕ, suc, ◌+◌, ◌*◌, ◌^◌, ◌≤◌, ◌<◌}
use native.Mathlib.Omega.{arith}
use lib.ListN.{length, get_or, take, drop, length-map, drop_of_length-le}
use lib.Seq.{sets as stored, take_all}
use Rattle.sets.specs.Sets.{those, members, members_of, plus_each, reports as pairs, pairs_from}
use Rattle.sets.specs.Table.{row_words}
use Rattle.sets.proofs.InWords.{members-drop}
use Rattle.sets.proofs.Members.{reports-length, reports-append, reports_stored, sets_append}
use Rattle.sets.proofs.Table.{row_of, rules-part, row_long, members-whole}
use Rattle.book.specs.Limits.{most_rules}
use Rattle.walk.specs.Walk.{reported}

-- a row reports the members of its words
pub reported_row : (out : List ℕ) (row : ℕ) → row_words * suc row ≤ length out → reported out row ≡ members_of (row_of out row)
unfolding reported
reported_row out row room = ap (members most_rules) (rules-part out row) ∙ sym (members-whole (row_of out row) (row_long out row room))

-- past the last word none are left
pub none_left : (ws : List ℕ) (i : ℕ) → length ws ≤ i → members_of (drop i ws) ≡ []
unfolding members_of members those
none_left ws i h = rw drop_of_length-le

module _ (ws : List ℕ) (i : ℕ) (h : i < length ws) (small : get_or ws i 0 < 2 ^ 64) where
  abbrev word : ℕ
  word = get_or ws i 0

  -- the pairs of word i are written, then those left are stored: as all are stored
  pub words_stored : (end to r : ℕ) (old new : List ℕ) → to + 2 * length (members 64 word) ≤ length old
      → r ≡ to + 2 * length (take (pairs_from (length old) to) (members 64 word))
      → new ≡ take to old ++ pairs end (plus_each (64 * i) (take (pairs_from (length old) to) (members 64 word))) ++ drop r old
      → (r ≡ to + 2 * length (members 64 word))
      × (stored new r (pairs end (plus_each (64 * (i + 1)) (members_of (drop (i + 1) ws)))) ≡ stored old to (pairs end (plus_each (64 * i) (members_of (drop i ws)))))
  words_stored end to r old new l p q =
      let ks = plus_each (64 * i) (members 64 word) in
      let t = take_all (pairs_from (length old) to) (members 64 word) (omega arith) in
      let z : r ≡ to + 2 * length (members 64 word) = rw t at p in
      let n : r ≡ to + 2 * length ks = rw length-map z in
      let all : new ≡ stored old to (pairs end ks) = rw t at q ∙ sym (reports_stored end ks old to r n (omega arith)) in
      let end_at : to + length (pairs end ks) ≡ r = rw reports-length (sym n) in
      (z, rw (members-drop ws i h small, reports-append, sets_append, end_at, ← all))
