-- The record of leaf totals: what it has at a place, and its total. Assumes nothing.
use Rattle.std.specs.Prelude.{cond, List, ℕ, ltb, get_or, replicate}
use Rattle.book.specs.Limits.{most_rules}
use Rattle.book.specs.Content.{table}
use Rattle.shares.specs.Shares.{all_places, total_of}
use Rattle.leaf_totals.specs.declared.LeafTotals.{LeafTotals}

-- the most profiles of a record
abbrev pub most_profiles : ℕ
most_profiles = 1024

-- what the record has at place p: the total of rule p's family, and unnamed last
abbrev pub total_at : LeafTotals → ℕ → ℕ
total_at t p = cond (ltb p most_rules) (get_or t.totals p 0) t.unnamed

-- all of its totals, unnamed last
abbrev pub totals_in : LeafTotals → List ℕ
totals_in t = table all_places (total_at t)

-- the record's total
abbrev pub whole_in : LeafTotals → ℕ
whole_in t = total_of (totals_in t)

-- nothing counted
abbrev pub empty_totals : LeafTotals
empty_totals = record { totals = replicate most_rules 0; unnamed = 0; profiles = 0 }
