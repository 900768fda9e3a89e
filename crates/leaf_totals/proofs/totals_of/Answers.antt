-- The totals stand in their places, and unnamed comes last.
use Rattle.std.proofs.Common.{◌≡◌, ◌++◌, [], ◌∷◌, ℕ, List, length, set, arith}
use Rattle.std.proofs.lemmas.Grind.{common_steps}
use Rattle.std.proofs.lemmas.Bool.Decides.{nat_tests}
use Rattle.book.specs.Limits.{most_rules}
use Rattle.book.proofs.Tables.{is_table}
use Rattle.shares.specs.Shares.{all_places}
use Rattle.leaf_totals.specs.declared.LeafTotals.{LeafTotals}
use Rattle.leaf_totals.specs.Record.{total_at, totals_in}
use Rattle.leaf_totals.proofs.totals_of.Goals as goal

in_places : (t : LeafTotals) (l : List ℕ) → length l ≡ most_rules → l ≡ t.totals → set (l ++ 0 ∷ []) most_rules t.unnamed ≡ totals_in t
in_places t l e h = is_table all_places (total_at t) _ (grind (arith, common_steps)) (λ i b. grind (arith, common_steps, nat_tests))

pub returns : goal.returns
returns c = let x = c.copy_from_slice.ensures in in_places c.args.old _ x.len x.after
