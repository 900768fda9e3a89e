-- What the contracts of inner functions ask and leave; no theorem speaks of it. Assumes nothing.
use Rattle.std.specs.Prelude.{Result, Ok, Err, List, ℕ, ◌+◌, ◌≤◌, ◌<◌}
use Rattle.meaning.specs.Tables.{Five}
use Rattle.answers.specs.declared.Damaged.{Damaged}
use Rattle.book.specs.Content.{table}
use Rattle.shares.specs.Shares.{all_places, limit, amount_at}
use Rattle.leaf_totals.specs.declared.LeafTotals.{LeafTotals}
use Rattle.leaf_totals.specs.declared.AddRefusal.{AddRefusal}
use Rattle.leaf_totals.specs.Record.{most_profiles, total_at}
use Rattle.lines.specs.Lines.{Pass}
use Rattle.leaves.specs.Totals.{leaves_pass, profile_adds, with_parts, add_answer}

-- what a pass gives where it gets through
abbrev pub giving : {A E : Type 0} → A → Pass E → Result A E
giving x (Ok u) = Ok x
giving x (Err e) = Err e

-- what a profile adds to each place, where the pass over its leaves gets through
abbrev pub counted_lines : Five → ℕ → List ℕ → Result (List ℕ) Damaged
counted_lines b n profile = giving (table all_places (λ p. profile_adds b n p profile)) (leaves_pass b n profile)

-- a record that has room for one profile more, and each of its totals for the part
pub record TakesParts (t : LeafTotals) (parts : List ℕ) : Type 0 where
  pub few : t.profiles < most_profiles
  pub fits : (p : ℕ) → p < all_places → total_at t p + amount_at parts p ≤ limit

-- the record with what the profile adds, where the answer is no refusal
abbrev pub grown_by : Five → ℕ → List ℕ → LeafTotals → Result LeafTotals AddRefusal
grown_by b n profile t = giving (with_parts t (λ p. profile_adds b n p profile)) (add_answer b n profile t)
