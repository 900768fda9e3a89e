-- The lines of a tally, and how long they are. Assumes nothing.
use mathlib.Core.List.{List}
use mathlib.Core.Path.{◌≡◌, refl, ap, subst, ◌∙◌}
use Prim.Native.Nat.{ℕ, ◌*◌, ◌≤◌}
use native.Mathlib.Omega.{arith}
use lib.ListN.{length}
use Rattle.std.specs.Prelude.{Result, Ok, Err}
use Rattle.output.specs.Printed.{Puts, refused_line}
use Rattle.output.proofs.Room.{refused-length}
use Rattle.shown.specs.Shown.{sum_lines}
use Rattle.meaning.specs.Tables.{Five}
use Rattle.answers.specs.declared.TallyRefusal.{TallyRefusal}
use Rattle.answers.specs.Tallied.{refusal_number, refusal_value}
use Rattle.tally.specs.Tally.{tally_of}
use Rattle.summer.specs.Summing.{tallied_lines, left_sums, total_lines, total_room, PutsTotal}

module _ (b : Five) (n : ℕ) (profile : List ℕ) {x : Result Unit TallyRefusal} (is : x ≡ tally_of b n profile 256) where
  put : {at e : ℕ} {l l' lines : List ℕ} → lines ≡ tallied_lines x (left_sums x b n profile) → length lines ≤ total_room → Puts lines l at l' e
      → PutsTotal b n profile l at l' e
  put {at} {e} {l} {l'} {lines} q short p =
      let all : lines ≡ total_lines b n profile = q ∙ ap (λ y. tallied_lines y (left_sums y b n profile)) is in
      (omega (arith, ap length all, short), subst (λ ls. Puts ls l at l' e) all p)

module _ (b : Five) (n : ℕ) (profile : List ℕ) where
  -- of one that is refused
  pub total-refused : {at e : ℕ} {why : TallyRefusal} {l l' : List ℕ} → Err why ≡ tally_of b n profile 256 → Puts (refused_line (refusal_number why) (refusal_value why)) l at l' e
      → PutsTotal b n profile l at l' e
  total-refused {why = why} is p = put b n profile is refl (omega (arith, refused-length (refusal_number why) (refusal_value why))) p

  -- of one that is accepted, by the sums that it left
  pub total-shown : {at e : ℕ} {l l' : List ℕ} (sums : List ℕ) → Ok tt ≡ tally_of b n profile 256 → sums ≡ left_sums (Ok tt) b n profile → length sums ≡ 256
      → length (sum_lines 0 sums) ≤ 42 * length sums → Puts (sum_lines 0 sums) l at l' e
      → PutsTotal b n profile l at l' e
  total-shown sums is left many short p = put b n profile is (ap (sum_lines 0) left) (omega (arith, many, short)) p
