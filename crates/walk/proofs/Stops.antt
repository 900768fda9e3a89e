-- Where a run stops: at the byte where the walk is refused with 13, and where it is not, nowhere. Assumes nothing.
use Rattle.std.specs.Prelude.{Result, Ok, Err}
use mathlib.Core.List.{List}
use mathlib.Core.Logic.{◌≢◌}
use mathlib.Core.Path.{◌≡◌, refl, ap, ◌∙◌}
use Prim.Native.Nat.{ℕ, ◌/◌, ◌≤◌, ◌<◌}
use native.Mathlib.Omega.{arith}
use Rattle.std.proofs.lemmas.Grind.{common_steps}
use lib.ListN.{length}
use Rattle.meaning.specs.Tables.{Five}
use Rattle.book.specs.Limits.{most_bytes}
use Rattle.lent.specs.Lent.{lent}
use Rattle.lent.proofs.HasRows.{rows-lent}
use Rattle.one_byte.specs.Move.{Lent, move_from, move_of}
use Rattle.one_byte.proofs.Laws.{move-lent}
use Rattle.answers.specs.declared.Walked.{Walked}
use Rattle.answers.specs.declared.Damaged.{Damaged}
use Rattle.answers.specs.declared.WalkRefusal.{WalkRefusal}
use Rattle.answers.specs.declared.WalkRefusal.TheVariants.{TooLong, BadRows, NoRoom, Damaged as WalkDamaged}
use Rattle.answers.specs.Walked.{number_of, value_of}
use Rattle.walk.specs.declared.Run.{Run}
use Rattle.walk.specs.Walk.{run_of, answer_of, walk_of}
use Rattle.walk.proofs.Laws.{walked}

-- f of the row where a run ends, or g of the byte where it stops
abbrev pub on_run : {A : Type 0} → Result Run Damaged → (ℕ → A) → (ℕ → A) → A
on_run (Ok r) f g = f r.row
on_run (Err d) f g = g d.at

module _ {A : Type 0} (z : A) (g : ℕ → A) where
  -- g of the byte where a walk is refused with 13, or else z
  abbrev on_walk : Result Walked WalkRefusal → A
  on_walk (Ok w) = z
  on_walk (Err (WalkDamaged i)) = g i
  on_walk (Err (NoRoom made)) = z
  on_walk (Err TooLong) = z
  on_walk (Err (BadRows m)) = z

  -- the walk's answer, with no room
  on_answer : (held : List ℕ) (q : Result Run Damaged) → on_run q (λ row. z) g ≡ on_walk (answer_of held (0 / 2) q)
  on_answer held (Ok r) = grind (arith, common_steps)
  on_answer held (Err d) = refl

  lost_is : (a : Result Walked WalkRefusal) (x : ℕ) → number_of a ≡ 13 → value_of a ≡ x → on_walk a ≡ g x
  lost_is (Ok w) x e v = absurd (omega arith)
  lost_is (Err (WalkDamaged i)) x e v = rw v
  lost_is (Err (NoRoom made)) x e v = absurd (omega arith)
  lost_is (Err TooLong) x e v = absurd (omega arith)
  lost_is (Err (BadRows m)) x e v = absurd (omega arith)

  kept_is : (a : Result Walked WalkRefusal) → number_of a ≢ 13 → on_walk a ≡ z
  kept_is (Ok w) ne = refl
  kept_is (Err (WalkDamaged i)) ne = absurd (ne refl)
  kept_is (Err (NoRoom made)) ne = refl
  kept_is (Err TooLong) ne = refl
  kept_is (Err (BadRows m)) ne = refl

module _ (b : Five) (n : ℕ) (lends : n ≤ lent b) where
  -- a move from a row that is lent
  pub move_is : (row c : ℕ) → row < n → move_of b.goto b.fall n row c ≡ move_from b.goto b.fall n row c 0
  move_is row c l =
      let enough : Lent b.goto b.fall n = record { few = omega arith; entries = omega arith; falls = omega arith } in
      move-lent b.goto b.fall n row c enough l

  module _ (some : n ≢ 0) (text : List ℕ) (short : length text ≤ most_bytes) {A : Type 0} (z : A) (g : ℕ → A) where
    as_walked : on_run (run_of b.goto b.fall b.out n text) (λ row. z) g ≡ on_walk z g (walk_of b n text 0)
    as_walked = on_answer z g b.held (run_of b.goto b.fall b.out n text) ∙ ap (on_walk z g) (walked b n text 0 short (rows-lent b n some lends) refl refl)

    pub run-stops : (x : ℕ) → number_of (walk_of b n text 0) ≡ 13 → value_of (walk_of b n text 0) ≡ x → on_run (run_of b.goto b.fall b.out n text) (λ row. z) g ≡ g x
    run-stops x e v = as_walked ∙ lost_is z g (walk_of b n text 0) x e v

    pub run_ends : number_of (walk_of b n text 0) ≢ 13 → on_run (run_of b.goto b.fall b.out n text) (λ row. z) g ≡ z
    run_ends ne = as_walked ∙ kept_is z g (walk_of b n text 0) ne
