-- A line's leaf in words of its frames and its count: how the pass goes on, and what the line adds to a place. Assumes nothing.
use mathlib.Core.Bool.{Bool, true, false, cond}
use mathlib.Core.List.{List}
use mathlib.Core.Path.{◌≡◌, refl, sym, ◌∙◌}
use Prim.Native.Nat.{ℕ, ◌+◌}
use lib.Dec.{eqb}
use lib.ListN.{length, take}
use Rattle.meaning.specs.Tables.{Five}
use Rattle.one_byte.specs.Move.{move_of}
use Rattle.lines.specs.declared.Line.{Line}
use Rattle.std.specs.Prelude.{Option, Some, None, Ok}
use Rattle.answers.specs.declared.Damaged.{Damaged}
use Rattle.lines.specs.Lines.{Pass, line_of}
use Rattle.lines.specs.Profile.{count_in}
use Rattle.leaf.specs.Leaf.{damaged, end_from, end_of, on_end, family_at, line_leaf, on_leaf}
use Rattle.leaves.specs.Totals.{leaf_pass, line_adds}
use Rattle.leaf.proofs.Stacks.{stack_by_end, kept_end}
use Rattle.totalled.specs.Adding.{leaf_in, leaf_from, family_over}

module _ (b : Five) (n : ℕ) where
  -- a line that breaks the rules counts nothing, so its place does not matter
  line_by_end : {A : Type 0} (f : ℕ → ℕ → A) (g : ℕ → A) → ((p q : ℕ) → f p 0 ≡ f q 0) → (line : List ℕ)
      → on_leaf (line_leaf b n line) f g
      ≡ on_end (end_of (move_of b.goto b.fall n) (leaf_in line)) (λ row. f (family_at b.held b.live b.out row (length (leaf_in line))) (count_in line)) (λ at. g (leaf_from line + at))
  unfolding line_leaf end_of end_from
  line_by_end {A} f g flat line = go (line_of line) refl
    where
      go : (l : Option Line) → line_of line ≡ l → on_leaf (line_leaf b n line) f g
          ≡ on_end (end_of (move_of b.goto b.fall n) (leaf_in line)) (λ row. f (family_at b.held b.live b.out row (length (leaf_in line))) (count_in line)) (λ at. g (leaf_from line + at))
      go (Some l) e = rw e (stack_by_end b n f g (take l.stack line) l.count)
      go None e = rw e (flat _ _)

  pub pass_by_end : (at : ℕ) (line : List ℕ)
      → leaf_pass b n at line ≡ on_end (end_of (move_of b.goto b.fall n) (leaf_in line)) (λ row. Ok tt) (λ i. damaged (at + (leaf_from line + i)))
  unfolding leaf_pass
  pass_by_end at line = line_by_end {A = Pass Damaged} (λ place count. Ok tt) (λ i. damaged (at + i)) (λ p q. refl) line

  nothing : (s t : Bool) → cond {A = ℕ} s 0 0 ≡ cond t 0 0
  nothing true true = refl
  nothing true false = refl
  nothing false true = refl
  nothing false false = refl

  -- what a line adds, where its leaf's walk gets through
  pub line_adds_is : (p at : ℕ) (line : List ℕ) → leaf_pass b n at line ≡ Ok tt → line_adds b n p line ≡ cond (eqb (family_over b n (leaf_in line)) p) (count_in line) 0
  unfolding line_adds
  line_adds_is p at line e =
      line_by_end (λ place count. cond (eqb place p) count 0) (λ i. 0) (λ q r. nothing (eqb q p) (eqb r p)) line
      ∙ kept_end (end_of (move_of b.goto b.fall n) (leaf_in line)) (λ row. family_at b.held b.live b.out row (length (leaf_in line))) p (count_in line)
      (λ i. at + (leaf_from line + i)) (sym (pass_by_end at line) ∙ e)
