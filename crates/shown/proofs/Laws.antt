-- Lines put one after another, and how long they are. Assumes nothing.
use mathlib.Core.List.{List, [], ◌∷◌, ◌++◌, append_assoc, append-nil}
use mathlib.Core.Path.{◌≡◌, refl, sym, ap, subst, ◌∙◌}
use Prim.Native.Nat.{ℕ, suc, ◌+◌, ◌*◌, ◌^◌, ◌≤◌, ◌<◌}
use native.Mathlib.Omega.{arith}
use native.Mathlib.Numerals.{add-one}
use mathlib.Core.Bool.{true, false, cond}
use lib.Dec.{eqb}
use lib.ListN.{length, get_or, drop, length-append, drop_of_length-le}
use lib.Seq.{drop-cons}
use Rattle.output.specs.declared.Answer.{Answer}
use Rattle.output.specs.Printed.{pair_line}
use Rattle.output.specs.PutsNext.{PutsNext}
use Rattle.output.proofs.Laws.{adds_append}
use Rattle.output.proofs.Room.{numeral_32, numeral_any, pair_length}
use Rattle.shown.specs.Shown.{report_lines, shown_lines, sum_line, sum_lines}

-- ---- lines put behind lines

-- Of all the lines those are put that stand in front of the rest.
pub record Front (all rest : List ℕ) (old new : Answer) : Type 0 where
  pub done : List ℕ
  pub split : all ≡ done ++ rest
  pub adds : PutsNext done old new

-- one line more
pub front_next : {all line rest : List ℕ} {a b c : Answer} → Front all (line ++ rest) a b → PutsNext line b c → Front all rest a c
front_next {all} {line} {rest} p q = record { done = p.done ++ line; split = p.split ∙ sym (append_assoc p.done line rest); adds = adds_append p.adds q }

pub front_all : {all : List ℕ} {a b : Answer} → Front all [] a b → PutsNext all a b
front_all {all} {a} {b} p = subst (λ ls. PutsNext ls a b) (sym (p.split ∙ append-nil p.done)) p.adds

-- ---- the lines of a walk

-- the next report
pub reports-next : (reports report rest : List ℕ) → reports ≡ report ++ rest → length report ≡ 2
    → report_lines reports ≡ pair_line [] (get_or report 0 0) (32 ∷ []) (get_or report 1 0) ++ report_lines rest
unfolding report_lines
reports-next reports (end ∷ rule ∷ []) rest e two = ap report_lines e
reports-next reports [] rest e two = absurd (omega arith)
reports-next reports (x ∷ []) rest e two = absurd (omega arith)
reports-next reports (x ∷ y ∷ z ∷ report) rest e two = absurd (omega arith)

-- fewer than two entries
pub reports_none : (reports : List ℕ) → length reports ≤ 1 → report_lines reports ≡ []
unfolding report_lines
reports_none [] h = refl
reports_none (x ∷ []) h = refl
reports_none (x ∷ y ∷ reports) h = absurd (omega arith)

report_length : (a b : ℕ) → a < 2 ^ 32 → b < 2 ^ 32 → length (pair_line [] a (32 ∷ []) b) ≤ 22
report_length a b h k = omega (arith, pair_length [] (32 ∷ []) a b, numeral_32 a h, numeral_32 b k)

reports-length : (reports : List ℕ) → ((i : ℕ) → get_or reports i 0 < 2 ^ 32) → length (report_lines reports) ≤ 11 * length reports
unfolding report_lines
reports-length [] small = omega arith
reports-length (x ∷ []) small = omega arith
reports-length (x ∷ y ∷ reports) small = rw length-append (omega (arith, report_length x y (small 0) (small 1), reports-length reports (λ i. small (suc (suc i)))))

pub shown-length : (reports : List ℕ) (falls held : ℕ) → ((i : ℕ) → get_or reports i 0 < 2 ^ 32) → length (shown_lines reports falls held) ≤ 11 * length reports + 64
shown-length reports falls held small =
    let last = pair_length (102 ∷ 97 ∷ 108 ∷ 108 ∷ 115 ∷ 32 ∷ []) (32 ∷ 104 ∷ 101 ∷ 108 ∷ 100 ∷ 32 ∷ []) falls held in
    rw length-append (omega (arith, last, reports-length reports small, numeral_any falls, numeral_any held))

-- ---- the lines of a tally

-- the next sum
pub sums_next : (sums : List ℕ) (rule : ℕ) → rule < length sums → sum_lines rule (drop rule sums) ≡ sum_line rule (get_or sums rule 0) ++ sum_lines (rule + 1) (drop (rule + 1) sums)
unfolding sum_lines
sums_next sums rule h = ap (sum_lines rule) (drop-cons sums rule 0 h) ∙ ap (λ k. sum_line rule (get_or sums rule 0) ++ sum_lines (rule + 1) (drop k sums)) (sym (add-one rule))

pub sums_end : (sums : List ℕ) (rule : ℕ) → length sums ≤ rule → sum_lines rule (drop rule sums) ≡ []
unfolding sum_lines
sums_end sums rule h = ap (sum_lines rule) (drop_of_length-le sums {i = rule} h)

sum_length : (rule sum : ℕ) → length (sum_line rule sum) ≤ 42
sum_length rule sum =
    elim (eqb sum 0) as (λ b. length (cond b [] (pair_line [] rule (32 ∷ []) sum)) ≤ 42) [
      | true ↦ omega arith
      | false ↦ omega (arith, pair_length [] (32 ∷ []) rule sum, numeral_any rule, numeral_any sum)
    ]

pub sums-length : (rule : ℕ) (sums : List ℕ) → length (sum_lines rule sums) ≤ 42 * length sums
unfolding sum_lines
sums-length rule [] = omega arith
sums-length rule (sum ∷ sums) = rw length-append (omega (arith, sum_length rule sum, sums-length (rule + 1) sums))
