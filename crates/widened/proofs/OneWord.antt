-- Old tables, widened, are the tables of the same rules, and no row depends on the layout. Assumes nothing.
use mathlib.Core.Path.{◌≡◌, refl, sym, ap, subst, ◌∙◌}
use mathlib.Core.Bool.{Bool, true, false}
use mathlib.Core.List.{List, [], append-nil}
use Prim.Native.Nat.{ℕ, zero, suc, ◌+◌, ◌-◌, ◌^◌, ◌≤◌, ◌<◌}
use native.Mathlib.Omega.{arith}
use lib.Pow.{pow_mono}
use lib.ListN.{length, get_or}
use Rattle.rows.proofs.Rows.{one_row, unique}
use Rattle.sets.specs.Sets.{has, those, members}
use Rattle.sets.specs.Table.{rules_at}
use Rattle.sets.proofs.Laws.{has_above, set_where-lt}
use Rattle.sets.proofs.Members.{those-append}
use Rattle.meaning.specs.Rules.{Rules, count}
use Rattle.meaning.specs.Standing.{ends, out}
use Rattle.meaning.specs.Tables.{Numbers, Entry, goes_on_at, Gotos, Five, goto_at, columns, Tables, Alike}
use Rattle.meaning.proofs.Congruent.{congruence}
use Rattle.meaning.proofs.Shorter.{fall_row}
use Rattle.meaning.proofs.Unique.{one-five, one-count}
use Rattle.book.specs.Limits.{most_rules}
use Rattle.widened.specs.OneWord.{most_of_one, OneWord, wide, Roomy, TablesKept, SameRow, RowsKept}
use Rattle.widen.proofs.Laws.{judged}
use Rattle.widened.proofs.Laws.{zero-widened, rules-widened}

-- ---- the tables

pub tables_kept : TablesKept
tables_kept r b n live out x done =
    let (rl, ro) = (judged (length b.live) (length b.out) live out).done.0 done in
    record {
      texts = x.texts;
      count = x.count;
      rows = x.rows;
      numbers = record {
        fall_is = x.numbers.fall_is;
        held_is = x.numbers.held_is;
        live_is = λ i h. rules-widened live b.live rl i ∙ x.numbers.live_is i h;
        out_is = λ i h. rules-widened out b.out ro i ∙ x.numbers.out_is i h;
      };
      gotos = x.gotos;
      rest = record {
        goto_rest = x.rest.goto_rest;
        fall_rest = x.rest.fall_rest;
        held_rest = x.rest.held_rest;
        live_rest = zero-widened live n b.live x.rest.live_rest;
        out_rest = zero-widened out n b.out x.rest.out_rest;
      };
    }

-- so they are any other tables of these rules, in buffers of the same lengths
pub tables-equal : {r : Rules} {b b' : Five} {n n' : ℕ} (live out : ℕ) → OneWord r b n → Roomy b live out → Tables r b' n' → Alike (wide b live out) b'
    → (n ≡ n') × (wide b live out ≡ b')
tables-equal {r} {b} {n = n} {n'} live out x done y a =
    let t = tables_kept r b n live out x done in
    let e : n ≡ n' = one-count t y in
    (e, one-five _ _ _ _ (subst (Tables r (wide b live out)) e t) y a)

-- ---- the reports

those-none : (p : ℕ → Bool) (i n : ℕ) → ((k : ℕ) → i ≤ k → p k ≡ false) → those p i n ≡ []
unfolding those
those-none p i zero h = refl
those-none p i (suc n) h = rw (h i (omega arith)) (those-none p (suc i) n (λ k l. h k (omega arith)))

-- a set of m bits has no members from m on
members-more : (m n s : ℕ) → s < 2 ^ m → members m s ≡ members (m + n) s
unfolding members
members-more m n s h = sym (those-append (has s) 0 m n ∙ rw (those-none (has s) (0 + m) n (λ k l. has_above m k h (omega arith))) (append-nil (those (has s) 0 m)))

-- the rules that end are below 64 where all are
out-small : (r : Rules) (t : List ℕ) → count r ≤ most_of_one → out r t < 2 ^ most_of_one
unfolding out
out-small r t few = let m = pow_mono {j = most_of_one} few in omega (arith, set_where-lt (count r) (ends r t))

-- ---- the rows

module _ {r : Rules} {b b' : Five} {n n' : ℕ} (x : OneWord r b n) (y : Tables r b' n') where
  numbers' : Numbers r x.texts (columns b')
  numbers' = rw (unique (congruence r) x.rows y.rows) y.numbers

  gotos' : Gotos r x.texts (goto_at b'.goto)
  gotos' = rw (unique (congruence r) x.rows y.rows) y.gotos

  one_entry : (goes : Bool) {t : List ℕ} {c e e' : ℕ} → Entry r x.texts t c e goes → Entry r x.texts t c e' goes → e ≡ e'
  one_entry true p q = one_row (congruence r) x.rows.ascending (p.on refl) (q.on refl)
  one_entry false p q = p.back refl ∙ sym (q.back refl)

  row_kept : (i : ℕ) → i < length x.texts → SameRow b b' i
  row_kept i k = record {
    goto_same = λ c byte. one_entry (goes_on_at r x.texts i c) (x.gotos.entry i c k byte) (gotos'.entry i c k byte);
    fall_same = one_row (congruence r) x.rows.ascending (fall_row (x.numbers.fall_is i k)) (fall_row (numbers'.fall_is i k));
    held_same = x.numbers.held_is i k ∙ sym (numbers'.held_is i k);
    live_same = x.numbers.live_is i k ∙ sym (numbers'.live_is i k);
    out_same = x.numbers.out_is i k ∙ sym (numbers'.out_is i k);
  }

  reports_kept : count r ≤ most_of_one → (i : ℕ) → i < length x.texts → members most_of_one (get_or b.out i 0) ≡ members most_rules (rules_at b'.out i)
  reports_kept few i k =
      members-more most_of_one (most_rules - most_of_one) (get_or b.out i 0) (rw (x.numbers.out_is i k) (out-small r _ few))
      ∙ ap (members most_rules) (row_kept i k).out_same

pub rows_kept : RowsKept
rows_kept r b b' n n' x y = record {
  count_same = sym x.count ∙ ap length (unique (congruence r) x.rows y.rows) ∙ y.count;
  row_same = λ i h. row_kept x y i (omega (arith, x.count));
  reports_same = λ few i h. reports_kept x y few i (omega (arith, x.count));
}
