-- The lines of a search, and how long they are. Assumes nothing.
use mathlib.Core.Bool.{Bool, true, false, cond}
use mathlib.Core.List.{List}
use mathlib.Core.Path.{◌≡◌, refl, sym, ap, subst, ◌∙◌}
use Prim.Native.Nat.{ℕ, ◌+◌, ◌*◌, ◌/◌, ◌≤◌}
use native.Mathlib.Omega.{arith}
use lib.Dec.{ltb}
use lib.ListN.{length, get_or, take, drop}
use lib.Seq.{take_at}
use Rattle.std.specs.Prelude.{Result, Ok, Err}
use Rattle.output.specs.Printed.{Puts, refused_line}
use Rattle.output.proofs.Room.{refused-length}
use Rattle.shown.specs.Shown.{shown_lines}
use Rattle.meaning.specs.Tables.{Five}
use Rattle.lent.specs.Lent.{has_rows}
use Rattle.walk.specs.declared.Run.{Run}
use Rattle.answers.specs.declared.Walked.{Walked}
use Rattle.answers.specs.declared.Damaged.{Damaged}
use Rattle.answers.specs.declared.WalkRefusal.{WalkRefusal}
use Rattle.answers.specs.declared.WalkRefusal.TheVariants.{TooLong, BadRows, NoRoom}
use Rattle.answers.specs.Walked.{refusal_number, refusal_value}
use Rattle.walk.specs.Walk.{run_of, reports_of, answer_of, walk_of, written}
use Rattle.lent.proofs.HasRows.{has-rows}
use Rattle.walk.proofs.Laws.{Right, counted}
use Rattle.walk.proofs.Room.{accepted-within}
use Rattle.book.specs.Limits.{most_bytes}
use Rattle.lister.specs.Listing.{walked_lines, search_lines, PutsSearch}

-- an accepted walk counts its reports
abbrev Told : Result Walked WalkRefusal → List ℕ → Type 0
Told (Ok w) reports = 2 * w.reports ≡ length reports
Told (Err why) reports = Unit {0}

told-run : (n room : ℕ) (held reports : List ℕ) (x : Result Run Damaged) → Right n 0 reports x → Told (answer_of held room x) reports
told-run n room held reports (Ok r) h =
    elim (ltb room r.made) as (λ q. Told (cond q (Err (NoRoom r.made)) (Ok (record { reports = r.made; falls = r.falls; held = get_or held r.row 0 }))) reports) [ true ↦ tt | false ↦ omega arith ]
told-run n room held reports (Err d) h = tt

module _ (b : Five) (n : ℕ) (text : List ℕ) where
  told : (space : ℕ) → Told (walk_of b n text space) (reports_of b.goto b.fall b.out n text)
  told space = go (ltb most_bytes (length text)) (has_rows b n) refl
    where
      run : Result Run Damaged
      run = run_of b.goto b.fall b.out n text

      go : (long rows : Bool) → rows ≡ has_rows b n → Told (cond long (Err TooLong) (cond rows (answer_of b.held (space / 2) run) (Err (BadRows n)))) (reports_of b.goto b.fall b.out n text)
      go true rows e = tt
      go false true e = told-run n (space / 2) b.held (reports_of b.goto b.fall b.out n text) run (counted b.goto b.fall b.out n text (omega (arith, (has-rows b n (sym e)).0)) refl refl)
      go false false e = tt

  -- what an accepted walk left in front of the report buffer are its reports, and the lines shown are those of the search
  pub search-shown :
      {k at e : ℕ} {w : Walked} {l l' : List ℕ} (old new : List ℕ) → Ok w ≡ walk_of b n text 16384 → new ≡ written (reports_of b.goto b.fall b.out n text) old
      → k ≡ 2 * w.reports → length (shown_lines (take k new) w.falls w.held) ≤ 11 * length (take k new) + 64 → Puts (shown_lines (take k new) w.falls w.held) l at l' e
      → PutsSearch b n text l at l' e
  unfolding written
  search-shown {k} {at} {e} {w} {l} {l'} old new is left twice short put =
      let rs = reports_of b.goto b.fall b.out n text in
      let many : 2 * w.reports ≡ length rs = subst (λ x. Told x rs) (sym is) (told 16384) in
      let few : 2 * w.reports ≤ 16384 = accepted-within b.goto b.fall b.held b.live b.out text n refl is refl in
      let all : take k new ≡ rs = ap (take k) left ∙ take_at rs (drop (length rs) old) k (sym (twice ∙ many)) in
      let lines : shown_lines (take k new) w.falls w.held ≡ search_lines b n text = ap (λ r. shown_lines r w.falls w.held) all ∙ ap (λ x. walked_lines x rs) is in
      (omega (arith, ap length lines, short, ap length all, few, many), subst (λ ls. Puts ls l at l' e) lines put)

  -- the line of a refusal is that of the search
  pub search-refused :
      {at e : ℕ} {why : WalkRefusal} {l l' : List ℕ} → Err why ≡ walk_of b n text 16384 → Puts (refused_line (refusal_number why) (refusal_value why)) l at l' e
      → PutsSearch b n text l at l' e
  search-refused {at} {e} {why} {l} {l'} is put =
      let lines : refused_line (refusal_number why) (refusal_value why) ≡ search_lines b n text = ap (λ x. walked_lines x (reports_of b.goto b.fall b.out n text)) is in
      (omega (arith, ap length lines, refused-length (refusal_number why) (refusal_value why)), subst (λ ls. Puts ls l at l' e) lines put)
