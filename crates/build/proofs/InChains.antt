-- The rows in chains: with no row but 0, with one row more, and what a search along one of them knows. Assumes nothing.
use mathlib.Core.Path.{◌≡◌, refl, sym, ap, ap₂, ◌∙◌}
use mathlib.Core.Logic.{◌≢◌}
use mathlib.Core.List.{List}
use Prim.Native.Nat.{ℕ, ◌+◌, ◌<◌}
use native.Mathlib.Omega.{arith}
use native.Mathlib.Decide.{dec_lt}
use lib.ListN.{length, get_or, set, replicate, length-set, length-replicate}
use lib.Seq.{get_or-set_same, get_or-set_other}
use Rattle.sets.specs.Table.{row_words, rules_at}
use Rattle.rows.proofs.Compare.{less, equal, more, order}
use Rattle.meaning.proofs.Build.{Put}
use Rattle.book.specs.Limits.{most_rows}
use Rattle.build.specs.Course.{Others, number_at, Stored, HasKey, chain_of, chain_at, Newest, Chained}
use Rattle.build.specs.declared.Chains.{Chains}
use Rattle.sets.proofs.Zeros.{zero_at}

pub chains_start : (m : ℕ) → m ≡ most_rows → (chain : ℕ → ℕ) → Chained (record { first = replicate m 0; older = replicate m 0 }) chain 1
chains_start m e chain = record {
  first_long = length-replicate m 0 ∙ e;
  older_long = length-replicate m 0 ∙ e;
  heads = λ g. rw (zero_at m g) (record { below = omega arith; same = λ z. absurd (z refl); gap = λ j a b. absurd (omega arith) });
  links = λ i l z. absurd (z (omega arith));
}

-- ---- one row more

newest_kept : {old new : ℕ → ℕ} {n g i : ℕ} → ((j : ℕ) → j < n → new j ≡ old j) → Newest old n g i → Newest new n g i
newest_kept {i = i} e k = record {
  below = k.below;
  same = λ z. e i k.below ∙ k.same z;
  gap = λ j a b q. k.gap j a b (sym (e j b) ∙ q);
}

-- a row of another chain
newest_other : {old new : ℕ → ℕ} {n v g i : ℕ} → Put n v old new → v ≢ g → Newest old n g i → Newest new (n + 1) g i
newest_other {n = n} {i = i} p ne k = record {
  below = omega (arith, k.below);
  same = λ z. p.kept i k.below ∙ k.same z;
  gap = λ j a b q. elim (dec_lt j n) [
    | yes l ↦ k.gap j a l (sym (p.kept j l) ∙ q)
    | no o ↦ let e : j ≡ n = omega arith in ne (sym p.here ∙ (rw e at q))
  ];
}

module _ {c : Chains} {old new : ℕ → ℕ} {n g : ℕ} (k : Chained c old n) (p : Put n g old new) (hg : g < most_rows) (hn : n < most_rows) where
  heads_more : (e : ℕ) → Newest new (n + 1) e (get_or (set c.first g n) e 0)
  heads_more e =
      elim (order e g) [
        | less l ↦ apart (λ q. omega arith)
        | equal q ↦
            rw (q, get_or-set_same c.first g n 0 (omega (arith, k.first_long)))
            (record { below = omega arith; same = λ _. p.here; gap = λ j a b. absurd (omega arith) })
        | more l ↦ apart (λ q. omega arith)
      ]
    where
      apart : e ≢ g → Newest new (n + 1) e (get_or (set c.first g n) e 0)
      apart ne = rw (get_or-set_other c.first g e n 0 (λ q. ne (omega arith))) (newest_other p (λ q. ne (sym q)) (k.heads e))

  links_more : (i : ℕ) → i < n + 1 → i ≢ 0 → Newest new i (new i) (get_or (set c.older n (get_or c.first g 0)) i 0)
  links_more i l z =
      elim (dec_lt i n) [
        | yes h ↦
            rw (get_or-set_other c.older n i (get_or c.first g 0) 0 (λ e. omega arith), p.kept i h)
            (newest_kept (λ j b. p.kept j (omega arith)) (k.links i h z))
        | no o ↦
            let e : i ≡ n = omega arith in
            rw (e, get_or-set_same c.older n (get_or c.first g 0) 0 (omega (arith, k.older_long)), p.here) (newest_kept p.kept (k.heads g))
      ]

  pub chains_more : {d : Chains} → d.first ≡ set c.first g n → d.older ≡ set c.older n (get_or c.first g 0) → Chained d new (n + 1)
  chains_more q q' = record {
    first_long = ap length q ∙ length-set c.first g n ∙ k.first_long;
    older_long = ap length q' ∙ length-set c.older n (get_or c.first g 0) ∙ k.older_long;
    heads = λ e. rw q (heads_more e);
    links = λ i l z. rw q' (links_more i l z);
  }

-- a row stored at n, in its chain
pub chain_put : {fall fall' live live' : List ℕ} {n f l g : ℕ} → Stored 1 number_at n f fall fall' → Stored row_words rules_at n l live live' → g ≡ chain_of f l
    → Put n g (chain_at fall live) (chain_at fall' live')
chain_put a b e = record { kept = λ i h. ap₂ chain_of (a.kept i h) (b.kept i h); here = ap₂ chain_of a.here b.here ∙ sym e }

-- ---- a search for three numbers, along their chain

-- row i is in the chain, where it is not row 0, and no row above it has the numbers
pub record Searched (t : Others) (n h l f i : ℕ) : Type 0 where
  pub same : i ≢ 0 → chain_at t.fall t.live i ≡ chain_of f l
  pub above : (j : ℕ) → i < j → j < n → ¬ HasKey t h l f j
