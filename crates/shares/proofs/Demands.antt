-- The demands on shares are met. Assumes nothing.
use mathlib.Core.Path.{◌≡◌, refl, sym, ap, ◌∙◌}
use mathlib.Core.List.{List}
use mathlib.Core.Logic.{inl, inr}
use Prim.Native.Nat.{ℕ, ◌≤◌, ◌<◌}
use native.Mathlib.Nat.{zero-div, zero-mod}
use native.Mathlib.Decide.{dec_lt}
use native.Mathlib.Omega.{arith}
use lib.ListN.{length, get_or, replicate, length-replicate, get_or-eq_default}
use borrow.Author.Tests.{lt-ltb, le-ltb}
use Rattle.sets.proofs.Zeros.{zero_at}
use Rattle.shares.specs.declared.Shares.{Shares}
use Rattle.book.specs.Content.{table}
use Rattle.shares.specs.Shares.{all_places, limit, floor_of, remainder_of, share_in, amount_at, total_of, parts_shared, shares_of}
use Rattle.shares.specs.Demands.{share, remainder, Ahead, Shared, Demanded, Demands}
use Rattle.shares.proofs.Below.{sum_same}
use Rattle.shares.proofs.Ranks.{Before, larger, lower}
use Rattle.shares.proofs.Laws.{shares_add, shares_only, share_exact, share_rounded, share-ahead}
use Rattle.shares.proofs.Cases.{is_past, is_nothing, is_given}
use Rattle.book.proofs.Tables.{length_table, get_or_table}

module _ (totals : List ℕ) where
  abbrev whole : ℕ
  whole = total_of totals

  abbrev given : List ℕ
  given = table all_places (share_in (amount_at totals) all_places whole)

  parts_of : {s : Shares} → s ≡ shares_of totals → parts_shared totals ≡ s.parts
  parts_of e = sym (ap (λ (s : Shares). s.parts) e)

  data Case : Type 0 where
    zeros : parts_shared totals ≡ replicate all_places 0 → Case
    some : 0 < whole → whole ≤ limit → Case

  case : Case
  case = elim (dec_lt limit whole) [
    | yes h ↦ zeros (parts_of (is_past totals h))
    | no h ↦
        elim (dec_lt 0 whole) [
          | yes l ↦ some l (omega arith)
          | no l ↦ zeros (parts_of (is_nothing totals (omega arith)))
        ]
  ]

  all-zero : parts_shared totals ≡ replicate all_places 0 → (i : ℕ) → share totals i ≡ 0
  all-zero e i = ap (λ (l : List ℕ). get_or l i 0) e ∙ zero_at all_places i

  module _ (h : 0 < whole) (l : whole ≤ limit) where
    share_is : (i : ℕ) → i < all_places → share totals i ≡ share_in (amount_at totals) all_places whole i
    share_is i b = ap (λ (x : List ℕ). get_or x i 0) (parts_of (is_given totals h l)) ∙ get_or_table all_places (share_in (amount_at totals) all_places whole) i 0 b

    shared_all : Shared totals
    shared_all = record {
      fair = record {
        adds = sum_same (share totals) (share_in (amount_at totals) all_places whole) all_places share_is ∙ shares_add (amount_at totals) all_places h;
        rounded = λ i b. rw (share_is i b) (share_rounded (amount_at totals) all_places whole i);
        largest = λ i j b c a e. share_is i b ∙ share-ahead (amount_at totals) all_places whole i j b (stands a) (sym (share_is j c) ∙ e);
      };
      only = λ parts f i b. shares_only (amount_at totals) all_places h (amount_at parts) f.adds f.rounded (λ i j b c a. f.largest i j b c (ahead a)) i b ∙ sym (share_is i b);
      exact = λ i b z. share_is i b ∙ share_exact (amount_at totals) all_places h i z;
    }
      where
        stands : {i j : ℕ} → Ahead totals i j → Before (remainder totals) i j
        stands (inl g) = larger g
        stands (inr g) = lower g.0 g.1

        ahead : {i j : ℕ} → Before (remainder totals) i j → Ahead totals i j
        ahead (larger g) = inl g
        ahead (lower e g) = inr (e, g)

    none_of : (i : ℕ) → amount_at totals i ≡ 0 → share totals i ≡ 0
    none_of i e = elim (dec_lt i all_places) [
      | yes b ↦ share_is i b ∙ share_exact (amount_at totals) all_places h i (ap (remainder_of whole) e ∙ zero-mod whole) ∙ ap (floor_of whole) e ∙ zero-div whole
      | no b ↦ ap (λ (x : List ℕ). get_or x i 0) (parts_of (is_given totals h l)) ∙ get_or-eq_default given 0 (rw length_table (omega arith))
    ]

  long_of : Case → length (parts_shared totals) ≡ all_places
  long_of (zeros e) = ap length e ∙ length-replicate {A = ℕ} all_places 0
  long_of (some h l) = ap length (parts_of (is_given totals h l)) ∙ length_table all_places _

  nought : (i : ℕ) → amount_at totals i ≡ 0 → Case → share totals i ≡ 0
  nought i z (zeros e) = all-zero e i
  nought i z (some h l) = none_of h l i z

  demanded : Demanded totals
  demanded = record {
    long = long_of case;
    given = λ l. rw (le-ltb limit whole l) (refl, refl);
    shared = shared_all;
    past = λ h. rw (lt-ltb limit whole h) (refl, refl);
    past_none = λ h. all-zero (parts_of (is_past totals h));
    nothing = λ e. all-zero (parts_of (is_nothing totals e));
    none = λ i z. nought i z case;
  }

pub demands : Demands
demands = demanded
