-- The shares of the records of the cases, from their totals. Assumes nothing.
use mathlib.Core.List.{List}
use mathlib.Core.Path.{◌≡◌, refl}
use Prim.Native.Nat.{ℕ, ◌+◌, ◌≤◌, ◌<◌}
use native.Mathlib.Omega.{arith}
use Rattle.shares.specs.Shares.{limit, total_of}
use Rattle.shares.specs.Demands.{share, floor}
use Rattle.shares.proofs.Demands.{demands}
use Rattle.totalled.proofs.Rounded.{Rounds, AtEnds, floor_of_lem, larger_at, lower_at, whole_is, adds_up, round_at, ahead_at}

-- five numbers are these
pub record TheseFive (s t u v x : ℕ) (a b c d e : ℕ) : Type 0 where
  pub first : s ≡ a
  pub second : t ≡ b
  pub third : u ≡ c
  pub fourth : v ≡ d
  pub last : x ≡ e

-- the shares in the first four places and the last
abbrev pub SharesAre : List ℕ → ℕ → ℕ → ℕ → ℕ → ℕ → Type 0
SharesAre totals a b c d e = TheseFive (share totals 0) (share totals 1) (share totals 2) (share totals 3) (share totals 256) a b c d e

-- 2, 3, 5 and 31 of 41: the remainders are 32, 7, 39 and 4, and two are missing
of_41 : {s t u v x : ℕ} → s + t + u + v + x ≡ 1000 → Rounds s 48 → Rounds t 73 → Rounds u 121 → v ≡ 0 → Rounds x 756
    → s + 121 ≤ u + 48 → t + 48 ≤ s + 73 → x + 73 ≤ t + 756 → TheseFive s t u v x 49 73 122 0 756
of_41 sum a b c z e l m n = record { first = omega arith; second = omega arith; third = omega arith; fourth = z; last = omega arith }

pub shares_41 : (totals : List ℕ) → AtEnds totals 2 3 5 0 31 → SharesAre totals 49 73 122 0 756
shares_41 totals x =
    let q : total_of totals ≡ 41 = whole_is x in
    let some : 0 < total_of totals = omega arith in
    let most : total_of totals ≤ limit = omega arith in
    let f0 : floor totals 0 ≡ 48 = floor_of_lem totals 0 q x.at0 in
    let f1 : floor totals 1 ≡ 73 = floor_of_lem totals 1 q x.at1 in
    let f2 : floor totals 2 ≡ 121 = floor_of_lem totals 2 q x.at2 in
    let f4 : floor totals 256 ≡ 756 = floor_of_lem totals 256 q x.last in
    of_41 (adds_up x some most) (round_at x some most 0 (omega arith) f0) (round_at x some most 1 (omega arith) f1) (round_at x some most 2 (omega arith) f2)
    ((demands totals).none 3 x.at3) (round_at x some most 256 (omega arith) f4)
    (ahead_at x some most 2 0 (omega arith) (omega arith) (larger_at totals 2 0 q x.at2 x.at0 (omega arith)) f2 f0)
    (ahead_at x some most 0 1 (omega arith) (omega arith) (larger_at totals 0 1 q x.at0 x.at1 (omega arith)) f0 f1)
    (ahead_at x some most 1 256 (omega arith) (omega arith) (larger_at totals 1 256 q x.at1 x.last (omega arith)) f1 f4)

-- 1, 4 and 4 of 9: the remainders are 1, 4 and 4, and one is missing
of_9 : {s t u v x : ℕ} → s + t + u + v + x ≡ 1000 → Rounds s 111 → Rounds t 444 → u ≡ 0 → v ≡ 0 → Rounds x 444 → x + 444 ≤ t + 444 → s + 444 ≤ x + 111
    → TheseFive s t u v x 111 445 0 0 444
of_9 sum a b y z e l m = record { first = omega arith; second = omega arith; third = y; fourth = z; last = omega arith }

pub shares_9 : (totals : List ℕ) → AtEnds totals 1 4 0 0 4 → SharesAre totals 111 445 0 0 444
shares_9 totals x =
    let q : total_of totals ≡ 9 = whole_is x in
    let some : 0 < total_of totals = omega arith in
    let most : total_of totals ≤ limit = omega arith in
    let f0 : floor totals 0 ≡ 111 = floor_of_lem totals 0 q x.at0 in
    let f1 : floor totals 1 ≡ 444 = floor_of_lem totals 1 q x.at1 in
    let f4 : floor totals 256 ≡ 444 = floor_of_lem totals 256 q x.last in
    of_9 (adds_up x some most) (round_at x some most 0 (omega arith) f0) (round_at x some most 1 (omega arith) f1)
    ((demands totals).none 2 x.at2) ((demands totals).none 3 x.at3) (round_at x some most 256 (omega arith) f4)
    (ahead_at x some most 1 256 (omega arith) (omega arith) (lower_at totals 1 256 q x.at1 x.last refl (omega arith)) f1 f4)
    (ahead_at x some most 256 0 (omega arith) (omega arith) (larger_at totals 256 0 q x.last x.at0 (omega arith)) f4 f0)

-- 3, 7, 5 and 35 of 50: nothing is missing
of_50 : {s t u v x : ℕ} → s + t + u + v + x ≡ 1000 → Rounds s 60 → Rounds t 140 → Rounds u 100 → v ≡ 0 → Rounds x 700 → TheseFive s t u v x 60 140 100 0 700
of_50 sum a b c z e = record { first = omega arith; second = omega arith; third = omega arith; fourth = z; last = omega arith }

pub shares_50 : (totals : List ℕ) → AtEnds totals 3 7 5 0 35 → SharesAre totals 60 140 100 0 700
shares_50 totals x =
    let q : total_of totals ≡ 50 = whole_is x in
    let some : 0 < total_of totals = omega arith in
    let most : total_of totals ≤ limit = omega arith in
    of_50 (adds_up x some most) (round_at x some most 0 (omega arith) (floor_of_lem totals 0 q x.at0)) (round_at x some most 1 (omega arith) (floor_of_lem totals 1 q x.at1))
    (round_at x some most 2 (omega arith) (floor_of_lem totals 2 q x.at2)) ((demands totals).none 3 x.at3) (round_at x some most 256 (omega arith) (floor_of_lem totals 256 q x.last))

-- all but 1 of the limit: 1 has the smaller remainder
of_limit : {s t u v x : ℕ} → s + t + u + v + x ≡ 1000 → Rounds s 0 → t ≡ 0 → u ≡ 0 → v ≡ 0 → Rounds x 999 → s + 999 ≤ x + 0 → TheseFive s t u v x 0 0 0 0 1000
of_limit sum a w y z e l = record { first = omega arith; second = w; third = y; fourth = z; last = omega arith }

pub shares_limit : (totals : List ℕ) → AtEnds totals 1 0 0 0 9007199254740990 → SharesAre totals 0 0 0 0 1000
shares_limit totals x =
    let q : total_of totals ≡ 9007199254740991 = whole_is x in
    let some : 0 < total_of totals = omega arith in
    let most : total_of totals ≤ limit = omega arith in
    let f0 : floor totals 0 ≡ 0 = floor_of_lem totals 0 q x.at0 in
    let f4 : floor totals 256 ≡ 999 = floor_of_lem totals 256 q x.last in
    of_limit (adds_up x some most) (round_at x some most 0 (omega arith) f0)
    ((demands totals).none 1 x.at1) ((demands totals).none 2 x.at2) ((demands totals).none 3 x.at3) (round_at x some most 256 (omega arith) f4)
    (ahead_at x some most 256 0 (omega arith) (omega arith) (larger_at totals 256 0 q x.last x.at0 (omega arith)) f4 f0)

-- all of it
of_1 : {s t u v x : ℕ} → s + t + u + v + x ≡ 1000 → t ≡ 0 → u ≡ 0 → v ≡ 0 → x ≡ 0 → TheseFive s t u v x 1000 0 0 0 0
of_1 sum w y z e = record { first = omega arith; second = w; third = y; fourth = z; last = e }

pub shares_1 : (totals : List ℕ) → AtEnds totals 1 0 0 0 0 → SharesAre totals 1000 0 0 0 0
shares_1 totals x =
    let q : total_of totals ≡ 1 = whole_is x in
    of_1 (adds_up x (omega arith) (omega arith)) ((demands totals).none 1 x.at1) ((demands totals).none 2 x.at2) ((demands totals).none 3 x.at3) ((demands totals).none 256 x.last)

-- nothing
pub shares_0 : (totals : List ℕ) → AtEnds totals 0 0 0 0 0 → SharesAre totals 0 0 0 0 0
shares_0 totals x = record {
  first = (demands totals).none 0 x.at0;
  second = (demands totals).none 1 x.at1;
  third = (demands totals).none 2 x.at2;
  fourth = (demands totals).none 3 x.at3;
  last = (demands totals).none 256 x.last;
}
