-- What a build leaves in the five buffers, by the number that it gives, entry by entry. Assumes nothing.
use Rattle.std.specs.Prelude.{◌≡◌, ◌≢◌, ℕ, ◌*◌, ◌≤◌, get_or}
use Rattle.meaning.specs.Tables.{Five}
use Rattle.lent.specs.Lent.{AsLong}
use Rattle.promised.specs.Promise.{number_of, value_of}
use Rattle.promised.specs.Exact.{BuildCall}

-- every entry is 0, and each buffer is as long as it was
pub record Cleared (old b : Five) : Type 0 where
  pub long : AsLong old b
  pub goto_is : (i : ℕ) → get_or b.goto i 0 ≡ 0
  pub fall_is : (i : ℕ) → get_or b.fall i 0 ≡ 0
  pub held_is : (i : ℕ) → get_or b.held i 0 ≡ 0
  pub live_is : (i : ℕ) → get_or b.live i 0 ≡ 0
  pub out_is : (i : ℕ) → get_or b.out i 0 ≡ 0

-- every entry from n rows on is 0: a row has 256 entries of goto, one of fall and of held, four of live and of out
pub record ZeroPast (n : ℕ) (b : Five) : Type 0 where
  pub goto_past : (i : ℕ) → 256 * n ≤ i → get_or b.goto i 0 ≡ 0
  pub fall_past : (i : ℕ) → n ≤ i → get_or b.fall i 0 ≡ 0
  pub held_past : (i : ℕ) → n ≤ i → get_or b.held i 0 ≡ 0
  pub live_past : (i : ℕ) → 4 * n ≤ i → get_or b.live i 0 ≡ 0
  pub out_past : (i : ℕ) → 4 * n ≤ i → get_or b.out i 0 ≡ 0

-- 1 to 9, 17 and 18 leave all as found; 10 leaves every entry 0; after 0 every entry past the rows used is 0; none changes a length
pub record BuffersAfter (c : BuildCall) : Type 0 where
  pub found : number_of c.answer ≢ 0 → number_of c.answer ≢ 10 → c.new ≡ c.old
  pub zeroes : number_of c.answer ≡ 10 → Cleared c.old c.new
  pub past : number_of c.answer ≡ 0 → ZeroPast (value_of c.answer) c.new
  pub long : AsLong c.old c.new

abbrev pub AfterBuild : Type 0
AfterBuild = (c : BuildCall) → BuffersAfter c
