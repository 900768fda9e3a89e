-- What a builder computes at one byte of one row, and where a byte leads from a row by falls. Assumes nothing.
use Rattle.std.specs.Prelude.{◌≡◌, ◌≢◌, Bool, ◌&&◌, ◌||◌, ℕ, suc, eqb}
use Rattle.sets.specs.Sets.{has, set_where}
use Rattle.meaning.specs.Rules.{Rules, count, size, fits_at}
use Rattle.meaning.specs.Tables.{no_entry}

-- rule k goes on with the byte c, from a row with this held length and live set: where nothing is held, any rule may begin
abbrev pub goes_on : Rules → ℕ → ℕ → ℕ → ℕ → Bool
goes_on r h s c k = fits_at r c k h && (eqb h 0 || has s k)

-- the rules that do
unfoldable pub next_live : Rules → ℕ → ℕ → ℕ → ℕ
next_live r h s c = set_where (count r) (goes_on r h s c)

-- the rules of the set s that have just h symbols
unfoldable pub finished : Rules → ℕ → ℕ → ℕ
finished r h s = set_where (count r) (λ k. eqb (size r k) h && has s k)

-- from row s the byte c leads to row e, by n falls
pub data Follows (goto : ℕ → ℕ → ℕ) (fall : ℕ → ℕ) (c : ℕ) : ℕ → ℕ → ℕ → Type 0 where
  goes : {s : ℕ} → goto s c ≢ no_entry → Follows goto fall c s 0 (goto s c)
  falls : {s n e : ℕ} → goto s c ≡ no_entry → Follows goto fall c (fall s) n e → Follows goto fall c s (suc n) e
