-- What the five tables hold for the rows ts of a book. A table is read by row, and goto by row and byte; `Tables` says how five buffers are read so.
-- Assumes nothing.
use Rattle.std.specs.Prelude.{◌≡◌, Bool, true, false, ◌||◌, List, [], ◌∷◌, ℕ, ◌+◌, ◌*◌, ◌^◌, ◌≤◌, ◌<◌, eqb, length, get_or}
use Rattle.rows.specs.Rows.{IsRow, IsRows}
use Rattle.sets.specs.Table.{row_words, rules_at}
use Rattle.meaning.specs.Rules.{Rules}
use Rattle.meaning.specs.Standing.{Same, Shorter, held, live, out, extends}

-- the entry that says: fall back
abbrev pub no_entry : ℕ
no_entry = 65535

-- the tables but goto
pub record Columns : Type 0 where
  pub fall : ℕ → ℕ
  pub held : ℕ → ℕ
  pub live : ℕ → ℕ
  pub out : ℕ → ℕ

-- v is the row whose standing is that of t without its pairs of the held length
pub record IsFall (r : Rules) (ts : List (List ℕ)) (t : List ℕ) (v : ℕ) : Type 0 where
  pub below : v < length ts
  pub shorter : Shorter r t (get_or ts v [])

-- what they hold
pub record Numbers (r : Rules) (ts : List (List ℕ)) (x : Columns) : Type 0 where
  pub fall_is : (i : ℕ) → i < length ts → IsFall r ts (get_or ts i []) (x.fall i)
  pub held_is : (i : ℕ) → i < length ts → x.held i ≡ held r (get_or ts i [])
  pub live_is : (i : ℕ) → i < length ts → x.live i ≡ live r (get_or ts i [])
  pub out_is : (i : ℕ) → i < length ts → x.out i ≡ out r (get_or ts i [])

-- the entry e of a row of the text t at the byte c, where the walk goes on and where it falls back
pub record Entry (r : Rules) (ts : List (List ℕ)) (t : List ℕ) (c e : ℕ) (goes : Bool) : Type 0 where
  pub on : goes ≡ true → IsRow (Same r) ts (c ∷ t) e
  pub back : goes ≡ false → e ≡ no_entry

-- whether the walk goes on from row i at the byte c: row 0 always does
abbrev pub goes_on_at : Rules → List (List ℕ) → ℕ → ℕ → Bool
goes_on_at r ts i c = eqb i 0 || extends r (get_or ts i []) c

-- the entry at row i and byte c
abbrev pub EntryAt : Rules → List (List ℕ) → (ℕ → ℕ → ℕ) → ℕ → ℕ → Type 0
EntryAt r ts goto i c = Entry r ts (get_or ts i []) c (goto i c) (goes_on_at r ts i c)

-- what goto holds
pub record Gotos (r : Rules) (ts : List (List ℕ)) (goto : ℕ → ℕ → ℕ) : Type 0 where
  pub entry : (i c : ℕ) → i < length ts → c < 256 → EntryAt r ts goto i c

-- ---- five buffers

pub record Five : Type 0 where
  pub goto : List ℕ
  pub fall : List ℕ
  pub held : List ℕ
  pub live : List ℕ
  pub out : List ℕ

-- goto has 256 entries a row
abbrev pub goto_at : List ℕ → ℕ → ℕ → ℕ
goto_at goto i c = get_or goto (256 * i + c) 0

abbrev pub columns : Five → Columns
columns b = record { fall = λ i. get_or b.fall i 0; held = λ i. get_or b.held i 0; live = rules_at b.live; out = rules_at b.out }

-- every entry from place n on is 0
abbrev pub ZeroFrom : ℕ → List ℕ → Type 0
ZeroFrom n xs = (i : ℕ) → n ≤ i → get_or xs i 0 ≡ 0

-- every entry past the last of n rows is 0
pub record Rest (n : ℕ) (b : Five) : Type 0 where
  pub goto_rest : ZeroFrom (256 * n) b.goto
  pub fall_rest : ZeroFrom n b.fall
  pub held_rest : ZeroFrom n b.held
  pub live_rest : ZeroFrom (row_words * n) b.live
  pub out_rest : ZeroFrom (row_words * n) b.out

-- the buffers hold the tables of the rules r, with n rows
pub record Tables (r : Rules) (b : Five) (n : ℕ) : Type 0 where
  pub texts : List (List ℕ)
  pub count : length texts ≡ n
  pub rows : IsRows (Same r) texts
  pub numbers : Numbers r texts (columns b)
  pub gotos : Gotos r texts (goto_at b.goto)
  pub rest : Rest n b

-- ---- one content

-- every number is a word of 64 bits
abbrev pub AreWords : List ℕ → Type 0
AreWords xs = (i : ℕ) → get_or xs i 0 < 2 ^ 64

-- the buffers are as long as one another, and live and out are words
pub record Alike (b b' : Five) : Type 0 where
  pub goto : length b.goto ≡ length b'.goto
  pub fall : length b.fall ≡ length b'.fall
  pub held : length b.held ≡ length b'.held
  pub live : length b.live ≡ length b'.live
  pub out : length b.out ≡ length b'.out
  pub words : AreWords b.live × AreWords b'.live × AreWords b.out × AreWords b'.out

-- such buffers have one content where they hold the tables of the same rules
abbrev pub OneFive : Type 0
OneFive = (r : Rules) (b b' : Five) (n : ℕ) → Tables r b n → Tables r b' n → Alike b b' → b ≡ b'
