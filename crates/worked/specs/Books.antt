-- The paper's books X and Y, with their rows and the numbers of their rows, and a book Z in which a short rule ends with a longer one, written out; and
-- the fallbacks and held lengths of the paper's texts. Assumes nothing.
use Rattle.std.specs.Prelude.{◌≡◌, Bool, ◌&&◌, List, [], ◌∷◌, reverse, ℕ, leb, eqb, get_or}
use Rattle.rows.specs.Rows.{IsRows}
use Rattle.meaning.specs.Rules.{Rules}
use Rattle.meaning.specs.Standing.{Same, held}
use Rattle.meaning.specs.Falls.{falls_in}
use Rattle.meaning.specs.Tables.{Numbers}

-- a book, the least texts of its rows, the latest byte first, and what the tables hold for each row
pub record Written : Type 0 where
  pub book : Rules
  pub rows : List (List ℕ)
  pub fall : List ℕ
  pub held : List ℕ
  pub live : List ℕ
  pub out : List ℕ

-- they are the book's
pub record Right (w : Written) : Type 0 where
  pub rows : IsRows (Same w.book) w.rows
  pub numbers : Numbers w.book w.rows
      (record { fall = λ i. get_or w.fall i 0; held = λ i. get_or w.held i 0; live = λ i. get_or w.live i 0; out = λ i. get_or w.out i 0 })

-- picture 0 is a to z
abbrev pub a_to_z : ℕ → ℕ → Bool
a_to_z p c = eqb p 0 && leb 97 c && leb c 122

-- X: rule 0 is `a`, picture, `b`, picture. Its rows: the empty text, a, aa, ab, aab, abb, aaba, aabb, aabc
abbrev pub X : Written
X = record {
  book = record { rules = (97 ∷ 256 ∷ 98 ∷ 256 ∷ []) ∷ []; member = a_to_z };
  rows =
      [] ∷ (97 ∷ []) ∷ (97 ∷ 97 ∷ []) ∷ (98 ∷ 97 ∷ []) ∷ (98 ∷ 97 ∷ 97 ∷ []) ∷ (98 ∷ 98 ∷ 97 ∷ [])
      ∷ (97 ∷ 98 ∷ 97 ∷ 97 ∷ []) ∷ (98 ∷ 98 ∷ 97 ∷ 97 ∷ []) ∷ (99 ∷ 98 ∷ 97 ∷ 97 ∷ []) ∷ [];
  fall = 0 ∷ 0 ∷ 1 ∷ 0 ∷ 3 ∷ 0 ∷ 1 ∷ 5 ∷ 0 ∷ [];
  held = 0 ∷ 1 ∷ 2 ∷ 2 ∷ 3 ∷ 3 ∷ 4 ∷ 4 ∷ 4 ∷ [];
  live = 0 ∷ 1 ∷ 1 ∷ 1 ∷ 1 ∷ 1 ∷ 1 ∷ 1 ∷ 1 ∷ [];
  out = 0 ∷ 0 ∷ 0 ∷ 0 ∷ 0 ∷ 0 ∷ 1 ∷ 1 ∷ 1 ∷ [];
}

-- Y: rule 0 is picture, `1`; rule 1 is `a`, picture, `c`; rule 2 is `a`, `b`. Its rows: the empty text, a, b, a1, aa, ab, ac, aac, abc
abbrev pub Y : Written
Y = record {
  book = record { rules = (256 ∷ 49 ∷ []) ∷ (97 ∷ 256 ∷ 99 ∷ []) ∷ (97 ∷ 98 ∷ []) ∷ []; member = a_to_z };
  rows =
      [] ∷ (97 ∷ []) ∷ (98 ∷ []) ∷ (49 ∷ 97 ∷ []) ∷ (97 ∷ 97 ∷ []) ∷ (98 ∷ 97 ∷ []) ∷ (99 ∷ 97 ∷ []) ∷ (99 ∷ 97 ∷ 97 ∷ [])
      ∷ (99 ∷ 98 ∷ 97 ∷ []) ∷ [];
  fall = 0 ∷ 0 ∷ 0 ∷ 0 ∷ 1 ∷ 2 ∷ 2 ∷ 6 ∷ 2 ∷ [];
  held = 0 ∷ 1 ∷ 1 ∷ 2 ∷ 2 ∷ 2 ∷ 2 ∷ 3 ∷ 3 ∷ [];
  live = 0 ∷ 7 ∷ 1 ∷ 1 ∷ 2 ∷ 6 ∷ 2 ∷ 2 ∷ 2 ∷ [];
  out = 0 ∷ 0 ∷ 0 ∷ 1 ∷ 0 ∷ 4 ∷ 0 ∷ 2 ∷ 2 ∷ [];
}

-- Z: rule 0 is `a`, `b`; rule 1 is `b`. Its rows: the empty text, a, b, ab
abbrev pub Z : Written
Z = record {
  book = record { rules = (97 ∷ 98 ∷ []) ∷ (98 ∷ []) ∷ []; member = a_to_z };
  rows = [] ∷ (97 ∷ []) ∷ (98 ∷ []) ∷ (98 ∷ 97 ∷ []) ∷ [];
  fall = 0 ∷ 0 ∷ 0 ∷ 2 ∷ [];
  held = 0 ∷ 1 ∷ 1 ∷ 2 ∷ [];
  live = 0 ∷ 1 ∷ 2 ∷ 1 ∷ [];
  out = 0 ∷ 0 ∷ 2 ∷ 3 ∷ [];
}

-- a text in reading order makes f fallbacks and leaves h held
abbrev pub Reads : Written → List ℕ → ℕ → ℕ → Type 0
Reads w text f h = (falls_in w.book (reverse text) ≡ f) × (held w.book (reverse text) ≡ h)

-- aabab and aabbx over X, aab1 over Y
pub record Texts : Type 0 where
  pub aabab : Reads X (97 ∷ 97 ∷ 98 ∷ 97 ∷ 98 ∷ []) 1 2
  pub aabbx : Reads X (97 ∷ 97 ∷ 98 ∷ 98 ∷ 120 ∷ []) 1 4
  pub aab1 : Reads Y (97 ∷ 97 ∷ 98 ∷ 49 ∷ []) 2 2
