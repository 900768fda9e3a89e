-- Pictures that lie apart, and the picture map as it was while they had to: for each byte value the number of its one picture. It is kept for one theorem:
-- of a book whose pictures lie apart that map says what the sets say. Assumes nothing.
use Rattle.std.specs.Prelude.{ℕ, suc, ◌≡◌, ◌↔◌, Bool, true, ◌&&◌, cond, List, [], ◌∷◌, get_or, take, eqb, ltb}
use Rattle.meaning.specs.Rules.{Rules}
use Rattle.book.specs.Limits.{most_pictures}
use Rattle.book.specs.Content.{Content, member, table, map_of, record_of}
use Rattle.book.specs.Sound.{Sound}
use Rattle.book.specs.Meant.{member_in, rules_held}

-- no byte is in two of the pictures
abbrev pub Apart : List (List ℕ) → Type 0
Apart ps = (p q c : ℕ) → member c (get_or ps p []) ≡ true → member c (get_or ps q []) ≡ true → p ≡ q

-- the picture m shares a byte with one of ps: what the number 4 was given for, where ps stand earlier
pub record Shares (ps : List (List ℕ)) (m : List ℕ) : Type 0 where
  pub byte : ℕ
  pub other : ℕ
  pub here : member byte m ≡ true
  pub there : member byte (get_or ps other []) ≡ true

-- pictures lie apart just where none of them shares a byte with an earlier one
abbrev pub ApartIsUnshared : Type 0
ApartIsUnshared = (ps : List (List ℕ)) → Apart ps ↔ ((i : ℕ) → ¬ Shares (take i ps) (get_or ps i []))

-- ---- the map as it was

-- the number of the first picture with the byte c, where the first has the number p; 16 where there is none
unfoldable pub picture_from : ℕ → List (List ℕ) → ℕ → ℕ
picture_from p [] c = most_pictures
picture_from p (m ∷ ms) c = cond (member c m) p (picture_from (suc p) ms c)

-- the picture of each byte value
unfoldable pub map_before : List (List ℕ) → List ℕ
map_before ps = table 256 (picture_from 0 ps)

-- by that map, is the byte c a member of picture p
unfoldable pub member_before : List ℕ → ℕ → ℕ → Bool
member_before map p c = ltb c 256 && ltb p most_pictures && eqb (get_or map c 0) p

-- the rules of what a record holds, with the members by that map
abbrev pub rules_before : Content → Rules
rules_before a = record { rules = (rules_held (record_of a)).rules; member = member_before (map_before a.pictures) }

-- of a book whose pictures lie apart, the number and the set say the same of each picture and byte; so its rules are those it had
pub record AsBefore (a : Content) : Type 0 where
  pub members : (p c : ℕ) → member_before (map_before a.pictures) p c ≡ member_in (map_of a.pictures) p c
  pub rules : rules_before a ≡ rules_held (record_of a)

abbrev pub ApartAsBefore : Type 0
ApartAsBefore = (a : Content) → Sound a → Apart a.pictures → AsBefore a
