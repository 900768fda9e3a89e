-- The limits in plain numbers, and the record of a small book place by place. Assumes nothing.
use Rattle.std.specs.Prelude.{true, false, [], ◌∷◌, ◌≡◌, length, get_or, replicate}
use Rattle.meaning.specs.Rules.{fits}
use Rattle.book.specs.Limits.{most_pictures, most_rules, most_symbols, places, most_rows, most_bytes}
use Rattle.book.specs.Content.{Content, record_of}
use Rattle.book.specs.Grown.{symbols_of, has_room}
use Rattle.book.specs.Meant.{rules_of, member_in}

pub record LimitsAre : Type 0 where
  pub pictures : most_pictures ≡ 16
  pub rules : most_rules ≡ 256
  pub symbols : most_symbols ≡ 64
  pub places : places ≡ 16384
  pub rows : most_rows ≡ 4096
  pub bytes : most_bytes ≡ 1048576
  -- a book has a rule 255 and none 256; a rule has 128 bytes at most
  pub rule255 : has_room 255 (0 ∷ 97 ∷ []) ≡ true
  pub rule256 : has_room 256 (0 ∷ 97 ∷ []) ≡ false
  pub body128 : has_room 0 (replicate 128 0) ≡ true
  pub body130 : has_room 0 (replicate 130 0) ≡ false

-- the pictures `a`, `b` and `b`; the rules `a`, picture 1 and picture 0, `x`
abbrev pub small_content : Content
small_content = record { pictures = (97 ∷ 98 ∷ []) ∷ (98 ∷ []) ∷ []; rules = (97 ∷ 257 ∷ []) ∷ (256 ∷ 120 ∷ []) ∷ [] }

pub record SmallRecord : Type 0 where
  -- a symbol is 256 times its kind plus its second byte
  pub body : symbols_of (0 ∷ 97 ∷ 1 ∷ 1 ∷ []) ≡ 97 ∷ 257 ∷ []
  -- rule k's symbols start at 64 * k; unused places are 0
  pub long : length (record_of small_content).symbols ≡ 16384
  pub at0 : get_or (record_of small_content).symbols 0 0 ≡ 97
  pub at1 : get_or (record_of small_content).symbols 1 0 ≡ 257
  pub at2 : get_or (record_of small_content).symbols 2 0 ≡ 0
  pub at63 : get_or (record_of small_content).symbols 63 0 ≡ 0
  pub at64 : get_or (record_of small_content).symbols 64 0 ≡ 256
  pub at65 : get_or (record_of small_content).symbols 65 0 ≡ 120
  pub at66 : get_or (record_of small_content).symbols 66 0 ≡ 0
  pub at128 : get_or (record_of small_content).symbols 128 0 ≡ 0
  -- lengths count symbols
  pub lengths : length (record_of small_content).lengths ≡ 256
  pub length1 : get_or (record_of small_content).lengths 1 0 ≡ 2
  pub length2 : get_or (record_of small_content).lengths 2 0 ≡ 0
  -- picture p is bit p of a byte's set
  pub map : length (record_of small_content).picture ≡ 256
  pub map97 : get_or (record_of small_content).picture 97 0 ≡ 1
  pub map98 : get_or (record_of small_content).picture 98 0 ≡ 3
  pub map99 : get_or (record_of small_content).picture 99 0 ≡ 0
  -- the counts
  pub pictures : (record_of small_content).pictures ≡ 2
  pub rules : (record_of small_content).rules ≡ 2
  -- a symbol below 256 is its byte, 256 picture 0 and 257 picture 1
  pub byte : fits (rules_of small_content) 97 97 ≡ true
  pub other_byte : fits (rules_of small_content) 98 97 ≡ false
  pub picture0 : fits (rules_of small_content) 97 256 ≡ true
  pub picture1 : fits (rules_of small_content) 98 257 ≡ true
  pub not_picture1 : fits (rules_of small_content) 97 257 ≡ false
  -- by the map, a byte with the set 3 is in pictures 0 and 1
  pub in0 : member_in (3 ∷ []) 0 0 ≡ true
  pub in1 : member_in (3 ∷ []) 1 0 ≡ true
  pub not_in2 : member_in (3 ∷ []) 2 0 ≡ false
