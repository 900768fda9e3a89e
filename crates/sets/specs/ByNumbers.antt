-- Sets and tables of sets by numbers written out: rule k at bit k, the lowest word first, four words a row. Assumes nothing.
use Rattle.std.specs.Prelude.{[], ◌∷◌, ◌≡◌}
use Rattle.sets.specs.Sets.{adding, members, members_of, united, reports}
use Rattle.sets.specs.Table.{rules_at}

pub record SetsByNumbers : Type 0 where
  -- 37 is 1 + 4 + 32; with 1 in it too it is 39
  pub bits : members 6 37 ≡ 0 ∷ 2 ∷ 5 ∷ []
  pub more : adding 6 37 1 ≡ 39
  -- 6 is not below 6
  pub past : adding 6 37 6 ≡ 37
  -- bit k of word i is 64 * i + k
  pub words : members_of (1 ∷ 2 ∷ 4 ∷ 8 ∷ []) ≡ 0 ∷ 65 ∷ 130 ∷ 195 ∷ []
  pub both : united (1 ∷ 2 ∷ []) (4 ∷ 2 ∷ []) ≡ 5 ∷ 2 ∷ []
  -- the end, then the rule
  pub pairs : reports 4 (0 ∷ 2 ∷ []) ≡ 4 ∷ 0 ∷ 4 ∷ 2 ∷ []
  -- row 1 is words 4 to 7: 1 + 2 * 2^64 + 4 * 2^128 + 8 * 2^192
  pub row0 : rules_at (5 ∷ 0 ∷ 0 ∷ 0 ∷ 1 ∷ 2 ∷ 4 ∷ 8 ∷ []) 0 ≡ 5
  pub row1 : rules_at (5 ∷ 0 ∷ 0 ∷ 0 ∷ 1 ∷ 2 ∷ 4 ∷ 8 ∷ []) 1 ≡ 50216813883093446112047444853345085182709235473586768052225
