-- The limits and the record of a small book are as written out, by computation. Assumes nothing.
use Prim.Native.Nat.{ℕ, ◌/◌, ◌%◌, ◌<◌}
use mathlib.Core.List.{[]}
use mathlib.Core.Path.{◌≡◌, refl}
use native.Mathlib.Omega.{arith}
use lib.ListN.{length, get_or}
use Rattle.sets.specs.Sets.{has, set_where}
use Rattle.meaning.specs.Rules.{fits}
use Rattle.book.specs.Limits.{most_rules, most_symbols, places}
use Rattle.book.specs.Content.{member, pictures_with, symbol_at, padded, sizes, record_of}
use Rattle.book.specs.Grown.{symbols_of, has_room}
use Rattle.book.specs.Meant.{member_in}
use Rattle.book.specs.ByNumbers.{LimitsAre, small_content, SmallRecord}
use Rattle.book.proofs.Tables.{length_table, get_or_table, get_or-sizes}
use Rattle.book.proofs.Pictures.{get_or-map, length-map}

pub limits : LimitsAre
unfolding has_room
limits = record {
  pictures = refl;
  rules = refl;
  symbols = refl;
  places = refl;
  rows = refl;
  bytes = refl;
  rule255 = refl;
  rule256 = refl;
  body128 = refl;
  body130 = refl;
}

-- ---- the record, by the laws of its tables: 16,384 places are too many to compute

abbrev symbol_in : ℕ → ℕ
symbol_in i = symbol_at small_content.rules (i / most_symbols) (i % most_symbols)

symbols_long : length (record_of small_content).symbols ≡ places
unfolding padded record_of
symbols_long = length_table places symbol_in

symbol_there : (i : ℕ) → i < places → get_or (record_of small_content).symbols i 0 ≡ symbol_in i
unfolding padded record_of
symbol_there i h = get_or_table places symbol_in i 0 h

lengths_long : length (record_of small_content).lengths ≡ most_rules
unfolding sizes record_of
lengths_long = length_table most_rules (λ k. length (get_or small_content.rules k []))

length_at : (k : ℕ) → k < most_rules → get_or (record_of small_content).lengths k 0 ≡ length (get_or small_content.rules k [])
unfolding record_of
length_at k h = get_or-sizes most_rules small_content.rules k h

pub small_record : SmallRecord
unfolding symbols_of set_where has member pictures_with record_of fits member_in
small_record = record {
  body = refl;
  long = symbols_long;
  at0 = symbol_there 0 (omega arith);
  at1 = symbol_there 1 (omega arith);
  at2 = symbol_there 2 (omega arith);
  at63 = symbol_there 63 (omega arith);
  at64 = symbol_there 64 (omega arith);
  at65 = symbol_there 65 (omega arith);
  at66 = symbol_there 66 (omega arith);
  at128 = symbol_there 128 (omega arith);
  lengths = lengths_long;
  length1 = length_at 1 (omega arith);
  length2 = length_at 2 (omega arith);
  map = length-map small_content.pictures;
  map97 = get_or-map small_content.pictures 97 (omega arith);
  map98 = get_or-map small_content.pictures 98 (omega arith);
  map99 = get_or-map small_content.pictures 99 (omega arith);
  pictures = refl;
  rules = refl;
  byte = refl;
  other_byte = refl;
  picture0 = refl;
  picture1 = refl;
  not_picture1 = refl;
  in0 = refl;
  in1 = refl;
  not_in2 = refl;
}
