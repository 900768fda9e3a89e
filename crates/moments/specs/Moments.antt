-- What a reference that is lent refers to when a function is called, and when it returns: `x.entry.now` and `x.exit.now`, in one word each. Contracts write
-- `x.now`, `x.old` and `x.new` for them.
-- Assumes nothing.
use Rattle.std.specs.Borrow.{Bor, MutBor}
use denote.Triple.Both.{Both}

-- when the function is called, of a `&`
abbrev pub was : {A X : Type 0} → Both (Bor A) X → A
was x = x.entry.now

-- the same of a `&mut`
abbrev pub was_of_mut : {A X : Type 0} → Both (MutBor A) X → A
was_of_mut x = x.entry.now

-- when it returns
abbrev pub left : {A E : Type 0} → Both E (MutBor A) → A
left x = x.exit.now
