-- Equal standings are a congruence, so the laws of rows hold of them. And the shorter text of a byte text is one. Assumes nothing.
use mathlib.Core.List.{List}
use Prim.Native.Nat.{ℕ, pred}
use Rattle.rows.specs.Rows.{ByteText}
use Rattle.rows.specs.Unique.{Congruence}
use Rattle.rows.proofs.Bytes.{bytes_take}
use Rattle.meaning.specs.Rules.{Rules}
use Rattle.meaning.specs.Standing.{Same, held}
use Rattle.meaning.proofs.Levels.{same_refl, same_sym, same_trans, same-cons}
use Rattle.meaning.proofs.Shorter.{shorter}

pub congruence : (r : Rules) → Congruence (Same r)
congruence r = record { same = same_refl r; flip = same_sym; join = same_trans; more = λ c s. same-cons c s }

pub bytes-shorter : (r : Rules) (t : List ℕ) → ByteText t → ByteText (shorter r t)
unfolding shorter
bytes-shorter r t b = bytes_take (pred (held r t)) t b
