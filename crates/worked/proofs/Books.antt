-- The rows of the books X, Y and Z and their numbers, by one computed test for each; and the fallbacks of the paper's texts, computed. Assumes nothing.
use mathlib.Core.Path.{refl}
use Rattle.sets.specs.Sets.{set_where}
use Rattle.meaning.specs.Rules.{fits, fits_at, stands}
use Rattle.meaning.specs.Standing.{level, opens, largest, held, live, ends, out}
use Rattle.meaning.specs.Falls.{longest, next_longest, fits_with, falls_from, falls, falls_in}
use Rattle.worked.specs.Books.{Right, X, Y, Z, Texts}
use Rattle.meaning.proofs.Tested.{below}
use Rattle.worked.proofs.Checked.{same_text, is_before, any_of, bound, right}

pub X-right : Right X
unfolding same_text is_before any_of bound below level stands fits_at fits set_where opens largest held live ends out
X-right = right X (record { root = refl; some = tt; texts = tt; differ = tt; closed = tt; falls = tt; helds = tt; lives = tt; outs = tt })

pub Y-right : Right Y
unfolding same_text is_before any_of bound below level stands fits_at fits set_where opens largest held live ends out
Y-right = right Y (record { root = refl; some = tt; texts = tt; differ = tt; closed = tt; falls = tt; helds = tt; lives = tt; outs = tt })

pub Z-right : Right Z
unfolding same_text is_before any_of bound below level stands fits_at fits set_where opens largest held live ends out
Z-right = right Z (record { root = refl; some = tt; texts = tt; differ = tt; closed = tt; falls = tt; helds = tt; lives = tt; outs = tt })

pub texts : Texts
unfolding falls_in falls falls_from fits_with next_longest longest level stands fits_at fits set_where opens largest held
texts = record { aabab = (refl, refl); aabbx = (refl, refl); aab1 = (refl, refl) }
