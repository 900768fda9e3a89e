-- Old tables, widened, are what a build of the same book leaves: both hold the tables of its rules. Assumes nothing.
use mathlib.Core.Path.{sym}
use Prim.Native.Nat.{ℕ}
use Rattle.meaning.specs.Tables.{Five, Alike}
use Rattle.lent.specs.Lent.{AsLong}
use Rattle.promised.specs.Exact.{OfWords}
use Rattle.promised.proofs.AsBefore.{of_sound}
use Rattle.listed.proofs.Whole.{built}
use Rattle.widened.specs.OneWord.{wide}
use Rattle.widened.specs.Built.{WideSame, WideBuilt}
use Rattle.widened.proofs.Laws.{words-widened}
use Rattle.widened.proofs.OneWord.{tables-equal}

words : (b : Five) (live out : ℕ) → OfWords b → OfWords (wide b live out)
words b live out w = record { live_words = words-widened live b.live w.live_words; out_words = words-widened out b.out w.out_words }

alike : (b b' : Five) (live out : ℕ) → AsLong (wide b live out) b' → OfWords b → OfWords b' → Alike (wide b live out) b'
alike b b' live out k w w' = let v = words b live out w in record {
  goto = sym k.goto_long;
  fall = sym k.fall_long;
  held = sym k.held_long;
  live = sym k.live_long;
  out = sym k.out_long;
  words = (v.live_words, w'.live_words, v.out_words, w'.out_words);
}

pub wide-same : WideSame
wide-same r b b' n n' live out x done y k w w' = tables-equal live out x done y (alike b b' live out k w w')

pub wide-built : WideBuilt
wide-built c zero a e b n live out x done k w w' =
    wide-same _ b c.new n _ live out x done (built (of_sound a e c.promise) zero).0 k w w'
