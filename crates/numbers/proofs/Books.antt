-- What the bytes of the paper's books mean, and their rows with the numbers of their rows, by one computed test for each. Assumes nothing.
use mathlib.Core.Path.{◌≡◌, refl}
use mathlib.Core.List.{List, [], ◌∷◌}
use Prim.Native.Nat.{ℕ}
use Rattle.sets.specs.Sets.{set_where}
use Rattle.meaning.specs.Rules.{fits, fits_at, stands}
use Rattle.meaning.specs.Standing.{level, opens, largest, held, live, ends, out}
use Rattle.worked.specs.Books.{Written, Right, X, Y}
use Rattle.meaning.proofs.Tested.{below}
use Rattle.worked.proofs.Checked.{same_text, is_before, any_of, bound, right}
use Rattle.book.specs.Content.{Content, member}
use Rattle.format.specs.declared.Refusal.TheVariants.{NoRule}
use Rattle.book.specs.Grown.{symbols_of}
use Rattle.format.specs.Format.{means, refused, meaning_of, fields, follow, ended, field_at, field_of, head_at, picture_field, judge_picture, ascending_body, rises, rule_field, outcome, judge_rule, judge_symbol, first_of, judge_symbols}
use Rattle.book.specs.Meant.{rules_of}
use Rattle.numbers.specs.Inputs.{bytes_a, bytes_aa, letters, bytes_x, bytes_y}

-- ---- what they mean

pub record Means (bytes : List ℕ) (a : Content) : Type 0 where
  pub meant : meaning_of bytes ≡ means a

abbrev pub content_a : Content
content_a = record { pictures = []; rules = (97 ∷ []) ∷ [] }

abbrev pub content_aa : Content
content_aa = record { pictures = []; rules = (97 ∷ []) ∷ (97 ∷ []) ∷ [] }

abbrev pub content_x : Content
content_x = record { pictures = letters ∷ []; rules = X.book.rules }

abbrev pub content_y : Content
content_y = record { pictures = letters ∷ []; rules = Y.book.rules }

pub empty-refused : meaning_of [] ≡ refused (NoRule 0)
unfolding meaning_of fields ended
empty-refused = refl

pub means-A : Means bytes_a content_a
unfolding meaning_of fields follow ended field_at field_of head_at rule_field outcome judge_rule judge_symbols judge_symbol first_of symbols_of
means-A = record { meant = refl }

pub means-AA : Means bytes_aa content_aa
unfolding meaning_of fields follow ended field_at field_of head_at rule_field outcome judge_rule judge_symbols judge_symbol first_of symbols_of
means-AA = record { meant = refl }

pub means-X : Means bytes_x content_x
unfolding meaning_of fields follow ended field_at field_of head_at picture_field judge_picture ascending_body rises rule_field outcome judge_rule judge_symbols judge_symbol first_of symbols_of
means-X = record { meant = refl }

pub means-Y : Means bytes_y content_y
unfolding meaning_of fields follow ended field_at field_of head_at picture_field judge_picture ascending_body rises rule_field outcome judge_rule judge_symbols judge_symbol first_of symbols_of
means-Y = record { meant = refl }

-- ---- their rows

-- the rows of w, for the rules of a content
abbrev book_of : Content → Written → Written
book_of a w = record { book = rules_of a; rows = w.rows; fall = w.fall; held = w.held; live = w.live; out = w.out }

abbrev pub rows_a : Written
rows_a = record { book = rules_of content_a; rows = [] ∷ (97 ∷ []) ∷ []; fall = 0 ∷ 0 ∷ []; held = 0 ∷ 1 ∷ []; live = 0 ∷ 1 ∷ []; out = 0 ∷ 1 ∷ [] }

abbrev pub rows_x : Written
rows_x = book_of content_x X

abbrev pub rows_y : Written
rows_y = book_of content_y Y

pub A-right : Right rows_a
unfolding same_text is_before any_of bound below level stands fits_at fits set_where opens largest held live ends out member
A-right = right rows_a (record { root = refl; some = tt; texts = tt; differ = tt; closed = tt; falls = tt; helds = tt; lives = tt; outs = tt })

pub X-right : Right rows_x
unfolding same_text is_before any_of bound below level stands fits_at fits set_where opens largest held live ends out member
X-right = right rows_x (record { root = refl; some = tt; texts = tt; differ = tt; closed = tt; falls = tt; helds = tt; lives = tt; outs = tt })

pub Y-right : Right rows_y
unfolding same_text is_before any_of bound below level stands fits_at fits set_where opens largest held live ends out member
Y-right = right rows_y (record { root = refl; some = tt; texts = tt; differ = tt; closed = tt; falls = tt; helds = tt; lives = tt; outs = tt })
