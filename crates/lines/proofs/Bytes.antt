-- The lines and the frames of a profile of bytes are bytes. Assumes nothing.
use Prim.Native.Nat.{ℕ, zero, suc, ◌<◌}
use mathlib.Core.Bool.{Bool, true, false, cond}
use mathlib.Core.List.{List, [], ◌∷◌}
use lib.Dec.{eqb}
use lib.ListN.{get_or, take}
use Rattle.rows.specs.Rows.{ByteText}
use Rattle.rows.proofs.Bytes.{no_byte, byte_cons, bytes_take}
use Rattle.std.specs.Prelude.{Option, Some, None}
use Rattle.lines.specs.declared.Line.{Line}
use Rattle.lines.specs.Lines.{lf, semicolon, joined, split, lines_of, frames_of, line_of, on_line}
use Rattle.lines.specs.Profile.{frames_in, frame_at}

-- each piece is bytes
abbrev pub EachBytes : List (List ℕ) → Type 0
EachBytes ps = (i : ℕ) → ByteText (get_or ps i [])

no_piece : EachBytes []
no_piece i = no_byte

one_more : (p : List ℕ) (ps : List (List ℕ)) → ByteText p → EachBytes ps → EachBytes (p ∷ ps)
one_more p ps b a zero = b
one_more p ps b a (suc i) = a i

joined_bytes : (c : ℕ) (ps : List (List ℕ)) → c < 256 → EachBytes ps → EachBytes (joined c ps)
joined_bytes c [] h a = one_more (c ∷ []) [] (byte_cons c [] h no_byte) no_piece
joined_bytes c (p ∷ ps) h a = one_more (c ∷ p) ps (byte_cons c p h (a 0)) (λ i. a (suc i))

pieces_bytes : (mark : ℕ) (last : List (List ℕ)) → EachBytes last → (text : List ℕ) → ByteText text → EachBytes (split mark last text)
unfolding split
pieces_bytes mark last a [] b = a
pieces_bytes mark last a (c ∷ text) b = go (eqb c mark) (pieces_bytes mark last a text (λ i. b (suc i)))
  where
    go : (t : Bool) → EachBytes (split mark last text) → EachBytes (cond t ([] ∷ split mark last text) (joined c (split mark last text)))
    go true r = one_more [] (split mark last text) no_byte r
    go false r = joined_bytes c (split mark last text) (b 0) r

pub lines-bytes : (profile : List ℕ) → ByteText profile → EachBytes (lines_of profile)
lines-bytes profile b = pieces_bytes lf [] no_piece profile b

-- a line that breaks the rules has no frames
pub frames-bytes : (line : List ℕ) → ByteText line → EachBytes (frames_in line)
frames-bytes line b = go (line_of line)
  where
    go : (l : Option Line) → EachBytes (on_line l (λ stack count. frames_of (take stack line)) [])
    go (Some l) = pieces_bytes semicolon ([] ∷ []) (one_more [] [] no_byte no_piece) (take l.stack line) (bytes_take l.stack line b)
    go None = no_piece

pub frame_bytes : (profile : List ℕ) → ByteText profile → (i j : ℕ) → ByteText (frame_at profile i j)
frame_bytes profile b i j = frames-bytes (get_or (lines_of profile) i []) (lines-bytes profile b i) j
