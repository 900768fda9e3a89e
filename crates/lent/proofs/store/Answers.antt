-- The four entries written over are the row's.
use Rattle.std.proofs.Common.{◌≡◌, ℕ, List, ◌++◌, ◌+◌, ◌≤◌, ◌∙◌, append_assoc, arith, ap, length, take, drop, sym}
use Rattle.std.proofs.lemmas.List.Edits.{sets, sets-eq}
use borrow.Rule.Slice.PartMut.{put_mid}
use lib.Seq.{drop-drop}
use Rattle.lent.proofs.Storing.{stored_row_lem}
use Rattle.lent.proofs.store.Goals as goal

put_mid-sets : (a k : ℕ) (l ys vs : List ℕ) → ys ≡ vs → k ≡ length vs → a + k ≤ length l → put_mid a k l ys ≡ sets l a vs
put_mid-sets a k l ys vs e n h =
    ap (λ d. take a l ++ (ys ++ d)) (drop-drop k a l)
    ∙ ap (λ m. take a l ++ (ys ++ drop (a + m) l)) n
    ∙ ap (λ w. take a l ++ (w ++ drop (a + length vs) l)) e
    ∙ sym (append_assoc (take a l) vs (drop (a + length vs) l))
    ∙ sym (sets-eq vs l a (omega arith))

pub returns : goal.returns
returns c =
    put_mid-sets _ _ _ _ _ c.copy_from_slice.ensures.after (omega arith) (omega arith)
    ∙ sym (stored_row_lem c.args.table.now c.args.n c.args.set.now (omega arith) (omega arith))
