-- The picture map: the set at each byte, and the map of one picture more. Assumes nothing.
use Prim.Native.Nat.{ℕ, ◌≤◌, ◌<◌}
use mathlib.Core.Path.{◌≡◌, refl, ◌∙◌}
use mathlib.Core.Bool.{Bool, true, false, ◌||◌, cond, or-true, or-false}
use mathlib.Core.List.{List, [], ◌∷◌, ◌++◌}
use native.Mathlib.Omega.{arith}
use borrow.Author.Tests.{eqb-true, eqb-false, eq-eqb, ne_eqb, lt-ltb, le-ltb}
use lib.ListN.{length, get_or, set, length-set, get_or-eq_default}
use lib.Seq.{get_or-set_same, get_or-set_other}
use lib.Dec.{eqb}
use Rattle.sets.specs.Sets.{has, adding}
use Rattle.sets.proofs.Laws.{has_in, has-set_where, set_where-ext, adding_again}
use Rattle.book.specs.Limits.{most_pictures}
use Rattle.book.specs.Content.{member, pictures_with, map_of}
use Rattle.book.specs.Grown.{mark}
use Rattle.book.proofs.Cases.{by_test, by_lt}
use Rattle.book.proofs.Tables.{length_table, get_or_table, is_table, at_snoc}

pub get_or-map : (ps : List (List ℕ)) (c : ℕ) → c < 256 → get_or (map_of ps) c 0 ≡ pictures_with ps c
unfolding map_of
get_or-map ps c h = get_or_table 256 (pictures_with ps) c 0 h

pub length-map : (ps : List (List ℕ)) → length (map_of ps) ≡ 256
unfolding map_of
length-map ps = length_table 256 (pictures_with ps)

-- p is in the set of c where picture p has c
pub has_pictures : (ps : List (List ℕ)) → length ps ≤ most_pictures → (p c : ℕ) → has (pictures_with ps c) p ≡ member c (get_or ps p [])
unfolding pictures_with member
has_pictures ps few p c =
    has-set_where most_pictures p (λ q. member c (get_or ps q []))
    ∙ by_lt p most_pictures
    (λ h. rw (lt-ltb p most_pictures h))
    (λ h. rw (le-ltb p most_pictures h, get_or-eq_default ps [] {n = p} (omega arith)))

-- ---- a picture more

length-mark : (p : ℕ) (m map : List ℕ) → length (mark p map m) ≡ length map
unfolding mark
length-mark p [] map = refl
length-mark p (x ∷ m) map = length-mark p m _ ∙ length-set map x _

-- the set of a byte that is marked, and of one that is not
get_or-mark : (p : ℕ) (m map : List ℕ) (c : ℕ) → c < length map → get_or (mark p map m) c 0 ≡ cond (member c m) (adding most_pictures (get_or map c 0) p) (get_or map c 0)
unfolding mark member
get_or-mark p [] map c h = refl
get_or-mark p (x ∷ m) map c h =
    let v = adding most_pictures (get_or map x 0) p in
    get_or-mark p m (set map x v) c (rw length-set h)
    ∙ by_test (eqb c x)
    (λ e. let q : c ≡ x = eqb-true c x e in rw (e, q, get_or-set_same map x v 0 (omega arith)) (same (member x m) (adding_again most_pictures (get_or map x 0) p)))
    (λ e. rw (e, get_or-set_other map x c v 0 (eqb-false c x e)))
  where
    same : {u v : ℕ} (t : Bool) → u ≡ v → cond t u v ≡ v
    same true q = q
    same false q = refl

-- the set of c with the number of the new picture, where that has c
set_more : (ps : List (List ℕ)) (m : List ℕ) (c : ℕ) → cond (member c m) (adding most_pictures (pictures_with ps c) (length ps)) (pictures_with ps c) ≡ pictures_with (ps ++ m ∷ []) c
unfolding pictures_with adding member
set_more ps m c =
    by_test (member c m)
    (λ t.
    rw t
    (set_where-ext most_pictures _ _
    (λ i h.
    rw (has_in most_pictures i f h)
    (at_snoc ps m (λ l. (f i || eqb i (length ps)) ≡ member c l) i
    (λ e. rw (eq-eqb i (length ps) e, or-true, t))
    (λ n. rw (ne_eqb i (length ps) n, or-false))))))
    (λ t.
    rw t
    (set_where-ext most_pictures _ _
    (λ i h.
    at_snoc ps m (λ l. f i ≡ member c l) i
    (λ e. rw (get_or-eq_default ps [] {n = i} (omega arith), t))
    (λ n. refl))))
  where
    f : ℕ → Bool
    f p = member c (get_or ps p [])

pub map_more : (ps : List (List ℕ)) (m : List ℕ) → mark (length ps) (map_of ps) m ≡ map_of (ps ++ m ∷ [])
unfolding map_of
map_more ps m =
    is_table 256 (pictures_with (ps ++ m ∷ [])) (mark (length ps) (map_of ps) m)
    (length-mark (length ps) m (map_of ps) ∙ length-map ps)
    (λ c k. get_or-mark (length ps) m (map_of ps) c (rw length-map k) ∙ rw (get_or-map ps c k) (set_more ps m c))
