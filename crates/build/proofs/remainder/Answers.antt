-- One digit more.
use mathlib.Core.Path.{◌≡◌, refl, sym, ap, ◌∙◌}
use mathlib.Core.List.{List, ◌∷◌, [], ◌++◌}
use Prim.Native.Nat.{ℕ, suc, ◌+◌, ◌*◌, ◌/◌, ◌%◌, ◌^◌, ◌<◌, ◌≤◌}
use native.Mathlib.Nat.{div-add-mod, add-mod-mod, add-mul-mod_self_left, le_refl}
use native.Mathlib.Omega.{arith}
use lib.ListN.{length, get_or, get_or-append, drop}
use lib.Seq.{drop-cons, drop-length}
use Rattle.std.proofs.lemmas.List.{length_push, get_or_push}
use Rattle.sets.specs.Sets.{set_of}
use Rattle.build.proofs.remainder.Goals as goal

digit-more : (ws : List ℕ) (i rest : ℕ) → i < length ws → rest ≡ set_of (drop (suc i) ws) % 4093 → (3888 * rest + get_or ws i 0 % 4093) % 4093 ≡ set_of (drop i ws) % 4093
unfolding set_of
digit-more ws i rest h e =
    let s = set_of (drop (suc i) ws) in
    let w = get_or ws i 0 in
    let q : s * 2 ^ 64 + w ≡ 3888 * rest + w + 4093 * (s / 4093 * 2 ^ 64 + rest * 4506900579943696) = omega (arith, div-add-mod s 4093) in
    rw (drop-cons ws i 0 h) (add-mod-mod (3888 * rest) w 4093 ∙ sym (ap (λ n. n % 4093) q ∙ add-mul-mod_self_left (3888 * rest + w) 4093 (s / 4093 * 2 ^ 64 + rest * 4506900579943696)))

-- `left` are the first words of the set, and the others leave `rest`
abbrev Passed : List ℕ → ℕ → List ℕ → Type 0
Passed set rest left = (length left ≤ length set) × ((i : ℕ) → i < length left → get_or left i 0 ≡ get_or set i 0) × (rest ≡ set_of (drop (length left) set) % 4093)

-- none is passed yet, and the last of them is passed
none : (set left : List ℕ) → left ≡ set → Passed set 0 left
unfolding set_of
none set left e = rw (e, drop-length set) (le_refl (length set), λ i l. refl, refl)

pass : (set left lefts : List ℕ) (rest w : ℕ) → lefts ≡ left ++ w ∷ [] → Passed set rest lefts → Passed set ((3888 * rest + w % 4093) % 4093) left
pass set left lefts rest w e (h, at, is) =
    let long : length lefts ≡ suc (length left) = ap length e ∙ length_push left w ∙ omega arith in
    let last : w ≡ get_or set (length left) 0 = sym (ap (λ l. get_or l (length left) 0) e ∙ get_or_push left w 0 (length left) refl) ∙ at (length left) (omega arith) in (
      omega arith,
      λ i l. sym (ap (λ l. get_or l i 0) e ∙ get_or-append left (w ∷ []) 0 i l) ∙ at i (omega arith),
      rw last (digit-more set (length left) rest (omega arith) (rw long at is)),
    )

all : (set left : List ℕ) (rest : ℕ) → length left ≡ 0 → Passed set rest left → rest ≡ set_of set % 4093
all set left rest e (h, at, is) = rw e at is

pub loop-word-init : goal.loop-word-init
loop-word-init c = none _ _ (ap (λ i. i.iter.rest.now) c.into_iter-word-iterator.ensures.into_iter_gives ∙ ap (λ i. i.rest.now) c.rev-word-items.ensures.source ∙ c.iter.ensures.rest)

pub loop-word-preserved : goal.loop-word-preserved
loop-word-preserved c = pass _ _ _ _ _ c.in-Some.ensures.steps c.loop-word.invariant

pub returns : goal.returns
returns c = all _ _ _ c.in-None.ensures.steps.0 c.loop-word.invariant
