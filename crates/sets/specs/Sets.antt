-- Sets of numbers, each as one number: k is in the set where the bit k is set. Assumes nothing.
use Rattle.std.specs.Prelude.{Bool, true, false, cond, ◌||◌, List, [], ◌∷◌, ◌++◌, map, ℕ, zero, suc, ◌+◌, ◌-◌, ◌*◌, ◌/◌, ◌%◌, ◌^◌, min, eqb, length, get_or, take, drop}
use Rattle.std.specs.Int.Bits.{bit_or}

-- whether k is in the set s
unfoldable pub has : ℕ → ℕ → Bool
has s k = eqb (s / 2 ^ k % 2) 1

-- the set of the k below n with p k
unfoldable pub set_where : ℕ → (ℕ → Bool) → ℕ
set_where zero p = 0
set_where (suc n) p = set_where n p + cond (p n) (2 ^ n) 0

-- the set s with k in it too, where k is below n
unfoldable pub adding : ℕ → ℕ → ℕ → ℕ
adding n s k = set_where n (λ i. has s i || eqb i k)

-- k in front of ks where it is kept
abbrev pub keep : Bool → ℕ → List ℕ → List ℕ
keep true k ks = k ∷ ks
keep false k ks = ks

-- of the n numbers from i on, those with p, ascending
unfoldable pub those : (ℕ → Bool) → ℕ → ℕ → List ℕ
those p i zero = []
those p i (suc n) = keep (p i) i (those p (suc i) n)

-- the members below n of the set s, ascending
unfoldable pub members : ℕ → ℕ → List ℕ
members n s = those (has s) 0 n

-- whether k is in a list
unfoldable pub among : ℕ → List ℕ → Bool
among k [] = false
among k (j ∷ js) = eqb j k || among k js

-- the set that words of 64 bits make, lowest first: the member 64 * i + k is bit k of word i
unfoldable pub set_of : List ℕ → ℕ
set_of [] = 0
set_of (w ∷ ws) = set_of ws * 2 ^ 64 + w

-- its members, ascending
unfoldable pub members_of : List ℕ → List ℕ
members_of ws = members (64 * length ws) (set_of ws)

-- each of ks, plus b
abbrev pub plus_each : ℕ → List ℕ → List ℕ
plus_each b ks = map (λ k. b + k) ks

-- word i of the set of the k below n with p k
abbrev pub word_where : ℕ → (ℕ → Bool) → ℕ → ℕ
word_where n p i = set_where (min 64 (n - 64 * i)) (λ k. p (64 * i + k))

-- the words us, each united with the word of vs in its place
unfoldable pub united : List ℕ → List ℕ → List ℕ
united [] vs = []
united (u ∷ us) vs = bit_or u (get_or vs 0 0) ∷ united us (drop 1 vs)

-- the reports of the rules ks, all ending at e: two numbers each
unfoldable pub reports : ℕ → List ℕ → List ℕ
reports e [] = []
reports e (k ∷ ks) = e ∷ k ∷ reports e ks

-- how many pairs have room in a buffer of n places, from place i on
abbrev pub pairs_from : ℕ → ℕ → ℕ
pairs_from n i = (n - i) / 2

-- the members of a word whose pairs have room there
abbrev pub with_room : ℕ → ℕ → ℕ → List ℕ
with_room n i s = take (pairs_from n i) (members 64 s)

-- a buffer with new entries in place of those from i to j
abbrev pub replaced : ℕ → ℕ → List ℕ → List ℕ → List ℕ
replaced i j new old = take i old ++ new ++ drop j old
