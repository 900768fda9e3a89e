-- Pictures lie apart where none shares a byte with an earlier one; and of a book with such pictures the number of a byte's one picture and the set of its
-- pictures say the same. Assumes nothing.
use Prim.Native.Nat.{ℕ, zero, suc, ◌+◌, ◌<◌}
use mathlib.Core.Path.{◌≡◌, refl, sym, subst, ◌∙◌}
use mathlib.Core.Bool.{true, false, ◌&&◌, and-false}
use mathlib.Core.List.{List, [], ◌∷◌}
use native.Mathlib.Nat.{add-zero}
use native.Mathlib.Omega.{arith}
use borrow.Author.Tests.{eq-eqb, ne_eqb, lt-ltb, le-ltb}
use lib.ListN.{length, get_or, take, length-take, get_or-eq_default}
use lib.Seq.{get_or-take}
use lib.Dec.{eqb, ltb}
use Rattle.book.specs.Limits.{most_pictures}
use Rattle.book.specs.Content.{Content, member, map_of, record_of}
use Rattle.book.specs.Sound.{Sound}
use Rattle.book.specs.Meant.{member_in, rules_in, rules_held}
use Rattle.book.specs.Apart.{Apart, Shares, ApartIsUnshared, picture_from, map_before, member_before, ApartAsBefore}
use Rattle.book.proofs.Cases.{by_test, by_lt, by_eq, clash}
use Rattle.book.proofs.Tables.{get_or_table}
use Rattle.book.proofs.Meant.{member-past, member-same}

-- a picture with a member is one of the book
inside : (ps : List (List ℕ)) (q c : ℕ) → member c (get_or ps q []) ≡ true → q < length ps
unfolding member
inside ps q c t = by_lt q (length ps) (λ l. l) (λ l. clash t (rw (get_or-eq_default ps [] {n = q} l)))

-- none shares a byte with an earlier one
pub apart-unshared : ApartIsUnshared
apart-unshared ps = (into, onto)
  where
    into : Apart ps → (i : ℕ) → ¬ Shares (take i ps) (get_or ps i [])
    into apart i s =
        let l : s.other < i = omega (arith, inside (take i ps) s.other s.byte s.there, length-take i ps) in
        omega (arith, apart s.other i s.byte (rw (get_or-take i ps s.other [] l) at s.there) s.here)

    earlier : ((i : ℕ) → ¬ Shares (take i ps) (get_or ps i [])) → (p q c : ℕ) → p < q → member c (get_or ps p []) ≡ true → member c (get_or ps q []) ≡ true → ⊥
    earlier f p q c l t u = f q (record { byte = c; other = p; here = u; there = rw (get_or-take q ps p [] l) t })

    onto : ((i : ℕ) → ¬ Shares (take i ps) (get_or ps i [])) → Apart ps
    onto f p q c t u =
        by_lt p q (λ l. absurd (earlier f p q c l t u))
        (λ l. by_lt q p (λ k. absurd (earlier f q p c k u t)) (λ k. omega arith))

-- what the number of a byte says: the picture q has it, or none has
data OneOrNone (ps : List (List ℕ)) (c p : ℕ) : ℕ → Type 0 where
  one : (q : ℕ) → member c (get_or ps q []) ≡ true → OneOrNone ps c p (p + q)
  none : ((q : ℕ) → member c (get_or ps q []) ≡ false) → OneOrNone ps c p most_pictures

one_or_none : (p : ℕ) (ps : List (List ℕ)) (c : ℕ) → OneOrNone ps c p (picture_from p ps c)
unfolding picture_from member
one_or_none p [] c = none (λ q. refl)
one_or_none p (m ∷ ps) c =
    by_test (member c m)
    (λ t. rw t (subst (OneOrNone (m ∷ ps) c p) (add-zero p) (one zero t)))
    (λ t. rw t (later t (one_or_none (suc p) ps c)))
  where
    neither : member c m ≡ false → ((q : ℕ) → member c (get_or ps q []) ≡ false) → (q : ℕ) → member c (get_or (m ∷ ps) q []) ≡ false
    neither t f zero = t
    neither t f (suc q) = f q

    later : {n : ℕ} → member c m ≡ false → OneOrNone ps c (suc p) n → OneOrNone (m ∷ ps) c p n
    later t (one q u) = let e : p + suc q ≡ suc p + q = omega arith in subst (OneOrNone (m ∷ ps) c p) e (one (suc q) u)
    later t (none f) = none (neither t f)

module _ (a : Content) (S : Sound a) (apart : Apart a.pictures) where
  abbrev ps : List (List ℕ)
  ps = a.pictures

  by_number : (p c : ℕ) {n : ℕ} → OneOrNone ps c 0 n → (ltb p most_pictures && eqb n p) ≡ member c (get_or ps p [])
  by_number p c (one q t) =
      by_eq (0 + q) p
      (λ e.
      let w : q ≡ p = omega arith in
      let u : member c (get_or ps p []) ≡ true = rw w at t in
      rw (u, eq-eqb (0 + q) p e, lt-ltb p most_pictures (omega (arith, inside ps p c u, S.few_pictures))))
      (λ n.
      by_test (member c (get_or ps p []))
      (λ u. absurd (n (omega (arith, apart q p c t u))))
      (λ u. rw (u, ne_eqb (0 + q) p n) (and-false (ltb p most_pictures))))
  by_number p c (none f) =
      rw (f p) (by_lt p most_pictures (λ l. rw (lt-ltb p most_pictures l) (ne_eqb most_pictures p (λ e. omega arith))) (λ l. rw (le-ltb p most_pictures l)))

  member_before_lem : (p c : ℕ) → member_before (map_before ps) p c ≡ member c (get_or ps p [])
  unfolding member_before map_before
  member_before_lem p c =
      by_lt c 256
      (λ h. rw (lt-ltb c 256 h, get_or_table 256 (picture_from 0 ps) c 0 h) (by_number p c (one_or_none 0 ps c)))
      (λ h. rw (le-ltb c 256 h) (member-past a S p c h))

  members : (p c : ℕ) → member_before (map_before ps) p c ≡ member_in (map_of ps) p c
  members p c = member_before_lem p c ∙ sym (member-same a S p c)

pub apart_as_before : ApartAsBefore
unfolding record_of rules_in
apart_as_before a S apart = record {
  members = members a S apart;
  rules = λ i. record { rules = (rules_held (record_of a)).rules; member = λ p c. members a S apart p c i };
}
