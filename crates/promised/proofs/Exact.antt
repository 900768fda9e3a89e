-- A book has room exactly when it has not more standings than rows lent, and what keeps a build's promise is unique. Assumes nothing.
use mathlib.Core.Path.{◌≡◌, refl, sym, ap₂, subst, ◌∙◌}
use mathlib.Core.Logic.{inl, inr}
use mathlib.Core.Bool.{cond}
use Prim.Native.Nat.{ℕ, ◌≤◌}
use native.Mathlib.Omega.{arith}
use borrow.Author.Tests.{ne_eqb}
use lib.Dec.{eqb}
use Rattle.std.proofs.Common.{Ok, Err}
use Rattle.rows.specs.Rows.{MoreThan, AtMost}
use Rattle.rows.proofs.Rows.{not_both}
use Rattle.meaning.specs.Rules.{Rules}
use Rattle.meaning.specs.Standing.{Same}
use Rattle.meaning.specs.Tables.{Five, Tables, Alike}
use Rattle.meaning.proofs.Congruent.{congruence}
use Rattle.meaning.proofs.Unique.{rows_or_more, one-five, one-count}
use Rattle.format.specs.declared.Refusal.{Refusal}
use Rattle.book.specs.Content.{Content}
use Rattle.format.specs.Answers.{number}
use Rattle.format.specs.Format.{Meaning, means, refused, meaning_of}
use Rattle.book.specs.Meant.{rules_of}
use Rattle.format.proofs.Numbers.{number_some, refusal_of, is_refusal}
use Rattle.lent.specs.Lent.{lent, AsLong}
use Rattle.promised.specs.Promise.{Built, number_of, value_of, Builds, accepted, no_room, Answers, builds, refuses}
use Rattle.promised.specs.Exact.{Crowded, Fitting, Exactly, RoomExactly, RowsOrMore, OfWords, OneOutcome}
use Rattle.promised.specs.declared.BuildRefusal.TheVariants.{NoRoom, Book}

-- ---- room

pub just_one : RowsOrMore
just_one r n = record {
  one = elim (rows_or_more r n) [ inl m ↦ inr m | inr a ↦ inl a ];
  not_both = not_both (congruence r);
}

tables-few : {r : Rules} {b : Five} {n k : ℕ} → n ≤ k → Tables r b n → AtMost (Same r) k
tables-few l x = record { texts = x.texts; rows = x.rows; few = omega (arith, x.count) }

-- what the number and the value say of a sound book's standings
data Says (r : Rules) (n i v : ℕ) : Type 0 where
  room : i ≡ 0 → AtMost (Same r) n → Says r n i v
  none : i ≡ 10 → v ≡ n → MoreThan (Same r) n → Says r n i v

says : {r : Rules} {old b : Five} {i v : ℕ} → Builds r old b i v → Says r (lent old) i v
says (accepted l t k) = room refl (tables-few l t)
says (no_room m) = none refl refl m

pub same_content : {a a' : Content} {m : Meaning} → m ≡ means a → m ≡ means a' → a ≡ a'
same_content p q = cc

pub not_refused : {A : Type 0} {a : Content} {why : Refusal} {m : Meaning} → m ≡ means a → m ≡ refused why → A
not_refused p q = absurd (let z : ◌≡◌ {A = ℕ} 0 1 = cc in omega arith)

-- the reader gives no 10
pub not_ten : (why : Refusal) → number why ≡ 10 → ⊥
not_ten why e = let x = (number_some why).1 (omega arith) in omega arith

-- what they say of what the bytes mean
data Verdict (m : Meaning) (n i v : ℕ) : Type 0 where
  sound : {a : Content} → m ≡ means a → Says (rules_of a) n i v → Verdict m n i v
  unsound : {why : Refusal} → m ≡ refused why → i ≡ number why → Verdict m n i v

verdict : {m : Meaning} {old b : Five} {i v : ℕ} → Answers old m b i v → Verdict m (lent old) i v
verdict (builds q) = sound refl (says q)
verdict refuses = unsound refl refl

pub room_exactly : RoomExactly
room_exactly c = go (verdict c.promise)
  where
    n : ℕ
    n = lent c.old

    by_says : (a : Content) → meaning_of c.bytes ≡ means a → Says (rules_of a) n (number_of c.answer) (value_of c.answer) → Exactly c
    by_says a e (room q f) = record {
      no_room = ((λ z. absurd (omega arith)), λ (y : Crowded c.bytes n). absurd (not_both (congruence (rules_of a)) f (rw (same_content y.sound e) at y.more)));
      room_value = λ z. absurd (omega arith);
      accepted = ((λ z. record { content = a; sound = e; rows = f }), λ y. q);
    }
    by_says a e (none q v m) = record {
      no_room = ((λ z. record { content = a; sound = e; more = m }), λ y. q);
      room_value = λ z. v;
      accepted = ((λ z. absurd (omega arith)), λ (y : Fitting c.bytes n). absurd (not_both (congruence (rules_of a)) (rw (same_content y.sound e) at y.rows) m));
    }

    by_why : (why : Refusal) → meaning_of c.bytes ≡ refused why → number_of c.answer ≡ number why → Exactly c
    by_why why e q = record {
      no_room = ((λ z. absurd (not_ten why (sym q ∙ z))), λ (y : Crowded c.bytes n). not_refused y.sound e);
      room_value = λ z. absurd (not_ten why (sym q ∙ z));
      accepted = ((λ z. absurd (omega (arith, (number_some why).0))), λ (y : Fitting c.bytes n). not_refused y.sound e);
    }

    go : Verdict (meaning_of c.bytes) n (number_of c.answer) (value_of c.answer) → Exactly c
    go (sound {a} e x) = by_says a e x
    go (unsound {why} e q) = by_why why e q

-- ---- one outcome

alike : {old b b' : Five} → AsLong old b → AsLong old b' → OfWords b → OfWords b' → Alike b b'
alike x y w w' = record {
  goto = x.goto_long ∙ sym y.goto_long;
  fall = x.fall_long ∙ sym y.fall_long;
  held = x.held_long ∙ sym y.held_long;
  live = x.live_long ∙ sym y.live_long;
  out = x.out_long ∙ sym y.out_long;
  words = (w.live_words, w'.live_words, w.out_words, w'.out_words);
}

-- the same number, value and buffers
pub record Equal (b b' : Five) (i i' v v' : ℕ) : Type 0 where
  pub number_same : i ≡ i'
  pub value_same : v ≡ v'
  pub buffers_same : b ≡ b'

pub builds-same : {r : Rules} {old b b' : Five} {i i' v v' : ℕ} → OfWords b → OfWords b' → Builds r old b i v → Builds r old b' i' v' → Equal b b' i i' v v'
builds-same {r} {b = b} w w' (accepted {n = n} l t k) (accepted {n = m} l' t' k') =
    let e : n ≡ m = one-count t t' in
    record { number_same = refl; value_same = e; buffers_same = one-five _ _ _ _ (subst (Tables r b) e t) t' (alike k k' w w') }
builds-same {r} w w' (accepted l t k) (no_room m) = absurd (not_both (congruence r) (tables-few l t) m)
builds-same {r} w w' (no_room m) (accepted l t k) = absurd (not_both (congruence r) (tables-few l t) m)
builds-same w w' (no_room m) (no_room m') = record { number_same = refl; value_same = refl; buffers_same = refl }

answers-same : {m : Meaning} {old b b' : Five} {i i' v v' : ℕ} → OfWords b → OfWords b' → Answers old m b i v → Answers old m b' i' v' → Equal b b' i i' v v'
answers-same w w' (builds p) (builds q) = builds-same w w' p q
answers-same w w' refuses refuses = record { number_same = refl; value_same = refl; buffers_same = refl }

-- an answer is known by its number and its value
answer_of : ℕ → ℕ → Built
answer_of i v = cond (eqb i 0) (Ok v) (Err (cond (eqb i 10) (NoRoom v) (Book (refusal_of i v))))

is_answer : (x : Built) → answer_of (number_of x) (value_of x) ≡ x
unfolding answer_of
is_answer (Ok n) = refl
is_answer (Err (NoRoom n)) = refl
is_answer (Err (Book why)) = rw (ne_eqb (number why) 0 (omega (arith, (number_some why).0)), ne_eqb (number why) 10 (not_ten why), is_refusal why)

pub one-outcome : OneOutcome
one-outcome c d e q w w' =
    let s = answers-same w w' c.promise (rw (← e, ← q) at d.promise) in
    (sym (is_answer c.answer) ∙ ap₂ answer_of s.number_same s.value_same ∙ is_answer d.answer, s.buffers_same)
