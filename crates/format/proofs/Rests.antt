-- What stands before a place, and the meaning of the whole from there on. Assumes nothing.
use Prim.Native.Nat.{ℕ, zero, suc, ◌+◌, ◌≤◌, ◌<◌}
use mathlib.Core.Path.{◌≡◌, refl, subst, ◌∙◌}
use mathlib.Core.List.{List}
use native.Mathlib.Omega.{arith}
use lib.ListN.{length}
use Rattle.format.specs.declared.Refusal.{Refusal}
use Rattle.book.specs.Content.{Content, nothing}
use Rattle.format.specs.Format.{Outcome, goes, stops, field_at, Meaning, refused, ended, fields, meaning_of}
use Rattle.format.specs.Which.{ReadUpTo, start, next}
use Rattle.book.proofs.Cases.{by_lt}
use Rattle.format.proofs.Fields.{Ahead, ahead, fields-goes, fields-stops, fields-none, fields-ends}

-- ---- from a place to the whole

-- the fields from `at` on, after the content, give the meaning of the whole
pub record Rest (s : List ℕ) (at : ℕ) (a : Content) : Type 0 where
  pub fuel : ℕ
  pub inside : at ≤ length s
  pub enough : length s ≤ at + fuel
  pub same : meaning_of s ≡ fields fuel s at a

pub rest-start : (s : List ℕ) → Rest s 0 nothing
unfolding meaning_of
rest-start s = record { fuel = length s; inside = omega arith; enough = omega arith; same = refl }

module _ (s : List ℕ) (at : ℕ) (a : Content) where
  pub ahead-goes : {e : ℕ} {b : Content} → field_at s at a ≡ goes e b → (at < e) × (e ≤ length s)
  ahead-goes k = subst (Ahead (length s) at) k (ahead s at a)

  pub rest_goes : {e : ℕ} {b : Content} → Rest s at a → at < length s → field_at s at a ≡ goes e b → Rest s e b
  rest_goes {e} {b} x h k = go x.fuel x.enough x.same
    where
      go : (n : ℕ) → length s ≤ at + n → meaning_of s ≡ fields n s at a → Rest s e b
      go zero g m = absurd (omega arith)
      go (suc n) g m =
          let w = ahead-goes k in
          record { fuel = n; inside = w.1; enough = omega arith; same = m ∙ fields-goes n s at a e b h k }

  pub rest-stops : {r : Refusal} → Rest s at a → at < length s → field_at s at a ≡ stops r → meaning_of s ≡ refused r
  rest-stops {r} x h k = go x.fuel x.enough x.same
    where
      go : (n : ℕ) → length s ≤ at + n → meaning_of s ≡ fields n s at a → meaning_of s ≡ refused r
      go zero g m = absurd (omega arith)
      go (suc n) g m = m ∙ fields-stops n s at a r h k

  pub rest-ends : Rest s at a → length s ≤ at → meaning_of s ≡ ended (length s) a
  rest-ends x h = x.same ∙ fields-ends x.fuel s at a h

pub rest_before : {s : List ℕ} {at : ℕ} {a : Content} → ReadUpTo s at a → Rest s at a
rest_before {s} start = rest-start s
rest_before {s} (next {at} {e} {a} p h k) = rest_goes s at a (rest_before p) h k

-- ---- from the whole to a place

-- a book ends after its last field, or stops at one
pub data Ending (s : List ℕ) : Meaning → Type 0 where
  ends : {a : Content} → ReadUpTo s (length s) a → Ending s (ended (length s) a)
  halts : {at : ℕ} {a : Content} {r : Refusal} → ReadUpTo s at a → at < length s → field_at s at a ≡ stops r → Ending s (refused r)

last : {s : List ℕ} {at : ℕ} {a : Content} → ReadUpTo s at a → at ≤ length s → length s ≤ at → Ending s (ended (length s) a)
last {s} {at} {a} p h k = ends (subst (λ (n : ℕ). ReadUpTo s n a) (let e : at ≡ length s = omega arith in e) p)

along : (n : ℕ) {s : List ℕ} {at : ℕ} {a : Content} → ReadUpTo s at a → at ≤ length s → length s ≤ at + n → Ending s (fields n s at a)
along zero {s} {at} {a} p h k = rw (fields-none s at a) (last p h (omega arith))
along (suc n) {s} {at} {a} p h k =
    by_lt at (length s)
    (λ l. turn l (λ e b x. along n {at = e} {a = b} x) (field_at s at a) refl)
    (λ l. rw (fields-ends (suc n) s at a l) (last p h l))
  where
    turn : at < length s → ((e : ℕ) (b : Content) → ReadUpTo s e b → e ≤ length s → length s ≤ e + n → Ending s (fields n s e b)) → (o : Outcome) → field_at s at a ≡ o → Ending s (fields (suc n) s at a)
    turn l f (goes e b) q = let w = ahead-goes s at a q in rw (fields-goes n s at a e b l q) (f e b (next p l q) w.1 (omega arith))
    turn l f (stops r) q = rw (fields-stops n s at a r l q) (halts p l q)

pub ending : (s : List ℕ) → Ending s (meaning_of s)
unfolding meaning_of
ending s = along (length s) start (omega arith) (omega arith)
