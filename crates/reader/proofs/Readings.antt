-- The loop over the fields: what holds at its head, through a turn and at its ends. Assumes nothing.
use Prim.Native.Nat.{ℕ, ◌≤◌, ◌<◌}
use mathlib.Core.Path.{◌≡◌, refl, sym, ap, ◌∙◌}
use mathlib.Core.List.{List}
use borrow.Author.Tests.{eq-eqb, ne_eqb}
use lib.ListN.{length}
use Rattle.std.specs.Prelude.{Ok, Err}
use Rattle.book.specs.declared.Book.{Book}
use Rattle.format.specs.declared.Refusal.{Refusal}
use Rattle.format.specs.declared.Refusal.TheVariants.{NoRule}
use Rattle.book.specs.Content.{Content, nothing, record_of}
use Rattle.format.specs.Format.{Outcome, goes, stops, field_at, Meaning, means, refused, ended, meaning_of}
use Rattle.reader.specs.Handed.{handed, read_of}
use Rattle.reader.specs.Leaves.{Shows, TakesField, TakenIs, TakesAll}
use Rattle.book.proofs.Held.{rules-held}
use Rattle.format.proofs.Rests.{Rest, rest-start, rest_goes, rest-stops, rest-ends, ahead-goes}

-- the book holds what stands before `at`, and the fields from there on give the meaning of the whole
pub record Reading (s : List ℕ) (at : ℕ) (b : Book) : Type 0 where
  pub content : Content
  pub held : b ≡ record_of content
  pub rest : Rest s at content

pub starts : (s : List ℕ) {b : Book} → b ≡ record_of nothing → Reading s 0 b
starts s q = record { content = nothing; held = q; rest = rest-start s }

-- ---- a turn

module _ (s : List ℕ) (at : ℕ) (h : at < length s) {b : Book} (R : Reading s at b) (b' : Book) where
  pub turns : {e : ℕ} → TakesField b s at (Ok e) b' → Reading s e b' × (at < e)
  turns {e} f = go (field_at s at R.content) refl (f R.content R.held)
    where
      go : (o : Outcome) → field_at s at R.content ≡ o → Shows (Ok e) b' o → Reading s e b' × (at < e)
      go (goes x a) k w =
          let z : x ≡ e = cc in
          (rw (← z) (record { content = a; held = w.1; rest = rest_goes s at R.content R.rest h k }), rw (← z) (ahead-goes s at R.content k).0)
      go (stops y) k w = absurd (cc)

  pub halts : {x : Refusal} → TakesField b s at (Err x) b' → meaning_of s ≡ refused x
  halts {x} f = go (field_at s at R.content) refl (f R.content R.held)
    where
      go : (o : Outcome) → field_at s at R.content ≡ o → Shows (Err x) b' o → meaning_of s ≡ refused x
      go (goes e a) k w = absurd (cc)
      go (stops y) k w = rest-stops s at R.content R.rest h k ∙ ap refused cc

-- ---- the end

module _ (s : List ℕ) (at : ℕ) {b : Book} (R : Reading s at b) (h : length s ≤ at) where
  at-end : meaning_of s ≡ ended (length s) R.content
  at-end = rest-ends s at R.content R.rest h

  pub no_rule : b.rules ≡ 0 → TakesAll s (Err (NoRule (length s))) b
  unfolding ended
  no_rule z = rw (at-end, eq-eqb (length R.content.rules) 0 (sym (rules-held R.content R.held) ∙ z)) refl

  pub some-rule : (b.rules ≡ 0 → ⊥) → TakesAll s (Ok tt) b
  unfolding ended
  some-rule k = rw (at-end, ne_eqb (length R.content.rules) 0 (λ z. k (rules-held R.content R.held ∙ z))) (refl, R.held)

-- ---- what is handed back

module _ (s : List ℕ) (b : Book) where
  pub accepted-read : TakesAll s (Ok tt) b → record { answer = Ok tt; book = b } ≡ read_of s
  unfolding read_of handed
  accepted-read w = go (meaning_of s) w
    where
      go : (m : Meaning) → TakenIs (Ok tt) b m → record { answer = Ok tt; book = b } ≡ handed m
      go (means a) k = λ i. record { answer = Ok tt; book = k.1 i }
      go (refused y) k = absurd (cc)

  pub refused-read : {x : Refusal} (b' : Book) → TakesAll s (Err x) b' → b ≡ record_of nothing → record { answer = Err x; book = b } ≡ read_of s
  unfolding read_of handed
  refused-read {x} b' w q = go (meaning_of s) w
    where
      go : (m : Meaning) → TakenIs (Err x) b' m → record { answer = Err x; book = b } ≡ handed m
      go (means a) k = absurd (cc)
      go (refused z) k = let e : x ≡ z = cc in λ i. record { answer = Err (e i); book = q i }

pub ruleset readings = (starts, turns, no_rule, some-rule)
