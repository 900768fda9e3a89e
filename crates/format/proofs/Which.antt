-- A book is refused for a symbol just where a rule's symbols before it are sound and it is not. Assumes nothing.
use Prim.Native.Nat.{ℕ, ◌+◌, ◌*◌, ◌%◌, ◌≤◌, ◌<◌}
use mathlib.Core.Path.{◌≡◌, refl, sym, ap, ◌∙◌}
use mathlib.Core.Logic.{◌↔◌}
use mathlib.Core.List.{List}
use native.Mathlib.Omega.{arith}
use lib.ListN.{length, get_or}
use lib.Dec.{eqb}
use Rattle.std.specs.Prelude.{Result, Ok, Err}
use Rattle.format.specs.declared.Field.{Field}
use Rattle.format.specs.declared.Refusal.{Refusal}
use Rattle.format.specs.declared.Refusal.TheVariants.{Cut, OtherTag, NoRule}
use Rattle.format.specs.Answers.{Answer, number}
use Rattle.book.specs.Content.{Content, with_rule}
use Rattle.book.specs.Grown.{symbols_of}
use Rattle.format.specs.Format.{size_at, judge_picture, judge_rule, stops, outcome, picture_field, rule_field, part, field_of, field_at, means, Meaning, refused, ended, meaning_of}
use Rattle.format.specs.Which.{ReadUpTo, Faulty}
use Rattle.book.proofs.Cases.{by_test}
use Rattle.format.proofs.Turns.{head_rule}
use Rattle.format.proofs.Symbols.{found, is_first}
use Rattle.format.proofs.Answers.{number_same}
use Rattle.format.proofs.Judged.{picture-refused, rule-judged, rule_left}
use Rattle.format.proofs.Fields.{part-long, part_at, HeadIs, short, unknown, picture, rule, head_is}
use Rattle.format.proofs.Rests.{rest-stops, rest_before, Ending, ends, halts, ending}

-- the body of the field at a place
body : List ℕ → ℕ → List ℕ
body s at = part s (at + 3) (at + 3 + size_at s at)

module _ (s : List ℕ) (at : ℕ) (h : at + 3 + size_at s at ≤ length s) where
  body-long : length (body s at) ≡ size_at s at
  unfolding body
  body-long = let e = part-long s (at + 3) (at + 3 + size_at s at) (omega arith) h in omega arith

  body_at : (i j : ℕ) → at + 3 + i ≡ j → i < size_at s at → get_or (body s at) i 0 ≡ get_or s j 0
  unfolding body
  body_at i j e k = part_at s (at + 3) (at + 3 + size_at s at) i (omega arith) ∙ ap (λ (n : ℕ). get_or s n 0) e

  -- pair i of the body, in the book
  module _ (even : size_at s at % 2 ≡ 0) (i : ℕ) (k : 2 * i < size_at s at) where
    kind_at : get_or (body s at) (2 * i) 0 ≡ get_or s (at + 3 + 2 * i) 0
    kind_at = body_at (2 * i) (at + 3 + 2 * i) refl k

    second_at : get_or (body s at) (2 * i + 1) 0 ≡ get_or s (at + 3 + 2 * i + 1) 0
    second_at = body_at (2 * i + 1) (at + 3 + 2 * i + 1) (omega arith) (omega arith)

  field_rule : get_or s at 0 ≡ 0x52 → (a : Content) → field_at s at a ≡ outcome (judge_rule (length a.rules) (length a.pictures) at (body s at)) (at + 3 + size_at s at) (with_rule a (symbols_of (body s at)))
  unfolding field_at field_of rule_field body
  field_rule t a = ap (field_of s at a) (sym (head_rule s at (omega arith) h (λ z. omega arith) t))

-- ---- from the fault to the refusal

module _ {s : List ℕ} {r : Refusal} (f : Faulty s r) where
  judged : judge_rule (length f.content.rules) (length f.content.pictures) f.at (body s f.at) ≡ Err r
  judged =
      let n = body-long s f.at f.whole in
      let here = f.inside in
      let whole = f.even in
      sym (rule-judged (length f.content.rules) (length f.content.pictures) f.at (body s f.at) f.room (rw n f.short) (λ z. omega arith) (λ z. omega arith))
      ∙ is_first (length f.content.pictures) (f.at + 3) (body s f.at) f.i (omega arith)
      (λ j h. rw (kind_at s f.at f.whole whole j (omega arith), second_at s f.at f.whole whole j (omega arith)) (f.sound j h))
      (rw (kind_at s f.at f.whole whole f.i here, second_at s f.at f.whole whole f.i here) f.amiss)

  is_refused : meaning_of s ≡ refused r
  unfolding outcome
  is_refused =
      rest-stops s f.at f.content (rest_before f.before) (omega (arith, f.whole))
      (field_rule s f.at f.whole f.tag f.content ∙ ap (λ t. outcome t (f.at + 3 + size_at s f.at) (with_rule f.content (symbols_of (body s f.at)))) judged)

-- ---- from the refusal to the fault

module _ {s : List ℕ} {r : Refusal} (late : 17 ≤ number r) {at : ℕ} {a : Content} (p : ReadUpTo s at a) where
  -- a refused rule
  by_rule : at + 3 + size_at s at ≤ length s → get_or s at 0 ≡ 0x52 → Err r ≡ judge_rule (length a.rules) (length a.pictures) at (body s at) → Faulty s r
  by_rule h t e =
      let (room, few, some, even, q) = rule_left (length a.rules) (length a.pictures) at (body s at) e (λ z. absurd (omega (arith, number_same z))) (λ z. absurd (omega (arith, number_same z))) (λ z. absurd (omega (arith, number_same z))) in
      let n = body-long s at h in
      let x = found (length a.pictures) (at + 3) (body s at) q in
      let whole : size_at s at % 2 ≡ 0 = rw n at even in
      record {
        at = at;
        content = a;
        i = x.i;
        before = p;
        whole = h;
        tag = t;
        room = room;
        short = rw n at few;
        even = whole;
        inside = omega (arith, x.inside);
        sound = λ j k. rw (kind_at s at h whole j (omega (arith, x.inside)), second_at s at h whole j (omega (arith, x.inside))) at (x.sound j k);
        amiss = rw (kind_at s at h whole x.i (omega (arith, x.inside)), second_at s at h whole x.i (omega (arith, x.inside))) at x.amiss;
      }

  by_judged : (t : Answer) (e : ℕ) (b : Content) → outcome t e b ≡ stops r → Err r ≡ t
  unfolding outcome
  by_judged (Ok tt) e b q = absurd (cc)
  by_judged (Err x) e b q = let o : x ≡ r = cc in ap Err (sym o)

  by_stop : (x : Refusal) → number x ≤ 16 → stops x ≡ stops r → Faulty s r
  by_stop x h q = let o : x ≡ r = cc in absurd (let n : number x ≡ number r = ap number o in omega arith)

  by_head : {h : Result Field Refusal} → HeadIs s at h → field_of s at a h ≡ stops r → Faulty s r
  unfolding field_of picture_field rule_field body
  by_head short q = by_stop (Cut at) (omega arith) q
  by_head unknown q = by_stop (OtherTag at) (omega arith) q
  by_head (picture h) q = absurd (omega (arith, picture-refused (length a.pictures) at (body s at) (sym (by_judged (judge_picture (length a.pictures) at (body s at)) _ _ q))))
  by_head (rule h t) q = by_rule h t (by_judged (judge_rule (length a.rules) (length a.pictures) at (body s at)) _ _ q)

pub refused_just : (s : List ℕ) (r : Refusal) → 17 ≤ number r → (meaning_of s ≡ refused r) ↔ Faulty s r
unfolding ended field_at
refused_just s r late = (λ e. go (ending s) e, is_refused)
  where
    go : {m : Meaning} → Ending s m → m ≡ refused r → Faulty s r
    go (halts {at} {a} p h k) q = by_head late p (head_is s at) (k ∙ ap stops cc)
    go (ends {a} p) q =
        by_test (eqb (length a.rules) 0)
        (λ t. let w : refused (NoRule (length s)) ≡ refused r = rw t at q in let o : NoRule (length s) ≡ r = cc in absurd (let n : 9 ≡ number r = ap number o in omega arith))
        (λ t. let w : means a ≡ refused r = rw t at q in absurd (cc))
