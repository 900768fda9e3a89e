-- A field that is written out is read so, and so are many of one kind. Assumes nothing.
use Prim.Native.Nat.{ℕ, zero, suc, ◌+◌, ◌*◌, ◌-◌, ◌≤◌, ◌<◌}
use mathlib.Core.Path.{◌≡◌, refl, sym, ap, subst, ◌∙◌}
use mathlib.Core.List.{List, [], ◌∷◌, ◌++◌, append_assoc, append-nil}
use native.Mathlib.Nat.{add-zero, zero-mul, suc-mul}
use native.Mathlib.Omega.{arith}
use lib.ListN.{length, get_or, drop, length-append}
use lib.Seq.{get_or-append_seam, get_or-append-add, take-append_seam, drop-append_seam}
use Rattle.format.specs.declared.Field.TheVariants.{Picture, Rule}
use Rattle.std.specs.Prelude.{Ok}
use Rattle.format.specs.Answers.{Answer}
use Rattle.book.specs.Limits.{most_rules}
use Rattle.book.specs.Content.{Content, with_picture, with_rule}
use Rattle.book.specs.Grown.{symbols_of}
use Rattle.format.specs.Format.{size_at, judge_picture, judge_rule, goes, outcome, picture_field, rule_field, part, field_of, field_at}
use Rattle.format.specs.Largest.{repeated}
use Rattle.format.specs.Which.{ReadUpTo, next}
use Rattle.book.proofs.Tables.{length-snoc}
use Rattle.format.proofs.Turns.{head_picture, head_rule}
use Rattle.format.proofs.Fields.{field_headed}

-- a tag, the length of the body in two bytes, and the body, after x and before y
module _ {s : List ℕ} (x y : List ℕ) (tag high low : ℕ) (body : List ℕ) (q : s ≡ x ++ (tag ∷ high ∷ low ∷ body ++ y)) (l : length body ≡ 256 * high + low) where
  tag_at : get_or s (length x) 0 ≡ tag
  tag_at = rw q (get_or-append_seam x tag (high ∷ low ∷ body ++ y) 0)

  high_at : get_or s (length x + 1) 0 ≡ high
  high_at = rw q (get_or-append-add x (tag ∷ high ∷ low ∷ body ++ y) 1 0)

  low_at : get_or s (length x + 2) 0 ≡ low
  low_at = rw q (get_or-append-add x (tag ∷ high ∷ low ∷ body ++ y) 2 0)

  size-at : size_at s (length x) ≡ length body
  size-at = rw (high_at, low_at) (sym l)

  ends-within : length x + 3 + length body ≤ length s
  ends-within =
      let n : length s ≡ length x + suc (suc (suc (length (body ++ y)))) = rw q (length-append x (tag ∷ high ∷ low ∷ body ++ y)) in
      omega (arith, n, length-append body y)

  body_at : part s (length x + 3) (length x + 3 + length body) ≡ body
  body_at =
      let h = tag ∷ high ∷ low ∷ [] in
      let m : length x + 3 ≡ length (x ++ h) = sym (length-append x h) in
      let e : length x + 3 + length body - (length x + 3) ≡ length body = omega arith in
      let d : drop (length x + 3) s ≡ body ++ y = rw (m, q) (ap (drop (length (x ++ h))) (sym (append_assoc x h (body ++ y))) ∙ drop-append_seam (x ++ h) (body ++ y)) in
      rw (e, d) (take-append_seam body y)

  -- it stands before its end
  pub before_end : {a b : Content} → ReadUpTo s (length x) a → field_at s (length x) a ≡ goes (length x + 3 + length body) b → ReadUpTo s (length x + length (tag ∷ high ∷ low ∷ body)) b
  before_end {a} {b} p k =
      let e : length x + 3 + length body ≡ length x + length (tag ∷ high ∷ low ∷ body) = omega arith in
      let w = ends-within in
      subst (λ (n : ℕ). ReadUpTo s n b) e (next p (omega arith) k)

  module _ (a : Content) where
    pub picture-read : tag ≡ 0x50 → judge_picture (length a.pictures) (length x) body ≡ Ok tt → field_at s (length x) a ≡ goes (length x + 3 + length body) (with_picture a body)
    unfolding field_of picture_field outcome
    picture-read t sound =
        let w = ends-within in
        let k : length x + 3 + size_at s (length x) ≤ length s = rw size-at w in
        let h = head_picture s (length x) (omega arith) k (tag_at ∙ t) in
        field_headed s (length x) (Ok (Picture (length x + 3) (length x + 3 + size_at s (length x)))) refl (sym h) a
        ∙ rw (size-at, body_at, sound)

    pub rule-read : tag ≡ 0x52 → {t : Answer} → judge_rule (length a.rules) (length a.pictures) (length x) body ≡ t → field_at s (length x) a ≡ outcome t (length x + 3 + length body) (with_rule a (symbols_of body))
    unfolding field_of rule_field
    rule-read t judged =
        let w = ends-within in
        let k : length x + 3 + size_at s (length x) ≤ length s = rw size-at w in
        let h = head_rule s (length x) (omega arith) k (λ z. omega (arith, tag_at)) (tag_at ∙ t) in
        field_headed s (length x) (Ok (Rule (length x + 3) (length x + 3 + size_at s (length x)))) refl (sym h) a
        ∙ rw (size-at, body_at, judged)

-- ---- many fields

pub length-repeated : (k : ℕ) (l : List ℕ) → length (repeated k l) ≡ k * length l
unfolding repeated
length-repeated zero l = sym (zero-mul (length l))
length-repeated (suc k) l = length-append l (repeated k l) ∙ omega (arith, length-repeated k l, suc-mul k (length l))

-- one more stands at the end as well as at the start
pub repeated-last : (k : ℕ) (l : List ℕ) → repeated (suc k) l ≡ repeated k l ++ l
unfolding repeated
repeated-last zero l = append-nil l
repeated-last (suc k) l = ap (λ (z : List ℕ). l ++ z) (repeated-last k l) ∙ sym (append_assoc l (repeated k l) l)

-- what each of many equal parts takes one further
module _ {s : List ℕ} (l : List ℕ) (most : ℕ) (Q : ℕ → ℕ → Type 0)
    (one : (x y : List ℕ) (i : ℕ) → s ≡ x ++ (l ++ y) → i < most → Q (length x) i → Q (length x + length l) (suc i)) where
  pub many : (k : ℕ) (x y : List ℕ) (i : ℕ) → s ≡ x ++ (repeated k l ++ y) → i + k ≤ most → Q (length x) i → Q (length (x ++ repeated k l)) (i + k)
  unfolding repeated
  many zero x y i q h p = rw (append-nil x, add-zero i) p
  many (suc k) x y i q h p =
      let e : s ≡ x ++ (l ++ (repeated k l ++ y)) = q ∙ ap (λ (z : List ℕ). x ++ z) (append_assoc l (repeated k l) y) in
      let f : s ≡ x ++ l ++ (repeated k l ++ y) = e ∙ sym (append_assoc x l (repeated k l ++ y)) in
      let n : suc i + k ≡ i + suc k = omega arith in
      let r = many k (x ++ l) y (suc i) f (omega arith) (subst (λ (m : ℕ). Q m (suc i)) (sym (length-append x l)) (one x y' i e (omega arith) p)) in
      rw (append_assoc x l (repeated k l), n) at r
    where
      y' : List ℕ
      y' = repeated k l ++ y

-- before a place stand so many pictures and rules
pub record Stands (s : List ℕ) (at p k : ℕ) : Type 0 where
  pub content : Content
  pub before : ReadUpTo s at content
  pub pictures : length content.pictures ≡ p
  pub rules : length content.rules ≡ k

-- equal rules after p pictures, each accepted where there is room: as many as there may be
module _ {s : List ℕ} (p high low : ℕ) (body : List ℕ) (l : length body ≡ 256 * high + low) (sound : (n at : ℕ) → n < most_rules → judge_rule n p at body ≡ Ok tt) where
  rule-more : (x y : List ℕ) (i : ℕ) → s ≡ x ++ (0x52 ∷ high ∷ low ∷ body ++ y) → i < most_rules → Stands s (length x) p i → Stands s (length x + length (0x52 ∷ high ∷ low ∷ body)) p (suc i)
  unfolding outcome
  rule-more x y i q h r =
      let a = r.content in
      record {
        content = with_rule a (symbols_of body);
        before = before_end x y 0x52 high low body q l r.before (rule-read x y 0x52 high low body q l a refl {t = (Ok tt)} (rw (r.pictures, r.rules) (sound i (length x) h)));
        pictures = r.pictures;
        rules = length-snoc a.rules (symbols_of body) ∙ omega (arith, r.rules);
      }

  pub rules_stand : (x y : List ℕ) → s ≡ x ++ (repeated most_rules (0x52 ∷ high ∷ low ∷ body) ++ y) → Stands s (length x) p 0 → Stands s (length (x ++ repeated most_rules (0x52 ∷ high ∷ low ∷ body))) p most_rules
  rules_stand x y q r = many (0x52 ∷ high ∷ low ∷ body) most_rules (λ at i. Stands s at p i) rule-more most_rules x y 0 q (omega arith) r
