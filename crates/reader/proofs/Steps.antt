-- What the book holds after a picture or a rule, and the step that shows it. Assumes nothing.
use Prim.Native.Nat.{ℕ}
use mathlib.Core.Path.{◌≡◌, refl, sym, ◌∙◌}
use mathlib.Core.List.{List}
use Rattle.std.specs.Prelude.{Ok, Err}
use Rattle.format.specs.declared.Refusal.{Refusal}
use Rattle.book.specs.declared.Book.{Book}
use Rattle.book.specs.Content.{Content, record_of}
use Rattle.format.specs.Format.{judge_picture, judge_rule, stops, outcome, picture_field, rule_field}
use Rattle.reader.specs.Leaves.{picture_after, rule_after, Shows}
use Rattle.book.proofs.Records.{record-picture_more, record-rule_more}
use Rattle.format.proofs.Judged.{picture-sound, rule-sound}

module _ {b : Book} (a : Content) (q : b ≡ record_of a) (at e : ℕ) (l : List ℕ) where
  -- ---- a picture with the body l
  module _ where
    pub picture-taken : Ok tt ≡ judge_picture b.pictures at l → {b' : Book} → b' ≡ picture_after (Ok tt) b l → Shows (Ok e) b' (picture_field at e a l)
    unfolding record_of picture_field outcome
    picture-taken u w =
        let v = rw q at u in
        rw (← v) (refl, w ∙ rw q (record-picture_more a l (picture-sound _ _ _ (sym v)).0))

    pub picture_stopped : {x : Refusal} → Err x ≡ judge_picture b.pictures at l → picture_field at e a l ≡ stops x
    unfolding record_of picture_field outcome
    picture_stopped u = let v = rw q at u in rw (← v) refl

  -- ---- a rule with the body l
  module _ where
    pub rule-taken : Ok tt ≡ judge_rule b.rules b.pictures at l → {b' : Book} → b' ≡ rule_after (Ok tt) b l → Shows (Ok e) b' (rule_field at e a l)
    unfolding record_of rule_field outcome
    rule-taken u w =
        let v = rw q at u in
        let s = rule-sound _ _ _ _ v refl in
        rw (← v) (refl, w ∙ rw q (record-rule_more a l s.0 s.1))

    pub rule_stopped : {x : Refusal} → Err x ≡ judge_rule b.rules b.pictures at l → rule_field at e a l ≡ stops x
    unfolding record_of rule_field outcome
    rule_stopped u = let v = rw q at u in rw (← v) refl

pub ruleset steps = (picture-taken, picture_stopped, rule-taken, rule_stopped)
