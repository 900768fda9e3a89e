-- Each word is 0 where the set is empty, by the first word and the others.
use Rattle.std.proofs.Common.{◌≡◌, ◌≢◌, ◌∙◌, ℕ, List, [], ◌∷◌, arith, nat_eq, rules, tests, refl, sym}
use native.Mathlib.Decide.{dec_lt}
use borrow.Author.Tests.{ne_eqb}
use Rattle.std.specs.List.{list_all}
use Rattle.std.proofs.lemmas.Iterator.{YieldsList-from_slice}
use Rattle.std.proofs.lemmas.Iterator.Search.{all_from_yields_List}
use Rattle.sets.specs.Sets.{set_of}
use Rattle.sets.proofs.InWords.{empty-cons, not_empty}
use Rattle.words.proofs.is_empty.Goals as goal

each_0 : (ws : List ℕ) → list_all (λ w. nat_eq w 0) ws ≡ nat_eq (set_of ws) 0
unfolding set_of
each_0 [] = refl
each_0 (w ∷ ws) =
    elim (dec_lt 0 w) [
      | yes h ↦ let ne : w ≢ 0 = omega arith in rw (ne_eqb w 0 ne) (sym (not_empty w ws ne))
      | no h ↦ let e : w ≡ 0 = omega arith in rw e (each_0 ws ∙ sym (empty-cons ws))
    ]

pub returns : goal.returns
returns c =
    all_from_yields_List (λ w. nat_eq w 0) _ _ _ c.all.ensures.ran (YieldsList-from_slice c.args.words.now cc) (λ x b q k. search (rules, tests))
    ∙ each_0 c.args.words.now
