-- What is given in domains stays.
use Rattle.std.proofs.Common.{◌≡◌, refl, ◌∙◌, subst, Bool, true, ◌||◌, false}
use Rattle.ess_semantics.specs.Values.{Text}
use Rattle.ess_semantics.specs.Names.{Names}
use Rattle.ess_semantics.specs.Trees.{Ex}
use Rattle.ess_semantics.specs.Types.{Ty}
use Rattle.ess_semantics.specs.Contexts.{In, fill}
use Rattle.ess_semantics.specs.Kept.{Kept}
use Rattle.ess_given_laws.specs.Given.{none_bound, is_fixed, given, GivenIn}
use Rattle.ess_given_laws.specs.GivenStays.{KeepsGiven, GivenRewriting, as_given, more_given, given_at, GivenStays}
use Rattle.ess_given_laws.proofs.PartsHave.{part-has}
use Rattle.ess_given_laws.proofs.FixedTrees.{fixed, part-fixed, dom-fixed, fixed-has, has-fixed, given-has}
use Rattle.ess_given_laws.proofs.PartsOfFolds.{Answers}
use Rattle.ess_given_laws.proofs.GivenRules.{fixed-answers, given-answers}

or-so : (b c d : Bool) → (c ≡ true → d ≡ true) → b || c ≡ true → b || d ≡ true
or-so true c d f h = refl
or-so false c d f h = f h

at-part : (u : Text → Bool) (c : In) (a b : Ex) → KeepsGiven u a b → KeepsGiven u (fill c a) (fill c b)
at-part u c a b k = record {
  given = part-has (given u) a b k.given (λ c h. dom-fixed u a b k.fixed c h)
      (λ p c h. or-so (none_bound u p) (is_fixed u (fill c a)) _ (part-fixed u a b k.fixed c) h) c;
  fixed = part-fixed u a b k.fixed c;
}

any-rules : (u v : Text → Bool) (g : Names Ty) (old new : Ex) → GivenRewriting u g old new v → Kept g old new × (GivenIn u old →
    GivenIn v new)
any-rules u v g old new as_given = (λ env t m. (refl, m), λ h. h)
any-rules u v g old new (more_given {v = w} k r) = let n = any-rules w v g old new r in (n.0, λ h. n.1 (k h))
any-rules u v g old new (given_at a b c k j r) = let n = any-rules u v g (fill c b) new r in (
  λ env t m. let x = j env t m in let y = n.0 env t x.1 in (x.0 ∙ y.0, y.1),
  λ h. n.1 ((at-part u c a b k).given h),
)

-- What is proved of what is given.
pub given-stays : GivenStays
given-stays = record {
  by_each_rule = λ u s g r e f q n h. subst (λ z. Answers (given u) z) q (given-answers u s g r e n h);
  of_fixed_trees = λ u s g r e f q n h. has-fixed u f (subst (λ z. Answers (fixed u) z) q (fixed-answers u s g r e n h));
  at_a_part = at-part;
  by_any_rules = any-rules;
  fixed_is_given = λ u e h. given-has u e (fixed-has u e h);
}
