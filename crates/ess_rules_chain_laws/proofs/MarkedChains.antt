-- Chains of rules keep meanings, types and marks.
use Rattle.std.proofs.Common.{◌≡◌, refl, Bool, true, false, ◌||◌, Some}
use Rattle.ess_semantics.specs.Names.{Names}
use Rattle.ess_semantics.specs.Trees.{Ex}
use Rattle.ess_semantics.specs.Types.{Ty}
use Rattle.ess_semantics.specs.Typing.{type_of}
use Rattle.ess_semantics.specs.Typed.{Typed}
use Rattle.ess_semantics.specs.Resolving.{resolve}
use Rattle.ess_semantics.specs.NamesAt.{names_at}
use Rattle.ess_rules_laws.specs.Rewriting.{Rewritten, as_it_was, rewritten_at}
use Rattle.ess_refine_laws.specs.AllRules.{Rule, Supply, rewrite}
use Rattle.ess_refine_laws.specs.MarksStay.{HasMarks, KeptMarked}
use Rattle.ess_refine_laws.proofs.MarksStay.{marks-stay}
use Rattle.ess_refine_types_laws.specs.MarksOfContainers.{keeps_marks}
use Rattle.ess_refine_types_laws.proofs.MarksOfContainers.{container-rules-keep-marks}
use Rattle.ess_refine_types_laws.proofs.MarksOfJudged.{judged-trees-have-marks}
use Rattle.ess_rules_types_laws.specs.TypesOfSources.{puts_terms}
use Rattle.ess_rules_marks_laws.specs.MarksOfRules.{is_marking}
use Rattle.ess_rules_marks_laws.proofs.MarksOfRules.{marking-rules-keep-marks}
use Rattle.ess_put_marks_laws.specs.MarksOfOthers.{has_parts}
use Rattle.ess_put_marks_laws.specs.MarksOfConditions.{is_of_conditions}
use Rattle.ess_put_marks_laws.proofs.MarksOfTerms.{source-rules-keep-marks}
use Rattle.ess_put_marks_laws.proofs.MarksOfOthers.{part-rules-keep-marks}
use Rattle.ess_put_marks_laws.proofs.MarksOfConditions.{condition-rules-keep-marks}
use Rattle.ess_rules_chain_laws.specs.MarkedChains.{MarksAsked, MarkedRewriting, as_marked, marked_at, ChainsKeepMarks}
use Rattle.ess_rules_chain_laws.proofs.RulesAtNodes.{covered, rule-says-nothing}

-- One of two tests holds.
one-of : {A : Type 0} (b c : Bool) → b || c ≡ true → (b ≡ true → A) → (c ≡ true → A) → A
one-of true c h f k = f refl
one-of false c h f k = k h

-- Each rule keeps marks.
each-rule : (s : Supply) (g : Names Ty) (r : Rule) (e f : Ex) → rewrite s g r e ≡ Some f → MarksAsked s g r e → (t : Ty) →
    type_of f g ≡ Some t → HasMarks e g → HasMarks f g
each-rule s g r e f q k t i m =
    one-of (is_marking r) (keeps_marks r || (puts_terms r || (has_parts r || is_of_conditions r))) (covered r)
    (λ c. marking-rules-keep-marks s g r e f q c (k.where_it_marks c) t i m) (λ d.
    one-of (keeps_marks r) (puts_terms r || (has_parts r || is_of_conditions r)) d
    (λ c. let a = k.of_containers c in container-rules-keep-marks.by_each_rule s g r e f q c a.0 a.1 m) (λ d.
    one-of (puts_terms r) (has_parts r || is_of_conditions r) d
    (λ c. let a = k.of_terms c in source-rules-keep-marks s g r e f q c a.0 a.1 t i m) (λ d.
    one-of (has_parts r) (is_of_conditions r) d
    (λ c. part-rules-keep-marks s g r e f q c (k.of_parts c) t i m)
    (λ c. condition-rules-keep-marks s g r e f q c (k.of_conditions c) t i m))))

-- The chain is one of rules that keep what they rewrite, types and marks.
rewritten : (g : Names Ty) (old new : Ex) → MarkedRewriting g old new → Rewritten Typed KeptMarked g old new
rewritten g old new as_marked = as_it_was
rewritten g old new (marked_at {a} {b} s r c t q p i k l n w) = rewritten_at c p (record {
  kept = k;
  type_stays = l;
  says_nothing = rule-says-nothing s (names_at c g) r a b q;
  marks_stay = λ m. each-rule s (names_at c g) r a b q n t (l t i) m;
}) (rewritten g _ new w)

-- So marks stay.
pub chains-keep-marks : ChainsKeepMarks
chains-keep-marks = record {
  by_each_rule = each-rule;
  says_nothing = λ s g r e f q. rule-says-nothing s g r e f q;
  by_any_rules = λ g old new w m. marks-stay.by_any_rules g old new (rewritten g old new w) m;
  from_judged = λ s e new h w. marks-stay.by_any_rules s.tys (resolve e s.tys) new (rewritten s.tys (resolve e s.tys) new w)
      (judged-trees-have-marks e s h);
}
