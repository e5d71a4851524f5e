use Rattle.std.proofs.Common.{ap, sym, ◌∙◌, ◌++◌, min, Some, Err, option_map}
use Rattle.ess_semantics.specs.ModelTrees.{all_decls}
use Rattle.ess_semantics.specs.LargeModels.{ex_is_large}
use Rattle.eprime_tree.specs.Views.{pure_ex}
use Rattle.eprime_eval.specs.declared.closing.EvalNo.TheVariants.{Big}
use Rattle.eprime_verdicts.proofs.Stops.{same_stop}
use Rattle.eprime_verdicts.proofs.Denoting.{any-one}
use Rattle.eprime_verdicts.proofs.RulesInOrder.{rules_more, rules_false, rules_all}
use Rattle.eprime_verdicts.proofs.ruling.first_false.Goals as goal

pub returns-in_err-truth_in-clause-big : goal.returns-in_err-truth_in-clause-big
returns-in_err-truth_in-clause-big c h E q d s u =
    any-one (ex_is_large (all_decls E) (q ++ d)) (pure_ex s) c.args.rules.now c.loop-place.place c.index-rules-place.result c.loop-place-test.true c.index-rules-place.is
    (c.in_err-truth_in.ensures.big (ap (λ no. Err no) (same_stop c.from_residual.result c.in_err-truth_in.field-0.0 Big c.from_residual.ensures.1 h)) (all_decls E) s (q ++ d) u)

pub returns-then-not-branch-clause-ok : goal.returns-then-not-branch-clause-ok
returns-then-not-branch-clause-ok c E q d s u =
    ap (option_map (λ k. min k 4294967295))
    (rules_false c.args.under.now c.args.rules.now c.loop-place.place c.index-rules-place.result c.loop-place.invariant c.loop-place-test.true c.index-rules-place.is
    (λ E q d s u. c.in_ok-truth_in.ensures.ok (all_decls E) s (q ++ d) u ∙ c.if-not-branch.true) E q d s u)
    ∙ ap Some (sym c.number_of.ensures)

pub loop-place-preserved : goal.loop-place-preserved
loop-place-preserved c =
    rules_more c.args.under.now c.args.rules.now c.loop-place.place c.index-rules-place.result c.loop-place.invariant c.loop-place-test.true c.index-rules-place.is
    (λ E q d s u. c.in_ok-truth_in.ensures.ok (all_decls E) s (q ++ d) u ∙ c.if-not-branch.false)

pub returns-clause-ok : goal.returns-clause-ok
returns-clause-ok c E q d s u =
    ap (option_map (λ k. min k 4294967295)) (rules_all c.args.under.now c.args.rules.now c.loop-place.place c.loop-place.invariant c.loop-place-test.false E q d s u)
