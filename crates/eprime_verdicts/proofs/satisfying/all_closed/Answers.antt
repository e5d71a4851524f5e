use Rattle.std.proofs.Common.{ap, sym, ◌∙◌, ◌||◌, ◌++◌, Err}
use Rattle.std.specs.List.{list_any}
use Rattle.std.proofs.lemmas.Result.{IfOk-weaker}
use Rattle.std.proofs.lemmas.List.Folds.{list_any-append}
use Rattle.ess_semantics.specs.ModelTrees.{all_decls}
use Rattle.ess_semantics.specs.LargeModels.{decl_is_large}
use Rattle.ess_grammar.specs.Models.{empty_scope, with_given, with_find}
use Rattle.eprime_tree.specs.Views.{pure_model, scope_of_givens}
use Rattle.eprime_eval.specs.declared.closing.EvalNo.TheVariants.{Big}
use Rattle.eprime_verdicts.proofs.Stops.{same_stop}
use Rattle.eprime_verdicts.proofs.Denoting.{or-won}
use Rattle.eprime_verdicts.proofs.FoundDecls.{found}
use Rattle.eprime_verdicts.proofs.satisfying.all_closed.Goals as goal

pub returns-in_err-given-clause-big : goal.returns-in_err-given-clause-big
returns-in_err-given-clause-big c h q u =
    list_any-append (decl_is_large (all_decls (pure_model c.args.model.now)) q) (pure_model c.args.model.now).givens (pure_model c.args.model.now).finds
    ∙ ap (λ b. b || list_any (decl_is_large (all_decls (pure_model c.args.model.now)) q) (pure_model c.args.model.now).finds)
    ((rw c.as_slice.ensures at (c.in_err-given.ensures.big (ap (λ no. Err no) (same_stop c.from_residual.result c.in_err-given.field-0.0 Big c.from_residual.ensures.1 h)))) (pure_model c.args.model.now) q empty_scope u with_given)

pub returns-clause-ok : goal.returns-clause-ok
returns-clause-ok c =
    IfOk-weaker c.closed_decls-2.result _ _
    (λ rs f q u. found c.args.under.now c.args.model.now q c.in_ok-given.given rs u (rw c.as_slice.ensures at c.in_ok-given.ensures.ok) (rw c.as_slice-2.ensures at f))
    c.closed_decls-2.ensures.ok

pub returns-clause-big : goal.returns-clause-big
returns-clause-big c h q u =
    list_any-append (decl_is_large (all_decls (pure_model c.args.model.now)) q) (pure_model c.args.model.now).givens (pure_model c.args.model.now).finds
    ∙ or-won (list_any (decl_is_large (all_decls (pure_model c.args.model.now)) q) (pure_model c.args.model.now).givens)
    ((rw c.as_slice-2.ensures at (c.closed_decls-2.ensures.big h)) (pure_model c.args.model.now) q (scope_of_givens c.args.model.now) u with_find)
