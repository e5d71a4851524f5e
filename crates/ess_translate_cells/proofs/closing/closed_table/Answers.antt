use Rattle.std.proofs.Common.{ap, map, ◌&&◌, ◌||◌, is_some, Err}
use Rattle.std.specs.List.{list_all, list_any}
use Rattle.ess_semantics.specs.ModelTrees.{all_decls}
use Rattle.ess_semantics.specs.ModelMeaning.{model_domain}
use Rattle.ess_semantics.specs.LargeModels.{dom_is_large}
use Rattle.eprime_tree.specs.Views.{pure_dom}
use Rattle.eprime_eval.specs.declared.closing.EvalNo.TheVariants.{Undefined, Big}
use Rattle.eprime_verdicts.proofs.Stops.{same_stop}
use Rattle.eprime_verdicts.proofs.Denoting.{and-lost, or-won}
use Rattle.ess_translate_cells.proofs.closing.closed_table.Goals as goal

pub returns-in_err-axes-clause-undefined : goal.returns-in_err-axes-clause-undefined
returns-in_err-axes-clause-undefined c h E q s u =
    ap (λ b. b && is_some (model_domain (all_decls E) q (pure_dom s c.args.decl.now.cell)))
    (rw c.as_slice.ensures at (c.in_err-axes.ensures.undefined (ap (λ no. Err no)
    (same_stop c.from_residual.result c.in_err-axes.field-0.0 Undefined c.from_residual.ensures.1 h)) E q s u))

pub returns-in_err-axes-clause-big : goal.returns-in_err-axes-clause-big
returns-in_err-axes-clause-big c h E q s u =
    ap (λ b. b || dom_is_large (all_decls E) q (pure_dom s c.args.decl.now.cell))
    (rw c.as_slice.ensures at (c.in_err-axes.ensures.big (ap (λ no. Err no)
    (same_stop c.from_residual.result c.in_err-axes.field-0.0 Big c.from_residual.ensures.1 h)) E q s u))

pub returns-in_err-cell-clause-undefined : goal.returns-in_err-cell-clause-undefined
returns-in_err-cell-clause-undefined c h E q s u =
    and-lost (list_all (λ a. is_some (model_domain (all_decls E) q a)) (map (pure_dom s) c.args.decl.now.axes))
    (ap is_some (c.in_err-cell.ensures.undefined (ap (λ no. Err no)
    (same_stop c.from_residual-in_err-cell.result c.in_err-cell.field-0.0 Undefined c.from_residual-in_err-cell.ensures.1 h))
    (all_decls E) s q u))

pub returns-in_err-cell-clause-big : goal.returns-in_err-cell-clause-big
returns-in_err-cell-clause-big c h E q s u =
    or-won (list_any (dom_is_large (all_decls E) q) (map (pure_dom s) c.args.decl.now.axes))
    (c.in_err-cell.ensures.big (ap (λ no. Err no)
    (same_stop c.from_residual-in_err-cell.result c.in_err-cell.field-0.0 Big c.from_residual-in_err-cell.ensures.1 h))
    (all_decls E) s q u)

pub returns-clause-ok : goal.returns-clause-ok
returns-clause-ok c = record {
  axes = rw c.as_slice.ensures at c.in_ok-axes.ensures.ok;
  cell = λ E q s u. c.in_ok-cell.ensures.ok (all_decls E) s q u;
}
