use Rattle.std.proofs.Common.{ap, sym, ◌∙◌, ◌||◌, ◌++◌, Some, None, Err, min, option_map}
use Rattle.ess_semantics.specs.ModelTrees.{all_decls}
use Rattle.ess_semantics.specs.LargeModels.{declares_large, goal_is_large}
use Rattle.ess_core.specs.TableViews.{pure_cells}
use Rattle.eprime_tree.specs.Views.{pure_model}
use Rattle.eprime_eval.specs.declared.closing.EvalNo.TheVariants.{Big}
use Rattle.eprime_verdicts.specs.declared.satisfying.PVerdict.TheVariants.{Yes, OutOfDomain, Missing, Extra, False}
use Rattle.eprime_verdicts.proofs.Stops.{same_stop}
use Rattle.eprime_verdicts.proofs.Denoting.{or-won}
use Rattle.eprime_verdicts.proofs.VerdictParts.{is_missing, is_extra, is_outside, is_false, is_satisfied, yes_where_satisfied}
use Rattle.eprime_verdicts.proofs.satisfying.satisfies.Goals as goal

pub returns-in-Some-clause-ok : goal.returns-in-Some-clause-ok
returns-in-Some-clause-ok c =
    is_missing c.args.model.now (pure_cells c.args.givens.now) (pure_cells c.args.finds.now) c.in_ok-decls.decls c.in_ok-decls.ensures.ok c.in_ok-copy.field-0
    (ap Some c.in_ok-copy.ensures ∙ (rw (c.as_slice.ensures, c.as_slice-tables.ensures) at c.in-Some.ensures))

pub returns-in-Some-clause-sat : goal.returns-in-Some-clause-sat
returns-in-Some-clause-sat c =
    yes_where_satisfied c.args.model.now (pure_cells c.args.givens.now) (pure_cells c.args.finds.now) c.in_ok-decls.decls c.in_ok-decls.ensures.ok (Missing c.in_ok-copy.field-0) (returns-in-Some-clause-ok c)

pub returns-in-Some-first_extra-clause-ok : goal.returns-in-Some-first_extra-clause-ok
returns-in-Some-first_extra-clause-ok c =
    is_extra c.args.model.now (pure_cells c.args.givens.now) (pure_cells c.args.finds.now) c.in_ok-decls.decls c.in_ok-decls.ensures.ok c.in_ok-copy-2.field-0
    (rw (c.as_slice.ensures, c.as_slice-tables.ensures) at c.in_default.ensures)
    (ap Some c.in_ok-copy-2.ensures ∙ (rw (c.as_slice-2.ensures, c.as_slice-tables.ensures) at c.in-Some-first_extra.ensures))

pub returns-in-Some-first_extra-clause-sat : goal.returns-in-Some-first_extra-clause-sat
returns-in-Some-first_extra-clause-sat c =
    yes_where_satisfied c.args.model.now (pure_cells c.args.givens.now) (pure_cells c.args.finds.now) c.in_ok-decls.decls c.in_ok-decls.ensures.ok (Extra c.in_ok-copy-2.field-0) (returns-in-Some-first_extra-clause-ok c)

pub returns-in-Some-2-clause-ok : goal.returns-in-Some-2-clause-ok
returns-in-Some-2-clause-ok c =
    is_outside c.args.model.now (pure_cells c.args.givens.now) (pure_cells c.args.finds.now) c.in_ok-decls.decls c.in_ok-decls.ensures.ok c.in-Some-2.name
    (rw (c.as_slice.ensures, c.as_slice-tables.ensures) at c.in_default.ensures)
    (rw (c.as_slice-2.ensures, c.as_slice-tables.ensures) at c.in_default-first_extra.ensures)
    (sym c.in-Some-2.is ∙ (rw (c.as_slice-3.ensures, c.as_slice-tables.ensures) at c.in_ok-name.ensures))

pub returns-in-Some-2-clause-sat : goal.returns-in-Some-2-clause-sat
returns-in-Some-2-clause-sat c =
    yes_where_satisfied c.args.model.now (pure_cells c.args.givens.now) (pure_cells c.args.finds.now) c.in_ok-decls.decls c.in_ok-decls.ensures.ok (OutOfDomain c.in-Some-2.name) (returns-in-Some-2-clause-ok c)

pub returns-in-Some-3-clause-ok : goal.returns-in-Some-3-clause-ok
returns-in-Some-3-clause-ok c =
    is_false c.args.model.now (pure_cells c.args.givens.now) (pure_cells c.args.finds.now) c.in_ok-decls.decls c.in_ok-decls.ensures.ok c.in-Some-3.number
    (rw (c.as_slice.ensures, c.as_slice-tables.ensures) at c.in_default.ensures)
    (rw (c.as_slice-2.ensures, c.as_slice-tables.ensures) at c.in_default-first_extra.ensures)
    (sym c.in_default-2.is ∙ (rw (c.as_slice-3.ensures, c.as_slice-tables.ensures) at c.in_ok-name.ensures))
    (c.in_ok-number.ensures.ok ∙ c.in-Some-3.is)

pub returns-in-Some-3-clause-sat : goal.returns-in-Some-3-clause-sat
returns-in-Some-3-clause-sat c =
    yes_where_satisfied c.args.model.now (pure_cells c.args.givens.now) (pure_cells c.args.finds.now) c.in_ok-decls.decls c.in_ok-decls.ensures.ok (False c.in-Some-3.number) (returns-in-Some-3-clause-ok c)

pub returns-clause-ok : goal.returns-clause-ok
returns-clause-ok c =
    is_satisfied c.args.model.now (pure_cells c.args.givens.now) (pure_cells c.args.finds.now) c.in_ok-decls.decls c.in_ok-decls.ensures.ok
    (rw (c.as_slice.ensures, c.as_slice-tables.ensures) at c.in_default.ensures)
    (rw (c.as_slice-2.ensures, c.as_slice-tables.ensures) at c.in_default-first_extra.ensures)
    (sym c.in_default-2.is ∙ (rw (c.as_slice-3.ensures, c.as_slice-tables.ensures) at c.in_ok-name.ensures))
    (c.in_ok-number.ensures.ok ∙ c.in-None.is)

pub returns-clause-sat : goal.returns-clause-sat
returns-clause-sat c =
    yes_where_satisfied c.args.model.now (pure_cells c.args.givens.now) (pure_cells c.args.finds.now) c.in_ok-decls.decls c.in_ok-decls.ensures.ok Yes (returns-clause-ok c)

pub returns-in_err-number-clause-big : goal.returns-in_err-number-clause-big
returns-in_err-number-clause-big c h =
    or-won (declares_large (pure_model c.args.model.now) (pure_cells c.args.givens.now)
    || goal_is_large (all_decls (pure_model c.args.model.now)) (pure_cells c.args.givens.now ++ pure_cells c.args.finds.now) (pure_model c.args.model.now).goal)
    (c.in_err-number.ensures.big (ap (λ no. Err no) (same_stop c.from_residual-in_err-number.result c.in_err-number.field-0.0 Big c.from_residual-in_err-number.ensures.1 h)))
