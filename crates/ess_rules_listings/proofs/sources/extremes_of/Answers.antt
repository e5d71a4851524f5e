use Rattle.std.proofs.Common.{sym, ap, ◌∙◌, map, option_map, Some}
use Rattle.ess_rules_folds.specs.Forms.{pure_fold}
use Rattle.ess_rules_forms.specs.PureAlternatives.{pure_alternative}
use Rattle.ess_rules_listings.proofs.Supplies.{extremes_put}
use Rattle.ess_rules_listings.proofs.sources.extremes_of.Goals as goal

pub returns : goal.returns
returns c =
    extremes_put _ _ _ _ (pure_fold c.args.fold.now) (map pure_alternative c.as_slice.result.now)
    (map pure_alternative c.as_slice-2.result.now) _
    (ap (λ l. Some (map pure_alternative l)) c.as_slice.ensures
    ∙ ap (λ o. option_map (map pure_alternative) o) (sym c.in-Some.is) ∙ c.in_ok-found.ensures)
    (ap (λ l. map pure_alternative l) c.as_slice-2.ensures ∙ c.in_ok-put.ensures)
    c.in_ok-made.ensures
