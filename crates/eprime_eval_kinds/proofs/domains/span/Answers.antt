use Rattle.std.proofs.Common.{◌∙◌, sym, ap, None, option_map}
use Rattle.eprime_eval_kinds.specs.KindedViews.{pure_kex}
use Rattle.eprime_eval_kinds.specs.Kinding.{ends_of}
use Rattle.eprime_eval_kinds.proofs.Results.{ok-map}
use Rattle.eprime_eval_kinds.proofs.domains.span.Goals as goal

pub returns-in-None-to-2 : goal.returns-in-None-to-2
returns-in-None-to-2 c =
    ok-map c.unbounded.result
    (λ k h names. h names ∙ ap (λ o. ends_of (option_map (pure_kex names) o) None) (sym c.in-None.is)
    ∙ ap (λ o. ends_of (option_map (pure_kex names) c.args.from) (option_map (pure_kex names) o)) (sym c.in-None-to-2.is))
    c.unbounded.ensures
