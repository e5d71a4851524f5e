use Rattle.std.proofs.Common.{ap, ◌∙◌, ◌∷◌}
use Rattle.ess_grammar.specs.Kinds.{token}
use Rattle.ess_core.specs.TreeViews.{pure_dom}
use Rattle.ess_parse_frames.specs.Statements.{begin_behind}
use Rattle.ess_parse_frames.specs.Views.{view_frame}
use Rattle.ess_parse_domains.proofs.AttributeWords.{carried_at}
use Rattle.ess_parse_domains.proofs.OtherTokens.{other_token}
use Rattle.ess_parse_domains.proofs.ends.begin_statement.Goals as goal

pub returns : goal.returns
returns c bytes outer =
    carried_at _ _ _ bytes
    (other_token (token c.args.kind bytes) (view_frame c.args.frame ∷ outer) (pure_dom c.args.domain) (c.requires bytes)
    ∙ ap (begin_behind (token c.args.kind bytes)) (c.in_ok-ended.ensures outer))
    c.begin_after.ensures
