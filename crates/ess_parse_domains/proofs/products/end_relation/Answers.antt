use Rattle.std.proofs.Common.{sym, ◌∙◌}
use Rattle.ess_parse_domains.proofs.AttributeWords.{carried, stopped}
use Rattle.ess_parse_domains.proofs.Domains.{relation-enough, relation-short}
use Rattle.ess_parse_domains.proofs.products.end_relation.Goals as goal

pub returns-then-are_any : goal.returns-then-are_any
returns-then-are_any c = carried _ _ _ (relation-enough _ _ _ _ _ (sym c.are_any.ensures ∙ c.if-are_any.true)) c.relation_read.ensures

pub returns-else-are_any : goal.returns-else-are_any
returns-else-are_any c = stopped _ _ (relation-short _ _ _ _ _ (sym c.are_any.ensures ∙ c.if-are_any.false)) c.stop_behind_domain.ensures
