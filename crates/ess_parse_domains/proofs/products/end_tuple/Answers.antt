use Rattle.std.proofs.Common.{sym, ◌∙◌}
use Rattle.ess_parse_domains.proofs.AttributeWords.{carried, stopped}
use Rattle.ess_parse_domains.proofs.Domains.{tuple-enough, tuple-short}
use Rattle.ess_parse_domains.proofs.products.end_tuple.Goals as goal

pub returns-then-has_enough : goal.returns-then-has_enough
returns-then-has_enough c = carried _ _ _ (tuple-enough _ _ _ _ (sym c.has_enough.ensures ∙ c.if-has_enough.true)) c.tuple_read.ensures

pub returns-else-has_enough : goal.returns-else-has_enough
returns-else-has_enough c = stopped _ _ (tuple-short _ _ _ _ (sym c.has_enough.ensures ∙ c.if-has_enough.false)) c.stop_behind_domain.ensures
