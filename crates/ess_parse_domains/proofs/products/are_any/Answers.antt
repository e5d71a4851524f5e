use Rattle.ess_parse_domains.proofs.Domains.{any-is}
use Rattle.ess_parse_domains.proofs.products.are_any.Goals as goal

pub returns : goal.returns
returns c = any-is _ _ c.is_empty.ensures
