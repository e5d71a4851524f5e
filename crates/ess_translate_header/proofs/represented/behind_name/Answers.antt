use Rattle.std.proofs.Common.{sym, ◌∙◌, rules}
use Rattle.ess_core.specs.TreeViews.{pure_dom}
use Rattle.ess_translate_header.proofs.NamesFit.{first_fails}
use Rattle.ess_translate_header.proofs.represented.behind_name.Goals as goal

pub returns-else-is_for : goal.returns-else-is_for
returns-else-is_for c =
    first_fails c.args.name.now (pure_dom c.args.dom.now) c.args.rest.now c.in-Some.named.now c.in-Some.more.now (search rules)
    (sym c.is_for.ensures ∙ c.if-is_for.false)
