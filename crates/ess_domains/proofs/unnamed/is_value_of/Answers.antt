use Rattle.std.proofs.Common.{rules, ◌∙◌, sym}
use Rattle.ess_domains.proofs.UnnamedNames.{zero_there, above_there}
use Rattle.ess_domains.proofs.unnamed.is_value_of.Goals as goal

pub returns-then-number-lt1 : goal.returns-then-number-lt1
returns-then-number-lt1 c =
    sym (zero_there c.args.own.now _ c.args.name.now c.args.count c.in-Some.number (search rules) (λ j h e. sym c.in-Some.is ∙ c.number_behind.ensures j h e) (search rules) c.if-number-lt1.true)

pub returns-then-number-count : goal.returns-then-number-count
returns-then-number-count c =
    sym (above_there c.args.own.now _ c.args.name.now c.args.count c.in-Some.number (search rules) (λ j h e. sym c.in-Some.is ∙ c.number_behind.ensures j h e) (search rules) c.if-number-count.true)
