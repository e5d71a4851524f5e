use Rattle.std.proofs.Common.{sym, ap, ◌∙◌}
use Rattle.std.specs.Prelude.{option_map}
use Rattle.conjure_options.specs.Items.{entry}
use Rattle.conjure_options.proofs.ItemLaws.{given_before, unknown, known_or_lacking}
use Rattle.conjure_options.proofs.items.item_of.Goals as goal

-- src/items.rt
pub returns-then-is_done : goal.returns-then-is_done
returns-then-is_done c =
    given_before _ c.args.done.now c.args.item.now c.cut.result.0.now c.in-Some.text.now
    (ap (λ o. (c.cut.result.0.now, option_map (λ r. r.now) o)) (sym c.in-Some.is) ∙ c.cut.ensures.cut)
    (sym c.is_done.ensures ∙ c.if-is_done.true)

pub returns-in-Some-domain_of : goal.returns-in-Some-domain_of
returns-in-Some-domain_of c =
    known_or_lacking _ c.args.done.now c.args.item.now c.cut.result.0.now c.in-Some.text.now
    (c.in-Some-domain_of.x, c.in-Some-domain_of.dom) c.item_with.result
    (ap (λ o. (c.cut.result.0.now, option_map (λ r. r.now) o)) (sym c.in-Some.is) ∙ c.cut.ensures.cut)
    (sym c.is_done.ensures ∙ c.if-is_done.false)
    (ap (option_map entry) (sym c.in-Some-domain_of.is) ∙ c.domain_of.ensures)
    c.item_with.ensures

pub returns-in-None : goal.returns-in-None
returns-in-None c =
    unknown _ _ c.args.item.now c.cut.result.0.now c.in-Some.text.now
    (ap (λ o. (c.cut.result.0.now, option_map (λ r. r.now) o)) (sym c.in-Some.is) ∙ c.cut.ensures.cut)
    (ap (option_map entry) (sym c.in-None.is) ∙ c.domain_of.ensures)
