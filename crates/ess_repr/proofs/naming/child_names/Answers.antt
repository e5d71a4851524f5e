use Rattle.std.proofs.Common.{◌≡◌, ap, ◌∙◌, ◌++◌, map, codes}
use Rattle.std.proofs.lemmas.Result.{IfOk-weaker}
use Rattle.ess_semantics.specs.Names.{keys}
use Rattle.ess_semantics.specs.TableNames.{child_names as names_of_children}
use Rattle.ess_core.specs.TreeViews.{pure_dom, pure_field_dom}
use Rattle.ess_repr.proofs.Fronts.{record_named}
use Rattle.ess_repr.proofs.naming.child_names.Goals as goal

pub returns-in-Rec-dom : goal.returns-in-Rec-dom
returns-in-Rec-dom c =
    IfOk-weaker c.named_fields.result (λ ns. ns ≡ map (λ a. codes "_" ++ a) (keys (map pure_field_dom c.as_slice-in-Rec-dom.result.now)))
    (λ ns. ns ≡ keys (names_of_children c.args.kind (pure_dom c.args.dom.now)))
    (λ ns e. record_named c.args.kind c.args.dom.now c.in-Rec-dom.fields ns c.in-Rec.is c.in-Rec-dom.is
    (e ∙ ap (λ fs. map (λ a. codes "_" ++ a) (keys (map pure_field_dom fs))) c.as_slice-in-Rec-dom.ensures))
    c.named_fields.ensures
