use Rattle.std.proofs.Common.{◌≡◌, ap, ◌∙◌, map}
use Rattle.std.specs.List.{insert}
use Rattle.ess_core.specs.TypeViews.{pure_field_ty}
use Rattle.ess_types_operators.specs.Places.{place_in}
use Rattle.ess_types_operators.proofs.RecordLemmas.{field_inserted}
use Rattle.ess_node_types.proofs.records.insert_field.Goals as goal

pub returns : goal.returns
returns c =
    let at : c.place_of-at.result ≡ place_in c.args.field.name (map pure_field_ty c.args.sorted.now) = cc in
    ap (map pure_field_ty) c.in_ok-insert.ensures.ok ∙ ap (λ k. map pure_field_ty (insert c.args.sorted.now k c.args.field)) at ∙ field_inserted c.args.field c.args.sorted.now
