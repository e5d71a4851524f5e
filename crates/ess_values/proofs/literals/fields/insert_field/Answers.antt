use Rattle.std.proofs.Common.{◌≡◌, ap, ◌∙◌}
use Rattle.std.specs.List.{insert}
use Rattle.ess_values.specs.Places.{place_in}
use Rattle.ess_values.specs.Literals.{pure_fields}
use Rattle.ess_values.proofs.FieldLemmas.{field_inserted}
use Rattle.ess_values.proofs.literals.fields.insert_field.Goals as goal

pub returns : goal.returns
returns c =
    let at : c.place_of-at.result ≡ place_in c.args.field.name (pure_fields c.args.sorted.now) = cc in
    ap pure_fields c.in_ok-insert.ensures.ok ∙ ap (λ k. pure_fields (insert c.args.sorted.now k c.args.field)) at ∙ field_inserted c.args.field c.args.sorted.now
