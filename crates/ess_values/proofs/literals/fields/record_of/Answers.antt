use Rattle.std.proofs.Common.{◌≡◌, sym, ap, ◌∙◌, List, length, map}
use Rattle.std.proofs.lemmas.List.{map-id}
use Rattle.std.proofs.lemmas.Iterator.Adapters.{YieldsList-from_vec}
use Rattle.std.proofs.lemmas.Iterator.Consumers.{YieldsList-end}
use Rattle.ess_semantics.specs.Values.{Text, Value}
use Rattle.ess_semantics.specs.Names.{keys}
use Rattle.ess_semantics.specs.Types.{Ty}
use Rattle.ess_values.specs.Literals.{pure_fields}
use Rattle.ess_values.specs.declared.literals.parts.Field.{Field}
use Rattle.ess_values.proofs.FieldLemmas.{record_there}
use Rattle.ess_values.proofs.literals.fields.record_of.Goals as goal

pub returns : goal.returns
returns c =
    let b = c.into_iter-field-iterator.ensures.into_iter_gives in
    let v = c.into_vec-field-items.ensures in
    let road = YieldsList-from_vec {s = c.into_iter-field-iterator.result} c.args.fields (b.0 ∙ v) (b.1 ∙ c.into_vec-field-items.result.ok.0 ∙ ap length v) in
    let all : c.loop-field.yielded ≡ c.args.fields = sym (map-id c.loop-field.yielded) ∙ (YieldsList-end road c.loop-field.yielded c.loop-field.field-iterator c.loop-field.yielded_by c.next.result c.next.new.self c.in-None.is c.next.ensures.steps).0 in
    let so_far = c.loop-field.invariant in
    rw (c.in_ok-new.ensures, c.in_ok-new-2.ensures) (record_there c.args.fields _ _ _ (so_far.names_so_far ∙ ap (λ (fs : List Field). keys (pure_fields fs)) all)
    (so_far.shapes_so_far ∙ ap (λ (fs : List Field). map (λ (f : Text × (Ty × Value)). f.1.0) (pure_fields fs)) all)
    (so_far.vals_so_far ∙ ap (λ (fs : List Field). map (λ (f : Text × (Ty × Value)). (f.0, f.1.1)) (pure_fields fs)) all))
