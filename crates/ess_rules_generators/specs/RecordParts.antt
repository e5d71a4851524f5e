-- What the rule of names over records makes of the parts of a comprehension.
use Rattle.std.specs.Prelude.{Bool, true, ◌&&◌, if◌then◌else◌, List, [], ◌∷◌, Option, Some, None}
use Rattle.std.specs.Ordering.{is_lt}
use Rattle.ess_semantics.specs.Lists.{and_then}
use Rattle.ess_semantics.specs.Values.{Text}
use Rattle.ess_semantics.specs.Order.{order_text}
use Rattle.ess_semantics.specs.Trees.{name_pat, Ex, comp_ex, Gens, from, Dom, Doms, record_dom}
use Rattle.ess_rules_laws.specs.TupleNames.{are_names}
use Rattle.ess_refine_laws.specs.RecordNames.{are_in_order, records_over}
use Rattle.ess_rules_folds.specs.Forms.{pattern_name}
use Rattle.ess_rules_generators.specs.GeneratorParts.{over_parts}

-- The fields of a record's domain, and their domains.
abbrev pub record_parts : Dom → Option (List Text × Doms)
record_parts (record_dom fs ds) = Some (fs, ds)
record_parts d = None

abbrev pub record_named : List Text → Ex → Text → List Text → Doms → Gens → Option Ex
record_named ys e x fs ds hs =
    if are_names ys ds && are_in_order fs ds then Some (comp_ex e (from (name_pat x) (records_over fs ys ds) hs)) else None

abbrev pub record_made : List Text → Ex × Gens → Option Ex
record_made ys c =
    and_then (over_parts c.1) (λ o. and_then (pattern_name o.0) (λ x. and_then (record_parts o.1)
    (λ r. record_named ys c.0 x r.0 r.1 o.2)))

-- Whether the name is below the first of those behind it.
abbrev pub rises_to : Text → List Text → Bool
rises_to f [] = true
rises_to f (h ∷ fs) = is_lt (order_text f h)

-- Whether the names rise.
abbrev pub do_rise : List Text → Bool
do_rise [] = true
do_rise (f ∷ fs) = rises_to f fs && do_rise fs
