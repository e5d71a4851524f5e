-- Worked examples of the parts of rules of generators.
use Rattle.std.specs.Prelude.{◌≡◌, refl, true, false, [], ◌∷◌, codes, Some, None}
use Rattle.ess_semantics.specs.Values.{Text}
use Rattle.ess_semantics.specs.Trees.{name_pat, no_pats, no_gens, over, cond, bool_dom, more_doms, no_doms, record_dom}
use Rattle.ess_semantics.proofs.Shorthands.{N}
use Rattle.ess_core.specs.TreeViews.{over_item}
use Rattle.ess_rules_generators.specs.GeneratorParts.{over_parts, tuple_parts, pattern_parts, items_over, components_split, do_names_differ, tuple_named}
use Rattle.ess_rules_generators.specs.RecordParts.{record_parts, rises_to, do_rise}

abbrev x : Text
x = codes "x"

abbrev y : Text
y = codes "y"

-- A generator over a domain has its parts; a condition has none.
of_a_domain : over_parts (over (name_pat x) bool_dom no_gens) ≡ Some (name_pat x, bool_dom, no_gens)
of_a_domain = refl

of_a_condition : over_parts (cond (N x) no_gens) ≡ None
of_a_condition = refl

-- A name has no components, nor has a domain that is no tuple's.
of_a_name : pattern_parts (name_pat x) ≡ None
of_a_name = refl

of_truth_values : tuple_parts bool_dom ≡ None
of_truth_values = refl

-- A record's domain has fields.
of_a_record : record_parts (record_dom (x ∷ []) (more_doms bool_dom no_doms)) ≡ Some (x ∷ [], more_doms bool_dom no_doms)
of_a_record = refl

-- There are as many components in the pattern as in the domain, else nothing is split.
not_split : components_split (N x) no_pats (more_doms bool_dom no_doms) no_gens ≡ None
not_split = refl

-- One name for one domain isn't enough for two.
not_named : tuple_named (x ∷ []) (N y) y (more_doms bool_dom (more_doms bool_dom no_doms)) no_gens ≡ None
not_named = refl

-- As many generators as both lists go.
generators : items_over (name_pat x ∷ name_pat y ∷ []) (bool_dom ∷ []) ≡ over_item (name_pat x) bool_dom ∷ []
generators = refl

-- Names differ, and names rise.
differ : do_names_differ (x ∷ y ∷ x ∷ []) ≡ false
differ = refl

rise : do_rise (x ∷ y ∷ []) ≡ true
rise = refl

same : do_rise (x ∷ x ∷ []) ≡ false
same = refl

below : rises_to y (x ∷ []) ≡ false
below = refl
