-- What the rules of generators make of the parts of a comprehension.
use Rattle.std.specs.Prelude.{Bool, true, ◌&&◌, not, if◌then◌else◌, List, [], ◌∷◌, Option, Some, None}
use Rattle.ess_semantics.specs.Lists.{and_then}
use Rattle.ess_semantics.specs.Values.{Text}
use Rattle.ess_semantics.specs.Trees.{Pat, Pats, name_pat, tuple_pat, Ex, comp_ex, Gens, over, from, Dom, Doms, tuple_dom}
use Rattle.ess_semantics.specs.Substitution.{substitute, substitute_gens, for_name}
use Rattle.ess_core.specs.TreeViews.{Item, over_item}
use Rattle.ess_rules_laws.specs.SpliceRules.{append_gens}
use Rattle.ess_rules_laws.specs.SplitRules.{as_many, each_over}
use Rattle.ess_rules_laws.specs.ComponentRules.{has_text}
use Rattle.ess_rules_laws.specs.TupleNames.{are_names, tuples_over}
use Rattle.ess_rules_folds.specs.Forms.{comp_parts, source_parts, pattern_name}

-- ---- forms

-- A first generator over a domain: its pattern, the domain, and what stands behind it.
abbrev pub over_parts : Gens → Option (Pat × Dom × Gens)
over_parts (over p d hs) = Some (p, d, hs)
over_parts gs = None

-- The components of a pattern.
abbrev pub pattern_parts : Pat → Option Pats
pattern_parts (tuple_pat ps) = Some ps
pattern_parts p = None

-- The components of a tuple's domain.
abbrev pub tuple_parts : Dom → Option Doms
tuple_parts (tuple_dom ds) = Some ds
tuple_parts d = None

-- ---- over a comprehension

abbrev pub spliced : Ex × Gens → Option Ex
spliced c =
    and_then (source_parts c.1) (λ s. and_then (comp_parts s.1)
    (λ k. Some (comp_ex (substitute (for_name s.0 k.0) c.0) (append_gens k.1 (substitute_gens (for_name s.0 k.0) s.2)))))

-- ---- over tuples

-- A generator for each pattern and domain.
abbrev pub items_over : List Pat → List Dom → List Item
items_over (p ∷ ps) (d ∷ ds) = over_item p d ∷ items_over ps ds
items_over ps ds = []

abbrev pub components_split : Ex → Pats → Doms → Gens → Option Ex
components_split e ps ds hs = if as_many ps ds then Some (comp_ex e (each_over ps ds hs)) else None

abbrev pub split_made : Ex × Gens → Option Ex
split_made c =
    and_then (over_parts c.1) (λ o. and_then (pattern_parts o.0) (λ ps. and_then (tuple_parts o.1)
    (λ ds. components_split c.0 ps ds o.2)))

-- ---- names over tuples

-- Whether no two of the names are equal.
abbrev pub do_names_differ : List Text → Bool
do_names_differ [] = true
do_names_differ (y ∷ ys) = not (has_text ys y) && do_names_differ ys

abbrev pub tuple_named : List Text → Ex → Text → Doms → Gens → Option Ex
tuple_named ys e x ds hs = if are_names ys ds then Some (comp_ex e (from (name_pat x) (tuples_over ys ds) hs)) else None

abbrev pub tuple_made : List Text → Ex × Gens → Option Ex
tuple_made ys c =
    and_then (over_parts c.1) (λ o. and_then (pattern_name o.0) (λ x. and_then (tuple_parts o.1)
    (λ ds. tuple_named ys c.0 x ds o.2)))
