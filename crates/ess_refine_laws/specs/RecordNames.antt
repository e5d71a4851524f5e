-- A name over a record of domains: the name becomes the record of new names over the components.
use Rattle.std.specs.Prelude.{Bool, true, false, ◌&&◌, List, [], ◌∷◌, Option, Some, None, if◌then◌else◌}
use Rattle.std.specs.Ordering.{is_lt}
use Rattle.ess_semantics.specs.Values.{Text}
use Rattle.ess_semantics.specs.Order.{order_text}
use Rattle.ess_semantics.specs.Trees.{record_literal, name_pat, tuple_pat, Ex, node_ex, comp_ex, no_gens, over, from, Doms, tuple_dom, record_dom, no_doms, more_doms}
use Rattle.ess_rules_laws.specs.Rules.{RuleKeeps}
use Rattle.ess_rules_laws.specs.TupleNames.{named_pats, named_exs, are_names}

-- Whether there is a field for each domain, in the order of their bytes, no two of them equal.
abbrev pub are_in_order : List Text → Doms → Bool
are_in_order [] no_doms = true
are_in_order (f ∷ []) (more_doms d no_doms) = true
are_in_order (f ∷ h ∷ fs) (more_doms d ds) = is_lt (order_text f h) && are_in_order (h ∷ fs) ds
are_in_order fs ds = false

-- `[record {f = y, h = z} | (y, z) : (A, B)]`.
abbrev pub records_over : List Text → List Text → Doms → Ex
records_over fs ys ds =
    comp_ex (node_ex false (record_literal fs) (named_exs ys)) (over (tuple_pat (named_pats ys)) (tuple_dom ds) no_gens)

-- `[e | x : record {f : A, h : B}, hs]` is `[e | x <- [record {f = y, h = z} | (y, z) : (A, B)], hs]`; ys are the names y, z. So the
-- generator may be spliced and split.
abbrev pub name_over_record : List Text → Ex → Option Ex
name_over_record ys (comp_ex e (over (name_pat x) (record_dom fs ds) hs)) =
    if are_names ys ds && are_in_order fs ds then Some (comp_ex e (from (name_pat x) (records_over fs ys ds) hs)) else None
name_over_record ys e = None

-- So it keeps what it rewrites, whatever the names are.
abbrev pub NamesOverRecordsKeep : Type 0
NamesOverRecordsKeep = (ys : List Text) → RuleKeeps (name_over_record ys)
