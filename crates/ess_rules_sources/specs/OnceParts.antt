-- What sets of items offer, by the parts of the root.
use Rattle.std.specs.Prelude.{Bool, false, if◌then◌else◌, List, [], ◌∷◌, Option, Some, None}
use Rattle.ess_semantics.specs.declared.words.Fun.{Fun}
use Rattle.ess_semantics.specs.Lists.{and_then}
use Rattle.ess_semantics.specs.Values.{Text}
use Rattle.ess_semantics.specs.Trees.{Pat, Ex, Exs, Gens, no_gens, over, from, cond, Dom}
use Rattle.ess_rules_laws.specs.Listings.{Alternative}
use Rattle.ess_refine_laws.specs.ItemsOnce.{is_atom_dom, items_where, items_over}
use Rattle.ess_rules_folds.specs.Forms.{first_comp, are_none, pattern_name}

-- The comprehension of which a set is made, by a word and its operands.
abbrev pub set_comp : Bool → Fun → Exs → Option (Ex × Gens × Exs)
set_comp false Fun.ToSet es = first_comp es
set_comp b f es = None

-- An alternative where the comprehension is the only operand.
abbrev pub where_alone : Exs → Alternative → Option (List Alternative)
where_alone xs a = if are_none xs then Some (a ∷ []) else None

-- Where the first generator is over a domain.
abbrev pub once_over : Text → Text → Text → Ex → Pat → Dom → Gens → Exs → Option (List Alternative)
once_over y z w e p d gs xs =
    and_then (pattern_name p) (λ x. if are_none xs then (if is_atom_dom d then Some (items_over y z w x d e gs ∷ []) else None) else None)

-- By the first generator.
abbrev pub once_by : Text → Text → Text → Ex → Gens → Exs → Option (List Alternative)
once_by y z w e no_gens xs = where_alone xs (record { gens = no_gens; item = e })
once_by y z w e (cond c gs) xs = where_alone xs (items_where y c e gs)
once_by y z w e (over p d gs) xs = once_over y z w e p d gs xs
once_by y z w e (from p s gs) xs = None
