-- What a selection offers as a lookup, whatever its term: alternatives of generators with an item, which together have the one picked
-- value as their item. A selection out of what is picked itself goes through the alternatives of that; of what isn't, views and literals
-- have lookups of their own, and functions and partitions that of their members. None picks the same value out of the same term again.
use Rattle.std.specs.Prelude.{ℕ, suc, Bool, true, false, List, [], ◌∷◌, pos, Option, Some, None, option_map, if◌then◌else◌}
use Rattle.ess_semantics.specs.declared.words.Op2.{Op2}
use Rattle.ess_semantics.specs.declared.words.Fun.{Fun}
use Rattle.ess_semantics.specs.declared.words.ReprKind.{ReprKind}
use Rattle.ess_semantics.specs.Lists.{and_then, or_else}
use Rattle.ess_semantics.specs.Values.{Text}
use Rattle.ess_semantics.specs.Names.{Names}
use Rattle.ess_semantics.specs.Trees.{by_value, to_component, to_field, index, application, word, repr, no_reprs, more_reprs, name_pat, Ex, Exs, number_ex, name_ex, node_ex, matrix_ex, comp_ex, seen_ex, no_exs, more_exs, no_gens, over, from, cond, Dom, matrix_dom, more_doms, ex2, fun1}
use Rattle.ess_semantics.specs.Types.{Ty}
use Rattle.ess_rules_laws.specs.Listings.{Alternative}
use Rattle.ess_rules_laws.specs.SetListings.{put_last}
use Rattle.ess_rules_laws.specs.Function1DViews.{function_1d_lookup}
use Rattle.ess_rules_laws.specs.Function1DPartialViews.{function_1d_partial_lookup}
use Rattle.ess_rules_laws.specs.FunctionNDViews.{function_nd_lookup}
use Rattle.ess_rules_laws.specs.FunctionNDPartialViews.{function_nd_partial_lookup}
use Rattle.ess_rules_laws.specs.FunctionLookups.{function_lookup}
use Rattle.ess_rules_laws.specs.AlternativeLookups.{list_lookup, function_literal_lookup, as_alternative, lookup_through_each}
use Rattle.ess_views_laws.specs.MatrixViews.{behind_index}
use Rattle.ess_views_laws.specs.PartitionViews.{is_one_of}
use Rattle.ess_kind_rules_laws.specs.ViewListings.{names_for, dom_seen}

-- ---- what is picked

-- Whether the expression picks a value out of a term: an item, a result, a part, or a component or field of one of these.
abbrev pub picks : Ex → Bool
picks (node_ex b (index (by_value ∷ [])) es) = true
picks (node_ex b (index (to_component k ∷ [])) (more_exs t no_exs)) = picks t
picks (node_ex b (index (to_field a ∷ [])) (more_exs t no_exs)) = picks t
picks (node_ex b application es) = true
picks (node_ex b (word Fun.Image) es) = true
picks (node_ex b (word Fun.Party) es) = true
picks e = false

-- The matrix, tuple or record of which the expression picks an item, a component or a field, where it is picked itself.
abbrev pub picked_within : Ex → Option Ex
picked_within (node_ex b (index (q ∷ [])) (more_exs t es)) = if picks t then Some t else None
picked_within e = None

-- ---- items of matrices

-- `v[a]` of a view of a matrix: the view at x, where x runs over the first index domain and is a.
abbrev pub view_item_lookup : Text → Ex → Option Ex
view_item_lookup x (node_ex b (index (by_value ∷ []))
    (more_exs (seen_ex (repr ReprKind.Matrix (more_reprs r no_reprs)) (matrix_dom (more_doms i is) d) ns js) (more_exs a no_exs))) =
    Some (comp_ex (behind_index r is d ns (put_last js (name_ex x)))
    (over (name_pat x) i (cond (ex2 true Op2.Eq (name_ex x) a) no_gens)))
view_item_lookup x e = None

-- How many members of a domain, each of which is called x, are below i.
abbrev pub count_below : Text → Dom → Ex → Ex
count_below x d i =
    fun1 false Fun.Sum (comp_ex (number_ex (pos 1)) (over (name_pat x) d (cond (ex2 true Op2.Lt (name_ex x) i) no_gens)))

-- An item where i is a member of the domain with k others below it.
abbrev pub item_at_place : Text → Dom → Ex → ℕ → Ex → Alternative
item_at_place x d i k e =
    record { gens = cond (is_one_of x d i) (cond (ex2 true Op2.Eq (count_below x d i) (number_ex (pos k))) no_gens); item = e }

-- Each item at its place, from k on.
abbrev pub items_at_places : Text → Dom → Ex → ℕ → Exs → List Alternative
items_at_places x d i k no_exs = []
items_at_places x d i k (more_exs e es) = item_at_place x d i k e ∷ items_at_places x d i (suc k) es

-- `[e1, .., en; d][i]`, a literal over an index domain.
abbrev pub domain_list_lookup : Text → Ex → Option (List Alternative)
domain_list_lookup x (node_ex b (index (by_value ∷ [])) (more_exs (matrix_ex es d) (more_exs i no_exs))) =
    Some (items_at_places x d i 0 es)
domain_list_lookup x e = None

-- ---- parts and results

-- `party(a, p)`: the part x of p with a in it.
abbrev pub party_lookup : Text → Ex → Option Ex
party_lookup x (node_ex b (word Fun.Party) (more_exs a (more_exs p no_exs))) =
    Some (comp_ex (name_ex x) (from (name_pat x) (fun1 false Fun.Parts p) (cond (ex2 true Op2.Member a (name_ex x)) no_gens)))
party_lookup x e = None

-- The first operand.
abbrev pub selected_from : Ex → Option Ex
selected_from (node_ex b op (more_exs m es)) = Some m
selected_from e = None

-- The names for the components of an argument of the applied function.
abbrev pub names_of_argument : List Text → Ex → List Text
names_of_argument zs (node_ex b op (more_exs f es)) = names_for zs (dom_seen f)
names_of_argument zs e = []

-- A view of a function at an argument, by its kind.
abbrev pub function_view_lookup : Text → List Text → Ex → Option Ex
function_view_lookup x zs e =
    or_else (function_1d_lookup x e) (or_else (function_1d_partial_lookup x e)
    (or_else (function_nd_lookup zs e) (function_nd_partial_lookup zs e)))

-- A lookup of the form `[v | gs]`: of a view of a function, of an item of a view of a matrix, of a part, of any other function.
abbrev pub one_lookup : Names Ty → Text → List Text → Ex → Option Ex
one_lookup g x zs e =
    or_else (function_view_lookup x (names_of_argument zs e) e) (or_else (view_item_lookup x e)
    (or_else (party_lookup x e) (function_lookup g x e)))

-- ---- by alternatives

-- Of literals case by case, else by the one lookup, whose item is called y.
abbrev pub looked_up_alone : Names Ty → Text → Text → List Text → Ex → Option (List Alternative)
looked_up_alone g x y zs e =
    or_else (list_lookup e) (or_else (domain_list_lookup x e) (or_else (function_literal_lookup e)
    (option_map (as_alternative y) (one_lookup g x zs e))))

-- What the expression picks. The first name is that of the item of the one lookup, or of what is picked within; the others are for
-- the lookup of that, and for the components of an argument.
abbrev pub looked_up : Names Ty → Text → List Text → Ex → Option (List Alternative)
looked_up g x [] e = None
looked_up g x (y ∷ zs) e = elim (picked_within e) [
  | None ↦ looked_up_alone g x y zs e
  | Some t ↦ and_then (looked_up g x zs t) (λ l. lookup_through_each y 1 l e)
]
