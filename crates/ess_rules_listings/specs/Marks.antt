-- What rules read off the type of a function: whether its arguments and its results are truth values.
use Rattle.std.specs.Prelude.{ℕ, Bool, true, false, List, [], ◌∷◌, Option, Some, None, option_map}
use Rattle.ess_semantics.specs.declared.words.Op2.{Op2}
use Rattle.ess_semantics.specs.declared.words.Fun.{Fun}
use Rattle.ess_semantics.specs.Values.{Text}
use Rattle.ess_semantics.specs.Trees.{to_component, index, name_pat, Ex, name_ex, node_ex, comp_ex, ex2, fun1, no_exs, more_exs, Gens, no_gens, from, cond}
use Rattle.ess_semantics.specs.Types.{Ty, is_bool}
use Rattle.ess_semantics.specs.Names.{Names}
use Rattle.ess_semantics.specs.Typing.{type_of}
use Rattle.ess_rules_laws.specs.Listings.{Alternative, those}
use Rattle.ess_rules_laws.specs.ContainerListings.{of_function}

-- Whether the type is that of truth values.
abbrev pub is_truth : Ty → Bool
is_truth t = is_bool (Some t)

-- Of a type of functions whether the arguments are truth values, and whether the results are.
abbrev pub marks_of : Option Ty → Option (Bool × Bool)
marks_of o = of_function o (λ t u. (is_truth t, is_truth u))

-- The k-th component of a tuple, Boolean where the mark says so.
abbrev pub component_by : Bool → ℕ → Ex → Ex
component_by m k a = node_ex m (index (to_component k ∷ [])) (more_exs a no_exs)

-- The first component of each pair of f, under a condition on the pair.
abbrev pub arguments_by : Bool → Text → Ex → Gens → Alternative
arguments_by m x f gs = record { gens = from (name_pat x) f gs; item = component_by m 1 (name_ex x) }

-- Each member of each part of p.
abbrev pub members_in_parts : Text → Text → Ex → Alternative
members_in_parts x y p = record { gens = from (name_pat y) p (from (name_pat x) (name_ex y) no_gens); item = name_ex x }

-- That the result of the pair x is b.
abbrev pub has_result : Bool → Text → Ex → Ex
has_result m x b = ex2 true Op2.Eq (component_by m 2 (name_ex x)) b

-- What the pairs of f, its arguments, and those of the result b offer, by its marks.
abbrev pub pairs_offered : Text → Ex → Option (Bool × Bool) → Option (List Alternative)
pairs_offered x f o = option_map (λ m. those x f no_gens ∷ []) o

abbrev pub arguments_offered : Text → Ex → Option (Bool × Bool) → Option (List Alternative)
arguments_offered x f o = option_map (λ m. arguments_by m.0 x f no_gens ∷ []) o

abbrev pub sources_offered : Text → Ex → Ex → Option (Bool × Bool) → Option (List Alternative)
sources_offered x f b o = option_map (λ m. arguments_by m.0 x f (cond (has_result m.1 x b) no_gens) ∷ []) o

-- What a word of two terms offers.
abbrev pub pair_offered : Names Ty → Text → Fun → Ex → Ex → Option (List Alternative)
pair_offered g x Fun.PreImage f b = sources_offered x f b (marks_of (type_of f g))
pair_offered g x h a b = None

-- The set of the results of f.
abbrev pub results_by : Bool → Text → Ex → Ex
results_by m x f = fun1 false Fun.ToSet (comp_ex (component_by m 2 (name_ex x)) (from (name_pat x) f no_gens))
