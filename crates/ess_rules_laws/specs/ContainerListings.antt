-- What terms made of functions and of partitions offer as a listing, and so what literals of these offer.
use Rattle.std.specs.Prelude.{◌≡◌, true, false, List, [], ◌∷◌, Option, Some, None, IsTrue, is_some, if◌then◌else◌}
use Rattle.ess_semantics.specs.declared.words.Op2.{Op2}
use Rattle.ess_semantics.specs.declared.words.Fun.{Fun}
use Rattle.ess_semantics.specs.Values.{Text, a_function}
use Rattle.ess_semantics.specs.Names.{Names}
use Rattle.ess_semantics.specs.Trees.{word, function_literal, partition_literal, mset_literal, matrix_literal, name_pat, Ex, name_ex, node_ex, matrix_ex, comp_ex, ex2, fun1, no_exs, more_exs, Gens, no_gens, from, cond}
use Rattle.ess_semantics.specs.Types.{Ty, compound2}
use Rattle.ess_semantics.specs.Typing.{type_of}
use Rattle.ess_semantics.specs.Typed.{Typed}
use Rattle.ess_semantics.specs.Meaning.{Env, meaning}
use Rattle.ess_semantics.specs.Meets.{Meets}
use Rattle.ess_rules_laws.specs.Rules.{Unused, SoundOperands, RuleKeepsTyped}
use Rattle.ess_rules_laws.specs.ComponentRules.{component_of}
use Rattle.ess_rules_laws.specs.ShortSizeRules.{is_partition}
use Rattle.ess_rules_laws.specs.Listings.{Alternative, each_item, each_first, those}
use Rattle.ess_rules_laws.specs.ListedSources.{Offers}

-- Where f is a function, what is made of the types of its arguments and results.
abbrev pub of_function : {A : Type 0} → Option Ty → (Ty → Ty → A) → Option A
of_function (Some (compound2 a_function t u)) h = Some (h t u)
of_function o h = None

-- The first component of each pair of f, under a condition on the pair; t is the type of it.
abbrev pub arguments_listed : Text → Ty → Ex → Gens → Alternative
arguments_listed x t f gs = record { gens = from (name_pat x) f gs; item = component_of t 1 (name_ex x) }

-- Each member of each part of p.
abbrev pub members_of_parts : Text → Text → Ex → Alternative
members_of_parts x y p = record { gens = from (name_pat y) p (from (name_pat x) (name_ex y) no_gens); item = name_ex x }

-- The alternatives of a term; x and y are new names. `toRelation(f)` has the pairs of f, `defined(f)` their first components,
-- `preImage(f, b)` those whose second one is b, `participants(p)` the members of the parts of p. Literals of functions and sets
-- made of literals have each item once, and the parts of a partition literal differ. A matrix literal over a domain has its items.
abbrev pub made_listing : Names Ty → Text → Text → Ex → Option (List Alternative)
made_listing g x y (fun1 false Fun.ToRelation f) = of_function (type_of f g) (λ t u. those x f no_gens ∷ [])
made_listing g x y (fun1 false Fun.Defined f) = of_function (type_of f g) (λ t u. arguments_listed x t f no_gens ∷ [])
made_listing g x y (node_ex false (word Fun.PreImage) (more_exs f (more_exs b no_exs))) =
    of_function (type_of f g) (λ t u. arguments_listed x t f (cond (ex2 true Op2.Eq (component_of u 2 (name_ex x)) b) no_gens) ∷ [])
made_listing g x y (fun1 false Fun.Participants p) = if is_partition (type_of p g) then Some (members_of_parts x y p ∷ []) else None
made_listing g x y (node_ex false function_literal es) = Some (each_first [] es)
made_listing g x y (node_ex false partition_literal es) = Some (each_item es)
made_listing g x y (fun1 false Fun.ToSet (node_ex false matrix_literal es)) = Some (each_first [] es)
made_listing g x y (fun1 false Fun.ToSet (node_ex false mset_literal es)) = Some (each_first [] es)
made_listing g x y (matrix_ex es d) = Some (each_item es)
made_listing g x y e = None

-- `range(f)` is `toSet([x[2] | x <- f])`.
abbrev pub range_as_set : Names Ty → Text → Ex → Option Ex
range_as_set g x (fun1 false Fun.Range f) =
    of_function (type_of f g) (λ t u. fun1 false Fun.ToSet (comp_ex (component_of u 2 (name_ex x)) (from (name_pat x) f no_gens)))
range_as_set g x e = None

-- Where a term is there it offers its alternatives; and the set of results is what it is written as.
pub record MadeListingsList : Type 0 where
  pub offers : (g : Names Ty) (x y : Text) (e : Ex) (l : List Alternative) → made_listing g x y e ≡ Some l → Unused x e →
      SoundOperands g e →
      (env : Env) → Typed g env → IsTrue (is_some (meaning e env)) → Meets e env → Offers e l env
  pub results : RuleKeepsTyped range_as_set
