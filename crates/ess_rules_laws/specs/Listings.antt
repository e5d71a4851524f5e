-- What a container term offers: a listing, alternatives of generators with an item, which together run over the members of
-- the container, each as often as it is there.
use Rattle.std.specs.Prelude.{◌≡◌, Bool, true, false, List, [], ◌∷◌, ◌++◌, Option, Some, None, option_map, if◌then◌else◌}
use Rattle.ess_semantics.specs.declared.words.Op1.{Op1}
use Rattle.ess_semantics.specs.declared.words.Op2.{Op2}
use Rattle.ess_semantics.specs.declared.words.Fun.{Fun}
use Rattle.ess_semantics.specs.Lists.{and_then}
use Rattle.ess_semantics.specs.Values.{Text, Value, a_set, a_relation, a_partition, items_of}
use Rattle.ess_semantics.specs.Collections.{count}
use Rattle.ess_semantics.specs.Names.{Names}
use Rattle.ess_semantics.specs.Trees.{set_literal, mset_literal, relation_literal, matrix_literal, name_pat, Ex, Exs, name_ex, node_ex, comp_ex, ex1, ex2, fun1, no_exs, more_exs, Gens, no_gens, from, cond}
use Rattle.ess_semantics.specs.Types.{Ty, compound}
use Rattle.ess_semantics.specs.Typing.{type_of}
use Rattle.ess_semantics.specs.Meaning.{Env, meaning, items_under}
use Rattle.ess_rules_laws.specs.InclusionRules.{both_sets}
use Rattle.ess_rules_laws.specs.Apart.{are_apart}

-- Generators, and the item at each of their bindings.
pub record Alternative : Type 0 where
  pub gens : Gens
  pub item : Ex

-- ---- their items

-- The items of one alternative.
abbrev pub items_listed : Alternative → Env → Option (List Value)
items_listed a env = items_under a.gens env (λ here. option_map (λ v. v ∷ []) (meaning a.item here))

-- The items of alternatives, one list behind the other.
abbrev pub all_listed : List Alternative → Env → Option (List Value)
all_listed [] env = Some []
all_listed (a ∷ rest) env = and_then (items_listed a env) (λ xs. option_map (λ ys. xs ++ ys) (all_listed rest env))

-- Both lists are there and have the same items equally often, or neither is there.
abbrev pub SameLists : Option (List Value) → Option (List Value) → Type 0
SameLists (Some xs) (Some ys) = (v : Value) → count xs v ≡ count ys v
SameLists None None = Unit {0}
SameLists o p = ⊥

-- The alternatives list what a generator over the term runs over.
abbrev pub Lists : Ex → List Alternative → Env → Type 0
Lists e l env = SameLists (option_map items_of (meaning e env)) (all_listed l env)

-- ---- what each term offers

-- Each item by itself.
abbrev pub each_item : Exs → List Alternative
each_item no_exs = []
each_item (more_exs a es) = record { gens = no_gens; item = a } ∷ each_item es

-- That an item is none of these. Of those that are apart from it the form tells that.
abbrev pub none_of : List Ex → Ex → Gens
none_of [] a = no_gens
none_of (b ∷ bs) a = if are_apart b a then none_of bs a else cond (ex1 true Op1.Not (ex2 true Op2.Eq b a)) (none_of bs a)

-- Each item where it is none of those before it.
abbrev pub each_first : List Ex → Exs → List Alternative
each_first bs no_exs = []
each_first bs (more_exs a es) = record { gens = none_of bs a; item = a } ∷ each_first (a ∷ bs) es

-- The members of a term, each of which is called x, under a condition.
abbrev pub those : Text → Ex → Gens → Alternative
those x s gs = record { gens = from (name_pat x) s gs; item = name_ex x }

-- Whether the type is of containers whose lists rise strictly.
abbrev pub is_strict : Option Ty → Bool
is_strict (Some (compound a_set ts)) = true
is_strict (Some (compound a_relation ts)) = true
is_strict (Some (compound a_partition ts)) = true
is_strict t = false

-- The alternatives of a term; x is a new name. Of unions, intersections and differences it is so of sets and relations.
abbrev pub listing : Names Ty → Text → Ex → Option (List Alternative)
listing g x (comp_ex e gs) = Some (record { gens = gs; item = e } ∷ [])
listing g x (node_ex false matrix_literal es) = Some (each_item es)
listing g x (node_ex false mset_literal es) = Some (each_item es)
listing g x (node_ex false set_literal es) = Some (each_first [] es)
listing g x (node_ex false relation_literal es) = Some (each_first [] es)
listing g x (ex2 false Op2.Union a b) =
    if both_sets (type_of a g) (type_of b g) then Some (those x a no_gens ∷ those x b (cond (ex1 true Op1.Not (ex2 true Op2.Member (name_ex x) a)) no_gens) ∷ []) else None
listing g x (ex2 false Op2.Intersect a b) = if both_sets (type_of a g) (type_of b g) then Some (those x a (cond (ex2 true Op2.Member (name_ex x) b) no_gens) ∷ []) else None
listing g x (ex2 false Op2.Minus a b) =
    if both_sets (type_of a g) (type_of b g) then Some (those x a (cond (ex1 true Op1.Not (ex2 true Op2.Member (name_ex x) b)) no_gens) ∷ []) else None
listing g x (fun1 false Fun.ToMSet s) = Some (those x s no_gens ∷ [])
listing g x (fun1 false Fun.ToSet s) = if is_strict (type_of s g) then Some (those x s no_gens ∷ []) else None
listing g x (fun1 false Fun.Parts s) = if is_strict (type_of s g) then Some (those x s no_gens ∷ []) else None
listing g x e = None
