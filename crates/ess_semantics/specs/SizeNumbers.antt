-- The numbers that may lie outside 64 bits in the domains that a model declares: the parts of the specification's bounds,
-- attribute values and type sizes, the sizes that its representations take with the parts of these, the differences of
-- two bounds of a domain, the numbers of values of named types, and each of them plus 1.
use Rattle.std.specs.Prelude.{ℕ, suc, ◌*◌, ◌^◌, Bool, true, false, ◌&&◌, ◌||◌, not, if◌then◌else◌, List, [], ◌∷◌, ◌++◌, map, ℤ, pos, ◌+ℤ◌, ◌-ℤ◌, Some, None, is_some}
use Rattle.std.specs.List.{list_all}
use Rattle.ess_semantics.specs.declared.words.Op1.{Op1}
use Rattle.ess_semantics.specs.declared.words.Op2.{Op2}
use Rattle.ess_semantics.specs.declared.words.Key.{Key}
use Rattle.ess_semantics.specs.declared.words.ReprKind.{ReprKind}
use Rattle.ess_semantics.specs.Lists.{append_all}
use Rattle.ess_semantics.specs.Trees.{unary, binary, plain_node, Ex, Exs, number_ex, name_ex, node_ex, Stm, Repr, Reprs, repr, more_reprs}
use Rattle.ess_semantics.specs.Domains.{Span, Attribute, Domain, Domains, booleans, integers, named, tuples, records, matrices, sets, msets, functions, relations, partitions, no_domains, more_domains, has}
use Rattle.ess_semantics.specs.Sizes.{greatest_size, occurrences, bound, product_bound, slots_of_set, slots_of_mset}
use Rattle.ess_semantics.specs.Representations.{layer}
use Rattle.ess_semantics.specs.Meaning.{Env, domain_of}
use Rattle.ess_semantics.specs.Large.{in_64_bits, is_large, number_list, dummies}
use Rattle.ess_semantics.specs.Occurrences.{parts_of, parts_of_dom}
use Rattle.ess_semantics.specs.Lettings.{put_in}
use Rattle.ess_semantics.specs.Assignments.{Assignment, nothing_given, placed, env_of}
use Rattle.ess_semantics.specs.Parameters.{declared_domain, declared_size, in_each}
use Rattle.ess_semantics.specs.Plans.{Options, Plan, size_plan, value_plan, plans}

-- ---- sizes

abbrev mutual
  -- The bound of a domain, and the parts of its expression.
  pub bound_parts : Domain → List ℕ
  bound_parts booleans = 2 ∷ []
  bound_parts (integers ss) = bound (integers ss) ∷ []
  bound_parts (named t n) = n ∷ []
  bound_parts (tuples ds) = product_parts ds
  bound_parts (records fs ds) = product_parts ds
  bound_parts (matrices is d) = suc (bound d) ∷ suc (bound d) ^ product_bound is ∷ product_parts is ++ bound_parts d
  bound_parts (sets ks d) = 2 ^ bound d ∷ bound_parts d
  bound_parts (msets ks d) = occurrences ks ∷ suc (occurrences ks) ∷ suc (occurrences ks) ^ bound d ∷ bound_parts d
  bound_parts (functions ks d c) = suc (bound c) ∷ suc (bound c) ^ bound d ∷ bound_parts d ++ bound_parts c
  bound_parts (relations ks ds) = 2 ^ product_bound ds ∷ product_parts ds
  bound_parts (partitions ks d) = suc (bound d) ∷ suc (bound d) ^ bound d ∷ bound_parts d

  -- The same of a product.
  pub product_parts : Domains → List ℕ
  product_parts no_domains = 1 ∷ []
  product_parts (more_domains d ds) = bound d * product_bound ds ∷ bound_parts d ++ product_parts ds

-- The numbers, where there is neither `size` nor `maxSize`.
abbrev pub unless_sized : List Attribute → List ℕ → List ℕ
unless_sized ks ns = if is_some (greatest_size ks) then [] else ns

-- The sizes that one layer takes.
abbrev pub sizes_of_layer : ReprKind → Domain → List ℕ
sizes_of_layer ReprKind.Explicit (sets ks d) = slots_of_set ks d ∷ []
sizes_of_layer ReprKind.ExplicitVarSizeWithMarker (sets ks d) = slots_of_set ks d ∷ unless_sized ks (bound_parts d)
sizes_of_layer ReprKind.ExplicitVarSizeWithFlags (sets ks d) = slots_of_set ks d ∷ unless_sized ks (bound_parts d)
sizes_of_layer ReprKind.ExplicitVarSizeWithDummy (sets ks d) = slots_of_set ks d ∷ unless_sized ks (bound_parts d)
sizes_of_layer ReprKind.MSetOccurrence (msets ks d) = occurrences ks ∷ []
sizes_of_layer ReprKind.MSetExplicitWithRepetition (msets ks d) = occurrences ks ∷ slots_of_mset ks d ∷ unless_sized ks (bound_parts d)
sizes_of_layer ReprKind.MSetExplicitWithFlags (msets ks d) = occurrences ks ∷ slots_of_mset ks d ∷ unless_sized ks (bound_parts d)
sizes_of_layer ReprKind.FunctionAsRelation (functions ks d c) = if has Key.Total ks || not (is_some (greatest_size ks)) then bound_parts d else []
sizes_of_layer ReprKind.PartitionOccurrence (partitions ks d) = bound_parts d
sizes_of_layer ReprKind.PartitionAsSet (partitions ks d) = if has Key.NumParts ks || has Key.MaxNumParts ks then [] else bound_parts d
sizes_of_layer k d = []

abbrev mutual
  -- The sizes that a representation takes, through all layers.
  pub sizes_taken : Repr → Domain → List ℕ
  sizes_taken (repr k rs) d = sizes_of_layer k d ++ (elim (layer k d) [ None ↦ [] | Some l ↦ sizes_of_children rs l.children ])

  -- The same of children.
  pub sizes_of_children : Reprs → List Domain → List ℕ
  sizes_of_children (more_reprs r rs) (d ∷ ds) = sizes_taken r d ++ sizes_of_children rs ds
  sizes_of_children _ _ = []

-- ---- differences of bounds

-- The bounds of ranges.
abbrev pub bounds_of_spans : List Span → List ℤ
bounds_of_spans ss = append_all (map (λ s. number_list s.low ++ number_list s.high) ss)

-- The differences of any two of the numbers.
abbrev pub differences : List ℤ → List ℤ
differences ns = append_all (map (λ a. map (λ b. a -ℤ b) ns) ns)

abbrev mutual
  -- The differences of two bounds of an int domain, in all parts of a domain.
  pub bound_differences : Domain → List ℤ
  bound_differences (integers ss) = differences (bounds_of_spans ss)
  bound_differences (tuples ds) = differences_of_all ds
  bound_differences (records fs ds) = differences_of_all ds
  bound_differences (matrices is d) = differences_of_all is ++ bound_differences d
  bound_differences (sets ks d) = bound_differences d
  bound_differences (msets ks d) = bound_differences d
  bound_differences (functions ks d c) = bound_differences d ++ bound_differences c
  bound_differences (relations ks ds) = differences_of_all ds
  bound_differences (partitions ks d) = bound_differences d
  bound_differences d = []

  -- The same of several domains.
  pub differences_of_all : Domains → List ℤ
  differences_of_all no_domains = []
  differences_of_all (more_domains d ds) = bound_differences d ++ differences_of_all ds

-- ---- all numbers of a specification's declarations

-- The numbers themselves, and each plus 1.
abbrev pub with_next : List ℤ → List ℤ
with_next ns = ns ++ map (λ n. n +ℤ pos 1) ns

-- The sizes, differences and dummies of a domain with its representation.
abbrev pub numbers_taken : Repr → Domain → List ℤ
numbers_taken r d = map pos (sizes_taken r d) ++ bound_differences d ++ dummies r d

-- The same of a plan.
abbrev pub numbers_of_plan : Env → Plan → List ℤ
numbers_of_plan env (size_plan t a) = []
numbers_of_plan env (value_plan f x r d ns) = elim (domain_of d env) [ None ↦ [] | Some e ↦ numbers_taken r e ]

-- The parts of bounds, attribute values and type sizes, each of them plus 1 too.
abbrev pub part_stays_small : Ex → Env → Bool
part_stays_small e env = not (is_large e env) && not (is_large (plain_node (binary Op2.Plus) (Exs.more_exs e (Exs.more_exs (number_ex (pos 1)) Exs.no_exs))) env)

-- The same of a statement.
abbrev pub numbers_of_statement_small : Stm → Env → Bool
numbers_of_statement_small s env =
    in_each (declared_domain s) (λ d. list_all (λ e. part_stays_small e env) (parts_of_dom d)) &&
    in_each (declared_size s) (λ e. list_all (λ f. part_stays_small f env) (parts_of e))

-- The number of values of each named type, and that plus 1, is in 64 bits.
abbrev pub types_are_small : List Stm → Assignment → Bool
types_are_small S p = list_all in_64_bits (with_next (map (λ t. pos t.count) (env_of S p nothing_given).types))

-- None of these numbers is outside 64 bits under the parameter p.
abbrev pub numbers_are_small : List Stm → Options → Assignment → Bool
numbers_are_small S o p =
    list_all (λ l. numbers_of_statement_small l.stm l.env) (placed S p nothing_given) &&
    list_all in_64_bits (with_next (append_all (map (numbers_of_plan (env_of S p nothing_given)) (plans S o)))) &&
    types_are_small S p

-- ---- the domains of which this is said

-- A number, a name, or an arithmetic operator.
abbrev pub is_plain_part : Ex → Bool
is_plain_part (number_ex n) = true
is_plain_part (name_ex a) = true
is_plain_part (node_ex b (unary Op1.Minus) es) = true
is_plain_part (node_ex b (binary Op2.Minus) es) = true
is_plain_part (node_ex b (binary Op2.Plus) es) = true
is_plain_part (node_ex b (binary Op2.Times) es) = true
is_plain_part (node_ex b (binary Op2.Div) es) = true
is_plain_part (node_ex b (binary Op2.Mod) es) = true
is_plain_part (node_ex b (binary Op2.Pow) es) = true
is_plain_part e = false

-- The numbers of a statement are built of these alone.
abbrev pub has_plain_numbers : Stm → Bool
has_plain_numbers s =
    in_each (declared_domain s) (λ d. list_all is_plain_part (parts_of_dom d)) && in_each (declared_size s) (λ e. list_all is_plain_part (parts_of e))

-- The bounds, attribute values and type sizes of the declarations are built of numbers, names and arithmetic alone.
abbrev pub are_plain : List Stm → Bool
are_plain S = list_all has_plain_numbers (put_in S)
