-- Whether some number on the way to a meaning lies outside 64 bits. Partial sums and products of a list don't count. A
-- part counts at each binding of the generators before it, also where a condition among them fails.
use Rattle.std.specs.Prelude.{suc, ◌^◌, Bool, false, ◌||◌, not, List, [], ◌∷◌, ◌++◌, ℤ, pos, negsuc, Option, Some, None, nat_lt}
use Rattle.std.specs.List.{list_all, list_any}
use Rattle.ess_semantics.specs.declared.words.ReprKind.{ReprKind}
use Rattle.ess_semantics.specs.Lists.{is_some_and}
use Rattle.ess_semantics.specs.Values.{Value, number, items_of}
use Rattle.ess_semantics.specs.Trees.{Ex, Exs, number_ex, truth_ex, name_ex, node_ex, matrix_ex, comp_ex, cell_ex, seen_ex, no_exs, more_exs, Gens, no_gens, over, from, cond, Dom, Doms, bool_dom, int_dom, name_dom, tuple_dom, record_dom, matrix_dom, set_dom, mset_dom, function_dom, relation_dom, partition_dom, no_doms, more_doms, Repr, Reprs, repr, more_reprs}
use Rattle.ess_semantics.specs.Domains.{Domain, sets}
use Rattle.ess_semantics.specs.SetLayers.{dummy_of}
use Rattle.ess_semantics.specs.Representations.{layer}
use Rattle.ess_semantics.specs.Meaning.{Env, meaning, domain_of, members_in, with_pat}

-- From -(2 ^ 63 - 1) to 2 ^ 63 - 1.
abbrev pub in_64_bits : ℤ → Bool
in_64_bits (pos n) = nat_lt n (2 ^ 63)
in_64_bits (negsuc n) = nat_lt (suc n) (2 ^ 63)

-- A number outside 64 bits.
abbrev pub is_big : Option Value → Bool
is_big (Some (number n)) = not (in_64_bits n)
is_big _ = false

-- Whether f holds of some of the values, where they are there.
abbrev pub some_of : Option (List Value) → (Value → Bool) → Bool
some_of o f = is_some_and o (λ vs. list_any f vs)

-- Whether f holds of some value that a generator over this one takes, where it is there.
abbrev pub some_in : Option Value → (Value → Bool) → Bool
some_in o f = is_some_and o (λ s. list_any f (items_of s))

abbrev mutual
  -- Whether some part of the expression has a number outside 64 bits.
  pub is_large : Ex → Env → Bool
  is_large (number_ex n) env = not (in_64_bits n)
  is_large (truth_ex b) env = false
  is_large (name_ex a) env = is_big (meaning (name_ex a) env)
  is_large (node_ex b op es) env = is_big (meaning (node_ex b op es) env) || any_large es env
  is_large (matrix_ex es d) env = any_large es env || is_large_dom d env
  is_large (comp_ex e gs) env = is_large_under gs env (λ here. is_large e here)
  is_large (cell_ex b n es) env = is_big (meaning (cell_ex b n es) env) || any_large es env
  is_large (seen_ex r d ns es) env = is_big (meaning (seen_ex r d ns es) env) || is_large_dom d env || any_large es env

  -- The same of operands.
  pub any_large : Exs → Env → Bool
  any_large no_exs env = false
  any_large (more_exs e es) env = is_large e env || any_large es env

  -- The same of generators, and of what stands under them by k.
  pub is_large_under : Gens → Env → (Env → Bool) → Bool
  is_large_under no_gens env k = k env
  is_large_under (over p d gs) env k = is_large_dom d env || some_of (members_in (domain_of d env)) (λ v. is_large_under gs (with_pat p v env) k)
  is_large_under (from p e gs) env k = is_large e env || some_in (meaning e env) (λ v. is_large_under gs (with_pat p v env) k)
  is_large_under (cond e gs) env k = is_large e env || is_large_under gs env k

  -- The same of the bounds and attribute values of a domain.
  pub is_large_dom : Dom → Env → Bool
  is_large_dom bool_dom env = false
  is_large_dom (int_dom rs es) env = any_large es env
  is_large_dom (name_dom a) env = false
  is_large_dom (tuple_dom ds) env = any_large_dom ds env
  is_large_dom (record_dom fs ds) env = any_large_dom ds env
  is_large_dom (matrix_dom is d) env = any_large_dom is env || is_large_dom d env
  is_large_dom (set_dom ms es d) env = any_large es env || is_large_dom d env
  is_large_dom (mset_dom ms es d) env = any_large es env || is_large_dom d env
  is_large_dom (function_dom ms es d c) env = any_large es env || is_large_dom d env || is_large_dom c env
  is_large_dom (relation_dom ms es ds) env = any_large es env || any_large_dom ds env
  is_large_dom (partition_dom ms es d) env = any_large es env || is_large_dom d env

  -- The same of several domains.
  pub any_large_dom : Doms → Env → Bool
  any_large_dom no_doms env = false
  any_large_dom (more_doms d ds) env = is_large_dom d env || any_large_dom ds env

-- The same of the body of a comprehension at the bindings of its generators: the words in which code that runs through
-- them says it.
abbrev pub is_large_item : Ex → Gens → Env → Bool
is_large_item e gs env = is_large_under gs env (λ here. is_large e here)

-- ---- a domain that is taken with a representation has its dummies among its bounds

-- A number as a list, where it is there.
abbrev pub number_list : Option ℤ → List ℤ
number_list None = []
number_list (Some n) = n ∷ []

-- The dummy of a layer, where it has one.
abbrev pub own_dummy : ReprKind → Domain → List ℤ
own_dummy ReprKind.ExplicitVarSizeWithDummy (sets ks d) = number_list (dummy_of d)
own_dummy _ d = []

abbrev mutual
  -- The dummies of a representation, through all layers.
  pub dummies : Repr → Domain → List ℤ
  dummies (repr k rs) d = own_dummy k d ++ (elim (layer k d) [ None ↦ [] | Some l ↦ dummies_of_children rs l.children ])

  -- The same of children.
  pub dummies_of_children : Reprs → List Domain → List ℤ
  dummies_of_children (more_reprs r rs) (d ∷ ds) = dummies r d ++ dummies_of_children rs ds
  dummies_of_children _ _ = []

-- Whether a domain with its representation has a number outside 64 bits.
abbrev pub is_large_with : Repr → Dom → Env → Bool
is_large_with r d env = is_large_dom d env || is_some_and (domain_of d env) (λ e. not (list_all in_64_bits (dummies r e)))
