-- Parts of the constraint that cells are canonical that speak of what the cells of a child stand for: that view's items, which the
-- names q l, q (l + 1) and so on run over.
use Rattle.std.specs.Prelude.{ℕ, suc, ◌||◌, if◌then◌else◌, true, false, List, [], ◌∷◌, pos}
use Rattle.ess_semantics.specs.declared.words.Op1.{Op1}
use Rattle.ess_semantics.specs.declared.words.Op2.{Op2}
use Rattle.ess_semantics.specs.declared.words.Fun.{Fun}
use Rattle.ess_semantics.specs.declared.words.Key.{Key}
use Rattle.ess_semantics.specs.Domains.{same_key}
use Rattle.ess_semantics.specs.Kinds.{has_key}
use Rattle.ess_semantics.specs.Meaning.{is_bool_dom}
use Rattle.ess_semantics.specs.Values.{Text}
use Rattle.ess_semantics.specs.Trees.{flag, number_ex, ex1, to_component, index, no_doms, more_doms, relation_dom, set_dom, Mark, valued, Repr, name_pat, Ex, Exs, truth_ex, name_ex, node_ex, comp_ex, seen_ex, no_exs, more_exs, Gens, no_gens, over, from, Dom, ex2, fun1}
use Rattle.ess_repr_laws.specs.StructureParts.{Shape, Terms, and_ex, le_ex, key_ex, keys_ex, number_of_key}

-- The names of tables.
abbrev pub shape_names : List Shape → List Text
shape_names [] = []
shape_names (s ∷ ss) = s.name ∷ shape_names ss

-- What these tables stand for at an index list.
abbrev pub view_ex : Repr → Dom → List Shape → Exs → Ex
view_ex r d ss is = seen_ex r d (shape_names ss) is

-- A component of a tuple, a truth value where the domain of the component is bool.
abbrev pub component_ex : Dom → ℕ → Ex → Ex
component_ex d k e = node_ex (is_bool_dom d) (index (to_component k ∷ [])) (more_exs e no_exs)

-- The number that the number of members of a domain never exceeds: the slots of a set of which nothing is asked.
abbrev pub bound_ex : Terms → Dom → Ex
bound_ex terms d = terms.slots (set_dom [] no_exs d)

-- The relation of a function's pairs, with the attributes that speak of its size. A total function has as many pairs as its first
-- domain has members; any other one without `size` and `maxSize` has at most that many.
abbrev pub pair_relation_dom : Terms → List Mark → Exs → Dom → Dom → Dom
pair_relation_dom terms ms es d c =
    let a : List Mark × Exs = if has_key Key.MaxSize ms || (has_key Key.Total ms || has_key Key.Size ms) then number_of_key Key.MaxSize ms es [] no_exs
    else (valued Key.MaxSize ∷ [], more_exs (bound_ex terms d) no_exs) in
    let b : List Mark × Exs = number_of_key Key.MinSize ms es a.0 a.1 in
    let s : List Mark × Exs = if has_key Key.Total ms then (valued Key.Size ∷ b.0, more_exs (bound_ex terms d) b.1) else number_of_key Key.Size ms es b.0 b.1 in
    relation_dom s.0 s.1 (more_doms d (more_doms c no_doms))

-- The number of the attribute k as that of the attribute j, in front of what is there, where k stands.
abbrev pub number_as : Key → Key → List Mark → Exs → List Mark → Exs → List Mark × Exs
number_as k j [] es ns os = (ns, os)
number_as k j (flag i ∷ ms) es ns os = number_as k j ms es ns os
number_as k j (valued i ∷ ms) no_exs ns os = (ns, os)
number_as k j (valued i ∷ ms) (more_exs e es) ns os = if same_key i k then (valued j ∷ ns, more_exs e os) else number_as k j ms es ns os

-- A part of a partition: a set with the sizes of parts.
abbrev pub part_dom : List Mark → Exs → Dom → Dom
part_dom ms es d =
    let a : List Mark × Exs = number_as Key.MaxPartSize Key.MaxSize ms es [] no_exs in
    let b : List Mark × Exs = number_as Key.MinPartSize Key.MinSize ms es a.0 a.1 in
    let s : List Mark × Exs = number_as Key.PartSize Key.Size ms es b.0 b.1 in
    set_dom s.0 s.1 d

-- The set of a partition's parts, with the attributes that speak of their number. Without `numParts` and `maxNumParts` there are at
-- most as many as the inner domain has members.
abbrev pub part_set_dom : Terms → List Mark → Exs → Dom → Dom
part_set_dom terms ms es d =
    let a : List Mark × Exs = if has_key Key.MaxNumParts ms || has_key Key.NumParts ms then number_as Key.MaxNumParts Key.MaxSize ms es [] no_exs
    else (valued Key.MaxSize ∷ [], more_exs (bound_ex terms d) no_exs) in
    let b : List Mark × Exs = number_as Key.MinNumParts Key.MinSize ms es a.0 a.1 in
    let s : List Mark × Exs = number_as Key.NumParts Key.Size ms es b.0 b.1 in
    set_dom s.0 s.1 (part_dom ms es d)

-- `regular` says e.
abbrev pub regular_key_ex : Ex → Key → Ex
regular_key_ex e Key.Regular = e
regular_key_ex e _ = truth_ex true

-- `size` says that the number m is its own.
abbrev pub exact_size_ex : List Mark → Exs → Ex → Ex
exact_size_ex [] es m = truth_ex true
exact_size_ex (flag k ∷ ms) es m = exact_size_ex ms es m
exact_size_ex (valued k ∷ ms) no_exs m = truth_ex true
exact_size_ex (valued Key.Size ∷ ms) (more_exs e es) m = and_ex (key_ex Key.Size e m) (exact_size_ex ms es m)
exact_size_ex (valued k ∷ ms) (more_exs e es) m = and_ex (truth_ex true) (exact_size_ex ms es m)

-- `size` beside `total` of a function whose pairs e has. The relation of its pairs says all other sizes.
abbrev pub total_size_ex : List Mark → Exs → Ex → Ex
total_size_ex ms es e = if has_key Key.Total ms then exact_size_ex ms es (ex1 false Op1.Bar e) else truth_ex true

module _ (q : ℕ → Text) where
  -- A generator over the items of e.
  abbrev pub each_item : ℕ → Ex → Gens → Gens
  each_item l e gs = from (name_pat (q l)) e gs

  -- The test holds of each item of e.
  abbrev pub every_item_ex : ℕ → Ex → Ex → Ex
  every_item_ex l e test = fun1 true Fun.And (comp_ex test (each_item l e no_gens))

  -- The components of the tuples that e has differ.
  abbrev pub components_differ_ex : ℕ → Dom → ℕ → Ex → Ex
  components_differ_ex l d k e = fun1 true Fun.AllDiff (comp_ex (component_ex d k (name_ex (q l))) (each_item l e no_gens))

  -- Each value of the domain is the second component of a pair that e has.
  abbrev pub all_taken_ex : ℕ → Dom → Ex → Ex
  all_taken_ex l c e =
      fun1 true Fun.And (comp_ex (fun1 true Fun.Or (comp_ex (ex2 true Op2.Eq (component_ex c 2 (name_ex (q (suc l)))) (name_ex (q l))) (each_item (suc l) e no_gens)))
      (over (name_pat (q l)) c no_gens))

  -- What an attribute without a number asks of the function whose pairs e has. The size of the relation says that it is total.
  abbrev pub pair_key_ex : ℕ → Dom → Ex → Key → Ex
  pair_key_ex l c e Key.Injective = components_differ_ex l c 2 e
  pair_key_ex l c e Key.Surjective = all_taken_ex l c e
  pair_key_ex l c e Key.Bijective = and_ex (components_differ_ex l c 2 e) (all_taken_ex l c e)
  pair_key_ex l c e _ = truth_ex true

  -- The pairs that e has are those of a function with these attributes.
  abbrev pub pairs_ex : ℕ → List Mark → Exs → Dom → Dom → Ex → Ex
  pairs_ex l ms es d c e = and_ex (components_differ_ex l d 1 e) (and_ex (total_size_ex ms es e) (keys_ex (pair_key_ex l c e) ms))

  -- How many of the sets that e has the value q l is in.
  abbrev pub times_held_ex : ℕ → Ex → Ex
  times_held_ex l e =
      fun1 false Fun.Sum (comp_ex (fun1 false Fun.ToInt (ex2 true Op2.Member (name_ex (q l)) (name_ex (q (suc l))))) (each_item (suc l) e no_gens))

  -- The sets that e has are of one size.
  abbrev pub one_size_ex : ℕ → Ex → Ex
  one_size_ex l e =
      fun1 true Fun.And (comp_ex (fun1 true Fun.And (comp_ex (ex2 true Op2.Eq (ex1 false Op1.Bar (name_ex (q l))) (ex1 false Op1.Bar (name_ex (q (suc l))))) (each_item (suc l) e no_gens)))
      (each_item l e no_gens))

  -- The sets that e has are the parts of a partition of d with these attributes: each value is in one of them, and none is empty.
  abbrev pub parts_ex : ℕ → List Mark → Dom → Ex → Ex
  parts_ex l ms d e =
      and_ex (fun1 true Fun.And (comp_ex (ex2 true Op2.Eq (times_held_ex l e) (number_ex (pos 1))) (over (name_pat (q l)) d no_gens)))
      (and_ex (fun1 true Fun.And (comp_ex (le_ex (number_ex (pos 1)) (ex1 false Op1.Bar (name_ex (q l)))) (each_item l e no_gens)))
      (keys_ex (regular_key_ex (one_size_ex l e)) ms))
