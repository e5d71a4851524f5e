-- Worked examples of sizes as expressions, children and declared tables.
use Rattle.std.proofs.Common.{◌≡◌, refl, true, false, List, [], ◌∷◌, ◌++◌, pos, codes}
use Rattle.std.specs.Fmt.{digits}
use Rattle.ess_semantics.specs.declared.words.Key.{Key}
use Rattle.ess_semantics.specs.declared.words.ReprKind.{ReprKind}
use Rattle.ess_semantics.specs.Values.{Text}
use Rattle.ess_semantics.specs.Trees.{one_value, both_ends, flag, valued, Repr, Reprs, repr, no_reprs, more_reprs, Ex, number_ex, name_ex, no_exs, more_exs, Dom, bool_dom, int_dom, name_dom, tuple_dom, set_dom, mset_dom, function_dom, relation_dom, partition_dom}
use Rattle.ess_semantics.proofs.Shorthands.{n, es1, es2, ds2, upto, set}
use Rattle.ess_repr_declare_laws.specs.SizeTerms.{zero_ex, one_ex, two_ex, next_ex, plus_ex, minus_ex, times_ex, power_ex, at_least_0_ex, listed_ex, bound_ex, slots_ex}
use Rattle.ess_repr_declare_laws.specs.ChildDomains.{child_doms}
use Rattle.ess_repr_declare_laws.specs.DeclaredTrees.{from_to, decl, declared_trees}

-- int(a..b) for numbers
abbrev numbers : Ex → Ex → Dom
numbers a b = int_dom (both_ends ∷ []) (es2 a b)

-- a representation without children, and one with one child
abbrev leaf : ReprKind → Repr
leaf k = repr k no_reprs

abbrev one : ReprKind → Repr → Repr
one k r = repr k (more_reprs r no_reprs)

-- int(3..7) has 1 - 3 + 7 members, int(1..n) max([0, n]), int(5..4) none.
span_of_numbers : bound_ex (numbers (n 3) (n 7)) ≡ plus_ex (minus_ex one_ex (n 3)) (n 7)
span_of_numbers = refl

span_to_a_name : bound_ex (numbers (n 1) (name_ex (codes "n"))) ≡ at_least_0_ex (name_ex (codes "n"))
span_to_a_name = refl

span_of_nothing : bound_ex (numbers (n 5) (n 4)) ≡ zero_ex
span_of_nothing = refl

-- int(1..3, 2..9) is counted one by one.
two_ranges : bound_ex (int_dom (both_ends ∷ both_ends ∷ []) (more_exs (n 1) (more_exs (n 3) (es2 (n 2) (n 9)))))
    ≡ listed_ex (int_dom (both_ends ∷ both_ends ∷ []) (more_exs (n 1) (more_exs (n 3) (es2 (n 2) (n 9)))))
two_ranges = refl

-- set of (bool, int(1..3)): 2 ** (2 * 3) members.
set_of_pairs : bound_ex (set (tuple_dom (ds2 bool_dom (upto 3)))) ≡ power_ex two_ex (times_ex two_ex (n 3))
set_of_pairs = refl

-- set (maxSize 4) of set of int(1..3): 4 slots; without it 2 ** 3.
slots_given : slots_ex (set_dom (valued Key.MaxSize ∷ []) (es1 (n 4)) (set (upto 3))) ≡ n 4
slots_given = refl

slots_bounded : slots_ex (set (set (upto 3))) ≡ power_ex two_ex (n 3)
slots_bounded = refl

-- The relation of a function's pairs: with `size` where it is total, else with `maxSize` where no size bounds it.
pairs_of_total : child_doms ReprKind.FunctionAsRelation (function_dom (flag Key.Total ∷ []) no_exs (upto 3) bool_dom)
    ≡ relation_dom (valued Key.Size ∷ []) (es1 (n 3)) (ds2 (upto 3) bool_dom) ∷ []
pairs_of_total = refl

pairs_of_partial : child_doms ReprKind.FunctionAsRelation (function_dom (valued Key.MinSize ∷ []) (es1 (n 1)) (upto 3) bool_dom)
    ≡ relation_dom (valued Key.MinSize ∷ valued Key.MaxSize ∷ []) (es2 (n 1) (n 3)) (ds2 (upto 3) bool_dom) ∷ []
pairs_of_partial = refl

-- The set of a partition's parts.
sets_of_parts : child_doms ReprKind.PartitionAsSet (partition_dom (valued Key.PartSize ∷ []) (es1 (n 2)) (upto 4))
    ≡ set_dom (valued Key.MaxSize ∷ []) (es1 (n 4)) (set_dom (valued Key.Size ∷ []) (es1 (n 2)) (upto 4)) ∷ []
sets_of_parts = refl

-- set (maxSize 2) of (int(3..5), bool) with a marker: the cells of its members can be out of use.
marked : declared_trees (one ReprKind.ExplicitVarSizeWithMarker (repr ReprKind.Tuple (more_reprs (leaf ReprKind.Atom) (more_reprs (leaf ReprKind.Atom) no_reprs))))
    (set_dom (valued Key.MaxSize ∷ []) (es1 (n 2)) (tuple_dom (ds2 (numbers (n 3) (n 5)) bool_dom))) (codes "s") []
    ≡ decl (codes "s_ExplicitVarSizeWithMarker_Marker") [] (from_to zero_ex (n 2)) ∷
    decl (codes "s_ExplicitVarSizeWithMarker_Values_1") (upto 2 ∷ []) (int_dom (one_value ∷ both_ends ∷ []) (more_exs zero_ex (es2 (n 3) (n 5)))) ∷
    decl (codes "s_ExplicitVarSizeWithMarker_Values_2") (upto 2 ∷ []) bool_dom ∷ []
unfolding digits
marked = refl

-- set (maxSize 2) of set of int(1..2) with a dummy inside: int(0, 1..2, 2 + 1).
dummy_inside : declared_trees (one ReprKind.ExplicitVarSizeWithMarker (leaf ReprKind.ExplicitVarSizeWithDummy))
    (set_dom (valued Key.MaxSize ∷ []) (es1 (n 2)) (set (upto 2))) (codes "s") (codes "s_ExplicitVarSizeWithMarker_Marker" ∷ [])
    ≡ decl (codes "s_ExplicitVarSizeWithMarker_Marker_") [] (from_to zero_ex (n 2)) ∷
    decl (codes "s_ExplicitVarSizeWithMarker_Values_ExplicitVarSizeWithDummy") (upto 2 ∷ upto 2 ∷ [])
    (int_dom (one_value ∷ both_ends ∷ one_value ∷ []) (more_exs zero_ex (more_exs one_ex (more_exs (n 2) (more_exs (next_ex (n 2)) no_exs))))) ∷ []
dummy_inside = refl

-- function bool --> int(4..5): flags and values over int(0..1).
partial : declared_trees (one ReprKind.Function1DPartial (leaf ReprKind.Atom)) (function_dom [] no_exs bool_dom (numbers (n 4) (n 5))) (codes "f") []
    ≡ decl (codes "f_Function1DPartial_Flags") (from_to zero_ex one_ex ∷ []) bool_dom ∷
    decl (codes "f_Function1DPartial_Values") (from_to zero_ex one_ex ∷ []) (int_dom (one_value ∷ both_ends ∷ []) (more_exs zero_ex (es2 (n 4) (n 5)))) ∷ []
partial = refl
