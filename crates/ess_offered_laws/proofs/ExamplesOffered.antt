-- Worked examples: views of each sort of container, and picks that are looked up or left.
use Rattle.std.specs.Prelude.{◌≡◌, refl, Bool, true, false, List, [], ◌∷◌, map, length, pos, is_some, codes}
use Rattle.ess_semantics.specs.declared.words.Key.{Key}
use Rattle.ess_semantics.specs.declared.words.ReprKind.{ReprKind}
use Rattle.ess_semantics.specs.Values.{Text, a_matrix, a_relation}
use Rattle.ess_semantics.specs.Names.{Names}
use Rattle.ess_semantics.specs.Kinds.{fits}
use Rattle.ess_semantics.specs.Representations.{width}
use Rattle.ess_semantics.specs.Trees.{application, tuple_literal, matrix_literal, function_literal, flag, both_ends, Repr, repr, no_reprs, more_reprs, name_pat, Ex, number_ex, name_ex, node_ex, matrix_ex, comp_ex, seen_ex, no_exs, more_exs, no_gens, over, Dom, int_dom, tuple_dom, matrix_dom, set_dom, mset_dom, function_dom, relation_dom, partition_dom, more_doms, no_doms, at1, apply1}
use Rattle.ess_semantics.specs.Types.{Ty, int_ty, compound2}
use Rattle.ess_semantics.specs.Typing.{type_of}
use Rattle.ess_kind_rules_laws.specs.TermLookups.{looked_up}
use Rattle.ess_kind_rules_laws.specs.ViewListings.{view_listing}
use Rattle.ess_offered_laws.specs.Containers.{is_container, components_for}
use Rattle.ess_offered_laws.specs.InnermostPicks.{innermost, depth_of_picks, is_told_pick, is_left_pick}

-- ---- views

-- `int(1..3)`, and pairs of such numbers.
abbrev three : Dom
three = int_dom (both_ends ∷ []) (more_exs (number_ex (pos 1)) (more_exs (number_ex (pos 3)) no_exs))

abbrev pairs : Dom
pairs = tuple_dom (more_doms three (more_doms three no_doms))

-- A kind with one child, and with one of atoms.
abbrev over_one : ReprKind → Repr → Repr
over_one k r = repr k (more_reprs r no_reprs)

abbrev of_atoms : ReprKind → Repr
of_atoms k = over_one k (repr ReprKind.Atom no_reprs)

-- A representation with its domain and tables.
abbrev Kept : Type 0
Kept = Repr × Dom × List Text

-- A matrix, a set, a multiset, functions of numbers and of pairs, a relation and partitions.
abbrev kept : List Kept
kept =
    (of_atoms ReprKind.Matrix, matrix_dom (more_doms three no_doms) three, codes "m" ∷ [])
    ∷ (of_atoms ReprKind.ExplicitVarSizeWithFlags, set_dom [] no_exs three, codes "f" ∷ codes "s" ∷ [])
    ∷ (repr ReprKind.MSetOccurrence no_reprs, mset_dom [] no_exs three, codes "o" ∷ [])
    ∷ (of_atoms ReprKind.Function1DPartial, function_dom [] no_exs three three, codes "f" ∷ codes "r" ∷ [])
    ∷ (of_atoms ReprKind.FunctionND, function_dom (flag Key.Total ∷ []) no_exs pairs three, codes "r" ∷ [])
    ∷ (repr ReprKind.RelationAsMatrix no_reprs, relation_dom [] no_exs (more_doms three (more_doms three no_doms)), codes "r" ∷ [])
    ∷ (repr ReprKind.PartitionOccurrence no_reprs, partition_dom [] no_exs three, codes "n" ∷ codes "w" ∷ [])
    ∷ (
      over_one ReprKind.PartitionAsSet (over_one ReprKind.ExplicitVarSizeWithFlags (of_atoms ReprKind.ExplicitVarSizeWithFlags)),
      partition_dom [] no_exs three,
      codes "f" ∷ codes "g" ∷ codes "p" ∷ [],
    )
    ∷ []

-- Each fits, and has as many tables as it needs.
fitting : map (λ k. fits k.0 k.1) kept ≡ map (λ k. true) kept
fitting = refl

tables : map (λ k. length k.2) kept ≡ map (λ k. width k.0) kept
tables = refl

-- Whether it offers a listing with these names for components.
abbrev offers : List Text → Kept → Bool
offers zs k = is_some (view_listing (codes "x") (codes "y") zs (seen_ex k.0 k.1 k.2 no_exs))

-- With two names each offers one. With one name, or twice the same, functions of pairs and relations don't.
with_names : map (offers (codes "u" ∷ codes "v" ∷ [])) kept ≡ true ∷ true ∷ true ∷ true ∷ true ∷ true ∷ true ∷ true ∷ []
with_names = refl

with_one_name : map (offers (codes "u" ∷ [])) kept ≡ true ∷ true ∷ true ∷ true ∷ false ∷ false ∷ true ∷ true ∷ []
with_one_name = refl

with_one_twice : map (offers (codes "u" ∷ codes "u" ∷ [])) kept ≡ true ∷ true ∷ true ∷ true ∷ false ∷ false ∷ true ∷ true ∷ []
with_one_twice = refl

-- How many names they take.
names_taken : map (λ k. length (components_for k.1)) kept ≡ 0 ∷ 0 ∷ 0 ∷ 0 ∷ 2 ∷ 2 ∷ 0 ∷ 0 ∷ []
names_taken = refl

-- A matrix without an index domain offers none, though its representation fits.
without_index : (fits (of_atoms ReprKind.Matrix) (matrix_dom no_doms three) ≡ true) × (is_container (matrix_dom no_doms three) ≡ false)
    × (offers [] (of_atoms ReprKind.Matrix, matrix_dom no_doms three, codes "m" ∷ []) ≡ false)
without_index = (refl, refl, refl)

-- Nor does a multiset of which the table of numbers is missing.
without_table : offers [] (repr ReprKind.MSetOccurrence no_reprs, mset_dom [] no_exs three, []) ≡ false
without_table = refl

-- ---- picks

-- n : matrix of matrices, of which the name is known alone, r : relation of numbers.
abbrev g : Names Ty
g = (codes "n", compound2 a_matrix int_ty (compound2 a_matrix int_ty int_ty)) ∷ (codes "r", compound2 a_relation int_ty int_ty)
    ∷ (codes "i", int_ty) ∷ []

abbrev i : Ex
i = name_ex (codes "i")

abbrev one : Ex
one = number_ex (pos 1)

-- The view of a matrix of two indices, a literal of one, and one over an index domain.
abbrev table : Ex
table = seen_ex (of_atoms ReprKind.Matrix) (matrix_dom (more_doms three (more_doms three no_doms)) three) (codes "m" ∷ []) no_exs

abbrev list : Ex
list = node_ex false matrix_literal (more_exs one (more_exs i no_exs))

-- A function literal with a pair that isn't one by its form: `(t[1], ..)` of a comprehension.
abbrev by_form : Ex
by_form = node_ex false function_literal (more_exs (at1 false
    (comp_ex (node_ex false tuple_literal (more_exs one (more_exs one no_exs))) no_gens) one) no_exs)

-- `m[i]`, `m[i][1]`, `[1, i][i]`, `[1; int(1..3)][i]`, `f(i)`; `n[i]`, `n[i][1]`, `[1 | x : int(1..3)][i]`, `r(1, i)`.
abbrev picked : List Ex
picked =
    at1 false table i ∷ at1 false (at1 false table i) one ∷ at1 false list i ∷ at1 false (matrix_ex (more_exs one no_exs) three) i
    ∷ apply1 false by_form i ∷ at1 false (name_ex (codes "n")) i ∷ at1 false (at1 false (name_ex (codes "n")) i) one
    ∷ at1 false (comp_ex one (over (name_pat (codes "x")) three no_gens)) i
    ∷ node_ex true application (more_exs (name_ex (codes "r")) (more_exs one (more_exs i no_exs))) ∷ []

-- Each has a type, and is what its form says.
typed : map (λ e. is_some (type_of e g)) picked ≡ map (λ e. true) picked
typed = refl

told : map (λ e. is_told_pick g (innermost e)) picked ≡ map (λ e. true) picked
told = refl

-- How deep they are.
depths : map depth_of_picks picked ≡ 1 ∷ 2 ∷ 1 ∷ 1 ∷ 1 ∷ 1 ∷ 2 ∷ 1 ∷ 1 ∷ []
depths = refl

-- With two names the first five are looked up, and the other four are left.
found : map (λ e. is_some (looked_up g (codes "x") (codes "y" ∷ codes "z" ∷ []) e)) picked
    ≡ true ∷ true ∷ true ∷ true ∷ true ∷ false ∷ false ∷ false ∷ false ∷ []
found = refl

left : map (λ e. is_left_pick g (innermost e)) picked ≡ false ∷ false ∷ false ∷ false ∷ false ∷ true ∷ true ∷ true ∷ true ∷ []
left = refl

-- With one name `m[i][1]` isn't either.
too_few : is_some (looked_up g (codes "x") (codes "y" ∷ []) (at1 false (at1 false table i) one)) ≡ false
too_few = refl
