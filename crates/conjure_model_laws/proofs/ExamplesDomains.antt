-- A worked example: a domain whose letting binds a name that a later given has. Its bound name is told apart before views are put in.
use Rattle.std.specs.Prelude.{◌≡◌, refl, true, false, List, [], ◌∷◌, None, codes}
use Rattle.ess_semantics.specs.declared.words.Fun.{Fun}
use Rattle.ess_semantics.specs.declared.words.ReprKind.{ReprKind}
use Rattle.ess_semantics.specs.Values.{Text}
use Rattle.ess_semantics.specs.Trees.{repr, no_reprs, Ex, comp_ex, cell_ex, no_exs, no_gens, over, name_pat, bool_dom, name_dom, Dom, Stm, given, let_dom, find}
use Rattle.ess_semantics.specs.Judgements.{fault}
use Rattle.ess_semantics.specs.Plans.{givens_side, finds_side, value_plan}
use Rattle.ess_semantics.proofs.Shorthands.{N, n, fn, range, upto, set, v, gives1}
use Rattle.conjure_model_laws.specs.ToldApart.{reserved}
use Rattle.conjure_model_laws.specs.Shown.{shows_of, shown_dom, view_by}
use Rattle.conjure_model_laws.specs.IsBuiltFrom.{all_declared_of}
use Rattle.conjure_model_laws.specs.TreeLaws.{side_of_values}

-- int(1..sum([e | a : int(1..3)]))
abbrev up_to_sum : Text → Ex → Dom
up_to_sum a e = range (n 1) (fn Fun.Sum (comp_ex e (over (name_pat a) (upto 3) no_gens)))

-- letting D be domain int(1..sum([i | i : int(1..3)])) / given i : int(1..2) / find s : set of D
abbrev spec : List Stm
spec =
    let_dom (codes "D") (up_to_sum (codes "i") (N (codes "i"))) ∷ given (codes "i") (upto 2) ∷
    find (codes "s") (set (name_dom (codes "D"))) ∷ []

-- It is well typed: the bound name isn't in scope behind the letting.
no_fault : fault spec ≡ None
no_fault = refl

-- The axis of the set is as long as the sum.
declared : all_declared_of finds_side spec [] ≡
    record { name = codes "s_Occurrence"; axes = up_to_sum (reserved 2) (N (reserved 2)) ∷ []; cell = bool_dom } ∷ []
declared = refl

-- With the view of the given in the place of the bound name it would be three times the given.
caught : shown_dom (shows_of spec []) (up_to_sum (codes "i") (N (codes "i"))) ≡
    up_to_sum (codes "i") (cell_ex false (codes "i") no_exs)
caught = refl

-- The view by a plan of a scalar is a cell, which is a truth value where the domain is bool.
scalar_view : view_by bool_dom (value_plan finds_side (codes "b") (repr ReprKind.Atom no_reprs) bool_dom ((codes "b", 0) ∷ [])) ≡
    cell_ex true (codes "b") no_exs
scalar_view = refl

-- A given's value stands in the parameter, a find's in the solution.
where_given : side_of_values givens_side (gives1 (codes "k") (v 1)) (gives1 (codes "x") (v 2)) ≡ gives1 (codes "k") (v 1)
where_given = refl

where_found : side_of_values finds_side (gives1 (codes "k") (v 1)) (gives1 (codes "x") (v 2)) ≡ gives1 (codes "x") (v 2)
where_found = refl
