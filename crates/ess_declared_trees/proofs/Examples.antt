-- Worked examples of children by their names and of dummies.
use Rattle.std.proofs.Common.{◌≡◌, refl, false, [], ◌∷◌, pos, codes}
use Rattle.std.specs.Fmt.{digits}
use Rattle.ess_semantics.specs.Trees.{both_ends, one_value, repr, no_reprs, more_reprs, number_ex, no_exs, more_exs, bool_dom, int_dom}
use Rattle.ess_semantics.specs.declared.words.ReprKind.{ReprKind}
use Rattle.ess_repr_declare_laws.specs.SizeTerms.{next_ex}
use Rattle.ess_repr_declare_laws.specs.DeclaredTrees.{decl, from_to}
use Rattle.ess_declared_trees.specs.Dummies.{is_pair, dummy_beside}
use Rattle.ess_declared_trees.specs.Endings.{numbered, trees_from}

-- Numbers from 1 to 3 have the dummy 4.
a_dummy : dummy_beside (more_exs (number_ex (pos 1)) (more_exs (number_ex (pos 3)) no_exs))
    (from_to (number_ex (pos 1)) (number_ex (pos 3)))
    ≡ int_dom (both_ends ∷ one_value ∷ []) (more_exs (number_ex (pos 1)) (more_exs (number_ex (pos 3)) (more_exs
    (next_ex (number_ex (pos 3))) no_exs)))
a_dummy = refl

three_bounds : is_pair (more_exs (number_ex (pos 1)) (more_exs (number_ex (pos 3)) (more_exs (number_ex (pos 4)) no_exs))) ≡ false
three_bounds = refl

-- Components are numbered from 1.
two_numbers : numbered 2 ≡ codes "_1" ∷ codes "_2" ∷ []
unfolding digits
two_numbers = refl

no_numbers : numbered 0 ≡ []
no_numbers = refl

-- Two truth values, of which the second one has no representation: there is one table.
one_child : trees_from false (more_reprs (repr ReprKind.Atom no_reprs) no_reprs) (numbered 2) (bool_dom ∷ bool_dom ∷ []) []
    ≡ decl (codes "_1") [] bool_dom ∷ []
unfolding digits
one_child = refl
