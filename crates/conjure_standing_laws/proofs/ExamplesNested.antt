-- Worked examples: the declared tables of sets of any nesting.
use Rattle.std.proofs.Common.{◌≡◌, refl, false, [], ◌∷◌, pos, codes}
use Rattle.ess_semantics.specs.declared.words.Key.{Key}
use Rattle.ess_semantics.specs.declared.words.Op2.{Op2}
use Rattle.ess_semantics.specs.declared.words.ReprKind.{ReprKind}
use Rattle.ess_semantics.specs.Trees.{one_value, both_ends, valued, Repr, repr, no_reprs, more_reprs, number_ex, no_exs, more_exs, Dom, bool_dom, int_dom, set_dom, ex2}
use Rattle.ess_repr_declare_laws.specs.DeclaredTrees.{decl, from_to}
use Rattle.conjure_standing_laws.specs.NestedFinds.{tables_by}

-- set (maxSize 2) of int(1..3)
abbrev pairs : Dom
pairs = set_dom (valued Key.MaxSize ∷ []) (more_exs (number_ex (pos 2)) no_exs) (from_to (number_ex (pos 1)) (number_ex (pos 3)))

abbrev atom : Repr
atom = repr ReprKind.Atom no_reprs

-- By a marker: how many slots are in use, and the slots, which hold 0 where they are out of use.
by_marker : tables_by (codes "m" ∷ codes "v" ∷ []) (repr ReprKind.ExplicitVarSizeWithMarker (more_reprs atom no_reprs)) pairs
    ≡ decl (codes "m") [] (from_to (number_ex (pos 0)) (number_ex (pos 2)))
    ∷ decl (codes "v") (from_to (number_ex (pos 1)) (number_ex (pos 2)) ∷ [])
    (int_dom (one_value ∷ both_ends ∷ [])
    (more_exs (number_ex (pos 0)) (more_exs (number_ex (pos 1)) (more_exs (number_ex (pos 3)) no_exs))))
    ∷ []
by_marker = refl

-- Sets of truth values, in slots with flags: without a size there are as many slots as such sets, whose bound is a power.
by_flags : tables_by (codes "f" ∷ codes "o" ∷ []) (repr ReprKind.ExplicitVarSizeWithFlags (more_reprs (repr ReprKind.Occurrence no_reprs)
    no_reprs)) (set_dom [] no_exs (set_dom [] no_exs bool_dom))
    ≡ decl (codes "f") (from_to (number_ex (pos 1)) (ex2 false Op2.Pow (number_ex (pos 2)) (number_ex (pos 2))) ∷ []) bool_dom
    ∷ decl (codes "o") (from_to (number_ex (pos 1)) (ex2 false Op2.Pow (number_ex (pos 2)) (number_ex (pos 2)))
    ∷ from_to (number_ex (pos 0)) (number_ex (pos 1)) ∷ []) bool_dom ∷ []
by_flags = refl

-- Without names there are none.
no_names : tables_by [] atom bool_dom ≡ []
no_names = refl
