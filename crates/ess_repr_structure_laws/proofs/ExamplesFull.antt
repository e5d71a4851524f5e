-- Worked examples: what tables are full for, and what they aren't.
use Rattle.std.proofs.Common.{◌≡◌, refl, ℕ, zero, suc, true, false, List, [], ◌∷◌, ◌++◌, ℤ, pos}
use Rattle.std.specs.Prelude.{codes}
use Rattle.ess_semantics.specs.declared.words.ReprKind.{ReprKind}
use Rattle.ess_semantics.specs.Names.{Names}
use Rattle.ess_semantics.specs.Values.{Text}
use Rattle.ess_semantics.specs.Types.{Ty}
use Rattle.ess_semantics.specs.Trees.{Repr, repr, no_reprs, more_reprs, Ex, name_pat, number_ex, name_ex, comp_ex, cell_ex, no_exs, no_gens, over, from, function_dom}
use Rattle.ess_semantics.specs.Meaning.{Env, empty_env}
use Rattle.ess_semantics.specs.Full.{Full, indices_are_free, cell_is_there}
use Rattle.ess_repr_laws.specs.Structure.{structure}
use Rattle.ess_repr_declare_laws.specs.SizeTerms.{size_terms}
use Rattle.ess_repr_laws.specs.StructureParts.{upto}
use Rattle.ess_repr_structure_laws.specs.FreeIndices.{indices_are_free_under}
use Rattle.ess_repr_structure_laws.specs.Laws.{ReadsNoTable}
use Rattle.ess_repr_structure_laws.proofs.ExamplesStructures.{name, up_to, one, cell, of_slots, slots_env}

-- ---- a number

-- `int(1..3)`, of which the structure is that the cell lies in it.
abbrev of_number : Ex
of_number = structure name size_terms cell (up_to (pos 3)) (codes "a" ∷ []) 1 no_exs

-- An env with that cell.
abbrev number_env : List ℤ → Env
number_env zs = record empty_env { cells = (codes "a", record { axes = []; items = zs }) ∷ [] }

-- It mentions no table, and the cell's table is full for its structure.
pub of-domain : ReadsNoTable (up_to (pos 3))
of-domain = refl

pub of-cell : (g : Names Ty) → Full of_number g (number_env (pos 2 ∷ []))
of-cell g = (((tt, ((refl, tt), tt)), (((refl, tt), (tt, tt)), tt)), (tt, tt))

-- A table without items isn't.
pub of-no-cell : cell_is_there false (cell_ex false (codes "a") no_exs) (number_env []) ≡ false
of-no-cell = refl

-- ---- slots

-- Of two slots the second one is there, a third one isn't: so pairs of slots end with the last one.
pub of-second-slot : cell_is_there false (cell_ex false (codes "a") (one (number_ex (pos 2))))
    (slots_env (pos 2) (pos 1 ∷ pos 3 ∷ [])) ≡ true
of-second-slot = refl

pub of-third-slot : cell_is_there false (cell_ex false (codes "a") (one (number_ex (pos 3))))
    (slots_env (pos 2) (pos 1 ∷ pos 3 ∷ [])) ≡ false
of-third-slot = refl

-- A cell that is a truth value counts as there, as it is false where it has none.
pub of-third-flag : cell_is_there true (cell_ex true (codes "a") (one (number_ex (pos 3)))) (slots_env (pos 2) (pos 1 ∷ pos 3 ∷ [])) ≡ true
of-third-flag = refl

-- ---- index lists

-- No name that stands in an index list is bound over an expression in the structure of slots.
pub of-slots-free : indices_are_free of_slots ≡ true
of-slots-free = refl

-- `function int(1..2) --> int(1..2)` as a set of pairs in slots: a name runs over slots, and elsewhere over the pairs of the view. So the
-- test of names that doesn't look at where they stand fails for the structure, though its tables are full.
abbrev as_pairs : Repr
as_pairs = repr ReprKind.FunctionAsRelation (more_reprs (repr ReprKind.RelationAsSet (more_reprs
    (repr ReprKind.ExplicitVarSizeWithMarker (more_reprs (repr ReprKind.Tuple (more_reprs cell (more_reprs cell no_reprs))) no_reprs))
    no_reprs)) no_reprs)

-- Names that differ.
abbrev longer : ℕ → Text
longer zero = codes "q"
longer (suc l) = codes "q" ++ longer l

abbrev of_pairs : Ex
of_pairs = structure longer size_terms as_pairs (function_dom [] no_exs (up_to (pos 2)) (up_to (pos 2)))
    (codes "m" ∷ codes "a" ∷ codes "b" ∷ []) 1 no_exs

pub of-pairs-not-free : indices_are_free of_pairs ≡ false
of-pairs-not-free = refl

-- Asked under each generator, it holds.
pub of-pairs-free-under : indices_are_free_under of_pairs ≡ true
of-pairs-free-under = refl

-- ---- under a generator

-- `[a[x] | x <- v]`, where x runs over the items of v: here the test fails.
pub of-index : indices_are_free_under (comp_ex (cell_ex false (codes "a") (one (name_ex (codes "x"))))
    (from (name_pat (codes "x")) (name_ex (codes "v")) no_gens)) ≡ false
of-index = refl

-- So it does where a later generator has the name: `[1 | x <- v, y : int(1..a[x])]`.
pub of-later-index : indices_are_free_under (comp_ex (number_ex (pos 1)) (from (name_pat (codes "x")) (name_ex (codes "v"))
    (over (name_pat (codes "y")) (upto (cell_ex false (codes "a") (one (name_ex (codes "x"))))) no_gens))) ≡ false
of-later-index = refl

-- In `[a[x] | x : int(1..2)]` x runs over numbers.
pub of-number-index : indices_are_free_under (comp_ex (cell_ex false (codes "a") (one (name_ex (codes "x"))))
    (over (name_pat (codes "x")) (up_to (pos 2)) no_gens)) ≡ true
of-number-index = refl
