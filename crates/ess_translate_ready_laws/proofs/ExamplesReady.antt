-- Worked examples: a specification with a symmetric relation between values of a given type is ready, and there positions stand in the
-- order of the values; between types that differ the attribute is refused.
use Rattle.std.specs.Prelude.{◌≡◌, refl, List, [], ◌∷◌, pos, Some, codes}
use Rattle.ess_semantics.specs.declared.words.Key.{Key}
use Rattle.ess_semantics.specs.Values.{a_set, of_list, item, node}
use Rattle.ess_semantics.specs.Order.{order}
use Rattle.ess_semantics.specs.Trees.{flag, no_exs, bool_dom, name_dom, relation_dom, Stm, given, given_enum, find}
use Rattle.ess_semantics.specs.Tables.{one_cell, row_of}
use Rattle.ess_semantics.specs.Positions.{with_positions}
use Rattle.ess_semantics.specs.Judgements.{ill_typed, fault}
use Rattle.ess_semantics.proofs.Shorthands.{ds2, upto, set}
use Rattle.ess_translate_given_laws.specs.Ready.{Ready}
use Rattle.ess_translate_ready_laws.specs.Laws.{tables_of}
use Rattle.ess_translate_ready_laws.proofs.ReadyHeaders.{typed-is-ready}

-- given E new type enum / given r : relation (symmetric) of (set of E * set of E) / find s : set of int(1..3)
abbrev symmetric_spec : List Stm
symmetric_spec =
    given_enum (codes "E") ∷
    given (codes "r") (relation_dom (flag Key.Symmetric ∷ []) no_exs (ds2 (set (name_dom (codes "E"))) (set (name_dom (codes "E"))))) ∷
    find (codes "s") (set (upto 3)) ∷ []

its_ready : Ready symmetric_spec
its_ready = typed-is-ready symmetric_spec refl (tt, ((tt, (tt, tt)), (tt, tt))) (tt, ((tt, (tt, tt)), (tt, tt)))

-- {a, c} and {b} of the type E
same_order : order (with_positions (node a_set (of_list (item (codes "E") 1 ∷ item (codes "E") 3 ∷ []))))
    (with_positions (node a_set (of_list (item (codes "E") 2 ∷ [])))) ≡
    order (node a_set (of_list (item (codes "E") 1 ∷ item (codes "E") 3 ∷ []))) (node a_set (of_list (item (codes "E") 2 ∷ [])))
same_order = refl

-- find r : relation (symmetric) of (int(1..2) * bool)
differing_types : fault
    (find (codes "r") (relation_dom (flag Key.Symmetric ∷ []) no_exs (ds2 (upto 2) bool_dom)) ∷ []) ≡ Some (ill_typed, 1)
differing_types = refl

-- The tables of two names.
two_tables : tables_of ((codes "k", one_cell (pos 2)) ∷ (codes "s", row_of (pos 1 ∷ []) (pos 0 ∷ [])) ∷ []) ≡
    one_cell (pos 2) ∷ row_of (pos 1 ∷ []) (pos 0 ∷ []) ∷ []
two_tables = refl
