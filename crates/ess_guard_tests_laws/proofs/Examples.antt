-- Worked examples: an index of a bound name, and an application of one.
use Rattle.std.proofs.Common.{◌≡◌, refl, true, false, [], ◌∷◌, pos, Some}
use Rattle.std.specs.Prelude.{codes}
use Rattle.ess_semantics.specs.declared.words.Op2.{Op2}
use Rattle.ess_semantics.specs.declared.words.Fun.{Fun}
use Rattle.ess_semantics.specs.Values.{number, truth, a_relation, node, nil}
use Rattle.ess_semantics.specs.Trees.{by_value, index, application, Ex, number_ex, name_ex, node_ex, comp_ex, no_exs, more_exs, cond, no_gens, ex2, fun1}
use Rattle.ess_semantics.specs.Operators.{list_value}
use Rattle.ess_semantics.specs.Meaning.{Env, empty_env, meaning}
use Rattle.ess_semantics.specs.Totality.{Total}
use Rattle.ess_guard_laws.specs.Guard.{make_total}
use Rattle.ess_guard_tests_laws.specs.FormsKnown.{FormsKnown}

abbrev one : Ex
one = number_ex (pos 1)

-- `m[1]`, where m is a name: its form tells no index domain.
abbrev item : Ex
item = node_ex false (index (by_value ∷ [])) (more_exs (name_ex (codes "m")) (more_exs one no_exs))

abbrev of_item : Ex
of_item = ex2 true Op2.Eq item one

pub of-item-known : FormsKnown of_item
of-item-known = (refl, tt, ((refl, tt, (tt, (tt, tt))), (tt, tt)))

-- The guard tests it: `or([m[1] = 1 | m[1] = m[1]])`.
pub of-item-guarded : make_total (codes "p") (codes "q") of_item
    ≡ fun1 true Fun.Or (comp_ex of_item (cond (ex2 true Op2.Eq item item) no_gens))
of-item-guarded = refl

-- m is the list without items.
abbrev of_none : Env
of_none = record empty_env { vals = (codes "m", list_value []) ∷ [] }

-- There the guarded equation isn't total, since the test's sides have nothing; and it is false, as it should be.
pub of-item-partial : Total (make_total (codes "p") (codes "q") of_item) of_none → ⊥
of-item-partial t = let r = t.1.0.0.1.0.0 refl in cc

pub of-item-false : meaning (make_total (codes "p") (codes "q") of_item) of_none ≡ Some (truth false)
of-item-false = refl

-- ---- relations

-- `r(1)`, where r is a name.
abbrev holds : Ex
holds = node_ex true application (more_exs (name_ex (codes "r")) (more_exs one no_exs))

pub of-holds-known : FormsKnown holds
of-holds-known = (refl, tt, (tt, (tt, tt)))

-- It has a value where r is a relation, and none where r is a number.
pub of-relation : meaning (node_ex false application (more_exs (name_ex (codes "r")) (more_exs one no_exs)))
    (record empty_env { vals = (codes "r", node a_relation nil) ∷ [] }) ≡ Some (truth false)
of-relation = refl

pub of-holds-partial : Total holds (record empty_env { vals = (codes "r", number (pos 1)) ∷ [] }) → ⊥
of-holds-partial t = let r = t.0 refl in cc
