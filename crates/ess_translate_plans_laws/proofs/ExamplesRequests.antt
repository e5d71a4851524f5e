-- Worked examples: what statements ask for, and the plans for it one after the other.
use Rattle.std.proofs.Common.{◌≡◌, refl, true, false, List, [], ◌∷◌, codes, Some}
use Rattle.ess_semantics.specs.declared.words.ReprKind.{ReprKind}
use Rattle.ess_semantics.specs.Names.{Names}
use Rattle.ess_semantics.specs.Trees.{Repr, repr, no_reprs, Dom, bool_dom, set_dom, Stm, given_enum, find, no_exs}
use Rattle.ess_semantics.specs.Plans.{finds_side, size_plan, value_plan}
use Rattle.ess_translate_plans_laws.specs.Requests.{size_of, tables_of, requests, declared_beside, plans_for_all, first_among, left_out}

-- A set of truth values, kept by its occurrences.
abbrev occurs : Repr
occurs = repr ReprKind.Occurrence no_reprs

abbrev some_bools : Dom
some_bools = set_dom [] no_exs bool_dom

-- A given type, and a find with two representations.
abbrev small : List Stm
small = given_enum (codes "T") ∷ find (codes "s") some_bools ∷ []

abbrev both_kinds : Names (List Repr)
both_kinds = (codes "s", occurs ∷ occurs ∷ []) ∷ []

asks_for : requests small both_kinds ≡
    size_of (codes "T") ∷ tables_of finds_side (codes "s") occurs some_bools ∷ tables_of finds_side (codes "s") occurs some_bools ∷ []
asks_for = refl

-- The second table of `s` has another name than the first, and the cell of `T` isn't a name that is declared.
planned : plans_for_all (requests small both_kinds) (codes "T_Size" ∷ codes "T" ∷ codes "s" ∷ []) [] ≡
    size_plan (codes "T") (codes "T_Size_")
    ∷ value_plan finds_side (codes "s") occurs some_bools ((codes "s_Occurrence", 1) ∷ [])
    ∷ value_plan finds_side (codes "s") occurs some_bools ((codes "s_Occurrence_", 1) ∷ []) ∷ []
planned = refl

-- Only the name's own declaration doesn't count.
beside_itself : declared_beside false (codes "a") (codes "a" ∷ codes "b" ∷ []) ≡ codes "b" ∷ []
beside_itself = refl

beside_all : declared_beside true (codes "a") (codes "a" ∷ codes "b" ∷ []) ≡ codes "a" ∷ codes "b" ∷ []
beside_all = refl

-- Of the names that are taken, one is avoided and one is left out.
left : left_out (codes "a" ∷ codes "b" ∷ []) (codes "b" ∷ []) ≡ 1
left = refl

first : first_among (codes "a" ∷ codes "b" ∷ []) (codes "c" ∷ codes "b" ∷ codes "a" ∷ []) ≡ Some (codes "b")
first = refl
