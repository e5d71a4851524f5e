-- Worked examples: trees in which each part has a type, and what the conditions of terms have.
use Rattle.std.proofs.Common.{◌≡◌, refl, true, false, [], ◌∷◌, pos, Some, None}
use Rattle.std.specs.Prelude.{codes}
use Rattle.ess_semantics.specs.declared.words.Op2.{Op2}
use Rattle.ess_semantics.specs.Names.{Names}
use Rattle.ess_semantics.specs.Trees.{by_value, index, both_ends, name_pat, matrix_literal, Ex, number_ex, truth_ex, name_ex, node_ex, comp_ex, no_exs, more_exs, no_gens, over, Dom, int_dom, ex2}
use Rattle.ess_semantics.specs.Types.{Ty, any_ty, bool_ty, int_ty}
use Rattle.ess_semantics.specs.Typing.{type_of}
use Rattle.ess_guard_laws.specs.Conditions.{members_of}
use Rattle.ess_guard_laws.specs.Guard.{make_total, has_value}
use Rattle.ess_guard_types_laws.specs.HasTypes.{indexes_items, HasTypes}

-- A name of a number.
abbrev numbers : Names Ty
numbers = (codes "x", int_ty) ∷ []

-- `1 / x = 2`
abbrev quotient : Ex
quotient = ex2 true Op2.Eq (ex2 false Op2.Div (number_ex (pos 1)) (name_ex (codes "x"))) (number_ex (pos 2))

pub of-quotient : HasTypes quotient numbers
of-quotient = (refl, refl, ((refl, refl, (tt, (refl, tt))), (tt, tt)))

-- Under its condition it is a Boolean still.
pub of-guarded : type_of (make_total (codes "p") (codes "q") quotient) numbers ≡ Some bool_ty
of-guarded = refl

-- ---- members of domains

abbrev to_three : Dom
to_three = int_dom (both_ends ∷ []) (more_exs (number_ex (pos 1)) (more_exs (number_ex (pos 3)) no_exs))

-- Membership in the list of a domain's members has no type, membership in their set has.
pub of-list : type_of (ex2 true Op2.Member (number_ex (pos 2)) (comp_ex (name_ex (codes "p"))
    (over (name_pat (codes "p")) to_three no_gens)))
    numbers ≡ None
of-list = refl

pub of-set : type_of (ex2 true Op2.Member (number_ex (pos 2)) (members_of (codes "p") to_three)) numbers ≡ Some bool_ty
of-set = refl

-- ---- the literal `[]`

-- `[][true]` has a type, as `[]` agrees with every index. Its condition `1 <= true /\ true <= 0` has none, so it is left out.
abbrev of_nothing : Ex
of_nothing = node_ex false (index (by_value ∷ [])) (more_exs (node_ex false matrix_literal no_exs) (more_exs (truth_ex true) no_exs))

pub of-nothing : type_of of_nothing numbers ≡ Some any_ty
of-nothing = refl

pub of-nothing-asked : type_of (has_value (codes "p") (codes "q") of_nothing) numbers ≡ None
of-nothing-asked = refl

pub of-nothing-indexed : indexes_items (index (by_value ∷ []))
    (more_exs (node_ex false matrix_literal no_exs) (more_exs (truth_ex true) no_exs)) ≡ false
of-nothing-indexed = refl
