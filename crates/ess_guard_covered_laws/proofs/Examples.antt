-- Worked examples: a tree whose forms are told, and typed trees that aren't covered.
use Rattle.std.proofs.Common.{◌≡◌, refl, true, false, [], ◌∷◌, pos, Some}
use Rattle.std.specs.Prelude.{codes}
use Rattle.ess_semantics.specs.declared.words.Op2.{Op2}
use Rattle.ess_semantics.specs.declared.words.Fun.{Fun}
use Rattle.ess_semantics.specs.Values.{a_matrix, a_relation}
use Rattle.ess_semantics.specs.Names.{Names}
use Rattle.ess_semantics.specs.Trees.{by_value, word, index, application, function_literal, Ex, number_ex, truth_ex, name_ex, node_ex, no_exs, more_exs, ex2}
use Rattle.ess_semantics.specs.Types.{Ty, any_ty, int_ty, compound1, compound2}
use Rattle.ess_semantics.specs.Typing.{type_of}
use Rattle.ess_semantics.specs.Resolving.{IsResolved}
use Rattle.ess_semantics.specs.Meaning.{empty_env}
use Rattle.ess_semantics.specs.Totality.{Total}
use Rattle.ess_guard_laws.specs.Guard.{make_total}
use Rattle.ess_guard_laws.specs.Covered.{Covered}
use Rattle.ess_guard_types_laws.specs.HasTypes.{HasTypes}
use Rattle.ess_guard_covered_laws.specs.FormsTold.{FormsAreTold}

-- A number, a matrix and a relation.
abbrev names : Names Ty
names = (codes "x", int_ty) ∷ (codes "m", compound2 a_matrix int_ty int_ty) ∷ (codes "r", compound1 a_relation int_ty) ∷ []

abbrev one : Ex
one = number_ex (pos 1)

-- `1 / x = 1 /\ true`
abbrev told : Ex
told = ex2 true Op2.And (ex2 true Op2.Eq (ex2 false Op2.Div one (name_ex (codes "x"))) one) (truth_ex true)

pub told-forms : FormsAreTold told names
told-forms = (refl, (refl, (refl, tt)), ((refl, tt, ((refl, tt, (tt, (tt, tt))), (tt, tt))), (tt, tt)))

-- ---- an operand of the type of an empty literal's members

-- `image(function(), 1)` has that type, so it is no Boolean to the conditions.
abbrev nothing : Ex
nothing = node_ex false (word Fun.Image) (more_exs (node_ex false function_literal no_exs) (more_exs one no_exs))

pub of-nothing : type_of nothing names ≡ Some any_ty
of-nothing = refl

-- `image(function(), 1) /\ true` is typed and resolved, but neither covered nor, guarded, total: no condition stands before it.
abbrev unasked : Ex
unasked = ex2 true Op2.And nothing (truth_ex true)

pub unasked-typed : HasTypes unasked names × IsResolved unasked names
unasked-typed = ((refl, refl, ((refl, refl, ((refl, refl, tt), (tt, tt))), (tt, tt))), refl)

pub unasked-stays : make_total (codes "p") (codes "q") unasked ≡ unasked
unasked-stays = refl

pub unasked-partial : Total unasked empty_env → ⊥
unasked-partial t = let r = t.1.0.0 refl in cc

pub unasked-uncovered : Covered unasked → ⊥
unasked-uncovered v = let r = v.1.0 in cc

-- ---- forms that types don't tell

-- `m[1] = 1`, where m is a name: its form tells no index domain.
abbrev item : Ex
item = ex2 true Op2.Eq (node_ex false (index (by_value ∷ [])) (more_exs (name_ex (codes "m")) (more_exs one no_exs))) one

pub item-typed : HasTypes item names × IsResolved item names
item-typed = ((refl, refl, ((refl, refl, (refl, (tt, tt))), (tt, tt))), refl)

pub item-uncovered : Covered item → ⊥
item-uncovered v = let r = v.2.0.0 in cc

-- `r(1)`, where r is a name: its form doesn't tell that it is a relation.
abbrev holds : Ex
holds = node_ex true application (more_exs (name_ex (codes "r")) (more_exs one no_exs))

pub holds-typed : HasTypes holds names × IsResolved holds names
holds-typed = ((refl, refl, (refl, (tt, tt))), refl)

pub holds-uncovered : Covered holds → ⊥
holds-uncovered v = let r = v.0 in cc
