-- A list literal by its indices: so a generator may run over numbers in the place of the items, in order.
use Rattle.std.specs.Prelude.{◌≡◌, Bool, false, pos, Option, Some, None, IsTrue, is_some}
use Rattle.ess_semantics.specs.Lists.{all_some}
use Rattle.ess_semantics.specs.Values.{Text, a_matrix}
use Rattle.ess_semantics.specs.Names.{Names}
use Rattle.ess_semantics.specs.Trees.{matrix_literal, name_pat, Ex, number_ex, name_ex, node_ex, comp_ex, no_gens, over}
use Rattle.ess_semantics.specs.Types.{Ty, compound2, is_bool}
use Rattle.ess_semantics.specs.Typing.{type_of}
use Rattle.ess_semantics.specs.Constants.{operand_count}
use Rattle.ess_semantics.specs.Meaning.{Env, meaning, meanings}
use Rattle.ess_semantics.specs.Contexts.{EachOf}
use Rattle.ess_semantics.specs.Kept.{Keeps}
use Rattle.ess_rules_laws.specs.Rules.{Unused, IsTruth}
use Rattle.ess_rules_laws.specs.SlotListings.{slots_dom}
use Rattle.ess_rules_laws.specs.MatrixRules.{item_of}

-- `[l[x] | x : int(1..n)]`, where n is the number of the items of l, and t is their type.
abbrev pub by_index : Text → Ty → Ex → Ex → Ex
by_index x t n l = comp_ex (item_of t l (name_ex x)) (over (name_pat x) (slots_dom n) no_gens)

-- Where the type is one of matrices, what is made of that of the items.
abbrev pub of_matrix : Option Ty → (Ty → Ex) → Option Ex
of_matrix (Some (compound2 a_matrix i t)) f = Some (f t)
of_matrix o f = None

-- `[a, b, ..]` is `[[a, b, ..][x] | x : int(1..n)]`.
abbrev pub list_by_index : Names Ty → Text → Ex → Option Ex
list_by_index g x (node_ex false matrix_literal es) =
    of_matrix (type_of (node_ex false matrix_literal es) g)
    (λ t. by_index x t (number_ex (pos (operand_count es))) (node_ex false matrix_literal es))
list_by_index g x e = None

-- Whether the type is one of lists of truth values.
abbrev pub is_of_truths : Option Ty → Bool
is_of_truths (Some (compound2 a_matrix i t)) = is_bool (Some t)
is_of_truths o = false

-- The items of a list of truth values are such.
abbrev pub TruthsListed : Names Ty → Ex → Env → Type 0
TruthsListed g (node_ex b op es) env =
    IsTrue (is_of_truths (type_of (node_ex b op es) g)) → EachOf (all_some (meanings es env)) (λ v. IsTruth (Some v))
TruthsListed g e env = Unit {0}

-- So it keeps what it rewrites, where that has a value.
abbrev pub ListsAreIndices : Type 0
ListsAreIndices = (g : Names Ty) (x : Text) (e f : Ex) → list_by_index g x e ≡ Some f → Unused x e → (env : Env) →
    IsTrue (is_some (meaning e env)) → TruthsListed g e env → Keeps e f env
