-- What is said of a rule at the root of a tree: a function that answers what stands in the place of the tree, where the
-- rule fires.
use Rattle.std.specs.Prelude.{◌≡◌, true, not, Option, Some, IsTrue, is_some}
use Rattle.std.specs.List.{list_all}
use Rattle.ess_semantics.specs.Values.{Text, Value, number, truth}
use Rattle.ess_semantics.specs.Order.{same_text}
use Rattle.ess_semantics.specs.Names.{Names}
use Rattle.ess_semantics.specs.Trees.{Ex, Exs, node_ex, no_exs, more_exs}
use Rattle.ess_semantics.specs.Types.{Ty}
use Rattle.ess_semantics.specs.Typing.{type_of}
use Rattle.ess_semantics.specs.TypeMembers.{is_of_type}
use Rattle.ess_semantics.specs.Typed.{Typed}
use Rattle.ess_semantics.specs.Meaning.{Env, meaning, meanings}
use Rattle.ess_semantics.specs.Substitution.{NamesAre}
use Rattle.ess_semantics.specs.Kept.{Keeps, Kept}

-- Where the rule fires it keeps what it rewrites, under every env.
abbrev pub RuleKeeps : (Ex → Option Ex) → Type 0
RuleKeeps rule = (e f : Ex) → rule e ≡ Some f → (env : Env) → Keeps e f env

-- The same of a rule that fires at trees with the property P under the env.
abbrev pub RuleKeepsWhere : (Ex → Env → Type 0) → (Ex → Option Ex) → Type 0
RuleKeepsWhere P rule = (e f : Ex) → rule e ≡ Some f → (env : Env) → P e env → Keeps e f env

-- The tree neither uses nor binds the name.
abbrev pub Unused : Text → Ex → Type 0
Unused x e = NamesAre (λ a. not (same_text x a)) (λ a. true) e

-- The same of a rule that binds a new name, which the tree has nowhere.
abbrev pub RuleKeepsNew : (Text → Ex → Option Ex) → Type 0
RuleKeepsNew rule = (x : Text) (e f : Ex) → rule x e ≡ Some f → Unused x e → (env : Env) → Keeps e f env

-- Where the expression has a type under the types of names, its values are of that type.
abbrev pub Sound : Names Ty → Ex → Type 0
Sound g e = (t : Ty) → type_of e g ≡ Some t → (env : Env) → Typed g env → (v : Value) → meaning e env ≡ Some v → IsTrue (is_of_type t env v)

-- There is a truth value.
abbrev pub IsTruth : Option Value → Type 0
IsTruth (Some (truth b)) = Unit {0}
IsTruth o = ⊥

-- There is a number.
abbrev pub IsNumber : Option Value → Type 0
IsNumber (Some (number n)) = Unit {0}
IsNumber o = ⊥

-- Each operand of the root is sound under the types of names.
abbrev pub SoundExs : Names Ty → Exs → Type 0
SoundExs g no_exs = Unit {0}
SoundExs g (more_exs e es) = Sound g e × SoundExs g es

-- The same of the operands of a tree.
abbrev pub SoundOperands : Names Ty → Ex → Type 0
SoundOperands g (node_ex b op es) = SoundExs g es
SoundOperands g e = Unit {0}

-- Each operand of the root has a value.
abbrev pub OperandsThere : Ex → Env → Type 0
OperandsThere (node_ex b op es) env = IsTrue (list_all is_some (meanings es env))
OperandsThere e env = Unit {0}

-- A rule that reads the types of operands, and may bind a new name, keeps what it rewrites under these types.
abbrev pub RuleKeepsTyped : (Names Ty → Text → Ex → Option Ex) → Type 0
RuleKeepsTyped rule = (g : Names Ty) (x : Text) (e f : Ex) → rule g x e ≡ Some f → Unused x e → SoundOperands g e → Kept g e f

-- The same where the operands have values.
abbrev pub RuleKeepsTypedThere : (Names Ty → Text → Ex → Option Ex) → Type 0
RuleKeepsTypedThere rule = (g : Names Ty) (x : Text) (e f : Ex) → rule g x e ≡ Some f → Unused x e → SoundOperands g e →
    (env : Env) → Typed g env → OperandsThere e env → Keeps e f env

-- A rule that binds a new name keeps what it rewrites where the operands have values.
abbrev pub RuleKeepsNewThere : (Text → Ex → Option Ex) → Type 0
RuleKeepsNewThere rule = (x : Text) (e f : Ex) → rule x e ≡ Some f → Unused x e → (env : Env) → OperandsThere e env → Keeps e f env
