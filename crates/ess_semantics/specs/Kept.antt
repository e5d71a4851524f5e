-- What a rule promises that puts one expression in the place of another: the meaning stays wherever tables meet the
-- structures of the old expression, and they meet those of the new one too. So a rule may be used at a part of a tree
-- after another one, and the whole is kept. It is promised under the types of names: of envs that give names values of
-- their types.
use Rattle.std.specs.Prelude.{◌≡◌, Bool, true, false, Option, Some, None, IsTrue, is_some}
use Rattle.ess_semantics.specs.declared.words.Fun.{Fun}
use Rattle.ess_semantics.specs.Values.{Value, items_of}
use Rattle.ess_semantics.specs.Collections.{count}
use Rattle.ess_semantics.specs.Names.{Names}
use Rattle.ess_semantics.specs.Trees.{application, word, Ex, node_ex, comp_ex}
use Rattle.ess_semantics.specs.Types.{Ty}
use Rattle.ess_semantics.specs.Meaning.{Env, meaning}
use Rattle.ess_semantics.specs.Meets.{Meets}
use Rattle.ess_semantics.specs.Typed.{Typed}

-- Where the env meets the structures of the old expression, the new one means the same, and the env meets its structures too.
abbrev pub Keeps : Ex → Ex → Env → Type 0
Keeps old new env = Meets old env → (meaning old env ≡ meaning new env) × Meets new env

-- So it is under every env with the property P.
abbrev pub KeptWhere : (Env → Type 0) → Ex → Ex → Type 0
KeptWhere P old new = (env : Env) → P env → Keeps old new env

-- The same where the property is one of an env under the types of its names, g at the place of the expression.
abbrev pub KeptUnder : (Names Ty → Env → Type 0) → Names Ty → Ex → Ex → Type 0
KeptUnder P g old new = KeptWhere (P g) old new

-- The same under every env that gives the names of g values of their types.
abbrev pub Kept : Names Ty → Ex → Ex → Type 0
Kept = KeptUnder Typed

-- ---- what is promised of a rule at its root

-- Both are nothing, or both have the same items equally often.
abbrev pub SameItems : Option Value → Option Value → Type 0
SameItems (Some a) (Some b) = (v : Value) → count (items_of a) v ≡ count (items_of b) v
SameItems None None = Unit {0}
SameItems _ _ = ⊥

-- The meanings that count as one at a place: those of a comprehension where order doesn't count have the same items
-- equally often, all others are equal. `counts` says whether order counts at the place.
abbrev pub MeansSame : Bool → Ex → Ex → Env → Type 0
MeansSame false (comp_ex e gs) (comp_ex f hs) env = SameItems (meaning (comp_ex e gs) env) (meaning (comp_ex f hs) env)
MeansSame counts old new env = meaning old env ≡ meaning new env

-- Whether the expression is an application of a function or a relation.
abbrev pub is_application : Ex → Bool
is_application (node_ex b application es) = true
is_application (node_ex b (word Fun.Image) es) = true
is_application e = false

-- P, where the value is there or isn't asked for.
abbrev pub WhereThere : Bool → Option Value → Type 0 → Type 0
WhereThere true o P = IsTrue (is_some o) → P
WhereThere false o P = P

-- What a rule keeps that lays one view open at the root: the meaning, and that structures are met, of an application
-- where it has a value.
abbrev pub KeptAtRoot : Bool → (Env → Type 0) → Ex → Ex → Type 0
KeptAtRoot counts P old new =
    (env : Env) → P env → Meets old env → MeansSame counts old new env × WhereThere (is_application old) (meaning old env) (Meets new env)
