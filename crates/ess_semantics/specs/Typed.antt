-- Envs that give the names of g values of their types. A name may have no value, and other names may have any.
use Rattle.std.specs.Prelude.{◌≡◌, Some, IsTrue}
use Rattle.ess_semantics.specs.Values.{Text, Value}
use Rattle.ess_semantics.specs.Names.{Names, look}
use Rattle.ess_semantics.specs.Types.{Ty}
use Rattle.ess_semantics.specs.TypeMembers.{is_of_type}
use Rattle.ess_semantics.specs.Meaning.{Env}

-- Each name of g that has a value has one of its type.
abbrev pub Typed : Names Ty → Env → Type 0
Typed g env = (a : Text) (t : Ty) (v : Value) → look g a ≡ Some t → look env.vals a ≡ Some v → IsTrue (is_of_type t env v)
