-- Laws of well typed specifications, each stated at a function that does nothing, so that its proof is checked with the code.
use Rattle.std.specs.Prelude.{◌≡◌, Bool, true, false, ◌⊎◌, List, None, IsTrue}
use Rattle.ess_semantics.specs.Values.{Text}
use Rattle.ess_semantics.specs.Names.{Names, keys, is_among}
use Rattle.ess_semantics.specs.NameTokens.{is_name_token}
use Rattle.ess_semantics.specs.Trees.{Ex, Stm}
use Rattle.ess_semantics.specs.Judgements.{fault}
use Rattle.ess_semantics.specs.Assignments.{Assignment}
use Rattle.ess_semantics.specs.Parameters.{Param, all_declared}
use Rattle.conjure_laws.specs.Premises.{Settled}
use Rattle.conjure_laws.specs.Views.{NamesHaveValues}
use Rattle.conjure_settled_laws.specs.EndValues.{valued_in, HasEndValues}

-- Each statement of a well typed specification says at its place what it says behind all statements, for each parameter and all values
-- of finds; and no find is declared twice.
abbrev pub TypedIsSettled : Type 0
TypedIsSettled = (S : List Stm) → fault S ≡ None → Settled S

-- Behind all statements of a well typed specification each declared name has what its statement says, for each parameter and all values
-- of finds; and the types are those of the parameter.
abbrev pub TypedHasEndValues : Type 0
TypedHasEndValues = (S : List Stm) (p a : Assignment) → fault S ≡ None → Param S p → HasEndValues S p a

-- So names in use have values as rewriting asks for it, where something stands for each given, each find and each value of an enumerated
-- type. A name in use is declared, or no text can spell it, as the names that bound ones become.
abbrev pub TypedNamesHaveValues : Type 0
TypedNamesHaveValues = (S : List Stm) (vs : Names Ex) (n : Text → Bool) → fault S ≡ None →
    ((x : Text) → is_among (valued_in S) x ≡ true → is_among (keys vs) x ≡ true) →
    ((x : Text) → IsTrue (n x) →
    (is_among (all_declared S) x ≡ true) ⊎ ((is_among (all_declared S) x ≡ false) × (is_name_token x ≡ false))) →
    NamesHaveValues S vs n
