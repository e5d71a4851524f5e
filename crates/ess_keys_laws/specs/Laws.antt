-- The laws of plain keys.
use Rattle.std.specs.Prelude.{◌≡◌, Bool, true}
use Rattle.ess_semantics.specs.Values.{Text}
use Rattle.ess_semantics.specs.Trees.{Ex}
use Rattle.ess_semantics.specs.Refined.{is_refined}
use Rattle.ess_semantics.specs.Scoped.{Scoped}
use Rattle.ess_semantics.specs.Meaning.{Env, meaning}
use Rattle.ess_keys_laws.specs.Keyed.{nothing_around, keyed}

-- A refined tree in which no bound name hides another one means the same with plain keys, everywhere.
abbrev pub PlainKeysKeep : Type 0
PlainKeysKeep = (e : Ex) → is_refined e ≡ true → (z s o : Text → Bool) → Scoped z s o e → (env : Env) →
    meaning (keyed nothing_around e) env ≡ meaning e env

-- A refined tree stays refined.
abbrev pub PlainKeysStayRefined : Type 0
PlainKeysStayRefined = (e : Ex) → is_refined e ≡ true → is_refined (keyed nothing_around e) ≡ true
