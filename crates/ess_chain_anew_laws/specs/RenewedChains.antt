-- Chains of rules, used where first sources are told apart anew, keep meanings.
use Rattle.std.specs.Prelude.{ℕ, ◌+◌, ◌≤◌, ◌^◌, Bool}
use Rattle.ess_semantics.specs.Values.{Text}
use Rattle.ess_semantics.specs.Names.{Names}
use Rattle.ess_semantics.specs.Trees.{Ex}
use Rattle.ess_semantics.specs.Types.{Ty}
use Rattle.ess_semantics.specs.Meaning.{Env}
use Rattle.ess_semantics.specs.Contexts.{In, fill, Where}
use Rattle.ess_semantics.specs.NamesAt.{names_at}
use Rattle.ess_semantics.specs.Kept.{Keeps}
use Rattle.ess_chain_names_laws.specs.Steps.{supply_at}
use Rattle.ess_chain_names_laws.specs.SparedNames.{Spares}
use Rattle.ess_chain_kept_laws.specs.CountsBeside.{CountsBeside}
use Rattle.ess_chain_anew_laws.specs.RenewedRules.{renewed, IsRuledAnew, SourceScoped}

-- A chain of such rules at parts: the first source at the part is in scope, of names z, s and o, and each rule has what it counts on beside
-- new names wherever the context of the part holds under this env.
module _ (env : Env) where
  pub data RenewedChain : ℕ → Names Ty → Ex → Ex → ℕ → Type 0 where
    at_rest : {n m : ℕ} {g : Names Ty} {e : Ex} → n ≤ m → RenewedChain n g e e m
    one_more : {n k l m : ℕ} {g : Names Ty} {a b e : Ex} (z s o : Text → Bool) (c : In) → n ≤ k → (i : IsRuledAnew k (names_at c g) a b l) →
        SourceScoped z s o (k + 3 + i.count) a →
        Where c env (CountsBeside (supply_at k i.count) (names_at c g) i.rule (renewed (k + 3 + i.count) i.rule a)) →
        RenewedChain l g (fill c b) e m → RenewedChain n g (fill c a) e m

-- So they keep the whole, from a tree that spares the names that they take, and the last tree spares those behind.
abbrev pub RenewedChainsKeep : Type 0
RenewedChainsKeep = (env : Env) (n m : ℕ) (g : Names Ty) (old new : Ex) → RenewedChain env n g old new m → m ≤ 2 ^ 64 → Spares n old →
    Keeps old new env × Spares m new
