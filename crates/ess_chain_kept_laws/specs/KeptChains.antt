-- Chains of rules keep meanings: what each step still has to show, where the reserved names that it takes are new by the count.
use Rattle.std.specs.Prelude.{◌≡◌, ℕ, ◌+◌, ◌≤◌, ◌^◌, Bool, true, Some}
use Rattle.ess_semantics.specs.Names.{Names}
use Rattle.ess_semantics.specs.Trees.{Ex}
use Rattle.ess_semantics.specs.Types.{Ty}
use Rattle.ess_semantics.specs.Meaning.{Env}
use Rattle.ess_semantics.specs.Contexts.{In, fill, Where}
use Rattle.ess_semantics.specs.NamesAt.{names_at}
use Rattle.ess_semantics.specs.Kept.{Keeps}
use Rattle.ess_refine_laws.specs.AllRules.{Rule, rewrite}
use Rattle.ess_chain_names_laws.specs.Steps.{supply_at, behind_names, Chain}
use Rattle.ess_chain_names_laws.specs.SparedNames.{Spares}
use Rattle.ess_chain_kept_laws.specs.CountsBeside.{CountsBeside, needs_names}

-- One of the rules makes b of a, where names have the types g, with reserved names from the n-th on and none from the m-th on.
pub record IsRuled (n : ℕ) (g : Names Ty) (a b : Ex) (m : ℕ) : Type 0 where
  pub count : ℕ
  pub rule : Rule
  pub fires : rewrite (supply_at n count) g rule a ≡ Some b
  pub takes : n + 3 + count ≤ m
  pub passes : behind_names (n + 3 + count) rule a ≤ m

-- The same of a rule with this property.
pub record IsRuledBy (which : Rule → Bool) (n : ℕ) (g : Names Ty) (a b : Ex) (m : ℕ) : Type 0 where
  pub ruled : IsRuled n g a b m
  pub of_these : which ruled.rule ≡ true

-- A chain of rules at parts, where each has what it counts on beside new names wherever the context of the part holds under this env.
module _ (env : Env) where
  pub data ChainThere : ℕ → Names Ty → Ex → Ex → ℕ → Type 0 where
    at_rest : {n m : ℕ} {g : Names Ty} {e : Ex} → n ≤ m → ChainThere n g e e m
    one_more : {n s k m : ℕ} {g : Names Ty} {a b e : Ex} (c : In) → n ≤ s → (i : IsRuled s (names_at c g) a b k) →
        Where c env (CountsBeside (supply_at s i.count) (names_at c g) i.rule a) → ChainThere k g (fill c b) e m →
        ChainThere n g (fill c a) e m

-- A rule that fires keeps what it rewrites, where the tree spares the names that it takes and it has what it counts on beside them. So a
-- chain keeps the whole; and a chain of rules that count on new names alone does so in every env, from a tree that spares these.
pub record ChainsKeep : Type 0 where
  pub by_each_rule : (n m : ℕ) (g : Names Ty) (a b : Ex) → (i : IsRuled n g a b m) → m ≤ 2 ^ 64 → Spares n a → (env : Env) →
      CountsBeside (supply_at n i.count) g i.rule a env → Keeps a b env
  pub along : (env : Env) (n m : ℕ) (g : Names Ty) (old new : Ex) → ChainThere env n g old new m → m ≤ 2 ^ 64 → Spares n old →
      Keeps old new env
  pub by_names_alone : (n m : ℕ) (g : Names Ty) (old new : Ex) → Chain (IsRuledBy needs_names) n g old new m → m ≤ 2 ^ 64 →
      Spares n old → (env : Env) → Keeps old new env
