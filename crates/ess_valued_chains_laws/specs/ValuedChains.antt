-- Chains of rules that keep meanings and values, from a tree on each part of which has a value wherever its context holds, but for numbers
-- in natural places.
use Rattle.std.specs.Prelude.{◌≡◌, ℕ, ◌≤◌, ◌^◌, Bool, true}
use Rattle.ess_semantics.specs.Names.{Names}
use Rattle.ess_semantics.specs.Trees.{Ex}
use Rattle.ess_semantics.specs.Types.{Ty}
use Rattle.ess_semantics.specs.Typed.{Typed}
use Rattle.ess_semantics.specs.Meaning.{Env, meaning}
use Rattle.ess_semantics.specs.Meets.{Meets}
use Rattle.ess_semantics.specs.Contexts.{In, fill, Where}
use Rattle.ess_semantics.specs.NamesAt.{names_at}
use Rattle.ess_rules_laws.specs.Rules.{SoundOperands}
use Rattle.ess_rules_laws.specs.ShortSizeRules.{SoundWithin}
use Rattle.ess_refine_laws.specs.ScopesStay.{is_outside_views}
use Rattle.ess_chain_names_laws.specs.SparedNames.{Spares}
use Rattle.ess_chain_kept_laws.specs.KeptChains.{IsRuled}
use Rattle.ess_values_along_laws.specs.Valued.{Valued}
use Rattle.ess_rules_values_laws.specs.RulesKeepValues.{is_shown, ComparesContainers}
use Rattle.ess_counted_values_laws.specs.CountedValues.{counts_on_values, ComparesCompound}

-- A rule makes b of a, one that keeps values and counts on nothing but new names, types and values; what it compares are containers by
-- their form. Operands, and what stands directly in them, have values of their types.
pub record IsValuedStep (n : ℕ) (g : Names Ty) (a b : Ex) (m : ℕ) : Type 0 where
  pub ruled : IsRuled n g a b m
  pub keeps_values : is_shown ruled.rule ≡ true
  pub counts : counts_on_values ruled.rule ≡ true
  pub containers : ComparesContainers ruled.rule a
  pub compound : ComparesCompound ruled.rule a
  pub sound : SoundOperands g a
  pub sound_within : SoundWithin g a

-- Such rules one after the other, each at a part outside of views, where names have values of their types wherever the context of the part
-- holds.
module _ (env : Env) where
  pub data ChainTyped : ℕ → Names Ty → Ex → Ex → ℕ → Type 0 where
    at_rest : {n m : ℕ} {g : Names Ty} {e : Ex} → n ≤ m → ChainTyped n g e e m
    one_more : {n s k m : ℕ} {g : Names Ty} {a b e : Ex} (c : In) → n ≤ s → IsValuedStep s (names_at c g) a b k →
        is_outside_views c ≡ true → Where c env (Typed (names_at c g)) → ChainTyped k g (fill c b) e m → ChainTyped n g (fill c a) e m

-- What the old tree meant the new one means, structures that were met are met, and each part has a value.
pub record StaysValued (w : Bool) (old new : Ex) (env : Env) : Type 0 where
  pub means : meaning old env ≡ meaning new env
  pub met : Meets new env
  pub valued : Valued w new env

-- So it is along each such chain: of no step anything is asked of values. Of a tree that has values, and meets its structures, so it is of
-- each part wherever its context holds.
pub record ValuedChainsKeep : Type 0 where
  pub along : (env : Env) (w : Bool) (n m : ℕ) (g : Names Ty) (old new : Ex) → ChainTyped env n g old new m → m ≤ 2 ^ 64 → Spares n old →
      Meets old env → Valued w old env → StaysValued w old new env
  pub met_at_parts : (c : In) (a : Ex) (env : Env) → Meets (fill c a) env → Where c env (Meets a)
