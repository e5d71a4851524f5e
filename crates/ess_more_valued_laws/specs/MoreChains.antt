-- Chains of more rules that keep meanings and values, from a tree on each part of which has a value wherever its context holds, but for
-- numbers in natural places. What a step asks it asks of names, of types and of the form of its tree, under no values.
use Rattle.std.specs.Prelude.{◌≡◌, ℕ, ◌≤◌, ◌^◌, Bool, true}
use Rattle.ess_semantics.specs.Names.{Names}
use Rattle.ess_semantics.specs.Trees.{Ex}
use Rattle.ess_semantics.specs.Types.{Ty}
use Rattle.ess_semantics.specs.Typed.{Typed}
use Rattle.ess_semantics.specs.Meaning.{Env}
use Rattle.ess_semantics.specs.Meets.{Meets}
use Rattle.ess_semantics.specs.Contexts.{In, fill, Where}
use Rattle.ess_semantics.specs.NamesAt.{names_at}
use Rattle.ess_rules_laws.specs.Rules.{SoundOperands}
use Rattle.ess_rules_laws.specs.ShortSizeRules.{SoundWithin}
use Rattle.ess_refine_laws.specs.AllRules.{Rule, Supply}
use Rattle.ess_refine_laws.specs.ScopesStay.{is_outside_views}
use Rattle.ess_chain_names_laws.specs.Steps.{supply_at}
use Rattle.ess_chain_names_laws.specs.SparedNames.{Spares}
use Rattle.ess_chain_kept_laws.specs.KeptChains.{IsRuled}
use Rattle.ess_values_along_laws.specs.Valued.{Valued}
use Rattle.ess_rules_values_laws.specs.RulesKeepValues.{is_shown, ComparesContainers}
use Rattle.ess_values_terms_laws.specs.TermsKeepValues.{is_of_terms, ComparesTerms}
use Rattle.ess_values_sources_laws.specs.SourcesKeepValues.{is_of_sources, OverNoSuchSet}
use Rattle.ess_values_bindings_laws.specs.BindingsKeepValues.{is_of_bindings, BindsApart}
use Rattle.ess_counted_values_laws.specs.CountedValues.{counts_on_values, ComparesCompound}
use Rattle.ess_counted_more_laws.specs.MoreCounted.{counts_more, RuleAsks}
use Rattle.ess_valued_chains_laws.specs.ValuedChains.{StaysValued}

-- Why a rule keeps values at the tree: it is one of those of which it is shown, and the tree has the form that it asks for.
pub data KeepsValuesAt (r : Rule) (e : Ex) : Type 0 where
  as_shown : is_shown r ≡ true → ComparesContainers r e → KeepsValuesAt r e
  of_terms : is_of_terms r ≡ true → ComparesTerms r e → KeepsValuesAt r e
  of_sources : is_of_sources r ≡ true → OverNoSuchSet r e → KeepsValuesAt r e
  of_bindings : is_of_bindings r ≡ true → BindsApart r e → KeepsValuesAt r e

-- Why it has what it counts on where the tree has values: it counts on nothing but new names, types and values, or what it asks of names
-- and types holds.
pub data CountedAt (s : Supply) (g : Names Ty) (r : Rule) (e : Ex) : Type 0 where
  on_values : counts_on_values r ≡ true → ComparesCompound r e → SoundOperands g e → SoundWithin g e → CountedAt s g r e
  on_types : counts_more r ≡ true → RuleAsks s g r e → CountedAt s g r e

-- A rule makes b of a, one that keeps values there and has what it counts on.
pub record IsKeptStep (n : ℕ) (g : Names Ty) (a b : Ex) (m : ℕ) : Type 0 where
  pub ruled : IsRuled n g a b m
  pub keeps_values : KeepsValuesAt ruled.rule a
  pub counted : CountedAt (supply_at n ruled.count) g ruled.rule a

-- Such rules one after the other, each at a part outside of views, where names have values of their types wherever the context of the part
-- holds.
module _ (env : Env) where
  pub data KeptChain : ℕ → Names Ty → Ex → Ex → ℕ → Type 0 where
    at_rest : {n m : ℕ} {g : Names Ty} {e : Ex} → n ≤ m → KeptChain n g e e m
    one_more : {n s k m : ℕ} {g : Names Ty} {a b e : Ex} (c : In) → n ≤ s → IsKeptStep s (names_at c g) a b k →
        is_outside_views c ≡ true → Where c env (Typed (names_at c g)) → KeptChain k g (fill c b) e m → KeptChain n g (fill c a) e m

-- What the old tree meant the new one means, structures that were met are met, and each part has a value.
abbrev pub MoreChainsKeep : Type 0
MoreChainsKeep = (env : Env) (w : Bool) (n m : ℕ) (g : Names Ty) (old new : Ex) → KeptChain env n g old new m → m ≤ 2 ^ 64 →
    Spares n old → Meets old env → Valued w old env → StaysValued w old new env
