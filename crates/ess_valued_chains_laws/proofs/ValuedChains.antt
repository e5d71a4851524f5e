-- Chains of rules that keep, from a tree with values on.
use Rattle.std.proofs.Common.{refl, ◌∙◌, ℕ, ◌+◌, ◌<◌, ◌≤◌, ◌^◌, Bool, arith}
use Rattle.ess_semantics.specs.Names.{Names}
use Rattle.ess_semantics.specs.Trees.{Ex}
use Rattle.ess_semantics.specs.Types.{Ty}
use Rattle.ess_semantics.specs.Typed.{Typed}
use Rattle.ess_semantics.specs.Meaning.{Env}
use Rattle.ess_semantics.specs.Meets.{Meets}
use Rattle.ess_semantics.specs.Contexts.{In, fill}
use Rattle.ess_semantics.specs.NamesAt.{names_at}
use Rattle.ess_semantics.specs.Kept.{Keeps}
use Rattle.ess_rules_laws.specs.Rules.{Unused}
use Rattle.ess_rules_laws.proofs.KeptUnder.{step-here}
use Rattle.ess_rules_laws.proofs.Places.{where-join}
use Rattle.conjure_model_laws.specs.ToldApart.{reserved}
use Rattle.ess_chain_names_laws.specs.Steps.{supply_at, by_a_rule}
use Rattle.ess_chain_names_laws.specs.SparedNames.{Spares}
use Rattle.ess_chain_names_laws.proofs.NamesHave.{of-part}
use Rattle.ess_chain_names_laws.proofs.SparedNames.{chains-spare-names, spares-later, spares-step}
use Rattle.ess_chain_kept_laws.proofs.KeptChains.{chains-keep}
use Rattle.ess_values_along_laws.specs.Valued.{Valued}
use Rattle.ess_values_along_laws.specs.ValuesAlong.{natural_at, KeepsValues}
use Rattle.ess_values_along_laws.proofs.ValuesAlong.{values-along}
use Rattle.ess_rules_values_laws.proofs.RulesKeepValues.{rules-keep-values}
use Rattle.ess_counted_values_laws.proofs.CountedValues.{values-are-counted-on}
use Rattle.ess_valued_chains_laws.specs.ValuedChains.{IsValuedStep, ChainTyped, at_rest, one_more, StaysValued, ValuedChainsKeep}
use Rattle.ess_valued_chains_laws.proofs.Parts.{valued-part, met-part}

le : (a b c : ℕ) → a ≤ b → b ≤ c → a ≤ c
le a b c p q = omega (arith, p, q)

below : (t x k : ℕ) → t + 3 + x ≤ k → k ≤ 2 ^ 64 → t < 2 ^ 64
below t x k p q = omega (arith, p, q)

-- The part of a tree spares what the tree spares.
part-spares : (n : ℕ) (c : In) (a : Ex) → Spares n (fill c a) → Spares n a
part-spares n c a s = record { among = s.among; has = of-part s.among a c s.has; spared = s.spared }

-- The numbers of a chain rise.
up : (n t x k m : ℕ) → n ≤ t → t + 3 + x ≤ k → k ≤ m → n ≤ m
up n t x k m p q r = omega (arith, p, q, r)

rises : (env : Env) (n m : ℕ) (g : Names Ty) (old new : Ex) → ChainTyped env n g old new m → n ≤ m
rises env n m g e d (at_rest l) = l
rises env n m g old e (one_more {s = t} {k = k} {b = b} c l i o w u) =
    up n t i.ruled.count k m l i.ruled.takes (rises env k m g (fill c b) e u)

-- ---- one step at a part

module _ (n m : ℕ) (g : Names Ty) (a b : Ex) (i : IsValuedStep n g a b m) (top : m ≤ 2 ^ 64) (s : Spares n a) where
  new : Unused (reserved n) a
  new = chains-spare-names.unused n n a s (omega arith) (below n i.ruled.count m i.ruled.takes top)

  keeps : (w : Bool) (env : Env) → Typed g env → Valued w a env → Keeps a b env
  keeps w env t v = chains-keep.by_each_rule n m g a b i.ruled top s env
      (values-are-counted-on
      (supply_at n i.ruled.count) g i.ruled.rule a b i.ruled.fires i.counts i.compound env t i.sound i.sound_within w v)

  turns : (w : Bool) (env : Env) → Keeps a b env → Meets a env → KeepsValues w a b env
  turns w env k m = let q = (k m).0 in
      (q, λ v. rules-keep-values (supply_at n i.ruled.count) g i.ruled.rule a b i.ruled.fires i.keeps_values new i.containers env q w v)

-- ---- a chain

along : (env : Env) (w : Bool) (n m : ℕ) (g : Names Ty) (old new : Ex) → ChainTyped env n g old new m → m ≤ 2 ^ 64 → Spares n old →
    Meets old env → Valued w old env → StaysValued w old new env
along env w n m g e d (at_rest l) b s x v = record { means = refl; met = x; valued = v }
along env w n m g old e (one_more {s = t} {k = k} {a = a} {b = b} c l i o typed u) bound s x v =
    let s' = spares-later n t (fill c a) l s in
    let top = le k m (2 ^ 64) (rises env k m g (fill c b) e u) bound in
    let kept = where-join (Typed (names_at c g)) (Valued (natural_at a c w) a) (Keeps a b)
    (λ here p q. keeps t k (names_at c g) a b i top (part-spares t c a s') (natural_at a c w) here p q) c env typed
    (valued-part a c w env o v) in
    let turned = where-join (Keeps a b) (Meets a) (KeepsValues (natural_at a c w) a b)
    (λ here p q. turns t k (names_at c g) a b i top (part-spares t c a s') (natural_at a c w) here p q) c env kept (met-part a c env x) in
    let whole = step-here c a b env kept x in
    let values = (values-along.at_a_part c w a b env o turned).1 v in
    let rest = along env w k m g (fill c b) e u bound
    (spares-step t k (names_at c g) a b
    (by_a_rule i.ruled.count i.ruled.rule i.ruled.fires i.ruled.takes i.ruled.passes) c s') whole.1 values in
    record { means = whole.0 ∙ rest.means; met = rest.met; valued = rest.valued }

-- What is proved of chains.
pub valued-chains-keep : ValuedChainsKeep
valued-chains-keep = record { along = along; met_at_parts = λ c a env x. met-part a c env x }
