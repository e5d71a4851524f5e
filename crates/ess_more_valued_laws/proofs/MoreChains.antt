-- Chains of more rules that keep, from a tree with values on.
use Rattle.std.proofs.Common.{◌≡◌, refl, ◌∙◌, ℕ, ◌+◌, ◌<◌, ◌≤◌, ◌^◌, Bool, true, arith}
use Rattle.ess_semantics.specs.Names.{Names}
use Rattle.ess_semantics.specs.Trees.{Ex}
use Rattle.ess_semantics.specs.Types.{Ty}
use Rattle.ess_semantics.specs.Typed.{Typed}
use Rattle.ess_semantics.specs.Meaning.{Env, meaning}
use Rattle.ess_semantics.specs.Meets.{Meets}
use Rattle.ess_semantics.specs.Contexts.{In, fill}
use Rattle.ess_semantics.specs.NamesAt.{names_at}
use Rattle.ess_semantics.specs.Kept.{Keeps}
use Rattle.ess_rules_laws.specs.Rules.{Unused}
use Rattle.ess_rules_laws.proofs.KeptUnder.{step-here}
use Rattle.ess_rules_laws.proofs.Places.{where-join}
use Rattle.conjure_model_laws.specs.ToldApart.{reserved}
use Rattle.ess_refine_laws.specs.AllRules.{Rule, over_a_literal, over_a_source, of_one_source, over_a_comprehension, least_of_alternatives, Supply}
use Rattle.ess_refine_laws.specs.WhatRulesCountOn.{CountsOn}
use Rattle.ess_chain_names_laws.specs.Steps.{supply_at, by_a_rule}
use Rattle.ess_chain_names_laws.specs.SparedNames.{Spares}
use Rattle.ess_chain_names_laws.proofs.NamesHave.{of-part}
use Rattle.ess_chain_names_laws.proofs.SparedNames.{chains-spare-names, spares-later, spares-step}
use Rattle.ess_chain_kept_laws.specs.CountsBeside.{CountsBeside}
use Rattle.ess_chain_kept_laws.proofs.KeptChains.{chains-keep}
use Rattle.ess_values_along_laws.specs.Valued.{Valued}
use Rattle.ess_values_along_laws.specs.ValuesAlong.{natural_at, KeepsValues}
use Rattle.ess_values_along_laws.proofs.ValuesAlong.{values-along}
use Rattle.ess_rules_values_laws.proofs.RulesKeepValues.{rules-keep-values}
use Rattle.ess_values_terms_laws.proofs.TermsKeepValues.{terms-keep-values}
use Rattle.ess_values_sources_laws.specs.SourcesKeepValues.{is_of_sources}
use Rattle.ess_values_sources_laws.proofs.SourcesKeepValues.{sources-keep-values}
use Rattle.ess_values_bindings_laws.proofs.BindingsKeepValues.{bindings-keep-values}
use Rattle.ess_counted_values_laws.proofs.CountedValues.{values-are-counted-on}
use Rattle.ess_counted_more_laws.proofs.MoreCounted.{more-is-counted-on}
use Rattle.ess_valued_chains_laws.specs.ValuedChains.{StaysValued}
use Rattle.ess_valued_chains_laws.proofs.Parts.{valued-part, met-part}
use Rattle.ess_more_valued_laws.specs.MoreChains.{KeepsValuesAt, as_shown, of_terms, of_sources, of_bindings, CountedAt, on_values, on_types, IsKeptStep, KeptChain, at_rest, one_more, MoreChainsKeep}

le : (a b c : ℕ) → a ≤ b → b ≤ c → a ≤ c
le a b c p q = omega (arith, p, q)

below : (t x k : ℕ) → t + 3 + x ≤ k → k ≤ 2 ^ 64 → t < 2 ^ 64
below t x k p q = omega (arith, p, q)

-- The part of a tree spares what the tree spares.
part-spares : (n : ℕ) (c : In) (a : Ex) → Spares n (fill c a) → Spares n a
part-spares n c a s = record { among = s.among; has = of-part s.among a c s.has; spared = s.spared }

-- The numbers of a chain rise.
up : (n t x k m : ℕ) → n ≤ t → t + 3 + x ≤ k → k ≤ m → n ≤ m
up n t x k m p q r = omega (arith, p, q, r)

rises : (env : Env) (n m : ℕ) (g : Names Ty) (old new : Ex) → KeptChain env n g old new m → n ≤ m
rises env n m g e d (at_rest l) = l
rises env n m g old e (one_more {s = t} {k = k} {b = b} c l i o w u) =
    up n t i.ruled.count k m l i.ruled.takes (rises env k m g (fill c b) e u)

-- ---- one step at a part

-- Rules over sources count on the same, beside that names have values of their types.
counts-on : (s : Supply) (g : Names Ty) (r : Rule) (e : Ex) (env : Env) → is_of_sources r ≡ true → CountsBeside s g r e env →
    CountsOn s g r e env
counts-on s g over_a_literal e env i c = c.1
counts-on s g over_a_source e env i c = c.1
counts-on s g of_one_source e env i c = c.1
counts-on s g over_a_comprehension e env i c = c.1
counts-on s g least_of_alternatives e env i c = c.1
counts-on s g r e env i c = cc

module _ (n m : ℕ) (g : Names Ty) (a b : Ex) (i : IsKeptStep n g a b m) (top : m ≤ 2 ^ 64) (s : Spares n a) where
  abbrev taken : Supply
  taken = supply_at n i.ruled.count

  new : Unused (reserved n) a
  new = chains-spare-names.unused n n a s (omega arith) (below n i.ruled.count m i.ruled.takes top)

  -- What the rule counts on.
  counted : (w : Bool) (env : Env) → Typed g env → Meets a env → Valued w a env → CountsBeside taken g i.ruled.rule a env
  counted w env t x v = go i.counted
    where
      go : CountedAt taken g i.ruled.rule a → CountsBeside taken g i.ruled.rule a env
      go (on_values c p o q) = values-are-counted-on taken g i.ruled.rule a b i.ruled.fires c p env t o q w v
      go (on_types c p) = more-is-counted-on taken g i.ruled.rule a b i.ruled.fires c p env t new x w v

  -- So it keeps meaning and structures met.
  keeps : (env : Env) → CountsBeside taken g i.ruled.rule a env → Keeps a b env
  keeps env c = chains-keep.by_each_rule n m g a b i.ruled top s env c

  -- And values.
  turns : (w : Bool) (env : Env) → CountsBeside taken g i.ruled.rule a env → Meets a env → KeepsValues w a b env
  turns w env c x = let q = (keeps env c x).0 in (q, λ v. go q v i.keeps_values)
    where
      go : meaning a env ≡ meaning b env → Valued w a env → KeepsValuesAt i.ruled.rule a → Valued w b env
      go q v (as_shown k p) = rules-keep-values taken g i.ruled.rule a b i.ruled.fires k new p env q w v
      go q v (of_terms k p) = terms-keep-values taken g i.ruled.rule a b i.ruled.fires k new p env q w v
      go q v (of_sources k p) =
          sources-keep-values taken g i.ruled.rule a b i.ruled.fires k new p env (counts-on taken g i.ruled.rule a env k c) q w v
      go q v (of_bindings k p) = bindings-keep-values taken g i.ruled.rule a b i.ruled.fires k p env x q w v

-- ---- a chain

along : (env : Env) (w : Bool) (n m : ℕ) (g : Names Ty) (old new : Ex) → KeptChain env n g old new m → m ≤ 2 ^ 64 → Spares n old →
    Meets old env → Valued w old env → StaysValued w old new env
along env w n m g e d (at_rest l) b s x v = record { means = refl; met = x; valued = v }
along env w n m g old e (one_more {s = t} {k = k} {a = a} {b = b} c l i o typed u) bound s x v =
    let s' = spares-later n t (fill c a) l s in
    let top = le k m (2 ^ 64) (rises env k m g (fill c b) e u) bound in
    let z = part-spares t c a s' in
    let met = met-part a c env x in
    let both = where-join (Typed (names_at c g)) (Meets a) (λ here. Typed (names_at c g) here × Meets a here) (λ here p q. (p, q)) c env
    typed met in
    let counts = where-join (λ here. Typed (names_at c g) here × Meets a here) (Valued (natural_at a c w) a)
    (CountsBeside (supply_at t i.ruled.count) (names_at c g) i.ruled.rule a)
    (λ here p q. counted t k (names_at c g) a b i top z (natural_at a c w) here p.0 p.1 q) c env both (valued-part a c w env o v) in
    let kept = where-join (CountsBeside (supply_at t i.ruled.count) (names_at c g) i.ruled.rule a) (Meets a) (Keeps a b)
    (λ here p q. keeps t k (names_at c g) a b i top z here p) c env counts met in
    let turned = where-join (CountsBeside (supply_at t i.ruled.count) (names_at c g) i.ruled.rule a) (Meets a)
    (KeepsValues (natural_at a c w) a b)
    (λ here p q. turns t k (names_at c g) a b i top z (natural_at a c w) here p q) c env counts met in
    let whole = step-here c a b env kept x in
    let values = (values-along.at_a_part c w a b env o turned).1 v in
    let rest = along env w k m g (fill c b) e u bound
    (spares-step t k (names_at c g) a b
    (by_a_rule i.ruled.count i.ruled.rule i.ruled.fires i.ruled.takes i.ruled.passes) c s') whole.1 values in
    record { means = whole.0 ∙ rest.means; met = rest.met; valued = rest.valued }

-- What is proved of chains.
pub more-chains-keep : MoreChainsKeep
more-chains-keep = along
