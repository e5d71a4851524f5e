-- Chains of rules, used where first sources are told apart anew, keep meanings.
use Rattle.std.proofs.Common.{◌∙◌, ℕ, ◌+◌, ◌≤◌, ◌^◌, arith}
use Rattle.ess_semantics.specs.Names.{Names}
use Rattle.ess_semantics.specs.Trees.{Ex}
use Rattle.ess_semantics.specs.Types.{Ty}
use Rattle.ess_semantics.specs.Meaning.{Env}
use Rattle.ess_semantics.specs.Contexts.{In, fill}
use Rattle.ess_semantics.specs.NamesAt.{names_at}
use Rattle.ess_semantics.specs.Kept.{Keeps}
use Rattle.ess_rules_laws.proofs.Kept.{kept-itself}
use Rattle.ess_rules_laws.proofs.KeptUnder.{step-here}
use Rattle.ess_rules_laws.proofs.Places.{where-map}
use Rattle.ess_chain_names_laws.specs.Steps.{supply_at}
use Rattle.ess_chain_names_laws.specs.SparedNames.{Spares}
use Rattle.ess_chain_names_laws.proofs.NamesHave.{of-part}
use Rattle.ess_chain_names_laws.proofs.SparedNames.{spares-later}
use Rattle.ess_chain_kept_laws.specs.CountsBeside.{CountsBeside}
use Rattle.ess_chain_anew_laws.specs.RenewedRules.{renewed}
use Rattle.ess_chain_anew_laws.specs.RenewedChains.{RenewedChain, at_rest, one_more, RenewedChainsKeep}
use Rattle.ess_chain_anew_laws.proofs.RenewedRules.{renewed-rules-keep}

le : (a b c : ℕ) → a ≤ b → b ≤ c → a ≤ c
le a b c p q = omega (arith, p, q)

-- The numbers of a chain rise.
chain-up : (env : Env) (n m : ℕ) (g : Names Ty) (old new : Ex) → RenewedChain env n g old new m → n ≤ m
chain-up env n m g e d (at_rest l) = l
chain-up env n m g old e (one_more {k = k} {l = l} {b = b} z s o c p i w v u) =
    up n k i.count l m p i.takes (chain-up env l m g (fill c b) e u)
  where
    up : (n k x l m : ℕ) → n ≤ k → k + 3 + x ≤ l → l ≤ m → n ≤ m
    up n k x l m p q r = omega (arith, p, q, r)

-- The part of a tree spares what the tree spares.
part-spares : (n : ℕ) (c : In) (a : Ex) → Spares n (fill c a) → Spares n a
part-spares n c a s = record { among = s.among; has = of-part s.among a c s.has; spared = s.spared }

-- What is proved of such chains.
pub renewed-chains-keep : RenewedChainsKeep
renewed-chains-keep env n m g e d (at_rest l) b s = (kept-itself (λ h. Unit {0}) e env tt, spares-later n m e l s)
renewed-chains-keep env n m g old e (one_more {k = k} {l = l} {a = x} {b = y} z s o c p i w v u) b t =
    let t' = spares-later n k (fill c x) p t in
    let top = le l m (2 ^ 64) (chain-up env l m g (fill c y) e u) b in
    let first = step-here c x y env (where-map c env
    (CountsBeside (supply_at k i.count) (names_at c g) i.rule (renewed (k + 3 + i.count) i.rule x)) (Keeps x y)
    (λ here q. renewed-rules-keep.by_each_rule z s o k l (names_at c g) x y i top (part-spares k c x t') w here q) v) in
    let rest = renewed-chains-keep env l m g (fill c y) e u b (renewed-rules-keep.spare_names k l (names_at c g) x y i c t') in
    (λ q. let a = first q in let d = rest.0 a.1 in (a.0 ∙ d.0, d.1), rest.1)
