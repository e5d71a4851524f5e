-- The numbers of reserved names only go up along a chain.
use Rattle.std.proofs.Common.{ℕ, suc, ◌+◌, ◌≤◌, le_refl, false, [], Option, Some, None, arith}
use Rattle.ess_semantics.specs.Names.{Names}
use Rattle.ess_semantics.specs.Trees.{Ex, comp_ex, fun1}
use Rattle.ess_semantics.specs.Types.{Ty}
use Rattle.ess_semantics.specs.Contexts.{fill}
use Rattle.ess_semantics.specs.NamesAt.{names_at}
use Rattle.ess_refine_laws.specs.LeavingConditions.{Parted, at_last_condition}
use Rattle.ess_refine_laws.specs.Copies.{opposite_of}
use Rattle.ess_refine_laws.specs.AllRules.{Rule, least_under_a_condition}
use Rattle.conjure_model_laws.specs.ToldApart.{told}
use Rattle.ess_chain_names_laws.proofs.ToldNames.{ex-up}
use Rattle.conjure_modelling.specs.ess_rules.Ruled.{Ruling, plainly, by_kind, gathering, in_order, by_number, behind_copy, behind_names, behind_ruling, IsRuled}
use Rattle.conjure_modelling.specs.ess_refine.Chains.{as_it_was, led_at, Leads}

copy-up : (j : ℕ) (e : Ex) → j ≤ behind_copy j e
copy-up j (fun1 false f (comp_ex e gs)) = go (at_last_condition gs)
  where
    go : (o : Option Parted) → j ≤ elim o [ None ↦ j | Some t ↦ (told (opposite_of f e t) [] j).1 ]
    go None = le_refl j
    go (Some t) = ex-up (opposite_of f e t) [] j
copy-up j e = le_refl j

names-up : (j : ℕ) (u : Rule) (e : Ex) → j ≤ behind_names j u e
names-up j least_under_a_condition e = copy-up j e
names-up j u e = le_refl j

ruling-up : (j : ℕ) (u : Ruling) (e : Ex) → j ≤ behind_ruling j u e
ruling-up j (plainly u) e = names-up j u e
ruling-up j (by_kind u) e = le_refl j
ruling-up j gathering e = le_refl j
ruling-up j (in_order u) e = le_refl j
ruling-up j (by_number u) e = le_refl j

further : (n k b m : ℕ) → n + 3 + k ≤ b → b ≤ m → suc n ≤ m
further n k b m p q = omega (arith, p, q)

-- A rule takes at least one name.
pub rule-up : (n m : ℕ) (g : Names Ty) (a b : Ex) → IsRuled n g a b m → suc n ≤ m
rule-up n m g a b i = further n i.count (behind_ruling (n + 3 + i.count) i.rule a) m (ruling-up (n + 3 + i.count) i.rule a) i.passes

-- A chain goes up.
pub chain-up : (n m : ℕ) (g : Names Ty) (old last : Ex) → Leads IsRuled n g old last m → n ≤ m
chain-up n m g old last (as_it_was p) = p
chain-up n m g old last (led_at {s = s} {k = k} {a = a} {b = b} c p i w) =
    let q = rule-up s k (names_at c g) a b i in let r = chain-up k m g (fill c b) last w in omega (arith, p, q, r)
