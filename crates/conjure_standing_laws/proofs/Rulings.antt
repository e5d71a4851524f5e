-- Which rules are used in trees over views of sets, and at what.
use Rattle.std.proofs.Common.{◌≡◌, refl, sym, ap, ◌∙◌, subst, ℕ, ◌+◌, Bool, true, false, if◌then◌else◌, Some, None}
use Rattle.ess_semantics.specs.Names.{Names}
use Rattle.ess_semantics.specs.Trees.{Ex}
use Rattle.ess_semantics.specs.Types.{Ty}
use Rattle.ess_refine_laws.specs.AllRules.{Rule, Supply}
use Rattle.ess_seen_laws.specs.MayFire.{CountsMembers}
use Rattle.ess_seen_rules_laws.specs.Laws.{NoneFires}
use Rattle.conjure_modelling.specs.ess_rules.Ruled.{IsRuled, Ruling, plainly, by_kind, gathering, in_order, by_number, compares_sets, MayRule, supply_at, puts_source, ruled, with_new_source}
use Rattle.ess_seen_settled_laws.proofs.Roots.{StaysItself}

no-both : true ≡ false → ⊥
no-both q = cc

choose-root : (b : Bool) (x y : Ex) → x ≡ y → (if b then x else y) ≡ y
choose-root true x y q = q
choose-root false x y q = refl

-- How often members are there isn't counted between two sets.
pub counts-none : (g : Names Ty) (u : Rule) (e : Ex) → CountsMembers g u e → MayRule g (plainly u) e → ⊥
counts-none g u e c p =
    let q : compares_sets g e ≡ false = subst (λ v. MayRule g (plainly v) e) c.counts p in
    no-both (sym c.sets ∙ subst (λ a. compares_sets g a ≡ false) c.root q)

-- No rule fires.
pub none-ruled : (e : Ex) → NoneFires e → (s : Supply) (g : Names Ty) (u : Ruling) → ruled s g u e ≡ None
none-ruled e n s g (plainly u) = n.plainly s g u
none-ruled e n s g (by_kind u) = n.by_kind s g u
none-ruled e n s g gathering = n.gathering
none-ruled e n s g (in_order u) = n.in_order s g u
none-ruled e n s g (by_number u) = n.by_number s g u

-- The rule at the tree itself.
pub at-itself : (n : ℕ) (g : Names Ty) (a b : Ex) (k : ℕ) (i : IsRuled n g a b k) → StaysItself a →
    ruled (supply_at n i.count) g i.rule a ≡ Some b
at-itself n g a b k i h = sym (ap (ruled (supply_at n i.count) g i.rule)
    (choose-root (puts_source i.rule) (with_new_source (n + 3 + i.count) a).0 a (h (n + 3 + i.count)))) ∙ i.fires
