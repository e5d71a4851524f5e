-- Rules lead from a term of numerals to itself; told apart, simplified, with plain keys and printed it is as it was. So it is written.
use Rattle.std.proofs.Common.{◌≡◌, refl, sym, ap, ◌∙◌, subst, ℕ, ◌+◌, Bool, true, false, if◌then◌else◌, List, [], Some, None}
use Rattle.ess_semantics.specs.declared.words.Op2.{Op2}
use Rattle.ess_semantics.specs.Values.{Text}
use Rattle.ess_semantics.specs.Names.{Names}
use Rattle.ess_semantics.specs.Trees.{Ex, ex2}
use Rattle.ess_semantics.specs.Types.{Ty}
use Rattle.ess_semantics.specs.NamesAt.{names_at}
use Rattle.ess_grammar.specs.Models.{Scope}
use Rattle.ess_simplify_laws.specs.Simplifying.{said, outcome, left, simplified}
use Rattle.ess_keys_laws.specs.Keyed.{nothing_around, keyed}
use Rattle.ess_open_rules_laws.specs.OpenRules.{of_kind, of_opening}
use Rattle.conjure_model_laws.specs.ToldApart.{told}
use Rattle.conjure_model_laws.specs.Printed.{printed}
use Rattle.ess_number_rest_laws.proofs.Uncounted.{uncounted-operands-rest}
use Rattle.conjure_modelling.specs.ess_rules.Ruled.{IsRuled, Ruling, plainly, by_kind, gathering, in_order, by_number, supply_at, puts_source, ruled, with_new_source, root_of}
use Rattle.conjure_modelling.specs.ess_refine.Chains.{as_it_was, led_at, Leads}
use Rattle.conjure_modelling.specs.ess_model_trees.Written.{written_for, ComesFrom}
use Rattle.conjure_modelling.specs.ess_model_written.DeclarationsWritten.{BoundComes}
use Rattle.conjure_standing_laws.proofs.NumberTerms.{OfNumerals, digits, plus, less, power, part-of-numerals, no-plain-rule, no-kind-rule, no-open-rule, no-ordered-rule, operands-uncounted, no-gathering}

-- ---- rules

no-tree : {e : Ex} → None ≡ Some e → ⊥
no-tree q = cc

choose-root : (b : Bool) (x y : Ex) → x ≡ y → (if b then x else y) ≡ y
choose-root true x y q = q
choose-root false x y q = refl

no-source : {e : Ex} → OfNumerals e → (j : ℕ) → (with_new_source j e).0 ≡ e
no-source digits j = refl
no-source (plus w v) j = refl
no-source (less w v) j = refl
no-source (power w v) j = refl

-- No rule makes anything of it.
not-ruled : {a : Ex} → OfNumerals a → (n : ℕ) (g : Names Ty) (b : Ex) (k : ℕ) → IsRuled n g a b k → ⊥
not-ruled {a} w n g b k r = no-tree (sym (by r.rule) ∙ sym (ap (ruled (supply_at n r.count) g r.rule) (same r.rule)) ∙ r.fires)
  where
    same : (u : Ruling) → root_of (n + 3 + r.count) u a ≡ a
    same u = choose-root (puts_source u) (with_new_source (n + 3 + r.count) a).0 a (no-source w (n + 3 + r.count))

    by : (u : Ruling) → ruled (supply_at n r.count) g u a ≡ None
    by (plainly u) = no-plain-rule (supply_at n r.count) g w u
    by (by_kind (of_kind u)) = no-kind-rule (supply_at n r.count) g w u
    by (by_kind (of_opening u)) = no-open-rule (supply_at n r.count) g w u
    by gathering = no-gathering w
    by (in_order u) = no-ordered-rule (supply_at n r.count) g w u
    by (by_number u) = uncounted-operands-rest (supply_at n r.count) g u a (operands-uncounted w)

-- A chain of rules leads to the term itself.
pub leads-nowhere : (n : ℕ) (g : Names Ty) (old last : Ex) (k : ℕ) → OfNumerals old → Leads IsRuled n g old last k → last ≡ old
leads-nowhere n g old last k w (as_it_was p) = refl
leads-nowhere n g old last k w (led_at {s = s} {k = j} {a = a} {b = b} c p r v) =
    absurd (not-ruled (part-of-numerals c a w) s (names_at c g) b j r)

-- ---- what is written

-- Nothing is bound in it.
pub told-number : {e : Ex} → OfNumerals e → (k : ℕ) → told e [] k ≡ (e, k)
told-number digits k = refl
told-number (plus {x = x} {y = y} w v) k =
    ap (λ q. let u : Ex × ℕ = told y [] q.1 in (ex2 false Op2.Plus q.0 u.0, u.1)) (told-number w k)
    ∙ ap (λ u. (ex2 false Op2.Plus x u.0, u.1)) (told-number v k)
told-number (less {x = x} {y = y} w v) k =
    ap (λ q. let u : Ex × ℕ = told y [] q.1 in (ex2 false Op2.Minus q.0 u.0, u.1)) (told-number w k)
    ∙ ap (λ u. (ex2 false Op2.Minus x u.0, u.1)) (told-number v k)
told-number (power {x = x} {y = y} w v) k =
    ap (λ q. let u : Ex × ℕ = told y [] q.1 in (ex2 false Op2.Pow q.0 u.0, u.1)) (told-number w k)
    ∙ ap (λ u. (ex2 false Op2.Pow x u.0, u.1)) (told-number v k)

unsaid : {e : Ex} → OfNumerals e → said e ≡ None
unsaid digits = refl
unsaid (plus w v) = refl
unsaid (less w v) = refl
unsaid (power w v) = refl

two-simple : (o : Op2) (x y : Ex) → said x ≡ None → said y ≡ None → simplified x ≡ x → simplified y ≡ y →
    left false o x y (outcome o None None) ≡ ex2 false o x y → simplified (ex2 false o x y) ≡ ex2 false o x y
two-simple o x y p q s t u =
    ap (λ z. left false o z (simplified y) (outcome o (said z) (said (simplified y)))) s
    ∙ ap (λ z. left false o x z (outcome o (said x) (said z))) t
    ∙ ap (λ r. left false o x y (outcome o r (said y))) p ∙ ap (λ r. left false o x y (outcome o None r)) q ∙ u

-- It is as simple as can be.
simple-number : {e : Ex} → OfNumerals e → simplified e ≡ e
simple-number digits = refl
simple-number (plus {x = x} {y = y} w v) =
    two-simple Op2.Plus x y (unsaid w) (unsaid v) (simple-number w) (simple-number v) refl
simple-number (less {x = x} {y = y} w v) =
    two-simple Op2.Minus x y (unsaid w) (unsaid v) (simple-number w) (simple-number v) refl
simple-number (power {x = x} {y = y} w v) =
    two-simple Op2.Pow x y (unsaid w) (unsaid v) (simple-number w) (simple-number v) refl

-- It has no keys.
keyed-number : {e : Ex} → OfNumerals e → keyed nothing_around e ≡ e
keyed-number digits = refl
keyed-number (plus {x = x} {y = y} w v) =
    ap (λ z. ex2 false Op2.Plus z (keyed nothing_around y)) (keyed-number w) ∙ ap (ex2 false Op2.Plus x) (keyed-number v)
keyed-number (less {x = x} {y = y} w v) =
    ap (λ z. ex2 false Op2.Minus z (keyed nothing_around y)) (keyed-number w) ∙ ap (ex2 false Op2.Minus x) (keyed-number v)
keyed-number (power {x = x} {y = y} w v) =
    ap (λ z. ex2 false Op2.Pow z (keyed nothing_around y)) (keyed-number w) ∙ ap (ex2 false Op2.Pow x) (keyed-number v)

-- It binds no name that is printed.
printed-number : (taken : List Text) {e : Ex} → OfNumerals e → printed taken e [] ≡ e
printed-number taken digits = refl
printed-number taken (plus {x = x} {y = y} w v) =
    ap (λ z. ex2 false Op2.Plus z (printed taken y [])) (printed-number taken w) ∙ ap (ex2 false Op2.Plus x) (printed-number taken v)
printed-number taken (less {x = x} {y = y} w v) =
    ap (λ z. ex2 false Op2.Minus z (printed taken y [])) (printed-number taken w) ∙ ap (ex2 false Op2.Minus x) (printed-number taken v)
printed-number taken (power {x = x} {y = y} w v) =
    ap (λ z. ex2 false Op2.Pow z (printed taken y [])) (printed-number taken w) ∙ ap (ex2 false Op2.Pow x) (printed-number taken v)

-- It is written for itself.
pub written-number : (taken : List Text) {e : Ex} → OfNumerals e → written_for taken e ≡ e
written-number taken w =
    ap (λ z. printed taken (simplified (keyed nothing_around z)) []) (simple-number w)
    ∙ ap (λ z. printed taken (simplified z) []) (keyed-number w) ∙ ap (λ z. printed taken z []) (simple-number w)
    ∙ printed-number taken w

-- What comes of such a bound is the bound.
pub bound-comes : (s : Scope) (taken : List Text) (k : ℕ) (e f : Ex) → OfNumerals e → BoundComes s taken k e (Some f) → f ≡ e
bound-comes s taken k e f w v = go (subst (λ q. ComesFrom s taken q.1 q.0 (Some f)) (told-number w k) v)
  where
    go : ComesFrom s taken k e (Some f) → f ≡ e
    go c =
        let z = c.1.0 in
        z.writes ∙ ap (written_for taken) (leads-nowhere k [] e z.last c.0 w z.leads) ∙ written-number taken w
