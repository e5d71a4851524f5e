-- What stands behind the generators before a condition, and the condition's type.
use Rattle.std.proofs.Common.{◌≡◌, refl, sym, ap, ◌∙◌, true, Option, Some, None}
use Rattle.std.specs.Prelude.{is_some}
use Rattle.ess_semantics.specs.Lists.{and_then}
use Rattle.ess_semantics.specs.Names.{Names}
use Rattle.ess_semantics.specs.Trees.{Ex, Gens, cond}
use Rattle.ess_semantics.specs.Types.{Ty, any_ty, bool_ty, int_ty, named_ty, compound, join, fit}
use Rattle.ess_semantics.specs.Typing.{type_of, types_under}
use Rattle.ess_rules_laws.specs.SpliceRules.{append_gens}
use Rattle.ess_rules_types_laws.proofs.PutListed.{append-types}
use Rattle.ess_rules_types_laws.proofs.NumbersEverywhere.{never}

-- The types behind the generators before a condition, the condition's type, and what is behind it.
pub record Behind (before after : Gens) (c : Ex) (g : Names Ty) (L : Names Ty → Option Ty) (v : Ty) : Type 0 where
  pub names : Names Ty
  pub under : types_under before g ≡ Some names
  pub truth : Ty
  pub typed : type_of c names ≡ Some truth
  pub is_truth : is_some (join truth bool_ty) ≡ true
  pub rest : and_then (types_under after names) L ≡ Some v

pub behind : (before after : Gens) (c : Ex) (g : Names Ty) (L : Names Ty → Option Ty) (v : Ty) →
    and_then (types_under (append_gens before (cond c after)) g) L ≡ Some v → Behind before after c g L v
behind before after c g L v q =
    go (types_under before g) refl (ap (λ o. and_then o L) (sym (append-types before (cond c after) g)) ∙ q)
  where
    truth : (k : Names Ty) → types_under before g ≡ Some k → (t : Ty) → type_of c k ≡ Some t → (j : Option Ty) → join t bool_ty ≡ j →
        and_then (and_then j (λ u. types_under after k)) L ≡ Some v → Behind before after c g L v
    truth k i t p None n q = cc
    truth k i t p (Some u) n q = record { names = k; under = i; truth = t; typed = p; is_truth = ap is_some n; rest = q }

    typed : (k : Names Ty) → types_under before g ≡ Some k → (o : Option Ty) → type_of c k ≡ o →
        and_then (and_then o (λ t. and_then (join t bool_ty) (λ u. types_under after k))) L ≡ Some v → Behind before after c g L v
    typed k i None p q = cc
    typed k i (Some t) p q = truth k i t p (join t bool_ty) refl q

    go : (o : Option (Names Ty)) → types_under before g ≡ o → and_then (and_then o (types_under (cond c after))) L ≡ Some v →
        Behind before after c g L v
    go None i q = cc
    go (Some k) i q = typed k i (type_of c k) refl q

-- A condition and a truth value.
pub with-truth : (t : Ty) → is_some (join t bool_ty) ≡ true →
    and_then (join t bool_ty) (λ u. fit u bool_ty bool_ty) ≡ Some bool_ty
with-truth any_ty h = refl
with-truth bool_ty h = refl
with-truth int_ty h = never h
with-truth (named_ty a) h = never h
with-truth (compound k ts) h = never h

-- A condition as a number.
pub truth-number : (t : Ty) → is_some (join t bool_ty) ≡ true → fit t bool_ty int_ty ≡ Some int_ty
truth-number any_ty h = refl
truth-number bool_ty h = refl
truth-number int_ty h = never h
truth-number (named_ty a) h = never h
truth-number (compound k ts) h = never h
