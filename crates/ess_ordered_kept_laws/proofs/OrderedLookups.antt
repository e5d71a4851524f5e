-- What is picked out of an item of a comprehension is looked up, at any depth.
use Rattle.std.proofs.Common.{◌≡◌, refl, sym, subst, Bool, true, false, not, if◌then◌else◌, List, [], ◌∷◌, Option, Some, None}
use Rattle.std.specs.Prelude.{IsTrue}
use Rattle.ess_semantics.specs.Lists.{and_then}
use Rattle.ess_semantics.specs.Values.{Text}
use Rattle.ess_semantics.specs.Trees.{index, Ex, node_ex, more_exs}
use Rattle.ess_semantics.specs.Meaning.{Env}
use Rattle.ess_semantics.specs.Meets.{Meets}
use Rattle.ess_rules_laws.specs.Rules.{Unused}
use Rattle.ess_rules_laws.specs.Listings.{Alternative}
use Rattle.ess_rules_laws.specs.FunctionLookups.{unmarked}
use Rattle.ess_rules_laws.specs.AlternativeLookups.{LookedBy, FirstOperandThere, lookup_through_each}
use Rattle.ess_rules_laws.proofs.LiteralLookups.{looks-by}
use Rattle.ess_rules_laws.proofs.LookedContainers.{through_each-answer}
use Rattle.ess_kind_rules_laws.specs.TermLookups.{picks, picked_within}
use Rattle.ess_kind_rules_laws.specs.KindRules.{asks_truth}
use Rattle.ess_kinds_kept_laws.specs.LookupAsks.{FitsWithin}
use Rattle.ess_kinds_kept_laws.proofs.TermsLookedUp.{unmarked-itself}
use Rattle.ess_ordered_laws.specs.NumberedItems.{numbered_lookup, ordered_lookup}
use Rattle.ess_ordered_laws.specs.Laws.{NumberedApart}
use Rattle.ess_ordered_laws.proofs.NumberedGenerators.{items-are-numbered}
use Rattle.ess_ordered_kept_laws.specs.OrderedAsks.{OrderedLookupAsks}

-- The term within, and that structures are met.
within-met : (e t : Ex) (env : Env) → picked_within e ≡ Some t → Meets e env → Meets t env
within-met (node_ex b (index (s ∷ [])) (more_exs u es)) t env q m = go (picks u) q
  where
    go : (c : Bool) → (if c then Some u else None) ≡ Some t → Meets t env
    go true q = subst (λ z. Meets z env) (let e : u ≡ t = cc in e) m.0
    go false q = cc
within-met _ t env q m = cc

through-within : (y : Text) (e t : Ex) (l k : List Alternative) (env : Env) → picked_within e ≡ Some t → lookup_through_each y 1 l e ≡ Some k →
    Unused y e → FitsWithin t e env → LookedBy t l env → Meets e env → LookedBy (unmarked e) k env
through-within y (node_ex b (index (s ∷ [])) (more_exs u es)) t l k env p q new f h m = go (picks u) p
  where
    go : (c : Bool) → (if c then Some u else None) ≡ Some t →
        LookedBy (node_ex false (index (s ∷ [])) (more_exs u es)) k env
    go true p = let e : u ≡ t = cc in
        looks-by (lookup_through_each y 1 l (node_ex b (index (s ∷ [])) (more_exs u es))) (node_ex false (index (s ∷ [])) (more_exs u es)) k
        env (through_each-answer y 1 l (node_ex b (index (s ∷ [])) (more_exs u es)) new env (
          subst (λ z. LookedBy z l env) (sym e) h,
          subst (λ z. FitsWithin z (node_ex b (index (s ∷ [])) (more_exs u es)) env) (sym e) f,
        ) m) q
    go false p = cc
through-within y _ t l k env p q new f h m = cc

-- So it is looked up.
pub ordered-looked : (z : Text) (ys : List Text) (e : Ex) (l : List Alternative) → ordered_lookup z ys e ≡ Some l → (env : Env) →
    OrderedLookupAsks z ys e env → Meets e env → LookedBy (unmarked e) l env
ordered-looked z [] e l q env c m = cc
ordered-looked z (y ∷ ys) e l q env c m = go (picked_within e) refl q c (λ u k p c m. ordered-looked z ys u k p env c m)
  where
    go : (o : Option Ex) → picked_within e ≡ o → elim o as (λ z. Option (List Alternative)) [
      | None ↦ numbered_lookup z ys e
      | Some u ↦ and_then (ordered_lookup z ys u) (λ l. lookup_through_each y 1 l e)
    ] ≡ Some l → elim o as (λ z. Type 0) [
      | None ↦ NumberedApart z ys e × FirstOperandThere e env
      | Some u ↦ Unused y e × IsTrue (not (asks_truth u)) × FitsWithin u e env × OrderedLookupAsks z ys u env
    ] → ((u : Ex) (k : List Alternative) → ordered_lookup z ys u ≡ Some k → OrderedLookupAsks z ys u env → Meets u env →
        LookedBy (unmarked u) k env) → LookedBy (unmarked e) l env
    go None p q c h = items-are-numbered z ys e l q c.0 env c.1 m
    go (Some u) p q c h = inner (ordered_lookup z ys u) refl q
      where
        inner : (o : Option (List Alternative)) → ordered_lookup z ys u ≡ o → and_then o (λ l. lookup_through_each y 1 l e) ≡ Some l →
            LookedBy (unmarked e) l env
        inner None r q = cc
        inner (Some k) r q = through-within y e u k l env p q c.0 c.2
            (subst (λ z. LookedBy z k env) (unmarked-itself u c.1) (h u k r c.3 (within-met e u env p m))) m
