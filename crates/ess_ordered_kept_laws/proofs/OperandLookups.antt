-- Operands in order are looked up: what is picked out of an item of a comprehension, and comprehensions over what is picked, whose sources
-- may be such items.
use Rattle.std.proofs.Common.{◌≡◌, refl, subst, Bool, true, false, not, if◌then◌else◌, List, Option, Some, None, option_map}
use Rattle.std.specs.Prelude.{IsTrue}
use Rattle.ess_semantics.specs.Names.{Names}
use Rattle.ess_semantics.specs.Trees.{name_pat, Ex, comp_ex, from}
use Rattle.ess_semantics.specs.Types.{Ty}
use Rattle.ess_semantics.specs.Typed.{Typed}
use Rattle.ess_semantics.specs.Meaning.{Env}
use Rattle.ess_semantics.specs.Meets.{Meets}
use Rattle.ess_rules_laws.specs.Listings.{Alternative}
use Rattle.ess_rules_laws.specs.FunctionLookups.{unmarked}
use Rattle.ess_rules_laws.specs.AlternativeLookups.{LookedBy}
use Rattle.ess_refine_laws.specs.AllRules.{Supply}
use Rattle.ess_kind_rules_laws.specs.KindRules.{asks_truth}
use Rattle.ess_kinds_kept_laws.specs.LookupAsks.{OrAsks, LookupAsks}
use Rattle.ess_kinds_kept_laws.proofs.TermsLookedUp.{or-asked, unmarked-itself, terms-looked-up}
use Rattle.ess_ordered_laws.specs.NumberedItems.{ordered_lookup}
use Rattle.ess_ordered_laws.specs.PickedSources.{is_untold, source_lookup, each_source, picked_source}
use Rattle.ess_ordered_laws.specs.OrderedRules.{keeps_order, operand_lookup}
use Rattle.ess_ordered_laws.proofs.PickedSources.{sources-are-picked}
use Rattle.ess_ordered_kept_laws.specs.OrderedAsks.{OrderedLookupAsks, SourcePickedAsks, OperandAsks}
use Rattle.ess_ordered_kept_laws.proofs.OrderedLookups.{ordered-looked}

-- Where there is something under a test, it is what stands there.
pub chosen-is : {A : Type 0} (b : Bool) (o : Option A) (e : A) → (if b then o else None) ≡ Some e → o ≡ Some e
chosen-is true o e h = h
chosen-is false o e h = cc

module _ (s : Supply) (g : Names Ty) (env : Env) where
  -- A source, by either lookup.
  picked-looked : (t : Ex) (l : List Alternative) → source_lookup s g t ≡ Some l → Typed g env → IsTrue (not (asks_truth t)) →
      OrAsks (ordered_lookup s.third s.parts t) (λ l. OrderedLookupAsks s.third s.parts t env) (LookupAsks g s.third s.parts t env) →
      Meets t env → LookedBy t l env
  picked-looked t l q h k c m = or-asked (ordered_lookup s.third s.parts t) _ _ _ (λ l. LookedBy t l env) l q c
      (λ a p c. itself a (ordered-looked s.third s.parts t a p env c m))
      (λ p c. itself l (terms-looked-up.at_any_depth g s.third s.parts t l p env h c m))
    where
      itself : (l : List Alternative) → LookedBy (unmarked t) l env → LookedBy t l env
      itself l = subst (λ z. LookedBy z l env) (unmarked-itself t k)

  source-looked : (t : Ex) (l : List Alternative) → picked_source s g t ≡ Some l → SourcePickedAsks s g t env → Meets t env →
      LookedBy t l env
  source-looked (comp_ex e (from (name_pat y) t hs)) l q c m = each (source_lookup s g t) refl
      (chosen-is (is_untold s g t) (option_map (λ l. each_source s.other y l e hs) (source_lookup s g t)) l q)
    where
      each : (o : Option (List Alternative)) → source_lookup s g t ≡ o →
          option_map (λ l. each_source s.other y l e hs) o ≡ Some l → LookedBy (comp_ex e (from (name_pat y) t hs)) l env
      each None p q = cc
      each (Some k) p q = subst (λ z. LookedBy (comp_ex e (from (name_pat y) t hs)) z env)
          (let z : each_source s.other y k e hs ≡ l = cc in z)
          (sources-are-picked s.other y t e hs k c.1 env c.3 (picked-looked t k p c.0 c.2 c.4 m.0) m)
  source-looked _ l q c m = cc

  -- So is an operand of any root.
  pub operand-looked : (e t : Ex) (l : List Alternative) → operand_lookup s g e t ≡ Some l → OperandAsks s g t env → Meets t env →
      LookedBy t l env
  operand-looked e t l q c m = or-asked (ordered_lookup s.third s.parts t) _ _ _ (λ l. LookedBy t l env) l q c
      (λ a p k. subst (λ z. LookedBy z a env) (unmarked-itself t k.0) (ordered-looked s.third s.parts t a p env k.1 m))
      (λ q c. source-looked t l (chosen-is (keeps_order e) (picked_source s g t) l q) c m)
