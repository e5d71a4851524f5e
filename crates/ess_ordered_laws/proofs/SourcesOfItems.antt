-- A source that is an item is run over by what its lookup picks.
use Rattle.std.proofs.Common.{◌≡◌, refl, sym, ap, ◌∙◌, List, [], ◌∷◌, Option, Some, None, option_map}
use Rattle.std.specs.Prelude.{IsTrue, is_some}
use Rattle.ess_semantics.specs.Lists.{and_then}
use Rattle.ess_semantics.specs.Values.{Text, Value, items_of}
use Rattle.ess_semantics.specs.Trees.{name_pat, Ex, name_ex, comp_ex, Gens, from}
use Rattle.ess_semantics.specs.Operators.{list_value}
use Rattle.ess_semantics.specs.Meaning.{Env, meaning, items_under, collect}
use Rattle.ess_semantics.specs.Kept.{Keeps}
use Rattle.ess_semantics.proofs.Orders.{to_list-of_list}
use Rattle.ess_rules_laws.specs.Rules.{Unused}
use Rattle.ess_rules_laws.specs.Listings.{Alternative, items_listed}
use Rattle.ess_rules_laws.specs.ListedSources.{laid_out}
use Rattle.ess_rules_laws.specs.Lookups.{found}
use Rattle.ess_rules_laws.specs.AlternativeLookups.{LookedBy}
use Rattle.ess_rules_laws.proofs.RuleAnswers.{behind}
use Rattle.ess_rules_laws.proofs.Lookups.{collect-found}
use Rattle.ess_ordered_laws.specs.SourcesOfItems.{over_the_item}
use Rattle.ess_ordered_laws.specs.Laws.{ItemsAreSources}
use Rattle.ess_ordered_laws.proofs.PickedSources.{laid-met, over-means, over-met}

module _ (z y : Text) (t e : Ex) (hs : Gens) (a : Alternative) (new : Unused z (comp_ex e (from (name_pat y) t hs))) (env : Env)
    (k : LookedBy t (a ∷ []) env) where
  -- What the comprehension over z has where z has a value.
  abbrev Over : Value → Option (List Value)
  Over v = items_under (from (name_pat y) (name_ex z) hs) (behind z v env) (λ here. option_map (λ v. v ∷ []) (meaning e here))

  -- The alternative picks the value of the source, and nothing else.
  picked-alone : (o : Option Value) → meaning t env ≡ o → items_listed a env ≡ Some (found o)
  picked-alone o j = sym (collect-found (items_listed a env)) ∙ k.items ∙ ap (λ o. Some (found o)) j

  -- So its comprehension runs over that.
  over-alone : (v : Value) → meaning t env ≡ Some v → and_then (meaning (laid_out a) env) (λ s. collect (items_of s) Over) ≡ Over v
  over-alone v j = ap (λ o. and_then (option_map list_value o) (λ s. collect (items_of s) Over)) (picked-alone (Some v) j)
      ∙ ap (λ l. collect l Over) (to_list-of_list (v ∷ [])) ∙ collect-found (Over v)

  item-keeps : (o : Option Value) → meaning t env ≡ o → IsTrue (is_some o) →
      Keeps (comp_ex e (from (name_pat y) t hs)) (over_the_item z y e hs a) env
  item-keeps None j h = cc
  item-keeps (Some v) j h = λ m. (
    sym (over-means z y e hs env t new new.1.1 v j) ∙ sym (ap (option_map list_value) (over-alone v j)),
    (k.met.0, laid-met z y e hs env a (v ∷ []) (picked-alone (Some v) j) (over-met z y e hs env t new new.1.1 v j m, tt)),
  )

-- So it keeps what it rewrites.
pub items-are-sources : ItemsAreSources
items-are-sources z y t e hs a new env there k = item-keeps z y t e hs a new env k (meaning t env) refl there
