-- A comprehension over what is picked: the alternatives of its source look it up.
use Rattle.std.proofs.Common.{◌≡◌, refl, sym, ap, ◌∙◌, subst, List, [], ◌∷◌, ◌++◌, Option, Some, None, option_map}
use Rattle.std.specs.Prelude.{IsTrue, is_some}
use Rattle.ess_semantics.specs.Lists.{and_then, list_or_none}
use Rattle.ess_semantics.specs.Values.{Text, Value, items_of}
use Rattle.ess_semantics.specs.Trees.{name_pat, Ex, name_ex, comp_ex, Gens, from}
use Rattle.ess_semantics.specs.Operators.{list_value}
use Rattle.ess_semantics.specs.Contexts.{Each, EachIn}
use Rattle.ess_semantics.specs.Meaning.{Env, meaning, collect, items_under, with_pat}
use Rattle.ess_semantics.specs.Meets.{Meets, MeetsGens}
use Rattle.ess_semantics.proofs.Orders.{to_list-of_list}
use Rattle.ess_rules_laws.specs.Rules.{Unused}
use Rattle.ess_rules_laws.specs.Listings.{Alternative, items_listed, all_listed}
use Rattle.ess_rules_laws.specs.ListedSources.{laid_out, AllMet}
use Rattle.ess_rules_laws.specs.Lookups.{found}
use Rattle.ess_rules_laws.specs.AlternativeLookups.{LookedBy}
use Rattle.ess_rules_laws.proofs.RuleAnswers.{behind, meaning-behind, meets-behind, name-behind}
use Rattle.ess_rules_laws.proofs.Splices.{collect-append}
use Rattle.ess_rules_laws.proofs.SourceRules.{both-lists}
use Rattle.ess_rules_laws.proofs.Lookups.{single, collect-found}
use Rattle.ess_rules_laws.proofs.AlternativeSelections.{Picked}
use Rattle.ess_ordered_laws.specs.PickedSources.{each_source}
use Rattle.ess_ordered_laws.specs.Laws.{SourcesArePicked}

-- What holds of each item of two lists holds of each of the first, and of the second.
each-before : (P : Value → Type 0) (xs ys : List Value) → Each (xs ++ ys) P → Each xs P
each-before P [] ys h = tt
each-before P (x ∷ xs) ys h = (h.0, each-before P xs ys h.1)

each-after : (P : Value → Type 0) (xs ys : List Value) → Each (xs ++ ys) P → Each ys P
each-after P [] ys h = h
each-after P (x ∷ xs) ys h = each-after P xs ys h.1

single-there : (o : Option Value) → IsTrue (is_some o) → single o ≡ Some (found o)
single-there None h = cc
single-there (Some v) h = refl

module _ (x y : Text) (e : Ex) (hs : Gens) (env : Env) where
  -- The comprehension over the picked value, which is called x.
  abbrev Over : Ex
  Over = comp_ex e (from (name_pat y) (name_ex x) hs)

  -- ---- items

  -- Those of an alternative as a list.
  laid-items : (a : Alternative) (ws : List Value) → items_listed a env ≡ Some ws →
      and_then (meaning (laid_out a) env) (λ s. collect (items_of s) (Picked x Over env)) ≡ collect ws (Picked x Over env)
  laid-items a ws q = ap (λ o. and_then (option_map list_value o) (λ s. collect (items_of s) (Picked x Over env))) q
      ∙ ap (λ l. collect l (Picked x Over env)) (to_list-of_list ws)

  source-listed : (l : List Alternative) (ws : List Value) → all_listed l env ≡ Some ws →
      all_listed (each_source x y l e hs) env ≡ collect ws (Picked x Over env)
  source-listed [] ws p = ap (λ l. collect l (Picked x Over env)) (ap list_or_none p)
  source-listed (a ∷ l) ws p = let d = both-lists (items_listed a env) (all_listed l env) ws p in
      ap (λ o. and_then o (λ xs. option_map (λ ys. xs ++ ys) (all_listed (each_source x y l e hs) env))) (laid-items a d.0 d.2)
      ∙ ap (λ o. and_then (collect d.0 (Picked x Over env)) (λ xs. option_map (λ ys. xs ++ ys) o)) (source-listed l d.1 d.3)
      ∙ sym (collect-append d.0 d.1 (Picked x Over env)) ∙ ap (λ l. collect l (Picked x Over env)) d.4

  -- ---- structures

  abbrev MetAt : Value → Type 0
  MetAt v = Meets Over (behind x v env)

  -- Met behind each item, they are met at what the alternative's comprehension runs over.
  pub laid-met : (a : Alternative) (ws : List Value) → items_listed a env ≡ Some ws → Each ws MetAt →
      EachIn (meaning (laid_out a) env) MetAt
  laid-met a ws q h = subst (λ o. EachIn (option_map list_value o) MetAt) (sym q) (subst (λ l. Each l MetAt) (sym (to_list-of_list ws)) h)

  source-met : (l : List Alternative) (ws : List Value) → all_listed l env ≡ Some ws → AllMet l env → Each ws MetAt →
      AllMet (each_source x y l e hs) env
  source-met [] ws p m h = tt
  source-met (a ∷ l) ws p m h = let d = both-lists (items_listed a env) (all_listed l env) ws p in
      let k : Each (d.0 ++ d.1) MetAt = subst (λ l. Each l MetAt) (sym d.4) h in (
        (m.0, laid-met a d.0 d.2 (each-before MetAt d.0 d.1 k)),
        source-met l d.1 d.3 m.1 (each-after MetAt d.0 d.1 k),
      )

  module _ (t : Ex) (new : Unused x (comp_ex e (from (name_pat y) t hs))) (new-t : Unused x t) where
    abbrev Whole : Ex
    Whole = comp_ex e (from (name_pat y) t hs)

    -- Where x has the value of the source, x means the same.
    same-source : (v : Value) → meaning t env ≡ Some v → meaning (name_ex x) (behind x v env) ≡ meaning t (behind x v env)
    same-source v j = name-behind x v env ∙ sym (meaning-behind x v t env new-t ∙ j)

    -- So the comprehension over x runs over the same.
    pub over-means : (v : Value) → meaning t env ≡ Some v → meaning Over (behind x v env) ≡ meaning Whole env
    over-means v j = ap (λ o. option_map list_value (and_then o (λ s. collect (items_of s)
        (λ u. items_under hs (with_pat (name_pat y) u (behind x v env)) (λ here. option_map (λ v. v ∷ []) (meaning e here)))))) (same-source v j)
        ∙ meaning-behind x v Whole env new

    -- And its structures are met.
    pub over-met : (v : Value) → meaning t env ≡ Some v → Meets Whole env → MetAt v
    over-met v j m = (
      tt,
      subst (λ o. EachIn o (λ u. MeetsGens hs (with_pat (name_pat y) u (behind x v env)) (λ here. Meets e here))) (sym (same-source v j))
          (meets-behind x v Whole env new m).1,
    )

    -- The one item is that of the comprehension, where its source has a value, and else there is none.
    picked-items : (IsTrue (is_some (meaning t env)) → IsTrue (is_some (meaning Whole env))) → (o : Option Value) → meaning t env ≡ o →
        collect (found (meaning t env)) (Picked x Over env) ≡ Some (found (meaning Whole env))
    picked-items fits None j = ap (λ z. collect (found z) (Picked x Over env)) j
        ∙ sym (ap (λ z. Some (found (option_map list_value (and_then z (λ s. collect (items_of s)
        (λ u. items_under hs (with_pat (name_pat y) u env) (λ here. option_map (λ v. v ∷ []) (meaning e here)))))))) j)
    picked-items fits (Some v) j = ap (λ z. collect (found z) (Picked x Over env)) j
        ∙ collect-found (single (meaning Over (behind x v env))) ∙ ap single (over-means v j)
        ∙ single-there (meaning Whole env) (fits (ap is_some j))

    all-met-at : Meets Whole env → (o : Option Value) → meaning t env ≡ o → Each (found o) MetAt
    all-met-at m None j = tt
    all-met-at m (Some v) j = (over-met v j m, tt)

    source-looked : (l : List Alternative) → (IsTrue (is_some (meaning t env)) → IsTrue (is_some (meaning Whole env))) →
        LookedBy t l env → Meets Whole env → LookedBy Whole (each_source x y l e hs) env
    source-looked l fits k m = record {
      items = source-listed l (found (meaning t env)) k.items ∙ picked-items fits (meaning t env) refl;
      met = source-met l (found (meaning t env)) k.items k.met (all-met-at m (meaning t env) refl);
    }

-- So it is looked up by them.
pub sources-are-picked : SourcesArePicked
sources-are-picked x y t e hs l new env fits k m = source-looked x y e hs env t new new.1.1 l fits k m
