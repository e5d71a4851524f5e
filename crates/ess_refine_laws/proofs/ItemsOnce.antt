-- The set of the items of a comprehension offers each item once.
use Rattle.std.proofs.Common.{◌≡◌, refl, sym, ◌∙◌, subst, Bool, true, false, if◌then◌else◌, List, [], ◌∷◌, ◌++◌, Option, Some, None, option_map}
use Rattle.std.specs.Prelude.{IsTrue, is_some}
use Rattle.ess_semantics.specs.declared.words.Fun.{Fun}
use Rattle.ess_semantics.specs.Lists.{and_then, list_or_none}
use Rattle.ess_semantics.specs.Values.{Text, Value, truth, items_of}
use Rattle.ess_semantics.specs.Trees.{word, name_pat, Ex, comp_ex, fun1, Gens, no_gens, over, cond, Dom}
use Rattle.ess_semantics.specs.Operators.{value_of_node, list_value}
use Rattle.ess_semantics.specs.Meaning.{Env, meaning, items_under, domain_of, members_in, collect, where_true}
use Rattle.ess_semantics.specs.Contexts.{EachOf}
use Rattle.ess_semantics.specs.Meets.{Meets, MeetsGens}
use Rattle.ess_rules_laws.specs.Listings.{Alternative, items_listed, those}
use Rattle.ess_rules_laws.specs.ListedSources.{Offers}
use Rattle.ess_rules_laws.proofs.RuleAnswers.{behind, each-in-any}
use Rattle.ess_rules_laws.proofs.ListedItems.{same-lists, alone-listed, all-members}
use Rattle.ess_refine_laws.specs.ItemsOnce.{is_atom_dom, set_of_items, items_where, items_over, items_once, OnceApart, ItemsOnceOffer}
use Rattle.ess_refine_laws.proofs.CountedOnce.{each-collected}
use Rattle.ess_refine_laws.proofs.ItemsOnceOver.{atom-rises, over-lists, over-met}

-- ---- all of them

abbrev AnswerOffers : Option (List Alternative) → Ex → Env → Type 0
AnswerOffers None e env = Unit {0}
AnswerOffers (Some l) e env = Offers e l env

-- One item.
one-offers : (e : Ex) (env : Env) → Meets e env → Offers (set_of_items e no_gens) (record { gens = no_gens; item = e } ∷ []) env
one-offers e env m = record {
  lists = same-lists _ _ (go (meaning e env));
  met = (m, tt);
}
  where
    go : (o : Option Value) →
        option_map items_of (value_of_node (word Fun.ToSet) (option_map list_value (option_map (λ v. v ∷ []) o) ∷ []))
        ≡ and_then (option_map (λ v. v ∷ []) o) (λ xs. option_map (λ ys. xs ++ ys) (Some []))
    go None = refl
    go (Some v) = refl

-- The rest behind a condition.
cond-offers : (y : Text) (e c : Ex) (gs : Gens) (env : Env) → Meets (comp_ex e (cond c gs)) env →
    Offers (set_of_items e (cond c gs)) (items_where y c e gs ∷ []) env
cond-offers y e c gs env m = record {
  lists = same-lists _ _ (go (meaning c env) ∙ sym (alone-listed _));
  met = ((m.0, λ k. ((m.1 k, tt), each-in-any (meaning (set_of_items e gs) env) _ (λ v. tt))), tt);
}
  where
    Rest : Option (List Value)
    Rest = items_under gs env (λ here. option_map (λ v. v ∷ []) (meaning e here))

    go : (o : Option Value) →
        option_map items_of (value_of_node (word Fun.ToSet) (option_map list_value (where_true o (λ k. Rest)) ∷ []))
        ≡ where_true o (λ k. items_listed (those y (set_of_items e gs) no_gens) env)
    go (Some (truth true)) = sym (all-members y (set_of_items e gs) env)
    go _ = refl

-- The set over the domain of an atom.
over-offers : (y z w x : Text) (d : Dom) (e : Ex) (gs : Gens) (env : Env) →
    OnceApart y z w (set_of_items e (over (name_pat x) d gs)) → is_some (meaning (set_of_items e (over (name_pat x) d gs)) env) ≡ true →
    Meets (comp_ex e (over (name_pat x) d gs)) env → is_atom_dom d ≡ true →
    Offers (set_of_items e (over (name_pat x) d gs))
    (items_over y z w x d e gs ∷ []) env
over-offers y z w x d e gs env o t m a = go (members_in (domain_of d env)) refl (there (members_in (domain_of d env)) t) m.1
  where
    At0 : Value → Option (List Value)
    At0 v = items_under gs (behind x v env) (λ here. option_map (λ t. t ∷ []) (meaning e here))

    there : (p : Option (List Value)) →
        is_some (value_of_node (word Fun.ToSet) (option_map list_value (and_then p (λ vs. collect vs At0)) ∷ [])) ≡ true →
        EachOf p (λ v. At0 v ≡ Some (list_or_none (At0 v))) × IsTrue (is_some p)
    there None h = cc
    there (Some vs) h = (each-collected vs At0 (is-there (collect vs At0) h), refl)
      where
        is-there : (c : Option (List Value)) → is_some (value_of_node (word Fun.ToSet) (option_map list_value c ∷ [])) ≡ true →
            is_some c ≡ true
        is-there None h = cc
        is-there (Some c) h = refl

    go : (p : Option (List Value)) → members_in (domain_of d env) ≡ p →
        EachOf p (λ v. At0 v ≡ Some (list_or_none (At0 v))) × IsTrue (is_some p) →
        EachOf p (λ v. MeetsGens gs (behind x v env) (λ here. Meets e here)) →
        Offers (set_of_items e (over (name_pat x) d gs))
        (items_over y z w x d e gs ∷ []) env
    go None q h ms = cc
    go (Some vs) q h ms = record {
      lists = over-lists y z w x d e gs env o.0 o.1 o.2 o.3 o.4 o.5 o.6 o.7 vs q h.0 (atom-rises d env vs a q);
      met = (over-met y z w x d e gs env o.0 o.1 o.2 o.3 o.4 o.5 o.6 o.7 vs q m.0 ms, tt);
    }

once-answer : (y z w : Text) (e : Ex) → OnceApart y z w e → (env : Env) → is_some (meaning e env) ≡ true → Meets e env →
    AnswerOffers (items_once y z w e) e env
once-answer y z w (fun1 false Fun.ToSet (comp_ex e no_gens)) o env t m = one-offers e env m.0
once-answer y z w (fun1 false Fun.ToSet (comp_ex e (cond c gs))) o env t m = cond-offers y e c gs env m.0
once-answer y z w (fun1 false Fun.ToSet (comp_ex e (over (name_pat x) d gs))) o env t m =
    go (is_atom_dom d) (λ a. over-offers y z w x d e gs env o t m.0 a)
  where
    go : (b : Bool) → (b ≡ true → Offers (set_of_items e (over (name_pat x) d gs))
        (items_over y z w x d e gs ∷ []) env) →
        AnswerOffers (if b
        then Some (items_over y z w x d e gs ∷ [])
        else None) (set_of_items e (over (name_pat x) d gs)) env
    go true h = h refl
    go false h = tt
once-answer y z w _ o env t m = tt

-- Sets of items, each item once.
pub items-once : ItemsOnceOffer
items-once y z w e l q o env t m = subst (λ k. AnswerOffers k e env) q (once-answer y z w e o env t m)
