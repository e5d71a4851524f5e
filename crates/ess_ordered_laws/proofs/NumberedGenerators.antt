-- An item of a comprehension by its number, whatever names over the domains of atoms and conditions it has, generator by generator.
use Rattle.std.proofs.Common.{◌≡◌, refl, sym, ap, ◌∙◌, subst, Bool, true, false, if◌then◌else◌, List, [], ◌∷◌, map, pos, Option, Some, None, option_map}
use Rattle.std.specs.Prelude.{is_some}
use Rattle.ess_semantics.specs.declared.words.Op2.{Op2}
use Rattle.ess_semantics.specs.Lists.{and_then, append_all, list_or_none}
use Rattle.ess_semantics.specs.Values.{Text, Value, number, truth, item, node}
use Rattle.ess_semantics.specs.Order.{same, same_text}
use Rattle.ess_semantics.specs.Substitution.{substitute, substitute_gens, for_name}
use Rattle.ess_semantics.specs.Trees.{binary, index, by_value, name_pat, tuple_pat, Ex, name_ex, node_ex, comp_ex, no_exs, more_exs, Gens, no_gens, over, from, cond, Dom}
use Rattle.ess_semantics.specs.Operators.{value_of_node, false_where_undefined, as_truth, list_value}
use Rattle.ess_semantics.specs.Meaning.{Env, meaning, domain_of, members_in, items_under, collect, where_true}
use Rattle.ess_semantics.specs.Contexts.{Each, EachOf}
use Rattle.ess_semantics.specs.Meets.{Meets, MeetsGens}
use Rattle.ess_semantics.proofs.Orders.{same-equal, same-itself}
use Rattle.ess_semantics.proofs.Tests.{both-ways}
use Rattle.ess_rules_laws.specs.Rules.{Unused}
use Rattle.ess_rules_laws.specs.MatrixRules.{UnusedDom}
use Rattle.ess_rules_laws.specs.Listings.{Alternative, items_listed}
use Rattle.ess_rules_laws.specs.FunctionLookups.{unmarked}
use Rattle.ess_rules_laws.specs.Lookups.{found}
use Rattle.ess_rules_laws.specs.AlternativeLookups.{LookedBy, FirstOperandThere}
use Rattle.ess_rules_laws.proofs.Simulation.{collect-same}
use Rattle.ess_rules_laws.proofs.Bindings.{each-of-map, where-true-same}
use Rattle.ess_rules_laws.proofs.ListedItems.{alone-listed}
use Rattle.ess_rules_laws.proofs.RuleAnswers.{behind}
use Rattle.ess_refine_laws.specs.ItemsOnce.{is_atom_dom}
use Rattle.ess_refine_laws.specs.ExtremeRules.{are_none}
use Rattle.ess_ordered_laws.specs.NumberedItems.{is_from_one, numbered_item, number_behind, only_item, under_condition, at_each_value, numbered_gens, numbered_over, numbered_lookup}
use Rattle.ess_ordered_laws.specs.Laws.{GensApart, NumberedApart, ItemsAreNumbered}
use Rattle.ess_ordered_laws.proofs.NumberedItems.{Picked, by-place}
use Rattle.ess_ordered_laws.proofs.NumbersBehind.{at_number, collect-is, each-collected}
use Rattle.ess_ordered_laws.proofs.ItemsBehind.{Item, Whole, Has, HasAtEach, BindsNeither, picked-means, At, put-items, put-met, each-has}

no : {A : Type 0} → false ≡ true → A
no h = cc

-- ---- generator by generator

-- Members and items, where these are there.
over-there : (o : Option (List Value)) (G : Value → Option (List Value)) (us : List Value) → and_then o (λ vs. collect vs G) ≡ Some us
    → (vs : List Value) × (o ≡ Some vs) × (collect vs G ≡ Some us)
over-there None G us q = cc
over-there (Some vs) G us q = (vs, refl, q)

-- Without generators it is the only one, at 1.
only-has : (e i : Ex) (env : Env) (us : List Value) → Item e env ≡ Some us → Meets e env → Meets i env
    → Has (Some (only_item e i)) us (meaning i env) env
only-has e i env us q me mi = (go (meaning e env) q (meaning i env), ((mi, (tt, tt)), λ t. me))
  where
    one : (v : Value) (b c : Bool) → b ≡ c
        → where_true (Some (truth b)) (λ u. Some (v ∷ [])) ≡ Some (found (if c then Some v else None))
    one v true c p = ap (λ c. Some (found (if c then Some v else None))) p
    one v false c p = ap (λ c. Some (found (if c then Some v else None))) p

    turned : (n m : Value) → same n m ≡ same m n
    turned n m = both-ways (same n m) (same m n) (λ p. ap (λ k. same k n) (sym (same-equal n m p)) ∙ same-itself n)
        (λ p. ap (λ k. same k m) (sym (same-equal m n p)) ∙ same-itself m)

    go : (o : Option Value) → option_map (λ v. v ∷ []) o ≡ Some us → (p : Option Value)
        → where_true (false_where_undefined true (value_of_node (binary Op2.Eq) (p ∷ Some (number (pos 1)) ∷ [])))
        (λ u. option_map (λ v. v ∷ []) o)
        ≡ Some (at_number us p)
    go None q p = cc
    go (Some v) q None = refl
    go (Some v) q (Some n) = one v (same n (number (pos 1))) (same (number (pos 1)) n) (turned n (number (pos 1)))
        ∙ ap (λ l. Some (at_number l (Some n))) (let z : v ∷ [] ≡ us = cc in z)

-- Behind a condition it is that of the rest, where the condition is true.
condition-has : (c e i : Ex) (gs : Gens) (env : Env) (us : List Value) (o : Option Alternative)
    → (items_under gs env (Item e) ≡ Some us → MeetsGens gs env (λ here. Meets e here) → Has o us (meaning i env) env)
    → items_under (cond c gs) env (Item e) ≡ Some us → Meets (comp_ex e (cond c gs)) env
    → Has (option_map (under_condition c) o) us (meaning i env) env
condition-has c e i gs env us None h q m = tt
condition-has c e i gs env us (Some a) h q m = (
  where-true-same (meaning c env) (items_listed a env) (Some (at_number us (meaning i env)))
      (λ t. (h (there (meaning c env) t q) (m.1 t)).0)
      ∙ known (items_under gs env (Item e)) (meaning c env) q,
  (m.0, λ t. (h (there (meaning c env) t q) (m.1 t)).1),
)
  where
    there : {X : Option (List Value)} (o : Option Value) → as_truth o ≡ true → where_true o (λ u. X) ≡ Some us → X ≡ Some us
    there (Some (truth true)) t q = q
    there (Some (truth false)) t q = no t
    there (Some (number n)) t q = no t
    there (Some (item b n)) t q = no t
    there (Some (node b vs)) t q = no t
    there None t q = no t

    nothing : (p : Option Value) → [] ≡ us → Some [] ≡ Some (at_number us p)
    nothing None z = refl
    nothing (Some v) z = ap (λ l. Some (at_number l (Some v))) z

    known : (X : Option (List Value)) (o : Option Value) → where_true o (λ u. X) ≡ Some us
        → where_true o (λ u. Some (at_number us (meaning i env))) ≡ Some (at_number us (meaning i env))
    known X (Some (truth true)) q = refl
    known X (Some (truth false)) q = nothing (meaning i env) cc
    known X (Some (number n)) q = nothing (meaning i env) cc
    known X (Some (item b n)) q = nothing (meaning i env) cc
    known X (Some (node b vs)) q = nothing (meaning i env) cc
    known X None q = nothing (meaning i env) cc

-- Of one generator alone it is told by the number of the member.
last-has : (w x : Text) (d : Dom) (e i : Ex) (env : Env) (us : List Value) → Unused w i → Unused w (comp_ex e no_gens) → UnusedDom w d
    → UnusedDom x d → same_text x w ≡ false → BindsNeither x w e no_gens → items_under (over (name_pat x) d no_gens) env (Item e) ≡ Some us
    → Meets (comp_ex e (over (name_pat x) d no_gens)) env → Meets i env
    → Has (Some (numbered_item x w d (substitute (for_name x (name_ex w)) e) i)) us (meaning i env) env
last-has w x d e i env us wi we wd xd xw apart q m mi =
    let t = over-there (members_in (domain_of d env)) (λ v. Item e (behind x v env)) us q in go t.0 t.1 t.2
  where
    E : Ex
    E = substitute (for_name x (name_ex w)) e

    go : (vs : List Value) → members_in (domain_of d env) ≡ Some vs → collect vs (λ v. Item e (behind x v env)) ≡ Some us
        → Has (Some (numbered_item x w d E i)) us (meaning i env) env
    go vs ma ia = (
      sym (alone-listed (items_listed (numbered_item x w d E i) env)) ∙ l.items
          ∙ ap Some (picked-means E (over (name_pat w) d no_gens) i env us put-there),
      l.met.0,
    )
      where
        put : collect vs (λ v. Item E (behind w v env)) ≡ Some us
        put = collect-same vs _ _ (λ v. put-items w x d e no_gens env xw we wd apart v) ∙ ia

        put-there : items_under (over (name_pat w) d no_gens) env (Item E) ≡ Some us
        put-there = ap (λ o. and_then o (λ vs. collect vs (λ v. Item E (behind w v env)))) ma ∙ put

        put-picked : Meets (Picked w d E i) env
        put-picked = (
          (m.0, each-of-map (members_in (domain_of d env)) _ _ (λ v me. put-met w x d e no_gens env xw we wd apart v me) m.1),
          (mi, tt),
        )

        l : LookedBy (Picked w d E i) (numbered_item x w d E i ∷ []) env
        l = by-place x w E i d env wi wd xd xw vs us ma put put-picked (is_from_one d) refl

module _ (w x : Text) (d : Dom) (e i : Ex) (env : Env) (us : List Value) (xw : same_text x w ≡ false) (wi : Unused w i) (wd : UnusedDom w d)
    (mi : Meets i env) where
  -- Over a domain, from what is had of the rest at each value.
  over-has : (gs : Gens) → Unused w (comp_ex e gs) → BindsNeither x w e gs → (o : Option Alternative) → HasAtEach w x d e gs i env o
      → items_under (over (name_pat x) d gs) env (Item e) ≡ Some us → Meets (comp_ex e (over (name_pat x) d gs)) env
      → Has (option_map (at_each_value w d) o) us (meaning i env) env
  over-has gs we apart None h q m = tt
  over-has gs we apart (Some a) h q m =
      let t = over-there (members_in (domain_of d env)) (At w x d e gs env xw we wd apart) us q in go t.0 t.1 t.2
    where
      G : Value → Option (List Value)
      G = At w x d e gs env xw we wd apart

      go : (vs : List Value) → members_in (domain_of d env) ≡ Some vs → collect vs G ≡ Some us
          → Has (Some (at_each_value w d a)) us (meaning i env) env
      go vs ma ia = subst (λ l. Has (Some (at_each_value w d a)) l (meaning i env) env) same-us
          (each-has w x d e gs env xw we wd apart vs ma m.0 each-met there i wi mi a h)
        where
          there : Each vs (λ v. G v ≡ Some (list_or_none (G v)))
          there = each-collected vs G us ia

          each-met : Each vs (λ v. MeetsGens gs (behind x v env) (λ here. Meets e here))
          each-met = subst (λ o. EachOf o (λ v. MeetsGens gs (behind x v env) (λ here. Meets e here))) ma m.1

          same-us : append_all (map (λ v. list_or_none (G v)) vs) ≡ us
          same-us =
              let z : Some (append_all (map (λ v. list_or_none (G v)) vs)) ≡ Some us =
              sym (collect-is vs G (λ v. list_or_none (G v)) there) ∙ ia in cc

  -- Over the domain of an atom, whatever is behind it.
  atom-has : UnusedDom x d → (gs : Gens) → Unused w (comp_ex e gs) → BindsNeither x w e gs → (o : Option Alternative)
      → HasAtEach w x d e gs i env o → items_under (over (name_pat x) d gs) env (Item e) ≡ Some us
      → Meets (comp_ex e (over (name_pat x) d gs)) env → (b : Bool)
      → Has (if b then (if are_none gs then Some (numbered_item x w d (substitute (for_name x (name_ex w)) e) i)
      else option_map (at_each_value w d) o) else None) us (meaning i env) env
  atom-has xd gs we apart o h q m false = tt
  atom-has xd no_gens we apart o h q m true = last-has w x d e i env us wi we wd xd xw apart q m mi
  atom-has xd (over p c gs) we apart o h q m true = over-has (over p c gs) we apart o h q m
  atom-has xd (from p c gs) we apart o h q m true = over-has (from p c gs) we apart o h q m
  atom-has xd (cond c gs) we apart o h q m true = over-has (cond c gs) we apart o h q m

-- So the alternative has the item at the number.
gens-have : (ws : List Text) (e : Ex) (gs : Gens) (i : Ex) (env : Env) (us : List Value) → GensApart ws e gs i
    → items_under gs env (Item e) ≡ Some us → Meets (comp_ex e gs) env → Meets i env → Has (numbered_gens ws e gs i) us (meaning i env) env
gens-have [] e gs i env us a q m mi = tt
gens-have (w ∷ ws) e no_gens i env us a q m mi = only-has e i env us q m mi
gens-have (w ∷ ws) e (cond c gs) i env us a q m mi =
    condition-has c e i gs env us (numbered_gens ws e gs i) (λ p n. gens-have ws e gs i env us a p n mi) q m
gens-have (w ∷ ws) e (over (name_pat x) d gs) i env us a q m mi =
    atom-has w x d e i env us a.4 a.0 a.2 mi a.3 gs a.1 a.5
    (numbered_gens ws (substitute (for_name x (name_ex w)) e) (substitute_gens (for_name x (name_ex w)) gs) (number_behind w x d gs i))
    (λ v ts p n k. gens-have ws (substitute (for_name x (name_ex w)) e) (substitute_gens (for_name x (name_ex w)) gs)
    (number_behind w x d gs i) (behind w v env) ts a.6 p n k) q m (is_atom_dom d)
gens-have (w ∷ ws) e _ i env us a q m mi = tt

-- ---- the lookup

abbrev AnswerLookedBy : Option (List Alternative) → Ex → Env → Type 0
AnswerLookedBy None t env = Unit {0}
AnswerLookedBy (Some l) t env = LookedBy t l env

gens-answer : (e : Ex) (gs : Gens) (i : Ex) (env : Env) → is_some (meaning (comp_ex e gs) env) ≡ true → (o : Option Alternative)
    → ((us : List Value) → items_under gs env (Item e) ≡ Some us → Has o us (meaning i env) env)
    → AnswerLookedBy (option_map (λ a. a ∷ []) o) (Whole e gs i) env
gens-answer e gs i env t None h = tt
gens-answer e gs i env t (Some a) h = go (items_under gs env (Item e)) refl t
  where
    go : (o : Option (List Value)) → items_under gs env (Item e) ≡ o → is_some (option_map list_value o) ≡ true
        → LookedBy (Whole e gs i) (a ∷ []) env
    go None q t = no t
    go (Some us) q t = record {
      items = alone-listed (items_listed a env) ∙ (h us q).0 ∙ ap Some (sym (picked-means e gs i env us q));
      met = ((h us q).1, tt);
    }

gens-looked : (ws : List Text) (e : Ex) (gs : Gens) (i : Ex) (env : Env) → GensApart ws e gs i → is_some (meaning (comp_ex e gs) env) ≡ true
    → Meets (Whole e gs i) env → AnswerLookedBy (option_map (λ a. a ∷ []) (numbered_gens ws e gs i)) (Whole e gs i) env
gens-looked ws e gs i env a t m = gens-answer e gs i env t (numbered_gens ws e gs i) (λ us q. gens-have ws e gs i env us a q m.0 m.1.0)

over-answer : (z : Text) (ws : List Text) (b : Bool) (e : Ex) (gs : Gens) (i : Ex) (env : Env)
    → NumberedApart z ws (node_ex b (index (by_value ∷ [])) (more_exs (comp_ex e gs) (more_exs i no_exs)))
    → is_some (meaning (comp_ex e gs) env) ≡ true → Meets (Whole e gs i) env → AnswerLookedBy (numbered_over z ws e gs i) (Whole e gs i) env
over-answer z ws b e (over (name_pat x) d no_gens) i env a t m = go (items_under (over (name_pat x) d no_gens) env (Item e)) refl t
  where
    by : (us : List Value) (vs : List Value) → members_in (domain_of d env) ≡ Some vs → collect vs (λ v. Item e (behind x v env)) ≡ Some us
        → (c : Bool) → AnswerLookedBy (if c then Some (numbered_item z x d e i ∷ []) else None) (Picked x d e i) env
    by us vs p r true = by-place z x e i d env a.0 a.1 a.2 a.3 vs us p r m (is_from_one d) refl
    by us vs p r false = tt

    go : (o : Option (List Value)) → items_under (over (name_pat x) d no_gens) env (Item e) ≡ o → is_some (option_map list_value o) ≡ true
        → AnswerLookedBy (if is_atom_dom d then Some (numbered_item z x d e i ∷ []) else None) (Picked x d e i) env
    go None q t = no t
    go (Some us) q t =
        let l = over-there (members_in (domain_of d env)) (λ v. Item e (behind x v env)) us q in by us l.0 l.1 l.2 (is_atom_dom d)
over-answer z ws b e (over (name_pat x) d (over p c gs)) i env a t m = gens-looked ws e (over (name_pat x) d (over p c gs)) i env a t m
over-answer z ws b e (over (name_pat x) d (from p c gs)) i env a t m = gens-looked ws e (over (name_pat x) d (from p c gs)) i env a t m
over-answer z ws b e (over (name_pat x) d (cond c gs)) i env a t m = gens-looked ws e (over (name_pat x) d (cond c gs)) i env a t m
over-answer z ws b e (over (tuple_pat ps) d gs) i env a t m = gens-looked ws e (over (tuple_pat ps) d gs) i env a t m
over-answer z ws b e (from p c gs) i env a t m = gens-looked ws e (from p c gs) i env a t m
over-answer z ws b e (cond c gs) i env a t m = gens-looked ws e (cond c gs) i env a t m
over-answer z ws b e no_gens i env a t m = gens-looked ws e no_gens i env a t m

numbered-answer : (z : Text) (ws : List Text) (t : Ex) (env : Env) → NumberedApart z ws t → FirstOperandThere t env → Meets t env
    → AnswerLookedBy (numbered_lookup z ws t) (unmarked t) env
numbered-answer z ws (node_ex b (index (by_value ∷ [])) (more_exs (comp_ex e gs) (more_exs i no_exs))) env a t m =
    over-answer z ws b e gs i env a t m
numbered-answer z ws _ env a t m = tt

-- So an item is looked up by its number.
pub items-are-numbered : ItemsAreNumbered
items-are-numbered z ws t l q a env h m = subst (λ o. AnswerLookedBy o (unmarked t) env) q (numbered-answer z ws t env a h m)
