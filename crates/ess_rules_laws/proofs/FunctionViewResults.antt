-- Views of functions kept by argument are looked up: the lookup has the result at the argument, or no item.
use Rattle.std.proofs.Common.{◌≡◌, sym, ap, ◌∙◌, subst, Bool, true, false, List, [], ◌∷◌, filter, length, ℤ, Some, option_map}
use Rattle.ess_semantics.specs.declared.words.ReprKind.{ReprKind}
use Rattle.ess_semantics.specs.Lists.{and_then}
use Rattle.ess_semantics.specs.Values.{Text, Value, items_of}
use Rattle.ess_semantics.specs.Collections.{value_at}
use Rattle.ess_semantics.specs.Trees.{Op, Mark, Repr, repr, no_reprs, more_reprs, Ex, Exs, node_ex, seen_ex, no_exs, more_exs, Dom, function_dom}
use Rattle.ess_semantics.specs.Domains.{functions}
use Rattle.ess_semantics.specs.Operators.{as_truth, list_value, value_of_node}
use Rattle.ess_semantics.specs.Cells.{Axes}
use Rattle.ess_semantics.specs.FunctionLayers.{with_arguments, function_with, total_layer, partial_layer}
use Rattle.ess_semantics.specs.Representations.{layer, own_width}
use Rattle.ess_semantics.specs.Meaning.{Env, meaning, members_in, collect, where_true}
use Rattle.ess_semantics.specs.Contexts.{EachOf}
use Rattle.ess_semantics.specs.Meets.{Meets}
use Rattle.ess_semantics.specs.Substitution.{NamesAre, NamesAreExs, NamesAreDom}
use Rattle.ess_semantics.proofs.Orders.{to_list-of_list}
use Rattle.ess_rules_laws.specs.FunctionViews.{Run, result_at, flag_at, total_result, flagged_result}
use Rattle.ess_rules_laws.specs.Lookups.{found, Looked}
use Rattle.ess_rules_laws.proofs.Simulation.{any}
use Rattle.ess_rules_laws.proofs.Bindings.{each-map, each-join}
use Rattle.ess_rules_laws.proofs.Lookups.{single}
use Rattle.ess_rules_laws.proofs.FunctionViewParts.{Opened}
use Rattle.ess_rules_laws.proofs.FunctionResults.{collect-passing, each-passing, Here, Keyed, RunsOver, results-met}
use Rattle.ess_rules_laws.proofs.FunctionViews.{total-view, is_there, flagged-view, flag-says, flags-met}
use Rattle.ess_rules_laws.proofs.FunctionViewLookups.{Applies, where-swap, Equal, equal-met, Picked, results-found}

module _ (n : Text → Bool) (u : Run) (index : Value → List ℤ) (k : ReprKind) (r : Repr) (ms : List Mark) (es : Exs) (dd ce : Dom) (js : Exs)
    (env : Env) (new-c : NamesAreDom n any ce) (new-js : NamesAreExs n any js) (axes : Axes) (a : Ex) (new-a : NamesAre n any a)
    (op : Op) (applies : Applies op) (met-a : Meets a env) where
  abbrev R : Repr
  R = repr k (more_reprs r no_reprs)

  -- What applies a function to a.
  abbrev Applied : Ex → Ex
  Applied f = node_ex false op (more_exs f (more_exs a no_exs))

  -- What a function gives at a.
  applied-is : (f : Ex) (ys vs : List Value) → meaning f env ≡ Some (function_with ys vs) →
      meaning (Applied f) env ≡ and_then (meaning a env) (value_at (with_arguments ys vs))
  applied-is f ys vs q = ap (λ o. value_of_node op (o ∷ meaning a env ∷ [])) q ∙ applies ys vs (meaning a env)

  module _ (names : List Text) (o : Opened R ms es dd ce names js env)
      (is_layer : layer k (functions o.ks o.d o.c) ≡ Some (total_layer o.ks axes o.d o.c))
      (own-none : own_width k ≡ 0) (runs : RunsOver n u index (length axes) env o.d axes)
      (m : Meets (seen_ex R (function_dom ms es dd ce) names js) env) where
    abbrev View : Ex
    View = seen_ex R (function_dom ms es dd ce) names js

    abbrev Res : Ex
    Res = result_at r ce names js u.keys

    abbrev Eq : Ex
    Eq = Equal n u index (length axes) env ce js names r o.c o.tables o.i a new-a

    -- Of a total function.
    pub total-looked : Looked (Applied View) (total_result u r dd ce names js a) env
    total-looked = let w = total-view n u index k r ms es dd ce js env new-c new-js axes names o is_layer own-none runs m in
        let b = ap members_in o.first_is ∙ runs.are_members in record {
          items =
              ap (λ z. option_map items_of (option_map list_value (and_then z (λ vs. collect vs
              (Picked n u index (length axes) env ce js names r o.c o.tables o.i a new-a))))) b
              ∙ ap (λ z. option_map items_of (option_map list_value z))
              (results-found n u index (length axes) env ce js names r o.c o.tables o.i a new-a runs.us w.vs w.facts w.rising)
              ∙ ap Some (to_list-of_list (found (and_then (meaning a env) (value_at (with_arguments runs.us w.vs)))))
              ∙ ap (λ z. Some (found z)) (sym (applied-is View runs.us w.vs w.is_value));
          met = (
            m.1.1,
            subst (λ z. EachOf z (λ v. Meets Eq (Here n u index (length axes) env v)
                × (as_truth (meaning Eq (Here n u index (length axes) env v)) ≡ true →
                Meets Res (Here n u index (length axes) env v)))) (sym b)
                (each-join runs.us (Keyed n u index (length axes) env) (λ v. Meets Res (Here n u index (length axes) env v)) _
                (λ v h g. (equal-met n u index (length axes) env ce js names r o.c o.tables o.i a new-a v h met-a, λ z. g)) runs.keyed
                (results-met n u index (length axes) env ce js names r o.c o.tables o.i runs.us w.vs w.facts)),
          );
        }

  module _ (f : Text) (names : List Text) (o : Opened R ms es dd ce (f ∷ names) js env)
      (is_layer : layer k (functions o.ks o.d o.c) ≡ Some (partial_layer o.ks axes index o.d o.c))
      (own-one : own_width k ≡ 1) (runs : RunsOver n u index (length axes) env o.d axes)
      (m : Meets (seen_ex R (function_dom ms es dd ce) (f ∷ names) js) env) where
    abbrev Flagged : Ex
    Flagged = seen_ex R (function_dom ms es dd ce) (f ∷ names) js

    abbrev Part : Ex
    Part = result_at r ce names js u.keys

    abbrev Flag : Ex
    Flag = flag_at f js u.keys

    abbrev Same : Ex
    Same = Equal n u index (length axes) env ce js names r o.c [] o.i a new-a

    -- Of one with flags.
    pub flagged-looked : Looked (Applied Flagged) (flagged_result u r dd ce f names js a) env
    flagged-looked = let w = flagged-view n u index k r ms es dd ce js env new-c new-js axes f names o is_layer own-one runs m in
        let b = ap members_in o.first_is ∙ runs.are_members in
        let t : Value → Bool = is_there n u index k r ms es dd ce js env new-c new-js axes f names o is_layer own-one runs m w.t in
        let says = flag-says n u index k r ms es dd ce js env new-c new-js axes f names o is_layer own-one runs m w.t w.is_table in record {
          items =
              ap (λ z. option_map items_of (option_map list_value (and_then z (λ vs. collect vs (λ v.
              where_true (meaning Same (Here n u index (length axes) env v)) (λ z.
              where_true (meaning Flag (Here n u index (length axes) env v)) (λ z.
              single (meaning Part (Here n u index (length axes) env v))))))))) b
              ∙ ap (λ z. option_map items_of (option_map list_value z))
              (collect-passing t _ (Picked n u index (length axes) env ce js names r o.c w.ts o.i a new-a) runs.us
              (each-map runs.us _ _ (λ v h. ap (λ z. where_true (meaning Same (Here n u index (length axes) env v)) (λ y. where_true z (λ z.
              single (meaning Part (Here n u index (length axes) env v))))) (says v h)
              ∙ where-swap (as_truth (meaning Same (Here n u index (length axes) env v))) (t v)
              (single (meaning Part (Here n u index (length axes) env v)))) runs.keyed)
              ∙ results-found n u index (length axes) env ce js names r o.c w.ts o.i a new-a (filter t runs.us) w.vs w.facts w.rising)
              ∙ ap Some (to_list-of_list (found (and_then (meaning a env) (value_at (with_arguments (filter t runs.us) w.vs)))))
              ∙ ap (λ z. Some (found z)) (sym (applied-is Flagged (filter t runs.us) w.vs w.is_value));
          met = (
            m.1.1,
            subst (λ z. EachOf z (λ v. Meets Same (Here n u index (length axes) env v)
                × (as_truth (meaning Same (Here n u index (length axes) env v)) ≡ true → Meets Flag (Here n u index (length axes) env v)
                × (as_truth (meaning Flag (Here n u index (length axes) env v)) ≡ true →
                Meets Part (Here n u index (length axes) env v))))) (sym b)
                (each-passing t (Keyed n u index (length axes) env) (λ v. Meets Part (Here n u index (length axes) env v)) _
                (λ v h g. (
                  equal-met n u index (length axes) env ce js names r o.c [] o.i a new-a v h met-a,
                  λ y. (
                    flags-met n u index k r ms es dd ce js env new-c new-js axes f names o is_layer own-one runs m v h,
                    λ z. g (sym (ap as_truth (says v h)) ∙ z),
                  ),
                )) runs.us runs.keyed
                (results-met n u index (length axes) env ce js names r o.c w.ts o.i (filter t runs.us) w.vs w.facts)),
          );
        }
