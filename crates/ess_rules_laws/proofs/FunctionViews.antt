-- Views of functions kept by argument offer their pairs, in order.
use Rattle.std.proofs.Common.{◌≡◌, refl, sym, ap, ◌∙◌, subst, Bool, true, List, [], ◌∷◌, ◌++◌, map, filter, take, drop, length, ℤ, Some, option_map}
use Rattle.std.specs.List.{list_all}
use Rattle.ess_semantics.specs.declared.words.ReprKind.{ReprKind}
use Rattle.ess_semantics.specs.Lists.{and_then, each_of, list_or_none}
use Rattle.ess_semantics.specs.Values.{Text, Value, truth, from_of, items_of}
use Rattle.ess_semantics.specs.Collections.{rises}
use Rattle.ess_semantics.specs.Names.{look}
use Rattle.ess_semantics.specs.Trees.{Mark, Repr, repr, no_reprs, more_reprs, Ex, Exs, seen_ex, Dom, function_dom}
use Rattle.ess_semantics.specs.Domains.{functions, member_list}
use Rattle.ess_semantics.specs.Operators.{as_truth}
use Rattle.ess_semantics.specs.Tables.{Table, Tables, cell_at}
use Rattle.ess_semantics.specs.Cells.{Cells, Axes, cells_at}
use Rattle.ess_semantics.specs.Layers.{own_cell, chosen}
use Rattle.ess_semantics.specs.FunctionLayers.{with_arguments, function_with, total_layer, partial_layer}
use Rattle.ess_semantics.specs.Representations.{layer, own_width, child_part, value_of_tables}
use Rattle.ess_semantics.specs.Tidy.{tidy}
use Rattle.ess_semantics.specs.Meaning.{Env, meaning, tables_in, members_in, bind, collect, where_true}
use Rattle.ess_semantics.specs.Contexts.{EachOf}
use Rattle.ess_semantics.specs.Meets.{Meets}
use Rattle.ess_semantics.specs.Substitution.{NamesAreExs, NamesAreDom}
use Rattle.ess_semantics.proofs.Tests.{and-right}
use Rattle.ess_semantics.proofs.Orders.{to_list-of_list}
use Rattle.ess_rules_laws.specs.ListedSources.{OffersInOrder}
use Rattle.ess_rules_laws.specs.FunctionMembershipRules.{pair_ex}
use Rattle.ess_rules_laws.specs.FunctionViews.{Run, result_at, flag_at, total_pairs, flagged_pairs}
use Rattle.ess_rules_laws.proofs.Simulation.{any}
use Rattle.ess_rules_laws.proofs.Bindings.{each-map}
use Rattle.ess_rules_laws.proofs.SlotSets.{In, orderly_in}
use Rattle.ess_rules_laws.proofs.Results.{is_flag, flag-is, flag-met}
use Rattle.ess_rules_laws.proofs.FunctionCells.{FunctionStands, total-stands, partial-stands}
use Rattle.ess_rules_laws.proofs.FunctionViewParts.{Opened, view-is, tables-split, total-over, partial-over, over-short}
use Rattle.ess_rules_laws.proofs.FunctionResults.{chosen-picked, collect-passing, each-passing, each-filtered, Here, Keyed, RunsOver, Facts, facts, pairs-listed, pairs-met}

module _ (n : Text → Bool) (u : Run) (index : Value → List ℤ) (k : ReprKind) (r : Repr) (ms : List Mark) (es : Exs) (dd ce : Dom) (js : Exs)
    (env : Env) (new-c : NamesAreDom n any ce) (new-js : NamesAreExs n any js) (axes : Axes) where
  abbrev R : Repr
  R = repr k (more_reprs r no_reprs)

  -- ---- a total function

  module _ (names : List Text) (o : Opened R ms es dd ce names js env)
      (is_layer : layer k (functions o.ks o.d o.c) ≡ Some (total_layer o.ks axes o.d o.c))
      (own-none : own_width k ≡ 0) (runs : RunsOver n u index (length axes) env o.d axes)
      (m : Meets (seen_ex R (function_dom ms es dd ce) names js) env) where
    abbrev View : Ex
    View = seen_ex R (function_dom ms es dd ce) names js

    abbrev Pair : Ex
    Pair = pair_ex u.argument (result_at r ce names js u.keys)

    -- What stands there, at each argument.
    pub record TotalView : Type 0 where
      pub vs : List Value
      pub is_value : meaning View env ≡ Some (function_with runs.us vs)
      pub rising : rises from_of (with_arguments runs.us vs) ≡ true
      pub facts : Facts n u index (length axes) env ce js names r o.c o.tables o.i runs.us vs

    pub total-view : TotalView
    total-view = let us-are : member_list o.d ≡ runs.us = ap list_or_none runs.are_members in
        let s = subst (λ l. FunctionStands k r o.ks o.d o.c index (cells_at o.tables o.i) l) us-are
        (total-stands k r o.ks o.d o.c index axes (runs.places ∙ ap (map index) (sym us-are)) (cells_at o.tables o.i) is_layer
        (and-right _ _ o.is_tidy)) in
        let over = total-over k r o.ks o.d o.c axes o.i is_layer o.tables o.is_tidy in
        let child : child_part k (cells_at o.tables o.i) ≡ cells_at o.tables o.i =
        ap (λ w. drop w (cells_at o.tables o.i)) own-none in record {
          vs = s.vs;
          is_value = view-is R ms es dd ce names js env o ∙ s.is_value;
          rising = s.rising;
          facts = facts n u index (length axes) env ce js names r o.c o.tables o.i new-c new-js o.second_is o.tables_are o.index_is
              (over-short r o.c axes o.i o.tables over) over m.1.2 m.2 runs.us s.vs runs.keyed
              (ap (λ z. each_of (map index runs.us) (In r o.c z)) (sym child) ∙ s.values) s.typed
              (ap (λ z. list_all (orderly_in r o.c z) (map index runs.us)) (sym child) ∙ s.orderly);
        }

    -- It offers its pairs, in order.
    pub total-offers : OffersInOrder View (total_pairs u r dd ce names js) env
    total-offers = let w = total-view in let a = ap members_in o.first_is ∙ runs.are_members in record {
      items = ap (option_map items_of) w.is_value ∙ ap Some (to_list-of_list (with_arguments runs.us w.vs))
          ∙ sym (ap (λ z. and_then z (λ vs. collect vs (λ v. option_map (λ w. w ∷ [])
          (meaning Pair (Here n u index (length axes) env v))))) a
          ∙ pairs-listed n u index (length axes) env ce js names r o.c o.tables o.i runs.us w.vs w.facts);
      met = (
        m.1.1,
        subst (λ z. EachOf z (λ v. Meets Pair (Here n u index (length axes) env v))) (sym a)
            (pairs-met n u index (length axes) env ce js names r o.c o.tables o.i runs.us w.vs w.facts),
      );
    }

  -- ---- one with flags

  module _ (f : Text) (names : List Text) (o : Opened R ms es dd ce (f ∷ names) js env)
      (is_layer : layer k (functions o.ks o.d o.c) ≡ Some (partial_layer o.ks axes index o.d o.c))
      (own-one : own_width k ≡ 1) (runs : RunsOver n u index (length axes) env o.d axes)
      (m : Meets (seen_ex R (function_dom ms es dd ce) (f ∷ names) js) env) where
    abbrev Flagged : Ex
    Flagged = seen_ex R (function_dom ms es dd ce) (f ∷ names) js

    -- Whether there is a result at an argument.
    abbrev pub is_there : Table → Value → Bool
    is_there t v = is_flag (cell_at t (o.i ++ index v))

    -- What stands there, at each argument whose flag is true.
    pub record FlaggedView : Type 0 where
      pub t : Table
      pub ts : Tables
      pub vs : List Value
      pub is_table : look env.cells f ≡ Some t
      pub tables_are : o.tables ≡ t ∷ ts
      pub is_value : meaning Flagged env ≡ Some (function_with (filter (is_there t) runs.us) vs)
      pub rising : rises from_of (with_arguments (filter (is_there t) runs.us) vs) ≡ true
      pub facts : Facts n u index (length axes) env ce js names r o.c ts o.i (filter (is_there t) runs.us) vs

    abbrev Own : Tables → Cells
    Own ts = cells_at ts o.i

    made-flagged : (t : Table) (ts : Tables) (ys : List Value) → look env.cells f ≡ Some t → tables_in env.cells names ≡ Some ts →
        o.tables ≡ t ∷ ts → ys ≡ filter (is_there t) runs.us → tidy R (functions o.ks o.d o.c) (t ∷ ts) o.i ≡ true →
        FunctionStands k r o.ks o.d o.c index (Own (t ∷ ts)) ys → FlaggedView
    made-flagged t ts ys a b e q h z = let s = subst (λ l. FunctionStands k r o.ks o.d o.c index (Own (t ∷ ts)) l) q z in
        let over = partial-over k r o.ks o.d o.c axes o.i index is_layer t ts h in
        let child : child_part k (Own (t ∷ ts)) ≡ Own ts = ap (λ w. drop w (Own (t ∷ ts))) own-one in
        let ys' : List Value = filter (is_there t) runs.us in record {
          t = t;
          ts = ts;
          vs = s.vs;
          is_table = a;
          tables_are = e;
          is_value = view-is R ms es dd ce (f ∷ names) js env o
              ∙ ap (λ l. value_of_tables R (functions o.ks o.d o.c) l o.i) e ∙ s.is_value;
          rising = s.rising;
          facts = facts n u index (length axes) env ce js names r o.c ts o.i new-c new-js o.second_is b o.index_is
              (over-short r o.c axes o.i ts over.1) over.1 m.1.2 m.2 (filter (is_there t) runs.us) s.vs
              (each-filtered (is_there t) (Keyed n u index (length axes) env) runs.us runs.keyed)
              (ap (λ z. each_of (map index (filter (is_there t) runs.us)) (In r o.c z)) (sym child) ∙ s.values) s.typed
              (ap (λ z. list_all (orderly_in r o.c z) (map index (filter (is_there t) runs.us))) (sym child) ∙ s.orderly);
        }

    pub flagged-view : FlaggedView
    flagged-view = let us-are : member_list o.d ≡ runs.us = ap list_or_none runs.are_members in
        let w = tables-split f names env o.tables o.tables_are in
        let h : tidy R (functions o.ks o.d o.c) (w.0 ∷ w.1) o.i ≡ true =
        ap (λ l. tidy R (functions o.ks o.d o.c) l o.i) (sym w.4) ∙ o.is_tidy in
        let s = partial-stands k r o.ks o.d o.c index axes (runs.places ∙ ap (map index) (sym us-are)) (Own (w.0 ∷ w.1)) is_layer
        (and-right _ _ h) in
        made-flagged w.0 w.1 s.0 w.2 w.3 w.4
        (chosen-picked (λ x. cell_at w.0 (o.i ++ index x)) runs.us s.0
        (ap (λ l. chosen l (λ x. cell_at w.0 (o.i ++ index x))) (sym us-are)
        ∙ ap (λ z. chosen (member_list o.d) (λ x. own_cell (take z (Own (w.0 ∷ w.1))) (index x))) (sym own-one) ∙ s.1)) h s.2

    abbrev Flag : Ex
    Flag = flag_at f js u.keys

    abbrev FlaggedPair : Ex
    FlaggedPair = pair_ex u.argument (result_at r ce names js u.keys)

    -- The flag at an argument says whether there is a result.
    pub flag-says : (t : Table) → look env.cells f ≡ Some t → (v : Value) → Keyed n u index (length axes) env v →
        meaning Flag (Here n u index (length axes) env v) ≡ Some (truth (is_there t v))
    flag-says t q v h = flag-is n ce js [] r env o.c [] o.i new-c new-js o.second_is refl o.index_is
        (bind u.pattern v env.vals) h.agree u.keys
        (index v) h.codes f t q

    -- Its structures are met.
    pub flags-met : (v : Value) → Keyed n u index (length axes) env v → Meets Flag (Here n u index (length axes) env v)
    flags-met v h = flag-met n ce js [] r env o.c [] o.i new-c new-js o.second_is refl o.index_is (bind u.pattern v env.vals) h.agree u.keys
        (index v) h.codes f m.2 h.keys_met

    -- It offers its pairs, in order.
    pub flagged-offers : OffersInOrder Flagged (flagged_pairs u r dd ce f names js) env
    flagged-offers = let w = flagged-view in let a = ap members_in o.first_is ∙ runs.are_members in record {
      items = ap (option_map items_of) w.is_value ∙ ap Some (to_list-of_list (with_arguments (filter (is_there w.t) runs.us) w.vs))
          ∙ sym (ap (λ z. and_then z (λ vs. collect vs (λ v.
          where_true (meaning Flag (Here n u index (length axes) env v))
          (λ z. option_map (λ w. w ∷ []) (meaning FlaggedPair (Here n u index (length axes) env v)))))) a
          ∙ collect-passing (is_there w.t) _ (λ v. option_map (λ w. w ∷ [])
          (meaning FlaggedPair (Here n u index (length axes) env v))) runs.us
          (each-map runs.us _ _ (λ v h. ap (λ z. where_true z
          (λ z. option_map (λ w. w ∷ []) (meaning FlaggedPair (Here n u index (length axes) env v))))
          (flag-says w.t w.is_table v h)) runs.keyed)
          ∙ pairs-listed n u index (length axes) env ce js names r o.c w.ts o.i (filter (is_there w.t) runs.us) w.vs w.facts);
      met = (
        m.1.1,
        subst (λ z. EachOf z (λ v. Meets Flag (Here n u index (length axes) env v)
            × (as_truth (meaning Flag (Here n u index (length axes) env v)) ≡ true →
            Meets FlaggedPair (Here n u index (length axes) env v)))) (sym a)
            (each-passing (is_there w.t) (Keyed n u index (length axes) env) _ _
            (λ v h g. (flags-met v h, λ z. g (sym (ap as_truth (flag-says w.t w.is_table v h)) ∙ z))) runs.us runs.keyed
            (pairs-met n u index (length axes) env ce js names r o.c w.ts o.i (filter (is_there w.t) runs.us) w.vs w.facts)),
      );
    }
