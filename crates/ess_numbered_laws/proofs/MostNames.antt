-- What says how many items a list has at most uses no name that the list doesn't.
use Rattle.std.proofs.Common.{◌≡◌, refl, subst, ℕ, zero, suc, Bool, true, false, if◌then◌else◌, List, [], ◌∷◌, Option, Some, None, pos}
use Rattle.ess_semantics.specs.declared.words.Fun.{Fun}
use Rattle.ess_semantics.specs.Values.{Text}
use Rattle.ess_semantics.specs.Order.{same_text}
use Rattle.ess_semantics.specs.Occurrences.{free_of, has_cells}
use Rattle.ess_semantics.specs.Substitution.{NamesAre, NamesAreExs, NamesAreGens, NamesAreDom, NamesAreDoms}
use Rattle.ess_semantics.specs.Trees.{index, application, word, tuple_literal, matrix_literal, function_literal, record_literal, name_pat, Pat, Ex, Exs, node_ex, matrix_ex, comp_ex, seen_ex, no_exs, more_exs, Gens, no_gens, over, from, cond, Dom, Doms, bool_dom, int_dom, name_dom, tuple_dom, record_dom, matrix_dom, function_dom, no_doms, more_doms, number_ex}
use Rattle.ess_guard_laws.specs.IndexDomains.{first_index, plain_axis, are_plain_bounds}
use Rattle.ess_ordered_laws.specs.ToldAxes.{dom_at, dom_of_field, results_of, component_dom, field_dom, items_dom}
use Rattle.ess_rules_laws.proofs.Simulation.{any}
use Rattle.ess_numbered_laws.specs.ThereByForm.{is_there}
use Rattle.ess_numbered_laws.specs.MostItems.{Pick, an_item, a_result, a_component, a_field, pick_of, dom_along, all_summed, behind_condition, so_often, members_counted, sum_at, most, most_behind, most_of_each, most_at, most_of_field, most_items, list_axis}
use Rattle.ess_numbered_laws.proofs.Answered.{Answered, answered-map, answered-then, answered-under}
use Rattle.ess_numbered_laws.proofs.ListAxes.{list-plain}
use Rattle.ess_ordered_laws.specs.NumberedItems.{is_from_one}
use Rattle.ess_semantics.specs.Constants.{operand_count}

module _ (u : Text → Bool) where
  -- ---- domains

  abbrev InDom : Option Dom → Type 0
  InDom o = Answered o (NamesAreDom u any)

  dom-at : (k : ℕ) (ds : Doms) → NamesAreDoms u any ds → InDom (dom_at k ds)
  dom-at k no_doms h = tt
  dom-at zero (more_doms d ds) h = tt
  dom-at (suc zero) (more_doms d ds) h = h.0
  dom-at (suc (suc k)) (more_doms d ds) h = dom-at (suc k) ds h.1

  dom-of-field : (a : Text) (fs : List Text) (ds : Doms) → NamesAreDoms u any ds → InDom (dom_of_field a fs ds)
  dom-of-field a (f ∷ fs) (more_doms d ds) h = go (same_text f a) (dom-of-field a fs ds h.1)
    where
      go : (b : Bool) → InDom (dom_of_field a fs ds) → InDom (if b then Some d else dom_of_field a fs ds)
      go true r = h.0
      go false r = r
  dom-of-field a _ _ h = tt

  results-names : (o : Option Dom) → InDom o → InDom (results_of o)
  results-names (Some (function_dom ms es d c)) h = h.2
  results-names _ h = tt

  component-names : (k : ℕ) (o : Option Dom) → InDom o → InDom (component_dom k o)
  component-names k (Some (tuple_dom ds)) h = dom-at k ds h
  component-names k _ h = tt

  field-names : (a : Text) (o : Option Dom) → InDom o → InDom (field_dom a o)
  field-names a (Some (record_dom fs ds)) h = dom-of-field a fs ds h
  field-names a _ h = tt

  items-names : (o : Option Dom) → InDom o → InDom (items_dom o)
  items-names (Some (matrix_dom (more_doms i no_doms) d)) h = h.1
  items-names (Some (matrix_dom (more_doms i (more_doms j is)) d)) h = (h.0.1, h.1)
  items-names _ h = tt

  along-names : (ps : List Pick) (o : Option Dom) → InDom o → InDom (dom_along ps o)
  along-names [] o h = h
  along-names (an_item ∷ ps) o h = along-names ps (items_dom o) (items-names o h)
  along-names (a_result ∷ ps) o h = along-names ps (results_of o) (results-names o h)
  along-names (a_component k ∷ ps) o h = along-names ps (component_dom k o) (component-names k o h)
  along-names (a_field a ∷ ps) o h = along-names ps (field_dom a o) (field-names a o h)

  index-names : (o : Option Dom) → InDom o → InDom (first_index o)
  index-names (Some (matrix_dom (more_doms i is) d)) h = h.0.0
  index-names _ h = tt

  plain-names : (o : Option Dom) → InDom o → InDom (plain_axis o)
  plain-names (Some bool_dom) h = tt
  plain-names (Some (int_dom rs es)) h = go (are_plain_bounds es)
    where
      go : (b : Bool) → InDom (if b then Some (int_dom rs es) else None)
      go true = h
      go false = tt
  plain-names (Some (name_dom a)) h = tt
  plain-names _ h = tt

  -- ---- numbers

  abbrev InEx : Option Ex → Type 0
  InEx o = Answered o (NamesAre u any)

  often-names : (p : Pat) (k n : Ex) → NamesAre u any k → NamesAre u any n → InEx (so_often p k n)
  often-names (name_pat y) k n h l = answered-under (NamesAre u any) (free_of (y ∷ []) (more_exs n no_exs)) _ (λ q. (h, (l, tt)))
  often-names _ k n h l = tt

  condition-names : (c n : Ex) → NamesAre u any c → NamesAre u any n → InEx (behind_condition c n)
  condition-names c n h l = go (has_cells c)
    where
      go : (b : Bool) → InEx (if b then (if is_there n then Some n else None) else Some (sum_at n (cond c no_gens)))
      go true = answered-under (NamesAre u any) (is_there n) n (λ q. l)
      go false = ((l, (h, tt)), tt)

  mutual
    most-names : (z : Text) (ps : List Pick) (t : Ex) → NamesAre u any t → InEx (most z ps t)
    most-names z ps (node_ex b (index (q ∷ [])) (more_exs t is)) h = most-names z (pick_of q ∷ ps) t h.0
    most-names z ps (node_ex b application (more_exs f is)) h = most-names z (a_result ∷ ps) f h.0
    most-names z ps (node_ex b (word Fun.Image) (more_exs f is)) h = most-names z (a_result ∷ ps) f h.0
    most-names z [] (node_ex false matrix_literal es) h = tt
    most-names z (an_item ∷ ps) (node_ex false matrix_literal es) h = answered-map (NamesAre u any) (most_of_each z ps es) all_summed
        (each-names z ps es h) (λ ns l. (l, tt))
    most-names z (a_component k ∷ ps) (node_ex false tuple_literal es) h = at-names k z ps es h
    most-names z (a_field a ∷ ps) (node_ex false (record_literal fs) es) h = of-field-names a fs z ps es h
    most-names z (a_result ∷ ps) (node_ex false function_literal es) h =
        answered-map (NamesAre u any) (most_of_each z (a_component 2 ∷ ps) es) all_summed (each-names z (a_component 2 ∷ ps) es h)
        (λ ns l. (l, tt))
    most-names z [] (matrix_ex es d) h = answered-under (NamesAre u any) (is_from_one d) (number_ex (pos (operand_count es))) (λ q. tt)
    most-names z (an_item ∷ ps) (matrix_ex es d) h = answered-map (NamesAre u any) (most_of_each z ps es) all_summed
        (each-names z ps es h.0) (λ ns l. (l, tt))
    most-names z [] (comp_ex e gs) h = behind-names z gs _ h.1 tt
    most-names z (an_item ∷ ps) (comp_ex e gs) h = answered-then (NamesAre u any) (most z ps e) (most_behind z gs) (most-names z ps e h.0)
        (λ n l. behind-names z gs n h.1 l)
    most-names z ps (seen_ex r d ns es) h =
        answered-map (NamesAre u any) (list_axis (first_index (dom_along ps (Some d)))) (members_counted z)
        (list-plain _ (first_index (dom_along ps (Some d)))
        (plain-names (first_index (dom_along ps (Some d))) (index-names (dom_along ps (Some d)) (along-names ps (Some d) h.0))))
        (λ i l. ((tt, (refl, l, tt)), tt))
    most-names z ps _ h = tt

    behind-names : (z : Text) (gs : Gens) (n : Ex) → NamesAreGens u any gs → NamesAre u any n → InEx (most_behind z gs n)
    behind-names z no_gens n h l = l
    behind-names z (over p d gs) n h l = answered-map (NamesAre u any) (most_behind z gs n) _ (behind-names z gs n h.2 l)
        (λ m k. ((k, (h.0, h.1, tt)), tt))
    behind-names z (from p t gs) n h l =
        answered-then (NamesAre u any) (most z [] t) _ (most-names z [] t h.1)
        (λ k i. answered-then (NamesAre u any) (most_behind z gs n) (so_often p k) (behind-names z gs n h.2 l)
        (λ m j. often-names p k m i j))
    behind-names z (cond c gs) n h l = answered-then (NamesAre u any) (most_behind z gs n) (behind_condition c) (behind-names z gs n h.1 l)
        (λ m k. condition-names c m h.0 k)

    each-names : (z : Text) (ps : List Pick) (es : Exs) → NamesAreExs u any es → Answered (most_of_each z ps es) (NamesAreExs u any)
    each-names z ps no_exs h = tt
    each-names z ps (more_exs e es) h =
        answered-then (NamesAreExs u any) (most z ps e) _ (most-names z ps e h.0)
        (λ n l. answered-map (NamesAreExs u any) (most_of_each z ps es) (more_exs n) (each-names z ps es h.1) (λ ns k. (l, k)))

    at-names : (k : ℕ) (z : Text) (ps : List Pick) (es : Exs) → NamesAreExs u any es → InEx (most_at k z ps es)
    at-names k z ps no_exs h = tt
    at-names zero z ps (more_exs e es) h = tt
    at-names (suc zero) z ps (more_exs e es) h = most-names z ps e h.0
    at-names (suc (suc k)) z ps (more_exs e es) h = at-names (suc k) z ps es h.1

    of-field-names : (a : Text) (fs : List Text) (z : Text) (ps : List Pick) (es : Exs) → NamesAreExs u any es →
        InEx (most_of_field a fs z ps es)
    of-field-names a (f ∷ fs) z ps (more_exs e es) h = go (same_text f a) (most-names z ps e h.0) (of-field-names a fs z ps es h.1)
      where
        go : (b : Bool) → InEx (most z ps e) → InEx (most_of_field a fs z ps es) →
            InEx (if b then most z ps e else most_of_field a fs z ps es)
        go true l r = l
        go false l r = r
    of-field-names a _ z ps _ h = tt

-- So it is of a list.
pub most-uses : (u : Text → Bool) (z : Text) (t n : Ex) → most_items z t ≡ Some n → NamesAre u any t → NamesAre u any n
most-uses u z t n q h = subst (λ o. Answered o (NamesAre u any)) q (most-names u z [] t h)
