-- What a selection picks is in order where order counts, where the selection is.
use Rattle.std.proofs.Common.{refl, Bool, true, false, if◌then◌else◌, List, [], ◌∷◌, ℕ, suc, Option, Some, None, option_map}
use Rattle.ess_semantics.specs.declared.words.ReprKind.{ReprKind}
use Rattle.ess_semantics.specs.declared.words.Fun.{Fun}
use Rattle.ess_semantics.specs.Lists.{and_then, or_else}
use Rattle.ess_semantics.specs.Values.{Text, a_function}
use Rattle.ess_semantics.specs.Names.{Names}
use Rattle.ess_semantics.specs.Trees.{Repr, repr, no_reprs, more_reprs, by_value, index, application, word, tuple_literal, matrix_literal, function_literal, Ex, Exs, name_ex, node_ex, matrix_ex, seen_ex, no_exs, more_exs, Gens, Dom, function_dom, tuple_dom, matrix_dom, more_doms}
use Rattle.ess_semantics.specs.Types.{Ty, any_ty, compound2}
use Rattle.ess_semantics.specs.Typing.{type_of}
use Rattle.ess_rules_laws.specs.Listings.{Alternative}
use Rattle.ess_rules_laws.specs.FunctionViews.{by_name, by_names, names_fit, total_result, flagged_result, of_application, Run}
use Rattle.ess_rules_laws.specs.Function1DViews.{function_1d_result, function_1d_lookup}
use Rattle.ess_rules_laws.specs.Function1DPartialViews.{function_1d_partial_result, function_1d_partial_lookup}
use Rattle.ess_rules_laws.specs.FunctionNDViews.{function_nd_result, function_nd_lookup}
use Rattle.ess_rules_laws.specs.FunctionNDPartialViews.{function_nd_partial_result, function_nd_partial_lookup}
use Rattle.ess_rules_laws.specs.FunctionLookups.{pairs_at, function_lookup}
use Rattle.ess_rules_laws.specs.AlternativeLookups.{numbered_items, list_lookup, none_at, first_results, pairs_by_cases}
use Rattle.ess_rules_laws.specs.AlternativeLookups.{function_literal_lookup, as_alternative, lookup_through_each}
use Rattle.ess_rules_laws.proofs.NoneOf.{none_at-more}
use Rattle.ess_views_laws.specs.PartitionViews.{is_one_of}
use Rattle.ess_kind_rules_laws.specs.TermLookups.{picks, picked_within, view_item_lookup, count_below, items_at_places, domain_list_lookup, party_lookup, names_of_argument, function_view_lookup, one_lookup, looked_up_alone, looked_up}
use Rattle.ess_given_order_laws.specs.InOrder.{Ordered, AllOrdered, GensOrdered, InOrder}
use Rattle.ess_given_order_laws.proofs.OrderOfListings.{nm, AllAlternatives, SomeAlternatives}
use Rattle.ess_given_offers_laws.proofs.OrderOfPicks.{through-each}
use Rattle.ess_given_offers_laws.proofs.OrderOfViews.{RunOrder, name-order, names-run-order, last-order, append-all, behind-order}

module _ (u : Text → Bool) where
  abbrev H : Option (List Alternative) → Type 0
  H o = SomeAlternatives u o

  either-picks : (o p : Option (List Alternative)) → H o → H p → H (or_else o p)
  either-picks None p h k = k
  either-picks (Some l) p h k = h

  -- What looks a value up is in order within.
  abbrev pub Looks : Option Ex → Type 0
  Looks None = Unit {0}
  Looks (Some l) = Ordered u l

  either-looks : (o p : Option Ex) → Looks o → Looks p → Looks (or_else o p)
  either-looks None p h k = k
  either-looks (Some l) p h k = h

  -- ---- literals

  numbered : (k : ℕ) (i : Ex) (es : Exs) → InOrder u i → AllOrdered u es false → AllAlternatives u (numbered_items k i es)
  numbered k i no_exs h j = tt
  numbered k i (more_exs e es) h j = ((j.0, ((refl, (h, ((refl, tt), tt))), tt)), numbered (suc k) i es h j.1)

  of-list : (e : Ex) → Ordered u e → H (list_lookup e)
  of-list (node_ex b (index (by_value ∷ [])) (more_exs (node_ex false matrix_literal es) (more_exs i no_exs))) h =
      numbered 1 i es h.1.0 h.0.1
  of-list _ h = tt

  abbrev ListHas : List Ex → Type 0
  ListHas [] = Unit {0}
  ListHas (b ∷ bs) = InOrder u b × ListHas bs

  none-has : (bs : List Ex) (a x : Ex) → ListHas bs → InOrder u x → GensOrdered u (none_at bs a x)
  none-has [] a x h k = tt
  none-has (b ∷ bs) a x h k =
      none_at-more (GensOrdered u) b a x bs (none-has bs a x h.1 k) (λ r. ((refl, ((refl, (h.0, (k, tt))), tt)), r))

  more-results : (c : Gens) (b : Ex) (o : Option (List Alternative)) → InOrder u b → GensOrdered u c → H o →
      H (option_map (λ l. record { gens = c; item = b } ∷ l) o)
  more-results c b None h k j = tt
  more-results c b (Some l) h k j = ((h, k), j)

  results-have : (bs : List Ex) (x : Ex) (ps : Exs) → ListHas bs → InOrder u x → AllOrdered u ps false → H (first_results bs x ps)
  results-have bs x no_exs h k j = tt
  results-have bs x (more_exs (node_ex false tuple_literal (more_exs a (more_exs b no_exs))) ps) h k j =
      more-results _ b (first_results (a ∷ bs) x ps) j.0.1.1.0 ((refl, (k, (j.0.1.0, tt))), none-has bs a x h k)
      (results-have (a ∷ bs) x ps (j.0.1.0, h) k j.1)
  results-have bs x _ h k j = tt

  by-cases : (f x : Ex) → InOrder u f → InOrder u x → H (pairs_by_cases f x)
  by-cases (node_ex false function_literal ps) x h k = results-have [] x ps tt k h.1
  by-cases _ x h k = tt

  of-literal : (e : Ex) → Ordered u e → H (function_literal_lookup e)
  of-literal (node_ex b application (more_exs f (more_exs a no_exs))) h = by-cases f a h.0 h.1.0
  of-literal (node_ex b (word Fun.Image) (more_exs f (more_exs a no_exs))) h = by-cases f a h.0 h.1.0
  of-literal _ h = tt

  -- What a view of a function looks up, for an application and for `image`.
  applied : (G : Ex → Ex → Option Ex) → ((f a : Ex) → Ordered u f → InOrder u a → Looks (G f a)) → (e : Ex) → Ordered u e →
      Looks (of_application G e)
  applied G k (node_ex b application (more_exs f (more_exs a no_exs))) h = k f a h.0.1 h.1.0
  applied G k (node_ex b (word Fun.Image) (more_exs f (more_exs a no_exs))) h = k f a h.0.1 h.1.0
  applied G k _ h = tt

  as-one : (y : Text) → (o : Option Ex) → Looks o → H (option_map (as_alternative y) o)
  as-one y None h = tt
  as-one y (Some l) h = ((nm u y, (h, tt)), tt)

  -- What is picked within stands in order.
  within-order : (e : Ex) → Ordered u e → Looks (picked_within e)
  within-order (node_ex b (index (q ∷ [])) (more_exs t es)) h = go (picks t)
    where
      go : (c : Bool) → Looks (if c then Some t else None)
      go true = h.0.1
      go false = tt
  within-order _ h = tt

  -- ---- items of matrices

  module _ (x : Text) where
    of-item : (e : Ex) → Ordered u e → Looks (view_item_lookup x e)
    of-item (node_ex b (index (by_value ∷ []))
        (more_exs (seen_ex (repr ReprKind.Matrix (more_reprs r no_reprs)) (matrix_dom (more_doms i is) d) ns js) (more_exs a no_exs))) h =
        (behind-order u r is d ns _ (last-order u js (name_ex x) h.0.1 (nm u x)), ((refl, (nm u x, (h.1.0, tt))), tt))
    of-item _ h = tt

    -- That a member of a domain is a.
    pub one-of : (d : Dom) (a : Ex) → InOrder u a → InOrder u (is_one_of x d a)
    one-of d a h = (refl, (((refl, (nm u x, (h, tt))), tt), tt))

    counted : (d : Dom) (i : Ex) → InOrder u i → InOrder u (count_below x d i)
    counted d i h = (refl, (((refl, tt), ((refl, (nm u x, (h, tt))), tt)), tt))

    at-places : (d : Dom) (i : Ex) (k : ℕ) (es : Exs) → InOrder u i → AllOrdered u es false →
        AllAlternatives u (items_at_places x d i k es)
    at-places d i k no_exs h j = tt
    at-places d i k (more_exs e es) h j =
        ((j.0, (one-of d i h, ((refl, (counted d i h, ((refl, tt), tt))), tt))), at-places d i (suc k) es h j.1)

    of-placed : (e : Ex) → Ordered u e → H (domain_list_lookup x e)
    of-placed (node_ex b (index (by_value ∷ [])) (more_exs (matrix_ex es d) (more_exs i no_exs))) h = at-places d i 0 es h.1.0 h.0.1
    of-placed _ h = tt

  -- ---- results

  total-order : (r : Run) → RunOrder u r → (p : Repr) (d c : Dom) (ns : List Text) (js : Exs) (a : Ex) → AllOrdered u js false →
      InOrder u a → Ordered u (total_result r p d c ns js a)
  total-order r k p d c ns js a h q = ((refl, append-all u js r.keys h k.keys), ((refl, (k.argument, (q, tt))), tt))

  flagged-order : (r : Run) → RunOrder u r → (p : Repr) (d c : Dom) (t : Text) (ns : List Text) (js : Exs) (a : Ex) →
      AllOrdered u js false → InOrder u a → Ordered u (flagged_result r p d c t ns js a)
  flagged-order r k p d c t ns js a h q = (
    (refl, append-all u js r.keys h k.keys),
    ((refl, (k.argument, (q, tt))), ((refl, append-all u js r.keys h k.keys), tt)),
  )

  looks-when : (c : Bool) (l : Ex) → Ordered u l → Looks (if c then Some l else None)
  looks-when true l h = h
  looks-when false l h = tt

  module _ (x : Text) where
    result-1d : (f a : Ex) → Ordered u f → InOrder u a → Looks (function_1d_result x f a)
    result-1d (seen_ex (repr ReprKind.Function1D (more_reprs r no_reprs)) (function_dom ms es d c) ns js) a h k =
        total-order (by_name x) (name-order u x) r d c ns js a h k
    result-1d _ a h k = tt

    result-1d-partial : (f a : Ex) → Ordered u f → InOrder u a → Looks (function_1d_partial_result x f a)
    result-1d-partial (seen_ex (repr ReprKind.Function1DPartial (more_reprs r no_reprs)) (function_dom ms es d c) (t ∷ ns) js) a h k =
        flagged-order (by_name x) (name-order u x) r d c t ns js a h k
    result-1d-partial _ a h k = tt

  module _ (xs : List Text) where
    result-nd : (f a : Ex) → Ordered u f → InOrder u a → Looks (function_nd_result xs f a)
    result-nd (seen_ex (repr ReprKind.FunctionND (more_reprs r no_reprs)) (function_dom ms es (tuple_dom ds) c) ns js) a h k =
        looks-when (names_fit xs ds) (total_result (by_names xs) r (tuple_dom ds) c ns js a)
        (total-order (by_names xs) (names-run-order u xs) r (tuple_dom ds) c ns js a h k)
    result-nd _ a h k = tt

    result-nd-partial : (f a : Ex) → Ordered u f → InOrder u a → Looks (function_nd_partial_result xs f a)
    result-nd-partial (seen_ex (repr ReprKind.FunctionNDPartial (more_reprs r no_reprs)) (function_dom ms es (tuple_dom ds) c) (t ∷ ns) js)
        a h k =
        looks-when (names_fit xs ds) (flagged_result (by_names xs) r (tuple_dom ds) c t ns js a)
        (flagged-order (by_names xs) (names-run-order u xs) r (tuple_dom ds) c t ns js a h k)
    result-nd-partial _ a h k = tt

  module _ (x : Text) where
    of-view : (zs : List Text) (e : Ex) → Ordered u e → Looks (function_view_lookup x zs e)
    of-view zs e h = either-looks (function_1d_lookup x e)
        (or_else (function_1d_partial_lookup x e) (or_else (function_nd_lookup zs e) (function_nd_partial_lookup zs e)))
        (applied (function_1d_result x) (result-1d x) e h)
        (either-looks (function_1d_partial_lookup x e) (or_else (function_nd_lookup zs e) (function_nd_partial_lookup zs e))
        (applied (function_1d_partial_result x) (result-1d-partial x) e h)
        (either-looks (function_nd_lookup zs e) (function_nd_partial_lookup zs e)
        (applied (function_nd_result zs) (result-nd zs) e h)
        (applied (function_nd_partial_result zs) (result-nd-partial zs) e h)))

    of-party : (e : Ex) → Ordered u e → Looks (party_lookup x e)
    of-party (node_ex b (word Fun.Party) (more_exs a (more_exs p no_exs))) h =
        (nm u x, ((h.1.0, tt), ((refl, (h.0, (nm u x, tt))), tt)))
    of-party _ h = tt

    pairs : (t : Option Ty) (f a : Ex) → Ordered u f → InOrder u a → Looks (pairs_at t x f a)
    pairs (Some (compound2 a_function t v)) f a h k = ((refl, (nm u x, tt)), (h, ((refl, ((refl, (nm u x, tt)), (k, tt))), tt)))
    pairs (Some any_ty) f a h k = ((refl, (nm u x, tt)), (h, ((refl, ((refl, (nm u x, tt)), (k, tt))), tt)))
    pairs _ f a h k = tt

    of-function : (g : Names Ty) (e : Ex) → Ordered u e → Looks (function_lookup g x e)
    of-function g (node_ex b application (more_exs f (more_exs a no_exs))) h = pairs (type_of f g) f a h.0.1 h.1.0
    of-function g (node_ex b (word Fun.Image) (more_exs f (more_exs a no_exs))) h = pairs (type_of f g) f a h.0.1 h.1.0
    of-function g _ h = tt

    of-one : (g : Names Ty) (zs : List Text) (e : Ex) → Ordered u e → Looks (one_lookup g x zs e)
    of-one g zs e h = let ns = names_of_argument zs e in
        either-looks (function_view_lookup x ns e) (or_else (view_item_lookup x e) (or_else (party_lookup x e) (function_lookup g x e)))
        (of-view ns e h)
        (either-looks (view_item_lookup x e) (or_else (party_lookup x e) (function_lookup g x e)) (of-item x e h)
        (either-looks (party_lookup x e) (function_lookup g x e) (of-party e h) (of-function g e h)))

    alone-order : (g : Names Ty) (y : Text) (zs : List Text) (e : Ex) → Ordered u e → H (looked_up_alone g x y zs e)
    alone-order g y zs e h = let one = option_map (as_alternative y) (one_lookup g x zs e) in
        either-picks (list_lookup e) (or_else (domain_list_lookup x e) (or_else (function_literal_lookup e) one)) (of-list e h)
        (either-picks (domain_list_lookup x e) (or_else (function_literal_lookup e) one) (of-placed x e h)
        (either-picks (function_literal_lookup e) one (of-literal e h) (as-one y (one_lookup g x zs e) (of-one g zs e h))))

  -- What the expression picks.
  pub picked-order : (g : Names Ty) (x : Text) (zs : List Text) (e : Ex) → Ordered u e → H (looked_up g x zs e)
  picked-order g x [] e h = tt
  picked-order g x (y ∷ zs) e h = go (picked_within e) (within-order e h) (λ t k. picked-order g x zs t k)
    where
      behind : (l : Option (List Alternative)) → H l → H (and_then l (λ l. lookup_through_each y 1 l e))
      behind None k = tt
      behind (Some l) k = through-each u y 1 l e k h

      go : (p : Option Ex) → Looks p → ((t : Ex) → Ordered u t → H (looked_up g x zs t)) → H (elim p [
        | None ↦ looked_up_alone g x y zs e
        | Some t ↦ and_then (looked_up g x zs t) (λ l. lookup_through_each y 1 l e)
      ])
      go None k r = alone-order x g y zs e h
      go (Some t) k r = behind (looked_up g x zs t) (r t k)
