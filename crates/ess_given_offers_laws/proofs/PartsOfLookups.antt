-- What a selection picks has what is wanted of the parts of a tree, where the selection has it.
use Rattle.std.proofs.Common.{Bool, true, false, if◌then◌else◌, List, [], ◌∷◌, ℕ, suc, Option, Some, None, option_map}
use Rattle.std.specs.Prelude.{IsTrue}
use Rattle.ess_semantics.specs.declared.words.ReprKind.{ReprKind}
use Rattle.ess_semantics.specs.declared.words.Fun.{Fun}
use Rattle.ess_semantics.specs.Lists.{and_then, or_else}
use Rattle.ess_semantics.specs.Values.{Text, a_function}
use Rattle.ess_semantics.specs.Names.{Names}
use Rattle.ess_semantics.specs.Trees.{name_pat, Mark, Repr, repr, no_reprs, more_reprs, by_value, index, application, word, tuple_literal, matrix_literal, function_literal, Ex, Exs, name_ex, node_ex, matrix_ex, seen_ex, no_exs, more_exs, Gens, Dom, function_dom, tuple_dom, matrix_dom, more_doms}
use Rattle.ess_semantics.specs.Types.{Ty, any_ty, compound2}
use Rattle.ess_semantics.specs.Typing.{type_of}
use Rattle.ess_rules_laws.specs.Listings.{Alternative}
use Rattle.ess_rules_laws.specs.FunctionViews.{by_name, by_names, names_fit, total_result, flagged_result, of_application, Run}
use Rattle.ess_rules_laws.specs.Function1DViews.{function_1d_result, function_1d_lookup}
use Rattle.ess_rules_laws.specs.Function1DPartialViews.{function_1d_partial_result, function_1d_partial_lookup}
use Rattle.ess_rules_laws.specs.FunctionNDViews.{function_nd_result, function_nd_lookup}
use Rattle.ess_rules_laws.specs.FunctionNDPartialViews.{function_nd_partial_result, function_nd_partial_lookup}
use Rattle.ess_rules_laws.specs.FunctionLookups.{pairs_at, function_lookup}
use Rattle.ess_rules_laws.specs.AlternativeLookups.{numbered_items, list_lookup, none_at, first_results, pairs_by_cases}
use Rattle.ess_rules_laws.specs.AlternativeLookups.{function_literal_lookup, as_alternative, lookup_through_each}
use Rattle.ess_rules_laws.proofs.NoneOf.{none_at-more}
use Rattle.ess_views_laws.specs.PartitionViews.{is_one_of}
use Rattle.ess_kind_rules_laws.specs.ViewListings.{dom_seen}
use Rattle.ess_kind_rules_laws.specs.TermLookups.{picks, picked_within, view_item_lookup, count_below, items_at_places, domain_list_lookup, party_lookup, names_of_argument, function_view_lookup, one_lookup, looked_up_alone, looked_up}
use Rattle.ess_given_laws.specs.PartsHave.{Wanted, PartsHave, AllHave, TablesHave, GensHave}
use Rattle.ess_given_laws.proofs.PartsOfFolds.{Answers, HaveAll, HaveSome, when}
use Rattle.ess_given_offers_laws.specs.Seen.{Sees, OverDomains, EachOver, OverAny, EachAny, RunHas}
use Rattle.ess_given_offers_laws.proofs.PartsOfPicks.{through-each}
use Rattle.ess_given_offers_laws.proofs.SeenParts.{first-inner, result-inner, index-inner, last-has, append-has, names-over, name-runs, names-run, behind-has}

module _ (w : Wanted) where
  abbrev A : Option Ex → Type 0
  A r = Answers w r

  abbrev H : Option (List Alternative) → Type 0
  H o = HaveSome w o

  -- Of two ways to pick, the first that is there.
  pub either-picks : (o p : Option (List Alternative)) → H o → H p → H (or_else o p)
  either-picks None p h k = k
  either-picks (Some l) p h k = h

  -- Of two ways to look up, the first that is there.
  pub either-looks : (o p : Option Ex) → A o → A p → A (or_else o p)
  either-looks None p h k = k
  either-looks (Some l) p h k = h

  -- ---- literals

  numbered : (k : ℕ) (i : Ex) (es : Exs) → PartsHave w i → AllHave w es → HaveAll w (numbered_items k i es)
  numbered k i no_exs h j = tt
  numbered k i (more_exs e es) h j = ((j.0, ((h, (tt, tt)), tt)), numbered (suc k) i es h j.1)

  -- An item of a list.
  pub of-list : (e : Ex) → PartsHave w e → H (list_lookup e)
  of-list (node_ex b (index (by_value ∷ [])) (more_exs (node_ex false matrix_literal es) (more_exs i no_exs))) h = numbered 1 i es h.1.0 h.0
  of-list _ h = tt

  abbrev ListHas : List Ex → Type 0
  ListHas [] = Unit {0}
  ListHas (b ∷ bs) = PartsHave w b × ListHas bs

  none-has : (bs : List Ex) (a x : Ex) → ListHas bs → PartsHave w x → GensHave w (none_at bs a x)
  none-has [] a x h k = tt
  none-has (b ∷ bs) a x h k = none_at-more (GensHave w) b a x bs (none-has bs a x h.1 k) (λ r. (((h.0, (k, tt)), tt), r))

  more-results : (c : Gens) (b : Ex) (o : Option (List Alternative)) → PartsHave w b → GensHave w c → H o →
      H (option_map (λ l. record { gens = c; item = b } ∷ l) o)
  more-results c b None h k j = tt
  more-results c b (Some l) h k j = ((h, k), j)

  results-have : (bs : List Ex) (x : Ex) (ps : Exs) → ListHas bs → PartsHave w x → AllHave w ps → H (first_results bs x ps)
  results-have bs x no_exs h k j = tt
  results-have bs x (more_exs (node_ex false tuple_literal (more_exs a (more_exs b no_exs))) ps) h k j =
      more-results _ b (first_results (a ∷ bs) x ps) j.0.1.0 ((k, (j.0.0, tt)), none-has bs a x h k)
      (results-have (a ∷ bs) x ps (j.0.0, h) k j.1)
  results-have bs x _ h k j = tt

  by-cases : (f x : Ex) → PartsHave w f → PartsHave w x → H (pairs_by_cases f x)
  by-cases (node_ex false function_literal ps) x h k = results-have [] x ps tt k h
  by-cases _ x h k = tt

  -- A result of a function literal.
  pub of-literal : (e : Ex) → PartsHave w e → H (function_literal_lookup e)
  of-literal (node_ex b application (more_exs f (more_exs a no_exs))) h = by-cases f a h.0 h.1.0
  of-literal (node_ex b (word Fun.Image) (more_exs f (more_exs a no_exs))) h = by-cases f a h.0 h.1.0
  of-literal _ h = tt

  -- What a view of a function looks up, for an application and for `image`.
  applied : (G : Ex → Ex → Option Ex) → ((f a : Ex) → PartsHave w f → PartsHave w a → A (G f a)) → (e : Ex) → PartsHave w e →
      A (of_application G e)
  applied G k (node_ex b application (more_exs f (more_exs a no_exs))) h = k f a h.0 h.1.0
  applied G k (node_ex b (word Fun.Image) (more_exs f (more_exs a no_exs))) h = k f a h.0 h.1.0
  applied G k _ h = tt

  -- A lookup as the one alternative, whose item has a name.
  pub as-one : (y : Text) → IsTrue (w.name y) → ((k : Ex) → IsTrue (w.draws (name_pat y) k)) → (o : Option Ex) → A o →
      H (option_map (as_alternative y) o)
  as-one y n d None h = tt
  as-one y n d (Some l) h = ((n, (d l, h, tt)), tt)

  -- What is picked within has it where the whole has it.
  pub within-has : (e : Ex) → PartsHave w e → A (picked_within e)
  within-has (node_ex b (index (q ∷ [])) (more_exs t es)) h = go (picks t)
    where
      go : (c : Bool) → A (if c then Some t else None)
      go true = h.0
      go false = tt
  within-has _ h = tt

  module _ (u : Text → Bool) (s : Sees w u) where
    abbrev Dm : Dom → Type 0
    Dm d = IsTrue (w.dom d)

    -- ---- items of matrices

    module _ (x : Text) (o : OverDomains w x) where
      -- An item of a view of a matrix.
      pub of-item : (e : Ex) → PartsHave w e → A (view_item_lookup x e)
      of-item (node_ex b (index (by_value ∷ []))
          (more_exs (seen_ex (repr ReprKind.Matrix (more_reprs r no_reprs)) (matrix_dom (more_doms i is) d) ns js)
          (more_exs a no_exs))) h = (
            behind-has u w s r i is d ns _ h.0.0 h.0.1 (last-has u w s js (name_ex x) h.0.2 o.0),
            (o.1, index-inner u w s i is d h.0.1, ((o.0, (h.1.0, tt)), tt)),
          )
      of-item _ h = tt

      -- That a member of a domain is a.
      pub one-of : (d : Dom) (a : Ex) → Dm d → PartsHave w a → PartsHave w (is_one_of x d a)
      one-of d a h k = (((o.0, (k, tt)), (o.1, h, tt)), tt)

      counted : (d : Dom) (i : Ex) → Dm d → PartsHave w i → PartsHave w (count_below x d i)
      counted d i h k = ((tt, (o.1, h, ((o.0, (k, tt)), tt))), tt)

      at-places : (d : Dom) (i : Ex) (k : ℕ) (es : Exs) → Dm d → PartsHave w i → AllHave w es → HaveAll w (items_at_places x d i k es)
      at-places d i k no_exs h j q = tt
      at-places d i k (more_exs e es) h j q =
          ((q.0, (one-of d i h j, ((counted d i h j, (tt, tt)), tt))), at-places d i (suc k) es h j q.1)

      -- An item of a matrix literal over an index domain.
      pub of-placed : (e : Ex) → PartsHave w e → H (domain_list_lookup x e)
      of-placed (node_ex b (index (by_value ∷ [])) (more_exs (matrix_ex es d) (more_exs i no_exs))) h =
          at-places d i 0 es h.0.1 h.1.0 h.0.0
      of-placed _ h = tt

    -- ---- results

    total-result : (r : Run) → RunHas w r → (p : Repr) (ms : List Mark) (es : Exs) (d c : Dom) (ns : List Text) (js : Exs) (a : Ex) →
        TablesHave w ns → Dm (function_dom ms es d c) → AllHave w js → PartsHave w a → PartsHave w (total_result r p d c ns js a)
    total-result r k p ms es d c ns js a h i j q = (
      (h, result-inner u w s ms es d c i, append-has u w s js r.keys j k.keys),
      (k.pattern, first-inner u w s ms es d c i, ((k.argument, (q, tt)), tt)),
    )

    flagged-result : (r : Run) → RunHas w r → (p : Repr) (ms : List Mark) (es : Exs) (d c : Dom) (t : Text) (ns : List Text) (js : Exs)
        (a : Ex) → IsTrue (w.table t) → TablesHave w ns → Dm (function_dom ms es d c) → AllHave w js → PartsHave w a →
        PartsHave w (flagged_result r p d c t ns js a)
    flagged-result r k p ms es d c t ns js a f h i j q = (
      (h, result-inner u w s ms es d c i, append-has u w s js r.keys j k.keys),
      (
        k.pattern,
        first-inner u w s ms es d c i,
        ((k.argument, (q, tt)), ((f, append-has u w s js r.keys j k.keys), tt)),
      ),
    )

    module _ (x : Text) (o : OverDomains w x) where
      result-1d : (f a : Ex) → PartsHave w f → PartsHave w a → A (function_1d_result x f a)
      result-1d (seen_ex (repr ReprKind.Function1D (more_reprs r no_reprs)) (function_dom ms es d c) ns js) a h k =
          total-result (by_name x) (name-runs u w s x o) r ms es d c ns js a h.0 h.1 h.2 k
      result-1d _ a h k = tt

      result-1d-partial : (f a : Ex) → PartsHave w f → PartsHave w a → A (function_1d_partial_result x f a)
      result-1d-partial (seen_ex (repr ReprKind.Function1DPartial (more_reprs r no_reprs)) (function_dom ms es d c) (t ∷ ns) js) a h k =
          flagged-result (by_name x) (name-runs u w s x o) r ms es d c t ns js a h.0.0 h.0.1 h.1 h.2 k
      result-1d-partial _ a h k = tt

    module _ (xs : List Text) (o : EachOver w xs) where
      result-nd : (f a : Ex) → PartsHave w f → PartsHave w a → A (function_nd_result xs f a)
      result-nd (seen_ex (repr ReprKind.FunctionND (more_reprs r no_reprs)) (function_dom ms es (tuple_dom ds) c) ns js) a h k =
          when w (names_fit xs ds) (total_result (by_names xs) r (tuple_dom ds) c ns js a)
          (total-result (by_names xs) (names-run u w s xs o) r ms es (tuple_dom ds) c ns js a h.0 h.1 h.2 k)
      result-nd _ a h k = tt

      result-nd-partial : (f a : Ex) → PartsHave w f → PartsHave w a → A (function_nd_partial_result xs f a)
      result-nd-partial (seen_ex (repr ReprKind.FunctionNDPartial (more_reprs r no_reprs)) (function_dom ms es (tuple_dom ds) c) (t ∷ ns)
          js) a h k =
          when w (names_fit xs ds) (flagged_result (by_names xs) r (tuple_dom ds) c t ns js a)
          (flagged-result (by_names xs) (names-run u w s xs o) r ms es (tuple_dom ds) c t ns js a h.0.0 h.0.1 h.1 h.2 k)
      result-nd-partial _ a h k = tt

    -- Names over any source are names over domains.
    pub any-over : (zs : List Text) → EachAny w zs → EachOver w zs
    any-over [] h = tt
    any-over (z ∷ zs) h = (h.0.0, any-over zs h.1)

    -- The names for the components of an argument.
    pub argument-names : (zs : List Text) (e : Ex) → EachOver w zs → EachOver w (names_of_argument zs e)
    argument-names zs (node_ex b op (more_exs f es)) h = names-over u w s zs (dom_seen f) h
    argument-names zs _ h = tt

    module _ (x : Text) (o : OverDomains w x) where
      -- The result of a view of a function.
      pub of-view : (zs : List Text) → EachOver w zs → (e : Ex) → PartsHave w e → A (function_view_lookup x zs e)
      of-view zs z e h = either-looks (function_1d_lookup x e)
          (or_else (function_1d_partial_lookup x e) (or_else (function_nd_lookup zs e) (function_nd_partial_lookup zs e)))
          (applied (function_1d_result x) (result-1d x o) e h)
          (either-looks (function_1d_partial_lookup x e) (or_else (function_nd_lookup zs e) (function_nd_partial_lookup zs e))
          (applied (function_1d_partial_result x) (result-1d-partial x o) e h)
          (either-looks (function_nd_lookup zs e) (function_nd_partial_lookup zs e)
          (applied (function_nd_result zs) (result-nd zs z) e h)
          (applied (function_nd_partial_result zs) (result-nd-partial zs z) e h)))

    module _ (x : Text) (o : OverAny w x) where
      of-party : (e : Ex) → PartsHave w e → A (party_lookup x e)
      of-party (node_ex b (word Fun.Party) (more_exs a (more_exs p no_exs))) h =
          (o.0.0, (o.1 _, (h.1.0, tt), ((h.0, (o.0.0, tt)), tt)))
      of-party _ h = tt

      pairs : (t : Option Ty) (f a : Ex) → PartsHave w f → PartsHave w a → A (pairs_at t x f a)
      pairs (Some (compound2 a_function t v)) f a h k = ((o.0.0, tt), (o.1 f, h, (((o.0.0, tt), (k, tt)), tt)))
      pairs (Some any_ty) f a h k = ((o.0.0, tt), (o.1 f, h, (((o.0.0, tt), (k, tt)), tt)))
      pairs _ f a h k = tt

      of-function : (g : Names Ty) (e : Ex) → PartsHave w e → A (function_lookup g x e)
      of-function g (node_ex b application (more_exs f (more_exs a no_exs))) h = pairs (type_of f g) f a h.0 h.1.0
      of-function g (node_ex b (word Fun.Image) (more_exs f (more_exs a no_exs))) h = pairs (type_of f g) f a h.0 h.1.0
      of-function g _ h = tt

      of-one : (g : Names Ty) (zs : List Text) → EachAny w zs → (e : Ex) → PartsHave w e → A (one_lookup g x zs e)
      of-one g zs z e h = let ns = names_of_argument zs e in
          either-looks (function_view_lookup x ns e) (or_else (view_item_lookup x e) (or_else (party_lookup x e) (function_lookup g x e)))
          (of-view x o.0 ns (argument-names zs e (any-over zs z)) e h)
          (either-looks (view_item_lookup x e) (or_else (party_lookup x e) (function_lookup g x e)) (of-item x o.0 e h)
          (either-looks (party_lookup x e) (function_lookup g x e) (of-party e h) (of-function g e h)))

      alone-has : (g : Names Ty) (y : Text) → OverAny w y → (zs : List Text) → EachAny w zs → (e : Ex) → PartsHave w e →
          H (looked_up_alone g x y zs e)
      alone-has g y q zs z e h = let one = option_map (as_alternative y) (one_lookup g x zs e) in
          either-picks (list_lookup e) (or_else (domain_list_lookup x e) (or_else (function_literal_lookup e) one)) (of-list e h)
          (either-picks (domain_list_lookup x e) (or_else (function_literal_lookup e) one) (of-placed x o.0 e h)
          (either-picks (function_literal_lookup e) one (of-literal e h) (as-one y q.0.0 q.1 (one_lookup g x zs e) (of-one g zs z e h))))

    -- What the expression picks.
    pub picked-has : (g : Names Ty) (x : Text) (zs : List Text) → OverAny w x → EachAny w zs → (e : Ex) → PartsHave w e →
        H (looked_up g x zs e)
    picked-has g x [] o z e h = tt
    picked-has g x (y ∷ zs) o z e h = go (picked_within e) (within-has e h) (λ t k. picked-has g x zs o z.1 t k)
      where
        behind : (l : Option (List Alternative)) → H l → H (and_then l (λ l. lookup_through_each y 1 l e))
        behind None k = tt
        behind (Some l) k = through-each w y z.0.0.0 z.0.1 1 l e k h

        go : (p : Option Ex) → A p → ((t : Ex) → PartsHave w t → H (looked_up g x zs t)) → H (elim p [
          | None ↦ looked_up_alone g x y zs e
          | Some t ↦ and_then (looked_up g x zs t) (λ l. lookup_through_each y 1 l e)
        ])
        go None k r = alone-has x o g y z.0 zs z.1 e h
        go (Some t) k r = behind (looked_up g x zs t) (r t k)
