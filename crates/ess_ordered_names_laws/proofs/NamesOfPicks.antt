-- What selections pick has the names of what they are made of, and of the tables of the view that they pick from.
use Rattle.std.proofs.Common.{ℕ, suc, Bool, true, false, if◌then◌else◌, List, [], ◌∷◌, Option, Some, None, option_map}
use Rattle.std.specs.Prelude.{IsTrue}
use Rattle.ess_semantics.specs.declared.words.Fun.{Fun}
use Rattle.ess_semantics.specs.declared.words.ReprKind.{ReprKind}
use Rattle.ess_semantics.specs.Lists.{and_then, or_else}
use Rattle.ess_semantics.specs.Values.{Text, a_function}
use Rattle.ess_semantics.specs.Names.{Names}
use Rattle.ess_semantics.specs.Trees.{Repr, repr, no_reprs, more_reprs, by_value, index, application, word, tuple_literal, matrix_literal, function_literal, Ex, Exs, name_ex, node_ex, matrix_ex, seen_ex, no_exs, more_exs, Gens, Dom, Doms, no_doms, more_doms, function_dom, relation_dom, tuple_dom, matrix_dom}
use Rattle.ess_semantics.specs.Types.{Ty, any_ty, compound2}
use Rattle.ess_semantics.specs.Typing.{type_of}
use Rattle.ess_semantics.specs.Substitution.{Binds, BindsAll}
use Rattle.ess_rules_laws.specs.Listings.{Alternative}
use Rattle.ess_rules_laws.specs.SetListings.{put_last}
use Rattle.ess_rules_laws.specs.FunctionViews.{Run, by_name, by_names, append_exs, name_exs, name_pats, names_fit, total_result, flagged_result, of_application}
use Rattle.ess_rules_laws.specs.Function1DViews.{function_1d_result, function_1d_lookup}
use Rattle.ess_rules_laws.specs.Function1DPartialViews.{function_1d_partial_result, function_1d_partial_lookup}
use Rattle.ess_rules_laws.specs.FunctionNDViews.{function_nd_result, function_nd_lookup}
use Rattle.ess_rules_laws.specs.FunctionNDPartialViews.{function_nd_partial_result, function_nd_partial_lookup}
use Rattle.ess_rules_laws.specs.FunctionLookups.{pairs_at, function_lookup}
use Rattle.ess_rules_laws.specs.AlternativeLookups.{numbered_items, list_lookup, none_at, first_results, pairs_by_cases}
use Rattle.ess_rules_laws.specs.AlternativeLookups.{function_literal_lookup, as_alternative, lookup_through_each}
use Rattle.ess_rules_laws.proofs.NoneOf.{none_at-more}
use Rattle.ess_views_laws.specs.MatrixViews.{behind_index}
use Rattle.ess_kind_rules_laws.specs.ViewListings.{dom_seen, one_each, names_for}
use Rattle.ess_kind_rules_laws.specs.TermLookups.{picks, picked_within, view_item_lookup, items_at_places, domain_list_lookup, party_lookup, names_of_argument, function_view_lookup, one_lookup, looked_up_alone, looked_up}
use Rattle.ess_chain_names_laws.specs.NamesHave.{NamesHave, AllNamesHave, GensNamesHave, DomNamesHave, DomsNamesHave, EachHas}
use Rattle.ess_chain_names_laws.proofs.NamesOfFolds.{Answers, HaveAll, HaveSome, when}
use Rattle.ess_ordered_names_laws.specs.OrderedNames.{ViewHas}
use Rattle.ess_ordered_names_laws.proofs.NamesOfLookups.{through-names}

module _ (u : Text → Bool) where
  -- Of two ways to pick, the first that is there.
  pub either-picks : (o p : Option (List Alternative)) → HaveSome u o → HaveSome u p → HaveSome u (or_else o p)
  either-picks None p h k = k
  either-picks (Some l) p h k = h

  -- Of two lookups, the first that is there.
  either-looks : (o p : Option Ex) → Answers u o → Answers u p → Answers u (or_else o p)
  either-looks None p h k = k
  either-looks (Some l) p h k = h

  -- ---- literals

  numbered : (k : ℕ) (i : Ex) (es : Exs) → NamesHave u i → AllNamesHave u es → HaveAll u (numbered_items k i es)
  numbered k i no_exs h j = tt
  numbered k i (more_exs e es) h j = ((j.0, ((h, (tt, tt)), tt)), numbered (suc k) i es h j.1)

  -- An item of a list.
  of-list : (e : Ex) → NamesHave u e → HaveSome u (list_lookup e)
  of-list (node_ex b (index (by_value ∷ [])) (more_exs (node_ex false matrix_literal es) (more_exs i no_exs))) h = numbered 1 i es h.1.0 h.0
  of-list _ h = tt

  abbrev ListHas : List Ex → Type 0
  ListHas [] = Unit {0}
  ListHas (b ∷ bs) = NamesHave u b × ListHas bs

  none-has : (bs : List Ex) (a x : Ex) → ListHas bs → NamesHave u x → GensNamesHave u (none_at bs a x)
  none-has [] a x h k = tt
  none-has (b ∷ bs) a x h k = none_at-more (GensNamesHave u) b a x bs (none-has bs a x h.1 k) (λ r. (((h.0, (k, tt)), tt), r))

  more-results : (c : Gens) (b : Ex) (o : Option (List Alternative)) → NamesHave u b → GensNamesHave u c → HaveSome u o →
      HaveSome u (option_map (λ l. record { gens = c; item = b } ∷ l) o)
  more-results c b None h k j = tt
  more-results c b (Some l) h k j = ((h, k), j)

  results-have : (bs : List Ex) (x : Ex) (ps : Exs) → ListHas bs → NamesHave u x → AllNamesHave u ps →
      HaveSome u (first_results bs x ps)
  results-have bs x no_exs h k j = tt
  results-have bs x (more_exs (node_ex false tuple_literal (more_exs a (more_exs b no_exs))) ps) h k j =
      more-results _ b (first_results (a ∷ bs) x ps) j.0.1.0 ((k, (j.0.0, tt)), none-has bs a x h k)
      (results-have (a ∷ bs) x ps (j.0.0, h) k j.1)
  results-have bs x _ h k j = tt

  by-cases : (f x : Ex) → NamesHave u f → NamesHave u x → HaveSome u (pairs_by_cases f x)
  by-cases (node_ex false function_literal ps) x h k = results-have [] x ps tt k h
  by-cases _ x h k = tt

  -- A result of a function literal.
  of-literal : (e : Ex) → NamesHave u e → HaveSome u (function_literal_lookup e)
  of-literal (node_ex b application (more_exs f (more_exs a no_exs))) h = by-cases f a h.0 h.1.0
  of-literal (node_ex b (word Fun.Image) (more_exs f (more_exs a no_exs))) h = by-cases f a h.0 h.1.0
  of-literal _ h = tt

  -- ---- views of matrices

  last-has : (js : Exs) (a : Ex) → AllNamesHave u js → NamesHave u a → AllNamesHave u (put_last js a)
  last-has no_exs a h k = (k, tt)
  last-has (more_exs e js) a h k = (h.0, last-has js a h.1 k)

  index-has : (r : Repr) (is : Doms) (d : Dom) (ns : List Text) (js : Exs) → DomsNamesHave u is → DomNamesHave u d → AllNamesHave u js →
      NamesHave u (behind_index r is d ns js)
  index-has r no_doms d ns js h k j = (k, j)
  index-has r (more_doms i is) d ns js h k j = ((h, k), j)

  -- An item of a view of a matrix.
  of-item : (x : Text) → IsTrue (u x) → (e : Ex) → NamesHave u e → Answers u (view_item_lookup x e)
  of-item x n (node_ex b (index (by_value ∷ []))
      (more_exs (seen_ex (repr ReprKind.Matrix (more_reprs r no_reprs)) (matrix_dom (more_doms i is) d) ns js)
      (more_exs a no_exs))) h = (
        index-has r is d ns (put_last js (name_ex x)) h.0.0.0.1 h.0.0.1 (last-has js (name_ex x) h.0.1 n),
        (n, h.0.0.0.0, ((n, (h.1.0, tt)), tt)),
      )
  of-item x n _ h = tt

  at-places : (x : Text) (d : Dom) (i : Ex) (k : ℕ) (es : Exs) → IsTrue (u x) → DomNamesHave u d → NamesHave u i → AllNamesHave u es →
      HaveAll u (items_at_places x d i k es)
  at-places x d i k no_exs n h j q = tt
  at-places x d i k (more_exs e es) n h j q = (
    (q.0, ((((n, (j, tt)), (n, h, tt)), tt), (((((tt, (n, h, ((n, (j, tt)), tt))), tt), (tt, tt))), tt))),
    at-places x d i (suc k) es n h j q.1,
  )

  -- An item of a matrix literal over an index domain.
  of-placed : (x : Text) → IsTrue (u x) → (e : Ex) → NamesHave u e → HaveSome u (domain_list_lookup x e)
  of-placed x n (node_ex b (index (by_value ∷ [])) (more_exs (matrix_ex es d) (more_exs i no_exs))) h =
      at-places x d i 0 es n h.0.1 h.1.0 h.0.0
  of-placed x n _ h = tt

  -- ---- results of views of functions

  -- How a generator runs over arguments.
  record RunHas (r : Run) : Type 0 where
    pattern : Binds u r.pattern
    keys : AllNamesHave u r.keys
    argument : NamesHave u r.argument

  append-has : (js ks : Exs) → AllNamesHave u js → AllNamesHave u ks → AllNamesHave u (append_exs js ks)
  append-has no_exs ks h k = k
  append-has (more_exs e js) ks h k = (h.0, append-has js ks h.1 k)

  names-have : (zs : List Text) → EachHas u zs → AllNamesHave u (name_exs zs)
  names-have [] h = tt
  names-have (z ∷ zs) h = (h.0, names-have zs h.1)

  patterns-have : (zs : List Text) → EachHas u zs → BindsAll u (name_pats zs)
  patterns-have [] h = tt
  patterns-have (z ∷ zs) h = (h.0, patterns-have zs h.1)

  name-runs : (x : Text) → IsTrue (u x) → RunHas (by_name x)
  name-runs x n = record { pattern = n; keys = (n, tt); argument = n }

  names-run : (zs : List Text) → EachHas u zs → RunHas (by_names zs)
  names-run zs n = record { pattern = patterns-have zs n; keys = names-have zs n; argument = names-have zs n }

  total-names : (r : Run) → RunHas r → (p : Repr) (d c : Dom) (ns : List Text) (js : Exs) (a : Ex) → DomNamesHave u d →
      DomNamesHave u c → AllNamesHave u js → NamesHave u a → NamesHave u (total_result r p d c ns js a)
  total-names r k p d c ns js a h i j q = ((i, append-has js r.keys j k.keys), (k.pattern, h, ((k.argument, (q, tt)), tt)))

  flagged-names : (r : Run) → RunHas r → (p : Repr) (d c : Dom) (t : Text) (ns : List Text) (js : Exs) (a : Ex) → IsTrue (u t) →
      DomNamesHave u d → DomNamesHave u c → AllNamesHave u js → NamesHave u a → NamesHave u (flagged_result r p d c t ns js a)
  flagged-names r k p d c t ns js a f h i j q = (
    (i, append-has js r.keys j k.keys),
    (k.pattern, h, ((k.argument, (q, tt)), ((f, append-has js r.keys j k.keys), tt))),
  )

  -- What a view of a function offers of an argument.
  abbrev Results : (Ex → Ex → Option Ex) → Type 0
  Results G = (f a : Ex) → NamesHave u f → ViewHas u f → NamesHave u a → Answers u (G f a)

  applied : (G : Ex → Ex → Option Ex) → Results G → (e : Ex) → NamesHave u e → ViewHas u e → Answers u (of_application G e)
  applied G k (node_ex b application (more_exs f (more_exs a no_exs))) h v = k f a h.0 v h.1.0
  applied G k (node_ex b (word Fun.Image) (more_exs f (more_exs a no_exs))) h v = k f a h.0 v h.1.0
  applied G k _ h v = tt

  of-1d : (x : Text) → IsTrue (u x) → Results (function_1d_result x)
  of-1d x n (seen_ex (repr ReprKind.Function1D (more_reprs r no_reprs)) (function_dom ms es d c) ns js) a h v k =
      total-names (by_name x) (name-runs x n) r d c ns js a h.0.1 h.0.2 h.1 k
  of-1d x n _ a h v k = tt

  of-1d-partial : (x : Text) → IsTrue (u x) → Results (function_1d_partial_result x)
  of-1d-partial x n (seen_ex (repr ReprKind.Function1DPartial (more_reprs r no_reprs)) (function_dom ms es d c) (t ∷ ns) js) a h v k =
      flagged-names (by_name x) (name-runs x n) r d c t ns js a v.0 h.0.1 h.0.2 h.1 k
  of-1d-partial x n _ a h v k = tt

  of-nd : (zs : List Text) → EachHas u zs → Results (function_nd_result zs)
  of-nd zs n (seen_ex (repr ReprKind.FunctionND (more_reprs r no_reprs)) (function_dom ms es (tuple_dom ds) c) ns js) a h v k =
      when u (names_fit zs ds) (total_result (by_names zs) r (tuple_dom ds) c ns js a)
      (total-names (by_names zs) (names-run zs n) r (tuple_dom ds) c ns js a h.0.1 h.0.2 h.1 k)
  of-nd zs n _ a h v k = tt

  of-nd-partial : (zs : List Text) → EachHas u zs → Results (function_nd_partial_result zs)
  of-nd-partial zs n (seen_ex (repr ReprKind.FunctionNDPartial (more_reprs r no_reprs)) (function_dom ms es (tuple_dom ds) c) (t ∷ ns)
      js) a h v k =
      when u (names_fit zs ds) (flagged_result (by_names zs) r (tuple_dom ds) c t ns js a)
      (flagged-names (by_names zs) (names-run zs n) r (tuple_dom ds) c t ns js a v.0 h.0.1 h.0.2 h.1 k)
  of-nd-partial zs n _ a h v k = tt

  each-over : (zs : List Text) (ds : Doms) → EachHas u zs → EachHas u (one_each zs ds)
  each-over [] ds h = tt
  each-over (z ∷ zs) no_doms h = tt
  each-over (z ∷ zs) (more_doms d ds) h = (h.0, each-over zs ds h.1)

  names-over : (zs : List Text) (d : Dom) → EachHas u zs → EachHas u (names_for zs d)
  names-over zs (function_dom ms es (tuple_dom ds) c) h = each-over zs ds h
  names-over zs (relation_dom ms es ds) h = each-over zs ds h
  names-over zs _ h = tt

  argument-names : (zs : List Text) (e : Ex) → EachHas u zs → EachHas u (names_of_argument zs e)
  argument-names zs (node_ex b op (more_exs f es)) h = names-over zs (dom_seen f) h
  argument-names zs _ h = tt

  -- The result of a view of a function.
  of-view : (x : Text) (zs : List Text) → IsTrue (u x) → EachHas u zs → (e : Ex) → NamesHave u e → ViewHas u e →
      Answers u (function_view_lookup x zs e)
  of-view x zs n m e h v = either-looks (function_1d_lookup x e)
      (or_else (function_1d_partial_lookup x e) (or_else (function_nd_lookup zs e) (function_nd_partial_lookup zs e)))
      (applied (function_1d_result x) (of-1d x n) e h v)
      (either-looks (function_1d_partial_lookup x e) (or_else (function_nd_lookup zs e) (function_nd_partial_lookup zs e))
      (applied (function_1d_partial_result x) (of-1d-partial x n) e h v)
      (either-looks (function_nd_lookup zs e) (function_nd_partial_lookup zs e)
      (applied (function_nd_result zs) (of-nd zs m) e h v)
      (applied (function_nd_partial_result zs) (of-nd-partial zs m) e h v)))

  -- ---- whatever is picked

  module _ (x : Text) (n : IsTrue (u x)) where
    of-party : (e : Ex) → NamesHave u e → Answers u (party_lookup x e)
    of-party (node_ex b (word Fun.Party) (more_exs a (more_exs p no_exs))) h = (n, (n, (h.1.0, tt), ((h.0, (n, tt)), tt)))
    of-party _ h = tt

    pairs : (t : Option Ty) (f a : Ex) → NamesHave u f → NamesHave u a → Answers u (pairs_at t x f a)
    pairs (Some (compound2 a_function t v)) f a h k = ((n, tt), (n, h, (((n, tt), (k, tt)), tt)))
    pairs (Some any_ty) f a h k = ((n, tt), (n, h, (((n, tt), (k, tt)), tt)))
    pairs _ f a h k = tt

    of-function : (g : Names Ty) (e : Ex) → NamesHave u e → Answers u (function_lookup g x e)
    of-function g (node_ex b application (more_exs f (more_exs a no_exs))) h = pairs (type_of f g) f a h.0 h.1.0
    of-function g (node_ex b (word Fun.Image) (more_exs f (more_exs a no_exs))) h = pairs (type_of f g) f a h.0 h.1.0
    of-function g _ h = tt

    of-one : (g : Names Ty) (zs : List Text) → EachHas u zs → (e : Ex) → NamesHave u e → ViewHas u e → Answers u (one_lookup g x zs e)
    of-one g zs m e h v = let ns = names_of_argument zs e in
        either-looks (function_view_lookup x ns e) (or_else (view_item_lookup x e) (or_else (party_lookup x e) (function_lookup g x e)))
        (of-view x ns n (argument-names zs e m) e h v)
        (either-looks (view_item_lookup x e) (or_else (party_lookup x e) (function_lookup g x e)) (of-item x n e h)
        (either-looks (party_lookup x e) (function_lookup g x e) (of-party e h) (of-function g e h)))

    as-one : (y : Text) → IsTrue (u y) → (o : Option Ex) → Answers u o → HaveSome u (option_map (as_alternative y) o)
    as-one y m None h = tt
    as-one y m (Some l) h = ((m, (m, h, tt)), tt)

    alone-has : (g : Names Ty) (y : Text) → IsTrue (u y) → (zs : List Text) → EachHas u zs → (e : Ex) → NamesHave u e → ViewHas u e →
        HaveSome u (looked_up_alone g x y zs e)
    alone-has g y m zs k e h v = let one = option_map (as_alternative y) (one_lookup g x zs e) in
        either-picks (list_lookup e) (or_else (domain_list_lookup x e) (or_else (function_literal_lookup e) one)) (of-list e h)
        (either-picks (domain_list_lookup x e) (or_else (function_literal_lookup e) one) (of-placed x n e h)
        (either-picks (function_literal_lookup e) one (of-literal e h) (as-one y m (one_lookup g x zs e) (of-one g zs k e h v))))

  -- What is picked within.
  abbrev Within : Option Ex → Type 0
  Within None = Unit {0}
  Within (Some t) = NamesHave u t × ViewHas u t

  within-has : (e : Ex) → NamesHave u e → ViewHas u e → Within (picked_within e)
  within-has (node_ex b (index (q ∷ [])) (more_exs t es)) h v = go (picks t)
    where
      go : (c : Bool) → Within (if c then Some t else None)
      go true = (h.0, v)
      go false = tt
  within-has _ h v = tt

  -- What the expression picks, at any depth.
  pub picked-names : (g : Names Ty) (x : Text) (zs : List Text) → IsTrue (u x) → EachHas u zs → (e : Ex) → NamesHave u e → ViewHas u e →
      HaveSome u (looked_up g x zs e)
  picked-names g x [] n m e h v = tt
  picked-names g x (y ∷ zs) n m e h v = go (picked_within e) (within-has e h v) (λ t k. picked-names g x zs n m.1 t k.0 k.1)
    where
      behind : (o : Option (List Alternative)) → HaveSome u o → HaveSome u (and_then o (λ l. lookup_through_each y 1 l e))
      behind None k = tt
      behind (Some l) k = through-names u y 1 l e m.0 k h

      go : (o : Option Ex) → Within o → ((t : Ex) → NamesHave u t × ViewHas u t → HaveSome u (looked_up g x zs t)) → HaveSome u (elim o [
        | None ↦ looked_up_alone g x y zs e
        | Some t ↦ and_then (looked_up g x zs t) (λ l. lookup_through_each y 1 l e)
      ])
      go None k r = alone-has x n g y m.0 zs m.1 e h v
      go (Some t) k r = behind (looked_up g x zs t) (r t k)
