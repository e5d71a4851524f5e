-- One induction for weakening and substitution: a tree with expressions put in for its names, under related values of
-- names, means what the tree means.
use Rattle.std.proofs.Common.{◌≡◌, refl, sym, ap, ◌∙◌, Bool, true, false, not, List, [], ◌∷◌, ◌++◌, Option, Some, None, option_map, if◌then◌else◌}
use Rattle.std.specs.Prelude.{IsTrue}
use Rattle.ess_semantics.specs.Lists.{and_then, all_some}
use Rattle.ess_semantics.specs.Values.{Text, Value, items_of}
use Rattle.ess_semantics.specs.Order.{same_text}
use Rattle.ess_semantics.specs.Names.{Names, look}
use Rattle.ess_semantics.specs.Trees.{Pat, Pats, name_pat, tuple_pat, no_pats, more_pats, Ex, Exs, number_ex, truth_ex, name_ex, node_ex, matrix_ex, comp_ex, cell_ex, seen_ex, no_exs, more_exs, Gens, no_gens, over, from, cond, Dom, Doms, bool_dom, int_dom, name_dom, tuple_dom, record_dom, matrix_dom, set_dom, mset_dom, function_dom, relation_dom, partition_dom, no_doms, more_doms}
use Rattle.ess_semantics.specs.Operators.{misfit, value_of_node, false_where_undefined, list_value}
use Rattle.ess_semantics.specs.Domains.{integers, tuples, records, matrices, sets, msets, functions, relations, partitions, more_domains}
use Rattle.ess_semantics.specs.Tables.{Table}
use Rattle.ess_semantics.specs.Meaning.{Env, TypeEntry, bind, bind_all, with_pat, collect, where_true, meaning, meanings, items_under, domain_of, domains_of, members_in, spans_of, attributes_of, matrix_value, seen_in, cell_in, indices, tables_in, is_bool_dom}
use Rattle.ess_semantics.specs.Substitution.{substitute, substitute_exs, substitute_gens, substitute_dom, substitute_doms, Binds, BindsAll, NamesAre, NamesAreExs, NamesAreGens, NamesAreDom, NamesAreDoms}

abbrev pub Vals : Type 0
Vals = Names Value

pub collect-same : {A : Type 0} (vs : List Value) (f f' : Value → Option (List A)) → ((v : Value) → f v ≡ f' v) → collect vs f ≡ collect vs f'
collect-same [] f f' e = refl
collect-same (v ∷ vs) f f' e =
    ap (λ x. and_then x (λ xs. option_map (λ ys. xs ++ ys) (collect vs f))) (e v)
    ∙ ap (λ y. and_then (f' v) (λ xs. option_map (λ ys. xs ++ ys) y)) (collect-same vs f f' e)

pub and_then-same : {A B : Type 0} (o o' : Option A) (f f' : A → Option B) → o ≡ o' → ((x : A) → f x ≡ f' x) → and_then o f ≡ and_then o' f'
and_then-same o o' f f' e h = ap (λ x. and_then x f) e ∙ go o' f f' h
  where
    go : {A B : Type 0} (o : Option A) (f f' : A → Option B) → ((x : A) → f x ≡ f' x) → and_then o f ≡ and_then o f'
    go None f f' h = refl
    go (Some x) f f' h = h x

pub where-same : {A : Type 0} (o o' : Option Value) (x x' : Option (List A)) → o ≡ o' → x ≡ x' → where_true o (λ u. x) ≡ where_true o' (λ u. x')
where-same o o' x x' e f = ap (λ y. where_true y (λ u. x)) e ∙ ap (λ y. where_true o' (λ u. y)) f

pub two : {A B C : Type 0} {p q : Option B} (o o' : Option A) (f : A → B → C) → o ≡ o' → p ≡ q → and_then o (λ x. option_map (f x) p) ≡ and_then o' (λ x. option_map (f x) q)
two {p = p} {q = q} o o' f e h = ap (λ x. and_then x (λ y. option_map (f y) p)) e ∙ ap (λ x. and_then o' (λ y. option_map (f y) x)) h

abbrev pub E : Bool → List TypeEntry → Names Table → Vals → Env
E pl ts cs g = record { positions = pl; types = ts; vals = g; cells = cs }

-- f gives an expression for each name; n holds of the names in use, b of those that are bound; R relates values of names
module _ (pl : Bool) (ts : List TypeEntry) (cs : Names Table) (f : Text → Ex) (n b : Text → Bool) (R : Vals → Vals → Type 0)
    (at-name : (a : Text) (g h : Vals) → IsTrue (n a) → R g h → meaning (f a) (E pl ts cs h) ≡ look g a)
    (at-bind : (a : Text) (v : Value) (g h : Vals) → IsTrue (b a) → R g h → R ((a, v) ∷ g) ((a, v) ∷ h)) where
  abbrev M : Vals → Env
  M g = E pl ts cs g

  mutual
    pub bind-r : (p : Pat) (v : Value) (g h : Vals) → Binds b p → R g h → R (bind p v g) (bind p v h)
    bind-r (name_pat a) v g h o s = at-bind a v g h o s
    bind-r (tuple_pat ps) v g h o s = bind_all-r ps (items_of v) g h o s

    bind_all-r : (ps : Pats) (vs : List Value) (g h : Vals) → BindsAll b ps → R g h → R (bind_all ps vs g) (bind_all ps vs h)
    bind_all-r no_pats vs g h o s = s
    bind_all-r (more_pats p ps) [] g h o s = bind_all-r ps [] (bind p misfit g) (bind p misfit h) o.1 (bind-r p misfit g h o.0 s)
    bind_all-r (more_pats p ps) (v ∷ vs) g h o s = bind_all-r ps vs (bind p v g) (bind p v h) o.1 (bind-r p v g h o.0 s)

  bool-dom : (d : Dom) → is_bool_dom (substitute_dom f d) ≡ is_bool_dom d
  bool-dom bool_dom = refl
  bool-dom _ = refl

  abbrev Agree : (Env → Option (List Value)) → (Env → Option (List Value)) → Type 0
  Agree k k' = (g h : Vals) → R g h → k' (M h) ≡ k (M g)

  mutual
    pub meaning-sim : (e : Ex) (g h : Vals) → NamesAre n b e → R g h → meaning (substitute f e) (M h) ≡ meaning e (M g)
    meaning-sim (number_ex m) g h o s = refl
    meaning-sim (truth_ex m) g h o s = refl
    meaning-sim (name_ex a) g h o s = at-name a g h o s
    meaning-sim (node_ex q op es) g h o s = ap (λ x. false_where_undefined q (value_of_node op x)) (meanings-sim es g h o s)
    meaning-sim (matrix_ex es d) g h o s =
        ap (λ x. and_then (all_some x) (matrix_value (members_in (domain_of (substitute_dom f d) (M h))))) (meanings-sim es g h o.0 s)
        ∙ ap (λ x. and_then (all_some (meanings es (M g))) (matrix_value (members_in x))) (domain-sim d g h o.1 s)
    meaning-sim (comp_ex e gs) g h o s =
        ap (option_map list_value) (items-sim gs g h (λ here. option_map (λ v. v ∷ []) (meaning e here)) (λ here. option_map (λ v. v ∷ []) (meaning (substitute f e) here)) o.1 s
        (λ g' h' s'. ap (option_map (λ v. v ∷ [])) (meaning-sim e g' h' o.0 s')))
    meaning-sim (cell_ex q c es) g h o s = ap (λ x. false_where_undefined q (cell_in q (look cs c) (indices x))) (meanings-sim es g h o s)
    meaning-sim (seen_ex r d ns es) g h o s =
        ap (λ q. false_where_undefined q (seen_in r (domain_of (substitute_dom f d) (M h)) (tables_in cs ns) (indices (meanings (substitute_exs f es) (M h))))) (bool-dom d)
        ∙ ap (λ x. false_where_undefined (is_bool_dom d) (seen_in r x (tables_in cs ns) (indices (meanings (substitute_exs f es) (M h))))) (domain-sim d g h o.0 s)
        ∙ ap (λ x. false_where_undefined (is_bool_dom d) (seen_in r (domain_of d (M g)) (tables_in cs ns) (indices x))) (meanings-sim es g h o.1 s)

    pub meanings-sim : (es : Exs) (g h : Vals) → NamesAreExs n b es → R g h → meanings (substitute_exs f es) (M h) ≡ meanings es (M g)
    meanings-sim no_exs g h o s = refl
    meanings-sim (more_exs e es) g h o s = ap (λ x. x ∷ meanings (substitute_exs f es) (M h)) (meaning-sim e g h o.0 s) ∙ ap (λ x. meaning e (M g) ∷ x) (meanings-sim es g h o.1 s)

    pub items-sim : (gs : Gens) (g h : Vals) (k k' : Env → Option (List Value)) → NamesAreGens n b gs → R g h → Agree k k' → items_under (substitute_gens f gs) (M h) k' ≡ items_under gs (M g) k
    items-sim no_gens g h k k' o s a = a g h s
    items-sim (over p d gs) g h k k' o s a =
        and_then-same (members_in (domain_of (substitute_dom f d) (M h))) (members_in (domain_of d (M g)))
        (λ vs. collect vs (λ v. items_under (substitute_gens f gs) (with_pat p v (M h)) k')) (λ vs. collect vs (λ v. items_under gs (with_pat p v (M g)) k))
        (ap members_in (domain-sim d g h o.1 s))
        (λ vs. collect-same vs (λ v. items_under (substitute_gens f gs) (with_pat p v (M h)) k') (λ v. items_under gs (with_pat p v (M g)) k)
        (λ v. items-sim gs (bind p v g) (bind p v h) k k' o.2 (bind-r p v g h o.0 s) a))
    items-sim (from p e gs) g h k k' o s a =
        and_then-same (meaning (substitute f e) (M h)) (meaning e (M g))
        (λ w. collect (items_of w) (λ v. items_under (substitute_gens f gs) (with_pat p v (M h)) k')) (λ w. collect (items_of w) (λ v. items_under gs (with_pat p v (M g)) k))
        (meaning-sim e g h o.1 s)
        (λ w. collect-same (items_of w) (λ v. items_under (substitute_gens f gs) (with_pat p v (M h)) k') (λ v. items_under gs (with_pat p v (M g)) k)
        (λ v. items-sim gs (bind p v g) (bind p v h) k k' o.2 (bind-r p v g h o.0 s) a))
    items-sim (cond e gs) g h k k' o s a =
        where-same (meaning (substitute f e) (M h)) (meaning e (M g)) (items_under (substitute_gens f gs) (M h) k') (items_under gs (M g) k) (meaning-sim e g h o.0 s) (items-sim gs g h k k' o.1 s a)

    pub domain-sim : (d : Dom) (g h : Vals) → NamesAreDom n b d → R g h → domain_of (substitute_dom f d) (M h) ≡ domain_of d (M g)
    domain-sim bool_dom g h o s = refl
    domain-sim (int_dom rs es) g h o s = ap (λ x. option_map integers (spans_of rs x)) (meanings-sim es g h o s)
    domain-sim (name_dom a) g h o s = refl
    domain-sim (tuple_dom ds) g h o s = ap (option_map tuples) (domains-sim ds g h o s)
    domain-sim (record_dom fs ds) g h o s = ap (option_map (records fs)) (domains-sim ds g h o s)
    domain-sim (matrix_dom is d) g h o s = two (domains_of (substitute_doms f is) (M h)) (domains_of is (M g)) matrices (domains-sim is g h o.0 s) (domain-sim d g h o.1 s)
    domain-sim (set_dom ks es d) g h o s = two (attributes_of ks (meanings (substitute_exs f es) (M h))) (attributes_of ks (meanings es (M g))) sets (ap (attributes_of ks) (meanings-sim es g h o.0 s)) (domain-sim d g h o.1 s)
    domain-sim (mset_dom ks es d) g h o s = two (attributes_of ks (meanings (substitute_exs f es) (M h))) (attributes_of ks (meanings es (M g))) msets (ap (attributes_of ks) (meanings-sim es g h o.0 s)) (domain-sim d g h o.1 s)
    domain-sim (function_dom ks es d c) g h o s =
        and_then-same (attributes_of ks (meanings (substitute_exs f es) (M h))) (attributes_of ks (meanings es (M g))) _ _ (ap (attributes_of ks) (meanings-sim es g h o.0 s))
        (λ as'. two (domain_of (substitute_dom f d) (M h)) (domain_of d (M g)) (functions as') (domain-sim d g h o.1 s) (domain-sim c g h o.2 s))
    domain-sim (relation_dom ks es ds) g h o s = two (attributes_of ks (meanings (substitute_exs f es) (M h))) (attributes_of ks (meanings es (M g))) relations (ap (attributes_of ks) (meanings-sim es g h o.0 s)) (domains-sim ds g h o.1 s)
    domain-sim (partition_dom ks es d) g h o s = two (attributes_of ks (meanings (substitute_exs f es) (M h))) (attributes_of ks (meanings es (M g))) partitions (ap (attributes_of ks) (meanings-sim es g h o.0 s)) (domain-sim d g h o.1 s)

    pub domains-sim : (ds : Doms) (g h : Vals) → NamesAreDoms n b ds → R g h → domains_of (substitute_doms f ds) (M h) ≡ domains_of ds (M g)
    domains-sim no_doms g h o s = refl
    domains-sim (more_doms d ds) g h o s = two (domain_of (substitute_dom f d) (M h)) (domain_of d (M g)) more_domains (domain-sim d g h o.0 s) (domains-sim ds g h o.1 s)

-- ---- a value of a name that isn't used changes nothing

mutual
  pub substitute-itself : (e : Ex) → substitute name_ex e ≡ e
  substitute-itself (number_ex n) = refl
  substitute-itself (truth_ex b) = refl
  substitute-itself (name_ex a) = refl
  substitute-itself (node_ex b op es) = ap (node_ex b op) (exs-itself es)
  substitute-itself (matrix_ex es d) = ap (λ x. matrix_ex x (substitute_dom name_ex d)) (exs-itself es) ∙ ap (matrix_ex es) (dom-itself d)
  substitute-itself (comp_ex e gs) = ap (λ x. comp_ex x (substitute_gens name_ex gs)) (substitute-itself e) ∙ ap (comp_ex e) (gens-itself gs)
  substitute-itself (cell_ex b n es) = ap (cell_ex b n) (exs-itself es)
  substitute-itself (seen_ex r d ns es) = ap (λ x. seen_ex r x ns (substitute_exs name_ex es)) (dom-itself d) ∙ ap (seen_ex r d ns) (exs-itself es)

  exs-itself : (es : Exs) → substitute_exs name_ex es ≡ es
  exs-itself no_exs = refl
  exs-itself (more_exs e es) = ap (λ x. more_exs x (substitute_exs name_ex es)) (substitute-itself e) ∙ ap (more_exs e) (exs-itself es)

  gens-itself : (gs : Gens) → substitute_gens name_ex gs ≡ gs
  gens-itself no_gens = refl
  gens-itself (over p d gs) = ap (λ x. over p x (substitute_gens name_ex gs)) (dom-itself d) ∙ ap (over p d) (gens-itself gs)
  gens-itself (from p e gs) = ap (λ x. from p x (substitute_gens name_ex gs)) (substitute-itself e) ∙ ap (from p e) (gens-itself gs)
  gens-itself (cond e gs) = ap (λ x. cond x (substitute_gens name_ex gs)) (substitute-itself e) ∙ ap (cond e) (gens-itself gs)

  pub dom-itself : (d : Dom) → substitute_dom name_ex d ≡ d
  dom-itself bool_dom = refl
  dom-itself (int_dom rs es) = ap (int_dom rs) (exs-itself es)
  dom-itself (name_dom a) = refl
  dom-itself (tuple_dom ds) = ap tuple_dom (doms-itself ds)
  dom-itself (record_dom fs ds) = ap (record_dom fs) (doms-itself ds)
  dom-itself (matrix_dom is d) = ap (λ x. matrix_dom x (substitute_dom name_ex d)) (doms-itself is) ∙ ap (matrix_dom is) (dom-itself d)
  dom-itself (set_dom ms es d) = ap (λ x. set_dom ms x (substitute_dom name_ex d)) (exs-itself es) ∙ ap (set_dom ms es) (dom-itself d)
  dom-itself (mset_dom ms es d) = ap (λ x. mset_dom ms x (substitute_dom name_ex d)) (exs-itself es) ∙ ap (mset_dom ms es) (dom-itself d)
  dom-itself (function_dom ms es d c) =
      ap (λ x. function_dom ms x (substitute_dom name_ex d) (substitute_dom name_ex c)) (exs-itself es)
      ∙ ap (λ x. function_dom ms es x (substitute_dom name_ex c)) (dom-itself d) ∙ ap (function_dom ms es d) (dom-itself c)
  dom-itself (relation_dom ms es ds) = ap (λ x. relation_dom ms x (substitute_doms name_ex ds)) (exs-itself es) ∙ ap (relation_dom ms es) (doms-itself ds)
  dom-itself (partition_dom ms es d) = ap (λ x. partition_dom ms x (substitute_dom name_ex d)) (exs-itself es) ∙ ap (partition_dom ms es) (dom-itself d)

  doms-itself : (ds : Doms) → substitute_doms name_ex ds ≡ ds
  doms-itself no_doms = refl
  doms-itself (more_doms d ds) = ap (λ x. more_doms x (substitute_doms name_ex ds)) (dom-itself d) ∙ ap (more_doms d) (doms-itself ds)

-- every name but x
abbrev pub but : Text → Text → Bool
but x a = not (same_text x a)

-- every name
abbrev pub any : Text → Bool
any a = true

module _ (x : Text) where
  -- the two lists of names have one value for each name but x
  abbrev pub SameBut : Vals → Vals → Type 0
  SameBut g h = (a : Text) → IsTrue (but x a) → look g a ≡ look h a

  bind-but : (a : Text) (v : Value) (g h : Vals) → SameBut g h → SameBut ((a, v) ∷ g) ((a, v) ∷ h)
  bind-but a v g h s = λ b n. ap (λ o. if same_text a b then Some v else o) (s b n)

  pub meaning-but : (pl : Bool) (ts : List TypeEntry) (cs : Names Table) (e : Ex) (g h : Vals) → NamesAre (but x) any e → SameBut g h → meaning e (E pl ts cs h) ≡ meaning e (E pl ts cs g)
  meaning-but pl ts cs e g h o s =
      ap (λ t. meaning t (E pl ts cs h)) (sym (substitute-itself e))
      ∙ meaning-sim pl ts cs name_ex (but x) any SameBut (λ a g h n r. sym (r a n)) (λ a v g h n r. bind-but a v g h r) e g h o s

  new-value : (v : Value) (g : Vals) → SameBut g ((x, v) ∷ g)
  new-value v g = λ a n. go (same_text x a) n
    where
      go : {o : Option Value} (b : Bool) → IsTrue (not b) → o ≡ (if b then Some v else o)
      go true n = cc
      go false n = refl

  pub meaning-unused : (v : Value) (e : Ex) (env : Env) → NamesAre (but x) any e → meaning e (record env { vals = (x, v) ∷ env.vals }) ≡ meaning e env
  meaning-unused v e env o = meaning-but env.positions env.types env.cells e env.vals ((x, v) ∷ env.vals) o (new-value v env.vals)
