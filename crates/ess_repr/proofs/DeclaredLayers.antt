-- The tables of a representation as code puts them one behind the other.
use Rattle.std.proofs.Common.{◌≡◌, refl, sym, ap, ◌∙◌, ℕ, ◌+◌, ◌<◌, ◌≤◌, Bool, ◌||◌, List, [], ◌∷◌, ◌++◌, map, take, drop, length, get_or}
use Rattle.std.proofs.lemmas.List.{map-append, append_assoc, append-nil, at_drop_more, at_drop_all, take_more, take_all}
use Rattle.ess_semantics.specs.Lists.{zip}
use Rattle.ess_semantics.specs.Values.{Text}
use Rattle.ess_semantics.specs.Names.{keys}
use Rattle.ess_semantics.specs.Trees as pure
use Rattle.ess_semantics.specs.Trees.{Dom}
use Rattle.ess_semantics.specs.TableNames.{child_names}
use Rattle.ess_semantics.specs.DeclaredTables.{TableDecl}
use Rattle.ess_core.specs.declared.domains.Dom as code
use Rattle.ess_core.specs.declared.representations.Repr.{Repr}
use Rattle.ess_core.specs.declared.representations.Repr.TheViews.{out-Repr}
use Rattle.ess_core.specs.declared.tables.CellDecl.{CellDecl}
use Rattle.ess_core.specs.TreeViews.{pure_repr, pure_dom}
use Rattle.ess_core.specs.TableViews.{pure_decl}
use Rattle.ess_core.proofs.RepresentationEquations.{pure_repr_is}
use Rattle.ess_repr_declare_laws.specs.ChildDomains.{child_doms}
use Rattle.ess_repr_declare_laws.specs.DeclaredTrees.{trees_below, trees_of_children, below_layer, own_trees, layer_axes, frees_children}
use Rattle.ess_repr.specs.Fronts.{trees_of_named}
use Rattle.ess_repr.proofs.FittingChildren.{kids}
use Rattle.ess_repr.proofs.Fronts.{below-twice, children_named}

-- ---- tables below a name and axes

-- One table more below a name and axes.
pub below_more : (own : List CellDecl) (i : ℕ) (n : Text) (as' : List Dom) (us : List TableDecl) (ts vs : List CellDecl) (t b : CellDecl) →
    i < length own → t ≡ get_or own i t → pure_decl b ≡ below_layer n as' (pure_decl t) → vs ≡ ts ++ b ∷ [] →
    map pure_decl ts ≡ us ++ map (below_layer n as') (map pure_decl (take i own)) →
    map pure_decl vs ≡ us ++ map (below_layer n as') (map pure_decl (take (i + 1) own))
below_more own i n as' us ts vs t b h is q r p =
    let f : CellDecl → TableDecl = λ x. below_layer n as' (pure_decl x) in
    ap (map pure_decl) r ∙ map-append pure_decl ts (b ∷ [])
    ∙ ap (λ x. x ++ pure_decl b ∷ []) p ∙ append_assoc us (map (below_layer n as') (map pure_decl (take i own))) (pure_decl b ∷ [])
    ∙ ap (λ x. us ++ (map (below_layer n as') (map pure_decl (take i own)) ++ x ∷ [])) (q ∙ ap f is)
    ∙ ap (λ x. us ++ x) (sym (map-append (below_layer n as') (map pure_decl (take i own)) (pure_decl (get_or own i t) ∷ []))
    ∙ ap (map (below_layer n as')) (sym (map-append pure_decl (take i own) (get_or own i t ∷ [])) ∙ sym (ap (map pure_decl) (take_more own i t h))))

-- All tables below a name and axes.
pub below_all : (own : List CellDecl) (i : ℕ) (n : Text) (as' : List Dom) (us : List TableDecl) (ts : List CellDecl) → length own ≤ i →
    map pure_decl ts ≡ us ++ map (below_layer n as') (map pure_decl (take i own)) → map pure_decl ts ≡ us ++ map (below_layer n as') (map pure_decl own)
below_all own i n as' us ts h p = p ∙ ap (λ x. us ++ map (below_layer n as') (map pure_decl x)) (take_all i own h)

-- ---- tables of children

-- What the children from a place on declare.
abbrev pub children_from : Bool → List Repr → List Text → List code.Dom → List TableDecl
children_from out rs ns ds = trees_of_named out (map pure_repr rs) ns (map pure_dom ds)

-- The tables of one child more.
pub children_more : (out : Bool) (rs : List Repr) (ns : List Text) (ds : List code.Dom) (i : ℕ) (n m f : Text) (as' : List Dom) (r : Repr)
    (d : code.Dom) (us ts vs : List TableDecl) → i < length rs → i < length ns → i < length ds → r ≡ get_or rs i r → m ≡ get_or ns i m →
    d ≡ get_or ds i d → f ≡ n ++ m → vs ≡ ts ++ map (below_layer f as') (trees_below out (pure_repr r) (pure_dom d)) →
    ts ++ map (below_layer n as') (children_from out (drop i rs) (drop i ns) (drop i ds)) ≡ us →
    vs ++ map (below_layer n as') (children_from out (drop (i + 1) rs) (drop (i + 1) ns) (drop (i + 1) ds)) ≡ us
children_more out rs ns ds i n m f as' r d us ts vs hr hn hd ir im id e q p =
    ap (λ x. x ++ rest) (q ∙ ap (λ x. ts ++ map (below_layer x as') one) e)
    ∙ append_assoc ts (map (below_layer (n ++ m) as') one) rest
    ∙ ap (λ x. ts ++ (x ++ rest)) this
    ∙ ap (λ x. ts ++ x) (sym (map-append (below_layer n as') (map (below_layer m []) one) (children_from out (drop (i + 1) rs) (drop (i + 1) ns) (drop (i + 1) ds))))
    ∙ ap (λ x. ts ++ map (below_layer n as') (children_from out (x ∷ drop (i + 1) rs) (m ∷ drop (i + 1) ns) (d ∷ drop (i + 1) ds))) ir
    ∙ sym (at_drop_more (λ s. ts ++ map (below_layer n as') (children_from out s (m ∷ drop (i + 1) ns) (d ∷ drop (i + 1) ds))) rs i r hr)
    ∙ ap (λ x. ts ++ map (below_layer n as') (children_from out (drop i rs) (x ∷ drop (i + 1) ns) (d ∷ drop (i + 1) ds))) im
    ∙ sym (at_drop_more (λ s. ts ++ map (below_layer n as') (children_from out (drop i rs) s (d ∷ drop (i + 1) ds))) ns i m hn)
    ∙ ap (λ x. ts ++ map (below_layer n as') (children_from out (drop i rs) (drop i ns) (x ∷ drop (i + 1) ds))) id
    ∙ sym (at_drop_more (λ s. ts ++ map (below_layer n as') (children_from out (drop i rs) (drop i ns) s)) ds i d hd)
    ∙ p
  where
    one : List TableDecl
    one = trees_below out (pure_repr r) (pure_dom d)

    rest : List TableDecl
    rest = map (below_layer n as') (children_from out (drop (i + 1) rs) (drop (i + 1) ns) (drop (i + 1) ds))

    this : map (below_layer (n ++ m) as') one ≡ map (below_layer n as') (map (below_layer m []) one)
    this = sym (ap (λ x. map (below_layer (n ++ m) x) one) (append-nil as')) ∙ sym (below-twice n m as' [] one)

-- No child is left.
pub no_child_left : (out : Bool) (rs : List Repr) (ns : List Text) (ds : List code.Dom) (i : ℕ) (n : Text) (as' : List Dom) (us ts : List TableDecl) →
    length rs ≤ i → ts ++ map (below_layer n as') (children_from out (drop i rs) (drop i ns) (drop i ds)) ≡ us → ts ≡ us
no_child_left out rs ns ds i n as' us ts h p =
    sym (at_drop_all (λ s. ts ++ map (below_layer n as') (children_from out s (drop i ns) (drop i ds))) rs i h ∙ append-nil ts) ∙ p

-- No name is left.
pub no_name_left : (out : Bool) (rs : List Repr) (ns : List Text) (ds : List code.Dom) (i : ℕ) (n : Text) (as' : List Dom) (us ts : List TableDecl) →
    length ns ≤ i → ts ++ map (below_layer n as') (children_from out (drop i rs) (drop i ns) (drop i ds)) ≡ us → ts ≡ us
no_name_left out rs ns ds i n as' us ts h p =
    sym (at_drop_all (λ s. ts ++ map (below_layer n as') (children_from out (drop i rs) s (drop i ds))) ns i h ∙ unnamed (drop i rs)) ∙ p
  where
    unnamed : (rs : List Repr) → ts ++ map (below_layer n as') (children_from out rs [] (drop i ds)) ≡ ts
    unnamed [] = append-nil ts
    unnamed (r ∷ rs) = append-nil ts

-- No domain is left.
pub no_domain_left : (out : Bool) (rs : List Repr) (ns : List Text) (ds : List code.Dom) (i : ℕ) (n : Text) (as' : List Dom) (us ts : List TableDecl) →
    length ds ≤ i → ts ++ map (below_layer n as') (children_from out (drop i rs) (drop i ns) (drop i ds)) ≡ us → ts ≡ us
no_domain_left out rs ns ds i n as' us ts h p =
    sym (at_drop_all (λ s. ts ++ map (below_layer n as') (children_from out (drop i rs) (drop i ns) s)) ds i h ∙ undomained (drop i rs) (drop i ns)) ∙ p
  where
    undomained : (rs : List Repr) (ns : List Text) → ts ++ map (below_layer n as') (children_from out rs ns []) ≡ ts
    undomained [] ns = append-nil ts
    undomained (r ∷ rs) [] = append-nil ts
    undomained (r ∷ rs) (m ∷ ns) = append-nil ts

-- ---- a whole layer

-- The layer's own tables, and those of its children behind them.
pub layer_put : (x : Repr) (out b : Bool) (n : Text) (as' bs : List Dom) (d : Dom) (ts us vs : List TableDecl) (ns : List Text) (ds : List Dom) →
    us ≡ ts ++ map (below_layer n as') (own_trees out (out-Repr x).kind d) → ns ≡ keys (child_names (out-Repr x).kind d) →
    ds ≡ child_doms (out-Repr x).kind d → bs ≡ as' ++ layer_axes (out-Repr x).kind d → b ≡ (out || frees_children (out-Repr x).kind) →
    vs ≡ us ++ map (below_layer n bs) (trees_of_named b (map pure_repr (out-Repr x).children) ns ds) →
    vs ≡ ts ++ map (below_layer n as') (trees_below out (pure_repr x) d)
layer_put x out b n as' bs d ts us vs ns ds p q r s t e =
    let k = (out-Repr x).kind in
    let rs : List pure.Repr = map pure_repr (out-Repr x).children in
    e
    ∙ ap (λ z. us ++ map (below_layer n z) (trees_of_named b rs ns ds)) s
    ∙ ap (λ z. us ++ map (below_layer n (as' ++ layer_axes k d)) (trees_of_named b rs z ds)) q
    ∙ ap (λ z. us ++ z) (children_named b n as' (layer_axes k d) rs (child_names k d) ds)
    ∙ ap (λ z. us ++ map (below_layer n as') (trees_of_children b (kids (out-Repr x).children) (zip (child_names k d) z) (layer_axes k d))) r
    ∙ ap (λ z. us ++ map (below_layer n as') (trees_of_children z (kids (out-Repr x).children) (zip (child_names k d) (child_doms k d)) (layer_axes k d))) t
    ∙ ap (λ z. z ++ map (below_layer n as') (trees_of_children (out || frees_children k) (kids (out-Repr x).children) (zip (child_names k d) (child_doms k d)) (layer_axes k d))) p
    ∙ append_assoc ts (map (below_layer n as') (own_trees out k d)) (map (below_layer n as') (trees_of_children (out || frees_children k) (kids (out-Repr x).children) (zip (child_names k d) (child_doms k d)) (layer_axes k d)))
    ∙ ap (λ z. ts ++ z) (sym (map-append (below_layer n as') (own_trees out k d) (trees_of_children (out || frees_children k) (kids (out-Repr x).children) (zip (child_names k d) (child_doms k d)) (layer_axes k d))))
    ∙ ap (λ z. ts ++ map (below_layer n as') (trees_below out z d)) (sym (pure_repr_is x))
