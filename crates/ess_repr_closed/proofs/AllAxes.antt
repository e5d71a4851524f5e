-- The axes of all tables, as code puts them one behind the other.
use Rattle.std.proofs.Common.{◌≡◌, refl, sym, ap, ◌∙◌, ℕ, ◌+◌, ◌<◌, ◌≤◌, List, [], ◌∷◌, ◌++◌, map, length, take, drop, get_or}
use Rattle.std.proofs.lemmas.List.{map-append, append_assoc, append-nil, take_more, take_all, at_drop_more, at_drop_all}
use Rattle.ess_semantics.specs.Trees as pure
use Rattle.ess_semantics.specs.Trees.{more_reprs, no_reprs}
use Rattle.ess_semantics.specs.Choice.{reprs_of}
use Rattle.ess_semantics.specs.Cells.{Axes}
use Rattle.ess_semantics.specs.Declarations.{axes_of}
use Rattle.ess_core.specs.declared.representations.Repr.{Repr}
use Rattle.ess_core.specs.declared.representations.Repr.TheViews.{out-Repr}
use Rattle.ess_core.specs.TreeViews.{pure_repr}
use Rattle.ess_core.proofs.RepresentationEquations.{pure_repr_is}
use Rattle.ess_eval_domains.specs.declared.closed.Closed.{Closed}
use Rattle.ess_eval_domains.specs.ClosedViews.{pure_closed}
use Rattle.ess_repr_layers_laws.specs.LayerParts.{children_of, front_axes, own_axes_of, axes_below}
use Rattle.ess_repr_layers_laws.proofs.LayerAxes.{axes_of-layer}

-- The representations of children.
abbrev pub trees : List Repr → pure.Reprs
trees rs = reprs_of (map pure_repr rs)

pub axes_made : (x : Repr) (d : Closed) (own all : List Axes) (kids : List Repr) (ds es : List Closed) (front bs : Axes) →
    own ≡ own_axes_of (out-Repr x).kind (pure_closed d) → map pure_closed ds ≡ children_of (out-Repr x).kind (pure_closed d) →
    front ≡ front_axes (out-Repr x).kind (pure_closed d) → kids ≡ (out-Repr x).children → es ≡ ds → bs ≡ front →
    all ≡ own ++ axes_below (reprs_of (map pure_repr kids)) (map pure_closed es) bs → all ≡ axes_of (pure_repr x) (pure_closed d)
axes_made x d own all kids ds es front bs p q r f g h e =
    e ∙ ap (λ l. own ++ axes_below (trees l) (map pure_closed es) bs) f ∙ ap (λ l. own ++ axes_below (trees (out-Repr x).children) (map pure_closed l) bs) g
    ∙ ap (λ l. own ++ axes_below (trees (out-Repr x).children) (map pure_closed ds) l) h
    ∙ ap (λ l. l ++ axes_below (trees (out-Repr x).children) (map pure_closed ds) front) p
    ∙ ap (λ es. own_axes_of (out-Repr x).kind (pure_closed d) ++ axes_below (trees (out-Repr x).children) es front) q
    ∙ ap (λ bs. own_axes_of (out-Repr x).kind (pure_closed d) ++ axes_below (trees (out-Repr x).children) (children_of (out-Repr x).kind (pure_closed d)) bs) r
    ∙ sym (axes_of-layer (out-Repr x).kind (trees (out-Repr x).children) (pure_closed d)) ∙ ap (λ t. axes_of t (pure_closed d)) (sym (pure_repr_is x))

-- ---- the children in turn

pub children_more : (rs : List Repr) (ds : List Closed) (i : ℕ) (x e : Repr) (d b : Closed) (own all all' whole : List Axes) (front : Axes) →
    i < length rs → i < length ds → x ≡ get_or rs i e → d ≡ get_or ds i b → own ≡ axes_of (pure_repr x) (pure_closed d) →
    all' ≡ all ++ map (λ as'. front ++ as') own → all ++ axes_below (trees (drop i rs)) (map pure_closed (drop i ds)) front ≡ whole →
    all' ++ axes_below (trees (drop (i + 1) rs)) (map pure_closed (drop (i + 1) ds)) front ≡ whole
children_more rs ds i x e d b own all all' whole front h k is js en g p =
    let ts : trees (drop i rs) ≡ more_reprs (pure_repr x) (trees (drop (i + 1) rs)) =
    at_drop_more trees rs i e h ∙ ap (λ q. more_reprs (pure_repr q) (trees (drop (i + 1) rs))) (sym is) in
    let es : map pure_closed (drop i ds) ≡ pure_closed d ∷ map pure_closed (drop (i + 1) ds) =
    at_drop_more (map pure_closed) ds i b k ∙ ap (λ q. pure_closed q ∷ map pure_closed (drop (i + 1) ds)) (sym js) in
    ap (λ l. l ++ axes_below (trees (drop (i + 1) rs)) (map pure_closed (drop (i + 1) ds)) front) (g ∙ ap (λ l. all ++ map (λ as'. front ++ as') l) en)
    ∙ append_assoc all (map (λ as'. front ++ as') (axes_of (pure_repr x) (pure_closed d))) (axes_below (trees (drop (i + 1) rs)) (map pure_closed (drop (i + 1) ds)) front)
    ∙ ap (λ l. all ++ axes_below (more_reprs (pure_repr x) (trees (drop (i + 1) rs))) l front) (sym es)
    ∙ ap (λ t. all ++ axes_below t (map pure_closed (drop i ds)) front) (sym ts) ∙ p

none-below : (rs : pure.Reprs) (front : Axes) → axes_below rs [] front ≡ []
none-below no_reprs front = refl
none-below (more_reprs r rs) front = refl

pub children_short : (rs : List Repr) (ds : List Closed) (i : ℕ) (all whole : List Axes) (front : Axes) → length ds ≤ i →
    all ++ axes_below (trees (drop i rs)) (map pure_closed (drop i ds)) front ≡ whole → all ≡ whole
children_short rs ds i all whole front h p =
    sym (append-nil all) ∙ ap (λ l. all ++ l) (sym (none-below (trees (drop i rs)) front))
    ∙ ap (λ es. all ++ axes_below (trees (drop i rs)) es front) (sym (at_drop_all (map pure_closed) ds i h)) ∙ p

pub children_all : (rs : List Repr) (ds : List Closed) (i : ℕ) (all whole : List Axes) (front : Axes) → length rs ≤ i →
    all ++ axes_below (trees (drop i rs)) (map pure_closed (drop i ds)) front ≡ whole → all ≡ whole
children_all rs ds i all whole front h p =
    sym (append-nil all) ∙ ap (λ t. all ++ axes_below t (map pure_closed (drop i ds)) front) (sym (at_drop_all trees rs i h)) ∙ p

-- ---- behind others

pub under_more : (bs : Axes) (xs : List Axes) (i : ℕ) (x y : Axes) (old all all' : List Axes) → i < length xs → x ≡ get_or xs i x → y ≡ bs ++ x →
    all' ≡ all ++ y ∷ [] → all ≡ old ++ map (λ as'. bs ++ as') (take i xs) → all' ≡ old ++ map (λ as'. bs ++ as') (take (i + 1) xs)
under_more bs xs i x y old all all' h is e g p =
    g ∙ ap (λ l. l ++ y ∷ []) p ∙ append_assoc old (map (λ as'. bs ++ as') (take i xs)) (y ∷ [])
    ∙ ap (λ z. old ++ (map (λ as'. bs ++ as') (take i xs) ++ z ∷ [])) (e ∙ ap (λ z. bs ++ z) is)
    ∙ ap (λ l. old ++ l) (sym (map-append (λ as'. bs ++ as') (take i xs) (get_or xs i x ∷ [])) ∙ ap (map (λ as'. bs ++ as')) (sym (take_more xs i x h)))

pub under_all : (bs : Axes) (xs : List Axes) (i : ℕ) (old all : List Axes) → length xs ≤ i → all ≡ old ++ map (λ as'. bs ++ as') (take i xs) →
    all ≡ old ++ map (λ as'. bs ++ as') xs
under_all bs xs i old all h p = p ∙ ap (λ l. old ++ map (λ as'. bs ++ as') l) (take_all i xs h)
