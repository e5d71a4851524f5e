-- The cells of all tables, as code puts them one behind the other.
use Rattle.std.proofs.Common.{◌≡◌, refl, sym, ap, ◌∙◌, ℕ, ◌+◌, ◌<◌, ◌≤◌, Bool, ◌||◌, List, [], ◌∷◌, ◌++◌, map, length, drop, get_or}
use Rattle.std.proofs.lemmas.List.{map-append, append_assoc, append-nil, at_drop_more, at_drop_all}
use Rattle.ess_semantics.specs.Trees as pure
use Rattle.ess_semantics.specs.Trees.{more_reprs, no_reprs}
use Rattle.ess_semantics.specs.Choice.{reprs_of}
use Rattle.ess_semantics.specs.Domains.{Domain}
use Rattle.ess_core.specs.declared.representations.Repr.{Repr}
use Rattle.ess_core.specs.declared.representations.Repr.TheViews.{out-Repr}
use Rattle.ess_core.specs.TreeViews.{pure_repr}
use Rattle.ess_core.proofs.RepresentationEquations.{pure_repr_is}
use Rattle.ess_eval_domains.specs.declared.closed.Closed.{Closed}
use Rattle.ess_eval_domains.specs.ClosedViews.{pure_closed}
use Rattle.eprime_eval.specs.declared.members.Closed as cell
use Rattle.eprime_eval.specs.ClosedDomains.{pure_closed as pure_cells}
use Rattle.ess_repr_layers_laws.specs.LayerParts.{children_of}
use Rattle.ess_translate_members_laws.specs.LayerCells.{frees, own_cells, cells_of, cells_of_children}
use Rattle.ess_translate_members_laws.proofs.LayerCells.{cells_of-layer}

-- The representations of children.
abbrev pub trees : List Repr → pure.Reprs
trees rs = reprs_of (map pure_repr rs)

abbrev pub cells : List cell.Closed → List Domain
cells cs = map pure_cells cs

pub cells_made : (b out : Bool) (x : Repr) (d : Closed) (own all : List cell.Closed) (kids : List Repr) (ds es : List Closed) →
    cells own ≡ own_cells out (out-Repr x).kind (pure_closed d) → map pure_closed ds ≡ children_of (out-Repr x).kind (pure_closed d) →
    kids ≡ (out-Repr x).children → es ≡ ds → b ≡ (out || frees (out-Repr x).kind) →
    cells all ≡ cells own ++ cells_of_children b (trees kids) (map pure_closed es) → cells all ≡ cells_of out (pure_repr x) (pure_closed d)
cells_made b out x d own all kids ds es p q f g h e =
    e ∙ ap (λ l. cells own ++ cells_of_children b (trees l) (map pure_closed es)) f
    ∙ ap (λ l. cells own ++ cells_of_children b (trees (out-Repr x).children) (map pure_closed l)) g
    ∙ ap (λ c. cells own ++ cells_of_children c (trees (out-Repr x).children) (map pure_closed ds)) h
    ∙ ap (λ l. l ++ cells_of_children (out || frees (out-Repr x).kind) (trees (out-Repr x).children) (map pure_closed ds)) p
    ∙ ap (λ l. own_cells out (out-Repr x).kind (pure_closed d) ++ cells_of_children (out || frees (out-Repr x).kind) (trees
    (out-Repr x).children) l) q
    ∙ sym (cells_of-layer out (out-Repr x).kind (trees (out-Repr x).children) (pure_closed d))
    ∙ ap (λ t. cells_of out t (pure_closed d)) (sym (pure_repr_is x))

-- ---- the children in turn

pub children_more : (out : Bool) (rs : List Repr) (ds : List Closed) (i : ℕ) (x e : Repr) (d b : Closed)
    (own own' all all' : List cell.Closed) (whole : List Domain) →
    i < length rs → i < length ds → x ≡ get_or rs i e → d ≡ get_or ds i b → cells own ≡ cells_of out (pure_repr x) (pure_closed d) →
    own' ≡ own →
    all' ≡ all ++ own' → cells all ++ cells_of_children out (trees (drop i rs)) (map pure_closed (drop i ds)) ≡ whole →
    cells all' ++ cells_of_children out (trees (drop (i + 1) rs)) (map pure_closed (drop (i + 1) ds)) ≡ whole
children_more out rs ds i x e d b own own' all all' whole h k is js en o g p =
    let ts : trees (drop i rs) ≡ more_reprs (pure_repr x) (trees (drop (i + 1) rs)) =
    at_drop_more trees rs i e h ∙ ap (λ q. more_reprs (pure_repr q) (trees (drop (i + 1) rs))) (sym is) in
    let es : map pure_closed (drop i ds) ≡ pure_closed d ∷ map pure_closed (drop (i + 1) ds) =
    at_drop_more (map pure_closed) ds i b k ∙ ap (λ q. pure_closed q ∷ map pure_closed (drop (i + 1) ds)) (sym js) in
    let rest : List Domain = cells_of_children out (trees (drop (i + 1) rs)) (map pure_closed (drop (i + 1) ds)) in
    ap (λ l. l ++ rest) (ap cells (g ∙ ap (λ l. all ++ l) o) ∙ map-append pure_cells all own ∙ ap (λ l. cells all ++ l) en)
    ∙ append_assoc (cells all) (cells_of out (pure_repr x) (pure_closed d)) rest
    ∙ ap (λ l. cells all ++ cells_of_children out (more_reprs (pure_repr x) (trees (drop (i + 1) rs))) l) (sym es)
    ∙ ap (λ t. cells all ++ cells_of_children out t (map pure_closed (drop i ds))) (sym ts) ∙ p

none-below : (out : Bool) (rs : pure.Reprs) → cells_of_children out rs [] ≡ []
none-below out no_reprs = refl
none-below out (more_reprs r rs) = refl

pub children_short : (out : Bool) (rs : List Repr) (ds : List Closed) (i : ℕ) (all : List cell.Closed) (whole : List Domain) →
    length ds ≤ i →
    cells all ++ cells_of_children out (trees (drop i rs)) (map pure_closed (drop i ds)) ≡ whole → cells all ≡ whole
children_short out rs ds i all whole h p =
    sym (append-nil (cells all)) ∙ ap (λ l. cells all ++ l) (sym (none-below out (trees (drop i rs))))
    ∙ ap (λ es. cells all ++ cells_of_children out (trees (drop i rs)) es) (sym (at_drop_all (map pure_closed) ds i h)) ∙ p

pub children_all : (out : Bool) (rs : List Repr) (ds : List Closed) (i : ℕ) (all : List cell.Closed) (whole : List Domain) → length rs ≤ i →
    cells all ++ cells_of_children out (trees (drop i rs)) (map pure_closed (drop i ds)) ≡ whole → cells all ≡ whole
children_all out rs ds i all whole h p =
    sym (append-nil (cells all)) ∙ ap (λ t. cells all ++ cells_of_children out t (map pure_closed (drop i ds))) (sym
    (at_drop_all trees rs i h)) ∙ p

pub ruleset children_in_turn = (children_more, children_short, children_all)
