-- Components one behind the other, and layers that no clause names.
use Rattle.std.proofs.Common.{◌≡◌, refl, sym, ap, ◌∙◌, ℕ, ◌+◌, ◌<◌, ◌≤◌, true, false, List, [], ◌∷◌, ◌++◌, append_assoc, map, take, drop, length, get_or}
use Rattle.std.proofs.lemmas.List.{at_drop_more, at_drop_all, append-nil}
use Rattle.ess_semantics.specs.declared.words.ReprKind.{ReprKind}
use Rattle.ess_semantics.specs.Choice.{reprs_of}
use Rattle.ess_semantics.specs.Representations.{width}
use Rattle.ess_semantics.specs.Values.{Text}
use Rattle.ess_semantics.specs.Trees as pure
use Rattle.ess_semantics.specs.Trees.{repr, more_reprs, Reprs, Dom, Doms, Ex, Exs, truth_ex}
use Rattle.ess_core.specs.declared.representations.Repr.{Repr}
use Rattle.ess_core.specs.declared.representations.Repr.TheViews.{out-Repr}
use Rattle.ess_core.specs.TreeViews.{pure_repr}
use Rattle.ess_core_nodes.specs.declared.nodes.NodeDom.{NodeDom}
use Rattle.ess_core_nodes.specs.NodeViews.{pure_dom, pure_doms}
use Rattle.ess_repr_laws.specs.CanonicalTables.{is_compound}
use Rattle.ess_repr_laws.specs.StructureParts.{Shape, and_ex}
use Rattle.ess_repr_laws.specs.Structure.{shapes, shapes_of_each, structure, structure_of_each}
use Rattle.ess_repr_declare_laws.specs.SizeTerms.{size_terms}
use Rattle.conjure_model_laws.specs.ToldApart.{reserved}
use Rattle.ess_structure_layers.proofs.ChildForms.{is_over_many}
use Rattle.ess_structure.specs.Together.{together}

-- ---- more children than one

no-tables : (k : ReprKind) (r s : pure.Repr) (rs : Reprs) (d : Dom) (ns : List Text) → is_compound k ≡ false →
    shapes reserved size_terms (repr k (more_reprs r (more_reprs s rs))) d ns ≡ []
no-tables ReprKind.Tuple r s rs d ns h = cc
no-tables ReprKind.Rec r s rs d ns h = cc
no-tables _ r s rs d ns h = refl

no-layer : (k : ReprKind) (r s : pure.Repr) (rs : Reprs) (d : Dom) (ns : List Text) (l : ℕ) (is : Exs) → is_compound k ≡ false →
    structure reserved size_terms (repr k (more_reprs r (more_reprs s rs))) d ns l is ≡ truth_ex false
no-layer ReprKind.Tuple r s rs d ns l is h = cc
no-layer ReprKind.Rec r s rs d ns l is h = cc
no-layer _ r s rs d ns l is h = refl

-- The same of what a representation stands for.
pub many_tables : (x c b : Repr) (rs ss : List Repr) (d : Dom) (ns : List Text) → is_compound (out-Repr x).kind ≡ false →
    (out-Repr x).children ≡ c ∷ rs → rs ≡ b ∷ ss → shapes reserved size_terms (pure_repr x) d ns ≡ []
many_tables x c b rs ss d ns h i j =
    ap (λ r. shapes reserved size_terms r d ns) (is_over_many x c b rs ss i j)
    ∙ no-tables (out-Repr x).kind (pure_repr c) (pure_repr b) (reprs_of (map pure_repr ss)) d ns h

pub many_structures : (x c b : Repr) (rs ss : List Repr) (d : Dom) (ns : List Text) (l : ℕ) (is : Exs) →
    is_compound (out-Repr x).kind ≡ false →
    (out-Repr x).children ≡ c ∷ rs → rs ≡ b ∷ ss → structure reserved size_terms (pure_repr x) d ns l is ≡ truth_ex false
many_structures x c b rs ss d ns l is h i j =
    ap (λ r. structure reserved size_terms r d ns l is) (is_over_many x c b rs ss i j)
    ∙ no-layer (out-Repr x).kind (pure_repr c) (pure_repr b) (reprs_of (map pure_repr ss)) d ns l is h

-- ---- components

-- The tables of these components.
abbrev pub tables_from : List Repr → List NodeDom → List Text → List Shape
tables_from rs ds ns = shapes_of_each reserved size_terms (reprs_of (map pure_repr rs)) (pure_doms ds) ns

-- The structures of these components.
abbrev pub structures_from : List Repr → List NodeDom → List Text → ℕ → Exs → Ex
structures_from rs ds ns l is = structure_of_each reserved size_terms (reprs_of (map pure_repr rs)) (pure_doms ds) ns l is

tables-next : (rs : List Repr) (ds : List NodeDom) (i : ℕ) (r : Repr) (d : NodeDom) (ns : List Text) → i < length rs → i < length ds →
    r ≡ get_or rs i r → d ≡ get_or ds i d →
    tables_from (drop i rs) (drop i ds) ns
    ≡ shapes reserved size_terms (pure_repr r) (pure_dom d) (take (width (pure_repr r)) ns)
    ++ tables_from (drop (i + 1) rs) (drop (i + 1) ds) (drop (width (pure_repr r)) ns)
tables-next rs ds i r d ns h k p q =
    at_drop_more (λ l. tables_from l (drop i ds) ns) rs i r h ∙ ap (λ x. tables_from (x ∷ drop (i + 1) rs) (drop i ds) ns) (sym p)
    ∙ at_drop_more (λ l. tables_from (r ∷ drop (i + 1) rs) l ns) ds i d k
    ∙ ap (λ x. tables_from (r ∷ drop (i + 1) rs) (x ∷ drop (i + 1) ds) ns) (sym q)

-- From one component to the next one.
pub tables_more : (rs : List Repr) (ds : List NodeDom) (i w : ℕ) (r : Repr) (d : NodeDom) (ns ms us : List Text)
    (ss own new whole : List Shape) →
    i < length rs → i < length ds → r ≡ get_or rs i r → d ≡ get_or ds i d → w ≡ width (pure_repr r) → ms ≡ take w ns → us ≡ drop w ns →
    own ≡ shapes reserved size_terms (pure_repr r) (pure_dom d) ms → new ≡ ss ++ own →
    ss ++ tables_from (drop i rs) (drop i ds) ns ≡ whole →
    new ++ tables_from (drop (i + 1) rs) (drop (i + 1) ds) us ≡ whole
tables_more rs ds i w r d ns ms us ss own new whole h k p q e f g a b c =
    let o : own ≡ shapes reserved size_terms (pure_repr r) (pure_dom d) (take (width (pure_repr r)) ns) =
    a ∙ ap (λ x. shapes reserved size_terms (pure_repr r) (pure_dom d) x) (f ∙ ap (λ n. take n ns) e) in
    let u : us ≡ drop (width (pure_repr r)) ns = g ∙ ap (λ n. drop n ns) e in
    ap (λ x. x ++ tables_from (drop (i + 1) rs) (drop (i + 1) ds) us) b
    ∙ ap (λ x. (ss ++ own) ++ tables_from (drop (i + 1) rs) (drop (i + 1) ds) x) u
    ∙ append_assoc ss own (tables_from (drop (i + 1) rs) (drop (i + 1) ds) (drop (width (pure_repr r)) ns))
    ∙ ap (λ x. ss ++ (x ++ tables_from (drop (i + 1) rs) (drop (i + 1) ds) (drop (width (pure_repr r)) ns))) o
    ∙ ap (λ x. ss ++ x) (sym (tables-next rs ds i r d ns h k p q)) ∙ c

-- No child is left.
pub no_table_left : (rs : List Repr) (ds : List NodeDom) (i : ℕ) (ns : List Text) (ss whole : List Shape) → length rs ≤ i →
    ss ++ tables_from (drop i rs) (drop i ds) ns ≡ whole → ss ≡ whole
no_table_left rs ds i ns ss whole h c =
    sym (ap (λ x. ss ++ x) (at_drop_all (λ l. tables_from l (drop i ds) ns) rs i h) ∙ append-nil ss) ∙ c

no-part : (rs : Reprs) (ns : List Text) → shapes_of_each reserved size_terms rs pure.no_doms ns ≡ []
no-part pure.no_reprs ns = refl
no-part (more_reprs r rs) ns = refl

-- No component is left.
pub no_part_left : (rs : List Repr) (ds : List NodeDom) (i : ℕ) (ns : List Text) (ss whole : List Shape) → length ds ≤ i →
    ss ++ tables_from (drop i rs) (drop i ds) ns ≡ whole → ss ≡ whole
no_part_left rs ds i ns ss whole h c =
    sym (ap (λ x. ss ++ x) (at_drop_all (λ l. tables_from (drop i rs) l ns) ds i h ∙ no-part (reprs_of (map pure_repr (drop i rs))) ns)
    ∙ append-nil ss) ∙ c

structures-next : (rs : List Repr) (ds : List NodeDom) (i : ℕ) (r : Repr) (d : NodeDom) (ns : List Text) (l : ℕ) (is : Exs) →
    i < length rs → i < length ds → r ≡ get_or rs i r → d ≡ get_or ds i d →
    structures_from (drop i rs) (drop i ds) ns l is
    ≡ and_ex (structure reserved size_terms (pure_repr r) (pure_dom d) (take (width (pure_repr r)) ns) l is)
    (structures_from (drop (i + 1) rs) (drop (i + 1) ds) (drop (width (pure_repr r)) ns) l is)
structures-next rs ds i r d ns l is h k p q =
    at_drop_more (λ x. structures_from x (drop i ds) ns l is) rs i r h
    ∙ ap (λ x. structures_from (x ∷ drop (i + 1) rs) (drop i ds) ns l is) (sym p)
    ∙ at_drop_more (λ x. structures_from (r ∷ drop (i + 1) rs) x ns l is) ds i d k
    ∙ ap (λ x. structures_from (r ∷ drop (i + 1) rs) (x ∷ drop (i + 1) ds) ns l is) (sym q)

-- One more constraint behind others.
together-more : (es : List Ex) (e t : Ex) → together (es ++ e ∷ []) t ≡ together es (and_ex e t)
together-more [] e t = refl
together-more (x ∷ es) e t = ap (and_ex x) (together-more es e t)

-- The last constraint goes over to the one behind.
pub last_taken : (es fs : List Ex) (e t u whole : Ex) → es ≡ fs ++ e ∷ [] → u ≡ and_ex e t → together es t ≡ whole → together fs u ≡ whole
last_taken es fs e t u whole h p c = ap (together fs) p ∙ sym (together-more fs e t) ∙ ap (λ l. together l t) (sym h) ∙ c

-- None is left.
pub none_taken : (es : List Ex) (t whole : Ex) → es ≡ [] → together es t ≡ whole → t ≡ whole
none_taken es t whole h c = ap (λ l. together l t) (sym h) ∙ c

-- From one component to the next one.
pub structures_more : (rs : List Repr) (ds : List NodeDom) (i w : ℕ) (r : Repr) (d : NodeDom) (ns ms us : List Text) (l : ℕ) (is : Exs)
    (es new : List Ex) (e whole : Ex) →
    i < length rs → i < length ds → r ≡ get_or rs i r → d ≡ get_or ds i d → w ≡ width (pure_repr r) → ms ≡ take w ns → us ≡ drop w ns →
    e ≡ structure reserved size_terms (pure_repr r) (pure_dom d) ms l is → new ≡ es ++ e ∷ [] →
    together es (structures_from (drop i rs) (drop i ds) ns l is) ≡ whole →
    together new (structures_from (drop (i + 1) rs) (drop (i + 1) ds) us l is) ≡ whole
structures_more rs ds i w r d ns ms us l is es new e whole h k p q m f g a b c =
    let o : e ≡ structure reserved size_terms (pure_repr r) (pure_dom d) (take (width (pure_repr r)) ns) l is =
    a ∙ ap (λ x. structure reserved size_terms (pure_repr r) (pure_dom d) x l is) (f ∙ ap (λ n. take n ns) m) in
    let u : us ≡ drop (width (pure_repr r)) ns = g ∙ ap (λ n. drop n ns) m in
    ap (λ x. together x (structures_from (drop (i + 1) rs) (drop (i + 1) ds) us l is)) b
    ∙ ap (λ x. together (es ++ e ∷ []) (structures_from (drop (i + 1) rs) (drop (i + 1) ds) x l is)) u
    ∙ together-more es e (structures_from (drop (i + 1) rs) (drop (i + 1) ds) (drop (width (pure_repr r)) ns) l is)
    ∙ ap (λ x. together es (and_ex x (structures_from (drop (i + 1) rs) (drop (i + 1) ds) (drop (width (pure_repr r)) ns) l is))) o
    ∙ ap (together es) (sym (structures-next rs ds i r d ns l is h k p q)) ∙ c

-- No child is left.
pub no_child_left : (rs : List Repr) (ds : List NodeDom) (i : ℕ) (ns : List Text) (l : ℕ) (is : Exs) (es : List Ex) (whole : Ex) →
    length rs ≤ i →
    together es (structures_from (drop i rs) (drop i ds) ns l is) ≡ whole → together es (truth_ex true) ≡ whole
no_child_left rs ds i ns l is es whole h c =
    ap (together es) (sym (at_drop_all (λ x. structures_from x (drop i ds) ns l is) rs i h)) ∙ c

no-structure : (rs : Reprs) (ns : List Text) (l : ℕ) (is : Exs) →
    structure_of_each reserved size_terms rs pure.no_doms ns l is ≡ truth_ex true
no-structure pure.no_reprs ns l is = refl
no-structure (more_reprs r rs) ns l is = refl

-- No component is left.
pub no_component_left : (rs : List Repr) (ds : List NodeDom) (i : ℕ) (ns : List Text) (l : ℕ) (is : Exs) (es : List Ex) (whole : Ex) →
    length ds ≤ i → together es (structures_from (drop i rs) (drop i ds) ns l is) ≡ whole → together es (truth_ex true) ≡ whole
no_component_left rs ds i ns l is es whole h c =
    ap (together es)
    (sym (at_drop_all (λ x. structures_from (drop i rs) x ns l is) ds i h ∙ no-structure (reprs_of (map pure_repr (drop i rs))) ns l is))
    ∙ c
