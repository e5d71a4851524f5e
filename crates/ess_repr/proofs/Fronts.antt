-- What stands before the names of the tables of children, and these tables below an outer layer.
use Rattle.std.proofs.Common.{◌≡◌, refl, sym, ap, ◌∙◌, ℕ, zero, suc, ◌+◌, ◌<◌, ◌≤◌, take, get_or, length, arith, codes, decimal, Bool, List, [], ◌∷◌, ◌++◌, map}
use Rattle.std.proofs.lemmas.List.{map-append, append_assoc, append-nil, length-map, take_more, take_all}
use Rattle.ess_semantics.specs.declared.words.ReprKind.{ReprKind}
use Rattle.ess_semantics.specs.Lists.{zip}
use Rattle.ess_semantics.specs.Values.{Text}
use Rattle.ess_semantics.specs.Names.{keys}
use Rattle.ess_semantics.specs.Choice.{reprs_of}
use Rattle.ess_semantics.specs.Kinds.{dom_list}
use Rattle.ess_semantics.specs.Trees.{Repr, Dom, bool_dom}
use Rattle.ess_semantics.specs.TableNames.{Named, child_names, numbered_names}
use Rattle.ess_semantics.specs.DeclaredTables.{TableDecl}
use Rattle.ess_core.specs.declared.domains.Dom as code
use Rattle.ess_core.specs.declared.domains.Dom.TheVariants as variant
use Rattle.ess_core.specs.declared.domains.FieldDom.{FieldDom}
use Rattle.ess_core.specs.declared.domains.Dom.TheViews.{out-FieldDom}
use Rattle.ess_core.specs.TreeViews.{pure_dom, pure_doms, pure_field_dom}
use Rattle.ess_core.proofs.DomainEquations.{pure_rec}
use Rattle.ess_core.proofs.PartEquations.{pure_field_dom_is}
use Rattle.ess_repr_declare_laws.specs.DeclaredTrees.{trees_below, trees_of_children, below_layer}
use Rattle.ess_repr.specs.Fronts.{trees_of_named}

-- What stands before the names of a child is the same for every domain, where the kind isn't one that looks at it.
pub names_alike : (k : ReprKind) (d : Dom) → (k ≡ ReprKind.Tuple → ⊥) → (k ≡ ReprKind.Rec → ⊥) → (k ≡ ReprKind.Matrix → ⊥) →
    (k ≡ ReprKind.FunctionND → ⊥) → (k ≡ ReprKind.FunctionNDPartial → ⊥) → keys (child_names k d) ≡ keys (child_names k bool_dom)
names_alike ReprKind.Atom d t r m f p = refl
names_alike ReprKind.Tuple d t r m f p = absurd (t refl)
names_alike ReprKind.Rec d t r m f p = absurd (r refl)
names_alike ReprKind.Matrix d t r m f p = absurd (m refl)
names_alike ReprKind.Occurrence d t r m f p = refl
names_alike ReprKind.Explicit d t r m f p = refl
names_alike ReprKind.ExplicitVarSizeWithMarker d t r m f p = refl
names_alike ReprKind.ExplicitVarSizeWithFlags d t r m f p = refl
names_alike ReprKind.ExplicitVarSizeWithDummy d t r m f p = refl
names_alike ReprKind.MSetOccurrence d t r m f p = refl
names_alike ReprKind.MSetExplicitWithRepetition d t r m f p = refl
names_alike ReprKind.MSetExplicitWithFlags d t r m f p = refl
names_alike ReprKind.Function1D d t r m f p = refl
names_alike ReprKind.Function1DPartial d t r m f p = refl
names_alike ReprKind.FunctionND d t r m f p = absurd (f refl)
names_alike ReprKind.FunctionNDPartial d t r m f p = absurd (p refl)
names_alike ReprKind.FunctionAsRelation d t r m f p = refl
names_alike ReprKind.RelationAsMatrix d t r m f p = refl
names_alike ReprKind.RelationAsSet d t r m f p = refl
names_alike ReprKind.PartitionOccurrence d t r m f p = refl
names_alike ReprKind.PartitionAsSet d t r m f p = refl

-- ---- below an outer layer

-- A layer below a layer.
pub below-twice : (n m : Text) (as' bs : List Dom) (ts : List TableDecl) →
    map (below_layer n as') (map (below_layer m bs) ts) ≡ map (below_layer (n ++ m) (as' ++ bs)) ts
below-twice n m as' bs [] = refl
below-twice n m as' bs (t ∷ ts) =
    ap (λ x. x ∷ map (below_layer n as') (map (below_layer m bs) ts)) (one t) ∙ ap (λ xs. below_layer (n ++ m) (as' ++ bs) t ∷ xs) (below-twice n m as' bs ts)
  where
    one : (t : TableDecl) → below_layer n as' (below_layer m bs t) ≡ below_layer (n ++ m) (as' ++ bs) t
    one t = ap (λ x. record { name = x; axes = as' ++ (bs ++ t.axes); cell = t.cell }) (sym (append_assoc n m t.name))
        ∙ ap (λ x. record { name = (n ++ m) ++ t.name; axes = x; cell = t.cell }) (sym (append_assoc as' bs t.axes))

-- The tables of the children with an outer name and all axes in front are those of the definition with the outer axes in front.
pub children_named : (out : Bool) (n : Text) (as' ls : List Dom) (rs : List Repr) (cs : List Named) (ds : List Dom) →
    map (below_layer n (as' ++ ls)) (trees_of_named out rs (keys cs) ds) ≡ map (below_layer n as') (trees_of_children out (reprs_of rs) (zip cs ds) ls)
children_named out n as' ls [] cs ds = refl
children_named out n as' ls (r ∷ rs) [] ds = refl
children_named out n as' ls (r ∷ rs) (c ∷ cs) [] = refl
children_named out n as' ls (r ∷ rs) (c ∷ cs) (d ∷ ds) =
    map-append (below_layer n (as' ++ ls)) (map (below_layer c.0 []) (trees_below out r d)) (trees_of_named out rs (keys cs) ds)
    ∙ ap (λ x. x ++ map (below_layer n (as' ++ ls)) (trees_of_named out rs (keys cs) ds)) this
    ∙ ap (λ x. map (below_layer n as') (map (below_layer c.0 ls) (trees_below out r d)) ++ x) (children_named out n as' ls rs cs ds)
    ∙ sym (map-append (below_layer n as') (map (below_layer c.0 ls) (trees_below out r d)) (trees_of_children out (reprs_of rs) (zip cs ds) ls))
  where
    this : map (below_layer n (as' ++ ls)) (map (below_layer c.0 []) (trees_below out r d)) ≡ map (below_layer n as') (map (below_layer c.0 ls) (trees_below out r d))
    this = below-twice n c.0 (as' ++ ls) [] (trees_below out r d)
        ∙ ap (λ x. map (below_layer (n ++ c.0) x) (trees_below out r d)) (append-nil (as' ++ ls))
        ∙ sym (below-twice n c.0 as' ls (trees_below out r d))

-- ---- names of components and fields

-- One component's number more.
pub numbers_more : (ds : List Dom) (k i : ℕ) → i < length ds →
    keys (numbered_names k (take (i + 1) ds)) ≡ keys (numbered_names k (take i ds)) ++ (codes "_" ++ decimal (k + i)) ∷ []
numbers_more [] k i h = absurd (omega arith)
numbers_more (d ∷ ds) k zero h = ap (λ n. (codes "_" ++ decimal n) ∷ []) (same k)
  where
    same : (k : ℕ) → k ≡ k + 0
    same k = omega arith
numbers_more (d ∷ ds) k (suc i) h =
    ap (λ n. keys (numbered_names k (take n (d ∷ ds)))) (next i)
    ∙ ap (λ ns. (codes "_" ++ decimal k) ∷ ns) (numbers_more ds (suc k) i (omega arith))
    ∙ ap (λ n. (codes "_" ++ decimal k) ∷ (keys (numbered_names (suc k) (take i ds)) ++ (codes "_" ++ decimal n) ∷ [])) (count k i)
  where
    next : (i : ℕ) → suc i + 1 ≡ suc (i + 1)
    next i = omega arith

    count : (k i : ℕ) → suc k + i ≡ k + suc i
    count k i = omega arith

-- A name more for one component more.
pub numbers_step : (ps : List code.Dom) (i : ℕ) (ns ms : List Text) (n : Text) → i < length ps → n ≡ codes "_" ++ decimal (i + 1) →
    ms ≡ ns ++ n ∷ [] → ns ≡ keys (numbered_names 1 (take i (map pure_dom ps))) → ms ≡ keys (numbered_names 1 (take (i + 1) (map pure_dom ps)))
numbers_step ps i ns ms n h q r p =
    r ∙ ap (λ x. ns ++ x ∷ []) q ∙ ap (λ x. x ++ (codes "_" ++ decimal (i + 1)) ∷ []) p
    ∙ ap (λ k. keys (numbered_names 1 (take i (map pure_dom ps))) ++ (codes "_" ++ decimal k) ∷ []) (turned i)
    ∙ sym (numbers_more (map pure_dom ps) 1 i (shorter (length-map ps pure_dom)))
  where
    turned : (i : ℕ) → i + 1 ≡ 1 + i
    turned i = omega arith

    shorter : length (map pure_dom ps) ≡ length ps → i < length (map pure_dom ps)
    shorter e = omega arith

-- The names of all components.
pub numbers_all : (ps : List code.Dom) (i : ℕ) (ns : List Text) → length ps ≤ i → ns ≡ keys (numbered_names 1 (take i (map pure_dom ps))) →
    ns ≡ keys (numbered_names 1 (dom_list (pure_doms ps)))
numbers_all ps i ns h p =
    p ∙ ap (λ ds. keys (numbered_names 1 ds)) (take_all i (map pure_dom ps) (longer (length-map ps pure_dom)) ∙ sym (listed ps))
  where
    longer : length (map pure_dom ps) ≡ length ps → length (map pure_dom ps) ≤ i
    longer e = omega arith

    listed : (ps : List code.Dom) → dom_list (pure_doms ps) ≡ map pure_dom ps
    listed [] = refl
    listed (d ∷ ds) = ap (λ l. pure_dom d ∷ l) (listed ds)

-- What stands before the names of a field's tables.
abbrev pub front_of : FieldDom → Text
front_of f = codes "_" ++ (out-FieldDom f).name

-- A name more for one field more.
pub fields_step : (fs : List FieldDom) (i : ℕ) (ns ms : List Text) (f : FieldDom) (n : Text) → i < length fs → f ≡ get_or fs i f →
    n ≡ codes "_" ++ (out-FieldDom f).name → ms ≡ ns ++ n ∷ [] → ns ≡ map front_of (take i fs) → ms ≡ map front_of (take (i + 1) fs)
fields_step fs i ns ms f n h is q r p =
    r ∙ ap (λ x. ns ++ x ∷ []) q ∙ ap (λ x. x ++ front_of f ∷ []) p ∙ ap (λ y. map front_of (take i fs) ++ front_of y ∷ []) is
    ∙ sym (map-append front_of (take i fs) (get_or fs i f ∷ [])) ∙ sym (ap (map front_of) (take_more fs i f h))

-- The names of all fields.
pub fields_end : (fs : List FieldDom) (i : ℕ) (ns : List Text) → length fs ≤ i → ns ≡ map front_of (take i fs) →
    ns ≡ map (λ a. codes "_" ++ a) (keys (map pure_field_dom fs))
fields_end fs i ns h p = p ∙ ap (map front_of) (take_all i fs h) ∙ each fs
  where
    each : (fs : List FieldDom) → map front_of fs ≡ map (λ a. codes "_" ++ a) (keys (map pure_field_dom fs))
    each [] = refl
    each (f ∷ fs) = ap (λ l. front_of f ∷ l) (each fs) ∙ ap (λ g. (codes "_" ++ g.0) ∷ map (λ a. codes "_" ++ a) (keys (map pure_field_dom fs))) (sym (pure_field_dom_is f))

-- What stands before the names of the tables of a record's fields.
pub record_fronts : (fs : List Text) → keys {A = ℕ} (map (λ f. (codes "_" ++ f, 0)) fs) ≡ map (λ a. codes "_" ++ a) fs
record_fronts [] = refl
record_fronts (f ∷ fs) = ap (λ l. (codes "_" ++ f) ∷ l) (record_fronts fs)

-- The fields of a record as they stand in code.
pub record_named : (k : ReprKind) (d : code.Dom) (fs : List FieldDom) (ns : List Text) → k ≡ ReprKind.Rec → d ≡ variant.Rec fs →
    ns ≡ map (λ a. codes "_" ++ a) (keys (map pure_field_dom fs)) → ns ≡ keys (child_names k (pure_dom d))
record_named k d fs ns p q r =
    r ∙ sym (record_fronts (keys (map pure_field_dom fs)))
    ∙ sym (ap (λ j. keys (child_names j (pure_dom d))) p ∙ ap (λ x. keys (child_names ReprKind.Rec x)) (ap pure_dom q ∙ pure_rec fs))
