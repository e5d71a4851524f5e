-- Tables meet the structure of each kind: of slots, of functions, relations, multisets and partitions over their views.
use Rattle.std.proofs.Common.{◌≡◌, refl, sym, ap, ◌∙◌, subst, ℕ, suc, ◌≤◌, ◌<◌, Bool, true, false, if◌then◌else◌, List, [], ◌∷◌, ◌++◌, map, length, ℤ, pos}
use Rattle.ess_semantics.specs.declared.words.Op1.{Op1}
use Rattle.ess_semantics.specs.declared.words.Key.{Key}
use Rattle.ess_semantics.specs.Values.{Text, Value, number}
use Rattle.ess_semantics.specs.Order.{same_text}
use Rattle.ess_semantics.specs.Numbers.{one_to}
use Rattle.ess_semantics.specs.Operators.{as_truth}
use Rattle.ess_semantics.specs.Trees.{Mark, Repr, Ex, Exs, number_ex, name_ex, cell_ex, Dom, Doms, ex1}
use Rattle.ess_semantics.specs.Domains.{Domain, lists_of}
use Rattle.ess_semantics.specs.Tables.{Tables}
use Rattle.ess_semantics.specs.Cells.{Axes, behind, cells_of}
use Rattle.ess_semantics.specs.Declarations.{under, declarations_below}
use Rattle.ess_semantics.specs.Tidy.{over_axes}
use Rattle.ess_semantics.specs.Meaning.{Env, meaning}
use Rattle.ess_repr_laws.specs.FunctionParts.{is_one_cell, differ_ex, value_key_ex, total_ex, flag_key_ex}
use Rattle.ess_repr_laws.specs.MultisetParts.{occurs_ex}
use Rattle.ess_repr_laws.specs.PartitionParts.{numbered_ex}
use Rattle.ess_repr_laws.specs.RelationParts.{relation_key_ex, relation_ex}
use Rattle.ess_repr_laws.specs.StructureParts.{Shape, add_ex, and_ex, implies_ex, le_ex, zeros_ex, keys_ex, size_ex, upto, true_count_ex, row_index, level_behind, each_ex, slots_ex, use_ex, on_axes}
use Rattle.ess_repr_laws.specs.ViewParts.{pairs_ex, parts_ex, components_differ_ex}
use Rattle.ess_repr_laws.specs.Structure.{shapes, structure}
use Rattle.ess_repr_laws.specs.StructureMeaning.{Bound, M, Number, AxesAre, Placed, axes_members, on_members, slot_numbers}
use Rattle.ess_repr_laws.proofs.CanonicalPlaces.{AllOf, all-of-both, all-of-map}
use Rattle.ess_repr_laws.proofs.StructureFits.{Fit}
use Rattle.ess_repr_laws.proofs.StructureOf.{StructureOf, under-codes, child-placed, child-fits}
use Rattle.ess_repr_laws.proofs.StructureRows.{Steady, codes, all_codes, steady-name}
use Rattle.ess_repr_laws.proofs.StructureSlotted.{slots-same, slot-fits, slots-placed}
use Rattle.ess_repr_declare_laws.specs.SizeTerms.{size_terms}
use Rattle.ess_repr_structure_laws.proofs.BuiltStructures as B
use Rattle.ess_repr_structure_laws.proofs.BuiltStructures.{BuiltOf}
use Rattle.ess_repr_structure_laws.proofs.BuiltParts as C
use Rattle.ess_repr_structure_laws.proofs.BuiltItems as J
use Rattle.ess_repr_structure_laws.proofs.BuiltViews as V
use Rattle.ess_repr_structure_laws.proofs.MetParts as P
use Rattle.ess_repr_structure_laws.proofs.MetParts.{Any, MetIn, and-met, implies-met}
use Rattle.ess_repr_structure_laws.proofs.MetLayers as M'
use Rattle.ess_repr_structure_laws.proofs.MetLayers.{name_from, over-inner, lists-long, Later, later-more, here, here-later}

module _ (env0 : Env) (q : ℕ → Text) (q-apart : (m l : ℕ) → l < m → same_text (q m) (q l) ≡ false) where
  abbrev Names : Type 0
  Names = Bound env0 q q-apart

  abbrev N : Names → Env
  N = M env0 q q-apart

  abbrev G : Ex → Type 0
  G = M'.G env0 q q-apart

  abbrev H : ℕ → Names → Ex → Type 0
  H = M'.H env0 q q-apart

  -- What structures are built of, but for views.
  pub built : BuiltOf q G Any (Unit {0}) (Unit {0})
  built = P.built-met env0 q q-apart (M'.Always env0 q q-apart) (λ k. k) (λ bs k v r. tt)

  -- The same of what stands under the names of index lists.
  built-later : (l : ℕ) (bs : Names) → BuiltOf (λ k. q (name_from l k)) (H l bs) Any (Unit {0}) (Unit {0})
  built-later l bs = P.built-met env0 q q-apart (Later env0 q q-apart l bs) (name_from l) (later-more env0 q q-apart l bs)

  -- Names and 1.
  pub name-met : (l : ℕ) → G (name_ex (q l))
  name-met l = let k : BuiltOf q G Any (Unit {0}) (Unit {0}) = built in k.names l

  pub one-met : G (number_ex (pos 1))
  one-met = let k : BuiltOf q G Any (Unit {0}) (Unit {0}) = built in k.one

  dom-later : (l : ℕ) (bs : Names) (d : Dom) → B.DomHas G d → B.DomHas (H l bs) d
  dom-later l bs d h = B.dom-more G (H l bs) (M'.always-later env0 q q-apart l bs) d h

  -- Tables that fit meet the structure of a view.
  pub record Met (r : Repr) (d : Dom) (e : Domain) : Type 0 where
    pub met : (out : Bool) (ns : List Text) (ts : Tables) (l : ℕ) (is : Exs) (i : List ℤ) (bs : Names) → Placed env0 q q-apart
        (shapes q size_terms r d ns) (axes_members r e) ts →
        Fit (declarations_below out r e) (behind i (cells_of ts)) → over_axes i (all_codes env0 q q-apart (axes_members r e)) ts ≡ true →
        Steady env0 q q-apart l is i bs → B.AllHave G is →
        MetIn (structure q size_terms r d ns l is) (N bs)

  -- ---- a child under further axes

  module _ (r : Repr) (d : Dom) (e : Domain) (s : StructureOf env0 q q-apart size_terms r d e) (m : Met r d e) (as' : List Dom)
      (uss : List (List Value)) (bs0 : Axes)
      (same : codes env0 q q-apart uss ≡ bs0) (even : length as' ≡ length uss) (out : Bool) (ns : List Text) (ts : Tables) (i : List ℤ)
      (p : Placed env0 q q-apart (map (on_axes as') (shapes q size_terms r d ns)) (on_members uss (axes_members r e)) ts)
      (c : Fit (under bs0 (declarations_below out r e) ++ []) (behind i (cells_of ts)))
      (o : over_axes i (all_codes env0 q q-apart (on_members uss (axes_members r e))) ts ≡ true) where
    inner-over : (js : List ℤ) → length js ≡ length bs0 → over_axes (i ++ js) (all_codes env0 q q-apart (axes_members r e)) ts ≡ true
    inner-over js n =
        over-inner bs0 i js (all_codes env0 q q-apart (axes_members r e)) ts n
        (ap (λ a. over_axes i a ts) (sym (under-codes env0 q q-apart size_terms uss bs0 (axes_members r e) same)) ∙ o)

    -- At each place.
    pub places-met : (l : ℕ) (is : Exs) → B.AllHave G is → AllOf (lists_of (codes env0 q q-apart uss))
        (λ js. M'.MetAt env0 q q-apart (level_behind l as') (row_index q l as' is)
        (structure q size_terms r d ns (level_behind l as') (row_index q l as' is)) (i ++ js))
    places-met l is a =
        subst (λ z. AllOf (lists_of z)
        (λ js. M'.MetAt env0 q q-apart (level_behind l as') (row_index q l as' is)
        (structure q size_terms r d ns (level_behind l as') (row_index q l as' is)) (i ++ js))) (sym same)
        (all-of-both (lists_of bs0) (λ js. Fit (declarations_below out r e) (behind (i ++ js) (cells_of ts))) (λ js. length js ≡ length bs0)
        (λ js. M'.MetAt env0 q q-apart (level_behind l as') (row_index q l as' is)
        (structure q size_terms r d ns (level_behind l as') (row_index q l as' is)) (i ++ js))
        (λ js f n. λ cs st. m.met out ns ts (level_behind l as') (row_index q l as' is) (i ++ js) cs
        (child-placed env0 q q-apart size_terms r d e s as' uss bs0 same even out ns ts i p c) f
        (inner-over js n) st (C.row-index-has q G Any built l as' is a))
        (child-fits env0 q q-apart size_terms r d e s as' uss bs0 same even out ns ts i p c) (lists-long bs0))

    -- At each place of the axes.
    pub each-place-met : (l : ℕ) (is : Exs) (bs : Names) → B.AllHave G is → AxesAre env0 q q-apart as' uss → B.ListHas G as' → Steady env0 q
        q-apart l is i bs →
        MetIn (each_ex q l as' (structure q size_terms r d ns (level_behind l as') (row_index q l as' is))) (N bs)
    each-place-met l is bs a ax h st = M'.each-met env0 q q-apart l as' uss is i bs
        (structure q size_terms r d ns (level_behind l as') (row_index q l as' is)) ax h st (places-met l is a)

  -- ---- a child in slots

  module _ (r : Repr) (d : Dom) (e : Domain) (s : StructureOf env0 q q-apart size_terms r d e) (m : Met r d e) (size : Ex) (S : ℕ)
      (out : Bool) (ns : List Text) (ts : Tables) (i : List ℤ)
      (p : Placed env0 q q-apart (map (on_axes (upto size ∷ [])) (shapes q size_terms r d ns))
      (on_members (slot_numbers S) (axes_members r e)) ts)
      (c : Fit (under (one_to S ∷ []) (declarations_below out r e) ++ []) (behind i (cells_of ts)))
      (o : over_axes i (all_codes env0 q q-apart (on_members (slot_numbers S) (axes_members r e))) ts ≡ true) where
    -- At each slot.
    pub slot-met : (l : ℕ) (is : Exs) (bs : Names) → B.AllHave G is → Steady env0 q q-apart l is i bs → (k : ℕ) → 1 ≤ k → k ≤ S →
        MetIn (structure q size_terms r d ns (suc l) (add_ex is (name_ex (q l)))) (N ((l, number (pos k)) ∷ bs))
    slot-met l is bs a st k x y =
        m.met out ns ts (suc l) (add_ex is (name_ex (q l))) (i ++ (pos k ∷ [])) ((l, number (pos k)) ∷ bs)
        (slots-placed env0 q q-apart size_terms r d e s size S out ns ts i p c)
        (slot-fits env0 q q-apart size_terms r d e s size S out ns ts i p c k x y)
        (inner-over r d e s m (upto size ∷ []) (slot_numbers S) (one_to S ∷ []) (slots-same env0 q q-apart S) refl out ns ts i p c o
        (pos k ∷ []) refl)
        (steady-name env0 q q-apart l (number (pos k)) is i bs st) (C.name-added q G Any built l is a)

  -- Slots of which the first m are in use.
  pub slots-met : (l : ℕ) (size m : Ex) (ss : List Shape) (is : Exs) (part : Ex) (S : ℕ) (bs : Names) → Number size (N bs) (pos S) → G size
      → G m → C.ShapesHave q G Any built ss → B.AllHave G is →
      ((k : ℕ) → 1 ≤ k → k ≤ S → MetIn part (N ((l, number (pos k)) ∷ bs))) → MetIn (slots_ex q l size m ss is part) (N bs)
  slots-met l size m ss is part S bs hs g h x a f =
      and-met _ _ (N bs) (M'.over-slots-met env0 q q-apart l size (le_ex (name_ex (q l)) m) part S bs hs g
      (C.le-has q G Any built (name_ex (q l)) m (name-met l) h) f)
      (λ t. here env0 q q-apart (C.slots-rest-have q G Any built l size m ss is g h x a) bs)

  -- Slots of which those in use rise.
  pub use-met : (l : ℕ) (size used next rise : Ex) (ss : List Shape) (is : Exs) (part : Ex) (S : ℕ) (bs : Names) → Number size (N bs)
      (pos S) → G size → G used → G next → G rise →
      C.ShapesHave q G Any built ss → B.AllHave G is → ((k : ℕ) → 1 ≤ k → k ≤ S → MetIn part (N ((l, number (pos k)) ∷ bs))) → MetIn
      (use_ex q l size used next rise ss is part) (N bs)
  use-met l size used next rise ss is part S bs hs g h n r x a f =
      and-met _ _ (N bs) (M'.over-slots-met env0 q q-apart l size used part S bs hs g h f)
      (λ t. here env0 q q-apart (C.use-rest-have q G Any built l size used next rise ss is g h n r x a) bs)

  -- ---- attributes of views

  keys-met : (l : ℕ) (bs : Names) (f : Key → Ex) (ms : List Mark) → ((k : Key) → H l bs (f k)) → MetIn (keys_ex f ms) (N bs)
  keys-met l bs f ms h = here-later env0 q q-apart (C.keys-have (λ k. q (name_from l k)) (H l bs) Any (built-later l bs) f ms h)

  if-met : (b : Bool) (x y : Ex) (P : Ex → Type 0) → P x → P y → P (if b then x else y)
  if-met true x y P g h = g
  if-met false x y P g h = h

  value-key-met : (l : ℕ) (bs : Names) (as' : List Dom) (ss : List Shape) (is : Exs) (r : Repr) (c : Dom) (e : Ex) (k : Key) → B.ListHas G
      as' → B.AllHave G is → B.DomHas G c → H l bs e →
      H l bs (value_key_ex q l as' ss is r c e k)
  value-key-met l bs as' ss is r c e Key.Injective x a y h =
      if-met (is_one_cell r) (differ_ex q l as' ss is) (components_differ_ex q l c 2 e) (H l bs)
      (M'.always-later env0 q q-apart l bs (differ_ex q l as' ss is) (V.differ-cells-have q G Any built l as' ss is x a))
      (J.differ-has (λ k. q (name_from l k)) (H l bs) Any (built-later l bs) 0 c 2 e h)
  value-key-met l bs as' ss is r c e k x a y h = J.pair-key-has (λ k. q (name_from l k)) (H l bs) Any (built-later l bs) 0 c e k
      (dom-later l bs c y) h

  flag-key-met : (l : ℕ) (bs : Names) (as' : List Dom) (n : Text) (is : Exs) (c : Dom) (e : Ex) (k : Key) → B.ListHas G as' → B.AllHave G is
      → B.DomHas G c → H l bs e →
      H l bs (flag_key_ex q l as' n is c e k)
  flag-key-met l bs as' n is c e Key.Total x a y h =
      M'.always-later env0 q q-apart l bs (each_ex q l as' (cell_ex true n (row_index q l as' is)))
      (C.each-has q G Any built l as' (cell_ex true n (row_index q l as' is)) x (C.cell-has q G Any built true n l as' is a))
  flag-key-met l bs as' n is c e k x a y h = J.pair-key-has (λ k. q (name_from l k)) (H l bs) Any (built-later l bs) 0 c e k
      (dom-later l bs c y) h

  -- A function with a value for each argument: the view meets its structures where each value does.
  pub total-met : (l : ℕ) (ms : List Mark) (es : Exs) (as' : List Dom) (ss : List Shape) (is : Exs) (r : Repr) (c : Dom) (e part : Ex)
      (bs : Names) → B.AllHave G es → B.ListHas G as' → B.AllHave G is →
      B.DomHas G c → MetIn (each_ex q l as' part) (N bs) → (as_truth (meaning (each_ex q l as' part) (N bs)) ≡ true → H l bs e) → MetIn
      (total_ex q l ms es as' ss is r c e part) (N bs)
  total-met l ms es as' ss is r c e part bs g x a y m f =
      and-met _ _ (N bs) m (λ t. and-met _ _ (N bs)
      (here env0 q q-apart (C.size-has q G Any built ms es _ g (C.place-count-has q G Any built l as' x)) bs)
      (λ u. keys-met l bs (value_key_ex q l as' ss is r c e) ms (λ k. value-key-met l bs as' ss is r c e k x a y (f t))))

  -- One with flags.
  pub partial-met : (l : ℕ) (ms : List Mark) (es : Exs) (as' : List Dom) (n : Text) (is : Exs) (c : Dom) (e shape : Ex) (bs : Names) →
      B.AllHave G es → B.ListHas G as' → B.AllHave G is →
      B.DomHas G c → MetIn shape (N bs) → (as_truth (meaning shape (N bs)) ≡ true → H l bs e) →
      MetIn (and_ex shape (and_ex (size_ex ms es (true_count_ex q l as' n is)) (keys_ex (flag_key_ex q l as' n is c e) ms))) (N bs)
  partial-met l ms es as' n is c e shape bs g x a y m f =
      and-met _ _ (N bs) m (λ t. and-met _ _ (N bs)
      (here env0 q q-apart (C.size-has q G Any built ms es _ g (C.true-count-has q G Any built l as' n is x a)) bs)
      (λ u. keys-met l bs (flag_key_ex q l as' n is c e) ms (λ k. flag-key-met l bs as' n is c e k x a y (f t))))

  -- What attributes without a number ask of the pairs of a view.
  pub keys-later : (l : ℕ) (ms : List Mark) (ds : Doms) (e : Ex) (bs : Names) → B.DomsHave G ds → H l bs e → MetIn
      (keys_ex (relation_key_ex q l ds e) ms) (N bs)
  keys-later l ms ds e bs y h =
      keys-met l bs (relation_key_ex q l ds e) ms
      (λ k. J.relation-key-has (λ k. q (name_from l k)) (H l bs) Any (built-later l bs) 0 ds e k
      (B.doms-more G (H l bs) (M'.always-later env0 q q-apart l bs) ds y) h)

  -- At each place of a function with flags: its value where the flag is true, and cells out of use elsewhere.
  pub flagged-places : (l : ℕ) (as' : List Dom) (uss : List (List Value)) (is : Exs) (i : List ℤ) (n : Text) (ss : List Shape) (part : Ex) →
      B.AllHave G is → C.ShapesHave q G Any built ss →
      AllOf (lists_of (codes env0 q q-apart uss)) (λ js. M'.MetAt env0 q q-apart (level_behind l as') (row_index q l as' is) part (i ++ js))
      →
      AllOf (lists_of (codes env0 q q-apart uss)) (λ js. M'.MetAt env0 q q-apart (level_behind l as') (row_index q l as' is)
      (and_ex (implies_ex (cell_ex true n (row_index q l as' is)) part)
      (implies_ex (ex1 true Op1.Not (cell_ex true n (row_index q l as' is)))
      (zeros_ex q (level_behind l as') ss (row_index q l as' is)))) (i ++ js))
  flagged-places l as' uss is i n ss part a x h =
      all-of-map (lists_of (codes env0 q q-apart uss)) _ _
      (λ js f. λ cs st. and-met _ _ (N cs) (implies-met _ part (N cs)
      (here env0 q q-apart (C.cell-has q G Any built true n l as' is a) cs) (f cs st))
      (λ t. here env0 q q-apart (C.implies-has q G Any built _ _ (C.not-has q G Any built _ (C.cell-has q G Any built true n l as' is a))
      (C.zeros-have q G Any built (level_behind l as') ss (row_index q l as' is) x (C.row-index-has q G Any built l as' is a))) cs)) h

  -- A relation as a matrix.
  pub relation-met : (l : ℕ) (ms : List Mark) (es : Exs) (ds : Doms) (as' : List Dom) (n : Text) (is : Exs) (e : Ex) (bs : Names) →
      B.AllHave G es → B.ListHas G as' → B.AllHave G is → B.DomsHave G ds →
      H l bs e → MetIn (relation_ex q l ms es ds as' n is e) (N bs)
  relation-met l ms es ds as' n is e bs g x a y h =
      and-met _ _ (N bs) (here env0 q q-apart (C.size-has q G Any built ms es _ g (C.true-count-has q G Any built l as' n is x a)) bs)
      (λ t. keys-later l ms ds e bs y h)

  -- What is asked of the pairs of a function's view, of the parts of a partition's, and how often members of a multiset's occur.
  pub pairs-met : (l : ℕ) (ms : List Mark) (es : Exs) (d c : Dom) (e : Ex) (bs : Names) → B.AllHave G es → B.DomHas G c → H l bs e → MetIn
      (pairs_ex q l ms es d c e) (N bs)
  pairs-met l ms es d c e bs g y h =
      here-later env0 q q-apart (J.pairs-have (λ k. q (name_from l k)) (H l bs) Any (built-later l bs) 0 ms es d c e
      (B.have-more G (H l bs) (M'.always-later env0 q q-apart l bs) es g) (dom-later l bs c y) h)

  pub parts-met : (l : ℕ) (ms : List Mark) (d : Dom) (e : Ex) (bs : Names) → B.DomHas G d → H l bs e → MetIn (parts_ex q l ms d e) (N bs)
  parts-met l ms d e bs y h = here-later env0 q q-apart
      (J.parts-have (λ k. q (name_from l k)) (H l bs) Any (built-later l bs) 0 ms d e (dom-later l bs d y) h)

  pub occurs-met : (l : ℕ) (e : Ex) (ms : List Mark) (ns : Exs) (bs : Names) → B.AllHave G ns → H l bs e → MetIn (occurs_ex q l e ms ns)
      (N bs)
  occurs-met l e ms ns bs g h = here-later env0 q q-apart
      (J.occurs-have (λ k. q (name_from l k)) (H l bs) Any (built-later l bs) 0 e ms ns h
      (B.have-more G (H l bs) (M'.always-later env0 q q-apart l bs) ns g))

  -- A partition by the numbers of parts.
  pub numbered-met : (l : ℕ) (ks : List Mark) (ms : Exs) (d : Dom) (n : Ex) (w : Text) (is : Exs) (e : Ex) (bs : Names) → B.AllHave G ms →
      B.DomHas G d → G n → B.AllHave G is →
      (as_truth (meaning (V.numbers_of q G Any built l d n w is) (N bs)) ≡ true → H l bs e) → MetIn (numbered_ex q l ks ms d n w is e)
      (N bs)
  numbered-met l ks ms d n w is e bs g x h a f =
      and-met _ _ (N bs) (here env0 q q-apart (V.numbers-have q G Any built l d n w is x h a) bs)
      (λ t. here-later env0 q q-apart (J.part-attributes-have (λ k. q (name_from l k)) (H l bs) Any (built-later l bs) 0 ks ms n e
      (B.have-more G (H l bs) (M'.always-later env0 q q-apart l bs) ms g)
      (M'.always-later env0 q q-apart l bs n h) (f t)))
