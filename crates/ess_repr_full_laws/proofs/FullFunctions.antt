-- Tables that fit are full for the structures of matrices, functions, relations and partitions.
use Rattle.std.proofs.Common.{◌≡◌, refl, sym, ap, ◌∙◌, subst, ℕ, ◌<◌, Bool, true, false, if◌then◌else◌, List, [], ◌∷◌, ◌++◌, map, length, ℤ, Option, Some, None, is_some, append-nil}
use Rattle.std.specs.List.{list_all}
use Rattle.ess_semantics.specs.declared.words.Op1.{Op1}
use Rattle.ess_semantics.specs.declared.words.Op2.{Op2}
use Rattle.ess_semantics.specs.declared.words.Fun.{Fun}
use Rattle.ess_semantics.specs.declared.words.Key.{Key}
use Rattle.ess_semantics.specs.declared.words.ReprKind.{ReprKind}
use Rattle.ess_semantics.specs.Lists.{is_some_and}
use Rattle.ess_semantics.specs.Values.{Text, Value}
use Rattle.ess_semantics.specs.Order.{same_text}
use Rattle.ess_semantics.specs.Kinds.{dom_list}
use Rattle.ess_semantics.specs.Names.{look, Names}
use Rattle.ess_semantics.specs.Types.{Ty, bind_types, type_of_dom}
use Rattle.ess_semantics.specs.Contexts.{Each, EachOf}
use Rattle.ess_semantics.specs.Trees.{unary, Mark, name_pat, Repr, repr, no_reprs, more_reprs, Ex, Exs, comp_ex, cell_ex, Gens, over, Dom, Doms, matrix_dom, relation_dom, ex1}
use Rattle.ess_semantics.specs.Domains.{Attribute, Domain, Domains, matrices, relations, lists_of}
use Rattle.ess_semantics.specs.Tables.{Table, Tables, code, cell_at}
use Rattle.ess_semantics.specs.Cells.{every_cell}
use Rattle.ess_semantics.specs.Meaning.{Env, members_in, domain_of, is_bool_dom}
use Rattle.ess_semantics.specs.Full.{Full, FullUnder}
use Rattle.ess_semantics.proofs.Tests.{and-left, and-right}
use Rattle.ess_repr_laws.specs.FunctionParts.{is_one_cell, differ_ex, value_key_ex, total_ex, flag_key_ex, partial_ex}
use Rattle.ess_repr_laws.specs.RelationParts.{bare_relation_dom, relation_key_ex}
use Rattle.ess_repr_laws.specs.StructureParts.{and_ex, implies_ex, row_index, level_behind, zeros_ex, on_axes, first_name}
use Rattle.ess_repr_laws.specs.ViewParts.{components_differ_ex}
use Rattle.ess_repr_laws.specs.Structure.{shapes, structure}
use Rattle.ess_repr_laws.specs.StructureMeaning.{Bound, M, AxesAre, Placed, DomainIs, axes_members, index_members, on_members, fit}
use Rattle.ess_repr_laws.proofs.CanonicalPlaces.{AllOf, all-of-map, all-of-both}
use Rattle.ess_repr_laws.proofs.StructureOf.{StructureOf}
use Rattle.ess_repr_laws.proofs.StructureRows.{Steady, There, codes, grid_at}
use Rattle.ess_repr_declare_laws.specs.SizeTerms.{size_terms}
use Rattle.ess_repr_structure_laws.proofs.BuiltStructures as B
use Rattle.ess_repr_structure_laws.proofs.MetParts.{Any}
use Rattle.ess_repr_full_laws.proofs.FullParts.{Anywhere, FullIn, dom-anywhere, two-full, one-full, size-full, keys-full, row-index-anywhere}
use Rattle.ess_repr_full_laws.proofs.FullCells.{FullAt, cells-full, of-cells, places-full, fold-full, zeros-full}
use Rattle.ess_repr_full_laws.proofs.FullCounts.{place-count-full, true-count-full}
use Rattle.ess_repr_full_laws.proofs.FullSeen.{Seen, view-full, differ-full, pair-key-full, relation-key-full}
use Rattle.ess_repr_full_laws.proofs.FullKinds.{FullOf, child-full, child-there, child-placed}
use Rattle.ess_repr_full_laws.proofs.FullSets.{axes-free}

-- The cells of a table with one axis are there at each of its members.
pub one-there : (vs : List Value) (p : ℤ → Bool) (t : Table) (i : List ℤ) →
    list_all (λ k. is_some_and (cell_at t (i ++ (k ∷ []))) p) (map code vs) ≡ true →
    AllOf vs (λ v. is_some (cell_at t (i ++ (code v ∷ []))) ≡ true)
one-there [] p t i h = tt
one-there (v ∷ vs) p t i h = (
  one (cell_at t (i ++ (code v ∷ []))) (and-left (is_some_and (cell_at t (i ++ (code v ∷ []))) p) _ h),
  one-there vs p t i (and-right (is_some_and (cell_at t (i ++ (code v ∷ []))) p) _ h),
)
  where
    one : (o : Option ℤ) → is_some_and o p ≡ true → is_some o ≡ true
    one None h = cc
    one (Some z) h = refl

module _ (env0 : Env) (q : ℕ → Text) (q-apart : (m l : ℕ) → l < m → same_text (q m) (q l) ≡ false) where
  abbrev B' : Type 0
  B' = Bound env0 q q-apart

  abbrev N : B' → Env
  N = M env0 q q-apart

  abbrev pub Here : Repr → Dom → Domain → List Text → Tables → ℕ → Exs → List ℤ → B' → Type 0
  Here r d e ns ts l is i bs =
      Placed env0 q q-apart (shapes q size_terms r d ns) (axes_members r e) ts →
      There env0 q q-apart (shapes q size_terms r d ns) (axes_members r e) ts i →
      Steady env0 q q-apart l is i bs → B.AllHave (Anywhere env0) is → FullIn (structure q size_terms r d ns l is) (N bs)

  -- ---- matrices

  pub matrix-full : (r : Repr) (is : Doms) (d : Dom) (js : Domains) (e : Domain) → FullOf env0 q q-apart r d e →
      AxesAre env0 q q-apart (dom_list is) (index_members js) → length (dom_list is) ≡ length (index_members js) →
      B.Good (Anywhere env0) Any (matrix_dom is d) → FullOf env0 q q-apart (repr ReprKind.Matrix (more_reprs r no_reprs)) (matrix_dom is d)
      (matrices js e)
  matrix-full r is d js e m ax even g = record {
    full = λ ns ts l es i bs p th st a.
        fold-full env0 q q-apart true Fun.And _ bs (places-full env0 q q-apart l (dom_list is) (index_members js) es i bs _ ax
        (B.list-has (Anywhere env0) Any is g.0) st
        (child-full env0 q q-apart r d e m (dom_list is) (index_members js) even ns ts i p th l es a));
  }

  -- ---- functions with a value for each argument

  -- That the values of cells differ.
  differ-cells : (c : Dom) (y : Domain) (as' : List Dom) (uss : List (List Value)) → AxesAre env0 q q-apart as' uss →
      B.ListHas (Anywhere env0) as' → (r : Repr) → is_one_cell r ≡ true →
      (ns : List Text) (ts : Tables) (l : ℕ) (is : Exs) (i : List ℤ) (bs : B') →
      Placed env0 q q-apart (map (on_axes as') (shapes q size_terms r c ns)) (on_members uss (axes_members r y)) ts →
      There env0 q q-apart (map (on_axes as') (shapes q size_terms r c ns)) (on_members uss (axes_members r y)) ts i →
      Steady env0 q q-apart l is i bs → B.AllHave (Anywhere env0) is → FullIn (differ_ex q l as' (shapes q size_terms r c ns) is) (N bs)
  differ-cells c y as' uss ax x (repr ReprKind.Atom no_reprs) h ns [] l is i bs p th st a = absurd p
  differ-cells c y as' uss ax x (repr ReprKind.Atom no_reprs) h ns (t ∷ ts) l is i bs p th st a =
      fold-full env0 q q-apart true Fun.AllDiff _ bs (of-cells env0 q q-apart l (is_bool_dom c) (first_name ns) t as' uss is i bs _
      (fit (is_bool_dom c)) p.0 ax x a
      (ap (λ a. every_cell (codes env0 q q-apart a) (fit (is_bool_dom c)) (grid_at env0 q q-apart t i)) (sym (append-nil uss)) ∙ th.0) st
      (λ cs z. z))
  differ-cells c y as' uss ax x _ h ns ts l is i bs p th st a = cc

  module _ (r : Repr) (c : Dom) (y : Domain) (m : FullOf env0 q q-apart r c y) (as' : List Dom) (uss : List (List Value))
      (ax : AxesAre env0 q q-apart as' uss) (even : length as' ≡ length uss) (af : B.ListHas (Anywhere env0) as')
      (cf : B.Good (Anywhere env0) Any c)
      (ms : List Mark) (es : Exs) (ef : B.AllHave (Anywhere env0) es) where
    if-full : (b : Bool) (x z : Ex) (bs : B') → (b ≡ true → FullIn x (N bs)) → FullIn z (N bs) → FullIn (if b then x else z) (N bs)
    if-full true x z bs f h = f refl
    if-full false x z bs f h = h

    value-key-full : (ns : List Text) (ts : Tables) (l : ℕ) (is : Exs) (i : List ℤ) (bs : B') (e : Ex) (k : Key) →
        Seen env0 q q-apart l bs e →
        Placed env0 q q-apart (map (on_axes as') (shapes q size_terms r c ns)) (on_members uss (axes_members r y)) ts →
        There env0 q q-apart (map (on_axes as') (shapes q size_terms r c ns)) (on_members uss (axes_members r y)) ts i →
        Steady env0 q q-apart l is i bs → B.AllHave (Anywhere env0) is →
        FullIn (value_key_ex q l as' (shapes q size_terms r c ns) is r c e k) (N bs)
    value-key-full ns ts l is i bs e Key.Injective s p th st a =
        if-full (is_one_cell r) (differ_ex q l as' (shapes q size_terms r c ns) is) (components_differ_ex q l c 2 e) bs
        (λ h. differ-cells c y as' uss ax af r h ns ts l is i bs p th st a) (differ-full env0 q q-apart l bs e s c 2)
    value-key-full ns ts l is i bs e k s p th st a = pair-key-full env0 q q-apart l bs e s c k (B.good-has (Anywhere env0) Any c cf)

    pub total-full : (ns : List Text) (ts : Tables) (l : ℕ) (is : Exs) (i : List ℤ) (bs : B') (e : Ex) → Seen env0 q q-apart l bs e →
        Placed env0 q q-apart (map (on_axes as') (shapes q size_terms r c ns)) (on_members uss (axes_members r y)) ts →
        There env0 q q-apart (map (on_axes as') (shapes q size_terms r c ns)) (on_members uss (axes_members r y)) ts i →
        Steady env0 q q-apart l is i bs → B.AllHave (Anywhere env0) is →
        FullIn (total_ex q l ms es as' (shapes q size_terms r c ns) is r c e
        (structure q size_terms r c ns (level_behind l as') (row_index q l as' is))) (N bs)
    total-full ns ts l is i bs e s p th st a =
        two-full (N bs) true Op2.And _ _
        (fold-full env0 q q-apart true Fun.And _ bs (places-full env0 q q-apart l as' uss is i bs _ ax af st
        (child-full env0 q q-apart r c y m as' uss even ns ts i p th l is a)))
        (two-full (N bs) true Op2.And _ _ (size-full env0 (N bs) ms es _ ef (place-count-full env0 q q-apart l as' uss is i bs ax af st))
        (keys-full (N bs) (value_key_ex q l as' (shapes q size_terms r c ns) is r c e) ms
        (λ k. value-key-full ns ts l is i bs e k s p th st a)))

    -- ---- functions with flags

    flag-key-full : (n : Text) (t : Table) (l : ℕ) (is : Exs) (i : List ℤ) (bs : B') (e : Ex) (k : Key) → Seen env0 q q-apart l bs e →
        look env0.cells n ≡ Some t → every_cell (codes env0 q q-apart uss) (fit true) (grid_at env0 q q-apart t i) ≡ true →
        Steady env0 q q-apart l is i bs → B.AllHave (Anywhere env0) is → FullIn (flag_key_ex q l as' n is c e k) (N bs)
    flag-key-full n t l is i bs e Key.Total s h x st a =
        fold-full env0 q q-apart true Fun.And _ bs (of-cells env0 q q-apart l true n t as' uss is i bs _ (fit true) h ax af a x st
        (λ cs z. z))
    flag-key-full n t l is i bs e k s h x st a = pair-key-full env0 q q-apart l bs e s c k (B.good-has (Anywhere env0) Any c cf)

    pub partial-full : (ns : List Text) (n : Text) (t : Table) (ts : Tables) (l : ℕ) (is : Exs) (i : List ℤ) (bs : B') (e : Ex) →
        Seen env0 q q-apart l bs e → look env0.cells n ≡ Some t →
        every_cell (codes env0 q q-apart uss) (fit true) (grid_at env0 q q-apart t i) ≡ true →
        Placed env0 q q-apart (map (on_axes as') (shapes q size_terms r c ns)) (on_members uss (axes_members r y)) ts →
        There env0 q q-apart (map (on_axes as') (shapes q size_terms r c ns)) (on_members uss (axes_members r y)) ts i →
        Steady env0 q q-apart l is i bs → B.AllHave (Anywhere env0) is →
        FullIn (partial_ex q l ms es as' n is (shapes q size_terms r c ns) c e
        (structure q size_terms r c ns (level_behind l as') (row_index q l as' is))) (N bs)
    partial-full ns n t ts l is i bs e s h x p th st a =
        two-full (N bs) true Op2.And _ _
        (fold-full env0 q q-apart true Fun.And _ bs (places-full env0 q q-apart l as' uss is i bs _ ax af st
        (all-of-both (lists_of (codes env0 q q-apart uss)) (At (cell_ex true n (row_index q l as' is)))
        (λ js. At part js × At zeros js)
        (At (and_ex (implies_ex (cell_ex true n (row_index q l as' is)) part)
        (implies_ex (ex1 true Op1.Not (cell_ex true n (row_index q l as' is))) zeros)))
        (λ js f z. λ cs s. two-full (N cs) true Op2.And _ _ (two-full (N cs) true Op2.Implies _ part (f cs s) (z.0 cs s))
        (two-full (N cs) true Op2.Implies _ zeros
        (one-full (N cs) true (unary Op1.Not) (cell_ex true n (row_index q l as' is)) (f cs s)) (z.1 cs s)))
        (cells-full env0 q q-apart l true n t as' uss is i (fit true) h a x)
        (all-of-both (lists_of (codes env0 q q-apart uss)) (At part) (At zeros) (λ js. At part js × At zeros js) (λ js u v. (u, v))
        (child-full env0 q q-apart r c y m as' uss even ns ts i p th l is a)
        (all-of-map (lists_of (codes env0 q q-apart uss))
        (λ js. There env0 q q-apart (shapes q size_terms r c ns) (axes_members r y) ts (i ++ js)) (At zeros)
        (λ js u. λ cs s. zeros-full env0 q q-apart (level_behind l as') (shapes q size_terms r c ns) (axes_members r y) ts
        (row_index q l as' is) (i ++ js) cs (child-placed env0 q q-apart r c y m as' uss even ns ts i p th) u (axes-free env0 q r c ns cf)
        (row-index-anywhere env0 q l as' is a) s)
        (child-there env0 q q-apart r c y m as' uss even ns ts i p th))))))
        (two-full (N bs) true Op2.And _ _
        (size-full env0 (N bs) ms es _ ef (true-count-full env0 q q-apart l n t as' uss is i bs (fit true) h ax af a x st))
        (keys-full (N bs) (flag_key_ex q l as' n is c e) ms (λ k. flag-key-full n t l is i bs e k s h x st a)))
      where
        part : Ex
        part = structure q size_terms r c ns (level_behind l as') (row_index q l as' is)

        zeros : Ex
        zeros = zeros_ex q (level_behind l as') (shapes q size_terms r c ns) (row_index q l as' is)

        At : Ex → List ℤ → Type 0
        At e js = FullAt env0 q q-apart (level_behind l as') (row_index q l as' is) e (i ++ js)

  -- ---- relations as matrices

  pub relation-matrix-full : (ms : List Mark) (es : Exs) (ds : Doms) (ks : List Attribute) (xs : Domains) →
      AxesAre env0 q q-apart (dom_list ds) (index_members xs) →
      StructureOf env0 q q-apart size_terms (repr ReprKind.RelationAsMatrix no_reprs) (bare_relation_dom ds) (relations [] xs) →
      DomainIs env0 q q-apart (bare_relation_dom ds) (relations [] xs) → B.Good (Anywhere env0) Any (relation_dom ms es ds) →
      FullOf env0 q q-apart (repr ReprKind.RelationAsMatrix no_reprs) (relation_dom ms es ds) (relations ks xs)
  relation-matrix-full ms es ds ks xs ax s inside g = record { full = at }
    where
      at : (ns : List Text) (ts : Tables) (l : ℕ) (is : Exs) (i : List ℤ) (bs : B') →
          Here (repr ReprKind.RelationAsMatrix no_reprs) (relation_dom ms es ds) (relations ks xs) ns ts l is i bs
      at ns [] l is i bs p th st a = absurd p
      at ns (t ∷ ts) l is i bs p th st a =
          let v : Seen env0 q q-apart l bs _ = view-full env0 q q-apart (repr ReprKind.RelationAsMatrix no_reprs) (bare_relation_dom ds)
          (relations [] xs) s inside (tt, B.all-good-have (Anywhere env0) Any ds g.1) ns (t ∷ ts) l is i bs p th st a in
          two-full (N bs) true Op2.And _ _
          (size-full env0 (N bs) ms es _ g.0 (true-count-full env0 q q-apart l (first_name ns) t (dom_list ds) (index_members xs) is i bs
          (fit true) p.0 ax (B.list-has (Anywhere env0) Any ds g.1) a th.0 st))
          (keys-full (N bs) (relation_key_ex q l ds _) ms
          (λ k. relation-key-full env0 q q-apart l bs _ v ds k (B.all-good-have (Anywhere env0) Any ds g.1)))

  -- ---- partitions by numbers

  -- A comprehension over the members of a domain, at each of them.
  pub members-each : (l : ℕ) (d : Dom) (vs : List Value) (gs : Gens) (part : Ex) (bs : B') → B.DomHas (Anywhere env0) d →
      members_in (domain_of d (N bs)) ≡ Some vs →
      AllOf vs (λ v. (g : Names Ty) → FullUnder gs g (N ((l, v) ∷ bs)) (λ h here. Full part h here)) →
      FullIn (comp_ex part (over (name_pat (q l)) d gs)) (N bs)
  members-each l d vs gs part bs a e f = record {
    full = λ g. (dom-anywhere env0 d a g (N bs), subst (λ o. EachOf o (K g)) (sym e) (each g vs f));
  }
    where
      K : Names Ty → Value → Type 0
      K g v = FullUnder gs (bind_types (name_pat (q l)) (type_of_dom d) g) (N ((l, v) ∷ bs)) (λ h here. Full part h here)

      each : (g : Names Ty) (us : List Value) → AllOf us
          (λ v. (g : Names Ty) → FullUnder gs g (N ((l, v) ∷ bs)) (λ h here. Full part h here)) → Each us (K g)
      each g [] f = tt
      each g (u ∷ us) f = (f.0 (bind_types (name_pat (q l)) (type_of_dom d) g), each g us f.1)
