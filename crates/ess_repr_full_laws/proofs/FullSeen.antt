-- Tables that fit are full for a view, and for what attributes ask of what it has.
use Rattle.std.proofs.Common.{◌≡◌, refl, sym, ap, ◌∙◌, ℕ, suc, ◌<◌, Bool, true, false, if◌then◌else◌, List, [], ◌∷◌, ◌++◌, map, ℤ, pos, is_some, le_refl, arith}
use Rattle.std.specs.List.{list_all}
use Rattle.ess_semantics.specs.declared.words.Op1.{Op1}
use Rattle.ess_semantics.specs.declared.words.Op2.{Op2}
use Rattle.ess_semantics.specs.declared.words.Fun.{Fun}
use Rattle.ess_semantics.specs.declared.words.Key.{Key}
use Rattle.ess_semantics.specs.Lists.{is_some_and}
use Rattle.ess_semantics.specs.Values.{Text, Value}
use Rattle.ess_semantics.specs.Order.{same_text}
use Rattle.ess_semantics.specs.Kinds.{has_key}
use Rattle.ess_semantics.specs.Trees.{word, unary, tuple_literal, index, to_component, Mark, flag, valued, Repr, name_pat, Ex, Exs, number_ex, truth_ex, name_ex, node_ex, comp_ex, no_exs, more_exs, no_gens, over, from, Dom, Doms, no_doms, more_doms, ex1, fun1}
use Rattle.ess_semantics.specs.Domains.{Domain, lists_of}
use Rattle.ess_semantics.specs.Tables.{Tables, cell_at}
use Rattle.ess_semantics.specs.Cells.{every_cell}
use Rattle.ess_semantics.specs.Declarations.{Declaration, declarations}
use Rattle.ess_semantics.specs.Meaning.{Env, meanings, indices, domain_of, members_in, tables_in, is_bool_dom}
use Rattle.ess_semantics.specs.Full.{are_there}
use Rattle.ess_semantics.proofs.Tests.{and-both}
use Rattle.ess_guard_laws.proofs.MetRows.{each-of-always}
use Rattle.ess_repr_laws.specs.StructureParts.{Shape, and_ex, keys_ex}
use Rattle.ess_repr_laws.specs.ViewParts.{shape_names, view_ex, component_ex, every_item_ex, components_differ_ex, all_taken_ex, pair_key_ex, exact_size_ex, total_size_ex, pairs_ex, times_held_ex, one_size_ex, regular_key_ex, parts_ex}
use Rattle.ess_repr_laws.specs.RelationParts.{has_pair_ex, first_ex, second_ex, turned_ex, parts_same_ex, linked_ex, pair_relation_key_ex, relation_key_ex}
use Rattle.ess_repr_laws.specs.MultisetParts.{freq_ex, occurs_key_ex, occurs_ex}
use Rattle.ess_repr_laws.specs.PartitionParts.{each_size_ex, part_key_ex, part_sizes_ex}
use Rattle.ess_repr_laws.specs.Structure.{shapes}
use Rattle.ess_repr_laws.specs.StructureMeaning.{Bound, M, DomainIs, Placed, axes_members, fit}
use Rattle.ess_repr_laws.proofs.CanonicalPlaces.{AllOf}
use Rattle.ess_repr_laws.proofs.StructureOf.{StructureOf}
use Rattle.ess_repr_laws.proofs.StructureRows.{From, Steady, There, codes, all_codes, grid_at}
use Rattle.ess_repr_laws.proofs.ViewsOfCells.{tables-found}
use Rattle.ess_repr_declare_laws.specs.SizeTerms.{size_terms}
use Rattle.ess_repr_structure_laws.proofs.BuiltStructures as B
use Rattle.ess_repr_full_laws.proofs.FullParts.{Anywhere, FullIn, operands-anywhere, dom-anywhere, in-here, truth-full, number-full, two-full, one-full, key-full, keys-full}
use Rattle.ess_repr_full_laws.proofs.FullCells.{every-there}

-- What holds of all of a list.
all-true : (xs : List (List ℤ)) (f : List ℤ → Bool) → AllOf xs (λ x. f x ≡ true) → list_all f xs ≡ true
all-true [] f h = refl
all-true (x ∷ xs) f h = and-both (f x) (list_all f xs) h.0 (all-true xs f h.1)

module _ (env0 : Env) (q : ℕ → Text) (q-apart : (m l : ℕ) → l < m → same_text (q m) (q l) ≡ false) where
  abbrev B' : Type 0
  B' = Bound env0 q q-apart

  abbrev N : B' → Env
  N = M env0 q q-apart

  -- Tables whose cells are there over the declared axes.
  all-there : (ss : List Shape) (vsss : List (List (List Value))) (ts : Tables) (ds : List Declaration) (i : List ℤ) →
      all_codes env0 q q-apart vsss ≡ map (λ d. d.axes) ds → Placed env0 q q-apart ss vsss ts → There env0 q q-apart ss vsss ts i →
      are_there i ds ts ≡ true
  all-there [] [] [] [] i e p h = refl
  all-there [] [] [] (d ∷ ds) i e p h = cc
  all-there (s ∷ ss) (vss ∷ vsss) (t ∷ ts) [] i e p h = cc
  all-there (s ∷ ss) (vss ∷ vsss) (t ∷ ts) (d ∷ ds) i e p h =
      let x : codes env0 q q-apart vss ≡ d.axes = cc in
      let y : all_codes env0 q q-apart vsss ≡ map (λ d. d.axes) ds = cc in
      and-both (list_all (λ j. is_some (cell_at t (i ++ j))) (lists_of d.axes)) (are_there i ds ts)
      (all-true (lists_of d.axes) (λ j. is_some (cell_at t (i ++ j)))
      (every-there d.axes (fit s.truth) (grid_at env0 q q-apart t i)
      (ap (λ a. every_cell a (fit s.truth) (grid_at env0 q q-apart t i)) (sym x) ∙ h.0)))
      (all-there ss vsss ts ds i y p.2 h.1)
  all-there [] [] (t ∷ ts) ds i e p h = absurd p
  all-there [] (vss ∷ vsss) ts ds i e p h = absurd p
  all-there (s ∷ ss) [] ts ds i e p h = absurd p
  all-there (s ∷ ss) (vss ∷ vsss) [] ds i e p h = absurd p

  -- The tables are full for the expression, whatever else is bound from q l on.
  pub record Seen (l : ℕ) (bs : B') (e : Ex) : Type 0 where
    pub at : (cs : B') → From env0 q q-apart l cs → FullIn e (N (cs ++ bs))

  -- So they are for a view.
  pub view-full : (r : Repr) (d : Dom) (e : Domain) → StructureOf env0 q q-apart size_terms r d e → DomainIs env0 q q-apart d e →
      B.DomHas (Anywhere env0) d → (ns : List Text) (ts : Tables) (l : ℕ) (is : Exs) (i : List ℤ) (bs : B') → Placed env0 q q-apart
      (shapes q size_terms r d ns) (axes_members r e) ts →
      There env0 q q-apart (shapes q size_terms r d ns) (axes_members r e) ts i → Steady env0 q q-apart l is i bs →
      B.AllHave (Anywhere env0) is →
      Seen l bs (view_ex r d (shapes q size_terms r d ns) is)
  view-full r d e s dm a ns ts l is i bs p th st x = record {
    at = λ cs f. record {
      full = λ g. (
        ap (λ o. is_some_and o (λ e. is_some_and (tables_in env0.cells (shape_names (shapes q size_terms r d ns)))
            (λ c. is_some_and (indices (meanings is (N (cs ++ bs)))) (λ i. are_there i (declarations r e) c)))) (dm (cs ++ bs))
            ∙ ap (λ o. is_some_and o (λ c. is_some_and (indices (meanings is (N (cs ++ bs)))) (λ i. are_there i (declarations r e) c)))
            (tables-found env0 q q-apart (shapes q size_terms r d ns) (axes_members r e) ts p)
            ∙ ap (λ o. is_some_and o (λ i. are_there i (declarations r e) ts)) (st cs f)
            ∙ all-there (shapes q size_terms r d ns) (axes_members r e) ts (declarations r e) i s.axes p th,
        dom-anywhere env0 d a g (N (cs ++ bs)),
        operands-anywhere env0 is x g (N (cs ++ bs)),
      );
    };
  }

  -- ---- items

  -- Here, and under one and two more names.
  seen-here : (l : ℕ) (bs : B') (e : Ex) → Seen l bs e → FullIn e (N bs)
  seen-here l bs e s = s.at [] tt

  seen-one : (l : ℕ) (bs : B') (e : Ex) → Seen l bs e → (v : Value) → FullIn e (N ((l, v) ∷ bs))
  seen-one l bs e s v = s.at ((l, v) ∷ []) (le_refl l, tt)

  seen-two : (l : ℕ) (bs : B') (e : Ex) → Seen l bs e → (v w : Value) → FullIn e (N ((suc l, w) ∷ (l, v) ∷ bs))
  seen-two l bs e s v w = s.at ((suc l, w) ∷ (l, v) ∷ []) (omega arith, (le_refl l, tt))

  -- A comprehension over the items of e, and over the members of a domain.
  items-full : (l : ℕ) (e part : Ex) (bs : B') → FullIn e (N bs) → ((v : Value) → FullIn part (N ((l, v) ∷ bs))) →
      FullIn (comp_ex part (from (name_pat (q l)) e no_gens)) (N bs)
  items-full l e part bs h f = record { full = λ g. (h.full g, λ v t. (let x : FullIn part (N ((l, v) ∷ bs)) = f v in x.full _)) }

  members-full : (l : ℕ) (d : Dom) (part : Ex) (bs : B') → B.DomHas (Anywhere env0) d → ((v : Value) → FullIn part (N ((l, v) ∷ bs))) →
      FullIn (comp_ex part (over (name_pat (q l)) d no_gens)) (N bs)
  members-full l d part bs a f = record {
    full = λ g. (
      dom-anywhere env0 d a g (N bs),
      each-of-always (members_in (domain_of d (N bs))) _ (λ v. (let x : FullIn part (N ((l, v) ∷ bs)) = f v in x.full _)),
    );
  }

  fold : (b : Bool) (f : Fun) (x : Ex) (bs : B') → FullIn x (N bs) → FullIn (fun1 b f x) (N bs)
  fold b f x bs h = one-full (N bs) b (word f) x h

  name-full : (m : ℕ) (bs : B') → FullIn (name_ex (q m)) (N bs)
  name-full m bs = record { full = λ g. tt }

  component-full : (d : Dom) (k m : ℕ) (bs : B') → FullIn (component_ex d k (name_ex (q m))) (N bs)
  component-full d k m bs = one-full (N bs) (is_bool_dom d) (index (to_component k ∷ [])) (name_ex (q m)) (name-full m bs)

  bar-full : (m : ℕ) (bs : B') → FullIn (ex1 false Op1.Bar (name_ex (q m))) (N bs)
  bar-full m bs = one-full (N bs) false (unary Op1.Bar) (name_ex (q m)) (name-full m bs)

  module _ (l : ℕ) (bs : B') (e : Ex) (s : Seen l bs e) where
    every-full : (test : Ex) → ((v : Value) → FullIn test (N ((l, v) ∷ bs))) → FullIn (every_item_ex q l e test) (N bs)
    every-full test f = fold true Fun.And _ bs (items-full l e test bs (seen-here l bs e s) f)

    -- ---- pairs of functions

    pub differ-full : (d : Dom) (k : ℕ) → FullIn (components_differ_ex q l d k e) (N bs)
    differ-full d k = fold true Fun.AllDiff _ bs (items-full l e _ bs (seen-here l bs e s) (λ v. component-full d k l ((l, v) ∷ bs)))

    taken-full : (c : Dom) → B.DomHas (Anywhere env0) c → FullIn (all_taken_ex q l c e) (N bs)
    taken-full c a =
        fold true Fun.And _ bs (members-full l c _ bs a (λ v. fold true Fun.Or _ ((l, v) ∷ bs)
        (items-full (suc l) e _ ((l, v) ∷ bs) (seen-one l bs e s v)
        (λ w. two-full (N ((suc l, w) ∷ (l, v) ∷ bs)) true Op2.Eq _ _ (component-full c 2 (suc l) ((suc l, w) ∷ (l, v) ∷ bs))
        (name-full l ((suc l, w) ∷ (l, v) ∷ bs))))))

    pub pair-key-full : (c : Dom) (k : Key) → B.DomHas (Anywhere env0) c → FullIn (pair_key_ex q l c e k) (N bs)
    pair-key-full c Key.Injective a = differ-full c 2
    pair-key-full c Key.Surjective a = taken-full c a
    pair-key-full c Key.Bijective a = two-full (N bs) true Op2.And _ _ (differ-full c 2) (taken-full c a)
    pair-key-full c _ a = truth-full (N bs) true

    exact-full : (ms : List Mark) (es : Exs) (m : Ex) → B.AllHave (Anywhere env0) es → FullIn m (N bs) →
        FullIn (exact_size_ex ms es m) (N bs)
    exact-full [] es m a h = truth-full (N bs) true
    exact-full (flag k ∷ ms) es m a h = exact-full ms es m a h
    exact-full (valued k ∷ ms) no_exs m a h = truth-full (N bs) true
    exact-full (valued Key.Size ∷ ms) (more_exs x es) m a h = two-full (N bs) true Op2.And _ _
        (key-full (N bs) Key.Size x m (in-here env0 x (N bs) a.0) h) (exact-full ms es m a.1 h)
    exact-full (valued k ∷ ms) (more_exs x es) m a h = two-full (N bs) true Op2.And _ _ (truth-full (N bs) true) (exact-full ms es m a.1 h)

    if-full : (b : Bool) (x y : Ex) → FullIn x (N bs) → FullIn y (N bs) → FullIn (if b then x else y) (N bs)
    if-full true x y g h = g
    if-full false x y g h = h

    pub pairs-full : (ms : List Mark) (es : Exs) (d c : Dom) → B.AllHave (Anywhere env0) es → B.DomHas (Anywhere env0) c →
        FullIn (pairs_ex q l ms es d c e)
        (N bs)
    pairs-full ms es d c a x =
        two-full (N bs) true Op2.And _ _ (differ-full d 1)
        (two-full (N bs) true Op2.And (total_size_ex ms es e) (keys_ex (pair_key_ex q l c e) ms)
        (if-full (has_key Key.Total ms) (exact_size_ex ms es (ex1 false Op1.Bar e)) (truth_ex true)
        (exact-full ms es _ a (one-full (N bs) false (unary Op1.Bar) e (seen-here l bs e s))) (truth-full (N bs) true))
        (keys-full (N bs) (pair_key_ex q l c e) ms (λ k. pair-key-full c k x)))

    -- ---- parts of partitions

    one-size-full : FullIn (one_size_ex q l e) (N bs)
    one-size-full =
        fold true Fun.And _ bs (items-full l e _ bs (seen-here l bs e s) (λ v. fold true Fun.And _ ((l, v) ∷ bs)
        (items-full (suc l) e _ ((l, v) ∷ bs) (seen-one l bs e s v)
        (λ w. two-full (N ((suc l, w) ∷ (l, v) ∷ bs)) true Op2.Eq _ _ (bar-full l ((suc l, w) ∷ (l, v) ∷ bs))
        (bar-full (suc l) ((suc l, w) ∷ (l, v) ∷ bs))))))

    regular-full : (x : Ex) (k : Key) → FullIn x (N bs) → FullIn (regular_key_ex x k) (N bs)
    regular-full x Key.Regular h = h
    regular-full x _ h = truth-full (N bs) true

    regulars-full : (ms : List Mark) → FullIn (keys_ex (regular_key_ex (one_size_ex q l e)) ms) (N bs)
    regulars-full ms = keys-full (N bs) (regular_key_ex (one_size_ex q l e)) ms (λ k. regular-full (one_size_ex q l e) k one-size-full)

    pub parts-full : (ms : List Mark) (d : Dom) → B.DomHas (Anywhere env0) d → FullIn (parts_ex q l ms d e) (N bs)
    parts-full ms d a =
        two-full (N bs) true Op2.And _ _
        (fold true Fun.And _ bs (members-full l d _ bs a (λ v. two-full (N ((l, v) ∷ bs)) true Op2.Eq (times_held_ex q l e) (number_ex
        (pos 1))
        (fold false Fun.Sum _ ((l, v) ∷ bs) (items-full (suc l) e _ ((l, v) ∷ bs) (seen-one l bs e s v)
        (λ w. fold false Fun.ToInt _ ((suc l, w) ∷ (l, v) ∷ bs)
        (two-full (N ((suc l, w) ∷ (l, v) ∷ bs)) true Op2.Member _ _ (name-full l ((suc l, w) ∷ (l, v) ∷ bs))
        (name-full (suc l) ((suc l, w) ∷ (l, v) ∷ bs))))))
        (number-full (N ((l, v) ∷ bs)) (pos 1)))))
        (two-full (N bs) true Op2.And _ _ (every-full _ (λ v. two-full (N ((l, v) ∷ bs)) true Op2.Le (number_ex (pos 1)) _
        (number-full (N ((l, v) ∷ bs)) (pos 1)) (bar-full l ((l, v) ∷ bs)))) (regulars-full ms))

    each-size-full : (k : Key) (m : Ex) → Anywhere env0 m → FullIn (each_size_ex q l e k m) (N bs)
    each-size-full k m a = every-full _ (λ v. key-full (N ((l, v) ∷ bs)) k m _ (in-here env0 m (N ((l, v) ∷ bs)) a)
        (bar-full l ((l, v) ∷ bs)))

    part-key-full : (n : Ex) (k : Key) (m : Ex) → FullIn n (N bs) → Anywhere env0 m → FullIn (part_key_ex q l n e k m) (N bs)
    part-key-full n Key.NumParts m h a = key-full (N bs) Key.Size m n (in-here env0 m (N bs) a) h
    part-key-full n Key.MinNumParts m h a = key-full (N bs) Key.MinSize m n (in-here env0 m (N bs) a) h
    part-key-full n Key.MaxNumParts m h a = key-full (N bs) Key.MaxSize m n (in-here env0 m (N bs) a) h
    part-key-full n Key.PartSize m h a = each-size-full Key.Size m a
    part-key-full n Key.MinPartSize m h a = each-size-full Key.MinSize m a
    part-key-full n Key.MaxPartSize m h a = each-size-full Key.MaxSize m a
    part-key-full n _ m h a = truth-full (N bs) true

    part-sizes-full : (n : Ex) (ks : List Mark) (ms : Exs) → FullIn n (N bs) → B.AllHave (Anywhere env0) ms →
        FullIn (part_sizes_ex q l n e ks ms)
        (N bs)
    part-sizes-full n [] ms h a = truth-full (N bs) true
    part-sizes-full n (flag k ∷ ks) ms h a = part-sizes-full n ks ms h a
    part-sizes-full n (valued k ∷ ks) no_exs h a = truth-full (N bs) true
    part-sizes-full n (valued k ∷ ks) (more_exs m ms) h a = two-full (N bs) true Op2.And _ _ (part-key-full n k m h a.0)
        (part-sizes-full n ks ms h a.1)

    -- What attributes ask of parts by their numbers.
    pub part-attributes-full : (n : Ex) (ks : List Mark) (ms : Exs) → FullIn n (N bs) → B.AllHave (Anywhere env0) ms →
        FullIn (and_ex (part_sizes_ex q l n e ks ms) (keys_ex (regular_key_ex (one_size_ex q l e)) ks)) (N bs)
    part-attributes-full n ks ms h a = two-full (N bs) true Op2.And _ _ (part-sizes-full n ks ms h a) (regulars-full ks)

    -- ---- members of multisets

    freq-full : (v : Value) → FullIn (freq_ex q l e) (N ((l, v) ∷ bs))
    freq-full v = let f : FullIn e (N ((l, v) ∷ bs)) = seen-one l bs e s v in record { full = λ g. (f.full g, (tt, tt)) }

    occurs-key-full : (k : Key) (n : Ex) → Anywhere env0 n → FullIn (occurs_key_ex q l e k n) (N bs)
    occurs-key-full Key.MinOccur n a = fold true Fun.And _ bs (items-full l (fun1 false Fun.ToSet e) _ bs
        (fold false Fun.ToSet e bs (seen-here l bs e s)) (λ v. two-full (N ((l, v) ∷ bs)) true Op2.Le n (freq_ex q l e)
        (in-here env0 n (N ((l, v) ∷ bs)) a) (freq-full v)))
    occurs-key-full Key.MaxOccur n a = fold true Fun.And _ bs (items-full l (fun1 false Fun.ToSet e) _ bs
        (fold false Fun.ToSet e bs (seen-here l bs e s)) (λ v. two-full (N ((l, v) ∷ bs)) true Op2.Le (freq_ex q l e) n (freq-full v)
        (in-here env0 n (N ((l, v) ∷ bs)) a)))
    occurs-key-full _ n a = truth-full (N bs) true

    pub occurs-full : (ms : List Mark) (ns : Exs) → B.AllHave (Anywhere env0) ns → FullIn (occurs_ex q l e ms ns) (N bs)
    occurs-full [] ns a = truth-full (N bs) true
    occurs-full (flag k ∷ ms) ns a = occurs-full ms ns a
    occurs-full (valued k ∷ ms) no_exs a = truth-full (N bs) true
    occurs-full (valued k ∷ ms) (more_exs n ns) a = two-full (N bs) true Op2.And _ _ (occurs-key-full k n a.0) (occurs-full ms ns a.1)

    -- ---- pairs of relations

    has-pair-full : (a b : Ex) (cs : B') → FullIn a (N cs) → FullIn b (N cs) → FullIn e (N cs) → FullIn (has_pair_ex e a b) (N cs)
    has-pair-full a b cs f g h = two-full (N cs) true Op2.Member (node_ex false tuple_literal (more_exs a (more_exs b no_exs))) e
        (record { full = λ c. (f.full c, (g.full c, tt)) }) h

    turned-full : (d c : Dom) (v : Value) → FullIn (turned_ex q l d c e) (N ((l, v) ∷ bs))
    turned-full d c v = has-pair-full (second_ex q l c) (first_ex q l d) ((l, v) ∷ bs) (component-full c 2 l ((l, v) ∷ bs))
        (component-full d 1 l ((l, v) ∷ bs)) (seen-one l bs e s v)

    same-full : (d c : Dom) (v : Value) → FullIn (parts_same_ex q l d c) (N ((l, v) ∷ bs))
    same-full d c v = two-full (N ((l, v) ∷ bs)) true Op2.Eq (first_ex q l d) (second_ex q l c) (component-full d 1 l ((l, v) ∷ bs))
        (component-full c 2 l ((l, v) ∷ bs))

    not-full : (x : Ex) (cs : B') → FullIn x (N cs) → FullIn (ex1 true Op1.Not x) (N cs)
    not-full x cs h = one-full (N cs) true (unary Op1.Not) x h

    linked-full : (d c : Dom) (v w : Value) → FullIn (linked_ex q l d c e) (N ((suc l, w) ∷ (l, v) ∷ bs))
    linked-full d c v w =
        let cs : B' = (suc l, w) ∷ (l, v) ∷ bs in
        two-full (N cs) true Op2.Implies _ _ (two-full (N cs) true Op2.Eq (second_ex q l c) (first_ex q (suc l) d) (component-full c 2 l cs)
        (component-full d 1 (suc l) cs))
        (has-pair-full (first_ex q l d) (second_ex q (suc l) c) cs (component-full d 1 l cs) (component-full c 2 (suc l) cs)
        (seen-two l bs e s v w))

    pair-relation-key-full : (d c : Dom) (k : Key) → B.DomHas (Anywhere env0) d → FullIn (pair_relation_key_ex q l d c e k) (N bs)
    pair-relation-key-full d c Key.Reflexive a =
        fold true Fun.And _ bs (members-full l d _ bs a (λ v. has-pair-full (name_ex (q l)) (name_ex (q l)) ((l, v) ∷ bs)
        (name-full l ((l, v) ∷ bs)) (name-full l ((l, v) ∷ bs)) (seen-one l bs e s v)))
    pair-relation-key-full d c Key.Irreflexive a = every-full _ (λ v. not-full _ ((l, v) ∷ bs) (same-full d c v))
    pair-relation-key-full d c Key.Symmetric a = every-full _ (λ v. turned-full d c v)
    pair-relation-key-full d c Key.AntiSymmetric a = every-full _ (λ v. two-full (N ((l, v) ∷ bs)) true Op2.Or _ _
        (not-full _ ((l, v) ∷ bs) (turned-full d c v)) (same-full d c v))
    pair-relation-key-full d c Key.ASymmetric a = every-full _ (λ v. not-full _ ((l, v) ∷ bs) (turned-full d c v))
    pair-relation-key-full d c Key.Transitive a = every-full _ (λ v. fold true Fun.And _ ((l, v) ∷ bs)
        (items-full (suc l) e (linked_ex q l d c e) ((l, v) ∷ bs) (seen-one l bs e s v) (λ w. linked-full d c v w)))
    pair-relation-key-full d c _ a = truth-full (N bs) true

    pub relation-key-full : (ds : Doms) (k : Key) → B.DomsHave (Anywhere env0) ds → FullIn (relation_key_ex q l ds e k) (N bs)
    relation-key-full (more_doms d (more_doms c no_doms)) k a = pair-relation-key-full d c k a.0
    relation-key-full _ k a = truth-full (N bs) false
