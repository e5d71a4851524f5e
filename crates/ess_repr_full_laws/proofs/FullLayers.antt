-- Tables that fit are full for the structures of functions over their views, and of partitions by numbers.
use Rattle.std.proofs.Common.{◌≡◌, refl, ℕ, suc, ◌<◌, true, false, List, [], ◌∷◌, ◌++◌, drop, length, ℤ, pos, Some, is_some}
use Rattle.ess_semantics.specs.declared.words.Op2.{Op2}
use Rattle.ess_semantics.specs.declared.words.Fun.{Fun}
use Rattle.ess_semantics.specs.declared.words.ReprKind.{ReprKind}
use Rattle.ess_semantics.specs.Values.{Text, Value}
use Rattle.ess_semantics.specs.Order.{same_text}
use Rattle.ess_semantics.specs.Kinds.{dom_list}
use Rattle.ess_semantics.specs.Names.{look, Names}
use Rattle.ess_semantics.specs.Types.{Ty}
use Rattle.ess_semantics.specs.Trees.{Mark, Repr, repr, no_reprs, more_reprs, Ex, Exs, number_ex, name_ex, cell_ex, no_exs, no_gens, cond, Dom, Doms, tuple_dom, function_dom, partition_dom, ex2}
use Rattle.ess_semantics.specs.Domains.{Attribute, Domain, Domains, tuples, functions, partitions, member_list, members}
use Rattle.ess_semantics.specs.Atoms.{IsAtom, AreAtoms}
use Rattle.ess_semantics.specs.Tables.{Table, Tables, code, cell_at}
use Rattle.ess_semantics.specs.Meaning.{Env}
use Rattle.ess_semantics.specs.Full.{Full}
use Rattle.ess_semantics.specs.Occurrences.{has_cells}
use Rattle.ess_repr_laws.specs.FunctionParts.{bare_function_dom}
use Rattle.ess_repr_laws.specs.PartitionParts.{bare_partition_dom, part_number_ex, after_ex, numbered_on_ex, taken_ex}
use Rattle.ess_repr_laws.specs.StructureParts.{add_ex, and_ex, each_ex, first_name}
use Rattle.ess_repr_laws.specs.StructureMeaning.{Bound, M, AxesAre, DomainIs, index_members, fit}
use Rattle.ess_repr_laws.proofs.CanonicalPlaces.{AllOf, all-of-map}
use Rattle.ess_repr_laws.proofs.StructureFunctions.{function-1d-structure, function-nd-structure}
use Rattle.ess_repr_laws.proofs.StructureMatrices.{axes-even}
use Rattle.ess_repr_laws.proofs.StructureNumbered.{numbered-structure, listed-complete}
use Rattle.ess_repr_laws.proofs.StructureOf.{StructureOf}
use Rattle.ess_repr_laws.proofs.StructurePartial.{partial-1d-structure, partial-nd-structure}
use Rattle.ess_repr_laws.proofs.StructureRows.{Steady, steady-more, steady-name}
use Rattle.ess_repr_declare_laws.specs.SizeTerms.{size_terms}
use Rattle.ess_repr_structure_laws.proofs.BuiltStructures as B
use Rattle.ess_repr_structure_laws.proofs.MetParts.{Any}
use Rattle.ess_repr_full_laws.proofs.FullParts.{Anywhere, FullIn, number-full, name-anywhere, name-added, in-here, two-full, reached}
use Rattle.ess_repr_full_laws.proofs.FullCells.{cell-full, fold-full}
use Rattle.ess_repr_full_laws.proofs.FullSeen.{view-full, part-attributes-full}
use Rattle.ess_repr_full_laws.proofs.FullKinds.{FullOf, own-cell-full}
use Rattle.ess_repr_full_laws.proofs.FullFunctions.{Here, one-there, total-full, partial-full, members-each}

module _ (env0 : Env) (q : ℕ → Text) (q-apart : (m l : ℕ) → l < m → same_text (q m) (q l) ≡ false) where
  abbrev B' : Type 0
  B' = Bound env0 q q-apart

  abbrev N : B' → Env
  N = M env0 q q-apart

  -- ---- functions from an atom

  module _ (r : Repr) (ms : List Mark) (es : Exs) (d c : Dom) (ks : List Attribute) (x y : Domain)
      (s : StructureOf env0 q q-apart size_terms r c y) (m : FullOf env0 q q-apart r c y)
      (at : IsAtom x) (ax : AxesAre env0 q q-apart (d ∷ []) (member_list x ∷ []))
      (inside : DomainIs env0 q q-apart (bare_function_dom d c) (functions [] x y))
      (g : B.Good (Anywhere env0) Any (function_dom ms es d c)) where
    axis : B.ListHas (Anywhere env0) (d ∷ [])
    axis = (B.good-has (Anywhere env0) Any d g.1, tt)

    pub function-1d-full : members x ≡ Some (member_list x) → FullOf env0 q q-apart (repr ReprKind.Function1D (more_reprs r no_reprs))
        (function_dom ms es d c) (functions ks x y)
    function-1d-full me = record {
      full = λ ns ts l is i bs p th st a.
          total-full env0 q q-apart r c y m (d ∷ []) (member_list x ∷ []) ax refl axis g.2 ms es g.0 ns ts l is i bs _
          (view-full env0 q q-apart (repr ReprKind.Function1D (more_reprs r no_reprs)) (bare_function_dom d c) (functions [] x y)
          (function-1d-structure env0 q q-apart size_terms r [] no_exs d c [] x y at me tt ax (λ bs. (tt, refl)) s) inside
          (tt, B.good-has (Anywhere env0) Any d g.1, B.good-has (Anywhere env0) Any c g.2) ns ts l is i bs p th st a) p th st a;
    }

    flagged-at : (ns : List Text) (ts : Tables) (l : ℕ) (is : Exs) (i : List ℤ) (bs : B') →
        Here env0 q q-apart (repr ReprKind.Function1DPartial (more_reprs r no_reprs)) (function_dom ms es d c)
        (functions ks x y) ns ts l is i
        bs
    flagged-at ns [] l is i bs p th st a = absurd p
    flagged-at ns (t ∷ ts) l is i bs p th st a =
        partial-full env0 q q-apart r c y m (d ∷ []) (member_list x ∷ []) ax refl axis g.2 ms es g.0 (drop 1 ns) (first_name ns) t ts l is i
        bs _
        (view-full env0 q q-apart (repr ReprKind.Function1DPartial (more_reprs r no_reprs)) (bare_function_dom d c) (functions [] x y)
        (partial-1d-structure env0 q q-apart size_terms r [] no_exs d c [] x y at tt ax (λ bs. (tt, refl)) s) inside
        (tt, B.good-has (Anywhere env0) Any d g.1, B.good-has (Anywhere env0) Any c g.2) ns
        (t ∷ ts) l is i bs p th st a) p.0 th.0 p.2 th.1 st a

    pub partial-1d-full : FullOf env0 q q-apart (repr ReprKind.Function1DPartial (more_reprs r no_reprs)) (function_dom ms es d c)
        (functions ks x y)
    partial-1d-full = record { full = flagged-at }

  -- ---- functions from tuples

  module _ (r : Repr) (ms : List Mark) (es : Exs) (ds : Doms) (c : Dom) (ks : List Attribute) (xs : Domains) (y : Domain)
      (s : StructureOf env0 q q-apart size_terms r c y) (m : FullOf env0 q q-apart r c y)
      (at : AreAtoms xs) (ax : AxesAre env0 q q-apart (dom_list ds) (index_members xs))
      (inside : DomainIs env0 q q-apart (bare_function_dom (tuple_dom ds) c) (functions [] (tuples xs) y))
      (g : B.Good (Anywhere env0) Any (function_dom ms es (tuple_dom ds) c)) where
    axes : B.ListHas (Anywhere env0) (dom_list ds)
    axes = B.list-has (Anywhere env0) Any ds g.1

    even : length (dom_list ds) ≡ length (index_members xs)
    even = axes-even env0 q q-apart (dom_list ds) (index_members xs) ax

    pub function-nd-full : members (tuples xs) ≡ Some (member_list (tuples xs)) → FullOf env0 q q-apart
        (repr ReprKind.FunctionND (more_reprs r no_reprs)) (function_dom ms es (tuple_dom ds) c) (functions ks (tuples xs) y)
    function-nd-full me = record {
      full = λ ns ts l is i bs p th st a.
          total-full env0 q q-apart r c y m (dom_list ds) (index_members xs) ax even axes g.2 ms es g.0 ns ts l is i bs _
          (view-full env0 q q-apart (repr ReprKind.FunctionND (more_reprs r no_reprs)) (bare_function_dom (tuple_dom ds) c)
          (functions [] (tuples xs) y)
          (function-nd-structure env0 q q-apart size_terms r [] no_exs ds c [] xs y at me tt ax (λ bs. (tt, refl)) s) inside
          (tt, B.all-good-have (Anywhere env0) Any ds g.1, B.good-has (Anywhere env0) Any c g.2) ns ts l is i bs p th st a) p th st a;
    }

    many-at : (ns : List Text) (ts : Tables) (l : ℕ) (is : Exs) (i : List ℤ) (bs : B') →
        Here env0 q q-apart (repr ReprKind.FunctionNDPartial (more_reprs r no_reprs)) (function_dom ms es (tuple_dom ds) c)
        (functions ks (tuples xs) y) ns ts l is i bs
    many-at ns [] l is i bs p th st a = absurd p
    many-at ns (t ∷ ts) l is i bs p th st a =
        partial-full env0 q q-apart r c y m (dom_list ds) (index_members xs) ax even axes g.2 ms es g.0 (drop 1 ns)
        (first_name ns) t ts l is
        i bs _
        (view-full env0 q q-apart (repr ReprKind.FunctionNDPartial (more_reprs r no_reprs)) (bare_function_dom (tuple_dom ds) c)
        (functions [] (tuples xs) y)
        (partial-nd-structure env0 q q-apart size_terms r [] no_exs ds c [] xs y at tt ax (λ bs. (tt, refl)) s) inside
        (tt, B.all-good-have (Anywhere env0) Any ds g.1, B.good-has (Anywhere env0) Any c g.2) ns
        (t ∷ ts) l is i bs p th st a) p.0 th.0 p.2 th.1 st a

    pub partial-nd-full : FullOf env0 q q-apart (repr ReprKind.FunctionNDPartial (more_reprs r no_reprs)) (function_dom ms es
        (tuple_dom ds) c)
        (functions ks (tuples xs) y)
    partial-nd-full = record { full = many-at }

  -- ---- partitions by numbers

  module _ (ms : List Mark) (es : Exs) (d : Dom) (ks : List Attribute) (x : Domain) (at : IsAtom x)
      (me : members x ≡ Some (member_list x)) (ax : AxesAre env0 q q-apart (d ∷ []) (member_list x ∷ []))
      (inside : DomainIs env0 q q-apart (bare_partition_dom d) (partitions [] x))
      (g : B.Good (Anywhere env0) Any (partition_dom ms es d)) where
    abbrev kind : Repr
    kind = repr ReprKind.PartitionOccurrence no_reprs

    module _ (w : Text) (u : Table) (is : Exs) (i : List ℤ) (h : look env0.cells w ≡ Some u) (a : B.AllHave (Anywhere env0) is)
        (n : Ex) (c : AllOf (member_list x) (λ v. is_some (cell_at u (i ++ (code v ∷ []))) ≡ true)) where
      -- The number of a member's part.
      part-number-full : (l m : ℕ) (v : Value) (bs : B') → Steady env0 q q-apart m (add_ex is (name_ex (q l))) (i ++ (code v ∷ [])) bs →
          is_some (cell_at u (i ++ (code v ∷ []))) ≡ true → FullIn (part_number_ex q l w is) (N bs)
      part-number-full l m v bs st y = cell-full env0 q q-apart false w u (add_ex is (name_ex (q l))) (i ++ (code v ∷ [])) bs h m st
          (name-added env0 q l is a) y

      -- A member before.
      after-full : (l : ℕ) (v : Value) (bs : B') → Steady env0 q q-apart l is i bs → is_some (cell_at u (i ++ (code v ∷ []))) ≡ true →
          FullIn (after_ex q l d w is) (N ((l, v) ∷ bs))
      after-full l v bs st y =
          fold-full env0 q q-apart true Fun.Or _ ((l, v) ∷ bs) (members-each env0 q q-apart (suc l) d (member_list x)
          (cond (ex2 true Op2.Lt (name_ex (q (suc l))) (name_ex (q l))) no_gens)
          (ex2 true Op2.Eq (part_number_ex q l w is) (ex2 false Op2.Plus (part_number_ex q (suc l) w is) (number_ex (pos 1))))
          ((l, v) ∷ bs) (B.good-has (Anywhere env0) Any d g.1) (ax.0 ((l, v) ∷ bs))
          (all-of-map (member_list x) (λ v. is_some (cell_at u (i ++ (code v ∷ []))) ≡ true) _
          (λ z k. λ o. (
            test z o,
            reached (has_cells (ex2 true Op2.Lt (name_ex (q (suc l))) (name_ex (q l))))
                (ex2 true Op2.Lt (name_ex (q (suc l))) (name_ex (q l))) (two z) _
                (let f = part z k in f.full o),
          )) c))
        where
          two : Value → Env
          two z = N ((suc l, z) ∷ (l, v) ∷ bs)

          test : (z : Value) (o : Names Ty) → Full (ex2 true Op2.Lt (name_ex (q (suc l))) (name_ex (q l))) o (two z)
          test z o = let f : FullIn (ex2 true Op2.Lt (name_ex (q (suc l))) (name_ex (q l))) (two z) = two-full (two z) true Op2.Lt _ _
              (in-here env0 (name_ex (q (suc l))) (two z) (name-anywhere env0 (q (suc l))))
              (in-here env0 (name_ex (q l)) (two z) (name-anywhere env0 (q l))) in
              f.full o

          part : (z : Value) → is_some (cell_at u (i ++ (code z ∷ []))) ≡ true →
              FullIn (ex2 true Op2.Eq (part_number_ex q l w is) (ex2 false Op2.Plus (part_number_ex q (suc l) w is) (number_ex
              (pos 1)))) (two z)
          part z k = two-full (two z) true Op2.Eq _ _
              (part-number-full l (suc (suc l)) v ((suc l, z) ∷ (l, v) ∷ bs) (steady-more env0 q q-apart (suc l) z
              (add_ex is (name_ex (q l))) (i ++ (code v ∷ [])) ((l, v) ∷ bs) (steady-name env0 q q-apart l v is i bs st)) y)
              (two-full (two z) false Op2.Plus _ _
              (part-number-full (suc l) (suc (suc l)) z ((suc l, z) ∷ (l, v) ∷ bs) (steady-name env0 q q-apart (suc l) z is i ((l, v) ∷ bs)
              (steady-more env0 q q-apart l v is i bs st)) k)
              (number-full (two z) (pos 1)))

      -- That parts are numbered.
      pub numbers-full : (l : ℕ) (bs : B') → Steady env0 q q-apart l is i bs → ((m : ℕ) (cs : B') → Steady env0 q q-apart m is i cs →
          FullIn n (N cs)) → FullIn (and_ex (each_ex q l (d ∷ []) (numbered_on_ex q l d n w is)) (taken_ex q l d n w is)) (N bs)
      numbers-full l bs st fn =
          two-full (N bs) true Op2.And _ _
          (fold-full env0 q q-apart true Fun.And _ bs (members-each env0 q q-apart l d (member_list x) no_gens
          (numbered_on_ex q l d n w is) bs
          (B.good-has (Anywhere env0) Any d g.1) (ax.0 bs)
          (all-of-map (member_list x) (λ v. is_some (cell_at u (i ++ (code v ∷ []))) ≡ true) _
          (λ v k. λ o. (let f = numbered v k in f.full o)) c)))
          (two-full (N bs) true Op2.Or _ _ (two-full (N bs) true Op2.Eq n (number_ex (pos 0)) (fn l bs st) (number-full (N bs) (pos 0)))
          (fold-full env0 q q-apart true Fun.Or _ bs (members-each env0 q q-apart l d (member_list x) no_gens
          (ex2 true Op2.Eq (part_number_ex q l w is) n) bs (B.good-has (Anywhere env0) Any d g.1) (ax.0 bs)
          (all-of-map (member_list x) (λ v. is_some (cell_at u (i ++ (code v ∷ []))) ≡ true) _
          (λ v k. λ o. (let f = taken v k in f.full o)) c))))
        where
          one : Value → Env
          one v = N ((l, v) ∷ bs)

          own : (v : Value) → is_some (cell_at u (i ++ (code v ∷ []))) ≡ true → FullIn (part_number_ex q l w is) (one v)
          own v k = part-number-full l (suc l) v ((l, v) ∷ bs) (steady-name env0 q q-apart l v is i bs st) k

          many : (v : Value) → FullIn n (one v)
          many v = fn (suc l) ((l, v) ∷ bs) (steady-more env0 q q-apart l v is i bs st)

          numbered : (v : Value) → is_some (cell_at u (i ++ (code v ∷ []))) ≡ true → FullIn (numbered_on_ex q l d n w is) (one v)
          numbered v k =
              two-full (one v) true Op2.And _ _
              (two-full (one v) true Op2.And _ _ (two-full (one v) true Op2.Le _ _ (number-full (one v) (pos 1)) (own v k))
              (two-full (one v) true Op2.Le _ n (own v k) (many v)))
              (two-full (one v) true Op2.Or _ _ (two-full (one v) true Op2.Eq _ _ (number-full (one v) (pos 1)) (own v k))
              (after-full l v bs st k))

          taken : (v : Value) → is_some (cell_at u (i ++ (code v ∷ []))) ≡ true →
              FullIn (ex2 true Op2.Eq (part_number_ex q l w is) n) (one v)
          taken v k = two-full (one v) true Op2.Eq _ n (own v k) (many v)

    numbered-at : (ns : List Text) (ts : Tables) (l : ℕ) (is : Exs) (i : List ℤ) (bs : B') →
        Here env0 q q-apart kind (partition_dom ms es d) (partitions ks x) ns ts l is i bs
    numbered-at ns [] l is i bs p th st a = absurd p
    numbered-at ns (t ∷ []) l is i bs p th st a = absurd p.2
    numbered-at ns (t ∷ u ∷ ts) l is i bs p th st a =
        let n : (m : ℕ) (cs : B') → Steady env0 q q-apart m is i cs → FullIn (cell_ex false (first_name ns) is) (N cs) =
        λ m cs s. own-cell-full env0 q q-apart false (first_name ns) t (fit false) m is i cs p.0 th.0 s a in
        two-full (N bs) true Op2.And _ _
        (numbers-full (first_name (drop 1 ns)) u is i p.2.0 a (cell_ex false (first_name ns) is)
        (one-there (member_list x) (fit false) u i th.1.0) l bs st n)
        (part-attributes-full env0 q q-apart l bs _ (view-full env0 q q-apart kind (bare_partition_dom d) (partitions [] x)
        (numbered-structure env0 q q-apart size_terms [] no_exs d [] x at me (listed-complete x at me) ax inside (λ bs. (tt, refl))) inside
        (tt, B.good-has (Anywhere env0) Any d g.1) ns (t ∷ u ∷ ts) l is i bs p th st a) (cell_ex false (first_name ns) is) ms es
        (n l bs st) g.0)

    pub numbered-full : FullOf env0 q q-apart kind (partition_dom ms es d) (partitions ks x)
    numbered-full = record { full = numbered-at }
