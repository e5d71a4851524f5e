-- Where no name over items stands in an index list under it: what reads no table, and what is built of such expressions.
use Rattle.std.proofs.Common.{◌≡◌, refl, subst, sym, ℕ, ◌≤◌, Bool, true, not, List, [], ◌∷◌, ◌++◌}
use Rattle.std.specs.List.{list_all}
use Rattle.ess_semantics.specs.Values.{Text}
use Rattle.ess_semantics.specs.Types.{pattern_names}
use Rattle.ess_semantics.specs.Full.{index_is_free}
use Rattle.ess_semantics.specs.Occurrences.{parts_of, parts_of_all, parts_of_gens, parts_of_dom, parts_of_doms, is_cell_or_view}
use Rattle.ess_semantics.specs.Trees.{Op, name_pat, tuple_pat, Ex, Exs, number_ex, truth_ex, name_ex, node_ex, matrix_ex, comp_ex, cell_ex, seen_ex, no_exs, more_exs, Gens, no_gens, over, from, cond, Dom, Doms, bool_dom, int_dom, name_dom, tuple_dom, record_dom, matrix_dom, set_dom, mset_dom, function_dom, relation_dom, partition_dom, no_doms, more_doms}
use Rattle.ess_semantics.proofs.Tests.{and-both}
use Rattle.ess_repr_structure_laws.specs.FreeIndices.{are_free_under, is_free_under}
use Rattle.ess_repr_structure_laws.proofs.BuiltStructures as B
use Rattle.ess_repr_structure_laws.proofs.BuiltStructures.{BuiltOf, have-more, dom-more}
use Rattle.ess_repr_structure_laws.proofs.BuiltSizes.{SizesOf, bound-has}
use Rattle.ess_repr_structure_laws.proofs.MetLayers.{name_from, from-low}
use Rattle.ess_repr_structure_laws.proofs.MetParts.{Any}
use Rattle.ess_repr_structure_laws.proofs.PassingParts.{Passes, all-left, all-right, all-both, all-more, operands-pass, dom-passes, sizes-by}

-- ---- what reads no table

-- Whether the part is neither a cell nor a view.
abbrev pub reads_none : Ex → Bool
reads_none e = not (is_cell_or_view e)

-- The expression reads no table.
abbrev pub ReadsNone : Ex → Type 0
ReadsNone = Passes reads_none

-- No name over items stands in an index list under it.
abbrev pub FreeUnder : Ex → Type 0
FreeUnder = Passes is_free_under

-- Its index lists have none of these names.
abbrev pub FreeOf : List Text → Ex → Type 0
FreeOf ns = Passes (index_is_free ns)

free-part : (ns : List Text) (e : Ex) → reads_none e ≡ true → index_is_free ns e ≡ true
free-part ns (cell_ex b n es) h = cc
free-part ns (seen_ex r d cs es) h = cc
free-part ns _ h = refl

-- What reads no table has no index list.
pub free-parts : (ns : List Text) (xs : List Ex) → list_all reads_none xs ≡ true → list_all (index_is_free ns) xs ≡ true
free-parts ns = all-more reads_none (index_is_free ns) (free-part ns)

gens-free : (gs : Gens) (xs : List Ex) → list_all reads_none (parts_of_gens gs) ≡ true → list_all reads_none xs ≡ true →
    are_free_under gs xs ≡ true
gens-free no_gens xs h g = refl
gens-free (over p d gs) xs h g = gens-free gs xs (all-right reads_none (parts_of_dom d) (parts_of_gens gs) h) g
gens-free (from p e gs) xs h g =
    let k = all-right reads_none (parts_of e) (parts_of_gens gs) h in
    and-both (list_all (index_is_free (pattern_names p)) (parts_of_gens gs ++ xs)) (are_free_under gs xs)
    (free-parts (pattern_names p) (parts_of_gens gs ++ xs) (all-both reads_none (parts_of_gens gs) xs k g))
    (gens-free gs xs k g)
gens-free (cond e gs) xs h g = gens-free gs xs (all-right reads_none (parts_of e) (parts_of_gens gs) h) g

-- One list behind the other.
both-free : (xs ys : List Ex) → (list_all reads_none xs ≡ true → list_all is_free_under xs ≡ true) →
    (list_all reads_none ys ≡ true → list_all is_free_under ys ≡ true) →
    list_all reads_none (xs ++ ys) ≡ true → list_all is_free_under (xs ++ ys) ≡ true
both-free xs ys f g h = all-both is_free_under xs ys (f (all-left reads_none xs ys h)) (g (all-right reads_none xs ys h))

mutual
  pub none-free : (e : Ex) → ReadsNone e → FreeUnder e
  none-free (number_ex n) h = refl
  none-free (truth_ex b) h = refl
  none-free (name_ex a) h = refl
  none-free (node_ex b op es) h = none-free-all es h
  none-free (matrix_ex es d) h = both-free (parts_of_all es) (parts_of_dom d) (none-free-all es) (none-free-dom d) h
  none-free (comp_ex e gs) h =
      and-both (are_free_under gs (parts_of e)) (list_all is_free_under (parts_of e ++ parts_of_gens gs))
      (gens-free gs (parts_of e) (all-right reads_none (parts_of e) (parts_of_gens gs) h)
      (all-left reads_none (parts_of e) (parts_of_gens gs) h))
      (both-free (parts_of e) (parts_of_gens gs) (none-free e) (none-free-gens gs) h)
  none-free (cell_ex b n es) h = cc
  none-free (seen_ex r d ns es) h = cc

  none-free-all : (es : Exs) → list_all reads_none (parts_of_all es) ≡ true → list_all is_free_under (parts_of_all es) ≡ true
  none-free-all no_exs h = refl
  none-free-all (more_exs e es) h = both-free (parts_of e) (parts_of_all es) (none-free e) (none-free-all es) h

  none-free-gens : (gs : Gens) → list_all reads_none (parts_of_gens gs) ≡ true → list_all is_free_under (parts_of_gens gs) ≡ true
  none-free-gens no_gens h = refl
  none-free-gens (over p d gs) h = both-free (parts_of_dom d) (parts_of_gens gs) (none-free-dom d) (none-free-gens gs) h
  none-free-gens (from p e gs) h = both-free (parts_of e) (parts_of_gens gs) (none-free e) (none-free-gens gs) h
  none-free-gens (cond e gs) h = both-free (parts_of e) (parts_of_gens gs) (none-free e) (none-free-gens gs) h

  none-free-dom : (d : Dom) → list_all reads_none (parts_of_dom d) ≡ true → list_all is_free_under (parts_of_dom d) ≡ true
  none-free-dom bool_dom h = refl
  none-free-dom (int_dom rs es) h = none-free-all es h
  none-free-dom (name_dom a) h = refl
  none-free-dom (tuple_dom ds) h = none-free-doms ds h
  none-free-dom (record_dom fs ds) h = none-free-doms ds h
  none-free-dom (matrix_dom is d) h = both-free (parts_of_doms is) (parts_of_dom d) (none-free-doms is) (none-free-dom d) h
  none-free-dom (set_dom ms es d) h = both-free (parts_of_all es) (parts_of_dom d) (none-free-all es) (none-free-dom d) h
  none-free-dom (mset_dom ms es d) h = both-free (parts_of_all es) (parts_of_dom d) (none-free-all es) (none-free-dom d) h
  none-free-dom (function_dom ms es d c) h =
      both-free (parts_of_all es ++ parts_of_dom d) (parts_of_dom c)
      (both-free (parts_of_all es) (parts_of_dom d) (none-free-all es) (none-free-dom d)) (none-free-dom c) h
  none-free-dom (relation_dom ms es ds) h = both-free (parts_of_all es) (parts_of_doms ds) (none-free-all es) (none-free-doms ds) h
  none-free-dom (partition_dom ms es d) h = both-free (parts_of_all es) (parts_of_dom d) (none-free-all es) (none-free-dom d) h

  none-free-doms : (ds : Doms) → list_all reads_none (parts_of_doms ds) ≡ true → list_all is_free_under (parts_of_doms ds) ≡ true
  none-free-doms no_doms h = refl
  none-free-doms (more_doms d ds) h = both-free (parts_of_dom d) (parts_of_doms ds) (none-free-dom d) (none-free-doms ds) h

-- Numbers of a domain that read no table.
pub none-sizes : SizesOf ReadsNone
none-sizes = sizes-by ReadsNone (λ n. refl) (λ b op es a. operands-pass reads_none es a)
    (λ e a d h g. all-both reads_none (parts_of e) (parts_of_dom d ++ []) h
    (all-both reads_none (parts_of_dom d) [] (dom-passes reads_none d g) refl))

-- ---- what is built without generators over items

free-node : (b : Bool) (op : Op) (es : Exs) → B.AllHave FreeUnder es → FreeUnder (node_ex b op es)
free-node b op es a = operands-pass is_free_under es a

free-sizes : SizesOf FreeUnder
free-sizes = sizes-by FreeUnder (λ n. refl) free-node
    (λ e a d h g. all-both is_free_under (parts_of e) (parts_of_dom d ++ []) h
    (all-both is_free_under (parts_of_dom d) [] (dom-passes is_free_under d g) refl))

module _ (q : ℕ → Text) where
  gens-pass : (gs : Gens) → B.GensHave q FreeUnder ⊥ gs → list_all is_free_under (parts_of_gens gs) ≡ true
  gens-pass no_gens h = refl
  gens-pass (over (name_pat a) d gs) h = all-both is_free_under (parts_of_dom d) (parts_of_gens gs) (dom-passes is_free_under d h.1)
      (gens-pass gs h.2)
  gens-pass (over (tuple_pat ps) d gs) h = absurd h
  gens-pass (from (name_pat a) e gs) h = absurd h.3
  gens-pass (from (tuple_pat ps) e gs) h = absurd h
  gens-pass (cond e gs) h = all-both is_free_under (parts_of e) (parts_of_gens gs) h.0 (gens-pass gs h.1)

  none-under : (gs : Gens) (xs : List Ex) → B.GensHave q FreeUnder ⊥ gs → are_free_under gs xs ≡ true
  none-under no_gens xs h = refl
  none-under (over (name_pat a) d gs) xs h = none-under gs xs h.2
  none-under (over (tuple_pat ps) d gs) xs h = absurd h
  none-under (from (name_pat a) e gs) xs h = absurd h.3
  none-under (from (tuple_pat ps) e gs) xs h = absurd h
  none-under (cond e gs) xs h = none-under gs xs h.1

  -- So are structures but for what they say of items.
  pub built-free : BuiltOf q FreeUnder Any ⊥ (Unit {0})
  built-free = record {
    truths = λ b. refl;
    zero = refl;
    one = refl;
    names = λ l. refl;
    nodes = λ b op es u a. free-node b op es a;
    comps = λ e gs h g. and-both (are_free_under gs (parts_of e)) (list_all is_free_under (parts_of e ++ parts_of_gens gs))
        (none-under gs (parts_of e) g)
        (all-both is_free_under (parts_of e) (parts_of_gens gs) h (gens-pass gs g));
    cells = λ b n es a u. operands-pass is_free_under es a;
    bounds = bound-has FreeUnder Any free-sizes;
    listed = λ a g. let s : SizesOf FreeUnder = free-sizes in s.listed (name_dom a) tt;
  }

  -- ---- what is said of items

  -- No name over items stands in an index list under it, and none of the names from q l on stands in one.
  pub record Calm (l : ℕ) (e : Ex) : Type 0 where
    pub free : FreeUnder e
    pub quiet : (m : ℕ) → l ≤ m → FreeOf (q m ∷ []) e

  module _ (l : ℕ) where
    calm-free : (e : Ex) → Calm l e → FreeUnder e
    calm-free e c = c.free

    calm-quiet : (m : ℕ) → l ≤ m → (e : Ex) → Calm l e → FreeOf (q m ∷ []) e
    calm-quiet m h e c = c.quiet m h

    operands-free : (es : Exs) → B.AllHave (Calm l) es → list_all is_free_under (parts_of_all es) ≡ true
    operands-free es a = operands-pass is_free_under es (have-more (Calm l) FreeUnder calm-free es a)

    operands-quiet : (m : ℕ) → l ≤ m → (es : Exs) → B.AllHave (Calm l) es → list_all (index_is_free (q m ∷ [])) (parts_of_all es) ≡ true
    operands-quiet m h es a = operands-pass (index_is_free (q m ∷ [])) es (have-more (Calm l) (FreeOf (q m ∷ [])) (calm-quiet m h) es a)

    pub dom-free : (d : Dom) → B.DomHas (Calm l) d → list_all is_free_under (parts_of_dom d) ≡ true
    dom-free d a = dom-passes is_free_under d (dom-more (Calm l) FreeUnder calm-free d a)

    pub dom-quiet : (m : ℕ) → l ≤ m → (d : Dom) → B.DomHas (Calm l) d → list_all (index_is_free (q m ∷ [])) (parts_of_dom d) ≡ true
    dom-quiet m h d a = dom-passes (index_is_free (q m ∷ [])) d (dom-more (Calm l) (FreeOf (q m ∷ [])) (calm-quiet m h) d a)

    -- What reads no table is calm.
    pub none-calm : (e : Ex) → ReadsNone e → Calm l e
    none-calm e h = record { free = none-free e h; quiet = λ m k. free-parts (q m ∷ []) (parts_of e) h }

    calm-node : (b : Bool) (op : Op) (es : Exs) → B.AllHave (Calm l) es → Calm l (node_ex b op es)
    calm-node b op es a = record { free = operands-free es a; quiet = λ m h. operands-quiet m h es a }

    -- The names from q l on.
    abbrev pub own_name : ℕ → Text
    own_name k = q (name_from l k)

    abbrev Gens' : Gens → Type 0
    Gens' = B.GensHave own_name (Calm l) (Unit {0})

    gens-calm : (gs : Gens) → Gens' gs → list_all is_free_under (parts_of_gens gs) ≡ true
    gens-calm no_gens h = refl
    gens-calm (over (name_pat a) d gs) h = all-both is_free_under (parts_of_dom d) (parts_of_gens gs) (dom-free d h.1) (gens-calm gs h.2)
    gens-calm (over (tuple_pat ps) d gs) h = absurd h
    gens-calm (from (name_pat a) e gs) h = all-both is_free_under (parts_of e) (parts_of_gens gs) (calm-free e h.1) (gens-calm gs h.2)
    gens-calm (from (tuple_pat ps) e gs) h = absurd h
    gens-calm (cond e gs) h = all-both is_free_under (parts_of e) (parts_of_gens gs) (calm-free e h.0) (gens-calm gs h.1)

    gens-quiet : (m : ℕ) → l ≤ m → (gs : Gens) → Gens' gs → list_all (index_is_free (q m ∷ [])) (parts_of_gens gs) ≡ true
    gens-quiet m k no_gens h = refl
    gens-quiet m k (over (name_pat a) d gs) h =
        all-both (index_is_free (q m ∷ [])) (parts_of_dom d) (parts_of_gens gs) (dom-quiet m k d h.1) (gens-quiet m k gs h.2)
    gens-quiet m k (over (tuple_pat ps) d gs) h = absurd h
    gens-quiet m k (from (name_pat a) e gs) h =
        all-both (index_is_free (q m ∷ [])) (parts_of e) (parts_of_gens gs) (calm-quiet m k e h.1) (gens-quiet m k gs h.2)
    gens-quiet m k (from (tuple_pat ps) e gs) h = absurd h
    gens-quiet m k (cond e gs) h =
        all-both (index_is_free (q m ∷ [])) (parts_of e) (parts_of_gens gs) (calm-quiet m k e h.0) (gens-quiet m k gs h.1)

    under-calm : (gs : Gens) (xs : List Ex) → ((m : ℕ) → l ≤ m → list_all (index_is_free (q m ∷ [])) xs ≡ true) → Gens' gs →
        are_free_under gs xs ≡ true
    under-calm no_gens xs f h = refl
    under-calm (over (name_pat a) d gs) xs f h = under-calm gs xs f h.2
    under-calm (over (tuple_pat ps) d gs) xs f h = absurd h
    under-calm (from (name_pat a) e gs) xs f h =
        let k : l ≤ name_from l (h.0.0) = from-low l (h.0.0) in
        and-both (list_all (index_is_free (a ∷ [])) (parts_of_gens gs ++ xs)) (are_free_under gs xs)
        (subst (λ z. list_all (index_is_free (z ∷ [])) (parts_of_gens gs ++ xs) ≡ true) (sym (h.0.1))
        (all-both (index_is_free (own_name (h.0.0) ∷ [])) (parts_of_gens gs) xs (gens-quiet (name_from l (h.0.0)) k gs h.2)
        (f (name_from l (h.0.0)) k)))
        (under-calm gs xs f h.2)
    under-calm (from (tuple_pat ps) e gs) xs f h = absurd h
    under-calm (cond e gs) xs f h = under-calm gs xs f h.1

    calm-comp : (e : Ex) (gs : Gens) → Calm l e → Gens' gs → Calm l (comp_ex e gs)
    calm-comp e gs c g = record {
      free = and-both (are_free_under gs (parts_of e)) (list_all is_free_under (parts_of e ++ parts_of_gens gs))
          (under-calm gs (parts_of e) c.quiet g)
          (all-both is_free_under (parts_of e) (parts_of_gens gs) c.free (gens-calm gs g));
      quiet = λ m h. all-both (index_is_free (q m ∷ [])) (parts_of e) (parts_of_gens gs) (c.quiet m h) (gens-quiet m h gs g);
    }

    calm-sizes : SizesOf (Calm l)
    calm-sizes = sizes-by (Calm l) (λ n. record { free = refl; quiet = λ m h. refl }) calm-node (λ e a d c g. record {
      free = all-both is_free_under (parts_of e) (parts_of_dom d ++ []) c.free
          (all-both is_free_under (parts_of_dom d) [] (dom-free d g) refl);
      quiet = λ m h. all-both (index_is_free (q m ∷ [])) (parts_of e) (parts_of_dom d ++ []) (c.quiet m h)
          (all-both (index_is_free (q m ∷ [])) (parts_of_dom d) [] (dom-quiet m h d g) refl);
    })

    -- What structures say of items is calm, where they read no further cells.
    pub built-calm : BuiltOf own_name (Calm l) Any (Unit {0}) ⊥
    built-calm = record {
      truths = λ b. record { free = refl; quiet = λ m h. refl };
      zero = record { free = refl; quiet = λ m h. refl };
      one = record { free = refl; quiet = λ m h. refl };
      names = λ k. record { free = refl; quiet = λ m h. refl };
      nodes = λ b op es u a. calm-node b op es a;
      comps = calm-comp;
      cells = λ b n es a u. absurd u;
      bounds = bound-has (Calm l) Any calm-sizes;
      listed = λ a g. let s : SizesOf (Calm l) = calm-sizes in s.listed (name_dom a) tt;
    }
