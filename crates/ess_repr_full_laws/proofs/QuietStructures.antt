-- No name over items stands in an index list under it in the structure of a view whose domain reads tables: where none does in the
-- domain, and no reserved name of the structure stands in an index list of the domain.
use Rattle.std.proofs.Common.{◌≡◌, refl, ap, ℕ, suc, ◌≤◌, ◌<◌, Bool, true, false, ◌||◌, not, List, [], ◌∷◌, ◌++◌, ℤ, pos, le_refl, arith}
use Rattle.std.specs.List.{list_all}
use Rattle.ess_semantics.specs.declared.words.Op2.{Op2}
use Rattle.ess_semantics.specs.Values.{Text}
use Rattle.ess_semantics.specs.Order.{same_text}
use Rattle.ess_semantics.specs.Full.{index_is_free}
use Rattle.ess_semantics.specs.Occurrences.{parts_of, parts_of_all, parts_of_dom, parts_of_doms, is_name, free_of}
use Rattle.ess_semantics.specs.Trees.{binary, Repr, Ex, Exs, number_ex, name_ex, cell_ex, seen_ex, no_exs, more_exs, Dom, Doms, bool_dom, int_dom, name_dom, tuple_dom, record_dom, matrix_dom, set_dom, mset_dom, function_dom, relation_dom, partition_dom, no_doms, more_doms}
use Rattle.ess_semantics.proofs.Tests.{and-both}
use Rattle.ess_repr_laws.specs.Structure.{structure}
use Rattle.ess_repr_laws.specs.StructureParts.{add_ex}
use Rattle.ess_repr_declare_laws.specs.SizeTerms.{size_terms}
use Rattle.ess_repr_structure_laws.specs.FreeIndices.{indices_are_free_under, is_free_under}
use Rattle.ess_repr_structure_laws.proofs.BuiltStructures as B
use Rattle.ess_repr_structure_laws.proofs.BuiltStructures.{have-more, dom-more, doms-more, good-more}
use Rattle.ess_repr_structure_laws.proofs.BuiltItems as W
use Rattle.ess_repr_structure_laws.proofs.BuiltAll.{SaysOf, structure-by}
use Rattle.ess_repr_structure_laws.proofs.MetParts.{Any}
use Rattle.ess_repr_structure_laws.proofs.PassingParts.{all-left, all-right, all-both, all-none, operands-pass, passing-operands, index-added}
use Rattle.ess_repr_structure_laws.proofs.FreeUnder.{reads_none, ReadsNone, FreeUnder, Calm, none-free, free-parts, built-free, built-calm, dom-free, dom-quiet, own_name}
use Rattle.ess_repr_full_laws.specs.Laws.{QuietBelow}

-- Whether the part isn't this name.
abbrev isnt_name : Text → Ex → Bool
isnt_name a e = not (is_name a e)

free-list : (a : Text) (es : Exs) → list_all (isnt_name a) (parts_of_all es) ≡ true → free_of (a ∷ []) es ≡ true
free-list a es h = ap (λ b. not (b || false)) (all-none (is_name a) (parts_of_all es) h)

-- ---- domains

module _ (q : ℕ → Text) (l : ℕ) where
  -- What is quiet of a list of parts.
  record Quiet (xs : List Ex) : Type 0 where
    free : list_all is_free_under xs ≡ true
    quiet : (m : ℕ) → l ≤ m → list_all (index_is_free (q m ∷ [])) xs ≡ true

  left : (xs ys : List Ex) → Quiet (xs ++ ys) → Quiet xs
  left xs ys h = record {
    free = all-left is_free_under xs ys h.free;
    quiet = λ m k. all-left (index_is_free (q m ∷ [])) xs ys (h.quiet m k);
  }

  right : (xs ys : List Ex) → Quiet (xs ++ ys) → Quiet ys
  right xs ys h = record {
    free = all-right is_free_under xs ys h.free;
    quiet = λ m k. all-right (index_is_free (q m ∷ [])) xs ys (h.quiet m k);
  }

  all-calm : (es : Exs) → Quiet (parts_of_all es) → B.AllHave (Calm q l) es
  all-calm no_exs h = tt
  all-calm (more_exs e es) h =
      let a = left (parts_of e) (parts_of_all es) h in
      (record { free = a.free; quiet = a.quiet }, all-calm es (right (parts_of e) (parts_of_all es) h))

  mutual
    -- The numbers of a quiet domain are calm.
    calm-dom : (d : Dom) → Quiet (parts_of_dom d) → B.Good (Calm q l) Any d
    calm-dom bool_dom h = tt
    calm-dom (int_dom rs es) h = (tt, all-calm es h)
    calm-dom (name_dom a) h = tt
    calm-dom (tuple_dom ds) h = calm-doms ds h
    calm-dom (record_dom fs ds) h = calm-doms ds h
    calm-dom (matrix_dom is d) h =
        (calm-doms is (left (parts_of_doms is) (parts_of_dom d) h), calm-dom d (right (parts_of_doms is) (parts_of_dom d) h))
    calm-dom (set_dom ms es d) h =
        (all-calm es (left (parts_of_all es) (parts_of_dom d) h), calm-dom d (right (parts_of_all es) (parts_of_dom d) h))
    calm-dom (mset_dom ms es d) h =
        (tt, all-calm es (left (parts_of_all es) (parts_of_dom d) h), calm-dom d (right (parts_of_all es) (parts_of_dom d) h))
    calm-dom (function_dom ms es d c) h =
        let k = left (parts_of_all es ++ parts_of_dom d) (parts_of_dom c) h in (
          all-calm es (left (parts_of_all es) (parts_of_dom d) k),
          calm-dom d (right (parts_of_all es) (parts_of_dom d) k),
          calm-dom c (right (parts_of_all es ++ parts_of_dom d) (parts_of_dom c) h),
        )
    calm-dom (relation_dom ms es ds) h =
        (all-calm es (left (parts_of_all es) (parts_of_doms ds) h), calm-doms ds (right (parts_of_all es) (parts_of_doms ds) h))
    calm-dom (partition_dom ms es d) h =
        (all-calm es (left (parts_of_all es) (parts_of_dom d) h), calm-dom d (right (parts_of_all es) (parts_of_dom d) h))

    calm-doms : (ds : Doms) → Quiet (parts_of_doms ds) → B.AllGood (Calm q l) Any ds
    calm-doms no_doms h = tt
    calm-doms (more_doms d ds) h =
        (calm-dom d (left (parts_of_dom d) (parts_of_doms ds) h), calm-doms ds (right (parts_of_dom d) (parts_of_doms ds) h))

-- ---- structures

module _ (q : ℕ → Text) (apart : (m l : ℕ) → l < m → same_text (q m) (q l) ≡ false) (l0 : ℕ) where
  -- What is quiet from q l0 on.
  abbrev A : Ex → Type 0
  A = Calm q l0

  -- An index list reads no table, and none of the names from q l on stands in it; l is at least l0.
  record Low (l : ℕ) (is : Exs) : Type 0 where
    from : l0 ≤ l
    none : list_all reads_none (parts_of_all is) ≡ true
    absent : (m : ℕ) → l ≤ m → list_all (isnt_name (q m)) (parts_of_all is) ≡ true

  low-named : (l : ℕ) (is : Exs) → Low l is → Low (suc l) (add_ex is (name_ex (q l)))
  low-named l is i =
      let f : l0 ≤ l = i.from in record {
        from = omega (arith, f);
        none = index-added reads_none is (name_ex (q l)) i.none refl;
        absent = λ m h. index-added (isnt_name (q m)) is (name_ex (q l)) (i.absent m (omega (arith, h)))
            (and-both (isnt_name (q m) (name_ex (q l))) true (ap not (apart m l (omega (arith, h)))) refl);
      }

  module _ (l : ℕ) (up : l0 ≤ l) where
    calm-of : (e : Ex) → A e → Calm q l e
    calm-of e c = record { free = c.free; quiet = λ m h. c.quiet m (omega (arith, up, h)) }

    calm-numbers : (es : Exs) → B.AllHave A es → B.AllHave (Calm q l) es
    calm-numbers = have-more A (Calm q l) calm-of

    calm-in : (d : Dom) → B.DomHas A d → B.DomHas (Calm q l) d
    calm-in = dom-more A (Calm q l) calm-of

    calm-in-all : (ds : Doms) → B.DomsHave A ds → B.DomsHave (Calm q l) ds
    calm-in-all = doms-more A (Calm q l) calm-of

    -- A view with such an index list is calm.
    view-calm : (r : Repr) (d : Dom) (ns : List Text) (is : Exs) → B.DomHas A d → Low l is → Calm q l (seen_ex r d ns is)
    view-calm r d ns is g i = record {
      free = all-both is_free_under (parts_of_dom d) (parts_of_all is) (dom-free q l d (calm-in d g))
          (operands-pass is_free_under is (have-more ReadsNone FreeUnder none-free is (passing-operands reads_none is i.none)));
      quiet = λ m h. and-both (free_of (q m ∷ []) is) _ (free-list (q m) is (i.absent m h))
          (all-both (index_is_free (q m ∷ [])) (parts_of_dom d) (parts_of_all is) (dom-quiet q l m h d (calm-in d g))
          (free-parts (q m ∷ []) (parts_of_all is) i.none));
    }

    -- And a cell.
    cell-calm : (b : Bool) (n : Text) (is : Exs) → Low l is → Calm q l (cell_ex b n is)
    cell-calm b n is i = record {
      free = operands-pass is_free_under is (have-more ReadsNone FreeUnder none-free is (passing-operands reads_none is i.none));
      quiet = λ m h. and-both (free_of (q m ∷ []) is) _ (free-list (q m) is (i.absent m h))
          (free-parts (q m ∷ []) (parts_of_all is) i.none);
    }

    is-free : (e : Ex) → Calm q l e → FreeUnder e
    is-free e c = c.free

  free-of-calm : (e : Ex) → A e → FreeUnder e
  free-of-calm e c = c.free

  of-number : (n : ℤ) → A (number_ex n)
  of-number n = record { free = refl; quiet = λ m h. refl }

  -- What structures say of items is so.
  says-free : SaysOf q FreeUnder A Any Any Low
  says-free = record {
    have = λ l is i. have-more ReadsNone FreeUnder none-free is (passing-operands reads_none is i.none);
    named = low-named;
    more = good-more A FreeUnder Any free-of-calm;
    sizes = record {
      zero = of-number (pos 0);
      one = of-number (pos 1);
      products = λ a b g h. built.nodes false (binary Op2.Times) (more_exs a (more_exs b no_exs)) refl (g, (h, tt));
      bounds = built.bounds;
    };
    pair-keys = λ l r d ns is c k g i h. is-free l i.from _ (W.pair-key-has (own_name q l) (Calm q l) Any (built-calm q l) 0 c
        (seen_ex r d ns is) k (calm-in l i.from c h) (view-calm l i.from r d ns is g i));
    relation-keys = λ l r d ns is ds k g i h. is-free l i.from _ (W.relation-key-has (own_name q l) (Calm q l) Any (built-calm q l) 0 ds
        (seen_ex r d ns is) k (calm-in-all l i.from ds h) (view-calm l i.from r d ns is g i));
    pairs = λ l r d ns is ms es b c g i a h. is-free l i.from _ (W.pairs-have (own_name q l) (Calm q l) Any (built-calm q l) 0 ms es b c
        (seen_ex r d ns is) (calm-numbers l i.from es a) (calm-in l i.from c h) (view-calm l i.from r d ns is g i));
    parts = λ l r d ns is ms b g i h. is-free l i.from _ (W.parts-have (own_name q l) (Calm q l) Any (built-calm q l) 0 ms b
        (seen_ex r d ns is) (calm-in l i.from b h) (view-calm l i.from r d ns is g i));
    occurs = λ l r d ns is ms es g i a. is-free l i.from _ (W.occurs-have (own_name q l) (Calm q l) Any (built-calm q l) 0
        (seen_ex r d ns is) ms es (view-calm l i.from r d ns is g i) (calm-numbers l i.from es a));
    numbered = λ l r d ns is n ks ms g i a. is-free l i.from _
        (W.part-attributes-have (own_name q l) (Calm q l) Any (built-calm q l) 0 ks ms
        (cell_ex false n is) (seen_ex r d ns is) (calm-numbers l i.from ms a) (cell-calm l i.from false n is i)
        (view-calm l i.from r d ns is g i));
  }
    where
      built : B.BuiltOf (own_name q l0) (Calm q l0) Any (Unit {0}) ⊥
      built = built-calm q l0

-- So no name over items stands in an index list under it in the structure.
pub quiet-structure : (q : ℕ → Text) (apart : (m l : ℕ) → l < m →
    same_text (q m) (q l) ≡ false) (r : Repr) (d : Dom) (ns : List Text) (l : ℕ) →
    QuietBelow q l d → indices_are_free_under (structure q size_terms r d ns l no_exs) ≡ true
quiet-structure q apart r d ns l h =
    structure-by q FreeUnder (Calm q l) Any Any (Low q apart l) (built-free q) (says-free q apart l) r d ns l no_exs
    (calm-dom q l d (record { free = h.free; quiet = h.quiet }))
    (record { from = le_refl l; none = refl; absent = λ m k. refl })
