-- No name over items stands in an index list under it in structures: by what structures are built of.
use Rattle.std.proofs.Common.{◌≡◌, refl, ap, ℕ, suc, ◌≤◌, ◌<◌, Bool, true, false, ◌||◌, not, List, [], ◌∷◌, arith}
use Rattle.std.specs.List.{list_all}
use Rattle.ess_semantics.specs.Values.{Text}
use Rattle.ess_semantics.specs.Order.{same_text}
use Rattle.ess_semantics.specs.Full.{index_is_free}
use Rattle.ess_semantics.specs.Occurrences.{parts_of_all, parts_of_dom, is_cell_or_view, is_name, free_of}
use Rattle.ess_semantics.specs.Trees.{Repr, Ex, Exs, name_ex, cell_ex, seen_ex, no_exs, more_exs, Dom, Doms}
use Rattle.ess_semantics.proofs.Tests.{and-both}
use Rattle.ess_repr_laws.specs.Structure.{structure}
use Rattle.ess_repr_laws.specs.StructureParts.{add_ex}
use Rattle.ess_repr_declare_laws.specs.SizeTerms.{size_terms}
use Rattle.ess_repr_structure_laws.specs.FreeIndices.{indices_are_free_under, is_free_under}
use Rattle.ess_repr_structure_laws.specs.Laws.{ReadsNoTable}
use Rattle.ess_repr_structure_laws.proofs.BuiltStructures as B
use Rattle.ess_repr_structure_laws.proofs.BuiltStructures.{have-more, dom-more, doms-more, good-more, good-has}
use Rattle.ess_repr_structure_laws.proofs.BuiltSizes.{bound-has}
use Rattle.ess_repr_structure_laws.proofs.BuiltItems as W
use Rattle.ess_repr_structure_laws.proofs.BuiltAll.{SaysOf, structure-by}
use Rattle.ess_repr_structure_laws.proofs.MetParts.{Any}
use Rattle.ess_repr_structure_laws.proofs.PassingParts.{all-both, all-none, none-all, operands-pass, passing-operands, passing-dom, index-added}
use Rattle.ess_repr_structure_laws.proofs.FreeUnder.{reads_none, ReadsNone, FreeUnder, Calm, none-free, none-sizes, free-parts, built-free, none-calm, built-calm, dom-free, dom-quiet, own_name}

-- Whether the part isn't this name.
abbrev isnt_name : Text → Ex → Bool
isnt_name a e = not (is_name a e)

free-list : (a : Text) (es : Exs) → list_all (isnt_name a) (parts_of_all es) ≡ true → free_of (a ∷ []) es ≡ true
free-list a es h = ap (λ b. not (b || false)) (all-none (is_name a) (parts_of_all es) h)

module _ (q : ℕ → Text) (apart : (m l : ℕ) → l < m → same_text (q m) (q l) ≡ false) where
  -- An index list reads no table, and none of the names from q l on stands in it.
  pub record Low (l : ℕ) (is : Exs) : Type 0 where
    pub none : list_all reads_none (parts_of_all is) ≡ true
    pub absent : (m : ℕ) → l ≤ m → list_all (isnt_name (q m)) (parts_of_all is) ≡ true

  low-named : (l : ℕ) (is : Exs) → Low l is → Low (suc l) (add_ex is (name_ex (q l)))
  low-named l is i = record {
    none = index-added reads_none is (name_ex (q l)) i.none refl;
    absent = λ m h. index-added (isnt_name (q m)) is (name_ex (q l)) (i.absent m (omega (arith, h)))
        (and-both (isnt_name (q m) (name_ex (q l))) true (ap not (apart m l (omega (arith, h)))) refl);
  }

  module _ (l : ℕ) where
    calm-of : (e : Ex) → ReadsNone e → Calm q l e
    calm-of = none-calm q l

    calm-numbers : (es : Exs) → B.AllHave ReadsNone es → B.AllHave (Calm q l) es
    calm-numbers = have-more ReadsNone (Calm q l) calm-of

    calm-dom : (d : Dom) → B.DomHas ReadsNone d → B.DomHas (Calm q l) d
    calm-dom = dom-more ReadsNone (Calm q l) calm-of

    calm-doms : (ds : Doms) → B.DomsHave ReadsNone ds → B.DomsHave (Calm q l) ds
    calm-doms = doms-more ReadsNone (Calm q l) calm-of

    -- A view with such an index list is calm.
    view-calm : (r : Repr) (d : Dom) (ns : List Text) (is : Exs) → B.DomHas ReadsNone d → Low l is → Calm q l (seen_ex r d ns is)
    view-calm r d ns is g i = record {
      free = all-both is_free_under (parts_of_dom d) (parts_of_all is) (dom-free q l d (calm-dom d g))
          (operands-pass is_free_under is (have-more ReadsNone FreeUnder none-free is (passing-operands reads_none is i.none)));
      quiet = λ m h. and-both (free_of (q m ∷ []) is) _ (free-list (q m) is (i.absent m h))
          (all-both (index_is_free (q m ∷ [])) (parts_of_dom d) (parts_of_all is) (dom-quiet q l m h d (calm-dom d g))
          (free-parts (q m ∷ []) (parts_of_all is) i.none));
    }

    -- And a cell.
    cell-calm : (b : Bool) (n : Text) (is : Exs) → Low l is → Calm q l (cell_ex b n is)
    cell-calm b n is i = record {
      free = operands-pass is_free_under is (have-more ReadsNone FreeUnder none-free is (passing-operands reads_none is i.none));
      quiet = λ m h. and-both (free_of (q m ∷ []) is) _ (free-list (q m) is (i.absent m h))
          (free-parts (q m ∷ []) (parts_of_all is) i.none);
    }

    calm-is-free : (e : Ex) → Calm q l e → FreeUnder e
    calm-is-free e c = c.free

  -- What structures say of items is so.
  says-free : SaysOf q FreeUnder ReadsNone Any Any Low
  says-free = record {
    have = λ l is i. have-more ReadsNone FreeUnder none-free is (passing-operands reads_none is i.none);
    named = low-named;
    more = good-more ReadsNone FreeUnder Any none-free;
    sizes = record {
      zero = refl;
      one = refl;
      products = λ a b g h. operands-pass reads_none (more_exs a (more_exs b no_exs)) (g, (h, tt));
      bounds = bound-has ReadsNone Any none-sizes;
    };
    pair-keys = λ l r d ns is c k g i h. calm-is-free l _ (W.pair-key-has (own_name q l) (Calm q l) Any (built-calm q l) 0 c
        (seen_ex r d ns is) k (calm-dom l c h) (view-calm l r d ns is g i));
    relation-keys = λ l r d ns is ds k g i h. calm-is-free l _ (W.relation-key-has (own_name q l) (Calm q l) Any (built-calm q l) 0 ds
        (seen_ex r d ns is) k (calm-doms l ds h) (view-calm l r d ns is g i));
    pairs = λ l r d ns is ms es b c g i a h. calm-is-free l _ (W.pairs-have (own_name q l) (Calm q l) Any (built-calm q l) 0 ms es b c
        (seen_ex r d ns is) (calm-numbers l es a) (calm-dom l c h) (view-calm l r d ns is g i));
    parts = λ l r d ns is ms b g i h. calm-is-free l _ (W.parts-have (own_name q l) (Calm q l) Any (built-calm q l) 0 ms b
        (seen_ex r d ns is) (calm-dom l b h) (view-calm l r d ns is g i));
    occurs = λ l r d ns is ms es g i a. calm-is-free l _ (W.occurs-have (own_name q l) (Calm q l) Any (built-calm q l) 0
        (seen_ex r d ns is) ms es (view-calm l r d ns is g i) (calm-numbers l es a));
    numbered = λ l r d ns is n ks ms g i a. calm-is-free l _ (W.part-attributes-have (own_name q l) (Calm q l) Any (built-calm q l) 0 ks ms
        (cell_ex false n is) (seen_ex r d ns is) (calm-numbers l ms a) (cell-calm l false n is i) (view-calm l r d ns is g i));
  }

  -- In the structure of a view whose domain reads no table, no name over items stands in an index list under it.
  pub structure-free : (r : Repr) (d : Dom) (ns : List Text) (l : ℕ) → ReadsNoTable d →
      indices_are_free_under (structure q size_terms r d ns l no_exs) ≡ true
  structure-free r d ns l h =
      structure-by q FreeUnder ReadsNone Any Any Low (built-free q) says-free r d ns l no_exs
      (passing-dom reads_none d (none-all is_cell_or_view (parts_of_dom d) h)) (record { none = refl; absent = λ m k. refl })
