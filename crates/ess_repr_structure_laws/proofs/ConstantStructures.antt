-- Structures spell numbers of the domain, and 0, 1 and 2.
use Rattle.std.proofs.Common.{◌≡◌, refl, sym, subst, ℕ, Bool, true, false, List, [], ◌++◌, ℤ, pos}
use Rattle.ess_semantics.specs.declared.words.Op2.{Op2}
use Rattle.ess_semantics.specs.declared.words.Fun.{Fun}
use Rattle.ess_semantics.specs.Values.{Text}
use Rattle.ess_semantics.specs.Contexts.{Each}
use Rattle.ess_semantics.specs.Constants.{operand_count, counted_op, drops_items, tree_constants, operand_constants, gens_constants, dom_constants, doms_constants}
use Rattle.ess_semantics.specs.Trees.{Op, binary, word, tuple_literal, set_literal, mset_literal, function_literal, relation_literal, partition_literal, matrix_literal, record_literal, Repr, name_pat, tuple_pat, Ex, Exs, number_ex, truth_ex, name_ex, node_ex, matrix_ex, comp_ex, cell_ex, seen_ex, no_exs, more_exs, Gens, no_gens, over, from, cond, Dom, Doms, bool_dom, int_dom, name_dom, tuple_dom, record_dom, matrix_dom, set_dom, mset_dom, function_dom, relation_dom, partition_dom, no_doms, more_doms, ex2, fun1}
use Rattle.ess_semantics.proofs.Tests.{and-right}
use Rattle.ess_guard_laws.proofs.ConstantRows.{each-append, each-left, each-right}
use Rattle.ess_guard_laws.proofs.Safe.{is_safe}
use Rattle.ess_repr_laws.specs.Structure.{structure}
use Rattle.ess_repr_declare_laws.specs.SizeTerms.{zero_ex, one_ex, two_ex, at_least_0_ex, unused_name, listed_ex, size_terms}
use Rattle.ess_repr_structure_laws.proofs.BuiltStructures as B
use Rattle.ess_repr_structure_laws.proofs.BuiltStructures.{is_used, counts_nothing, BuiltOf}
use Rattle.ess_repr_structure_laws.proofs.BuiltSizes.{SizesOf, bound-has}
use Rattle.ess_repr_structure_laws.proofs.BuiltAll.{structure-has}

-- Operators that aren't literals count no items.
counted-none : (i : Bool) (op : Op) (n : ℕ) → counts_nothing op ≡ true → counted_op i op n ≡ []
counted-none true tuple_literal n e = refl
counted-none true (record_literal fs) n e = refl
counted-none true _ n e = refl
counted-none false set_literal n e = cc
counted-none false mset_literal n e = cc
counted-none false function_literal n e = cc
counted-none false relation_literal n e = cc
counted-none false partition_literal n e = cc
counted-none false matrix_literal n e = cc
counted-none false _ n e = refl

module _ (q : ℕ → Text) (P : ℤ → Type 0) (p0 : P (pos 0)) (p1 : P (pos 1)) (p2 : P (pos 2)) where
  -- Each number of the tree has P, wherever it stands.
  abbrev pub K : Ex → Type 0
  K e = (i : Bool) → Each (tree_constants i e) P

  -- Nothing more is asked of domains.
  abbrev pub Any : Dom → Type 0
  Any d = Unit {0}

  abbrev AllHave : Exs → Type 0
  AllHave = B.AllHave K

  abbrev Good : Dom → Type 0
  Good = B.Good K Any

  abbrev AllGood : Doms → Type 0
  AllGood = B.AllGood K Any

  -- ---- trees

  operands-in : (es : Exs) → AllHave es → (i : Bool) → Each (operand_constants i es) P
  operands-in no_exs a i = tt
  operands-in (more_exs e es) a i = each-append (tree_constants i e) (operand_constants i es) P (a.0 i) (operands-in es a.1 i)

  -- An operator that isn't a literal.
  node-in : (b : Bool) (op : Op) (es : Exs) → counts_nothing op ≡ true → AllHave es → K (node_ex b op es)
  node-in b op es c a i =
      subst (λ l. Each (l ++ operand_constants (drops_items op) es) P) (sym (counted-none i op (operand_count es) c))
      (operands-in es a (drops_items op))

  two-in : (b : Bool) (o : Op2) (x y : Ex) → K x → K y → K (ex2 b o x y)
  two-in b o x y g h = node-in b (binary o) (more_exs x (more_exs y no_exs)) refl (g, (h, tt))

  word-in : (b : Bool) (f : Fun) (x : Ex) → K x → K (fun1 b f x)
  word-in b f x h = node-in b (word f) (more_exs x no_exs) refl (h, tt)

  mutual
    dom-in : (d : Dom) → B.DomHas K d → Each (dom_constants d) P
    dom-in bool_dom h = tt
    dom-in (int_dom rs es) h = operands-in es h false
    dom-in (name_dom a) h = tt
    dom-in (tuple_dom ds) h = doms-in ds h
    dom-in (record_dom fs ds) h = doms-in ds h
    dom-in (matrix_dom is d) h = each-append (doms_constants is) (dom_constants d) P (doms-in is h.0) (dom-in d h.1)
    dom-in (set_dom ms es d) h = each-append (operand_constants false es) (dom_constants d) P (operands-in es h.0 false) (dom-in d h.1)
    dom-in (mset_dom ms es d) h = each-append (operand_constants false es) (dom_constants d) P (operands-in es h.0 false) (dom-in d h.1)
    dom-in (function_dom ms es d c) h =
        each-append (operand_constants false es ++ dom_constants d) (dom_constants c) P
        (each-append (operand_constants false es) (dom_constants d) P (operands-in es h.0 false) (dom-in d h.1)) (dom-in c h.2)
    dom-in (relation_dom ms es ds) h = each-append (operand_constants false es) (doms_constants ds) P (operands-in es h.0 false)
        (doms-in ds h.1)
    dom-in (partition_dom ms es d) h = each-append (operand_constants false es) (dom_constants d) P (operands-in es h.0 false)
        (dom-in d h.1)

    doms-in : (ds : Doms) → B.DomsHave K ds → Each (doms_constants ds) P
    doms-in no_doms h = tt
    doms-in (more_doms d ds) h = each-append (dom_constants d) (doms_constants ds) P (dom-in d h.0) (doms-in ds h.1)

  gens-in : (gs : Gens) → B.GensHave q K (Unit {0}) gs → Each (gens_constants gs) P
  gens-in no_gens h = tt
  gens-in (over (name_pat a) d gs) h = each-append (dom_constants d) (gens_constants gs) P (dom-in d h.1) (gens-in gs h.2)
  gens-in (over (tuple_pat ps) d gs) h = absurd h
  gens-in (from (name_pat a) x gs) h = each-append (tree_constants false x) (gens_constants gs) P (h.1 false) (gens-in gs h.2)
  gens-in (from (tuple_pat ps) x gs) h = absurd h
  gens-in (cond x gs) h = each-append (tree_constants false x) (gens_constants gs) P (h.0 false) (gens-in gs h.1)

  comp-in : (e : Ex) (gs : Gens) → K e → Each (gens_constants gs) P → K (comp_ex e gs)
  comp-in e gs h g i = each-append (tree_constants false e) (gens_constants gs) P (h false) g

  -- ---- sizes

  zero-in : K zero_ex
  zero-in i = (p0, tt)

  one-in : K one_ex
  one-in i = (p1, tt)

  two-numeral-in : K two_ex
  two-numeral-in i = (p2, tt)

  list-in : (a : Ex) → K a → K (node_ex false matrix_literal (more_exs zero_ex (more_exs a no_exs)))
  list-in a h true = operands-in (more_exs zero_ex (more_exs a no_exs)) (zero-in, (h, tt)) false
  list-in a h false = (p1, (p2, operands-in (more_exs zero_ex (more_exs a no_exs)) (zero-in, (h, tt)) false))

  most-in : (a : Ex) → K a → K (at_least_0_ex a)
  most-in a h = word-in false Fun.Max (node_ex false matrix_literal (more_exs zero_ex (more_exs a no_exs))) (list-in a h)

  listed-in : (d : Dom) → Each (dom_constants d) P → K (listed_ex d)
  listed-in d h = word-in false Fun.Sum (comp_ex one_ex (over (name_pat unused_name) d no_gens))
      (comp-in one_ex (over (name_pat unused_name) d no_gens) one-in (each-append (dom_constants d) [] P h tt))

  sizes-in : SizesOf K
  sizes-in = record {
    zero = zero-in;
    one = one-in;
    two = two-numeral-in;
    nodes = node-in;
    most = most-in;
    listed = λ d h. listed-in d
        (dom-in d h);
  }

  -- What structures are built of spells such numbers.
  built-in : BuiltOf q K Any (Unit {0}) (Unit {0})
  built-in = record {
    truths = λ b i. tt;
    zero = zero-in;
    one = one-in;
    names = λ l i. tt;
    nodes = λ b op es u a. node-in b op es (and-right (is_safe op) (counts_nothing op) u) a;
    comps = λ e gs h g. comp-in e gs h (gens-in gs g);
    cells = λ b n es a h i. operands-in es a false;
    bounds = bound-has K Any sizes-in;
    listed = λ a g. listed-in (name_dom a) tt;
  }

  views-in : (r : Repr) (d : Dom) (ns : List Text) (es : Exs) → B.DomHas K d → AllHave es → K (seen_ex r d ns es)
  views-in r d ns es h a i = each-append (dom_constants d) (operand_constants false es) P (dom-in d h) (operands-in es a false)

  -- ---- domains

  fewer : (i : Bool) (op : Op) (n : ℕ) → Each (counted_op false op n) P → Each (counted_op i op n) P
  fewer false op n p = p
  fewer true tuple_literal n p = tt
  fewer true (record_literal fs) n p = tt
  fewer true _ n p = tt

  -- What is spelled in some place is spelled in each.
  pub anywhere : (e : Ex) → Each (tree_constants false e) P → K e
  anywhere (number_ex n) p i = p
  anywhere (truth_ex b) p i = p
  anywhere (name_ex a) p i = p
  anywhere (node_ex b op es) p i =
      each-append (counted_op i op (operand_count es)) (operand_constants (drops_items op) es) P
      (fewer i op (operand_count es) (each-left (counted_op false op (operand_count es)) (operand_constants (drops_items op) es) P p))
      (each-right (counted_op false op (operand_count es)) (operand_constants (drops_items op) es) P p)
  anywhere (matrix_ex es d) p i = p
  anywhere (comp_ex e gs) p i = p
  anywhere (cell_ex b n es) p i = p
  anywhere (seen_ex r d ns es) p i = p

  operands-out : (es : Exs) → Each (operand_constants false es) P → AllHave es
  operands-out no_exs p = tt
  operands-out (more_exs e es) p = (
    anywhere e (each-left (tree_constants false e) (operand_constants false es) P p),
    operands-out es (each-right (tree_constants false e) (operand_constants false es) P p),
  )

  mutual
    dom-out : (d : Dom) → Each (dom_constants d) P → Good d
    dom-out bool_dom p = tt
    dom-out (int_dom rs es) p = (tt, operands-out es p)
    dom-out (name_dom a) p = tt
    dom-out (tuple_dom ds) p = doms-out ds p
    dom-out (record_dom fs ds) p = doms-out ds p
    dom-out (matrix_dom is d) p = (
      doms-out is (each-left (doms_constants is) (dom_constants d) P p),
      dom-out d
          (each-right (doms_constants is) (dom_constants d) P p),
    )
    dom-out (set_dom ms es d) p = (
      operands-out es (each-left (operand_constants false es) (dom_constants d) P p),
      dom-out d
          (each-right (operand_constants false es) (dom_constants d) P p),
    )
    dom-out (mset_dom ms es d) p = (
      tt,
      operands-out es (each-left (operand_constants false es) (dom_constants d) P p),
      dom-out d
          (each-right (operand_constants false es) (dom_constants d) P p),
    )
    dom-out (function_dom ms es d c) p =
        let r = each-left (operand_constants false es ++ dom_constants d) (dom_constants c) P p in (
          operands-out es (each-left (operand_constants false es) (dom_constants d) P r),
          dom-out d (each-right (operand_constants false es) (dom_constants d) P r),
          dom-out c (each-right (operand_constants false es ++ dom_constants d) (dom_constants c) P p),
        )
    dom-out (relation_dom ms es ds) p = (
      operands-out es (each-left (operand_constants false es) (doms_constants ds) P p),
      doms-out ds
          (each-right (operand_constants false es) (doms_constants ds) P p),
    )
    dom-out (partition_dom ms es d) p = (
      operands-out es (each-left (operand_constants false es) (dom_constants d) P p),
      dom-out d
          (each-right (operand_constants false es) (dom_constants d) P p),
    )

    doms-out : (ds : Doms) → Each (doms_constants ds) P → AllGood ds
    doms-out no_doms p = tt
    doms-out (more_doms d ds) p = (
      dom-out d (each-left (dom_constants d) (doms_constants ds) P p),
      doms-out ds
          (each-right (dom_constants d) (doms_constants ds) P p),
    )

  -- The structure of a view spells such numbers, where its domain does.
  pub structure-in : (r : Repr) (d : Dom) (ns : List Text) (l : ℕ) → Each (dom_constants d) P → K (structure q size_terms r d ns l no_exs)
  structure-in r d ns l p = structure-has q K Any built-in views-in r d ns l no_exs (dom-out d p) tt
