-- Guarded, a tree spells constants that it had, and so do the conditions of a term.
use Rattle.std.proofs.Common.{◌≡◌, refl, sym, ap, subst, suc, Bool, true, false, ◌&&◌, ◌||◌, not, if◌then◌else◌, List, [], ◌++◌, ℤ, pos}
use Rattle.ess_semantics.specs.Values.{Text}
use Rattle.ess_semantics.specs.Names.{Names}
use Rattle.ess_semantics.specs.Numbers.{one_to}
use Rattle.ess_semantics.specs.Trees.{Op, partition_literal, Ex, Exs, number_ex, truth_ex, name_ex, node_ex, matrix_ex, comp_ex, cell_ex, seen_ex, no_exs, more_exs, Gens, no_gens, over, from, cond, Dom, Doms, bool_dom, int_dom, name_dom, tuple_dom, record_dom, matrix_dom, set_dom, mset_dom, function_dom, relation_dom, partition_dom, no_doms, more_doms}
use Rattle.ess_semantics.specs.Contexts.{Each}
use Rattle.ess_semantics.specs.Constants.{operand_count, counted_op, drops_items, tree_constants, operand_constants, gens_constants, dom_constants, doms_constants}
use Rattle.ess_semantics.proofs.Tests.{and-left, not-true}
use Rattle.ess_guard_laws.specs.Origins.{Origin, with_any, with_over, known_behind}
use Rattle.ess_guard_laws.specs.Conditions.{own}
use Rattle.ess_guard_laws.specs.Guard.{is_plain, connects, own_at, opens, passes, guarded, guarded_all, guarded_gens, guarded_dom, guarded_doms, conditions, conditions_all, conditions_gens, conditions_dom, conditions_doms}
use Rattle.ess_guard_laws.specs.LiteralsFit.{is_literal, may_stand, LiteralsFit, AllLiteralsFit, GensLiteralsFit, DomLiteralsFit, DomsLiteralsFit}
use Rattle.ess_guard_laws.proofs.LiteralPlaces.{uncounted, fit-outside}
use Rattle.ess_guard_laws.proofs.OutsideFolds.{tree-outside, no-items}
use Rattle.ess_guard_laws.proofs.ConstantRows as R
use Rattle.ess_guard_laws.proofs.ConstantRows.{each-append, each-left, each-right}
use Rattle.ess_guard_laws.proofs.ConstantOwn as O

module _ (natural : Bool) (x y : Text) (P : ℤ → Type 0) (p0 : P (pos 0)) (p1 : P (pos 1)) where
  abbrev G : Names Origin → Ex → Ex
  G = guarded natural x y

  abbrev Gs : Names Origin → Exs → Exs
  Gs = guarded_all natural x y

  abbrev C : Names Origin → Bool → Ex → List Ex
  C = conditions natural x y

  abbrev Cs : Names Origin → Bool → Exs → List Ex
  Cs = conditions_all natural x y

  abbrev Tree : Bool → Ex → Type 0
  Tree = R.Tree P p0 p1

  abbrev Trees : Bool → Exs → Type 0
  Trees = R.Trees P p0 p1

  abbrev InGens : Gens → Type 0
  InGens = R.InGens P p0 p1

  abbrev InDom : Dom → Type 0
  InDom = R.InDom P p0 p1

  abbrev InDoms : Doms → Type 0
  InDoms ds = Each (doms_constants ds) P

  abbrev InEach : List Ex → Type 0
  InEach = R.InEach P p0 p1

  abbrev in-append : (cs ds : List Ex) → InEach cs → InEach ds → InEach (cs ++ ds)
  in-append = R.in-append P p0 p1

  -- Two lists of constants, of which the first and the second stay.
  both : (xs ys us vs : List ℤ) → (Each xs P → Each us P) → (Each ys P → Each vs P) → Each (xs ++ ys) P → Each (us ++ vs) P
  both xs ys us vs f g p = each-append us vs P (f (each-left xs ys P p)) (g (each-right xs ys P p))

  -- The conditions that two lists of constants allow.
  both-asked : (xs ys : List ℤ) (cs ds : List Ex) → (Each xs P → InEach cs) → (Each ys P → InEach ds) → Each (xs ++ ys) P →
      InEach (cs ++ ds)
  both-asked xs ys cs ds f g p = in-append cs ds (f (each-left xs ys P p)) (g (each-right xs ys P p))

  -- The parts of a partition literal are counted.
  parts-count : (i b : Bool) (op : Op) (es : Exs) → may_stand i b op ≡ true → Tree i (node_ex b op es) → O.PartsCount P p0 p1 op es
  parts-count i true partition_literal es t p = cc
  parts-count true false partition_literal es t p = cc
  parts-count false false partition_literal es t p = each-left (one_to (operand_count es)) (operand_constants false es) P p
  parts-count i b op es t p = tt

  -- A Boolean outside of folds counts nothing.
  node-outside : (op : Op) (es : Exs) → is_literal op ≡ false → Trees (drops_items op) es → Tree false (node_ex true op es)
  node-outside op es t p = subst (λ l. Each (l ++ operand_constants (drops_items op) es) P) (sym (uncounted op (operand_count es) t)) p

  choose-tree : (i t : Bool) (a b : Ex) → (t ≡ true → Tree i a) → Tree i b → Tree i (if t then a else b)
  choose-tree i true a b p q = p refl
  choose-tree i false a b p q = q

  -- A Boolean isn't a literal.
  no-literal : (i b : Bool) (op : Op) → b ≡ true → may_stand i b op ≡ true → is_literal op ≡ false
  no-literal i true op e t = not-true (is_literal op) t
  no-literal i false op e t = cc

  -- Operands stay as many.
  count-kept : (es : Exs) (k : Names Origin) → operand_count (Gs k es) ≡ operand_count es
  count-kept no_exs k = refl
  count-kept (more_exs e es) k = ap suc (count-kept es k)

  -- The conditions of a node's operands and its own.
  node-asked : (w u i : Bool) (b : Bool) (op : Op) (es : Exs) (k : Names Origin) → may_stand i b op ≡ true → InEach (Cs k w es) →
      Trees (drops_items op) (Gs k es) → O.AllOutside P p0 p1 (Gs k es) → Tree i (node_ex b op (Gs k es)) →
      InEach (Cs k w es ++ own_at natural x y k u op (Gs k es))
  node-asked w u i b op es k f p q r t = in-append (Cs k w es) (own_at natural x y k u op (Gs k es)) p
      (R.in-choose P p0 p1 (u && is_plain op) (own k x y op (Gs k es))
      (O.own-in P p0 p1 k x y op (Gs k es) q r (parts-count i b op (Gs k es) f t)))

  -- A node whose operands are guarded.
  node-kept : (i b : Bool) (op : Op) (es : Exs) (k : Names Origin) → (Trees (drops_items op) es → Trees (drops_items op) (Gs k es)) →
      Tree i (node_ex b op es) → Tree i (node_ex b op (Gs k es))
  node-kept i b op es k f p =
      both (counted_op i op (operand_count es)) (operand_constants (drops_items op) es) (counted_op i op (operand_count (Gs k es)))
      (operand_constants (drops_items op) (Gs k es))
      (λ q. subst (λ n. Each (counted_op i op n) P) (sym (count-kept es k)) q) f p

  abbrev operands : (i b : Bool) (op : Op) (es : Exs) → Tree i (node_ex b op es) → Trees (drops_items op) es
  operands i b op es p = each-right (counted_op i op (operand_count es)) (operand_constants (drops_items op) es) P p

  mutual
    -- A tree with its Booleans guarded.
    pub kept : (e : Ex) (k : Names Origin) (i : Bool) → LiteralsFit i e → Tree i e → Tree i (G k e)
    kept (number_ex n) k i f p = p
    kept (truth_ex b) k i f p = p
    kept (name_ex a) k i f p = p
    kept (node_ex b op es) k i f p = choose-tree i (b && not (connects op)) _ (node_ex b op (Gs k es))
        (λ t. let r : b ≡ true = and-left b (not (connects op)) t in
        let q : Trees (drops_items op) (Gs k es) = kept-all es k (drops_items op) f.1 (operands i b op es p) in
        let n : Tree i (node_ex b op (Gs k es)) = node-kept i b op es k (kept-all es k (drops_items op) f.1) p in
        R.chained-in P p0 p1 i
        (Cs k (opens natural x y op) es ++ own_at natural x y k false op (Gs k es))
        (node_ex true op (Gs k es))
        (node-asked (opens natural x y op) false i b op es k f.0
        (asked-all es k (opens natural x y op) (drops_items op) f.1 (operands i b op es p)) q
        (outside-all es k (drops_items op) f.1 (operands i b op es p)) n)
        (node-outside op (Gs k es) (no-literal i b op r f.0) q) n)
        (node-kept i b op es k (kept-all es k (drops_items op) f.1) p)
    kept (matrix_ex es d) k i f p =
        both (one_to (operand_count es) ++ operand_constants false es) (dom_constants d)
        (one_to (operand_count (Gs k es)) ++ operand_constants false (Gs k es)) (dom_constants (guarded_dom natural x y k d))
        (both (one_to (operand_count es)) (operand_constants false es) (one_to (operand_count (Gs k es)))
        (operand_constants false (Gs k es)) (λ q. subst (λ n. Each (one_to n) P) (sym (count-kept es k)) q) (kept-all es k false f.0))
        (kept-dom d k f.1) p
    kept (comp_ex e gs) k i f p =
        both (tree_constants false e) (gens_constants gs) (tree_constants false (G (known_behind gs k) e))
        (gens_constants (guarded_gens natural x y k gs))
        (kept e (known_behind gs k) false f.0) (kept-gens gs k f.1) p
    kept (cell_ex true n es) k i f p =
        R.chained-in P p0 p1 i (Cs k false es) (cell_ex true n (Gs k es)) (asked-all es k false false f p) (kept-all es k false f p)
        (kept-all es k false f p)
    kept (cell_ex false n es) k i f p = kept-all es k false f p
    kept (seen_ex r d ns es) k i f p = p

    -- The same of operands.
    pub kept-all : (es : Exs) (k : Names Origin) (i : Bool) → AllLiteralsFit i es → Trees i es → Trees i (Gs k es)
    kept-all no_exs k i f p = tt
    kept-all (more_exs e es) k i f p =
        both (tree_constants i e) (operand_constants i es) (tree_constants i (G k e)) (operand_constants i (Gs k es)) (kept e k i f.0)
        (kept-all es k i f.1) p

    -- Operands outside of folds.
    pub outside-all : (es : Exs) (k : Names Origin) (i : Bool) → AllLiteralsFit i es → Trees i es → O.AllOutside P p0 p1 (Gs k es)
    outside-all no_exs k i f p = tt
    outside-all (more_exs e es) k i f p = (
      λ t. kept e k false (fit-outside e i f.0)
          (tree-outside P p0 p1 e i f.0 (no-items natural x y e k t) (each-left (tree_constants i e) (operand_constants i es) P p)),
      outside-all es k i f.1 (each-right (tree_constants i e) (operand_constants i es) P p),
    )

    -- The same of generators.
    pub kept-gens : (gs : Gens) (k : Names Origin) → GensLiteralsFit gs → InGens gs → InGens (guarded_gens natural x y k gs)
    kept-gens no_gens k f p = tt
    kept-gens (over p d gs) k f q =
        both (dom_constants d) (gens_constants gs) (dom_constants (guarded_dom natural x y k d))
        (gens_constants (guarded_gens natural x y (with_over p d k) gs)) (kept-dom d k f.0) (kept-gens gs (with_over p d k) f.1) q
    kept-gens (from p e gs) k f q =
        both (tree_constants false e) (gens_constants gs) (tree_constants false (G k e))
        (gens_constants (guarded_gens natural x y (with_any p k) gs)) (kept e k false f.0) (kept-gens gs (with_any p k) f.1) q
    kept-gens (cond c gs) k f q =
        both (tree_constants false c) (gens_constants gs) (tree_constants false (G k c)) (gens_constants (guarded_gens natural x y k gs))
        (kept c k false f.0) (kept-gens gs k f.1) q

    -- The same of a domain.
    pub kept-dom : (d : Dom) (k : Names Origin) → DomLiteralsFit d → InDom d → InDom (guarded_dom natural x y k d)
    kept-dom bool_dom k f p = tt
    kept-dom (int_dom rs es) k f p = kept-all es k false f p
    kept-dom (name_dom a) k f p = tt
    kept-dom (tuple_dom ds) k f p = kept-doms ds k f p
    kept-dom (record_dom fs ds) k f p = kept-doms ds k f p
    kept-dom (matrix_dom is d) k f p = both (doms_constants is) (dom_constants d) _ _ (kept-doms is k f.0) (kept-dom d k f.1) p
    kept-dom (set_dom ms es d) k f p =
        both (operand_constants false es) (dom_constants d) _ _ (kept-all es k false f.0) (kept-dom d k f.1) p
    kept-dom (mset_dom ms es d) k f p =
        both (operand_constants false es) (dom_constants d) _ _ (kept-all es k false f.0) (kept-dom d k f.1) p
    kept-dom (function_dom ms es d c) k f p =
        both (operand_constants false es ++ dom_constants d) (dom_constants c) _ _
        (both (operand_constants false es) (dom_constants d) _ _ (kept-all es k false f.0) (kept-dom d k f.1)) (kept-dom c k f.2) p
    kept-dom (relation_dom ms es ds) k f p =
        both (operand_constants false es) (doms_constants ds) _ _ (kept-all es k false f.0) (kept-doms ds k f.1) p
    kept-dom (partition_dom ms es d) k f p =
        both (operand_constants false es) (dom_constants d) _ _ (kept-all es k false f.0) (kept-dom d k f.1) p

    -- The same of several domains.
    pub kept-doms : (ds : Doms) (k : Names Origin) → DomsLiteralsFit ds → InDoms ds → InDoms (guarded_doms natural x y k ds)
    kept-doms no_doms k f p = tt
    kept-doms (more_doms d ds) k f p = both (dom_constants d) (doms_constants ds) _ _ (kept-dom d k f.0) (kept-doms ds k f.1) p

    -- The conditions of a term.
    pub asked : (e : Ex) (k : Names Origin) (w i : Bool) → LiteralsFit i e → Tree i e → InEach (C k w e)
    asked (number_ex n) k w i f p = tt
    asked (truth_ex b) k w i f p = tt
    asked (name_ex a) k w i f p = tt
    asked (node_ex b op es) k w i f p = R.in-choose P p0 p1 (b || connects op) _
        (node-asked (passes natural x y w op) w i b op es k f.0
        (asked-all es k (passes natural x y w op) (drops_items op) f.1 (operands i b op es p))
        (kept-all es k (drops_items op) f.1 (operands i b op es p)) (outside-all es k (drops_items op) f.1 (operands i b op es p))
        (node-kept i b op es k (kept-all es k (drops_items op) f.1) p))
    asked (matrix_ex es d) k w i f p =
        let q = each-left (one_to (operand_count es) ++ operand_constants false es) (dom_constants d) P p in
        let r = each-right (one_to (operand_count es) ++ operand_constants false es) (dom_constants d) P p in
        in-append (Cs k false es) _
        (asked-all es k false false f.0 (each-right (one_to (operand_count es)) (operand_constants false es) P q))
        (in-append (conditions_dom natural x y k d) _ (asked-dom d k f.1 r)
        (O.matrix-in P p0 p1 x es (guarded_dom natural x y k d) (each-left (one_to (operand_count es)) (operand_constants false es) P q)
        (kept-dom d k f.1 r)))
    asked (comp_ex e gs) k w i f p =
        asked-gens gs k (C (known_behind gs k) false e) f.1 (each-right (tree_constants false e) (gens_constants gs) P p)
        (asked e (known_behind gs k) false false f.0 (each-left (tree_constants false e) (gens_constants gs) P p))
    asked (cell_ex true n es) k w i f p = tt
    asked (cell_ex false n es) k w i f p = asked-all es k false false f p
    asked (seen_ex r d ns es) k w i f p = tt

    -- The same of operands.
    pub asked-all : (es : Exs) (k : Names Origin) (w i : Bool) → AllLiteralsFit i es → Trees i es → InEach (Cs k w es)
    asked-all no_exs k w i f p = tt
    asked-all (more_exs e es) k w i f p =
        both-asked (tree_constants i e) (operand_constants i es) (C k w e) (Cs k w es) (asked e k w i f.0) (asked-all es k w i f.1) p

    -- The same of generators.
    pub asked-gens : (gs : Gens) (k : Names Origin) (cs : List Ex) → GensLiteralsFit gs → InGens gs → InEach cs →
        InEach (conditions_gens natural x y k gs cs)
    asked-gens no_gens k cs f p q = q
    asked-gens (over p d gs) k cs f t q =
        let a = each-left (dom_constants d) (gens_constants gs) P t in
        in-append (conditions_dom natural x y k d) _ (asked-dom d k f.0 a)
        (R.every-in P p0 p1 (over p (guarded_dom natural x y k d) no_gens) (conditions_gens natural x y (with_over p d k) gs cs)
        (each-append (dom_constants (guarded_dom natural x y k d)) [] P (kept-dom d k f.0 a) tt)
        (asked-gens gs (with_over p d k) cs f.1 (each-right (dom_constants d) (gens_constants gs) P t) q))
    asked-gens (from p e gs) k cs f t q =
        let a = each-left (tree_constants false e) (gens_constants gs) P t in
        in-append (C k false e) _ (asked e k false false f.0 a)
        (R.every-in P p0 p1 (from p (G k e) no_gens) (conditions_gens natural x y (with_any p k) gs cs)
        (each-append (tree_constants false (G k e)) [] P (kept e k false f.0 a) tt)
        (asked-gens gs (with_any p k) cs f.1 (each-right (tree_constants false e) (gens_constants gs) P t) q))
    asked-gens (cond c gs) k cs f t q =
        R.given-in P p0 p1 (G k c) (conditions_gens natural x y k gs cs)
        (kept c k false f.0 (each-left (tree_constants false c) (gens_constants gs) P t))
        (asked-gens gs k cs f.1 (each-right (tree_constants false c) (gens_constants gs) P t) q)

    -- The same of a domain.
    pub asked-dom : (d : Dom) (k : Names Origin) → DomLiteralsFit d → InDom d → InEach (conditions_dom natural x y k d)
    asked-dom bool_dom k f p = tt
    asked-dom (int_dom rs es) k f p = asked-all es k false false f p
    asked-dom (name_dom a) k f p = tt
    asked-dom (tuple_dom ds) k f p = asked-doms ds k f p
    asked-dom (record_dom fs ds) k f p = asked-doms ds k f p
    asked-dom (matrix_dom is d) k f p = both-asked (doms_constants is) (dom_constants d) _ _ (asked-doms is k f.0) (asked-dom d k f.1) p
    asked-dom (set_dom ms es d) k f p =
        both-asked (operand_constants false es) (dom_constants d) _ _ (asked-all es k false false f.0) (asked-dom d k f.1) p
    asked-dom (mset_dom ms es d) k f p =
        both-asked (operand_constants false es) (dom_constants d) _ _ (asked-all es k false false f.0) (asked-dom d k f.1) p
    asked-dom (function_dom ms es d c) k f p =
        let q = each-left (operand_constants false es ++ dom_constants d) (dom_constants c) P p in
        in-append (Cs k false es) _ (asked-all es k false false f.0 (each-left (operand_constants false es) (dom_constants d) P q))
        (in-append (conditions_dom natural x y k d) (conditions_dom natural x y k c)
        (asked-dom d k f.1 (each-right (operand_constants false es) (dom_constants d) P q))
        (asked-dom c k f.2 (each-right (operand_constants false es ++ dom_constants d) (dom_constants c) P p)))
    asked-dom (relation_dom ms es ds) k f p =
        both-asked (operand_constants false es) (doms_constants ds) _ _ (asked-all es k false false f.0) (asked-doms ds k f.1) p
    asked-dom (partition_dom ms es d) k f p =
        both-asked (operand_constants false es) (dom_constants d) _ _ (asked-all es k false false f.0) (asked-dom d k f.1) p

    -- The same of several domains.
    pub asked-doms : (ds : Doms) (k : Names Origin) → DomsLiteralsFit ds → InDoms ds → InEach (conditions_doms natural x y k ds)
    asked-doms no_doms k f p = tt
    asked-doms (more_doms d ds) k f p = both-asked (dom_constants d) (doms_constants ds) _ _ (asked-dom d k f.0) (asked-doms ds k f.1) p
