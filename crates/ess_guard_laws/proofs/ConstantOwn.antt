-- Row by row: the conditions of an operator spell constants of its operands.
use Rattle.std.proofs.Common.{◌≡◌, Bool, true, false, if◌then◌else◌, List, [], ◌∷◌, ◌++◌, ℤ, pos, Option, Some, None}
use Rattle.ess_semantics.specs.declared.words.Op2.{Op2}
use Rattle.ess_semantics.specs.declared.words.Fun.{Fun}
use Rattle.ess_semantics.specs.Values.{Text}
use Rattle.ess_semantics.specs.Names.{Names}
use Rattle.ess_semantics.specs.Numbers.{one_to}
use Rattle.ess_semantics.specs.Trees.{Step, by_value, to_component, to_field, Op, binary, word, index, tuple_literal, function_literal, partition_literal, matrix_literal, both_ends, name_pat, Ex, Exs, number_ex, truth_ex, name_ex, node_ex, matrix_ex, comp_ex, cell_ex, seen_ex, no_exs, more_exs, Gens, no_gens, over, from, Dom, int_dom, ex2, fun1}
use Rattle.ess_semantics.specs.Contexts.{Each}
use Rattle.ess_semantics.specs.Constants.{operand_count, drops_items, tree_constants, operand_constants, gens_constants, dom_constants}
use Rattle.ess_guard_laws.specs.Origins.{Origin, is_number, is_sure}
use Rattle.ess_guard_laws.specs.IndexDomains.{index_dom}
use Rattle.ess_guard_laws.specs.Conditions.{unless, nil_ex, as_number, is_not_zero, is_above_zero, power_conditions, has_items, has_item, some_item, is_argument, agree, have_other_arguments, agree_all, function_conditions, have_members, are_disjoint, is_single_set, partition_conditions, has_size, matrix_conditions, members_of, in_dom, at_step, index_conditions, path_conditions, own}
use Rattle.ess_guard_laws.proofs.ConstantRows as R
use Rattle.ess_guard_laws.proofs.ConstantRows.{each-append, each-left, each-right}

module _ (P : ℤ → Type 0) (p0 : P (pos 0)) (p1 : P (pos 1)) where
  abbrev Tree : Bool → Ex → Type 0
  Tree = R.Tree P p0 p1

  abbrev Trees : Bool → Exs → Type 0
  Trees = R.Trees P p0 p1

  abbrev InDom : Dom → Type 0
  InDom = R.InDom P p0 p1

  abbrev InEach : List Ex → Type 0
  InEach = R.InEach P p0 p1

  abbrev in-append : (cs ds : List Ex) → InEach cs → InEach ds → InEach (cs ++ ds)
  in-append = R.in-append P p0 p1

  abbrev in-unless : (t : Bool) (c : Ex) → (t ≡ false → Tree false c) → InEach (unless t c)
  in-unless = R.in-unless P p0 p1

  abbrev one : (i : Bool) (a : Ex) → Tree i a → Trees i (more_exs a no_exs)
  one = R.one-in P p0 p1

  abbrev two : (i : Bool) (a b : Ex) → Tree i a → Tree i b → Trees i (more_exs a (more_exs b no_exs))
  two = R.two-in P p0 p1

  abbrev first : (i : Bool) (e : Ex) (es : Exs) → Trees i (more_exs e es) → Tree i e
  first = R.first-in P p0 p1

  abbrev rest : (i : Bool) (e : Ex) (es : Exs) → Trees i (more_exs e es) → Trees i es
  rest = R.rest-in P p0 p1

  abbrev comp : (i : Bool) (e : Ex) (gs : Gens) → Tree false e → R.InGens P p0 p1 gs → Tree i (comp_ex e gs)
  comp = R.comp-in P p0 p1

  -- ---- numbers

  number-in : (k : Names Origin) (b : Ex) → Tree false b → Tree false (as_number k b)
  number-in k b q = go (is_number k b)
    where
      go : (t : Bool) → Tree false (if t then b else ex2 false Op2.Plus b nil_ex)
      go true = q
      go false = two false b nil_ex q (p0, tt)

  compared : (k : Names Origin) (b : Ex) → Tree false b → Trees false (more_exs (as_number k b) (more_exs nil_ex no_exs))
  compared k b q = two false (as_number k b) nil_ex (number-in k b q) (p0, tt)

  power-in : (k : Names Origin) (a b : Ex) → Tree false a → Tree false b → InEach (power_conditions k a b)
  power-in k a b q r = R.in-choose P p0 p1 (is_above_zero b) _ (
    compared k b r,
    in-unless (is_not_zero a) _
        (λ t. two false (ex2 true Op2.Ne (as_number k b) nil_ex) (ex2 true Op2.Ne (as_number k a) nil_ex) (compared k b r)
        (compared k a q)),
  )

  -- ---- items

  -- A term that stands outside of a fold, where its form doesn't tell an item.
  abbrev pub Outside : Ex → Type 0
  Outside e = has_items e ≡ false → Tree false e

  -- The same of operands.
  abbrev pub AllOutside : Exs → Type 0
  AllOutside no_exs = Unit {0}
  AllOutside (more_exs e es) = Outside e × AllOutside es

  from-item-in : (x : Text) (e : Ex) → Tree false e → Tree false (fun1 true Fun.Or (comp_ex (truth_ex true) (from (name_pat x) e no_gens)))
  from-item-in x e q = one true (comp_ex (truth_ex true) (from (name_pat x) e no_gens))
      (comp true (truth_ex true) (from (name_pat x) e no_gens) tt (each-append (tree_constants false e) [] P q tt))

  has-item-in : (x : Text) (e : Ex) → Tree false e → Tree false (has_item x e)
  has-item-in x (comp_ex e gs) q =
      one true (comp_ex (truth_ex true) gs) (comp true (truth_ex true) gs tt (each-right (tree_constants false e) (gens_constants gs) P q))
  has-item-in x (number_ex n) q = from-item-in x (number_ex n) q
  has-item-in x (truth_ex b) q = from-item-in x (truth_ex b) q
  has-item-in x (name_ex a) q = from-item-in x (name_ex a) q
  has-item-in x (node_ex b op es) q = from-item-in x (node_ex b op es) q
  has-item-in x (matrix_ex es d) q = from-item-in x (matrix_ex es d) q
  has-item-in x (cell_ex b n es) q = from-item-in x (cell_ex b n es) q
  has-item-in x (seen_ex r d ns es) q = from-item-in x (seen_ex r d ns es) q

  some-item-in : (x : Text) (e : Ex) → Outside e → InEach (some_item x e)
  some-item-in x e q = in-unless (has_items e) (has_item x e) (λ t. has-item-in x e (q t))

  -- ---- literals

  agree-in : (p q : Ex) → Tree false p → Tree false q → Tree false (agree p q)
  agree-in (node_ex false tuple_literal (more_exs a (more_exs b no_exs)))
      (node_ex false tuple_literal (more_exs c (more_exs d no_exs))) m l =
      two false (ex2 true Op2.Eq a c) (ex2 true Op2.Eq b d)
      (two false a c (first false a (more_exs b no_exs) m) (first false c (more_exs d no_exs) l))
      (two false b d (first false b no_exs (rest false a (more_exs b no_exs) m))
      (first false d no_exs (rest false c (more_exs d no_exs) l)))
  agree-in p q m l = tt

  agree-all-in : (p : Ex) (qs : Exs) → Tree false p → Trees false qs → InEach (agree_all p qs)
  agree-all-in p no_exs m l = tt
  agree-all-in p (more_exs q qs) m l =
      in-append (unless (have_other_arguments p q) (agree p q)) (agree_all p qs)
      (in-unless (have_other_arguments p q) (agree p q) (λ t. agree-in p q m (first false q qs l)))
      (agree-all-in p qs m (rest false q qs l))

  function-in : (ps : Exs) → Trees false ps → InEach (function_conditions ps)
  function-in no_exs m = tt
  function-in (more_exs p ps) m =
      in-append (agree_all p ps) (function_conditions ps) (agree-all-in p ps (first false p ps m) (rest false p ps m))
      (function-in ps (rest false p ps m))

  members-in : (x : Text) (es : Exs) → Trees false es → InEach (have_members x es)
  members-in x no_exs m = tt
  members-in x (more_exs e es) m =
      in-append (some_item x e) (have_members x es) (some-item-in x e (λ t. first false e es m)) (members-in x es (rest false e es m))

  disjoint-in : (x y : Text) (es : Exs) → Each (one_to (operand_count es)) P → Trees false es → Tree false (are_disjoint x y es)
  disjoint-in x y es n m =
      one true (comp_ex (name_ex x) (from (name_pat y) (node_ex false matrix_literal es) (from (name_pat x) (name_ex y) no_gens)))
      (comp true (name_ex x) (from (name_pat y) (node_ex false matrix_literal es) (from (name_pat x) (name_ex y) no_gens)) tt
      (each-append (tree_constants false (node_ex false matrix_literal es)) [] P
      (each-append (one_to (operand_count es)) (operand_constants false es) P n m) tt))

  partition-in : (x y : Text) (es : Exs) → Each (one_to (operand_count es)) P → Trees false es → InEach (partition_conditions x y es)
  partition-in x y es n m =
      in-append (have_members x es) _ (members-in x es m) (in-unless (is_single_set es) (are_disjoint x y es) (λ t. disjoint-in x y es n m))

  -- The condition of a matrix literal.
  pub matrix-in : (x : Text) (es : Exs) (d : Dom) → Each (one_to (operand_count es)) P → InDom d → InEach (matrix_conditions x es d)
  matrix-in x es d n m = in-unless (has_size d (operand_count es)) _
      (λ t. two false (fun1 false Fun.Sum (comp_ex (number_ex (pos 1)) (over (name_pat x) d no_gens))) (number_ex (pos (operand_count es)))
      (one true (comp_ex (number_ex (pos 1)) (over (name_pat x) d no_gens))
      (comp true (number_ex (pos 1)) (over (name_pat x) d no_gens) (p1, tt) (each-append (dom_constants d) [] P m tt)))
      (R.count-in P p0 p1 (operand_count es) n, tt))

  -- ---- indices

  in-dom-in : (x : Text) (i : Ex) (d : Dom) → Tree false i → InDom d → Tree false (in_dom x i d)
  in-dom-in x i (int_dom (both_ends ∷ []) (more_exs a (more_exs b no_exs))) m l =
      two false (ex2 true Op2.Le (as_number [] a) i) (ex2 true Op2.Le i (as_number [] b))
      (two false (as_number [] a) i (number-in [] a (first false a (more_exs b no_exs) l)) m)
      (two false i (as_number [] b) m (number-in [] b (first false b no_exs (rest false a (more_exs b no_exs) l))))
  in-dom-in x i d m l = two false i (members_of x d) m (one false (comp_ex (name_ex x) (over (name_pat x) d no_gens))
      (comp false (name_ex x) (over (name_pat x) d no_gens) tt (each-append (dom_constants d) [] P l tt)))

  one-index-in : (k : Names Origin) (x : Text) (d : Option Dom) (m i : Ex) → R.OptDom P p0 p1 d → Tree false m → Tree false i →
      InEach (index_conditions k x d m i)
  one-index-in k x (Some d) m i h p q = in-unless (is_sure k i d) (in_dom x i d) (λ t. in-dom-in x i d q h)
  one-index-in k x None m i h p q = (
    two false (at_step by_value m (more_exs i no_exs)) (at_step by_value m (more_exs i no_exs)) (two false m i p q) (two false m i p q),
    tt,
  )

  path-in : (k : Names Origin) (x : Text) (m : Ex) (qs : List Step) (is : Exs) → Tree false m → Trees false is →
      InEach (path_conditions k x m qs is)
  path-in k x m [] is h l = tt
  path-in k x m (by_value ∷ qs) no_exs h l = tt
  path-in k x m (by_value ∷ qs) (more_exs i is) h l =
      in-append (index_conditions k x (index_dom m) m i) _
      (one-index-in k x (index_dom m) m i (R.index-dom-in P p0 p1 m h) h (first false i is l))
      (path-in k x (at_step by_value m (more_exs i no_exs)) qs is (two false m i h (first false i is l)) (rest false i is l))
  path-in k x m (to_component c ∷ qs) is h l = path-in k x (at_step (to_component c) m no_exs) qs is (one false m h) l
  path-in k x m (to_field a ∷ qs) is h l = path-in k x (at_step (to_field a) m no_exs) qs is (one false m h) l

  -- ---- all operators

  -- The number of parts of a partition literal is counted.
  abbrev pub PartsCount : Op → Exs → Type 0
  PartsCount partition_literal es = Each (one_to (operand_count es)) P
  PartsCount op es = Unit {0}

  -- The conditions of an operator itself.
  pub own-in : (k : Names Origin) (x y : Text) (op : Op) (es : Exs) → Trees (drops_items op) es → AllOutside es → PartsCount op es →
      InEach (own k x y op es)
  own-in k x y (binary Op2.Div) (more_exs a (more_exs b no_exs)) m u n =
      in-unless (is_not_zero b) _ (λ t. compared k b (first false b no_exs (rest false a (more_exs b no_exs) m)))
  own-in k x y (binary Op2.Mod) (more_exs a (more_exs b no_exs)) m u n =
      in-unless (is_not_zero b) _ (λ t. compared k b (first false b no_exs (rest false a (more_exs b no_exs) m)))
  own-in k x y (binary Op2.Pow) (more_exs a (more_exs b no_exs)) m u n =
      power-in k a b (first false a (more_exs b no_exs) m) (first false b no_exs (rest false a (more_exs b no_exs) m))
  own-in k x y (word Fun.Min) (more_exs e no_exs) m u n = some-item-in x e u.0
  own-in k x y (word Fun.Max) (more_exs e no_exs) m u n = some-item-in x e u.0
  own-in k x y (word Fun.Image) (more_exs f (more_exs a no_exs)) m u n = in-unless (is_argument k f a) _
      (λ t. two false a (fun1 false Fun.Defined f) (first false a no_exs (rest false f (more_exs a no_exs) m))
      (one false f (first false f (more_exs a no_exs) m)))
  own-in k x y (word Fun.Party) (more_exs a (more_exs p no_exs)) m u n = (
    two false a (fun1 false Fun.Participants p) (first false a (more_exs p no_exs) m)
        (one false p (first false p no_exs (rest false a (more_exs p no_exs) m))),
    tt,
  )
  own-in k x y function_literal es m u n = function-in es m
  own-in k x y partition_literal es m u n = partition-in x y es n m
  own-in k x y (index qs) (more_exs e is) m u n = path-in k x e qs is (first false e is m) (rest false e is m)
  own-in k x y op es m u n = tt
