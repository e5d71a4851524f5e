-- An operator's own conditions spell numbers of its operands, 0 and 1, and the number of items of a counted literal.
use Rattle.std.proofs.Common.{◌≡◌, refl, subst, ℕ, zero, suc, ◌+◌, Bool, true, false, if◌then◌else◌, List, [], ◌∷◌, ◌++◌, ℤ, pos, Option, Some, None, arith}
use Rattle.ess_semantics.specs.declared.words.Fun.{Fun}
use Rattle.ess_semantics.specs.Numbers.{run_from, one_to}
use Rattle.ess_semantics.specs.Trees.{Step, by_value, index, matrix_literal, Ex, Exs, number_ex, node_ex, matrix_ex, comp_ex, seen_ex, no_exs, more_exs, Gens, Dom, bool_dom, int_dom, name_dom, matrix_dom, more_doms, fun1}
use Rattle.ess_semantics.specs.Contexts.{Each}
use Rattle.ess_semantics.specs.Constants.{operand_count, tree_constants, operand_constants, gens_constants, dom_constants, doms_constants}
use Rattle.ess_guard_laws.specs.IndexDomains.{item_dom, dom_behind, dom_followed, first_index, are_plain_bounds, plain_axis, index_dom}
use Rattle.ess_guard_laws.specs.Conditions.{conds, chained, summed, all_of, every, given_that, unless}

-- Both lists are so.
pub each-append : {A : Type 0} (xs ys : List A) (P : A → Type 0) → Each xs P → Each ys P → Each (xs ++ ys) P
each-append [] ys P p q = q
each-append (x ∷ xs) ys P p q = (p.0, each-append xs ys P p.1 q)

-- The first list is so.
pub each-left : {A : Type 0} (xs ys : List A) (P : A → Type 0) → Each (xs ++ ys) P → Each xs P
each-left [] ys P p = tt
each-left (x ∷ xs) ys P p = (p.0, each-left xs ys P p.1)

-- The second is.
pub each-right : {A : Type 0} (xs ys : List A) (P : A → Type 0) → Each (xs ++ ys) P → Each ys P
each-right [] ys P p = p
each-right (x ∷ xs) ys P p = each-right xs ys P p.1

-- P holds of each constant. It holds of 0 and 1.
module _ (P : ℤ → Type 0) (p0 : P (pos 0)) (p1 : P (pos 1)) where
  -- The constants of a tree, which stands inside a fold or not.
  abbrev pub Tree : Bool → Ex → Type 0
  Tree i e = Each (tree_constants i e) P

  -- Those of operands.
  abbrev pub Trees : Bool → Exs → Type 0
  Trees i es = Each (operand_constants i es) P

  -- Those of generators.
  abbrev pub InGens : Gens → Type 0
  InGens gs = Each (gens_constants gs) P

  -- Those of a domain.
  abbrev pub InDom : Dom → Type 0
  InDom d = Each (dom_constants d) P

  -- Those of conditions.
  abbrev pub InEach : List Ex → Type 0
  InEach [] = Unit {0}
  InEach (c ∷ cs) = Tree false c × InEach cs

  -- Both lists.
  pub in-append : (cs ds : List Ex) → InEach cs → InEach ds → InEach (cs ++ ds)
  in-append [] ds p q = q
  in-append (c ∷ cs) ds p q = (p.0, in-append cs ds p.1 q)

  -- One condition, or none.
  pub in-unless : (t : Bool) (c : Ex) → (t ≡ false → Tree false c) → InEach (unless t c)
  in-unless true c p = tt
  in-unless false c p = (p refl, tt)

  -- Conditions that are asked, or none.
  pub in-choose : (t : Bool) (cs : List Ex) → InEach cs → InEach (if t then [] else cs)
  in-choose true cs p = tt
  in-choose false cs p = p

  -- ---- operands

  -- One operand.
  pub one-in : (i : Bool) (a : Ex) → Tree i a → Trees i (more_exs a no_exs)
  one-in i a p = each-append (tree_constants i a) [] P p tt

  -- Several.
  pub more-in : (i : Bool) (e : Ex) (es : Exs) → Tree i e → Trees i es → Trees i (more_exs e es)
  more-in i e es p q = each-append (tree_constants i e) (operand_constants i es) P p q

  -- Two.
  pub two-in : (i : Bool) (a b : Ex) → Tree i a → Tree i b → Trees i (more_exs a (more_exs b no_exs))
  two-in i a b p q = more-in i a (more_exs b no_exs) p (one-in i b q)

  -- The first of several.
  pub first-in : (i : Bool) (e : Ex) (es : Exs) → Trees i (more_exs e es) → Tree i e
  first-in i e es p = each-left (tree_constants i e) (operand_constants i es) P p

  -- Those behind it.
  pub rest-in : (i : Bool) (e : Ex) (es : Exs) → Trees i (more_exs e es) → Trees i es
  rest-in i e es p = each-right (tree_constants i e) (operand_constants i es) P p

  -- A comprehension.
  pub comp-in : (i : Bool) (e : Ex) (gs : Gens) → Tree false e → InGens gs → Tree i (comp_ex e gs)
  comp-in i e gs p q = each-append (tree_constants false e) (gens_constants gs) P p q

  -- ---- what is built of conditions

  conds-in : (cs : List Ex) → InEach cs → InGens (conds cs)
  conds-in [] p = tt
  conds-in (c ∷ cs) p = each-append (tree_constants false c) (gens_constants (conds cs)) P p.0 (conds-in cs p.1)

  or-in : (i : Bool) (e : Ex) → Tree true e → Tree i (fun1 true Fun.Or e)
  or-in true e p = one-in true e p
  or-in false e p = one-in true e p

  sum-in : (i : Bool) (e : Ex) → Tree true e → Tree i (fun1 false Fun.Sum e)
  sum-in true e p = one-in true e p
  sum-in false e p = one-in true e p

  -- A Boolean under conditions, outside of folds.
  pub chained-in : (i : Bool) (cs : List Ex) (b : Ex) → InEach cs → Tree false b → Tree i b → Tree i (chained cs b)
  chained-in i [] b p q r = r
  chained-in i (c ∷ cs) b p q r = or-in i (comp_ex b (conds (c ∷ cs))) (comp-in true b (conds (c ∷ cs)) q (conds-in (c ∷ cs) p))

  -- A number under conditions.
  pub summed-in : (cs : List Ex) (b : Ex) → InEach cs → Tree false b → Tree false (summed cs b)
  summed-in [] b p q = q
  summed-in (c ∷ cs) b p q = sum-in false (comp_ex b (conds (c ∷ cs))) (comp-in true b (conds (c ∷ cs)) q (conds-in (c ∷ cs) p))

  -- That all conditions hold.
  pub all-of-in : (cs : List Ex) → InEach cs → Tree false (all_of cs)
  all-of-in [] p = tt
  all-of-in (c ∷ []) p = p.0
  all-of-in (c ∷ d ∷ cs) p = let q = all-of-in (d ∷ cs) p.1 in chained-in false (c ∷ []) (all_of (d ∷ cs)) (p.0, tt) q q

  -- Conditions at each binding.
  pub every-in : (g : Gens) (cs : List Ex) → InGens g → InEach cs → InEach (every g cs)
  every-in g [] p q = tt
  every-in g (c ∷ cs) p q = (one-in true (comp_ex (all_of (c ∷ cs)) g) (comp-in true (all_of (c ∷ cs)) g (all-of-in (c ∷ cs) q) p), tt)

  -- Conditions behind another one.
  pub given-in : (b : Ex) (cs : List Ex) → Tree false b → InEach cs → InEach (given_that b cs)
  given-in b [] p q = tt
  given-in b (c ∷ cs) p q = (two-in false b (all_of (c ∷ cs)) p (all-of-in (c ∷ cs) q), tt)

  -- ---- counts

  last-in : (a n : ℕ) → Each (run_from a (suc n)) P → P (pos (a + n))
  last-in a zero p = subst (λ k. P (pos k)) (no-more a) p.0
    where
      no-more : (a : ℕ) → a ≡ a + 0
      no-more a = omega arith
  last-in a (suc n) p = subst (λ k. P (pos k)) (one-on a n) (last-in (suc a) n p.1)
    where
      one-on : (a n : ℕ) → suc a + n ≡ a + suc n
      one-on a n = omega arith

  -- The number of items of a literal.
  pub count-in : (n : ℕ) → Each (one_to n) P → P (pos n)
  count-in zero p = p0
  count-in (suc n) p = subst (λ k. P (pos k)) (one-more n) (last-in 1 n p)
    where
      one-more : (n : ℕ) → 1 + n ≡ suc n
      one-more n = omega arith

  -- ---- index domains

  -- Those of a domain that may be there.
  abbrev pub OptDom : Option Dom → Type 0
  OptDom None = Unit {0}
  OptDom (Some d) = InDom d

  item-in : (o : Option Dom) → OptDom o → OptDom (item_dom o)
  item-in (Some (matrix_dom (more_doms i (more_doms j is)) d)) p = each-append (doms_constants (more_doms j is)) (dom_constants d) P
      (each-right (dom_constants i) (doms_constants (more_doms j is)) P
      (each-left (doms_constants (more_doms i (more_doms j is))) (dom_constants d) P p))
      (each-right (doms_constants (more_doms i (more_doms j is))) (dom_constants d) P p)
  item-in o p = tt

  behind-in : (o : Option Dom) (qs : List Step) (is : Exs) → OptDom o → OptDom (dom_behind o qs is)
  behind-in o [] no_exs p = p
  behind-in o (by_value ∷ qs) (more_exs i is) p = behind-in (item_dom o) qs is (item-in o p)
  behind-in o qs is p = tt

  followed-in : (m : Ex) → Tree false m → OptDom (dom_followed m)
  followed-in (seen_ex r d ns es) p = each-left (dom_constants d) (operand_constants false es) P p
  followed-in (node_ex false (index qs) (more_exs m is)) p = behind-in (dom_followed m) qs is (followed-in m (first-in false m is p))
  followed-in m p = tt

  first-index-in : (o : Option Dom) → OptDom o → OptDom (first_index o)
  first-index-in (Some (matrix_dom (more_doms i is) d)) p =
      each-left (dom_constants i) (doms_constants is) P (each-left (doms_constants (more_doms i is)) (dom_constants d) P p)
  first-index-in o p = tt

  plain-in : (o : Option Dom) → OptDom o → OptDom (plain_axis o)
  plain-in (Some bool_dom) p = p
  plain-in (Some (int_dom rs es)) p = go (are_plain_bounds es)
    where
      go : (t : Bool) → OptDom (if t then Some (int_dom rs es) else None)
      go true = p
      go false = tt
  plain-in (Some (name_dom a)) p = p
  plain-in o p = tt

  -- Those of the index domain of a term.
  pub index-dom-in : (m : Ex) → Tree false m → OptDom (index_dom m)
  index-dom-in (node_ex false matrix_literal es) p =
      (p1, (count-in (operand_count es) (each-left (one_to (operand_count es)) (operand_constants false es) P p), tt))
  index-dom-in (matrix_ex es d) p = each-right (one_to (operand_count es) ++ operand_constants false es) (dom_constants d) P p
  index-dom-in (comp_ex e gs) p = (
    p1,
    one-in false (fun1 false Fun.Sum (comp_ex (number_ex (pos 1)) gs))
        (sum-in false (comp_ex (number_ex (pos 1)) gs)
        (comp-in true (number_ex (pos 1)) gs (p1, tt) (each-right (tree_constants false e) (gens_constants gs) P p))),
  )
  index-dom-in m p = plain-in (first_index (dom_followed m)) (first-index-in (dom_followed m) (followed-in m p))
