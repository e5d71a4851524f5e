-- Told apart, a tree over ranges spells the same numbers and binds as many names, and takes no more reserved names than it binds.
use Rattle.std.proofs.Common.{◌≡◌, refl, sym, ap, ◌∙◌, ℕ, suc, ◌+◌, Bool, true, false, if◌then◌else◌, List, [], ◌∷◌, ◌++◌, map, ℤ, arith}
use Rattle.ess_semantics.specs.Values.{Text}
use Rattle.ess_semantics.specs.Names.{Names}
use Rattle.ess_semantics.specs.Trees.{unary, binary, word, both_ends, name_pat, Ex, Exs, number_ex, truth_ex, name_ex, node_ex, matrix_ex, comp_ex, cell_ex, seen_ex, no_exs, more_exs, Gens, no_gens, over, from, cond, Dom, bool_dom, int_dom}
use Rattle.ess_semantics.specs.Lists.{append_all}
use Rattle.ess_semantics.specs.Occurrences.{parts_of, parts_of_all, parts_of_gens, parts_of_dom}
use Rattle.ess_semantics.specs.Constants.{numbers_of_part, drops_items, tree_constants, operand_constants, gens_constants, dom_constants}
use Rattle.conjure_model_laws.specs.ToldApart.{reserved, told, told_all, told_gens, told_dom}
use Rattle.conjure_model_laws.specs.Printed.{binders, binders_of_all, binders_of_gens, binders_of_dom}
use Rattle.ess_bare_structures_laws.proofs.Ranged.{Ranged, AllRanged, RangedGens, RangedDom}

-- The tree y with the next number n is told of the tree with b binders, from k on.
pub record Counted (b c n k : ℕ) : Type 0 where
  pub same : c ≡ b
  pub next : n ≡ k + b

none-more : (k : ℕ) → Counted 0 0 k k
none-more k = record { same = refl; next = omega arith }

-- One behind the other.
both-more : (a b c d k m n : ℕ) → Counted a c m k → Counted b d n m → Counted (a + b) (c + d) n k
both-more a b c d k m n x y = record { same = omega (arith, x.same, y.same); next = omega (arith, x.next, y.next) }

turned-more : (a b c d k m n : ℕ) → Counted a c m k → Counted b d n m → Counted (b + a) (d + c) n k
turned-more a b c d k m n x y = record { same = omega (arith, x.same, y.same); next = omega (arith, x.next, y.next) }

name-more : (a b c d k m n : ℕ) → Counted a c m k → Counted b d n (suc m) → Counted (suc (a + b)) (suc (c + d)) n k
name-more a b c d k m n x y = record { same = omega (arith, x.same, y.same); next = omega (arith, x.next, y.next) }

mutual
  pub told-counted : (e : Ex) → Ranged e → (u : Names Text) (k : ℕ) → Counted (binders e) (binders (told e u k).0) (told e u k).1 k
  told-counted (number_ex n) x u k = none-more k
  told-counted (truth_ex b) x u k = none-more k
  told-counted (name_ex a) x u k = none-more k
  told-counted (node_ex b (unary o) es) x u k = all-counted es x u k
  told-counted (node_ex b (binary o) es) x u k = all-counted es x u k
  told-counted (node_ex b (word f) es) x u k = all-counted es x u k
  told-counted (node_ex b op es) x u k = absurd x
  told-counted (matrix_ex es d) x u k = absurd x
  told-counted (comp_ex e gs) x u k =
      let q = told_gens gs u k in
      both-more (binders_of_gens gs) (binders e) (binders_of_gens q.0) (binders (told e q.1 q.2).0) k q.2 (told e q.1 q.2).1
      (gens-counted gs x.0 u k) (told-counted e x.1 q.1 q.2)
  told-counted (cell_ex b n es) x u k = all-counted es x u k
  told-counted (seen_ex r d ns es) x u k = absurd x

  all-counted : (es : Exs) → AllRanged es → (u : Names Text) (k : ℕ) →
      Counted (binders_of_all es) (binders_of_all (told_all es u k).0) (told_all es u k).1 k
  all-counted no_exs x u k = none-more k
  all-counted (more_exs e es) x u k =
      let q = told e u k in
      both-more (binders e) (binders_of_all es) (binders q.0) (binders_of_all (told_all es u q.1).0) k q.1 (told_all es u q.1).1
      (told-counted e x.0 u k) (all-counted es x.1 u q.1)

  gens-counted : (gs : Gens) → RangedGens gs → (u : Names Text) (k : ℕ) →
      Counted (binders_of_gens gs) (binders_of_gens (told_gens gs u k).0) (told_gens gs u k).2 k
  gens-counted no_gens x u k = none-more k
  gens-counted (over (name_pat a) d gs) x u k =
      let c = told_dom d u k in
      let v = told_gens gs ((a, reserved c.1) ∷ u) (suc c.1) in
      name-more (binders_of_dom d) (binders_of_gens gs) (binders_of_dom c.0) (binders_of_gens v.0) k c.1 v.2 (dom-counted d x.0 u k)
      (gens-counted gs x.1 ((a, reserved c.1) ∷ u) (suc c.1))
  gens-counted (over p d gs) x u k = absurd x
  gens-counted (from p e gs) x u k = absurd x
  gens-counted (cond e gs) x u k =
      let q = told e u k in
      both-more (binders e) (binders_of_gens gs) (binders q.0) (binders_of_gens (told_gens gs u q.1).0) k q.1 (told_gens gs u q.1).2
      (told-counted e x.0 u k) (gens-counted gs x.1 u q.1)

  dom-counted : (d : Dom) → RangedDom d → (u : Names Text) (k : ℕ) →
      Counted (binders_of_dom d) (binders_of_dom (told_dom d u k).0) (told_dom d u k).1 k
  dom-counted bool_dom x u k = none-more k
  dom-counted (int_dom (both_ends ∷ []) (more_exs a (more_exs b no_exs))) x u k =
      all-counted (more_exs a (more_exs b no_exs)) (x.0, (x.1, tt)) u k
  dom-counted d x u k = absurd x

-- ---- numbers

-- The numbers of parts.
abbrev pub numbers_in : List Ex → List ℤ
numbers_in es = append_all (map numbers_of_part es)

numbers-behind : (as' bs : List Ex) → numbers_in (as' ++ bs) ≡ numbers_in as' ++ numbers_in bs
numbers-behind [] bs = refl
numbers-behind (a ∷ as') bs =
    ap (λ x. numbers_of_part a ++ x) (numbers-behind as' bs) ∙ sym (assoc (numbers_of_part a) (numbers_in as') (numbers_in bs))
  where
    assoc : (x y z : List ℤ) → (x ++ y) ++ z ≡ x ++ (y ++ z)
    assoc [] y z = refl
    assoc (n ∷ x) y z = ap (λ w. n ∷ w) (assoc x y z)

lists-same : (as' bs : List Ex) (cs ds : List ℤ) → numbers_in as' ≡ cs → numbers_in bs ≡ ds → numbers_in (as' ++ bs) ≡ cs ++ ds
lists-same as' bs cs ds p q = numbers-behind as' bs ∙ ap (λ x. x ++ numbers_in bs) p ∙ ap (λ y. cs ++ y) q

-- A node that is no literal counts nothing.
none-counted : (i : Bool) (as' bs : List ℤ) → as' ≡ bs → as' ≡ (if i then [] else []) ++ bs
none-counted true as' bs h = h
none-counted false as' bs h = h

mutual
  -- Told apart, the tree has the numbers that it spells.
  pub told-spells : (e : Ex) → Ranged e → (i : Bool) (u : Names Text) (k : ℕ) → numbers_in (parts_of (told e u k).0) ≡ tree_constants i e
  told-spells (number_ex n) x i u k = refl
  told-spells (truth_ex b) x i u k = refl
  told-spells (name_ex a) x i u k = refl
  told-spells (node_ex b (unary o) es) x i u k = none-counted i _ _ (all-spell es x (drops_items (unary o)) u k)
  told-spells (node_ex b (binary o) es) x i u k = none-counted i _ _ (all-spell es x (drops_items (binary o)) u k)
  told-spells (node_ex b (word f) es) x i u k = none-counted i _ _ (all-spell es x (drops_items (word f)) u k)
  told-spells (node_ex b op es) x i u k = absurd x
  told-spells (matrix_ex es d) x i u k = absurd x
  told-spells (comp_ex e gs) x i u k =
      let q = told_gens gs u k in
      lists-same (parts_of (told e q.1 q.2).0) (parts_of_gens q.0) _ _ (told-spells e x.1 false q.1 q.2) (gens-spell gs x.0 u k)
  told-spells (cell_ex b n es) x i u k = all-spell es x false u k
  told-spells (seen_ex r d ns es) x i u k = absurd x

  all-spell : (es : Exs) → AllRanged es → (i : Bool) (u : Names Text) (k : ℕ) →
      numbers_in (parts_of_all (told_all es u k).0) ≡ operand_constants i es
  all-spell no_exs x i u k = refl
  all-spell (more_exs e es) x i u k =
      let q = told e u k in
      lists-same (parts_of q.0) (parts_of_all (told_all es u q.1).0) _ _ (told-spells e x.0 i u k) (all-spell es x.1 i u q.1)

  gens-spell : (gs : Gens) → RangedGens gs → (u : Names Text) (k : ℕ) →
      numbers_in (parts_of_gens (told_gens gs u k).0) ≡ gens_constants gs
  gens-spell no_gens x u k = refl
  gens-spell (over (name_pat a) d gs) x u k =
      let c = told_dom d u k in
      lists-same (parts_of_dom c.0) (parts_of_gens (told_gens gs ((a, reserved c.1) ∷ u) (suc c.1)).0) _ _ (dom-spells d x.0 u k)
      (gens-spell gs x.1 ((a, reserved c.1) ∷ u) (suc c.1))
  gens-spell (over p d gs) x u k = absurd x
  gens-spell (from p e gs) x u k = absurd x
  gens-spell (cond e gs) x u k =
      let q = told e u k in
      lists-same (parts_of q.0) (parts_of_gens (told_gens gs u q.1).0) _ _ (told-spells e x.0 false u k) (gens-spell gs x.1 u q.1)

  dom-spells : (d : Dom) → RangedDom d → (u : Names Text) (k : ℕ) → numbers_in (parts_of_dom (told_dom d u k).0) ≡ dom_constants d
  dom-spells bool_dom x u k = refl
  dom-spells (int_dom (both_ends ∷ []) (more_exs a (more_exs b no_exs))) x u k =
      all-spell (more_exs a (more_exs b no_exs)) (x.0, (x.1, tt)) false u k
  dom-spells d x u k = absurd x
