-- Trees of numbers, truth values and names, and that resolving leaves their numbers as they are.
use Rattle.std.proofs.Common.{◌≡◌, refl, sym, ap, ◌∙◌, Bool, true, false, ◌&&◌, List, [], ◌∷◌, ◌++◌, map, ℤ, Option, Some}
use Rattle.ess_semantics.specs.declared.words.Fun.{Fun}
use Rattle.ess_semantics.specs.Lists.{append_all}
use Rattle.ess_semantics.specs.Values.{a_function}
use Rattle.ess_semantics.specs.Names.{Names}
use Rattle.ess_semantics.specs.Trees.{Op, unary, binary, word, index, application, Ex, Exs, number_ex, truth_ex, name_ex, node_ex, matrix_ex, comp_ex, cell_ex, seen_ex, no_exs, more_exs, Gens, no_gens, over, from, cond, Dom, bool_dom, int_dom, Stm, given, needs, find, such_that, minimise, maximise}
use Rattle.ess_semantics.specs.Types.{Ty, compound2, type_of_dom, bind_types}
use Rattle.ess_semantics.specs.Typing.{Static, source_ty, type_of, types_of, statics}
use Rattle.ess_semantics.specs.Resolving.{resolved_op, resolved_node, resolve, resolve_exs, resolve_gens, resolve_dom}
use Rattle.ess_semantics.proofs.Tests.{and-left, and-right, and-both}
use Rattle.ess_flat_models_laws.proofs.FlatValues.{AllNumbers, NumbersOfAll}

-- No test is both.
pub no : false ≡ true → ⊥
no e = cc

-- What is taken of each of several lists.
pub maps-append : {A B : Type 0} (g : A → List B) (xs ys : List A) → append_all (map g (xs ++ ys)) ≡ append_all (map g xs) ++ append_all
    (map g ys)
maps-append g [] ys = refl
maps-append g (x ∷ xs) ys = ap (λ l. g x ++ l) (maps-append g xs ys) ∙ assoc (g x) (append_all (map g xs)) (append_all (map g ys))
  where
    assoc : {B : Type 0} (as' bs cs : List B) → as' ++ (bs ++ cs) ≡ (as' ++ bs) ++ cs
    assoc [] bs cs = refl
    assoc (a ∷ as') bs cs = ap (λ l. a ∷ l) (assoc as' bs cs)

-- ---- trees of scalars

-- An operator of one or two scalars, or `toInt`.
abbrev pub is_simple_op : Op → Bool
is_simple_op (unary o) = true
is_simple_op (binary o) = true
is_simple_op (word Fun.ToInt) = true
is_simple_op op = false

abbrev mutual
  -- Whether a tree is built of numbers, truth values and names by these.
  pub is_simple : Ex → Bool
  is_simple (number_ex n) = true
  is_simple (truth_ex b) = true
  is_simple (name_ex a) = true
  is_simple (node_ex b op es) = is_simple_op op && are_simple es
  is_simple e = false

  -- The same of operands.
  pub are_simple : Exs → Bool
  are_simple no_exs = true
  are_simple (more_exs e es) = is_simple e && are_simple es

-- Whether the bounds of a domain are.
abbrev pub is_simple_dom : Dom → Bool
is_simple_dom bool_dom = true
is_simple_dom (int_dom rs es) = are_simple es
is_simple_dom d = false

module _ (Q : ℤ → Type 0) where
  -- The numbers of bounds.
  abbrev pub DomNumbers : Dom → Type 0
  DomNumbers (int_dom rs es) = NumbersOfAll Q es
  DomNumbers d = Unit {0}

  -- Those of a statement.
  abbrev pub NumbersAre : Stm → Type 0
  NumbersAre (given x d) = is_simple_dom d ≡ true → DomNumbers d
  NumbersAre (find x d) = is_simple_dom d ≡ true → DomNumbers d
  NumbersAre (needs e) = is_simple e ≡ true → AllNumbers Q e
  NumbersAre (such_that e) = is_simple e ≡ true → AllNumbers Q e
  NumbersAre (minimise e) = is_simple e ≡ true → AllNumbers Q e
  NumbersAre (maximise e) = is_simple e ≡ true → AllNumbers Q e
  NumbersAre s = Unit {0}

  -- ---- resolving

  op-resolved : (op : Op) (us : List (Option Ty)) → is_simple_op (resolved_op op us) ≡ true → is_simple_op op ≡ true
  op-resolved application (Some (compound2 a_function a b) ∷ u ∷ []) h = cc
  op-resolved application us h = h
  op-resolved op us h = h

  node-simple : (t : Option Ty) (op : Op) (es : Exs) (ss : List Static) (us : List (Option Ty)) →
      is_simple (resolved_node t op es ss us) ≡ true → (is_simple_op op ≡ true) × (are_simple es ≡ true)
  node-simple t (index qs) es ss us h = absurd (no h)
  node-simple t op es ss us h = (
    op-resolved op us (and-left (is_simple_op (resolved_op op us)) (are_simple es) h),
    and-right (is_simple_op (resolved_op op us)) (are_simple es) h,
  )

  node-numbers : (t : Option Ty) (op : Op) (es : Exs) (ss : List Static) (us : List (Option Ty)) →
      is_simple (resolved_node t op es ss us) ≡ true → NumbersOfAll Q es → AllNumbers Q (resolved_node t op es ss us)
  node-numbers t (index qs) es ss us h n = absurd (no h)
  node-numbers t op es ss us h n = n

  gens-resolved : (gs : Gens) (g : Names Ty) (k : Gens → Names Ty → Ex) → ((hs : Gens) (h : Names Ty) → is_simple (k hs h) ≡ false) →
      is_simple (resolve_gens gs g k) ≡ false
  gens-resolved no_gens g k f = f no_gens g
  gens-resolved (over p d gs) g k f =
      gens-resolved gs (bind_types p (type_of_dom d) g) (λ hs h. k (over p (resolve_dom d g) hs) h) (λ hs h. f (over p (resolve_dom d g) hs) h)
  gens-resolved (from p e gs) g k f =
      gens-resolved gs (bind_types p (source_ty e g) g) (λ hs h. k (from p (resolve e g) hs) h) (λ hs h. f (from p (resolve e g) hs) h)
  gens-resolved (cond e gs) g k f = gens-resolved gs g (λ hs h. k (cond (resolve e g) hs) h) (λ hs h. f (cond (resolve e g) hs) h)

  mutual
    -- A tree that is one when it is resolved is one before.
    pub simple-before : (e : Ex) (g : Names Ty) → is_simple (resolve e g) ≡ true → is_simple e ≡ true
    simple-before (number_ex n) g h = refl
    simple-before (truth_ex b) g h = refl
    simple-before (name_ex a) g h = refl
    simple-before (node_ex b op es) g h =
        let r = node-simple (type_of (node_ex b op es) g) op (resolve_exs es g) (statics es) (types_of es g) h in
        and-both (is_simple_op op) (are_simple es) r.0 (all-before es g r.1)
    simple-before (matrix_ex es d) g h = absurd (no h)
    simple-before (comp_ex e gs) g h =
        absurd (no (sym (gens-resolved gs g (λ hs h. comp_ex (resolve e h) hs) (λ hs h. refl)) ∙ h))
    simple-before (cell_ex b n es) g h = absurd (no h)
    simple-before (seen_ex r d ns es) g h = absurd (no h)

    -- The same of operands.
    pub all-before : (es : Exs) (g : Names Ty) → are_simple (resolve_exs es g) ≡ true → are_simple es ≡ true
    all-before no_exs g h = refl
    all-before (more_exs e es) g h =
        let a : Bool = is_simple (resolve e g) in
        let b : Bool = are_simple (resolve_exs es g) in
        and-both (is_simple e) (are_simple es) (simple-before e g (and-left a b h)) (all-before es g (and-right a b h))

  mutual
    -- Its numbers stay.
    pub numbers-resolved : (e : Ex) (g : Names Ty) → is_simple (resolve e g) ≡ true → AllNumbers Q e → AllNumbers Q (resolve e g)
    numbers-resolved (number_ex n) g h m = m
    numbers-resolved (truth_ex b) g h m = tt
    numbers-resolved (name_ex a) g h m = tt
    numbers-resolved (node_ex b op es) g h m =
        let r = node-simple (type_of (node_ex b op es) g) op (resolve_exs es g) (statics es) (types_of es g) h in
        node-numbers (type_of (node_ex b op es) g) op (resolve_exs es g) (statics es) (types_of es g) h (all-resolved es g r.1 m)
    numbers-resolved (matrix_ex es d) g h m = absurd (no h)
    numbers-resolved (comp_ex e gs) g h m =
        absurd (no (sym (gens-resolved gs g (λ hs h. comp_ex (resolve e h) hs) (λ hs h. refl)) ∙ h))
    numbers-resolved (cell_ex b n es) g h m = absurd (no h)
    numbers-resolved (seen_ex r d ns es) g h m = absurd (no h)

    -- The same of operands.
    pub all-resolved : (es : Exs) (g : Names Ty) → are_simple (resolve_exs es g) ≡ true → NumbersOfAll Q es → NumbersOfAll Q (resolve_exs es g)
    all-resolved no_exs g h m = tt
    all-resolved (more_exs e es) g h m =
        let a : Bool = is_simple (resolve e g) in
        let b : Bool = are_simple (resolve_exs es g) in
        (numbers-resolved e g (and-left a b h) m.0, all-resolved es g (and-right a b h) m.1)
