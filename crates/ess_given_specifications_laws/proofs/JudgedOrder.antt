-- Judged trees of a specification, resolved, are in order where order counts.
use Rattle.std.proofs.Common.{◌≡◌, refl, sym, ap, subst, Bool, true, false, ◌&&◌, ◌||◌, not, List, [], ◌∷◌, Option, Some, None, is_some}
use Rattle.ess_semantics.specs.Lists.{and_then, is_some_and}
use Rattle.ess_semantics.specs.Values.{Text, a_function}
use Rattle.ess_semantics.specs.Names.{Names}
use Rattle.ess_semantics.specs.Trees.{Step, by_value, to_component, to_field, Op, index, application, Ex, Exs, number_ex, truth_ex, name_ex, node_ex, matrix_ex, comp_ex, cell_ex, seen_ex, no_exs, more_exs, Gens, no_gens, over, from, cond}
use Rattle.ess_semantics.specs.Types.{Ty, compound2, type_of_dom}
use Rattle.ess_semantics.specs.Typing.{Static, a_number, a_name, static, statics, type_of, types_of, source_ty, type_behind, part_behind, path_ty}
use Rattle.ess_semantics.specs.Lettings.{is_record, field_steps}
use Rattle.ess_semantics.specs.NamesAt.{names_behind}
use Rattle.ess_semantics.specs.Scopes.{Scope, Asked, with_bound, every, every_operand, every_under, every_dom, is_fixed, mentions_finds}
use Rattle.ess_semantics.specs.ExpressionJudgements.{ex_fits, forgets_order, are_ordered, is_ordered_source, orders_fit, operands_fit, gens_fit, dom_orders_fit}
use Rattle.ess_semantics.specs.Resolving.{step_at, steps_from, kept_indices, resolved_op, resolved_node, resolve, resolve_exs}
use Rattle.ess_semantics.proofs.Tests.{and-left, and-right, and-both}
use Rattle.ess_types_laws.proofs.ResolvedTypes.{gens_resolved, comp-resolved}
use Rattle.ess_types_laws.proofs.ResolvedSteps.{kept-none}
use Rattle.ess_types_laws.proofs.FixedIndices.{Leads, node-leads, value-leads, component-leads, field-leads, value-flag}
use Rattle.conjure_laws.specs.PlainTrees.{Plain, PlainAll, PlainGens}
use Rattle.ess_chain_names_laws.specs.NamesHave.{NamesHave, AllNamesHave, GensNamesHave}
use Rattle.ess_given_conditions_laws.specs.InScope.{bound_as, is_fixed_in, fixed_behind}
use Rattle.ess_given_judged_laws.specs.JudgedGiven.{HasGivens}
use Rattle.ess_given_judged_laws.proofs.JudgedDomains.{fit, typed, fixed-in}
use Rattle.ess_given_judged_laws.proofs.JudgedGiven.{givens-over, givens-from}
use Rattle.ess_given_order_laws.specs.OrderInScope.{is_in_order_in, are_gens_in_order_in, is_ordered_in, are_ordered_in, are_gens_ordered_in}

-- ---- what is asked of operands

tail-asked : (q : Asked) (b : Bool) (bs : List Bool) (e : Ex) (es : Exs) (s : Scope) → every_operand q (b ∷ bs) (more_exs e es) s ≡ true →
    every_operand q bs es s ≡ true
tail-asked q true bs e es s h = h
tail-asked q false bs e es s h = and-right (every q e s) (every_operand q bs es s) h

head-asked : (q : Asked) (b : Bool) (bs : List Bool) (e : Ex) (es : Exs) (s : Scope) → b ≡ false →
    every_operand q (b ∷ bs) (more_exs e es) s ≡ true → every q e s ≡ true
head-asked q true bs e es s f h = cc
head-asked q false bs e es s f h = and-left (every q e s) (every_operand q bs es s) h

tail-fits : (c b : Bool) (bs : List Bool) (e : Ex) (es : Exs) (s : Scope) → operands_fit c (b ∷ bs) (more_exs e es) s ≡ true →
    operands_fit c bs es s ≡ true
tail-fits c true bs e es s h = h
tail-fits c false bs e es s h = and-right (orders_fit c e s) (operands_fit c bs es s) h

head-fits : (c b : Bool) (bs : List Bool) (e : Ex) (es : Exs) (s : Scope) → b ≡ false → operands_fit c (b ∷ bs) (more_exs e es) s ≡ true →
    orders_fit c e s ≡ true
head-fits c true bs e es s f h = cc
head-fits c false bs e es s f h = and-left (orders_fit c e s) (operands_fit c bs es s) h

some-there : {A B : Type 0} (o : Option A) (f : A → Option B) → is_some (and_then o f) ≡ true → is_some o ≡ true
some-there None f h = h
some-there (Some a) f h = refl

forgets-resolved : (op : Op) (us : List (Option Ty)) → forgets_order (resolved_op op us) ≡ forgets_order op
forgets-resolved application (Some (compound2 a_function a b) ∷ u ∷ []) = refl
forgets-resolved op us = refl

-- Behind generators: the scope there, in which what stands under them is asked, and what is fixed there.
record Behind (w : Text → Bool) (gs : Gens) (s : Scope) (v : Text → Bool) (k l : Scope → Bool) : Type 0 where
  scope : Scope
  types : scope.tys ≡ names_behind gs s.tys
  first : k scope ≡ true
  second : l scope ≡ true
  holds : HasGivens w scope v

module _ (t w : Text → Bool) where
  node-in-order : (u : Text → Bool) (T : Option Ty) (op : Op) (es : Exs) (ss : List Static) (us : List (Option Ty)) →
      is_in_order_in t u (resolved_node T op es ss us) ≡ true
  node-in-order u T (index qs) es ss us = refl
  node-in-order u T _ es ss us = refl

  -- ---- a comprehension that is ordered

  mutual
    source-in-order : (e : Ex) (s : Scope) (u : Text → Bool) → HasGivens w s u → every fit e s ≡ true → is_ordered_source e s ≡ true →
        NamesHave w (resolve e s.tys) → Plain (resolve e s.tys) → is_in_order_in t u (resolve e s.tys) ≡ true
    source-in-order (number_ex m) s u h a o n p = refl
    source-in-order (truth_ex b) s u h a o n p = refl
    source-in-order (name_ex x) s u h a o n p = refl
    source-in-order (node_ex b op es) s u h a o n p =
        node-in-order u (type_of (node_ex b op es) s.tys) op (resolve_exs es s.tys) (statics es) (types_of es s.tys)
    source-in-order (matrix_ex es d) s u h a o n p = refl
    source-in-order (comp_ex e gs) s u h a o n p =
        let nn = subst (NamesHave w) (comp-resolved e gs s.tys) n in
        let pp = subst Plain (comp-resolved e gs s.tys) p in
        subst (λ x. is_in_order_in t u x ≡ true) (sym (comp-resolved e gs s.tys))
        (gens-in-place gs s u h (every fit e) (and-right (ex_fits (comp_ex e gs) s) (every_under fit gs s (every fit e)) a) o nn.1 pp.1)
    source-in-order (cell_ex b m es) s u h a o n p = refl
    source-in-order (seen_ex r d ns es) s u h a o n p = refl

    gens-in-place : (gs : Gens) (s : Scope) (u : Text → Bool) → HasGivens w s u → (k : Scope → Bool) → every_under fit gs s k ≡ true →
        are_ordered gs s ≡ true → GensNamesHave w (gens_resolved gs s.tys) → PlainGens (gens_resolved gs s.tys) →
        are_gens_in_order_in t u (gens_resolved gs s.tys) ≡ true
    gens-in-place no_gens s u h k a o n p = refl
    gens-in-place (over x d gs) s u h k a o n p =
        let ty : Ty = type_of_dom d in let z : Scope = with_bound false x ty s in
        gens-in-place gs z (bound_as true x u) (givens-over w x ty s u h) k
        (and-right (every_dom fit d s && fit.of_generator d s && fit.of_pattern x ty s) (every_under fit gs z k) a) o n.2 p.1
    gens-in-place (from x e gs) s u h k a o n p =
        let ty : Ty = source_ty e s.tys in let z : Scope = with_bound (mentions_finds e s) x ty s in
        let b = is_fixed_in t u (resolve e s.tys) in let y : Text → Bool = bound_as b x u in
        let a1 = and-left (every fit e s) (fit.of_pattern x ty s) (and-left (every fit e s && fit.of_pattern x ty s)
        (every_under fit gs z k) a) in
        and-both (is_in_order_in t u (resolve e s.tys)) (are_gens_in_order_in t y (gens_resolved gs z.tys))
        (source-in-order e s u h a1 (and-left (is_ordered_source e s) (are_ordered gs z) o) n.1 p.0)
        (gens-in-place gs z y (givens-from w b x e ty s u h (λ q. fixed-in t w e s u h a1 q n.1 p.0)) k
        (and-right (every fit e s && fit.of_pattern x ty s) (every_under fit gs z k) a)
        (and-right (is_ordered_source e s) (are_ordered gs z) o)
        n.2 p.1)
    gens-in-place (cond c gs) s u h k a o n p =
        and-both (is_fixed_in t u (resolve c s.tys)) (are_gens_in_order_in t u (gens_resolved gs s.tys))
        (fixed-in t w c s u h (and-left (every fit c s) (every_under fit gs s k) a) (and-left (is_fixed c s) (are_ordered gs s) o) n.0 p.0)
        (gens-in-place gs s u h k (and-right (every fit c s) (every_under fit gs s k) a) (and-right (is_fixed c s) (are_ordered gs s) o)
        n.1 p.1)

  -- Where order counts.
  in-place : (e : Ex) (s : Scope) (u : Text → Bool) → HasGivens w s u → every fit e s ≡ true → orders_fit true e s ≡ true →
      NamesHave w (resolve e s.tys) → Plain (resolve e s.tys) → is_in_order_in t u (resolve e s.tys) ≡ true
  in-place (number_ex m) s u h a o n p = refl
  in-place (truth_ex b) s u h a o n p = refl
  in-place (name_ex x) s u h a o n p = refl
  in-place (node_ex b op es) s u h a o n p =
      node-in-order u (type_of (node_ex b op es) s.tys) op (resolve_exs es s.tys) (statics es) (types_of es s.tys)
  in-place (matrix_ex es d) s u h a o n p = refl
  in-place (comp_ex e gs) s u h a o n p =
      source-in-order (comp_ex e gs) s u h a (and-left (are_ordered gs s) (gens_fit true gs s (orders_fit true e)) o) n p
  in-place (cell_ex b m es) s u h a o n p = refl
  in-place (seen_ex r d ns es) s u h a o n p = refl

  -- ---- operands

  -- What is said of an operand that is asked, in a place where order counts or doesn't.
  abbrev EachOrdered : Scope → (Text → Bool) → Exs → Type 0
  EachOrdered s u no_exs = Unit {0}
  EachOrdered s u (more_exs e es) =
      ((c : Bool) → every fit e s ≡ true → orders_fit c e s ≡ true → NamesHave w (resolve e s.tys) → Plain (resolve e s.tys) →
      is_ordered_in t u (resolve e s.tys) ≡ true) × EachOrdered s u es

  all-ordered : (es : Exs) (s : Scope) (u : Text → Bool) (c : Bool) → HasGivens w s u → EachOrdered s u es →
      every_operand fit [] es s ≡ true → operands_fit (not c) [] es s ≡ true → AllNamesHave w (resolve_exs es s.tys) →
      PlainAll (resolve_exs es s.tys) → are_ordered_in t u (resolve_exs es s.tys) c ≡ true
  all-ordered no_exs s u c h g a o n p = refl
  all-ordered (more_exs e es) s u true h g a o n p = and-both (is_ordered_in t u (resolve e s.tys))
      (are_ordered_in t u (resolve_exs es s.tys) true)
      (g.0 false (and-left (every fit e s) (every_operand fit [] es s) a) (and-left (orders_fit false e s) (operands_fit false [] es s) o)
      n.0 p.0)
      (all-ordered es s u true h g.1 (and-right (every fit e s) (every_operand fit [] es s) a)
      (and-right (orders_fit false e s) (operands_fit false [] es s) o) n.1 p.1)
  all-ordered (more_exs e es) s u false h g a o n p =
      let a0 = and-left (every fit e s) (every_operand fit [] es s) a in
      let o0 = and-left (orders_fit true e s) (operands_fit true [] es s) o in
      and-both (is_in_order_in t u (resolve e s.tys) && is_ordered_in t u (resolve e s.tys))
      (are_ordered_in t u (resolve_exs es s.tys) false)
      (and-both (is_in_order_in t u (resolve e s.tys)) (is_ordered_in t u (resolve e s.tys)) (in-place e s u h a0 o0 n.0 p.0)
      (g.0 true a0 o0 n.0 p.0))
      (all-ordered es s u false h g.1 (and-right (every fit e s) (every_operand fit [] es s) a)
      (and-right (orders_fit true e s) (operands_fit true [] es s) o) n.1 p.1)

  -- One step of an index.
  step-ordered : (s : Scope) (u : Text → Bool) (T : Option Ty) (qs rs : List Step) (e : Ex) (es : Exs) →
      is_some (type_behind T (static e) (type_of e s.tys)) ≡ true →
      (is_some_and T is_record ≡ false → NamesHave w (resolve e s.tys) → Plain (resolve e s.tys) →
      is_in_order_in t u (resolve e s.tys) && is_ordered_in t u (resolve e s.tys) ≡ true) →
      (x : Step) → step_at T (static e) ≡ x →
      (AllNamesHave w (kept_indices qs rs es) → PlainAll (kept_indices qs rs es) → are_ordered_in t u (kept_indices qs rs es) false ≡
      true) →
      AllNamesHave w (kept_indices (by_value ∷ qs) (x ∷ rs) (more_exs (resolve e s.tys) es)) →
      PlainAll (kept_indices (by_value ∷ qs) (x ∷ rs) (more_exs (resolve e s.tys) es)) →
      are_ordered_in t u (kept_indices (by_value ∷ qs) (x ∷ rs) (more_exs (resolve e s.tys) es)) false ≡ true
  step-ordered s u T qs rs e es i k by_value r g n p =
      and-both (is_in_order_in t u (resolve e s.tys) && is_ordered_in t u (resolve e s.tys))
      (are_ordered_in t u (kept_indices qs rs es) false)
      (k (value-flag T (static e) (type_of e s.tys) r i) n.0 p.0) (g n.1 p.1)
  step-ordered s u T qs rs e es i k (to_component c) r g n p = g n p
  step-ordered s u T qs rs e es i k (to_field c) r g n p = g n p

  steps-ordered : (s : Scope) (u : Text → Bool) → HasGivens w s u → (T : Option Ty) (qs : List Step) (es : Exs) → Leads s.tys T qs es →
      EachOrdered s u es → every_operand fit (field_steps T qs (statics es) (types_of es s.tys)) es s ≡ true →
      operands_fit true (field_steps T qs (statics es) (types_of es s.tys)) es s ≡ true →
      AllNamesHave w (kept_indices qs (steps_from T qs (statics es) (types_of es s.tys)) (resolve_exs es s.tys)) →
      PlainAll (kept_indices qs (steps_from T qs (statics es) (types_of es s.tys)) (resolve_exs es s.tys)) →
      are_ordered_in t u (kept_indices qs (steps_from T qs (statics es) (types_of es s.tys)) (resolve_exs es s.tys)) false ≡ true
  steps-ordered s u h T [] es i g a o n p = all-ordered es s u false h g a o n p
  steps-ordered s u h T (by_value ∷ qs) no_exs i g a o n p = ap (λ xs. are_ordered_in t u xs false) (kept-none qs qs)
  steps-ordered s u h T (by_value ∷ qs) (more_exs e es) i g a o n p =
      let v : Option Ty = type_behind T (static e) (type_of e s.tys) in
      let bs : List Bool = field_steps v qs (statics es) (types_of es s.tys) in
      step-ordered s u T qs (steps_from v qs (statics es) (types_of es s.tys)) e (resolve_exs es s.tys)
      (some-there v (λ y. path_ty y qs (statics es) (types_of es s.tys)) (value-leads s.tys T qs e es i))
      (λ m nn pp. let a0 = head-asked fit (is_some_and T is_record) bs e es s m a in
      let o0 = head-fits true (is_some_and T is_record) bs e es s m o in
      and-both (is_in_order_in t u (resolve e s.tys)) (is_ordered_in t u (resolve e s.tys)) (in-place e s u h a0 o0 nn pp)
      (g.0 true a0 o0 nn pp))
      (step_at T (static e)) refl
      (steps-ordered s u h v qs es (value-leads s.tys T qs e es i) g.1 (tail-asked fit (is_some_and T is_record) bs e es s a)
      (tail-fits true (is_some_and T is_record) bs e es s o)) n p
  steps-ordered s u h T (to_component c ∷ qs) es i g a o n p =
      steps-ordered s u h (part_behind T (a_number c)) qs es (component-leads s.tys T c qs es i) g a o n p
  steps-ordered s u h T (to_field c ∷ qs) es i g a o n p =
      steps-ordered s u h (part_behind T (a_name c)) qs es (field-leads s.tys T c qs es i) g a o n p

  -- ---- the tree

  mutual
    pub judged-ordered : (e : Ex) (s : Scope) (u : Text → Bool) → HasGivens w s u → (c : Bool) → every fit e s ≡ true → orders_fit c e s ≡
        true →
        NamesHave w (resolve e s.tys) → Plain (resolve e s.tys) → is_ordered_in t u (resolve e s.tys) ≡ true
    judged-ordered (number_ex m) s u h c a o n p = refl
    judged-ordered (truth_ex b) s u h c a o n p = refl
    judged-ordered (name_ex x) s u h c a o n p = refl
    judged-ordered (node_ex b (index qs) no_exs) s u h c a o n p = refl
    judged-ordered (node_ex b (index qs) (more_exs e es)) s u h c a o n p =
        let x : Ex = node_ex b (index qs) (more_exs e es) in
        let bs : List Bool = field_steps (type_of e s.tys) qs (statics es) (types_of es s.tys) in
        let z = and-right (ex_fits x s) (every_operand fit (false ∷ bs) (more_exs e es) s) a in
        let i = typed x s (and-left (ex_fits x s) (every_operand fit (false ∷ bs) (more_exs e es) s) a) in
        let a0 = and-left (every fit e s) (every_operand fit bs es s) z in
        let o0 = and-left (orders_fit true e s) (operands_fit true bs es s) o in
        let rs = kept_indices qs (steps_from (type_of e s.tys) qs (statics es) (types_of es s.tys)) (resolve_exs es s.tys) in
        and-both (is_in_order_in t u (resolve e s.tys) && is_ordered_in t u (resolve e s.tys)) (are_ordered_in t u rs false)
        (and-both (is_in_order_in t u (resolve e s.tys)) (is_ordered_in t u (resolve e s.tys)) (in-place e s u h a0 o0 n.0 p.0)
        (judged-ordered e s u h true a0 o0 n.0 p.0))
        (steps-ordered s u h (type_of e s.tys) qs es (node-leads (type_of e s.tys) qs (static e) (statics es) (types_of es s.tys) i)
        (each-ordered es s u h) (and-right (every fit e s) (every_operand fit bs es s) z)
        (and-right (orders_fit true e s) (operands_fit true bs es s) o)
        n.1 p.1)
    judged-ordered (node_ex b op es) s u h c a o n p =
        subst (λ x. are_ordered_in t u (resolve_exs es s.tys) x ≡ true) (sym (forgets-resolved op (types_of es s.tys)))
        (all-ordered es s u (forgets_order op) h (each-ordered es s u h)
        (and-right (ex_fits (node_ex b op es) s) (every_operand fit [] es s) a) o n p)
    judged-ordered (matrix_ex es d) s u h c a o n p =
        let x : Ex = matrix_ex es d in
        all-ordered es s u false h (each-ordered es s u h) (and-right (ex_fits x s) (every_operand fit [] es s)
        (and-left (ex_fits x s && every_operand fit [] es s) (every_dom fit d s) a))
        (and-left (operands_fit true [] es s) (dom_orders_fit d s) o) n.0 p.0
    judged-ordered (comp_ex e gs) s u h c a o n p =
        let nn = subst (NamesHave w) (comp-resolved e gs s.tys) n in
        let pp = subst Plain (comp-resolved e gs s.tys) p in
        let ks = gens_resolved gs s.tys in let v = fixed_behind t u ks in
        let g = names_behind gs s.tys in
        let r = gens-ordered gs s u h c (every fit e) (orders_fit true e)
        (and-right (ex_fits (comp_ex e gs) s) (every_under fit gs s (every fit e)) a)
        (and-right (not c || are_ordered gs s) (gens_fit c gs s (orders_fit true e)) o) nn.1 pp.1 in
        let y = subst (λ q. NamesHave w (resolve e q) → Plain (resolve e q) →
        is_in_order_in t v (resolve e q) && is_ordered_in t v (resolve e q) ≡ true) r.1.types
        (λ m l. and-both (is_in_order_in t v (resolve e r.1.scope.tys)) (is_ordered_in t v (resolve e r.1.scope.tys))
        (in-place e r.1.scope v r.1.holds r.1.first r.1.second m l) (judged-ordered e r.1.scope v r.1.holds true r.1.first r.1.second m
        l)) in
        subst (λ x. is_ordered_in t u x ≡ true) (sym (comp-resolved e gs s.tys))
        (and-both (are_gens_ordered_in t u ks) (is_in_order_in t v (resolve e g) && is_ordered_in t v (resolve e g)) r.0 (y nn.0 pp.0))
    judged-ordered (cell_ex b m es) s u h c a o n p = absurd p
    judged-ordered (seen_ex r d ns es) s u h c a o n p = absurd p

    each-ordered : (es : Exs) (s : Scope) (u : Text → Bool) → HasGivens w s u → EachOrdered s u es
    each-ordered no_exs s u h = tt
    each-ordered (more_exs e es) s u h = (judged-ordered e s u h, each-ordered es s u h)

    gens-ordered : (gs : Gens) (s : Scope) (u : Text → Bool) → HasGivens w s u → (c : Bool) (k l : Scope → Bool) →
        every_under fit gs s k ≡ true → gens_fit c gs s l ≡ true → GensNamesHave w (gens_resolved gs s.tys) → PlainGens
        (gens_resolved gs s.tys) →
        (are_gens_ordered_in t u (gens_resolved gs s.tys) ≡ true) × Behind w gs s (fixed_behind t u (gens_resolved gs s.tys)) k l
    gens-ordered no_gens s u h c k l a o n p = (refl, record { scope = s; types = refl; first = a; second = o; holds = h })
    gens-ordered (over x d gs) s u h c k l a o n p =
        let ty : Ty = type_of_dom d in let z : Scope = with_bound false x ty s in
        let r = gens-ordered gs z (bound_as true x u) (givens-over w x ty s u h) c k l
        (and-right (every_dom fit d s && fit.of_generator d s && fit.of_pattern x ty s) (every_under fit gs z k) a)
        (and-right (dom_orders_fit d s) (gens_fit c gs z l) o) n.2 p.1 in
        (r.0, record { scope = r.1.scope; types = r.1.types; first = r.1.first; second = r.1.second; holds = r.1.holds })
    gens-ordered (from x e gs) s u h c k l a o n p =
        let ty : Ty = source_ty e s.tys in let z : Scope = with_bound (mentions_finds e s) x ty s in
        let b = is_fixed_in t u (resolve e s.tys) in let y : Text → Bool = bound_as b x u in
        let a1 = and-left (every fit e s) (fit.of_pattern x ty s) (and-left (every fit e s && fit.of_pattern x ty s)
        (every_under fit gs z k) a) in
        let r = gens-ordered gs z y (givens-from w b x e ty s u h (λ q. fixed-in t w e s u h a1 q n.1 p.0)) c k l
        (and-right (every fit e s && fit.of_pattern x ty s) (every_under fit gs z k) a)
        (and-right (orders_fit c e s) (gens_fit c gs z l) o) n.2 p.1 in (
          and-both (is_ordered_in t u (resolve e s.tys)) (are_gens_ordered_in t y (gens_resolved gs z.tys))
              (judged-ordered e s u h c a1 (and-left (orders_fit c e s) (gens_fit c gs z l) o) n.1 p.0) r.0,
          record { scope = r.1.scope; types = r.1.types; first = r.1.first; second = r.1.second; holds = r.1.holds },
        )
    gens-ordered (cond e gs) s u h c k l a o n p =
        let a0 = and-left (every fit e s) (every_under fit gs s k) a in
        let o0 = and-left (orders_fit true e s) (gens_fit c gs s l) o in
        let r = gens-ordered gs s u h c k l (and-right (every fit e s) (every_under fit gs s k) a)
        (and-right (orders_fit true e s) (gens_fit c gs s l) o) n.1 p.1 in (
          and-both (is_in_order_in t u (resolve e s.tys) && is_ordered_in t u (resolve e s.tys))
              (are_gens_ordered_in t u (gens_resolved gs s.tys))
              (and-both (is_in_order_in t u (resolve e s.tys)) (is_ordered_in t u (resolve e s.tys)) (in-place e s u h a0 o0 n.0 p.0)
              (judged-ordered e s u h true a0 o0 n.0 p.0)) r.0,
          record { scope = r.1.scope; types = r.1.types; first = r.1.first; second = r.1.second; holds = r.1.holds },
        )
