-- The tables that a specification of the class declares are written as they are.
use Rattle.std.proofs.Common.{◌≡◌, refl, sym, ap, ◌∙◌, subst, ℕ, Bool, true, false, List, [], ◌∷◌, ◌++◌, inl, inr, map, pos, Some, None}
use Rattle.ess_semantics.specs.Lists.{append_all}
use Rattle.ess_semantics.specs.Values.{Text}
use Rattle.ess_semantics.specs.Trees.{both_ends, low_end, Ex, number_ex, no_exs, more_exs, Dom, bool_dom, int_dom, Stm}
use Rattle.ess_semantics.specs.Contexts.{Each}
use Rattle.ess_semantics.specs.DeclaredTables.{TableDecl}
use Rattle.ess_semantics.specs.Prepared.{prepared}
use Rattle.ess_semantics.specs.Judgements.{fault}
use Rattle.ess_semantics.specs.Names.{keys}
use Rattle.ess_semantics.specs.TableNames.{table_names, named_tables}
use Rattle.ess_semantics.specs.Plans.{Options, Side, givens_side, finds_side, same_side, Plan, value_plan, side_of, plans, plans_for}
use Rattle.ess_grammar.specs.Models.{Scope}
use Rattle.ess_repr_declare_laws.specs.DeclaredTrees.{axis_dom}
use Rattle.conjure_laws.specs.Members.{In}
use Rattle.conjure_laws.specs.Premises.{is_on}
use Rattle.conjure_laws.specs.SideBySide.{Along}
use Rattle.conjure_laws.proofs.Lists.{all-items, in-filter}
use Rattle.conjure_model_laws.specs.Shown.{Shows, shows_of}
use Rattle.conjure_model_laws.specs.IsBuiltFrom.{declared_of, taken_names}
use Rattle.ess_flat_models_laws.specs.FlatModels.{decl_of}
use Rattle.ess_flat_models_laws.proofs.FlatPlans.{AtomPlan}
use Rattle.ess_flat_models_laws.proofs.ScalarDomains.{Atom, is_shape}
use Rattle.ess_member_trees_laws.specs.Memberships.{Bound, at_number, at_cell, Axis, truths, numbers}
use Rattle.conjure_modelling.specs.ess_model_written.DeclarationsWritten.{BoundComes, DomIsWritten, DeclIsWritten}
use Rattle.conjure_modelling.specs.ess_model_written.Coming.{DeclsAreWritten, none_written, one_written}
use Rattle.conjure_standing_laws.proofs.BuiltParts.{decls-written}
use Rattle.conjure_standing_laws.proofs.MemberChains.{comes-bound}
use Rattle.ess_mixed_models_laws.specs.MixedSpecifications.{kinds, is_nested_plan, are_mixed_statements, types_come_first, have_bounds}
use Rattle.ess_mixed_models_laws.specs.MixedModels.{mixed_decl, nested_decls, mixed_decls, axis_of}
use Rattle.ess_mixed_models_laws.proofs.MixedPlans.{PlanFact, size_fact, atom_fact, set_fact, nested_fact, some-facts, atom-single, set-single}
use Rattle.ess_mixed_models_laws.proofs.MixedCells.{single-decls, nested-decls, given-single}
use Rattle.conjure_standing_laws.proofs.NestedTables.{nested-tables-stay}
use Rattle.ess_mixed_models_laws.proofs.ScalarCells.{cells, given-cells}
use Rattle.ess_mixed_models_laws.proofs.MixedGivens.{plan-bounds}
use Rattle.conjure_standing_laws.proofs.MixedTrees.{axis-is, simple, declared}

-- ---- declarations

told-bound : (s : Scope) (taken : List Text) (k : ℕ) (e f : Ex) → Bound e → BoundComes s taken k e (Some f) → f ≡ e
told-bound s taken k e f at_number w = comes-bound s taken k e f at_number w
told-bound s taken k e f at_cell w = comes-bound s taken k e f at_cell w

-- A range is written as it is.
range-written : (s : Scope) (taken : List Text) (k : ℕ) (a b : Ex) (e : Dom) → Bound a → Bound b →
    DomIsWritten s taken k (int_dom (both_ends ∷ []) (more_exs a (more_exs b no_exs))) e →
    e ≡ int_dom (both_ends ∷ []) (more_exs a (more_exs b no_exs))
range-written s taken k a b (int_dom ss (more_exs f (more_exs g no_exs))) p q w =
    ap (λ z. int_dom z (more_exs f (more_exs g no_exs))) (sym w.0)
    ∙ ap (λ z. int_dom (both_ends ∷ []) (more_exs z (more_exs g no_exs))) (told-bound s taken k a f p w.1.0)
    ∙ ap (λ z. int_dom (both_ends ∷ []) (more_exs a (more_exs z no_exs))) (told-bound s taken k b g q w.1.1.0)
range-written s taken k a b (int_dom ss no_exs) p q w = absurd w.1
range-written s taken k a b (int_dom ss (more_exs f no_exs)) p q w = absurd w.1.1
range-written s taken k a b (int_dom ss (more_exs f (more_exs g (more_exs h hs)))) p q w = absurd w.1.1.1
range-written s taken k a b e p q w = absurd w

-- So is the domain of an axis.
axis-written : (s : Scope) (taken : List Text) (k : ℕ) (D e : Dom) → Axis D → DomIsWritten s taken k (axis_dom D) e → e ≡ axis_dom D
axis-written s taken k D e truths w = range-written s taken k (number_ex (pos 0)) (number_ex (pos 1)) e at_number at_number w
axis-written s taken k D e (numbers {a = a} {b = b} p q) w = range-written s taken k a b e p q w

no-axes : (s : Scope) (taken : List Text) (k : ℕ) (as' : List Dom) → Along [] as' (DomIsWritten s taken k) → as' ≡ []
no-axes s taken k [] w = refl
no-axes s taken k (a ∷ as') w = absurd w

one-axis : (s : Scope) (taken : List Text) (k : ℕ) (D : Dom) (as' : List Dom) → Axis D →
    Along (axis_dom D ∷ []) as' (DomIsWritten s taken k) → as' ≡ axis_dom D ∷ []
one-axis s taken k D [] x w = absurd w
one-axis s taken k D (a ∷ []) x w = ap (λ z. z ∷ []) (axis-written s taken k D a x w.0)
one-axis s taken k D (a ∷ b ∷ as') x w = absurd w.1

truths-written : (s : Scope) (taken : List Text) (k : ℕ) (e : Dom) → DomIsWritten s taken k bool_dom e → e ≡ bool_dom
truths-written s taken k bool_dom w = refl
truths-written s taken k e w = absurd w

size-written : (s : Scope) (taken : List Text) (k : ℕ) (e : Dom) →
    DomIsWritten s taken k (int_dom (low_end ∷ []) (more_exs (number_ex (pos 1)) no_exs)) e →
    e ≡ int_dom (low_end ∷ []) (more_exs (number_ex (pos 1)) no_exs)
size-written s taken k (int_dom ss (more_exs f no_exs)) w =
    ap (λ z. int_dom z (more_exs f no_exs)) (sym w.0)
    ∙ ap (λ z. int_dom (low_end ∷ []) (more_exs z no_exs)) (told-bound s taken k (number_ex (pos 1)) f at_number w.1.0)
size-written s taken k (int_dom ss no_exs) w = absurd w.1
size-written s taken k (int_dom ss (more_exs f (more_exs g gs))) w = absurd w.1.1
size-written s taken k e w = absurd w

one-item : {A : Type 0} (x y : A) → x ∷ [] ≡ y ∷ [] → x ≡ y
one-item x y e = cc

module _ (S : List Stm) (o : Options) (h : are_mixed_statements S o ≡ true) (f : fault S ≡ None)
    (ts : types_come_first [] (prepared S) ≡ true) (bs : have_bounds (plans S o) [] (prepared S) ≡ true) where
  abbrev Ps : List Plan
  Ps = plans S o

  abbrev sh : Shows
  sh = shows_of S o

  abbrev taken : List Text
  taken = taken_names S o

  abbrev decl : Plan → TableDecl
  decl P = mixed_decl (kinds S) Ps P

  abbrev decls_of : Plan → List TableDecl
  decls_of P = mixed_decls (kinds S) Ps P

  module _ (add : Scope → TableDecl → Scope) where
    -- A cell is declared as it is.
    cell-written : (s : Scope) (P : Plan) → In P Ps → (w : AtomPlan P) → declared_of sh P ≡ decl P ∷ [] → (u : TableDecl) →
        DeclIsWritten s taken sh.next (decl P) u → u ≡ decl P
    cell-written s P i w d u v =
        let e : decl P ≡ decl_of Ps P = subst (λ P. mixed_decl (kinds S) Ps P ≡ decl_of Ps P) (sym w.is) refl in
        let dd : declared_of sh P ≡ decl_of Ps P ∷ [] = d ∙ ap (λ z. z ∷ []) e in
        one-item u (decl P)
        (decls-written Ps (cells S o h) (given-cells S o h) (simple S o h f ts bs) add taken sh.next sh (P ∷ []) (w, tt)
        (λ g x c n j. plan-bounds S o h g x c n (planned g x c n j) (shape g x c n j)) (dd, tt) s (u ∷ [])
        (subst (λ l. DeclsAreWritten add taken sh.next s l (u ∷ [])) (ap (λ l. l ++ []) (sym dd))
        (one_written (subst (λ D. DeclIsWritten s taken sh.next D u) e v) none_written))
        ∙ ap (λ z. z ∷ []) (sym e))
      where
        planned : (g : Side) (x : Text) (c : Dom) (n : Text) → In (value_plan g x Atom c ((n, 0) ∷ [])) (P ∷ []) →
            In (value_plan g x Atom c ((n, 0) ∷ [])) Ps
        planned g x c n (inl e) = subst (λ Q. In Q Ps) (sym e) i
        planned g x c n (inr e) = absurd e

        shape : (g : Side) (x : Text) (c : Dom) (n : Text) → In (value_plan g x Atom c ((n, 0) ∷ [])) (P ∷ []) → is_shape c ≡ true
        shape g x c n (inl e) = let z : c ≡ w.d = same (e ∙ w.is) in ap is_shape z ∙ w.scalar
          where
            same : value_plan g x Atom c ((n, 0) ∷ []) ≡ value_plan w.f w.x Atom w.d ((w.n, 0) ∷ []) → c ≡ w.d
            same e = cc
        shape g x c n (inr e) = absurd e

    -- So is each table.
    pub table-written : (s : Scope) (P : Plan) → In P Ps → PlanFact S o P → is_nested_plan (kinds S) P ≡ false → declared_of sh P ≡ decl P ∷ [] →
        (u : TableDecl) → DeclIsWritten s taken sh.next (decl P) u → u ≡ decl P
    table-written s P i (size_fact y n e) k d u w = subst (λ P. DeclIsWritten s taken sh.next (decl P) u → u ≡ decl P) (sym e)
        (λ w. ap (λ z. record { name = z; axes = u.axes; cell = u.cell }) (sym w.0)
        ∙ ap (λ z. record { name = n; axes = z; cell = u.cell }) (no-axes s taken sh.next u.axes w.1)
        ∙ ap (λ z. record { name = n; axes = []; cell = z }) (size-written s taken sh.next u.cell w.2)) w
    table-written s P i (atom_fact a) k d u w = cell-written s P i a d u w
    table-written s P i (set_fact x A n e m a) k d u w = subst (λ P. DeclIsWritten s taken sh.next (decl P) u → u ≡ decl P) (sym e)
        (λ w. ap (λ z. record { name = z; axes = u.axes; cell = u.cell }) (sym w.0)
        ∙ ap (λ z. record { name = n; axes = z; cell = u.cell }) (one-axis s taken sh.next (axis_of S o A) u.axes (axis-is S o m) w.1)
        ∙ ap (λ z. record { name = n; axes = axis_dom (axis_of S o A) ∷ []; cell = z }) (truths-written s taken sh.next u.cell w.2)) w
    table-written s P i (nested_fact x r d taken e n g y c) k v u w = let z : true ≡ false = sym y ∙ k in cc

    -- So are tables before others.
    abbrev Behind : List TableDecl → List TableDecl → List TableDecl → Type 0
    Behind ts us gs = (z : Scope) × (hs : List TableDecl) × (gs ≡ ts ++ hs) × DeclsAreWritten add taken sh.next z us hs

    one-behind : (s : Scope) (D : TableDecl) (us gs : List TableDecl) → ((u : TableDecl) → DeclIsWritten s taken sh.next D u → u ≡ D) →
        DeclsAreWritten add taken sh.next s (D ∷ us) gs → Behind (D ∷ []) us gs
    one-behind s D us gs p (one_written {u = u} {us = vs} w v) = (add s u, vs, ap (λ z. z ∷ vs) (p u w), v)

    none-by-none : (s : Scope) (gs : List TableDecl) → DeclsAreWritten add taken sh.next s [] gs → gs ≡ []
    none-by-none s gs none_written = refl

    -- The tables of each plan are written as they are.
    plan-written : (s : Scope) (P : Plan) → In P Ps → PlanFact S o P → (us gs : List TableDecl) →
        DeclsAreWritten add taken sh.next s (decls_of P ++ us) gs → Behind (decls_of P) us gs
    plan-written s P i w us gs v = go (is_nested_plan (kinds S) P) refl
      where
        nested : (P : Plan) → PlanFact S o P → is_nested_plan (kinds S) P ≡ true →
            DeclsAreWritten add taken sh.next s (nested_decls P ++ us) gs → Behind (nested_decls P) us gs
        nested P (size_fact t n e) k = let z : false ≡ true = ap (is_nested_plan (kinds S)) (sym e) ∙ k in cc
        nested P (atom_fact a) k =
            let z : false ≡ true = sym (atom-single S o a.f a.x a.d a.n a.scalar) ∙ ap (is_nested_plan (kinds S)) (sym a.is) ∙ k in cc
        nested P (set_fact x A n e m a) k =
            let z : false ≡ true = sym (set-single S o x n m) ∙ ap (is_nested_plan (kinds S)) (sym e) ∙ k in cc
        nested P (nested_fact x r d names e n g y c) k =
            subst (λ P. DeclsAreWritten add taken sh.next s (nested_decls P ++ us) gs → Behind (nested_decls P) us gs) (sym e)
            (nested-tables-stay add taken sh.next r d (keys (named_tables x (table_names r d) names)) n g us s gs)

        go : (b : Bool) → is_nested_plan (kinds S) P ≡ b → Behind (decls_of P) us gs
        go true k =
            subst (λ l. DeclsAreWritten add taken sh.next s (l ++ us) gs → Behind l us gs) (sym (nested-decls S o P k)) (nested P w k) v
        go false k =
            subst (λ l. DeclsAreWritten add taken sh.next s (l ++ us) gs → Behind l us gs) (sym (single-decls S o P k))
            (one-behind s (decl P) us gs (table-written s P i w k (declared S o h f ts bs P i w ∙ single-decls S o P k))) v

    -- The declarations that are written.
    pub tables-written : (Qs : List Plan) → Each Qs (PlanFact S o) → ((P : Plan) → In P Qs → In P Ps) → (s : Scope) (gs : List TableDecl) →
        DeclsAreWritten add taken sh.next s (append_all (map (declared_of sh) Qs)) gs → gs ≡ append_all (map decls_of Qs)
    tables-written [] w i s gs v = none-by-none s gs v
    tables-written (P ∷ Qs) w i s gs v =
        let r = plan-written s P (i P (inl refl)) w.0 (append_all (map (declared_of sh) Qs)) gs
        (subst (λ l. DeclsAreWritten add taken sh.next s (l ++ append_all (map (declared_of sh) Qs)) gs)
        (declared S o h f ts bs P (i P (inl refl)) w.0) v) in
        r.2 ∙ ap (λ l. decls_of P ++ l) (tables-written Qs w.1 (λ Q j. i Q (inr j)) r.0 r.1 r.3)

    side-is : (f : Side) → same_side f givens_side ≡ true → f ≡ givens_side
    side-is givens_side e = refl
    side-is finds_side e = cc

    given-sides : Each (plans_for givens_side S o) (λ P. side_of P ≡ givens_side)
    given-sides = all-items (λ P. side_of P ≡ givens_side) (plans_for givens_side S o)
        (λ P i. side-is (side_of P) (in-filter (is_on givens_side) P Ps i).1)

    singles : (Qs : List Plan) → Each Qs (PlanFact S o) → Each Qs (λ P. side_of P ≡ givens_side) →
        append_all (map decls_of Qs) ≡ map decl Qs
    singles [] w g = refl
    singles (P ∷ Qs) w g =
        ap (λ l. l ++ append_all (map decls_of Qs)) (single-decls S o P (given-single S o P w.0 g.0))
        ∙ ap (λ l. decl P ∷ l) (singles Qs w.1 g.1)

    -- Those of givens are single cells.
    pub givens-written : (s : Scope) (gs : List TableDecl) →
        DeclsAreWritten add taken sh.next s (append_all (map (declared_of sh) (plans_for givens_side S o))) gs →
        gs ≡ map decl (plans_for givens_side S o)
    givens-written s gs v =
        tables-written (plans_for givens_side S o) (some-facts S o h (is_on givens_side))
        (λ P i. (in-filter (is_on givens_side) P Ps i).0) s gs v
        ∙ singles (plans_for givens_side S o) (some-facts S o h (is_on givens_side)) given-sides

    -- Those of finds are those of their plans.
    pub finds-written : (s : Scope) (gs : List TableDecl) →
        DeclsAreWritten add taken sh.next s (append_all (map (declared_of sh) (plans_for finds_side S o))) gs →
        gs ≡ append_all (map decls_of (plans_for finds_side S o))
    finds-written s gs v =
        tables-written (plans_for finds_side S o) (some-facts S o h (is_on finds_side))
        (λ P i. (in-filter (is_on finds_side) P Ps i).0) s gs v
