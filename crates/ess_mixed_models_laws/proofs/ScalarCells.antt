-- The cells of scalars of a specification of the class, each declared with its mark.
use Rattle.std.proofs.Common.{◌≡◌, refl, sym, ap, ◌∙◌, subst, Bool, true, false, if◌then◌else◌, List, [], ◌∷◌, ◌⊎◌, inl, inr, filter, map, Option, Some, None, option_map}
use Rattle.ess_semantics.specs.declared.words.ReprKind.{ReprKind}
use Rattle.ess_semantics.specs.Values.{Text}
use Rattle.ess_semantics.specs.Order.{same_text}
use Rattle.ess_semantics.specs.Names.{keys, all_distinct}
use Rattle.ess_semantics.specs.Trees.{Repr, repr, cell_ex, no_exs, Dom, bool_dom, int_dom, Stm}
use Rattle.ess_semantics.specs.Contexts.{Each}
use Rattle.ess_semantics.specs.DeclaredTables.{TableDecl}
use Rattle.ess_semantics.specs.Meaning.{is_bool_dom}
use Rattle.ess_semantics.specs.Plans.{Options, Side, givens_side, finds_side, Plan, value_plan, plans, names_of_plans}
use Rattle.ess_semantics.specs.ModelMeaning.{kinded_cell, cell_kind, declaration_of}
use Rattle.ess_semantics.specs.Models.{scalar_cell}
use Rattle.conjure_laws.specs.Members.{In}
use Rattle.conjure_laws.proofs.Lists.{at-item, all-items, in-filter}
use Rattle.conjure_laws.proofs.FreeNames.{all-names-differ, distinct-filter}
use Rattle.ess_flat_models_laws.specs.FlatSpecifications.{given_mark, scalar_mark}
use Rattle.ess_flat_models_laws.specs.FlatModels.{decl_of}
use Rattle.ess_flat_models_laws.proofs.ScalarDomains.{Atom, is_shape}
use Rattle.ess_flat_models_laws.proofs.FlatPlans.{AtomPlan}
use Rattle.ess_flat_models_laws.proofs.FlatNames.{scalar-plan, GivenPlan, given-plan, found-decl, declared-in as atom-declared}
use Rattle.ess_flat_models_laws.proofs.FlatDeclared.{bool-stays}
use Rattle.ess_mixed_models_laws.specs.MixedSpecifications.{are_mixed_statements, is_of_sets}
use Rattle.ess_semantics.specs.TableNames.{Named, table_names, named_tables}
use Rattle.ess_nested_laws.proofs.NestedForms.{written_truths, written_numbers, NestedSet, of_atoms, of_sets, nested-form, KeptAs, as_atom, by_occurrence, with_a_dummy, in_slots, with_a_marker, with_flags, kept-form}
use Rattle.ess_mixed_models_laws.proofs.NamedKinds.{no-yes, no-some}
use Rattle.ess_mixed_models_laws.proofs.MixedPlans.{PlanFact, size_fact, atom_fact, set_fact, nested_fact, all-facts, atom-single}
use Rattle.ess_mixed_models_laws.proofs.MixedCells.{none-behind, decls, declared}

-- ---- atoms among plans

-- Whether a plan is that of an atom.
abbrev pub is_atom_plan : Plan → Bool
is_atom_plan (value_plan f x (repr ReprKind.Atom rs) d ns) = true
is_atom_plan P = false

-- The plans of atoms.
abbrev pub atoms : List Plan → List Plan
atoms Ps = filter is_atom_plan Ps

-- The marks of their cells.
abbrev pub cells_of_atoms : List Plan → Text → Option Bool
cells_of_atoms Ps n = option_map (λ d. is_bool_dom d.cell) (declaration_of (map (decl_of Ps) (atoms Ps)) n)

-- A domain of nested sets is one of sets.
pub nested-sets : {d : Dom} → NestedSet d → is_of_sets d ≡ true
nested-sets (of_atoms s a) = refl
nested-sets (of_sets s n) = refl

-- A plan of nested sets is none of an atom.
pub kept-apart : (f : Side) (x : Text) {r : Repr} {d : Dom} (ns : List Named) → KeptAs r d → NestedSet d →
    is_atom_plan (value_plan f x r d ns) ≡ false
kept-apart f x ns (as_atom written_truths) n = absurd (no-yes (nested-sets n))
kept-apart f x ns (as_atom written_numbers) n = absurd (no-yes (nested-sets n))
kept-apart f x ns (by_occurrence s a) n = refl
kept-apart f x ns (with_a_dummy s) n = refl
kept-apart f x ns (in_slots s k w) n = refl
kept-apart f x ns (with_a_marker s w) n = refl
kept-apart f x ns (with_flags s w) n = refl

module _ (S : List Stm) (o : Options) where
  atom-is : (P : Plan) → PlanFact S o P → is_atom_plan P ≡ true → AtomPlan P
  atom-is P (size_fact t n e) h = let z : false ≡ true = ap is_atom_plan (sym e) ∙ h in absurd (no-yes z)
  atom-is P (atom_fact a) h = a
  atom-is P (set_fact x A n e m a) h = let z : false ≡ true = ap is_atom_plan (sym e) ∙ h in absurd (no-yes z)
  atom-is P (nested_fact x r d taken e n g k c) h =
      let z : false ≡ true =
      sym (kept-apart finds_side x (named_tables x (table_names r d) taken) (kept-form 250 r d n g) (nested-form 250 d n))
      ∙ ap is_atom_plan (sym e) ∙ h in absurd (no-yes z)

  -- Scalars are those of the atoms.
  pub scalar-atoms : (Qs : List Plan) → Each Qs (PlanFact S o) → (a : Text) → scalar_cell Qs a ≡ scalar_cell (atoms Qs) a
  scalar-atoms [] h a = refl
  scalar-atoms (P ∷ Qs) h a = one P h.0 (scalar-atoms Qs h.1 a)
    where
      cell : (f : Side) (x : Text) (d : Dom) (n : Text) → is_shape d ≡ true → scalar_cell Qs a ≡ scalar_cell (atoms Qs) a →
          scalar_cell (value_plan f x Atom d ((n, 0) ∷ []) ∷ Qs) a ≡ scalar_cell (value_plan f x Atom d ((n, 0) ∷ []) ∷ atoms Qs) a
      cell f x bool_dom n s e = ap (λ c. if same_text x a then Some (true, n) else c) e
      cell f x (int_dom rs es) n s e = ap (λ c. if same_text x a then Some (false, n) else c) e
      cell f x d n s e = absurd (no-yes s)

      other : (f : Side) (x : Text) {r : Repr} {d : Dom} (ns : List Named) → KeptAs r d → NestedSet d →
          scalar_cell Qs a ≡ scalar_cell (atoms Qs) a →
          scalar_cell (value_plan f x r d ns ∷ Qs) a ≡ scalar_cell (atoms (value_plan f x r d ns ∷ Qs)) a
      other f x ns (as_atom written_truths) n q = absurd (no-yes (nested-sets n))
      other f x ns (as_atom written_numbers) n q = absurd (no-yes (nested-sets n))
      other f x ns (by_occurrence s a) n q = q
      other f x ns (with_a_dummy s) n q = q
      other f x ns (in_slots s k w) n q = q
      other f x ns (with_a_marker s w) n q = q
      other f x ns (with_flags s w) n q = q

      one : (P : Plan) → PlanFact S o P → scalar_cell Qs a ≡ scalar_cell (atoms Qs) a →
          scalar_cell (P ∷ Qs) a ≡ scalar_cell (atoms (P ∷ Qs)) a
      one P (size_fact t n e) q = subst (λ P. scalar_cell (P ∷ Qs) a ≡ scalar_cell (atoms (P ∷ Qs)) a) (sym e) q
      one P (atom_fact w) q = subst (λ P. scalar_cell (P ∷ Qs) a
          ≡ scalar_cell (atoms (P ∷ Qs)) a) (sym w.is) (cell w.f w.x w.d w.n w.scalar q)
      one P (set_fact x A n e m w) q = subst (λ P. scalar_cell (P ∷ Qs) a ≡ scalar_cell (atoms (P ∷ Qs)) a) (sym e) q
      one P (nested_fact x r d taken e n g k c) q = subst (λ P. scalar_cell (P ∷ Qs) a ≡ scalar_cell (atoms (P ∷ Qs)) a) (sym e)
          (other finds_side x (named_tables x (table_names r d) taken) (kept-form 250 r d n g) (nested-form 250 d n) q)

  -- So are givens.
  pub given-atoms : (Qs : List Plan) → Each Qs (PlanFact S o) → (a : Text) (m : Bool) → given_mark Qs a ≡ Some m →
      given_mark (atoms Qs) a ≡ Some m
  given-atoms [] h a m e = e
  given-atoms (P ∷ Qs) h a m e = one P h.0 e (given-atoms Qs h.1 a m)
    where
      at : (f : Side) (x : Text) (d : Dom) (n : Text) → (given_mark Qs a ≡ Some m → given_mark (atoms Qs) a ≡ Some m) →
          given_mark (value_plan f x Atom d ((n, 0) ∷ []) ∷ Qs) a ≡ Some m →
          given_mark (value_plan f x Atom d ((n, 0) ∷ []) ∷ atoms Qs) a ≡ Some m
      at givens_side x d n g e = go (same_text x a) e
        where
          go : (b : Bool) → (if b then Some (is_bool_dom d) else given_mark Qs a) ≡ Some m →
              (if b then Some (is_bool_dom d) else given_mark (atoms Qs) a) ≡ Some m
          go true e = e
          go false e = g e
      at finds_side x d n g e = go (same_text x a) e
        where
          go : (b : Bool) → (if b then None else given_mark Qs a) ≡ Some m → (if b then None else given_mark (atoms Qs) a) ≡ Some m
          go true e = e
          go false e = g e

      past : (x : Text) → (if same_text x a then None else given_mark Qs a) ≡ Some m →
          (given_mark Qs a ≡ Some m → given_mark (atoms Qs) a ≡ Some m) → given_mark (atoms Qs) a ≡ Some m
      past x e g = go (same_text x a) e
        where
          go : (b : Bool) → (if b then None else given_mark Qs a) ≡ Some m → given_mark (atoms Qs) a ≡ Some m
          go true e = absurd (no-some e)
          go false e = g e

      one : (P : Plan) → PlanFact S o P → given_mark (P ∷ Qs) a ≡ Some m → (given_mark Qs a ≡ Some m → given_mark (atoms Qs) a ≡ Some m) →
          given_mark (atoms (P ∷ Qs)) a ≡ Some m
      one P (size_fact t n e) q g = subst (λ P. given_mark (P ∷ Qs) a ≡ Some m → given_mark (atoms (P ∷ Qs)) a ≡ Some m) (sym e) g q
      one P (atom_fact w) q g = subst (λ P. given_mark (P ∷ Qs) a ≡ Some m → given_mark (atoms (P ∷ Qs)) a ≡ Some m) (sym w.is)
          (at w.f w.x w.d w.n g) q
      one P (set_fact x A n e k w) q g = subst (λ P. given_mark (P ∷ Qs) a ≡ Some m → given_mark (atoms (P ∷ Qs)) a ≡ Some m) (sym e)
          (λ q. past x q g) q
      one P (nested_fact x r d taken e n i k c) q g =
          let P' : Plan = value_plan finds_side x r d (named_tables x (table_names r d) taken) in
          subst (λ P. given_mark (P ∷ Qs) a ≡ Some m → given_mark (atoms (P ∷ Qs)) a ≡ Some m) (sym e)
          (λ q. ap (λ b. given_mark (if b then P' ∷ atoms Qs else atoms Qs) a)
          (kept-apart finds_side x (named_tables x (table_names r d) taken) (kept-form 250 r d n i) (nested-form 250 d n))
          ∙ past x q g) q

  module _ (h : are_mixed_statements S o ≡ true) where
    abbrev Ps : List Plan
    Ps = plans S o

    -- ---- cells of scalars

    -- Plans of atoms are such.
    pub are-atoms : Each (atoms Ps) AtomPlan
    are-atoms = all-items AtomPlan (atoms Ps)
        (λ P i. let r = in-filter is_atom_plan P Ps i in atom-is P (at-item (PlanFact S o) Ps P (all-facts S o h) r.0) r.1)

    -- The marks of cells.
    abbrev pub cells : Text → Option Bool
    cells n = cells_of_atoms Ps n

    atoms-differ : all_distinct (keys (names_of_plans (atoms Ps))) ≡ true
    atoms-differ = distinct-filter is_atom_plan Ps (all-names-differ S o)

    -- The plan of a scalar name.
    pub record ScalarName (a : Text) (m : Bool) : Type 0 where
      pub f : Side
      pub d : Dom
      pub n : Text
      pub planned : In (value_plan f a Atom d ((n, 0) ∷ [])) Ps
      pub cell : scalar_cell Ps a ≡ Some (m, n)
      pub mark : is_bool_dom d ≡ m
      pub scalar : is_shape d ≡ true
      pub there : cells n ≡ Some m

    pub scalar-name : (a : Text) (m : Bool) → scalar_mark Ps a ≡ Some m → ScalarName a m
    scalar-name a m e =
        let q = scalar-atoms Ps (all-facts S o h) a in
        let r = scalar-plan (atoms Ps) are-atoms a m (ap (option_map (λ c. c.0)) (sym q) ∙ e) in record {
          f = r.f;
          d = r.d;
          n = r.n;
          planned = (in-filter is_atom_plan (value_plan r.f a Atom r.d ((r.n, 0) ∷ [])) Ps r.planned).0;
          cell = q ∙ r.cell;
          mark = r.mark;
          scalar = r.scalar;
          there = ap (option_map (λ d. is_bool_dom d.cell)) (sym (none-behind (map (decl_of Ps) (atoms Ps)) r.n)
              ∙ atom-declared Ps (atoms Ps) are-atoms [] r.f a r.d r.n atoms-differ r.planned) ∙ ap (λ b. Some b) (bool-stays Ps r.d
              ∙ r.mark);
        }

    -- Names have cells of their marks.
    pub placed-names : (a : Text) (m : Bool) → scalar_mark Ps a ≡ Some m →
        (n : Text) × (scalar_cell Ps a ≡ Some (m, n)) × (cells n ≡ Some m)
    placed-names a m e = let r = scalar-name a m e in (r.n, r.cell, r.there)

    -- A cell is that of a plan.
    pub record Planned (n : Text) (b : Bool) : Type 0 where
      pub f : Side
      pub x : Text
      pub d : Dom
      pub planned : In (value_plan f x Atom d ((n, 0) ∷ [])) Ps
      pub scalar : is_shape d ≡ true
      pub mark : is_bool_dom d ≡ b

    of-plan : (P : Plan) → AtomPlan P → In P Ps → (n : Text) (b : Bool) (D : TableDecl) → decl_of Ps P ≡ D → D.name ≡ n →
        is_bool_dom D.cell ≡ b → Planned n b
    of-plan P w i n b D e k m =
        let q : decl_of Ps (value_plan w.f w.x Atom w.d ((w.n, 0) ∷ [])) ≡ D = ap (decl_of Ps) (sym w.is) ∙ e in
        let r : w.n ≡ n = ap (λ z. z.name) q ∙ k in record {
          f = w.f;
          x = w.x;
          d = w.d;
          planned = subst (λ z. In (value_plan w.f w.x Atom w.d ((z, 0) ∷ [])) Ps) r (subst (λ P. In P Ps) w.is i);
          scalar = w.scalar;
          mark = sym (bool-stays Ps w.d) ∙ ap (λ z. is_bool_dom z.cell) q ∙ m;
        }

    pub planned : (n : Text) (b : Bool) → cells n ≡ Some b → Planned n b
    planned n b e = go (declaration_of (map (decl_of Ps) (atoms Ps)) n) refl e
      where
        some-is : (a : Bool) → Some a ≡ Some b → a ≡ b
        some-is a q = cc

        at : (D : TableDecl) → is_bool_dom D.cell ≡ b →
            ((P : Plan) × In P (atoms Ps) × (decl_of Ps P ≡ D) × (D.name ≡ n)) ⊎ (declaration_of [] n ≡ Some D) → Planned n b
        at D m (inl r) = of-plan r.0 (at-item AtomPlan (atoms Ps) r.0 are-atoms r.1) (in-filter is_atom_plan r.0 Ps r.1).0 n b D r.2 r.3 m
        at D m (inr r) = absurd (no-some r)

        go : (r : Option TableDecl) → declaration_of (map (decl_of Ps) (atoms Ps)) n ≡ r → option_map (λ d. is_bool_dom d.cell) r ≡ Some b →
            Planned n b
        go None q m = absurd (no-some m)
        go (Some D) q m = at D (some-is (is_bool_dom D.cell) m) (found-decl Ps (atoms Ps) [] n D (none-behind (map (decl_of Ps)
            (atoms Ps)) n ∙ q))

    -- Models have such cells with their marks.
    pub cells-kinded : (n : Text) (b : Bool) → cells n ≡ Some b →
        kinded_cell n no_exs [] (declaration_of (decls S o h) n) ≡ (cell_ex b n no_exs, cell_kind b)
    cells-kinded n b e =
        let r = planned n b e in
        ap (kinded_cell n no_exs [])
        (declared S o h (value_plan r.f r.x Atom r.d ((n, 0) ∷ [])) r.planned (atom-single S o r.f r.x r.d n r.scalar))
        ∙ ap (λ z. (cell_ex z n no_exs, cell_kind z)) (bool-stays Ps r.d ∙ r.mark)

    -- The plan of a given that is a number or a truth value.
    pub given-name : (a : Text) (m : Bool) → given_mark Ps a ≡ Some m → GivenPlan (atoms Ps) a m
    given-name a m e = given-plan (atoms Ps) are-atoms a m (given-atoms Ps (all-facts S o h) a m e)

    -- It is a plan of the specification.
    pub given-planned : (a : Text) (m : Bool) (r : GivenPlan (atoms Ps) a m) → In (value_plan givens_side a Atom r.d ((r.n, 0) ∷ [])) Ps
    given-planned a m r = (in-filter is_atom_plan (value_plan givens_side a Atom r.d ((r.n, 0) ∷ [])) Ps r.planned).0

    -- Its cell.
    pub given-cell : (a : Text) (m : Bool) (r : GivenPlan (atoms Ps) a m) → scalar_cell Ps a ≡ Some (m, r.n)
    given-cell a m r = scalar-atoms Ps (all-facts S o h) a ∙ r.cell

    -- Names of givens that are numbers have cells that are numbers.
    pub given-cells : (a : Text) → given_mark Ps a ≡ Some false → (n : Text) × (scalar_cell Ps a ≡ Some (false, n)) × (cells n ≡ Some false)
    given-cells a e =
        let r = given-name a false e in (
          r.n,
          given-cell a false r,
          ap (option_map (λ d. is_bool_dom d.cell)) (sym (none-behind (map (decl_of Ps) (atoms Ps)) r.n)
              ∙ atom-declared Ps (atoms Ps) are-atoms [] givens_side a r.d r.n atoms-differ r.planned)
              ∙ ap (λ b. Some b) (bool-stays Ps r.d ∙ r.mark),
        )
