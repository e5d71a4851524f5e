-- The plans of each given and find, as names are shown over tables: the first view of a scalar is its cell, and a set has one plan.
use Rattle.std.proofs.Common.{◌≡◌, refl, sym, ap, ◌∙◌, subst, Bool, true, false, if◌then◌else◌, List, [], ◌∷◌, inl, inr, filter, map, Some, None, option_map}
use Rattle.ess_semantics.specs.Values.{Text}
use Rattle.ess_semantics.specs.Order.{same_text}
use Rattle.ess_semantics.specs.Trees.{Repr, Ex, no_exs, Dom, set_dom, Stm}
use Rattle.ess_semantics.specs.Contexts.{Each}
use Rattle.ess_semantics.specs.TableNames.{Named, table_names, named_tables}
use Rattle.ess_semantics.specs.Judgements.{fault}
use Rattle.ess_semantics.specs.Plans.{Options, Side, givens_side, finds_side, Plan, value_plan, plans, is_plan_for, is_plan_of}
use Rattle.ess_semantics.specs.Models.{scalar_cell, cell_for}
use Rattle.ess_semantics.proofs.Texts.{same_text-equal, same_text-itself}
use Rattle.conjure_laws.specs.Members.{In}
use Rattle.conjure_laws.specs.ModelsOfSets.{table_of}
use Rattle.conjure_laws.proofs.Lists.{in-filtered}
use Rattle.conjure_laws.proofs.SetPlans.{Occ}
use Rattle.conjure_laws.proofs.Statements.{find-is-named, finds-prepared}
use Rattle.conjure_settled_laws.proofs.SettledStatements.{typed-is-settled}
use Rattle.conjure_model_laws.specs.Shown.{view_by}
use Rattle.ess_flat_models_laws.specs.FlatSpecifications.{scalar_mark}
use Rattle.ess_flat_models_laws.proofs.ScalarDomains.{Atom, is_shape}
use Rattle.conjure_standing_laws.proofs.BuiltShows.{first-view}
use Rattle.ess_mixed_models_laws.specs.MixedSpecifications.{is_of_sets, are_mixed_statements}
use Rattle.ess_nested_laws.proofs.NestedForms.{nested-form, kept-form}
use Rattle.ess_mixed_models_laws.proofs.NamedKinds.{no-yes}
use Rattle.ess_mixed_models_laws.proofs.MixedPlans.{PlanFact, size_fact, atom_fact, set_fact, nested_fact, all-facts}
use Rattle.ess_mixed_models_laws.proofs.FoundPlans.{found-plan}
use Rattle.ess_mixed_models_laws.proofs.ScalarCells.{nested-sets, kept-apart, atoms, scalar-atoms, are-atoms, ScalarName, scalar-name}
use Rattle.ess_mixed_models_laws.proofs.SetFinds.{SetFind, one-dom, set-planned}

module _ (S : List Stm) (o : Options) (h : are_mixed_statements S o ≡ true) (f : fault S ≡ None) where
  abbrev Ps : List Plan
  Ps = plans S o

  -- ---- scalars

  -- Where no set has the name, its plans are those among the atoms.
  plans-atoms : (Qs : List Plan) → Each Qs (PlanFact S o) → (a : Text) →
      ((x : Text) (r : Repr) (d : Dom) (ns : List Named) → is_of_sets d ≡ true → In (value_plan finds_side x r d ns) Qs →
      same_text x a ≡ false) → filter (is_plan_for a) Qs ≡ filter (is_plan_for a) (atoms Qs)
  plans-atoms [] w a u = refl
  plans-atoms (P ∷ Qs) w a u =
      one P w.0 (λ x r d ns s e. u x r d ns s (inl e)) (plans-atoms Qs w.1 a (λ x r d ns s i. u x r d ns s (inr i)))
    where
      both : (b : Bool) (P : Plan) → filter (is_plan_for a) Qs ≡ filter (is_plan_for a) (atoms Qs) →
          (if b then P ∷ filter (is_plan_for a) Qs else filter (is_plan_for a) Qs)
          ≡ (if b then P ∷ filter (is_plan_for a) (atoms Qs) else filter (is_plan_for a) (atoms Qs))
      both true P e = ap (λ l. P ∷ l) e
      both false P e = e

      one : (P : Plan) → PlanFact S o P →
          ((x : Text) (r : Repr) (d : Dom) (ns : List Named) → is_of_sets d ≡ true → value_plan finds_side x r d ns ≡ P →
          same_text x a ≡ false) →
          filter (is_plan_for a) Qs ≡ filter (is_plan_for a) (atoms Qs) →
          filter (is_plan_for a) (P ∷ Qs) ≡ filter (is_plan_for a) (atoms (P ∷ Qs))
      one P (size_fact t n e) v q = subst (λ P. filter (is_plan_for a) (P ∷ Qs) ≡ filter (is_plan_for a) (atoms (P ∷ Qs))) (sym e) q
      one P (atom_fact k) v q = subst (λ P. filter (is_plan_for a) (P ∷ Qs) ≡ filter (is_plan_for a) (atoms (P ∷ Qs))) (sym k.is)
          (both (same_text k.x a) (value_plan k.f k.x Atom k.d ((k.n, 0) ∷ [])) q)
      one P (set_fact x A n e m w) v q = subst (λ P. filter (is_plan_for a) (P ∷ Qs) ≡ filter (is_plan_for a) (atoms (P ∷ Qs))) (sym e)
          (ap (λ b. if b then value_plan finds_side x Occ (set_dom [] no_exs A) ((n, 1) ∷ []) ∷ filter (is_plan_for a) Qs
          else filter (is_plan_for a) Qs) (v x Occ (set_dom [] no_exs A) ((n, 1) ∷ []) refl (sym e)) ∙ q)
      one P (nested_fact x r d taken e n g k c) v q =
          let P' : Plan = value_plan finds_side x r d (named_tables x (table_names r d) taken) in
          subst (λ P. filter (is_plan_for a) (P ∷ Qs) ≡ filter (is_plan_for a) (atoms (P ∷ Qs))) (sym e)
          (ap (λ b. if b then P' ∷ filter (is_plan_for a) Qs else filter (is_plan_for a) Qs)
          (v x r d (named_tables x (table_names r d) taken) (nested-sets (nested-form 250 d n)) (sym e)) ∙ q
          ∙ ap (λ b. filter (is_plan_for a) (if b then P' ∷ atoms Qs else atoms Qs))
          (sym (kept-apart finds_side x (named_tables x (table_names r d) taken) (kept-form 250 r d n g) (nested-form 250 d n))))

  shape-apart : (d : Dom) → is_shape d ≡ true → is_of_sets d ≡ true → ⊥
  shape-apart (set_dom ms es d) s h = no-yes s
  shape-apart d s h = no-yes h

  not-set : (a : Text) (m : Bool) → ScalarName S o h a m → (x : Text) (q : Repr) (d : Dom) (ns : List Named) → is_of_sets d ≡ true →
      In (value_plan finds_side x q d ns) Ps → same_text x a ≡ false
  not-set a m r x q d ns s i = go (same_text x a) refl
    where
      go : (b : Bool) → same_text x a ≡ b → same_text x a ≡ false
      go false z = z
      go true z =
          let e : d ≡ r.d = one-dom S o h f finds_side r.f a q Atom d r.d ns ((r.n, 0) ∷ [])
          (subst (λ z. In (value_plan finds_side z q d ns) Ps) (same_text-equal x a z) i) r.planned in
          absurd (shape-apart d (subst (λ z. is_shape z ≡ true) (sym e) r.scalar) s)

  -- The first view of a scalar is its cell.
  pub scalar-views : (a : Text) (m : Bool) → scalar_mark Ps a ≡ Some m → (c : Dom) →
      (vs : List Ex) × (map (view_by c) (filter (is_plan_for a) Ps) ≡ cell_for a (scalar_cell Ps a) ∷ vs)
  scalar-views a m e c =
      let q = scalar-atoms S o Ps (all-facts S o h) a in
      let v = first-view (atoms Ps) (are-atoms S o h) a m (ap (option_map (λ z. z.0)) (sym q) ∙ e) c in (
        v.0,
        ap (map (view_by c)) (plans-atoms Ps (all-facts S o h) a (not-set a m (scalar-name S o h a m e)))
            ∙ v.1 ∙ ap (λ z. cell_for a z ∷ v.0) (sym q),
      )

  -- ---- sets

  -- Where no atom has the name, plans for it are plans of it.
  pub same-tests : (x : Text) (Qs : List Plan) → Each Qs (PlanFact S o) →
      ((s : Side) (d : Dom) (n : Text) → In (value_plan s x Atom d ((n, 0) ∷ [])) Qs → is_shape d ≡ true → ⊥) →
      filter (is_plan_for x) Qs ≡ filter (is_plan_of x) Qs
  same-tests x [] w u = refl
  same-tests x (P ∷ Qs) w u =
      ap (λ b. if b then P ∷ filter (is_plan_for x) Qs else filter (is_plan_for x) Qs) (one P w.0 (λ s d n e. u s d n (inl e)))
      ∙ ap (λ l. if is_plan_of x P then P ∷ l else l) (same-tests x Qs w.1 (λ s d n i. u s d n (inr i)))
    where
      at : (s : Side) (y : Text) (d : Dom) (n : Text) → is_shape d ≡ true →
          ((t : Side) (c : Dom) (m : Text) → value_plan t x Atom c ((m, 0) ∷ []) ≡ value_plan s y Atom d ((n, 0) ∷ []) →
          is_shape c ≡ true → ⊥) →
          (b : Bool) → same_text y x ≡ b → is_plan_for x (value_plan s y Atom d ((n, 0) ∷ []))
          ≡ is_plan_of x (value_plan s y Atom d ((n, 0) ∷ []))
      at finds_side y d n k v b q = refl
      at givens_side y d n k v false q = q
      at givens_side y d n k v true q =
          absurd (v givens_side d n (ap (λ z. value_plan givens_side z Atom d ((n, 0) ∷ [])) (sym (same_text-equal y x q))) k)

      one : (P : Plan) → PlanFact S o P → ((s : Side) (d : Dom) (n : Text) → value_plan s x Atom d ((n, 0) ∷ []) ≡ P →
          is_shape d ≡ true → ⊥) →
          is_plan_for x P ≡ is_plan_of x P
      one P (size_fact t n e) v = subst (λ P. is_plan_for x P ≡ is_plan_of x P) (sym e) refl
      one P (atom_fact k) v = subst (λ P. is_plan_for x P ≡ is_plan_of x P) (sym k.is)
          (at k.f k.x k.d k.n k.scalar (λ s d n e. v s d n (e ∙ sym k.is)) (same_text k.x x) refl)
      one P (set_fact y A n e m w) v = subst (λ P. is_plan_for x P ≡ is_plan_of x P) (sym e) refl
      one P (nested_fact y r d taken e n g k c) v = subst (λ P. is_plan_for x P ≡ is_plan_of x P) (sym e) refl

  -- A set has one plan.
  pub set-plans : (x : Text) (A : Dom) → SetFind S o h x A →
      filter (is_plan_for x) Ps ≡ value_plan finds_side x Occ (set_dom [] no_exs A) ((table_of Ps x, 1) ∷ []) ∷ []
  set-plans x A w =
      let P : Plan = value_plan finds_side x Occ (set_dom [] no_exs A) ((table_of Ps x, 1) ∷ []) in
      let i = set-planned S o h f x A w in
      let r = found-plan S o h x (typed-is-settled S f).distinct
      (subst (In x) (finds-prepared S) (find-is-named _ x (set_dom [] no_exs A) w.declared)) in
      let j : In P (r.0 ∷ []) = subst (In P) r.1 (in-filtered (is_plan_of x) P Ps i (same_text-itself x)) in
      same-tests x Ps (all-facts S o h) (λ s d n k e.
      let q : set_dom [] no_exs A ≡ d = one-dom S o h f finds_side s x Occ Atom (set_dom [] no_exs A) d ((table_of Ps x, 1) ∷ [])
      ((n, 0) ∷ []) i k in
      let z : false ≡ true = ap is_shape q ∙ e in no-yes z)
      ∙ r.1 ∙ ap (λ Q. Q ∷ []) (only r.0 j)
    where
      only : (Q : Plan) → In (value_plan finds_side x Occ (set_dom [] no_exs A) ((table_of Ps x, 1) ∷ [])) (Q ∷ []) →
          Q ≡ value_plan finds_side x Occ (set_dom [] no_exs A) ((table_of Ps x, 1) ∷ [])
      only Q (inl e) = sym e
      only Q (inr i) = absurd i
