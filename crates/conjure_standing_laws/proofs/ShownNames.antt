-- What stands over tables in the place of names behind a specification of the class: the cells of scalars, the views of sets, and the
-- positions of values; and each domain over tables.
use Rattle.std.proofs.Common.{◌≡◌, refl, sym, ap, ◌∙◌, ℕ, suc, Bool, true, false, ◌||◌, if◌then◌else◌, List, [], ◌∷◌, ◌++◌, ◌⊎◌, inl, inr, filter, map, pos, Option, Some, None, option_map}
use Rattle.ess_semantics.specs.Lists.{or_default}
use Rattle.ess_semantics.specs.Values.{Text}
use Rattle.ess_semantics.specs.Order.{same_text}
use Rattle.ess_semantics.specs.Names.{Names, look, is_among}
use Rattle.ess_semantics.specs.Trees.{Ex, number_ex, name_ex, seen_ex, no_exs, Dom, bool_dom, int_dom, name_dom, set_dom, Stm, given, let_enum, find}
use Rattle.ess_semantics.specs.Prepared.{prepared}
use Rattle.ess_semantics.specs.Judgements.{fault}
use Rattle.ess_semantics.specs.Parameters.{all_declared}
use Rattle.ess_semantics.specs.Plans.{Options, Side, givens_side, finds_side, Plan, value_plan, plans, is_plan_for}
use Rattle.ess_semantics.specs.Models.{scalar_cell, cell_for}
use Rattle.ess_semantics.proofs.Tests.{and-left}
use Rattle.ess_semantics.proofs.Texts.{same_text-equal, same_text-itself}
use Rattle.conjure_laws.specs.Members.{In}
use Rattle.conjure_laws.specs.SetsOfAtoms.{TypeKind, fixed, sized, enum_values}
use Rattle.conjure_laws.specs.ModelsOfSets.{table_of, axis_for}
use Rattle.conjure_laws.proofs.Givens.{given-from}
use Rattle.conjure_laws.proofs.Statements.{plan-is-found}
use Rattle.conjure_laws.proofs.SetPlans.{Occ}
use Rattle.conjure_model_laws.specs.Shown.{Shows, in_place, shown_dom, range_of_type, view_by, with_views, with_declared, positions_from, shows_nothing, shows_of}
use Rattle.conjure_model_laws.specs.ToldApart.{told_dom}
use Rattle.ess_repr_laws.specs.StructureParts.{upto}
use Rattle.ess_flat_models_laws.specs.FlatSpecifications.{given_mark, mark_among, is_scalar_dom, scalar_mark}
use Rattle.ess_flat_models_laws.specs.FlatModels.{dom_with_cells}
use Rattle.ess_flat_models_laws.proofs.ScalarDomains.{Atom, is_shape}
use Rattle.conjure_standing_laws.proofs.BuiltShows.{told-scalar, shown-scalar, doms-behind}
use Rattle.ess_nested_laws.specs.NestedDomains.{is_nested_dom}
use Rattle.ess_mixed_models_laws.specs.MixedSpecifications.{places_by, kinds, places, is_of_sets, is_set_dom, are_mixed_statements, types_come_first, have_bounds}
use Rattle.ess_mixed_models_laws.specs.MixedModels.{axis_of}
use Rattle.ess_mixed_models_laws.proofs.NamedKinds.{no-yes, no-some, declared-one, MemberDom, of_numbers, of_truths, of_type}
use Rattle.ess_mixed_models_laws.proofs.DeclaredNames.{prepared-once}
use Rattle.ess_mixed_models_laws.proofs.ScalarCells.{given-cells, scalar-name}
use Rattle.ess_mixed_models_laws.proofs.SetFinds.{SetFind}
use Rattle.conjure_standing_laws.proofs.ShownPlans.{scalar-views, set-plans}
use Rattle.conjure_standing_laws.proofs.ShownPlaces.{Place, size_of, PlaceOf, place-of}

-- What was put in last is found.
pub at-itself : {A : Type 0} (t : Text) (v : A) (g : Names A) → look ((t, v) ∷ g) t ≡ Some v
at-itself t v g = ap (λ b. if b then Some v else look g t) (same_text-itself t)

-- The position of a value stands for its name.
position-at : (t : Text) (k : ℕ) (ns : List Text) (g : Names Ex) (n : Text) (v : Text × ℕ) → look (enum_values t k ns) n ≡ Some v →
    (look (positions_from k ns ++ g) n ≡ Some (number_ex (pos v.1))) × In n ns
position-at t k [] g n v e = absurd (no-some e)
position-at t k (m ∷ ns) g n v e = go (same_text m n) refl e (position-at t (suc k) ns g n v)
  where
    same : (x y : Text × ℕ) → Some x ≡ Some y → x ≡ y
    same x y q = cc

    go : (b : Bool) → same_text m n ≡ b → (if b then Some (t, k) else look (enum_values t (suc k) ns) n) ≡ Some v →
        (look (enum_values t (suc k) ns) n ≡ Some v → (look (positions_from (suc k) ns ++ g) n ≡ Some (number_ex (pos v.1))) × In n ns) →
        ((if b then Some (number_ex (pos k)) else look (positions_from (suc k) ns ++ g) n) ≡ Some (number_ex (pos v.1))) × ((n
        ≡ m) ⊎ In n ns)
    go true q e f = (ap (λ z. Some (number_ex (pos z.1))) (same (t, k) v e), inl (sym (same_text-equal m n q)))
    go false q e f = let r = f e in (r.0, inr r.1)

among : (xs : List Text) (g : Text → Option Bool) (a : Text) → mark_among xs g a ≡ Some false → (is_among xs a ≡ true) × (g a ≡ Some false)
among xs g a e = go (is_among xs a) refl e
  where
    go : (b : Bool) → is_among xs a ≡ b → (if b then g a else None) ≡ Some false → (is_among xs a ≡ true) × (g a ≡ Some false)
    go true q e = (q, e)
    go false q e = absurd (no-some e)

module _ (S : List Stm) (o : Options) (h : are_mixed_statements S o ≡ true) (f : fault S ≡ None)
    (ts : types_come_first [] (prepared S) ≡ true) (bs : have_bounds (plans S o) [] (prepared S) ≡ true) where
  abbrev Ps : List Plan
  Ps = plans S o

  abbrev sh : Shows
  sh = shows_of S o

  -- Givens that are numbers are scalars.
  pub marked : (a : Text) → given_mark Ps a ≡ Some false → scalar_mark Ps a ≡ Some false
  marked a m = ap (option_map (λ c. c.0)) (given-cells S o h a m).1

  start : Place S o (scalar-views S o h f) marked [] [] (prepared S) shows_nothing
  start = record {
    test = h;
    types = ts;
    bounds = bs;
    once = prepared-once S f;
    sizes = λ t k e. absurd (no-some e);
    apart = λ t k e. absurd (no-some e);
    seen = λ a i m. absurd (no-yes i);
    behind = λ a i. absurd (no-yes i);
  }

  -- The place of each statement.
  pub stm-place : (s : Stm) → In s (prepared S) → PlaceOf S o (scalar-views S o h f) marked s (kinds S) sh
  stm-place s i = place-of S o (scalar-views S o h f) marked (prepared S) [] [] shows_nothing start s i

  -- ---- scalars

  shape-apart : (d : Dom) → is_shape d ≡ true → is_of_sets d ≡ false
  shape-apart bool_dom s = refl
  shape-apart (int_dom rs es) s = refl
  shape-apart d s = absurd (no-yes s)

  past : (b c : Bool) → b ≡ false → b || c ≡ true → c ≡ true
  past false c q e = e
  past true c q e = absurd (no-yes (sym q))

  -- The domain of a scalar where it is declared.
  dom-at : (x : Text) (d : Dom) (xs : List Text) (u : Shows) → is_scalar_dom (mark_among xs (given_mark Ps)) d ≡ true →
      ((a : Text) → is_among xs a ≡ true → given_mark Ps a ≡ Some false → look u.first a ≡ Some (cell_for a (scalar_cell Ps a))) →
      look (with_declared Ps x d u).doms x ≡ Some (dom_with_cells Ps d)
  dom-at x d xs u b seen =
      ap (λ g. look g x) (doms-behind x (map (view_by (shown_dom u (told_dom d [] u.next).0)) (filter (is_plan_for x) Ps))
      (record u { doms = (x, shown_dom u (told_dom d [] u.next).0) ∷ u.doms; next = (told_dom d [] u.next).1 }))
      ∙ at-itself x (shown_dom u (told_dom d [] u.next).0) u.doms
      ∙ ap (λ q. Some (shown_dom u q.0)) (told-scalar (mark_among xs (given_mark Ps)) d u.next b)
      ∙ ap (λ z. Some z) (shown-scalar (mark_among xs (given_mark Ps)) Ps u
      (λ a e. let r = among xs (given_mark Ps) a e in ap (λ z. or_default z (name_ex a)) (seen a r.0 r.1)) d b)

  -- The domain of an atom over tables.
  pub scalar-dom : (s : Side) (x : Text) (d : Dom) (n : Text) → In (value_plan s x Atom d ((n, 0) ∷ [])) Ps → is_shape d ≡ true →
      look sh.doms x ≡ Some (dom_with_cells Ps d)
  scalar-dom givens_side x d n i k =
      let P = stm-place (given x d) (given-from (prepared S) o (all_declared S) _ x Atom d ((n, 0) ∷ []) i) in
      (P.same x (inl refl)).doms
      ∙ dom-at x d P.xs P.sh
      (and-left (is_scalar_dom (mark_among P.xs (given_mark Ps)) d) (have_bounds Ps (x ∷ P.xs) P.later) P.place.bounds) P.place.seen
  scalar-dom finds_side x d n i k =
      let P = stm-place (find x d) (plan-is-found S o x Atom d ((n, 0) ∷ []) i) in
      (P.same x (inl refl)).doms
      ∙ dom-at x d P.xs P.sh
      (past (is_of_sets d) (is_scalar_dom (mark_among P.xs (given_mark Ps)) d) (shape-apart d k)
      (and-left (is_of_sets d || is_scalar_dom (mark_among P.xs (given_mark Ps)) d)
      (have_bounds Ps P.xs P.later) P.place.bounds)) P.place.seen

  view-at : (a : Text) (m : Bool) (d : Dom) (u : Shows) → scalar_mark Ps a ≡ Some m →
      look (with_declared Ps a d u).first a ≡ Some (cell_for a (scalar_cell Ps a))
  view-at a m d u e =
      let v = scalar-views S o h f a m e (shown_dom u (told_dom d [] u.next).0) in
      ap (λ l. look (with_views a l (record u {
        doms = (a, shown_dom u (told_dom d [] u.next).0) ∷ u.doms;
        next =
            (told_dom d [] u.next).1;
      })).first a)
      v.1 ∙ at-itself a (cell_for a (scalar_cell Ps a)) u.first

  -- The cell of a scalar name is shown for it.
  pub names-shown : (a : Text) (m : Bool) → scalar_mark Ps a ≡ Some m → in_place sh.first a ≡ cell_for a (scalar_cell Ps a)
  names-shown a m e = let r = scalar-name S o h a m e in ap (λ z. or_default z (name_ex a)) (go r.f r.d r.n r.planned)
    where
      go : (s : Side) (d : Dom) (n : Text) → In (value_plan s a Atom d ((n, 0) ∷ [])) Ps →
          look sh.first a ≡ Some (cell_for a (scalar_cell Ps a))
      go givens_side d n i =
          let P = stm-place (given a d) (given-from (prepared S) o (all_declared S) _ a Atom d ((n, 0) ∷ []) i) in
          (P.same a (inl refl)).first ∙ view-at a m d P.sh e
      go finds_side d n i =
          let P = stm-place (find a d) (plan-is-found S o a Atom d ((n, 0) ∷ []) i) in (P.same a (inl refl)).first ∙ view-at a m d P.sh e

  -- ---- sets

  -- The view of a set.
  abbrev pub view_of : Text → Dom → Ex
  view_of x A = seen_ex Occ (set_dom [] no_exs (axis_of S o A)) (table_of Ps x ∷ []) no_exs

  -- The domain of a set where it is declared.
  set-dom-at : {A : Dom} (m : MemberDom (kinds S) A) (ks : Names TypeKind) (u : Shows) → is_set_dom ks (set_dom [] no_exs A) ≡ true →
      ((t : Text) (k : TypeKind) → look ks t ≡ Some k → look u.sizes t ≡ Some (size_of S o (scalar-views S o h f) marked k t)) →
      ((t : Text) (k : TypeKind) → look ks t ≡ Some k → look (kinds S) t ≡ Some k) →
      shown_dom u (told_dom (set_dom [] no_exs A) [] u.next).0 ≡ set_dom [] no_exs (axis_of S o A)
  set-dom-at of_numbers ks u s g e = refl
  set-dom-at of_truths ks u s g e = refl
  set-dom-at (of_type {t = t} {k = k} q) ks u s g e = go (look ks t) refl s
    where
      is-there : (r : Option TypeKind) → (elim r [ None ↦ false | Some z ↦ true ]) ≡ true → (j : TypeKind) × (r ≡ Some j)
      is-there None w = absurd (no-yes w)
      is-there (Some j) w = (j, refl)

      same : (j : TypeKind) → look (kinds S) t ≡ Some j →
          set_dom [] no_exs (range_of_type u.sizes t) ≡ set_dom [] no_exs (axis_for Ps t (Some j)) →
          set_dom [] no_exs (range_of_type u.sizes t) ≡ set_dom [] no_exs (axis_for Ps t (look (kinds S) t))
      same j w v = v ∙ ap (λ z. set_dom [] no_exs (axis_for Ps t z)) (sym w)

      ranged : (j : TypeKind) → look u.sizes t ≡ Some (size_of S o (scalar-views S o h f) marked j t) →
          set_dom [] no_exs (range_of_type u.sizes t) ≡ set_dom [] no_exs (axis_for Ps t (Some j))
      ranged (fixed n) w = ap (λ z. set_dom [] no_exs (elim z [ Some y ↦ upto y | None ↦ name_dom t ])) w
      ranged sized w = ap (λ z. set_dom [] no_exs (elim z [ Some y ↦ upto y | None ↦ name_dom t ])) w

      go : (r : Option TypeKind) → look ks t ≡ r → (elim r [ None ↦ false | Some z ↦ true ]) ≡ true →
          set_dom [] no_exs (range_of_type u.sizes t) ≡ set_dom [] no_exs (axis_for Ps t (look (kinds S) t))
      go None w v = absurd (no-yes v)
      go (Some j) w v = same j (e t j w) (ranged j (g t j w))

  or-no : (b : Bool) → b || false ≡ true → b ≡ true
  or-no true h = refl
  or-no false h = absurd (no-yes h)

  -- The types of members are known.
  types-known : {A : Dom} (m : MemberDom (kinds S) A) (ks : Names TypeKind) →
      is_set_dom ks (set_dom [] no_exs A) || is_nested_dom (set_dom [] no_exs A) ≡ true → is_set_dom ks (set_dom [] no_exs A) ≡ true
  types-known of_numbers ks h = refl
  types-known of_truths ks h = refl
  types-known (of_type {t = t} q) ks h = or-no (is_set_dom ks (set_dom [] no_exs (name_dom t))) h

  -- What is shown for a set, and its domain over tables.
  pub set-shown : (x : Text) (A : Dom) → SetFind S o h x A →
      (look sh.last x ≡ Some (view_of x A)) × (look sh.doms x ≡ Some (set_dom [] no_exs (axis_of S o A)))
  set-shown x A w =
      let d : Dom = set_dom [] no_exs A in
      let P = stm-place (find x (set_dom [] no_exs A)) w.declared in
      let u : Shows = P.sh in
      let k = P.same x (inl refl) in
      let c = set-dom-at w.members P.ks P.sh
      (types-known w.members P.ks (and-left (is_set_dom P.ks (set_dom [] no_exs A) || is_nested_dom (set_dom [] no_exs A))
      (types_come_first P.ks P.later) P.place.types)) P.place.sizes P.known in
      let vs = set-plans S o h f x A w in (
        k.last
            ∙ ap (λ Qs. look (with_views x (map (view_by (shown_dom u (told_dom d [] u.next).0)) Qs)
            (record u { doms = (x, shown_dom u (told_dom d [] u.next).0) ∷ u.doms; next = (told_dom d [] u.next).1 })).last x) vs
            ∙ at-itself x (seen_ex Occ (shown_dom u (told_dom d [] u.next).0) (table_of Ps x ∷ []) no_exs) u.last
            ∙ ap (λ z. Some (seen_ex Occ z (table_of Ps x ∷ []) no_exs)) c,
        k.doms
            ∙ ap (λ g. look g x) (doms-behind x (map (view_by (shown_dom u (told_dom d [] u.next).0)) (filter (is_plan_for x) Ps))
            (record u { doms = (x, shown_dom u (told_dom d [] u.next).0) ∷ u.doms; next = (told_dom d [] u.next).1 }))
            ∙ at-itself x (shown_dom u (told_dom d [] u.next).0) u.doms ∙ ap (λ z. Some z) c,
      )

  -- ---- values of enumerated types

  value-by : (s : Stm) (n : Text) (v : Text × ℕ) → In s (prepared S) → look (places_by s) n ≡ Some v →
      look sh.first n ≡ Some (number_ex (pos v.1))
  value-by (let_enum t ns) n v i e =
      let P = stm-place (let_enum t ns) i in
      let u : Shows = P.sh in
      let r = position-at t 1 ns u.first n v e in (P.same n (inr r.1)).first ∙ r.0
  value-by s n v i e = absurd (no-some e)

  -- The position of a value is shown for its name.
  pub value-shown : (n : Text) (v : Text × ℕ) → look (places S) n ≡ Some v → look sh.first n ≡ Some (number_ex (pos v.1))
  value-shown n v e = go (declared-one places_by (prepared S) [] n v e)
    where
      go : (look [] n ≡ Some v) ⊎ ((s : Stm) × In s (prepared S) × (look (places_by s) n ≡ Some v)) →
          look sh.first n ≡ Some (number_ex (pos v.1))
      go (inl q) = absurd (no-some q)
      go (inr r) = value-by r.0 n v r.1 r.2
