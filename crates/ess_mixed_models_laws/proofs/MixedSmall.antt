-- The declared domains of a model of the class are small where the numbers of the specification are.
use Rattle.std.proofs.Common.{◌≡◌, refl, sym, ap, ◌∙◌, subst, Bool, true, false, ◌&&◌, ◌||◌, not, if◌then◌else◌, List, [], ◌∷◌, inl, inr, map, ℤ, pos, ◌+ℤ◌, Option, Some, None}
use Rattle.std.specs.List.{list_all, list_any}
use Rattle.ess_semantics.specs.declared.words.Op2.{Op2}
use Rattle.ess_semantics.specs.Lists.{append_all}
use Rattle.ess_semantics.specs.Values.{Text}
use Rattle.ess_semantics.specs.Order.{same_text}
use Rattle.ess_semantics.specs.Names.{Names, look, keys, is_among}
use Rattle.ess_semantics.specs.Trees.{Repr, binary, plain_node, both_ends, number_ex, no_exs, more_exs, Dom, bool_dom, int_dom, set_dom, Stm, given, find}
use Rattle.ess_semantics.specs.TableNames.{Named, table_names, named_tables}
use Rattle.ess_semantics.specs.Kinds.{fits}
use Rattle.ess_nested_laws.specs.NestedDomains.{is_nested_dom}
use Rattle.ess_nested_laws.proofs.NestedForms.{nested-form, kept-form}
use Rattle.ess_nested_laws.proofs.NestedDenoted.{written_domain, nested-denoted}
use Rattle.ess_nested_tables_laws.proofs.ReckonedTables.{Numeral, tables-numeral}
use Rattle.ess_nested_tables_laws.proofs.SmallTables.{tables-small}
use Rattle.ess_semantics.specs.Tables.{Table}
use Rattle.ess_semantics.specs.Contexts.{Each}
use Rattle.ess_semantics.specs.DeclaredTables.{TableDecl}
use Rattle.ess_semantics.specs.Large.{in_64_bits, is_big, is_large, is_large_dom}
use Rattle.ess_semantics.specs.LargeModels.{decl_is_large, dom_is_large}
use Rattle.ess_semantics.specs.SizeNumbers.{numbers_are_small, numbers_of_statement_small, part_stays_small, types_are_small, with_next, numbers_of_plan}
use Rattle.ess_semantics.specs.Occurrences.{parts_of, parts_of_dom}
use Rattle.ess_semantics.specs.Meaning.{Env, TypeEntry, type_entry, cell_in}
use Rattle.ess_semantics.specs.ModelMeaning.{env_of_tables, as_bound}
use Rattle.ess_semantics.specs.Prepared.{prepared}
use Rattle.ess_semantics.specs.Assignments.{Assignment, nothing_given, placed}
use Rattle.ess_semantics.specs.Parameters.{all_declared, declared_domain, declared_size, in_each}
use Rattle.ess_semantics.specs.Judgements.{fault}
use Rattle.ess_semantics.specs.Plans.{Options, Side, givens_side, finds_side, Plan, value_plan, plans, plans_for}
use Rattle.ess_semantics.proofs.Tests.{and-left, and-right}
use Rattle.ess_repr_declare_laws.specs.DeclaredTrees.{axis_dom, trees_below}
use Rattle.conjure_model_laws.specs.IsBuiltFrom.{with_whole_names}
use Rattle.conjure_laws.specs.Members.{In}
use Rattle.conjure_laws.specs.Premises.{Instance, here, is_on}
use Rattle.conjure_laws.specs.SetsOfAtoms.{TypeKind, fixed, sized, range_dom}
use Rattle.conjure_laws.specs.ModelsOfSets.{axis_for}
use Rattle.conjure_laws.proofs.Lists.{at-item, all-items, in-filter, each-append, each-both, each-of-list, test-append}
use Rattle.conjure_laws.proofs.Statements.{plan-is-found}
use Rattle.conjure_laws.proofs.Givens.{given-from}
use Rattle.conjure_laws.proofs.PlacedStatements.{at-place}
use Rattle.conjure_laws.proofs.SetPlans.{Occ}
use Rattle.conjure_laws.proofs.SetScopes.{count_of}
use Rattle.ess_flat_models_laws.specs.FlatSpecifications.{given_mark, mark_among}
use Rattle.ess_flat_models_laws.proofs.Reckoned.{Held}
use Rattle.ess_flat_models_laws.proofs.GivenPlaces.{BoundsKnown}
use Rattle.ess_flat_models_laws.proofs.FlatPlans.{AtomPlan}
use Rattle.ess_flat_models_laws.proofs.FlatTexts.{each-mapped}
use Rattle.ess_flat_models_laws.proofs.ScalarDomains.{Atom, is_shape}
use Rattle.ess_flat_models_laws.proofs.SmallDomains.{dom-small}
use Rattle.ess_mixed_models_laws.specs.MixedSpecifications.{kinds, is_nested_plan, are_mixed_statements, is_of_sets, have_bounds}
use Rattle.ess_mixed_models_laws.specs.MixedModels.{mixed_decl, nested_decls, mixed_decls, axis_of}
use Rattle.ess_mixed_models_laws.proofs.NamedKinds.{MemberDom, of_numbers, of_truths, of_type, entry-of}
use Rattle.ess_mixed_models_laws.proofs.MixedPlans.{PlanFact, size_fact, atom_fact, set_fact, nested_fact, all-facts, set-single, atom-single}
use Rattle.ess_mixed_models_laws.proofs.NestedPlans.{renamed-have}
use Rattle.ess_mixed_models_laws.proofs.NestedSmall.{taken-small, each-small}
use Rattle.ess_mixed_models_laws.proofs.MixedLayers.{givens-single}
use Rattle.ess_mixed_models_laws.proofs.MixedCells.{single-decls, nested-decls, decls}
use Rattle.ess_mixed_models_laws.proofs.MixedGivens.{plan-bounds, dom-stays, given-has}
use Rattle.ess_mixed_models_laws.proofs.MixedPlaces.{PlaceKnown, places-known}
use Rattle.ess_mixed_models_laws.proofs.MixedSizes.{size-kinded, sizes-held, axis-stays}

-- Numbers that are small.
entry-small : (ts : List TypeEntry) (t : Text) (e : TypeEntry) → list_all in_64_bits (map (λ t. pos t.count) ts) ≡ true →
    type_entry ts t ≡ Some e → in_64_bits (pos e.count) ≡ true
entry-small [] t e h q = cc
entry-small (u ∷ ts) t e h q = go (same_text u.name t) q (entry-small ts t e
    (and-right (in_64_bits (pos u.count)) (list_all in_64_bits (map (λ t. pos t.count) ts)) h))
  where
    go : (b : Bool) → (elim b as (λ b. Option TypeEntry) [ true ↦ Some u | false ↦ type_entry ts t ]) ≡ Some e →
        (type_entry ts t ≡ Some e → in_64_bits (pos e.count) ≡ true) → in_64_bits (pos e.count) ≡ true
    go true q k =
        let z : u ≡ e = cc in
        ap (λ x. in_64_bits (pos x.count)) (sym z) ∙ and-left (in_64_bits (pos u.count))
        (list_all in_64_bits (map (λ t. pos t.count) ts)) h
    go false q k = k q

range-small : (a b : ℤ) (env : Env) → in_64_bits a ≡ true → in_64_bits b ≡ true →
    is_large_dom (int_dom (both_ends ∷ []) (more_exs (number_ex a) (more_exs (number_ex b) no_exs))) env ≡ false
range-small a b env e f = ap (λ x. not x || (not (in_64_bits b) || false)) e ∙ ap (λ x. not x || false) f

twice : (b c : Bool) → not (not b) && c ≡ true → b ≡ true
twice true c e = refl
twice false c e = cc

module _ (S : List Stm) (o : Options) (h : are_mixed_statements S o ≡ true) (f : fault S ≡ None)
    (bs : have_bounds (plans S o) [] (prepared S) ≡ true) (p : Assignment) (q : Names Table)
    (I : Instance S o p q) (small : numbers_are_small S o p ≡ true) where
  abbrev Ps : List Plan
  Ps = plans S o

  abbrev Gs : List Plan
  Gs = plans_for givens_side S o

  abbrev Fs : List Plan
  Fs = plans_for finds_side S o

  abbrev decl : Plan → TableDecl
  decl P = mixed_decl (kinds S) Ps P

  abbrev decls_of : Plan → List TableDecl
  decls_of P = mixed_decls (kinds S) Ps P

  abbrev statements_small : Bool
  statements_small = list_all (λ l. numbers_of_statement_small l.stm l.env) (placed S p nothing_given)

  abbrev plans_small : Bool
  plans_small = list_all in_64_bits (with_next (append_all (map (numbers_of_plan (here S p)) (plans S o))))

  -- The numbers of a statement are small in its place, where bounds are known.
  statement-small : (s : Stm) → In s (prepared S) → (z : Env) × ((numbers_of_statement_small s z ≡ true) × PlaceKnown S o p s z)
  statement-small s i = at-place S p nothing_given (λ s env. (numbers_of_statement_small s env ≡ true) × PlaceKnown S o p s env) s i
      (each-both (placed S p nothing_given) (λ l. numbers_of_statement_small l.stm l.env ≡ true) (λ l. PlaceKnown S o p l.stm l.env)
      (λ l. (numbers_of_statement_small l.stm l.env ≡ true) × PlaceKnown S o p l.stm l.env) (λ l x y. (x, y))
      (each-of-list (placed S p nothing_given) (λ l. numbers_of_statement_small l.stm l.env)
      (and-left statements_small plans_small (and-left (statements_small && plans_small) (types_are_small S p) small)))
      (places-known S o p f I.param bs))

  -- So are those of its domain.
  parts-small : (s : Stm) (d : Dom) → In s (prepared S) → declared_domain s ≡ Some d → declared_size s ≡ None →
      (z : Env) × ((list_all (λ e. part_stays_small e z) (parts_of_dom d) ≡ true) × PlaceKnown S o p s z)
  parts-small s d i k l =
      let z = statement-small s i in
      let y : list_all (λ e. part_stays_small e z.0) (parts_of_dom d) && true ≡ true =
      ap (λ u. in_each u (λ d. list_all (λ e. part_stays_small e z.0) (parts_of_dom d)) && true) (sym k)
      ∙ ap (λ u. in_each (declared_domain s) (λ d. list_all (λ e. part_stays_small e z.0) (parts_of_dom d))
      && in_each u (λ e. list_all (λ f. part_stays_small f z.0) (parts_of e))) (sym l) ∙ z.1.0 in
      (z.0, (and-left (list_all (λ e. part_stays_small e z.0) (parts_of_dom d)) true y, z.1.1))

  -- ---- atoms

  kept-small : (g : Side) (x : Text) (r : Repr) (d : Dom) (ns : List Named) → In (value_plan g x r d ns) Ps →
      (z : Env) × ((list_all (λ e. part_stays_small e z) (parts_of_dom d) ≡ true) × (is_of_sets d ≡ false → BoundsKnown Ps o p d z))
  kept-small givens_side x r d ns i =
      let z = parts-small (given x d) d (given-from (prepared S) o (all_declared S) _ x r d ns i) refl refl in (z.0, (z.1.0, λ q. z.1.1))
  kept-small finds_side x r d ns i =
      let z = parts-small (find x d) d (plan-is-found S o x r d ns i) refl refl in (z.0, (z.1.0, z.1.1))

  -- In their places bounds name givens whose cells hold what they are.
  held-there : (d : Dom) (env : Env) → (k : BoundsKnown Ps o p d env) → Held (mark_among k.names (given_mark Ps)) Ps env (env_of_tables q)
  held-there d env k a e =
      let r = among (is_among k.names a) (given_mark Ps a) refl e in
      let g = given-has S o h f p q I a false r.1 in
      g.held (env_of_tables q) (λ n t e. e) ∙ sym (k.known.known a g.v r.0 g.given)
    where
      among : (b : Bool) (m : Option Bool) → is_among k.names a ≡ b → (if b then m else None) ≡ Some false →
          (is_among k.names a ≡ true) × (m ≡ Some false)
      among true m q e = (q, e)
      among false m q e = cc

  shape-apart : (d : Dom) → is_shape d ≡ true → is_of_sets d ≡ false
  shape-apart bool_dom s = refl
  shape-apart (int_dom rs es) s = refl
  shape-apart d s = cc

  atom-small : (P : Plan) → In P Ps → (a : AtomPlan P) → decl_is_large (decls S o h) q (decl P) ≡ false
  atom-small P i a =
      let j = subst (λ P. In P Ps) a.is i in
      let z = kept-small a.f a.x Atom a.d ((a.n, 0) ∷ []) j in
      let k = z.1.1 (shape-apart a.d a.scalar) in
      subst (λ P. decl_is_large (decls S o h) q (decl P) ≡ false) (sym a.is)
      (ap (λ d. is_large_dom d (env_of_tables q)) (dom-stays S o h a.d (plan-bounds S o h a.f a.x a.d a.n j a.scalar))
      ∙ dom-small (mark_among k.names (given_mark Ps)) Ps z.0 (env_of_tables q) (held-there a.d z.0 k) a.d k.bounded z.1.0)

  -- ---- sets

  counts : list_all in_64_bits (map (λ t. pos t.count) (here S p).types) ≡ true
  counts =
      let ns : List ℤ = map (λ t. pos t.count) (here S p).types in
      and-left (list_all in_64_bits ns) (list_all in_64_bits (map (λ n. n +ℤ pos 1) ns))
      (sym (test-append in_64_bits ns (map (λ n. n +ℤ pos 1) ns))
      ∙ and-right (statements_small && plans_small) (types_are_small S p) small)

  bounds-small : (a b : ℤ) → (z : Env) × (list_all (λ e. part_stays_small e z) (parts_of_dom (set_dom [] no_exs (range_dom a b))) ≡ true) →
      (in_64_bits a ≡ true) × (in_64_bits b ≡ true)
  bounds-small a b k =
      let sa : Bool = part_stays_small (number_ex a) k.0 in
      let sb : Bool = part_stays_small (number_ex b) k.0 in
      let both : sa && (sb && true) ≡ true = k.1 in (
        twice (in_64_bits a) (not (is_large (plain_node (binary Op2.Plus) (more_exs (number_ex a) (more_exs (number_ex
            (pos 1)) no_exs))) k.0))
            (and-left sa (sb && true) both),
        twice (in_64_bits b) (not (is_large (plain_node (binary Op2.Plus) (more_exs (number_ex b) (more_exs (number_ex
            (pos 1)) no_exs))) k.0))
            (and-left sb true (and-right sa (sb && true) both)),
      )

  type-small : (t : Text) (k : TypeKind) → look (kinds S) t ≡ Some k → dom_is_large (decls S o h) q (axis_for Ps t (Some k)) ≡ false
  type-small t k e = go k e
      (let r = entry-of S f p I.param t k e in
      entry-small (here S p).types t (record { name = t; count = count_of p t k; names = r.0 }) counts r.1)
    where
      go : (k : TypeKind) → look (kinds S) t ≡ Some k → in_64_bits (pos (count_of p t k)) ≡ true →
          dom_is_large (decls S o h) q (axis_for Ps t (Some k)) ≡ false
      go (fixed m) e b = range-small (pos 1) (pos m) (env_of_tables q) refl b
      go sized e b =
          ap (λ c. not (in_64_bits (pos 1)) || (is_large (as_bound c) (env_of_tables q) || false)) (size-kinded S o h t e)
          ∙ ap (λ z. (is_big (cell_in false z (Some [])) || false) || false) (sizes-held S o h f p q I t e)
          ∙ ap (λ x. (not x || false) || false) b

  axis-small : {A : Dom} (m : MemberDom (kinds S) A) →
      (z : Env) × (list_all (λ e. part_stays_small e z) (parts_of_dom (set_dom [] no_exs A)) ≡ true) →
      dom_is_large (decls S o h) q (axis_dom (axis_of S o A)) ≡ false
  axis-small (of_numbers {a = a} {b = b}) k = let r = bounds-small a b k in range-small a b (env_of_tables q) r.0 r.1
  axis-small of_truths k = refl
  axis-small (of_type {t = t} {k = k} e) z =
      ap (λ z. dom_is_large (decls S o h) q (axis_dom (axis_for Ps t z))) e
      ∙ ap (dom_is_large (decls S o h) q) (axis-stays S o h t k) ∙ type-small t k e

  single-small : (P : Plan) → is_nested_plan (kinds S) P ≡ false → decl_is_large (decls S o h) q (decl P) ≡ false →
      Each (decls_of P) (λ d. decl_is_large (decls S o h) q d ≡ false)
  single-small P k e = subst (λ l. Each l (λ d. decl_is_large (decls S o h) q d ≡ false)) (sym (single-decls S o P k)) (e, tt)

  -- ---- nested sets

  nested-small : (x : Text) (r : Repr) (d : Dom) (taken : List Text) → is_nested_dom d ≡ true → fits r d ≡ true →
      In (value_plan finds_side x r d (named_tables x (table_names r d) taken)) Ps →
      Each (with_whole_names (keys (named_tables x (table_names r d) taken)) (trees_below false r d))
      (λ d. decl_is_large (decls S o h) q d ≡ false)
  nested-small x r d taken n g i =
      let ns : List Named = named_tables x (table_names r d) taken in
      let m = nested-form 250 d n in
      let w = kept-form 250 r d n g in
      let z = kept-small finds_side x r d ns i in
      let t = taken-small S o p small x r d ns (written_domain d) i (nested-denoted m (here S p)) in
      each-small (decls S o h) q (with_whole_names (keys ns) (trees_below false r d))
      (renamed-have Numeral (keys ns) (trees_below false r d) (tables-numeral false w))
      (renamed-have (λ e. is_large e (env_of_tables q) ≡ false) (keys ns) (trees_below false r d)
      (tables-small (env_of_tables q) false w z.0 z.1.0 t))

  plan-small : (P : Plan) → In P Ps → PlanFact S o P → Each (decls_of P) (λ d. decl_is_large (decls S o h) q d ≡ false)
  plan-small P i (size_fact t n e) =
      single-small P (ap (is_nested_plan (kinds S)) e) (subst (λ P. decl_is_large (decls S o h) q (decl P) ≡ false) (sym e) refl)
  plan-small P i (atom_fact a) =
      single-small P (ap (is_nested_plan (kinds S)) a.is ∙ atom-single S o a.f a.x a.d a.n a.scalar) (atom-small P i a)
  plan-small P i (set_fact x A n e m a) =
      single-small P (ap (is_nested_plan (kinds S)) e ∙ set-single S o x n m)
      (subst (λ P. decl_is_large (decls S o h) q (decl P) ≡ false) (sym e)
      (let z = kept-small finds_side x Occ (set_dom [] no_exs A) ((n, 1) ∷ []) (subst (λ P. In P Ps) e i) in
      ap (λ b. (b || false) || false) (axis-small m (z.0, z.1.0))))
  plan-small P i (nested_fact x r d taken e n g k c) =
      subst (λ l. Each l (λ d. decl_is_large (decls S o h) q d ≡ false)) (sym (nested-decls S o P k))
      (subst (λ P. Each (nested_decls P) (λ d. decl_is_large (decls S o h) q d ≡ false)) (sym e)
      (nested-small x r d taken n g (subst (λ P. In P Ps) e i)))

  none-any : {A : Type 0} (g : A → Bool) (xs : List A) → Each xs (λ x. g x ≡ false) → list_any g xs ≡ false
  none-any g [] w = refl
  none-any g (x ∷ xs) w = ap (λ b. b || list_any g xs) w.0 ∙ none-any g xs w.1

  at-plan : (P : Plan) → In P Ps → Each (decls_of P) (λ d. decl_is_large (decls S o h) q d ≡ false)
  at-plan P i = plan-small P i (at-item (PlanFact S o) Ps P (all-facts S o h) i)

  one-small : (P : Plan) → is_nested_plan (kinds S) P ≡ false → Each (decls_of P) (λ d. decl_is_large (decls S o h) q d ≡ false) →
      decl_is_large (decls S o h) q (decl P) ≡ false
  one-small P k w = (subst (λ l. Each l (λ d. decl_is_large (decls S o h) q d ≡ false)) (single-decls S o P k) w).0

  finds-small : (Qs : List Plan) → ((P : Plan) → In P Qs → In P Ps) →
      Each (append_all (map decls_of Qs)) (λ d. decl_is_large (decls S o h) q d ≡ false)
  finds-small [] f = tt
  finds-small (P ∷ Qs) f =
      each-append (λ d. decl_is_large (decls S o h) q d ≡ false) (decls_of P) (append_all (map decls_of Qs))
      (at-plan P (f P (inl refl))) (finds-small Qs (λ P j. f P (inr j)))

  -- No declaration is large.
  pub none-large : list_any (decl_is_large (decls S o h) q) (decls S o h) ≡ false
  none-large = none-any (decl_is_large (decls S o h) q) (decls S o h)
      (each-append (λ d. decl_is_large (decls S o h) q d ≡ false) (map decl Gs) (append_all (map decls_of Fs))
      (each-mapped decl (λ d. decl_is_large (decls S o h) q d ≡ false) Gs
      (all-items (λ P. decl_is_large (decls S o h) q (decl P) ≡ false) Gs
      (λ P i. one-small P (givens-single S o h f P i) (at-plan P (in-filter (is_on givens_side) P Ps i).0))))
      (finds-small Fs (λ P i. (in-filter (is_on finds_side) P Ps i).0)))
