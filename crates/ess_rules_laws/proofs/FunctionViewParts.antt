-- A view of a function whose structure is met: its parts are there, and its child's tables have its axes behind each argument.
use Rattle.std.proofs.Common.{◌≡◌, refl, sym, ap, ◌∙◌, suc, ◌≤◌, true, false, ◌&&◌, List, [], ◌∷◌, ◌++◌, map, drop, length, ℤ, pos, Option, Some, None, option_map, arith}
use Rattle.std.specs.Prelude.{IsTrue}
use Rattle.ess_semantics.specs.declared.words.ReprKind.{ReprKind}
use Rattle.ess_semantics.specs.Lists.{and_then}
use Rattle.ess_semantics.specs.Values.{Text, Value}
use Rattle.ess_semantics.specs.Order.{same_ints}
use Rattle.ess_semantics.specs.Names.{look}
use Rattle.ess_semantics.specs.Trees.{Mark, Repr, repr, no_reprs, more_reprs, Exs, seen_ex, Dom, function_dom}
use Rattle.ess_semantics.specs.Domains.{Attribute, Domain, functions}
use Rattle.ess_semantics.specs.Tables.{Table, Tables, same_axes, is_filled}
use Rattle.ess_semantics.specs.Cells.{Axes}
use Rattle.ess_semantics.specs.FunctionLayers.{total_layer, partial_layer}
use Rattle.ess_semantics.specs.Representations.{layer, width, value_of_tables}
use Rattle.ess_semantics.specs.Declarations.{Declaration, declared_own, under, leaves_out, declarations_below, declarations_of_children, axes_of}
use Rattle.ess_semantics.specs.Tidy.{over_axes, tidy}
use Rattle.ess_semantics.specs.Meaning.{Env, meaning, meanings, attributes_of, domain_of, indices, tables_in, seen_in}
use Rattle.ess_semantics.specs.Meets.{Meets, tidy_in}
use Rattle.ess_semantics.proofs.Tests.{and-left, and-right, and-both}
use Rattle.ess_rules_laws.proofs.TablesOfViews.{axes_in, axes-same, axes-long, tables-short, over-long}

no : {A : Type 0} → false ≡ true → A
no h = cc

-- ---- the parts of a view

module _ (R : Repr) (ms : List Mark) (es : Exs) (dd ce : Dom) (names : List Text) (js : Exs) (env : Env) where
  -- The domains, tables and numbers that a view has, at which its tables are tidy.
  pub record Opened : Type 0 where
    pub ks : List Attribute
    pub d : Domain
    pub c : Domain
    pub tables : Tables
    pub i : List ℤ
    pub attributes_are : attributes_of ms (meanings es env) ≡ Some ks
    pub first_is : domain_of dd env ≡ Some d
    pub second_is : domain_of ce env ≡ Some c
    pub tables_are : tables_in env.cells names ≡ Some tables
    pub index_is : indices (meanings js env) ≡ Some i
    pub is_tidy : tidy R (functions ks d c) tables i ≡ true

  abbrev View_dom : Option (List Attribute) → Option Domain → Option Domain → Option Domain
  View_dom a o p = and_then a (λ ks. and_then o (λ x. option_map (functions ks x) p))

  open-parts : (a : Option (List Attribute)) (o p : Option Domain) (t : Option Tables) (k : Option (List ℤ)) →
      attributes_of ms (meanings es env) ≡ a → domain_of dd env ≡ o → domain_of ce env ≡ p → tables_in env.cells names ≡ t →
      indices (meanings js env) ≡ k → IsTrue (tidy_in R (View_dom a o p) t k) → Opened
  open-parts (Some ks) (Some d) (Some c) (Some t) (Some i) qa qd qc qt qi h = record {
    ks = ks;
    d = d;
    c = c;
    tables = t;
    i = i;
    attributes_are = qa;
    first_is = qd;
    second_is = qc;
    tables_are = qt;
    index_is = qi;
    is_tidy = h;
  }
  open-parts (Some ks) (Some d) (Some c) (Some t) None qa qd qc qt qi h = no h
  open-parts (Some ks) (Some d) (Some c) None k qa qd qc qt qi h = no h
  open-parts (Some ks) (Some d) None t k qa qd qc qt qi h = no h
  open-parts (Some ks) None p t k qa qd qc qt qi h = no h
  open-parts None o p t k qa qd qc qt qi h = no h

  -- Where the structure is met they are there.
  pub opened : Meets (seen_ex R (function_dom ms es dd ce) names js) env → Opened
  opened m = open-parts (attributes_of ms (meanings es env)) (domain_of dd env) (domain_of ce env) (tables_in env.cells names)
      (indices (meanings js env)) refl refl refl refl refl m.0

  -- The view means what its tables stand for.
  pub view-is : (o : Opened) → meaning (seen_ex R (function_dom ms es dd ce) names js) env ≡
      value_of_tables R (functions o.ks o.d o.c) o.tables o.i
  view-is o =
      ap (λ a. seen_in R (View_dom a (domain_of dd env) (domain_of ce env)) (tables_in env.cells names) (indices (meanings js env)))
      o.attributes_are
      ∙ ap (λ a. seen_in R (View_dom (Some o.ks) a (domain_of ce env)) (tables_in env.cells names) (indices (meanings js env))) o.first_is
      ∙ ap (λ a. seen_in R (View_dom (Some o.ks) (Some o.d) a) (tables_in env.cells names) (indices (meanings js env))) o.second_is
      ∙ ap (λ a. seen_in R (Some (functions o.ks o.d o.c)) a (indices (meanings js env))) o.tables_are
      ∙ ap (seen_in R (Some (functions o.ks o.d o.c)) (Some o.tables)) o.index_is

-- The first table and the others.
pub tables-split : (m : Text) (names : List Text) (env : Env) (tables : Tables) → tables_in env.cells (m ∷ names) ≡ Some tables →
    (t : Table) × (ts : Tables) × (look env.cells m ≡ Some t) × (tables_in env.cells names ≡ Some ts) × (tables ≡ t ∷ ts)
tables-split m names env tables q = go (look env.cells m) (tables_in env.cells names) refl refl q
  where
    go : (o : Option Table) (p : Option Tables) → look env.cells m ≡ o → tables_in env.cells names ≡ p →
        and_then o (λ x. option_map (λ xs. x ∷ xs) p) ≡ Some tables →
        (t : Table) × (ts : Tables) × (look env.cells m ≡ Some t) × (tables_in env.cells names ≡ Some ts) × (tables ≡ t ∷ ts)
    go None p a b e = cc
    go (Some t) None a b e = cc
    go (Some t) (Some ts) a b e = (t, ts, a, b, sym (let z : t ∷ ts ≡ tables = cc in z))

-- ---- axes behind an argument

drop-none : {A : Type 0} (i : List ℤ) (xs : List A) → xs ≡ [] → drop (length i) xs ≡ []
drop-none [] xs q = q
drop-none (k ∷ i) [] q = refl
drop-none (k ∷ i) (x ∷ xs) q = cc

drop-behind : {A : Type 0} (i j : List ℤ) (xs : List A) → drop (length (i ++ j)) xs ≡ drop (length j) (drop (length i) xs)
drop-behind [] j xs = refl
drop-behind (k ∷ i) j [] = sym (drop-none j [] refl)
drop-behind (k ∷ i) j (x ∷ xs) = drop-behind i j xs

axes-dropped : (j : List ℤ) (xs as' bs : Axes) → length j ≡ length as' → same_axes xs (as' ++ bs) ≡ true →
    same_axes (drop (length j) xs) bs ≡ true
axes-dropped [] xs [] bs n h = h
axes-dropped [] xs (a ∷ as') bs n h = cc
axes-dropped (k ∷ j) xs [] bs n h = cc
axes-dropped (k ∷ j) [] (a ∷ as') bs n h = no h
axes-dropped (k ∷ j) (x ∷ xs) (a ∷ as') bs n h =
    axes-dropped j xs as' bs (let e : suc (length j) ≡ suc (length as') = n in cc) (and-right (same_ints x a) _ h)

-- Tables over axes with further axes in front are, behind an index for each of these, over the axes.
pub over-indices : (i j : List ℤ) (as' : Axes) (ds : List Declaration) (ts : Tables) → length j ≡ length as' →
    over_axes i (axes_in (under as' ds ++ [])) ts ≡ true →
    over_axes (i ++ j) (axes_in ds) ts ≡ true
over-indices i j as' [] [] n h = refl
over-indices i j as' [] (t ∷ ts) n h = h
over-indices i j as' (d ∷ ds) [] n h = h
over-indices i j as' (d ∷ ds) (t ∷ ts) n h =
    and-both (is_filled t && same_axes (drop (length (i ++ j)) t.axes) d.axes) _
    (and-both (is_filled t) _ (and-left _ _ (and-left _ _ h))
    (ap (λ z. same_axes z d.axes) (drop-behind i j t.axes)
    ∙ axes-dropped j (drop (length i) t.axes) as' d.axes n (and-right (is_filled t) _ (and-left _ _ h))))
    (over-indices i j as' ds ts n (and-right _ _ h))

-- An index for each axis.
some-place : (as' : Axes) → (j : List ℤ) × (length j ≡ length as')
some-place [] = ([], refl)
some-place (a ∷ as') = let r = some-place as' in (pos 0 ∷ r.0, ap suc r.1)

-- So there are no more tables than the child has.
pub over-short : (r : Repr) (c : Domain) (axes : Axes) (i : List ℤ) (ts : Tables) →
    ((j : List ℤ) → length j ≡ length axes → over_axes (i ++ j) (axes_of r c) ts ≡ true) → length ts ≤ width r
over-short r c axes i ts h = let p = some-place axes in let a = over-long (i ++ p.0) (axes_of r c) ts (h p.0 p.1) in
    let b = axes-long (declarations_below false r c) in let e = tables-short false r c in omega arith

module _ (k : ReprKind) (r : Repr) (ks : List Attribute) (d c : Domain) (axes : Axes) (i : List ℤ) where
  -- So it is of the child of a total function.
  pub total-over : layer k (functions ks d c) ≡ Some (total_layer ks axes d c) → (ts : Tables) →
      tidy (repr k (more_reprs r no_reprs)) (functions ks d c) ts i ≡ true →
      (j : List ℤ) → length j ≡ length axes → over_axes (i ++ j) (axes_of r c) ts ≡ true
  total-over is_layer ts h j n = over-indices i j axes (declarations_below false r c) ts n
      (ap (λ o. over_axes i (axes_in (elim o [
        | None ↦ []
        | Some l ↦ map (declared_own false) l.own ++ declarations_of_children (leaves_out l.in_use)
            (more_reprs r no_reprs) l.children l.axes
      ])) ts) (sym is_layer) ∙ and-left _ _ h)

  -- And of the child of one with flags, whose table has the axes themselves.
  pub partial-over : (index : Value → List ℤ) → layer k (functions ks d c) ≡ Some (partial_layer ks axes index d c) → (t : Table)
      (ts : Tables) → tidy (repr k (more_reprs r no_reprs)) (functions ks d c) (t ∷ ts) i ≡ true →
      (same_axes (drop (length i) t.axes) axes ≡ true) ×
      ((j : List ℤ) → length j ≡ length axes → over_axes (i ++ j) (axes_of r c) ts ≡ true)
  partial-over index is_layer t ts h = let a = ap (λ o. over_axes i (axes_in (elim o [
    | None ↦ []
    | Some l ↦ map (declared_own false) l.own ++ declarations_of_children (leaves_out l.in_use) (more_reprs r no_reprs) l.children l.axes
  ])) (t ∷ ts)) (sym is_layer) ∙ and-left _ _ h in (
    and-right _ _ (and-left _ _ a),
    λ j n. ap (λ z. over_axes (i ++ j) z ts) (sym (axes-same true r c))
        ∙ over-indices i j axes (declarations_below true r c) ts n (and-right _ _ a),
  )
