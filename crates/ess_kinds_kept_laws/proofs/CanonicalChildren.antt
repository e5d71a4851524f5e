-- Children of views whose tables are canonical.
use Rattle.std.proofs.Common.{◌≡◌, refl, sym, ap, ◌∙◌, subst, ℕ, zero, suc, Bool, true, false, ◌||◌, not, List, [], ◌∷◌, take, drop, ℤ, Option, Some, None, option_map}
use Rattle.std.specs.List.{list_all}
use Rattle.ess_semantics.specs.declared.words.ReprKind.{ReprKind}
use Rattle.ess_semantics.specs.Lists.{and_then, is_some_and}
use Rattle.ess_semantics.specs.Values.{Text, Value}
use Rattle.ess_semantics.specs.Trees.{Repr, Reprs, repr, no_reprs, more_reprs, Ex, Exs, seen_ex, Dom, function_dom, relation_dom, partition_dom}
use Rattle.ess_semantics.specs.Domains.{Domain, functions, relations, partitions}
use Rattle.ess_semantics.specs.Membership.{member}
use Rattle.ess_semantics.specs.Operators.{false_where_undefined}
use Rattle.ess_semantics.specs.Sizes.{child_set, child_relation, child_parts}
use Rattle.ess_semantics.specs.Tables.{Tables}
use Rattle.ess_semantics.specs.Cells.{Cells, behind, cells_at}
use Rattle.ess_semantics.specs.Layers.{Layer}
use Rattle.ess_semantics.specs.Representations.{layer, width, own_part, child_part, places, is_used, value_of_cells}
use Rattle.ess_semantics.specs.CanonicalTest.{canonical, children_are_canonical, child_is_canonical}
use Rattle.ess_semantics.specs.Declarations.{axes_of}
use Rattle.ess_semantics.specs.Tidy.{tidy_cells, is_orderly}
use Rattle.ess_semantics.specs.Meaning.{Env, meaning, meanings, attributes_of, domain_of, domains_of, indices, tables_in, is_bool_dom, seen_in}
use Rattle.ess_semantics.proofs.Tests.{and-left, and-right, and-both, some-and}
use Rattle.ess_repr_declare_laws.specs.SizeTerms.{size_terms}
use Rattle.ess_repr_laws.specs.Rooms.{AllCovered}
use Rattle.ess_repr_laws.specs.StructureParts.{tuple_set_dom}
use Rattle.ess_repr_laws.specs.ViewParts.{pair_relation_dom, part_set_dom}
use Rattle.ess_repr_laws.proofs.CanonicalParts.{asked_of, parts-of}
use Rattle.ess_repr_laws.proofs.CanonicalForms.{right}
use Rattle.ess_views_laws.specs.ChildViews.{kept_as}
use Rattle.ess_views_kept_laws.specs.ChildrenKept.{ChildDenoted, ChildKnown}
use Rattle.ess_views_kept_laws.proofs.ChildViews.{relation-parts, function-parts, partition-parts}
use Rattle.ess_kinds_kept_laws.specs.CanonicalChildren.{AtChildren, canonical_in, IsCanonical, IsCovered, CanonicalChildren}

no : {A : Type 0} → false ≡ true → A
no h = cc

-- ---- each child

-- What is asked of a layer of canonical cells.
layer-asked : (k : ReprKind) (rs : Reprs) (d : Domain) (c : Cells) (l : Layer) → layer k d ≡ Some l → canonical (repr k rs) d c ≡ true →
    asked_of l rs (own_part k c) (child_part k c) ≡ true
layer-asked k rs d c l q h = sym (ap (λ o. is_some_and o (λ l. asked_of l rs (own_part k c) (child_part k c))) q) ∙ h

children-at : (l : Layer) (own : Cells) (rs : Reprs) (ds : List Domain) (c : Cells) → children_are_canonical l own rs ds c ≡ true →
    AtChildren canonical l own rs ds c
children-at l own no_reprs ds c h = tt
children-at l own (more_reprs r rs) [] c h = tt
children-at l own (more_reprs r rs) (d ∷ ds) c h = (
  and-right _ _ (and-left _ _ (and-left _ _ (and-left (child_is_canonical l own (axes_of r d) (canonical r d) (take (width r) c)) _ h))),
  children-at l own rs ds (drop (width r) c)
      (and-right (child_is_canonical l own (axes_of r d) (canonical r d) (take (width r) c)) _ h),
)

children-canonical : (k : ReprKind) (rs : Reprs) (d : Domain) (c : Cells) (l : Layer) → layer k d ≡ Some l →
    canonical (repr k rs) d c ≡ true → AtChildren canonical l (own_part k c) rs l.children (child_part k c)
children-canonical k rs d c l q h = children-at l (own_part k c) rs l.children (child_part k c)
    (parts-of l rs (own_part k c) (child_part k c) (layer-asked k rs d c l q h)).inside

tidied : (u p t : List ℤ → Bool) (js : List (List ℤ)) → ((j : List ℤ) → p j ≡ true → t j ≡ true) →
    list_all (λ j. not (u j) || p j) js ≡ true → list_all (λ j. not (u j) || t j) js ≡ true
tidied u p t [] f h = refl
tidied u p t (j ∷ js) f h = and-both (not (u j) || t j) (list_all (λ j. not (u j) || t j) js)
    (go (not (u j)) (p j) refl (and-left (not (u j) || p j) _ h)) (tidied u p t js f (and-right (not (u j) || p j) _ h))
  where
    go : (b c : Bool) → p j ≡ c → b || c ≡ true → b || t j ≡ true
    go true c e z = refl
    go false true e z = f j e
    go false false e z = no z

tidy-at : (l : Layer) (own : Cells) (rs : Reprs) (ds : List Domain) (c : Cells) → AllCovered rs ds → AtChildren canonical l own rs ds c →
    AtChildren tidy_cells l own rs ds c
tidy-at l own no_reprs ds c a h = tt
tidy-at l own (more_reprs r rs) [] c a h = tt
tidy-at l own (more_reprs r rs) (d ∷ ds) c a h = (
  tidied (is_used l.in_use own) (λ js. canonical r d (behind js (take (width r) c))) (λ js. tidy_cells r d (behind js (take (width r) c)))
      (places l) (λ j q. (right r d a.0).tidies (behind j (take (width r) c)) q) h.0,
  tidy-at l own rs ds (drop (width r) c) a.1 h.1,
)

-- ---- a child as which a value is kept

behind-none : (c : Cells) → behind [] c ≡ c
behind-none [] = refl
behind-none (f ∷ fs) = ap (λ gs. f ∷ gs) (behind-none fs)

all-taken : (n : ℕ) (c : Cells) → drop n c ≡ [] → take n c ≡ c
all-taken zero c h = sym h
all-taken (suc n) [] h = refl
all-taken (suc n) (f ∷ fs) h = ap (λ l. f ∷ l) (all-taken n fs h)

-- Nothing is left behind an only child.
nothing-left : (l : Layer) (own : Cells) (r : Repr) (d : Domain) (c : Cells) →
    children_are_canonical l own (more_reprs r no_reprs) (d ∷ []) c ≡ true → drop (width r) c ≡ []
nothing-left l own r d c h =
    go (drop (width r) c) (and-right (child_is_canonical l own (axes_of r d) (canonical r d) (take (width r) c)) _ h)
  where
    go : (c : Cells) → children_are_canonical l own no_reprs [] c ≡ true → c ≡ []
    go [] h = refl
    go (f ∷ fs) h = no h

only-one : (o : Option Domain) (x : Domain) → option_map (λ y. y ∷ []) o ≡ Some (x ∷ []) → o ≡ Some x
only-one None x q = cc
only-one (Some y) x q = ap first_or q
  where
    first_or : Option (List Domain) → Option Domain
    first_or (Some (y ∷ ys)) = Some y
    first_or o = None

module _ (k : ReprKind) (r : Repr) (pd cd : Dom) (ns : List Text) (js : Exs) (env : Env) (no-bool : is_bool_dom cd ≡ false) where
  abbrev Whole : Ex
  Whole = seen_ex (repr k (more_reprs r no_reprs)) pd ns js

  abbrev Child : Ex
  Child = seen_ex r cd ns js

  known : (D C : Domain) (l : Layer) → domain_of pd env ≡ Some D → layer k D ≡ Some l → l.children ≡ C ∷ [] →
      ((own : Cells) → child_part k own ≡ own) → ((ts : Cells) → is_used l.in_use (own_part k ts) [] ≡ true) → places l ≡ [] ∷ [] →
      (ts : Tables) (i : List ℤ) → tables_in env.cells ns ≡ Some ts → indices (meanings js env) ≡ Some i →
      canonical (repr k (more_reprs r no_reprs)) D (cells_at ts i) ≡ true → ChildDenoted Whole Child env → IsCovered Child env →
      ChildKnown Whole Child env
  known D C l dq lq cq whole used at ts i tq iq h den cov = record { denoted = den; held = (member-held, cov.1) }
    where
      c : Cells
      c = cells_at ts i

      child-is : domain_of cd env ≡ Some C
      child-is = only-one (domain_of cd env) C (den
          ∙ ap (λ o. and_then o (λ e. option_map (λ l. l.children) (layer k e))) dq ∙ ap (option_map (λ l. l.children)) lq ∙ ap Some cq)

      inside : children_are_canonical l (own_part k c) (more_reprs r no_reprs) (C ∷ []) (child_part k c) ≡ true
      inside = ap (λ ds. children_are_canonical l (own_part k c) (more_reprs r no_reprs) ds (child_part k c)) (sym cq)
          ∙ (parts-of l (more_reprs r no_reprs) (own_part k c) (child_part k c)
          (layer-asked k (more_reprs r no_reprs) D c l lq h)).inside

      tested : list_all (λ js. not (is_used l.in_use (own_part k c) js) || canonical r C (behind js (take (width r) (child_part k c))))
          ([] ∷ []) ≡ true
      tested = ap (list_all (λ js. not (is_used l.in_use (own_part k c) js) || canonical r C (behind js (take (width r) (child_part k c)))))
          (sym at) ∙ (children-at l (own_part k c) (more_reprs r no_reprs) (C ∷ []) (child_part k c) inside).0

      cells-are : behind [] (take (width r) (child_part k c)) ≡ c
      cells-are = behind-none (take (width r) (child_part k c))
          ∙ all-taken (width r) (child_part k c) (nothing-left l (own_part k c) r C (child_part k c) inside) ∙ whole c

      is-canonical : canonical r C c ≡ true
      is-canonical = ap (canonical r C) (sym cells-are)
          ∙ sym (ap (λ b. not b || canonical r C (behind [] (take (width r) (child_part k c)))) (used c))
          ∙ and-left (not (is_used l.in_use (own_part k c) []) || canonical r C (behind [] (take (width r) (child_part k c)))) true tested

      found : (v : Value) × (value_of_cells r C c ≡ Some v) × (member C v ≡ true)
      found = some-and (value_of_cells r C c) (member C)
          (and-left _ (is_orderly r C c) ((right r C (cov.0 C child-is)).tidies c is-canonical))

      child-means : meaning Child env ≡ Some found.0
      child-means =
          ap (λ b. false_where_undefined b (seen_in r (domain_of cd env) (tables_in env.cells ns) (indices (meanings js env)))) no-bool
          ∙ ap (λ z. seen_in r z (tables_in env.cells ns) (indices (meanings js env))) child-is
          ∙ ap (λ z. seen_in r (Some C) z (indices (meanings js env))) tq
          ∙ ap (seen_in r (Some C) (Some ts)) iq ∙ found.1

      member-held : is_some_and (domain_of cd env) (λ e. is_some_and (meaning Child env) (member e)) ≡ true
      member-held = ap (λ o. is_some_and o (λ e. is_some_and (meaning Child env) (member e))) child-is
          ∙ ap (λ o. is_some_and o (member C)) child-means ∙ found.2

  -- From canonical tables.
  from-tables : (t : Option Tables) (i : Option (List ℤ)) (D : Domain) → domain_of pd env ≡ Some D → tables_in env.cells ns ≡ t →
      indices (meanings js env) ≡ i → canonical_in (repr k (more_reprs r no_reprs)) (Some D) t i ≡ true →
      ((ts : Tables) (i : List ℤ) → tables_in env.cells ns ≡ Some ts → indices (meanings js env) ≡ Some i →
      canonical (repr k (more_reprs r no_reprs)) D (cells_at ts i) ≡ true → ChildKnown Whole Child env) → ChildKnown Whole Child env
  from-tables (Some ts) (Some i) D dq tq iq h f = f ts i tq iq h
  from-tables (Some ts) None D dq tq iq h f = no h
  from-tables None i D dq tq iq h f = no h

  domain-there : (o : Option Domain) (t : Option Tables) (i : Option (List ℤ)) → domain_of pd env ≡ o →
      canonical_in (repr k (more_reprs r no_reprs)) o t i ≡ true → (D : Domain) × (domain_of pd env ≡ Some D)
  domain-there (Some D) t i q h = (D, q)
  domain-there None t i q h = no h

abbrev KnownAnswer : Option Ex → Ex → Env → Type 0
KnownAnswer None e env = Unit {0}
KnownAnswer (Some c) e env = ChildDenoted e c env → IsCovered c env → IsCanonical e env → ChildKnown e c env

known-answer : (e : Ex) (env : Env) → KnownAnswer (kept_as e) e env
known-answer (seen_ex (repr ReprKind.RelationAsSet (more_reprs r no_reprs)) (relation_dom ms es ds) ns js) env = λ den cov h.
    let o = domain-there ReprKind.RelationAsSet r (relation_dom ms es ds) (tuple_set_dom ms es ds) ns js env refl
    (domain_of (relation_dom ms es ds) env) (tables_in env.cells ns) (indices (meanings js env)) refl h in
    let p = relation-parts (attributes_of ms (meanings es env)) (domains_of ds env) o.0 o.1 in
    let dq : domain_of (relation_dom ms es ds) env ≡ Some (relations p.0 p.1) = o.1 ∙ ap Some p.2 in
    from-tables ReprKind.RelationAsSet r (relation_dom ms es ds) (tuple_set_dom ms es ds) ns js env refl (tables_in env.cells ns)
    (indices (meanings js env)) (relations p.0 p.1) dq refl refl
    (ap (λ z. canonical_in (repr ReprKind.RelationAsSet (more_reprs r no_reprs)) z (tables_in env.cells ns) (indices (meanings js env)))
    (sym dq) ∙ h)
    (λ ts i tq iq c. known ReprKind.RelationAsSet r (relation_dom ms es ds) (tuple_set_dom ms es ds) ns js env refl (relations p.0 p.1)
    (child_set p.0 p.1) _ dq refl refl (λ own. refl) (λ ts. refl) refl ts i tq iq c den cov)
known-answer (seen_ex (repr ReprKind.FunctionAsRelation (more_reprs r no_reprs)) (function_dom ms es d e) ns js) env = λ den cov h.
    let o = domain-there ReprKind.FunctionAsRelation r (function_dom ms es d e) (pair_relation_dom size_terms ms es d e) ns js env refl
    (domain_of (function_dom ms es d e) env) (tables_in env.cells ns) (indices (meanings js env)) refl h in
    let p = function-parts (attributes_of ms (meanings es env)) (domain_of d env) (domain_of e env) o.0 o.1 in
    let dq : domain_of (function_dom ms es d e) env ≡ Some (functions p.0 p.1 p.2) = o.1 ∙ ap Some p.3 in
    from-tables ReprKind.FunctionAsRelation r (function_dom ms es d e) (pair_relation_dom size_terms ms es d e) ns js env refl
    (tables_in env.cells ns) (indices (meanings js env)) (functions p.0 p.1 p.2) dq refl refl
    (ap (λ z. canonical_in (repr ReprKind.FunctionAsRelation (more_reprs r no_reprs)) z (tables_in env.cells ns)
    (indices (meanings js env))) (sym dq) ∙ h)
    (λ ts i tq iq c. known ReprKind.FunctionAsRelation r (function_dom ms es d e) (pair_relation_dom size_terms ms es d e) ns js env refl
    (functions p.0 p.1 p.2) (child_relation p.0 p.1 p.2) _ dq refl refl (λ own. refl) (λ ts. refl) refl ts i tq iq c den cov)
known-answer (seen_ex (repr ReprKind.PartitionAsSet (more_reprs r no_reprs)) (partition_dom ms es d) ns js) env = λ den cov h.
    let o = domain-there ReprKind.PartitionAsSet r (partition_dom ms es d) (part_set_dom size_terms ms es d) ns js env refl
    (domain_of (partition_dom ms es d) env) (tables_in env.cells ns) (indices (meanings js env)) refl h in
    let p = partition-parts (attributes_of ms (meanings es env)) (domain_of d env) o.0 o.1 in
    let dq : domain_of (partition_dom ms es d) env ≡ Some (partitions p.0 p.1) = o.1 ∙ ap Some p.2 in
    from-tables ReprKind.PartitionAsSet r (partition_dom ms es d) (part_set_dom size_terms ms es d) ns js env refl (tables_in env.cells ns)
    (indices (meanings js env)) (partitions p.0 p.1) dq refl refl
    (ap (λ z. canonical_in (repr ReprKind.PartitionAsSet (more_reprs r no_reprs)) z (tables_in env.cells ns) (indices (meanings js env)))
    (sym dq) ∙ h)
    (λ ts i tq iq c. known ReprKind.PartitionAsSet r (partition_dom ms es d) (part_set_dom size_terms ms es d) ns js env refl
    (partitions p.0 p.1) (child_parts p.0 p.1) _ dq refl refl (λ own. refl) (λ ts. refl) refl ts i tq iq c den cov)
known-answer _ env = tt

pub canonical-children : CanonicalChildren
canonical-children = record {
  are_canonical = children-canonical;
  are_tidy = λ k rs d c l q h a. tidy-at l (own_part k c) rs l.children (child_part k c) a (children-canonical k rs d c l q h);
  are_known = λ e c q env den cov h. subst (λ z. KnownAnswer z e env) q (known-answer e env) den cov h;
}
