-- A view of an atom means what its cell means.
use Rattle.std.proofs.Common.{◌≡◌, refl, sym, ap, ◌∙◌, Bool, true, false, List, [], ◌∷◌, ◌++◌, ℤ, pos, Option, Some, None, option_map}
use Rattle.ess_semantics.specs.declared.words.ReprKind.{ReprKind}
use Rattle.ess_semantics.specs.Lists.{and_then, is_some_and}
use Rattle.ess_semantics.specs.Values.{Text, Value, number, truth}
use Rattle.ess_semantics.specs.Names.{look}
use Rattle.ess_semantics.specs.Trees.{Repr, repr, no_reprs, Ex, Exs, cell_ex, seen_ex, Dom, bool_dom, int_dom, name_dom, tuple_dom, record_dom, matrix_dom, set_dom, mset_dom, function_dom, relation_dom, partition_dom}
use Rattle.ess_semantics.specs.Domains.{Attribute, Domain, booleans, integers, tuples, records, matrices, sets, msets, functions, relations, partitions, between}
use Rattle.ess_semantics.specs.Membership.{member}
use Rattle.ess_semantics.specs.Operators.{as_truth, false_where_undefined}
use Rattle.ess_semantics.specs.Tables.{Table, Tables, cell_at, truth_of, atom_value}
use Rattle.ess_semantics.specs.Cells.{cells_at}
use Rattle.ess_semantics.specs.Layers.{Layer}
use Rattle.ess_semantics.specs.Representations.{layer, own_part, child_part, places_in_use, values_of_children, value_of_tables}
use Rattle.ess_semantics.specs.Tidy.{tidy, over_axes, is_orderly}
use Rattle.ess_semantics.specs.Declarations.{axes_of}
use Rattle.ess_semantics.specs.Meaning.{Env, TypeEntry, meaning, meanings, attributes_of, domain_of, domains_of, indices, tables_in, type_entry, named_domain, is_bool_dom, cell_value, cell_in, seen_in}
use Rattle.ess_semantics.specs.Meets.{Meets, tidy_in}
use Rattle.ess_semantics.specs.Kept.{Keeps}
use Rattle.ess_semantics.proofs.Tests.{and-left, and-right}
use Rattle.ess_rules_laws.specs.AtomViews.{atom_cell, AtomCounts}
use Rattle.ess_rules_laws.proofs.RuleAnswers.{AnswerKeeps, fires}

no : {A : Type 0} → false ≡ true → A
no h = cc

abbrev atom : Repr
atom = repr ReprKind.Atom no_reprs

append-nil : (i : List ℤ) → i ++ [] ≡ i
append-nil [] = refl
append-nil (k ∷ i) = ap (λ l. k ∷ l) (append-nil i)

-- ---- what an atom is not

-- Tables are tidy for no other domain.
no-atom : {A : Type 0} (e : Domain) (ts : Tables) (i : List ℤ) → layer ReprKind.Atom e ≡ None → tidy atom e ts i ≡ true → A
no-atom e ts i q h = no (sym (ap (λ o. is_some_and (and_then o (λ l.
    and_then (places_in_use l (own_part ReprKind.Atom (cells_at ts i)))
    (λ js. and_then (values_of_children no_reprs l.children (child_part ReprKind.Atom (cells_at ts i)) js)
    (l.built (own_part ReprKind.Atom (cells_at ts i)))))) (member e)) q)
    ∙ and-left _ (is_orderly atom e (cells_at ts i)) (and-right (over_axes i (axes_of atom e) ts) _ h))

module _ {A : Type 0} (t : Option Tables) (k : Option (List ℤ)) where
  -- Nor where the domain is there as another one.
  no-domain : (o : Option Domain) → ((e : Domain) → o ≡ Some e → layer ReprKind.Atom e ≡ None) → tidy_in atom o t k ≡ true → A
  no-domain None f h = no h
  no-domain (Some e) f h = go t k h
    where
      go : (t : Option Tables) (k : Option (List ℤ)) → tidy_in atom (Some e) t k ≡ true → A
      go None k h = no h
      go (Some ts) None h = no h
      go (Some ts) (Some i) h = no-atom e ts i (f e refl) h

  no-map : {B : Type 0} (F : B → Domain) → ((x : B) → layer ReprKind.Atom (F x) ≡ None) → (o : Option B) →
      tidy_in atom (option_map F o) t k ≡
      true → A
  no-map F f None h = no h
  no-map F f (Some x) h = no-domain (Some (F x)) (λ e q. ap (λ o. layer-of o) (sym q) ∙ f x) h
    where
      layer-of : Option Domain → Option Layer
      layer-of None = None
      layer-of (Some e) = layer ReprKind.Atom e

  no-two : {B C : Type 0} (F : B → C → Domain) → ((x : B) (y : C) → layer ReprKind.Atom (F x y) ≡ None) → (o : Option B) (p : Option C) →
      tidy_in atom (and_then o (λ x. option_map (F x) p)) t k ≡ true → A
  no-two F f None p h = no h
  no-two F f (Some x) p h = no-map (F x) (f x) p h

-- ---- the cell

module _ (n : Text) (js : Exs) (env : Env) where
  -- The cell, Boolean or not.
  abbrev Cell : Bool → Option Value
  Cell b = false_where_undefined b (cell_in b (look env.cells n) (indices (meanings js env)))

  abbrev Seen : Bool → Option Domain → Option Value
  Seen b o = false_where_undefined b (seen_in atom o (tables_in env.cells (n ∷ [])) (indices (meanings js env)))

  -- What stands there, with the table and the numbers.
  opened : (o : Option Domain) (t : Option Table) (k : Option (List ℤ)) → look env.cells n ≡ t → indices (meanings js env) ≡ k →
      tidy_in atom o (and_then t (λ x. option_map (λ xs. x ∷ xs) (Some []))) k ≡ true →
      (e : Domain) × (x : Table) × (i : List ℤ) × (o ≡ Some e) × (look env.cells n ≡ Some x) × (indices (meanings js env) ≡ Some i)
  opened None t k a b h = no h
  opened (Some e) None k a b h = no h
  opened (Some e) (Some x) None a b h = no h
  opened (Some e) (Some x) (Some i) a b h = (e, x, i, refl, a, b)

  module _ (o : Option Domain) (e : Domain) (x : Table) (i : List ℤ) (qo : o ≡ Some e) (qx : look env.cells n ≡ Some x)
      (qi : indices (meanings js env) ≡ Some i) where
    seen-is : (b : Bool) → Seen b o ≡ false_where_undefined b (value_of_tables atom e (x ∷ []) i)
    seen-is b = ap (λ z. false_where_undefined b (seen_in atom z (tables_in env.cells (n ∷ [])) (indices (meanings js env)))) qo
        ∙ ap (λ z. false_where_undefined b (seen_in atom (Some e) (and_then z (λ t. option_map (λ us. t ∷ us) (Some [])))
        (indices (meanings js env)))) qx
        ∙ ap (λ z. false_where_undefined b (seen_in atom (Some e) (Some (x ∷ [])) z)) qi

    cell-is : (b : Bool) → Cell b ≡ false_where_undefined b (option_map (cell_value b) (cell_at x i))
    cell-is b = ap (λ z. false_where_undefined b (cell_in b z (indices (meanings js env)))) qx
        ∙ ap (λ z. false_where_undefined b (cell_in b (Some x) z)) qi

    at-nil : (G : Option ℤ → Option Value) → G (cell_at x (i ++ [])) ≡ G (cell_at x i)
    at-nil G = ap (λ l. G (cell_at x l)) (append-nil i)

  whole-same : (o : Option ℤ) → and_then o (λ z. Some (number z)) ≡ option_map (cell_value false) o
  whole-same None = refl
  whole-same (Some z) = refl

  truth-same : (o : Option ℤ) → as_truth (and_then o (atom_value booleans)) ≡ as_truth (option_map (cell_value true) o)
  truth-same None = refl
  truth-same (Some z) = go (truth_of z)
    where
      go : (p : Option Bool) → as_truth (option_map truth p) ≡ as_truth (Some (truth (elim p [ Some b ↦ b | None ↦ false ])))
      go None = refl
      go (Some b) = refl

  -- Of numbers.
  whole-atom : (o : Option Domain) → ((e : Domain) → o ≡ Some e → (ts : Tables) (i : List ℤ) → value_of_tables atom e ts i ≡
      value_of_tables atom (integers []) ts i) →
      tidy_in atom o (tables_in env.cells (n ∷ [])) (indices (meanings js env)) ≡ true → Seen false o ≡ Cell false
  whole-atom o f h = let p = opened o (look env.cells n) (indices (meanings js env)) refl refl h in
      seen-is o p.0 p.1 p.2 p.3 p.4 p.5 false ∙ f p.0 p.3 (p.1 ∷ []) p.2
      ∙ at-nil o p.0 p.1 p.2 p.3 p.4 p.5 (λ z. and_then z (λ y. Some (number y))) ∙ whole-same (cell_at p.1 p.2)
      ∙ sym (cell-is o p.0 p.1 p.2 p.3 p.4 p.5 false)

  -- Of truth values.
  truth-atom : tidy_in atom (Some booleans) (tables_in env.cells (n ∷ [])) (indices (meanings js env)) ≡ true →
      Seen true (Some booleans) ≡ Cell true
  truth-atom h = let p = opened (Some booleans) (look env.cells n) (indices (meanings js env)) refl refl h in
      seen-is (Some booleans) booleans p.1 p.2 refl p.4 p.5 true
      ∙ at-nil (Some booleans) booleans p.1 p.2 refl p.4 p.5 (λ z. Some (truth (as_truth (and_then z (atom_value booleans)))))
      ∙ ap (λ b. Some (truth b)) (truth-same (cell_at p.1 p.2)) ∙ sym (cell-is (Some booleans) booleans p.1 p.2 refl p.4 p.5 true)

  -- Domains of numbers.
  of-integers : {B : Type 0} (F : B → Domain) → ((x : B) (ts : Tables) (i : List ℤ) → value_of_tables atom (F x) ts i ≡
      value_of_tables atom (integers []) ts i) → (o : Option B) → (e : Domain) → option_map F o ≡ Some e → (ts : Tables) (i : List ℤ) →
      value_of_tables atom e ts i ≡ value_of_tables atom (integers []) ts i
  of-integers F f None e q ts i = cc
  of-integers F f (Some x) e q ts i = ap (λ z. value_of_tables atom z ts i) (sym (let y : F x ≡ e = cc in y)) ∙ f x ts i

  atom-means : (d : Dom) → AtomCounts (seen_ex atom d (n ∷ []) js) env → Meets (seen_ex atom d (n ∷ []) js) env →
      meaning (seen_ex atom d (n ∷ []) js) env ≡ meaning (cell_ex (is_bool_dom d) n js) env
  atom-means bool_dom c m = truth-atom m.0
  atom-means (int_dom rs es) c m = whole-atom (domain_of (int_dom rs es) env) (of-integers integers (λ x ts i. refl) _) m.0
  atom-means (name_dom a) c m = whole-atom (named_domain env.positions a (type_entry env.types a))
      (λ e q ts i. go (type_entry env.types a) e (sym (ap (λ p. named_domain p a (type_entry env.types a)) c) ∙ q) ts i) m.0
    where
      go : (o : Option TypeEntry) (e : Domain) → named_domain true a o ≡ Some e → (ts : Tables) (i : List ℤ) →
          value_of_tables atom e ts i ≡ value_of_tables atom (integers []) ts i
      go None e q ts i = cc
      go (Some t) e q ts i = ap (λ z. value_of_tables atom z ts i) (sym (let y : between (pos 1) (pos t.count) ≡ e = cc in y))
  atom-means (tuple_dom ds) c m = no-map _ _ tuples (λ x. refl) (domains_of ds env) m.0
  atom-means (record_dom fs ds) c m = no-map _ _ (records fs) (λ x. refl) (domains_of ds env) m.0
  atom-means (matrix_dom is d) c m = no-two _ _ matrices (λ x y. refl) (domains_of is env) (domain_of d env) m.0
  atom-means (set_dom ms es d) c m = no-two _ _ sets (λ x y. refl) (attributes_of ms (meanings es env)) (domain_of d env) m.0
  atom-means (mset_dom ms es d) c m = no-two _ _ msets (λ x y. refl) (attributes_of ms (meanings es env)) (domain_of d env) m.0
  atom-means (function_dom ms es d e) c m = go (attributes_of ms (meanings es env)) m.0
    where
      go : {A : Type 0} (o : Option (List Attribute)) → tidy_in atom (and_then o (λ ks. and_then (domain_of d env)
          (λ x. option_map (functions ks x) (domain_of e env)))) (tables_in env.cells (n ∷ [])) (indices (meanings js env)) ≡ true → A
      go None h = no h
      go (Some ks) h = no-two _ _ (functions ks) (λ x y. refl) (domain_of d env) (domain_of e env) h
  atom-means (relation_dom ms es ds) c m = no-two _ _ relations (λ x y. refl) (attributes_of ms (meanings es env)) (domains_of ds env) m.0
  atom-means (partition_dom ms es d) c m = no-two _ _ partitions (λ x y. refl) (attributes_of ms (meanings es env)) (domain_of d env) m.0

atom-answer : (e : Ex) (env : Env) → AtomCounts e env → AnswerKeeps (atom_cell e) e env
atom-answer (seen_ex (repr ReprKind.Atom no_reprs) d (n ∷ []) js) env c = λ m. (atom-means n js env d c m, m.2)
atom-answer _ env c = tt

-- Views of atoms are cells.
pub atom_cell-keeps : (e f : Ex) → atom_cell e ≡ Some f → (env : Env) → AtomCounts e env → Keeps e f env
atom_cell-keeps e f q env c = fires (atom_cell e) e f env (atom-answer e env c) q
