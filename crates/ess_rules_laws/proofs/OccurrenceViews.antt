-- Views of sets and relations that are kept as a truth value for each possible member: the test of a member is its cell, and a
-- relation offers the tuples that occur, in order.
use Rattle.std.proofs.Common.{◌≡◌, refl, sym, ap, ◌∙◌, subst, Bool, true, false, if◌then◌else◌, List, [], ◌∷◌, ◌++◌, filter, length, ℕ, ℤ, Option, Some, None, option_map}
use Rattle.std.specs.Prelude.{is_some}
use Rattle.ess_semantics.specs.declared.words.Op2.{Op2}
use Rattle.ess_semantics.specs.declared.words.ReprKind.{ReprKind}
use Rattle.ess_semantics.specs.Lists.{and_then}
use Rattle.ess_semantics.specs.Values.{Text, a_set, a_relation, Value, truth, items_of}
use Rattle.ess_semantics.specs.Trees.{tuple_literal, repr, no_reprs, Ex, Exs, node_ex, seen_ex, ex2, no_exs, more_exs, bool_dom, tuple_dom, set_dom, relation_dom}
use Rattle.ess_semantics.specs.Domains.{Domain, Domains, booleans, tuples, sets, relations, members}
use Rattle.ess_semantics.specs.Operators.{as_truth}
use Rattle.ess_semantics.specs.Layers.{codes_of}
use Rattle.ess_semantics.specs.Representations.{value_of_tables}
use Rattle.ess_semantics.specs.Tidy.{tidy}
use Rattle.ess_semantics.specs.Meaning.{Env, meaning, meanings, attributes_of, bind, domain_of, domains_of, members_in, indices, collect, where_true}
use Rattle.ess_semantics.specs.Contexts.{Each, EachOf}
use Rattle.ess_semantics.specs.Meets.{Meets}
use Rattle.ess_semantics.specs.Kept.{Keeps}
use Rattle.ess_semantics.proofs.Orders.{to_list-of_list}
use Rattle.ess_rules_laws.specs.ComponentRules.{has_text}
use Rattle.ess_rules_laws.specs.Listings.{Alternative}
use Rattle.ess_rules_laws.specs.ListedSources.{OffersInOrder}
use Rattle.ess_rules_laws.specs.SetListings.{InOrderWhereMet}
use Rattle.ess_rules_laws.specs.FunctionViews.{Run, by_names, names_fit, flag_at, NamesUnused}
use Rattle.ess_rules_laws.specs.OccurrenceViews.{relation_matrix_listing, TuplesThere, cell_of_member, member_by_cell, ToldIn, MemberTold}
use Rattle.ess_rules_laws.proofs.Agreement.{outside}
use Rattle.ess_rules_laws.proofs.Bindings.{each-map}
use Rattle.ess_rules_laws.proofs.RuleAnswers.{AnswerKeeps, fires}
use Rattle.ess_rules_laws.proofs.Results.{meanings-append, indices-append, append-met, flag-is, flag-met}
use Rattle.ess_rules_laws.proofs.Lookups.{single}
use Rattle.ess_rules_laws.proofs.FunctionResults.{collect-passing, each-filtered, Here, Keyed}
use Rattle.ess_rules_laws.proofs.ArgumentRuns.{atom_index, atom-members-there}
use Rattle.ess_rules_laws.proofs.TupleRuns.{tuple_index, axes_over, tuple-members-there, runs-over_tuple}
use Rattle.ess_rules_laws.proofs.FunctionKeys.{literal-keys}
use Rattle.ess_rules_laws.proofs.OccurrenceTests.{parts, parts-mean, occurs, occurring, occurs-holds, test-is}

no : {A : Type 0} → false ≡ true → A
no h = cc

-- Both parts of a domain that is there.
two-parts : {B C : Type 0} (F : B → C → Domain) (o : Option B) (p : Option C) (d : Domain) → and_then o (λ x. option_map (F x) p) ≡ Some d →
    (x : B) × (y : C) × (p ≡ Some y) × (F x y ≡ d)
two-parts F None p d q = cc
two-parts F (Some x) None d q = cc
two-parts F (Some x) (Some y) d q = (x, y, refl, let z : F x y ≡ d = cc in z)

-- ---- the cell of a member

cell-answer : (v a : Ex) (env : Env) → ToldIn v a env → Meets v env → Meets a env →
    AnswerKeeps (cell_of_member v a) (ex2 true Op2.Member a v) env
cell-answer (seen_ex (repr ReprKind.Occurrence no_reprs) (set_dom ms es d) (n ∷ []) js) a env h m k = λ y.
    let p = parts (repr ReprKind.Occurrence no_reprs) (set_dom ms es d) n js env m in
    let q = two-parts sets (attributes_of ms (meanings es env)) (domain_of d env) p.d p.domain_is in
    let t : tidy (repr ReprKind.Occurrence no_reprs) (sets q.0 q.1) (p.t ∷ []) p.i ≡ true =
    ap (λ z. tidy (repr ReprKind.Occurrence no_reprs) z (p.t ∷ []) p.i) q.3 ∙ p.is_tidy in
    let u : members q.1 ≡ Some h.members = sym (ap members_in q.2) ∙ h.are_members in (
      test-is (seen_ex (repr ReprKind.Occurrence no_reprs) (set_dom ms es d) (n ∷ []) js) a env h.value a_set _ js (more_exs a no_exs) n p.t
          (p.i ++ atom_index h.value) h.is_value
          (parts-mean (repr ReprKind.Occurrence no_reprs) (set_dom ms es d) n js env refl p
          ∙ ap (λ z. value_of_tables (repr ReprKind.Occurrence no_reprs) z (p.t ∷ []) p.i) (sym q.3)
          ∙ occurring ReprKind.Occurrence (sets q.0 q.1) q.1 a_set atom_index (codes_of q.1 ∷ []) (λ g. refl) refl p.t p.i t h.members u)
          (to_list-of_list _)
          (occurs-holds ReprKind.Occurrence (sets q.0 q.1) q.1 a_set atom_index (codes_of q.1 ∷ []) (λ g. refl) refl p.t p.i t h.members u
          (atom-members-there q.1 h.members u) h.value h.is_told)
          (ap indices (meanings-append js (more_exs a no_exs) env)
          ∙ indices-append (meanings js env) (meanings (more_exs a no_exs) env) p.i (atom_index h.value) p.index_is
          (ap (λ z. indices (z ∷ [])) h.is_value))
          p.table_is,
      append-met js (more_exs a no_exs) env m.2 (k, tt),
    )
cell-answer (seen_ex (repr ReprKind.RelationAsMatrix no_reprs) (relation_dom ms es ds) (n ∷ []) js)
    (node_ex false tuple_literal as') env h m k =
    λ y.
    let p = parts (repr ReprKind.RelationAsMatrix no_reprs) (relation_dom ms es ds) n js env m in
    let q = two-parts relations (attributes_of ms (meanings es env)) (domains_of ds env) p.d p.domain_is in
    let t : tidy (repr ReprKind.RelationAsMatrix no_reprs) (relations q.0 q.1) (p.t ∷ []) p.i ≡ true =
    ap (λ z. tidy (repr ReprKind.RelationAsMatrix no_reprs) z (p.t ∷ []) p.i) q.3 ∙ p.is_tidy in
    let u : members (tuples q.1) ≡ Some h.members = sym (ap (λ o. members_in (option_map tuples o)) q.2) ∙ h.are_members in (
      test-is (seen_ex (repr ReprKind.RelationAsMatrix no_reprs) (relation_dom ms es ds) (n ∷ []) js) (node_ex false tuple_literal as') env
          h.value a_relation _ js as' n p.t (p.i ++ tuple_index h.value) h.is_value
          (parts-mean (repr ReprKind.RelationAsMatrix no_reprs) (relation_dom ms es ds) n js env refl p
          ∙ ap (λ z. value_of_tables (repr ReprKind.RelationAsMatrix no_reprs) z (p.t ∷ []) p.i) (sym q.3)
          ∙ occurring ReprKind.RelationAsMatrix (relations q.0 q.1) (tuples q.1) a_relation tuple_index (axes_over q.1)
          (λ g. refl) refl p.t p.i t
          h.members u)
          (to_list-of_list _)
          (occurs-holds ReprKind.RelationAsMatrix (relations q.0 q.1) (tuples q.1) a_relation tuple_index (axes_over q.1)
          (λ g. refl) refl p.t p.i t
          h.members u (tuple-members-there q.1 h.members u).0 h.value h.is_told)
          (ap indices (meanings-append js as' env)
          ∙ indices-append (meanings js env) (meanings as' env) p.i (tuple_index h.value) p.index_is
          (literal-keys as' env h.value h.is_value))
          p.table_is,
      append-met js as' env m.2 k,
    )
cell-answer v a env h m k = tt

member-answer : (e : Ex) (env : Env) → MemberTold e env → Meets e env → AnswerKeeps (member_by_cell e) e env
member-answer (ex2 true Op2.Member a v) env h m = cell-answer v a env h m.1.0 m.0
member-answer _ env h m = tt

-- A term is a member where the cell there is true.
pub member_by_cell-keeps : (e f : Ex) → member_by_cell e ≡ Some f → (env : Env) → MemberTold e env → Keeps e f env
member_by_cell-keeps e f q env h m = fires (member_by_cell e) e f env (member-answer e env h m) q m

-- ---- the tuples of a relation

-- A generator over arguments lists them.
arguments-listed : (n : Text → Bool) (u : Run) (index : Value → List ℤ) (many : ℕ) (env : Env) (ys : List Value) →
    Each ys (Keyed n u index many env) → collect ys (λ v. single (meaning u.argument (Here n u index many env v))) ≡ Some ys
arguments-listed n u index many env [] h = refl
arguments-listed n u index many env (y ∷ ys) h =
    ap (λ o. and_then (single o) (λ xs. option_map (λ zs. xs ++ zs)
    (collect ys (λ v. single (meaning u.argument (Here n u index many env v)))))) h.0.argument
    ∙ ap (option_map (λ zs. y ∷ zs)) (arguments-listed n u index many env ys h.1)

in-order-so : (b : Bool) (a : Alternative) (e : Ex) (env : Env) → (b ≡ true → OffersInOrder e a env) →
    InOrderWhereMet (if b then Some a else None) e env
in-order-so true a e env h = h refl
in-order-so false a e env h = tt

module _ (xs : List Text) (ds : Domains) (env : Env) where
  -- Under the names of a tuple.
  abbrev At : Value → Env
  At v = Here (outside (has_text xs)) (by_names xs) tuple_index (length (axes_over ds)) env v

  -- The tuple, where the cell there is true.
  abbrev Tested : Text → Exs → Value → Option (List Value)
  Tested n js v = where_true (meaning (flag_at n js (by_names xs).keys) (At v)) (λ u. single (meaning (by_names xs).argument (At v)))

-- Relations kept as a truth value for each possible tuple.
pub relation_matrix-listed : (xs : List Text) (e : Ex) (env : Env) → NamesUnused xs e → Meets e env → TuplesThere e env →
    InOrderWhereMet (relation_matrix_listing xs e) e env
relation_matrix-listed xs (seen_ex (repr ReprKind.RelationAsMatrix no_reprs) (relation_dom ms es ds) (n ∷ []) js) env new m h =
    in-order-so (names_fit xs ds) _ _ env (λ fit.
    let p = parts (repr ReprKind.RelationAsMatrix no_reprs) (relation_dom ms es ds) n js env m in
    let q = two-parts relations (attributes_of ms (meanings es env)) (domains_of ds env) p.d p.domain_is in
    let t : tidy (repr ReprKind.RelationAsMatrix no_reprs) (relations q.0 q.1) (p.t ∷ []) p.i ≡ true =
    ap (λ z. tidy (repr ReprKind.RelationAsMatrix no_reprs) z (p.t ∷ []) p.i) q.3 ∙ p.is_tidy in
    let there : is_some (members (tuples q.1)) ≡ true = subst (λ o. is_some (members_in (option_map tuples o)) ≡ true) q.2 h in
    let runs = runs-over_tuple xs env ds q.1 fit q.2 there in
    let s : members_in (domain_of (tuple_dom ds) env) ≡ Some runs.us = ap (λ o. members_in (option_map tuples o)) q.2 ∙ runs.are_members in
    let o : Value → Bool = occurs ReprKind.RelationAsMatrix (relations q.0 q.1) (tuples q.1) a_relation tuple_index (axes_over q.1)
    (λ g. refl) refl
    p.t p.i t runs.us runs.are_members in
    let says : (v : Value) → Keyed (outside (has_text xs)) (by_names xs) tuple_index (length (axes_over q.1)) env v →
    meaning (flag_at n js (by_names xs).keys) (At xs q.1 env v) ≡ Some (truth (o v)) = λ v k.
    flag-is (outside (has_text xs)) bool_dom js [] (repr ReprKind.RelationAsMatrix no_reprs) env booleans [] p.i tt new.1 refl refl
    p.index_is (bind (by_names xs).pattern v env.vals) k.agree (by_names xs).keys (tuple_index v) k.codes n p.t p.table_is in record {
      items =
          ap (option_map items_of) (parts-mean (repr ReprKind.RelationAsMatrix no_reprs) (relation_dom ms es ds) n js env refl p
          ∙ ap (λ z. value_of_tables (repr ReprKind.RelationAsMatrix no_reprs) z (p.t ∷ []) p.i) (sym q.3)
          ∙ occurring ReprKind.RelationAsMatrix (relations q.0 q.1) (tuples q.1) a_relation tuple_index (axes_over q.1)
          (λ g. refl) refl p.t p.i t
          runs.us runs.are_members)
          ∙ ap (λ z. Some z) (to_list-of_list _)
          ∙ sym (ap (λ z. and_then z (λ vs. collect vs (Tested xs q.1 env n js))) s
          ∙ collect-passing o (Tested xs q.1 env n js) (λ v. single (meaning (by_names xs).argument (At xs q.1 env v))) runs.us
          (each-map runs.us _ _ (λ v k. ap (λ z. where_true z (λ u. single (meaning (by_names xs).argument (At xs q.1 env v))))
          (says v k)) runs.keyed)
          ∙ arguments-listed (outside (has_text xs)) (by_names xs) tuple_index (length (axes_over q.1)) env (filter o runs.us)
          (each-filtered o (Keyed (outside (has_text xs)) (by_names xs) tuple_index (length (axes_over q.1)) env) runs.us runs.keyed));
      met = (
        m.1.1,
        subst (λ z. EachOf z (λ v. Meets (flag_at n js (by_names xs).keys) (At xs q.1 env v)
            × (as_truth (meaning (flag_at n js (by_names xs).keys) (At xs q.1 env v)) ≡ true →
            Meets (by_names xs).argument (At xs q.1 env v))))
            (sym s)
            (each-map runs.us _ _ (λ v k. (
              flag-met (outside (has_text xs)) bool_dom js []
                  (repr ReprKind.RelationAsMatrix no_reprs) env booleans [] p.i tt new.1 refl refl
                  p.index_is (bind (by_names xs).pattern v env.vals) k.agree (by_names xs).keys (tuple_index v) k.codes n m.2 k.keys_met,
              λ z. k.argument_met,
            )) runs.keyed),
      );
    })
relation_matrix-listed xs _ env new m h = tt
