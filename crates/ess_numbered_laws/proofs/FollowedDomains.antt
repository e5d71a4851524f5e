-- Values that follow a domain have as many items as it tells, wherever steps lead.
use Rattle.std.proofs.Common.{◌≡◌, refl, sym, ap, ◌∙◌, subst, ℕ, zero, suc, ◌≤◌, Bool, true, false, if◌then◌else◌, List, [], ◌∷◌, length, Option, Some, None, option_map, arith}
use Rattle.std.specs.Prelude.{nat_eq}
use Rattle.std.specs.List.{list_all}
use Rattle.std.proofs.lemmas.Bool.{eqb-true, le-leb}
use Rattle.ess_semantics.specs.Lists.{and_then, is_some_and, or_default}
use Rattle.ess_semantics.specs.Values.{Text, a_tuple, a_function, a_record, Value, node, Values, nil, cons, matrix, to_list, to_of, items_of}
use Rattle.ess_semantics.specs.Order.{same_text, same_texts}
use Rattle.ess_semantics.specs.Trees.{Dom, Doms, tuple_dom, record_dom, matrix_dom, function_dom, no_doms, more_doms}
use Rattle.ess_semantics.specs.Domains.{Attribute, Domain, Domains, tuples, records, matrices, functions, no_domains, more_domains, members}
use Rattle.ess_semantics.specs.Operators.{misfit, component, field_at, at_component, at_field}
use Rattle.ess_semantics.specs.Meaning.{Env, domain_of, domains_of, members_in, attributes_of, meanings}
use Rattle.ess_semantics.proofs.Orders.{texts_exact, equal-of}
use Rattle.ess_semantics.proofs.Tests.{and-left, and-right, and-both, some-and}
use Rattle.ess_guard_laws.specs.IndexDomains.{first_index}
use Rattle.ess_ordered_laws.specs.ToldAxes.{dom_at, dom_of_field, results_of, component_dom, field_dom, items_dom}
use Rattle.ess_numbered_laws.specs.MostItems.{Pick, an_item, a_result, a_component, a_field, dom_along}
use Rattle.ess_numbered_laws.specs.BoundLaws.{reach_at_most, is_nested, follows, follow_each}
use Rattle.ess_numbered_laws.proofs.Answered.{Answered}

-- ---- domains that are there

then-map : {A B C : Type 0} (o : Option A) (p : Option B) (f : A → B → C) (c : C) → and_then o (λ x. option_map (f x) p) ≡ Some c →
    (x : A) × (y : B) × (o ≡ Some x) × (p ≡ Some y) × (f x y ≡ c)
then-map None p f c e = cc
then-map (Some x) None f c e = cc
then-map (Some x) (Some y) f c e = (x, y, refl, refl, let z : f x y ≡ c = cc in z)

map-there : {A B : Type 0} (o : Option A) (f : A → B) (c : B) → option_map f o ≡ Some c → (x : A) × (o ≡ Some x) × (f x ≡ c)
map-there None f c e = cc
map-there (Some x) f c e = (x, refl, let z : f x ≡ c = cc in z)

-- A nested matrix has an item for each member, and they are nested in turn.
nested-parts : (x : Domain) (is : Domains) (f : Value → Bool) (v : Value) → is_nested (more_domains x is) f v ≡ true →
    (is_some_and (members x) (λ vs. nat_eq (length vs) (length (items_of v))) ≡ true) × (list_all (is_nested is f) (items_of v) ≡ true)
nested-parts x is f (matrix ix xs) h = (
  and-left (is_some_and (members x) (λ vs. nat_eq (length vs) (length (to_list xs)))) (list_all (is_nested is f) (to_list xs)) h,
  and-right (is_some_and (members x) (λ vs. nat_eq (length vs) (length (to_list xs)))) (list_all (is_nested is f) (to_list xs)) h,
)
nested-parts x is f _ h = cc

module _ (env : Env) where
  -- The domain is there, and the value follows it.
  abbrev pub Fit : Value → Dom → Type 0
  Fit v d = (c : Domain) × (domain_of d env ≡ Some c) × (follows c v ≡ true)

  -- The same of what g makes of each.
  abbrev FitEach : (Value → Value) → List Value → Dom → Type 0
  FitEach g xs d = (c : Domain) × (domain_of d env ≡ Some c) × (list_all (λ p. follows c (g p)) xs ≡ true)

  -- ---- steps

  items-fit : (o : Option Dom) (v : Value) → Answered o (Fit v) → Answered (items_dom o) (FitEach (λ p. p) (items_of v))
  items-fit (Some (matrix_dom (more_doms i no_doms) d)) v h =
      let r = then-map (domains_of (more_doms i no_doms) env) (domain_of d env) matrices h.0 h.1 in
      let s = then-map (domain_of i env) (domains_of no_doms env) more_domains r.0 r.2 in
      let k : is_nested (more_domains s.0 s.1) (follows r.1) v ≡ true = ap (λ js. is_nested js (follows r.1) v) s.4
      ∙ ap (λ c. follows c v) r.4 ∙ h.2 in
      let l = nested-parts s.0 s.1 (follows r.1) v k in
      (r.1, r.3, ap (λ js. list_all (is_nested js (follows r.1)) (items_of v)) (let z : no_domains ≡ s.1 = cc in z) ∙ l.1)
  items-fit (Some (matrix_dom (more_doms i (more_doms j is)) d)) v h =
      let r = then-map (domains_of (more_doms i (more_doms j is)) env) (domain_of d env) matrices h.0 h.1 in
      let s = then-map (domain_of i env) (domains_of (more_doms j is) env) more_domains r.0 r.2 in
      let k : is_nested (more_domains s.0 s.1) (follows r.1) v ≡ true = ap (λ js. is_nested js (follows r.1) v) s.4
      ∙ ap (λ c. follows c v) r.4 ∙ h.2 in
      let l = nested-parts s.0 s.1 (follows r.1) v k in (
        matrices s.1 r.1,
        ap (λ o. and_then o (λ js. option_map (matrices js) (domain_of d env))) s.3 ∙ ap (option_map (matrices s.1)) r.3,
        l.1,
      )
  items-fit _ v h = tt

  results-fit : (o : Option Dom) (v : Value) → Answered o (Fit v) → Answered (results_of o) (FitEach to_of (items_of v))
  results-fit (Some (function_dom ms es d c)) v h = go (attributes_of ms (meanings es env)) h.1
    where
      of-function : (ks : List Attribute) (x y : Domain) (v : Value) → follows (functions ks x y) v ≡ true →
          list_all (λ p. follows y (to_of p)) (items_of v) ≡ true
      of-function ks x y (node a_function xs) h = h
      of-function ks x y _ h = cc

      go : (a : Option (List Attribute)) → and_then a (λ ks. and_then (domain_of d env)
          (λ x. option_map (functions ks x) (domain_of c env))) ≡ Some h.0 →
          FitEach to_of (items_of v) c
      go None q = cc
      go (Some ks) q = let r = then-map (domain_of d env) (domain_of c env) (functions ks) h.0 q in
          (r.1, r.3, of-function ks r.0 r.1 v (ap (λ e. follows e v) r.4 ∙ h.2))
  results-fit _ v h = tt

  each-at : (k : ℕ) (ds : Doms) (cs : Domains) (vs : Values) → domains_of ds env ≡ Some cs → follow_each cs vs ≡ true →
      Answered (dom_at k ds) (Fit (or_default (component vs k) misfit))
  each-at k no_doms cs vs q h = tt
  each-at zero (more_doms d ds) cs vs q h = tt
  each-at (suc zero) (more_doms d ds) cs vs q h = let r = then-map (domain_of d env) (domains_of ds env) more_domains cs q in
      (r.0, r.2, go r.0 r.1 vs (ap (λ es. follow_each es vs) r.4 ∙ h))
    where
      go : (x : Domain) (ks : Domains) (vs : Values) → follow_each (more_domains x ks) vs ≡ true →
          follows x (or_default (component vs 1) misfit) ≡ true
      go x ks nil h = cc
      go x ks (cons v ws) h = and-left (follows x v) (follow_each ks ws) h
  each-at (suc (suc k)) (more_doms d ds) cs nil q h = let r = then-map (domain_of d env) (domains_of ds env) more_domains cs q in
      let z : false ≡ true = ap (λ es. follow_each es nil) r.4 ∙ h in cc
  each-at (suc (suc k)) (more_doms d ds) cs (cons v vs) q h = let r = then-map (domain_of d env) (domains_of ds env) more_domains cs q in
      each-at (suc k) ds r.1 vs r.3 (and-right (follows r.0 v) (follow_each r.1 vs) (ap (λ es. follow_each es (cons v vs)) r.4 ∙ h))

  component-fits : (k : ℕ) (o : Option Dom) (v : Value) → Answered o (Fit v) → Answered (component_dom k o) (Fit (at_component v k))
  component-fits k (Some (tuple_dom ds)) v h = let r = map-there (domains_of ds env) tuples h.0 h.1 in go r.0 v
      (ap (λ c. follows c v) r.2 ∙ h.2) r.1
    where
      go : (cs : Domains) (v : Value) → follows (tuples cs) v ≡ true → domains_of ds env ≡ Some cs →
          Answered (dom_at k ds) (Fit (at_component v k))
      go cs (node a_tuple vs) h q = each-at k ds cs vs q h
      go cs _ h q = cc
  component-fits k _ v h = tt

  each-of-field : (a : Text) (fs : List Text) (ds : Doms) (cs : Domains) (vs : Values) → domains_of ds env ≡ Some cs → follow_each cs vs
      ≡ true →
      Answered (dom_of_field a fs ds) (Fit (or_default (field_at fs vs a) misfit))
  each-of-field a (f ∷ fs) (more_doms d ds) cs nil q h = let r = then-map (domain_of d env) (domains_of ds env) more_domains cs q in
      let z : false ≡ true = ap (λ es. follow_each es nil) r.4 ∙ h in cc
  each-of-field a (f ∷ fs) (more_doms d ds) cs (cons v vs) q h =
      let r = then-map (domain_of d env) (domains_of ds env) more_domains cs q in
      let k = ap (λ es. follow_each es (cons v vs)) r.4 ∙ h in
      go (same_text f a) (r.0, r.2, and-left (follows r.0 v) (follow_each r.1 vs) k)
      (each-of-field a fs ds r.1 vs r.3 (and-right (follows r.0 v) (follow_each r.1 vs) k))
    where
      go : (b : Bool) → Fit v d → Answered (dom_of_field a fs ds) (Fit (or_default (field_at fs vs a) misfit)) →
          Answered (if b then Some d else dom_of_field a fs ds) (Fit (or_default (if b then Some v else field_at fs vs a) misfit))
      go true h k = h
      go false h k = k
  each-of-field a _ _ cs vs q h = tt

  field-fits : (a : Text) (o : Option Dom) (v : Value) → Answered o (Fit v) → Answered (field_dom a o) (Fit (at_field v a))
  field-fits a (Some (record_dom fs ds)) v h = let r = map-there (domains_of ds env) (records fs) h.0 h.1 in go r.0 v
      (ap (λ c. follows c v) r.2 ∙ h.2) r.1
    where
      go : (cs : Domains) (v : Value) → follows (records fs cs) v ≡ true → domains_of ds env ≡ Some cs →
          Answered (dom_of_field a fs ds) (Fit (at_field v a))
      go cs (node (a_record gs) vs) h q = subst (λ es. Answered (dom_of_field a fs ds) (Fit (or_default (field_at es vs a) misfit)))
          (texts_exact fs gs (equal-of _ (and-left (same_texts fs gs) (follow_each cs vs) h)))
          (each-of-field a fs ds cs vs q (and-right (same_texts fs gs) (follow_each cs vs) h))
      go cs _ h q = cc
  field-fits a _ v h = tt

  -- ---- along all steps

  all-reached : (f : Value → Bool) (g : Value → Value) (o : Option Dom) (xs : List Value) → Answered o (FitEach g xs) →
      ((w : Value) → Answered o (Fit w) → f w ≡ true) → list_all (λ p. f (g p)) xs ≡ true
  all-reached f g o [] h k = refl
  all-reached f g None (x ∷ xs) h k = and-both (f (g x)) (list_all (λ p. f (g p)) xs) (k (g x) tt) (all-reached f g None xs tt k)
  all-reached f g (Some d) (x ∷ xs) h k = and-both (f (g x)) (list_all (λ p. f (g p)) xs)
      (k (g x) (h.0, h.1, and-left (follows h.0 (g x)) (list_all (λ p. follows h.0 (g p)) xs) h.2))
      (all-reached f g (Some d) xs (h.0, h.1, and-right (follows h.0 (g x)) (list_all (λ p. follows h.0 (g p)) xs) h.2) k)

  -- What steps reach has as many items as its index domain has members.
  pub reach-along : (ps : List Pick) (o : Option Dom) (v : Value) → Answered o (Fit v) → (i : Dom) → first_index (dom_along ps o) ≡ Some i →
      (vs : List Value) → members_in (domain_of i env) ≡ Some vs → (n : ℕ) → length vs ≤ n → reach_at_most ps n v ≡ true
  reach-along [] (Some (matrix_dom (more_doms i is) d)) v h j e vs m n l =
      let r = then-map (domains_of (more_doms i is) env) (domain_of d env) matrices h.0 h.1 in
      let s = then-map (domain_of i env) (domains_of is env) more_domains r.0 r.2 in
      let k : is_nested (more_domains s.0 s.1) (follows r.1) v ≡ true = ap (λ js. is_nested js (follows r.1) v) s.4
      ∙ ap (λ c. follows c v) r.4 ∙ h.2 in
      let p = nested-parts s.0 s.1 (follows r.1) v k in
      let w = some-and (members s.0) (λ us. nat_eq (length us) (length (items_of v))) p.0 in
      let z : i ≡ j = cc in
      let y : Some w.0 ≡ Some vs = sym w.1 ∙ sym (ap members_in s.2) ∙ ap (λ a. members_in (domain_of a env)) z ∙ m in
      let x : w.0 ≡ vs = cc in
      let t : length w.0 ≡ length (items_of v) = eqb-true (length w.0) (length (items_of v)) w.2 in
      let u = ap length x in
      le-leb (length (items_of v)) n (omega arith)
  reach-along [] _ v h j e vs m n l = cc
  reach-along (an_item ∷ ps) o v h j e vs m n l = all-reached (reach_at_most ps n) (λ p. p) (items_dom o) (items_of v) (items-fit o v h)
      (λ w k. reach-along ps (items_dom o) w k j e vs m n l)
  reach-along (a_result ∷ ps) o v h j e vs m n l = all-reached (reach_at_most ps n) to_of (results_of o) (items_of v) (results-fit o v h)
      (λ w k. reach-along ps (results_of o) w k j e vs m n l)
  reach-along (a_component k ∷ ps) o v h j e vs m n l = reach-along ps (component_dom k o) (at_component v k)
      (component-fits k o v h) j e vs m n l
  reach-along (a_field a ∷ ps) o v h j e vs m n l = reach-along ps (field_dom a o) (at_field v a) (field-fits a o v h) j e vs m n l
