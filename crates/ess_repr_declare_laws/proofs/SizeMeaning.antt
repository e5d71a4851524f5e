-- The bound of a domain as a term reads the bound of the domain that it denotes.
use Rattle.std.proofs.Common.{◌≡◌, refl, ap, ◌∙◌, ℕ, ◌*◌, true, ◌&&◌, pos, Some, option_map, arith}
use Rattle.std.proofs.Math.Nat.{mul_assoc}
use Rattle.ess_semantics.specs.Lists.{and_then}
use Rattle.ess_semantics.specs.Domains.{Domain, Domains, booleans, integers, tuples, records, matrices, sets, msets, functions, relations, partitions, no_domains, more_domains}
use Rattle.ess_semantics.specs.Membership.{no_negative_attribute, each_layer_of_all}
use Rattle.ess_semantics.specs.Sizes.{occurrences, bound, product_bound}
use Rattle.ess_semantics.specs.Trees.{Ex, Dom, Doms, bool_dom, int_dom, name_dom, tuple_dom, record_dom, matrix_dom, set_dom, mset_dom, function_dom, relation_dom, partition_dom, no_doms, more_doms}
use Rattle.ess_semantics.specs.Meaning.{Env, meanings, spans_of, attributes_of, domain_of, domains_of}
use Rattle.ess_semantics.proofs.Tests.{and-left, and-right}
use Rattle.ess_repr_declare_laws.specs.SizeTerms.{two_ex, next_ex, occurrences_ex, bound_ex, product_ex, product_behind, times_ex}
use Rattle.ess_repr_declare_laws.proofs.Readings.{Reads, times-reads, next-reads, power-reads}
use Rattle.ess_repr_declare_laws.proofs.SizeNumbers.{mapped, chained, not_below, occurrences-reads}
use Rattle.ess_repr_declare_laws.proofs.IntSizes.{count-reads, name-reads}

-- ---- bounds

-- No attribute value in the domain is below 0.
abbrev pub Plain : Domain → Type 0
Plain e = no_negative_attribute e ≡ true

abbrev pub AllPlain : Domains → Type 0
AllPlain es = each_layer_of_all not_below es ≡ true

mutual
  pub bound-is : (env : Env) (d : Dom) (e : Domain) → domain_of d env ≡ Some e → Plain e → Reads (bound_ex d) env (pos (bound e))
  bound-is env bool_dom e h n = let q : booleans ≡ e = cc in ap (λ x. Some (pos (bound x))) q
  bound-is env (int_dom rs es) e h n =
      let m = mapped integers (spans_of rs (meanings es env)) e h in
      count-reads env rs es m.0 m.1 ∙ ap (λ x. Some (pos (bound x))) m.2
  bound-is env (name_dom a) e h n = name-reads env a e h
  bound-is env (tuple_dom ds) e h n =
      let m = mapped tuples (domains_of ds env) e h in
      product-is env ds m.0 m.1 (ap no_negative_attribute m.2 ∙ n) ∙ ap (λ x. Some (pos (bound x))) m.2
  bound-is env (record_dom fs ds) e h n =
      let m = mapped (records fs) (domains_of ds env) e h in
      product-is env ds m.0 m.1 (ap no_negative_attribute m.2 ∙ n) ∙ ap (λ x. Some (pos (bound x))) m.2
  bound-is env (matrix_dom is d) e h n =
      let c = chained (domains_of is env) (λ js. option_map (matrices js) (domain_of d env)) e h in
      let m = mapped (matrices c.0) (domain_of d env) e c.2 in
      let p : each_layer_of_all not_below c.0 && no_negative_attribute m.0 ≡ true = ap no_negative_attribute m.2 ∙ n in
      power-reads env (next_ex (bound_ex d)) (product_ex is) (bound m.0) (product_bound c.0)
      (next-reads env (bound_ex d) (bound m.0) (bound-is env d m.0 m.1 (and-right (each_layer_of_all not_below c.0) (no_negative_attribute m.0) p)))
      (product-is env is c.0 c.1 (and-left (each_layer_of_all not_below c.0) (no_negative_attribute m.0) p))
      ∙ ap (λ x. Some (pos (bound x))) m.2
  bound-is env (set_dom ms es d) e h n =
      let c = chained (attributes_of ms (meanings es env)) (λ ks. option_map (sets ks) (domain_of d env)) e h in
      let m = mapped (sets c.0) (domain_of d env) e c.2 in
      let p : not_below c.0 && no_negative_attribute m.0 ≡ true = ap no_negative_attribute m.2 ∙ n in
      power-reads env two_ex (bound_ex d) 1 (bound m.0) refl (bound-is env d m.0 m.1 (and-right (not_below c.0) (no_negative_attribute m.0) p))
      ∙ ap (λ x. Some (pos (bound x))) m.2
  bound-is env (mset_dom ms es d) e h n =
      let c = chained (attributes_of ms (meanings es env)) (λ ks. option_map (msets ks) (domain_of d env)) e h in
      let m = mapped (msets c.0) (domain_of d env) e c.2 in
      let p : not_below c.0 && no_negative_attribute m.0 ≡ true = ap no_negative_attribute m.2 ∙ n in
      power-reads env (next_ex (occurrences_ex ms es)) (bound_ex d) (occurrences c.0) (bound m.0)
      (next-reads env (occurrences_ex ms es) (occurrences c.0) (occurrences-reads env ms es c.0 c.1 (and-left (not_below c.0) (no_negative_attribute m.0) p)))
      (bound-is env d m.0 m.1 (and-right (not_below c.0) (no_negative_attribute m.0) p))
      ∙ ap (λ x. Some (pos (bound x))) m.2
  bound-is env (function_dom ms es d c) e h n =
      let k = chained (attributes_of ms (meanings es env)) (λ ks. and_then (domain_of d env) (λ x. option_map (functions ks x) (domain_of c env))) e h in
      let x = chained (domain_of d env) (λ x. option_map (functions k.0 x) (domain_of c env)) e k.2 in
      let y = mapped (functions k.0 x.0) (domain_of c env) e x.2 in
      let p : (not_below k.0 && no_negative_attribute x.0) && no_negative_attribute y.0 ≡ true = ap no_negative_attribute y.2 ∙ n in
      let q : not_below k.0 && no_negative_attribute x.0 ≡ true = and-left (not_below k.0 && no_negative_attribute x.0) (no_negative_attribute y.0) p in
      power-reads env (next_ex (bound_ex c)) (bound_ex d) (bound y.0) (bound x.0)
      (next-reads env (bound_ex c) (bound y.0) (bound-is env c y.0 y.1 (and-right (not_below k.0 && no_negative_attribute x.0) (no_negative_attribute y.0) p)))
      (bound-is env d x.0 x.1 (and-right (not_below k.0) (no_negative_attribute x.0) q))
      ∙ ap (λ z. Some (pos (bound z))) y.2
  bound-is env (relation_dom ms es ds) e h n =
      let c = chained (attributes_of ms (meanings es env)) (λ ks. option_map (relations ks) (domains_of ds env)) e h in
      let m = mapped (relations c.0) (domains_of ds env) e c.2 in
      let p : not_below c.0 && each_layer_of_all not_below m.0 ≡ true = ap no_negative_attribute m.2 ∙ n in
      power-reads env two_ex (product_ex ds) 1 (product_bound m.0) refl (product-is env ds m.0 m.1 (and-right (not_below c.0) (each_layer_of_all not_below m.0) p))
      ∙ ap (λ x. Some (pos (bound x))) m.2
  bound-is env (partition_dom ms es d) e h n =
      let c = chained (attributes_of ms (meanings es env)) (λ ks. option_map (partitions ks) (domain_of d env)) e h in
      let m = mapped (partitions c.0) (domain_of d env) e c.2 in
      let p : not_below c.0 && no_negative_attribute m.0 ≡ true = ap no_negative_attribute m.2 ∙ n in
      let b : Reads (bound_ex d) env (pos (bound m.0)) = bound-is env d m.0 m.1 (and-right (not_below c.0) (no_negative_attribute m.0) p) in
      power-reads env (next_ex (bound_ex d)) (bound_ex d) (bound m.0) (bound m.0) (next-reads env (bound_ex d) (bound m.0) b) b
      ∙ ap (λ x. Some (pos (bound x))) m.2

  pub product-is : (env : Env) (ds : Doms) (es : Domains) → domains_of ds env ≡ Some es → AllPlain es → Reads (product_ex ds) env (pos (product_bound es))
  product-is env no_doms es h n = let q : no_domains ≡ es = cc in ap (λ x. Some (pos (product_bound x))) q
  product-is env (more_doms d ds) es h n =
      let c = chained (domain_of d env) (λ x. option_map (more_domains x) (domains_of ds env)) es h in
      let m = mapped (more_domains c.0) (domains_of ds env) es c.2 in
      let p : no_negative_attribute c.0 && each_layer_of_all not_below m.0 ≡ true = ap (each_layer_of_all not_below) m.2 ∙ n in
      behind-is env ds m.0 (bound_ex d) (bound c.0) m.1 (and-right (no_negative_attribute c.0) (each_layer_of_all not_below m.0) p)
      (bound-is env d c.0 c.1 (and-left (no_negative_attribute c.0) (each_layer_of_all not_below m.0) p))
      ∙ ap (λ x. Some (pos (product_bound x))) m.2

  behind-is : (env : Env) (ds : Doms) (es : Domains) (t : Ex) (k : ℕ) → domains_of ds env ≡ Some es → AllPlain es → Reads t env (pos k) →
      Reads (product_behind t ds) env (pos (k * product_bound es))
  behind-is env no_doms es t k h n r =
      let q : no_domains ≡ es = cc in
      let z : k ≡ k * 1 = omega arith in
      r ∙ ap (λ j. Some (pos j)) z ∙ ap (λ x. Some (pos (k * product_bound x))) q
  behind-is env (more_doms d ds) es t k h n r =
      let c = chained (domain_of d env) (λ x. option_map (more_domains x) (domains_of ds env)) es h in
      let m = mapped (more_domains c.0) (domains_of ds env) es c.2 in
      let p : no_negative_attribute c.0 && each_layer_of_all not_below m.0 ≡ true = ap (each_layer_of_all not_below) m.2 ∙ n in
      behind-is env ds m.0 (times_ex t (bound_ex d)) (k * bound c.0) m.1 (and-right (no_negative_attribute c.0) (each_layer_of_all not_below m.0) p)
      (times-reads env t (bound_ex d) k (bound c.0) r (bound-is env d c.0 c.1 (and-left (no_negative_attribute c.0) (each_layer_of_all not_below m.0) p)))
      ∙ ap (λ j. Some (pos j)) (mul_assoc k (bound c.0) (product_bound m.0))
      ∙ ap (λ x. Some (pos (k * product_bound x))) m.2
