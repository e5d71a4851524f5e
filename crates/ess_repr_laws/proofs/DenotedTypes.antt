-- What a well-formed expression denotes has atoms as index domains. So it is typed where no relation asks anything of pairs.
use Rattle.std.proofs.Common.{◌≡◌, sym, ◌∙◌, Bool, true, false, not, Some}
use Rattle.std.specs.List.{list_any}
use Rattle.ess_semantics.specs.Trees.{Dom, Doms, bool_dom, int_dom, name_dom, tuple_dom, record_dom, matrix_dom, set_dom, mset_dom, function_dom, relation_dom, partition_dom, no_doms, more_doms}
use Rattle.ess_semantics.specs.Domains.{Domain, Domains, booleans, integers, named, tuples, records, matrices, sets, msets, functions, relations, partitions, no_domains, more_domains}
use Rattle.ess_semantics.specs.Meaning.{Env, domain_of}
use Rattle.ess_semantics.proofs.Tests.{and-left, and-right, not-true}
use Rattle.ess_repr_laws.specs.WellFormed.{Well}
use Rattle.ess_repr_laws.specs.TypedDomains.{is_unnumbered, ArePairs, Typed, AllTyped, has_plain_relations, have_plain_relations}
use Rattle.ess_repr_laws.proofs.CellsOfOccurrences.{are-atoms}
use Rattle.ess_repr_laws.proofs.DomainForms.{Formed, AllFormed, same_form, formed-same, atoms-finite}
use Rattle.ess_repr_laws.proofs.DenotedDomains.{domain-formed}

-- Nothing is asked of pairs.
none-asked : (b : Bool) (T : Type 0) → b ≡ false → b ≡ true → T
none-asked b T e f = let z : false ≡ true = sym e ∙ f in cc

mutual
  formed-typed : (d : Dom) (e : Domain) → Formed d e → same_form d e ≡ true → has_plain_relations e ≡ true → Typed e
  formed-typed bool_dom booleans f s h = tt
  formed-typed (int_dom rs es) (integers ss) f s h = tt
  formed-typed (name_dom a) (named t n) f s h = tt
  formed-typed (name_dom a) (integers ss) f s h = tt
  formed-typed (tuple_dom ds) (tuples es) f s h = all-typed ds es f h
  formed-typed (record_dom fs ds) (records gs es) f s h = all-typed ds es f h
  formed-typed (matrix_dom is d) (matrices js e) f s h =
      (are-atoms js (atoms-finite is js f.1 f.0), formed-typed d e f.2 (formed-same d e f.2) h)
  formed-typed (set_dom ms es d) (sets ks e) f s h = formed-typed d e f.1 (formed-same d e f.1) h
  formed-typed (mset_dom ms es d) (msets ks e) f s h = formed-typed d e f.2 (formed-same d e f.2) h
  formed-typed (function_dom ms es d c) (functions ks e g) f s h = (
    formed-typed d e f.2 (formed-same d e f.2) (and-left (has_plain_relations e) (has_plain_relations g) h),
    formed-typed c g f.3 (formed-same c g f.3) (and-right (has_plain_relations e) (has_plain_relations g) h),
  )
  formed-typed (relation_dom ms es ds) (relations ks gs) f s h = (
    none-asked (list_any is_unnumbered ks) (ArePairs gs) (not-true (list_any is_unnumbered ks) (and-left (not (list_any is_unnumbered ks)) (have_plain_relations gs) h)),
    all-typed ds gs f.1 (and-right (not (list_any is_unnumbered ks)) (have_plain_relations gs) h),
  )
  formed-typed (partition_dom ms es d) (partitions ks e) f s h = formed-typed d e f.1 (formed-same d e f.1) h
  formed-typed d e f s h = cc

  all-typed : (ds : Doms) (es : Domains) → AllFormed ds es → have_plain_relations es ≡ true → AllTyped es
  all-typed no_doms no_domains f h = tt
  all-typed no_doms (more_domains e es) f h = absurd f
  all-typed (more_doms d ds) no_domains f h = absurd f
  all-typed (more_doms d ds) (more_domains e es) f h = (
    formed-typed d e f.0 (formed-same d e f.0) (and-left (has_plain_relations e) (have_plain_relations es) h),
    all-typed ds es f.1 (and-right (has_plain_relations e) (have_plain_relations es) h),
  )

-- What such an expression denotes is typed.
pub denoted-typed : (d : Dom) (env : Env) (e : Domain) → Well d → domain_of d env ≡ Some e → has_plain_relations e ≡ true → Typed e
denoted-typed d env e w q h = let f = domain-formed d env e w q in formed-typed d e f (formed-same d e f) h
