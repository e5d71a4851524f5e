-- What a domain that denotes one without attribute values below 0 says of its parts: they denote such domains, and sizes read numbers.
use Rattle.std.proofs.Common.{◌≡◌, ap, ◌∙◌, ℕ, true, ◌&&◌, List, pos, Some, option_map}
use Rattle.ess_semantics.specs.Lists.{and_then}
use Rattle.ess_semantics.specs.Values.{Text}
use Rattle.ess_semantics.specs.Domains.{Domain, Domains, integers, tuples, records, matrices, sets, msets, functions, relations, partitions, more_domains}
use Rattle.ess_semantics.specs.Membership.{no_negative_attribute, each_layer_of_all}
use Rattle.ess_semantics.specs.Sizes.{bound, occurrences}
use Rattle.ess_semantics.specs.Trees.{Ends, Mark, Ex, Exs, Dom, Doms, int_dom, name_dom, tuple_dom, record_dom, matrix_dom, set_dom, mset_dom, function_dom, relation_dom, partition_dom, more_doms}
use Rattle.ess_semantics.specs.Meaning.{Env, meanings, spans_of, attributes_of, domain_of, domains_of}
use Rattle.ess_semantics.proofs.Tests.{and-left, and-right}
use Rattle.ess_repr_declare_laws.specs.SizeTerms.{count_ex, listed_ex, occurrences_ex}
use Rattle.ess_repr_declare_laws.proofs.Readings.{Reads}
use Rattle.ess_repr_declare_laws.proofs.SizeNumbers.{mapped, chained, not_below, occurrences-reads}
use Rattle.ess_repr_declare_laws.proofs.IntSizes.{count-reads, name-reads}

-- The domain expression denotes a domain without attribute values below 0.
pub record Denotes (d : Dom) (env : Env) : Type 0 where
  pub domain : Domain
  pub means : domain_of d env ≡ Some domain
  pub plain : no_negative_attribute domain ≡ true

-- So do several.
pub record AllDenote (ds : Doms) (env : Env) : Type 0 where
  pub domains : Domains
  pub means : domains_of ds env ≡ Some domains
  pub plain : each_layer_of_all not_below domains ≡ true

-- The term reads a whole number that isn't below 0.
pub record Natural (e : Ex) (env : Env) : Type 0 where
  pub number : ℕ
  pub reads : Reads e env (pos number)

-- ---- parts

pub first-denotes : (d : Dom) (ds : Doms) (env : Env) → AllDenote (more_doms d ds) env → Denotes d env × AllDenote ds env
first-denotes d ds env h =
    let c = chained (domain_of d env) (λ x. option_map (more_domains x) (domains_of ds env)) h.domains h.means in
    let m = mapped (more_domains c.0) (domains_of ds env) h.domains c.2 in
    let p : no_negative_attribute c.0 && each_layer_of_all not_below m.0 ≡ true = ap (each_layer_of_all not_below) m.2 ∙ h.plain in (
      record { domain = c.0; means = c.1; plain = and-left (no_negative_attribute c.0) (each_layer_of_all not_below m.0) p },
      record { domains = m.0; means = m.1; plain = and-right (no_negative_attribute c.0) (each_layer_of_all not_below m.0) p },
    )

pub tuple-denotes : (ds : Doms) (env : Env) → Denotes (tuple_dom ds) env → AllDenote ds env
tuple-denotes ds env h =
    let m = mapped tuples (domains_of ds env) h.domain h.means in
    record { domains = m.0; means = m.1; plain = ap no_negative_attribute m.2 ∙ h.plain }

pub record-denotes : (fs : List Text) (ds : Doms) (env : Env) → Denotes (record_dom fs ds) env → AllDenote ds env
record-denotes fs ds env h =
    let m = mapped (records fs) (domains_of ds env) h.domain h.means in
    record { domains = m.0; means = m.1; plain = ap no_negative_attribute m.2 ∙ h.plain }

pub matrix-denotes : (is : Doms) (d : Dom) (env : Env) → Denotes (matrix_dom is d) env → AllDenote is env × Denotes d env
matrix-denotes is d env h =
    let c = chained (domains_of is env) (λ js. option_map (matrices js) (domain_of d env)) h.domain h.means in
    let m = mapped (matrices c.0) (domain_of d env) h.domain c.2 in
    let p : each_layer_of_all not_below c.0 && no_negative_attribute m.0 ≡ true = ap no_negative_attribute m.2 ∙ h.plain in (
      record { domains = c.0; means = c.1; plain = and-left (each_layer_of_all not_below c.0) (no_negative_attribute m.0) p },
      record { domain = m.0; means = m.1; plain = and-right (each_layer_of_all not_below c.0) (no_negative_attribute m.0) p },
    )

pub set-denotes : (ms : List Mark) (es : Exs) (d : Dom) (env : Env) → Denotes (set_dom ms es d) env → Denotes d env
set-denotes ms es d env h =
    let c = chained (attributes_of ms (meanings es env)) (λ ks. option_map (sets ks) (domain_of d env)) h.domain h.means in
    let m = mapped (sets c.0) (domain_of d env) h.domain c.2 in
    let p : not_below c.0 && no_negative_attribute m.0 ≡ true = ap no_negative_attribute m.2 ∙ h.plain in
    record { domain = m.0; means = m.1; plain = and-right (not_below c.0) (no_negative_attribute m.0) p }

-- A multiset's member, and how often one occurs.
pub mset-denotes : (ms : List Mark) (es : Exs) (d : Dom) (env : Env) → Denotes (mset_dom ms es d) env → Natural (occurrences_ex ms es) env ×
    Denotes d env
mset-denotes ms es d env h =
    let c = chained (attributes_of ms (meanings es env)) (λ ks. option_map (msets ks) (domain_of d env)) h.domain h.means in
    let m = mapped (msets c.0) (domain_of d env) h.domain c.2 in
    let p : not_below c.0 && no_negative_attribute m.0 ≡ true = ap no_negative_attribute m.2 ∙ h.plain in (
      record {
        number = occurrences c.0;
        reads = occurrences-reads env ms es c.0 c.1
            (and-left (not_below c.0) (no_negative_attribute m.0) p);
      },
      record { domain = m.0; means = m.1; plain = and-right (not_below c.0) (no_negative_attribute m.0) p },
    )

pub function-denotes : (ms : List Mark) (es : Exs) (d c : Dom) (env : Env) → Denotes (function_dom ms es d c) env → Denotes d env × Denotes
    c env
function-denotes ms es d c env h =
    let k = chained (attributes_of ms (meanings es env))
    (λ ks. and_then (domain_of d env) (λ x. option_map (functions ks x) (domain_of c env))) h.domain h.means in
    let x = chained (domain_of d env) (λ x. option_map (functions k.0 x) (domain_of c env)) h.domain k.2 in
    let y = mapped (functions k.0 x.0) (domain_of c env) h.domain x.2 in
    let p : (not_below k.0 && no_negative_attribute x.0) && no_negative_attribute y.0 ≡ true = ap no_negative_attribute y.2 ∙ h.plain in
    let f = and-left (not_below k.0 && no_negative_attribute x.0) (no_negative_attribute y.0) p in (
      record { domain = x.0; means = x.1; plain = and-right (not_below k.0) (no_negative_attribute x.0) f },
      record { domain = y.0; means = y.1; plain = and-right (not_below k.0 && no_negative_attribute x.0) (no_negative_attribute y.0) p },
    )

pub relation-denotes : (ms : List Mark) (es : Exs) (ds : Doms) (env : Env) → Denotes (relation_dom ms es ds) env → AllDenote ds env
relation-denotes ms es ds env h =
    let c = chained (attributes_of ms (meanings es env)) (λ ks. option_map (relations ks) (domains_of ds env)) h.domain h.means in
    let m = mapped (relations c.0) (domains_of ds env) h.domain c.2 in
    let p : not_below c.0 && each_layer_of_all not_below m.0 ≡ true = ap no_negative_attribute m.2 ∙ h.plain in
    record { domains = m.0; means = m.1; plain = and-right (not_below c.0) (each_layer_of_all not_below m.0) p }

pub partition-denotes : (ms : List Mark) (es : Exs) (d : Dom) (env : Env) → Denotes (partition_dom ms es d) env → Denotes d env
partition-denotes ms es d env h =
    let c = chained (attributes_of ms (meanings es env)) (λ ks. option_map (partitions ks) (domain_of d env)) h.domain h.means in
    let m = mapped (partitions c.0) (domain_of d env) h.domain c.2 in
    let p : not_below c.0 && no_negative_attribute m.0 ≡ true = ap no_negative_attribute m.2 ∙ h.plain in
    record { domain = m.0; means = m.1; plain = and-right (not_below c.0) (no_negative_attribute m.0) p }

-- ---- sizes

pub range-natural : (rs : List Ends) (es : Exs) (env : Env) → Denotes (int_dom rs es) env → Natural (count_ex rs es) env
range-natural rs es env h =
    let m = mapped integers (spans_of rs (meanings es env)) h.domain h.means in
    record { number = bound (integers m.0); reads = count-reads env rs es m.0 m.1 }

pub name-natural : (a : Text) (env : Env) → Denotes (name_dom a) env → Natural (listed_ex (name_dom a)) env
name-natural a env h = record { number = bound h.domain; reads = name-reads env a h.domain h.means }
