-- A domain that an expression denotes has the expression's form, and its parts are what the parts of the expression denote.
use Rattle.std.proofs.Common.{◌≡◌, refl, sym, ap, ◌∙◌, Bool, true, false, List, Option, Some, None, option_map}
use Rattle.ess_semantics.specs.Values.{Text}
use Rattle.ess_semantics.specs.Trees.{Mark, Exs, Dom, Doms, bool_dom, int_dom, name_dom, tuple_dom, record_dom, matrix_dom, set_dom, mset_dom, function_dom, relation_dom, partition_dom, more_doms}
use Rattle.ess_semantics.specs.Domains.{Attribute, Domain, Domains, booleans, integers, named, tuples, records, matrices, sets, msets, functions, relations, partitions, more_domains, between}
use Rattle.ess_semantics.specs.Meaning.{Env, TypeEntry, type_entry, attributes_of, meanings, spans_of, named_domain, domain_of, domains_of}
use Rattle.std.specs.Prelude.{pos}
use Rattle.ess_repr_laws.proofs.DomainForms.{same_form}
use Rattle.ess_repr_declare_laws.proofs.SizeNumbers.{mapped, chained}
use Rattle.ess_repr_declare_laws.proofs.ChildDomainsDenoted.{SetOf, set-of, FunctionOf, function-of}

-- What an expression denotes has its outermost form.
pub denoted-same : (d : Dom) (env : Env) (e : Domain) → domain_of d env ≡ Some e → same_form d e ≡ true
denoted-same bool_dom env e h = let q : booleans ≡ e = cc in ap (same_form bool_dom) (sym q)
denoted-same (int_dom rs es) env e h = let m = mapped integers (spans_of rs (meanings es env)) e h in ap (same_form (int_dom rs es))
    (sym m.2)
denoted-same (name_dom a) env e h = go env.positions (type_entry env.types a) h
  where
    go : (b : Bool) (o : Option TypeEntry) → named_domain b a o ≡ Some e → same_form (name_dom a) e ≡ true
    go b None h = cc
    go true (Some t) h = let q : between (pos 1) (pos t.count) ≡ e = cc in ap (same_form (name_dom a)) (sym q)
    go false (Some t) h = let q : named a t.count ≡ e = cc in ap (same_form (name_dom a)) (sym q)
denoted-same (tuple_dom ds) env e h = let m = mapped tuples (domains_of ds env) e h in ap (same_form (tuple_dom ds)) (sym m.2)
denoted-same (record_dom fs ds) env e h =
    let m = mapped (records fs) (domains_of ds env) e h in ap (same_form (record_dom fs ds)) (sym m.2)
denoted-same (matrix_dom is d) env e h =
    let c = chained (domains_of is env) (λ js. option_map (matrices js) (domain_of d env)) e h in
    let m = mapped (matrices c.0) (domain_of d env) e c.2 in ap (same_form (matrix_dom is d)) (sym m.2)
denoted-same (set_dom ms es d) env e h = let s : SetOf sets ms es d env e = set-of sets ms es d env e h in ap (same_form (set_dom ms es d))
    (sym s.whole)
denoted-same (mset_dom ms es d) env e h = let s : SetOf msets ms es d env e = set-of msets ms es d env e h in ap
    (same_form (mset_dom ms es d)) (sym s.whole)
denoted-same (function_dom ms es d c) env e h =
    let f : FunctionOf ms es d c env e = function-of ms es d c env e h in ap (same_form (function_dom ms es d c)) (sym f.whole)
denoted-same (relation_dom ms es ds) env e h =
    let c = chained (attributes_of ms (meanings es env)) (λ ks. option_map (relations ks) (domains_of ds env)) e h in
    let m = mapped (relations c.0) (domains_of ds env) e c.2 in ap (same_form (relation_dom ms es ds)) (sym m.2)
denoted-same (partition_dom ms es d) env e h =
    let s : SetOf partitions ms es d env e = set-of partitions ms es d env e h in ap (same_form (partition_dom ms es d)) (sym s.whole)

-- ---- by form

pub tuple-shape : (d : Dom) (xs : Domains) → same_form d (tuples xs) ≡ true → (ds : Doms) × (d ≡ tuple_dom ds)
tuple-shape (tuple_dom ds) xs h = (ds, refl)
tuple-shape d xs h = cc

pub record-shape : (d : Dom) (gs : List Text) (xs : Domains) → same_form d (records gs xs) ≡ true → (fs : List Text) × (ds : Doms) ×
    (d ≡ record_dom fs ds)
record-shape (record_dom fs ds) gs xs h = (fs, ds, refl)
record-shape d gs xs h = cc

pub matrix-shape : (d : Dom) (js : Domains) (x : Domain) → same_form d (matrices js x) ≡ true → (is : Doms) × (c : Dom) ×
    (d ≡ matrix_dom is c)
matrix-shape (matrix_dom is c) js x h = (is, c, refl)
matrix-shape d js x h = cc

pub set-shape : (d : Dom) (ks : List Attribute) (x : Domain) → same_form d (sets ks x) ≡ true → (ms : List Mark) × (es : Exs) × (c : Dom) ×
    (d ≡ set_dom ms es c)
set-shape (set_dom ms es c) ks x h = (ms, es, c, refl)
set-shape d ks x h = cc

pub mset-shape : (d : Dom) (ks : List Attribute) (x : Domain) → same_form d (msets ks x) ≡ true → (ms : List Mark) × (es : Exs) × (c : Dom)
    × (d ≡ mset_dom ms es c)
mset-shape (mset_dom ms es c) ks x h = (ms, es, c, refl)
mset-shape d ks x h = cc

pub function-shape : (d : Dom) (ks : List Attribute) (x y : Domain) → same_form d (functions ks x y) ≡ true →
    (ms : List Mark) × (es : Exs) × (b : Dom) × (c : Dom) × (d ≡ function_dom ms es b c)
function-shape (function_dom ms es b c) ks x y h = (ms, es, b, c, refl)
function-shape d ks x y h = cc

pub relation-shape : (d : Dom) (ks : List Attribute) (xs : Domains) → same_form d (relations ks xs) ≡ true → (ms : List Mark) × (es : Exs) ×
    (ds : Doms) × (d ≡ relation_dom ms es ds)
relation-shape (relation_dom ms es ds) ks xs h = (ms, es, ds, refl)
relation-shape d ks xs h = cc

pub partition-shape : (d : Dom) (ks : List Attribute) (x : Domain) → same_form d (partitions ks x) ≡ true → (ms : List Mark) × (es : Exs) ×
    (c : Dom) × (d ≡ partition_dom ms es c)
partition-shape (partition_dom ms es c) ks x h = (ms, es, c, refl)
partition-shape d ks x h = cc

-- ---- the parts

pub tuple-parts : (ds : Doms) (env : Env) (xs : Domains) → domain_of (tuple_dom ds) env ≡ Some (tuples xs) → domains_of ds env ≡ Some xs
tuple-parts ds env xs h = let m = mapped tuples (domains_of ds env) (tuples xs) h in let q : m.0 ≡ xs = let r = m.2 in cc in m.1 ∙ ap Some q

pub record-parts : (fs gs : List Text) (ds : Doms) (env : Env) (xs : Domains) → domain_of (record_dom fs ds) env ≡ Some (records gs xs) →
    domains_of ds env ≡ Some xs
record-parts fs gs ds env xs h = let m = mapped (records fs) (domains_of ds env) (records gs xs) h in let q : m.0 ≡ xs = let r = m.2 in cc
    in m.1 ∙ ap Some q

pub matrix-parts : (is : Doms) (d : Dom) (env : Env) (js : Domains) (x : Domain) → domain_of (matrix_dom is d) env ≡ Some (matrices js x) →
    (domains_of is env ≡ Some js) × (domain_of d env ≡ Some x)
matrix-parts is d env js x h =
    let c = chained (domains_of is env) (λ js. option_map (matrices js) (domain_of d env)) (matrices js x) h in
    let m = mapped (matrices c.0) (domain_of d env) (matrices js x) c.2 in
    let p : c.0 ≡ js = let r = m.2 in cc in let q : m.0 ≡ x = let r = m.2 in cc in (c.1 ∙ ap Some p, m.1 ∙ ap Some q)

-- What a layer with attributes denotes: these attributes, and its inner domain.
abbrev pub Denotes : List Mark → Exs → Dom → Env → List Attribute → Domain → Type 0
Denotes ms es d env ks x = (attributes_of ms (meanings es env) ≡ Some ks) × (domain_of d env ≡ Some x)

pub set-parts : (ms : List Mark) (es : Exs) (d : Dom) (env : Env) (ks : List Attribute) (x : Domain) → domain_of (set_dom ms es d) env ≡
    Some (sets ks x) → Denotes ms es d env ks x
set-parts ms es d env ks x h =
    let s : SetOf sets ms es d env (sets ks x) = set-of sets ms es d env (sets ks x) h in
    let p : s.keys ≡ ks = let r = s.whole in cc in let q : s.inner ≡ x = let r = s.whole in cc in
    (s.denoted ∙ ap Some p, s.part ∙ ap Some q)

pub mset-parts : (ms : List Mark) (es : Exs) (d : Dom) (env : Env) (ks : List Attribute) (x : Domain) → domain_of (mset_dom ms es d) env ≡
    Some (msets ks x) → Denotes ms es d env ks x
mset-parts ms es d env ks x h =
    let s : SetOf msets ms es d env (msets ks x) = set-of msets ms es d env (msets ks x) h in
    let p : s.keys ≡ ks = let r = s.whole in cc in let q : s.inner ≡ x = let r = s.whole in cc in
    (s.denoted ∙ ap Some p, s.part ∙ ap Some q)

pub partition-parts : (ms : List Mark) (es : Exs) (d : Dom) (env : Env) (ks : List Attribute) (x : Domain) → domain_of
    (partition_dom ms es d) env ≡ Some (partitions ks x) → Denotes ms es d env ks x
partition-parts ms es d env ks x h =
    let s : SetOf partitions ms es d env (partitions ks x) = set-of partitions ms es d env (partitions ks x) h in
    let p : s.keys ≡ ks = let r = s.whole in cc in let q : s.inner ≡ x = let r = s.whole in cc in
    (s.denoted ∙ ap Some p, s.part ∙ ap Some q)

pub function-parts : (ms : List Mark) (es : Exs) (d c : Dom) (env : Env) (ks : List Attribute) (x y : Domain) →
    domain_of (function_dom ms es d c) env ≡ Some (functions ks x y) →
    (attributes_of ms (meanings es env) ≡ Some ks) × (domain_of d env ≡ Some x) × (domain_of c env ≡ Some y)
function-parts ms es d c env ks x y h =
    let f : FunctionOf ms es d c env (functions ks x y) = function-of ms es d c env (functions ks x y) h in
    let p : f.keys ≡ ks = let r = f.whole in cc in let q : f.first ≡ x = let r = f.whole in cc in let s : f.second ≡ y = let r = f.whole in
    cc in
    (f.denoted ∙ ap Some p, f.from ∙ ap Some q, f.to ∙ ap Some s)

pub relation-parts : (ms : List Mark) (es : Exs) (ds : Doms) (env : Env) (ks : List Attribute) (xs : Domains) → domain_of
    (relation_dom ms es ds) env ≡ Some (relations ks xs) →
    (attributes_of ms (meanings es env) ≡ Some ks) × (domains_of ds env ≡ Some xs)
relation-parts ms es ds env ks xs h =
    let c = chained (attributes_of ms (meanings es env)) (λ ks. option_map (relations ks) (domains_of ds env)) (relations ks xs) h in
    let m = mapped (relations c.0) (domains_of ds env) (relations ks xs) c.2 in
    let p : c.0 ≡ ks = let r = m.2 in cc in let q : m.0 ≡ xs = let r = m.2 in cc in (c.1 ∙ ap Some p, m.1 ∙ ap Some q)

pub first-of : (d : Dom) (ds : Doms) (env : Env) (x : Domain) (xs : Domains) → domains_of (more_doms d ds) env ≡ Some (more_domains x xs) →
    (domain_of d env ≡ Some x) × (domains_of ds env ≡ Some xs)
first-of d ds env x xs h =
    let c = chained (domain_of d env) (λ x. option_map (more_domains x) (domains_of ds env)) (more_domains x xs) h in
    let m = mapped (more_domains c.0) (domains_of ds env) (more_domains x xs) c.2 in
    let p : c.0 ≡ x = let r = m.2 in cc in let q : m.0 ≡ xs = let r = m.2 in cc in (c.1 ∙ ap Some p, m.1 ∙ ap Some q)
