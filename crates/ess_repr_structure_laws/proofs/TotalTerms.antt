-- Numbers under their conditions read what they read where they have a value, are numbers, and are total where they are covered. So a
-- domain with its numbers under their conditions denotes what it denoted.
use Rattle.std.proofs.Common.{◌≡◌, refl, sym, ap, ◌∙◌, true, false, if◌then◌else◌, List, [], ◌∷◌, ℤ, Option, Some, None, is_some, option_map}
use Rattle.std.proofs.Math.IntN.{+ℤ_idr}
use Rattle.ess_semantics.specs.declared.words.Fun.{Fun}
use Rattle.ess_semantics.specs.Lists.{and_then}
use Rattle.ess_semantics.specs.Values.{Text, Value, number}
use Rattle.ess_semantics.specs.Domains.{Span, Attribute, numbered, flagged, Domain, Domains, integers, tuples, records, matrices, sets, msets, functions, relations, partitions, more_domains}
use Rattle.ess_semantics.specs.Trees.{Ends, one_value, both_ends, low_end, high_end, Mark, flag, valued, word, Ex, Exs, comp_ex, no_exs, more_exs, Dom, Doms, bool_dom, int_dom, name_dom, tuple_dom, record_dom, matrix_dom, set_dom, mset_dom, function_dom, relation_dom, partition_dom, no_doms, more_doms}
use Rattle.ess_semantics.specs.Operators.{list_value, number_in, value_of_node}
use Rattle.ess_semantics.specs.Meaning.{Env, as_int, meaning, meanings, with_span, spans_of, attributes_of, domain_of, domains_of}
use Rattle.ess_semantics.specs.Totality.{Total, TotalAll, TotalDom, TotalDoms}
use Rattle.ess_guard_laws.specs.Conditions.{conds, summed}
use Rattle.ess_guard_laws.specs.Covered.{Covered, CoveredAll, CoveredDom, CoveredDoms}
use Rattle.ess_guard_laws.specs.Guard.{there, make_total, make_total_term}
use Rattle.ess_guard_laws.specs.Holds.{Hold}
use Rattle.ess_guard_laws.proofs.Holding.{hold-tested, conds-items}
use Rattle.ess_guard_laws.proofs.Rows.{own-holds}
use Rattle.ess_guard_laws.proofs.LiteralRows.{matrix-holds}
use Rattle.ess_guard_laws.proofs.Meanings.{same}
use Rattle.ess_guard_laws.proofs.TermLaws.{held}
use Rattle.ess_guard_laws.proofs.Terms.{summed-total}
use Rattle.ess_guard_laws.proofs.TotalLaws.{behind-there}
use Rattle.ess_repr_laws.specs.StructureMeaning.{Number, AllNumbers}
use Rattle.ess_repr_declare_laws.proofs.Readings.{Reads, From, read-from}
use Rattle.ess_repr_declare_laws.proofs.SizeNumbers.{mapped, chained}
use Rattle.ess_repr_structure_laws.specs.DomainNumbers.{NumbersIn, AllNumbersIn}
use Rattle.ess_repr_structure_laws.specs.TotalNumbers.{total_numbers, total_dom, total_doms}

-- ---- one number

-- Under conditions that hold a term reads the number that it read.
summed-reads : (cs : List Ex) (e : Ex) (env : Env) (z : ℤ) → Hold cs env → Reads e env z → Reads (summed cs e) env z
summed-reads [] e env z h p = p
summed-reads (c ∷ cs) e env z h p =
    let u : From (meaning e env) z = read-from (meaning e env) z p in
    ap (λ o. as_int (value_of_node (word Fun.Sum) (option_map list_value o ∷ [])))
    (conds-items (c ∷ cs) env (λ here. option_map (λ v. v ∷ []) (meaning e here)))
    ∙ ap (λ t. as_int (value_of_node (word Fun.Sum)
    (option_map list_value (if t then option_map (λ v. v ∷ []) (meaning e env) else Some []) ∷ [])))
    (hold-tested (c ∷ cs) env h)
    ∙ ap (λ o. as_int (value_of_node (word Fun.Sum) (option_map list_value (option_map (λ v. v ∷ []) o) ∷ []))) u.there
    ∙ ap Some (+ℤ_idr (number_in u.value) ∙ u.reads)

-- What reads a number is that number.
abbrev pub IsNumber : Ex → Env → Type 0
IsNumber e env = (z : ℤ) → as_int (meaning e env) ≡ Some z → Number e env z

-- A number under conditions is one.
summed-number : (cs : List Ex) (e : Ex) (env : Env) → IsNumber e env → IsNumber (summed cs e) env
summed-number [] e env h = h
summed-number (c ∷ cs) e env h = go (meaning (comp_ex e (conds (c ∷ cs))) env)
  where
    go : (o : Option Value) (z : ℤ) → as_int (value_of_node (word Fun.Sum) (o ∷ [])) ≡ Some z → value_of_node (word Fun.Sum) (o ∷ []) ≡ Some
        (number z)
    go None z p = cc
    go (Some v) z p = cc

read-there : (o : Option Value) (z : ℤ) → as_int o ≡ Some z → is_some o ≡ true
read-there None z h = cc
read-there (Some v) z h = refl

module _ (x y : Text) where
  kept : (e : Ex) (env : Env) → meaning (make_total x y e) env ≡ meaning e env
  kept e env = same false x y (own-holds x y) (matrix-holds x) e [] env

  pub number-reads : (e : Ex) (env : Env) (z : ℤ) → Reads e env z → Reads ((make_total_term x y true e).1) env z
  number-reads e env z p =
      summed-reads (there x y e) (make_total x y e) env z (held x y e env (read-there (meaning e env) z p)) (ap as_int (kept e env) ∙ p)

  pub number-stays : (e : Ex) (env : Env) → IsNumber e env → IsNumber ((make_total_term x y true e).1) env
  number-stays e env h = summed-number (there x y e) (make_total x y e) env (λ z p. kept e env ∙ h z (sym (ap as_int (kept e env)) ∙ p))

  pub number-total : (e : Ex) (env : Env) → Covered e → Total ((make_total_term x y true e).1) env
  number-total e env v = summed-total (there x y e) (make_total x y e) env (behind-there x y e env v)

  -- ---- all numbers

  abbrev Ns : Exs → Exs
  Ns = total_numbers x y

  abbrev G : Dom → Dom
  G = total_dom x y

  abbrev Gs : Doms → Doms
  Gs = total_doms x y

  spans-kept : (rs : List Ends) (es : Exs) (env : Env) (ss : List Span) → spans_of rs (meanings es env) ≡ Some ss → spans_of rs
      (meanings (Ns es) env) ≡ Some ss
  spans-kept [] no_exs env ss h = h
  spans-kept [] (more_exs e es) env ss h = cc
  spans-kept (one_value ∷ rs) no_exs env ss h = cc
  spans-kept (one_value ∷ rs) (more_exs a es) env ss h =
      let c = chained (as_int (meaning a env)) (λ n. with_span (Some n) (Some n) (spans_of rs (meanings es env))) ss h in
      let m = mapped (λ l. record { low = Some c.0; high = Some c.0 } ∷ l) (spans_of rs (meanings es env)) ss c.2 in
      ap (λ o. and_then o (λ n. with_span (Some n) (Some n) (spans_of rs (meanings (Ns es) env)))) (number-reads a env c.0 c.1)
      ∙ ap (with_span (Some c.0) (Some c.0)) (spans-kept rs es env m.0 m.1) ∙ ap Some m.2
  spans-kept (both_ends ∷ rs) no_exs env ss h = cc
  spans-kept (both_ends ∷ rs) (more_exs a no_exs) env ss h = cc
  spans-kept (both_ends ∷ rs) (more_exs a (more_exs b es)) env ss h =
      let c = chained (as_int (meaning a env)) (λ n. and_then (as_int (meaning b env))
      (λ m. with_span (Some n) (Some m) (spans_of rs (meanings es env)))) ss h in
      let d = chained (as_int (meaning b env)) (λ m. with_span (Some c.0) (Some m) (spans_of rs (meanings es env))) ss c.2 in
      let m = mapped (λ l. record { low = Some c.0; high = Some d.0 } ∷ l) (spans_of rs (meanings es env)) ss d.2 in
      ap (λ o. and_then o (λ n. and_then (as_int (meaning ((make_total_term x y true b).1) env))
      (λ m. with_span (Some n) (Some m) (spans_of rs (meanings (Ns es) env))))) (number-reads a env c.0 c.1)
      ∙ ap (λ o. and_then o (λ m. with_span (Some c.0) (Some m) (spans_of rs (meanings (Ns es) env)))) (number-reads b env d.0 d.1)
      ∙ ap (with_span (Some c.0) (Some d.0)) (spans-kept rs es env m.0 m.1) ∙ ap Some m.2
  spans-kept (low_end ∷ rs) no_exs env ss h = cc
  spans-kept (low_end ∷ rs) (more_exs a es) env ss h =
      let c = chained (as_int (meaning a env)) (λ n. with_span (Some n) None (spans_of rs (meanings es env))) ss h in
      let m = mapped (λ l. record { low = Some c.0; high = None } ∷ l) (spans_of rs (meanings es env)) ss c.2 in
      ap (λ o. and_then o (λ n. with_span (Some n) None (spans_of rs (meanings (Ns es) env)))) (number-reads a env c.0 c.1)
      ∙ ap (with_span (Some c.0) None) (spans-kept rs es env m.0 m.1) ∙ ap Some m.2
  spans-kept (high_end ∷ rs) no_exs env ss h = cc
  spans-kept (high_end ∷ rs) (more_exs a es) env ss h =
      let c = chained (as_int (meaning a env)) (λ n. with_span None (Some n) (spans_of rs (meanings es env))) ss h in
      let m = mapped (λ l. record { low = None; high = Some c.0 } ∷ l) (spans_of rs (meanings es env)) ss c.2 in
      ap (λ o. and_then o (λ n. with_span None (Some n) (spans_of rs (meanings (Ns es) env)))) (number-reads a env c.0 c.1)
      ∙ ap (with_span None (Some c.0)) (spans-kept rs es env m.0 m.1) ∙ ap Some m.2

  attributes-kept : (ms : List Mark) (es : Exs) (env : Env) (ks : List Attribute) → attributes_of ms (meanings es env) ≡ Some ks →
      attributes_of ms (meanings (Ns es) env) ≡ Some ks
  attributes-kept [] no_exs env ks h = h
  attributes-kept [] (more_exs e es) env ks h = cc
  attributes-kept (flag k ∷ ms) es env ks h =
      let m = mapped (λ l. flagged k ∷ l) (attributes_of ms (meanings es env)) ks h in
      ap (option_map (λ l. flagged k ∷ l)) (attributes-kept ms es env m.0 m.1) ∙ ap Some m.2
  attributes-kept (valued k ∷ ms) no_exs env ks h = cc
  attributes-kept (valued k ∷ ms) (more_exs e es) env ks h =
      let c = chained (as_int (meaning e env)) (λ n. option_map (λ l. numbered k n ∷ l) (attributes_of ms (meanings es env))) ks h in
      let m = mapped (λ l. numbered k c.0 ∷ l) (attributes_of ms (meanings es env)) ks c.2 in
      ap (λ o. and_then o (λ n. option_map (λ l. numbered k n ∷ l) (attributes_of ms (meanings (Ns es) env)))) (number-reads e env c.0 c.1)
      ∙ ap (option_map (λ l. numbered k c.0 ∷ l)) (attributes-kept ms es env m.0 m.1) ∙ ap Some m.2

  mutual
    -- The domain denotes what it denoted.
    pub denoted-kept : (d : Dom) (env : Env) (e : Domain) → domain_of d env ≡ Some e → domain_of (G d) env ≡ Some e
    denoted-kept bool_dom env e h = h
    denoted-kept (int_dom rs es) env e h =
        let m = mapped integers (spans_of rs (meanings es env)) e h in ap (option_map integers) (spans-kept rs es env m.0 m.1) ∙ ap Some m.2
    denoted-kept (name_dom a) env e h = h
    denoted-kept (tuple_dom ds) env e h = let m = mapped tuples (domains_of ds env) e h in ap (option_map tuples)
        (all-denoted-kept ds env m.0 m.1) ∙ ap Some m.2
    denoted-kept (record_dom fs ds) env e h =
        let m = mapped (records fs) (domains_of ds env) e h in ap (option_map (records fs)) (all-denoted-kept ds env m.0 m.1) ∙ ap Some m.2
    denoted-kept (matrix_dom is d) env e h =
        let c = chained (domains_of is env) (λ js. option_map (matrices js) (domain_of d env)) e h in
        let m = mapped (matrices c.0) (domain_of d env) e c.2 in
        ap (λ o. and_then o (λ js. option_map (matrices js) (domain_of (G d) env))) (all-denoted-kept is env c.0 c.1)
        ∙ ap (option_map (matrices c.0)) (denoted-kept d env m.0 m.1) ∙ ap Some m.2
    denoted-kept (set_dom ms es d) env e h =
        let c = chained (attributes_of ms (meanings es env)) (λ ks. option_map (sets ks) (domain_of d env)) e h in
        let m = mapped (sets c.0) (domain_of d env) e c.2 in
        ap (λ o. and_then o (λ ks. option_map (sets ks) (domain_of (G d) env))) (attributes-kept ms es env c.0 c.1)
        ∙ ap (option_map (sets c.0)) (denoted-kept d env m.0 m.1) ∙ ap Some m.2
    denoted-kept (mset_dom ms es d) env e h =
        let c = chained (attributes_of ms (meanings es env)) (λ ks. option_map (msets ks) (domain_of d env)) e h in
        let m = mapped (msets c.0) (domain_of d env) e c.2 in
        ap (λ o. and_then o (λ ks. option_map (msets ks) (domain_of (G d) env))) (attributes-kept ms es env c.0 c.1)
        ∙ ap (option_map (msets c.0)) (denoted-kept d env m.0 m.1) ∙ ap Some m.2
    denoted-kept (function_dom ms es d c) env e h =
        let k = chained (attributes_of ms (meanings es env))
        (λ ks. and_then (domain_of d env) (λ x. option_map (functions ks x) (domain_of c env))) e h in
        let u = chained (domain_of d env) (λ x. option_map (functions k.0 x) (domain_of c env)) e k.2 in
        let v = mapped (functions k.0 u.0) (domain_of c env) e u.2 in
        ap (λ o. and_then o (λ ks. and_then (domain_of (G d) env) (λ x. option_map (functions ks x) (domain_of (G c) env))))
        (attributes-kept ms es env k.0 k.1)
        ∙ ap (λ o. and_then o (λ x. option_map (functions k.0 x) (domain_of (G c) env))) (denoted-kept d env u.0 u.1)
        ∙ ap (option_map (functions k.0 u.0)) (denoted-kept c env v.0 v.1) ∙ ap Some v.2
    denoted-kept (relation_dom ms es ds) env e h =
        let c = chained (attributes_of ms (meanings es env)) (λ ks. option_map (relations ks) (domains_of ds env)) e h in
        let m = mapped (relations c.0) (domains_of ds env) e c.2 in
        ap (λ o. and_then o (λ ks. option_map (relations ks) (domains_of (Gs ds) env))) (attributes-kept ms es env c.0 c.1)
        ∙ ap (option_map (relations c.0)) (all-denoted-kept ds env m.0 m.1) ∙ ap Some m.2
    denoted-kept (partition_dom ms es d) env e h =
        let c = chained (attributes_of ms (meanings es env)) (λ ks. option_map (partitions ks) (domain_of d env)) e h in
        let m = mapped (partitions c.0) (domain_of d env) e c.2 in
        ap (λ o. and_then o (λ ks. option_map (partitions ks) (domain_of (G d) env))) (attributes-kept ms es env c.0 c.1)
        ∙ ap (option_map (partitions c.0)) (denoted-kept d env m.0 m.1) ∙ ap Some m.2

    all-denoted-kept : (ds : Doms) (env : Env) (es : Domains) → domains_of ds env ≡ Some es → domains_of (Gs ds) env ≡ Some es
    all-denoted-kept no_doms env es h = h
    all-denoted-kept (more_doms d ds) env es h =
        let c = chained (domain_of d env) (λ x. option_map (more_domains x) (domains_of ds env)) es h in
        let m = mapped (more_domains c.0) (domains_of ds env) es c.2 in
        ap (λ o. and_then o (λ x. option_map (more_domains x) (domains_of (Gs ds) env))) (denoted-kept d env c.0 c.1)
        ∙ ap (option_map (more_domains c.0)) (all-denoted-kept ds env m.0 m.1) ∙ ap Some m.2

  numbers-stay : (es : Exs) (env : Env) → AllNumbers es env → AllNumbers (Ns es) env
  numbers-stay no_exs env n = tt
  numbers-stay (more_exs e es) env n = (number-stays e env n.0, numbers-stay es env n.1)

  mutual
    -- Its numbers are numbers.
    pub numbers-in-stay : (d : Dom) (env : Env) → NumbersIn d env → NumbersIn (G d) env
    numbers-in-stay bool_dom env n = tt
    numbers-in-stay (int_dom rs es) env n = numbers-stay es env n
    numbers-in-stay (name_dom a) env n = tt
    numbers-in-stay (tuple_dom ds) env n = all-numbers-in-stay ds env n
    numbers-in-stay (record_dom fs ds) env n = all-numbers-in-stay ds env n
    numbers-in-stay (matrix_dom is d) env n = (all-numbers-in-stay is env n.0, numbers-in-stay d env n.1)
    numbers-in-stay (set_dom ms es d) env n = (numbers-stay es env n.0, numbers-in-stay d env n.1)
    numbers-in-stay (mset_dom ms es d) env n = (numbers-stay es env n.0, numbers-in-stay d env n.1)
    numbers-in-stay (function_dom ms es d c) env n = (numbers-stay es env n.0, numbers-in-stay d env n.1, numbers-in-stay c env n.2)
    numbers-in-stay (relation_dom ms es ds) env n = (numbers-stay es env n.0, all-numbers-in-stay ds env n.1)
    numbers-in-stay (partition_dom ms es d) env n = (numbers-stay es env n.0, numbers-in-stay d env n.1)

    all-numbers-in-stay : (ds : Doms) (env : Env) → AllNumbersIn ds env → AllNumbersIn (Gs ds) env
    all-numbers-in-stay no_doms env n = tt
    all-numbers-in-stay (more_doms d ds) env n = (numbers-in-stay d env n.0, all-numbers-in-stay ds env n.1)

  numbers-total : (es : Exs) (env : Env) → CoveredAll es → TotalAll (Ns es) env
  numbers-total no_exs env v = tt
  numbers-total (more_exs e es) env v = (number-total e env v.0, numbers-total es env v.1)

  mutual
    -- They are total where they are covered.
    pub covered-total : (d : Dom) (env : Env) → CoveredDom d → TotalDom (G d) env
    covered-total bool_dom env v = tt
    covered-total (int_dom rs es) env v = numbers-total es env v
    covered-total (name_dom a) env v = tt
    covered-total (tuple_dom ds) env v = all-covered-total ds env v
    covered-total (record_dom fs ds) env v = all-covered-total ds env v
    covered-total (matrix_dom is d) env v = (all-covered-total is env v.0, covered-total d env v.1)
    covered-total (set_dom ms es d) env v = (numbers-total es env v.0, covered-total d env v.1)
    covered-total (mset_dom ms es d) env v = (numbers-total es env v.0, covered-total d env v.1)
    covered-total (function_dom ms es d c) env v = (numbers-total es env v.0, covered-total d env v.1, covered-total c env v.2)
    covered-total (relation_dom ms es ds) env v = (numbers-total es env v.0, all-covered-total ds env v.1)
    covered-total (partition_dom ms es d) env v = (numbers-total es env v.0, covered-total d env v.1)

    all-covered-total : (ds : Doms) (env : Env) → CoveredDoms ds → TotalDoms (Gs ds) env
    all-covered-total no_doms env v = tt
    all-covered-total (more_doms d ds) env v = (covered-total d env v.0, all-covered-total ds env v.1)
