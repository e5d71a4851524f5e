-- The number of members of an int domain and of a named type as a term under an env.
use Rattle.std.specs.Prelude.{is_some}
use Rattle.std.specs.Cmp.{int_cmp_is}
use Rattle.std.proofs.Common.{◌≡◌, refl, sym, ap, ◌∙◌, subst, ℕ, zero, suc, ◌+◌, Bool, true, false, ◌&&◌, if◌then◌else◌, List, [], ◌∷◌, map, length, ℤ, pos, ◌+ℤ◌, ◌-ℤ◌, Option, Some, None, option_map, arith}
use Rattle.std.specs.List.{list_all}
use Rattle.std.proofs.lemmas.Int.{ints}
use Rattle.std.proofs.lemmas.List.{append-nil}
use Rattle.std.specs.Ordering.{is_lt}
use Rattle.std.specs.declared.cmp.Ordering.TheVariants.{Less}
use Rattle.ess_semantics.specs.Lists.{and_then, all_some, append_all, list_or_none}
use Rattle.ess_semantics.specs.Values.{Text, Value, itself}
use Rattle.ess_semantics.specs.Collections.{rises, sorted_once}
use Rattle.ess_semantics.specs.Operators.{false_where_undefined}
use Rattle.ess_semantics.specs.Numbers.{natural}
use Rattle.ess_semantics.specs.Domains.{Span, Domain, integers, named, interval, numbers_up, span_members, int_members, items_from, members, member_list, between}
use Rattle.ess_semantics.specs.Sizes.{bound}
use Rattle.ess_semantics.specs.Kinds.{is_closed_end, is_bounded}
use Rattle.ess_semantics.specs.Trees.{Ends, one_value, both_ends, low_end, high_end, Ex, Exs, number_ex, truth_ex, name_ex, node_ex, matrix_ex, comp_ex, cell_ex, seen_ex, no_exs, more_exs, Dom, bool_dom, int_dom, name_dom, tuple_dom, record_dom, matrix_dom, set_dom, mset_dom, function_dom, relation_dom, partition_dom}
use Rattle.ess_semantics.specs.Meaning.{Env, TypeEntry, meaning, meanings, as_int, is_bool_dom, seen_in, tables_in, indices, spans_of, with_span, named_domain, type_entry, domain_of, members_in}
use Rattle.ess_semantics.proofs.Sorting.{sorted_once-itself}
use Rattle.ess_repr_declare_laws.specs.SizeTerms.{zero_ex, listed_ex, lacks_bounds, is_missing, bound_or_0, count_ex}
use Rattle.ess_repr_declare_laws.proofs.Readings.{Reads, listed-reads}
use Rattle.ess_repr_declare_laws.proofs.SizeNumbers.{mapped, chained, there, absent, between-reads}

-- ---- missing bounds

no-domain : (env : Env) (d : Dom) → lacks_bounds d ≡ true → domain_of d env ≡ None
no-domain env bool_dom h = cc
no-domain env (int_dom [] es) h = cc
no-domain env (int_dom (one_value ∷ rs) es) h = cc
no-domain env (int_dom (low_end ∷ rs) es) h = cc
no-domain env (int_dom (high_end ∷ rs) es) h = cc
no-domain env (int_dom (both_ends ∷ []) no_exs) h = refl
no-domain env (int_dom (both_ends ∷ []) (more_exs e es)) h = cc
no-domain env (int_dom (both_ends ∷ r ∷ rs) es) h = cc
no-domain env (name_dom a) h = cc
no-domain env (tuple_dom ds) h = cc
no-domain env (record_dom fs ds) h = cc
no-domain env (matrix_dom is d) h = cc
no-domain env (set_dom ms es d) h = cc
no-domain env (mset_dom ms es d) h = cc
no-domain env (function_dom ms es d c) h = cc
no-domain env (relation_dom ms es ds) h = cc
no-domain env (partition_dom ms es d) h = cc

not-bool : (d : Dom) → lacks_bounds d ≡ true → is_bool_dom d ≡ false
not-bool bool_dom h = cc
not-bool (int_dom rs es) h = refl
not-bool (name_dom a) h = refl
not-bool (tuple_dom ds) h = refl
not-bool (record_dom fs ds) h = refl
not-bool (matrix_dom is d) h = refl
not-bool (set_dom ms es d) h = refl
not-bool (mset_dom ms es d) h = refl
not-bool (function_dom ms es d c) h = refl
not-bool (relation_dom ms es ds) h = refl
not-bool (partition_dom ms es d) h = refl

no-meaning : (env : Env) (e : Ex) → is_missing e ≡ true → meaning e env ≡ None
no-meaning env (number_ex n) h = cc
no-meaning env (truth_ex b) h = cc
no-meaning env (name_ex a) h = cc
no-meaning env (node_ex b o es) h = cc
no-meaning env (matrix_ex es d) h = cc
no-meaning env (comp_ex e gs) h = cc
no-meaning env (cell_ex b n es) h = cc
no-meaning env (seen_ex r d ns es) h =
    ap (λ b. false_where_undefined b (seen_in r (domain_of d env) (tables_in env.cells ns) (indices (meanings es env)))) (not-bool d h)
    ∙ ap (λ o. seen_in r o (tables_in env.cells ns) (indices (meanings es env))) (no-domain env d h)

pub bound-reads-same : (env : Env) (e : Ex) (x : ℤ) → Reads e env x → Reads (bound_or_0 e) env x
bound-reads-same env e x p = go (is_missing e) refl
  where
    go : (b : Bool) → is_missing e ≡ b → Reads (if b then zero_ex else e) env x
    go false h = p
    go true h = let q : None ≡ Some x = sym (ap as_int (no-meaning env e h)) ∙ p in cc

-- ---- int domains

numbers-long : (a : ℤ) (n : ℕ) → length (numbers_up a n) ≡ n
numbers-long a zero = refl
numbers-long a (suc n) = ap suc (numbers-long (a +ℤ pos 1) n)

items-long : (t : Text) (k n : ℕ) → length (items_from t k n) ≡ n
items-long t k zero = refl
items-long t k (suc n) = ap suc (items-long t (suc k) n)

rising : (a : ℤ) (n : ℕ) → rises itself (numbers_up a n) ≡ true
rising a zero = refl
rising a (suc zero) = refl
rising a (suc (suc n)) =
    ap (λ o. is_lt o && rises itself (numbers_up (a +ℤ pos 1) (suc n))) (sym (int_cmp_is a (a +ℤ pos 1) Less (omega (arith, ints))))
    ∙ rising (a +ℤ pos 1) (suc n)

-- One range has as many members as there are numbers.
pub span-long : (x y : ℤ) → length (member_list (between x y)) ≡ natural ((y -ℤ x) +ℤ pos 1)
span-long x y =
    ap (λ l. length (sorted_once l)) (append-nil (interval x y))
    ∙ ap length (sorted_once-itself (interval x y) (rising x (natural ((y -ℤ x) +ℤ pos 1))))
    ∙ numbers-long x (natural ((y -ℤ x) +ℤ pos 1))

more-there : {A : Type 0} (x : A) (o : Option (List A)) → is_some (option_map (λ xs. x ∷ xs) o) ≡ is_some o
more-there x None = refl
more-there x (Some xs) = refl

closed-same : (rs : List Ends) (os : List (Option Value)) (ss : List Span) → spans_of rs os ≡ Some ss → is_some (all_some (map span_members ss)) ≡ list_all is_closed_end rs
closed-same [] [] ss h = let q : [] ≡ ss = cc in ap (λ l. is_some (all_some (map span_members l))) (sym q)
closed-same [] (o ∷ os) ss h = cc
closed-same (one_value ∷ rs) [] ss h = cc
closed-same (one_value ∷ rs) (a ∷ os) ss h =
    let c = chained (as_int a) (λ n. with_span (Some n) (Some n) (spans_of rs os)) ss h in
    let m = mapped (λ l. record { low = Some c.0; high = Some c.0 } ∷ l) (spans_of rs os) ss c.2 in
    ap (λ l. is_some (all_some (map span_members l))) (sym m.2) ∙ more-there (interval c.0 c.0) (all_some (map span_members m.0)) ∙ closed-same rs os m.0 m.1
closed-same (both_ends ∷ rs) [] ss h = cc
closed-same (both_ends ∷ rs) (a ∷ []) ss h = cc
closed-same (both_ends ∷ rs) (a ∷ b ∷ os) ss h =
    let c = chained (as_int a) (λ n. and_then (as_int b) (λ m. with_span (Some n) (Some m) (spans_of rs os))) ss h in
    let d = chained (as_int b) (λ m. with_span (Some c.0) (Some m) (spans_of rs os)) ss c.2 in
    let m = mapped (λ l. record { low = Some c.0; high = Some d.0 } ∷ l) (spans_of rs os) ss d.2 in
    ap (λ l. is_some (all_some (map span_members l))) (sym m.2) ∙ more-there (interval c.0 d.0) (all_some (map span_members m.0)) ∙ closed-same rs os m.0 m.1
closed-same (low_end ∷ rs) [] ss h = cc
closed-same (low_end ∷ rs) (a ∷ os) ss h =
    let c = chained (as_int a) (λ n. with_span (Some n) None (spans_of rs os)) ss h in
    let m = mapped (λ l. record { low = Some c.0; high = None } ∷ l) (spans_of rs os) ss c.2 in
    ap (λ l. is_some (all_some (map span_members l))) (sym m.2)
closed-same (high_end ∷ rs) [] ss h = cc
closed-same (high_end ∷ rs) (b ∷ os) ss h =
    let c = chained (as_int b) (λ n. with_span None (Some n) (spans_of rs os)) ss h in
    let m = mapped (λ l. record { low = None; high = Some c.0 } ∷ l) (spans_of rs os) ss c.2 in
    ap (λ l. is_some (all_some (map span_members l))) (sym m.2)

-- The ranges are there where their words are.
full : (r : Ends) (rs : List Ends) (os : List (Option Value)) → spans_of (r ∷ rs) os ≡ Some [] → ⊥
full one_value rs [] h = cc
full one_value rs (a ∷ os) h =
    let c = chained (as_int a) (λ n. with_span (Some n) (Some n) (spans_of rs os)) [] h in
    let m = mapped (λ l. record { low = Some c.0; high = Some c.0 } ∷ l) (spans_of rs os) [] c.2 in let q = m.2 in cc
full both_ends rs [] h = cc
full both_ends rs (a ∷ []) h = cc
full both_ends rs (a ∷ b ∷ os) h =
    let c = chained (as_int a) (λ n. and_then (as_int b) (λ m. with_span (Some n) (Some m) (spans_of rs os))) [] h in
    let d = chained (as_int b) (λ m. with_span (Some c.0) (Some m) (spans_of rs os)) [] c.2 in
    let m = mapped (λ l. record { low = Some c.0; high = Some d.0 } ∷ l) (spans_of rs os) [] d.2 in let q = m.2 in cc
full low_end rs [] h = cc
full low_end rs (a ∷ os) h =
    let c = chained (as_int a) (λ n. with_span (Some n) None (spans_of rs os)) [] h in
    let m = mapped (λ l. record { low = Some c.0; high = None } ∷ l) (spans_of rs os) [] c.2 in let q = m.2 in cc
full high_end rs [] h = cc
full high_end rs (b ∷ os) h =
    let c = chained (as_int b) (λ n. with_span None (Some n) (spans_of rs os)) [] h in
    let m = mapped (λ l. record { low = None; high = Some c.0 } ∷ l) (spans_of rs os) [] c.2 in let q = m.2 in cc

map-there : {A B : Type 0} (f : A → B) (o : Option A) → is_some (option_map f o) ≡ is_some o
map-there f None = refl
map-there f (Some x) = refl

listed-same : (rs : List Ends) (os : List (Option Value)) (ss : List Span) → spans_of rs os ≡ Some ss → is_some (int_members ss) ≡ is_bounded rs
listed-same [] [] ss h = let q : [] ≡ ss = cc in ap (λ l. is_some (int_members l)) (sym q)
listed-same [] (o ∷ os) ss h = cc
listed-same (r ∷ rs) os [] h = absurd (full r rs os h)
listed-same (r ∷ rs) os (s ∷ ss) h = map-there (λ ls. sorted_once (append_all ls)) (all_some (map span_members (s ∷ ss))) ∙ closed-same (r ∷ rs) os (s ∷ ss) h

-- An int domain that is counted one by one, or not at all.
counted-reads : (env : Env) (rs : List Ends) (es : Exs) (ss : List Span) → spans_of rs (meanings es env) ≡ Some ss →
    Reads (if is_bounded rs then listed_ex (int_dom rs es) else zero_ex) env (pos (length (member_list (integers ss))))
counted-reads env rs es ss h = go (is_bounded rs) refl
  where
    go : (b : Bool) → is_bounded rs ≡ b → Reads (if b then listed_ex (int_dom rs es) else zero_ex) env (pos (length (member_list (integers ss))))
    go true e =
        let t = there (int_members ss) (listed-same rs (meanings es env) ss h ∙ e) in
        listed-reads env (int_dom rs es) t.0 (ap (λ o. members_in (option_map integers o)) h ∙ t.1)
        ∙ ap (λ o. Some (pos (length (list_or_none o)))) (sym t.1)
    go false e =
        let t : int_members ss ≡ None = absent (int_members ss) (listed-same rs (meanings es env) ss h ∙ e) in
        ap (λ o. Some (pos (length (list_or_none o)))) (sym t)

one-span : (x : ℤ) → natural ((x -ℤ x) +ℤ pos 1) ≡ 1
one-span x = let z : (x -ℤ x) +ℤ pos 1 ≡ pos 1 = omega (arith, ints) in ap natural z

pub count-reads : (env : Env) (rs : List Ends) (es : Exs) (ss : List Span) → spans_of rs (meanings es env) ≡ Some ss →
    Reads (count_ex rs es) env (pos (length (member_list (integers ss))))
count-reads env [] es ss h = counted-reads env [] es ss h
count-reads env (one_value ∷ []) no_exs ss h = cc
count-reads env (one_value ∷ []) (more_exs a (more_exs b es)) ss h =
    let c = chained (as_int (meaning a env)) (λ n. with_span (Some n) (Some n) None) ss h in let q = c.2 in cc
count-reads env (one_value ∷ []) (more_exs a no_exs) ss h =
    let c = chained (as_int (meaning a env)) (λ n. with_span (Some n) (Some n) (Some [])) ss h in
    let q : between c.0 c.0 ≡ integers ss = let r = c.2 in cc in
    ap (λ k. Some (pos k)) (sym (one-span c.0) ∙ sym (span-long c.0 c.0)) ∙ ap (λ e. Some (pos (length (member_list e)))) q
count-reads env (both_ends ∷ []) no_exs ss h = cc
count-reads env (both_ends ∷ []) (more_exs a no_exs) ss h = cc
count-reads env (both_ends ∷ []) (more_exs a (more_exs b (more_exs c es))) ss h =
    let u = chained (as_int (meaning a env)) (λ n. and_then (as_int (meaning b env)) (λ m. with_span (Some n) (Some m) None)) ss h in
    let v = chained (as_int (meaning b env)) (λ m. with_span (Some u.0) (Some m) None) ss u.2 in let q = v.2 in cc
count-reads env (both_ends ∷ []) (more_exs a (more_exs b no_exs)) ss h =
    let u = chained (as_int (meaning a env)) (λ n. and_then (as_int (meaning b env)) (λ m. with_span (Some n) (Some m) (Some []))) ss h in
    let v = chained (as_int (meaning b env)) (λ m. with_span (Some u.0) (Some m) (Some [])) ss u.2 in
    let q : between u.0 v.0 ≡ integers ss = let r = v.2 in cc in
    between-reads env (bound_or_0 a) (bound_or_0 b) u.0 v.0 (bound-reads-same env a u.0 u.1) (bound-reads-same env b v.0 v.1)
    ∙ ap (λ k. Some (pos k)) (sym (span-long u.0 v.0)) ∙ ap (λ e. Some (pos (length (member_list e)))) q
count-reads env (low_end ∷ []) es ss h = counted-reads env (low_end ∷ []) es ss h
count-reads env (high_end ∷ []) es ss h = counted-reads env (high_end ∷ []) es ss h
count-reads env (one_value ∷ r ∷ rs) es ss h = counted-reads env (one_value ∷ r ∷ rs) es ss h
count-reads env (both_ends ∷ r ∷ rs) es ss h = counted-reads env (both_ends ∷ r ∷ rs) es ss h
count-reads env (low_end ∷ r ∷ rs) es ss h = counted-reads env (low_end ∷ r ∷ rs) es ss h
count-reads env (high_end ∷ r ∷ rs) es ss h = counted-reads env (high_end ∷ r ∷ rs) es ss h

-- ---- named types

pub name-reads : (env : Env) (a : Text) (e : Domain) → domain_of (name_dom a) env ≡ Some e → Reads (listed_ex (name_dom a)) env (pos (bound e))
name-reads env a e h =
    let m = named-members env.positions a (type_entry env.types a) e h in
    listed-reads env (name_dom a) m.0 (ap members_in h ∙ m.1) ∙ ap (λ k. Some (pos k)) m.2
  where
    named-members : (b : Bool) (a : Text) (o : Option TypeEntry) (e : Domain) → named_domain b a o ≡ Some e → (vs : List Value) × (members e ≡ Some vs) × (length vs ≡ bound e)
    named-members b a None e h = cc
    named-members true a (Some t) e h =
        let q : between (pos 1) (pos t.count) ≡ e = cc in
        subst (λ x. (vs : List Value) × (members x ≡ Some vs) × (length vs ≡ bound x)) q (member_list (between (pos 1) (pos t.count)), refl, refl)
    named-members false a (Some t) e h =
        let q : named a t.count ≡ e = cc in
        subst (λ x. (vs : List Value) × (members x ≡ Some vs) × (length vs ≡ bound x)) q (items_from a 1 t.count, refl, items-long a 1 t.count)
