-- The conditions of indices hold where the index has an item.
use Rattle.std.proofs.Common.{◌≡◌, refl, sym, ap, ◌∙◌, subst, ℕ, suc, ◌+◌, ◌≤◌, Bool, true, false, ◌&&◌, ◌||◌, not, if◌then◌else◌, List, [], ◌∷◌, ◌++◌, length, ℤ, pos, ◌≤ℤ◌, ◌<ℤ◌, Option, Some, None, option_map, is_some, nat_eq, int_le, arith}
use Rattle.std.proofs.lemmas.Int.{ints}
use Rattle.std.specs.Ordering.{int_cmp, is_lt}
use Rattle.std.specs.Cmp.{int_cmp_is}
use Rattle.std.specs.declared.cmp.Ordering.TheVariants.{Equal, Greater}
use Rattle.ess_semantics.specs.declared.words.Op2.{Op2}
use Rattle.ess_semantics.specs.declared.words.Fun.{Fun}
use Rattle.ess_semantics.specs.Lists.{and_then, all_some, when, list_or_none}
use Rattle.ess_semantics.specs.Values.{Text, Value, number, truth, item, node, of_list, matrix}
use Rattle.ess_semantics.specs.Order.{same, below, same_int}
use Rattle.ess_semantics.specs.Names.{Names}
use Rattle.ess_semantics.specs.Collections.{holds}
use Rattle.ess_semantics.specs.Trees.{Gens, Step, by_value, to_component, to_field, binary, word, index, matrix_literal, both_ends, name_pat, Ex, Exs, number_ex, name_ex, node_ex, matrix_ex, comp_ex, seen_ex, no_exs, more_exs, no_gens, over, Dom, Doms, no_doms, more_doms, bool_dom, int_dom, name_dom, matrix_dom, ex2, fun1}
use Rattle.ess_semantics.specs.Operators.{as_truth, number_in, item_at, at_index, at_component, at_field, path_value, value_of_node, value_of_op, false_where_undefined, list_value, numbers_from, sum_of}
use Rattle.ess_semantics.specs.Domains.{Domain, Domains, more_domains, integers, members, member_list, between}
use Rattle.ess_semantics.specs.Membership.{member}
use Rattle.ess_semantics.specs.Meaning.{Env, meaning, meanings, items_under, domain_of, domains_of, members_in, with_pat, collect, matrix_value}
use Rattle.ess_semantics.specs.Constants.{operand_count}
use Rattle.ess_semantics.proofs.Orders.{to_list-of_list, same-itself, same-equal, same_int-equal, same_int-itself}
use Rattle.ess_semantics.proofs.Sorting.{all-holds}
use Rattle.ess_guard_laws.proofs.SetMembers.{set-member}
use Rattle.ess_semantics.proofs.MemberLists.{integers-listed}
use Rattle.ess_semantics.proofs.Tests.{and-left, and-right, and-both}
use Rattle.ess_rules_laws.proofs.Agreement.{look-itself}
use Rattle.ess_guard_laws.specs.Origins.{Origin, is_sure}
use Rattle.ess_guard_laws.specs.IndexDomains.{one_up_to, item_dom, dom_behind, dom_followed, first_index, are_plain_bounds, plain_axis, index_dom}
use Rattle.ess_guard_laws.specs.Conditions.{as_number, in_dom, at_step, index_conditions, path_conditions}
use Rattle.ess_guard_laws.specs.Holds.{Hold}
use Rattle.ess_guard_laws.proofs.Holding.{then-first, the-value, hold-append, unless-holds}
use Rattle.ess_guard_laws.proofs.NumberForms.{no-names, read-number}
use Rattle.ess_guard_laws.proofs.LiteralRows.{first-value, number-of-values}
use Rattle.ess_guard_laws.proofs.CountRows.{Counts, counts-under, one-counts}
use Rattle.ess_guard_laws.proofs.Axes.{IsNested, nested-axis, view-nested, items-inside, axis-inside, axis-item}

-- ---- ranges

-- A number that isn't above another one.
pub not-above : (p q : ℤ) → p ≤ℤ q → not (below (number q) (number p)) ≡ true
not-above p q h = go (same_int q p) refl
  where
    go : (t : Bool) → same_int q p ≡ t → not (is_lt (int_cmp q p)) ≡ true
    go true e = ap (λ o. not (is_lt o)) (sym (int_cmp_is q p Equal (same_int-equal q p e)))
    go false e = ap (λ o. not (is_lt o)) (sym (int_cmp_is q p Greater (apart (λ z. let r : true ≡ false = sym (same_int-itself p) ∙ ap (λ y. same_int y p) (sym z) ∙ e in cc))))
      where
        apart : (q ≡ p → ⊥) → p <ℤ q
        apart n = omega (arith, ints)

-- `a <= i /\ i <= b`
pub range-holds : (x : Text) (i a b : Ex) (env : Env) (v w : Value) (n : ℤ) → meaning a env ≡ Some v → meaning b env ≡ Some w → meaning i env ≡ Some (number n) → number_in v ≤ℤ n → n ≤ℤ number_in w →
    as_truth (meaning (in_dom x i (int_dom (both_ends ∷ []) (more_exs a (more_exs b no_exs)))) env) ≡ true
range-holds x i a b env v w n p q r l u = and-both (as_truth (meaning (ex2 true Op2.Le (as_number [] a) i) env)) (as_truth (meaning (ex2 true Op2.Le i (as_number [] b)) env))
    (compared (as_number [] a) i env (number (number_in v)) (number n) (read-number [] a env v (no-names env) p) r ∙ not-above (number_in v) n l)
    (compared i (as_number [] b) env (number n) (number (number_in w)) r (read-number [] b env w (no-names env) q) ∙ not-above n (number_in w) u)
  where
    compared : (c d : Ex) (env : Env) (v w : Value) → meaning c env ≡ Some v → meaning d env ≡ Some w → as_truth (meaning (ex2 true Op2.Le c d) env) ≡ not (below w v)
    compared c d env v w p q = ap (λ o. as_truth (false_where_undefined true (value_of_node (binary Op2.Le) (o ∷ meaning d env ∷ [])))) p
        ∙ ap (λ o. as_truth (false_where_undefined true (value_of_node (binary Op2.Le) (Some v ∷ o ∷ [])))) q

-- ---- members

-- A listed member of a range.
listed-number : (a b : ℤ) (w : Value) (is : List Value) → members (between a b) ≡ Some is → holds is w ≡ true → (n : ℤ) × (w ≡ number n) × (a ≤ℤ n) × (n ≤ℤ b)
listed-number a b w is e h = go w (all-holds (member (between a b)) (member_list (between a b)) w (integers-listed (record { low = Some a; high = Some b } ∷ [])).members (ap (λ o. holds (elim o [ None ↦ [] | Some l ↦ l ]) w) e ∙ h))
  where
    go : (w : Value) → member (between a b) w ≡ true → (n : ℤ) × (w ≡ number n) × (a ≤ℤ n) × (n ≤ℤ b)
    go (number n) q = (n, refl, le-is a n (and-left (int_le a n) (int_le n b) (only (int_le a n && int_le n b) q)), le-is n b (and-right (int_le a n) (int_le n b) (only (int_le a n && int_le n b) q)))
      where
        only : (t : Bool) → t || false ≡ true → t ≡ true
        only true e = refl
        only false e = e

        le-is : (a b : ℤ) → int_le a b ≡ true → a ≤ℤ b
        le-is a b e = grind (arith, ints)
    go (truth t) q = cc
    go (item t k) q = cc
    go (node k vs) q = cc

-- A member of the list of the members.
listed-member : (x : Text) (i : Ex) (d : Dom) (env : Env) (w : Value) (is : List Value) → meaning i env ≡ Some w → members_in (domain_of d env) ≡ Some is → holds is w ≡ true →
    as_truth (meaning (ex2 true Op2.Member i (comp_ex (name_ex x) (over (name_pat x) d no_gens))) env) ≡ true
listed-member x i d env w is p e h =
    ap (λ o. as_truth (false_where_undefined true (value_of_node (binary Op2.Member) (o ∷ meaning (comp_ex (name_ex x) (over (name_pat x) d no_gens)) env ∷ [])))) p
    ∙ ap (λ o. as_truth (false_where_undefined true (value_of_node (binary Op2.Member) (Some w ∷ option_map list_value o ∷ [])))) (ap (λ o. and_then o (λ vs. collect vs f)) e ∙ alone is)
    ∙ ap (λ l. holds l w) (to_list-of_list is) ∙ h
  where
    f : Value → Option (List Value)
    f v = option_map (λ u. u ∷ []) (meaning (name_ex x) (with_pat (name_pat x) v env))

    alone : (us : List Value) → collect us f ≡ Some us
    alone [] = refl
    alone (u ∷ us) = ap (λ o. and_then (option_map (λ w. w ∷ []) o) (λ xs. option_map (λ ys. xs ++ ys) (collect us f))) (look-itself x u env.vals) ∙ ap (option_map (λ ys. u ∷ ys)) (alone us)

-- A listed member of a domain.
pub member-holds : (x : Text) (i : Ex) (d : Dom) (env : Env) (w : Value) (is : List Value) → meaning i env ≡ Some w → members_in (domain_of d env) ≡ Some is → holds is w ≡ true →
    as_truth (meaning (in_dom x i d) env) ≡ true
member-holds x i (int_dom (both_ends ∷ []) (more_exs a (more_exs b no_exs))) env w is p e h = go (meaning a env) (meaning b env) refl refl e
  where
    go : (o q : Option Value) → meaning a env ≡ o → meaning b env ≡ q →
        members_in (option_map integers (and_then (option_map number_in o) (λ n. and_then (option_map number_in q) (λ m. Some (record { low = Some n; high = Some m } ∷ []))))) ≡ Some is →
        as_truth (meaning (in_dom x i (int_dom (both_ends ∷ []) (more_exs a (more_exs b no_exs)))) env) ≡ true
    go None q f g r = cc
    go (Some v) None f g r = cc
    go (Some v) (Some u) f g r =
        let l = listed-number (number_in v) (number_in u) w is r h in
        range-holds x i a b env v u l.0 f g (p ∙ ap Some l.1) l.2 l.3
member-holds x i d env w is p e h =
    set-member i (comp_ex (name_ex x) (over (name_pat x) d no_gens)) env ∙ listed-member x i d env w is p e h

-- ---- lists

numbers-listed : (k : ℕ) (xs ys : List Value) (w : Value) → is_some (item_at (of_list (numbers_from k xs)) (of_list ys) w) ≡ true → (j : ℕ) × (w ≡ number (pos (k + j))) × (suc j ≤ length xs)
numbers-listed k xs ys w h = found k xs (items-inside (numbers_from k xs) (of_list ys) w h)
  where
    found : (k : ℕ) (xs : List Value) → holds (numbers_from k xs) w ≡ true → (j : ℕ) × (w ≡ number (pos (k + j))) × (suc j ≤ length xs)
    found k [] e = cc
    found k (x ∷ xs) e = at (same (number (pos k)) w) refl e (found (suc k) xs)
      where
        at : (t : Bool) → same (number (pos k)) w ≡ t → t || holds (numbers_from (suc k) xs) w ≡ true → (holds (numbers_from (suc k) xs) w ≡ true → (j : ℕ) × (w ≡ number (pos (suc k + j))) × (suc j ≤ length xs)) →
            (j : ℕ) × (w ≡ number (pos (k + j))) × (suc j ≤ suc (length xs))
        at true q e f = (0, sym (same-equal (number (pos k)) w q) ∙ ap (λ z. number (pos z)) (no-more k), omega arith)
          where
            no-more : (k : ℕ) → k ≡ k + 0
            no-more k = omega arith
        at false q e f = let r = f e in (suc r.0, r.1 ∙ ap (λ z. number (pos z)) (one-on k r.0), omega (arith, r.2))
          where
            one-on : (k j : ℕ) → suc k + j ≡ k + suc j
            one-on k j = omega arith

-- An index of a list lies between 1 and its length.
pub list-index : (x : Text) (i b : Ex) (env : Env) (xs : List Value) (w : Value) → meaning b env ≡ Some (number (pos (length xs))) → meaning i env ≡ Some w → is_some (at_index (list_value xs) w) ≡ true →
    as_truth (meaning (in_dom x i (one_up_to b)) env) ≡ true
list-index x i b env xs w p q h =
    let r = numbers-listed 1 xs xs w h in
    range-holds x i (number_ex (pos 1)) b env (number (pos 1)) (number (pos (length xs))) (pos (1 + r.0)) refl p (q ∙ ap Some r.1) (omega (arith, ints)) (up (1 + r.0) (length xs) (omega (arith, r.2)))
  where
    up : (a b : ℕ) → a ≤ b → pos a ≤ℤ pos b
    up a b h = omega (arith, ints)

-- ---- matrix terms

-- What the domain of a term tells of its value.
abbrev pub Follows : Option Dom → Env → Value → Type 0
Follows o env v = (ds : Doms) (d : Dom) → o ≡ Some (matrix_dom ds d) → (as' : Domains) × (domains_of ds env ≡ Some as') × IsNested as' v

-- Both are there.
pub split-doms : (o : Option Domain) (p : Option Domains) (as' : Domains) → and_then o (λ z. option_map (more_domains z) p) ≡ Some as' → (a : Domain) × (bs : Domains) × (o ≡ Some a) × (p ≡ Some bs) × (as' ≡ more_domains a bs)
split-doms None p as' e = cc
split-doms (Some a) None as' e = cc
split-doms (Some a) (Some bs) as' e = (a, bs, refl, refl, ap (λ o. elim o [ None ↦ as' | Some z ↦ z ]) (sym e))

-- One domain that is there.
pub some-dom : (a b : Dom) → Some a ≡ Some b → a ≡ b
some-dom a b e = ap (λ o. elim o [ None ↦ a | Some z ↦ z ]) e

-- A row of a nested matrix.
item-follows : (o : Option Dom) (env : Env) (v w u : Value) → Follows o env v → at_index v w ≡ Some u → Follows (item_dom o) env u
item-follows (Some (matrix_dom (more_doms i (more_doms j is)) d)) env v w u f e ds d' q =
    let r = f (more_doms i (more_doms j is)) d refl in
    let s = split-doms (domain_of i env) (domains_of (more_doms j is) env) r.0 r.1 in
    let t : matrix_dom (more_doms j is) d ≡ matrix_dom ds d' = some-dom (matrix_dom (more_doms j is) d) (matrix_dom ds d') q in
    subst (λ z. (as' : Domains) × (domains_of z env ≡ Some as') × IsNested as' u) (indices-of t)
    (s.1, s.3, axis-item s.0 s.1 v w u (nested-axis s.0 s.1 v (subst (λ z. IsNested z v) s.4 r.2)) e)
  where
    indices-of : matrix_dom (more_doms j is) d ≡ matrix_dom ds d' → more_doms j is ≡ ds
    indices-of e = ap (λ z. elim z [ matrix_dom as' b ↦ as' | z ↦ no_doms ]) e
item-follows o env v w u f e ds d' q = cc

path-follows : (o : Option Dom) (qs : List Step) (is : Exs) (env : Env) (v u : Value) (ws : List Value) → Follows o env v → all_some (meanings is env) ≡ Some ws → path_value v qs ws ≡ Some u → Follows (dom_behind o qs is) env u
path-follows o [] no_exs env v u ws f p e =
    let r : ws ≡ [] = ap (λ z. elim z [ None ↦ ws | Some y ↦ y ]) (sym p) in
    subst (Follows o env) (ap (λ z. elim z [ None ↦ v | Some y ↦ y ]) (ap (path_value v []) (sym r) ∙ e)) f
path-follows o (by_value ∷ qs) (more_exs i is) env v u ws f p e =
    let r = first-value (meaning i env) (all_some (meanings is env)) ws p in
    go r.1 (at_index v r.0) r.0 refl (ap (path_value v (by_value ∷ qs)) (sym r.4) ∙ e) (λ z q s. path-follows (item_dom o) qs is env z u r.1 (item-follows o env v r.0 z f q) r.3 s)
  where
    go : (ws : List Value) (a : Option Value) (w : Value) → at_index v w ≡ a → and_then a (λ z. path_value z qs ws) ≡ Some u →
        ((z : Value) → at_index v w ≡ Some z → path_value z qs ws ≡ Some u → Follows (dom_behind (item_dom o) qs is) env u) → Follows (dom_behind (item_dom o) qs is) env u
    go ws None w q e k = cc
    go ws (Some z) w q e k = k z q e
path-follows o qs is env v u ws f p e = λ ds d q. cc

-- The value of a term follows the domain that its form tells.
pub follows : (m : Ex) (env : Env) (v : Value) → meaning m env ≡ Some v → Follows (dom_followed m) env v
follows (seen_ex r d ns es) env v e = λ ds d' q. let t : d ≡ matrix_dom ds d' = some-dom d (matrix_dom ds d') q in
    view-nested r ds d' ns es env v (ap (λ z. meaning (seen_ex r z ns es) env) (sym t) ∙ e)
follows (node_ex false (index qs) (more_exs m is)) env v e = go (meaning m env) (all_some (meanings is env)) refl refl e (λ w q. follows m env w q)
  where
    go : (o : Option Value) (p : Option (List Value)) → meaning m env ≡ o → all_some (meanings is env) ≡ p → and_then (and_then o (λ z. option_map (λ zs. z ∷ zs) p)) (value_of_op (index qs)) ≡ Some v →
        ((w : Value) → meaning m env ≡ Some w → Follows (dom_followed m) env w) → Follows (dom_behind (dom_followed m) qs is) env v
    go None p q r e k = cc
    go (Some w) None q r e k = cc
    go (Some w) (Some ws) q r e k = path-follows (dom_followed m) qs is env w v ws (k w q) r e
follows m env v e = λ ds d q. cc

-- What an index of a matrix means.
pub item-means : (m i : Ex) (env : Env) (v w : Value) → meaning m env ≡ Some v → meaning i env ≡ Some w → meaning (at_step by_value m (more_exs i no_exs)) env ≡ at_index v w
item-means m i env v w e p =
    ap (λ o. value_of_node (index (by_value ∷ [])) (o ∷ meaning i env ∷ [])) e ∙ ap (λ o. value_of_node (index (by_value ∷ [])) (Some v ∷ o ∷ [])) p ∙ go (at_index v w)
  where
    go : (o : Option Value) → and_then o (λ z. Some z) ≡ o
    go None = refl
    go (Some z) = refl

-- `sum([1 | gs])` counts the items of a comprehension.
pub counted-under : (b : Ex) (gs : Gens) (env : Env) (xs : List Value) → items_under gs env (λ here. option_map (λ u. u ∷ []) (meaning b here)) ≡ Some xs →
    meaning (fun1 false Fun.Sum (comp_ex (number_ex (pos 1)) gs)) env ≡ Some (number (pos (length xs)))
counted-under b gs env xs e = go (items_under gs env (λ here. Some (number (pos 1) ∷ []))) refl (subst (λ o. Counts o (items_under gs env (λ here. Some (number (pos 1) ∷ [])))) e (counts-under gs env _ _ (λ here. one-counts (meaning b here))))
  where
    go : (o : Option (List Value)) → items_under gs env (λ here. Some (number (pos 1) ∷ [])) ≡ o → Counts (Some xs) o → meaning (fun1 false Fun.Sum (comp_ex (number_ex (pos 1)) gs)) env ≡ Some (number (pos (length xs)))
    go None q c = absurd c
    go (Some ys) q c = ap (λ o. value_of_node (word Fun.Sum) (option_map list_value o ∷ [])) q ∙ ap (λ l. Some (number (sum_of l))) (to_list-of_list ys) ∙ ap (λ z. Some (number z)) c

-- ---- index domains

first-listed : (d : Dom) (env : Env) (a : Domain) (w : Value) → domain_of d env ≡ Some a → holds (member_list a) w ≡ true → (is : List Value) × (members_in (domain_of d env) ≡ Some is) × (holds is w ≡ true)
first-listed d env a w e h = go (members a) refl h
  where
    go : (o : Option (List Value)) → members a ≡ o → holds (list_or_none o) w ≡ true → (is : List Value) × (members_in (domain_of d env) ≡ Some is) × (holds is w ≡ true)
    go None q h = cc
    go (Some is) q h = (is, ap members_in e ∙ q, h)

-- A plain index domain is the index domain.
pub plain-axis : (o : Option Dom) (d : Dom) → plain_axis o ≡ Some d → o ≡ Some d
plain-axis (Some bool_dom) d e = e
plain-axis (Some (int_dom rs es)) d e = go (are_plain_bounds es) e
  where
    go : (t : Bool) → (if t then Some (int_dom rs es) else None) ≡ Some d → Some (int_dom rs es) ≡ Some d
    go true e = e
    go false e = cc
plain-axis (Some (name_dom a)) d e = e
plain-axis o d e = cc

-- An index of a matrix that follows a domain is a member of its first index domain.
axis-index : (x : Text) (i : Ex) (o : Option Dom) (d : Dom) (env : Env) (v w : Value) → Follows o env v → first_index o ≡ Some d → meaning i env ≡ Some w → is_some (at_index v w) ≡ true → as_truth (meaning (in_dom x i d) env) ≡ true
axis-index x i (Some (matrix_dom (more_doms c is) e)) d env v w f q p h =
    let r = f (more_doms c is) e refl in
    let s = split-doms (domain_of c env) (domains_of is env) r.0 r.1 in
    let t = first-listed c env s.0 w s.2 (axis-inside s.0 s.1 v w (nested-axis s.0 s.1 v (subst (λ z. IsNested z v) s.4 r.2)) h) in
    subst (λ z. as_truth (meaning (in_dom x i z) env) ≡ true) (some-dom c d q) (member-holds x i c env w t.0 p t.1 t.2)
axis-index x i o d env v w f q p h = cc

-- An index of a matrix term is a member of its index domain.
index-holds : (x : Text) (m i : Ex) (d : Dom) (env : Env) (v w : Value) → index_dom m ≡ Some d → meaning m env ≡ Some v → meaning i env ≡ Some w → is_some (at_index v w) ≡ true → as_truth (meaning (in_dom x i d) env) ≡ true
index-holds x (node_ex false matrix_literal es) i d env v w q e p h = go (all_some (meanings es env)) refl e
  where
    go : (o : Option (List Value)) → all_some (meanings es env) ≡ o → and_then o (value_of_op matrix_literal) ≡ Some v → as_truth (meaning (in_dom x i d) env) ≡ true
    go None r e = cc
    go (Some xs) r e = subst (λ z. as_truth (meaning (in_dom x i z) env) ≡ true) (some-dom (one_up_to (number_ex (pos (operand_count es)))) d q)
        (list-index x i (number_ex (pos (operand_count es))) env xs w (ap (λ n. Some (number (pos n))) (number-of-values es env xs r)) p
        (ap (λ z. is_some (at_index z w)) (ap (λ o. elim o [ None ↦ v | Some z ↦ z ]) e) ∙ h))
index-holds x (matrix_ex es c) i d env v w q e p h = go (all_some (meanings es env)) (members_in (domain_of c env)) refl e
  where
    go : (o s : Option (List Value)) → members_in (domain_of c env) ≡ s → and_then o (matrix_value s) ≡ Some v → as_truth (meaning (in_dom x i d) env) ≡ true
    go None s f e = cc
    go (Some xs) None f e = cc
    go (Some xs) (Some is) f e = at (nat_eq (length is) (length xs)) e
      where
        at : (b : Bool) → when b (matrix (of_list is) (of_list xs)) ≡ Some v → as_truth (meaning (in_dom x i d) env) ≡ true
        at false e = cc
        at true e = subst (λ z. as_truth (meaning (in_dom x i z) env) ≡ true) (some-dom c d q)
            (member-holds x i c env w is p f (items-inside is (of_list xs) w (ap (λ z. is_some (at_index z w)) (ap (λ o. elim o [ None ↦ v | Some z ↦ z ]) e) ∙ h)))
index-holds x (comp_ex b gs) i d env v w q e p h = go (items_under gs env (λ here. option_map (λ u. u ∷ []) (meaning b here))) refl e
  where
    go : (o : Option (List Value)) → items_under gs env (λ here. option_map (λ u. u ∷ []) (meaning b here)) ≡ o → option_map list_value o ≡ Some v → as_truth (meaning (in_dom x i d) env) ≡ true
    go None r e = cc
    go (Some xs) r e = subst (λ z. as_truth (meaning (in_dom x i z) env) ≡ true) (some-dom (one_up_to (fun1 false Fun.Sum (comp_ex (number_ex (pos 1)) gs))) d q)
        (list-index x i (fun1 false Fun.Sum (comp_ex (number_ex (pos 1)) gs)) env xs w (counted-under b gs env xs r) p
        (ap (λ z. is_some (at_index z w)) (ap (λ o. elim o [ None ↦ v | Some z ↦ z ]) e) ∙ h))
index-holds x m i d env v w q e p h = axis-index x i (dom_followed m) d env v w (follows m env v e) (plain-axis (first_index (dom_followed m)) d q) p h

-- The condition of an index.
one-index : (k : Names Origin) (x : Text) (m i : Ex) (env : Env) (v w : Value) → meaning m env ≡ Some v → meaning i env ≡ Some w → is_some (at_index v w) ≡ true → Hold (index_conditions k x (index_dom m) m i) env
one-index k x m i env v w e p h = go (index_dom m) refl
  where
    same-term : (o : Option Value) → meaning (at_step by_value m (more_exs i no_exs)) env ≡ o → is_some o ≡ true → as_truth (meaning (ex2 true Op2.Eq (at_step by_value m (more_exs i no_exs)) (at_step by_value m (more_exs i no_exs))) env) ≡ true
    same-term None q h = cc
    same-term (Some u) q h = ap (λ o. as_truth (false_where_undefined true (value_of_node (binary Op2.Eq) (o ∷ o ∷ [])))) q ∙ same-itself u

    go : (o : Option Dom) → index_dom m ≡ o → Hold (index_conditions k x o m i) env
    go (Some d) q = unless-holds (is_sure k i d) (in_dom x i d) env (index-holds x m i d env v w q e p h)
    go None q = (same-term (meaning (at_step by_value m (more_exs i no_exs)) env) refl (ap is_some (item-means m i env v w e p) ∙ h), tt)

-- The conditions of a path hold where it leads to a value.
pub path-holds : (k : Names Origin) (x : Text) (m : Ex) (qs : List Step) (is : Exs) (env : Env) (v : Value) (ws : List Value) → meaning m env ≡ Some v → all_some (meanings is env) ≡ Some ws → is_some (path_value v qs ws) ≡ true →
    Hold (path_conditions k x m qs is) env
path-holds k x m [] is env v ws e p h = tt
path-holds k x m (by_value ∷ qs) no_exs env v ws e p h = tt
path-holds k x m (by_value ∷ qs) (more_exs i is) env v ws e p h =
    let r = first-value (meaning i env) (all_some (meanings is env)) ws p in
    let s : is_some (and_then (at_index v r.0) (λ z. path_value z qs r.1)) ≡ true = ap (λ l. is_some (path_value v (by_value ∷ qs) l)) (sym r.4) ∙ h in
    let a = the-value (at_index v r.0) (then-first (at_index v r.0) (λ z. path_value z qs r.1) s) in
    hold-append (index_conditions k x (index_dom m) m i) _ env (one-index k x m i env v r.0 e r.2 (ap is_some a.1))
    (path-holds k x (at_step by_value m (more_exs i no_exs)) qs is env a.0 r.1 (item-means m i env v r.0 e r.2 ∙ a.1) r.3 (ap (λ o. is_some (and_then o (λ z. path_value z qs r.1))) (sym a.1) ∙ s))
path-holds k x m (to_component c ∷ qs) is env v ws e p h =
    path-holds k x (at_step (to_component c) m no_exs) qs is env (at_component v c) ws (ap (λ o. value_of_node (index (to_component c ∷ [])) (o ∷ [])) e) p h
path-holds k x m (to_field a ∷ qs) is env v ws e p h =
    path-holds k x (at_step (to_field a) m no_exs) qs is env (at_field v a) ws (ap (λ o. value_of_node (index (to_field a ∷ [])) (o ∷ [])) e) p h
