-- A name over a record of domains may run over the records of new names.
use Rattle.std.proofs.Common.{◌≡◌, refl, sym, ap, ◌∙◌, subst, ℕ, zero, suc, true, false, ◌&&◌, not, if◌then◌else◌, List, [], ◌∷◌, ◌++◌, map, length, Option, Some, None, option_map, arith}
use Rattle.std.specs.Ordering.{is_lt}
use Rattle.ess_semantics.specs.Lists.{and_then, all_some, list_or_none, zip}
use Rattle.ess_semantics.specs.Values.{Text, a_record, Value, node, tuple, of_list, items_of}
use Rattle.ess_semantics.specs.Order.{same_text, order_text}
use Rattle.ess_semantics.specs.Names.{Names, look, keys, by_name, insert_name, insert_by}
use Rattle.ess_semantics.specs.Trees.{record_literal, name_pat, tuple_pat, Ex, node_ex, comp_ex, over, from, Doms, tuple_dom, record_dom, no_doms, more_doms}
use Rattle.ess_semantics.specs.Domains.{Domain, Domains, tuples, records, no_domains, more_domains, add_heads, lists_of, members, members_of_each}
use Rattle.ess_semantics.specs.Operators.{misfit, list_value, value_of_op, record_value}
use Rattle.ess_semantics.specs.Meaning.{Env, bind_all, with_pat, meaning, meanings, items_under, domain_of, domains_of, members_in, collect}
use Rattle.ess_semantics.specs.Contexts.{Each, EachOf, EachIn}
use Rattle.ess_semantics.specs.Meets.{Meets, MeetsGens, MeetsAll}
use Rattle.ess_semantics.proofs.Tests.{and-left, and-right, or-left-no, or-right-no, not-true}
use Rattle.ess_semantics.proofs.Orders.{to_list-of_list}
use Rattle.ess_semantics.proofs.Sorting.{less-of}
use Rattle.ess_rules_laws.specs.ComponentRules.{has_text}
use Rattle.ess_rules_laws.specs.TupleNames.{named_pats, named_exs, are_names}
use Rattle.ess_rules_laws.proofs.Agreement.{look-itself}
use Rattle.ess_rules_laws.proofs.RuleAnswers.{AnswerKeeps, fires, when-so, each-any}
use Rattle.ess_refine_laws.specs.RecordNames.{are_in_order, records_over, name_over_record, NamesOverRecordsKeep}

-- ---- lists of one length

-- Whether each list has as many items as the other list.
abbrev Long : List (List Value) → List (List Value) → Type 0
Long [] vss = Unit {0}
Long (l ∷ ls) vss = (length l ≡ length vss) × Long ls vss

long-append : (ls ms vss : List (List Value)) → Long ls vss → Long ms vss → Long (ls ++ ms) vss
long-append [] ms vss h k = k
long-append (l ∷ ls) ms vss h k = (h.0, long-append ls ms vss h.1 k)

long-head : (v : Value) (vs : List Value) (ls vss : List (List Value)) → Long ls vss → Long (map (λ l. v ∷ l) ls) (vs ∷ vss)
long-head v vs [] vss h = tt
long-head v vs (l ∷ ls) vss h = (ap suc h.0, long-head v vs ls vss h.1)

long-heads : (us vs : List Value) (ls vss : List (List Value)) → Long ls vss → Long (add_heads us ls) (vs ∷ vss)
long-heads [] vs ls vss h = tt
long-heads (u ∷ us) vs ls vss h = long-append (map (λ l. u ∷ l) ls) (add_heads us ls) (vs ∷ vss) (long-head u vs ls vss h)
    (long-heads us vs ls vss h)

lists-long : (vss : List (List Value)) → Long (lists_of vss) vss
lists-long [] = (refl, tt)
lists-long (vs ∷ vss) = long-heads vs vs (lists_of vss) vss (lists-long vss)

-- ---- names that are bound to the items of a list

-- A name that is none of these keeps its value.
look-kept : (ys : List Text) (l : List Value) (g : Names Value) (a : Text) → has_text ys a ≡ false →
    look (bind_all (named_pats ys) l g) a ≡ look g a
look-kept [] l g a h = refl
look-kept (y ∷ ys) [] g a h = look-kept ys [] ((y, misfit) ∷ g) a (or-right-no (same_text y a) (has_text ys a) h)
    ∙ ap (λ b. if b then Some misfit else look g a) (or-left-no (same_text y a) (has_text ys a) h)
look-kept (y ∷ ys) (v ∷ l) g a h = look-kept ys l ((y, v) ∷ g) a (or-right-no (same_text y a) (has_text ys a) h)
    ∙ ap (λ b. if b then Some v else look g a) (or-left-no (same_text y a) (has_text ys a) h)

-- The names that differ have the values of the list.
names-have : (ys : List Text) (ds : Doms) (l : List Value) (env : Env) (g : Names Value) → are_names ys ds ≡ true → length l ≡ length ys →
    all_some (meanings (named_exs ys) (record env { vals = bind_all (named_pats ys) l g })) ≡ Some l
names-have [] no_doms [] env g h n = refl
names-have [] no_doms (v ∷ l) env g h n = absurd (let z : suc (length l) ≡ zero = n in omega arith)
names-have (y ∷ ys) (more_doms d ds) [] env g h n = absurd (let z : zero ≡ suc (length ys) = n in omega arith)
names-have (y ∷ ys) (more_doms d ds) (v ∷ l) env g h n =
    ap (λ o. and_then o (λ x. option_map (λ xs. x ∷ xs)
    (all_some (meanings (named_exs ys) (record env { vals = bind_all (named_pats ys) l ((y, v) ∷ g) })))))
    (look-kept ys l ((y, v) ∷ g) y (not-true (has_text ys y) (and-left (not (has_text ys y)) (are_names ys ds) h)) ∙ look-itself y v g)
    ∙ ap (option_map (λ xs. v ∷ xs))
    (names-have ys ds l env ((y, v) ∷ g) (and-right (not (has_text ys y)) (are_names ys ds) h) (omega arith))
names-have [] (more_doms d ds) l env g h n = cc
names-have (y ∷ ys) no_doms l env g h n = cc

-- ---- members of a tuple of domains

-- As many domains as there are names.
as-many : (ys : List Text) (ds : Doms) (env : Env) (e : Domains) (vss : List (List Value)) → are_names ys ds ≡ true →
    domains_of ds env ≡ Some e → all_some (members_of_each e) ≡ Some vss →
    length vss ≡ length ys
as-many [] no_doms env e vss h q k = ap length
    (sym (ap list_or_none (ap (λ o. all_some (members_of_each (elim o [ Some z ↦ z | None ↦ no_domains ]))) q ∙ k)))
as-many (y ∷ ys) (more_doms d ds) env e vss h q k = go (domain_of d env) (domains_of ds env) refl q
    (λ z us r t. as-many ys ds env z us (and-right (not (has_text ys y)) (are_names ys ds) h) r t)
  where
    inner : (o : Option (List Value)) (p : Option (List (List Value))) → ((us : List (List Value)) → p ≡ Some us → length us ≡ length ys) →
        and_then o (λ vs. option_map (λ us. vs ∷ us) p) ≡ Some vss → length vss ≡ suc (length ys)
    inner None p r w = cc
    inner (Some vs) None r w = cc
    inner (Some vs) (Some us) r w = ap length (sym (ap list_or_none w)) ∙ ap suc (r us refl)

    go : (o : Option Domain) (p : Option Domains) → domains_of ds env ≡ p → and_then o (λ x. option_map (more_domains x) p) ≡ Some e →
        ((z : Domains) (us : List (List Value)) → domains_of ds env ≡ Some z → all_some (members_of_each z) ≡ Some us →
        length us ≡ length ys) → length vss ≡ suc (length ys)
    go None p r q f = cc
    go (Some x) None r q f = cc
    go (Some x) (Some z) r q f =
        let s : e ≡ more_domains x z = sym (ap (λ o. elim o [ Some y ↦ y | None ↦ no_domains ]) q) in
        inner (members x) (all_some (members_of_each z)) (λ us t. f z us r t) (ap (λ y. all_some (members_of_each y)) (sym s) ∙ k)
as-many [] (more_doms d ds) env e vss h q k = cc
as-many (y ∷ ys) no_doms env e vss h q k = cc

-- ---- fields in their order

-- The fields in order are sorted as they are.
in-order-stays : (fs : List Text) (ds : Doms) (l : List Value) → are_in_order fs ds ≡ true → length l ≡ length fs →
    by_name (zip fs l) ≡ zip fs l
in-order-stays [] ds l h n = refl
in-order-stays (f ∷ fs) ds [] h n = refl
in-order-stays (f ∷ []) ds (v ∷ l) h n = refl
in-order-stays (f ∷ g ∷ fs) (more_doms d ds) (v ∷ []) h n = absurd (let z : suc zero ≡ suc (suc (length fs)) = n in omega arith)
in-order-stays (f ∷ g ∷ fs) (more_doms d ds) (v ∷ w ∷ l) h n =
    ap (insert_name (f, v)) (in-order-stays (g ∷ fs) ds (w ∷ l) (and-right (is_lt (order_text f g)) (are_in_order (g ∷ fs) ds) h)
    (omega arith))
    ∙ ap (λ o. insert_by o (f, v) (g, w) (zip fs l) (insert_name (f, v) (zip fs l)))
    (less-of (order_text f g) (and-left (is_lt (order_text f g)) (are_in_order (g ∷ fs) ds) h))
in-order-stays (f ∷ g ∷ fs) no_doms (v ∷ l) h n = cc

keys-are : (fs : List Text) (l : List Value) → length l ≡ length fs → keys (zip fs l) ≡ fs
keys-are [] [] n = refl
keys-are [] (v ∷ l) n = absurd (let z : suc (length l) ≡ zero = n in omega arith)
keys-are (f ∷ fs) [] n = absurd (let z : zero ≡ suc (length fs) = n in omega arith)
keys-are (f ∷ fs) (v ∷ l) n = ap (λ z. f ∷ z) (keys-are fs l (omega arith))

values-are : (fs : List Text) (l : List Value) → length l ≡ length fs → map (λ p. p.1) (zip fs l) ≡ l
values-are [] [] n = refl
values-are [] (v ∷ l) n = absurd (let z : suc (length l) ≡ zero = n in omega arith)
values-are (f ∷ fs) [] n = absurd (let z : zero ≡ suc (length fs) = n in omega arith)
values-are (f ∷ fs) (v ∷ l) n = ap (λ z. v ∷ z) (values-are fs l (omega arith))

-- How many domains there are.
abbrev count_of : Doms → ℕ
count_of no_doms = zero
count_of (more_doms d ds) = suc (count_of ds)

names-count : (ys : List Text) (ds : Doms) → are_names ys ds ≡ true → length ys ≡ count_of ds
names-count [] no_doms h = refl
names-count (y ∷ ys) (more_doms d ds) h = ap suc (names-count ys ds (and-right (not (has_text ys y)) (are_names ys ds) h))
names-count [] (more_doms d ds) h = cc
names-count (y ∷ ys) no_doms h = cc

fields-count : (fs : List Text) (ds : Doms) → are_in_order fs ds ≡ true → length fs ≡ count_of ds
fields-count [] no_doms h = refl
fields-count (f ∷ []) (more_doms d no_doms) h = refl
fields-count (f ∷ []) (more_doms d (more_doms c ds)) h = cc
fields-count (f ∷ g ∷ fs) (more_doms d ds) h =
    ap suc (fields-count (g ∷ fs) ds (and-right (is_lt (order_text f g)) (are_in_order (g ∷ fs) ds) h))
fields-count [] (more_doms d ds) h = cc
fields-count (f ∷ []) no_doms h = cc
fields-count (f ∷ g ∷ fs) no_doms h = cc

-- As many fields as names.
as-many-fields : (ys fs : List Text) (ds : Doms) → are_names ys ds ≡ true → are_in_order fs ds ≡ true → length ys ≡ length fs
as-many-fields ys fs ds h k = names-count ys ds h ∙ sym (fields-count fs ds k)

-- The record of these values.
record-is : (fs : List Text) (ds : Doms) (l : List Value) → are_in_order fs ds ≡ true → length l ≡ length fs →
    record_value (by_name (zip fs l)) ≡ node (a_record fs) (of_list l)
record-is fs ds l h n = ap record_value (in-order-stays fs ds l h n)
    ∙ ap (λ z. node (a_record z) (of_list (map (λ p. p.1) (zip fs l)))) (keys-are fs l n)
    ∙ ap (λ z. node (a_record fs) (of_list z)) (values-are fs l n)

-- ---- the rule

module _ (fs ys : List Text) (ds : Doms) (env : Env) (h : are_names ys ds ≡ true) (o : are_in_order fs ds ≡ true) where
  abbrev Item : Ex
  Item = node_ex false (record_literal fs) (named_exs ys)

  abbrev At : Value → Option (List Value)
  At v = option_map (λ w. w ∷ []) (meaning Item (with_pat (tuple_pat (named_pats ys)) v env))

  -- The record of the names is that of the parts of the tuple that the pattern was bound to.
  item-is : (l : List Value) → length l ≡ length ys → At (tuple (of_list l)) ≡ Some (node (a_record fs) (of_list l) ∷ [])
  item-is l n =
      ap (λ us. option_map (λ w. w ∷ [])
      (and_then (all_some (meanings (named_exs ys) (record env { vals = bind_all (named_pats ys) us env.vals })))
      (value_of_op (record_literal fs)))) (to_list-of_list l)
      ∙ ap (λ o. option_map (λ w. w ∷ []) (and_then o (value_of_op (record_literal fs)))) (names-have ys ds l env env.vals h n)
      ∙ ap (λ z. Some (z ∷ [])) (record-is fs ds l o (n ∙ as-many-fields ys fs ds h o))

  collect-records : (ls vss : List (List Value)) → Long ls vss → length vss ≡ length ys →
      collect (map (λ l. tuple (of_list l)) ls) At ≡ Some (map (λ l. node (a_record fs) (of_list l)) ls)
  collect-records [] vss k n = refl
  collect-records (l ∷ ls) vss k n =
      ap (λ o. and_then o (λ xs. option_map (λ zs. xs ++ zs) (collect (map (λ l. tuple (of_list l)) ls) At))) (item-is l (k.0 ∙ n))
      ∙ ap (option_map (λ zs. node (a_record fs) (of_list l) ∷ zs)) (collect-records ls vss k.1 n)

  -- The records of the names are the members of the record of domains.
  members-are : and_then (members_in (domain_of (tuple_dom ds) env)) (λ vs. collect vs At) ≡ members_in (domain_of (record_dom fs ds) env)
  members-are = go (domains_of ds env) refl
    where
      at : (e : Domains) (p : Option (List (List Value))) → (all_some (members_of_each e) ≡ p) → domains_of ds env ≡ Some e →
          and_then (option_map (λ ls. map (λ l. tuple (of_list l)) (lists_of ls)) p) (λ vs. collect vs At)
          ≡ option_map (λ ls. map (λ l. node (a_record fs) (of_list l)) (lists_of ls)) p
      at e None k q = refl
      at e (Some vss) k q = collect-records (lists_of vss) vss (lists-long vss) (as-many ys ds env e vss h q k)

      go : (z : Option Domains) → domains_of ds env ≡ z →
          and_then (members_in (option_map tuples z)) (λ vs. collect vs At) ≡ members_in (option_map (records fs) z)
      go None q = refl
      go (Some e) q = at e (all_some (members_of_each e)) refl q

  records-mean : meaning (records_over fs ys ds) env ≡ option_map list_value (members_in (domain_of (record_dom fs ds) env))
  records-mean = ap (option_map list_value) members-are

-- The structures of names are met.
names-met : (ys : List Text) (env : Env) → MeetsAll false (named_exs ys) env
names-met [] env = tt
names-met (y ∷ ys) env = (tt, names-met ys env)

-- The items of a list of the values.
through : (o : Option (List Value)) (F : Value → Option (List Value)) →
    and_then (option_map list_value o) (λ s. collect (items_of s) F) ≡ and_then o (λ vs. collect vs F)
through None F = refl
through (Some vs) F = ap (λ l. collect l F) (to_list-of_list vs)

each-through : (o : Option (List Value)) (P : Value → Type 0) → EachOf o P → EachIn (option_map list_value o) P
each-through None P e = tt
each-through (Some vs) P e = subst (λ l. Each l P) (sym (to_list-of_list vs)) e

each-of-any : (o : Option (List Value)) (P : Value → Type 0) → ((v : Value) → P v) → EachOf o P
each-of-any None P f = tt
each-of-any (Some vs) P f = each-any vs P f

names-answer : (ys : List Text) (e : Ex) (env : Env) → AnswerKeeps (name_over_record ys e) e env
names-answer ys (comp_ex e (over (name_pat x) (record_dom fs ds) hs)) env =
    when-so (are_names ys ds && are_in_order fs ds) (comp_ex e (from (name_pat x) (records_over fs ys ds) hs))
    (comp_ex e (over (name_pat x) (record_dom fs ds) hs)) env
    (λ h m.
    let a = and-left (are_names ys ds) (are_in_order fs ds) h in
    let b = and-right (are_names ys ds) (are_in_order fs ds) h in (
      ap (option_map list_value)
          (sym (ap (λ o. and_then o (λ s. collect (items_of s) F)) (records-mean fs ys ds env a b)
          ∙ through (members_in (domain_of (record_dom fs ds) env)) F)),
      (
        (m.0, each-of-any (members_in (domain_of (tuple_dom ds) env)) _ (λ v. names-met ys (with_pat (tuple_pat (named_pats ys)) v env))),
        subst (λ o. EachIn o (λ v. MeetsGens hs (with_pat (name_pat x) v env) (λ here. Meets e here))) (sym (records-mean fs ys ds env a b))
            (each-through (members_in (domain_of (record_dom fs ds) env)) _ m.1),
      ),
    ))
  where
    F : Value → Option (List Value)
    F v = items_under hs (with_pat (name_pat x) v env) (λ here. option_map (λ w. w ∷ []) (meaning e here))
names-answer ys _ env = tt

-- Names over records of domains.
pub names-over-records : NamesOverRecordsKeep
names-over-records ys e f q env = fires (name_over_record ys e) e f env (names-answer ys e env) q
