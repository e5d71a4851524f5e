-- The members of named types, tuples and records, part by part.
use Rattle.std.proofs.Common.{◌≡◌, refl, sym, ap, ◌∙◌, ℕ, zero, suc, ◌+◌, ◌<◌, ◌≤◌, List, [], ◌∷◌, ◌++◌, length, map, drop, get_or, Option, Some, None, option_map, arith}
use Rattle.std.proofs.lemmas.List.{append_assoc, at_drop_more, at_drop_all, map_push}
use Rattle.ess_semantics.specs.Lists.{and_then, all_some, zip}
use Rattle.ess_semantics.specs.Values.{Text, Value, item, node, a_record, tuple, of_list}
use Rattle.ess_semantics.specs.Names.{Names, keys}
use Rattle.ess_semantics.specs.Domains.{Domain, Domains, no_domains, more_domains, members, members_of_each, items_from, lists_of}
use Rattle.ess_core.specs.declared.values.Val.{Val}
use Rattle.ess_core.specs.declared.values.Val.TheVariants as val
use Rattle.ess_core.specs.ValueViews.{record_value, pure_val}
use Rattle.ess_core.proofs.ValueEquations.{pure_item}
use Rattle.ess_values.proofs.Ahead.{ahead, ahead_one, ahead_all}
use Rattle.ess_eval_domains.specs.declared.closed.Closed.{Closed}
use Rattle.ess_eval_domains.specs.declared.closed.Closed.TheVariants as variant
use Rattle.ess_eval_domains.specs.declared.closed.Closed.TheViews.{out-FieldClosed}
use Rattle.ess_eval_domains.specs.declared.closed.FieldClosed.{FieldClosed}
use Rattle.ess_eval_domains.specs.FieldRecords.{records_with}
use Rattle.ess_eval_domains.specs.ClosedViews.{domains_of, pure_closed, pure_field_closed, pure_closeds}
use Rattle.ess_eval_domains.proofs.ClosedEquations.{pure_closed_tuple, pure_closed_rec, pure_field_closed_is}
use Rattle.ess_eval_domains.proofs.ListProducts.{lists-mapped, records-of}

-- ---- named types

items-push : (t : Text) (k n : ℕ) → items_from t k (suc n) ≡ items_from t k n ++ item t (k + n) ∷ []
items-push t k zero = ap (λ j. item t j ∷ []) (omega arith)
items-push t k (suc n) = ap (λ l. item t k ∷ l) (items-push t (suc k) n) ∙ ap (λ j. item t k ∷ (items_from t (suc k) n ++ item t j ∷ [])) (omega arith)

pub items_more : (t : Text) (k : ℕ) (vs ws : List Val) → map pure_val vs ≡ items_from t 1 k → ws ≡ vs ++ val.Item t (k + 1) ∷ []
    → map pure_val ws ≡ items_from t 1 (k + 1)
items_more t k vs ws e p =
    let same : k + 1 ≡ 1 + k = omega arith in
    let next : suc k ≡ k + 1 = omega arith in
    ap (map pure_val) p ∙ map_push pure_val vs (val.Item t (k + 1)) ∙ ap (λ l. l ++ pure_val (val.Item t (k + 1)) ∷ []) e
    ∙ ap (λ v. items_from t 1 k ++ v ∷ []) (pure_item t (k + 1) ∙ ap (λ j. item t j) same)
    ∙ sym (items-push t 1 k) ∙ ap (λ j. items_from t 1 j) next

-- ---- the members of each part

one-more : (d : Domain) (ds : Domains) (ls : List (List Value)) (vs : List Value) → Some vs ≡ members d
    → ahead ls (all_some (members_of_each (more_domains d ds))) ≡ ahead (ls ++ vs ∷ []) (all_some (members_of_each ds))
one-more d ds ls vs e =
    ap (λ o. ahead ls (and_then o (λ x. option_map (λ xs. x ∷ xs) (all_some (members_of_each ds))))) (sym e) ∙ sym (ahead_one ls vs (all_some (members_of_each ds)))

one-none : (d : Domain) (ds : Domains) (ls : List (List Value)) → None ≡ members d → ahead ls (all_some (members_of_each (more_domains d ds))) ≡ None
one-none d ds ls e = ap (λ o. ahead ls (and_then o (λ x. option_map (λ xs. x ∷ xs) (all_some (members_of_each ds))))) (sym e)

pub each_more : (ds : List Closed) (i : ℕ) (d : Closed) (ls ms : List (List Val)) (vs : List Val) → i < length ds → d ≡ get_or ds i d
    → Some (map pure_val vs) ≡ members (pure_closed d) → ms ≡ ls ++ vs ∷ []
    → ahead (map (map pure_val) ls) (all_some (members_of_each (pure_closeds (drop i ds))))
    ≡ ahead (map (map pure_val) ms) (all_some (members_of_each (pure_closeds (drop (i + 1) ds))))
each_more ds i d ls ms vs h is e p =
    at_drop_more (λ l. ahead (map (map pure_val) ls) (all_some (members_of_each (pure_closeds l)))) ds i d h
    ∙ ap (λ c. ahead (map (map pure_val) ls) (all_some (members_of_each (more_domains (pure_closed c) (pure_closeds (drop (i + 1) ds)))))) (sym is)
    ∙ one-more (pure_closed d) (pure_closeds (drop (i + 1) ds)) (map (map pure_val) ls) (map pure_val vs) e
    ∙ ap (λ l. ahead l (all_some (members_of_each (pure_closeds (drop (i + 1) ds))))) (sym (ap (map (map pure_val)) p ∙ map_push (map pure_val) ls vs))

pub each_none : (ds : List Closed) (i : ℕ) (d : Closed) (ls : List (List Val)) → i < length ds → d ≡ get_or ds i d → None ≡ members (pure_closed d)
    → ahead (map (map pure_val) ls) (all_some (members_of_each (pure_closeds (drop i ds)))) ≡ None
each_none ds i d ls h is e =
    at_drop_more (λ l. ahead (map (map pure_val) ls) (all_some (members_of_each (pure_closeds l)))) ds i d h
    ∙ ap (λ c. ahead (map (map pure_val) ls) (all_some (members_of_each (more_domains (pure_closed c) (pure_closeds (drop (i + 1) ds)))))) (sym is)
    ∙ one-none (pure_closed d) (pure_closeds (drop (i + 1) ds)) (map (map pure_val) ls) e

pub each_end : (ds : List Closed) (i : ℕ) (ls : List (List Val)) → length ds ≤ i
    → ahead (map (map pure_val) ls) (all_some (members_of_each (pure_closeds (drop i ds)))) ≡ Some (map (map pure_val) ls)
each_end ds i ls h =
    at_drop_all (λ l. ahead (map (map pure_val) ls) (all_some (members_of_each (pure_closeds l)))) ds i h ∙ ahead_all (map (map pure_val) ls)

-- ---- the members of each field

-- The domains of fields.
abbrev pub fields_domains : List FieldClosed → Domains
fields_domains fs = domains_of (map (λ f. f.1) (map pure_field_closed fs))

field-domain : (f : FieldClosed) → (pure_field_closed f).1 ≡ pure_closed (out-FieldClosed f).domain
field-domain f = ap (λ p. p.1) (pure_field_closed_is f)

pub fields_more : (fs : List FieldClosed) (i : ℕ) (f : FieldClosed) (ls ms : List (List Val)) (vs : List Val) → i < length fs → f ≡ get_or fs i f
    → Some (map pure_val vs) ≡ members (pure_closed (out-FieldClosed f).domain) → ms ≡ ls ++ vs ∷ []
    → ahead (map (map pure_val) ls) (all_some (members_of_each (fields_domains (drop i fs))))
    ≡ ahead (map (map pure_val) ms) (all_some (members_of_each (fields_domains (drop (i + 1) fs))))
fields_more fs i f ls ms vs h is e p =
    at_drop_more (λ l. ahead (map (map pure_val) ls) (all_some (members_of_each (fields_domains l)))) fs i f h
    ∙ ap (λ c. ahead (map (map pure_val) ls) (all_some (members_of_each (more_domains (pure_field_closed c).1 (fields_domains (drop (i + 1) fs)))))) (sym is)
    ∙ one-more (pure_field_closed f).1 (fields_domains (drop (i + 1) fs)) (map (map pure_val) ls) (map pure_val vs) (e ∙ ap members (sym (field-domain f)))
    ∙ ap (λ l. ahead l (all_some (members_of_each (fields_domains (drop (i + 1) fs))))) (sym (ap (map (map pure_val)) p ∙ map_push (map pure_val) ls vs))

pub fields_none : (fs : List FieldClosed) (i : ℕ) (f : FieldClosed) (ls : List (List Val)) → i < length fs → f ≡ get_or fs i f
    → None ≡ members (pure_closed (out-FieldClosed f).domain) → ahead (map (map pure_val) ls) (all_some (members_of_each (fields_domains (drop i fs)))) ≡ None
fields_none fs i f ls h is e =
    at_drop_more (λ l. ahead (map (map pure_val) ls) (all_some (members_of_each (fields_domains l)))) fs i f h
    ∙ ap (λ c. ahead (map (map pure_val) ls) (all_some (members_of_each (more_domains (pure_field_closed c).1 (fields_domains (drop (i + 1) fs)))))) (sym is)
    ∙ one-none (pure_field_closed f).1 (fields_domains (drop (i + 1) fs)) (map (map pure_val) ls) (e ∙ ap members (sym (field-domain f)))

pub fields_end : (fs : List FieldClosed) (i : ℕ) (ls : List (List Val)) → length fs ≤ i
    → ahead (map (map pure_val) ls) (all_some (members_of_each (fields_domains (drop i fs)))) ≡ Some (map (map pure_val) ls)
fields_end fs i ls h =
    at_drop_all (λ l. ahead (map (map pure_val) ls) (all_some (members_of_each (fields_domains l)))) fs i h ∙ ahead_all (map (map pure_val) ls)

-- ---- tuples and records

pub tuple_members : (ds : List Closed) (cs ls : List (List Val)) (vs : List Val) → Some (map (map pure_val) cs) ≡ all_some (members_of_each (pure_closeds ds))
    → ls ≡ lists_of cs → map pure_val vs ≡ map (λ l. tuple (of_list l)) (map (map pure_val) ls) → Some (map pure_val vs) ≡ members (pure_closed (variant.Tuple ds))
tuple_members ds cs ls vs e p q =
    ap Some (q ∙ ap (λ l. map (λ x. tuple (of_list x)) (map (map pure_val) l)) p ∙ ap (map (λ x. tuple (of_list x))) (lists-mapped pure_val cs))
    ∙ ap (option_map (λ l. map (λ x. tuple (of_list x)) (lists_of l))) e ∙ ap members (sym (pure_closed_tuple ds))

pub tuple_none : (ds : List Closed) → None ≡ all_some (members_of_each (pure_closeds ds)) → None ≡ members (pure_closed (variant.Tuple ds))
tuple_none ds e = ap (option_map (λ l. map (λ x. tuple (of_list x)) (lists_of l))) e ∙ ap members (sym (pure_closed_tuple ds))

each-long : (fs : List FieldClosed) (ls : List (List Value)) → Some ls ≡ all_some (members_of_each (fields_domains fs)) → length ls ≡ length (keys (map pure_field_closed fs))
each-long [] ls e = let z : ls ≡ [] = cc in ap length z
each-long (f ∷ fs) ls e = go (members (pure_field_closed f).1) (all_some (members_of_each (fields_domains fs))) (λ ms p. each-long fs ms p) e
  where
    go : (o : Option (List Value)) (p : Option (List (List Value))) → ((ms : List (List Value)) → Some ms ≡ p → length ms ≡ length (keys (map pure_field_closed fs)))
        → Some ls ≡ and_then o (λ x. option_map (λ xs. x ∷ xs) p) → length ls ≡ suc (length (keys (map pure_field_closed fs)))
    go None p ih q = cc
    go (Some x) None ih q = cc
    go (Some x) (Some xs) ih q = let z : ls ≡ x ∷ xs = cc in ap length z ∙ ap suc (ih xs refl)

pub lists_records : (fs : List FieldClosed) (cs ls : List (List Val)) (vs : List Val) → ls ≡ lists_of cs
    → map pure_val vs ≡ map (λ l. record_value (zip (keys (map pure_field_closed fs)) l)) (map (map pure_val) ls)
    → map pure_val vs ≡ records_with (keys (map pure_field_closed fs)) (map (map pure_val) cs)
lists_records fs cs ls vs p q =
    let names = keys (map pure_field_closed fs) in
    q ∙ ap (λ l. map (λ x. record_value (zip names x)) (map (map pure_val) l)) p ∙ ap (map (λ x. record_value (zip names x))) (lists-mapped pure_val cs)

pub record_members : (fs : List FieldClosed) (cs : List (List Val)) (vs : List Val) → Some (map (map pure_val) cs) ≡ all_some (members_of_each (fields_domains fs))
    → map pure_val vs ≡ records_with (keys (map pure_field_closed fs)) (map (map pure_val) cs)
    → Some (map pure_val vs) ≡ members (pure_closed (variant.Rec fs))
record_members fs cs vs e q =
    let names = keys (map pure_field_closed fs) in
    ap Some (q ∙ records-of names (map (map pure_val) cs) (each-long fs (map (map pure_val) cs) e))
    ∙ ap (option_map (λ l. map (λ x. node (a_record names) (of_list x)) (lists_of l))) e ∙ ap members (sym (pure_closed_rec fs))

pub record_none : (fs : List FieldClosed) → None ≡ all_some (members_of_each (fields_domains fs)) → None ≡ members (pure_closed (variant.Rec fs))
record_none fs e = ap (option_map (λ l. map (λ x. node (a_record (keys (map pure_field_closed fs))) (of_list x)) (lists_of l))) e ∙ ap members (sym (pure_closed_rec fs))
