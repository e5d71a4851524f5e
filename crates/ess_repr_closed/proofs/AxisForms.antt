-- The axis of each form of domain, and several axes.
use Rattle.std.proofs.Common.{◌≡◌, refl, sym, ap, ◌∙◌, ℕ, zero, suc, ◌+◌, ◌<◌, ◌≤◌, List, [], ◌∷◌, ◌++◌, map, length, take, replicate, get_or, ℤ, pos, Option, Some, None, option_map, arith}
use Rattle.std.proofs.lemmas.List.{take_more, take_all, map-append}
use Rattle.ess_semantics.specs.Lists.{all_some, list_or_none}
use Rattle.ess_semantics.specs.Values.{Text, a_tuple, a_record, Kind, Value, number, node, of_list}
use Rattle.ess_semantics.specs.Numbers.{run_from, one_to}
use Rattle.ess_semantics.specs.Domains.{Domain, Domains, tuples, records, domain_list, member_list, members, members_of_each, int_members, items_from, lists_of}
use Rattle.ess_semantics.specs.Names.{keys}
use Rattle.ess_semantics.specs.Tables.{code}
use Rattle.ess_semantics.specs.Layers.{codes_of}
use Rattle.ess_core.specs.declared.values.Val.{Val}
use Rattle.ess_core.specs.ValueViews.{pure_val}
use Rattle.ess_eval_domains.specs.declared.closed.Span.{Span}
use Rattle.ess_eval_domains.specs.declared.closed.Closed.{Closed}
use Rattle.ess_eval_domains.specs.declared.closed.Closed.TheVariants as variant
use Rattle.ess_eval_domains.specs.declared.closed.FieldClosed.{FieldClosed}
use Rattle.ess_eval_domains.specs.ClosedViews.{pure_span, domains_of, pure_closed, pure_closeds, pure_field_closed}
use Rattle.ess_eval_domains.proofs.ClosedEquations.{pure_closed_bool, pure_closed_int, pure_closed_named, pure_closed_tuple, pure_closed_rec}
use Rattle.ess_repr_closed.proofs.ChildRows.{parts_are}

pub axis_bool : pos 0 ∷ pos 1 ∷ [] ≡ codes_of (pure_closed variant.Bool)
axis_bool = ap codes_of (sym pure_closed_bool)

number-codes : (ns : List ℤ) → map code (map number ns) ≡ ns
number-codes [] = refl
number-codes (n ∷ ns) = ap (λ l. n ∷ l) (number-codes ns)

pub axis_int : (ns : List ℤ) (ss : List Span) → Some (map number ns) ≡ int_members (map pure_span ss) → ns ≡ codes_of (pure_closed (variant.Int ss))
axis_int ns ss e = sym (number-codes ns) ∙ ap (λ o. map code (list_or_none o)) e ∙ ap codes_of (sym (pure_closed_int ss))

pub axis_int_none : (ss : List Span) → None ≡ int_members (map pure_span ss) → [] ≡ codes_of (pure_closed (variant.Int ss))
axis_int_none ss e = ap (λ o. map code (list_or_none o)) e ∙ ap codes_of (sym (pure_closed_int ss))

item-codes : (t : Text) (k n : ℕ) → map code (items_from t k n) ≡ run_from k n
item-codes t k zero = refl
item-codes t k (suc n) = ap (λ l. pos k ∷ l) (item-codes t (suc k) n)

pub axis_named : (r : List ℤ) (t : Text) (n m : ℕ) → r ≡ one_to n → n ≡ m → r ≡ codes_of (pure_closed (variant.Named t m))
axis_named r t n m e q = e ∙ ap one_to q ∙ sym (item-codes t 1 m) ∙ ap codes_of (sym (pure_closed_named t m))

-- ---- a zero for each member of a tuple or record

compound-codes : (k : Kind) (ls : List (List Value)) →
    replicate (length (map (λ l. node k (of_list l)) ls)) (pos 0) ≡ map code (map (λ l. node k (of_list l)) ls)
compound-codes k [] = refl
compound-codes k (l ∷ ls) = ap (λ m. pos 0 ∷ m) (compound-codes k ls)

option-codes : (k : Kind) (o : Option (List (List Value))) →
    replicate (length (list_or_none (option_map (λ ls. map (λ l. node k (of_list l)) (lists_of ls)) o))) (pos 0) ≡
    map code (list_or_none (option_map (λ ls. map (λ l. node k (of_list l)) (lists_of ls)) o))
option-codes k None = refl
option-codes k (Some ls) = compound-codes k (lists_of ls)

tuple-codes : (ds : Domains) → replicate (length (member_list (tuples ds))) (pos 0) ≡ codes_of (tuples ds)
tuple-codes ds = option-codes a_tuple (all_some (members_of_each ds))

record-codes : (fs : List Text) (ds : Domains) → replicate (length (member_list (records fs ds))) (pos 0) ≡ codes_of (records fs ds)
record-codes fs ds = option-codes (a_record fs) (all_some (members_of_each ds))

pub axis_tuple : (ds : List Closed) → replicate (length (member_list (pure_closed (variant.Tuple ds)))) (pos 0) ≡ codes_of (pure_closed (variant.Tuple ds))
axis_tuple ds = ap (λ d. replicate (length (member_list d)) (pos 0)) (pure_closed_tuple ds) ∙ tuple-codes (pure_closeds ds) ∙ ap codes_of (sym (pure_closed_tuple ds))

pub axis_record : (fs : List FieldClosed) → replicate (length (member_list (pure_closed (variant.Rec fs)))) (pos 0) ≡ codes_of (pure_closed (variant.Rec fs))
axis_record fs = ap (λ d. replicate (length (member_list d)) (pos 0)) (pure_closed_rec fs) ∙ record-codes (keys (map pure_field_closed fs)) (domains_of (map (λ f. f.1) (map pure_field_closed fs))) ∙ ap codes_of (sym (pure_closed_rec fs))

map-long : {A B : Type 0} (f : A → B) (xs : List A) → length (map f xs) ≡ length xs
map-long f [] = refl
map-long f (x ∷ xs) = ap suc (map-long f xs)

pub list_there : (r : List ℤ) (vs : List Val) (d : Domain) → r ≡ replicate (length vs) (pos 0) → Some (map pure_val vs) ≡ members d → r ≡ replicate (length (member_list d)) (pos 0)
list_there r vs d e p = e ∙ ap (λ n. replicate n (pos 0)) (sym (map-long pure_val vs) ∙ ap (λ o. length (list_or_none o)) p)

pub list_none : (d : Domain) → None ≡ members d → [] ≡ replicate (length (member_list d)) (pos 0)
list_none d p = ap (λ o. replicate (length (list_or_none o)) (pos 0)) p

zero-push : (n : ℕ) → replicate (suc n) (pos 0) ≡ replicate n (pos 0) ++ pos 0 ∷ []
zero-push zero = refl
zero-push (suc n) = ap (λ l. pos 0 ∷ l) (zero-push n)

pub zeros_more : (k : ℕ) (zs ys : List ℤ) → zs ≡ replicate k (pos 0) → ys ≡ zs ++ pos 0 ∷ [] → ys ≡ replicate (k + 1) (pos 0)
zeros_more k zs ys e g =
    let q : suc k ≡ k + 1 = omega arith in
    g ∙ ap (λ l. l ++ pos 0 ∷ []) e ∙ sym (zero-push k) ∙ ap (λ n. replicate n (pos 0)) q

-- ---- several axes

-- The axis of a domain.
abbrev pub axis_for : Closed → List ℤ
axis_for d = codes_of (pure_closed d)

pub axes_more : (ds : List Closed) (i : ℕ) (as' bs : List (List ℤ)) (d : Closed) (a : List ℤ) → i < length ds → d ≡ get_or ds i d → a ≡ codes_of (pure_closed d) →
    bs ≡ as' ++ a ∷ [] → as' ≡ map axis_for (take i ds) → bs ≡ map axis_for (take (i + 1) ds)
axes_more ds i as' bs d a h is e g p =
    g ∙ ap (λ l. l ++ a ∷ []) p ∙ ap (λ x. map axis_for (take i ds) ++ x ∷ []) (e ∙ ap axis_for is)
    ∙ sym (map-append axis_for (take i ds) (get_or ds i d ∷ [])) ∙ sym (ap (map axis_for) (take_more ds i d h))

map-map : (ds : List Closed) → map axis_for ds ≡ map codes_of (map pure_closed ds)
map-map [] = refl
map-map (d ∷ ds) = ap (λ l. axis_for d ∷ l) (map-map ds)

pub axes_all : (ds : List Closed) (i : ℕ) (as' : List (List ℤ)) → length ds ≤ i → as' ≡ map axis_for (take i ds) → as' ≡ map codes_of (domain_list (pure_closeds ds))
axes_all ds i as' h p = p ∙ ap (map axis_for) (take_all i ds h) ∙ map-map ds ∙ ap (map codes_of) (sym (parts_are ds))
