-- A name over a tuple or a record of domains becomes one over a comprehension of new names: the type stays.
use Rattle.std.proofs.Common.{◌≡◌, refl, ap, ◌∙◌, true, false, not, ◌&&◌, if◌then◌else◌, List, [], ◌∷◌, map, Some, option_map}
use Rattle.std.specs.Ordering.{is_lt}
use Rattle.std.specs.declared.cmp.Ordering.{Ordering}
use Rattle.std.specs.declared.cmp.Ordering.TheVariants.{Less, Equal, Greater}
use Rattle.ess_semantics.specs.Lists.{and_then, all_some, zip}
use Rattle.ess_semantics.specs.Values.{Text, a_tuple, a_record, a_matrix}
use Rattle.ess_semantics.specs.Order.{same_text, order_text}
use Rattle.ess_semantics.specs.Names.{Names, look, keys, by_name, insert_name, insert_by}
use Rattle.ess_semantics.specs.Trees.{tuple_literal, record_literal, name_pat, Ex, comp_ex, Gens, over, from, Dom, Doms, tuple_dom, record_dom, no_doms, more_doms}
use Rattle.ess_semantics.specs.Types.{Ty, Tys, any_ty, int_ty, no_tys, more_tys, compound, compound2, tys_of, type_of_dom, types_of_doms, bind_all_types}
use Rattle.ess_semantics.specs.OperatorTypes.{type_of_op, member_ty, record_ty}
use Rattle.ess_semantics.specs.Typing.{type_of, types_of, types_under}
use Rattle.ess_semantics.proofs.Tests.{and-left, and-right, or-left-no, or-right-no, not-true}
use Rattle.ess_rules_laws.specs.ComponentRules.{has_text}
use Rattle.ess_rules_laws.specs.TupleNames.{named_pats, named_exs, are_names, tuples_over, name_over_tuple}
use Rattle.ess_rules_laws.proofs.Agreement.{look-itself}
use Rattle.ess_refine_laws.specs.RecordNames.{are_in_order, records_over, name_over_record}
use Rattle.ess_refine_laws.specs.TypesStay.{KeepsType}
use Rattle.ess_refine_types_laws.proofs.TypeParts.{TypeKept, when-so}

-- The types of domains, as a list.
abbrev list_of_doms : Doms → List Ty
list_of_doms no_doms = []
list_of_doms (more_doms d ds) = type_of_dom d ∷ list_of_doms ds

listed-doms : (ds : Doms) → tys_of (list_of_doms ds) ≡ types_of_doms ds
listed-doms no_doms = refl
listed-doms (more_doms d ds) = ap (more_tys (type_of_dom d)) (listed-doms ds)

-- ---- names that are bound to types

look-kept : (ys : List Text) (ts : Tys) (g : Names Ty) (a : Text) → has_text ys a ≡ false →
    look (bind_all_types (named_pats ys) ts g) a ≡ look g a
look-kept [] ts g a h = refl
look-kept (y ∷ ys) no_tys g a h = look-kept ys no_tys ((y, any_ty) ∷ g) a (or-right-no (same_text y a) (has_text ys a) h)
    ∙ ap (λ b. if b then Some any_ty else look g a) (or-left-no (same_text y a) (has_text ys a) h)
look-kept (y ∷ ys) (more_tys t ts) g a h = look-kept ys ts ((y, t) ∷ g) a (or-right-no (same_text y a) (has_text ys a) h)
    ∙ ap (λ b. if b then Some t else look g a) (or-left-no (same_text y a) (has_text ys a) h)

names-have : (ys : List Text) (ds : Doms) (g : Names Ty) → are_names ys ds ≡ true →
    all_some (types_of (named_exs ys) (bind_all_types (named_pats ys) (types_of_doms ds) g)) ≡ Some (list_of_doms ds)
names-have [] no_doms g h = refl
names-have (y ∷ ys) (more_doms d ds) g h =
    ap (λ o. and_then o (λ x. option_map (λ xs. x ∷ xs)
    (all_some (types_of (named_exs ys) (bind_all_types (named_pats ys) (types_of_doms ds) ((y, type_of_dom d) ∷ g))))))
    (look-kept ys (types_of_doms ds) ((y, type_of_dom d) ∷ g) y (not-true (has_text ys y) (and-left (not (has_text ys y))
    (are_names ys ds) h))
    ∙ look-itself y (type_of_dom d) g)
    ∙ ap (option_map (λ xs. type_of_dom d ∷ xs)) (names-have ys ds ((y, type_of_dom d) ∷ g) (and-right (not (has_text ys y))
    (are_names ys ds) h))
names-have [] (more_doms d ds) g h = cc
names-have (y ∷ ys) no_doms g h = cc

-- ---- fields in their order

less-first : (o : Ordering) (b c : Text × Ty) (cs rest : Names Ty) → is_lt o ≡ true → insert_by o b c cs rest ≡ b ∷ c ∷ cs
less-first Less b c cs rest h = refl
less-first Equal b c cs rest h = cc
less-first Greater b c cs rest h = cc

-- There are as many fields as domains.
abbrev AsMany : List Text → Doms → Type 0
AsMany [] no_doms = Unit {0}
AsMany (f ∷ fs) (more_doms d ds) = AsMany fs ds
AsMany fs ds = ⊥

as-many : (fs : List Text) (ds : Doms) → are_in_order fs ds ≡ true → AsMany fs ds
as-many [] no_doms h = tt
as-many (f ∷ []) (more_doms d no_doms) h = tt
as-many (f ∷ g ∷ fs) (more_doms d ds) h = as-many (g ∷ fs) ds (and-right (is_lt (order_text f g)) (are_in_order (g ∷ fs) ds) h)
as-many [] (more_doms d ds) h = cc
as-many (f ∷ []) no_doms h = cc
as-many (f ∷ []) (more_doms d (more_doms c ds)) h = cc
as-many (f ∷ g ∷ fs) no_doms h = cc

in-order-stays : (fs : List Text) (ds : Doms) → AsMany fs ds → are_in_order fs ds ≡ true →
    by_name (zip fs (list_of_doms ds)) ≡ zip fs (list_of_doms ds)
in-order-stays [] no_doms m h = refl
in-order-stays (f ∷ []) (more_doms d no_doms) m h = refl
in-order-stays (f ∷ g ∷ fs) (more_doms d (more_doms c ds)) m h =
    ap (insert_name (f, type_of_dom d))
    (in-order-stays (g ∷ fs) (more_doms c ds) m (and-right (is_lt (order_text f g)) (are_in_order (g ∷ fs) (more_doms c ds)) h))
    ∙ less-first (order_text f g) (f, type_of_dom d) (g, type_of_dom c) (zip fs (list_of_doms ds))
    (insert_name (f, type_of_dom d) (zip fs (list_of_doms ds)))
    (and-left (is_lt (order_text f g)) (are_in_order (g ∷ fs) (more_doms c ds)) h)
in-order-stays [] (more_doms d ds) m h = absurd m
in-order-stays (f ∷ []) no_doms m h = absurd m
in-order-stays (f ∷ []) (more_doms d (more_doms c ds)) m h = absurd m
in-order-stays (f ∷ g ∷ fs) no_doms m h = absurd m
in-order-stays (f ∷ g ∷ fs) (more_doms d no_doms) m h = absurd m

keys-are : (fs : List Text) (ds : Doms) → AsMany fs ds → keys (zip fs (list_of_doms ds)) ≡ fs
keys-are [] no_doms m = refl
keys-are (f ∷ fs) (more_doms d ds) m = ap (λ z. f ∷ z) (keys-are fs ds m)
keys-are [] (more_doms d ds) m = absurd m
keys-are (f ∷ fs) no_doms m = absurd m

fields-are : (fs : List Text) (ds : Doms) → AsMany fs ds → map (λ b. b.1) (zip fs (list_of_doms ds)) ≡ list_of_doms ds
fields-are [] no_doms m = refl
fields-are (f ∷ fs) (more_doms d ds) m = ap (λ z. type_of_dom d ∷ z) (fields-are fs ds m)
fields-are [] (more_doms d ds) m = absurd m
fields-are (f ∷ fs) no_doms m = absurd m

record-type : (fs : List Text) (ds : Doms) → are_in_order fs ds ≡ true →
    record_ty (by_name (zip fs (list_of_doms ds))) ≡ compound (a_record fs) (types_of_doms ds)
record-type fs ds h =
    let m = as-many fs ds h in
    ap record_ty (in-order-stays fs ds m h)
    ∙ ap (λ k. compound (a_record k) (tys_of (map (λ b. b.1) (zip fs (list_of_doms ds))))) (keys-are fs ds m)
    ∙ ap (λ k. compound (a_record fs) (tys_of k)) (fields-are fs ds m) ∙ ap (compound (a_record fs)) (listed-doms ds)

-- ---- the rules

module _ (g : Names Ty) where
  pub tuples-type : (ys : List Text) (ds : Doms) → are_names ys ds ≡ true →
      type_of (tuples_over ys ds) g ≡ Some (compound2 a_matrix int_ty (compound a_tuple (types_of_doms ds)))
  tuples-type ys ds h =
      ap (λ o. option_map (compound2 a_matrix int_ty) (and_then o (type_of_op tuple_literal))) (names-have ys ds g h)
      ∙ ap (λ k. Some (compound2 a_matrix int_ty (compound a_tuple k))) (listed-doms ds)

  pub records-type : (fs ys : List Text) (ds : Doms) → are_names ys ds ≡ true → are_in_order fs ds ≡ true →
      type_of (records_over fs ys ds) g ≡ Some (compound2 a_matrix int_ty (compound (a_record fs) (types_of_doms ds)))
  records-type fs ys ds h o =
      ap (λ z. option_map (compound2 a_matrix int_ty) (and_then z (type_of_op (record_literal fs)))) (names-have ys ds g h)
      ∙ ap (λ k. Some (compound2 a_matrix int_ty k)) (record-type fs ds o)

  -- A comprehension over a term whose members have the type of a domain's.
  as-domain : (x : Text) (e t : Ex) (d : Dom) (hs : Gens) → type_of t g ≡ Some (compound2 a_matrix int_ty (type_of_dom d)) →
      KeepsType g (comp_ex e (over (name_pat x) d hs)) (comp_ex e (from (name_pat x) t hs))
  as-domain x e t d hs p v q =
      ap (λ o. and_then (and_then (and_then o member_ty) (λ m. types_under hs ((x, m) ∷ g))) (λ h. option_map (compound2 a_matrix int_ty)
      (type_of e h))) p ∙ q

  pub over-tuple : (ys : List Text) (e : Ex) → TypeKept g e (name_over_tuple ys e)
  over-tuple ys (comp_ex e (over (name_pat x) (tuple_dom ds) hs)) = when-so g (are_names ys ds)
      (comp_ex e (over (name_pat x) (tuple_dom ds) hs)) (comp_ex e (from (name_pat x) (tuples_over ys ds) hs))
      (λ h. as-domain x e (tuples_over ys ds) (tuple_dom ds) hs (tuples-type ys ds h))
  over-tuple ys _ = tt

  pub over-record : (ys : List Text) (e : Ex) → TypeKept g e (name_over_record ys e)
  over-record ys (comp_ex e (over (name_pat x) (record_dom fs ds) hs)) = when-so g (are_names ys ds && are_in_order fs ds)
      (comp_ex e (over (name_pat x) (record_dom fs ds) hs)) (comp_ex e (from (name_pat x) (records_over fs ys ds) hs))
      (λ h. as-domain x e (records_over fs ys ds) (record_dom fs ds) hs
      (records-type fs ys ds (and-left (are_names ys ds) (are_in_order fs ds) h) (and-right (are_names ys ds) (are_in_order fs ds) h)))
  over-record ys _ = tt
