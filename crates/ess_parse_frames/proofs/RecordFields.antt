-- Fields of a record domain that a stable sort by names has put in order are those of the definition.
use Rattle.std.proofs.Common.{◌≡◌, refl, sym, ap, ◌∙◌, Bool, cond, List, [], ◌∷◌, map, is_lt}
use Rattle.std.specs.Cmp.{IsStrictWeakOrder}
use Rattle.std.specs.List.Sorted.{IsSortedBy, IsStableBy}
use Rattle.std.specs.Ordering.{ordering_reverse}
use Rattle.std.proofs.lemmas.List.Sorted.{ranks_by}
use Rattle.std.specs.declared.cmp.Ordering.{Ordering}
use Rattle.std.specs.declared.cmp.Ordering.TheVariants.{Less, Equal, Greater}
use Rattle.ess_semantics.specs.Values.{Text}
use Rattle.ess_semantics.specs.Lists.{zip}
use Rattle.ess_semantics.specs.Names.{Names, keys, by_name, insert_name, insert_by}
use Rattle.ess_semantics.specs.Kinds.{dom_list, doms_of}
use Rattle.ess_semantics.specs.Order.{order_text}
use Rattle.ess_semantics.specs.Trees as pure
use Rattle.ess_semantics.specs.Trees.{no_doms}
use Rattle.ess_semantics.proofs.Orders.{text_total}
use Rattle.ess_grammar.specs.Grammar.{sorted_record, record_of}
use Rattle.ess_parse_laws.specs.Reversed.{reverse_doms, reverse_list}
use Rattle.ess_core.specs.TreeViews.{field_values, pure_field_dom, pure_dom}
use Rattle.ess_core.proofs.PartEquations.{pure_field_dom_is}
use Rattle.ess_core.proofs.DomainEquations.{pure_rec}
use Rattle.ess_core.specs.declared.domains.FieldDom.{FieldDom}
use Rattle.ess_core.specs.declared.domains.Dom.TheVariants as variant
use Rattle.ess_core.specs.declared.domains.Dom.TheViews.{out-FieldDom}
use Rattle.ess_parse_frames.specs.Rows.{back_dom_names, back_field_doms}
use Rattle.ess_parse_frames.proofs.RowLaws.{dom_names_closed, field_doms_closed}
use Rattle.ess_parse_frames.proofs.StableSorting.{put, put_all, stable-sort}

-- ---- by name, over any entries

module _ {A B : Type 0} (name_of : A → Text) (entry : A → Text × B) (named : (x : A) → (entry x).0 ≡ name_of x) where
  -- whether the name of one item is below that of another
  abbrev pub lower : A → A → Bool
  lower x y = is_lt (order_text (name_of x) (name_of y))

  lower-order : IsStrictWeakOrder lower
  lower-order = ranks_by text_total name_of

  put-entry : (x : A) (ys : List A) → map entry (put lower lower-order x ys) ≡ insert_name (entry x) (map entry ys)
  put-entry x [] = refl
  put-entry x (y ∷ ys) =
      ap (λ o. map entry (cond (is_lt o) (y ∷ put lower lower-order x ys) (x ∷ y ∷ ys))) (text_total.antisymm (name_of y) (name_of x))
      ∙ go (order_text (name_of x) (name_of y)) (put-entry x ys)
      ∙ ap (λ a. insert_by (order_text a (name_of y)) (entry x) (entry y) (map entry ys) (insert_name (entry x) (map entry ys))) (sym (named x))
      ∙ ap (λ b. insert_by (order_text (entry x).0 b) (entry x) (entry y) (map entry ys) (insert_name (entry x) (map entry ys))) (sym (named y))
    where
      go : (o : Ordering) → map entry (put lower lower-order x ys) ≡ insert_name (entry x) (map entry ys)
          → map entry (cond (is_lt (ordering_reverse o)) (y ∷ put lower lower-order x ys) (x ∷ y ∷ ys)) ≡ insert_by o (entry x) (entry y) (map entry ys) (insert_name (entry x) (map entry ys))
      go Less ih = refl
      go Equal ih = refl
      go Greater ih = ap (λ ws. entry y ∷ ws) ih

  put_all-entries : (xs : List A) → map entry (put_all lower lower-order xs) ≡ by_name (map entry xs)
  put_all-entries [] = refl
  put_all-entries (x ∷ xs) = put-entry x (put_all lower lower-order xs) ∙ ap (insert_name (entry x)) (put_all-entries xs)

  pub sorted-entries : (xs ys : List A) → IsSortedBy lower ys → IsStableBy lower xs ys → map entry ys ≡ by_name (map entry xs)
  sorted-entries xs ys s t = ap (map entry) (stable-sort lower lower-order xs ys s t) ∙ put_all-entries xs

-- ---- fields

abbrev pub field_name : FieldDom → Text
field_name f = (out-FieldDom f).name

pub fields-order : IsStrictWeakOrder (λ (x y : FieldDom). is_lt (order_text (field_name x) (field_name y)))
fields-order = ranks_by text_total field_name

-- names and domains side by side are the fields
zip-fields : (fs : Names pure.Dom) → zip (keys fs) (dom_list (doms_of (field_values fs))) ≡ fs
zip-fields [] = refl
zip-fields (f ∷ fs) = ap (λ gs. f ∷ gs) (zip-fields fs)

pub record-sorted : (xs ys : List FieldDom) →
    IsSortedBy (λ (x y : FieldDom). is_lt (order_text (field_name x) (field_name y))) ys →
    IsStableBy (λ (x y : FieldDom). is_lt (order_text (field_name x) (field_name y))) xs ys →
    pure_dom (variant.Rec ys) ≡ sorted_record (reverse_list (back_dom_names xs) []) (reverse_doms (back_field_doms xs) no_doms)
record-sorted xs ys s t =
    pure_rec ys
    ∙ ap record_of (sorted-entries field_name pure_field_dom (λ x. ap (λ f. f.0) (pure_field_dom_is x)) xs ys s t)
    ∙ ap (λ fs. record_of (by_name fs)) (sym (zip-fields (map pure_field_dom xs)))
    ∙ ap (λ ns. sorted_record ns (doms_of (field_values (map pure_field_dom xs)))) (sym (dom_names_closed xs))
    ∙ ap (sorted_record (reverse_list (back_dom_names xs) [])) (sym (field_doms_closed xs))
