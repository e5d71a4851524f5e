-- Rules of `=` by components, by fields and by items keep marks.
use Rattle.std.proofs.Common.{◌≡◌, refl, sym, ap, ◌∙◌, subst, ℕ, suc, ◌+◌, Bool, true, false, not, ◌&&◌, if◌then◌else◌, List, [], ◌∷◌, Option, Some}
use Rattle.ess_semantics.specs.declared.words.Op2.{Op2}
use Rattle.ess_semantics.specs.Values.{Text, a_tuple, a_record, a_matrix}
use Rattle.ess_semantics.specs.Order.{same_text, same_texts, order_texts}
use Rattle.ess_semantics.specs.Names.{Names, look}
use Rattle.ess_semantics.specs.Trees.{by_value, to_field, index, Ex, name_ex, ex2, Dom}
use Rattle.ess_semantics.specs.Types.{Ty, Tys, no_tys, more_tys, compound, compound2, is_bool, type_of_dom}
use Rattle.ess_semantics.specs.Typing.{component_ty, field_ty, type_of}
use Rattle.ess_semantics.proofs.Orders.{texts_exact, equal-of}
use Rattle.ess_semantics.proofs.Tests.{and-left, and-right}
use Rattle.ess_rules_laws.specs.ComponentRules.{equal_from, components, equal_where, equal_components, field_of, has_text, are_fields, equal_each, equal_where_fields, equal_fields}
use Rattle.ess_rules_laws.specs.MatrixRules.{item_of, lies_in, equal_each_at, both_matrices}
use Rattle.ess_guard_types_laws.proofs.JoinedTypes.{Agree}
use Rattle.ess_refine_laws.specs.AllRules.{Supply, equal_matrices_at, matrices_at}
use Rattle.ess_refine_laws.specs.MarksStay.{MarkFits, HasMarks, DomHasMarks}
use Rattle.ess_refine_types_laws.specs.MarksOfContainers.{IsNewTo, DomUsesNames}
use Rattle.ess_refine_types_laws.proofs.TypeParts.{new-name, term-behind}
use Rattle.ess_refine_types_laws.proofs.MarksBehind.{fewer, dom-same, marks-behind}
use Rattle.ess_rules_types_laws.specs.TypesOfOthers.{has_indices, IndicesFit}
use Rattle.ess_rules_types_laws.proofs.TypesOfComponents.{shifted, here, start, behind-first, first-field, component-type, field-type}
use Rattle.ess_rules_types_laws.proofs.TypesOfMatrices.{item-type}
use Rattle.ess_rules_marks_laws.proofs.Grows.{Grows, as_it_is, a_node, a_comp, none_grow, more_grow, no_gens_grow, over_grows, MarksGrow, grows-when}
use Rattle.ess_rules_marks_laws.proofs.MarksOfMembers.{reached}
use Rattle.ess_put_marks_laws.specs.MarksOfOthers.{IndexMarked, PartsMarked}

reached-field : (g : Names Ty) (t : Ty) (f : Text) (a : Ex) → type_of (field_of t f a) g ≡ Some t → HasMarks a g → Grows g (field_of t f a)
reached-field g t f a q h =
    as_it_is (subst (λ o. MarkFits (is_bool (Some t)) (index (to_field f ∷ [])) o) (sym q) refl, (h, tt))

module _ (g : Names Ty) (a b : Ex) where
  module _ (xs ys : Tys) (p : type_of a g ≡ Some (compound a_tuple xs)) (q : type_of b g ≡ Some (compound a_tuple ys)) (ma : HasMarks a g)
      (mb : HasMarks b g) where
    components-grow : (ts us : Tys) (k : ℕ) → ((j : ℕ) → component_ty xs (suc (j + k)) ≡ component_ty ts (suc j)) →
        ((j : ℕ) → component_ty ys (suc (j + k)) ≡ component_ty us (suc j)) → Grows g (equal_from (suc k) ts us a b)
    components-grow no_tys no_tys k i j = as_it_is tt
    components-grow no_tys (more_tys u us) k i j = as_it_is tt
    components-grow (more_tys t ts) no_tys k i j = as_it_is tt
    components-grow (more_tys t ts) (more_tys u us) k i j = a_node refl (more_grow
        (a_node refl (more_grow (reached g t (suc k) a (component-type g t (suc k) a xs p (here xs k t ts i)) ma)
        (more_grow (reached g u (suc k) b (component-type g u (suc k) b ys q (here ys k u us j)) mb) none_grow)))
        (more_grow (components-grow ts us (suc k) (shifted xs k t ts i) (shifted ys k u us j)) none_grow))

  module _ (gs hs : List Text) (xs ys : Tys) (p : type_of a g ≡ Some (compound (a_record gs) xs))
      (q : type_of b g ≡ Some (compound (a_record hs) ys)) (ma : HasMarks a g) (mb : HasMarks b g) where
    fields-grow : (fs : List Text) (ts us : Tys) → are_fields fs ts us ≡ true →
        ((c : Text) → has_text fs c ≡ true → field_ty gs xs c ≡ field_ty fs ts c) →
        ((c : Text) → has_text fs c ≡ true → field_ty hs ys c ≡ field_ty fs us c) → Grows g (equal_each fs ts us a b)
    fields-grow [] no_tys no_tys d i j = as_it_is tt
    fields-grow (f ∷ fs) (more_tys t ts) (more_tys u us) d i j = a_node refl (more_grow
        (a_node refl (more_grow (reached-field g t f a (field-type g t f a gs xs p (first-field g gs xs f fs t ts i)) ma)
        (more_grow (reached-field g u f b (field-type g u f b hs ys q (first-field g hs ys f fs u us j)) mb) none_grow)))
        (more_grow (fields-grow fs ts us (and-right (not (has_text fs f)) (are_fields fs ts us) d)
        (behind-first g gs xs f fs t ts (and-left (not (has_text fs f)) (are_fields fs ts us) d) i)
        (behind-first g hs ys f fs u us (and-left (not (has_text fs f)) (are_fields fs ts us) d) j)) none_grow))
    fields-grow _ _ _ d i j = cc

module _ (g : Names Ty) where
  pub by-components : (x : Text) (e : Ex) → MarksGrow g e (equal_components g x e)
  by-components x (ex2 true Op2.Eq a b) = go (type_of a g) (type_of b g) refl refl
    where
      go : (o p : Option Ty) → type_of a g ≡ o → type_of b g ≡ p →
          MarksGrow g (ex2 true Op2.Eq a b) (equal_where (components o) (components p) a b)
      go (Some (compound a_tuple ts)) (Some (compound a_tuple us)) i j =
          λ h. components-grow g a b ts us i j h.1.0 h.1.1.0 ts us 0 (start ts) (start us)
      go _ _ i j = tt
  by-components x _ = tt

  pub by-fields : (x : Text) (e : Ex) → MarksGrow g e (equal_fields g x e)
  by-fields x (ex2 true Op2.Eq a b) = go (type_of a g) (type_of b g) refl refl
    where
      go : (o p : Option Ty) → type_of a g ≡ o → type_of b g ≡ p → MarksGrow g (ex2 true Op2.Eq a b) (equal_where_fields o p a b)
      go (Some (compound (a_record fs) ts)) (Some (compound (a_record gs) us)) i j =
          grows-when g (same_texts fs gs && are_fields fs ts us) (ex2 true Op2.Eq a b) (equal_each fs ts us a b) (λ c h.
          let l : fs ≡ gs = texts_exact fs gs (equal-of (order_texts fs gs) (and-left (same_texts fs gs) (are_fields fs ts us) c)) in
          fields-grow g a b fs gs ts us i j h.1.0 h.1.1.0 fs ts us (and-right (same_texts fs gs) (are_fields fs ts us) c) (λ z y. refl)
          (λ z y. ap (λ k. field_ty k us z) (sym l)))
      go _ _ i j = tt
  by-fields x _ = tt

-- ---- matrices

-- Behind a new name a domain has its marks.
dom-behind : (x : Text) (t : Ty) (d : Dom) (g : Names Ty) → DomUsesNames (λ a. not (same_text x a)) d → DomHasMarks d g →
    DomHasMarks d ((x, t) ∷ g)
dom-behind x t d g n m = dom-same (λ a. not (same_text x a)) d g ((x, t) ∷ g) n (λ a k. go (same_text x a) (look g a) k) m
  where
    go : (b : Bool) (o : Option Ty) → not b ≡ true → o ≡ (if b then Some t else o)
    go true o k = cc
    go false o k = refl

module _ (g : Names Ty) (x y : Text) where
  lies-grow : (d c : Dom) → IndexMarked g x d → IndexMarked g x c → Grows g (lies_in x y d c)
  lies-grow d c md mc = a_node refl (more_grow (a_comp (over_grows md.0 no_gens_grow)
      (a_node refl (more_grow (a_comp (over_grows (dom-behind x (type_of_dom d) c g mc.1 mc.0) no_gens_grow)
      (a_node refl (more_grow (as_it_is tt) (more_grow (as_it_is tt) none_grow)))) none_grow))) none_grow)

  item-grows : (i t v : Ty) (m : Ex) → IsNewTo x m → type_of m g ≡ Some (compound2 a_matrix i t) → Agree i v → HasMarks m g →
      Grows ((x, v) ∷ g) (item_of t m (name_ex x))
  item-grows i t v m n p h k = as_it_is (
    subst (λ o. MarkFits (is_bool (Some t)) (index (by_value ∷ [])) o)
        (sym (item-type ((x, v) ∷ g) i t v m x
        (term-behind g x v m (compound2 a_matrix i t) (fewer (λ c. not (same_text x c)) m n) p) (new-name g x v) h)) refl,
    (marks-behind x v m g n k, (tt, tt)),
  )

  module _ (d c : Dom) (a b : Ex) (na : IsNewTo x a) (nb : IsNewTo x b) (f : IndicesFit g d c a b) (md : IndexMarked g x d)
      (mc : IndexMarked g x c) where
    matrices-grow : (o p : Option Ty) → type_of a g ≡ o → type_of b g ≡ p → MarksGrow g (ex2 true Op2.Eq a b)
        (both_matrices o p (λ t u. ex2 true Op2.And (ex2 true Op2.And (lies_in x y d c) (lies_in x y c d)) (equal_each_at x d t u a b)))
    matrices-grow (Some (compound2 a_matrix i t)) (Some (compound2 a_matrix j u)) p q = λ h.
        let v : Ty = type_of_dom d in
        a_node refl (more_grow (a_node refl (more_grow (lies-grow d c md mc) (more_grow (lies-grow c d mc md) none_grow)))
        (more_grow (a_node refl (more_grow (a_comp (over_grows md.0 no_gens_grow)
        (a_node refl (more_grow (item-grows i t v a na p (ap (λ o. has_indices o v) (sym p) ∙ f.0) h.1.0)
        (more_grow (item-grows j u v b nb q (ap (λ o. has_indices o v) (sym q) ∙ f.1) h.1.1.0) none_grow)))) none_grow)) none_grow))
    matrices-grow _ _ p q = tt

pub matrices : (g : Names Ty) (s : Supply) (e : Ex) → PartsMarked s g equal_matrices_at e → MarksGrow g e (matrices_at s g e)
matrices g s (ex2 true Op2.Eq a b) h =
    matrices-grow g s.one s.other (s.index_domain a) (s.index_domain b) a b h.1 h.2 h.0.3 h.3 h.4 (type_of a g) (type_of b g) refl refl
matrices g s (ex2 m o a b) h = tt
matrices g s _ h = tt
