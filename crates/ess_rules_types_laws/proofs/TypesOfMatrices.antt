-- The rule of `=` between matrices keeps types.
use Rattle.std.proofs.Common.{◌≡◌, refl, sym, ap, ◌∙◌, subst, true, false, [], ◌∷◌, Option, Some, None, option_map}
use Rattle.std.specs.Prelude.{is_some}
use Rattle.ess_semantics.specs.declared.words.Op2.{Op2}
use Rattle.ess_semantics.specs.declared.words.Fun.{Fun}
use Rattle.ess_semantics.specs.Lists.{and_then}
use Rattle.ess_semantics.specs.Values.{Text, a_matrix}
use Rattle.ess_semantics.specs.Order.{same_text}
use Rattle.ess_semantics.specs.Names.{Names}
use Rattle.ess_semantics.specs.Trees.{by_value, binary, word, index, name_pat, Ex, name_ex, comp_ex, ex2, no_gens, over, Dom}
use Rattle.ess_semantics.specs.Types.{Ty, bool_ty, int_ty, no_tys, more_tys, compound, compound2, join, type_of_dom}
use Rattle.ess_semantics.specs.OperatorTypes.{type_of_op}
use Rattle.ess_semantics.specs.Typing.{a_name, static, type_of, type_of_node}
use Rattle.ess_rules_laws.specs.MatrixRules.{every_over, some_over, item_of, lies_in, equal_each_at, both_matrices}
use Rattle.ess_rules_laws.proofs.Agreement.{look-itself}
use Rattle.ess_guard_types_laws.proofs.JoinedTypes.{Agree, turned}
use Rattle.ess_refine_laws.specs.AllRules.{Supply, equal_matrices_at, matrices_at}
use Rattle.ess_refine_types_laws.specs.TypeNames.{IsUntyped}
use Rattle.ess_refine_types_laws.proofs.TypeParts.{one-to, two-is, two-to, given-is, TypeKept, truth-for, new-name, term-behind, equation-type}
use Rattle.ess_rules_types_laws.specs.TypesOfOthers.{has_indices, IndicesFit, OthersFit}
use Rattle.ess_rules_types_laws.proofs.PutTypes.{look-past}
use Rattle.ess_rules_types_laws.proofs.TypesOfComponents.{some-same}

matrices-join : (i t j u : Ty) → Agree (compound2 a_matrix i t) (compound2 a_matrix j u) → Agree t u
matrices-join i t j u h = go (join i j) (join t u) h
  where
    go : (o p : Option Ty) → is_some (option_map (compound a_matrix) (and_then o (λ v. option_map (more_tys v) (and_then p (λ w. option_map
        (more_tys w) (Some no_tys)))))) ≡ true → is_some p ≡ true
    go None p h = cc
    go (Some v) None h = h
    go (Some v) (Some w) h = refl

module _ (g : Names Ty) where
  -- `and` and `or` over a domain.
  every-type : (x : Text) (d : Dom) (e : Ex) → type_of e ((x, type_of_dom d) ∷ g) ≡ Some bool_ty →
      type_of (every_over x d e) g ≡ Some bool_ty
  every-type x d e q = one-to (type_of (comp_ex e (over (name_pat x) d no_gens)) g) (type_of_op (word Fun.And))
      (compound2 a_matrix int_ty bool_ty)
      bool_ty (ap (option_map (compound2 a_matrix int_ty)) q) refl

  some-type : (x : Text) (d : Dom) (e : Ex) → type_of e ((x, type_of_dom d) ∷ g) ≡ Some bool_ty → type_of (some_over x d e) g ≡ Some bool_ty
  some-type x d e q = one-to (type_of (comp_ex e (over (name_pat x) d no_gens)) g) (type_of_op (word Fun.Or))
      (compound2 a_matrix int_ty bool_ty)
      bool_ty (ap (option_map (compound2 a_matrix int_ty)) q) refl

  -- The item at an index of a matrix.
  pub item-type : (i t v : Ty) (m : Ex) (x : Text) → type_of m g ≡ Some (compound2 a_matrix i t) → type_of (name_ex x) g ≡ Some v →
      Agree i v →
      type_of (item_of t m (name_ex x)) g ≡ Some t
  item-type i t v m x p q h =
      ap (λ o. type_of_node (index (by_value ∷ [])) (static m ∷ a_name x ∷ []) (o ∷ type_of (name_ex x) g ∷ [])) p
      ∙ ap (λ o. type_of_node (index (by_value ∷ [])) (static m ∷ a_name x ∷ []) (Some (compound2 a_matrix i t) ∷ o ∷ [])) q
      ∙ go (join i v) h
    where
      go : (o : Option Ty) → is_some o ≡ true → and_then (option_map (λ w. t) o) (λ w. Some w) ≡ Some t
      go None h = cc
      go (Some w) h = refl

module _ (g : Names Ty) (x y : Text) (apart : same_text y x ≡ false) where
  lies-type : (d c : Dom) → Agree (type_of_dom c) (type_of_dom d) → type_of (lies_in x y d c) g ≡ Some bool_ty
  lies-type d c h = every-type g x d (some_over y c (ex2 true Op2.Eq (name_ex y) (name_ex x)))
      (some-type ((x, type_of_dom d) ∷ g) y c (ex2 true Op2.Eq (name_ex y) (name_ex x))
      (equation-type ((y, type_of_dom c) ∷ (x, type_of_dom d) ∷ g) (name_ex y) (name_ex x) (type_of_dom c) (type_of_dom d)
      (look-itself y (type_of_dom c) ((x, type_of_dom d) ∷ g))
      (look-past y x (type_of_dom c) ((x, type_of_dom d) ∷ g) apart ∙ look-itself x (type_of_dom d) g) h))

  module _ (d c : Dom) (a b : Ex) (ua : IsUntyped x a) (ub : IsUntyped x b) (f : IndicesFit g d c a b) where
    both-types : (i t j u : Ty) → type_of a g ≡ Some (compound2 a_matrix i t) → type_of b g ≡ Some (compound2 a_matrix j u) → Agree t u →
        type_of (ex2 true Op2.And (ex2 true Op2.And (lies_in x y d c) (lies_in x y c d)) (equal_each_at x d t u a b)) g ≡ Some bool_ty
    both-types i t j u p q h =
        let v : Ty = type_of_dom d in
        let k : Names Ty = (x, v) ∷ g in
        let ia : Agree i v = ap (λ o. has_indices o v) (sym p) ∙ f.0 in
        let ib : Agree j v = ap (λ o. has_indices o v) (sym q) ∙ f.1 in
        two-to (type_of (ex2 true Op2.And (lies_in x y d c) (lies_in x y c d)) g) (type_of (equal_each_at x d t u a b) g)
        (type_of_op (binary Op2.And)) bool_ty bool_ty bool_ty
        (two-to (type_of (lies_in x y d c) g) (type_of (lies_in x y c d) g) (type_of_op (binary Op2.And)) bool_ty bool_ty bool_ty
        (lies-type d c f.2) (lies-type c d (turned (type_of_dom c) v f.2)) refl)
        (every-type g x d (ex2 true Op2.Eq (item_of t a (name_ex x)) (item_of u b (name_ex x)))
        (equation-type k (item_of t a (name_ex x)) (item_of u b (name_ex x)) t u
        (item-type k i t v a x (term-behind g x v a (compound2 a_matrix i t) ua p) (new-name g x v) ia)
        (item-type k j u v b x (term-behind g x v b (compound2 a_matrix j u) ub q) (new-name g x v) ib) h)) refl

    matrices-typed : (o p : Option Ty) → type_of a g ≡ o → type_of b g ≡ p → TypeKept g (ex2 true Op2.Eq a b)
        (both_matrices o p (λ t u. ex2 true Op2.And (ex2 true Op2.And (lies_in x y d c) (lies_in x y c d)) (equal_each_at x d t u a b)))
    matrices-typed (Some (compound2 a_matrix i t)) (Some (compound2 a_matrix j u)) p q = truth-for g (ex2 true Op2.Eq a b)
        (ex2 true Op2.And (ex2 true Op2.And (lies_in x y d c) (lies_in x y c d)) (equal_each_at x d t u a b)) (λ w e.
        let r = two-is (type_of a g) (type_of b g) (type_of_op (binary Op2.Eq)) w e in
        let k = given-is (join r.0 r.1) bool_ty w r.4 in
        let z : Agree (compound2 a_matrix i t) (compound2 a_matrix j u) =
        subst (λ n. Agree (compound2 a_matrix i t) n) (some-same r.1 (compound2 a_matrix j u) (sym r.3 ∙ q))
        (subst (λ n. Agree n r.1) (some-same r.0 (compound2 a_matrix i t) (sym r.2 ∙ p)) k.0) in
        (k.1, both-types i t j u p q (matrices-join i t j u z)))
    matrices-typed _ _ p q = tt

pub matrices : (g : Names Ty) (s : Supply) (e : Ex) → OthersFit s g equal_matrices_at e → TypeKept g e (matrices_at s g e)
matrices g s (ex2 true Op2.Eq a b) h =
    matrices-typed g s.one s.other h.2 (s.index_domain a) (s.index_domain b) a b h.0 h.1 h.3 (type_of a g) (type_of b g) refl refl
matrices g s (ex2 m o a b) h = tt
matrices g s _ h = tt
