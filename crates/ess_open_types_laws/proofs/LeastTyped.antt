-- The least and the greatest over several alternatives keep types and marks.
use Rattle.std.proofs.Common.{◌≡◌, refl, sym, ap, ◌∙◌, Bool, true, false, if◌then◌else◌, List, [], ◌∷◌, Option, Some, None}
use Rattle.ess_semantics.specs.declared.words.Fun.{Fun}
use Rattle.ess_semantics.specs.Lists.{and_then}
use Rattle.ess_semantics.specs.Names.{Names}
use Rattle.ess_semantics.specs.Trees.{word, Ex, comp_ex, fun1}
use Rattle.ess_semantics.specs.Types.{Ty, int_ty}
use Rattle.ess_semantics.specs.OperatorTypes.{type_of_op}
use Rattle.ess_semantics.specs.Typing.{type_of, types_under}
use Rattle.ess_rules_laws.specs.Listings.{Alternative}
use Rattle.ess_rules_laws.specs.SourceRules.{list_of}
use Rattle.ess_refine_laws.specs.AllRules.{Supply, OfSome}
use Rattle.ess_refine_laws.specs.ExtremeAlternatives.{each_extreme, past_all, extreme_alternatives}
use Rattle.ess_refine_laws.specs.ExtremeRules.{is_extreme}
use Rattle.ess_refine_types_laws.proofs.TypeParts.{one-is}
use Rattle.ess_rules_types_laws.specs.TypesOfSources.{are_some}
use Rattle.ess_rules_types_laws.proofs.TypesOfSources.{numbers-of}
use Rattle.ess_rules_types_laws.proofs.TypesOfLeast.{OfNumbers, EachOfNumbers, past-number, least-of}
use Rattle.ess_rules_marks_laws.proofs.Grows.{a_node, none_grow, more_grow}
use Rattle.ess_put_marks_laws.proofs.MarksOfTerms.{extreme-fit, each-least, past-grows}
use Rattle.ess_open_rules_laws.specs.OpenSources.{comp_offered, several, least_of_several}
use Rattle.ess_open_rules_laws.specs.OpenRules.{least_over_several}
use Rattle.ess_open_types_laws.specs.OpeningsTyped.{OpenedMarked, OpeningsTyped, OpeningsMarked}
use Rattle.ess_open_types_laws.proofs.TypesBehind.{BothKept, both-when, both-if, by-growth}
use Rattle.ess_open_types_laws.proofs.OpenedTyped.{EachHas, OfferedTyped, opened}

no : {A : Type 0} → false ≡ true → A
no h = cc

module _ (g : Names Ty) where
  -- Alternatives of a list whose least is a number are of numbers.
  each-numbers : (f : Fun) → is_extreme f ≡ true → (u : Ty) → type_of_op (word f) (u ∷ []) ≡ Some int_ty → (l : List Alternative) →
      EachHas g u l → EachOfNumbers g l
  each-numbers f i u q [] h = tt
  each-numbers f i u q (a ∷ l) h =
      let n = numbers-of g f i (types_under a.gens g) (type_of a.item) (ap (λ o. and_then o (λ z. type_of_op (word f) (z ∷ []))) h.0 ∙ q) in
      (record { behind = n.0; under = n.1; number = n.2 }, each-numbers f i u q l h.1)

  pub least-over : (s : Supply) (e : Ex) → OpeningsTyped s g least_over_several e →
      BothKept g (OpeningsMarked s g least_over_several e) e (least_of_several s g e)
  least-over s (fun1 false f (comp_ex e gs)) h =
      both-if g (OpenedMarked s g gs) (is_extreme f) (fun1 false f (comp_ex e gs))
      (and_then (several (comp_offered s g e gs)) (λ l. extreme_alternatives l (fun1 false f (comp_ex e gs))))
      (at (comp_offered s g e gs) (opened s g e gs h.1) h.2)
    where
      made : (l : List Alternative) → OfferedTyped g (OpenedMarked s g gs) (comp_ex e gs) l → are_some l ≡ true →
          BothKept g (OpenedMarked s g gs) (fun1 false f (comp_ex e gs)) (extreme_alternatives l (fun1 false f (comp_ex e gs)))
      made l k n = both-when g (OpenedMarked s g gs) (is_extreme f) (fun1 false f (comp_ex e gs))
          (fun1 false f (list_of (each_extreme f (past_all f l) l))) (λ i.
          by-growth g (OpenedMarked s g gs) (fun1 false f (comp_ex e gs)) (fun1 false f (list_of (each_extreme f (past_all f l) l))) (λ v q.
          let r = one-is (type_of (comp_ex e gs) g) (type_of_op (word f)) int_ty h.0 in
          let w = each-numbers f i r.0 r.2 l (k.0 r.0 r.1) in
          least-of g f i (past_all f l) (past-number g f i l w) l n w ∙ sym h.0 ∙ q)
          (λ p m.
          let w = k.1 p m.1.0 in
          a_node (extreme-fit f i) (more_grow (a_node refl (each-least g f i (past_all f l) (past-grows g f i l w) l w)) none_grow)))

      at : (o : Option (List Alternative)) → OfSome o (OfferedTyped g (OpenedMarked s g gs) (comp_ex e gs)) →
          OfSome o (λ l. are_some l ≡ true) →
          BothKept g (OpenedMarked s g gs) (fun1 false f (comp_ex e gs))
          (and_then (several o) (λ l. extreme_alternatives l (fun1 false f (comp_ex e gs))))
      at None k n = tt
      at (Some []) k n = no n
      at (Some (a ∷ [])) k n = tt
      at (Some (a ∷ b ∷ l)) k n = made (a ∷ b ∷ l) k n
  least-over s _ h = tt
