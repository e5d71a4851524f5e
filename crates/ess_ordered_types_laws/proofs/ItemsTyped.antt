-- Scalars that are items, and operators on what is picked in order, keep types and marks.
use Rattle.std.proofs.Common.{◌≡◌, refl, ℕ, Bool, true, false, ◌&&◌, if◌then◌else◌, List, Option, Some, None}
use Rattle.std.specs.Prelude.{is_some}
use Rattle.ess_semantics.specs.Lists.{and_then, or_else}
use Rattle.ess_semantics.specs.Names.{Names}
use Rattle.ess_semantics.specs.Trees.{Ex, number_ex, truth_ex, name_ex, node_ex, matrix_ex, comp_ex, cell_ex, seen_ex}
use Rattle.ess_semantics.specs.Types.{Ty}
use Rattle.ess_semantics.specs.Typing.{type_of}
use Rattle.ess_rules_laws.specs.LiteralRules.{nth}
use Rattle.ess_rules_laws.specs.Lookups.{put_nth, is_plain}
use Rattle.ess_rules_laws.specs.AlternativeLookups.{picking_each, select_each, select_whole_each}
use Rattle.ess_rules_laws.specs.Listings.{Alternative}
use Rattle.ess_refine_laws.specs.AllRules.{Supply, OfSome}
use Rattle.ess_refine_types_laws.specs.MarksOfContainers.{IsNewTo}
use Rattle.ess_put_marks_laws.specs.MarksOfTerms.{EachMarked}
use Rattle.ess_open_rules_laws.specs.OpenRules.{is_compound_ty, gives_scalar}
use Rattle.ess_ordered_laws.specs.NumberedItems.{ordered_lookup}
use Rattle.ess_ordered_laws.specs.OrderedRules.{an_item, of_an_item, item_alone, operand_lookup, over_operand, at_operand, ordered_rewrite}
use Rattle.ess_open_types_laws.specs.OpeningsTyped.{scalar_ty, GivesScalar, EachPicksAlike}
use Rattle.ess_open_types_laws.proofs.OperandsTyped.{operand-typed}
use Rattle.ess_open_types_laws.proofs.TypesBehind.{KeepsBoth, BothKept, both-when}
use Rattle.ess_open_types_laws.proofs.PicksTyped.{over-operand, alone}
use Rattle.ess_ordered_types_laws.specs.OrderedTyped.{OfOperand, OperandFits, OperandMarked, OrderedTyped, OrderedMarked}
use Rattle.ess_ordered_types_laws.proofs.OperandsOffered.{operand-says-nothing, operand-alike, operand-marked, nth-marks}

module _ (s : Supply) (g : Names Ty) where
  -- ---- a scalar by itself

  pub item-alone : (e : Ex) → OrderedTyped s g an_item e → BothKept g (OrderedMarked s g an_item e) e (item_alone s g e)
  item-alone e h = at e h.0 (gives_scalar g e) (ordered_lookup s.third s.parts e) h.1
    where
      at : (e : Ex) → GivesScalar g e → (c : Bool) (o : Option (List Alternative)) → OfSome o (EachPicksAlike g e) →
          BothKept g (OfSome o (EachMarked g)) e (and_then o (λ l. if c then select_whole_each s.one l e else None))
      at e sc c None h = tt
      at e sc false (Some l) h = tt
      at (node_ex b op es) sc true (Some l) h = alone g s.one b op es l sc h
      at (number_ex n) sc true (Some l) h = tt
      at (truth_ex b) sc true (Some l) h = tt
      at (name_ex a) sc true (Some l) h = tt
      at (matrix_ex es d) sc true (Some l) h = tt
      at (comp_ex x gs) sc true (Some l) h = tt
      at (cell_ex b n es) sc true (Some l) h = tt
      at (seen_ex r d ns es) sc true (Some l) h = tt

  -- ---- an operator on what is picked

  at-operand : (k : ℕ) (e : Ex) → IsNewTo s.one e → GivesScalar g e → OfOperand k e (OperandFits s g) →
      BothKept g (OfOperand k e (OperandMarked s g)) e (at_operand s g k e)
  at-operand k (node_ex b op es) new sc h = at (nth es k) refl h
    where
      over : (t : Ex) → nth es k ≡ Some t → OperandFits s g t → (l : List Alternative) → operand_lookup s g (node_ex b op es) t ≡ Some l →
          KeepsBoth g (OperandMarked s g t) (node_ex b op es) (picking_each b s.one l (node_ex b op (put_nth es k (name_ex s.one))))
      over t n a l q =
          let w = operand-says-nothing s g (node_ex b op es) t l q in
          let u = operand-typed g b op es k t n w (scalar_ty b) sc in
          let both = over-operand g s.one b op es k t l n w new sc (operand-alike s g (node_ex b op es) t u.0 u.1 l q a) in (
            both.0,
            λ p v i m. both.1 (operand-marked s g (node_ex b op es) t u.0 u.1 l q a p (nth-marks g es k t n m.1)) v i m,
          )

      found : (t : Ex) → nth es k ≡ Some t → OperandFits s g t → (c : Bool) (o : Option (List Alternative)) →
          operand_lookup s g (node_ex b op es) t ≡ o →
          BothKept g (OperandMarked s g t) (node_ex b op es) (and_then o (λ l. if c then select_each s.one k l (node_ex b op es) else None))
      found t n a c None q = tt
      found t n a false (Some l) q = tt
      found t n a true (Some l) q = both-when g (OperandMarked s g t) (is_plain op && is_some (nth es k)) (node_ex b op es)
          (picking_each b s.one l (node_ex b op (put_nth es k (name_ex s.one)))) (λ c. over t n a l q)

      at : (o : Option Ex) → nth es k ≡ o → OfSome o (OperandFits s g) →
          BothKept g (OfSome o (OperandMarked s g)) (node_ex b op es) (and_then o (over_operand s g k (node_ex b op es)))
      at None q a = tt
      at (Some t) q a = found t q a (gives_scalar g (node_ex b op es) && is_compound_ty (type_of t g))
          (operand_lookup s g (node_ex b op es) t) refl
  at-operand k _ new sc h = tt

  -- Of two answers, the first that is there.
  pub either : (P Q : Type 0) (e : Ex) (o p : Option Ex) → BothKept g P e o → BothKept g Q e p → BothKept g (P × Q) e (or_else o p)
  either P Q e (Some f) p h k = (h.0, λ r. h.1 r.0)
  either P Q e None (Some f) h k = (k.0, λ r. k.1 r.1)
  either P Q e None None h k = tt

  pub over-item : (e : Ex) → OrderedTyped s g of_an_item e →
      BothKept g (OrderedMarked s g of_an_item e) e (ordered_rewrite s g of_an_item e)
  over-item e h =
      either (OfOperand 1 e (OperandMarked s g)) (OfOperand 2 e (OperandMarked s g)) e (at_operand s g 1 e) (at_operand s g 2 e)
      (at-operand 1 e h.0 h.1 h.2) (at-operand 2 e h.0 h.1 h.3)
