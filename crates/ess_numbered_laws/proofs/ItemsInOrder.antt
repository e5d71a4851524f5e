-- The items of a matrix over a domain, taken at the members of that, are its items in order.
use Rattle.std.proofs.Common.{◌≡◌, refl, sym, ap, ◌∙◌, suc, Bool, true, false, ◌||◌, if◌then◌else◌, List, [], ◌∷◌, ◌++◌, length, Option, Some, option_map, arith}
use Rattle.ess_semantics.specs.Lists.{and_then}
use Rattle.ess_semantics.specs.Values.{Text, Value, of_list, matrix, itself}
use Rattle.ess_semantics.specs.Order.{same, below}
use Rattle.ess_semantics.specs.Collections.{holds, rises}
use Rattle.ess_semantics.specs.Trees.{Ex, name_ex, Dom}
use Rattle.ess_semantics.specs.Types.{Ty, is_bool}
use Rattle.ess_semantics.specs.Operators.{false_where_undefined, list_value, item_at}
use Rattle.ess_semantics.specs.Meaning.{Env, meaning, domain_of, members_in, collect}
use Rattle.ess_semantics.specs.Contexts.{Each}
use Rattle.ess_semantics.specs.Meets.{Meets}
use Rattle.ess_semantics.proofs.Orders.{same-equal, same-itself}
use Rattle.ess_rules_laws.specs.Rules.{Unused, IsTruth}
use Rattle.ess_rules_laws.specs.MatrixRules.{item_of}
use Rattle.ess_rules_laws.proofs.MatrixRules.{each-of-any}
use Rattle.ess_rules_laws.proofs.RuleAnswers.{behind, meets-behind}
use Rattle.ess_ordered_laws.specs.IndexedSources.{items_at}
use Rattle.ess_ordered_laws.specs.Laws.{MatrixOver}
use Rattle.ess_ordered_laws.proofs.Places.{members-rise, first-below, rest-rises, never-below-itself}
use Rattle.ess_numbered_laws.proofs.CountedNumbers.{item-behind}
use Rattle.ess_numbered_laws.proofs.NumberedTerms.{each-stays, marked}

-- What answers the item at each of the indices, which rise, collects all items.
items-collected : (P : Value → Type 0) (f : Option Value → Option Value) → ((v : Value) → P v → f (Some v) ≡ Some v) →
    (is xs : List Value) → rises itself is ≡ true → length is ≡ length xs → Each xs P → (G : Value → Option (List Value)) →
    ((w : Value) → holds is w ≡ true → G w ≡ option_map (λ v. v ∷ []) (f (item_at (of_list is) (of_list xs) w))) → collect is G ≡ Some xs
items-collected P f s [] [] r n e G h = refl
items-collected P f s [] (x ∷ xs) r n e G h = absurd (let z : 0 ≡ suc (length xs) = n in omega arith)
items-collected P f s (i ∷ is) [] r n e G h = absurd (let z : suc (length is) ≡ 0 = n in omega arith)
items-collected P f s (i ∷ is) (x ∷ xs) r n e G h =
    ap (λ o. and_then o (λ us. option_map (λ ys. us ++ ys) (collect is G)))
    (h i (ap (λ b. b || holds is i) (same-itself i))
    ∙ ap (λ b. option_map (λ v. v ∷ []) (f (if b then Some x else item_at (of_list is) (of_list xs) i))) (same-itself i)
    ∙ ap (option_map (λ v. v ∷ [])) (s x e.0))
    ∙ ap (option_map (λ ys. x ∷ ys))
    (items-collected P f s is xs (rest-rises i is r) (omega arith) e.1 G (λ w q. later w q (same i w) refl))
  where
    later : (w : Value) → holds is w ≡ true → (b : Bool) → same i w ≡ b →
        G w ≡ option_map (λ v. v ∷ []) (f (item_at (of_list is) (of_list xs) w))
    later w q true z =
        let a : false ≡ true = sym (never-below-itself i) ∙ ap (below i) (same-equal i w z) ∙ first-below i is r w q in cc
    later w q false z = h w (ap (λ b. b || holds is w) z ∙ q)
        ∙ ap (λ b. option_map (λ v. v ∷ []) (f (if b then Some x else item_at (of_list is) (of_list xs) w))) z

module _ (x : Text) (u : Ty) (t : Ex) (d : Dom) (env : Env) (new : Unused x t) (m : MatrixOver t d env)
    (truths : is_bool (Some u) ≡ true → Each m.items (λ v. IsTruth (Some v))) where
  -- It is the list of the items.
  pub in-order-means : meaning (items_at x d t u) env ≡ Some (list_value m.items)
  in-order-means = ap (option_map list_value)
      (ap (λ o. and_then o (λ vs. collect vs (λ w. option_map (λ w. w ∷ []) (meaning (item_of u t (name_ex x)) (behind x w env))))) m.axis
      ∙ items-collected (λ v. is_bool (Some u) ≡ true → IsTruth (Some v)) (false_where_undefined (is_bool (Some u)))
      (marked x env (is_bool (Some u))) m.indices m.items
      (members-rise (domain_of d env) m.indices m.axis) m.as_many (each-stays (is_bool (Some u)) m.items truths) _
      (λ w q. ap (option_map (λ w. w ∷ [])) (item-behind x u t env (matrix (of_list m.indices) (of_list m.items)) new m.value w)))

  -- Its structures are met where those of the matrix are.
  pub in-order-met : Meets t env → Meets (items_at x d t u) env
  in-order-met k = (m.met, each-of-any (members_in (domain_of d env)) _ (λ v. (meets-behind x v t env new k, (tt, tt))))
