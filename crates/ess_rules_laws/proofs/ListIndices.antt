-- A list has the index domain from 1 to the number of its items.
use Rattle.std.proofs.Common.{◌≡◌, refl, sym, ap, ◌∙◌, ℕ, suc, true, false, List, [], ◌∷◌, map, length, pos, Option, Some, None, option_map}
use Rattle.std.specs.Prelude.{IsTrue, is_some}
use Rattle.ess_semantics.specs.Lists.{and_then, all_some}
use Rattle.ess_semantics.specs.Values.{Value, number, items_of}
use Rattle.ess_semantics.specs.Trees.{matrix_literal, Ex, node_ex, comp_ex}
use Rattle.ess_semantics.specs.Numbers.{run_from}
use Rattle.ess_semantics.specs.Operators.{numbers_from, list_value}
use Rattle.ess_semantics.specs.Meaning.{Env, meaning, meanings, items_under}
use Rattle.ess_semantics.specs.Meets.{Meets}
use Rattle.ess_semantics.proofs.Orders.{to_list-of_list}
use Rattle.ess_rules_laws.specs.FoldRules.{is_laid_open}
use Rattle.ess_rules_laws.specs.PartLookups.{indices_of, IndexedBy}
use Rattle.ess_rules_laws.specs.SlotListings.{slots_dom}
use Rattle.ess_rules_laws.specs.MatrixRules.{CountsItems}
use Rattle.ess_rules_laws.proofs.SlotNumbers.{slots-members}

numbers-run : (k : ℕ) (xs : List Value) → numbers_from k xs ≡ map number (run_from k (length xs))
numbers-run k [] = refl
numbers-run k (x ∷ xs) = ap (λ l. number (pos k) ∷ l) (numbers-run (suc k) xs)

-- The items of a list that is there.
made-list : (l : Ex) (env : Env) → is_laid_open l ≡ true → is_some (meaning l env) ≡ true →
    (xs : List Value) × (meaning l env ≡ Some (list_value xs))
made-list (comp_ex e gs) env q t = go (items_under gs env (λ here. option_map (λ v. v ∷ []) (meaning e here))) t
  where
    go : (o : Option (List Value)) → is_some (option_map list_value o) ≡ true →
        (xs : List Value) × (option_map list_value o ≡ Some (list_value xs))
    go None t = cc
    go (Some xs) t = (xs, refl)
made-list (node_ex false matrix_literal es) env q t = go (all_some (meanings es env)) t
  where
    go : (o : Option (List Value)) → is_some (and_then o (λ xs. Some (list_value xs))) ≡ true →
        (xs : List Value) × (and_then o (λ xs. Some (list_value xs)) ≡ Some (list_value xs))
    go None t = cc
    go (Some xs) t = (xs, refl)
made-list _ env q t = cc

-- It is indexed by the numbers of its items.
pub list-indexed : (n l : Ex) (env : Env) → is_laid_open l ≡ true → IsTrue (is_some (meaning l env)) → CountsItems n l env → Meets n env →
    IndexedBy l (slots_dom n) env
list-indexed n l env q t c m =
    let r = made-list l env q t in
    let k : meaning n env ≡ Some (number (pos (length r.0))) =
    c ∙ ap (option_map (λ v. number (pos (length (items_of v))))) r.1
    ∙ ap (λ us. Some (number (pos (length us)))) (to_list-of_list r.0) in record {
      indices = ap (option_map indices_of) r.1 ∙ ap Some (to_list-of_list (numbers_from 1 r.0) ∙ numbers-run 1 r.0)
          ∙ sym (slots-members n env (length r.0) k);
      met = (tt, (m, tt));
    }
