-- The least and the greatest of one more item.
use Rattle.std.proofs.lemmas.List.{at_drop_more}
use Rattle.ess_core.specs.declared.values.Val.{Val}
use Rattle.ess_core.specs.ValueViews.{pure_val}
use Rattle.std.proofs.Common.{◌≡◌, refl, ap, sym, ◌∙◌, ℕ, ◌+◌, ◌<◌, length, get_or, drop, map, if◌then◌else◌, List, [], ◌∷◌, Option, Some, option_map}
use Rattle.ess_semantics.specs.Values.{Value}
use Rattle.ess_semantics.specs.Order.{below}
use Rattle.ess_semantics.specs.Operators.{least, greatest}
use Rattle.ess_eval_operators.specs.Extremes.{lower_of, higher_of}

some_least : (x : Value) (xs : List Value) → (m : Value) × (least (x ∷ xs) ≡ Some m)
some_least x [] = (x, refl)
some_least x (y ∷ ys) =
    let r = some_least y ys in
    ((if below r.0 x then r.0 else x), ap (option_map (λ m. if below m x then m else x)) r.1)

pub least_more : (x : Value) (xs : List Value) → least (x ∷ xs) ≡ Some (lower_of (least xs) x)
least_more x [] = refl
least_more x (y ∷ ys) =
    let r = some_least y ys in
    ap (option_map (λ m. if below m x then m else x)) r.1 ∙ ap (λ o. Some (lower_of o x)) (sym r.1)

some_greatest : (x : Value) (xs : List Value) → (m : Value) × (greatest (x ∷ xs) ≡ Some m)
some_greatest x [] = (x, refl)
some_greatest x (y ∷ ys) =
    let r = some_greatest y ys in
    ((if below x r.0 then r.0 else x), ap (option_map (λ m. if below x m then m else x)) r.1)

pub greatest_more : (x : Value) (xs : List Value) → greatest (x ∷ xs) ≡ Some (higher_of (greatest xs) x)
greatest_more x [] = refl
greatest_more x (y ∷ ys) =
    let r = some_greatest y ys in
    ap (option_map (λ m. if below x m then m else x)) r.1 ∙ ap (λ o. Some (higher_of o x)) (sym r.1)

-- ---- the loops, from the last item to the first

pub least_step : (xs : List Val) (i : ℕ) (x : Val) (o : Option Value) (m : Value) → i < length xs → x ≡ get_or xs i x
    → o ≡ least (map pure_val (drop (i + 1) xs))
    → m ≡ lower_of o (pure_val x) → Some m ≡ least (map pure_val (drop i xs))
least_step xs i x o m h is d e =
    ap Some e ∙ ap (λ p. Some (lower_of p (pure_val x))) d
    ∙ ap (λ z. Some (lower_of (least (map pure_val (drop (i + 1) xs))) (pure_val z))) is
    ∙ sym (at_drop_more (λ l. least (map pure_val l)) xs i x h ∙ least_more (pure_val (get_or xs i x)) (map pure_val (drop (i + 1) xs)))

pub greatest_step : (xs : List Val) (i : ℕ) (x : Val) (o : Option Value) (m : Value) → i < length xs → x ≡ get_or xs i x
    → o ≡ greatest (map pure_val (drop (i + 1) xs))
    → m ≡ higher_of o (pure_val x) → Some m ≡ greatest (map pure_val (drop i xs))
greatest_step xs i x o m h is d e =
    ap Some e ∙ ap (λ p. Some (higher_of p (pure_val x))) d
    ∙ ap (λ z. Some (higher_of (greatest (map pure_val (drop (i + 1) xs))) (pure_val z))) is
    ∙ sym (at_drop_more (λ l. greatest (map pure_val l)) xs i x h
    ∙ greatest_more (pure_val (get_or xs i x)) (map pure_val (drop (i + 1) xs)))

pub ruleset extremes = (least_step, greatest_step)
