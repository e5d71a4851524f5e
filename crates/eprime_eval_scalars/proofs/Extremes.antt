-- The least and the greatest of one more item.
use Rattle.std.proofs.lemmas.List.{at_drop_more}
use Rattle.eprime_eval_scalars.specs.declared.scalars.Scalar.{Scalar}
use Rattle.eprime_eval_scalars.specs.ScalarViews.{pure_scalar}
use Rattle.std.proofs.Common.{◌≡◌, refl, ap, sym, ◌∙◌, ℕ, zero, suc, ◌+◌, ◌-◌, ◌<◌, length, get_or, slice_index_or, arith, drop, map, if◌then◌else◌, List, [], ◌∷◌, Option, Some, option_map}
use Rattle.ess_semantics.specs.Values.{Value}
use Rattle.ess_semantics.specs.Order.{below}
use Rattle.ess_semantics.specs.Operators.{least, greatest}
use Rattle.eprime_eval_scalars.specs.Folds.{lower_of, higher_of}

some_least : (x : Value) (xs : List Value) → (m : Value) × (least (x ∷ xs) ≡ Some m)
some_least x [] = (x, refl)
some_least x (y ∷ ys) =
    let r = some_least y ys in
    ((if below r.0 x then r.0 else x), ap (option_map (λ m. if below m x then m else x)) r.1)

pub least_more : (x : Value) (xs : List Value) → least (x ∷ xs) ≡ Some (lower_of (least xs) x)
least_more x [] = refl
least_more x (y ∷ ys) =
    let r = some_least y ys in
    ap (option_map (λ m. if below m x then m else x)) r.1 ∙ ap (λ o. Some (lower_of o x)) (sym r.1)

some_greatest : (x : Value) (xs : List Value) → (m : Value) × (greatest (x ∷ xs) ≡ Some m)
some_greatest x [] = (x, refl)
some_greatest x (y ∷ ys) =
    let r = some_greatest y ys in
    ((if below x r.0 then r.0 else x), ap (option_map (λ m. if below x m then m else x)) r.1)

pub greatest_more : (x : Value) (xs : List Value) → greatest (x ∷ xs) ≡ Some (higher_of (greatest xs) x)
greatest_more x [] = refl
greatest_more x (y ∷ ys) =
    let r = some_greatest y ys in
    ap (option_map (λ m. if below x m then m else x)) r.1 ∙ ap (λ o. Some (higher_of o x)) (sym r.1)

-- ---- the loops, from the last item to the first

pub least_step : (xs : List Scalar) (i : ℕ) (x : Scalar) (o : Option Value) (m : Value) → i < length xs → x ≡ get_or xs i x
    → o ≡ least (map pure_scalar (drop (i + 1) xs))
    → m ≡ lower_of o (pure_scalar x) → Some m ≡ least (map pure_scalar (drop i xs))
least_step xs i x o m h is d e =
    ap Some e ∙ ap (λ p. Some (lower_of p (pure_scalar x))) d
    ∙ ap (λ z. Some (lower_of (least (map pure_scalar (drop (i + 1) xs))) (pure_scalar z))) is
    ∙ sym (at_drop_more (λ l. least (map pure_scalar l)) xs i x h ∙ least_more (pure_scalar (get_or xs i x)) (map pure_scalar (drop (i + 1) xs)))

pub greatest_step : (xs : List Scalar) (i : ℕ) (x : Scalar) (o : Option Value) (m : Value) → i < length xs → x ≡ get_or xs i x
    → o ≡ greatest (map pure_scalar (drop (i + 1) xs))
    → m ≡ higher_of o (pure_scalar x) → Some m ≡ greatest (map pure_scalar (drop i xs))
greatest_step xs i x o m h is d e =
    ap Some e ∙ ap (λ p. Some (higher_of p (pure_scalar x))) d
    ∙ ap (λ z. Some (higher_of (greatest (map pure_scalar (drop (i + 1) xs))) (pure_scalar z))) is
    ∙ sym (at_drop_more (λ l. greatest (map pure_scalar l)) xs i x h
    ∙ greatest_more (pure_scalar (get_or xs i x)) (map pure_scalar (drop (i + 1) xs)))

pub ruleset extremes = (least_step, greatest_step)

-- ---- the loops, by the number of items that were looked at

at-place : (xs : List Scalar) (i : ℕ) (d : Scalar) → i < length xs → slice_index_or xs i d ≡ get_or xs i (slice_index_or xs i d)
at-place [] i d h = absurd (omega arith)
at-place (x ∷ xs) zero d h = refl
at-place (x ∷ xs) (suc i) d h = at-place xs i d (omega arith)

pub least_loop : (xs : List Scalar) (k : ℕ) (d : Scalar) (o : Option Value) (m : Value) → k < length xs
    → o ≡ least (map pure_scalar (drop (length xs - k) xs)) → m ≡ lower_of o (pure_scalar (slice_index_or xs (length xs - 1 - k) d))
    → Some m ≡ least (map pure_scalar (drop (length xs - (k + 1)) xs))
least_loop xs k d o m h e f =
    let i : ℕ = length xs - 1 - k in
    let l : i < length xs = omega arith in
    let p : length xs - k ≡ i + 1 = omega arith in
    let q : i ≡ length xs - (k + 1) = omega arith in
    least_step xs i (slice_index_or xs i d) o m l (at-place xs i d l) (e ∙ ap (λ j. least (map pure_scalar (drop j xs))) p) f
    ∙ ap (λ j. least (map pure_scalar (drop j xs))) q

pub greatest_loop : (xs : List Scalar) (k : ℕ) (d : Scalar) (o : Option Value) (m : Value) → k < length xs
    → o ≡ greatest (map pure_scalar (drop (length xs - k) xs)) → m ≡ higher_of o (pure_scalar (slice_index_or xs (length xs - 1 - k) d))
    → Some m ≡ greatest (map pure_scalar (drop (length xs - (k + 1)) xs))
greatest_loop xs k d o m h e f =
    let i : ℕ = length xs - 1 - k in
    let l : i < length xs = omega arith in
    let p : length xs - k ≡ i + 1 = omega arith in
    let q : i ≡ length xs - (k + 1) = omega arith in
    greatest_step xs i (slice_index_or xs i d) o m l (at-place xs i d l) (e ∙ ap (λ j. greatest (map pure_scalar (drop j xs))) p) f
    ∙ ap (λ j. greatest (map pure_scalar (drop j xs))) q
