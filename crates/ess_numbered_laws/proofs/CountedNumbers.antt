-- The numbers of the items of a list: what is collected over `x : int(1..n), x <= sum([1 | z <- t])`.
use Rattle.std.proofs.Common.{◌≡◌, refl, sym, ap, ◌∙◌, ℕ, zero, suc, ◌+◌, ◌<◌, ◌≤◌, true, false, not, List, [], ◌∷◌, ◌++◌, map, length, pos, ◌<ℤ◌, ◌≤ℤ◌, Option, Some, option_map, arith}
use Rattle.std.proofs.lemmas.Int.{ints}
use Rattle.std.specs.Prelude.{Bool, ◌-◌}
use Rattle.std.specs.List.{list_all}
use Rattle.std.specs.Ordering.{is_lt}
use Rattle.std.specs.Cmp.{int_cmp_is}
use Rattle.std.specs.declared.cmp.Ordering.TheVariants.{Less}
use Rattle.ess_semantics.specs.declared.words.Op2.{Op2}
use Rattle.ess_semantics.specs.Lists.{and_then}
use Rattle.ess_semantics.specs.Values.{Text, Value, number, truth, items_of}
use Rattle.ess_semantics.specs.Order.{below}
use Rattle.ess_semantics.specs.Numbers.{run_from, one_to}
use Rattle.ess_semantics.specs.Trees.{name_pat, Ex, name_ex, no_gens, from}
use Rattle.ess_semantics.specs.Types.{Ty, is_bool}
use Rattle.ess_semantics.specs.Operators.{whole, at_index, false_where_undefined}
use Rattle.ess_semantics.specs.Meaning.{Env, meaning, collect, where_true, items_under}
use Rattle.ess_semantics.specs.Meets.{Meets, MeetsGens}
use Rattle.ess_guard_laws.proofs.IndexRows.{counted-under, item-means, not-above}
use Rattle.ess_rules_laws.specs.Rules.{Unused}
use Rattle.ess_rules_laws.specs.MatrixRules.{item_of}
use Rattle.ess_rules_laws.proofs.Bindings.{collect-each}
use Rattle.ess_rules_laws.proofs.SlotNumbers.{slots-members}
use Rattle.ess_rules_laws.proofs.Connectives.{binary-means, all-means, bits, collect-bits, all-bits}
use Rattle.ess_rules_laws.proofs.RuleAnswers.{behind, each-any, each-in-any, meaning-behind, meets-behind, name-behind, collect-itself}
use Rattle.ess_rules_laws.proofs.MatrixRules.{each-of-any}
use Rattle.ess_numbered_laws.specs.CountedSources.{items_counted, is_number_of, numbers_of}
use Rattle.ess_numbered_laws.specs.EqualByNumber.{at_each_number}
use Rattle.ess_numbered_laws.specs.Bounds.{IsBound}

-- ---- how many items there are

-- `sum([1 | z <- t])` is how many items t has.
pub items_counted-means : (z : Text) (t : Ex) (env : Env) (v : Value) → meaning t env ≡ Some v
    → meaning (items_counted z t) env ≡ whole (pos (length (items_of v)))
items_counted-means z t env v q = counted-under (name_ex z) (from (name_pat z) t no_gens) env (items_of v)
    (ap (λ o. and_then o (λ s. collect (items_of s) (λ u. option_map (λ w. w ∷ []) (meaning (name_ex z) (behind z u env))))) q
    ∙ collect-itself z env (items_of v))

-- Its structures are met where those of t are.
pub items_counted-met : (z : Text) (t : Ex) (env : Env) → Meets t env → Meets (items_counted z t) env
items_counted-met z t env m = ((m, each-in-any (meaning t env) _ (λ v. tt)), tt)

-- ---- an item at a number

-- The item at the new name.
pub item-behind : (x : Text) (u : Ty) (t : Ex) (env : Env) (v : Value) → Unused x t → meaning t env ≡ Some v → (w : Value)
    → meaning (item_of u t (name_ex x)) (behind x w env) ≡ false_where_undefined (is_bool (Some u)) (at_index v w)
item-behind x u t env v new q w = ap (false_where_undefined (is_bool (Some u)))
    (item-means t (name_ex x) (behind x w env) v w (meaning-behind x w t env new ∙ q) (name-behind x w env))

-- ---- numbers up to one of them

-- Whether the value is k or below.
abbrev pub up_to : ℕ → Value → Bool
up_to k w = not (below (number (pos k)) w)

past : (k a : ℕ) → k < a → up_to k (number (pos a)) ≡ false
past k a h = ap (λ o. not (is_lt o)) (sym (int_cmp_is (pos k) (pos a) Less (let e : pos k <ℤ pos a = omega (arith, ints) in e)))

within : (k a : ℕ) → a ≤ k → up_to k (number (pos a)) ≡ true
within k a h = not-above (pos a) (pos k) (let e : pos a ≤ℤ pos k = omega (arith, ints) in e)

module _ (k : ℕ) (G : Value → Option (List Value)) where
  abbrev Up : Value → Option (List Value)
  Up w = where_true (Some (truth (up_to k w))) (λ u. G w)

  none-past : (r a : ℕ) → k < a → collect (map number (run_from a r)) Up ≡ Some []
  none-past zero a h = refl
  none-past (suc r) a h =
      ap (λ b. and_then (where_true (Some (truth b)) (λ u. G (number (pos a))))
      (λ xs. option_map (λ ys. xs ++ ys) (collect (map number (run_from (suc a) r)) Up))) (past k a h)
      ∙ ap (option_map (λ ys. ys)) (none-past r (suc a) (omega arith))

  -- Of numbers from a on only those up to k count.
  those-within : (p r m a : ℕ) → m ≡ p + r → a + p ≡ suc k
      → collect (map number (run_from a m)) Up ≡ collect (map number (run_from a p)) G
  those-within zero r m a e h = none-past m a (omega arith)
  those-within (suc p) r zero a e h = absurd (let z : zero ≡ suc p + r = e in omega arith)
  those-within (suc p) r (suc m) a e h =
      ap (λ b. and_then (where_true (Some (truth b)) (λ u. G (number (pos a))))
      (λ xs. option_map (λ ys. xs ++ ys) (collect (map number (run_from (suc a) m)) Up))) (within k a (omega arith))
      ∙ ap (λ o. and_then (G (number (pos a))) (λ xs. option_map (λ ys. xs ++ ys) o))
      (those-within p r m (suc a) (omega arith) (omega arith))

-- ---- over the numbers of the items

module _ (x z : Text) (n t : Ex) (env : Env) (new : Unused x t) (v : Value) (q : meaning t env ≡ Some v) (b : IsBound n t env) where
  condition-means : (w : Value) → meaning (is_number_of x z t) (behind x w env) ≡ Some (truth (up_to (length (items_of v)) w))
  condition-means w = binary-means (behind x w env) true Op2.Le (name_ex x) (items_counted z t) w (number (pos (length (items_of v))))
      (name-behind x w env) (items_counted-means z t (behind x w env) v (meaning-behind x w t env new ∙ q))

  -- What is answered at the number of each item is collected.
  pub numbers-collect : (K : Env → Option (List Value))
      → items_under (numbers_of x z n t no_gens) env K ≡ collect (map number (one_to (length (items_of v)))) (λ w. K (behind x w env))
  numbers-collect K =
      ap (λ o. and_then o (λ ws. collect ws (λ w. where_true (meaning (is_number_of x z t) (behind x w env)) (λ u. K (behind x w env)))))
      (slots-members n env b.number b.value)
      ∙ collect-each (map number (one_to b.number)) _ _ (each-any (map number (one_to b.number)) _
      (λ w. ap (λ o. where_true o (λ u. K (behind x w env))) (condition-means w)))
      ∙ those-within (length (items_of v)) (λ w. K (behind x w env)) (length (items_of v)) (b.number - length (items_of v)) b.number 1
      (let e = b.enough v q in omega (arith, e)) (omega arith)

  -- That a body holds at each of these numbers.
  pub each-number : (body : Ex) (f : Value → Bool) → ((w : Value) → meaning body (behind x w env) ≡ Some (truth (f w)))
      → meaning (at_each_number x z n t body) env ≡ Some (truth (list_all f (map number (one_to (length (items_of v))))))
  each-number body f means = let ws = map number (one_to (length (items_of v))) in
      all-means env body (numbers_of x z n t no_gens) (bits f ws) (numbers-collect (λ here. option_map (λ u. u ∷ []) (meaning body here))
      ∙ collect-bits ws _ f (each-any ws _ (λ w. ap (option_map (λ u. u ∷ [])) (means w))))
      ∙ ap (λ b. Some (truth b)) (all-bits f ws)

  -- Structures are met where those at any number are.
  pub numbers-met : (P : Env → Type 0) → Meets t env → ((w : Value) → P (behind x w env)) → MeetsGens (numbers_of x z n t no_gens) env P
  numbers-met P m f = (
    (tt, (b.met, tt)),
    each-of-any _ _ (λ w. ((tt, (items_counted-met z t (behind x w env) (meets-behind x w t env new m), tt)), λ h. f w)),
  )
