-- An operator on a picked value keeps its meaning where the value is looked up.
use Rattle.std.proofs.Common.{◌≡◌, refl, sym, ap, ◌∙◌, subst, ℕ, zero, suc, Bool, true, false, ◌&&◌, ◌||◌, not, List, [], ◌∷◌, ◌++◌, map, Option, Some, None, option_map, arith}
use Rattle.std.proofs.lemmas.Int.{ints}
use Rattle.std.specs.Prelude.{is_some, ◌+ℤ◌, pos}
use Rattle.ess_semantics.specs.declared.words.Fun.{Fun}
use Rattle.ess_semantics.specs.Lists.{and_then, all_some}
use Rattle.ess_semantics.specs.Values.{Text, Value, number, truth, item, node, items_of}
use Rattle.ess_semantics.specs.Order.{same_text}
use Rattle.ess_semantics.specs.Trees.{Op, word, name_pat, Ex, Exs, name_ex, node_ex, no_exs, more_exs, no_gens, from}
use Rattle.ess_semantics.specs.Operators.{as_truth, yes_no, connective, value_of_op, value_of_node, false_where_undefined, list_value, any_true, sum_of}
use Rattle.ess_semantics.specs.Contexts.{guards}
use Rattle.ess_semantics.specs.Meaning.{Env, meaning, meanings, collect}
use Rattle.ess_semantics.specs.Meets.{Meets, MeetsAll}
use Rattle.ess_semantics.specs.Substitution.{NamesAreExs}
use Rattle.ess_semantics.specs.Kept.{Keeps}
use Rattle.ess_semantics.proofs.Orders.{to_list-of_list}
use Rattle.ess_semantics.proofs.Tests.{and-left, and-right}
use Rattle.ess_rules_laws.specs.Rules.{Unused, IsNumber}
use Rattle.ess_rules_laws.specs.LiteralRules.{nth}
use Rattle.ess_rules_laws.specs.Lookups.{found, Looked, put_nth, is_plain, picking, select, select_whole, FitsNumber, LooksUp, Selects, SelectsWhole}
use Rattle.ess_rules_laws.proofs.RuleAnswers.{AnswerKeeps, fires, when-so, behind, meaning-behind, meets-behind, name-behind, each-in-any, collect-itself}
use Rattle.ess_rules_laws.proofs.Connectives.{any-means}

-- ---- operands behind a new name

-- None of the operands has the name.
abbrev pub UnusedAll : Text → Exs → Type 0
UnusedAll x es = NamesAreExs (λ a. not (same_text x a)) (λ a. true) es

meanings-behind : (x : Text) (v : Value) (es : Exs) (env : Env) → UnusedAll x es → meanings es (behind x v env) ≡ meanings es env
meanings-behind x v no_exs env o = refl
meanings-behind x v (more_exs e es) env o =
    ap (λ z. z ∷ meanings es (behind x v env)) (meaning-behind x v e env o.0) ∙ ap (λ zs. meaning e env ∷ zs) (meanings-behind x v es env o.1)

all-met-behind : (x : Text) (v : Value) (es : Exs) (env : Env) → UnusedAll x es → MeetsAll false es env → MeetsAll false es (behind x v env)
all-met-behind x v no_exs env o m = tt
all-met-behind x v (more_exs e es) env o m = (meets-behind x v e env o.0 m.0, all-met-behind x v es env o.1 m.1)

abbrev meaning-in : Option Ex → Env → Option Value
meaning-in None env = None
meaning-in (Some e) env = meaning e env

-- The name in the place of the k-th operand, whose value it has.
put-means : (x : Text) (v : Value) (es : Exs) (k : ℕ) (t : Ex) (env : Env) → nth es k ≡ Some t → UnusedAll x es → meaning t env ≡ Some v →
    meanings (put_nth es k (name_ex x)) (behind x v env) ≡ meanings es env
put-means x v no_exs k t env q o j = cc
put-means x v (more_exs a es) zero t env q o j = cc
put-means x v (more_exs a es) (suc zero) t env q o j =
    ap (λ z. z ∷ meanings es (behind x v env)) (name-behind x v env ∙ sym (ap (λ z. meaning-in z env) q ∙ j)) ∙ ap (λ zs. meaning a env ∷ zs) (meanings-behind x v es env o.1)
put-means x v (more_exs a es) (suc (suc n)) t env q o j =
    ap (λ z. z ∷ meanings (put_nth es (suc n) (name_ex x)) (behind x v env)) (meaning-behind x v a env o.0)
    ∙ ap (λ zs. meaning a env ∷ zs) (put-means x v es (suc n) t env q o.1 j)

-- Their structures stay met.
pub put-met : (x : Text) (v : Value) (es : Exs) (k : ℕ) (env : Env) → UnusedAll x es → MeetsAll false es env → MeetsAll false (put_nth es k (name_ex x)) (behind x v env)
put-met x v no_exs k env o m = tt
put-met x v (more_exs a es) zero env o m = all-met-behind x v (more_exs a es) env o m
put-met x v (more_exs a es) (suc zero) env o m = (tt, all-met-behind x v es env o.1 m.1)
put-met x v (more_exs a es) (suc (suc n)) env o m = (meets-behind x v a env o.0 m.0, put-met x v es (suc n) env o.1 m.1)

-- ---- an operand without a value

none-behind : (o : Option Value) → and_then o (λ x. option_map (λ xs. x ∷ xs) None) ≡ None
none-behind None = refl
none-behind (Some v) = refl

nth-nowhere : (es : Exs) (k : ℕ) (t : Ex) (env : Env) → nth es k ≡ Some t → meaning t env ≡ None → all_some (meanings es env) ≡ None
nth-nowhere no_exs k t env q j = cc
nth-nowhere (more_exs a es) zero t env q j = cc
nth-nowhere (more_exs a es) (suc zero) t env q j =
    ap (λ z. and_then z (λ x. option_map (λ xs. x ∷ xs) (all_some (meanings es env)))) (ap (λ z. meaning-in z env) q ∙ j)
nth-nowhere (more_exs a es) (suc (suc n)) t env q j =
    ap (λ z. and_then (meaning a env) (λ x. option_map (λ xs. x ∷ xs) z)) (nth-nowhere es (suc n) t env q j) ∙ none-behind (meaning a env)

-- A plain operator has nothing there.
plain-nowhere : (op : Op) (os : List (Option Value)) → not (is_some (connective op)) ≡ true → all_some os ≡ None → value_of_node op os ≡ None
plain-nowhere op os h j = go (connective op) refl h
  where
    go : (c : Option (List Bool → Bool)) → connective op ≡ c → not (is_some c) ≡ true → value_of_node op os ≡ None
    go None q h = ap (λ c. elim c [ Some f ↦ yes_no (f (map as_truth os)) | None ↦ and_then (all_some os) (value_of_op op) ]) q ∙ ap (λ z. and_then z (value_of_op op)) j
    go (Some f) q h = cc

-- An operator that isn't one that guards.
pub unguarded : (b : Bool) → not b ≡ true → b ≡ false
unguarded false h = refl
unguarded true h = cc

-- ---- one item, or none

-- A value that is there as a list, where there is one.
abbrev pub single : Option Value → Option (List Value)
single o = option_map (λ u. u ∷ []) o

or-false : (b : Bool) → b || false ≡ b
or-false true = refl
or-false false = refl

-- A number is the sum of itself.
sum-alone : (o : Option Value) → IsNumber o → option_map (λ xs. number (sum_of xs)) (single o) ≡ o
sum-alone (Some (number n)) h = ap (λ m. Some (number m)) (let e : n +ℤ pos 0 ≡ n = omega (arith, ints) in e)
sum-alone (Some (truth b)) h = absurd h
sum-alone (Some (item t k)) h = absurd h
sum-alone (Some (node k vs)) h = absurd h
sum-alone None h = absurd h

number-found : (o : Option Value) → IsNumber o → single o ≡ Some (found o)
number-found (Some v) h = refl
number-found None h = absurd h

looked-items : (o : Option Value) (F : Value → Option (List Value)) → and_then o (λ s. collect (items_of s) F) ≡ and_then (option_map items_of o) (λ us. collect us F)
looked-items None F = refl
looked-items (Some s) F = refl

-- A list before no others.
pub collect-found : (o : Option (List Value)) → and_then o (λ xs. option_map (λ ys. xs ++ ys) (Some [])) ≡ o
collect-found None = refl
collect-found (Some xs) = ap Some (append-nothing xs)
  where
    append-nothing : (xs : List Value) → xs ++ [] ≡ xs
    append-nothing [] = refl
    append-nothing (x ∷ xs) = ap (λ ys. x ∷ ys) (append-nothing xs)

-- A fold over a lookup folds these items.
module _ (x : Text) (l body : Ex) (env : Env) (xs : List Value)
    (p : and_then (meaning l env) (λ s. collect (items_of s) (λ v. single (meaning body (behind x v env)))) ≡ Some xs) where
  picking-truth : meaning (picking true x l body) env ≡ Some (truth (any_true xs))
  picking-truth = any-means env body (from (name_pat x) l no_gens) xs p

  picking-number : meaning (picking false x l body) env ≡ Some (number (sum_of xs))
  picking-number =
      ap (λ o. false_where_undefined false (value_of_node (word Fun.Sum) (option_map list_value o ∷ []))) p ∙ ap (λ zs. Some (number (sum_of zs))) (to_list-of_list xs)

-- Structures of a pick are met where they are at each value.
picking-met : (b : Bool) (x : Text) (l body : Ex) (env : Env) → Meets l env → ((v : Value) → Meets body (behind x v env)) → Meets (picking b x l body) env
picking-met true x l body env m h = ((m, each-in-any (meaning l env) _ h), tt)
picking-met false x l body env m h = ((m, each-in-any (meaning l env) _ h), tt)

-- ---- an operator on a picked value

module _ (x : Text) (k : ℕ) (l : Ex) (b : Bool) (op : Op) (es : Exs) (env : Env) (t : Ex) (q : nth es k ≡ Some t) (new : UnusedAll x es)
    (plain : is_plain op ≡ true) (looked : Looked t l env) where
  abbrev Old : Bool → Ex
  Old b = node_ex b op es

  abbrev Body : Bool → Ex
  Body b = node_ex b op (put_nth es k (name_ex x))

  at-value : (b : Bool) (v : Value) → meaning t env ≡ Some v → meaning (Body b) (behind x v env) ≡ meaning (Old b) env
  at-value b v j = ap (λ os. false_where_undefined b (value_of_node op os)) (put-means x v es k t env q new j)

  -- Where the operand has no value the tree has none.
  pub at-nothing : meaning t env ≡ None → value_of_node op (meanings es env) ≡ None
  at-nothing j = plain-nowhere op (meanings es env) (and-right (not (guards op)) _ plain) (nth-nowhere es k t env q j)

  -- What is collected over the lookup.
  pub collected : (b : Bool) (o : Option Value) → meaning t env ≡ o →
      and_then (meaning l env) (λ s. collect (items_of s) (λ v. single (meaning (Body b) (behind x v env)))) ≡ collect (found o) (λ v. single (meaning (Body b) (behind x v env)))
  collected b o j = looked-items (meaning l env) (λ v. single (meaning (Body b) (behind x v env)))
      ∙ ap (λ z. and_then z (λ us. collect us (λ v. single (meaning (Body b) (behind x v env))))) (looked.items ∙ ap (λ z. Some (found z)) j)

  -- Over one value.
  pub at-one : (b : Bool) (v : Value) → meaning t env ≡ Some v →
      and_then (meaning l env) (λ s. collect (items_of s) (λ v. single (meaning (Body b) (behind x v env)))) ≡ single (meaning (Old b) env)
  at-one b v j = collected b (Some v) j ∙ collect-found (single (meaning (Body b) (behind x v env))) ∙ ap single (at-value b v j)

  truth-picked : meaning (Old true) env ≡ meaning (picking true x l (Body true)) env
  truth-picked = go (meaning t env) refl
    where
      go : (o : Option Value) → meaning t env ≡ o → meaning (Old true) env ≡ meaning (picking true x l (Body true)) env
      go None j = ap (false_where_undefined true) (at-nothing j) ∙ sym (picking-truth x l (Body true) env [] (collected true None j))
      go (Some v) j = ap (λ c. Some (truth c)) (sym (or-false (as_truth (value_of_node op (meanings es env)))))
          ∙ sym (picking-truth x l (Body true) env (truth (as_truth (value_of_node op (meanings es env))) ∷ []) (at-one true v j))

  number-picked : IsNumber (meaning (Old false) env) → meaning (Old false) env ≡ meaning (picking false x l (Body false)) env
  number-picked h = go (meaning t env) refl
    where
      go : (o : Option Value) → meaning t env ≡ o → meaning (Old false) env ≡ meaning (picking false x l (Body false)) env
      go None j = absurd (subst IsNumber (at-nothing j) h)
      go (Some v) j = sym (sum-alone (meaning (Old false) env) h) ∙ ap (option_map (λ xs. number (sum_of xs))) (number-found (meaning (Old false) env) h)
          ∙ sym (picking-number x l (Body false) env (found (meaning (Old false) env)) (at-one false v j ∙ number-found (meaning (Old false) env) h))

  picked-means : (b : Bool) → FitsNumber b (meaning (Old b) env) → meaning (Old b) env ≡ meaning (picking b x l (Body b)) env
  picked-means true h = truth-picked
  picked-means false h = number-picked h

  picked-keeps : FitsNumber b (meaning (Old b) env) → Keeps (Old b) (picking b x l (Body b)) env
  picked-keeps h m = (
    picked-means b h,
    let g = unguarded (guards op) (and-left _ _ plain) in
        picking-met b x l (Body b) env looked.met
        (λ v. subst (λ z. MeetsAll z (put_nth es k (name_ex x)) (behind x v env)) (sym g) (put-met x v es k env new (subst (λ z. MeetsAll z es env) g m))),
  )

select-answer : (x : Text) (k : ℕ) (l e : Ex) → Unused x e → (env : Env) → Selects k l e env → AnswerKeeps (select x k l e) e env
select-answer x k l (node_ex b op es) new env s =
    when-so (is_plain op && is_some (nth es k)) _ (node_ex b op es) env (λ c. go (nth es k) refl s.0 (and-left _ _ c))
  where
    go : (o : Option Ex) → nth es k ≡ o → LooksUp o l env → is_plain op ≡ true → Keeps (node_ex b op es) (picking b x l (node_ex b op (put_nth es k (name_ex x)))) env
    go (Some t) q h p = picked-keeps x k l b op es env t q new p h s.1
    go None q h p = absurd h
select-answer x k l _ new env s = tt

-- An operator on a picked value.
pub select-keeps : (x : Text) (k : ℕ) (l e f : Ex) → select x k l e ≡ Some f → Unused x e → (env : Env) → Selects k l e env → Keeps e f env
select-keeps x k l e f q new env s = fires (select x k l e) e f env (select-answer x k l e new env s) q

-- ---- a picked scalar by itself

module _ (x : Text) (l : Ex) (op : Op) (es : Exs) (env : Env) (looked : Looked (node_ex false op es) l env) where
  abbrev value : Option Value
  value = value_of_node op (meanings es env)

  all-items : and_then (meaning l env) (λ s. collect (items_of s) (λ v. single (meaning (name_ex x) (behind x v env)))) ≡ Some (found value)
  all-items = looked-items (meaning l env) (λ v. single (meaning (name_ex x) (behind x v env)))
      ∙ ap (λ z. and_then z (λ us. collect us (λ v. single (meaning (name_ex x) (behind x v env))))) looked.items ∙ collect-itself x env (found value)

  truth-found : (o : Option Value) → as_truth o ≡ any_true (found o)
  truth-found None = refl
  truth-found (Some (truth b)) = sym (or-false b)
  truth-found (Some (number n)) = refl
  truth-found (Some (item t k)) = refl
  truth-found (Some (node k vs)) = refl

  number-alone : (o : Option Value) → IsNumber o → o ≡ Some (number (sum_of (found o)))
  number-alone o h = sym (sum-alone o h) ∙ ap (option_map (λ xs. number (sum_of xs))) (number-found o h)

  whole-means : (b : Bool) → FitsNumber b (meaning (node_ex b op es) env) → meaning (node_ex b op es) env ≡ meaning (picking b x l (name_ex x)) env
  whole-means true h = ap (λ c. Some (truth c)) (truth-found value) ∙ sym (picking-truth x l (name_ex x) env (found value) all-items)
  whole-means false h = number-alone value h ∙ sym (picking-number x l (name_ex x) env (found value) all-items)

whole-answer : (x : Text) (l e : Ex) (env : Env) → SelectsWhole l e env → AnswerKeeps (select_whole x l e) e env
whole-answer x l (node_ex b op es) env s = λ m. (whole-means x l op es env s.0 b s.1, picking-met b x l (name_ex x) env s.0.met (λ v. tt))
whole-answer x l _ env s = tt

-- A picked scalar by itself.
pub select_whole-keeps : (x : Text) (l e f : Ex) → select_whole x l e ≡ Some f → (env : Env) → SelectsWhole l e env → Keeps e f env
select_whole-keeps x l e f q env s = fires (select_whole x l e) e f env (whole-answer x l e env s) q
