-- Abstract operators as comprehensions, at any representation: `|v|` as a sum of ones, and `e in v` as a disjunction of
-- equations.
use Rattle.std.proofs.Common.{◌≡◌, refl, sym, ap, ◌∙◌, suc, ◌+◌, Bool, true, false, ◌||◌, List, [], ◌∷◌, length, pos, Option, Some, None, option_map, arith}
use Rattle.std.specs.Prelude.{◌+ℤ◌}
use Rattle.std.specs.List.{list_any}
use Rattle.ess_semantics.specs.declared.words.Op1.{Op1}
use Rattle.ess_semantics.specs.declared.words.Op2.{Op2}
use Rattle.ess_semantics.specs.declared.words.Fun.{Fun}
use Rattle.ess_semantics.specs.Lists.{and_then}
use Rattle.ess_semantics.specs.Values.{Text, Kind, Value, number, truth, node, Values, to_list, items_of}
use Rattle.ess_semantics.specs.Order.{same}
use Rattle.ess_semantics.specs.Collections.{holds}
use Rattle.ess_semantics.specs.Names.{Names}
use Rattle.ess_semantics.specs.Trees.{unary, binary, word, name_pat, Ex, number_ex, name_ex, comp_ex, ex1, ex2, fun1, no_gens, from}
use Rattle.ess_semantics.specs.Operators.{sum_of, any_true, as_truth, list_value, value_of_node, false_where_undefined}
use Rattle.ess_semantics.specs.Tables.{Table}
use Rattle.ess_semantics.specs.Meaning.{Env, TypeEntry, meaning, collect}
use Rattle.ess_semantics.specs.Contexts.{Each}
use Rattle.ess_semantics.specs.Substitution.{NamesAre}
use Rattle.ess_semantics.proofs.Orders.{to_list-of_list}
use Rattle.ess_rules_laws.proofs.Simulation.{Vals, E, any, but}
use Rattle.ess_rules_laws.proofs.Agreement.{look-itself, agree-but, meaning-agree}
use Rattle.ess_rules_laws.proofs.Connectives.{bits, collect-bits, any-bits}

-- ---- the number of items

-- `|v|` as a sum of ones over the items of v; x occurs nowhere else.
abbrev pub size_as_sum : Text → Ex → Ex
size_as_sum x v = fun1 false Fun.Sum (comp_ex (number_ex (pos 1)) (from (name_pat x) v no_gens))

abbrev ones : List Value → List Value
ones [] = []
ones (x ∷ xs) = number (pos 1) ∷ ones xs

collect-ones : (xs : List Value) → collect xs (λ v. Some (number (pos 1) ∷ [])) ≡ Some (ones xs)
collect-ones [] = refl
collect-ones (x ∷ xs) = ap (λ o. option_map (λ ys. number (pos 1) ∷ ys) o) (collect-ones xs)

sum-ones : (xs : List Value) → sum_of (ones xs) ≡ pos (length xs)
sum-ones [] = refl
sum-ones (x ∷ xs) = ap (λ m. pos 1 +ℤ m) (sum-ones xs) ∙ (let e : 1 + length xs ≡ suc (length xs) = omega arith in ap pos e)

-- The sum is the size of a set, multiset, function, relation or partition, whose items are its parts, and without a value
-- where v is.
pub size-is-sum : (x : Text) (v : Ex) (env : Env) (k : Kind) (o : Option Values) → ((vs : Values) → items_of (node k vs) ≡ to_list vs) → meaning v env ≡ option_map (node k) o →
    meaning (size_as_sum x v) env ≡ meaning (ex1 false Op1.Bar v) env
size-is-sum x v env k o parts e =
    ap (λ w. false_where_undefined false (value_of_node (word Fun.Sum) (option_map list_value (and_then w (λ s. collect (items_of s) (λ u. Some (number (pos 1) ∷ [])))) ∷ []))) e
    ∙ go o
    ∙ ap (λ w. false_where_undefined false (value_of_node (unary Op1.Bar) (w ∷ []))) (sym e)
  where
    go : (o : Option Values) → false_where_undefined false (value_of_node (word Fun.Sum) (option_map list_value (and_then (option_map (node k) o) (λ s. collect (items_of s) (λ u. Some (number (pos 1) ∷ [])))) ∷ []))
        ≡ false_where_undefined false (value_of_node (unary Op1.Bar) (option_map (node k) o ∷ []))
    go None = refl
    go (Some vs) =
        ap (λ l. false_where_undefined false (value_of_node (word Fun.Sum) (option_map list_value (collect l (λ u. Some (number (pos 1) ∷ []))) ∷ []))) (parts vs)
        ∙ ap (λ c. false_where_undefined false (value_of_node (word Fun.Sum) (option_map list_value c ∷ []))) (collect-ones (to_list vs))
        ∙ ap (λ l. Some (number (sum_of l))) (to_list-of_list (ones (to_list vs))) ∙ ap (λ n. Some (number n)) (sum-ones (to_list vs))

-- ---- membership

-- `e in v` as a disjunction of equations with the items of v; x occurs nowhere else.
abbrev pub in_as_or : Text → Ex → Ex → Ex
in_as_or x e v = fun1 true Fun.Or (comp_ex (ex2 true Op2.Eq (name_ex x) e) (from (name_pat x) v no_gens))

-- Some item is equal to a value where it is one of them.
pub any-holds : (xs : List Value) (w : Value) → list_any (λ u. same u w) xs ≡ holds xs w
any-holds [] w = refl
any-holds (x ∷ xs) w = ap (λ b. same x w || b) (any-holds xs w)

-- No item is ever.
pub any-never : (xs : List Value) → list_any (λ u. false) xs ≡ false
any-never [] = refl
any-never (x ∷ xs) = any-never xs

each-always : (xs : List Value) (P : Value → Type 0) → ((v : Value) → P v) → Each xs P
each-always [] P f = tt
each-always (x ∷ xs) P f = (f x, each-always xs P f)

module _ (pl : Bool) (ts : List TypeEntry) (cs : Names Table) (g : Vals) where
  -- The disjunction is true exactly where e is in v; where e or v has no value it is false, as `e in v` is.
  pub in-is-or : (x : Text) (e v : Ex) → NamesAre (but x) any e → meaning (in_as_or x e v) (E pl ts cs g) ≡ meaning (ex2 true Op2.Member e v) (E pl ts cs g)
  in-is-or x e v fresh = go (meaning v (E pl ts cs g)) (meaning e (E pl ts cs g)) refl
    where
      F : Value → Option (List Value)
      F u = option_map (λ w. w ∷ []) (meaning (ex2 true Op2.Eq (name_ex x) e) (E pl ts cs ((x, u) ∷ g)))

      item-is : (u : Value) (p : Option Value) → meaning e (E pl ts cs g) ≡ p → F u ≡ Some (truth (as_truth (value_of_node (binary Op2.Eq) (Some u ∷ p ∷ []))) ∷ [])
      item-is u p q =
          ap (λ o. option_map (λ w. w ∷ []) (false_where_undefined true (value_of_node (binary Op2.Eq) (o ∷ meaning e (E pl ts cs ((x, u) ∷ g)) ∷ [])))) (look-itself x u g)
          ∙ ap (λ w. option_map (λ w. w ∷ []) (false_where_undefined true (value_of_node (binary Op2.Eq) (Some u ∷ w ∷ [])))) (meaning-agree pl ts cs (but x) e g ((x, u) ∷ g) fresh (agree-but x u g) ∙ q)

      tested : (s : Value) (f : Value → Bool) → ((u : Value) → F u ≡ Some (truth (f u) ∷ [])) →
          false_where_undefined true (value_of_node (word Fun.Or) (option_map list_value (collect (items_of s) F) ∷ [])) ≡ Some (truth (list_any f (items_of s)))
      tested s f h =
          ap (λ c. false_where_undefined true (value_of_node (word Fun.Or) (option_map list_value c ∷ []))) (collect-bits (items_of s) F f (each-always (items_of s) _ h))
          ∙ ap (λ l. Some (truth (any_true l))) (to_list-of_list (bits f (items_of s)))
          ∙ ap (λ b. Some (truth b)) (any-bits f (items_of s))

      go : (o p : Option Value) → meaning e (E pl ts cs g) ≡ p → false_where_undefined true (value_of_node (word Fun.Or) (option_map list_value (and_then o (λ s. collect (items_of s) F)) ∷ []))
          ≡ false_where_undefined true (value_of_node (binary Op2.Member) (p ∷ o ∷ []))
      go None None q = refl
      go None (Some w) q = refl
      go (Some s) None q = tested s (λ u. false) (λ u. item-is u None q) ∙ ap (λ b. Some (truth b)) (any-never (items_of s))
      go (Some s) (Some w) q = tested s (λ u. same u w) (λ u. item-is u (Some w) q) ∙ ap (λ b. Some (truth b)) (any-holds (items_of s) w)
