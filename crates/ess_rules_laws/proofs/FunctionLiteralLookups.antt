-- Results of function literals are looked up by cases.
use Rattle.std.proofs.Common.{◌≡◌, refl, sym, ap, ◌∙◌, subst, Bool, true, false, ◌||◌, not, if◌then◌else◌, List, [], ◌∷◌, ◌++◌, Option, Some, None, option_map}
use Rattle.std.specs.Prelude.{is_some}
use Rattle.ess_semantics.specs.declared.words.Op2.{Op2}
use Rattle.ess_semantics.specs.declared.words.Fun.{Fun}
use Rattle.ess_semantics.specs.Lists.{and_then, all_some, when}
use Rattle.ess_semantics.specs.Values.{Value, truth, node, a_function, of_list, pair}
use Rattle.ess_semantics.specs.Order.{same}
use Rattle.ess_semantics.specs.Collections.{holds, sorted_once, has_double_argument, function_of, value_at}
use Rattle.ess_semantics.specs.Trees.{Op, word, application, function_literal, tuple_literal, Ex, Exs, node_ex, ex2, no_exs, more_exs, cond}
use Rattle.ess_semantics.specs.Operators.{value_of_node}
use Rattle.ess_semantics.specs.Meaning.{Env, meaning, meanings, items_under, where_true}
use Rattle.ess_semantics.specs.Meets.{Meets, MeetsAll}
use Rattle.ess_semantics.proofs.Orders.{to_list-of_list, same-equal}
use Rattle.ess_rules_laws.specs.Listings.{Alternative, all_listed}
use Rattle.ess_rules_laws.specs.ListedSources.{AllMet}
use Rattle.ess_rules_laws.specs.Lookups.{found}
use Rattle.ess_rules_laws.specs.FunctionLookups.{unmarked}
use Rattle.ess_rules_laws.specs.AlternativeLookups.{none_at, first_results, pairs_by_cases, function_literal_lookup, FirstOperandThere}
use Rattle.ess_rules_laws.proofs.Connectives.{binary-means}
use Rattle.ess_rules_laws.proofs.NoneOf.{Known, none_at-listed, AllMeet, none_at-met}
use Rattle.ess_rules_laws.proofs.Lookups.{single}
use Rattle.ess_rules_laws.proofs.PairResults.{value-sorted}
use Rattle.ess_rules_laws.proofs.LiteralLookups.{same-swap, equal-none, AnswerCases}

no : {A : Type 0} → false ≡ true → A
no h = cc

-- ---- cases

-- What cases are there, of pairs that are literals.
abbrev Cased : Option (List Alternative) → (List Alternative → Type 0) → Type 0
Cased None P = Unit {0}
Cased (Some l) P = P l

-- A value of a pair.
pair-value : (o p : Option Value) (q : Value) → value_of_node tuple_literal (o ∷ p ∷ []) ≡ Some q →
    (a : Value) × (b : Value) × (o ≡ Some a) × (p ≡ Some b) × (q ≡ pair a b)
pair-value None p q h = cc
pair-value (Some a) None q h = cc
pair-value (Some a) (Some b) q h = (a, b, refl, refl, sym (let e : pair a b ≡ q = cc in e))

module _ (x : Ex) (env : Env) where
  -- The case of a pair.
  abbrev Case : List Ex → Ex → Ex → Alternative
  Case bs a b = record { gens = cond (ex2 true Op2.Eq x a) (none_at bs a x); item = b }

  -- Without an argument no case has an item.
  no-argument : meaning x env ≡ None → (bs : List Ex) (ps : Exs) → Cased (first_results bs x ps) (λ l. all_listed l env ≡ Some [])
  no-argument q bs no_exs = refl
  no-argument q bs (more_exs (node_ex false tuple_literal (more_exs a (more_exs b no_exs))) ps) =
      go (first_results (a ∷ bs) x ps) (no-argument q (a ∷ bs) ps)
    where
      go : (o : Option (List Alternative)) → Cased o (λ l. all_listed l env ≡ Some []) →
          Cased (option_map (λ l. Case bs a b ∷ l) o) (λ l. all_listed l env ≡ Some [])
      go None h = tt
      go (Some l) h = ap (λ o. and_then (where_true o (λ u. items_under (none_at bs a x) env (λ here. single (meaning b here))))
          (λ xs. option_map (λ ys. xs ++ ys) (all_listed l env))) (equal-none (meaning x env) (meaning a env) q)
          ∙ ap (option_map (λ ys. ys)) h
  no-argument q bs _ = tt

  module _ (w : Value) (q : meaning x env ≡ Some w) where
    case-is : (bs : List Ex) (us : List Value) (a b : Ex) (u v : Value) → Known bs us env → meaning a env ≡ Some u →
        meaning b env ≡ Some v →
        items_under (Case bs a b).gens env (λ here. single (meaning b here)) ≡
        where_true (Some (truth (same u w))) (λ z. if holds us w then Some [] else Some (v ∷ []))
    case-is bs us a b u v k i j =
        ap (λ o. where_true o (λ z. items_under (none_at bs a x) env (λ here. single (meaning b here))))
        (binary-means env true Op2.Eq x a w u q i ∙ ap (λ c. Some (truth c)) (same-swap w u))
        ∙ go (same u w) refl
      where
        go : (c : Bool) → same u w ≡ c →
            where_true (Some (truth c)) (λ z. items_under (none_at bs a x) env (λ here. single (meaning b here))) ≡
            where_true (Some (truth c)) (λ z. if holds us w then Some [] else Some (v ∷ []))
        go true e =
            none_at-listed bs us a x w env (λ here. single (meaning b here)) k (i ∙ ap Some (same-equal u w e) ∙ sym q) q
            ∙ ap (λ o. if holds us w then Some [] else single o) j
        go false e = refl

    -- The result at the argument, where none of the pairs before has it.
    results-picked : (bs : List Ex) (us : List Value) (ps : Exs) (vs : List Value) → Known bs us env →
        all_some (meanings ps env) ≡ Some vs →
        Cased (first_results bs x ps) (λ l. all_listed l env ≡ Some (found (if holds us w then None else value_at vs w)))
    results-picked bs us no_exs vs k e = go (holds us w) ∙ ap (λ l. Some (found (if holds us w then None else value_at l w)))
        (let z : [] ≡ vs = cc in z)
      where
        go : (b : Bool) → Some [] ≡ Some (found (if b then None else None))
        go true = refl
        go false = refl
    results-picked bs us (more_exs (node_ex false tuple_literal (more_exs a (more_exs b no_exs))) ps) vs k e =
        go (value_of_node tuple_literal (meaning a env ∷ meaning b env ∷ [])) refl (all_some (meanings ps env)) refl e
        (λ u ws i c. results-picked (a ∷ bs) (u ∷ us) ps ws (i, k) c)
      where
        join : (c h : Bool) (v : Value) (r : Option Value) →
            and_then (where_true (Some (truth c)) (λ z. if h then Some [] else Some (v ∷ [])))
            (λ xs. option_map (λ ys. xs ++ ys) (Some (found (if c || h then None else r)))) ≡
            Some (found (if h then None else (if c then Some v else r)))
        join true true v r = refl
        join true false v r = refl
        join false true v r = refl
        join false false v r = refl

        first : (u v : Value) (ws : List Value) → meaning a env ≡ Some u → meaning b env ≡ Some v → (o : Option (List Alternative)) →
            Cased o (λ l. all_listed l env ≡ Some (found (if holds (u ∷ us) w then None else value_at ws w))) →
            Cased (option_map (λ l. Case bs a b ∷ l) o)
            (λ l. all_listed l env ≡ Some (found (if holds us w then None else value_at (pair u v ∷ ws) w)))
        first u v ws i j None h = tt
        first u v ws i j (Some l) h =
            ap (λ o. and_then o (λ xs. option_map (λ ys. xs ++ ys) (all_listed l env))) (case-is bs us a b u v k i j)
            ∙ ap (λ o. and_then (where_true (Some (truth (same u w))) (λ z. if holds us w then Some [] else Some (v ∷ [])))
            (λ xs. option_map (λ ys. xs ++ ys) o)) h
            ∙ join (same u w) (holds us w) v (value_at ws w)

        Rest : Type 0
        Rest = (u : Value) (ws : List Value) → meaning a env ≡ Some u → all_some (meanings ps env) ≡ Some ws →
            Cased (first_results (a ∷ bs) x ps) (λ l. all_listed l env ≡ Some (found (if holds (u ∷ us) w then None else value_at ws w)))

        go : (o : Option Value) → value_of_node tuple_literal (meaning a env ∷ meaning b env ∷ []) ≡ o → (p : Option (List Value)) →
            all_some (meanings ps env) ≡ p → and_then o (λ v. option_map (λ us. v ∷ us) p) ≡ Some vs → Rest →
            Cased (option_map (λ l. Case bs a b ∷ l) (first_results (a ∷ bs) x ps))
            (λ l. all_listed l env ≡ Some (found (if holds us w then None else value_at vs w)))
        go None j p c h r = cc
        go (Some y) j None c h r = cc
        go (Some y) j (Some ws) c h r = let t = pair-value (meaning a env) (meaning b env) y j in
            subst (λ z. Cased (option_map (λ l. Case bs a b ∷ l) (first_results (a ∷ bs) x ps))
            (λ l. all_listed l env ≡ Some (found (if holds us w then None else value_at z w))))
            (ap (λ z. z ∷ ws) (sym t.4) ∙ (let z : y ∷ ws ≡ vs = cc in z))
            (first t.0 t.1 ws t.2 t.3 (first_results (a ∷ bs) x ps) (r t.0 ws t.2 c))
    results-picked bs us _ vs k e = tt

  cases-met : (bs : List Ex) (ps : Exs) → AllMeet bs env → Meets x env → MeetsAll false ps env →
      Cased (first_results bs x ps) (λ l. AllMet l env)
  cases-met bs no_exs k m h = tt
  cases-met bs (more_exs (node_ex false tuple_literal (more_exs a (more_exs b no_exs))) ps) k m h =
      go (first_results (a ∷ bs) x ps) (cases-met (a ∷ bs) ps (h.0.0, k) m h.1)
    where
      go : (o : Option (List Alternative)) → Cased o (λ l. AllMet l env) → Cased (option_map (λ l. Case bs a b ∷ l) o) (λ l. AllMet l env)
      go None r = tt
      go (Some l) r = (((m, (h.0.0, tt)), λ z. none_at-met bs a x env (λ here. Meets b here) k m h.0.1.0), r)
  cases-met bs _ k m h = tt

-- ---- the lookup

-- What applies a function given by its pairs.
abbrev AppliesPairs : Op → Type 0
AppliesPairs op = (ps : List Value) (o : Option Value) → value_of_node op (Some (node a_function (of_list ps)) ∷ o ∷ []) ≡
    and_then o (value_at ps)

application-pairs : AppliesPairs application
application-pairs ps None = refl
application-pairs ps (Some w) = ap (λ l. value_at l w) (to_list-of_list ps)

image-pairs : AppliesPairs (word Fun.Image)
image-pairs ps None = refl
image-pairs ps (Some w) = ap (λ l. value_at l w) (to_list-of_list ps)

-- The value of a function literal that is there.
literal-there : (ps : Exs) (env : Env) → is_some (meaning (node_ex false function_literal ps) env) ≡ true →
    (vs : List Value) × (all_some (meanings ps env) ≡ Some vs) × (has_double_argument vs ≡ false)
    × (meaning (node_ex false function_literal ps) env ≡ Some (node a_function (of_list (sorted_once vs))))
literal-there ps env t = go (all_some (meanings ps env)) refl t
  where
    at : (vs : List Value) → all_some (meanings ps env) ≡ Some vs → (b : Bool) → has_double_argument vs ≡ b →
        is_some (when (not b) (node a_function (of_list (sorted_once vs)))) ≡ true →
        (vs : List Value) × (all_some (meanings ps env) ≡ Some vs) × (has_double_argument vs ≡ false)
        × (meaning (node_ex false function_literal ps) env ≡ Some (node a_function (of_list (sorted_once vs))))
    at vs e true d t = no t
    at vs e false d t = (
      vs,
      e,
      d,
      ap (λ o. and_then o function_of) e
          ∙ ap (λ b. when (not b) (node a_function (of_list (sorted_once vs)))) d,
    )

    go : (o : Option (List Value)) → all_some (meanings ps env) ≡ o → is_some (and_then o function_of) ≡ true →
        (vs : List Value) × (all_some (meanings ps env) ≡ Some vs) × (has_double_argument vs ≡ false)
        × (meaning (node_ex false function_literal ps) env ≡ Some (node a_function (of_list (sorted_once vs))))
    go None e t = no t
    go (Some vs) e t = at vs e (has_double_argument vs) refl t

answer-cases : (o : Option (List Alternative)) (t : Ex) (env : Env) → Cased o (λ l. all_listed l env ≡ Some (found (meaning t env))) →
    Cased o (λ l. AllMet l env) → AnswerCases o t env
answer-cases None t env h m = tt
answer-cases (Some l) t env h m = record { items = h; met = m }

applied-cases : (op : Op) → AppliesPairs op → (f x : Ex) (env : Env) → is_some (meaning f env) ≡ true → Meets f env → Meets x env →
    AnswerCases (pairs_by_cases f x) (node_ex false op (more_exs f (more_exs x no_exs))) env
applied-cases op p (node_ex false function_literal ps) x env t m n = let r = literal-there ps env t in
    answer-cases (first_results [] x ps) _ env
    (subst (λ z. Cased (first_results [] x ps) (λ l. all_listed l env ≡ Some (found z)))
    (sym (ap (λ o. value_of_node op (o ∷ meaning x env ∷ [])) r.3 ∙ p (sorted_once r.0) (meaning x env)))
    (go r.0 r.1 r.2 (meaning x env) refl))
    (cases-met x env [] ps tt n m)
  where
    go : (vs : List Value) → all_some (meanings ps env) ≡ Some vs → has_double_argument vs ≡ false → (o : Option Value) →
        meaning x env ≡ o →
        Cased (first_results [] x ps) (λ l. all_listed l env ≡ Some (found (and_then (meaning x env) (value_at (sorted_once vs)))))
    go vs e d None q = subst (λ z. Cased (first_results [] x ps) (λ l. all_listed l env ≡
        Some (found (and_then z (value_at (sorted_once vs))))))
        (sym q) (no-argument x env q [] ps)
    go vs e d (Some w) q = subst (λ z. Cased (first_results [] x ps) (λ l. all_listed l env ≡
        Some (found (and_then z (value_at (sorted_once vs))))))
        (sym q) (subst (λ z. Cased (first_results [] x ps) (λ l. all_listed l env ≡ Some (found z))) (sym (value-sorted vs w d))
        (results-picked x env w q [] [] ps vs tt e))
applied-cases op p _ x env t m n = tt

-- Results of function literals.
pub function_literal-answer : (e : Ex) (env : Env) → FirstOperandThere e env → Meets e env →
    AnswerCases (function_literal_lookup e) (unmarked e) env
function_literal-answer (node_ex b application (more_exs f (more_exs x no_exs))) env t m =
    applied-cases application application-pairs f x env t m.0 m.1.0
function_literal-answer (node_ex b (word Fun.Image) (more_exs f (more_exs x no_exs))) env t m =
    applied-cases (word Fun.Image) image-pairs f x env t m.0 m.1.0
function_literal-answer _ env t m = tt
