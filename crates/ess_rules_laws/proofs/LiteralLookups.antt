-- Items of list literals and results of function literals are looked up by cases.
use Rattle.std.proofs.Common.{◌≡◌, refl, sym, ap, ◌∙◌, subst, ℕ, suc, ◌<◌, Bool, true, false, if◌then◌else◌, List, [], ◌∷◌, ◌++◌, pos, Option, Some, None, option_map, arith}
use Rattle.std.proofs.lemmas.Int.{ints}
use Rattle.std.specs.Prelude.{is_some}
use Rattle.ess_semantics.specs.declared.words.Op2.{Op2}
use Rattle.ess_semantics.specs.Lists.{and_then, all_some}
use Rattle.ess_semantics.specs.Values.{Value, number, truth, of_list}
use Rattle.ess_semantics.specs.Order.{same}
use Rattle.ess_semantics.specs.Trees.{binary, by_value, index, matrix_literal, Ex, Exs, number_ex, node_ex, ex2, no_exs, more_exs}
use Rattle.ess_semantics.specs.Tables.{code}
use Rattle.ess_semantics.specs.Operators.{numbers_from, item_at, list_value, value_of_node, false_where_undefined}
use Rattle.ess_semantics.specs.Meaning.{Env, meaning, meanings, where_true}
use Rattle.ess_semantics.specs.Meets.{Meets, MeetsAll}
use Rattle.ess_semantics.proofs.Tests.{both-ways}
use Rattle.ess_semantics.proofs.Orders.{same-equal, same-itself}
use Rattle.ess_rules_laws.specs.Listings.{Alternative, all_listed}
use Rattle.ess_rules_laws.specs.ListedSources.{AllMet}
use Rattle.ess_rules_laws.specs.Lookups.{found}
use Rattle.ess_rules_laws.specs.FunctionLookups.{unmarked}
use Rattle.ess_rules_laws.specs.AlternativeLookups.{LookedBy, numbered_items, list_lookup, FirstOperandThere}
use Rattle.ess_rules_laws.proofs.Connectives.{binary-means}
use Rattle.ess_rules_laws.proofs.Lookups.{single}

no : {A : Type 0} → false ≡ true → A
no h = cc

-- Equality looks the same from both sides.
pub same-swap : (a b : Value) → same a b ≡ same b a
same-swap a b = both-ways (same a b) (same b a) (λ h. ap (λ c. same b c) (same-equal a b h) ∙ same-itself b)
    (λ h. ap (λ c. same a c) (same-equal b a h) ∙ same-itself a)

-- What an equality with an operand without a value is.
pub equal-none : (o p : Option Value) → o ≡ None → false_where_undefined true (value_of_node (binary Op2.Eq) (o ∷ p ∷ [])) ≡
    Some (truth false)
equal-none o p q = ap (λ z. false_where_undefined true (value_of_node (binary Op2.Eq) (z ∷ p ∷ []))) q

-- What alternatives answer looks a term up.
abbrev pub AnswerCases : Option (List Alternative) → Ex → Env → Type 0
AnswerCases None t env = Unit {0}
AnswerCases (Some l) t env = LookedBy t l env

-- So it is where there are some.
pub looks-by : (o : Option (List Alternative)) (t : Ex) (l : List Alternative) (env : Env) → AnswerCases o t env → o ≡ Some l →
    LookedBy t l env
looks-by o t l env h q = subst (λ z. AnswerCases z t env) q h

-- ---- items of lists

module _ (i : Ex) (env : Env) where
  -- The items of a case, then those of the others.
  abbrev Case : ℕ → Ex → Option (List Value) → Option (List Value)
  Case k e rest = and_then (where_true (meaning (ex2 true Op2.Eq i (number_ex (pos k))) env) (λ u. single (meaning e env)))
      (λ xs. option_map (λ ys. xs ++ ys) rest)

  -- Without an index there is no item.
  no-index : meaning i env ≡ None → (k : ℕ) (es : Exs) → all_listed (numbered_items k i es) env ≡ Some []
  no-index q k no_exs = refl
  no-index q k (more_exs e es) = ap (λ o. and_then (where_true o (λ u. single (meaning e env)))
      (λ xs. option_map (λ ys. xs ++ ys) (all_listed (numbered_items (suc k) i es) env)))
      (equal-none (meaning i env) (Some (number (pos k))) q)
      ∙ ap (option_map (λ ys. ys)) (no-index q (suc k) es)

  module _ (w : Value) (q : meaning i env ≡ Some w) where
    test-is : (k : ℕ) → meaning (ex2 true Op2.Eq i (number_ex (pos k))) env ≡ Some (truth (same (number (pos k)) w))
    test-is k = binary-means env true Op2.Eq i (number_ex (pos k)) w (number (pos k)) q refl
        ∙ ap (λ b. Some (truth b)) (same-swap w (number (pos k)))

    case-is : (k : ℕ) (e : Ex) (v : Value) (rest : Option (List Value)) (b : Bool) → same (number (pos k)) w ≡ b → meaning e env ≡ Some v →
        Case k e rest ≡ option_map (λ ys. (if b then v ∷ ys else ys)) rest
    case-is k e v rest true s j = ap (λ o. and_then (where_true o (λ u. single (meaning e env))) (λ xs. option_map (λ ys. xs ++ ys) rest))
        (test-is k ∙ ap (λ b. Some (truth b)) s) ∙ ap (λ o. and_then (single o) (λ xs. option_map (λ ys. xs ++ ys) rest)) j
    case-is k e v rest false s j = ap (λ o. and_then (where_true o (λ u. single (meaning e env))) (λ xs. option_map (λ ys. xs ++ ys) rest))
        (test-is k ∙ ap (λ b. Some (truth b)) s)

    -- Items behind that of the index aren't picked.
    none-behind : (j : ℕ) → number (pos j) ≡ w → (k : ℕ) → j < k → (es : Exs) (vs : List Value) → all_some (meanings es env) ≡ Some vs →
        all_listed (numbered_items k i es) env ≡ Some []
    none-behind j e k h no_exs vs a = refl
    none-behind j e k h (more_exs x es) vs a = go (meaning x env) refl (all_some (meanings es env)) refl a
        (λ us b. none-behind j e (suc k) (omega arith) es us b)
      where
        differs : (b : Bool) → same (number (pos k)) w ≡ b → same (number (pos k)) w ≡ false
        differs false s = s
        differs true s = absurd (let z : pos k ≡ pos j = ap code (same-equal (number (pos k)) w s ∙ sym e) in omega (arith, ints))

        go : (o : Option Value) → meaning x env ≡ o → (p : Option (List Value)) → all_some (meanings es env) ≡ p →
            and_then o (λ v. option_map (λ us. v ∷ us) p) ≡ Some vs →
            ((us : List Value) → all_some (meanings es env) ≡ Some us → all_listed (numbered_items (suc k) i es) env ≡ Some []) →
            Case k x (all_listed (numbered_items (suc k) i es) env) ≡ Some []
        go None j p c a r = cc
        go (Some v) j None c a r = cc
        go (Some v) j (Some us) c a r =
            case-is k x v (all_listed (numbered_items (suc k) i es) env) false (differs (same (number (pos k)) w) refl) j
            ∙ ap (option_map (λ ys. ys)) (r us c)

    -- The item at the index.
    pub items-picked : (k : ℕ) (es : Exs) (vs : List Value) → all_some (meanings es env) ≡ Some vs →
        all_listed (numbered_items k i es) env ≡ Some (found (item_at (of_list (numbers_from k vs)) (of_list vs) w))
    items-picked k no_exs vs a = ap (λ l. Some (found (item_at (of_list (numbers_from k l)) (of_list l) w))) (let e : [] ≡ vs = cc in e)
    items-picked k (more_exs x es) vs a = go (meaning x env) refl (all_some (meanings es env)) refl a
        (λ us b. items-picked (suc k) es us b) (λ e us b. none-behind k e (suc k) (omega arith) es us b)
      where
        Rest : Type 0
        Rest = (us : List Value) → all_some (meanings es env) ≡ Some us →
            all_listed (numbered_items (suc k) i es) env ≡ Some (found (item_at (of_list (numbers_from (suc k) us)) (of_list us) w))

        Behind : Type 0
        Behind = number (pos k) ≡ w → (us : List Value) → all_some (meanings es env) ≡ Some us →
            all_listed (numbered_items (suc k) i es) env ≡ Some []

        at : (v : Value) (us : List Value) → meaning x env ≡ Some v → all_some (meanings es env) ≡ Some us → (b : Bool) →
            same (number (pos k)) w ≡ b → Rest → Behind → Case k x (all_listed (numbered_items (suc k) i es) env) ≡
            Some (found (if b then Some v else item_at (of_list (numbers_from (suc k) us)) (of_list us) w))
        at v us j c true s r t = case-is k x v (all_listed (numbered_items (suc k) i es) env) true s j
            ∙ ap (option_map (λ ys. v ∷ ys)) (t (same-equal (number (pos k)) w s) us c)
        at v us j c false s r t = case-is k x v (all_listed (numbered_items (suc k) i es) env) false s j
            ∙ ap (option_map (λ ys. ys)) (r us c)

        go : (o : Option Value) → meaning x env ≡ o → (p : Option (List Value)) → all_some (meanings es env) ≡ p →
            and_then o (λ v. option_map (λ us. v ∷ us) p) ≡ Some vs → Rest → Behind →
            Case k x (all_listed (numbered_items (suc k) i es) env) ≡
            Some (found (item_at (of_list (numbers_from k vs)) (of_list vs) w))
        go None j p c a r t = cc
        go (Some v) j None c a r t = cc
        go (Some v) j (Some us) c a r t = at v us j c (same (number (pos k)) w) refl r t
            ∙ ap (λ l. Some (found (item_at (of_list (numbers_from k l)) (of_list l) w))) (let e : v ∷ us ≡ vs = cc in e)

  numbered-met : (k : ℕ) (es : Exs) → Meets i env → MeetsAll false es env → AllMet (numbered_items k i es) env
  numbered-met k no_exs m h = tt
  numbered-met k (more_exs e es) m h = (((m, (tt, tt)), λ z. h.0), numbered-met (suc k) es m h.1)

  list-items : (es : Exs) → is_some (meaning (node_ex false matrix_literal es) env) ≡ true →
      all_listed (numbered_items 1 i es) env ≡
      Some (found (meaning (node_ex false (index (by_value ∷ [])) (more_exs (node_ex false matrix_literal es) (more_exs i no_exs))) env))
  list-items es t = go (all_some (meanings es env)) refl (meaning i env) refl t
    where
      At : Option (List Value) → Option Value → Option Value
      At p o = value_of_node (index (by_value ∷ [])) (and_then p (λ vs. Some (list_value vs)) ∷ o ∷ [])

      then-some : (o : Option Value) → and_then o (λ w. Some w) ≡ o
      then-some None = refl
      then-some (Some w) = refl

      go : (p : Option (List Value)) → all_some (meanings es env) ≡ p → (o : Option Value) → meaning i env ≡ o →
          is_some (and_then p (λ vs. Some (list_value vs))) ≡ true →
          all_listed (numbered_items 1 i es) env ≡ Some (found (At (all_some (meanings es env)) (meaning i env)))
      go None a o q t = no t
      go (Some vs) a None q t = no-index q 1 es ∙ ap (λ z. Some (found z)) (sym (ap (λ z. At z (meaning i env)) a ∙ ap (At (Some vs)) q))
      go (Some vs) a (Some w) q t = items-picked w q 1 es vs a
          ∙ ap (λ z. Some (found z)) (sym (ap (λ z. At z (meaning i env)) a ∙ ap (At (Some vs)) q
          ∙ then-some (item_at (of_list (numbers_from 1 vs)) (of_list vs) w)))

-- Items of list literals.
pub list-answer : (e : Ex) (env : Env) → FirstOperandThere e env → Meets e env → AnswerCases (list_lookup e) (unmarked e) env
list-answer (node_ex b (index (by_value ∷ [])) (more_exs (node_ex false matrix_literal es) (more_exs i no_exs))) env t m = record {
  items = list-items i env es t;
  met = numbered-met i env 1 es m.1.0 m.0;
}
list-answer _ env t m = tt
