-- The items of alternatives: of one term under a condition, of each item of a literal, and of each item once.
use Rattle.std.proofs.Common.{◌≡◌, refl, sym, ap, ◌∙◌, subst, zero, suc, Bool, true, false, ◌||◌, if◌then◌else◌, List, [], ◌∷◌, ◌++◌, filter, Option, Some, None, option_map, arith}
use Rattle.std.specs.Prelude.{IsTrue, is_some}
use Rattle.std.specs.List.{list_all}
use Rattle.ess_semantics.specs.Lists.{and_then, all_some}
use Rattle.ess_semantics.specs.Values.{Text, Value, truth, items_of}
use Rattle.ess_semantics.specs.Order.{same}
use Rattle.ess_semantics.specs.Collections.{holds, count, sorted_once}
use Rattle.ess_semantics.specs.Trees.{Ex, Exs, name_ex, comp_ex, no_exs, more_exs, Gens, no_gens, cond}
use Rattle.ess_semantics.specs.Operators.{list_value}
use Rattle.ess_semantics.specs.Meaning.{Env, meaning, meanings, items_under, collect, where_true}
use Rattle.ess_semantics.proofs.Orders.{to_list-of_list, same-equal}
use Rattle.ess_semantics.proofs.Sorting.{holds-sorted_once, sorted_once-rises, sorted_once-itself}
use Rattle.ess_rules_laws.specs.Listings.{items_listed, all_listed, SameLists, Lists, each_item, none_of, each_first, those}
use Rattle.ess_rules_laws.proofs.RuleAnswers.{behind, name-behind, collect-itself}
use Rattle.ess_rules_laws.proofs.NoneOf.{Known, none_of-listed}
use Rattle.ess_rules_laws.proofs.ContainerValues.{Strictly, count-absent, count-present, set-count}
use Rattle.ess_rules_laws.proofs.MembershipRules.{values}

-- ---- lists that are there

-- Equal lists.
pub same-lists : (o p : Option (List Value)) → o ≡ p → SameLists o p
same-lists o p e = subst (λ z. SameLists o z) e (itself-same o)
  where
    itself-same : (o : Option (List Value)) → SameLists o o
    itself-same None = tt
    itself-same (Some xs) = λ v. refl

-- Lists that are these, with equal counts.
pub counted-same : (o p : Option (List Value)) (xs ys : List Value) → o ≡ Some xs → p ≡ Some ys → ((v : Value) → count xs v ≡ count ys v) → SameLists o p
counted-same o p xs ys q r h = subst (λ z. SameLists z p) (sym q) (subst (λ z. SameLists (Some xs) z) (sym r) h)

-- The items that have a property are counted where the value has it.
pub count-filter : (p : Value → Bool) (xs : List Value) (v : Value) → count (filter p xs) v ≡ (if p v then count xs v else 0)
count-filter p [] v = none (p v)
  where
    none : (b : Bool) → zero ≡ (if b then zero else zero)
    none true = refl
    none false = refl
count-filter p (x ∷ xs) v = go (p x) refl (same x v) refl (count-filter p xs v)
  where
    other : (b : Bool) → (if b then count xs v else 0) ≡ (if b then (if false then suc (count xs v) else count xs v) else 0)
    other b = refl

    go : (b : Bool) → p x ≡ b → (c : Bool) → same x v ≡ c → count (filter p xs) v ≡ (if p v then count xs v else 0) →
        count (if b then x ∷ filter p xs else filter p xs) v ≡ (if p v then (if c then suc (count xs v) else count xs v) else 0)
    go true q true r h = let e : p v ≡ true = ap p (sym (same-equal x v r)) ∙ q in
        ap (λ t. if t then suc (count (filter p xs) v) else count (filter p xs) v) r ∙ ap suc (h ∙ ap (λ t. if t then count xs v else 0) e) ∙ sym (ap (λ t. if t then suc (count xs v) else 0) e)
    go true q false r h = ap (λ t. if t then suc (count (filter p xs) v) else count (filter p xs) v) r ∙ h
    go false q true r h = let e : p v ≡ false = ap p (sym (same-equal x v r)) ∙ q in h ∙ ap (λ t. if t then count xs v else 0) e ∙ sym (ap (λ t. if t then suc (count xs v) else 0) e)
    go false q false r h = h

-- A sorted list has each value once or not at all.
pub count-sorted_once : (xs : List Value) (v : Value) → count (sorted_once xs) v ≡ (if holds xs v then 1 else 0)
count-sorted_once xs v = go (holds xs v) (holds-sorted_once xs v)
  where
    go : (b : Bool) → holds (sorted_once xs) v ≡ b → count (sorted_once xs) v ≡ (if b then 1 else 0)
    go true q = let a = count-present (sorted_once xs) v q in let b = set-count (sorted_once xs) v (sorted_once-rises xs) in omega arith
    go false q = count-absent (sorted_once xs) v q

-- So has a list that rises strictly.
pub count-strictly : (xs : List Value) (v : Value) → Strictly xs → count xs v ≡ (if holds xs v then 1 else 0)
count-strictly xs v r = ap (λ l. count l v) (sym (sorted_once-itself xs r)) ∙ count-sorted_once xs v

-- ---- the members of one term

-- The members of a term that pass a test.
collect-tested : (x : Text) (env : Env) (f : Value → Bool) (vs : List Value) (F : Value → Option (List Value)) →
    ((v : Value) → F v ≡ where_true (Some (truth (f v))) (λ u. option_map (λ w. w ∷ []) (meaning (name_ex x) (behind x v env)))) → collect vs F ≡ Some (filter f vs)
collect-tested x env f [] F h = refl
collect-tested x env f (v ∷ vs) F h = go (f v) refl (collect-tested x env f vs F h)
  where
    go : (b : Bool) → f v ≡ b → collect vs F ≡ Some (filter f vs) → and_then (F v) (λ xs. option_map (λ ys. xs ++ ys) (collect vs F)) ≡ Some (if b then v ∷ filter f vs else filter f vs)
    go true q e =
        ap (λ o. and_then o (λ xs. option_map (λ ys. xs ++ ys) (collect vs F))) (h v ∙ ap (λ b. where_true (Some (truth b)) (λ u. option_map (λ w. w ∷ []) (meaning (name_ex x) (behind x v env)))) q
        ∙ ap (option_map (λ w. w ∷ [])) (name-behind x v env)) ∙ ap (option_map (λ ys. v ∷ ys)) e
    go false q e =
        ap (λ o. and_then o (λ xs. option_map (λ ys. xs ++ ys) (collect vs F))) (h v ∙ ap (λ b. where_true (Some (truth b)) (λ u. option_map (λ w. w ∷ []) (meaning (name_ex x) (behind x v env)))) q)
        ∙ ap (option_map (λ ys. ys)) e

-- Where the condition is a test of x.
pub tested-listed : (x : Text) (s c : Ex) (env : Env) (w : Value) (f : Value → Bool) → meaning s env ≡ Some w → ((v : Value) → meaning c (behind x v env) ≡ Some (truth (f v))) →
    items_listed (those x s (cond c no_gens)) env ≡ Some (filter f (items_of w))
tested-listed x s c env w f q h =
    ap (λ o. and_then o (λ z. collect (items_of z) F)) q ∙ collect-tested x env f (items_of w) F (λ v. ap (λ o. where_true o (λ u. option_map (λ w. w ∷ []) (meaning (name_ex x) (behind x v env)))) (h v))
  where
    F : Value → Option (List Value)
    F v = where_true (meaning c (behind x v env)) (λ u. option_map (λ w. w ∷ []) (meaning (name_ex x) (behind x v env)))

-- All members of a term.
pub all-members : (x : Text) (s : Ex) (env : Env) → items_listed (those x s no_gens) env ≡ option_map items_of (meaning s env)
all-members x s env = go (meaning s env)
  where
    go : (o : Option Value) → and_then o (λ z. collect (items_of z) (λ v. option_map (λ w. w ∷ []) (meaning (name_ex x) (behind x v env)))) ≡ option_map items_of o
    go None = refl
    go (Some w) = collect-itself x env (items_of w)

-- One alternative alone.
pub alone-listed : (o : Option (List Value)) → and_then o (λ xs. option_map (λ ys. xs ++ ys) (Some [])) ≡ o
alone-listed None = refl
alone-listed (Some xs) = ap Some (append-nil xs)
  where
    append-nil : (xs : List Value) → xs ++ [] ≡ xs
    append-nil [] = refl
    append-nil (x ∷ xs) = ap (λ ys. x ∷ ys) (append-nil xs)

-- ---- comprehensions and lists of items

-- A comprehension lists its items by its own generators.
pub comp-lists : (e : Ex) (gs : Gens) (env : Env) → Lists (comp_ex e gs) (record { gens = gs; item = e } ∷ []) env
comp-lists e gs env = same-lists _ _ (go (items_under gs env (λ here. option_map (λ v. v ∷ []) (meaning e here))) ∙ sym (alone-listed (items_listed (record { gens = gs; item = e }) env)))
  where
    go : (o : Option (List Value)) → option_map items_of (option_map list_value o) ≡ o
    go None = refl
    go (Some xs) = ap Some (to_list-of_list xs)

-- The items of a literal, one by one.
pub each-listed : (es : Exs) (env : Env) → all_listed (each_item es) env ≡ all_some (meanings es env)
each-listed no_exs env = refl
each-listed (more_exs a es) env = go (meaning a env) (each-listed es env)
  where
    go : (o : Option Value) → all_listed (each_item es) env ≡ all_some (meanings es env) →
        and_then (option_map (λ v. v ∷ []) o) (λ xs. option_map (λ ys. xs ++ ys) (all_listed (each_item es) env)) ≡ and_then o (λ x. option_map (λ xs. x ∷ xs) (all_some (meanings es env)))
    go None q = refl
    go (Some v) q = ap (option_map (λ ys. v ∷ ys)) q

-- ---- each item once

-- The values that are none of us and none of those before them.
abbrev firsts : List Value → List Value → List Value
firsts us [] = []
firsts us (v ∷ vs) = if holds us v then firsts (v ∷ us) vs else v ∷ firsts (v ∷ us) vs

first-listed : (bs : List Ex) (us : List Value) (es : Exs) (env : Env) → Known bs us env → IsTrue (list_all is_some (meanings es env)) →
    all_listed (each_first bs es) env ≡ Some (firsts us (values (meanings es env)))
first-listed bs us no_exs env h t = refl
first-listed bs us (more_exs a es) env h t = go (meaning a env) refl t (λ v q z. first-listed (a ∷ bs) (v ∷ us) es env (q, h) z)
  where
    K : Env → Option (List Value)
    K here = option_map (λ v. v ∷ []) (meaning a here)

    join : (c : Bool) (v : Value) → and_then (if c then Some [] else Some (v ∷ [])) (λ xs. option_map (λ ys. xs ++ ys) (Some (firsts (v ∷ us) (values (meanings es env)))))
        ≡ Some (if c then firsts (v ∷ us) (values (meanings es env)) else v ∷ firsts (v ∷ us) (values (meanings es env)))
    join true v = refl
    join false v = refl

    go : (o : Option Value) → meaning a env ≡ o → IsTrue (list_all is_some (o ∷ meanings es env)) →
        ((v : Value) → meaning a env ≡ Some v → IsTrue (list_all is_some (meanings es env)) → all_listed (each_first (a ∷ bs) es) env ≡ Some (firsts (v ∷ us) (values (meanings es env)))) →
        and_then (items_under (none_of bs a) env K) (λ xs. option_map (λ ys. xs ++ ys) (all_listed (each_first (a ∷ bs) es) env)) ≡ Some (firsts us (values (o ∷ meanings es env)))
    go None q t r = cc
    go (Some v) q t r =
        ap (λ o. and_then o (λ xs. option_map (λ ys. xs ++ ys) (all_listed (each_first (a ∷ bs) es) env)))
        (none_of-listed bs us a v env K h q ∙ ap (λ o. if holds us v then Some [] else option_map (λ w. w ∷ []) o) q)
        ∙ ap (λ o. and_then (if holds us v then Some [] else Some (v ∷ [])) (λ xs. option_map (λ ys. xs ++ ys) o)) (r v q t)
        ∙ join (holds us v) v

count-firsts : (us vs : List Value) (w : Value) → count (firsts us vs) w ≡ (if holds us w then 0 else (if holds vs w then 1 else 0))
count-firsts us [] w = go (holds us w)
  where
    go : (b : Bool) → zero ≡ (if b then zero else zero)
    go true = refl
    go false = refl
count-firsts us (v ∷ vs) w = go (holds us v) refl (same v w) refl (count-firsts (v ∷ us) vs w)
  where
    go : (b : Bool) → holds us v ≡ b → (c : Bool) → same v w ≡ c → count (firsts (v ∷ us) vs) w ≡ (if same v w || holds us w then 0 else (if holds vs w then 1 else 0)) →
        count (if b then firsts (v ∷ us) vs else v ∷ firsts (v ∷ us) vs) w ≡ (if holds us w then 0 else (if c || holds vs w then 1 else 0))
    go true q true r h = let e : holds us w ≡ true = ap (holds us) (sym (same-equal v w r)) ∙ q in
        h ∙ ap (λ t. if t || holds us w then 0 else (if holds vs w then 1 else 0)) r ∙ sym (ap (λ t. if t then 0 else 1) e)
    go true q false r h = h ∙ ap (λ t. if t || holds us w then 0 else (if holds vs w then 1 else 0)) r
    go false q true r h = let e : holds us w ≡ false = ap (holds us) (sym (same-equal v w r)) ∙ q in
        ap (λ t. if t then suc (count (firsts (v ∷ us) vs) w) else count (firsts (v ∷ us) vs) w) r
        ∙ ap suc (h ∙ ap (λ t. if t || holds us w then 0 else (if holds vs w then 1 else 0)) r) ∙ sym (ap (λ t. if t then 0 else 1) e)
    go false q false r h =
        ap (λ t. if t then suc (count (firsts (v ∷ us) vs) w) else count (firsts (v ∷ us) vs) w) r
        ∙ h ∙ ap (λ t. if t || holds us w then 0 else (if holds vs w then 1 else 0)) r

-- Literals in which repeats don't count.
pub firsts-list : (es : Exs) (env : Env) (s : Value) → IsTrue (list_all is_some (meanings es env)) → items_of s ≡ sorted_once (values (meanings es env)) →
    SameLists (Some (items_of s)) (all_listed (each_first [] es) env)
firsts-list es env s t q = counted-same (Some (items_of s)) (all_listed (each_first [] es) env) (sorted_once (values (meanings es env))) (firsts [] (values (meanings es env)))
    (ap Some q) (first-listed [] [] es env tt t) (λ v. count-sorted_once (values (meanings es env)) v ∙ sym (count-firsts [] (values (meanings es env)) v))
