-- Lists with the same items equally often, and what doesn't see their order: what generators collect, and the words that
-- make one value of a list.
use Rattle.std.proofs.Common.{◌≡◌, refl, sym, ap, ◌∙◌, subst, Bool, true, false, ◌&&◌, ◌||◌, List, [], ◌∷◌, ◌++◌, Option, Some, None, option_map}
use Rattle.std.specs.declared.cmp.Ordering.{Ordering}
use Rattle.std.specs.declared.cmp.Ordering.TheVariants.{Less, Equal, Greater}
use Rattle.ess_semantics.specs.declared.words.Fun.{Fun}
use Rattle.ess_semantics.specs.Lists.{and_then}
use Rattle.ess_semantics.specs.Values.{Value, number, truth, item, a_set, node, items_of, of_list, to_list}
use Rattle.ess_semantics.specs.Order.{order, same}
use Rattle.ess_semantics.specs.Collections.{holds, place, place_by, sorted_once}
use Rattle.ess_semantics.specs.Trees.{word, Gens, no_gens, over, from, cond}
use Rattle.ess_semantics.specs.Operators.{truth_in, all_true, any_true, list_value, value_of_word1, value_of_node, false_where_undefined, as_truth}
use Rattle.ess_semantics.specs.Meaning.{Env, with_pat, where_true, collect, meaning, items_under, domain_of, members_in}
use Rattle.ess_semantics.specs.Contexts.{Each, EachOf, EachIn, AtEach}
use Rattle.ess_semantics.proofs.Orders.{order_exact, same-itself, to_list-of_list}
use Rattle.ess_semantics.proofs.Tests.{or-left-no, or-right-no}
use Rattle.ess_rules_laws.proofs.Bindings.{each-of-map, each-in-map}
use Rattle.ess_semantics.proofs.Sorting.{holds-sorted_once, Distinct, one-set}
use Rattle.ess_semantics.proofs.Permutations.{or-swap}
pub use Rattle.ess_semantics.proofs.Permutations.{Perm, same_list, skip, swap, chain, perm-of, perm-sym, perm-behind, perm-across, holds-perm, count-perm}

and-swap : (a b c : Bool) → a && (b && c) ≡ b && (a && c)
and-swap true true c = refl
and-swap true false c = refl
and-swap false true c = refl
and-swap false false c = refl

-- ---- lists that are there

-- Both are there, the one a permutation of the other, or neither is.
abbrev pub Alike : Option (List Value) → Option (List Value) → Type 0
Alike None None = Unit {0}
Alike (Some xs) (Some ys) = Perm xs ys
Alike _ _ = ⊥

-- A list is like itself.
pub alike-itself : (o : Option (List Value)) → Alike o o
alike-itself None = tt
alike-itself (Some xs) = same_list

-- Equal lists.
pub alike-of : {o q : Option (List Value)} → o ≡ q → Alike o q
alike-of {o} e = subst (λ z. Alike o z) e (alike-itself o)

-- One after the other.
pub alike-chain : (o p q : Option (List Value)) → Alike o p → Alike p q → Alike o q
alike-chain None None None a b = tt
alike-chain (Some xs) (Some ys) (Some zs) a b = chain a b
alike-chain None (Some ys) q a b = absurd a
alike-chain (Some xs) None q a b = absurd a
alike-chain None None (Some zs) a b = absurd b
alike-chain (Some xs) (Some ys) None a b = absurd b

behind-one : (x : Option (List Value)) (c d : Option (List Value)) → Alike c d → Alike (and_then x (λ a. option_map (λ ys. a ++ ys) c)) (and_then x (λ a. option_map (λ ys. a ++ ys) d))
behind-one None c d p = tt
behind-one (Some a) None None p = tt
behind-one (Some a) (Some c) (Some d) p = perm-behind a p
behind-one (Some a) None (Some d) p = absurd p
behind-one (Some a) (Some c) None p = absurd p

both-turned : (x y c : Option (List Value)) →
    Alike (and_then x (λ a. option_map (λ ys. a ++ ys) (and_then y (λ b. option_map (λ zs. b ++ zs) c))))
    (and_then y (λ b. option_map (λ ys. b ++ ys) (and_then x (λ a. option_map (λ zs. a ++ zs) c))))
both-turned None None c = tt
both-turned None (Some b) c = tt
both-turned (Some a) None c = tt
both-turned (Some a) (Some b) None = tt
both-turned (Some a) (Some b) (Some c) = perm-across a b c

-- Over a source in another order a generator collects the same items in another order.
pub collect-perm : {xs ys : List Value} (f : Value → Option (List Value)) → Perm xs ys → Alike (collect xs f) (collect ys f)
collect-perm f (same_list {xs = xs}) = alike-itself (collect xs f)
collect-perm f (skip {x = x} {xs = xs} {ys = ys} p) = behind-one (f x) (collect xs f) (collect ys f) (collect-perm f p)
collect-perm f (swap {x = x} {y = y} {xs = xs}) = both-turned (f x) (f y) (collect xs f)
collect-perm f (chain {xs = xs} {ys = ys} {zs = zs} p q) = alike-chain (collect xs f) (collect ys f) (collect zs f) (collect-perm f p) (collect-perm f q)

-- ---- sorting

-- A value that isn't in the list is put somewhere in it.
pub place-perm : (v : Value) (xs : List Value) → holds xs v ≡ false → Perm (place v xs) (v ∷ xs)
place-perm v [] h = same_list
place-perm v (x ∷ xs) h = go (λ q. place-perm v xs q) (order v x) refl
  where
    go : (holds xs v ≡ false → Perm (place v xs) (v ∷ xs)) → (o : Ordering) → order v x ≡ o → Perm (place_by o v x xs (place v xs)) (v ∷ x ∷ xs)
    go ih Less q = same_list
    go ih Equal q = let e : same x v ≡ true = ap (λ y. same y v) (sym (order_exact v x q)) ∙ same-itself v in let f = or-left-no (same x v) (holds xs v) h in cc
    go ih Greater q = chain (skip (ih (or-right-no (same x v) (holds xs v) h))) swap

-- The strictly rising list of values that differ has these values.
pub sorted_once-perm : (xs : List Value) → Distinct xs → Perm (sorted_once xs) xs
sorted_once-perm [] d = same_list
sorted_once-perm (x ∷ xs) d = chain (place-perm x (sorted_once xs) (holds-sorted_once xs x ∙ d.0)) (skip (sorted_once-perm xs d.1))

-- ---- words that don't see the order

-- The word gives one value for a list in any order.
abbrev pub Unordered : Fun → Type 0
Unordered f = (xs ys : List Value) → Perm xs ys → value_of_word1 f (list_value xs) ≡ value_of_word1 f (list_value ys)

-- All items are true.
pub all-perm : {xs ys : List Value} → Perm xs ys → all_true xs ≡ all_true ys
all-perm same_list = refl
all-perm (skip {x = x} p) = ap (λ b. truth_in x && b) (all-perm p)
all-perm (swap {x = x} {y = y} {xs = xs}) = and-swap (truth_in x) (truth_in y) (all_true xs)
all-perm (chain p q) = all-perm p ∙ all-perm q

-- Some item is true.
pub any-perm : {xs ys : List Value} → Perm xs ys → any_true xs ≡ any_true ys
any-perm same_list = refl
any-perm (skip {x = x} p) = ap (λ b. truth_in x || b) (any-perm p)
any-perm (swap {x = x} {y = y} {xs = xs}) = or-swap (truth_in x) (truth_in y) (any_true xs)
any-perm (chain p q) = any-perm p ∙ any-perm q

-- On both sides the items of the list.
pub on-items : {A : Type 0} (f : List Value → A) (xs ys : List Value) → f xs ≡ f ys → f (to_list (of_list xs)) ≡ f (to_list (of_list ys))
on-items f xs ys e = ap f (to_list-of_list xs) ∙ e ∙ ap f (sym (to_list-of_list ys))

-- `and`.
pub and-unordered : Unordered Fun.And
and-unordered xs ys p = on-items (λ l. Some (truth (all_true l))) xs ys (ap (λ b. Some (truth b)) (all-perm p))

-- `or`.
pub or-unordered : Unordered Fun.Or
or-unordered xs ys p = on-items (λ l. Some (truth (any_true l))) xs ys (ap (λ b. Some (truth b)) (any-perm p))

-- `toSet`.
pub to_set-unordered : Unordered Fun.ToSet
to_set-unordered xs ys p = on-items (λ l. Some (node a_set (of_list (sorted_once l)))) xs ys (ap (λ l. Some (node a_set (of_list l))) (one-set xs ys (holds-perm p)))

-- Such a word of a comprehension whose items come in another order.
pub unordered-alike : (b : Bool) (f : Fun) → Unordered f → (o q : Option (List Value)) → Alike o q →
    false_where_undefined b (value_of_node (word f) (option_map list_value o ∷ [])) ≡ false_where_undefined b (value_of_node (word f) (option_map list_value q ∷ []))
unordered-alike b f u None None a = refl
unordered-alike b f u (Some xs) (Some ys) a = ap (false_where_undefined b) (u xs ys a)
unordered-alike b f u None (Some ys) a = absurd a
unordered-alike b f u (Some xs) None a = absurd a

-- ---- comprehensions whose bodies are alike

-- Lists behind permuted lists.
pub perm-both : {A : Type 0} {a b c d : List A} → Perm a b → Perm c d → Perm (a ++ c) (b ++ d)
perm-both same_list q = perm-behind _ q
perm-both (skip p) q = skip (perm-both p q)
perm-both (swap {x = x} {y = y} {xs = xs}) q = chain swap (skip (skip (perm-behind xs q)))
perm-both (chain p r) q = chain (perm-both p q) (perm-both r same_list)

both-alike : (a b c d : Option (List Value)) → Alike a b → Alike c d → Alike (and_then a (λ xs. option_map (λ ys. xs ++ ys) c)) (and_then b (λ xs. option_map (λ ys. xs ++ ys) d))
both-alike None None c d p q = tt
both-alike (Some a) (Some b) None None p q = tt
both-alike (Some a) (Some b) (Some c) (Some d) p q = perm-both p q
both-alike (Some a) (Some b) None (Some d) p q = absurd q
both-alike (Some a) (Some b) (Some c) None p q = absurd q
both-alike None (Some b) c d p q = absurd p
both-alike (Some a) None c d p q = absurd p

-- Answers alike at each value collect alike.
pub collect-alike : (vs : List Value) (f f' : Value → Option (List Value)) → Each vs (λ v. Alike (f v) (f' v)) → Alike (collect vs f) (collect vs f')
collect-alike [] f f' h = same_list
collect-alike (v ∷ vs) f f' h = both-alike (f v) (f' v) (collect vs f) (collect vs f') h.0 (collect-alike vs f f' h.1)

alike-of-each : (o : Option (List Value)) (f f' : Value → Option (List Value)) → EachOf o (λ v. Alike (f v) (f' v)) → Alike (and_then o (λ vs. collect vs f)) (and_then o (λ vs. collect vs f'))
alike-of-each None f f' h = tt
alike-of-each (Some vs) f f' h = collect-alike vs f f' h

alike-in-each : (o : Option Value) (f f' : Value → Option (List Value)) → EachIn o (λ v. Alike (f v) (f' v)) →
    Alike (and_then o (λ s. collect (items_of s) f)) (and_then o (λ s. collect (items_of s) f'))
alike-in-each None f f' h = tt
alike-in-each (Some s) f f' h = collect-alike (items_of s) f f' h

alike-where : (o : Option Value) (x x' : Option (List Value)) → (as_truth o ≡ true → Alike x x') → Alike (where_true o (λ u. x)) (where_true o (λ u. x'))
alike-where None x x' h = same_list
alike-where (Some (truth true)) x x' h = h refl
alike-where (Some (truth false)) x x' h = same_list
alike-where (Some (number n)) x x' h = same_list
alike-where (Some (item t k)) x x' h = same_list
alike-where (Some (node k vs)) x x' h = same_list

-- Behind the same generators, what is alike at each binding gives items alike. So a rule on a generator may be used behind
-- other ones.
pub items-alike-behind : (gs : Gens) (env : Env) (k k' : Env → Option (List Value)) → AtEach gs env (λ here. Alike (k here) (k' here)) → Alike (items_under gs env k) (items_under gs env k')
items-alike-behind no_gens env k k' h = h
items-alike-behind (over p d gs) env k k' h =
    alike-of-each (members_in (domain_of d env)) _ _ (each-of-map (members_in (domain_of d env)) _ _ (λ v. items-alike-behind gs (with_pat p v env) k k') h)
items-alike-behind (from p e gs) env k k' h =
    alike-in-each (meaning e env) _ _ (each-in-map (meaning e env) _ _ (λ v. items-alike-behind gs (with_pat p v env) k k') h)
items-alike-behind (cond e gs) env k k' h = alike-where (meaning e env) _ _ (λ t. items-alike-behind gs env k k' (h t))
