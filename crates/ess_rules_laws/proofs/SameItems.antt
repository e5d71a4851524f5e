-- Comprehensions whose meanings have the same items equally often count as one under each word that forgets the order of a
-- list. So a rule that keeps a comprehension so keeps the word over it.
use Rattle.std.proofs.Common.{◌≡◌, sym, ap, ◌∙◌, Bool, true, false, List, [], ◌∷◌, Option, Some, None, option_map}
use Rattle.std.specs.declared.cmp.Ordering.{Ordering}
use Rattle.std.specs.declared.cmp.Ordering.TheVariants.{Less, Equal, Greater}
use Rattle.ess_semantics.specs.declared.words.Fun.{Fun}
use Rattle.ess_semantics.specs.Values.{a_mset, Value, node, of_list}
use Rattle.ess_semantics.specs.Order.{order}
use Rattle.ess_semantics.specs.Collections.{count, add, add_by, sorted}
use Rattle.ess_semantics.specs.Trees.{word, Ex, Gens, comp_ex, fun1}
use Rattle.ess_semantics.specs.Operators.{list_value}
use Rattle.ess_semantics.specs.Meaning.{Env, meaning, items_under}
use Rattle.ess_semantics.specs.ExpressionJudgements.{forgets_order}
use Rattle.ess_semantics.specs.Kept.{SameItems, KeptAtRoot, KeptWhere}
use Rattle.ess_semantics.proofs.Orders.{to_list-of_list}
use Rattle.ess_semantics.proofs.Multisets.{one-sorted-bag, count-sorted, sorted-rises}
use Rattle.ess_rules_laws.proofs.Permutations.{Perm, same_list, skip, swap, chain, perm-of, perm-sym, count-perm, Alike, Unordered, on-items, and-unordered, or-unordered, to_set-unordered, unordered-alike}
use Rattle.ess_rules_laws.proofs.LeastGreatest.{min-unordered, max-unordered}
use Rattle.ess_rules_laws.proofs.Unordered.{sum-unordered, product-unordered, all_diff-unordered}

-- ---- the same items equally often

add-perm : (v : Value) (xs : List Value) → Perm (add v xs) (v ∷ xs)
add-perm v [] = same_list
add-perm v (x ∷ xs) = go (order v x) (add-perm v xs)
  where
    go : (o : Ordering) → Perm (add v xs) (v ∷ xs) → Perm (add_by o v x xs (add v xs)) (v ∷ x ∷ xs)
    go Less p = same_list
    go Equal p = same_list
    go Greater p = chain (skip p) swap

sorted-perm : (xs : List Value) → Perm (sorted xs) xs
sorted-perm [] = same_list
sorted-perm (x ∷ xs) = chain (add-perm x (sorted xs)) (skip (sorted-perm xs))

sorted-same : (xs ys : List Value) → ((v : Value) → count xs v ≡ count ys v) → sorted xs ≡ sorted ys
sorted-same xs ys h = one-sorted-bag (sorted xs) (sorted ys) (sorted-rises xs) (sorted-rises ys) (λ v. count-sorted xs v ∙ h v
    ∙ sym (count-sorted ys v))

-- Lists with the same items equally often are one in some order.
pub perm-of-counts : (xs ys : List Value) → ((v : Value) → count xs v ≡ count ys v) → Perm xs ys
perm-of-counts xs ys h = chain (perm-sym (sorted-perm xs)) (chain (perm-of (sorted-same xs ys h)) (sorted-perm ys))

-- `toMSet`.
pub to_mset-unordered : Unordered Fun.ToMSet
to_mset-unordered xs ys p = on-items (λ l. Some (node a_mset (of_list (sorted l)))) xs ys
    (ap (λ l. Some (node a_mset (of_list l))) (sorted-same xs ys (count-perm p)))

-- ---- words that forget the order

-- So they are, each of them.
pub unordered-word : (f : Fun) → forgets_order (word f) ≡ true → Unordered f
unordered-word Fun.Sum h = sum-unordered
unordered-word Fun.Product h = product-unordered
unordered-word Fun.And h = and-unordered
unordered-word Fun.Or h = or-unordered
unordered-word Fun.Min h = min-unordered
unordered-word Fun.Max h = max-unordered
unordered-word Fun.AllDiff h = all_diff-unordered
unordered-word Fun.ToSet h = to_set-unordered
unordered-word Fun.ToMSet h = to_mset-unordered
unordered-word _ h = λ xs ys p. cc

alike-of : (o q : Option (List Value)) → SameItems (option_map list_value o) (option_map list_value q) → Alike o q
alike-of None None s = tt
alike-of (Some xs) (Some ys) s =
    perm-of-counts xs ys (λ v. ap (λ l. count l v) (sym (to_list-of_list xs)) ∙ s v ∙ ap (λ l. count l v) (to_list-of_list ys))
alike-of None (Some ys) s = absurd s
alike-of (Some xs) None s = absurd s

-- Over comprehensions with the same items equally often such a word means the same.
pub word-forgets : (f : Fun) → forgets_order (word f) ≡ true → (b : Bool) (e e' : Ex) (gs hs : Gens) (env : Env) →
    SameItems (meaning (comp_ex e gs) env) (meaning (comp_ex e' hs) env) →
    meaning (fun1 b f (comp_ex e gs)) env ≡ meaning (fun1 b f (comp_ex e' hs)) env
word-forgets f h b e e' gs hs env s =
    unordered-alike b f (unordered-word f h) (items_under gs env (λ here. option_map (λ v. v ∷ []) (meaning e here)))
    (items_under hs env (λ here. option_map (λ v. v ∷ []) (meaning e' here)))
    (alike-of (items_under gs env (λ here. option_map (λ v. v ∷ []) (meaning e here)))
    (items_under hs env (λ here. option_map (λ v. v ∷ []) (meaning e' here))) s)

-- So what a rule promises of a comprehension at its root, where order doesn't count, keeps the word over it.
pub root-kept : (P : Env → Type 0) (f : Fun) → forgets_order (word f) ≡ true → (b : Bool) (e e' : Ex) (gs hs : Gens) →
    KeptAtRoot false P (comp_ex e gs) (comp_ex e' hs) → KeptWhere P (fun1 b f (comp_ex e gs)) (fun1 b f (comp_ex e' hs))
root-kept P f h b e e' gs hs k env p m = let r = k env p m.0 in (word-forgets f h b e e' gs hs env r.0, (r.1, tt))
