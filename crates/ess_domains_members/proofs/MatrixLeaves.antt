-- A nested matrix has elements with a property where its leaves have it.
use Rattle.std.proofs.Common.{◌≡◌, refl, sym, ap, ◌∙◌, ℕ, suc, ◌+◌, ◌<◌, ◌≤◌, Bool, true, false, ◌&&◌, List, [], ◌∷◌, ◌++◌, map, length, drop, get_or, Option, Some, None, option_map, nat_eq, arith}
use Rattle.std.specs.List.{list_all}
use Rattle.std.proofs.lemmas.List.{append_assoc, append-nil, at_drop_more, at_drop_all}
use Rattle.std.proofs.lemmas.List.Folds.{list_all-append}
use Rattle.ess_semantics.specs.Lists.{and_then, when, is_some_and, all_some, append_all}
use Rattle.ess_semantics.specs.Values.{Value, matrix, to_list}
use Rattle.ess_semantics.specs.Domains.{Domain, Domains, no_domains, more_domains, members}
use Rattle.ess_semantics.specs.Membership.{same_list, nested_matrix}
use Rattle.ess_core.specs.declared.values.Val.{Val}
use Rattle.ess_core.specs.ValueViews.{pure_val}
use Rattle.ess_values.proofs.Ahead.{ahead, ahead_more, ahead_all}
use Rattle.ess_eval_domains.specs.declared.closed.Closed.{Closed}
use Rattle.ess_eval_domains.specs.ClosedViews.{pure_closed, pure_closeds}
use Rattle.ess_domains_members.specs.Leaves.{matrix_items, all_items, leaves}

-- ---- one index

when-all : {A : Type 0} (b c : Bool) (f : A → Bool) (xs : List A) → b && c && list_all f xs ≡ is_some_and (when (b && c) xs) (list_all f)
when-all true true f xs = refl
when-all true false f xs = refl
when-all false true f xs = refl
when-all false false f xs = refl

one-matrix : (i : Domain) (is : Domains) (f : Value → Bool) (v : Value)
    → nested_matrix (more_domains i is) f v ≡ is_some_and (matrix_items (members i) v) (list_all (nested_matrix is f))
one-matrix i is f (matrix ix xs) =
    when-all (is_some_and (members i) (λ vs. same_list vs (to_list ix))) (nat_eq (length (to_list ix)) (length (to_list xs))) (nested_matrix is f) (to_list xs)
one-matrix i is f _ = refl

gathered : (g : Value → Option (List Value)) (f h : Value → Bool) → ((v : Value) → f v ≡ is_some_and (g v) (list_all h))
    → (vs : List Value) → list_all f vs ≡ is_some_and (option_map append_all (all_some (map g vs))) (list_all h)
gathered g f h e [] = refl
gathered g f h e (v ∷ vs) =
    ap (λ b. b && list_all f vs) (e v) ∙ ap (λ b. is_some_and (g v) (list_all h) && b) (gathered g f h e vs) ∙ go (g v) (all_some (map g vs))
  where
    go : (o : Option (List Value)) (p : Option (List (List Value))) → is_some_and o (list_all h) && is_some_and (option_map append_all p) (list_all h)
        ≡ is_some_and (option_map append_all (and_then o (λ x. option_map (λ xs. x ∷ xs) p))) (list_all h)
    go None p = refl
    go (Some x) None = false-right (list_all h x)
      where
        false-right : (b : Bool) → b && false ≡ false
        false-right true = refl
        false-right false = refl
    go (Some x) (Some xs) = sym (list_all-append h x (append_all xs))

then-leaves : (f g : List Value → Bool) (k : List Value → Option (List Value)) → ((vs : List Value) → f vs ≡ is_some_and (k vs) g)
    → (o : Option (List Value)) → is_some_and o f ≡ is_some_and (and_then o k) g
then-leaves f g k e None = refl
then-leaves f g k e (Some vs) = e vs

-- ---- all indices

pub leaves-all : (is : Domains) (f : Value → Bool) (vs : List Value) → list_all (nested_matrix is f) vs ≡ is_some_and (leaves is vs) (list_all f)
leaves-all no_domains f vs = refl
leaves-all (more_domains i is) f vs =
    gathered (matrix_items (members i)) (nested_matrix (more_domains i is) f) (nested_matrix is f) (one-matrix i is f) vs
    ∙ then-leaves (list_all (nested_matrix is f)) (list_all f) (leaves is) (leaves-all is f) (all_items (members i) vs)

pub one-nested : (is : Domains) (f : Value → Bool) (v : Value) → nested_matrix is f v ≡ is_some_and (leaves is (v ∷ [])) (list_all f)
one-nested is f v = go (nested_matrix is f v) ∙ leaves-all is f (v ∷ [])
  where
    go : (b : Bool) → b ≡ b && true
    go true = refl
    go false = refl

-- ---- the loop over index domains

pub leaves_more : (is : List Closed) (i : ℕ) (d : Closed) (vs ws : List Val) → i < length is → d ≡ get_or is i d
    → Some (map pure_val ws) ≡ all_items (members (pure_closed d)) (map pure_val vs)
    → leaves (pure_closeds (drop i is)) (map pure_val vs) ≡ leaves (pure_closeds (drop (i + 1) is)) (map pure_val ws)
leaves_more is i d vs ws h at e =
    at_drop_more (λ l. leaves (pure_closeds l) (map pure_val vs)) is i d h
    ∙ ap (λ c. leaves (more_domains (pure_closed c) (pure_closeds (drop (i + 1) is))) (map pure_val vs)) (sym at)
    ∙ ap (λ o. and_then o (leaves (pure_closeds (drop (i + 1) is)))) (sym e)

pub leaves_none : (is : List Closed) (i : ℕ) (d : Closed) (vs : List Val) → i < length is → d ≡ get_or is i d
    → None ≡ all_items (members (pure_closed d)) (map pure_val vs) → leaves (pure_closeds (drop i is)) (map pure_val vs) ≡ None
leaves_none is i d vs h at e =
    at_drop_more (λ l. leaves (pure_closeds l) (map pure_val vs)) is i d h
    ∙ ap (λ c. leaves (more_domains (pure_closed c) (pure_closeds (drop (i + 1) is))) (map pure_val vs)) (sym at)
    ∙ ap (λ o. and_then o (leaves (pure_closeds (drop (i + 1) is)))) (sym e)

pub leaves_end : (is : List Closed) (i : ℕ) (vs : List Val) → length is ≤ i → leaves (pure_closeds (drop i is)) (map pure_val vs) ≡ Some (map pure_val vs)
leaves_end is i vs h = at_drop_all (λ l. leaves (pure_closeds l) (map pure_val vs)) is i h

-- ---- the loop over matrices

next-items : (o : Option (List Value)) (v : Value) (vs before own : List Value) → Some own ≡ matrix_items o v
    → ahead before (all_items o (v ∷ vs)) ≡ ahead (before ++ own) (all_items o vs)
next-items o v vs before own e =
    ap (λ p. ahead before (option_map append_all (and_then p (λ x. option_map (λ xs. x ∷ xs) (all_some (map (matrix_items o) vs)))))) (sym e)
    ∙ go (all_some (map (matrix_items o) vs))
  where
    go : (p : Option (List (List Value))) → ahead before (option_map append_all (option_map (λ xs. own ∷ xs) p)) ≡ ahead (before ++ own) (option_map append_all p)
    go None = refl
    go (Some xs) = ap Some (sym (append_assoc before own (append_all xs)))

pub items_more : (o : Option (List Value)) (vs : List Val) (i : ℕ) (v : Val) (before own after : List Val) → i < length vs → v ≡ get_or vs i v
    → Some (map pure_val own) ≡ matrix_items o (pure_val v) → map pure_val after ≡ map pure_val before ++ map pure_val own
    → ahead (map pure_val before) (all_items o (map pure_val (drop i vs))) ≡ ahead (map pure_val after) (all_items o (map pure_val (drop (i + 1) vs)))
items_more o vs i v before own after h at e p =
    at_drop_more (λ l. ahead (map pure_val before) (all_items o (map pure_val l))) vs i v h
    ∙ ap (λ w. ahead (map pure_val before) (all_items o (pure_val w ∷ map pure_val (drop (i + 1) vs)))) (sym at)
    ∙ next-items o (pure_val v) (map pure_val (drop (i + 1) vs)) (map pure_val before) (map pure_val own) e
    ∙ ap (λ l. ahead l (all_items o (map pure_val (drop (i + 1) vs)))) (sym p)

pub items_none : (o : Option (List Value)) (vs : List Val) (i : ℕ) (v : Val) (before : List Val) → i < length vs → v ≡ get_or vs i v
    → None ≡ matrix_items o (pure_val v) → ahead (map pure_val before) (all_items o (map pure_val (drop i vs))) ≡ None
items_none o vs i v before h at e =
    at_drop_more (λ l. ahead (map pure_val before) (all_items o (map pure_val l))) vs i v h
    ∙ ap (λ w. ahead (map pure_val before) (all_items o (pure_val w ∷ map pure_val (drop (i + 1) vs)))) (sym at)
    ∙ ap (λ p. ahead (map pure_val before) (option_map append_all (and_then p (λ x. option_map (λ xs. x ∷ xs) (all_some (map (matrix_items o) (map pure_val (drop (i + 1) vs)))))))) (sym e)

pub items_end : (o : Option (List Value)) (vs : List Val) (i : ℕ) (before : List Val) → length vs ≤ i
    → ahead (map pure_val before) (all_items o (map pure_val (drop i vs))) ≡ Some (map pure_val before)
items_end o vs i before h = at_drop_all (λ l. ahead (map pure_val before) (all_items o (map pure_val l))) vs i h ∙ ahead_all (map pure_val before)
