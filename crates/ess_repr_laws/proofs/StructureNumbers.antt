-- What attributes mean as constraints, rows of truth values and numbers, and names that are bound.
use Rattle.std.proofs.Common.{◌≡◌, refl, sym, ap, ◌∙◌, ℕ, Bool, true, false, ◌||◌, not, List, [], ◌∷◌, ◌++◌, map, ℤ, pos, Option, Some, None, option_map, int_le, arith, append_assoc, ◌⊎◌, inl, inr}
use Rattle.std.specs.List.{list_all}
use Rattle.std.specs.Ordering.{is_lt, int_cmp, ordering_then}
use Rattle.ess_semantics.specs.declared.words.Op2.{Op2}
use Rattle.ess_semantics.specs.declared.words.Key.{Key}
use Rattle.ess_semantics.specs.Lists.{and_then, all_some}
use Rattle.ess_semantics.specs.Values.{Value, number, truth, to_list, of_list}
use Rattle.ess_semantics.specs.Order.{same_int, order, orders, order_ints}
use Rattle.ess_semantics.specs.Trees.{Mark, flag, valued, Ex, Exs, no_exs, more_exs}
use Rattle.ess_semantics.specs.Domains.{Attribute, numbered, flagged}
use Rattle.ess_semantics.specs.Attributes.{size_holds, set_attributes_hold}
use Rattle.ess_semantics.specs.Operators.{as_list, list_value}
use Rattle.ess_semantics.specs.Tables.{code}
use Rattle.ess_semantics.specs.Meaning.{Env, as_int, attributes_of, cell_value, indices, meaning, meanings}
use Rattle.ess_semantics.proofs.Tests.{and-left, and-right}
use Rattle.ess_semantics.proofs.Orders.{same_int-equal, to_list-of_list}
use Rattle.ess_semantics.proofs.Connectives.{and-means, binary-means}
use Rattle.ess_repr_laws.specs.StructureParts.{add_ex, le_ex, key_ex, size_ex}
use Rattle.ess_repr_laws.specs.StructureMeaning.{Number, AllNumbers, fit}

-- ---- attributes

not-less : (a b : ℤ) → not (is_lt (int_cmp b a)) ≡ int_le a b
not-less a b = grind arith

-- `a <= b` of numbers.
pub le-means : (env : Env) (a b : Ex) (x y : ℤ) → Number a env x → Number b env y → meaning (le_ex a b) env ≡ Some (truth (int_le x y))
le-means env a b x y p r = binary-means env true Op2.Le a b (number x) (number y) p r ∙ ap (λ s. Some (truth s)) (not-less x y)

-- What an attribute asks of a set with n members.
pub key-means : (env : Env) (k : Key) (e m : Ex) (z : ℤ) (n : ℕ) → Number e env z → Number m env (pos n) → meaning (key_ex k e m) env ≡ Some (truth (size_holds k z n))
key-means env Key.Size e m z n p r = and-means env (le_ex e m) (le_ex m e) (int_le z (pos n)) (int_le (pos n) z) (le-means env e m z (pos n) p r) (le-means env m e (pos n) z r p)
key-means env Key.MinSize e m z n p r = le-means env e m z (pos n) p r
key-means env Key.MaxSize e m z n p r = le-means env m e (pos n) z r p
key-means env _ e m z n p r = refl

-- What the attributes ask of a set with n members.
pub size-means : (env : Env) (ms : List Mark) (es : Exs) (m : Ex) (n : ℕ) (ks : List Attribute) → AllNumbers es env → attributes_of ms (meanings es env) ≡ Some ks → Number m env (pos n) →
    meaning (size_ex ms es m) env ≡ Some (truth (set_attributes_hold ks n))
size-means env [] no_exs m n ks a e r = let q : [] ≡ ks = cc in ap (λ l. Some (truth (set_attributes_hold l n))) q
size-means env [] (more_exs x es) m n ks a e r = cc
size-means env (flag k ∷ ms) es m n ks a e r = go (attributes_of ms (meanings es env)) refl e (λ ls p. size-means env ms es m n ls a p r)
  where
    go : (o : Option (List Attribute)) → attributes_of ms (meanings es env) ≡ o → option_map (λ xs. flagged k ∷ xs) o ≡ Some ks →
        ((ls : List Attribute) → attributes_of ms (meanings es env) ≡ Some ls → meaning (size_ex ms es m) env ≡ Some (truth (set_attributes_hold ls n))) → meaning (size_ex ms es m) env ≡ Some (truth (set_attributes_hold ks n))
    go None p e ih = cc
    go (Some ls) p e ih = let q : flagged k ∷ ls ≡ ks = cc in ih ls p ∙ ap (λ l. Some (truth (set_attributes_hold l n))) q
size-means env (valued k ∷ ms) no_exs m n ks a e r = cc
size-means env (valued k ∷ ms) (more_exs x es) m n ks a e r = go (as_int (meaning x env)) (attributes_of ms (meanings es env)) refl refl e (λ ls p. size-means env ms es m n ls a.1 p r)
  where
    go : (v : Option ℤ) (o : Option (List Attribute)) → as_int (meaning x env) ≡ v → attributes_of ms (meanings es env) ≡ o → and_then v (λ z. option_map (λ xs. numbered k z ∷ xs) o) ≡ Some ks →
        ((ls : List Attribute) → attributes_of ms (meanings es env) ≡ Some ls → meaning (size_ex ms es m) env ≡ Some (truth (set_attributes_hold ls n))) → meaning (size_ex (valued k ∷ ms) (more_exs x es) m) env ≡ Some (truth (set_attributes_hold ks n))
    go None o w p e ih = cc
    go (Some z) None w p e ih = cc
    go (Some z) (Some ls) w p e ih =
        let q : numbered k z ∷ ls ≡ ks = cc in
        and-means env (key_ex k x m) (size_ex ms es m) (size_holds k z n) (set_attributes_hold ls n) (key-means env k x m z n (a.0 z w) r) (ih ls p)
        ∙ ap (λ l. Some (truth (set_attributes_hold l n))) q

-- ---- rows of truth values and numbers

-- Cells are compared as numbers are.
pub cell-order : (b : Bool) (x y : ℤ) → fit b x ≡ true → fit b y ≡ true → order (cell_value b x) (cell_value b y) ≡ int_cmp x y
cell-order false x y p q = refl
cell-order true x y p q = go (bit x p) (bit y q)
  where
    bit : (z : ℤ) → same_int z (pos 0) || same_int z (pos 1) ≡ true → (z ≡ pos 0) ⊎ (z ≡ pos 1)
    bit z h = here (same_int z (pos 0)) refl h
      where
        here : (b : Bool) → same_int z (pos 0) ≡ b → b || same_int z (pos 1) ≡ true → (z ≡ pos 0) ⊎ (z ≡ pos 1)
        here true e h = inl (same_int-equal z (pos 0) e)
        here false e h = inr (same_int-equal z (pos 1) h)

    both : (a b : ℤ) → order (cell_value true a) (cell_value true b) ≡ int_cmp a b → x ≡ a → y ≡ b → order (cell_value true x) (cell_value true y) ≡ int_cmp x y
    both a b e p q = ap (λ z. order (cell_value true z) (cell_value true y)) p ∙ ap (λ z. order (cell_value true a) (cell_value true z)) q ∙ e ∙ ap (λ z. int_cmp a z) (sym q) ∙ ap (λ z. int_cmp z y) (sym p)

    go : (x ≡ pos 0) ⊎ (x ≡ pos 1) → (y ≡ pos 0) ⊎ (y ≡ pos 1) → order (cell_value true x) (cell_value true y) ≡ int_cmp x y
    go (inl p) (inl q) = both (pos 0) (pos 0) refl p q
    go (inl p) (inr q) = both (pos 0) (pos 1) refl p q
    go (inr p) (inl q) = both (pos 1) (pos 0) refl p q
    go (inr p) (inr q) = both (pos 1) (pos 1) refl p q

row-order : (b : Bool) (xs ys : List ℤ) → list_all (fit b) xs ≡ true → list_all (fit b) ys ≡ true → orders (of_list (map (cell_value b) xs)) (of_list (map (cell_value b) ys)) ≡ order_ints xs ys
row-order b [] [] p q = refl
row-order b [] (y ∷ ys) p q = refl
row-order b (x ∷ xs) [] p q = refl
row-order b (x ∷ xs) (y ∷ ys) p q =
    ap (λ o. ordering_then o (orders (of_list (map (cell_value b) xs)) (of_list (map (cell_value b) ys)))) (cell-order b x y (and-left (fit b x) (list_all (fit b) xs) p) (and-left (fit b y) (list_all (fit b) ys) q))
    ∙ ap (ordering_then (int_cmp x y)) (row-order b xs ys (and-right (fit b x) (list_all (fit b) xs) p) (and-right (fit b y) (list_all (fit b) ys) q))

-- The list of a row, of truth values or numbers.
abbrev pub row_value : Bool → List ℤ → Value
row_value b xs = list_value (map (cell_value b) xs)

-- Rows are compared as lists of values are.
pub lex-order : (b : Bool) (xs ys : List ℤ) → list_all (fit b) xs ≡ true → list_all (fit b) ys ≡ true → order (as_list (row_value b xs)) (as_list (row_value b ys)) ≡ order_ints xs ys
lex-order b xs ys p q =
    ap (λ l. orders (of_list l) (of_list (to_list (of_list (map (cell_value b) ys))))) (to_list-of_list (map (cell_value b) xs))
    ∙ ap (λ l. orders (of_list (map (cell_value b) xs)) (of_list l)) (to_list-of_list (map (cell_value b) ys)) ∙ row-order b xs ys p q

-- ---- bound names

-- The answers of f, one list behind the other.
abbrev pub spread : (ℤ → List Value) → List ℤ → List Value
spread f [] = []
spread f (x ∷ xs) = f x ++ spread f xs

-- Those on two lists.
pub spread-append : (f : ℤ → List Value) (xs ys : List ℤ) → spread f (xs ++ ys) ≡ spread f xs ++ spread f ys
spread-append f [] ys = refl
spread-append f (x ∷ xs) ys = ap (λ l. f x ++ l) (spread-append f xs ys) ∙ sym (append_assoc (f x) (spread f xs) (spread f ys))

-- The meanings of one more operand.
pub meanings-add : (is : Exs) (e : Ex) (env : Env) → meanings (add_ex is e) env ≡ meanings is env ++ (meaning e env ∷ [])
meanings-add no_exs e env = refl
meanings-add (more_exs x is) e env = ap (λ l. meaning x env ∷ l) (meanings-add is e env)

-- An index list with one more index.
pub indices-add : (os : List (Option Value)) (v : Value) (js : List ℤ) → indices os ≡ Some js → indices (os ++ (Some v ∷ [])) ≡ Some (js ++ (code v ∷ []))
indices-add os v js e = go (all_some os) refl e
  where
    add : (os : List (Option Value)) (vs : List Value) → all_some os ≡ Some vs → all_some (os ++ (Some v ∷ [])) ≡ Some (vs ++ (v ∷ []))
    add [] vs e = let w : [] ≡ vs = cc in ap (λ l. Some (l ++ (v ∷ []))) w
    add (None ∷ os) vs e = cc
    add (Some x ∷ os) vs e = here (all_some os) refl e (λ us p. add os us p)
      where
        here : (o : Option (List Value)) → all_some os ≡ o → option_map (λ xs. x ∷ xs) o ≡ Some vs → ((us : List Value) → all_some os ≡ Some us → all_some (os ++ (Some v ∷ [])) ≡ Some (us ++ (v ∷ []))) →
            option_map (λ xs. x ∷ xs) (all_some (os ++ (Some v ∷ []))) ≡ Some (vs ++ (v ∷ []))
        here None p e f = cc
        here (Some us) p e f = let w : x ∷ us ≡ vs = cc in ap (option_map (λ xs. x ∷ xs)) (f us p) ∙ ap (λ l. Some (l ++ (v ∷ []))) w

    codes : (vs : List Value) → map code (vs ++ (v ∷ [])) ≡ map code vs ++ (code v ∷ [])
    codes [] = refl
    codes (x ∷ vs) = ap (λ l. code x ∷ l) (codes vs)

    go : (o : Option (List Value)) → all_some os ≡ o → option_map (map code) o ≡ Some js → indices (os ++ (Some v ∷ [])) ≡ Some (js ++ (code v ∷ []))
    go None p e = cc
    go (Some vs) p e = let w : map code vs ≡ js = cc in ap (option_map (map code)) (add os vs p) ∙ ap Some (codes vs) ∙ ap (λ l. Some (l ++ (code v ∷ []))) w

-- q: the names that are bound, no two of them equal
