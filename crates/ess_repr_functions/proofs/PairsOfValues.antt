-- Pairs made of arguments and values, and tuples of two as pairs.
use Rattle.std.proofs.Common.{◌≡◌, refl, sym, ap, ◌∙◌, ℕ, ◌+◌, ◌<◌, ◌≤◌, List, [], ◌∷◌, ◌++◌, map, length, drop, get_or}
use Rattle.std.proofs.lemmas.List.{append_assoc, append-nil, map-append, at_drop_more, at_drop_all}
use Rattle.ess_semantics.specs.Values.{Value, pair}
use Rattle.ess_semantics.specs.Collections.{function_of}
use Rattle.ess_semantics.specs.FunctionLayers.{with_arguments, function_from}
use Rattle.ess_semantics.proofs.Orders.{to_list-of_list}
use Rattle.ess_core.specs.declared.values.Val.{Val}
use Rattle.ess_core.specs.declared.values.Val.TheVariants as variant
use Rattle.ess_core.specs.declared.values.Pair.{Pair}
use Rattle.ess_core.specs.ValueViews.{pure_val, pure_pair}
use Rattle.ess_core.proofs.ValueEquations.{pure_tuple, pure_relation}

-- What is left of arguments and values, behind the pairs that are made.
abbrev pub Left : List Val → List Val → List Pair → ℕ → Type 0
Left xs vs ps i =
    with_arguments (map pure_val xs) (map pure_val vs)
    ≡ map pure_pair ps ++ with_arguments (map pure_val (drop i xs)) (map pure_val (drop i vs))

-- One pair more.
pub pairs_more : (xs vs : List Val) (i : ℕ) (x v : Val) (p : Pair) (old new : List Pair) → i < length xs → i < length vs →
    x ≡ get_or xs i x → v ≡ get_or vs i v →
    pure_pair p ≡ pair (pure_val x) (pure_val v) → new ≡ old ++ p ∷ [] → Left xs vs old i → Left xs vs new (i + 1)
pairs_more xs vs i x v p old new h k is it e q l =
    let rest = with_arguments (map pure_val (drop (i + 1) xs)) (map pure_val (drop (i + 1) vs)) in
    l ∙ ap (λ m. map pure_pair old ++ m)
    (at_drop_more (λ m. with_arguments (map pure_val m) (map pure_val (drop i vs))) xs i x h
    ∙ at_drop_more (λ m. with_arguments (map pure_val (get_or xs i x ∷ drop (i + 1) xs)) (map pure_val m)) vs i v k
    ∙ ap (λ y. pair (pure_val y) (pure_val (get_or vs i v)) ∷ rest) (sym is) ∙ ap (λ y. pair (pure_val x) (pure_val y) ∷ rest) (sym it)
    ∙ ap (λ y. y ∷ rest) (sym e))
    ∙ sym (ap (λ m. map pure_pair m ++ rest) q ∙ ap (λ m. m ++ rest) (map-append pure_pair old (p ∷ []))
    ∙ append_assoc (map pure_pair old) (pure_pair p ∷ []) rest)

without-values : (xs : List Value) → with_arguments xs [] ≡ []
without-values [] = refl
without-values (x ∷ xs) = refl

-- No value is left.
pub pairs_short : (xs vs : List Val) (i : ℕ) (ps : List Pair) → length vs ≤ i → Left xs vs ps i →
    map pure_pair ps ≡ with_arguments (map pure_val xs) (map pure_val vs)
pairs_short xs vs i ps h l =
    sym (l ∙ ap (λ m. map pure_pair ps ++ m) (at_drop_all (λ m. with_arguments (map pure_val (drop i xs)) (map pure_val m)) vs i h
    ∙ without-values (map pure_val (drop i xs)))
    ∙ append-nil (map pure_pair ps))

-- No argument is left.
pub pairs_all : (xs vs : List Val) (i : ℕ) (ps : List Pair) → length xs ≤ i → Left xs vs ps i →
    map pure_pair ps ≡ with_arguments (map pure_val xs) (map pure_val vs)
pairs_all xs vs i ps h l =
    sym (l ∙ ap (λ m. map pure_pair ps ++ m) (at_drop_all (λ m. with_arguments (map pure_val m) (map pure_val (drop i vs))) xs i h)
    ∙ append-nil (map pure_pair ps))

pub ruleset pairs_made = (pairs_more, pairs_short, pairs_all)

-- A tuple of two is the pair of its parts.
pub pair_of_two : (t : Val) (vs : List Val) (x y : Val) (p : Pair) → t ≡ variant.Tuple vs → length vs ≡ 2 → x ≡ get_or vs 0 x →
    y ≡ get_or vs 1 y →
    pure_pair p ≡ pair (pure_val x) (pure_val y) → pure_pair p ≡ pure_val t
pair_of_two t [] x y p e l is it q = cc
pair_of_two t (a ∷ []) x y p e l is it q = cc
pair_of_two t (a ∷ b ∷ []) x y p e l is it q =
    q ∙ ap (λ z. pair (pure_val z) (pure_val y)) is ∙ ap (λ z. pair (pure_val a) (pure_val z)) it
    ∙ sym (ap pure_val e ∙ pure_tuple (a ∷ b ∷ []))
pair_of_two t (a ∷ b ∷ c ∷ vs) x y p e l is it q = cc

-- The pairs of a relation.
pub relation_read : (v : Val) (ts us : List Val) → v ≡ variant.Relation ts → us ≡ ts →
    function_of (map pure_val us) ≡ function_from (pure_val v)
relation_read v ts us e q =
    ap (λ l. function_of (map pure_val l)) q
    ∙ sym (ap (λ w. function_from (pure_val w)) e ∙ ap function_from (pure_relation ts)
    ∙ ap function_of (to_list-of_list (map pure_val ts)))
