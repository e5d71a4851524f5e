-- Values side by side with flags, one step on and at the end.
use Rattle.std.proofs.Common.{◌≡◌, refl, sym, ap, ◌∙◌, ℕ, ◌+◌, ◌<◌, ◌≤◌, Bool, true, false, if◌then◌else◌, List, [], ◌∷◌, ◌++◌, map, length, drop, get_or, ℤ, Option, Some, None, option_map}
use Rattle.std.proofs.lemmas.List.{at_drop_more, drop_all, map-append, append_assoc}
use Rattle.ess_semantics.specs.Lists.{and_then}
use Rattle.ess_semantics.specs.Values.{Value}
use Rattle.ess_semantics.specs.Tables.{truth_of}
use Rattle.ess_core.specs.declared.values.Val.{Val}
use Rattle.ess_core.specs.ValueViews.{pure_val}
use Rattle.ess_repr_rows_laws.specs.RowLayers.{picked}

-- One flag with its value.
pub picked_more : (ns : List ℤ) (vs : List Val) (k : ℕ) (d : ℤ) (e : Val) → k < length ns → k < length vs →
    picked (drop k ns) (map pure_val (drop k vs)) ≡
    and_then (truth_of (get_or ns k d)) (λ b. option_map (λ ys. if b then pure_val (get_or vs k e) ∷ ys else ys) (picked (drop (k + 1) ns) (map pure_val (drop (k + 1) vs))))
picked_more ns vs k d e h i =
    at_drop_more (λ l. picked l (map pure_val (drop k vs))) ns k d h ∙ at_drop_more (λ l. picked (get_or ns k d ∷ drop (k + 1) ns) (map pure_val l)) vs k e i

-- No value is left.
pub picked_short : (ns : List ℤ) (vs : List Val) (k : ℕ) → length vs ≤ k → picked (drop k ns) (map pure_val (drop k vs)) ≡ Some []
picked_short ns vs k h = ap (λ l. picked (drop k ns) (map pure_val l)) (drop_all k vs h) ∙ none (drop k ns)
  where
    none : (ms : List ℤ) → picked ms (map pure_val []) ≡ Some []
    none [] = refl
    none (m ∷ ms) = refl

-- What is left of the flags and the values, behind those that are picked.
abbrev pub Left : List ℤ → List Val → List Val → ℕ → Type 0
Left ns vs cs k = picked ns (map pure_val vs) ≡ option_map (λ ys. map pure_val cs ++ ys) (picked (drop k ns) (map pure_val (drop k vs)))

with-none : {A : Type 0} (xs : List A) → xs ++ [] ≡ xs
with-none [] = refl
with-none (x ∷ xs) = ap (λ l. x ∷ l) (with-none xs)

-- Nothing is left.
pub picked_end : (ns : List ℤ) (vs cs : List Val) (k : ℕ) → length vs ≤ k → Left ns vs cs k → Some (map pure_val cs) ≡ picked ns (map pure_val vs)
picked_end ns vs cs k h l =
    sym (l ∙ ap (option_map (λ ys. map pure_val cs ++ ys)) (picked_short ns vs k h) ∙ ap Some (with-none (map pure_val cs)))

-- A flag that is a truth value.
pub picked_next : (ns : List ℤ) (vs cs ds : List Val) (k : ℕ) (d : ℤ) (v : Val) → k < length ns → k < length vs → v ≡ get_or vs k v →
    option_map (λ t. if t then cs ++ v ∷ [] else cs) (truth_of (get_or ns k d)) ≡ Some ds → Left ns vs cs k → Left ns vs ds (k + 1)
picked_next ns vs cs ds k d v h i q e l =
    l ∙ ap (option_map (λ ys. map pure_val cs ++ ys))
    (picked_more ns vs k d v h i
    ∙ ap (λ x. and_then (truth_of (get_or ns k d)) (λ b. option_map (λ ys. if b then pure_val x ∷ ys else ys) rest)) (sym q))
    ∙ go (truth_of (get_or ns k d)) e
  where
    rest : Option (List Value)
    rest = picked (drop (k + 1) ns) (map pure_val (drop (k + 1) vs))

    push : (o : Option (List Value)) →
        option_map (λ ys. map pure_val cs ++ ys) (option_map (λ ys. pure_val v ∷ ys) o) ≡ option_map (λ ys. map pure_val (cs ++ v ∷ []) ++ ys) o
    push None = refl
    push (Some ys) = ap Some (sym (ap (λ l. l ++ ys) (map-append pure_val cs (v ∷ [])) ∙ append_assoc (map pure_val cs) (pure_val v ∷ []) ys))

    keep : (o : Option (List Value)) → option_map (λ ys. map pure_val cs ++ ys) (option_map (λ ys. ys) o) ≡ option_map (λ ys. map pure_val cs ++ ys) o
    keep None = refl
    keep (Some ys) = refl

    go : (t : Option Bool) → option_map (λ t. if t then cs ++ v ∷ [] else cs) t ≡ Some ds →
        option_map (λ ys. map pure_val cs ++ ys) (and_then t (λ b. option_map (λ ys. if b then pure_val v ∷ ys else ys) rest)) ≡ option_map (λ ys. map pure_val ds ++ ys) rest
    go None e = cc
    go (Some true) e = let z : cs ++ v ∷ [] ≡ ds = cc in push rest ∙ ap (λ l. option_map (λ ys. map pure_val l ++ ys) rest) z
    go (Some false) e = let z : cs ≡ ds = cc in keep rest ∙ ap (λ l. option_map (λ ys. map pure_val l ++ ys) rest) z
