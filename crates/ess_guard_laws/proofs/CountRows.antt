-- A sum of ones over generators counts the items of a comprehension over them.
use Rattle.std.proofs.Common.{◌≡◌, refl, sym, ap, ◌∙◌, true, false, List, [], ◌∷◌, ◌++◌, length, pos, ◌+ℤ◌, Option, Some, None, option_map, length-append}
use Rattle.std.proofs.Math.IntN.{+ℤ_idl, +ℤ_assoc}
use Rattle.ess_semantics.specs.Lists.{and_then}
use Rattle.ess_semantics.specs.Values.{Value, number, truth, item, node, items_of}
use Rattle.ess_semantics.specs.Trees.{Gens, no_gens, over, from, cond}
use Rattle.ess_semantics.specs.Operators.{number_in, sum_of}
use Rattle.ess_semantics.specs.Meaning.{Env, meaning, items_under, with_pat, collect, where_true, domain_of, members_in}

-- The sum of the second list is the length of the first.
abbrev pub Counts : Option (List Value) → Option (List Value) → Type 0
Counts None p = Unit {0}
Counts (Some xs) None = ⊥
Counts (Some xs) (Some ys) = sum_of ys ≡ pos (length xs)

sum-append : (xs ys : List Value) → sum_of (xs ++ ys) ≡ sum_of xs +ℤ sum_of ys
sum-append [] ys = sym (+ℤ_idl (sum_of ys))
sum-append (x ∷ xs) ys = ap (λ z. number_in x +ℤ z) (sum-append xs ys) ∙ sym (+ℤ_assoc (number_in x) (sum_of xs) (sum_of ys))

counts-append : (o p c d : Option (List Value)) → Counts o p → Counts c d → Counts (and_then o (λ xs. option_map (λ ys. xs ++ ys) c)) (and_then p (λ xs. option_map (λ ys. xs ++ ys) d))
counts-append None p c d a b = tt
counts-append (Some xs) None c d a b = absurd a
counts-append (Some xs) (Some ys) None d a b = tt
counts-append (Some xs) (Some ys) (Some us) None a b = absurd b
counts-append (Some xs) (Some ys) (Some us) (Some vs) a b =
    sum-append ys vs ∙ ap (λ z. z +ℤ sum_of vs) a ∙ ap (λ z. pos (length xs) +ℤ z) b ∙ ap pos (sym (length-append xs us))

counts-collect : (vs : List Value) (f g : Value → Option (List Value)) → ((v : Value) → Counts (f v) (g v)) → Counts (collect vs f) (collect vs g)
counts-collect [] f g h = refl
counts-collect (v ∷ vs) f g h = counts-append (f v) (g v) (collect vs f) (collect vs g) (h v) (counts-collect vs f g h)

-- So it is over generators.
pub counts-under : (gs : Gens) (env : Env) (i j : Env → Option (List Value)) → ((here : Env) → Counts (i here) (j here)) → Counts (items_under gs env i) (items_under gs env j)
counts-under no_gens env i j h = h env
counts-under (over p d gs) env i j h = go (members_in (domain_of d env)) (λ v. counts-under gs (with_pat p v env) i j h)
  where
    go : (o : Option (List Value)) → ((v : Value) → Counts (items_under gs (with_pat p v env) i) (items_under gs (with_pat p v env) j)) →
        Counts (and_then o (λ vs. collect vs (λ v. items_under gs (with_pat p v env) i))) (and_then o (λ vs. collect vs (λ v. items_under gs (with_pat p v env) j)))
    go None k = tt
    go (Some vs) k = counts-collect vs _ _ k
counts-under (from p e gs) env i j h = go (meaning e env) (λ v. counts-under gs (with_pat p v env) i j h)
  where
    go : (o : Option Value) → ((v : Value) → Counts (items_under gs (with_pat p v env) i) (items_under gs (with_pat p v env) j)) →
        Counts (and_then o (λ s. collect (items_of s) (λ v. items_under gs (with_pat p v env) i))) (and_then o (λ s. collect (items_of s) (λ v. items_under gs (with_pat p v env) j)))
    go None k = tt
    go (Some s) k = counts-collect (items_of s) _ _ k
counts-under (cond c gs) env i j h = go (meaning c env) (counts-under gs env i j h)
  where
    go : (o : Option Value) → Counts (items_under gs env i) (items_under gs env j) → Counts (where_true o (λ u. items_under gs env i)) (where_true o (λ u. items_under gs env j))
    go (Some (truth true)) k = k
    go (Some (truth false)) k = refl
    go (Some (number n)) k = refl
    go (Some (item t n)) k = refl
    go (Some (node a b)) k = refl
    go None k = refl

-- One item.
pub one-counts : (o : Option Value) → Counts (option_map (λ u. u ∷ []) o) (Some (number (pos 1) ∷ []))
one-counts None = tt
one-counts (Some v) = refl
