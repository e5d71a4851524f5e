-- Two lists at each binding of generators: the items of both are those of the first at all bindings, and those of the second.
use Rattle.std.proofs.Common.{◌≡◌, refl, ap, ◌∙◌, ◌+◌, true, false, List, [], ◌∷◌, ◌++◌, Option, Some, None, option_map, arith}
use Rattle.std.specs.Prelude.{is_some}
use Rattle.ess_semantics.specs.Lists.{and_then}
use Rattle.ess_semantics.specs.Values.{Value, number, truth, item, node, items_of}
use Rattle.ess_semantics.specs.Collections.{count}
use Rattle.ess_semantics.specs.Trees.{Gens, no_gens, over, from, cond}
use Rattle.ess_semantics.specs.Meaning.{Env, meaning, domain_of, members_in, items_under, with_pat, collect, where_true}
use Rattle.ess_semantics.proofs.Repeats.{count-append}
use Rattle.ess_rules_laws.proofs.Folds.{perm-counts}
use Rattle.ess_rules_laws.proofs.Permutations.{Perm, same_list, perm-behind, Alike, alike-itself, alike-chain, collect-alike}
use Rattle.ess_rules_laws.proofs.RuleAnswers.{each-any}
use Rattle.ess_rules_laws.proofs.Splices.{first-there, rest-there}

-- ---- lists one behind the other

abbrev pub Joined : Option (List Value) → Option (List Value) → Option (List Value)
Joined o c = and_then o (λ xs. option_map (λ ys. xs ++ ys) c)

pub joined-alike : (o c d : Option (List Value)) → Alike c d → Alike (Joined o c) (Joined o d)
joined-alike None c d p = tt
joined-alike (Some a) None None p = tt
joined-alike (Some a) (Some c) (Some d) p = perm-behind a p
joined-alike (Some a) None (Some d) p = absurd p
joined-alike (Some a) (Some c) None p = absurd p

crossed : (a b c d : List Value) → Perm ((a ++ b) ++ (c ++ d)) ((a ++ c) ++ (b ++ d))
crossed a b c d = perm-counts ((a ++ b) ++ (c ++ d)) ((a ++ c) ++ (b ++ d)) (λ v.
    let e : count ((a ++ b) ++ (c ++ d)) v ≡ count (a ++ b) v + count (c ++ d) v = count-append (a ++ b) (c ++ d) v in
    let e1 : count (a ++ b) v ≡ count a v + count b v = count-append a b v in
    let e2 : count (c ++ d) v ≡ count c v + count d v = count-append c d v in
    let f : count ((a ++ c) ++ (b ++ d)) v ≡ count (a ++ c) v + count (b ++ d) v = count-append (a ++ c) (b ++ d) v in
    let f1 : count (a ++ c) v ≡ count a v + count c v = count-append a c v in
    let f2 : count (b ++ d) v ≡ count b v + count d v = count-append b d v in
    omega arith)

joined-across : (a b c d : Option (List Value)) → Alike (Joined (Joined a b) (Joined c d)) (Joined (Joined a c) (Joined b d))
joined-across None b c d = tt
joined-across (Some a) None None d = tt
joined-across (Some a) None (Some c) d = tt
joined-across (Some a) (Some b) None d = tt
joined-across (Some a) (Some b) (Some c) None = tt
joined-across (Some a) (Some b) (Some c) (Some d) = crossed a b c d

collect-across : (vs : List Value) (F G : Value → Option (List Value)) →
    Alike (collect vs (λ v. Joined (F v) (G v))) (Joined (collect vs F) (collect vs G))
collect-across [] F G = same_list
collect-across (v ∷ vs) F G = alike-chain (Joined (Joined (F v) (G v)) (collect vs (λ v. Joined (F v) (G v))))
    (Joined (Joined (F v) (G v)) (Joined (collect vs F) (collect vs G)))
    (Joined (Joined (F v) (collect vs F)) (Joined (G v) (collect vs G)))
    (joined-alike (Joined (F v) (G v)) (collect vs (λ v. Joined (F v) (G v))) (Joined (collect vs F) (collect vs G))
    (collect-across vs F G)) (joined-across (F v) (G v) (collect vs F) (collect vs G))

some-across : (vs : List Value) (H F G : Value → Option (List Value)) → ((v : Value) → Alike (H v) (Joined (F v) (G v))) →
    Alike (collect vs H) (Joined (collect vs F) (collect vs G))
some-across vs H F G h = alike-chain (collect vs H) (collect vs (λ v. Joined (F v) (G v))) (Joined (collect vs F) (collect vs G))
    (collect-alike vs H (λ v. Joined (F v) (G v)) (each-any vs _ h)) (collect-across vs F G)

over-across : (o : Option (List Value)) (H F G : Value → Option (List Value)) → ((v : Value) → Alike (H v) (Joined (F v) (G v))) →
    Alike (and_then o (λ vs. collect vs H)) (Joined (and_then o (λ vs. collect vs F)) (and_then o (λ vs. collect vs G)))
over-across None H F G h = tt
over-across (Some vs) H F G h = some-across vs H F G h

from-across : (o : Option Value) (H F G : Value → Option (List Value)) → ((v : Value) → Alike (H v) (Joined (F v) (G v))) →
    Alike (and_then o (λ s. collect (items_of s) H))
    (Joined (and_then o (λ s. collect (items_of s) F)) (and_then o (λ s. collect (items_of s) G)))
from-across None H F G h = tt
from-across (Some s) H F G h = some-across (items_of s) H F G h

where-across : (o : Option Value) (x a b : Option (List Value)) → Alike x (Joined a b) →
    Alike (where_true o (λ u. x)) (Joined (where_true o (λ u. a)) (where_true o (λ u. b)))
where-across None x a b h = same_list
where-across (Some (truth true)) x a b h = h
where-across (Some (truth false)) x a b h = same_list
where-across (Some (number n)) x a b h = same_list
where-across (Some (item t k)) x a b h = same_list
where-across (Some (node k vs)) x a b h = same_list

-- Two lists at each binding: all of the first, and all of the second.
pub items-across : (gs : Gens) (env : Env) (A B : Env → Option (List Value)) →
    Alike (items_under gs env (λ here. Joined (A here) (B here))) (Joined (items_under gs env A) (items_under gs env B))
items-across no_gens env A B = alike-itself (Joined (A env) (B env))
items-across (over p d gs) env A B = over-across (members_in (domain_of d env))
    (λ v. items_under gs (with_pat p v env) (λ here. Joined (A here) (B here))) (λ v. items_under gs (with_pat p v env) A)
    (λ v. items_under gs (with_pat p v env) B) (λ v. items-across gs (with_pat p v env) A B)
items-across (from p e gs) env A B = from-across (meaning e env)
    (λ v. items_under gs (with_pat p v env) (λ here. Joined (A here) (B here))) (λ v. items_under gs (with_pat p v env) A)
    (λ v. items_under gs (with_pat p v env) B) (λ v. items-across gs (with_pat p v env) A B)
items-across (cond c gs) env A B = where-across (meaning c env) (items_under gs env (λ here. Joined (A here) (B here)))
    (items_under gs env A) (items_under gs env B) (items-across gs env A B)

-- ---- nothing at each binding

collect-nothing : (vs : List Value) (F : Value → Option (List Value)) → ((v : Value) → is_some (F v) ≡ true → F v ≡ Some []) →
    is_some (collect vs F) ≡ true → collect vs F ≡ Some []
collect-nothing [] F h t = refl
collect-nothing (v ∷ vs) F h t = ap (λ o. Joined o (collect vs F)) (h v (first-there (F v) (collect vs F) t))
    ∙ ap (λ o. Joined (Some []) o) (collect-nothing vs F h (rest-there (F v) (collect vs F) t))

pub nothing : (gs : Gens) (env : Env) → is_some (items_under gs env (λ here. Some [])) ≡ true → items_under gs env (λ here. Some []) ≡ Some []
nothing no_gens env t = refl
nothing (over p d gs) env t = go (members_in (domain_of d env)) (λ v h. nothing gs (with_pat p v env) h) t
  where
    F : Value → Option (List Value)
    F v = items_under gs (with_pat p v env) (λ here. Some [])

    go : (o : Option (List Value)) → ((v : Value) → is_some (F v) ≡ true → F v ≡ Some []) →
        is_some (and_then o (λ vs. collect vs F)) ≡ true → and_then o (λ vs. collect vs F) ≡ Some []
    go None h t = cc
    go (Some vs) h t = collect-nothing vs F h t
nothing (from p e gs) env t = go (meaning e env) (λ v h. nothing gs (with_pat p v env) h) t
  where
    F : Value → Option (List Value)
    F v = items_under gs (with_pat p v env) (λ here. Some [])

    go : (o : Option Value) → ((v : Value) → is_some (F v) ≡ true → F v ≡ Some []) →
        is_some (and_then o (λ s. collect (items_of s) F)) ≡ true → and_then o (λ s. collect (items_of s) F) ≡ Some []
    go None h t = cc
    go (Some s) h t = collect-nothing (items_of s) F h t
nothing (cond c gs) env t = go (meaning c env) (λ h. nothing gs env h) t
  where
    go : (o : Option Value) →
        (is_some (items_under gs env (λ here. Some [])) ≡ true → items_under gs env (λ here. Some []) ≡ Some []) →
        is_some (where_true o (λ u. items_under gs env (λ here. Some []))) ≡ true →
        where_true o (λ u. items_under gs env (λ here. Some [])) ≡ Some []
    go None h t = refl
    go (Some (truth true)) h t = h t
    go (Some (truth false)) h t = refl
    go (Some (number n)) h t = refl
    go (Some (item a k)) h t = refl
    go (Some (node k vs)) h t = refl
