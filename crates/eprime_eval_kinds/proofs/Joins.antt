-- The kind with which all agree, from the last one on.
use Rattle.std.proofs.Common.{◌≡◌, refl, sym, ap, ◌∙◌, ℕ, ◌+◌, ◌<◌, ◌&&◌, List, [], ◌∷◌, ◌++◌, map, take, drop, length, get_or, Some, None}
use Rattle.std.specs.List.{list_all}
use Rattle.std.proofs.lemmas.List.{map-append, take-append-drop, drop_more}
use Rattle.ess_semantics.specs.Lists.{and_then}
use Rattle.ess_semantics.specs.Types.{Ty, join, join_all}
use Rattle.ess_semantics.specs.ModelMeaning.{is_int_kind}
use Rattle.eprime_eval_kinds.specs.declared.tree.Kind.{Kind}
use Rattle.eprime_eval_kinds.specs.KindedViews.{pure_kind}

-- The next agrees with those behind it.
pub joined_more : (ks : List Kind) (n : ℕ) (d j both : Kind) → n < length ks
    → Some (pure_kind j) ≡ join_all (map pure_kind (drop (n + 1) ks))
    → Some (pure_kind both) ≡ join (pure_kind (get_or ks n d)) (pure_kind j) → Some (pure_kind both) ≡ join_all (map pure_kind (drop n ks))
joined_more ks n d j both lt p q = q ∙ ap (λ o. and_then o (join (pure_kind (get_or ks n d)))) p
    ∙ sym (ap (λ l. join_all (map pure_kind l)) (drop_more ks n d lt))

none-behind : (ts us : List Ty) → join_all us ≡ None → join_all (ts ++ us) ≡ None
none-behind [] us e = e
none-behind (t ∷ ts) us e = ap (λ o. and_then o (join t)) (none-behind ts us e)

-- It doesn't.
pub joined_none : (ks : List Kind) (n : ℕ) (d j : Kind) → n < length ks → Some (pure_kind j) ≡ join_all (map pure_kind (drop (n + 1) ks))
    → None ≡ join (pure_kind (get_or ks n d)) (pure_kind j) → None ≡ join_all (map pure_kind ks)
joined_none ks n d j lt p q =
    let here : join_all (map pure_kind (drop n ks)) ≡ None =
    ap (λ l. join_all (map pure_kind l)) (drop_more ks n d lt) ∙ ap (λ o. and_then o (join (pure_kind (get_or ks n d)))) (sym p) ∙ sym q in
    sym (ap (λ l. join_all (map pure_kind l)) (sym (take-append-drop n ks)) ∙ ap join_all (map-append pure_kind (take n ks) (drop n ks))
    ∙ none-behind (map pure_kind (take n ks)) (map pure_kind (drop n ks)) here)

-- Whether all fit where numbers are asked.
pub all_fit : (ks : List Kind) → list_all (λ k. is_int_kind (pure_kind k)) ks ≡ list_all is_int_kind (map pure_kind ks)
all_fit [] = refl
all_fit (k ∷ ks) = ap (λ b. is_int_kind (pure_kind k) && b) (all_fit ks)
