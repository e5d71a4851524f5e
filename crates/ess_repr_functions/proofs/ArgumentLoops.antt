-- Lemmas on the loops over arguments and axes.
use Rattle.std.proofs.Common.{◌≡◌, refl, sym, ap, ◌∙◌, ℕ, ◌+◌, ◌<◌, ◌≤◌, ℤ, List, [], ◌∷◌, ◌++◌, map, length, take, get_or, Option, Some}
use Rattle.std.proofs.Common.{None}
use Rattle.std.proofs.lemmas.List.{take_more, take_all, map-append}
use Rattle.ess_semantics.specs.Values.{Value}
use Rattle.ess_semantics.specs.Domains.{Domain, domain_list}
use Rattle.ess_semantics.specs.Layers.{codes_of}
use Rattle.ess_semantics.specs.Canonical.{somes}
use Rattle.ess_core.specs.declared.values.Val.{Val}
use Rattle.ess_core.specs.ValueViews.{pure_val}
use Rattle.ess_eval_domains.specs.ClosedViews.{pure_closed, pure_closeds, domains_of}
use Rattle.ess_eval_domains.specs.declared.closed.Closed.{Closed}

-- A list of domains is read as itself.
domains-again : (ds : List Domain) → domain_list (domains_of ds) ≡ ds
domains-again [] = refl
domains-again (d ∷ ds) = ap (λ l. d ∷ l) (domains-again ds)

-- The axes of all domains.
pub axes_all : (ds : List Closed) (i : ℕ) (as' : List (List ℤ)) → length ds ≤ i → as' ≡ map codes_of (map pure_closed (take i ds)) →
    as' ≡ map codes_of (domain_list (pure_closeds ds))
axes_all ds i as' h e = e ∙ ap (λ l. map codes_of (map pure_closed l)) (take_all i ds h)
    ∙ ap (map codes_of) (sym (domains-again (map pure_closed ds)))

somes-append : (xs ys : List (Option Value)) → somes (xs ++ ys) ≡ somes xs ++ somes ys
somes-append [] ys = refl
somes-append (None ∷ xs) ys = somes-append xs ys
somes-append (Some x ∷ xs) ys = ap (λ l. x ∷ l) (somes-append xs ys)

-- The value at one argument more.
pub values_more : (f : Value → Option Value) (xs : List Val) (i : ℕ) (x : Val) (old new : List Value) → i < length xs → x ≡ get_or xs i x →
    old ≡ somes (map f (map pure_val (take i xs))) → new ≡ old ++ somes (f (pure_val x) ∷ []) →
    new ≡ somes (map f (map pure_val (take (i + 1) xs)))
values_more f xs i x old new h is e p =
    p ∙ ap (λ l. l ++ somes (f (pure_val x) ∷ [])) e ∙ ap (λ y. somes (map f (map pure_val (take i xs))) ++ somes (f (pure_val y) ∷ [])) is
    ∙ sym (ap (λ l. somes (map f (map pure_val l))) (take_more xs i x h)
    ∙ ap (λ l. somes (map f l)) (map-append pure_val (take i xs) (get_or xs i x ∷ []))
    ∙ ap somes (map-append f (map pure_val (take i xs)) (pure_val (get_or xs i x) ∷ []))
    ∙ somes-append (map f (map pure_val (take i xs))) (f (pure_val (get_or xs i x)) ∷ []))
