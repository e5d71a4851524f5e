-- Index lists with one more index, and the places and axes behind it.
use Rattle.std.proofs.Common.{◌≡◌, refl, sym, ap, ◌∙◌, subst, suc, ◌*◌, true, false, List, [], ◌∷◌, ◌++◌, map, length, ℤ, Some, arith, length-append, suc-mul, zero-mul}
use Rattle.ess_semantics.specs.Values.{Value}
use Rattle.ess_semantics.specs.Trees.{Ex, Exs, no_exs, more_exs}
use Rattle.ess_semantics.specs.Domains.{Domains, no_domains, more_domains, domain_list, member_list, add_heads, lists_of}
use Rattle.ess_semantics.specs.Tables.{Tables, code}
use Rattle.ess_semantics.specs.Cells.{Axes}
use Rattle.ess_semantics.specs.Layers.{codes_of}
use Rattle.ess_semantics.specs.ScalarLayers.{count_of_places}
use Rattle.ess_semantics.specs.Declarations.{Declaration, under}
use Rattle.ess_semantics.specs.Tidy.{over_axes}
use Rattle.ess_semantics.specs.Meaning.{Env, meaning, meanings, indices}
use Rattle.ess_semantics.specs.Meets.{Meets, MeetsAll}
use Rattle.ess_rules_laws.specs.SetListings.{put_last}
use Rattle.ess_rules_laws.specs.FunctionViews.{append_exs}
use Rattle.ess_rules_laws.proofs.Results.{meanings-append, indices-append, append-met}
use Rattle.ess_rules_laws.proofs.TablesOfViews.{axes_in, over-behind}

-- ---- index lists with one more index

put-appends : (js : Exs) (a : Ex) → put_last js a ≡ append_exs js (more_exs a no_exs)
put-appends no_exs a = refl
put-appends (more_exs e es) a = ap (more_exs e) (put-appends es a)

module _ (js : Exs) (a : Ex) (env : Env) where
  -- The number of the last index stands behind the others.
  pub put-indices : (i : List ℤ) (w : Value) → indices (meanings js env) ≡ Some i → meaning a env ≡ Some w →
      indices (meanings (put_last js a) env) ≡ Some (i ++ (code w ∷ []))
  put-indices i w p q = ap (λ z. indices (meanings z env)) (put-appends js a) ∙ ap indices (meanings-append js (more_exs a no_exs) env)
      ∙ indices-append (meanings js env) (meaning a env ∷ []) i (code w ∷ []) p (ap (λ o. indices (o ∷ [])) q)

  -- Structures of the index list with it.
  pub put-met : MeetsAll false js env → Meets a env → MeetsAll false (put_last js a) env
  put-met m n = subst (λ z. MeetsAll false z env) (sym (put-appends js a)) (append-met js (more_exs a no_exs) env m (n, tt))

-- ---- places

map-long : {A B : Type 0} (f : A → B) (xs : List A) → length (map f xs) ≡ length xs
map-long f [] = refl
map-long f (x ∷ xs) = ap suc (map-long f xs)

heads-long : (ks : List ℤ) (ls : List (List ℤ)) → length (add_heads ks ls) ≡ length ks * length ls
heads-long [] ls = sym (zero-mul (length ls))
heads-long (k ∷ ks) ls = let a = length-append (map (λ l. k ∷ l) ls) (add_heads ks ls) in
    let b = map-long (λ l. k ∷ l) ls in
    let d = heads-long ks ls in
    let e = suc-mul (length ks) (length ls) in omega (arith, a, b, d, e)

-- There are as many places as items.
pub places-count : (ds : Domains) → length (lists_of (map codes_of (domain_list ds))) ≡ count_of_places ds
places-count no_domains = refl
places-count (more_domains d ds) = heads-long (codes_of d) (lists_of (map codes_of (domain_list ds)))
    ∙ ap (λ n. n * length (lists_of (map codes_of (domain_list ds)))) (map-long code (member_list d))
    ∙ ap (λ n. length (member_list d) * n) (places-count ds)

-- ---- axes

under-both : (a : List ℤ) (as' : Axes) (ds : List Declaration) → under (a ∷ as') ds ≡ under (a ∷ []) (under as' ds)
under-both a as' [] = refl
under-both a as' (d ∷ ds) = ap (λ l. record { axes = a ∷ (as' ++ d.axes); cell = d.cell } ∷ l) (under-both a as' ds)

pub append-none : {A : Type 0} (xs : List A) → xs ++ [] ≡ xs
append-none [] = refl
append-none (x ∷ xs) = ap (λ l. x ∷ l) (append-none xs)

-- Behind an index tables are over the axes behind the first.
pub over-rest : (i : List ℤ) (k : ℤ) (a : List ℤ) (as' : Axes) (ds : List Declaration) (ts : Tables) →
    over_axes i (axes_in (under (a ∷ as') ds ++ [])) ts ≡ true → over_axes (i ++ (k ∷ [])) (axes_in (under as' ds)) ts ≡ true
over-rest i k a as' ds ts h = over-behind i k a (under as' ds) ts
    (ap (λ l. over_axes i (axes_in (l ++ [])) ts) (sym (under-both a as' ds)) ∙ h)
