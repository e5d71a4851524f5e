-- A generator over a comprehension, spliced into the generators: it gives the same items in the same order, and structures
-- stay met.
use Rattle.std.proofs.Common.{◌≡◌, refl, sym, ap, ◌∙◌, Bool, true, false, not, List, [], ◌∷◌, ◌++◌, Option, Some, None, option_map}
use Rattle.std.specs.Prelude.{is_some}
use Rattle.ess_semantics.specs.Lists.{and_then}
use Rattle.ess_semantics.specs.Values.{Text, Value, truth, items_of}
use Rattle.ess_semantics.specs.Names.{Names}
use Rattle.ess_semantics.specs.Trees.{Pat, Pats, name_pat, tuple_pat, no_pats, more_pats, Ex, Gens, no_gens, over, from, cond}
use Rattle.ess_semantics.specs.Operators.{misfit}
use Rattle.ess_semantics.specs.Tables.{Table}
use Rattle.ess_semantics.specs.Meaning.{Env, TypeEntry, bind, bind_all, meaning, items_under, domain_of, members_in, collect, where_true}
use Rattle.ess_semantics.specs.Substitution.{Binds, BindsAll, NamesAreGens}
use Rattle.ess_rules_laws.specs.SpliceRules.{append_gens}
use Rattle.ess_rules_laws.proofs.Simulation.{Vals, E, any, collect-same, and_then-same}
use Rattle.ess_rules_laws.proofs.Agreement.{AgreeOn, outside, agree-outside}
use Rattle.ess_rules_laws.proofs.ListedItems.{alone-listed}

-- ---- collected lists

-- Nothing put before the items changes nothing.
pub append-nothing : (c : Option (List Value)) → option_map (λ ys. ys) c ≡ c
append-nothing None = refl
append-nothing (Some xs) = refl

append-more : (xs ys zs : List Value) → (xs ++ ys) ++ zs ≡ xs ++ (ys ++ zs)
append-more [] ys zs = refl
append-more (x ∷ xs) ys zs = ap (λ l. x ∷ l) (append-more xs ys zs)

-- What is collected from two lists, one behind the other.
pub collect-append : (us ws : List Value) (F : Value → Option (List Value)) → collect (us ++ ws) F ≡ and_then (collect us F) (λ xs. option_map (λ ys. xs ++ ys) (collect ws F))
collect-append [] ws F = sym (append-nothing (collect ws F))
collect-append (u ∷ us) ws F = ap (λ o. and_then (F u) (λ xs. option_map (λ ys. xs ++ ys) o)) (collect-append us ws F) ∙ go (F u) (collect us F) (collect ws F)
  where
    go : (o p q : Option (List Value)) → and_then o (λ xs. option_map (λ ys. xs ++ ys) (and_then p (λ zs. option_map (λ ys. zs ++ ys) q)))
        ≡ and_then (and_then o (λ xs. option_map (λ ys. xs ++ ys) p)) (λ xs. option_map (λ ys. xs ++ ys) q)
    go None p q = refl
    go (Some xs) None q = refl
    go (Some xs) (Some zs) None = refl
    go (Some xs) (Some zs) (Some ys) = ap Some (sym (append-more xs zs ys))

-- What is collected from the lists that are collected.
collect-through : (vs : List Value) (f F : Value → Option (List Value)) → collect vs (λ v. and_then (f v) (λ us. collect us F)) ≡ and_then (collect vs f) (λ us. collect us F)
collect-through [] f F = refl
collect-through (v ∷ vs) f F = ap (λ o. and_then (and_then (f v) (λ us. collect us F)) (λ xs. option_map (λ ys. xs ++ ys) o)) (collect-through vs f F) ∙ go (f v) (collect vs f)
  where
    none : (o p : Option (List Value)) → p ≡ None → and_then o (λ xs. option_map (λ ys. xs ++ ys) p) ≡ None
    none None p q = refl
    none (Some xs) p q = ap (option_map (λ ys. xs ++ ys)) q

    go : (o p : Option (List Value)) → and_then (and_then o (λ us. collect us F)) (λ xs. option_map (λ ys. xs ++ ys) (and_then p (λ us. collect us F)))
        ≡ and_then (and_then o (λ xs. option_map (λ ys. xs ++ ys) p)) (λ us. collect us F)
    go None p = refl
    go (Some us) None = none (collect us F) None refl
    go (Some us) (Some ws) = sym (collect-append us ws F)

-- Where a list is collected, its first answer is there and so is the rest.
pub first-there : (o c : Option (List Value)) → is_some (and_then o (λ xs. option_map (λ ys. xs ++ ys) c)) ≡ true → is_some o ≡ true
first-there None c h = cc
first-there (Some xs) c h = refl

-- The rest is there.
pub rest-there : (o c : Option (List Value)) → is_some (and_then o (λ xs. option_map (λ ys. xs ++ ys) c)) ≡ true → is_some c ≡ true
rest-there None c h = cc
rest-there (Some xs) None h = cc
rest-there (Some xs) (Some ys) h = refl

-- Functions that answer the same where k has an answer, where all of k's are there.
collect-there : (vs : List Value) (k f f' : Value → Option (List Value)) → is_some (collect vs k) ≡ true → ((v : Value) → is_some (k v) ≡ true → f v ≡ f' v) → collect vs f ≡ collect vs f'
collect-there [] k f f' h e = refl
collect-there (v ∷ vs) k f f' h e =
    ap (λ o. and_then o (λ xs. option_map (λ ys. xs ++ ys) (collect vs f))) (e v (first-there (k v) (collect vs k) h))
    ∙ ap (λ o. and_then (f' v) (λ xs. option_map (λ ys. xs ++ ys) o)) (collect-there vs k f f' (rest-there (k v) (collect vs k) h) e)

-- ---- names that a pattern binds

-- Values that agree, one after the other.
pub agree-chain : (n : Text → Bool) (g h i : Vals) → AgreeOn n g h → AgreeOn n h i → AgreeOn n g i
agree-chain n g h i x y a s = x a s ∙ y a s

module _ (r : Text → Bool) where
  mutual
    -- A pattern changes the values of its names alone.
    pub bind-outside : (p : Pat) (v : Value) (g : Vals) → Binds r p → AgreeOn (outside r) g (bind p v g)
    bind-outside (name_pat a) v g q = agree-outside (outside r) a v g (ap (λ b. not (not b)) q)
    bind-outside (tuple_pat ps) v g q = all-outside ps (items_of v) g q

    all-outside : (ps : Pats) (vs : List Value) (g : Vals) → BindsAll r ps → AgreeOn (outside r) g (bind_all ps vs g)
    all-outside no_pats vs g q = λ a s. refl
    all-outside (more_pats p ps) [] g q = agree-chain (outside r) g (bind p misfit g) _ (bind-outside p misfit g q.0) (all-outside ps [] (bind p misfit g) q.1)
    all-outside (more_pats p ps) (v ∷ vs) g q = agree-chain (outside r) g (bind p v g) _ (bind-outside p v g q.0) (all-outside ps vs (bind p v g) q.1)

-- ---- items

module _ (pl : Bool) (ts : List TypeEntry) (cs : Names Table) where
  abbrev M : Vals → Env
  M g = E pl ts cs g

  -- Generators behind generators.
  pub items-append : (ks hs : Gens) (g : Vals) (k : Env → Option (List Value)) → items_under (append_gens ks hs) (M g) k ≡ items_under ks (M g) (λ here. items_under hs here k)
  items-append no_gens hs g k = refl
  items-append (over p d gs) hs g k = and_then-same (members_in (domain_of d (M g))) (members_in (domain_of d (M g))) _ _ refl (λ vs. collect-same vs _ _ (λ v. items-append gs hs (bind p v g) k))
  items-append (from p e gs) hs g k = and_then-same (meaning e (M g)) (meaning e (M g)) _ _ refl (λ s. collect-same (items_of s) _ _ (λ v. items-append gs hs (bind p v g) k))
  items-append (cond e gs) hs g k = ap (λ z. where_true (meaning e (M g)) (λ u. z)) (items-append gs hs g k)

  module _ (r : Text → Bool) (h : Ex) (g0 : Vals) (K : Env → Option (List Value)) (F : Value → Option (List Value))
      (each : (g : Vals) → AgreeOn (outside r) g0 g → (v : Value) → meaning h (M g) ≡ Some v → K (M g) ≡ F v) where
    abbrev k : Env → Option (List Value)
    k here = option_map (λ v. v ∷ []) (meaning h here)

    abbrev Through : Gens → Vals → Type 0
    Through ks g = is_some (items_under ks (M g) k) ≡ true → items_under ks (M g) K ≡ and_then (items_under ks (M g) k) (λ us. collect us F)

    many : (o : Option (List Value)) (f : Value → Option (List Value)) (f' : Value → Option (List Value)) → ((v : Value) → is_some (f v) ≡ true → f' v ≡ and_then (f v) (λ us. collect us F)) →
        is_some (and_then o (λ vs. collect vs f)) ≡ true → and_then o (λ vs. collect vs f') ≡ and_then (and_then o (λ vs. collect vs f)) (λ us. collect us F)
    many None f f' e t = refl
    many (Some vs) f f' e t = collect-there vs f f' (λ v. and_then (f v) (λ us. collect us F)) t e ∙ collect-through vs f F

    -- A body that answers F of the item at each binding collects what F answers on the items.
    pub items-through : (ks : Gens) (g : Vals) → NamesAreGens any r ks → AgreeOn (outside r) g0 g → Through ks g
    items-through no_gens g o s t = go (meaning h (M g)) refl t
      where
        go : (z : Option Value) → meaning h (M g) ≡ z → is_some (option_map (λ v. v ∷ []) z) ≡ true → K (M g) ≡ and_then (option_map (λ v. v ∷ []) z) (λ us. collect us F)
        go None q t = cc
        go (Some v) q t = each g s v q ∙ sym (alone-listed (F v))
    items-through (over p d gs) g o s t = many (members_in (domain_of d (M g))) (λ v. items_under gs (M (bind p v g)) k) (λ v. items_under gs (M (bind p v g)) K)
        (λ v. items-through gs (bind p v g) o.2 (agree-chain (outside r) g0 g (bind p v g) s (bind-outside r p v g o.0))) t
    items-through (from p e gs) g o s t = go (meaning e (M g)) t (λ v. items-through gs (bind p v g) o.2 (agree-chain (outside r) g0 g (bind p v g) s (bind-outside r p v g o.0)))
      where
        go : (z : Option Value) → is_some (and_then z (λ w. collect (items_of w) (λ v. items_under gs (M (bind p v g)) k))) ≡ true → ((v : Value) → Through gs (bind p v g)) →
            and_then z (λ w. collect (items_of w) (λ v. items_under gs (M (bind p v g)) K)) ≡ and_then (and_then z (λ w. collect (items_of w) (λ v. items_under gs (M (bind p v g)) k))) (λ us. collect us F)
        go None t f = refl
        go (Some w) t f = many (Some (items_of w)) (λ v. items_under gs (M (bind p v g)) k) (λ v. items_under gs (M (bind p v g)) K) f t
    items-through (cond c gs) g o s t = go (meaning c (M g)) t (λ q. items-through gs g o.1 s q)
      where
        go : (z : Option Value) → is_some (where_true z (λ u. items_under gs (M g) k)) ≡ true → Through gs g →
            where_true z (λ u. items_under gs (M g) K) ≡ and_then (where_true z (λ u. items_under gs (M g) k)) (λ us. collect us F)
        go (Some (truth true)) t f = f t
        go (Some (truth false)) t f = refl
        go _ t f = refl
