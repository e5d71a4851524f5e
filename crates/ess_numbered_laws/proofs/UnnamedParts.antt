-- A tree none of whose parts is a name doesn't use that name.
use Rattle.std.proofs.Common.{◌≡◌, refl, sym, ap, ◌∙◌, Bool, true, false, ◌||◌, not, List, [], ◌∷◌, ◌++◌}
use Rattle.std.specs.List.{list_any}
use Rattle.ess_semantics.specs.Values.{Text}
use Rattle.ess_semantics.specs.Order.{same_text}
use Rattle.ess_semantics.specs.Occurrences.{parts_of, parts_of_all, parts_of_gens, parts_of_dom, parts_of_doms, is_name, free_of}
use Rattle.ess_semantics.specs.Substitution.{Binds, BindsAll, NamesAre, NamesAreExs, NamesAreGens, NamesAreDom, NamesAreDoms}
use Rattle.ess_semantics.specs.Trees.{Pat, Pats, name_pat, tuple_pat, no_pats, more_pats, Ex, Exs, number_ex, truth_ex, name_ex, node_ex, matrix_ex, comp_ex, cell_ex, seen_ex, no_exs, more_exs, Gens, no_gens, over, from, cond, Dom, Doms, bool_dom, int_dom, name_dom, tuple_dom, record_dom, matrix_dom, set_dom, mset_dom, function_dom, relation_dom, partition_dom, no_doms, more_doms}
use Rattle.ess_semantics.proofs.Tests.{or-left-no, or-right-no}
use Rattle.ess_rules_laws.proofs.Simulation.{any, but}

none-left : {A : Type 0} (f : A → Bool) (xs ys : List A) → list_any f (xs ++ ys) ≡ false → list_any f xs ≡ false
none-left f [] ys h = refl
none-left f (x ∷ xs) ys h = ap (λ b. b || list_any f xs) (or-left-no (f x) (list_any f (xs ++ ys)) h)
    ∙ none-left f xs ys (or-right-no (f x) (list_any f (xs ++ ys)) h)

none-right : {A : Type 0} (f : A → Bool) (xs ys : List A) → list_any f (xs ++ ys) ≡ false → list_any f ys ≡ false
none-right f [] ys h = h
none-right f (x ∷ xs) ys h = none-right f xs ys (or-right-no (f x) (list_any f (xs ++ ys)) h)

mutual
  binds-any : (p : Pat) → Binds any p
  binds-any (name_pat a) = refl
  binds-any (tuple_pat ps) = all-bind-any ps

  all-bind-any : (ps : Pats) → BindsAll any ps
  all-bind-any no_pats = tt
  all-bind-any (more_pats p ps) = (binds-any p, all-bind-any ps)

module _ (y : Text) where
  abbrev None : List Ex → Type 0
  None l = list_any (is_name y) l ≡ false

  isnt : (b : Bool) → b || false ≡ false → not b ≡ true
  isnt true h = sym h
  isnt false h = refl

  mutual
    -- So it is of an expression.
    pub unnamed : (e : Ex) → None (parts_of e) → NamesAre (but y) any e
    unnamed (number_ex n) h = tt
    unnamed (truth_ex b) h = tt
    unnamed (name_ex a) h = isnt (same_text y a) h
    unnamed (node_ex b op es) h = unnamed-all es h
    unnamed (matrix_ex es d) h = (
      unnamed-all es (none-left (is_name y) (parts_of_all es) (parts_of_dom d) h),
      unnamed-dom d (none-right (is_name y) (parts_of_all es) (parts_of_dom d) h),
    )
    unnamed (comp_ex e gs) h = (
      unnamed e (none-left (is_name y) (parts_of e) (parts_of_gens gs) h),
      unnamed-gens gs (none-right (is_name y) (parts_of e) (parts_of_gens gs) h),
    )
    unnamed (cell_ex b n es) h = unnamed-all es h
    unnamed (seen_ex r d ns es) h = (
      unnamed-dom d (none-left (is_name y) (parts_of_dom d) (parts_of_all es) h),
      unnamed-all es (none-right (is_name y) (parts_of_dom d) (parts_of_all es) h),
    )

    -- Of several expressions.
    pub unnamed-all : (es : Exs) → None (parts_of_all es) → NamesAreExs (but y) any es
    unnamed-all no_exs h = tt
    unnamed-all (more_exs e es) h = (
      unnamed e (none-left (is_name y) (parts_of e) (parts_of_all es) h),
      unnamed-all es (none-right (is_name y) (parts_of e) (parts_of_all es) h),
    )

    unnamed-gens : (gs : Gens) → None (parts_of_gens gs) → NamesAreGens (but y) any gs
    unnamed-gens no_gens h = tt
    unnamed-gens (over p d gs) h = (
      binds-any p,
      unnamed-dom d (none-left (is_name y) (parts_of_dom d) (parts_of_gens gs) h),
      unnamed-gens gs (none-right (is_name y) (parts_of_dom d) (parts_of_gens gs) h),
    )
    unnamed-gens (from p e gs) h = (
      binds-any p,
      unnamed e (none-left (is_name y) (parts_of e) (parts_of_gens gs) h),
      unnamed-gens gs (none-right (is_name y) (parts_of e) (parts_of_gens gs) h),
    )
    unnamed-gens (cond e gs) h = (
      unnamed e (none-left (is_name y) (parts_of e) (parts_of_gens gs) h),
      unnamed-gens gs (none-right (is_name y) (parts_of e) (parts_of_gens gs) h),
    )

    unnamed-dom : (d : Dom) → None (parts_of_dom d) → NamesAreDom (but y) any d
    unnamed-dom bool_dom h = tt
    unnamed-dom (int_dom rs es) h = unnamed-all es h
    unnamed-dom (name_dom a) h = tt
    unnamed-dom (tuple_dom ds) h = unnamed-doms ds h
    unnamed-dom (record_dom fs ds) h = unnamed-doms ds h
    unnamed-dom (matrix_dom is d) h = (
      unnamed-doms is (none-left (is_name y) (parts_of_doms is) (parts_of_dom d) h),
      unnamed-dom d (none-right (is_name y) (parts_of_doms is) (parts_of_dom d) h),
    )
    unnamed-dom (set_dom ms es d) h = (
      unnamed-all es (none-left (is_name y) (parts_of_all es) (parts_of_dom d) h),
      unnamed-dom d (none-right (is_name y) (parts_of_all es) (parts_of_dom d) h),
    )
    unnamed-dom (mset_dom ms es d) h = (
      unnamed-all es (none-left (is_name y) (parts_of_all es) (parts_of_dom d) h),
      unnamed-dom d (none-right (is_name y) (parts_of_all es) (parts_of_dom d) h),
    )
    unnamed-dom (function_dom ms es d c) h =
        let l = none-left (is_name y) (parts_of_all es ++ parts_of_dom d) (parts_of_dom c) h in (
          unnamed-all es (none-left (is_name y) (parts_of_all es) (parts_of_dom d) l),
          unnamed-dom d (none-right (is_name y) (parts_of_all es) (parts_of_dom d) l),
          unnamed-dom c (none-right (is_name y) (parts_of_all es ++ parts_of_dom d) (parts_of_dom c) h),
        )
    unnamed-dom (relation_dom ms es ds) h = (
      unnamed-all es (none-left (is_name y) (parts_of_all es) (parts_of_doms ds) h),
      unnamed-doms ds (none-right (is_name y) (parts_of_all es) (parts_of_doms ds) h),
    )
    unnamed-dom (partition_dom ms es d) h = (
      unnamed-all es (none-left (is_name y) (parts_of_all es) (parts_of_dom d) h),
      unnamed-dom d (none-right (is_name y) (parts_of_all es) (parts_of_dom d) h),
    )

    unnamed-doms : (ds : Doms) → None (parts_of_doms ds) → NamesAreDoms (but y) any ds
    unnamed-doms no_doms h = tt
    unnamed-doms (more_doms d ds) h = (
      unnamed-dom d (none-left (is_name y) (parts_of_dom d) (parts_of_doms ds) h),
      unnamed-doms ds (none-right (is_name y) (parts_of_dom d) (parts_of_doms ds) h),
    )

-- Expressions that are free of a name don't use it.
pub free-unnamed : (y : Text) (es : Exs) → free_of (y ∷ []) es ≡ true → NamesAreExs (but y) any es
free-unnamed y es h = unnamed-all y es (go (list_any (is_name y) (parts_of_all es)) h)
  where
    go : (b : Bool) → not (b || false) ≡ true → b ≡ false
    go true h = sym h
    go false h = refl
