-- How many items a list has at most is in scope where the list is, and its new name isn't.
use Rattle.std.proofs.Common.{◌≡◌, refl, subst, ℕ, zero, suc, Bool, true, false, not, if◌then◌else◌, List, [], ◌∷◌, pos, Option, Some, None, option_map}
use Rattle.ess_semantics.specs.declared.words.Op2.{Op2}
use Rattle.ess_semantics.specs.declared.words.Fun.{Fun}
use Rattle.ess_semantics.specs.declared.words.ReprKind.{ReprKind}
use Rattle.ess_semantics.specs.Lists.{and_then}
use Rattle.ess_semantics.specs.Values.{Text}
use Rattle.ess_semantics.specs.Order.{same_text}
use Rattle.ess_semantics.specs.Occurrences.{free_of, has_cells}
use Rattle.ess_semantics.specs.Trees.{repr, no_reprs, index, application, word, tuple_literal, matrix_literal, function_literal, record_literal, Pat, name_pat, tuple_pat, Ex, Exs, number_ex, node_ex, matrix_ex, comp_ex, seen_ex, no_exs, more_exs, Gens, no_gens, over, from, cond, Dom, ex2}
use Rattle.ess_semantics.specs.Scoped.{BindsNew, with_names, Scoped, ScopedExs, ScopedGens, ScopedDom}
use Rattle.ess_semantics.specs.Substitution.{Binds, NamesAreExs, NamesAreGens, NamesAreDom, NamesAreDoms}
use Rattle.ess_guard_laws.specs.IndexDomains.{first_index, plain_axis}
use Rattle.ess_guard_laws.proofs.ScopedRows.{DomScoped, index-dom-scoped, gens-scoped-map}
use Rattle.ess_refine_laws.specs.AllRules.{OfSome}
use Rattle.ess_refine_laws.specs.ScopesOfRules.{BindsNone}
use Rattle.ess_numbered_laws.specs.ThereByForm.{is_there}
use Rattle.ess_numbered_laws.specs.MostItems.{Pick, an_item, a_result, a_component, a_field, pick_of, dom_along, sum_at, members_counted, all_summed, behind_condition, so_often, most, most_behind, most_of_each, most_at, most_of_field, list_axis}
use Rattle.ess_numbered_laws.proofs.UnnamedParts.{free-unnamed}
use Rattle.ess_numbered_laws.proofs.ReachedDomains.{PassesOn, along-passed}
use Rattle.ess_numbered_scopes_laws.proofs.ScopesMoved.{outside}
use Rattle.ess_numbered_scopes_laws.proofs.ScopesBehind.{InScope, IsClear, clear-with, each-binds, clear-map}
use Rattle.ess_ordered_laws.specs.NumberedItems.{is_from_one}
use Rattle.ess_semantics.specs.Constants.{operand_count}

module _ (z : Text → Bool) where
  -- ---- numbers

  module _ (s o : Text → Bool) where
    summed : (r : Option Exs) → OfSome r (ScopedExs z s o) → InScope z s o (option_map all_summed r)
    summed None h = tt
    summed (Some es) h = (h, tt)

    more : (r : Option Ex) (p : Option Exs) → InScope z s o r → OfSome p (ScopedExs z s o) →
        OfSome (and_then r (λ n. option_map (more_exs n) p)) (ScopedExs z s o)
    more None p h k = tt
    more (Some n) None h k = tt
    more (Some n) (Some ns) h k = (h, k)

    over-domain : (p : Pat) (d : Dom) → BindsNew s p → ScopedDom z s o d → (r : Option Ex) →
        InScope z (with_names s p) (with_names o p) r → InScope z s o (option_map (λ n. sum_at n (over p d no_gens)) r)
    over-domain p d b h None k = tt
    over-domain p d b h (Some n) k = ((b, h, k), tt)

    under-a-condition : (c : Ex) → Scoped z s o c → (r : Option Ex) → InScope z s o r → InScope z s o (and_then r (behind_condition c))
    under-a-condition c h None k = tt
    under-a-condition c h (Some n) k = go (has_cells c)
      where
        there : (b : Bool) → InScope z s o (if b then Some n else None)
        there true = k
        there false = tt

        go : (b : Bool) → InScope z s o (if b then (if is_there n then Some n else None) else Some (sum_at n (cond c no_gens)))
        go true = there (is_there n)
        go false = ((h, k), tt)

    often : (p : Pat) (k n : Ex) → Scoped z s o k → Scoped z (with_names s p) o n → InScope z s o (so_often p k n)
    often (name_pat y) k n h i = go (free_of (y ∷ []) (more_exs n no_exs)) refl
      where
        go : (c : Bool) → free_of (y ∷ []) (more_exs n no_exs) ≡ c → InScope z s o (if c then Some (ex2 false Op2.Times k n) else None)
        go true q = (h, (outside y z n s o (free-unnamed y (more_exs n no_exs) q).0 i, tt))
        go false q = tt
    often (tuple_pat ps) k n h i = tt

    over-source : (p : Pat) (r q : Option Ex) → InScope z s o r → InScope z (with_names s p) o q →
        InScope z s o (and_then r (λ k. and_then q (so_often p k)))
    over-source p None q h i = tt
    over-source p (Some k) None h i = tt
    over-source p (Some k) (Some n) h i = often p k n h i

    either-field : (b : Bool) (r q : Option Ex) → InScope z s o r → InScope z s o q → InScope z s o (if b then r else q)
    either-field true r q h k = h
    either-field false r q h k = k

  passes : PassesOn (NamesAreDom z (λ a. true)) (NamesAreDoms z (λ a. true))
  passes = record {
    of_several = λ d ds h. h;
    of_tuple = λ ds h. h;
    of_record = λ fs ds h. h;
    of_matrix = λ is d h. h;
    to_matrix = λ is d h k. (h, k);
    of_results = λ ms es d c h. h.2;
  }

  module _ (x : Text) where
    abbrev New : Text → Bool
    New a = not (same_text x a)

    -- An index domain that is copied out of a view.
    axis : (s o : Text → Bool) → IsClear x z s → (ps : List Pick) (d : Dom) → NamesAreDom z (λ a. true) d →
        InScope z s o (option_map (members_counted x) (list_axis (first_index (dom_along ps (Some d)))))
    axis s o c ps d h = counted (list_axis (first_index (dom_along ps (Some d))))
        (listed (first_index (dom_along ps (Some d)))
        (reached (dom_along ps (Some d)) (along-passed (NamesAreDom z (λ a. true)) (NamesAreDoms z (λ a. true)) passes ps (Some d) h)))
      where
        listed : (r : Option Dom) → DomScoped z s o (plain_axis r) → DomScoped z s o (list_axis r)
        listed None k = tt
        listed (Some e) k = go (is_from_one e)
          where
            go : (b : Bool) → DomScoped z s o (if b then plain_axis (Some e) else None)
            go true = k
            go false = tt

        reached : (r : Option Dom) → OfSome r (NamesAreDom z (λ a. true)) → DomScoped z s o (plain_axis (first_index r))
        reached None k = tt
        reached (Some e) k = index-dom-scoped z s o c.1 (seen_ex (repr ReprKind.Atom no_reprs) e [] no_exs) (k, tt)

        counted : (r : Option Dom) → DomScoped z s o r → InScope z s o (option_map (members_counted x) r)
        counted None k = tt
        counted (Some e) k = ((c.0, k, tt), tt)

    then-scoped : (s o : Text → Bool) (f : Ex → Option Ex) (r : Option Ex) → ((m : Ex) → r ≡ Some m → InScope z s o (f m)) →
        InScope z s o (and_then r f)
    then-scoped s o f None k = tt
    then-scoped s o f (Some m) k = k m refl

    mutual
      -- Of what steps reach from a term.
      pub most-scoped : (ps : List Pick) (e : Ex) (s o : Text → Bool) → IsClear x z s → BindsNone (same_text x) e → Scoped z s o e →
          InScope z s o (most x ps e)
      most-scoped ps (node_ex b (index (q ∷ [])) (more_exs t is)) s o c n h = most-scoped (pick_of q ∷ ps) t s o c n.0 h.0
      most-scoped ps (node_ex b application (more_exs t is)) s o c n h = most-scoped (a_result ∷ ps) t s o c n.0 h.0
      most-scoped ps (node_ex b (word Fun.Image) (more_exs t is)) s o c n h = most-scoped (a_result ∷ ps) t s o c n.0 h.0
      most-scoped [] (node_ex false matrix_literal es) s o c n h = tt
      most-scoped (an_item ∷ ps) (node_ex false matrix_literal es) s o c n h =
          summed s o (most_of_each x ps es) (each-scoped ps es s o c n h)
      most-scoped (a_component k ∷ ps) (node_ex false tuple_literal es) s o c n h = at-scoped k ps es s o c n h
      most-scoped (a_field a ∷ ps) (node_ex false (record_literal fs) es) s o c n h = field-scoped a fs ps es s o c n h
      most-scoped (a_result ∷ ps) (node_ex false function_literal es) s o c n h =
          summed s o (most_of_each x (a_component 2 ∷ ps) es) (each-scoped (a_component 2 ∷ ps) es s o c n h)
      most-scoped [] (matrix_ex es d) s o c n h = literal (is_from_one d)
        where
          literal : (b : Bool) → InScope z s o (if b then Some (number_ex (pos (operand_count es))) else None)
          literal true = tt
          literal false = tt
      most-scoped (an_item ∷ ps) (matrix_ex es d) s o c n h = summed s o (most_of_each x ps es) (each-scoped ps es s o c n.0 h.0)
      most-scoped [] (comp_ex e gs) s o c n h =
          behind-scoped gs s o c n.1 (number_ex (pos 1))
          (gens-scoped-map z gs s o (λ u i. Scoped z u i e) (λ u i. Unit {0}) (λ u i k. tt) h)
      most-scoped (an_item ∷ ps) (comp_ex e gs) s o c n h =
          then-scoped s o (most_behind x gs) (most x ps e) (λ m q. behind-scoped gs s o c n.1 m
          (clear-map z (λ u. IsClear x z u) (λ p. Binds New p) (λ p u b k. clear-with x z u p b k) gs (λ u i. Scoped z u i e)
          (λ u i. Scoped z u i m) (λ u i k l. subst (λ w. InScope z u i w) q (most-scoped ps e u i k n.0 l))
          (each-binds New gs n.1) s o c h))
      most-scoped ps (seen_ex r d ns es) s o c n h = axis s o c ps d h.0
      most-scoped _ _ s o c n h = tt

      -- At each binding of generators.
      behind-scoped : (gs : Gens) (s o : Text → Bool) → IsClear x z s → NamesAreGens (λ a. true) New gs → (m : Ex) →
          ScopedGens z s o gs (λ u i. Scoped z u i m) → InScope z s o (most_behind x gs m)
      behind-scoped no_gens s o c n m h = h
      behind-scoped (over p d gs) s o c n m h = over-domain s o p d h.0 h.1 (most_behind x gs m)
          (behind-scoped gs (with_names s p) (with_names o p) (clear-with x z s p n.0 c) n.2 m h.2)
      behind-scoped (from p t gs) s o c n m h = over-source s o p (most x [] t) (most_behind x gs m) (most-scoped [] t s o c n.1 h.1)
          (behind-scoped gs (with_names s p) o (clear-with x z s p n.0 c) n.2 m h.2)
      behind-scoped (cond e gs) s o c n m h = under-a-condition s o e h.0 (most_behind x gs m) (behind-scoped gs s o c n.1 m h.1)

      each-scoped : (ps : List Pick) (es : Exs) (s o : Text → Bool) → IsClear x z s → NamesAreExs (λ a. true) New es →
          ScopedExs z s o es → OfSome (most_of_each x ps es) (ScopedExs z s o)
      each-scoped ps no_exs s o c n h = tt
      each-scoped ps (more_exs e es) s o c n h = more s o (most x ps e) (most_of_each x ps es) (most-scoped ps e s o c n.0 h.0)
          (each-scoped ps es s o c n.1 h.1)

      at-scoped : (k : ℕ) (ps : List Pick) (es : Exs) (s o : Text → Bool) → IsClear x z s → NamesAreExs (λ a. true) New es →
          ScopedExs z s o es → InScope z s o (most_at k x ps es)
      at-scoped k ps no_exs s o c n h = tt
      at-scoped zero ps (more_exs e es) s o c n h = tt
      at-scoped (suc zero) ps (more_exs e es) s o c n h = most-scoped ps e s o c n.0 h.0
      at-scoped (suc (suc k)) ps (more_exs e es) s o c n h = at-scoped (suc k) ps es s o c n.1 h.1

      field-scoped : (a : Text) (fs : List Text) (ps : List Pick) (es : Exs) (s o : Text → Bool) → IsClear x z s →
          NamesAreExs (λ a. true) New es → ScopedExs z s o es → InScope z s o (most_of_field a fs x ps es)
      field-scoped a (f ∷ fs) ps (more_exs e es) s o c n h =
          either-field s o (same_text f a) (most x ps e) (most_of_field a fs x ps es) (most-scoped ps e s o c n.0 h.0)
          (field-scoped a fs ps es s o c n.1 h.1)
      field-scoped a [] ps es s o c n h = tt
      field-scoped a (f ∷ fs) ps no_exs s o c n h = tt
