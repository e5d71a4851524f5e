-- Lists in place of matrices that aren't numbered from 1 are in scope.
use Rattle.std.proofs.Common.{ℕ, zero, suc, Bool, true, false, ◌&&◌, not, if◌then◌else◌, [], ◌∷◌, Option, Some, None, option_map, is_some}
use Rattle.ess_semantics.specs.declared.words.ReprKind.{ReprKind}
use Rattle.ess_semantics.specs.Lists.{or_else}
use Rattle.ess_semantics.specs.Values.{Text, a_matrix}
use Rattle.ess_semantics.specs.Order.{same_text}
use Rattle.ess_semantics.specs.Names.{Names}
use Rattle.ess_semantics.specs.Trees.{by_value, index, matrix_literal, repr, no_reprs, name_pat, tuple_pat, Ex, Exs, node_ex, matrix_ex, comp_ex, seen_ex, no_exs, more_exs, Gens, no_gens, over, from, cond, Dom, int_dom, ex2}
use Rattle.ess_semantics.specs.Types.{Ty, compound2, type_of_dom}
use Rattle.ess_semantics.specs.NamesAt.{names_behind}
use Rattle.ess_semantics.specs.Scoped.{Scoped, ScopedExs}
use Rattle.ess_semantics.specs.Substitution.{NamesAreExs}
use Rattle.ess_guard_laws.specs.IndexDomains.{first_index, plain_axis}
use Rattle.ess_guard_laws.proofs.ScopedRows.{DomScoped, index-dom-scoped}
use Rattle.ess_rules_laws.specs.SourceRules.{list_of}
use Rattle.ess_refine_laws.specs.AllRules.{Supply}
use Rattle.ess_refine_laws.specs.ScopesOfRules.{BindsNone}
use Rattle.ess_ordered_laws.specs.NumberedItems.{is_from_one}
use Rattle.ess_numbered_laws.specs.MostItems.{most_items}
use Rattle.ess_numbered_laws.specs.CountedSources.{is_counted, sees_order}
use Rattle.ess_numbered_laws.specs.ListedPicks.{shifted_axis, literal_as_list, view_as_list, with_lists, each_with_lists, listed_term, listed_source, listed_behind, lists_picked}
use Rattle.ess_numbered_scopes_laws.proofs.ScopesMoved.{behind, bound}
use Rattle.ess_numbered_scopes_laws.proofs.ScopesBehind.{InScope, IsClear}
use Rattle.ess_numbered_scopes_laws.proofs.PlainScoped.{Clear, NoneBound, plain-scoped}

module _ (z : Text → Bool) where
  module _ (x : Text) (u o : Text → Bool) (c : IsClear x z u) where
    -- ---- one matrix

    literal-scoped : (es : Exs) (d : Dom) → Scoped z u o (matrix_ex es d) → Scoped z u o (literal_as_list es d)
    literal-scoped no_exs d h = h
    literal-scoped (more_exs e es) d h = go (is_some (shifted_axis (Some d)))
      where
        go : (b : Bool) → Scoped z u o (if b then list_of (more_exs e es) else matrix_ex (more_exs e es) d)
        go true = h.0
        go false = h

    shifted-scoped : (r : Option Dom) → DomScoped z u o r → DomScoped z u o (shifted_axis r)
    shifted-scoped (Some (int_dom rs es)) h = go (is_from_one (int_dom rs es))
      where
        go : (b : Bool) → DomScoped z u o (if b then None else Some (int_dom rs es))
        go true = tt
        go false = h
    shifted-scoped _ h = tt

    view-scoped : (v : Ex) (t : Ty) (r : Option Dom) → BindsNone (same_text x) v → Scoped z u o v → DomScoped z u o r →
        Scoped z u o (view_as_list x v t r)
    view-scoped v t None b h k = h
    view-scoped v (compound2 a_matrix i w) (Some d) b h k = (c.0, k, (behind x z u o v b h, (bound x u, tt)))
    view-scoped v _ (Some d) b h k = h

    -- ---- what is picked

    mutual
      -- So it is of what indices reach.
      pub with-lists-scoped : (k : ℕ) (e : Ex) → BindsNone (same_text x) e → Scoped z u o e → Scoped z u o (with_lists x k e)
      with-lists-scoped k (node_ex false (index (by_value ∷ [])) (more_exs t (more_exs i no_exs))) b h =
          (with-lists-scoped (suc k) t b.0 h.0, h.1)
      with-lists-scoped (suc k) (node_ex false matrix_literal es) b h = each-listed k es b h
      with-lists-scoped (suc k) (matrix_ex es d) b h = (each-listed k es b.0 h.0, h.1)
      with-lists-scoped zero (matrix_ex es d) b h = literal-scoped es d h
      with-lists-scoped zero (seen_ex r d ns es) b h =
          view-scoped (seen_ex r d ns es) (type_of_dom d) (shifted_axis (plain_axis (first_index (Some d)))) b h
          (shifted-scoped (plain_axis (first_index (Some d)))
          (index-dom-scoped z u o c.1 (seen_ex (repr ReprKind.Atom no_reprs) d [] no_exs) (h.0, tt)))
      with-lists-scoped k e b h = h

      each-listed : (k : ℕ) (es : Exs) → NamesAreExs (λ a. true) (λ a. not (same_text x a)) es → ScopedExs z u o es →
          ScopedExs z u o (each_with_lists x k es)
      each-listed k no_exs b h = tt
      each-listed k (more_exs e es) b h = (with-lists-scoped k e b.0 h.0, each-listed k es b.1 h.1)

  -- ---- a source

  module _ (t : Supply) where
    term-scoped : (g : Names Ty) (u o : Text → Bool) → IsClear t.one z u → (a : Ex) → BindsNone (same_text t.one) a → Scoped z u o a →
        InScope z u o (listed_term t g a)
    term-scoped g u o c a b h =
        go (is_counted t g a && (not (is_some (most_items t.third a)) && is_some (most_items t.third (with_lists t.one zero a))))
      where
        go : (p : Bool) → InScope z u o (if p then Some (with_lists t.one zero a) else None)
        go true = with-lists-scoped t.one u o c zero a b h
        go false = tt

    at-source : (g : Names Ty) (e : Ex) (gs : Gens) → NoneBound z t t.one gs → (u o : Text → Bool) → Clear z t u →
        Scoped z u o (comp_ex e gs) → InScope z u o (listed_source t g (comp_ex e gs))
    at-source g e (from (name_pat y) a hs) b u o c h = go (listed_term t g a) (term-scoped g u o c.0 a b.1 h.1)
      where
        go : (r : Option Ex) → InScope z u o r → InScope z u o (option_map (λ l. comp_ex e (from (name_pat y) l hs)) r)
        go None k = tt
        go (Some l) k = (h.0, k, h.2)
    at-source g e (from (tuple_pat ps) a hs) b u o c h = tt
    at-source g e no_gens b u o c h = tt
    at-source g e (over p a hs) b u o c h = tt
    at-source g e (cond a hs) b u o c h = tt

    behind-scoped : (g : Names Ty) (u o : Text → Bool) → Clear z t u → (a : Ex) → BindsNone (same_text t.one) a →
        BindsNone (same_text t.other) a → BindsNone (same_text t.third) a → Scoped z u o a → InScope z u o (listed_behind t g a)
    behind-scoped g u o c (comp_ex e gs) b l d h = plain-scoped z t (λ ks. listed_source t (names_behind ks g))
        (λ ks e gs b d. at-source (names_behind ks g) e gs b) u o c (comp_ex e gs) b l d h
    behind-scoped g u o c _ b l d h = tt

    -- ---- where order counts

    -- An item of such a comprehension, and a pair, are in scope.
    pub picked-scoped : (g : Names Ty) (u o : Text → Bool) → Clear z t u → (e : Ex) → BindsNone (same_text t.one) e →
        BindsNone (same_text t.other) e → BindsNone (same_text t.third) e → Scoped z u o e → InScope z u o (lists_picked t g e)
    picked-scoped g u o c (node_ex b (index (by_value ∷ [])) (more_exs a (more_exs i no_exs))) p l d h =
        go (listed_behind t g a) (behind-scoped g u o c a p.0 l.0 d.0 h.0)
      where
        go : (r : Option Ex) → InScope z u o r →
            InScope z u o (option_map (λ f. node_ex b (index (by_value ∷ [])) (more_exs f (more_exs i no_exs))) r)
        go None k = tt
        go (Some f) k = (k, h.1)
    picked-scoped g u o c (ex2 true w a b) p l d h = go (sees_order w) (listed_behind t g a) (listed_behind t g b)
        (behind-scoped g u o c a p.0 l.0 d.0 h.0) (behind-scoped g u o c b p.1.0 l.1.0 d.1.0 h.1.0)
      where
        go : (v : Bool) (r q : Option Ex) → InScope z u o r → InScope z u o q →
            InScope z u o (if v then or_else (option_map (λ f. ex2 true w f b) r) (option_map (λ f. ex2 true w a f) q) else None)
        go false r q k m = tt
        go true (Some f) q k m = (k, h.1)
        go true None (Some f) k m = (h.0, (m, tt))
        go true None None k m = tt
    picked-scoped g u o c _ p l d h = tt
