-- Lists in place of matrices that aren't numbered from 1 bring no name but the one that they take.
use Rattle.std.proofs.Common.{ℕ, zero, suc, Bool, true, false, ◌&&◌, not, if◌then◌else◌, [], ◌∷◌, Option, Some, None, option_map, is_some}
use Rattle.std.specs.Prelude.{IsTrue}
use Rattle.ess_semantics.specs.Lists.{or_else}
use Rattle.ess_semantics.specs.Values.{Text, a_matrix}
use Rattle.ess_semantics.specs.Names.{Names}
use Rattle.ess_semantics.specs.Trees.{by_value, index, matrix_literal, name_pat, Ex, Exs, node_ex, matrix_ex, comp_ex, seen_ex, no_exs, more_exs, from, Dom, int_dom, ex2}
use Rattle.ess_semantics.specs.Types.{Ty, compound2, type_of_dom}
use Rattle.ess_semantics.specs.NamesAt.{names_behind}
use Rattle.ess_guard_laws.specs.IndexDomains.{first_index, plain_axis}
use Rattle.ess_rules_laws.specs.SourceRules.{list_of}
use Rattle.ess_refine_laws.specs.AllRules.{Supply, OfSome}
use Rattle.ess_ordered_laws.specs.NumberedItems.{is_from_one}
use Rattle.ess_numbered_laws.specs.MostItems.{most_items}
use Rattle.ess_numbered_laws.specs.CountedSources.{is_counted, sees_order}
use Rattle.ess_numbered_laws.specs.ListedPicks.{shifted_axis, literal_as_list, view_as_list, with_lists, each_with_lists, listed_term, listed_source, listed_behind, lists_picked}
use Rattle.ess_numbered_laws.proofs.ReachedDomains.{axis-passed}
use Rattle.ess_chain_names_laws.specs.NamesHave.{NamesHave, AllNamesHave, DomNamesHave, DomsNamesHave}
use Rattle.ess_chain_names_laws.proofs.NamesOfFolds.{Answers, under}
use Rattle.ess_ordered_names_laws.proofs.NamesOfSources.{behind-names}
use Rattle.ess_numbered_names_laws.proofs.NamesOfMost.{passes}

module _ (u : Text → Bool) where
  module _ (x : Text) (n : IsTrue (u x)) where
    -- ---- one matrix

    literal-names : (es : Exs) (d : Dom) → NamesHave u (matrix_ex es d) → NamesHave u (literal_as_list es d)
    literal-names no_exs d h = h
    literal-names (more_exs e es) d h = go (is_some (shifted_axis (Some d)))
      where
        go : (b : Bool) → NamesHave u (if b then list_of (more_exs e es) else matrix_ex (more_exs e es) d)
        go true = h.0
        go false = h

    shifted-names : (o : Option Dom) → OfSome o (DomNamesHave u) → OfSome (shifted_axis o) (DomNamesHave u)
    shifted-names (Some (int_dom rs es)) h = go (is_from_one (int_dom rs es))
      where
        go : (b : Bool) → OfSome (if b then None else Some (int_dom rs es)) (DomNamesHave u)
        go true = tt
        go false = h
    shifted-names _ h = tt

    view-names : (v : Ex) (t : Ty) (o : Option Dom) → NamesHave u v → OfSome o (DomNamesHave u) → NamesHave u (view_as_list x v t o)
    view-names v t None h k = h
    view-names v (compound2 a_matrix i w) (Some d) h k = ((h, (n, tt)), (n, k, tt))
    view-names v _ (Some d) h k = h

    -- ---- what is picked

    mutual
      with-lists-names : (k : ℕ) (e : Ex) → NamesHave u e → NamesHave u (with_lists x k e)
      with-lists-names k (node_ex false (index (by_value ∷ [])) (more_exs t (more_exs i no_exs))) h =
          (with-lists-names (suc k) t h.0, h.1)
      with-lists-names (suc k) (node_ex false matrix_literal es) h = each-names k es h
      with-lists-names (suc k) (matrix_ex es d) h = (each-names k es h.0, h.1)
      with-lists-names zero (matrix_ex es d) h = literal-names es d h
      with-lists-names zero (seen_ex r d ns es) h =
          view-names (seen_ex r d ns es) (type_of_dom d) (shifted_axis (plain_axis (first_index (Some d)))) h
          (shifted-names (plain_axis (first_index (Some d))) (axis-passed (DomNamesHave u) (DomsNamesHave u) (passes u) [] d h.0))
      with-lists-names k e h = h

      each-names : (k : ℕ) (es : Exs) → AllNamesHave u es → AllNamesHave u (each_with_lists x k es)
      each-names k no_exs h = tt
      each-names k (more_exs e es) h = (with-lists-names k e h.0, each-names k es h.1)

  -- ---- a source

  module _ (s : Supply) (n : IsTrue (u s.one)) where
    term-names : (g : Names Ty) (a : Ex) → NamesHave u a → Answers u (listed_term s g a)
    term-names g a h = under u
        (is_counted s g a && (not (is_some (most_items s.third a)) && is_some (most_items s.third (with_lists s.one zero a))))
        (Some (with_lists s.one zero a)) (with-lists-names s.one n zero a h)

    source-names : (g : Names Ty) (e : Ex) → NamesHave u e → Answers u (listed_source s g e)
    source-names g (comp_ex e (from (name_pat y) a hs)) h = go (listed_term s g a) (term-names g a h.1.1)
      where
        go : (o : Option Ex) → Answers u o → Answers u (option_map (λ l. comp_ex e (from (name_pat y) l hs)) o)
        go None k = tt
        go (Some l) k = (h.0, (h.1.0, k, h.1.2))
    source-names g _ h = tt

    listed-names : (g : Names Ty) (a : Ex) → NamesHave u a → Answers u (listed_behind s g a)
    listed-names g a h = behind-names u (λ gs. listed_source s (names_behind gs g)) (λ gs f k. source-names (names_behind gs g) f k) a h

    -- ---- where order counts

    -- An item of such a comprehension, and a pair.
    pub picked-names : (g : Names Ty) (e : Ex) → NamesHave u e → Answers u (lists_picked s g e)
    picked-names g (node_ex b (index (by_value ∷ [])) (more_exs a (more_exs i no_exs))) h = go (listed_behind s g a) (listed-names g a h.0)
      where
        go : (o : Option Ex) → Answers u o →
            Answers u (option_map (λ c. node_ex b (index (by_value ∷ [])) (more_exs c (more_exs i no_exs))) o)
        go None k = tt
        go (Some c) k = (k, h.1)
    picked-names g (ex2 true o a b) h = go (sees_order o) (listed_behind s g a) (listed_behind s g b) (listed-names g a h.0)
        (listed-names g b h.1.0)
      where
        go : (c : Bool) (p q : Option Ex) → Answers u p → Answers u q →
            Answers u (if c then or_else (option_map (λ c. ex2 true o c b) p) (option_map (λ c. ex2 true o a c) q) else None)
        go false p q k l = tt
        go true (Some c) q k l = (k, h.1)
        go true None (Some c) k l = (h.0, (l, tt))
        go true None None k l = tt
    picked-names g _ h = tt
