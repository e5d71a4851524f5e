-- How many items a list has at most is said with the names of the list, and of what follows it, and with one for members of index domains.
use Rattle.std.proofs.Common.{ℕ, zero, suc, Bool, true, false, if◌then◌else◌, List, [], ◌∷◌, pos, Option, Some, None, option_map}
use Rattle.std.specs.Prelude.{IsTrue}
use Rattle.ess_semantics.specs.declared.words.Fun.{Fun}
use Rattle.ess_semantics.specs.Lists.{and_then}
use Rattle.ess_semantics.specs.Values.{Text}
use Rattle.ess_semantics.specs.Order.{same_text}
use Rattle.ess_semantics.specs.Occurrences.{free_of, has_cells}
use Rattle.ess_semantics.specs.Trees.{index, application, word, tuple_literal, matrix_literal, function_literal, record_literal, Pat, name_pat, tuple_pat, Ex, Exs, number_ex, node_ex, matrix_ex, comp_ex, seen_ex, no_exs, more_exs, Gens, no_gens, over, from, cond, Dom, fun1}
use Rattle.ess_guard_laws.specs.IndexDomains.{first_index, plain_axis}
use Rattle.ess_refine_laws.specs.AllRules.{OfSome}
use Rattle.ess_numbered_laws.specs.ThereByForm.{is_there}
use Rattle.ess_numbered_laws.specs.MostItems.{Pick, an_item, a_result, a_component, a_field, pick_of, dom_along, sum_at, members_counted, all_summed, behind_condition, so_often, most, most_behind, most_of_each, most_at, most_of_field, list_axis}
use Rattle.ess_numbered_laws.proofs.ReachedDomains.{PassesOn, axis-passed}
use Rattle.ess_chain_names_laws.specs.NamesHave.{NamesHave, AllNamesHave, GensNamesHave, DomNamesHave, DomsNamesHave}
use Rattle.ess_chain_names_laws.proofs.NamesOfFolds.{Answers, when}
use Rattle.ess_ordered_laws.specs.NumberedItems.{is_from_one}
use Rattle.ess_semantics.specs.Constants.{operand_count}

module _ (u : Text → Bool) where
  -- What names of domains have those of their parts have.
  pub passes : PassesOn (DomNamesHave u) (DomsNamesHave u)
  passes = record {
    of_several = λ d ds h. h;
    of_tuple = λ ds h. h;
    of_record = λ fs ds h. h;
    of_matrix = λ is d h. h;
    to_matrix = λ is d h k. (h, k);
    of_results = λ ms es d c h. h.2;
  }

  -- ---- numbers

  abbrev AllHave : Option Exs → Type 0
  AllHave None = Unit {0}
  AllHave (Some es) = AllNamesHave u es

  summed-names : (o : Option Exs) → AllHave o → Answers u (option_map all_summed o)
  summed-names None h = tt
  summed-names (Some es) h = (h, tt)

  more-names : (o : Option Ex) (p : Option Exs) → Answers u o → AllHave p → AllHave (and_then o (λ n. option_map (more_exs n) p))
  more-names None p h k = tt
  more-names (Some n) None h k = tt
  more-names (Some n) (Some es) h k = (h, k)

  condition-names : (c : Ex) → NamesHave u c → (o : Option Ex) → Answers u o → Answers u (and_then o (behind_condition c))
  condition-names c h None k = tt
  condition-names c h (Some n) k = go (has_cells c)
    where
      go : (b : Bool) → Answers u (if b then (if is_there n then Some n else None) else Some (fun1 false Fun.Sum (comp_ex n (cond c no_gens))))
      go true = when u (is_there n) n k
      go false = ((k, (h, tt)), tt)

  often-names : (p : Pat) (k n : Ex) → NamesHave u k → NamesHave u n → Answers u (so_often p k n)
  often-names (name_pat y) k n h i = when u (free_of (y ∷ []) (more_exs n no_exs)) _ (h, (i, tt))
  often-names (tuple_pat ps) k n h i = tt

  source-names : (p : Pat) (o q : Option Ex) → Answers u o → Answers u q → Answers u (and_then o (λ k. and_then q (so_often p k)))
  source-names p None q h i = tt
  source-names p (Some k) None h i = tt
  source-names p (Some k) (Some n) h i = often-names p k n h i

  over-names : (p : Pat) (d : Dom) → GensNamesHave u (over p d no_gens) → (o : Option Ex) → Answers u o →
      Answers u (option_map (λ m. sum_at m (over p d no_gens)) o)
  over-names p d h None k = tt
  over-names p d h (Some m) k = ((k, h), tt)

  items-names : (f : Ex → Option Ex) → ((n : Ex) → NamesHave u n → Answers u (f n)) → (o : Option Ex) → Answers u o →
      Answers u (and_then o f)
  items-names f k None h = tt
  items-names f k (Some n) h = k n h

  field-or : (b : Bool) (o q : Option Ex) → Answers u o → Answers u q → Answers u (if b then o else q)
  field-or true o q h k = h
  field-or false o q h k = k

  -- ---- the number

  module _ (z : Text) (x : IsTrue (u z)) where
    list-passed : (o : Option Dom) → OfSome (plain_axis o) (DomNamesHave u) → OfSome (list_axis o) (DomNamesHave u)
    list-passed None h = tt
    list-passed (Some d) h = go (is_from_one d)
      where
        go : (c : Bool) → OfSome (if c then plain_axis (Some d) else None) (DomNamesHave u)
        go true = h
        go false = tt

    axis-names : (o : Option Dom) → OfSome o (DomNamesHave u) → Answers u (option_map (members_counted z) o)
    axis-names None h = tt
    axis-names (Some d) h = ((tt, (x, h, tt)), tt)

    mutual
      -- Of what steps reach from a term.
      pub most-names : (ps : List Pick) (e : Ex) → NamesHave u e → Answers u (most z ps e)
      most-names ps (node_ex b (index (q ∷ [])) (more_exs t is)) h = most-names (pick_of q ∷ ps) t h.0
      most-names ps (node_ex b application (more_exs f is)) h = most-names (a_result ∷ ps) f h.0
      most-names ps (node_ex b (word Fun.Image) (more_exs f is)) h = most-names (a_result ∷ ps) f h.0
      most-names [] (node_ex false matrix_literal es) h = tt
      most-names (an_item ∷ ps) (node_ex false matrix_literal es) h = summed-names (most_of_each z ps es) (each-names ps es h)
      most-names (a_component k ∷ ps) (node_ex false tuple_literal es) h = at-names k ps es h
      most-names (a_field a ∷ ps) (node_ex false (record_literal fs) es) h = field-names a fs ps es h
      most-names (a_result ∷ ps) (node_ex false function_literal es) h =
          summed-names (most_of_each z (a_component 2 ∷ ps) es) (each-names (a_component 2 ∷ ps) es h)
      most-names [] (matrix_ex es d) h = field-or (is_from_one d) (Some (number_ex (pos (operand_count es)))) None tt tt
      most-names (an_item ∷ ps) (matrix_ex es d) h = summed-names (most_of_each z ps es) (each-names ps es h.0)
      most-names [] (comp_ex e gs) h = behind-names gs h.1 (number_ex (pos 1)) tt
      most-names (an_item ∷ ps) (comp_ex e gs) h = items-names (most_behind z gs) (behind-names gs h.1) (most z ps e) (most-names ps e h.0)
      most-names ps (seen_ex r d ns es) h = axis-names (list_axis (first_index (dom_along ps (Some d))))
          (list-passed (first_index (dom_along ps (Some d))) (axis-passed (DomNamesHave u) (DomsNamesHave u) passes ps d h.0))
      most-names _ _ h = tt

      -- At each binding of generators.
      pub behind-names : (gs : Gens) → GensNamesHave u gs → (n : Ex) → NamesHave u n → Answers u (most_behind z gs n)
      behind-names no_gens h n k = k
      behind-names (over p d gs) h n k = over-names p d (h.0, h.1, tt) (most_behind z gs n) (behind-names gs h.2 n k)
      behind-names (from p t gs) h n k = source-names p (most z [] t) (most_behind z gs n) (most-names [] t h.1) (behind-names gs h.2 n k)
      behind-names (cond c gs) h n k = condition-names c h.0 (most_behind z gs n) (behind-names gs h.1 n k)

      each-names : (ps : List Pick) (es : Exs) → AllNamesHave u es → AllHave (most_of_each z ps es)
      each-names ps no_exs h = tt
      each-names ps (more_exs e es) h = more-names (most z ps e) (most_of_each z ps es) (most-names ps e h.0) (each-names ps es h.1)

      at-names : (k : ℕ) (ps : List Pick) (es : Exs) → AllNamesHave u es → Answers u (most_at k z ps es)
      at-names k ps no_exs h = tt
      at-names zero ps (more_exs e es) h = tt
      at-names (suc zero) ps (more_exs e es) h = most-names ps e h.0
      at-names (suc (suc k)) ps (more_exs e es) h = at-names (suc k) ps es h.1

      field-names : (a : Text) (fs : List Text) (ps : List Pick) (es : Exs) → AllNamesHave u es → Answers u (most_of_field a fs z ps es)
      field-names a (f ∷ fs) ps (more_exs e es) h =
          field-or (same_text f a) (most z ps e) (most_of_field a fs z ps es) (most-names ps e h.0) (field-names a fs ps es h.1)
      field-names a [] ps es h = tt
      field-names a (f ∷ fs) ps no_exs h = tt
