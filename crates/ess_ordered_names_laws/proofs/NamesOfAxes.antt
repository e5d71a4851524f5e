-- Index domains that are told have the names of the terms that tell them.
use Rattle.std.proofs.Common.{ℕ, zero, suc, Bool, true, false, if◌then◌else◌, List, [], ◌∷◌, ◌++◌, pos, Option, Some, None, option_map}
use Rattle.ess_semantics.specs.declared.words.Op2.{Op2}
use Rattle.ess_semantics.specs.declared.words.Fun.{Fun}
use Rattle.ess_semantics.specs.declared.words.ReprKind.{ReprKind}
use Rattle.ess_semantics.specs.Lists.{and_then, or_else, or_default}
use Rattle.ess_semantics.specs.Values.{Text}
use Rattle.ess_semantics.specs.Order.{same_text}
use Rattle.ess_semantics.specs.Occurrences.{has_cells}
use Rattle.ess_semantics.specs.Trees.{by_value, to_component, to_field, index, application, word, matrix_literal, repr, no_reprs, Ex, Exs, number_ex, node_ex, comp_ex, seen_ex, no_exs, more_exs, Gens, no_gens, cond, Dom, Doms, bool_dom, tuple_dom, record_dom, matrix_dom, function_dom, no_doms, more_doms, ex2, fun1}
use Rattle.ess_guard_laws.specs.IndexDomains.{one_up_to, first_index, plain_axis, index_dom}
use Rattle.ess_rules_laws.specs.SourceRules.{list_of}
use Rattle.ess_rules_laws.specs.Listings.{Alternative}
use Rattle.ess_kind_rules_laws.specs.TermLookups.{picks}
use Rattle.ess_open_rules_laws.specs.OpenGenerators.{are_over_domains}
use Rattle.ess_ordered_laws.specs.ToldAxes.{dom_at, dom_of_field, results_of, component_dom, field_dom, items_dom, dom_told, cases_behind, cases_of, cases_at, written_cases, number_written, numbers_written, number_picked, counted_axis, picked_axis, told_axis}
use Rattle.ess_chain_names_laws.specs.NamesHave.{NamesHave, AllNamesHave, GensNamesHave, DomNamesHave, DomsNamesHave}
use Rattle.ess_chain_names_laws.proofs.NamesHave.{append-names}
use Rattle.ess_chain_names_laws.proofs.NamesOfFolds.{Answers, HaveAll, HaveSome, when}
use Rattle.ess_chain_names_laws.proofs.SparedNames.{axis-has}

module _ (u : Text → Bool) where
  -- ---- the domain that a term follows

  abbrev SomeHas : Option Dom → Type 0
  SomeHas None = Unit {0}
  SomeHas (Some d) = DomNamesHave u d

  at-has : (k : ℕ) (ds : Doms) → DomsNamesHave u ds → SomeHas (dom_at k ds)
  at-has k no_doms h = tt
  at-has zero (more_doms d ds) h = tt
  at-has (suc zero) (more_doms d ds) h = h.0
  at-has (suc (suc k)) (more_doms d ds) h = at-has (suc k) ds h.1

  of-field-has : (a : Text) (fs : List Text) (ds : Doms) → DomsNamesHave u ds → SomeHas (dom_of_field a fs ds)
  of-field-has a [] ds h = tt
  of-field-has a (f ∷ fs) no_doms h = tt
  of-field-has a (f ∷ fs) (more_doms d ds) h = go (same_text f a) (of-field-has a fs ds h.1)
    where
      go : (b : Bool) → SomeHas (dom_of_field a fs ds) → SomeHas (if b then Some d else dom_of_field a fs ds)
      go true k = h.0
      go false k = k

  results-has : (o : Option Dom) → SomeHas o → SomeHas (results_of o)
  results-has (Some (function_dom ms es d c)) h = h.2
  results-has _ h = tt

  component-has : (k : ℕ) (o : Option Dom) → SomeHas o → SomeHas (component_dom k o)
  component-has k (Some (tuple_dom ds)) h = at-has k ds h
  component-has k _ h = tt

  field-has : (a : Text) (o : Option Dom) → SomeHas o → SomeHas (field_dom a o)
  field-has a (Some (record_dom fs ds)) h = of-field-has a fs ds h
  field-has a _ h = tt

  items-has : (o : Option Dom) → SomeHas o → SomeHas (items_dom o)
  items-has (Some (matrix_dom (more_doms i no_doms) d)) h = h.1
  items-has (Some (matrix_dom (more_doms i (more_doms j is)) d)) h = (h.0.1, h.1)
  items-has _ h = tt

  followed-has : (e : Ex) → NamesHave u e → SomeHas (dom_told e)
  followed-has (seen_ex r d ns es) h = h.0
  followed-has (node_ex b application (more_exs f (more_exs a no_exs))) h = results-has (dom_told f) (followed-has f h.0)
  followed-has (node_ex b (word Fun.Image) (more_exs f (more_exs a no_exs))) h = results-has (dom_told f) (followed-has f h.0)
  followed-has (node_ex b (index (to_component k ∷ [])) (more_exs t no_exs)) h = component-has k (dom_told t) (followed-has t h.0)
  followed-has (node_ex b (index (to_field a ∷ [])) (more_exs t no_exs)) h = field-has a (dom_told t) (followed-has t h.0)
  followed-has (node_ex b (index (by_value ∷ [])) (more_exs m (more_exs i no_exs))) h = items-has (dom_told m) (followed-has m h.0)
  followed-has _ h = tt

  -- Its index domain is that of a view which declares it.
  plain-has : (o : Option Dom) → SomeHas o → DomNamesHave u (or_default (plain_axis (first_index o)) bool_dom)
  plain-has None h = tt
  plain-has (Some d) h = axis-has u (seen_ex (repr ReprKind.Atom no_reprs) d [] no_exs) (h, tt)

  -- ---- how many items a picked list has

  behind-have : (gs : Gens) (k : ℕ) (i : Ex) (es : Exs) → GensNamesHave u gs → NamesHave u i → AllNamesHave u es →
      HaveAll u (cases_behind gs k i es)
  behind-have gs k i no_exs g h j = tt
  behind-have gs k i (more_exs e es) g h j = (
    (j.0, append-names u gs (cond (ex2 true Op2.Eq i (number_ex (pos k))) no_gens) g ((h, (tt, tt)), tt)),
    behind-have gs (suc k) i es g h j.1,
  )

  of-have : (gs : Gens) (i t : Ex) → GensNamesHave u gs → NamesHave u i → NamesHave u t → HaveSome u (cases_of gs i t)
  of-have gs i (node_ex false matrix_literal es) g h j = behind-have gs 1 i es g h j
  of-have gs i _ g h j = tt

  both-have : (l k : List Alternative) → HaveAll u l → HaveAll u k → HaveAll u (l ++ k)
  both-have [] k h j = j
  both-have (a ∷ l) k h j = (h.0, both-have l k h.1 j)

  at-have : (i : Ex) (l : List Alternative) → NamesHave u i → HaveAll u l → HaveSome u (cases_at i l)
  at-have i [] h j = tt
  at-have i (a ∷ l) h j = go (cases_of a.gens i a.item) (cases_at i l) (of-have a.gens i a.item j.0.1 h j.0.0) (at-have i l h j.1)
    where
      go : (o p : Option (List Alternative)) → HaveSome u o → HaveSome u p →
          HaveSome u (and_then o (λ r. option_map (λ rs. r ++ rs) p))
      go None p k m = tt
      go (Some r) None k m = tt
      go (Some r) (Some rs) k m = both-have r rs k m

  cases-have : (e : Ex) → NamesHave u e → HaveSome u (written_cases e)
  cases-have (node_ex b (index (by_value ∷ [])) (more_exs m (more_exs i no_exs))) h = go (written_cases m) (cases-have m h.0)
    where
      go : (o : Option (List Alternative)) → HaveSome u o → HaveSome u (and_then o (cases_at i))
      go None k = tt
      go (Some l) k = at-have i l h.1.0 k
  cases-have e h = ((h, tt), tt)

  written-has : (e : Ex) → NamesHave u e → Answers u (number_written e)
  written-has (node_ex false matrix_literal es) h = tt
  written-has (comp_ex e gs) h = when u (are_over_domains gs) _ ((tt, h.1), tt)
  written-has _ h = tt

  abbrev AllHave : Option Exs → Type 0
  AllHave None = Unit {0}
  AllHave (Some es) = AllNamesHave u es

  numbers-have : (l : List Alternative) → HaveAll u l → AllHave (numbers_written l)
  numbers-have [] h = tt
  numbers-have (a ∷ l) h = go (number_written a.item) (numbers_written l) (written-has a.item h.0.0) (numbers-have l h.1)
    where
      go : (o : Option Ex) (p : Option Exs) → Answers u o → AllHave p →
          AllHave (and_then o (λ n. option_map (more_exs (fun1 false Fun.Sum (comp_ex n a.gens))) p))
      go None p k m = tt
      go (Some n) None k m = tt
      go (Some n) (Some es) k m = (((k, h.0.1), tt), m)

  number-has : (t : Ex) → NamesHave u t → Answers u (number_picked t)
  number-has t h = go (written_cases t) (cases-have t h)
    where
      total : (p : Option Exs) → AllHave p → Answers u (option_map (λ es. fun1 false Fun.Sum (list_of es)) p)
      total None k = tt
      total (Some es) k = (k, tt)

      go : (o : Option (List Alternative)) → HaveSome u o →
          Answers u (and_then o (λ l. option_map (λ es. fun1 false Fun.Sum (list_of es)) (numbers_written l)))
      go None k = tt
      go (Some l) k = total (numbers_written l) (numbers-have l k)

  counted-has : (t : Ex) → NamesHave u t → DomNamesHave u (or_default (counted_axis t) bool_dom)
  counted-has t h = go (number_picked t) (number-has t h)
    where
      one : (b : Bool) (n : Ex) → NamesHave u n → DomNamesHave u (or_default (if b then None else Some (one_up_to n)) bool_dom)
      one true n k = tt
      one false n k = (tt, (k, tt))

      go : (o : Option Ex) → Answers u o →
          DomNamesHave u (or_default (and_then o (λ n. if has_cells n then None else Some (one_up_to n))) bool_dom)
      go None k = tt
      go (Some n) k = one (has_cells n) n k

  -- ---- the index domain

  either-has : (o p : Option Dom) → DomNamesHave u (or_default o bool_dom) → DomNamesHave u (or_default p bool_dom) →
      DomNamesHave u (or_default (or_else o p) bool_dom)
  either-has None p h k = k
  either-has (Some d) p h k = h

  picked-has : (t : Ex) → NamesHave u t → DomNamesHave u (or_default (picked_axis t) bool_dom)
  picked-has t h = go (picks t)
    where
      go : (b : Bool) → DomNamesHave u (or_default
          (if b then or_else (plain_axis (first_index (dom_told t))) (counted_axis t) else None) bool_dom)
      go true = either-has (plain_axis (first_index (dom_told t))) (counted_axis t) (plain-has (dom_told t) (followed-has t h))
          (counted-has t h)
      go false = tt

  -- That of any list.
  pub told-axis-has : (t : Ex) → NamesHave u t → DomNamesHave u (or_default (told_axis t) bool_dom)
  told-axis-has t h = either-has (index_dom t) (picked_axis t) (axis-has u t h) (picked-has t h)
