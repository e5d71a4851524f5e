-- What tells how many items a list has that is picked out of written ones has what the parts of that list have.
use Rattle.std.proofs.Common.{◌≡◌, refl, ℕ, suc, Bool, true, false, if◌then◌else◌, List, [], ◌∷◌, ◌++◌, pos, Option, Some, None, option_map}
use Rattle.ess_semantics.specs.declared.words.Op2.{Op2}
use Rattle.ess_semantics.specs.declared.words.Fun.{Fun}
use Rattle.ess_semantics.specs.Lists.{and_then}
use Rattle.ess_semantics.specs.Values.{Text}
use Rattle.ess_semantics.specs.Occurrences.{has_cells}
use Rattle.ess_semantics.specs.Trees.{by_value, index, matrix_literal, Ex, Exs, number_ex, node_ex, comp_ex, no_exs, more_exs, Gens, no_gens, cond, ex2, fun1}
use Rattle.ess_semantics.proofs.Tests.{and-both}
use Rattle.ess_rules_laws.specs.Listings.{Alternative}
use Rattle.ess_refine_laws.specs.AllRules.{OfSome}
use Rattle.ess_open_rules_laws.specs.OpenGenerators.{are_over_domains}
use Rattle.ess_guard_laws.specs.IndexDomains.{one_up_to}
use Rattle.ess_ordered_laws.specs.ToldAxes.{cases_behind, cases_of, cases_at, written_cases, number_written, numbers_written, number_picked, counted_axis}
use Rattle.ess_given_laws.specs.PartsHave.{Wanted, PartsHave, AllHave, GensHave}
use Rattle.ess_given_laws.specs.Given.{is_fixed, is_fixed_dom}
use Rattle.ess_given_laws.proofs.PartsHave.{append-parts}
use Rattle.ess_given_laws.proofs.FixedTrees.{fixed, fixed-has, has-fixed}
use Rattle.ess_given_laws.proofs.PartsOfFolds.{Answers, HaveAll, HaveSome}

module _ (w : Wanted) where
  -- ---- cases

  behind-have : (gs : Gens) (k : ℕ) (i : Ex) (es : Exs) → GensHave w gs → PartsHave w i → AllHave w es → HaveAll w (cases_behind gs k i es)
  behind-have gs k i no_exs g h j = tt
  behind-have gs k i (more_exs e es) g h j = (
    (j.0, append-parts w gs (cond (ex2 true Op2.Eq i (number_ex (pos k))) no_gens) g ((h, (tt, tt)), tt)),
    behind-have gs (suc k) i es g h j.1,
  )

  of-literal : (gs : Gens) (i e : Ex) → GensHave w gs → PartsHave w i → PartsHave w e → HaveSome w (cases_of gs i e)
  of-literal gs i (node_ex false matrix_literal es) g h j = behind-have gs 1 i es g h j
  of-literal gs i _ g h j = tt

  both-have : (l k : List Alternative) → HaveAll w l → HaveAll w k → HaveAll w (l ++ k)
  both-have [] k h j = j
  both-have (a ∷ l) k h j = (h.0, both-have l k h.1 j)

  at-have : (i : Ex) (l : List Alternative) → PartsHave w i → HaveAll w l → HaveSome w (cases_at i l)
  at-have i [] h j = tt
  at-have i (a ∷ l) h j = go (cases_of a.gens i a.item) (cases_at i l) (of-literal a.gens i a.item j.0.1 h j.0.0) (at-have i l h j.1)
    where
      go : (o p : Option (List Alternative)) → HaveSome w o → HaveSome w p →
          HaveSome w (and_then o (λ r. option_map (λ rs. r ++ rs) p))
      go None p h j = tt
      go (Some r) None h j = tt
      go (Some r) (Some rs) h j = both-have r rs h j

  cases-have : (t : Ex) → PartsHave w t → HaveSome w (written_cases t)
  cases-have (node_ex b (index (by_value ∷ [])) (more_exs m (more_exs i no_exs))) h = go (written_cases m) (cases-have m h.0)
    where
      go : (o : Option (List Alternative)) → HaveSome w o → HaveSome w (and_then o (cases_at i))
      go None k = tt
      go (Some l) k = at-have i l h.1.0 k
  cases-have t h = ((h, tt), tt)

  -- ---- numbers

  written-has : (e : Ex) → PartsHave w e → Answers w (number_written e)
  written-has (node_ex false matrix_literal es) h = tt
  written-has (comp_ex e gs) h = go (are_over_domains gs)
    where
      go : (b : Bool) → Answers w (if b then Some (fun1 false Fun.Sum (comp_ex (number_ex (pos 1)) gs)) else None)
      go true = ((tt, h.1), tt)
      go false = tt
  written-has _ h = tt

  abbrev AnswersAll : Option Exs → Type 0
  AnswersAll None = Unit {0}
  AnswersAll (Some es) = AllHave w es

  each-has : (l : List Alternative) → HaveAll w l → AnswersAll (numbers_written l)
  each-has [] h = tt
  each-has (a ∷ l) h = go (number_written a.item) (numbers_written l) (written-has a.item h.0.0) (each-has l h.1)
    where
      go : (o : Option Ex) (p : Option Exs) → Answers w o → AnswersAll p →
          AnswersAll (and_then o (λ n. option_map (more_exs (fun1 false Fun.Sum (comp_ex n a.gens))) p))
      go None p k j = tt
      go (Some n) None k j = tt
      go (Some n) (Some es) k j = (((k, h.0.1), tt), j)

  picked-has : (t : Ex) → PartsHave w t → Answers w (number_picked t)
  picked-has t h = go (written_cases t) (cases-have t h)
    where
      at : (p : Option Exs) → AnswersAll p → Answers w (option_map (λ es. fun1 false Fun.Sum (node_ex false matrix_literal es)) p)
      at None j = tt
      at (Some es) j = (j, tt)

      go : (o : Option (List Alternative)) → HaveSome w o →
          Answers w (and_then o (λ l. option_map (λ es. fun1 false Fun.Sum (node_ex false matrix_literal es)) (numbers_written l)))
      go None k = tt
      go (Some l) k = at (numbers_written l) (each-has l k)

-- So the index domain that it tells is fixed where the list is.
pub counted-fixed : (u : Text → Bool) (t : Ex) → is_fixed u t ≡ true → OfSome (counted_axis t) (λ d. is_fixed_dom u d ≡ true)
counted-fixed u t q = go (number_picked t) (picked-has (fixed u) t (fixed-has u t q))
  where
    at : (b : Bool) (n : Ex) → is_fixed u n ≡ true → OfSome (if b then None else Some (one_up_to n)) (λ d. is_fixed_dom u d ≡ true)
    at true n k = tt
    at false n k = and-both (is_fixed u n) true k refl

    go : (o : Option Ex) → Answers (fixed u) o →
        OfSome (and_then o (λ n. if has_cells n then None else Some (one_up_to n))) (λ d. is_fixed_dom u d ≡ true)
    go None k = tt
    go (Some n) k = at (has_cells n) n (has-fixed u n k)
