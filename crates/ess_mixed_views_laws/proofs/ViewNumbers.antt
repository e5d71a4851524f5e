-- The view of a find that is a nested set spells constants of the specification alone.
use Rattle.std.proofs.Common.{◌≡◌, refl, sym, ap, ◌∙◌, Bool, true, ◌&&◌, List, [], ◌∷◌, ◌++◌, map, ℤ, pos, append-nil, append_assoc}
use Rattle.std.specs.List.{list_all, list_any}
use Rattle.ess_semantics.specs.Lists.{append_all}
use Rattle.ess_semantics.specs.Order.{same_int}
use Rattle.ess_semantics.specs.Values.{Text}
use Rattle.ess_semantics.specs.Trees.{Mark, Repr, Ex, Exs, seen_ex, no_exs, Dom, Stm, find}
use Rattle.ess_semantics.specs.Constants.{numbers_of_part, constants_of}
use Rattle.ess_semantics.specs.Occurrences.{parts_of_all, parts_of_dom}
use Rattle.ess_semantics.specs.Prepared.{prepared}
use Rattle.ess_semantics.specs.TableNames.{Named}
use Rattle.ess_semantics.specs.Plans.{Options, finds_side, value_plan, plans}
use Rattle.ess_semantics.proofs.Tests.{and-both}
use Rattle.conjure_laws.specs.Members.{In}
use Rattle.conjure_laws.specs.ModelPremises.{spelled}
use Rattle.conjure_laws.proofs.Lists.{at-item, test-append}
use Rattle.conjure_laws.proofs.Statements.{plan-is-found}
use Rattle.ess_refine_laws.specs.SpellingEnds.{numbers_of_tree}
use Rattle.ess_nested_laws.proofs.NestedForms.{Sizes, no_sizes, one_size, WrittenAtom, written_truths, written_numbers, NestedSet, of_atoms, of_sets}
use Rattle.ess_flat_models_laws.proofs.FlatValues.{NumbersOfAll}
use Rattle.ess_flat_models_laws.proofs.FlatTexts.{IsConst}
use Rattle.ess_mixed_models_laws.proofs.PreparedSets.{RangeNumbers, RangesAre}
use Rattle.ess_mixed_models_laws.proofs.MixedConstants.{ranges-spelled}
use Rattle.ess_mixed_models_laws.proofs.NestedSpelled.{nested-ranged}

module _ (S : List Stm) where
  abbrev isc : ℤ → Bool
  isc n = list_any (same_int n) (constants_of S)

  numbers-append : (xs ys : List Ex) →
      append_all (map numbers_of_part (xs ++ ys)) ≡ append_all (map numbers_of_part xs) ++ append_all (map numbers_of_part ys)
  numbers-append [] ys = refl
  numbers-append (x ∷ xs) ys =
      ap (λ l. numbers_of_part x ++ l) (numbers-append xs ys)
      ∙ sym (append_assoc (numbers_of_part x) (append_all (map numbers_of_part xs)) (append_all (map numbers_of_part ys)))

  spelled-both : (xs ys : List Ex) → spelled S xs ≡ true → spelled S ys ≡ true → spelled S (xs ++ ys) ≡ true
  spelled-both xs ys p q =
      ap (list_all isc) (numbers-append xs ys) ∙ test-append isc (append_all (map numbers_of_part xs)) (append_all (map numbers_of_part ys))
      ∙ and-both (spelled S xs) (spelled S ys) p q

  sizes-spelled : {ms : List Mark} {es : Exs} → Sizes ms es → NumbersOfAll (IsConst S) es → spelled S (parts_of_all es) ≡ true
  sizes-spelled no_sizes h = refl
  sizes-spelled (one_size {n = n} {es = es} k s) h =
      and-both (isc (pos n)) (spelled S (parts_of_all es)) h.0 (sizes-spelled s h.1)

  atom-spelled : {d : Dom} → WrittenAtom d → RangeNumbers (IsConst S) d → spelled S (parts_of_dom d) ≡ true
  atom-spelled written_truths h = refl
  atom-spelled (written_numbers {a = a} {b = b}) h =
      and-both (isc (pos a)) (isc (pos b) && true) h.0 (and-both (isc (pos b)) true h.1.0 refl)

  nested-spelled : {d : Dom} → NestedSet d → RangeNumbers (IsConst S) d → spelled S (parts_of_dom d) ≡ true
  nested-spelled (of_atoms {es = es} {d = d} s a) h =
      spelled-both (parts_of_all es) (parts_of_dom d) (sizes-spelled s h.0) (atom-spelled a h.1)
  nested-spelled (of_sets {es = es} {d = d} s n) h =
      spelled-both (parts_of_all es) (parts_of_dom d) (sizes-spelled s h.0) (nested-spelled n h.1)

  -- The view spells constants.
  pub view-spelled : (o : Options) (x : Text) (r : Repr) (d : Dom) (ns : List Named) (ts : List Text) →
      In (value_plan finds_side x r d ns) (plans S o) → NestedSet d → list_all isc (numbers_of_tree (seen_ex r d ts no_exs)) ≡ true
  view-spelled o x r d ns ts i n =
      ap (λ l. list_all isc (append_all (map numbers_of_part l))) (append-nil (parts_of_dom d))
      ∙ nested-spelled n (at-item (RangesAre (IsConst S)) (prepared S) (find x d) (ranges-spelled S) (plan-is-found S o x r d ns i)
      (nested-ranged n))
