-- Of the rules that read no kind only those that are told, and the one that counts members, fire at the root of a tree over views.
use Rattle.std.proofs.Common.{◌≡◌, refl, ap, ◌∙◌, ◌⊎◌, ℕ, Bool, true, false, ◌&&◌, if◌then◌else◌, List, map, Option, Some, None, option_map}
use Rattle.ess_semantics.specs.declared.words.Op1.{Op1}
use Rattle.ess_semantics.specs.declared.words.Op2.{Op2}
use Rattle.ess_semantics.specs.declared.words.Fun.{Fun}
use Rattle.ess_semantics.specs.Lists.{and_then}
use Rattle.ess_semantics.specs.Values.{Text, a_set}
use Rattle.ess_semantics.specs.Names.{Names}
use Rattle.ess_semantics.specs.Refined.{is_refined, are_refined_gens}
use Rattle.ess_semantics.specs.Trees.{name_pat, Ex, Exs, comp_ex, ex1, ex2, fun1, Gens, from}
use Rattle.ess_semantics.specs.Types.{Ty, compound1}
use Rattle.ess_semantics.specs.Typing.{type_of}
use Rattle.ess_rules_laws.specs.SpliceRules.{append_gens}
use Rattle.ess_rules_laws.specs.SourceRules.{list_of}
use Rattle.ess_rules_laws.specs.Listings.{Alternative}
use Rattle.ess_rules_laws.specs.ComponentRules.{components, equal_where}
use Rattle.ess_rules_laws.specs.ShortSizeRules.{size_made}
use Rattle.ess_refine_laws.specs.Everywhere.{everywhere, everywhere_gens}
use Rattle.ess_refine_laws.specs.ExtremeRules.{is_extreme, are_none, either_number, extreme_condition}
use Rattle.ess_refine_laws.specs.ExtremeAlternatives.{put_alternative, extreme_alternatives}
use Rattle.ess_refine_laws.specs.LeavingConditions.{Parted, at_last_condition}
use Rattle.ess_refine_laws.specs.MovingConditions.{one_later, condition_later}
use Rattle.ess_refine_laws.specs.AllRules.{Rule, Supply, offered, rewrite, opposite_copied, over_nothing, equal_tuples, equal_records, equal_multisets, equal_functions, equal_partitions, with_nothing, equal_matrices_at, included_multisets, size_of_one_made_of_another, condition_behind, least_under_a_condition, least_of_alternatives}
use Rattle.ess_open_rules_laws.specs.OpenRules.{is_compound_ty}
use Rattle.ess_flat_laws.specs.Flat.{denied, negative, absolute, both, either, implied, agreeing, equal, unequal, below, at_most, above, at_least, sum, difference, product}
use Rattle.ess_flat_laws.proofs.Asked.{unasked, no-msets, no-functions, no-partitions, no-components, no-fields, no-matrices, no-nothing}
use Rattle.ess_seen_laws.specs.ess_bare_laws.Lean.{FoldWord, of_all, of_some, of_sum}
use Rattle.ess_seen_laws.specs.Seen.{scalars, kind_ty, Bound, bound_types, united, shared, lessened, so_many, from_to, from_0, subsets, none_below, Compares, alike, apart, included, properly_included, including, properly_including, Seen, Listed, last_item, item_before, number, truth, named, counted, figure, flag, atom, one, two, chosen, folded, of_items, size, within, set_within, compared, SetTerm, view, drawn, combined, Going, at_end, through, through_slots, among, where_holds, Kind}
use Rattle.ess_seen_laws.specs.Laws.{SeenTreesHaveTypes}
use Rattle.ess_seen_laws.specs.MayFire.{may_fire, CountsMembers}
use Rattle.ess_seen_rules_laws.proofs.Allowed.{Allowed, allowed-none, Answer, answer-so}
use Rattle.ess_seen_rules_laws.proofs.SetTypes.{no-set-components, no-set-fields, no-set-msets, no-set-functions, no-set-partitions, no-set-nothing, no-set-matrices, are-sets}

-- Scalars aren't of compound values.
mark-plain : (m : Bool) → is_compound_ty (Some (kind_ty (scalars m))) ≡ false
mark-plain true = refl
mark-plain false = refl

-- Conditions move under `min` and `max` alone.
sum-stays : (e : Ex) (gs : Gens) → Allowed false (condition_later (fun1 false Fun.Sum (comp_ex e gs)))
sum-stays e gs = go (at_last_condition gs)
  where
    go : (o : Option Parted) → Allowed false (elim o [
      | None ↦ None
      | Some t ↦ if is_extreme Fun.Sum && (is_refined t.condition && (is_refined e && are_refined_gens t.after))
          then option_map (λ hs. fun1 false Fun.Sum (comp_ex e (append_gens t.before hs))) (one_later t.condition t.after) else None
    ])
    go None = tt
    go (Some t) = tt

sum-is-no-extreme : (m e : Ex) (gs : Gens) → Allowed false (extreme_condition m (fun1 false Fun.Sum (comp_ex e gs)))
sum-is-no-extreme m e gs = go (at_last_condition gs)
  where
    go : (o : Option Parted) → Allowed false (elim o [
      | None ↦ None
      | Some t ↦ if (is_extreme Fun.Sum && are_none t.after) && (is_refined t.condition && (is_refined e && (is_refined m
          && are_refined_gens t.before)))
          then Some (fun1 false Fun.Sum (comp_ex (either_number t.condition (everywhere e) m) (everywhere_gens t.before))) else None
    ])
    go None = tt
    go (Some t) = tt

-- Alternatives of a source have a least item under `min` and `max` alone.
sum-has-no-least : (o : Option (List Alternative)) (y : Text) (e v : Ex) (hs : Gens) → Allowed false
    (and_then o (λ l. extreme_alternatives (map (put_alternative y e hs) l) (fun1 false Fun.Sum (comp_ex e (from (name_pat y) v hs)))))
sum-has-no-least None y e v hs = tt
sum-has-no-least (Some l) y e v hs = tt

module _ (types : SeenTreesHaveTypes) (cells : Text → Option (Bool × List ℕ)) (s : Supply) (r : Names Bound) where
  abbrev F : Ex → Bool → Type 0
  F = Seen cells r

  abbrev g : Names Ty
  g = bound_types r

  abbrev A : Ex → Rule → Type 0
  A e u = Answer g u e (rewrite s g u e)

  none : (o : Option Ex) → o ≡ None → Allowed false o
  none o q = allowed-none false o q

  -- An absolute value isn't the size of what is made of something.
  no-size : {e : Ex} {m : Bool} → F e m → size_made g s.one (ex1 false Op1.Bar e) ≡ None
  no-size number = refl
  no-size truth = refl
  no-size (named h k) = refl
  no-size (figure h i) = refl
  no-size (flag h i) = refl
  no-size (atom h p) = refl
  no-size (one denied f) = refl
  no-size (one negative f) = refl
  no-size (one absolute f) = refl
  no-size (two both f h) = refl
  no-size (two either f h) = refl
  no-size (two implied f h) = refl
  no-size (two agreeing f h) = refl
  no-size (two equal f h) = refl
  no-size (two unequal f h) = refl
  no-size (two below f h) = refl
  no-size (two at_most f h) = refl
  no-size (two above f h) = refl
  no-size (two at_least f h) = refl
  no-size (two sum f h) = refl
  no-size (two difference f h) = refl
  no-size (two product f h) = refl
  no-size (chosen f) = refl
  no-size (folded of_all k f) = refl
  no-size (folded of_some k f) = refl
  no-size (folded of_sum k f) = refl
  no-size (counted so_many) = refl
  no-size (counted (from_to q)) = refl
  no-size (counted from_0) = refl
  no-size (counted (subsets t)) = refl
  no-size (counted (none_below t)) = refl
  no-size (of_items of_all l) = refl
  no-size (of_items of_some l) = refl
  no-size (of_items of_sum l) = refl
  no-size (size h) = refl
  no-size (within f h) = refl
  no-size (set_within h k) = refl
  no-size (compared o h k) = refl

  -- At `toInt`.
  at-chosen : {x : Ex} {m : Bool} → F x m → (u : Rule) → A (fun1 false Fun.ToInt x) u
  at-chosen number over_nothing = tt
  at-chosen truth over_nothing = tt
  at-chosen (named h k) over_nothing = tt
  at-chosen (figure h i) over_nothing = tt
  at-chosen (flag h i) over_nothing = tt
  at-chosen (atom h p) over_nothing = tt
  at-chosen (one o f) over_nothing = tt
  at-chosen (two o f h) over_nothing = tt
  at-chosen (chosen f) over_nothing = tt
  at-chosen (folded w k f) over_nothing = tt
  at-chosen (counted so_many) over_nothing = tt
  at-chosen (counted (from_to q)) over_nothing = tt
  at-chosen (counted from_0) over_nothing = tt
  at-chosen (counted (subsets t)) over_nothing = tt
  at-chosen (counted (none_below t)) over_nothing = tt
  at-chosen (of_items w l) over_nothing = tt
  at-chosen (size h) over_nothing = tt
  at-chosen (within f h) over_nothing = tt
  at-chosen (set_within h k) over_nothing = tt
  at-chosen (compared o h k) over_nothing = tt
  at-chosen f u = tt

  -- At a fold of truth values.
  at-truths : {t : Names Bound} {w : Fun} {gs : Gens} (e : Ex) → FoldWord true w → Going cells r gs t → (u : Rule) →
      A (fun1 true w (comp_ex e gs)) u
  at-truths e of_all at_end over_nothing = tt
  at-truths e of_all (through n k) over_nothing = tt
  at-truths e of_all (through_slots c k) over_nothing = tt
  at-truths e of_all (among (view a b c d) k) over_nothing = tt
  at-truths e of_all (among (drawn h) k) over_nothing = tt
  at-truths e of_all (among (combined o h l) k) over_nothing = tt
  at-truths e of_all (where_holds f k) over_nothing = tt
  at-truths e of_some at_end over_nothing = tt
  at-truths e of_some (through n k) over_nothing = tt
  at-truths e of_some (through_slots c k) over_nothing = tt
  at-truths e of_some (among (view a b c d) k) over_nothing = tt
  at-truths e of_some (among (drawn h) k) over_nothing = tt
  at-truths e of_some (among (combined o h l) k) over_nothing = tt
  at-truths e of_some (where_holds f k) over_nothing = tt
  at-truths e w k u = tt

  -- At a sum.
  at-sum : {t : Names Bound} {gs : Gens} (e : Ex) → Going cells r gs t → (u : Rule) → A (fun1 false Fun.Sum (comp_ex e gs)) u
  at-sum e at_end over_nothing = tt
  at-sum e (through n k) over_nothing = tt
  at-sum e (through_slots c k) over_nothing = tt
  at-sum e (among (view a b c d) k) over_nothing = tt
  at-sum e (among (drawn h) k) over_nothing = tt
  at-sum e (among (combined united h l) k) over_nothing = tt
  at-sum e (among (combined shared h l) k) over_nothing = tt
  at-sum e (among (combined lessened h l) k) over_nothing = tt
  at-sum e (where_holds f k) over_nothing = tt
  at-sum {gs = gs} e k condition_behind = sum-stays e gs
  at-sum {gs = gs} e k least_under_a_condition = sum-is-no-extreme (opposite_copied s (fun1 false Fun.Sum (comp_ex e gs))) e gs
  at-sum e (among {a = y} {s = v} {gs = hs} (combined o h l) k) least_of_alternatives = sum-has-no-least (offered s g v) y e v hs
  at-sum e k u = tt

  at-fold : {t : Names Bound} {m : Bool} {w : Fun} {gs : Gens} (e : Ex) → FoldWord m w → Going cells r gs t → (u : Rule) →
      A (fun1 m w (comp_ex e gs)) u
  at-fold e of_all k u = at-truths e of_all k u
  at-fold e of_some k u = at-truths e of_some k u
  at-fold e of_sum k u = at-sum e k u

  -- Over one item, or over several.
  at-items : {m : Bool} {w : Fun} {es : Exs} → FoldWord m w → Listed cells r es m → (u : Rule) → A (fun1 m w (list_of es)) u
  at-items of_all (last_item f) over_nothing = tt
  at-items of_all (item_before f l) over_nothing = tt
  at-items of_some (last_item f) over_nothing = tt
  at-items of_some (item_before f l) over_nothing = tt
  at-items of_sum (last_item f) over_nothing = tt
  at-items of_sum (item_before f l) over_nothing = tt
  at-items w l u = tt

  -- At a size of a set, and at a membership.
  at-size : {e : Ex} {k : Kind} → SetTerm cells r e k → (u : Rule) → A (ex1 false Op1.Bar e) u
  at-size (view a b c d) over_nothing = tt
  at-size (drawn h) over_nothing = tt
  at-size (combined o h k) over_nothing = tt
  at-size h u = tt

  at-within : {e : Ex} {k : Kind} (x : Ex) → SetTerm cells r e k → (u : Rule) → A (ex2 true Op2.Member x e) u
  at-within x (view a b c d) over_nothing = tt
  at-within x (drawn h) over_nothing = tt
  at-within x (combined o h k) over_nothing = tt
  at-within x h u = tt

  -- At signs between sets.
  set-ty : {e : Ex} {k : Kind} → SetTerm cells r e k → type_of e g ≡ Some (compound1 a_set (kind_ty k))
  set-ty {e} {k} h = types.of_sets cells r e k h

  at-equal : {a b : Ex} {k l : Kind} → SetTerm cells r a k → SetTerm cells r b l → (u : Rule) → A (ex2 true Op2.Eq a b) u
  at-equal h k over_nothing = tt
  at-equal {a} {b} h k equal_tuples = none _ (no-set-components (type_of a g) (type_of b g) a b (set-ty h))
  at-equal {a} {b} h k equal_records = none _ (no-set-fields (type_of a g) (type_of b g) a b (set-ty h))
  at-equal {a} {b} h k equal_multisets = none _ (unasked _ (no-set-msets (type_of a g) (type_of b g) (set-ty h)))
  at-equal {a} {b} h k equal_functions = none _ (unasked _ (no-set-functions (type_of a g) (type_of b g) (set-ty h)))
  at-equal {a} {b} h k equal_partitions = none _ (unasked _ (no-set-partitions (type_of a g) (type_of b g) (set-ty h)))
  at-equal {a} {b} h k with_nothing = none _ (no-set-nothing g s.one a b (set-ty h) (set-ty k))
  at-equal {a} {b} h k equal_matrices_at = none _ (no-set-matrices (type_of a g) (type_of b g) _ (set-ty h))
  at-equal h k u = tt

  at-inclusion : {a b : Ex} {k l : Kind} → SetTerm cells r a k → SetTerm cells r b l → (u : Rule) → A (ex2 true Op2.SubsetEq a b) u
  at-inclusion h k over_nothing = tt
  at-inclusion {a} {b} h k included_multisets = record {
    counts = refl;
    first = a;
    second = b;
    root = refl;
    sets = are-sets (type_of a g) (type_of b g) (set-ty h) (set-ty k);
  }
  at-inclusion h k u = tt

  at-compared : {o : Op2} {a b : Ex} {k l : Kind} → Compares o → SetTerm cells r a k → SetTerm cells r b l → (u : Rule) →
      A (ex2 true o a b) u
  at-compared alike h k u = at-equal h k u
  at-compared included h k u = at-inclusion h k u
  at-compared apart h k over_nothing = tt
  at-compared properly_included h k over_nothing = tt
  at-compared including h k over_nothing = tt
  at-compared properly_including h k over_nothing = tt
  at-compared w h k u = tt

  -- No operand is of compound values.
  plain : {e : Ex} {m : Bool} → F e m → is_compound_ty (type_of e g) ≡ false
  plain {e} {m} f = ap is_compound_ty (types.of_scalars cells r e m f) ∙ mark-plain m

  -- What each answers.
  pub few : {e : Ex} {m : Bool} → F e m → (u : Rule) → A e u
  few number over_nothing = tt
  few truth over_nothing = tt
  few (named h k) over_nothing = tt
  few (figure h i) over_nothing = tt
  few (flag h i) over_nothing = tt
  few (atom h p) over_nothing = tt
  few (one denied f) over_nothing = tt
  few (one negative f) over_nothing = tt
  few (one absolute f) over_nothing = tt
  few (one {x = x} absolute f) size_of_one_made_of_another = none _ (no-size f)
  few (two both f h) over_nothing = tt
  few (two either f h) over_nothing = tt
  few (two implied f h) over_nothing = tt
  few (two agreeing f h) over_nothing = tt
  few (two equal f h) over_nothing = tt
  few (two {x = x} {y = y} equal f h) equal_tuples = none _
      (ap (λ o. equal_where o (components (type_of y g)) x y) (no-components (type_of x g) (plain f)))
  few (two {x = x} {y = y} equal f h) equal_records = none _ (no-fields (type_of x g) (type_of y g) x y (plain f))
  few (two {x = x} {y = y} equal f h) equal_multisets = none _ (unasked _ (no-msets (type_of x g) (type_of y g) (plain f)))
  few (two {x = x} {y = y} equal f h) equal_functions = none _ (unasked _ (no-functions (type_of x g) (type_of y g) (plain f)))
  few (two {x = x} {y = y} equal f h) equal_partitions = none _ (unasked _ (no-partitions (type_of x g) (type_of y g) (plain f)))
  few (two {x = x} {y = y} equal f h) with_nothing = none _ (no-nothing g s.one x y (plain f) (plain h))
  few (two {x = x} {y = y} equal f h) equal_matrices_at = none _ (no-matrices (type_of x g) (type_of y g) _ (plain f))
  few (two unequal f h) over_nothing = tt
  few (two below f h) over_nothing = tt
  few (two at_most f h) over_nothing = tt
  few (two above f h) over_nothing = tt
  few (two at_least f h) over_nothing = tt
  few (two sum f h) over_nothing = tt
  few (two difference f h) over_nothing = tt
  few (two product f h) over_nothing = tt
  few (chosen f) u = at-chosen f u
  few (folded {e = e} w k f) u = at-fold e w k u
  few (counted so_many) over_nothing = tt
  few (counted (from_to q)) over_nothing = tt
  few (counted from_0) over_nothing = tt
  few (counted (subsets t)) over_nothing = tt
  few (counted (none_below t)) over_nothing = tt
  few (of_items w l) u = at-items w l u
  few (size h) u = at-size h u
  few (within {a = a} f h) u = at-within a h u
  few (set_within {a = a} h k) u = at-within a k u
  few (compared w h k) u = at-compared w h k u
  few f u = tt

  -- So a rule that fires is one that may, or counts members of sets.
  pub fires : (u : Rule) (e f : Ex) (m : Bool) → F e m → rewrite s g u e ≡ Some f → (may_fire u ≡ true) ⊎ CountsMembers g u e
  fires u e f m h q = answer-so g u e f (rewrite s g u e) (few h u) q
