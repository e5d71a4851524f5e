-- Names that a pattern binds, as fixed ones or not.
use Rattle.std.proofs.Common.{◌≡◌, refl, sym, ap, ◌∙◌, Bool, true, false, ◌||◌, if◌then◌else◌, ◌∷◌}
use Rattle.std.proofs.lemmas.List.Folds.{list_any-append}
use Rattle.ess_semantics.specs.Values.{Text}
use Rattle.ess_semantics.specs.Order.{same_text}
use Rattle.ess_semantics.specs.Names.{is_among}
use Rattle.ess_semantics.specs.Trees.{Pat, Pats, name_pat, tuple_pat, no_pats, more_pats}
use Rattle.ess_semantics.specs.Types.{pattern_names, all_pattern_names}
use Rattle.ess_semantics.specs.Scoped.{is_bound, is_bound_by_some}
use Rattle.ess_semantics.proofs.Tests.{or-left-no, or-right-no}
use Rattle.ess_given_conditions_laws.specs.InScope.{bound_as, all_bound_as}

if-or : (x b : Bool) → (if x then true else b) ≡ x || b
if-or true b = refl
if-or false b = refl

or-turned : (s p c : Bool) → s || (p || c) ≡ (p || s) || c
or-turned true true c = refl
or-turned true false c = refl
or-turned false true c = refl
or-turned false false c = refl

mutual
  -- As fixed ones.
  pub bound-is : (p : Pat) (s : Text → Bool) (a : Text) → bound_as true p s a ≡ is_bound p a || s a
  bound-is (name_pat b) s a = if-or (same_text b a) (s a)
  bound-is (tuple_pat ps) s a = all-bound-is ps s a

  all-bound-is : (ps : Pats) (s : Text → Bool) (a : Text) → all_bound_as true ps s a ≡ is_bound_by_some ps a || s a
  all-bound-is no_pats s a = refl
  all-bound-is (more_pats p ps) s a = all-bound-is ps (bound_as true p s) a
      ∙ ap (λ c. is_bound_by_some ps a || c) (bound-is p s a) ∙ or-turned (is_bound_by_some ps a) (is_bound p a) (s a)

else-so : (x b c : Bool) → x ≡ false → (if x then b else c) ≡ c
else-so x b c q = ap (λ y. if y then b else c) q

mutual
  -- Another name stays as it was.
  pub bound-other : (b : Bool) (p : Pat) (s : Text → Bool) (a : Text) → is_among (pattern_names p) a ≡ false → bound_as b p s a ≡ s a
  bound-other b (name_pat x) s a h = else-so (same_text x a) b (s a) (or-left-no (same_text x a) false h)
  bound-other b (tuple_pat ps) s a h = all-bound-other b ps s a h

  all-bound-other : (b : Bool) (ps : Pats) (s : Text → Bool) (a : Text) → is_among (all_pattern_names ps) a ≡ false →
      all_bound_as b ps s a ≡ s a
  all-bound-other b no_pats s a h = refl
  all-bound-other b (more_pats p ps) s a h =
      let k : is_among (pattern_names p) a || is_among (all_pattern_names ps) a ≡ false =
      sym (list_any-append (λ n. same_text n a) (pattern_names p) (all_pattern_names ps)) ∙ h in
      all-bound-other b ps (bound_as b p s) a (or-right-no (is_among (pattern_names p) a) (is_among (all_pattern_names ps) a) k)
      ∙ bound-other b p s a (or-left-no (is_among (pattern_names p) a) (is_among (all_pattern_names ps) a) k)
