-- Words of a comprehension, and folds of folds, by the parts of the root.
use Rattle.std.proofs.Common.{◌≡◌, refl, if◌then◌else◌, Some, None}
use Rattle.ess_semantics.specs.Lists.{and_then}
use Rattle.ess_semantics.specs.Trees.{Ex, comp_ex, fun1}
use Rattle.ess_rules_laws.specs.SourceRules.{is_marked}
use Rattle.ess_open_rules_laws.specs.OpenGenerators.{at_first_open, folds_nested, nested}
use Rattle.ess_rules_folds.specs.Forms.{word_parts, first_comp, are_none}
use Rattle.ess_rules_opening.specs.OpenedViews.{comp_word}

pub word_by_parts : (e : Ex) → comp_word e ≡ and_then (word_parts e) (λ w. and_then (first_comp w.2) (λ c. if are_none c.2
    then Some (record { mark = w.0; fun = w.1; body = c.0; gens = c.1 }) else None))
word_by_parts (fun1 m f (comp_ex e gs)) = refl
word_by_parts e = refl

pub nested_by_parts : (e : Ex) → nested e ≡ and_then (comp_word e) (λ p. if is_marked p.mark p.fun
    then and_then (at_first_open p.gens) (folds_nested p.mark p.fun p.body) else None)
nested_by_parts (fun1 m f (comp_ex e gs)) = refl
nested_by_parts e = refl
