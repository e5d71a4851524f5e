-- Names that earlier items bind.
use Rattle.std.proofs.Common.{◌≡◌, refl, sym, ap, ◌∙◌, ◌||◌, List, [], ◌∷◌}
use Rattle.std.specs.Str.{bytes_eq}
use Rattle.ess_semantics.specs.Values.{Text}
use Rattle.ess_semantics.specs.Names.{is_among}
use Rattle.ess_semantics.specs.Trees.{name_ex}
use Rattle.ess_semantics.proofs.Texts.{same_text-either, same_text-bytes}
use Rattle.ess_grammar.specs.Patterns.{is_bound_name}
use Rattle.ess_core.specs.TreeViews.{pure_pat}
use Rattle.ess_core.specs.declared.expressions.Pat.{Pat}
use Rattle.ess_core.specs.declared.expressions.Pat.TheVariants as pat
use Rattle.ess_core.proofs.PartEquations.{pure_pat_name}
use Rattle.ess_parse_frames.specs.Patterns.{pattern_ex}

bound-among : (bs : List Text) (a : Text) → is_among bs a ≡ is_bound_name bs (name_ex a)
bound-among [] a = refl
bound-among (b ∷ bs) a = ap (λ x. x || is_among bs a) (same_text-either b a ∙ same_text-bytes a b) ∙ ap (λ x. bytes_eq a b || x) (bound-among bs a)

-- A pattern that is a name is bound where the name is among the bound ones.
pub name_is_bound : (bs : List Text) (p : Pat) (a : Text) → p ≡ pat.Name a → is_among bs a ≡ is_bound_name bs (pattern_ex (pure_pat p))
name_is_bound bs p a e = bound-among bs a ∙ ap (λ q. is_bound_name bs (pattern_ex q)) (sym (ap pure_pat e ∙ pure_pat_name a))
