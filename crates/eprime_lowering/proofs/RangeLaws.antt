-- Ranges put together again are those of an int domain, where the bounds fit.
use Rattle.std.proofs.Common.{◌≡◌, refl, sym, ap, ◌∙◌, List, [], ◌∷◌, ◌++◌, map, Option, Some, None, true, false}
use Rattle.std.specs.Option.{option_map}
use Rattle.ess_semantics.specs.Lists.{when, append_all}
use Rattle.ess_semantics.specs.Trees as pure
use Rattle.ess_semantics.specs.Trees.{int_dom, one_value, both_ends, low_end, high_end, no_exs, more_exs}
use Rattle.ess_grammar.specs.Readable.{fit_ranges}
use Rattle.ess_grammar.specs.Models.{Scope}
use Rattle.ess_core_nodes.specs.declared.words.Ends.{Ends}
use Rattle.ess_core_nodes.specs.NodeViews.{pure_ends}
use Rattle.eprime_tree.specs.declared.expressions.PEx.{PEx}
use Rattle.eprime_tree.specs.declared.expressions.PRange.{PRange}
use Rattle.eprime_tree.specs.declared.expressions.PRange.TheVariants as range
use Rattle.eprime_tree.specs.declared.expressions.PDom.TheVariants as dom
use Rattle.eprime_tree.specs.Views.{exs_of, pure_ex, pure_dom, pure_range}
use Rattle.eprime_tree.proofs.Equations.{pure_dom-Int, pure_range-One, pure_range-Span}
use Rattle.eprime_lowering.specs.Ranges.{ranges_of}

-- The forms and the bounds of ranges are just these.
record Splits (s : Scope) (rs : List PRange) (ends : List Ends) (es : List PEx) : Type 0 where
  forms : map (λ r. r.0) (map (pure_range s) rs) ≡ map pure_ends ends
  bounds : append_all (map (λ r. r.1) (map (pure_range s) rs)) ≡ map (pure_ex s) es

-- With a range more before them.
one-more : (s : Scope) (r : PRange) (rs : List PRange) (e : Ends) (ends : List Ends) (xs es : List PEx) →
    pure_range s r ≡ (pure_ends e, map (pure_ex s) xs) → Splits s rs ends es → Splits s (r ∷ rs) (e ∷ ends) (xs ++ es)
one-more s r rs e ends xs es h k = record {
  forms = ap (λ p. p.0 ∷ map (λ r. r.0) (map (pure_range s) rs)) h ∙ ap (λ l. pure_ends e ∷ l) k.forms;
  bounds = ap (λ p. p.1 ++ append_all (map (λ r. r.1) (map (pure_range s) rs))) h ∙ ap (λ l. map (pure_ex s) xs ++ l) k.bounds ∙ joined xs;
}
  where
    joined : (ys : List PEx) → map (pure_ex s) ys ++ map (pure_ex s) es ≡ map (pure_ex s) (ys ++ es)
    joined [] = refl
    joined (y ∷ ys) = ap (λ l. pure_ex s y ∷ l) (joined ys)

-- What the ranges are, where they are there.
abbrev Told : Scope → List Ends → List PEx → Option (List PRange) → Type 0
Told s ends es (Some rs) = Splits s rs ends es × (fit_ranges (map pure_ends ends) (exs_of (map (pure_ex s) es)) ≡ true)
Told s ends es None = fit_ranges (map pure_ends ends) (exs_of (map (pure_ex s) es)) ≡ false

told-more : (s : Scope) (r : PRange) (e : Ends) (ends : List Ends) (xs es : List PEx) (o : Option (List PRange)) →
    pure_range s r ≡ (pure_ends e, map (pure_ex s) xs) →
    fit_ranges (map pure_ends (e ∷ ends)) (exs_of (map (pure_ex s) (xs ++ es))) ≡ fit_ranges (map pure_ends ends)
    (exs_of (map (pure_ex s) es)) →
    Told s ends es o → Told s (e ∷ ends) (xs ++ es) (option_map (λ rs. r ∷ rs) o)
told-more s r e ends xs es (Some rs) h f k = (one-more s r rs e ends xs es h k.0, f ∙ k.1)
told-more s r e ends xs es None h f k = f ∙ k

told : (s : Scope) (ends : List Ends) (es : List PEx) → Told s ends es (ranges_of ends es)
told s [] [] = (record { forms = refl; bounds = refl }, refl)
told s [] (e ∷ es) = refl
told s (Ends.One ∷ ends) [] = refl
told s (Ends.One ∷ ends) (a ∷ es) =
    told-more s (range.One a) Ends.One ends (a ∷ []) es (ranges_of ends es) (pure_range-One s a) refl (told s ends es)
told s (Ends.Both ∷ ends) [] = refl
told s (Ends.Both ∷ ends) (a ∷ []) = refl
told s (Ends.Both ∷ ends) (a ∷ b ∷ es) =
    told-more s (range.Span (Some a) (Some b)) Ends.Both ends (a ∷ b ∷ []) es (ranges_of ends es)
    (pure_range-Span s (Some a) (Some b)) refl (told s ends es)
told s (Ends.Low ∷ ends) [] = refl
told s (Ends.Low ∷ ends) (a ∷ es) =
    told-more s (range.Span (Some a) None) Ends.Low ends (a ∷ []) es (ranges_of ends es) (pure_range-Span s (Some a) None) refl
    (told s ends es)
told s (Ends.High ∷ ends) [] = refl
told s (Ends.High ∷ ends) (b ∷ es) =
    told-more s (range.Span None (Some b)) Ends.High ends (b ∷ []) es (ranges_of ends es) (pure_range-Span s None (Some b)) refl
    (told s ends es)

-- What an int domain of bounds is, where these fit.
abbrev pub domain_of : Scope → List Ends → List PEx → Option pure.Dom
domain_of s ends es =
    when (fit_ranges (map pure_ends ends) (exs_of (map (pure_ex s) es))) (int_dom (map pure_ends ends) (exs_of (map (pure_ex s) es)))

answer : (s : Scope) (ends : List Ends) (es : List PEx) (o : Option (List PRange)) → Told s ends es o →
    option_map (λ rs. pure_dom s (dom.Int rs)) o ≡ domain_of s ends es
answer s ends es (Some rs) k =
    ap (λ d. Some d) (pure_dom-Int s rs ∙ ap (λ l. int_dom l (exs_of (append_all (map (λ r. r.1) (map (pure_range s) rs))))) (k.0).forms
    ∙ ap (λ l. int_dom (map pure_ends ends) (exs_of l)) (k.0).bounds)
    ∙ sym (ap (λ b. when b (int_dom (map pure_ends ends) (exs_of (map (pure_ex s) es)))) k.1)
answer s ends es None k = sym (ap (λ b. when b (int_dom (map pure_ends ends) (exs_of (map (pure_ex s) es)))) k)

-- The domain of ranges that are there.
pub domain_there : (s : Scope) (ends : List Ends) (es : List PEx) (rs : List PRange) → Some rs ≡ ranges_of ends es →
    option_map (pure_dom s) (Some (dom.Int rs)) ≡ domain_of s ends es
domain_there s ends es rs h = ap (option_map (λ rs. pure_dom s (dom.Int rs))) h ∙ answer s ends es (ranges_of ends es) (told s ends es)

-- That of ranges that aren't.
pub domain_none : (s : Scope) (ends : List Ends) (es : List PEx) → None ≡ ranges_of ends es → None ≡ domain_of s ends es
domain_none s ends es h = ap (option_map (λ rs. pure_dom s (dom.Int rs))) h ∙ answer s ends es (ranges_of ends es) (told s ends es)
