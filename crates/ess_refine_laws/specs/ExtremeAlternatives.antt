-- `min` and `max` over several alternatives: each has its own least or greatest, or a number past all items where it has none.
use Rattle.std.specs.Prelude.{◌≡◌, Bool, true, false, List, [], ◌∷◌, map, ℤ, Option, Some, None, IsTrue, is_some, if◌then◌else◌}
use Rattle.ess_semantics.specs.declared.words.Op1.{Op1}
use Rattle.ess_semantics.specs.declared.words.Op2.{Op2}
use Rattle.ess_semantics.specs.declared.words.Fun.{Fun}
use Rattle.ess_semantics.specs.Values.{Text, Value, number}
use Rattle.ess_semantics.specs.Order.{below}
use Rattle.ess_semantics.specs.Trees.{name_pat, Ex, Exs, truth_ex, comp_ex, ex1, ex2, fun1, no_exs, more_exs, Gens, from}
use Rattle.ess_semantics.specs.Meaning.{Env, meaning}
use Rattle.ess_semantics.specs.Contexts.{EachOf}
use Rattle.ess_semantics.specs.Meets.{Meets}
use Rattle.ess_semantics.specs.Kept.{Keeps}
use Rattle.ess_semantics.specs.Substitution.{substitute, substitute_gens, for_name}
use Rattle.ess_rules_laws.specs.Rules.{IsNumber}
use Rattle.ess_rules_laws.specs.Listings.{Alternative, all_listed}
use Rattle.ess_rules_laws.specs.SourceRules.{list_of}
use Rattle.ess_rules_laws.specs.SpliceRules.{append_gens}
use Rattle.ess_rules_laws.specs.ListedSources.{laid_out, Offers, SourceApart}
use Rattle.ess_refine_laws.specs.Everywhere.{chosen, extreme}
use Rattle.ess_refine_laws.specs.ExtremeRules.{is_extreme}

-- ---- a comprehension over a source with several alternatives

-- The comprehension with an alternative of its first source: the item stands in the place of the name.
abbrev pub put_alternative : Text → Ex → Gens → Alternative → Alternative
put_alternative y e hs a = record {
  gens = append_gens a.gens (substitute_gens (for_name y a.item) hs);
  item = substitute (for_name y a.item) e;
}

-- So it has as many alternatives as its first source.
abbrev pub flat : List Alternative → Ex → Option (List Alternative)
flat l (comp_ex e (from (name_pat y) s hs)) = Some (map (put_alternative y e hs) l)
flat l e = None

-- The first source of the comprehension offers the alternatives.
abbrev pub FirstOffers : List Alternative → Ex → Env → Type 0
FirstOffers l (comp_ex e (from p s hs)) env = Offers s l env
FirstOffers l e env = Unit {0}

-- ---- the least of several alternatives

-- Whether there is an item: `or([true | gs])`.
abbrev pub has_items : Alternative → Ex
has_items a = fun1 true Fun.Or (comp_ex (truth_ex true) a.gens)

-- `sum([min([e | gs]) | or([true | gs])]) + toInt(!or([true | gs])) * m`: the least item, or m where there is none.
abbrev pub extreme_or : Fun → Ex → Alternative → Ex
extreme_or f m a = ex2 false Op2.Plus (extreme f (laid_out a)) (ex2 false Op2.Times (chosen (ex1 true Op1.Not (has_items a))) m)

-- That of each alternative.
abbrev pub each_extreme : Fun → Ex → List Alternative → Exs
each_extreme f m [] = no_exs
each_extreme f m (a ∷ l) = more_exs (extreme_or f m a) (each_extreme f m l)

-- `min(t)` is `min([n, ..])`, with one such number for each alternative of t. So it is with `max`.
abbrev pub extreme_parts : Ex → List Alternative → Ex → Option Ex
extreme_parts m l (fun1 false f t) = if is_extreme f then Some (fun1 false f (list_of (each_extreme f m l))) else None
extreme_parts m l e = None

-- The sum of the sizes of all items, `sum([|e| | gs])` for each alternative: no item is above it.
abbrev pub each_size : List Alternative → Exs
each_size [] = no_exs
each_size (a ∷ l) = more_exs (fun1 false Fun.Sum (comp_ex (ex1 false Op1.Bar a.item) a.gens)) (each_size l)

-- That sum for `min`, and for `max` what it is below 0.
abbrev pub past_all : Fun → List Alternative → Ex
past_all Fun.Max l = ex1 false Op1.Minus (fun1 false Fun.Sum (list_of (each_size l)))
past_all f l = fun1 false Fun.Sum (list_of (each_size l))

-- `min(t)` with this number where an alternative has none.
abbrev pub extreme_alternatives : List Alternative → Ex → Option Ex
extreme_alternatives l (fun1 false f t) = extreme_parts (past_all f l) l (fun1 false f t)
extreme_alternatives l e = None

-- Whether a value is beyond k: above it for `min`, below it for `max`.
abbrev pub is_past : Fun → Value → Value → Bool
is_past Fun.Max k v = below v k
is_past f k v = below k v

-- What it counts on: m is a number past all items, and these are numbers.
abbrev pub PastAll : Ex → Fun → List Alternative → Env → Type 0
PastAll m f l env =
    (k : ℤ) × (meaning m env ≡ Some (number k)) × Meets m env
    × EachOf (all_listed l env) (λ v. IsNumber (Some v) × (is_past f (number k) v ≡ false))

-- The term offers the alternatives, and the whole has a value.
abbrev pub AlternativesFit : Ex → List Alternative → Ex → Env → Type 0
AlternativesFit m l (fun1 b f t) env = IsTrue (is_some (meaning (fun1 b f t) env)) × Offers t l env × PastAll m f l env
AlternativesFit m l e env = Unit {0}

-- The same where items are numbers, which the number past them is made of.
abbrev pub NumbersFit : List Alternative → Ex → Env → Type 0
NumbersFit l (fun1 b f t) env =
    IsTrue (is_some (meaning (fun1 b f t) env)) × Offers t l env × EachOf (all_listed l env) (λ v. IsNumber (Some v))
NumbersFit l e env = Unit {0}

-- ---- the laws

-- A comprehension that is there offers the alternatives that it has by its first source; and the least of a term that offers
-- alternatives is kept with one number for each, with any number past all items or with the sum of their sizes.
pub record AlternativesServe : Type 0 where
  pub of_a_comprehension : (r s : Text → Bool) (l : List Alternative) (e : Ex) (k : List Alternative) → flat l e ≡ Some k →
      SourceApart r s l e → (env : Env) → IsTrue (is_some (meaning e env)) → Meets e env → FirstOffers l e env → Offers e k env
  pub of_a_term : (m : Ex) (l : List Alternative) (e f : Ex) → extreme_parts m l e ≡ Some f → (env : Env) → AlternativesFit m l e env →
      Keeps e f env
  pub of_numbers : (l : List Alternative) (e f : Ex) → extreme_alternatives l e ≡ Some f → (env : Env) → NumbersFit l e env → Keeps e f env
