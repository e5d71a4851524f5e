-- The declared tables of plans are the same where the same stands in the place of names.
use Rattle.std.proofs.Common.{◌≡◌, refl, ap, false}
use Rattle.ess_semantics.specs.Lists.{or_default}
use Rattle.ess_semantics.specs.Names.{keys}
use Rattle.ess_semantics.specs.Plans.{Plan, size_plan, value_plan}
use Rattle.ess_repr_declare_laws.specs.DeclaredTrees.{trees_below}
use Rattle.conjure_model_laws.specs.Shown.{Shows, domain_shown}
use Rattle.conjure_model_laws.specs.IsBuiltFrom.{with_whole_names, declared_of}
use Rattle.ess_model_shown.specs.Tables.{SameShows}

-- The domain of a plan over tables.
pub same_domain : (s t : Shows) (p : Plan) → SameShows s t → domain_shown s p ≡ domain_shown t p
same_domain s t (size_plan u n) e = refl
same_domain s t (value_plan f x r d ns) e = ap (λ o. or_default o d) (e.doms x)

-- Its declared tables.
pub same_declared : (s t : Shows) (p : Plan) → SameShows s t → declared_of s p ≡ declared_of t p
same_declared s t (size_plan u n) e = refl
same_declared s t (value_plan f x r d ns) e =
    ap (λ c. with_whole_names (keys ns) (trees_below false r c)) (same_domain s t (value_plan f x r d ns) e)
