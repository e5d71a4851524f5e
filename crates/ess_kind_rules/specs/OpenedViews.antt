-- What the code puts together, as the definitions have it.
use Rattle.ess_semantics.specs.Values.{Text}
use Rattle.ess_semantics.specs.Trees.{Ex, Gens}
use Rattle.ess_rules_laws.specs.Listings.{Alternative}
use Rattle.ess_refine_laws.specs.ExtremeAlternatives.{put_alternative}
use Rattle.ess_open_rules_laws.specs.OpenSources.{behind_gens}

-- An alternative of the source as one of the whole comprehension, behind generators.
abbrev pub put_at : Gens → Text → Ex → Gens → Alternative → Alternative
put_at gs y e hs a = behind_gens gs (put_alternative y e hs a)
