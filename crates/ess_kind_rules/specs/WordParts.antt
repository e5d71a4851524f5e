-- Rules of words, by the parts of a root.
use Rattle.std.specs.Prelude.{Bool, true, false, if◌then◌else◌, Option, Some, None, option_map}
use Rattle.ess_semantics.specs.declared.words.Fun.{Fun}
use Rattle.ess_semantics.specs.Lists.{and_then}
use Rattle.ess_semantics.specs.Names.{Names}
use Rattle.ess_semantics.specs.Types.{Ty}
use Rattle.ess_semantics.specs.Trees.{Ex, comp_ex, fun1}
use Rattle.ess_refine_laws.specs.ExtremeAlternatives.{extreme_alternatives}
use Rattle.ess_refine_laws.specs.ExtremeRules.{is_extreme}
use Rattle.ess_refine_laws.specs.AllRules.{Supply}
use Rattle.ess_open_rules_laws.specs.OpenSources.{comp_offered, several, sets_united}
use Rattle.ess_rules_opening.specs.OpenedViews.{WordParts}

-- The least or the greatest over several alternatives.
abbrev pub least_by : Supply → Names Ty → WordParts → Option Ex
least_by s g p =
    if p.mark then None else (if is_extreme p.fun
    then and_then (several (comp_offered s g p.body p.gens)) (λ l. extreme_alternatives l (fun1 false p.fun (comp_ex p.body p.gens))) else None)

-- Whether the word makes a set.
abbrev pub makes_set : Fun → Bool
makes_set Fun.ToSet = true
makes_set f = false

-- The set of the items over several alternatives.
abbrev pub set_by : Supply → Names Ty → WordParts → Option Ex
set_by s g p =
    if p.mark then None
    else (if makes_set p.fun then option_map sets_united (several (comp_offered s g p.body p.gens)) else None)

-- Whether the word says that items differ.
abbrev pub tells_apart : Fun → Bool
tells_apart Fun.AllDiff = true
tells_apart f = false
