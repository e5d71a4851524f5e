-- Sources that are items, by the parts of a word of a comprehension and by the generators.
use Rattle.std.specs.Prelude.{Bool, true, if◌then◌else◌, Option, Some, None, option_map}
use Rattle.ess_semantics.specs.Lists.{and_then}
use Rattle.ess_semantics.specs.Values.{Text}
use Rattle.ess_semantics.specs.Trees.{word, name_pat, Ex, name_ex, comp_ex, Gens, from, fun1}
use Rattle.ess_semantics.specs.ExpressionJudgements.{forgets_order}
use Rattle.ess_rules_laws.specs.Listings.{Alternative}
use Rattle.ess_rules_laws.specs.ListedSources.{laid_out}
use Rattle.ess_refine_laws.specs.AllRules.{Supply, only_one}
use Rattle.ess_rules_folds.specs.Forms.{source_parts}
use Rattle.ess_rules_opening.specs.OpenedViews.{WordParts}
use Rattle.ess_ordered_laws.specs.NumberedItems.{ordered_lookup}
use Rattle.ess_ordered_laws.specs.SourcesOfItems.{may_be_taken, item_behind}

-- A word that forgets order, over such a source.
abbrev pub under_word : Supply → WordParts → Option Ex
under_word s p =
    if forgets_order (word p.fun) then option_map (fun1 p.mark p.fun) (item_behind s true (comp_ex p.body p.gens)) else None

-- A new name over what the alternative has, and the bound one over that, before others.
abbrev pub gens_over : Text → Text → Alternative → Gens → Gens
gens_over z y a hs = from (name_pat z) (laid_out a) (from (name_pat y) (name_ex z) hs)

-- Generators whose first one runs over such a source.
abbrev pub item_gens : Supply → Bool → Gens → Option Gens
item_gens s any gs = and_then (source_parts gs) (λ q. and_then (only_one (ordered_lookup s.third s.parts q.1))
    (λ a. if may_be_taken any a then Some (gens_over s.other q.0 a q.2) else None))
