-- The list of a domain's members, where they can be listed and where they can't.
use Rattle.std.proofs.Common.{◌≡◌, sym, ap, ◌∙◌, List, [], map, Option, Some, None, option_map}
use Rattle.ess_semantics.specs.Lists.{list_or_none}
use Rattle.ess_semantics.specs.Domains.{Domain, members, member_list}
use Rattle.ess_core.specs.declared.values.Val.{Val}
use Rattle.ess_core.specs.ValueViews.{pure_val}

-- Members that are listed.
pub list_there : (d : Domain) (vs : List Val) (o : Option (List Val)) → o ≡ Some vs → option_map (map pure_val) o ≡ members d → map pure_val vs ≡ member_list d
list_there d vs o e h = ap (λ q. list_or_none (option_map (map pure_val) q)) (sym e) ∙ ap list_or_none h

-- Members that can't be listed.
pub list_none : (d : Domain) (o : Option (List Val)) → o ≡ None → option_map (map pure_val) o ≡ members d → [] ≡ member_list d
list_none d o e h = ap (λ q. list_or_none (option_map (map pure_val) q)) (sym e) ∙ ap list_or_none h
