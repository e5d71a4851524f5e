-- Generators taken apart at the first that isn't plain: rules of sources fire at the first generator, and serve so behind plain ones.
use Rattle.std.specs.Prelude.{Bool, true, false, if◌then◌else◌, Option, Some, None, option_map}
use Rattle.ess_semantics.specs.declared.words.Fun.{Fun}
use Rattle.ess_semantics.specs.Lists.{and_then}
use Rattle.ess_semantics.specs.Trees.{Pat, name_pat, Ex, comp_ex, Gens, no_gens, over, from, cond, Dom, fun1}
use Rattle.ess_rules_laws.specs.SourceRules.{is_marked}
use Rattle.ess_rules_laws.specs.SpliceRules.{append_gens}
use Rattle.ess_refine_laws.specs.ItemsOnce.{is_atom_dom}
use Rattle.ess_refine_laws.specs.ExtremeRules.{are_none}

-- Generators in two parts.
pub record Opened : Type 0 where
  pub before : Gens
  pub after : Gens

-- The same with what f makes of the first part.
abbrev pub with_first : (Gens → Gens) → Opened → Opened
with_first f t = record t { before = f t.before }

-- The second part alone.
abbrev pub opened_here : Gens → Opened
opened_here gs = record { before = no_gens; after = gs }

-- Whether the pattern is a name, and the domain that of an atom.
abbrev pub is_plain_over : Pat → Dom → Bool
is_plain_over (name_pat x) d = is_atom_dom d
is_plain_over p d = false

-- The generators at the first that isn't plain. Plain are conditions, and names over the domains of atoms.
abbrev pub at_first_open : Gens → Option Opened
at_first_open no_gens = None
at_first_open (over p d gs) =
    if is_plain_over p d then option_map (with_first (over p d)) (at_first_open gs) else Some (opened_here (over p d gs))
at_first_open (from p e gs) = Some (opened_here (from p e gs))
at_first_open (cond c gs) = option_map (with_first (cond c)) (at_first_open gs)

-- ---- folds of folds

-- `F([e | gs, hs])` is `F([F([e | hs]) | gs])`, where gs are plain and hs begin with what isn't.
abbrev pub folds_nested : Bool → Fun → Ex → Opened → Option Ex
folds_nested m f e t =
    if are_none t.before then None else Some (fun1 m f (comp_ex (fun1 m f (comp_ex e t.after)) t.before))

abbrev pub nested : Ex → Option Ex
nested (fun1 m f (comp_ex e gs)) = if is_marked m f then and_then (at_first_open gs) (folds_nested m f e) else None
nested e = None

-- ---- rules behind plain generators

-- The comprehension with generators before its own.
abbrev pub put_before : Gens → Ex → Option Ex
put_before gs (comp_ex e ks) = Some (comp_ex e (append_gens gs ks))
put_before gs e = None

-- What a rule makes of the comprehension that begins with the first generator which isn't plain, behind the plain ones. The rule
-- is told these.
abbrev pub behind_plain : (Gens → Ex → Option Ex) → Ex → Option Ex
behind_plain r (comp_ex e gs) =
    and_then (at_first_open gs) (λ t. and_then (r t.before (comp_ex e t.after)) (put_before t.before))
behind_plain r e = None

-- ---- generators over domains alone

-- Whether each generator runs over a domain; there may be conditions.
abbrev pub are_over_domains : Gens → Bool
are_over_domains no_gens = true
are_over_domains (over p d gs) = are_over_domains gs
are_over_domains (from p e gs) = false
are_over_domains (cond c gs) = are_over_domains gs

-- Whether the expression is no comprehension with a generator over a source. The index domain of such a one, `int(1..n)`, would count in n
-- the items that its source brings, and n stands in a domain: it may not be asked for before the source is opened.
abbrev pub has_no_source : Ex → Bool
has_no_source (comp_ex e gs) = are_over_domains gs
has_no_source e = true
