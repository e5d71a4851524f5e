-- Whether the letting of a statement is new.
use Rattle.std.specs.Prelude.{if◌then◌else◌, is_some}
use Rattle.ess_semantics.specs.Names.{look}
use Rattle.ess_semantics.specs.Trees.{Stm, let_ex, let_dom}
use Rattle.ess_semantics.specs.Lettings.{Lettings}
use Rattle.ess_types_scopes.specs.declared.added.Added.{Added}
use Rattle.ess_types_scopes.specs.declared.added.Added.TheVariants.{New, Standing}

-- Whether a statement's letting has a new name. A statement that is no letting counts as new.
abbrev pub letting_added : Stm → Lettings → Added
letting_added (let_ex x e) l = if is_some (look l.exs x) then Standing else New
letting_added (let_dom x d) l = if is_some (look l.doms x) then Standing else New
letting_added s l = New
