-- The lettings that are kept, by name.
use Rattle.std.specs.Prelude.{List, ◌++◌, [], ◌∷◌, if◌then◌else◌, is_some, refl}
use Rattle.std.specs.Coded.{Coded, code_by, coded×, coded_ℕ, coded_list}
use Rattle.ess_semantics.specs.Values.{Text}
use Rattle.ess_semantics.specs.Names.{look}
use Rattle.ess_semantics.specs.Lettings as pure
use Rattle.ess_core.specs.declared.expressions.Ex.{Ex}
use Rattle.ess_core.specs.declared.domains.Dom.{Dom}
use Rattle.ess_core.specs.TreeViews.{pure_ex, pure_dom}
use Rattle.ess_types_names.specs.Maps.{newest_first}
use Rattle.ess_types_scopes.specs.declared.added.Added.{Added}
use Rattle.ess_types_scopes.specs.declared.added.Added.TheVariants.{New, Standing}

-- Lettings of expressions and of domains. Of each the oldest stands first.
pub record Kept : Type 0 where
  pub exs : List (Text × Ex)
  pub doms : List (Text × Dom)

-- Lettings are stored as their two lists.
abbrev pub kept_code : Coded Ex → Coded Dom → Coded Kept
kept_code e d =
    code_by (List (Text × Ex) × List (Text × Dom)) (coded× (coded_list (coded× (coded_list coded_ℕ) e)) (coded_list (coded× (coded_list coded_ℕ) d)))
    (λ l. (l.exs, l.doms)) (λ p. record { exs = p.0; doms = p.1 }) (λ _. refl)

-- The pure lettings, the newest first.
abbrev pub pure_lettings : Kept → pure.Lettings
pure_lettings l = record { exs = newest_first pure_ex l.exs; doms = newest_first pure_dom l.doms }

-- Whether a letting of this expression is new.
abbrev pub ex_added : Kept → Text → Added
ex_added l a = if is_some (look (newest_first pure_ex l.exs) a) then Standing else New

-- The same of a domain.
abbrev pub dom_added : Kept → Text → Added
dom_added l a = if is_some (look (newest_first pure_dom l.doms) a) then Standing else New

-- The lettings behind a letting of an expression.
abbrev pub with_ex : Added → Kept → Text → Ex → Kept
with_ex New l a e = record l { exs = l.exs ++ (a, e) ∷ [] }
with_ex Standing l a e = l

-- The lettings behind a letting of a domain.
abbrev pub with_dom : Added → Kept → Text → Dom → Kept
with_dom New l a d = record l { doms = l.doms ++ (a, d) ∷ [] }
with_dom Standing l a d = l
