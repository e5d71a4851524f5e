-- What views of sets offer as listings, a kind at a time.
use Rattle.std.specs.Prelude.{true, [], ◌∷◌, Option, Some, None, IsTrue, is_some}
use Rattle.ess_semantics.specs.declared.words.ReprKind.{ReprKind}
use Rattle.ess_semantics.specs.Values.{Text}
use Rattle.ess_semantics.specs.Trees.{repr, no_reprs, name_pat, Ex, Exs, name_ex, cell_ex, seen_ex, no_exs, more_exs, no_gens, over, cond, set_dom}
use Rattle.ess_semantics.specs.Meaning.{Env, domain_of, members_in}
use Rattle.ess_semantics.specs.Meets.{Meets}
use Rattle.ess_rules_laws.specs.Rules.{Unused}
use Rattle.ess_rules_laws.specs.Listings.{Alternative, Lists}
use Rattle.ess_rules_laws.specs.ListedSources.{OffersInOrder}

-- One more operand behind the others.
abbrev pub put_last : Exs → Ex → Exs
put_last no_exs a = more_exs a no_exs
put_last (more_exs e es) a = more_exs e (put_last es a)

-- Of a set kept as the members that occur: x over the inner domain, where the cell at x is true.
abbrev pub occurrence_listing : Text → Ex → Option Alternative
occurrence_listing x (seen_ex (repr ReprKind.Occurrence no_reprs) (set_dom ms es d) (n ∷ []) js) =
    Some (record { gens = over (name_pat x) d (cond (cell_ex true n (put_last js (name_ex x))) no_gens); item = name_ex x })
occurrence_listing x e = None

-- The members of the inner domain of a set can be listed.
abbrev pub InnerThere : Ex → Env → Type 0
InnerThere (seen_ex r (set_dom ms es d) ns js) env = IsTrue (is_some (members_in (domain_of d env)))
InnerThere e env = Unit {0}

-- Where the tables meet the structure of the view, it lists the members of the set.
abbrev pub ListsWhereMet : Option Alternative → Ex → Env → Type 0
ListsWhereMet None e env = Unit {0}
ListsWhereMet (Some a) e env = Lists e (a ∷ []) env

-- And it offers them in the order of the set, so that a rule may use the listing in any comprehension.
abbrev pub InOrderWhereMet : Option Alternative → Ex → Env → Type 0
InOrderWhereMet None e env = Unit {0}
InOrderWhereMet (Some a) e env = OffersInOrder e a env

-- So it is of these kinds.
pub record SetViewsAreListed : Type 0 where
  pub of_occurrences : (x : Text) (e : Ex) (env : Env) → Unused x e → Meets e env → InnerThere e env →
      ListsWhereMet (occurrence_listing x e) e env
  pub occurrences_in_order : (x : Text) (e : Ex) (env : Env) → Unused x e → Meets e env → InnerThere e env →
      InOrderWhereMet (occurrence_listing x e) e env
