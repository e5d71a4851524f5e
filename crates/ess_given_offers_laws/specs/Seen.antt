-- What is wanted of the parts of a tree where views are seen: domains are fixed, and what is fixed has it.
use Rattle.std.specs.Prelude.{◌≡◌, Bool, true, List, [], ◌∷◌, IsTrue, Option, Some, None}
use Rattle.ess_semantics.specs.Values.{Text}
use Rattle.ess_semantics.specs.Trees.{Pats, no_pats, more_pats, name_pat, tuple_pat, Ex, Dom}
use Rattle.ess_repr_declare_laws.specs.SizeTerms.{unused_name}
use Rattle.ess_rules_laws.specs.Listings.{Alternative}
use Rattle.ess_rules_laws.specs.FunctionViews.{Run}
use Rattle.ess_views_laws.specs.ChildViews.{kept_as}
use Rattle.ess_given_laws.specs.PartsHave.{Wanted, PartsHave, AllHave, GensHave}
use Rattle.ess_given_laws.specs.Given.{is_fixed, is_fixed_dom}

-- Sizes of domains may bind a name over a domain that no text has: it is one of u.
abbrev pub Counts : (Text → Bool) → Type 0
Counts u = u unused_name ≡ true

module _ (w : Wanted) where
  -- Each of the patterns may be bound over a domain.
  abbrev pub EachBinds : Pats → Type 0
  EachBinds no_pats = Unit {0}
  EachBinds (more_pats p ps) = IsTrue (w.binds p) × EachBinds ps

  -- Wanted of domains is that they are fixed; what is fixed has what is wanted; and a pattern of patterns is bound where these are.
  pub record Sees (u : Text → Bool) : Type 0 where
    pub counts : Counts u
    pub into : (d : Dom) → is_fixed_dom u d ≡ true → IsTrue (w.dom d)
    pub out : (d : Dom) → IsTrue (w.dom d) → is_fixed_dom u d ≡ true
    pub fixed : (e : Ex) → is_fixed u e ≡ true → PartsHave w e
    pub tuple : (ps : Pats) → EachBinds ps → IsTrue (w.binds (tuple_pat ps))

  -- The name has what is wanted, and may be bound over a domain.
  abbrev pub OverDomains : Text → Type 0
  OverDomains x = IsTrue (w.name x) × IsTrue (w.binds (name_pat x))

  -- The same of each of the names.
  abbrev pub EachOver : List Text → Type 0
  EachOver [] = Unit {0}
  EachOver (z ∷ zs) = OverDomains z × EachOver zs

  -- The name has what is wanted, and may be bound over a domain or a source.
  abbrev pub OverAny : Text → Type 0
  OverAny x = OverDomains x × ((k : Ex) → IsTrue (w.draws (name_pat x) k))

  -- The same of each of the names.
  abbrev pub EachAny : List Text → Type 0
  EachAny [] = Unit {0}
  EachAny (z ∷ zs) = OverAny z × EachAny zs

  -- So has what a generator over arguments binds, and its indices and its argument have what is wanted.
  pub record RunHas (r : Run) : Type 0 where
    pub pattern : IsTrue (w.binds r.pattern)
    pub keys : AllHave w r.keys
    pub argument : PartsHave w r.argument

  -- The name has what is wanted, and may be bound over what the view is kept as, or over a domain where it isn't kept as another one.
  pub record OverView (x : Text) (v : Ex) : Type 0 where
    pub name : IsTrue (w.name x)
    pub binds : kept_as v ≡ None → IsTrue (w.binds (name_pat x))
    pub draws : (c : Ex) → kept_as v ≡ Some c → IsTrue (w.draws (name_pat x) c)

  -- The generators and the item have what is wanted.
  abbrev pub AlternativeHas : Option Alternative → Type 0
  AlternativeHas None = Unit {0}
  AlternativeHas (Some a) = PartsHave w a.item × GensHave w a.gens
