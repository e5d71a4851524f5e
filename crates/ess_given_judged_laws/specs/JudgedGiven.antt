-- Judged trees of a specification, resolved, have what is given at its place.
use Rattle.std.specs.Prelude.{◌≡◌, Bool, true, false}
use Rattle.ess_semantics.specs.Values.{Text}
use Rattle.ess_semantics.specs.Names.{is_among}
use Rattle.ess_semantics.specs.Trees.{Ex}
use Rattle.ess_semantics.specs.Scopes.{Scope}
use Rattle.ess_semantics.specs.Resolving.{resolve}
use Rattle.ess_semantics.specs.Judgements.{is_well_typed_at}
use Rattle.conjure_laws.specs.PlainTrees.{Plain}
use Rattle.ess_chain_names_laws.specs.NamesHave.{NamesHave}
use Rattle.ess_given_conditions_laws.specs.InScope.{is_given_in}

-- The set has each of the names w but those that depend on a find.
abbrev pub HasGivens : (Text → Bool) → Scope → (Text → Bool) → Type 0
HasGivens w s t = (a : Text) → is_among s.depends_on_finds a ≡ false → w a ≡ true → t a ≡ true

-- A tree that is judged in a scope has, resolved, what is given at its place: each number in a domain is fixed there. w are the names of
-- the
-- tree, which has neither cells nor views.
abbrev pub JudgedTreesAreGiven : Type 0
JudgedTreesAreGiven = (counts : Bool) (e : Ex) (s : Scope) (w t : Text → Bool) → is_well_typed_at counts e s ≡ true →
    NamesHave w (resolve e s.tys) → Plain (resolve e s.tys) → HasGivens w s t → is_given_in t t (resolve e s.tys) ≡ true
