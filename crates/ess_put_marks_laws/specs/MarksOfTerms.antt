-- Rules that put terms for a name, and keep marks.
use Rattle.std.specs.Prelude.{◌≡◌, true, List, [], ◌∷◌, Some}
use Rattle.ess_semantics.specs.Names.{Names}
use Rattle.ess_semantics.specs.Trees.{name_pat, Ex, comp_ex, fun1, from}
use Rattle.ess_semantics.specs.Types.{Ty}
use Rattle.ess_semantics.specs.Typing.{type_of}
use Rattle.ess_rules_laws.specs.Listings.{Alternative}
use Rattle.ess_rules_laws.specs.ListedSources.{laid_out}
use Rattle.ess_refine_laws.specs.AllRules.{Rule, over_a_source, of_one_source, least_of_alternatives, Supply, OfSome, offered, rewrite}
use Rattle.ess_refine_laws.specs.MarksStay.{HasMarks}
use Rattle.ess_rules_types_laws.specs.TypesOfSources.{puts_terms, TermsFit}

-- Each alternative has marks.
abbrev pub EachMarked : Names Ty → List Alternative → Type 0
EachMarked g [] = Unit {0}
EachMarked g (a ∷ l) = HasMarks (laid_out a) g × EachMarked g l

-- What is asked beside what types ask: the alternatives that the first source offers have marks.
abbrev pub OfferedMarked : Supply → Names Ty → Rule → Ex → Type 0
OfferedMarked s g over_a_source (fun1 m f (comp_ex e (from (name_pat y) t hs))) = OfSome (offered s g t) (EachMarked g)
OfferedMarked s g of_one_source (fun1 m f (comp_ex e (from (name_pat y) t hs))) = OfSome (offered s g t) (EachMarked g)
OfferedMarked s g least_of_alternatives (fun1 m f (comp_ex e (from (name_pat y) t hs))) = OfSome (offered s g t) (EachMarked g)
OfferedMarked s g r e = Unit {0}

-- So each of them keeps marks where it fires and what it makes has a type.
abbrev pub SourceRulesKeepMarks : Type 0
SourceRulesKeepMarks = (s : Supply) (g : Names Ty) (r : Rule) (e f : Ex) → rewrite s g r e ≡ Some f → puts_terms r ≡ true →
    TermsFit s g r e → OfferedMarked s g r e → (t : Ty) → type_of f g ≡ Some t → HasMarks e g → HasMarks f g
