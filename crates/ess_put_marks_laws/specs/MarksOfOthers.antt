-- Further rules that keep marks: of components and fields, of names over tuples and records, and of matrices.
use Rattle.std.specs.Prelude.{◌≡◌, Bool, true, false, not, Some}
use Rattle.ess_semantics.specs.Values.{Text}
use Rattle.ess_semantics.specs.Order.{same_text}
use Rattle.ess_semantics.specs.Names.{Names}
use Rattle.ess_semantics.specs.Trees.{tuple_pat, Ex, comp_ex, ex2, over, Dom, tuple_dom}
use Rattle.ess_semantics.specs.Types.{Ty}
use Rattle.ess_semantics.specs.Typing.{type_of}
use Rattle.ess_semantics.specs.Substitution.{BindsAll}
use Rattle.ess_refine_laws.specs.AllRules.{Rule, over_tuples, over_a_tuple, over_a_record, equal_tuples, equal_records, equal_matrices_at, Supply, rewrite}
use Rattle.ess_refine_laws.specs.MarksStay.{HasMarks, DomHasMarks}
use Rattle.ess_refine_types_laws.specs.MarksOfContainers.{IsNewTo, DomUsesNames, DomsUseNames}
use Rattle.ess_rules_types_laws.specs.TypesOfOthers.{OthersFit}

-- Rules that are shown to keep marks here.
abbrev pub has_parts : Rule → Bool
has_parts over_tuples = true
has_parts over_a_tuple = true
has_parts over_a_record = true
has_parts equal_tuples = true
has_parts equal_records = true
has_parts equal_matrices_at = true
has_parts r = false

-- The domain has marks, and doesn't use the name.
abbrev pub IndexMarked : Names Ty → Text → Dom → Type 0
IndexMarked g x d = DomHasMarks d g × DomUsesNames (λ a. not (same_text x a)) d

-- What each rule asks: no domain of a tuple uses a name that its patterns bind; index domains have marks, and don't use the new names.
abbrev pub PartsMarked : Supply → Names Ty → Rule → Ex → Type 0
PartsMarked s g over_tuples (comp_ex e (over (tuple_pat ps) (tuple_dom ds) hs)) =
    (r : Text → Bool) × BindsAll r ps × DomsUseNames (λ a. not (r a)) ds
PartsMarked s g equal_matrices_at (ex2 m o a b) =
    OthersFit s g equal_matrices_at (ex2 m o a b) × IsNewTo s.one a × IsNewTo s.one b × IndexMarked g s.one (s.index_domain a)
    × IndexMarked g s.one (s.index_domain b)
PartsMarked s g r e = Unit {0}

-- So each of them keeps marks where it fires and what it makes has a type.
abbrev pub PartRulesKeepMarks : Type 0
PartRulesKeepMarks = (s : Supply) (g : Names Ty) (r : Rule) (e f : Ex) → rewrite s g r e ≡ Some f → has_parts r ≡ true →
    PartsMarked s g r e →
    (t : Ty) → type_of f g ≡ Some t → HasMarks e g → HasMarks f g
