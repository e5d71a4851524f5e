-- Rules that put terms for a name, and keep types: over a comprehension, over literals and over what offers a listing.
use Rattle.std.specs.Prelude.{◌≡◌, Bool, true, false, List, [], ◌∷◌, Some, IsTrue}
use Rattle.ess_semantics.specs.Lists.{and_then}
use Rattle.ess_semantics.specs.Values.{Text}
use Rattle.ess_semantics.specs.Order.{same_text}
use Rattle.ess_semantics.specs.Names.{Names}
use Rattle.ess_semantics.specs.Trees.{name_pat, Ex, node_ex, comp_ex, fun1, Gens, from}
use Rattle.ess_semantics.specs.Types.{Ty, int_ty}
use Rattle.ess_semantics.specs.OperatorTypes.{member_ty}
use Rattle.ess_semantics.specs.Typing.{type_of, source_ty}
use Rattle.ess_rules_laws.specs.Listings.{Alternative, each_item}
use Rattle.ess_rules_laws.specs.ListedSources.{laid_out}
use Rattle.ess_rules_laws.specs.SpliceRules.{NamesApart}
use Rattle.ess_refine_laws.specs.TypesStay.{KeepsType}
use Rattle.ess_refine_laws.specs.AllRules.{Rule, over_a_literal, over_a_source, of_one_source, over_a_comprehension, least_of_alternatives, Supply, OfSome, offered, rewrite}
use Rattle.ess_rules_types_laws.specs.PutTypes.{TablesAre, IsSteady}

-- Rules that put terms for names.
abbrev pub puts_terms : Rule → Bool
puts_terms over_a_comprehension = true
puts_terms over_a_literal = true
puts_terms over_a_source = true
puts_terms of_one_source = true
puts_terms least_of_alternatives = true
puts_terms r = false

-- The items of the alternative have the type of the members of t.
abbrev pub IsAlike : Names Ty → Ex → Alternative → Type 0
IsAlike g t a = and_then (type_of (laid_out a) g) member_ty ≡ and_then (type_of t g) member_ty

-- Names w of tables are none of r, are among s, and y isn't one of them.
abbrev pub TablesFit : (Text → Bool) → (Text → Bool) → (Text → Bool) → Text → Type 0
TablesFit w r s y = (n : Text) → IsTrue (w n) → (r n ≡ false) × (s n ≡ true) × (same_text y n ≡ false)

-- What is asked where the item of an alternative of t stands for y in `[e | y <- t, hs]`: bound names are told apart, and from the names
-- of tables; no index says y; and the items have the type of the members of t. So `x[1]` has no type where x is a member of an empty
-- literal.
abbrev pub PutFits : Names Ty → Text → Ex → Ex → Gens → Alternative → Type 0
PutFits g y t e hs a = (r : Text → Bool) × (s : Text → Bool) × (w : Text → Bool)
    × NamesApart r s (comp_ex e (from (name_pat y) (laid_out a) hs)) × TablesFit w r s y × TablesAre w (comp_ex e hs) × TablesAre w a.item
    × IsSteady (comp_ex e hs) ((y, source_ty t g) ∷ g) × IsAlike g t a

-- The same of each alternative.
abbrev pub EachPutFits : Names Ty → Text → Ex → Ex → Gens → List Alternative → Type 0
EachPutFits g y t e hs [] = Unit {0}
EachPutFits g y t e hs (a ∷ l) = PutFits g y t e hs a × EachPutFits g y t e hs l

-- Whether there is an alternative.
abbrev pub are_some : List Alternative → Bool
are_some [] = false
are_some (a ∷ l) = true

-- What each rule asks. The least of several alternatives is one of numbers, and there is an alternative: `min([])` has no number's type.
abbrev pub TermsFit : Supply → Names Ty → Rule → Ex → Type 0
TermsFit s g over_a_comprehension (comp_ex e (from (name_pat y) (comp_ex h ks) hs)) =
    PutFits g y (comp_ex h ks) e hs (record { gens = ks; item = h })
TermsFit s g over_a_literal (fun1 m f (comp_ex e (from (name_pat y) (node_ex b op es) hs))) =
    EachPutFits g y (node_ex b op es) e hs (each_item es)
TermsFit s g over_a_source (fun1 m f (comp_ex e (from (name_pat y) t hs))) = OfSome (offered s g t) (EachPutFits g y t e hs)
TermsFit s g of_one_source (fun1 m f (comp_ex e (from (name_pat y) t hs))) = OfSome (offered s g t) (EachPutFits g y t e hs)
TermsFit s g least_of_alternatives (fun1 m f (comp_ex e (from (name_pat y) t hs))) =
    (type_of (fun1 m f (comp_ex e (from (name_pat y) t hs))) g ≡ Some int_ty)
    × OfSome (offered s g t) (λ l. (are_some l ≡ true) × EachPutFits g y t e hs l)
TermsFit s g r e = Unit {0}

-- So each of them keeps the type where it fires.
abbrev pub SourceRulesKeepTypes : Type 0
SourceRulesKeepTypes = (s : Supply) (g : Names Ty) (r : Rule) (e f : Ex) → rewrite s g r e ≡ Some f → puts_terms r ≡ true →
    TermsFit s g r e → KeepsType g e f
