-- What more rules count on beside new names follows where each part of the tree has a value wherever its context holds, but for numbers in
-- natural places: what a rule still asks is said of types and of names alone, under no values.
use Rattle.std.specs.Prelude.{◌≡◌, Bool, true, false, [], ◌∷◌, Option, Some, None, is_some}
use Rattle.ess_semantics.specs.declared.words.Op2.{Op2}
use Rattle.ess_semantics.specs.Lists.{or_else}
use Rattle.ess_semantics.specs.Values.{Text}
use Rattle.ess_semantics.specs.Names.{Names}
use Rattle.ess_semantics.specs.Trees.{to_component, to_field, index, record_literal, matrix_literal, name_pat, Ex, node_ex, comp_ex, ex2, fun1, no_exs, more_exs, no_gens, from}
use Rattle.ess_semantics.specs.Types.{Ty, bool_ty, int_ty}
use Rattle.ess_semantics.specs.Typing.{type_of}
use Rattle.ess_semantics.specs.Typed.{Typed}
use Rattle.ess_semantics.specs.Meaning.{Env}
use Rattle.ess_semantics.specs.Meets.{Meets}
use Rattle.ess_rules_laws.specs.Rules.{Unused, Sound, SoundOperands}
use Rattle.ess_rules_laws.specs.InclusionRules.{both_sets}
use Rattle.ess_rules_laws.specs.LiteralRules.{nth}
use Rattle.ess_rules_laws.specs.FieldLiterals.{field_term}
use Rattle.ess_rules_laws.specs.SourceRules.{ItemsApart}
use Rattle.ess_rules_laws.specs.SpliceRules.{NamesApart}
use Rattle.ess_rules_laws.specs.SplitRules.{DomainApart}
use Rattle.ess_rules_laws.specs.Listings.{listing}
use Rattle.ess_rules_laws.specs.ContainerListings.{made_listing}
use Rattle.ess_rules_laws.specs.ListedSources.{SourceApart}
use Rattle.ess_refine_laws.specs.AllRules.{Rule, over_one, over_one_binding, over_a_literal, over_a_source, of_one_source, over_a_comprehension, over_tuples, component_of_a_tuple, field_of_a_record, in_two, choice, condition, Supply, offered, OfSome, rewrite}
use Rattle.ess_chain_kept_laws.specs.CountsBeside.{CountsBeside}
use Rattle.ess_values_along_laws.specs.Valued.{Valued}

-- Rules of which it is shown here.
abbrev pub counts_more : Rule → Bool
counts_more over_one = true
counts_more over_one_binding = true
counts_more over_a_literal = true
counts_more over_a_source = true
counts_more of_one_source = true
counts_more over_a_comprehension = true
counts_more over_tuples = true
counts_more component_of_a_tuple = true
counts_more field_of_a_record = true
counts_more in_two = true
counts_more choice = true
counts_more condition = true
counts_more r = false

-- ---- types

-- The expression has the type, and its values are of it.
abbrev pub IsTyped : Names Ty → Ty → Ex → Type 0
IsTyped g t e = (type_of e g ≡ Some t) × Sound g e

-- So has what is picked, where something is.
abbrev pub PickedTyped : Names Ty → Ty → Option Ex → Type 0
PickedTyped g t None = Unit {0}
PickedTyped g t (Some e) = IsTyped g t e

-- What a fold is of: truth values or numbers.
abbrev pub folded_ty : Bool → Ty
folded_ty true = bool_ty
folded_ty false = int_ty

-- The only item of what is folded has the type.
abbrev pub ItemTyped : Names Ty → Ex → Type 0
ItemTyped g (fun1 m f (node_ex false matrix_literal (more_exs a no_exs))) = IsTyped g (folded_ty m) a
ItemTyped g e = Unit {0}

-- The item of a comprehension without generators has it.
abbrev pub BareTyped : Names Ty → Ex → Type 0
BareTyped g (fun1 m f (comp_ex e no_gens)) = IsTyped g (folded_ty m) e
BareTyped g e = Unit {0}

-- A component that is Boolean is so by its type.
abbrev pub ComponentTyped : Names Ty → Ex → Type 0
ComponentTyped g (node_ex true (index (to_component k ∷ [])) (more_exs (node_ex false op es) no_exs)) = PickedTyped g bool_ty (nth es k)
ComponentTyped g e = Unit {0}

-- So is a field.
abbrev pub FieldTyped : Names Ty → Ex → Type 0
FieldTyped g (node_ex true (index (to_field a ∷ [])) (more_exs (node_ex false (record_literal fs) es) no_exs)) =
    PickedTyped g bool_ty (field_term fs es a)
FieldTyped g e = Unit {0}

-- The first of two combined terms is a set or relation by its type.
abbrev pub CombinedTyped : Names Ty → Ex → Type 0
CombinedTyped g (ex2 true Op2.Member x (ex2 false o a b)) = (both_sets (type_of a g) (type_of a g) ≡ true) × Sound g a
CombinedTyped g e = Unit {0}

-- Conditions that are counted are truth values by their types.
abbrev pub ChoicesTyped : Names Ty → Ex → Type 0
ChoicesTyped g (ex2 false o (fun1 false f c) (fun1 false h d)) = IsTyped g bool_ty c × IsTyped g bool_ty d
ChoicesTyped g (ex2 false o (fun1 false f c) e) = IsTyped g bool_ty c
ChoicesTyped g e = Unit {0}

-- ---- names

-- The first source is a container by its form, what it offers has bound names of its own, and what it is made of has values of its types.
-- The set of the items of a comprehension is left out.
abbrev pub OffersApart : Supply → Names Ty → Ex → Type 0
OffersApart s g (fun1 m f (comp_ex e (from (name_pat y) t hs))) =
    OfSome (offered s g t) (λ l. (r : Text → Bool) × (u : Text → Bool) × SourceApart r u l (fun1 m f (comp_ex e (from (name_pat y) t hs))))
    × SoundOperands g t × (is_some (or_else (listing g s.one t) (made_listing g s.one s.other t)) ≡ true)
OffersApart s g e = Unit {0}

-- The word is one of truth values.
abbrev pub FoldsTruth : Ex → Type 0
FoldsTruth (fun1 m f l) = m ≡ true
FoldsTruth e = Unit {0}

-- What the rule asks of types and names.
abbrev pub RuleAsks : Supply → Names Ty → Rule → Ex → Type 0
RuleAsks s g over_one e = ItemTyped g e
RuleAsks s g over_one_binding e = BareTyped g e
RuleAsks s g over_a_literal e = (u : Text → Bool) × ItemsApart u e
RuleAsks s g over_a_source e = OffersApart s g e
RuleAsks s g of_one_source e = OffersApart s g e
RuleAsks s g over_a_comprehension e = (r : Text → Bool) × (u : Text → Bool) × NamesApart r u e
RuleAsks s g over_tuples e = (r : Text → Bool) × DomainApart r e
RuleAsks s g component_of_a_tuple e = ComponentTyped g e
RuleAsks s g field_of_a_record e = FieldTyped g e
RuleAsks s g in_two e = CombinedTyped g e
RuleAsks s g choice e = ChoicesTyped g e
RuleAsks s g condition e = FoldsTruth e
RuleAsks s g r e = Unit {0}

-- ---- what is said

-- So each of these rules that fires has what it counts on beside new names.
abbrev pub MoreIsCountedOn : Type 0
MoreIsCountedOn = (s : Supply) (g : Names Ty) (r : Rule) (e f : Ex) → rewrite s g r e ≡ Some f → counts_more r ≡ true →
    RuleAsks s g r e → (env : Env) → Typed g env → Unused s.one e → Meets e env → (w : Bool) → Valued w e env → CountsBeside s g r e env
