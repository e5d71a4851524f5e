-- What rules of sources at the first generator that isn't plain count on, at each binding of the plain ones before it.
use Rattle.std.specs.Prelude.{Bool, not, List, [], ◌∷◌, Some, IsTrue, is_some}
use Rattle.ess_semantics.specs.Values.{Text}
use Rattle.ess_semantics.specs.Names.{Names}
use Rattle.ess_semantics.specs.Trees.{name_pat, tuple_pat, Ex, comp_ex, fun1, Gens, from}
use Rattle.ess_semantics.specs.Types.{Ty}
use Rattle.ess_semantics.specs.Order.{same_text}
use Rattle.ess_semantics.specs.Typing.{source_ty}
use Rattle.ess_semantics.specs.TypeMembers.{is_of_type}
use Rattle.ess_semantics.specs.Substitution.{BindsAll}
use Rattle.ess_semantics.specs.NamesAt.{names_behind}
use Rattle.ess_semantics.specs.Contexts.{EachOf, EachIn, AtEach}
use Rattle.ess_semantics.specs.Meaning.{Env, meaning}
use Rattle.ess_rules_laws.specs.Rules.{Unused, OperandsThere, IsNumber}
use Rattle.ess_rules_laws.specs.Listings.{Alternative, all_listed}
use Rattle.ess_rules_laws.specs.ListedSources.{Offers, SourceApart, SourceInOrder, EachApart}
use Rattle.ess_rules_laws.specs.SpliceRules.{splice, SourceThere, NamesApart}
use Rattle.ess_rules_laws.specs.SplitRules.{split, DomainThere, DomainApart}
use Rattle.ess_rules_laws.specs.TupleNames.{name_over_tuple}
use Rattle.ess_refine_laws.specs.RecordNames.{name_over_record}
use Rattle.ess_refine_laws.specs.AllRules.{Supply, OfSome}
use Rattle.ess_open_rules_laws.specs.OpenGenerators.{at_first_open}
use Rattle.ess_open_rules_laws.specs.OpenSources.{all_offered, comp_offered, in_order_told, pattern_opened}
use Rattle.ess_kinds_kept_laws.specs.LookupAsks.{OrAsks}

-- Names are told apart, and at each binding of the plain generators the source is there and offers the alternatives.
abbrev pub OfferedBehind : Gens → Text → Ex → Ex → Gens → List Alternative → Env → Type 0
OfferedBehind before y e u hs l env = (r : Text → Bool) × (k : Text → Bool) × EachApart r k y e hs l
    × AtEach before env (λ here. IsTrue (is_some (meaning u here)) × Offers u l here)

-- So it is of the source of generators in two parts.
abbrev pub SourceBehind : Supply → Names Ty → Gens → Ex → Gens → Env → Type 0
SourceBehind s g before e (from (name_pat y) u hs) env = OfSome (all_offered s g u) (λ l. OfferedBehind before y e u hs l env)
SourceBehind s g before e hs env = Unit {0}

-- And of a word of a comprehension.
abbrev pub OpenedAsks : Supply → Names Ty → Ex → Env → Type 0
OpenedAsks s g (fun1 m f (comp_ex e gs)) env =
    OfSome (at_first_open gs) (λ t. SourceBehind s (names_behind t.before g) t.before e t.after env)
OpenedAsks s g e env = Unit {0}

-- Of the least or the greatest of a comprehension: also it and its operand are there, and items are numbers.
abbrev pub NumbersOffered : Supply → Names Ty → Ex → Env → Type 0
NumbersOffered s g (fun1 m f (comp_ex e gs)) env =
    OfSome (comp_offered s g e gs) (λ l. EachOf (all_listed l env) (λ v. IsNumber (Some v)))
NumbersOffered s g e env = Unit {0}

abbrev pub LeastAsks : Supply → Names Ty → Ex → Env → Type 0
LeastAsks s g e env = IsTrue (is_some (meaning e env)) × OperandsThere e env × OpenedAsks s g e env × NumbersOffered s g e env

-- Of a source whose items stay in order: a matrix, or what is picked.
abbrev pub ToldInOrder : Supply → Names Ty → Ex → Env → Type 0
ToldInOrder s g (comp_ex e (from p t hs)) env = OfSome (in_order_told s g t)
    (λ a. (r : Text → Bool) × (u : Text → Bool) × SourceApart r u (a ∷ []) (comp_ex e (from p t hs))
    × SourceInOrder a (comp_ex e (from p t hs)) env)
ToldInOrder s g e env = Unit {0}

-- Of a pattern over a source: the new name stands neither behind it nor in it, and each value is of the type that is read off the source.
abbrev pub PatternFits : Supply → Names Ty → Ex → Env → Type 0
PatternFits s g (comp_ex e (from (tuple_pat ps) t hs)) env = Unused s.one (comp_ex e hs) × BindsAll (λ a. not (same_text s.one a)) ps
    × EachIn (meaning t env) (λ v. IsTrue (is_of_type (source_ty t g) env v))
PatternFits s g e env = Unit {0}

-- What the rules ask that keep the order, at the first generator.
abbrev pub InOrderAsks : Supply → Names Ty → Ex → Env → Type 0
InOrderAsks s g e env =
    OrAsks (splice e) (λ f. (r : Text → Bool) × (u : Text → Bool) × NamesApart r u e × SourceThere e env)
    (OrAsks (split e) (λ f. (r : Text → Bool) × DomainApart r e × DomainThere e env)
    (OrAsks (name_over_tuple s.parts e) (λ f. Unit {0})
    (OrAsks (name_over_record s.parts e) (λ f. Unit {0})
    (OrAsks (pattern_opened g s.one e) (λ f. PatternFits s g e env) (ToldInOrder s g e env)))))

-- At each binding of the plain generators.
abbrev pub KeptBehindAsks : Supply → Names Ty → Ex → Env → Type 0
KeptBehindAsks s g (comp_ex e gs) env = OfSome (at_first_open gs)
    (λ t. AtEach t.before env (InOrderAsks s (names_behind t.before g) (comp_ex e t.after)))
KeptBehindAsks s g e env = Unit {0}
