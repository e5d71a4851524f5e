-- What rules of sources at the first generator that isn't plain count on beside values.
use Rattle.std.specs.Prelude.{◌≡◌, Bool, not, [], ◌∷◌, Some, IsTrue}
use Rattle.ess_semantics.specs.Values.{Text, a_matrix}
use Rattle.ess_semantics.specs.Order.{same_text}
use Rattle.ess_semantics.specs.Names.{Names}
use Rattle.ess_semantics.specs.Trees.{name_pat, tuple_pat, Ex, comp_ex, fun1, Gens, from}
use Rattle.ess_semantics.specs.Types.{Ty, int_ty, compound2}
use Rattle.ess_semantics.specs.OperatorTypes.{member_ty}
use Rattle.ess_semantics.specs.Typing.{type_of}
use Rattle.ess_semantics.specs.Substitution.{BindsAll}
use Rattle.ess_semantics.specs.NamesAt.{names_behind}
use Rattle.ess_semantics.specs.Contexts.{AtEach}
use Rattle.ess_semantics.specs.Meaning.{Env}
use Rattle.ess_rules_laws.specs.Rules.{Unused, Sound, SoundOperands}
use Rattle.ess_rules_laws.specs.Listings.{listing}
use Rattle.ess_rules_laws.specs.ContainerListings.{made_listing}
use Rattle.ess_rules_laws.specs.ListedSources.{SourceApart, EachApart}
use Rattle.ess_rules_laws.specs.SpliceRules.{splice, NamesApart}
use Rattle.ess_rules_laws.specs.SplitRules.{split, DomainApart}
use Rattle.ess_rules_laws.specs.TupleNames.{name_over_tuple}
use Rattle.ess_refine_laws.specs.ItemsOnce.{items_once, OnceApart}
use Rattle.ess_refine_laws.specs.RecordNames.{name_over_record}
use Rattle.ess_refine_laws.specs.AllRules.{Supply, OfSome}
use Rattle.ess_counted_more_laws.specs.MoreCounted.{IsTyped}
use Rattle.ess_kind_rules_laws.specs.ViewListings.{view_listing, matrix_listing}
use Rattle.ess_kind_rules_laws.specs.KindRules.{asks_truth}
use Rattle.ess_open_rules_laws.specs.OpenGenerators.{at_first_open}
use Rattle.ess_open_rules_laws.specs.OpenSources.{picked_members, all_offered, in_order_told, pattern_opened}
use Rattle.ess_kinds_kept_laws.specs.LookupAsks.{OrAsks}
use Rattle.ess_kinds_kept_laws.specs.ViewAsks.{ViewAsks}
use Rattle.ess_open_counted_laws.specs.LookupsBeside.{LookupBeside}

-- ---- a source

-- What is picked isn't read as Boolean, and has what its lookup asks.
abbrev pub PickedSource : Supply → Names Ty → Ex → Env → Type 0
PickedSource s g t env = IsTrue (not (asks_truth t)) × LookupBeside g s.third s.parts t env

-- Of a source, by what tells its alternatives: names are new, operands have values of their types, a view has what its listing asks, and so
-- has what is picked.
abbrev pub OfferBeside : Supply → Names Ty → Ex → Env → Type 0
OfferBeside s g t env =
    OrAsks (listing g s.one t) (λ l. Unused s.one t × SoundOperands g t)
    (OrAsks (made_listing g s.one s.other t) (λ l. Unused s.one t × SoundOperands g t)
    (OrAsks (items_once s.one s.other s.third t) (λ l. OnceApart s.one s.other s.third t)
    (OrAsks (view_listing s.one s.other s.parts t) (λ a. ViewAsks s.one s.other s.parts t env) (PickedSource s g t env))))

-- ---- at the first generator that isn't plain

-- Names are told apart, and at each binding of the plain generators the source has what it asks.
abbrev pub SourceBeside : Supply → Names Ty → Gens → Ex → Gens → Env → Type 0
SourceBeside s g before e (from (name_pat y) u hs) env =
    OfSome (all_offered s g u) (λ l. (r : Text → Bool) × (k : Text → Bool) × EachApart r k y e hs l) × AtEach before env (OfferBeside s g u)
SourceBeside s g before e hs env = Unit {0}

-- So it is of a word of a comprehension.
abbrev pub OpenedBeside : Supply → Names Ty → Ex → Env → Type 0
OpenedBeside s g (fun1 m f (comp_ex e gs)) env =
    OfSome (at_first_open gs) (λ t. SourceBeside s (names_behind t.before g) t.before e t.after env)
OpenedBeside s g e env = Unit {0}

-- The operand of a word is a list of numbers by its type.
abbrev pub NumbersTyped : Names Ty → Ex → Type 0
NumbersTyped g (fun1 m f l) = (t : Ty) × IsTyped g (compound2 a_matrix t int_ty) l
NumbersTyped g e = Unit {0}

-- Of a fold over what its first source picks.
abbrev pub PickedSourceBeside : Supply → Names Ty → Ex → Env → Type 0
PickedSourceBeside s g (fun1 m w (comp_ex e (from (name_pat y) t hs))) env =
    OfSome (picked_members s g t)
    (λ l. (r : Text → Bool) × (u : Text → Bool) × SourceApart r u l (fun1 m w (comp_ex e (from (name_pat y) t hs))))
    × PickedSource s g t env
PickedSourceBeside s g e env = Unit {0}

-- ---- in order

-- Of a pattern over a source: the new name stands neither behind it nor in it, and the source is a container by its type.
abbrev pub PatternBeside : Supply → Names Ty → Ex → Type 0
PatternBeside s g (comp_ex e (from (tuple_pat ps) t hs)) = Unused s.one (comp_ex e hs) × BindsAll (λ a. not (same_text s.one a)) ps
    × Sound g t × (u : Ty) × (m : Ty) × (type_of t g ≡ Some u) × (member_ty u ≡ Some m)
PatternBeside s g e = Unit {0}

-- Of a source whose items stay in order.
abbrev pub ToldBeside : Supply → Names Ty → Ex → Env → Type 0
ToldBeside s g (comp_ex e (from p t hs)) env = OfSome (in_order_told s g t)
    (λ a. (r : Text → Bool) × (u : Text → Bool) × SourceApart r u (a ∷ []) (comp_ex e (from p t hs)))
    × OrAsks (matrix_listing s.one t) (λ a. Unused s.one t) (PickedSource s g t env)
ToldBeside s g e env = Unit {0}

-- Of the rules that keep the order, at the first generator.
abbrev pub InOrderBeside : Supply → Names Ty → Ex → Env → Type 0
InOrderBeside s g e env =
    OrAsks (splice e) (λ f. (r : Text → Bool) × (u : Text → Bool) × NamesApart r u e)
    (OrAsks (split e) (λ f. (r : Text → Bool) × DomainApart r e)
    (OrAsks (name_over_tuple s.parts e) (λ f. Unit {0})
    (OrAsks (name_over_record s.parts e) (λ f. Unit {0})
    (OrAsks (pattern_opened g s.one e) (λ f. PatternBeside s g e) (ToldBeside s g e env)))))

-- At each binding of the plain generators.
abbrev pub KeptBehindBeside : Supply → Names Ty → Ex → Env → Type 0
KeptBehindBeside s g (comp_ex e gs) env = OfSome (at_first_open gs)
    (λ t. AtEach t.before env (InOrderBeside s (names_behind t.before g) (comp_ex e t.after)))
KeptBehindBeside s g e env = Unit {0}
