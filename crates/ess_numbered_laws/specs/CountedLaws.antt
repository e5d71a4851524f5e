-- What is said of sources whose items are counted, and of equality of lists by the numbers of their items.
use Rattle.std.specs.Prelude.{◌≡◌, true, false, List, [], ◌∷◌, Option, Some}
use Rattle.ess_semantics.specs.declared.words.Op2.{Op2}
use Rattle.ess_semantics.specs.Values.{Text, Value, a_matrix}
use Rattle.ess_semantics.specs.Order.{same_text}
use Rattle.ess_semantics.specs.Names.{Names}
use Rattle.ess_semantics.specs.Trees.{by_value, index, name_pat, Ex, node_ex, comp_ex, no_exs, more_exs, from, Dom, ex2}
use Rattle.ess_semantics.specs.Types.{Ty, compound2, is_bool}
use Rattle.ess_semantics.specs.Typing.{type_of}
use Rattle.ess_semantics.specs.Typed.{Typed}
use Rattle.ess_semantics.specs.NamesAt.{names_behind}
use Rattle.ess_semantics.specs.Operators.{list_value}
use Rattle.ess_semantics.specs.Meaning.{Env, meaning}
use Rattle.ess_semantics.specs.Contexts.{Each, AtEach}
use Rattle.ess_semantics.specs.Kept.{Keeps}
use Rattle.ess_rules_laws.specs.Rules.{Unused, IsTruth, SoundOperands, OperandsThere}
use Rattle.ess_rules_laws.specs.PartLookups.{IndexedBy}
use Rattle.ess_rules_laws.specs.MatrixRules.{UnusedDom}
use Rattle.ess_refine_laws.specs.AllRules.{Supply, OfSome}
use Rattle.ess_open_rules_laws.specs.OpenGenerators.{at_first_open}
use Rattle.ess_numbered_laws.specs.MostItems.{most_items}
use Rattle.ess_numbered_laws.specs.CountedSources.{is_counted, numbered_term, numbered_behind, within_an_item, within_a_pair, counted_list}
use Rattle.ess_numbered_laws.specs.EqualByNumber.{other_side, equal_by_number}
use Rattle.ess_numbered_laws.specs.Bounds.{IsBound}

-- ---- sources

-- The term is a list: its items have the indices 1, 2, and so on.
pub record IsList (t : Ex) (env : Env) : Type 0 where
  pub items : List Value
  pub value : meaning t env ≡ Some (list_value items)

-- Where there is a bound, and the type of the items: the term is a list with no more items, and items of the type of truth values are such.
abbrev pub ItemsBounded : Option Ex → Option Ty → Ex → Env → Type 0
ItemsBounded (Some n) (Some (compound2 a_matrix i u)) t env =
    (l : IsList t env) × IsBound n t env × (is_bool (Some u) ≡ true → Each l.items (λ v. IsTruth (Some v)))
ItemsBounded o p t env = Unit {0}

-- What a term counts on whose items are counted: the new name doesn't stand in it.
abbrev pub TermAsks : Supply → Names Ty → Ex → Env → Type 0
TermAsks s g t env = Unused s.one t × (is_counted s g t ≡ true → ItemsBounded (most_items s.third t) (type_of t g) t env)

-- So its numbered items keep it: they are the same, in order.
abbrev pub NumberedTermsKeep : Type 0
NumberedTermsKeep = (s : Supply) (g : Names Ty) (t l : Ex) → numbered_term s g t ≡ Some l → (env : Env) → TermAsks s g t env → Keeps t l env

-- What a comprehension over such a term counts on.
abbrev pub SourceAsks : Supply → Names Ty → Ex → Env → Type 0
SourceAsks s g (comp_ex e (from (name_pat y) t hs)) env = TermAsks s g t env
SourceAsks s g e env = Unit {0}

-- The same behind plain generators: at each binding of these.
abbrev pub ListAsks : Supply → Names Ty → Ex → Env → Type 0
ListAsks s g (comp_ex e gs) env =
    OfSome (at_first_open gs) (λ t. AtEach t.before env (SourceAsks s (names_behind t.before g) (comp_ex e t.after)))
ListAsks s g e env = Unit {0}

-- So the numbers of its items keep the comprehension: it has the same items, in order.
abbrev pub NumberedListsKeep : Type 0
NumberedListsKeep = (s : Supply) (g : Names Ty) (e f : Ex) → numbered_behind s g e ≡ Some f → (env : Env) → ListAsks s g e env →
    Keeps e f env

-- What an item of a comprehension counts on: the comprehension has what it asks.
abbrev pub WithinAsks : Supply → Names Ty → Ex → Env → Type 0
WithinAsks s g (node_ex b (index (by_value ∷ [])) (more_exs a (more_exs i no_exs))) env = ListAsks s g a env
WithinAsks s g e env = Unit {0}

-- So it is kept.
abbrev pub ItemsOfListsKeep : Type 0
ItemsOfListsKeep = (s : Supply) (g : Names Ty) (e f : Ex) → within_an_item s g e ≡ Some f → (env : Env) → WithinAsks s g e env →
    Keeps e f env

-- What a pair counts on between whose sides order counts: either comprehension has what it asks.
abbrev pub PairAsks : Supply → Names Ty → Ex → Env → Type 0
PairAsks s g (ex2 true o a b) env = ListAsks s g a env × ListAsks s g b env
PairAsks s g e env = Unit {0}

-- So it is kept.
abbrev pub PairsKeep : Type 0
PairsKeep = (s : Supply) (g : Names Ty) (e f : Ex) → within_a_pair s g e ≡ Some f → (env : Env) → PairAsks s g e env → Keeps e f env

-- ---- equality

-- What the other side counts on: a told index domain is told rightly, and the new name doesn't stand in it.
abbrev pub OtherAsks : Text → Option (Option Dom) → Ex → Env → Type 0
OtherAsks x (Some (Some d)) b env = UnusedDom x d × IndexedBy b d env
OtherAsks x o b env = Unit {0}

-- What `a = b` counts on where a is a comprehension over a counted source: the bound of a is one, and so on.
abbrev pub CountedAsks : Supply → Names Ty → Ex → Ex → Env → Type 0
CountedAsks s g a b env = OfSome (counted_list s g a) (λ n. IsBound n a env × OtherAsks s.one (other_side b) b env)

-- What the equality counts on: the names are apart, the first one is new, operands have values of their types, and either side has what it
-- asks where it is such a comprehension.
abbrev pub EqualAsks : Supply → Names Ty → Ex → Env → Type 0
EqualAsks s g (ex2 true Op2.Eq a b) env = (same_text s.other s.one ≡ false) × Unused s.one (ex2 true Op2.Eq a b)
    × SoundOperands g (ex2 true Op2.Eq a b) × Typed g env × OperandsThere (ex2 true Op2.Eq a b) env
    × CountedAsks s g a b env × CountedAsks s g b a env
EqualAsks s g e env = Unit {0}

-- So it is kept.
abbrev pub EqualitiesKeep : Type 0
EqualitiesKeep = (s : Supply) (g : Names Ty) (e f : Ex) → equal_by_number s g e ≡ Some f → (env : Env) → EqualAsks s g e env → Keeps e f env
