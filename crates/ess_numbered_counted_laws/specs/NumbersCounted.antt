-- What each rule of counted lists counts on beside values, and that it keeps what it rewrites where each part of the tree has a value
-- wherever its context holds, but for numbers in natural places. The number of items that is said of a list is no part of the tree: that it
-- has a value is asked.
use Rattle.std.specs.Prelude.{◌≡◌, ℕ, zero, suc, Bool, true, false, [], ◌∷◌, Option, Some, IsTrue, is_some}
use Rattle.ess_semantics.specs.declared.words.Op2.{Op2}
use Rattle.ess_semantics.specs.Values.{Text, a_matrix}
use Rattle.ess_semantics.specs.Order.{same_text}
use Rattle.ess_semantics.specs.Names.{Names}
use Rattle.ess_semantics.specs.NamesAt.{names_behind}
use Rattle.ess_semantics.specs.Trees.{by_value, index, matrix_literal, name_pat, Ex, Exs, node_ex, matrix_ex, comp_ex, seen_ex, no_exs, more_exs, from, ex2}
use Rattle.ess_semantics.specs.Types.{Ty, compound2, is_bool}
use Rattle.ess_semantics.specs.Typing.{type_of}
use Rattle.ess_semantics.specs.Typed.{Typed}
use Rattle.ess_semantics.specs.Contexts.{Each, AtEach}
use Rattle.ess_semantics.specs.Meaning.{Env, meaning}
use Rattle.ess_semantics.specs.Meets.{Meets}
use Rattle.ess_semantics.specs.Kept.{Keeps}
use Rattle.ess_rules_laws.specs.Rules.{Unused, IsTruth, SoundOperands}
use Rattle.ess_refine_laws.specs.AllRules.{Supply, OfSome}
use Rattle.ess_values_along_laws.specs.Valued.{Valued}
use Rattle.ess_values_along_laws.specs.ValuesAlong.{none_may_lack}
use Rattle.ess_open_rules_laws.specs.OpenGenerators.{at_first_open}
use Rattle.ess_numbered_laws.specs.MostItems.{most_items}
use Rattle.ess_numbered_laws.specs.CountedSources.{is_counted, counted_list}
use Rattle.ess_numbered_laws.specs.EqualByNumber.{other_side}
use Rattle.ess_numbered_laws.specs.ListedPicks.{listed_term}
use Rattle.ess_numbered_laws.specs.ListedLaws.{ViewTold}
use Rattle.ess_numbered_laws.specs.BoundLaws.{PartsFit}
use Rattle.ess_numbered_laws.specs.CountedLaws.{IsList, OtherAsks}
use Rattle.ess_numbered_laws.specs.NumberRules.{NumberRule, equality_of_lists, sign_between_lists, item_of_a_list, side_of_a_pair, lists_of_what_is_picked, number_rewrite}

-- ---- the number of items

-- The number is there, its structures are met, and views in the list stand for what follows their domains.
pub record BoundThere (n t : Ex) (env : Env) : Type 0 where
  pub fits : PartsFit t env
  pub met : Meets n env
  pub there : IsTrue (is_some (meaning n env))

-- Where there is a number, and the type of the items: the term is a list, the number is there, and items of the type of truth values are
-- such.
abbrev pub ItemsThere : Option Ex → Option Ty → Ex → Env → Type 0
ItemsThere (Some n) (Some (compound2 a_matrix i u)) t env =
    (l : IsList t env) × BoundThere n t env × (is_bool (Some u) ≡ true → Each l.items (λ v. IsTruth (Some v)))
ItemsThere o p t env = Unit {0}

-- Of a term whose items are counted: the new name doesn't stand in it.
abbrev pub TermBeside : Supply → Names Ty → Ex → Env → Type 0
TermBeside s g t env = Unused s.one t × (is_counted s g t ≡ true → ItemsThere (most_items s.third t) (type_of t g) t env)

-- Of a comprehension over such a term.
abbrev pub SourceBeside : Supply → Names Ty → Ex → Env → Type 0
SourceBeside s g (comp_ex e (from (name_pat y) t hs)) env = TermBeside s g t env
SourceBeside s g e env = Unit {0}

-- The same behind plain generators.
abbrev pub ListBeside : Supply → Names Ty → Ex → Env → Type 0
ListBeside s g (comp_ex e gs) env =
    OfSome (at_first_open gs) (λ t. AtEach t.before env (SourceBeside s (names_behind t.before g) (comp_ex e t.after)))
ListBeside s g e env = Unit {0}

-- ---- lists in place of other matrices

abbrev mutual
  -- Of what as many indices reach: views are matrices over their index domains, in which the new name doesn't stand.
  pub PicksBeside : Text → ℕ → Ex → Env → Type 0
  PicksBeside z k (node_ex false (index (by_value ∷ [])) (more_exs t (more_exs i no_exs))) env = PicksBeside z (suc k) t env
  PicksBeside z (suc k) (node_ex false matrix_literal es) env = EachBeside z k es env
  PicksBeside z (suc k) (matrix_ex es d) env = EachBeside z k es env
  PicksBeside z zero (seen_ex r d ns es) env = ViewTold z (seen_ex r d ns es) d env
  PicksBeside z k e env = Unit {0}

  -- The same of several.
  pub EachBeside : Text → ℕ → Exs → Env → Type 0
  EachBeside z k no_exs env = Unit {0}
  EachBeside z k (more_exs e es) env = PicksBeside z k e env × EachBeside z k es env

-- Of a comprehension over a term in which lists are put.
abbrev pub SourcePicksBeside : Supply → Names Ty → Ex → Env → Type 0
SourcePicksBeside s g (comp_ex e (from (name_pat y) t hs)) env = OfSome (listed_term s g t) (λ l. PicksBeside s.one zero t env)
SourcePicksBeside s g e env = Unit {0}

-- The same behind plain generators.
abbrev pub ListPicksBeside : Supply → Names Ty → Ex → Env → Type 0
ListPicksBeside s g (comp_ex e gs) env =
    OfSome (at_first_open gs) (λ t. AtEach t.before env (SourcePicksBeside s (names_behind t.before g) (comp_ex e t.after)))
ListPicksBeside s g e env = Unit {0}

-- ---- each rule

-- Of a side of an equality, where it is such a comprehension.
abbrev pub CountedBeside : Supply → Names Ty → Ex → Ex → Env → Type 0
CountedBeside s g a b env = OfSome (counted_list s g a) (λ n. BoundThere n a env × OtherAsks s.one (other_side b) b env)

-- Of an equality: the names are apart, the first one is new, and operands have values of their types, and are neither numbers nor cells.
abbrev pub EqualBeside : Supply → Names Ty → Ex → Env → Type 0
EqualBeside s g (ex2 true Op2.Eq a b) env = (same_text s.other s.one ≡ false) × Unused s.one (ex2 true Op2.Eq a b)
    × SoundOperands g (ex2 true Op2.Eq a b) × (none_may_lack (more_exs a (more_exs b no_exs)) ≡ true)
    × CountedBeside s g a b env × CountedBeside s g b a env
EqualBeside s g e env = Unit {0}

-- Of a sign between lists.
abbrev pub OrderBeside : Supply → Names Ty → Ex → Env → Type 0
OrderBeside s g (ex2 m o a b) env = (same_text s.other s.one ≡ false) × Unused s.one (ex2 m o a b) × Unused s.other (ex2 m o a b)
    × SoundOperands g (ex2 m o a b) × OfSome (counted_list s g a) (λ n. BoundThere n a env)
    × OfSome (counted_list s g b) (λ n. BoundThere n b env)
OrderBeside s g e env = Unit {0}

-- What the rule counts on beside values.
abbrev pub NumberBeside : Supply → Names Ty → NumberRule → Ex → Env → Type 0
NumberBeside s g equality_of_lists e env = EqualBeside s g e env
NumberBeside s g sign_between_lists e env = OrderBeside s g e env
NumberBeside s g item_of_a_list (node_ex b (index (by_value ∷ [])) (more_exs a (more_exs i no_exs))) env = ListBeside s g a env
NumberBeside s g side_of_a_pair (ex2 true o a b) env = ListBeside s g a env × ListBeside s g b env
NumberBeside s g lists_of_what_is_picked (node_ex b (index (by_value ∷ [])) (more_exs a (more_exs i no_exs))) env =
    ListPicksBeside s g a env
NumberBeside s g lists_of_what_is_picked (ex2 true o a b) env = ListPicksBeside s g a env × ListPicksBeside s g b env
NumberBeside s g r e env = Unit {0}

-- So each that fires keeps what it rewrites. w says that the tree stands in a natural place.
abbrev pub NumbersAreCountedOn : Type 0
NumbersAreCountedOn = (s : Supply) (g : Names Ty) (r : NumberRule) (e f : Ex) → number_rewrite s g r e ≡ Some f → (env : Env) →
    Typed g env →
    NumberBeside s g r e env → (w : Bool) → Valued w e env → Keeps e f env
