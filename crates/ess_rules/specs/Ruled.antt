-- The rules as the program uses them: with reserved names from a number on, index domains as the form of a matrix tells them, and the
-- source told apart whose term a rule puts in. Beside those of the two lists there is one that gathers conditions, and there are those of
-- comprehensions whose items have an order, and of sources whose items are counted.
use Rattle.std.specs.Prelude.{
  ◌≡◌,
  ◌&&◌,
  Bool,
  true,
  false,
  if◌then◌else◌,
  ℕ,
  zero,
  suc,
  ◌+◌,
  ◌≤◌,
  List,
  [],
  ◌∷◌,
  ◌++◌,
  map,
  Option,
  Some,
  None,
  is_some,
}
use Rattle.ess_semantics.specs.Values.{Text}
use Rattle.ess_semantics.specs.Names.{Names}
use Rattle.ess_semantics.specs.Trees.{
  name_pat,
  Ex,
  comp_ex,
  node_ex,
  word,
  no_exs,
  more_exs,
  fun1,
  ex2,
  Gens,
  no_gens,
  over,
  from,
  cond,
  Dom,
}
use Rattle.ess_semantics.specs.Types.{Ty}
use Rattle.ess_semantics.specs.Typing.{type_of}
use Rattle.ess_rules_laws.specs.InclusionRules.{both_sets}
use Rattle.ess_refine_laws.specs.LeavingConditions.{at_last_condition}
use Rattle.ess_refine_laws.specs.Copies.{opposite_of}
use Rattle.ess_refine_laws.specs.AllRules as rules
use Rattle.ess_refine_laws.specs.AllRules.{
  Rule,
  Supply,
  rewrite,
  over_a_comprehension,
  over_a_literal,
  over_a_source,
  of_one_source,
  least_of_alternatives,
  least_under_a_condition,
  equal_matrices_at,
  included_multisets,
  condition,
  condition_behind,
}
use Rattle.ess_guard_laws.specs.IndexDomains.{index_dom}
use Rattle.ess_open_rules_laws.specs.OpenGenerators.{is_plain_over, has_no_source}
use Rattle.ess_open_rules_laws.specs.OpenRules.{KindRuling, kind_ruled, puts_in}
use Rattle.ess_gathered_laws.specs.GatheredConditions.{conditions_gathered}
use Rattle.ess_ordered_laws.specs.OrderedRules as orders
use Rattle.ess_ordered_laws.specs.OrderedRules.{OrderedRule, ordered_rewrite}
use Rattle.ess_numbered_laws.specs.NumberRules as numbers
use Rattle.ess_numbered_laws.specs.NumberRules.{NumberRule, number_rewrite}
use Rattle.conjure_model_laws.specs.ToldApart.{reserved, told_apart, told}
use Rattle.ess_kind_rules.specs.Supplies.{told_axis}
use Rattle.ess_rules.specs.WaitingConditions.{may_leave}
use Rattle.ess_kind_rules.specs.AskedKinds.{views_asked, tests_asked, view_sizes_asked, picks_asked, sources_asked, folds_behind_asked}

-- As many reserved names, from the n-th on.
abbrev pub reserved_from : ℕ → ℕ → List Text
reserved_from n zero = []
reserved_from n (suc k) = reserved n ∷ reserved_from (suc n) k

-- What a rule takes at the n-th reserved name: three names, k for the components of a domain, and those behind them for a copy.
abbrev pub supply_at : ℕ → ℕ → Supply
supply_at n k = record {
  one = reserved n;
  other = reserved (n + 1);
  third = reserved (n + 2);
  parts = reserved_from (n + 3) k;
  index_domain = told_axis;
  copy = told_apart (n + 3 + k);
}

-- The number behind the names of the copy that `min` or `max` under a condition takes, from the j-th on.
abbrev pub behind_copy : ℕ → Ex → ℕ
behind_copy j (fun1 false f (comp_ex e gs)) = elim (at_last_condition gs) [
  | None ↦ j
  | Some t ↦ (told (opposite_of f e t) [] j).1
]
behind_copy j e = j

-- The number behind the names that a rule takes: only one takes any from the j-th on.
abbrev pub behind_names : ℕ → Rule → Ex → ℕ
behind_names j least_under_a_condition e = behind_copy j e
behind_names j r e = j

-- ---- a source told apart

-- The generators with the term of the first source told apart, with reserved names from the j-th on, where the first generator which
-- isn't plain binds a name over it; and the number behind these.
abbrev pub new_source : ℕ → Gens → Gens × ℕ
new_source j no_gens = (no_gens, j)
new_source j (over p d gs) =
    if is_plain_over p d then (over p d (new_source j gs).0, (new_source j gs).1) else (over p d gs, j)
new_source j (from (name_pat x) t gs) = (from (name_pat x) (told t [] j).0 gs, (told t [] j).1)
new_source j (from p t gs) = (from p t gs, j)
new_source j (cond c gs) = (cond c (new_source j gs).0, (new_source j gs).1)

-- A word of a comprehension, or a comprehension, with its source told apart; and the number behind the names.
abbrev pub with_new_source : ℕ → Ex → Ex × ℕ
with_new_source j (node_ex m (word f) (more_exs (comp_ex e gs) no_exs)) =
    (node_ex m (word f) (more_exs (comp_ex e (new_source j gs).0) no_exs), (new_source j gs).1)
with_new_source j (comp_ex e gs) = (comp_ex e (new_source j gs).0, (new_source j gs).1)
with_new_source j e = (e, j)

-- ---- rules of all sorts

-- A rule that reads no kind, one that does, the one that gathers conditions, one of comprehensions whose items have an order, or one of
-- those whose items are counted.
pub data Ruling : Type 0 where
  plainly : Rule → Ruling
  by_kind : KindRuling → Ruling
  gathering : Ruling
  in_order : OrderedRule → Ruling
  by_number : NumberRule → Ruling

-- Whether the rule puts the term of a source, or what it is made of, in the place of a name.
abbrev pub puts_source : Ruling → Bool
puts_source (plainly over_a_comprehension) = true
puts_source (plainly over_a_literal) = true
puts_source (plainly over_a_source) = true
puts_source (plainly of_one_source) = true
puts_source (plainly least_of_alternatives) = true
puts_source (plainly r) = false
puts_source (by_kind r) = puts_in r
puts_source gathering = false
puts_source (in_order r) = false
puts_source (by_number r) = false

-- The index domain that the form of an expression tells, where it may be asked for: not before sources are opened.
abbrev pub axis_asked : Ex → Option Dom
axis_asked a = if has_no_source a then index_dom a else None

-- Whether the forms of both operands tell an index domain that may be asked for.
abbrev pub both_told : Ex → Bool
both_told (ex2 m o a b) = is_some (axis_asked a) && is_some (axis_asked b)
both_told e = false

-- Whether the root stands between two sets, or two relations.
abbrev pub compares_sets : Names Ty → Ex → Bool
compares_sets g (ex2 m o a b) = both_sets (type_of a g) (type_of b g)
compares_sets g e = false

-- The rule may be used at the root: matrices are compared by index domains only where their forms tell them, how often members are there
-- isn't counted of sets, and conditions that read cells wait for those of the parts.
abbrev pub MayRule : Names Ty → Ruling → Ex → Type 0
MayRule g (plainly equal_matrices_at) a = both_told a ≡ true
MayRule g (plainly included_multisets) a = compares_sets g a ≡ false
MayRule g (plainly condition) a = may_leave a ≡ true
MayRule g (plainly condition_behind) a = may_leave a ≡ true
MayRule g (plainly least_under_a_condition) a = may_leave a ≡ true
MayRule g gathering a = may_leave a ≡ true
MayRule g r a = Unit {0}

-- What the rule makes of the root.
abbrev pub ruled : Supply → Names Ty → Ruling → Ex → Option Ex
ruled s g (plainly r) a = rewrite s g r a
ruled s g (by_kind r) a = kind_ruled s g r a
ruled s g gathering a = conditions_gathered a
ruled s g (in_order r) a = ordered_rewrite s g r a
ruled s g (by_number r) a = number_rewrite s g r a

-- What the rule is used at, and the number behind the names that are taken for it.
abbrev pub root_of : ℕ → Ruling → Ex → Ex
root_of j r a = if puts_source r then (with_new_source j a).0 else a

abbrev pub behind_root : ℕ → Ruling → Ex → ℕ
behind_root j r a = if puts_source r then (with_new_source j a).1 else j

-- The number behind the names that a rule takes from the j-th on.
abbrev pub behind_ruling : ℕ → Ruling → Ex → ℕ
behind_ruling j (plainly r) a = behind_names j r a
behind_ruling j (by_kind r) a = j
behind_ruling j gathering a = j
behind_ruling j (in_order r) a = j
behind_ruling j (by_number r) a = j

-- One of the rules makes b of a, where names have the types g, with reserved names from the n-th on and none from the m-th on.
pub record IsRuled (n : ℕ) (g : Names Ty) (a b : Ex) (m : ℕ) : Type 0 where
  pub count : ℕ
  pub rule : Ruling
  pub may : MayRule g rule a
  pub fires : ruled (supply_at n count) g rule (root_of (n + 3 + count) rule a) ≡ Some b
  pub passes : behind_ruling (n + 3 + count) rule a ≤ m
  pub passes_root : behind_root (n + 3 + count) rule a ≤ m

-- ---- what is asked

-- The rules that are asked of every root, in groups, in the order in which they are asked. The rules of sources that only know listings
-- aren't asked: those of openings do the same for more roots.

-- Folds: over nothing, one item, no generator, a condition alone, a set made of another container.
abbrev pub folds_asked : List Ruling
folds_asked =
    plainly rules.over_nothing ∷ plainly rules.over_one ∷ plainly rules.over_one_binding ∷ plainly rules.over_a_condition
    ∷ plainly rules.over_a_made_set ∷ []

-- Comprehensions whose items have an order.
abbrev pub ordered_asked : List Ruling
ordered_asked =
    in_order orders.source_by_indices ∷ in_order orders.of_an_item ∷ in_order orders.an_item ∷ in_order orders.source_of_an_item ∷ []

-- Comprehensions whose items are counted.
abbrev pub numbered_asked : List Ruling
numbered_asked =
    by_number numbers.equality_of_lists ∷ by_number numbers.sign_between_lists ∷ by_number numbers.item_of_a_list
    ∷ by_number numbers.side_of_a_pair ∷ by_number numbers.lists_of_what_is_picked ∷ []

-- Rules that put a source in.
abbrev pub source_rules_asked : List Ruling
source_rules_asked = map by_kind sources_asked ++ (plainly rules.over_a_source ∷ [])

-- Folds over a term that isn't laid open.
abbrev pub terms_asked : List Ruling
terms_asked = plainly rules.over_a_term ∷ []

-- Comparisons of compound values.
abbrev pub comparing_asked : List Ruling
comparing_asked =
    plainly rules.not_equal ∷ plainly rules.turned ∷ plainly rules.strictly ∷ plainly rules.equal_tuples ∷ plainly rules.equal_records
    ∷ plainly rules.equal_sets ∷ plainly rules.equal_multisets ∷ plainly rules.equal_functions ∷ []

-- Equality of partitions and matrices, and inclusion.
abbrev pub equality_asked : List Ruling
equality_asked =
    plainly rules.equal_partitions ∷ plainly rules.with_nothing ∷ plainly rules.equal_matrices_at ∷ plainly rules.included_sets
    ∷ plainly rules.included_multisets ∷ []

-- Components and fields of literals, and membership.
abbrev pub membership_asked : List Ruling
membership_asked =
    plainly rules.component_of_a_tuple ∷ plainly rules.field_of_a_record ∷ plainly rules.in_two ∷ plainly rules.in_one_made_of_another
    ∷ plainly rules.in_a_literal ∷ plainly rules.in_what_a_function_has ∷ plainly rules.in_its_pairs ∷ plainly rules.in_a_term ∷ []

-- Sizes, frequencies and `together`.
abbrev pub sizes_asked : List Ruling
sizes_asked =
    plainly rules.size_of_one_made_of_another ∷ plainly rules.size ∷ plainly rules.frequency_in_one_made_of_another
    ∷ plainly rules.frequency_in_a_literal ∷ plainly rules.frequency ∷ plainly rules.together ∷ []

-- Lists, and sets of results.
abbrev pub lists_asked : List Ruling
lists_asked =
    plainly rules.least_of_a_literal ∷ plainly rules.different_items ∷ plainly rules.list_of_a_term ∷ plainly rules.lists_on_both_sides
    ∷ plainly rules.all_different ∷ plainly rules.results ∷ []

-- Numbers that conditions choose, and conditions that read cells: several under `min` or `max` become one first.
abbrev pub conditions_asked : List Ruling
conditions_asked = plainly rules.choice ∷ gathering ∷ plainly rules.condition ∷ plainly rules.condition_behind ∷ []

-- The least and the greatest under such a condition.
abbrev pub extremes_asked : List Ruling
extremes_asked = plainly rules.least_under_a_condition ∷ []

-- Those before the rules that put a source in, and those behind them.
abbrev pub first_asked : List Ruling
first_asked =
    map by_kind views_asked ++ (map by_kind tests_asked ++ (map by_kind view_sizes_asked ++ (map by_kind picks_asked
    ++ (folds_asked ++ (ordered_asked ++ numbered_asked)))))

abbrev pub later_asked : List Ruling
later_asked =
    map by_kind folds_behind_asked ++ (terms_asked ++ (comparing_asked ++ (equality_asked ++ (membership_asked ++ (sizes_asked
    ++ (lists_asked ++ conditions_asked))))))

-- All of them.
abbrev pub rules_asked : List Ruling
rules_asked = first_asked ++ (source_rules_asked ++ (later_asked ++ extremes_asked))

-- None of the rules makes anything of the root by f, where it may be used.
abbrev pub NoneOf : (Ruling → Ex → Option Ex) → Names Ty → List Ruling → Ex → Type 0
NoneOf f g [] a = Unit {0}
NoneOf f g (r ∷ rs) a = (MayRule g r a → f r a ≡ None) × NoneOf f g rs a

-- None of the rules that are asked fires at a, where names have the types g, with reserved names from the n-th on.
pub record NoneFires (n : ℕ) (g : Names Ty) (a : Ex) : Type 0 where
  pub count : ℕ
  pub none : NoneOf (λ r e. ruled (supply_at n count) g r (root_of (n + 3 + count) r e)) g rules_asked a

-- What the rules make of a: where one fires what it makes, else nothing, and no name is taken.
abbrev pub IsTurn : ℕ → Names Ty → Ex → Option Ex → ℕ → Type 0
IsTurn n g a None m = (m ≡ n) × NoneFires n g a
IsTurn n g a (Some b) m = IsRuled n g a b m
