-- Constraints over scalars, ranges and nested sets: numbers, truth values and names of scalars, arithmetic, comparisons and connectives,
-- `toInt`; `and`, `or` and `sum` of what generators over truth values, over ranges of numbers and over members of sets go through, with
-- conditions; memberships of scalars and of sets, comparisons and inclusions of sets, and their sizes. A set is a name, a free one or one
-- that is bound over members which are sets, or made of two by `union`, `intersect` and `-`. So are `forAll i : int(1..n) . x != i`,
-- `forAll x in s . |x| >= 2`, `a union b = c`, `sum([x | x <- s]) <= |a union b|` and `exists x in t . 3 in x - y /\ i < |t|` in trees.
-- Left out are quotients, powers, ranges of other ends, and names that hide others.
use Rattle.std.specs.Prelude.{Bool, true, false, ◌&&◌, not, if◌then◌else◌, [], ◌∷◌, Option, Some, None, is_some, option_map}
use Rattle.ess_semantics.specs.declared.words.Op1.{Op1}
use Rattle.ess_semantics.specs.declared.words.Op2.{Op2}
use Rattle.ess_semantics.specs.declared.words.Fun.{Fun}
use Rattle.ess_semantics.specs.Lists.{and_then}
use Rattle.ess_semantics.specs.Values.{Text}
use Rattle.ess_semantics.specs.Order.{same_text}
use Rattle.ess_semantics.specs.Names.{Names}
use Rattle.ess_semantics.specs.Trees.{both_ends, name_pat, Ex, number_ex, truth_ex, name_ex, comp_ex, no_exs, more_exs, Gens, no_gens, over, from, cond, bool_dom, int_dom, ex1, ex2, fun1}
use Rattle.ess_flat_laws.specs.Flat.{as_marked, one_mark, two_mark, chosen_mark}
use Rattle.ess_seen_laws.specs.Seen.{Kind, scalars, sets_of, Bound, over_a_range, from_a_set, bound_kind}

-- ---- marks

-- Whether the mark is this one.
abbrev pub is_mark : Bool → Option Bool → Bool
is_mark true (Some true) = true
is_mark false (Some false) = true
is_mark b m = false

-- The mark of a word on a list of items with this mark.
abbrev pub fold_mark : Fun → Bool → Option Bool
fold_mark Fun.And true = Some true
fold_mark Fun.Or true = Some true
fold_mark Fun.Sum false = Some false
fold_mark f m = None

-- The mark of a word on an operand with this mark.
abbrev pub word_mark : Fun → Bool → Option Bool
word_mark Fun.ToInt m = chosen_mark m
word_mark f m = None

-- ---- kinds

-- The kind of a name with this mark, else of one that is a set of members of this kind.
abbrev pub marked_or_set : Option Bool → Option Kind → Option Kind
marked_or_set (Some m) o = Some (scalars m)
marked_or_set None o = option_map sets_of o

-- The kinds of free names: scalars have marks, and sets have members of a kind.
abbrev pub free_kind : (Text → Option Bool) → (Text → Option Kind) → Text → Option Kind
free_kind marks sets a = marked_or_set (marks a) (sets a)

-- The mark of a scalar.
abbrev pub mark_of_kind : Option Kind → Option Bool
mark_of_kind (Some (scalars m)) = Some m
mark_of_kind o = None

-- The kind of a set's members.
abbrev pub members_kind : Option Kind → Option Kind
members_kind (Some (sets_of k)) = Some k
members_kind o = None

-- Whether two kinds are the same.
abbrev pub same_kind : Kind → Kind → Bool
same_kind (scalars true) (scalars true) = true
same_kind (scalars false) (scalars false) = true
same_kind (sets_of i) (sets_of k) = same_kind i k
same_kind i k = false

-- Whether the operator makes a set of two.
abbrev pub combines : Op2 → Bool
combines Op2.Union = true
combines Op2.Intersect = true
combines Op2.Minus = true
combines o = false

-- Whether it compares two sets.
abbrev pub compares_sets : Op2 → Bool
compares_sets Op2.Eq = true
compares_sets Op2.Ne = true
compares_sets Op2.SubsetEq = true
compares_sets Op2.Subset = true
compares_sets Op2.SupsetEq = true
compares_sets Op2.Supset = true
compares_sets o = false

-- The mark of an operator on an operand of this kind.
abbrev pub one_kind : Op1 → Kind → Option Bool
one_kind Op1.Bar (sets_of k) = Some false
one_kind o (scalars m) = one_mark o m
one_kind o k = None

-- The kind of a tree with this mark, of an operator on two operands of these kinds.
abbrev pub two_kind : Bool → Op2 → Kind → Kind → Option Kind
two_kind b o (scalars m) (scalars k) = option_map scalars (and_then (two_mark o m k) (as_marked b))
two_kind true Op2.Member i (sets_of k) = if same_kind i k then Some (scalars true) else None
two_kind true o (sets_of i) (sets_of k) = if compares_sets o && same_kind i k then Some (scalars true) else None
two_kind false o (sets_of i) (sets_of k) = if combines o && same_kind i k then Some (sets_of i) else None
two_kind b o i k = None

-- The mark of a word on a list of items of this kind.
abbrev pub fold_kind : Fun → Kind → Option Bool
fold_kind f (scalars m) = fold_mark f m
fold_kind f (sets_of k) = None

-- The mark of a word on an operand of this kind.
abbrev pub word_kind : Fun → Kind → Option Bool
word_kind f (scalars m) = word_mark f m
word_kind f (sets_of k) = None

-- ---- trees

-- The kinds of free names.
module _ (names : Text → Option Kind) where
  -- The kind of a name, where these names are bound.
  abbrev pub kind_at : Names Bound → Text → Option Kind
  kind_at [] a = names a
  kind_at (b ∷ r) a = if same_text b.0 a then Some (bound_kind b.1) else kind_at r a

  -- Whether the name is neither bound nor a free one.
  abbrev pub is_new : Names Bound → Text → Bool
  is_new r a = not (is_some (kind_at r a))

  abbrev mutual
    -- The kind of the tree, where it is a constraint of the class, a part of one, or a set.
    pub setwise_kind : Names Bound → Ex → Option Kind
    setwise_kind r (number_ex k) = Some (scalars false)
    setwise_kind r (truth_ex b) = Some (scalars true)
    setwise_kind r (name_ex a) = kind_at r a
    setwise_kind r (ex1 b o x) =
        option_map scalars (and_then (and_then (setwise_kind r x) (one_kind o)) (as_marked b))
    setwise_kind r (ex2 b o x y) = and_then (setwise_kind r x) (λ i. and_then (setwise_kind r y) (two_kind b o i))
    setwise_kind r (fun1 b f (comp_ex e gs)) =
        option_map scalars
        (and_then (and_then (and_then (bound_behind r gs) (λ t. setwise_kind t e)) (fold_kind f)) (as_marked b))
    setwise_kind r (fun1 b f x) = option_map scalars (and_then (and_then (setwise_kind r x) (word_kind f)) (as_marked b))
    setwise_kind r e = None

    -- The names behind generators, where these are of the class.
    pub bound_behind : Names Bound → Gens → Option (Names Bound)
    bound_behind r no_gens = Some r
    bound_behind r (over (name_pat a) bool_dom gs) = if is_new r a then bound_behind ((a, over_a_range true) ∷ r) gs else None
    bound_behind r (over (name_pat a) (int_dom (both_ends ∷ []) (more_exs x (more_exs y no_exs))) gs) =
        if is_new r a && (is_mark false (mark_of_kind (setwise_kind r x)) && is_mark false (mark_of_kind (setwise_kind r y))) then
        bound_behind ((a, over_a_range false) ∷ r) gs else
        None
    bound_behind r (from (name_pat a) s gs) =
        if is_new r a then and_then (members_kind (setwise_kind r s)) (λ k. bound_behind ((a, from_a_set k) ∷ r) gs) else None
    bound_behind r (cond e gs) = if is_mark true (mark_of_kind (setwise_kind r e)) then bound_behind r gs else None
    bound_behind r gs = None

-- ---- the test

-- The mark of a constraint of the class, where scalars have these marks, and sets members of these kinds.
abbrev pub setwise_mark : (Text → Option Bool) → (Text → Option Kind) → Ex → Option Bool
setwise_mark marks sets e = mark_of_kind (setwise_kind (free_kind marks sets) [] e)

-- Whether it is a truth value of the class.
abbrev pub is_setwise_truth : (Text → Option Bool) → (Text → Option Kind) → Ex → Bool
is_setwise_truth marks sets e = is_mark true (setwise_mark marks sets e)

-- Whether it is a number of the class, as objectives are.
abbrev pub is_setwise_number : (Text → Option Bool) → (Text → Option Kind) → Ex → Bool
is_setwise_number marks sets e = is_mark false (setwise_mark marks sets e)
