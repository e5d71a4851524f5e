-- What becomes of the items of a comprehension: they are kept, or a word is computed of them as they come.
use Rattle.std.specs.Prelude.{◌≡◌, [], ◌∷◌, pos, Bool, true, false, ◌&&◌, ◌||◌, List, map, ◌++◌, ℤ, ◌+ℤ◌, Option, Some, None, option_map}
use Rattle.ess_semantics.specs.declared.words.Fun.{Fun}
use Rattle.ess_semantics.specs.Values.{Value, number, truth}
use Rattle.ess_semantics.specs.Trees.{word}
use Rattle.ess_semantics.specs.Operators.{sum_of, all_true, any_true, list_value, value_of_node, false_where_undefined}
use Rattle.ess_core.specs.TreeViews.{call_mark}
use Rattle.ess_core.specs.ValueViews.{pure_val}
use Rattle.ess_eval.specs.declared.folding.Fold.{Fold}
use Rattle.ess_eval.specs.declared.folding.Fold.TheVariants.{Items, Sum, Each, One}

-- The items so far, their sum, whether each is true, whether one is true.
pub data Folded : Type 0 where
  kept : List Value → Folded
  total : ℤ → Folded
  each : Bool → Folded
  one : Bool → Folded

-- What code keeps of the items so far.
abbrev pub pure_fold : Fold → Folded
pure_fold (Items vs) = kept (map pure_val vs)
pure_fold (Sum n) = total n
pure_fold (Each b) = each b
pure_fold (One b) = one b

-- How a function word begins.
abbrev pub begun : Fun → Folded
begun Fun.Sum = total (pos 0)
begun Fun.And = each true
begun Fun.Or = one false
begun _ = kept []

-- With more items.
abbrev pub folded : Folded → List Value → Folded
folded (kept old) xs = kept (old ++ xs)
folded (total n) xs = total (n +ℤ sum_of xs)
folded (each b) xs = each (b && all_true xs)
folded (one b) xs = one (b || any_true xs)

-- Whether later items change nothing: an item has no value, or one of those that must all be true isn't.
abbrev pub decided : Option Folded → Bool
decided None = true
decided (Some (each false)) = true
decided (Some f) = false

-- The items that are there were taken; false where they decide already.
abbrev pub Taken : Bool → Folded → Folded → Option (List Value) → Type 0
Taken true old new o = option_map (folded old) o ≡ Some new
Taken false old new o = decided (option_map (folded old) o) ≡ true

-- ---- what is kept at the end, where each item is there

-- The items as a list.
abbrev pub list_in : Bool → Folded → Option Value
list_in true (kept vs) = Some (list_value vs)
list_in t f = None

-- Their sum.
abbrev pub total_in : Bool → Folded → Option ℤ
total_in true (total n) = Some n
total_in t f = None

-- Whether each is true.
abbrev pub each_in : Bool → Folded → Bool
each_in true (each b) = b
each_in t f = false

-- Whether one is true.
abbrev pub one_in : Bool → Folded → Bool
one_in true (one b) = b
one_in t f = false

-- The value of a function word.
abbrev pub word_in : Fun → Bool → Folded → Option Value
word_in Fun.Sum t f = option_map number (total_in t f)
word_in Fun.And t f = Some (truth (each_in t f))
word_in Fun.Or t f = Some (truth (one_in t f))
word_in w t f = false_where_undefined (call_mark false w) (value_of_node (word w) (list_in t f ∷ []))
