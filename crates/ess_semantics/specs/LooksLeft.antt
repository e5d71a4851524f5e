-- What a rule that lays one view open at the root of a tree leaves below it: it looks into no view anew but into the
-- parts of the one laid open, and into views that the tree had already. So rules come to an end.
use Rattle.std.specs.Prelude.{◌≡◌, List, [], ◌∷◌, ◌++◌, map, Option, Some, None}
use Rattle.ess_semantics.specs.declared.words.Op1.{Op1}
use Rattle.ess_semantics.specs.declared.words.Op2.{Op2}
use Rattle.ess_semantics.specs.declared.words.Fun.{Fun}
use Rattle.ess_semantics.specs.declared.words.ReprKind.{ReprKind}
use Rattle.ess_semantics.specs.Lists.{and_then, append_all, tail_of}
use Rattle.ess_semantics.specs.Values.{Text}
use Rattle.ess_semantics.specs.Trees.{word, application, Repr, Reprs, repr, more_reprs, Pat, Ex, node_ex, comp_ex, seen_ex, more_exs, Gens, no_gens, over, from, cond, ex1, ex2, no_exs}
use Rattle.ess_semantics.specs.Substitution.{substitute}
use Rattle.ess_semantics.specs.Contexts.{Each}
use Rattle.ess_semantics.specs.Occurrences.{parts_of}

-- The item is in the list.
pub data Among {A : Type 0} (a : A) : List A → Type 0 where
  is_first : {as' : List A} → Among a (a ∷ as')
  is_later : {b : A} {as' : List A} → Among a as' → Among a (b ∷ as')

-- ---- what looks into views

-- What may look into a view: an operator's node, or a generator with its source.
pub data Look : Type 0 where
  by_node : Ex → Look
  by_generator : Pat → Ex → Look

-- The expression, where it is a view.
abbrev pub as_view : Ex → Option Ex
as_view (seen_ex r d ns es) = Some (seen_ex r d ns es)
as_view e = None

-- The view into which it looks: that of a generator's source, or the container operand of `in`, `|..|`, an application,
-- `freq` and `together`.
abbrev pub looked_into : Look → Option Ex
looked_into (by_generator p e) = as_view e
looked_into (by_node (ex2 b Op2.Member x v)) = as_view v
looked_into (by_node (ex1 b Op1.Bar v)) = as_view v
looked_into (by_node (node_ex b application (more_exs f es))) = as_view f
looked_into (by_node (node_ex b (word Fun.Image) (more_exs f es))) = as_view f
looked_into (by_node (node_ex b (word Fun.Freq) (more_exs m es))) = as_view m
looked_into (by_node (node_ex b (word Fun.Together) (more_exs s (more_exs p no_exs)))) = as_view p
looked_into (by_node e) = None

-- The generators over expressions.
abbrev pub looks_of_gens : Gens → List Look
looks_of_gens no_gens = []
looks_of_gens (over p d gs) = looks_of_gens gs
looks_of_gens (from p e gs) = by_generator p e ∷ looks_of_gens gs
looks_of_gens (cond e gs) = looks_of_gens gs

-- Those at the root of a tree.
abbrev pub looks_at : Ex → List Look
looks_at (comp_ex e gs) = looks_of_gens gs
looks_at e = by_node e ∷ []

-- Those in the whole tree.
abbrev pub looks_of : Ex → List Look
looks_of e = append_all (map looks_at (parts_of e))

-- The one that a rule at the root lays open: the first generator of a comprehension, or the node.
abbrev pub root_look : Ex → Option Look
root_look (comp_ex e (from p x gs)) = Some (by_generator p x)
root_look (comp_ex e gs) = None
root_look e = Some (by_node e)

-- The view into which the root looks.
abbrev pub root_view : Ex → Option Ex
root_view e = and_then (root_look e) looked_into

-- All but the one at the root.
abbrev pub looks_below : Ex → List Look
looks_below e = tail_of (looks_at e) ++ append_all (map looks_at (tail_of (parts_of e)))

-- With expressions put in for names.
abbrev pub replaced : (Text → Ex) → Look → Look
replaced f (by_node e) = by_node (substitute f e)
replaced f (by_generator p e) = by_generator p (substitute f e)

-- ---- representations of parts

mutual
  -- The first representation is a child of the second one, at any depth.
  pub data Below : Repr → Repr → Type 0 where
    below : {r : Repr} {k : ReprKind} {rs : Reprs} → BelowSome r rs → Below r (repr k rs)

  -- It is one of these children, or below one.
  pub data BelowSome : Repr → Reprs → Type 0 where
    is_child : {r : Repr} {rs : Reprs} → BelowSome r (more_reprs r rs)
    below_child : {r s : Repr} {rs : Reprs} → Below r s → BelowSome r (more_reprs s rs)
    in_later_child : {r s : Repr} {rs : Reprs} → BelowSome r rs → BelowSome r (more_reprs s rs)

-- The representation of a view.
abbrev pub repr_of : Ex → Option Repr
repr_of (seen_ex r d ns es) = Some r
repr_of e = None

-- ---- what may be left

-- The look stood below the old root, with bound names replaced or not; or it is into a view that stood there and isn't the
-- one laid open; or into a view of a part of that one.
pub data MayBeLeft (old : Ex) : Look → Type 0 where
  stood_below : {l : Look} (f : Text → Ex) (k : Look) → Among k (looks_below old) → replaced f k ≡ l → MayBeLeft old l
  into_another : {l : Look} (v : Ex) → looked_into l ≡ Some v → Among v (parts_of old) → (root_view old ≡ Some v → ⊥) → MayBeLeft old l
  into_a_part : {l : Look} (r s : Repr) → and_then (looked_into l) repr_of ≡ Some r → and_then (root_view old) repr_of ≡ Some s → Below r s →
      MayBeLeft old l

-- Each look of the new tree into a view may be left.
abbrev pub LooksLeft : Ex → Ex → Type 0
LooksLeft old new = Each (looks_of new) (λ l. (v : Ex) → looked_into l ≡ Some v → MayBeLeft old l)
