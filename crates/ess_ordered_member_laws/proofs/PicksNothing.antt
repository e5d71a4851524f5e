-- Parts of a tree of a membership pick nothing.
use Rattle.std.proofs.Common.{◌≡◌, refl, Bool, true, false, List, [], ◌∷◌, None}
use Rattle.ess_semantics.specs.declared.words.Op2.{Op2}
use Rattle.ess_semantics.specs.declared.words.Fun.{Fun}
use Rattle.ess_semantics.specs.Values.{Text}
use Rattle.ess_semantics.specs.Names.{Names}
use Rattle.ess_semantics.specs.Trees.{matrix_literal, name_pat, Ex, name_ex, node_ex, comp_ex, ex2, fun1, no_exs, more_exs, Gens, no_gens, over, cond, Dom}
use Rattle.ess_semantics.specs.Types.{Ty}
use Rattle.ess_refine_laws.specs.AllRules.{Supply}
use Rattle.ess_member_trees_laws.specs.Memberships.{Literal, a_number, a_truth, Bound, at_number, at_cell, view, cell_at, is_it, some_of, OverDomain, a_cell, a_bare, an_it, Part, literal_part, bound_part, name_part, view_part, asked_part, cell_part, named_part, it_part, items_of_set, set_part, items_where, where_part, bare_items, bare_part, bare_both, it_both, items_bare, with_bare_part, items_it, with_it_part, list_part, listed_part}
use Rattle.ess_ordered_laws.specs.NumberedItems.{ordered_lookup}
use Rattle.ess_ordered_laws.specs.PickedSources.{picked_source}

-- Nothing is looked up in the term, whatever names there are, and it is no comprehension over what is picked.
pub record PicksNothing (e : Ex) : Type 0 where
  pub looked : (z : Text) (ys : List Text) → ordered_lookup z ys e ≡ None
  pub comp : (s : Supply) (g : Names Ty) → picked_source s g e ≡ None

-- A literal.
pub literal-picks : {e : Ex} → Literal e → PicksNothing e
literal-picks l = record { looked = go l; comp = λ s g. alone s g l }
  where
    alone : (s : Supply) (g : Names Ty) {e : Ex} → Literal e → picked_source s g e ≡ None
    alone s g a_number = refl
    alone s g a_truth = refl

    go : {e : Ex} → Literal e → (z : Text) (ys : List Text) → ordered_lookup z ys e ≡ None
    go l z [] = refl
    go a_number z (y ∷ ys) = refl
    go a_truth z (y ∷ ys) = refl

-- A bound.
bound-picks : {e : Ex} → Bound e → PicksNothing e
bound-picks b = record { looked = go b; comp = λ s g. alone s g b }
  where
    alone : (s : Supply) (g : Names Ty) {e : Ex} → Bound e → picked_source s g e ≡ None
    alone s g at_number = refl
    alone s g at_cell = refl

    go : {e : Ex} → Bound e → (z : Text) (ys : List Text) → ordered_lookup z ys e ≡ None
    go b z [] = refl
    go at_number z (y ∷ ys) = refl
    go at_cell z (y ∷ ys) = refl

-- A name.
pub name-picks : (x : Text) → PicksNothing (name_ex x)
name-picks x = record { looked = go; comp = λ s g. refl }
  where
    go : (z : Text) (ys : List Text) → ordered_lookup z ys (name_ex x) ≡ None
    go z [] = refl
    go z (y ∷ ys) = refl

-- A comprehension whose first source isn't picked.
pub comp-picks : (e : Ex) (gs : Gens) → ((s : Supply) (g : Names Ty) → picked_source s g (comp_ex e gs) ≡ None) →
    PicksNothing (comp_ex e gs)
comp-picks e gs h = record { looked = go; comp = h }
  where
    go : (z : Text) (ys : List Text) → ordered_lookup z ys (comp_ex e gs) ≡ None
    go z [] = refl
    go z (y ∷ ys) = refl

-- A word of a term.
pub word-picks : (b : Bool) (f : Fun) (l : Ex) → PicksNothing (fun1 b f l)
word-picks b f l = record { looked = go; comp = λ s g. refl }
  where
    go : (z : Text) (ys : List Text) → ordered_lookup z ys (fun1 b f l) ≡ None
    go z [] = refl
    go z (y ∷ ys) = refl

-- A sign between terms.
pub sign-picks : (b : Bool) (o : Op2) (c d : Ex) → PicksNothing (ex2 b o c d)
sign-picks b o c d = record { looked = go; comp = λ s g. refl }
  where
    go : (z : Text) (ys : List Text) → ordered_lookup z ys (ex2 b o c d) ≡ None
    go z [] = refl
    go z (y ∷ ys) = refl

-- A list of one item.
pub list-picks : (e : Ex) → PicksNothing (node_ex false matrix_literal (more_exs e no_exs))
list-picks e = record { looked = go; comp = λ s g. refl }
  where
    go : (z : Text) (ys : List Text) → ordered_lookup z ys (node_ex false matrix_literal (more_exs e no_exs)) ≡ None
    go z [] = refl
    go z (y ∷ ys) = refl

-- ---- the parts of a membership

module _ (n : Text) (A : Dom) (L : Ex) where
  -- The view of the set.
  pub view-picks : PicksNothing (view n A L)
  view-picks = record { looked = go; comp = λ s g. refl }
    where
      go : (z : Text) (ys : List Text) → ordered_lookup z ys (view n A L) ≡ None
      go z [] = refl
      go z (y ∷ ys) = refl

  -- One of its cells.
  pub cell-picks : (e : Ex) → PicksNothing (cell_at n A L e)
  cell-picks e = record { looked = go; comp = λ s g. refl }
    where
      go : (z : Text) (ys : List Text) → ordered_lookup z ys (cell_at n A L e) ≡ None
      go z [] = refl
      go z (y ∷ ys) = refl

  -- A fold over its domain.
  pub fold-picks : {e : Ex} → OverDomain n A L e → PicksNothing e
  fold-picks (a_cell {x = x}) =
      word-picks true Fun.Or (comp_ex (is_it n A L x) (over (name_pat x) A (cond (cell_at n A L (name_ex x)) no_gens)))
  fold-picks (a_bare {x = x}) = word-picks true Fun.Or
      (comp_ex (ex2 true Op2.And (cell_at n A L (name_ex x)) (some_of n A L (is_it n A L x) no_gens)) (over (name_pat x) A no_gens))
  fold-picks (an_it {x = x}) = word-picks true Fun.Or
      (comp_ex (ex2 true Op2.And (cell_at n A L (name_ex x)) (is_it n A L x)) (over (name_pat x) A no_gens))

  module _ (l : Literal L) where
    -- Each part is one.
    pub part-picks : {g : Names Ty} {a : Ex} → Part n A L g a → PicksNothing a
    part-picks (literal_part p) = literal-picks p
    part-picks (bound_part b) = bound-picks b
    part-picks (name_part {x = x}) = name-picks x
    part-picks view_part = view-picks
    part-picks asked_part = sign-picks _ _ _ _
    part-picks cell_part = cell-picks L
    part-picks (named_part {x = x}) = cell-picks (name_ex x)
    part-picks (it_part h) = sign-picks _ _ _ _
    part-picks items_of_set = comp-picks _ _ (λ s g. refl)
    part-picks set_part = word-picks _ _ _
    part-picks items_where = comp-picks _ _ (λ s g. refl)
    part-picks where_part = word-picks _ _ _
    part-picks bare_items = comp-picks _ _ (λ s g. refl)
    part-picks bare_part = word-picks _ _ _
    part-picks bare_both = sign-picks _ _ _ _
    part-picks it_both = sign-picks _ _ _ _
    part-picks items_bare = comp-picks _ _ (λ s g. refl)
    part-picks with_bare_part = word-picks _ _ _
    part-picks items_it = comp-picks _ _ (λ s g. refl)
    part-picks with_it_part = word-picks _ _ _
    part-picks (list_part o) = list-picks _
    part-picks (listed_part o) = word-picks _ _ _
