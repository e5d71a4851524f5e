-- Picks are looked up along those within which they stand: the innermost by what it picks from, each other one through the one within it.
use Rattle.std.proofs.Common.{◌≡◌, refl, sym, ap, ◌∙◌, suc, ◌≤◌, arith, Bool, true, false, ◌&&◌, not, if◌then◌else◌, List, [], ◌∷◌, Option, Some, None, length, is_some}
use Rattle.ess_semantics.specs.declared.words.Fun.{Fun}
use Rattle.ess_semantics.specs.declared.words.ReprKind.{ReprKind}
use Rattle.ess_semantics.specs.Lists.{and_then, all_some}
use Rattle.ess_semantics.specs.Values.{Text}
use Rattle.ess_semantics.specs.Names.{Names, look}
use Rattle.ess_semantics.specs.Kinds.{fits}
use Rattle.ess_semantics.specs.Trees.{Step, by_value, to_component, to_field, Op, word, index, application, matrix_literal, Reprs, repr, Ex, Exs, number_ex, truth_ex, name_ex, node_ex, matrix_ex, comp_ex, cell_ex, seen_ex, no_exs, more_exs, Dom, matrix_dom, no_doms, more_doms, at1}
use Rattle.ess_semantics.specs.Types.{Ty, named_ty, type_of_dom}
use Rattle.ess_semantics.specs.Typing.{Static, static, statics, step_ty, path_ty, type_of_node, number_cell_ty, type_of, types_of}
use Rattle.ess_semantics.proofs.Tests.{and-left, and-right, not-true}
use Rattle.ess_rules_laws.specs.Listings.{Alternative}
use Rattle.ess_rules_laws.specs.AlternativeLookups.{lookup_through_each}
use Rattle.ess_kind_rules_laws.specs.TermLookups.{picks, picked_within, looked_up_alone, looked_up}
use Rattle.ess_kind_rules_laws.specs.KindRules.{asks_truth}
use Rattle.ess_offered_laws.specs.Containers.{is_container}
use Rattle.ess_offered_laws.specs.InnermostPicks.{innermost, depth_of_picks, is_matrix_ty, is_seen_container, is_told_pick, is_left_matrix, is_left_pick}
use Rattle.ess_offered_laws.specs.Laws.{PicksAreLookedUp}
use Rattle.ess_rules_laws.proofs.SourceTypes.{no}
use Rattle.ess_offered_laws.proofs.ViewsListed.{one-below}
use Rattle.ess_offered_laws.proofs.MatrixTypes.{then-op-not}
use Rattle.ess_offered_laws.proofs.ResultsLookedUp.{application-looked_up, image-looked_up, party-looked_up}

-- ---- types of indices

-- Without an index, and with several, a step by value has no type.
no-index : (s : Static) (o : Option Ty) → is_some (type_of_node (index (by_value ∷ [])) (s ∷ []) (o ∷ [])) ≡ true → false ≡ true
no-index s None h = h
no-index s (Some t) h = h

several-indices : (s q r : Static) (ss : List Static) (o u v : Option Ty) (os : List (Option Ty)) →
    is_some (type_of_node (index (by_value ∷ [])) (s ∷ q ∷ r ∷ ss) (o ∷ u ∷ v ∷ os)) ≡ true → false ≡ true
several-indices s q r ss None u v os h = h
several-indices s q r ss (Some t) u v os h = go (step_ty t q u) h
  where
    go : (o : Option Ty) → is_some (and_then o (λ z. path_ty z [] (r ∷ ss) (v ∷ os))) ≡ true → false ≡ true
    go None h = h
    go (Some z) h = h

-- Where there is a type of an index, there is one of what is indexed.
first-typed : (q : Step) (s : Static) (ss : List Static) (o : Option Ty) (os : List (Option Ty)) →
    is_some (type_of_node (index (q ∷ [])) (s ∷ ss) (o ∷ os)) ≡ true → is_some o ≡ true
first-typed q s ss None os h = h
first-typed q s ss (Some t) os h = refl

-- ---- items of matrices

-- No cell is a matrix.
number-no-matrix : (o : Option Ty) → is_matrix_ty (Some (number_cell_ty o)) ≡ true → false ≡ true
number-no-matrix (Some (named_ty t)) h = h
number-no-matrix _ h = h

cell-no-matrix : (c : Bool) (n : Text) (js : Exs) (g : Names Ty) → is_matrix_ty (type_of (cell_ex c n js) g) ≡ true → false ≡ true
cell-no-matrix true n js g h = h
cell-no-matrix false n js g h = number-no-matrix (look g n) h

module _ (g : Names Ty) (x y : Text) (zs : List Text) where
  -- The lookup of an item is there.
  abbrev ItemThere : Bool → Ex → Ex → Type 0
  ItemThere b t i = is_some (looked_up_alone g x y zs (at1 b t i)) ≡ true

  -- That of a view of a matrix.
  item-of-view : (b : Bool) (i : Ex) (d : Dom) (k : ReprKind) (rs : Reprs) (ns : List Text) (js : Exs) → fits (repr k rs) d ≡ true →
      is_container d ≡ true → is_matrix_ty (Some (type_of_dom d)) ≡ true → ItemThere b (seen_ex (repr k rs) d ns js) i
  item-of-view b i (matrix_dom (more_doms j is) d) ReprKind.Matrix rs ns js f c m =
      one-below (λ rs. ItemThere b (seen_ex (repr ReprKind.Matrix rs) (matrix_dom (more_doms j is) d) ns js) i) d (λ r. refl) rs f
  item-of-view b i (matrix_dom (more_doms j is) d) k rs ns js f c m = no f
  item-of-view b i (matrix_dom no_doms d) k rs ns js f c m = no c
  item-of-view b i d k rs ns js f c m = no m

  -- That of an operator that gives a matrix.
  item-of-node : (b : Bool) (i : Ex) (op : Op) (es : Exs) → picks (node_ex false op es) ≡ false →
      is_matrix_ty (type_of (node_ex false op es) g) ≡ true →
      is_some (looked_up_alone g x y zs (at1 b (node_ex false op es) i)) ≡ not (is_left_matrix (node_ex false op es))
  item-of-node b i (index qs) es p m = refl
  item-of-node b i matrix_literal es p m = refl
  item-of-node b i application es p m = no (sym p)
  item-of-node b i (word Fun.Image) es p m = no (sym p)
  item-of-node b i (word f) es p m = no (sym (then-op-not (word f) refl (all_some (types_of es g))) ∙ m)
  item-of-node b i op es p m = no (sym (then-op-not op refl (all_some (types_of es g))) ∙ m)

  -- Each item of a matrix is looked up, unless the matrix is left.
  item-looked_up : (b : Bool) (t i : Ex) → picks t ≡ false → is_matrix_ty (type_of t g) ≡ true → asks_truth t ≡ false →
      is_seen_container t ≡ true → is_some (looked_up_alone g x y zs (at1 b t i)) ≡ not (is_left_matrix t)
  item-looked_up b (number_ex n) i p m a f = no m
  item-looked_up b (truth_ex c) i p m a f = no m
  item-looked_up b (name_ex n) i p m a f = refl
  item-looked_up b (comp_ex e gs) i p m a f = refl
  item-looked_up b (matrix_ex es d) i p m a f = refl
  item-looked_up b (cell_ex c n js) i p m a f = no (cell-no-matrix c n js g m)
  item-looked_up b (seen_ex (repr k rs) d ns js) i p m a f =
      item-of-view b i d k rs ns js (and-left (fits (repr k rs) d) (is_container d) f) (and-right (fits (repr k rs) d) (is_container d) f) m
  item-looked_up b (node_ex true op es) i p m a f = no (sym a)
  item-looked_up b (node_ex false op es) i p m a f = item-of-node b i op es p m

  -- ---- the innermost pick

  -- Where nothing is picked within.
  none-within : (b : Bool) (t : Ex) → (if b then Some t else None) ≡ None → b ≡ false
  none-within true t h = cc
  none-within false t h = refl

  -- It is looked up, unless it is left.
  pub alone-looked_up : (e : Ex) → picks e ≡ true → picked_within e ≡ None → is_some (type_of e g) ≡ true → is_told_pick g e ≡ true →
      is_some (looked_up_alone g x y zs e) ≡ not (is_left_pick g e)
  alone-looked_up (node_ex b (index (by_value ∷ [])) no_exs) p w t k = no t
  alone-looked_up (node_ex b (index (by_value ∷ [])) (more_exs a no_exs)) p w t k = no (no-index (static a) (type_of a g) t)
  alone-looked_up (node_ex b (index (by_value ∷ [])) (more_exs a (more_exs i no_exs))) p w t k =
      let l = and-right (is_matrix_ty (type_of a g)) (not (asks_truth a) && is_seen_container a) k in
      item-looked_up b a i (none-within (picks a) a w) (and-left (is_matrix_ty (type_of a g)) (not (asks_truth a) && is_seen_container a) k)
      (not-true (asks_truth a) (and-left (not (asks_truth a)) (is_seen_container a) l))
      (and-right (not (asks_truth a)) (is_seen_container a) l)
  alone-looked_up (node_ex b (index (by_value ∷ [])) (more_exs a (more_exs i (more_exs j es)))) p w t k =
      no (several-indices (static a) (static i) (static j) (statics es) (type_of a g) (type_of i g) (type_of j g) (types_of es g) t)
  alone-looked_up (node_ex b (index (to_component c ∷ [])) (more_exs a no_exs)) p w t k = no (sym (none-within (picks a) a w) ∙ p)
  alone-looked_up (node_ex b (index (to_field c ∷ [])) (more_exs a no_exs)) p w t k = no (sym (none-within (picks a) a w) ∙ p)
  alone-looked_up (node_ex b application no_exs) p w t k = no t
  alone-looked_up (node_ex b application (more_exs f es)) p w t k = application-looked_up g x y zs b f es t k
  alone-looked_up (node_ex b (word Fun.Image) es) p w t k = image-looked_up g x y zs b es t
  alone-looked_up (node_ex b (word Fun.Party) es) p w t k = party-looked_up g x y zs b es t
  alone-looked_up _ p w t k = no p

-- ---- picks within picks

-- What is looked up within is looked up.
through-there : (y : Text) (b : Bool) (q : Step) (t : Ex) (es : Exs) (o : Option (List Alternative)) →
    is_some (and_then o (λ l. lookup_through_each y 1 l (node_ex b (index (q ∷ [])) (more_exs t es)))) ≡ is_some o
through-there y b q t es None = refl
through-there y b q t es (Some l) = refl

-- There is one pick at least.
some-deep : (e : Ex) → 1 ≤ depth_of_picks e
some-deep (node_ex b (index (q ∷ [])) (more_exs t es)) = go (picks t)
  where
    go : (c : Bool) → 1 ≤ (if c then suc (depth_of_picks t) else 1)
    go true = let m : 1 ≤ suc (depth_of_picks t) = omega arith in m
    go false = let m : 1 ≤ 1 = omega arith in m
some-deep _ = let m : 1 ≤ 1 = omega arith in m

module _ (g : Names Ty) (x : Text) where
  -- A pick within another one, or the innermost.
  one-more : (y : Text) (zs : List Text) (b : Bool) (q : Step) (t : Ex) (es : Exs) (c : Bool) → picks t ≡ c →
      picks (node_ex b (index (q ∷ [])) (more_exs t es)) ≡ true →
      is_some (type_of (node_ex b (index (q ∷ [])) (more_exs t es)) g) ≡ true →
      (if c then suc (depth_of_picks t) else 1) ≤ suc (length zs) →
      is_told_pick g (if c then innermost t else node_ex b (index (q ∷ [])) (more_exs t es)) ≡ true →
      (picks t ≡ true → is_some (type_of t g) ≡ true → depth_of_picks t ≤ length zs → is_told_pick g (innermost t) ≡ true →
      is_some (looked_up g x zs t) ≡ not (is_left_pick g (innermost t))) →
      is_some (elim (if c then Some t else None) as (λ z. Option (List Alternative)) [
        | None ↦ looked_up_alone g x y zs (node_ex b (index (q ∷ [])) (more_exs t es))
        | Some u ↦ and_then (looked_up g x zs u) (λ l. lookup_through_each y 1 l (node_ex b (index (q ∷ [])) (more_exs t es)))
      ]) ≡ not (is_left_pick g (if c then innermost t else node_ex b (index (q ∷ [])) (more_exs t es)))
  one-more y zs b q t es true r p ty d k ih =
      let l : suc (depth_of_picks t) ≤ suc (length zs) = d in
      through-there y b q t es (looked_up g x zs t)
      ∙ ih r (first-typed q (static t) (statics es) (type_of t g) (types_of es g) ty) (omega arith) k
  one-more y zs b q t es false r p ty d k ih =
      alone-looked_up g x y zs (node_ex b (index (q ∷ [])) (more_exs t es)) p (ap (λ c. if c then Some t else None) r) ty k

-- Each pick is looked up, unless the innermost is left.
pub picks-looked_up : PicksAreLookedUp
picks-looked_up g x [] e p t d k = let m : 1 ≤ depth_of_picks e = some-deep e in let l : depth_of_picks e ≤ 0 = d in absurd (omega arith)
picks-looked_up g x (y ∷ zs) (node_ex b (index (q ∷ [])) (more_exs t es)) p ty d k =
    one-more g x y zs b q t es (picks t) refl p ty d k (λ r u l m. picks-looked_up g x zs t r u l m)
picks-looked_up g x (y ∷ zs) e p ty d k = alone-looked_up g x y zs e p refl ty k
