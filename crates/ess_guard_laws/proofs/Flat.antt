-- Flat constraints stay as they are, and Booleans stay marked.
use Rattle.std.proofs.Common.{◌≡◌, refl, ap, ◌∙◌, Bool, true, false, ◌&&◌, ◌||◌, not, if◌then◌else◌, List, [], ◌∷◌, ◌++◌, Option, Some, None}
use Rattle.ess_semantics.specs.declared.words.Op2.{Op2}
use Rattle.ess_semantics.specs.declared.words.Fun.{Fun}
use Rattle.ess_semantics.specs.Values.{Text}
use Rattle.ess_semantics.specs.Names.{Names}
use Rattle.ess_semantics.specs.Trees.{Op, unary, binary, word, Ex, Exs, number_ex, truth_ex, name_ex, node_ex, matrix_ex, comp_ex, cell_ex, seen_ex, no_exs, more_exs}
use Rattle.ess_semantics.specs.Plans.{Plan}
use Rattle.ess_semantics.specs.Models.{is_flat_op, is_not, begins_with_not, is_flat, are_flat, scalar_cell, cell_for, with_cells, all_with_cells}
use Rattle.ess_semantics.proofs.Tests.{and-left, and-right, and-both}
use Rattle.ess_guard_laws.specs.Origins.{Origin}
use Rattle.ess_guard_laws.specs.Conditions.{chained, own}
use Rattle.ess_guard_laws.specs.Guard.{is_plain, connects, own_at, opens, passes, guarded, guarded_all, conditions, conditions_all}
use Rattle.ess_guard_laws.specs.Covered.{is_boolean}

abbrev mutual
  -- Numbers, names and single cells under operators that always have a value.
  is_flat_tree : Ex → Bool
  is_flat_tree (number_ex n) = true
  is_flat_tree (name_ex a) = true
  is_flat_tree (cell_ex b n no_exs) = true
  is_flat_tree (node_ex b op es) = is_flat_op op && are_flat_trees es
  is_flat_tree e = false

  are_flat_trees : Exs → Bool
  are_flat_trees no_exs = true
  are_flat_trees (more_exs e es) = is_flat_tree e && are_flat_trees es

mutual
  flat-tree : (ps : List Plan) (e : Ex) → is_flat ps e ≡ true → is_flat_tree e ≡ true
  flat-tree ps (number_ex n) t = refl
  flat-tree ps (name_ex a) t = refl
  flat-tree ps (node_ex b op es) t = and-both (is_flat_op op) (are_flat_trees es)
      (and-left (is_flat_op op) (not (is_not op && begins_with_not es)) (and-left (is_flat_op op && not (is_not op && begins_with_not es)) (are_flat ps es) t))
      (flat-trees ps es (and-right (is_flat_op op && not (is_not op && begins_with_not es)) (are_flat ps es) t))
  flat-tree ps (truth_ex b) t = cc
  flat-tree ps (matrix_ex es d) t = cc
  flat-tree ps (comp_ex e gs) t = cc
  flat-tree ps (cell_ex b n es) t = cc
  flat-tree ps (seen_ex r d ns es) t = cc

  flat-trees : (ps : List Plan) (es : Exs) → are_flat ps es ≡ true → are_flat_trees es ≡ true
  flat-trees ps no_exs t = refl
  flat-trees ps (more_exs e es) t = and-both (is_flat_tree e) (are_flat_trees es) (flat-tree ps e (and-left (is_flat ps e) (are_flat ps es) t)) (flat-trees ps es (and-right (is_flat ps e) (are_flat ps es) t))

mutual
  cells-flat : (ps : List Plan) (e : Ex) → is_flat ps e ≡ true → is_flat_tree (with_cells ps e) ≡ true
  cells-flat ps (number_ex n) t = refl
  cells-flat ps (name_ex a) t = go (scalar_cell ps a)
    where
      go : (o : Option (Bool × Text)) → is_flat_tree (cell_for a o) ≡ true
      go None = refl
      go (Some c) = refl
  cells-flat ps (node_ex b op es) t = and-both (is_flat_op op) (are_flat_trees (all_with_cells ps es))
      (and-left (is_flat_op op) (not (is_not op && begins_with_not es)) (and-left (is_flat_op op && not (is_not op && begins_with_not es)) (are_flat ps es) t))
      (all-cells-flat ps es (and-right (is_flat_op op && not (is_not op && begins_with_not es)) (are_flat ps es) t))
  cells-flat ps (truth_ex b) t = cc
  cells-flat ps (matrix_ex es d) t = cc
  cells-flat ps (comp_ex e gs) t = cc
  cells-flat ps (cell_ex b n es) t = cc
  cells-flat ps (seen_ex r d ns es) t = cc

  all-cells-flat : (ps : List Plan) (es : Exs) → are_flat ps es ≡ true → are_flat_trees (all_with_cells ps es) ≡ true
  all-cells-flat ps no_exs t = refl
  all-cells-flat ps (more_exs e es) t = and-both (is_flat_tree (with_cells ps e)) (are_flat_trees (all_with_cells ps es))
      (cells-flat ps e (and-left (is_flat ps e) (are_flat ps es) t)) (all-cells-flat ps es (and-right (is_flat ps e) (are_flat ps es) t))

choose-none : (b : Bool) (cs : List Ex) → cs ≡ [] → (if b then [] else cs) ≡ []
choose-none true cs e = refl
choose-none false cs e = e

module _ (natural : Bool) (x y : Text) where
  own-flat : (k : Names Origin) (op : Op) (es : Exs) → is_flat_op op ≡ true → own k x y op es ≡ []
  own-flat k (unary o) es e = refl
  own-flat k (binary Op2.Minus) es e = refl
  own-flat k (binary Op2.Plus) es e = refl
  own-flat k (binary Op2.Times) es e = refl
  own-flat k (binary Op2.Eq) es e = refl
  own-flat k (binary Op2.Ne) es e = refl
  own-flat k (binary Op2.Lt) es e = refl
  own-flat k (binary Op2.Le) es e = refl
  own-flat k (binary Op2.Gt) es e = refl
  own-flat k (binary Op2.Ge) es e = refl
  own-flat k (binary Op2.And) es e = refl
  own-flat k (binary Op2.Or) es e = refl
  own-flat k (binary Op2.Implies) es e = refl
  own-flat k (binary Op2.Iff) es e = refl
  own-flat k (word Fun.ToInt) es e = refl
  own-flat k op es e = cc

  chosen-node : (b c : Bool) (cs : List Ex) (op : Op) (es : Exs) → cs ≡ [] → (if b && not c then chained cs (node_ex true op es) else node_ex b op es) ≡ node_ex b op es
  chosen-node true true cs op es e = refl
  chosen-node true false cs op es e = ap (λ l. chained l (node_ex true op es)) e
  chosen-node false c cs op es e = refl

  none-asked : (cs ds : List Ex) → cs ≡ [] → ds ≡ [] → cs ++ ds ≡ []
  none-asked cs ds e f = ap (λ l. l ++ ds) e ∙ f

  mutual
    -- A flat tree stays as it is.
    pub flat-stays : (e : Ex) (k : Names Origin) → is_flat_tree e ≡ true → guarded natural x y k e ≡ e
    flat-stays (number_ex n) k t = refl
    flat-stays (name_ex a) k t = refl
    flat-stays (cell_ex true n no_exs) k t = refl
    flat-stays (cell_ex false n no_exs) k t = refl
    flat-stays (cell_ex b n (more_exs e es)) k t = cc
    flat-stays (node_ex b op es) k t =
        ap (λ fs. if b && not (connects op) then chained (conditions_all natural x y k (opens natural x y op) es ++ own k x y op fs) (node_ex true op fs) else node_ex b op fs) (all-stay es k (and-right (is_flat_op op) (are_flat_trees es) t))
        ∙ chosen-node b (connects op) _ op es
        (none-asked _ _ (all-ask es k (opens natural x y op) (and-right (is_flat_op op) (are_flat_trees es) t))
        (own-flat k op es (and-left (is_flat_op op) (are_flat_trees es) t)))
    flat-stays (truth_ex b) k t = cc
    flat-stays (matrix_ex es d) k t = cc
    flat-stays (comp_ex e gs) k t = cc
    flat-stays (seen_ex r d ns es) k t = cc

    all-stay : (es : Exs) (k : Names Origin) → are_flat_trees es ≡ true → guarded_all natural x y k es ≡ es
    all-stay no_exs k t = refl
    all-stay (more_exs e es) k t = ap (λ z. more_exs z (guarded_all natural x y k es)) (flat-stays e k (and-left (is_flat_tree e) (are_flat_trees es) t)) ∙ ap (more_exs e) (all-stay es k (and-right (is_flat_tree e) (are_flat_trees es) t))

    flat-asks : (e : Ex) (k : Names Origin) (w : Bool) → is_flat_tree e ≡ true → conditions natural x y k w e ≡ []
    flat-asks (number_ex n) k w t = refl
    flat-asks (name_ex a) k w t = refl
    flat-asks (cell_ex true n no_exs) k w t = refl
    flat-asks (cell_ex false n no_exs) k w t = refl
    flat-asks (cell_ex b n (more_exs e es)) k w t = cc
    flat-asks (node_ex b op es) k w t = choose-none (b || connects op) _
        (none-asked _ _ (all-ask es k (passes natural x y w op) (and-right (is_flat_op op) (are_flat_trees es) t))
        (choose-none (w && is_plain op) (own k x y op (guarded_all natural x y k es)) (own-flat k op (guarded_all natural x y k es) (and-left (is_flat_op op) (are_flat_trees es) t))))
    flat-asks (truth_ex b) k w t = cc
    flat-asks (matrix_ex es d) k w t = cc
    flat-asks (comp_ex e gs) k w t = cc
    flat-asks (seen_ex r d ns es) k w t = cc

    all-ask : (es : Exs) (k : Names Origin) (w : Bool) → are_flat_trees es ≡ true → conditions_all natural x y k w es ≡ []
    all-ask no_exs k w t = refl
    all-ask (more_exs e es) k w t = none-asked _ _ (flat-asks e k w (and-left (is_flat_tree e) (are_flat_trees es) t)) (all-ask es k w (and-right (is_flat_tree e) (are_flat_trees es) t))

  -- A flat constraint stays as it is, over cells.
  pub flat-guarded : (ps : List Plan) (e : Ex) → is_flat ps e ≡ true → guarded natural x y [] (with_cells ps e) ≡ with_cells ps e
  flat-guarded ps e t = flat-stays (with_cells ps e) [] (cells-flat ps e t)

  marked : (b c : Bool) (cs : List Ex) (op : Op) (es : Exs) → is_boolean (if b && not c then chained cs (node_ex true op es) else node_ex b op es) ≡ b
  marked true true cs op es = refl
  marked true false [] op es = refl
  marked true false (c ∷ cs) op es = refl
  marked false c cs op es = refl

  -- A Boolean is marked as one still, and nothing else is.
  pub marks-stay : (e : Ex) (k : Names Origin) → is_boolean (guarded natural x y k e) ≡ is_boolean e
  marks-stay (number_ex n) k = refl
  marks-stay (truth_ex b) k = refl
  marks-stay (name_ex a) k = refl
  marks-stay (node_ex b op es) k = marked b (connects op) _ op (guarded_all natural x y k es)
  marks-stay (matrix_ex es d) k = refl
  marks-stay (comp_ex e gs) k = refl
  marks-stay (cell_ex true n es) k = go (conditions_all natural x y k false es)
    where
      go : (cs : List Ex) → is_boolean (chained cs (cell_ex true n (guarded_all natural x y k es))) ≡ true
      go [] = refl
      go (c ∷ cs) = refl
  marks-stay (cell_ex false n es) k = refl
  marks-stay (seen_ex r d ns es) k = refl
