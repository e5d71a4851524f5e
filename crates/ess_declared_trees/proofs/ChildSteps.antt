-- The tables of children, one by one.
use Rattle.std.proofs.Common.{◌≡◌, refl, sym, ap, ◌∙◌, ℕ, ◌+◌, ◌<◌, ◌≤◌, Bool, List, [], ◌∷◌, ◌++◌, append_assoc, map, drop, length, get_or}
use Rattle.std.proofs.lemmas.List.{at_drop_more, at_drop_all, append-nil}
use Rattle.ess_semantics.specs.Choice.{reprs_of}
use Rattle.ess_semantics.specs.Lists.{zip}
use Rattle.ess_semantics.specs.Values.{Text}
use Rattle.ess_semantics.specs.Trees.{Reprs, no_reprs, more_reprs, Dom}
use Rattle.ess_semantics.specs.DeclaredTables.{TableDecl}
use Rattle.ess_core.specs.declared.representations.Repr.{Repr}
use Rattle.ess_core.specs.TreeViews.{pure_repr}
use Rattle.ess_core_nodes.specs.declared.nodes.NodeDom.{NodeDom}
use Rattle.ess_core_nodes.specs.NodeViews.{pure_dom}
use Rattle.ess_repr_declare_laws.specs.DeclaredTrees.{below_layer, trees_below, trees_of_children}
use Rattle.ess_declared_trees.specs.Endings.{ending, trees_from}

-- The tables of these children.
abbrev pub left_trees : Bool → List Repr → List Text → List NodeDom → List Dom → List TableDecl
left_trees out rs ns ds as' = trees_from out (reprs_of (map pure_repr rs)) ns (map pure_dom ds) as'

module _ (out : Bool) (rs : List Repr) (ns : List Text) (ds : List NodeDom) (as' : List Dom) (i : ℕ) where
  next-trees : (r : Repr) (n : Text) (d : NodeDom) → i < length rs → i < length ns → i < length ds →
      r ≡ get_or rs i r → n ≡ get_or ns i n → d ≡ get_or ds i d →
      left_trees out (drop i rs) (drop i ns) (drop i ds) as'
      ≡ map (below_layer n as') (trees_below out (pure_repr r) (pure_dom d))
      ++ left_trees out (drop (i + 1) rs) (drop (i + 1) ns) (drop (i + 1) ds) as'
  next-trees r n d h k l p q s =
      at_drop_more (λ x. left_trees out x (drop i ns) (drop i ds) as') rs i r h
      ∙ ap (λ x. left_trees out (x ∷ drop (i + 1) rs) (drop i ns) (drop i ds) as') (sym p)
      ∙ at_drop_more (λ x. left_trees out (r ∷ drop (i + 1) rs) x (drop i ds) as') ns i n k
      ∙ ap (λ x. left_trees out (r ∷ drop (i + 1) rs) (x ∷ drop (i + 1) ns) (drop i ds) as') (sym q)
      ∙ at_drop_more (λ x. left_trees out (r ∷ drop (i + 1) rs) (n ∷ drop (i + 1) ns) x as') ds i d l
      ∙ ap (λ x. left_trees out (r ∷ drop (i + 1) rs) (n ∷ drop (i + 1) ns) (x ∷ drop (i + 1) ds) as') (sym s)

  -- From one child to the next one.
  pub trees_more : (r : Repr) (n : Text) (d : NodeDom) (ts own below new whole : List TableDecl) →
      i < length rs → i < length ns → i < length ds → r ≡ get_or rs i r → n ≡ get_or ns i n → d ≡ get_or ds i d →
      own ≡ trees_below out (pure_repr r) (pure_dom d) → below ≡ map (below_layer n as') own → new ≡ ts ++ below →
      ts ++ left_trees out (drop i rs) (drop i ns) (drop i ds) as' ≡ whole →
      new ++ left_trees out (drop (i + 1) rs) (drop (i + 1) ns) (drop (i + 1) ds) as' ≡ whole
  trees_more r n d ts own below new whole h k l p q s o b w c =
      let rest : List TableDecl = left_trees out (drop (i + 1) rs) (drop (i + 1) ns) (drop (i + 1) ds) as' in
      ap (λ x. x ++ rest) w ∙ append_assoc ts below rest
      ∙ ap (λ x. ts ++ (x ++ rest)) (b ∙ ap (map (below_layer n as')) o)
      ∙ ap (λ x. ts ++ x) (sym (next-trees r n d h k l p q s)) ∙ c

  -- No child is left.
  pub no_child_left : (ts whole : List TableDecl) → length rs ≤ i →
      ts ++ left_trees out (drop i rs) (drop i ns) (drop i ds) as' ≡ whole → ts ≡ whole
  no_child_left ts whole h c =
      sym (append-nil ts) ∙ ap (λ x. ts ++ x) (sym (at_drop_all (λ x. left_trees out x (drop i ns) (drop i ds) as') rs i h)) ∙ c

  no-name : (ss : Reprs) → trees_of_children out ss (zip (map ending []) (map pure_dom (drop i ds))) as' ≡ []
  no-name no_reprs = refl
  no-name (more_reprs s ss) = refl

  -- No name is left.
  pub no_name_left : (ts whole : List TableDecl) → length ns ≤ i →
      ts ++ left_trees out (drop i rs) (drop i ns) (drop i ds) as' ≡ whole → ts ≡ whole
  no_name_left ts whole h c =
      sym (append-nil ts)
      ∙ ap (λ x. ts ++ x) (sym (at_drop_all (λ x. left_trees out (drop i rs) x (drop i ds) as') ns i h
      ∙ no-name (reprs_of (map pure_repr (drop i rs))))) ∙ c

  no-domain : (ss : Reprs) (ms : List Text) → trees_of_children out ss (zip (map ending ms) []) as' ≡ []
  no-domain no_reprs ms = refl
  no-domain (more_reprs s ss) [] = refl
  no-domain (more_reprs s ss) (m ∷ ms) = refl

  -- No domain is left.
  pub no_domain_left : (ts whole : List TableDecl) → length ds ≤ i →
      ts ++ left_trees out (drop i rs) (drop i ns) (drop i ds) as' ≡ whole → ts ≡ whole
  no_domain_left ts whole h c =
      sym (append-nil ts)
      ∙ ap (λ x. ts ++ x) (sym (at_drop_all (λ x. left_trees out (drop i rs) (drop i ns) x as') ds i h
      ∙ no-domain (reprs_of (map pure_repr (drop i rs))) (drop i ns))) ∙ c
