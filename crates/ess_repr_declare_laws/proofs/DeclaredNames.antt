-- The declared tables have the right names, with as many axes.
use Rattle.std.proofs.Common.{◌≡◌, refl, sym, ap, ◌∙◌, subst, ◌+◌, Bool, true, false, ◌||◌, List, [], ◌∷◌, ◌++◌, map, length, length-append, Option, Some, None}
use Rattle.std.proofs.lemmas.List.{map-append}
use Rattle.ess_semantics.specs.declared.words.ReprKind.{ReprKind}
use Rattle.ess_semantics.specs.Values.{Text}
use Rattle.ess_semantics.specs.Lists.{zip, list_or_none}
use Rattle.ess_semantics.specs.Kinds.{child_forms, fits, all_fit}
use Rattle.ess_semantics.specs.Trees.{Repr, Reprs, repr, no_reprs, more_reprs, Dom, Doms, bool_dom, int_dom, name_dom, tuple_dom, record_dom, matrix_dom, set_dom, mset_dom, function_dom, relation_dom, partition_dom, no_doms, more_doms}
use Rattle.ess_semantics.specs.TableNames.{Named, own_names, child_names, below_child, table_names, names_of_children, free_name, named_tables}
use Rattle.ess_semantics.specs.DeclaredTables.{TableDecl, decl_name}
use Rattle.ess_semantics.specs.Children.{without_sizes}
use Rattle.ess_semantics.proofs.Tests.{and-left, and-right}
use Rattle.ess_repr_laws.specs.WellFormed.{Well, AllWell}
use Rattle.ess_repr_declare_laws.specs.ChildDomains.{child_doms}
use Rattle.ess_repr_declare_laws.specs.DeclaredTrees.{layer_axes, own_trees, frees_children, below_layer, trees_below, trees_of_children, named_trees, declared_trees}
use Rattle.ess_repr_declare_laws.specs.Laws.{has_numbers, Sound, AllSound}
use Rattle.ess_repr_declare_laws.proofs.ChildLaw.{children-are}
use Rattle.ess_repr_declare_laws.proofs.OwnNames.{own-named}
use Rattle.ess_repr_declare_laws.proofs.ChildAxes.{Axed, children-axed}
use Rattle.ess_repr_declare_laws.proofs.AlikeChildren.{AllAlike, all-alike}
use Rattle.ess_repr_declare_laws.proofs.SoundChildren.{EachSound, children-sound}

-- A sound domain is well formed, and has its numbers.
mutual
  sound-well : (d : Dom) → Sound d → Well d
  sound-well bool_dom s = tt
  sound-well (int_dom rs es) s = tt
  sound-well (name_dom a) s = tt
  sound-well (tuple_dom ts) s = all-well ts s
  sound-well (record_dom fs ts) s = all-well ts s
  sound-well (matrix_dom is d) s = (s.0, s.1, sound-well d s.2)
  sound-well (set_dom ms es d) s = (s.0, sound-well d s.2)
  sound-well (mset_dom ms es d) s = (s.0, sound-well d s.2)
  sound-well (function_dom ms es d c) s = (s.0, s.2, sound-well d s.3, sound-well c s.4)
  sound-well (relation_dom ms es ts) s = (s.0, all-well ts s.2)
  sound-well (partition_dom ms es d) s = (s.0, sound-well d s.2)

  all-well : (ts : Doms) → AllSound ts → AllWell ts
  all-well no_doms s = tt
  all-well (more_doms d ts) s = (sound-well d s.0, all-well ts s.1)

sound-numbers : (d : Dom) → Sound d → has_numbers d ≡ true
sound-numbers bool_dom s = refl
sound-numbers (int_dom rs es) s = refl
sound-numbers (name_dom a) s = refl
sound-numbers (tuple_dom ts) s = refl
sound-numbers (record_dom fs ts) s = refl
sound-numbers (matrix_dom is d) s = refl
sound-numbers (set_dom ms es d) s = s.1
sound-numbers (mset_dom ms es d) s = s.1
sound-numbers (function_dom ms es d c) s = s.1
sound-numbers (relation_dom ms es ts) s = s.1
sound-numbers (partition_dom ms es d) s = s.1

-- ---- all layers

below-named : (n : Text) (as' : List Dom) (ts : List TableDecl) →
    map decl_name (map (below_layer n as') ts) ≡ map (λ (m : Named). (n ++ m.0, length as' + m.1)) (map decl_name ts)
below-named n as' [] = refl
below-named n as' (t ∷ ts) =
    ap (λ k. (n ++ t.name, k) ∷ map decl_name (map (below_layer n as') ts)) (length-append as' t.axes)
    ∙ ap (λ l. (n ++ t.name, length as' + length t.axes) ∷ l) (below-named n as' ts)

fit-forms : (k : ReprKind) (rs : Reprs) (d : Dom) → fits (repr k rs) d ≡ true → (ds : List Dom) × (child_forms k d ≡ Some ds) × (all_fit rs ds ≡ true)
fit-forms k rs d f = go (child_forms k d) refl f
  where
    go : (o : Option (List Dom)) → child_forms k d ≡ o → elim o [ None ↦ false | Some ds ↦ all_fit rs ds ] ≡ true → (ds : List Dom) × (child_forms k d ≡ Some ds) × (all_fit rs ds ≡ true)
    go None e h = cc
    go (Some ds) e h = (ds, e, h)

same-list : (ds es : List Dom) → Some ds ≡ Some es → ds ≡ es
same-list ds es h = cc

mutual
  names-below : (out : Bool) (r : Repr) (d : Dom) → Sound d → fits r d ≡ true → map decl_name (trees_below out r d) ≡ table_names r d
  names-below out (repr k rs) d s f =
      let p = fit-forms k rs d f in
      let kids : List TableDecl = trees_of_children (out || frees_children k) rs (zip (child_names k d) (child_doms k d)) (layer_axes k d) in
      let a = children-are k d p.0 (sound-well d s) (sound-numbers d s) p.1 in
      let e : p.0 ≡ map (without_sizes k) (child_doms k d) = same-list p.0 (map (without_sizes k) (child_doms k d)) (sym p.1 ∙ a.forms) in
      map-append decl_name (own_trees out k d) kids
      ∙ ap (λ l. l ++ map decl_name kids) (own-named out k d p.0 p.1)
      ∙ ap (λ l. own_names k d ++ l)
      (names-children (out || frees_children k) rs (child_names k d) (child_doms k d) p.0 (layer_axes k d) (children-axed k d p.0 p.1)
      (subst (AllAlike (child_doms k d)) (sym e) (all-alike k (child_doms k d))) (children-sound k d p.0 s p.1) p.2)
      ∙ ap (λ o. own_names k d ++ names_of_children rs (zip (child_names k d) (list_or_none o))) (sym p.1)

  names-children : (out : Bool) (rs : Reprs) (cs : List Named) (ds fs : List Dom) (as' : List Dom) → Axed (length as') cs → AllAlike ds fs → EachSound ds →
      all_fit rs fs ≡ true → map decl_name (trees_of_children out rs (zip cs ds) as') ≡ names_of_children rs (zip cs fs)
  names-children out no_reprs cs ds fs as' x a g h = refl
  names-children out (more_reprs r rs) [] ds fs as' x a g h = refl
  names-children out (more_reprs r rs) (c ∷ cs) [] [] as' x a g h = refl
  names-children out (more_reprs r rs) (c ∷ cs) [] (f ∷ fs) as' x a g h = absurd a
  names-children out (more_reprs r rs) (c ∷ cs) (d ∷ ds) [] as' x a g h = absurd a
  names-children out (more_reprs r rs) (c ∷ cs) (d ∷ ds) (f ∷ fs) as' x a g h =
      map-append decl_name (map (below_layer c.0 as') (trees_below out r d)) (trees_of_children out rs (zip cs ds) as')
      ∙ ap (λ l. l ++ map decl_name (trees_of_children out rs (zip cs ds) as'))
      (below-named c.0 as' (trees_below out r d)
      ∙ ap (λ l. map (λ (m : Named). (c.0 ++ m.0, length as' + m.1)) l)
      (names-below out r d g.0 (a.0.1 r ∙ and-left (fits r f) (all_fit rs fs) h) ∙ a.0.0 r)
      ∙ ap (λ n. map (λ (m : Named). (c.0 ++ m.0, n + m.1)) (table_names r f)) (sym x.0))
      ∙ ap (λ l. below_child c (table_names r f) ++ l) (names-children out rs cs ds fs as' x.1 a.1 g.1 (and-right (fits r f) (all_fit rs fs) h))

named-are : (x : Text) (ts : List TableDecl) (taken : List Text) → map decl_name (named_trees x ts taken) ≡ named_tables x (map decl_name ts) taken
named-are x [] taken = refl
named-are x (t ∷ ts) taken =
    ap (λ l. (free_name taken (x ++ t.name), length t.axes) ∷ l) (named-are x ts (free_name taken (x ++ t.name) ∷ taken))

-- The declared tables have the names of the representation.
pub names-are : (r : Repr) (d : Dom) (x : Text) (taken : List Text) → Sound d → fits r d ≡ true →
    map decl_name (declared_trees r d x taken) ≡ named_tables x (table_names r d) taken
names-are r d x taken s f = named-are x (trees_below false r d) taken ∙ ap (λ ns. named_tables x ns taken) (names-below false r d s f)
