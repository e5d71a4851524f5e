-- The representations below a kind fit the domains of its children, as trees with their numbers; the numbers in these are numbers.
use Rattle.std.proofs.Common.{◌≡◌, refl, sym, ap, ◌∙◌, subst, Bool, true, false, ◌&&◌, ◌||◌, if◌then◌else◌, List, [], ◌∷◌, map, Option, Some, None}
use Rattle.ess_semantics.specs.declared.words.ReprKind.{ReprKind}
use Rattle.ess_semantics.specs.declared.words.Key.{Key}
use Rattle.ess_semantics.specs.Children.{without_sizes}
use Rattle.ess_semantics.specs.Kinds.{has_key, child_forms, fits, all_fit}
use Rattle.ess_semantics.specs.Meaning.{Env}
use Rattle.ess_semantics.specs.Trees.{Mark, Reprs, repr, no_reprs, more_reprs, Ex, Exs, no_exs, Dom, Doms, bool_dom, int_dom, name_dom, tuple_dom, record_dom, matrix_dom, set_dom, mset_dom, function_dom, relation_dom, partition_dom, no_doms, more_doms}
use Rattle.ess_repr_laws.specs.StructureMeaning.{AllNumbers}
use Rattle.ess_repr_laws.specs.StructureParts.{tuple_set_dom}
use Rattle.ess_repr_laws.specs.ViewParts.{pair_relation_dom, part_set_dom}
use Rattle.ess_repr_laws.specs.WellFormed.{Well, AllWell}
use Rattle.ess_repr_declare_laws.specs.SizeTerms.{number_of, bound_ex, size_terms}
use Rattle.ess_repr_declare_laws.specs.ChildDomains.{child_doms}
use Rattle.ess_repr_declare_laws.specs.Laws.{has_numbers, Sound, AllSound}
use Rattle.ess_repr_declare_laws.proofs.AlikeChildren.{AllAlike, all-alike}
use Rattle.ess_repr_declare_laws.proofs.ChildLaw.{children-are}
use Rattle.ess_repr_declare_laws.proofs.ChildTrees.{in_front, three, sets-are, pairs_size, pairs_greatest, pairs-are, part-is, parts_greatest, parts-are}
use Rattle.ess_repr_declare_laws.proofs.SoundChildren.{EachSound, children-sound}
use Rattle.ess_repr_structure_laws.specs.DomainNumbers.{NumbersIn, AllNumbersIn}
use Rattle.ess_repr_structure_laws.proofs.WholeNumbers.{WholeOption, number-of-whole, bound-whole}

-- ---- sound domains

mutual
  -- A sound domain is well formed.
  pub sound-well : (d : Dom) → Sound d → Well d
  sound-well bool_dom s = tt
  sound-well (int_dom rs es) s = tt
  sound-well (name_dom a) s = tt
  sound-well (tuple_dom ds) s = all-sound-well ds s
  sound-well (record_dom fs ds) s = all-sound-well ds s
  sound-well (matrix_dom is d) s = (s.0, s.1, sound-well d s.2)
  sound-well (set_dom ms es d) s = (s.0, sound-well d s.2)
  sound-well (mset_dom ms es d) s = (s.0, sound-well d s.2)
  sound-well (function_dom ms es d c) s = (s.0, s.2, sound-well d s.3, sound-well c s.4)
  sound-well (relation_dom ms es ds) s = (s.0, all-sound-well ds s.2)
  sound-well (partition_dom ms es d) s = (s.0, sound-well d s.2)

  all-sound-well : (ds : Doms) → AllSound ds → AllWell ds
  all-sound-well no_doms s = tt
  all-sound-well (more_doms d ds) s = (sound-well d s.0, all-sound-well ds s.1)

sound-numbers : (d : Dom) → Sound d → has_numbers d ≡ true
sound-numbers bool_dom s = refl
sound-numbers (int_dom rs es) s = refl
sound-numbers (name_dom a) s = refl
sound-numbers (tuple_dom ds) s = refl
sound-numbers (record_dom fs ds) s = refl
sound-numbers (matrix_dom is d) s = refl
sound-numbers (set_dom ms es d) s = s.1
sound-numbers (mset_dom ms es d) s = s.1
sound-numbers (function_dom ms es d c) s = s.1
sound-numbers (relation_dom ms es ds) s = s.1
sound-numbers (partition_dom ms es d) s = s.1

-- ---- representations of children

alike-fit : (rs : Reprs) (ds fs : List Dom) → AllAlike ds fs → all_fit rs ds ≡ all_fit rs fs
alike-fit no_reprs [] [] a = refl
alike-fit no_reprs [] (f ∷ fs) a = absurd a
alike-fit no_reprs (d ∷ ds) [] a = absurd a
alike-fit no_reprs (d ∷ ds) (f ∷ fs) a = refl
alike-fit (more_reprs r rs) [] [] a = refl
alike-fit (more_reprs r rs) [] (f ∷ fs) a = absurd a
alike-fit (more_reprs r rs) (d ∷ ds) [] a = absurd a
alike-fit (more_reprs r rs) (d ∷ ds) (f ∷ fs) a = ap (λ b. b && all_fit rs ds) (a.0.1 r) ∙ ap (λ b. fits r f && b) (alike-fit rs ds fs a.1)

-- What is known of the children.
pub record ChildrenFit (k : ReprKind) (rs : Reprs) (d : Dom) : Type 0 where
  pub fit : all_fit rs (child_doms k d) ≡ true
  pub sound : EachSound (child_doms k d)

-- So it is, of a representation that fits.
pub children-fit : (k : ReprKind) (rs : Reprs) (d : Dom) → Sound d → fits (repr k rs) d ≡ true → ChildrenFit k rs d
children-fit k rs d s f = go (child_forms k d) refl f
  where
    same-list : (ds es : List Dom) → Some ds ≡ Some es → ds ≡ es
    same-list ds es h = cc

    go : (o : Option (List Dom)) → child_forms k d ≡ o → elim o [ None ↦ false | Some ds ↦ all_fit rs ds ] ≡ true → ChildrenFit k rs d
    go None e h = cc
    go (Some ds) e h =
        let a = children-are k d ds (sound-well d s) (sound-numbers d s) e in
        let q : ds ≡ map (without_sizes k) (child_doms k d) = same-list ds (map (without_sizes k) (child_doms k d)) (sym e ∙ a.forms) in
        record {
          fit = alike-fit rs (child_doms k d) (map (without_sizes k) (child_doms k d)) (all-alike k (child_doms k d)) ∙ ap (all_fit rs)
              (sym q) ∙ h;
          sound = children-sound k d ds s e;
        }

-- ---- numbers in children

module _ (env : Env) where
  front-numbers : (k : Key) (o : Option Ex) (p : List Mark × Exs) → WholeOption env o → AllNumbers p.1 env → AllNumbers (in_front k o p).1
      env
  front-numbers k None p w h = h
  front-numbers k (Some e) p w h = (w, h)

  three-numbers : (s a b : Option Ex) → WholeOption env s → WholeOption env a → WholeOption env b → AllNumbers (three s a b).1 env
  three-numbers s a b u v w =
      front-numbers Key.Size s (in_front Key.MinSize a (in_front Key.MaxSize b ([], no_exs))) u
      (front-numbers Key.MinSize a (in_front Key.MaxSize b ([], no_exs)) v (front-numbers Key.MaxSize b ([], no_exs) w tt))

  if-whole : (b : Bool) (o p : Option Ex) → WholeOption env o → WholeOption env p → WholeOption env (if b then o else p)
  if-whole true o p u v = u
  if-whole false o p u v = v

  -- The set of a relation's tuples.
  pub set-numbers : (ms : List Mark) (es : Exs) (ds : Doms) → AllNumbers es env → AllNumbersIn ds env → NumbersIn (tuple_set_dom ms es ds)
      env
  set-numbers ms es ds h n =
      subst (λ x. NumbersIn x env) (sym (sets-are ms es ds)) (
        three-numbers (number_of Key.Size ms es) (number_of Key.MinSize ms es) (number_of Key.MaxSize ms es)
            (number-of-whole env Key.Size ms es h)
            (number-of-whole env Key.MinSize ms es h) (number-of-whole env Key.MaxSize ms es h),
        n,
      )

  -- The relation of a function's pairs.
  pub pair-numbers : (ms : List Mark) (es : Exs) (d c : Dom) → AllNumbers es env → NumbersIn d env → NumbersIn c env →
      NumbersIn (pair_relation_dom size_terms ms es d c) env
  pair-numbers ms es d c h n m =
      subst (λ x. NumbersIn x env) (sym (pairs-are ms es d c)) (
        three-numbers (pairs_size ms es d) (number_of Key.MinSize ms es) (pairs_greatest ms es d)
            (if-whole (has_key Key.Total ms) (Some (bound_ex d)) (number_of Key.Size ms es) (bound-whole env d n)
            (number-of-whole env Key.Size ms es h))
            (number-of-whole env Key.MinSize ms es h)
            (if-whole (has_key Key.MaxSize ms || (has_key Key.Total ms || has_key Key.Size ms)) (number_of Key.MaxSize ms es)
            (Some (bound_ex d))
            (number-of-whole env Key.MaxSize ms es h) (bound-whole env d n)),
        (n, (m, tt)),
      )

  -- The set of a partition's parts.
  pub part-numbers : (ms : List Mark) (es : Exs) (d : Dom) → AllNumbers es env → NumbersIn d env → NumbersIn
      (part_set_dom size_terms ms es d) env
  part-numbers ms es d h n =
      subst (λ x. NumbersIn x env) (sym (parts-are ms es d)) (
        three-numbers (number_of Key.NumParts ms es) (number_of Key.MinNumParts ms es) (parts_greatest ms es d)
            (number-of-whole env Key.NumParts ms es h)
            (number-of-whole env Key.MinNumParts ms es h)
            (if-whole (has_key Key.MaxNumParts ms || has_key Key.NumParts ms) (number_of Key.MaxNumParts ms es) (Some (bound_ex d))
            (number-of-whole env Key.MaxNumParts ms es h) (bound-whole env d n)),
        subst (λ x. NumbersIn x env) (sym (part-is ms es d)) (
          three-numbers (number_of Key.PartSize ms es) (number_of Key.MinPartSize ms es) (number_of Key.MaxPartSize ms es)
              (number-of-whole env Key.PartSize ms es h) (number-of-whole env Key.MinPartSize ms es h)
              (number-of-whole env Key.MaxPartSize ms es h),
          n,
        ),
      )
