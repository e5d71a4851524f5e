-- Rules of comparisons, of membership, of sizes and of lists over containers keep marks.
use Rattle.std.proofs.Common.{◌≡◌, refl, sym, ap, ◌∙◌, subst, Bool, true, false, ◌||◌, if◌then◌else◌, [], ◌∷◌, pos, Option, Some, None}
use Rattle.ess_semantics.specs.declared.words.Op1.{Op1}
use Rattle.ess_semantics.specs.declared.words.Op2.{Op2}
use Rattle.ess_semantics.specs.declared.words.Fun.{Fun}
use Rattle.ess_semantics.specs.Lists.{and_then}
use Rattle.ess_semantics.specs.Values.{Text, a_function, a_tuple}
use Rattle.ess_semantics.specs.Names.{Names}
use Rattle.ess_semantics.specs.Trees.{to_component, word, index, set_literal, mset_literal, relation_literal, matrix_literal, name_pat, Ex, Exs, number_ex, truth_ex, name_ex, node_ex, comp_ex, ex1, ex2, fun1, no_exs, more_exs, no_gens, from}
use Rattle.ess_semantics.specs.Types.{Ty, compound2, is_bool, or_any}
use Rattle.ess_semantics.specs.OperatorTypes.{member_ty}
use Rattle.ess_semantics.specs.Typing.{type_of, source_ty}
use Rattle.ess_rules_laws.specs.InclusionRules.{every, frequency, both_sets, both_msets, both_functions, unequal, included_turned, included_strictly, included_often, equal_often, equal_pairs}
use Rattle.ess_rules_laws.specs.PartitionRules.{both_partitions, lie_together, equal_parts}
use Rattle.ess_rules_laws.specs.ComponentRules.{component_of}
use Rattle.ess_rules_laws.specs.ContainerListings.{of_function, range_as_set}
use Rattle.ess_rules_laws.specs.LiteralRules.{unequal_each, unequal_pairs, different_listed}
use Rattle.ess_rules_laws.specs.ListRules.{different_term}
use Rattle.ess_rules_laws.specs.MatrixRules.{is_matrix, equal_to_nothing}
use Rattle.ess_rules_laws.specs.MembershipRules.{equations, member_listed}
use Rattle.ess_rules_laws.specs.FunctionMembershipRules.{an_argument, a_result, a_source, member_of_function}
use Rattle.ess_rules_laws.specs.SizeRules.{is_counted, size_term, frequency_term, together_term}
use Rattle.ess_rules_laws.specs.ShortSizeRules.{is_function, is_partition, size_made, frequency_made, ones_where, frequency_listed}
use Rattle.ess_rules_laws.proofs.Agreement.{look-itself}
use Rattle.ess_refine_laws.specs.MarksStay.{MarkFits, HasMarks, HaveMarks}
use Rattle.ess_refine_types_laws.specs.MarksOfContainers.{IsNewTo}
use Rattle.ess_refine_types_laws.proofs.MarksBehind.{marks-behind}
use Rattle.ess_rules_types_laws.proofs.TypesOfComponents.{component-type}
use Rattle.ess_rules_marks_laws.proofs.Grows.{Grows, as_it_is, a_node, a_comp, EachGrows, none_grow, more_grow, no_gens_grow, from_grows, cond_grows, MarksGrow, grows-when}

-- A component or field whose type is known.
pub reached : (g : Names Ty) (t : Ty) (k : _) (a : Ex) → type_of (component_of t k a) g ≡ Some t → HasMarks a g →
    Grows g (component_of t k a)
reached g t k a q h =
    as_it_is (subst (λ o. MarkFits (is_bool (Some t)) (index (to_component k ∷ [])) o) (sym q) refl, (h, tt))

module _ (g : Names Ty) where
  -- ---- signs

  pub apart : (e : Ex) → MarksGrow g e (unequal e)
  apart (ex2 true Op2.Ne a b) = λ h. a_node refl (more_grow (a_node refl (more_grow (as_it_is h.1.0) (more_grow
      (as_it_is h.1.1.0) none_grow))) none_grow)
  apart _ = tt

  pub turns : (e : Ex) → MarksGrow g e (included_turned e)
  turns (ex2 true Op2.SupsetEq a b) = λ h. a_node refl (more_grow (as_it_is h.1.1.0) (more_grow (as_it_is h.1.0) none_grow))
  turns (ex2 true Op2.Supset a b) = λ h. a_node refl (more_grow (as_it_is h.1.1.0) (more_grow (as_it_is h.1.0) none_grow))
  turns _ = tt

  pub strict : (x : Text) (e : Ex) → MarksGrow g e (included_strictly g x e)
  strict x (ex2 true Op2.Subset a b) = grows-when g (both_sets (type_of a g) (type_of b g) || both_msets (type_of a g) (type_of b g))
      (ex2 true Op2.Subset a b) (ex2 true Op2.And (ex2 true Op2.SubsetEq a b) (ex1 true Op1.Not (ex2 true Op2.SubsetEq b a))) (λ c h.
      a_node refl (more_grow (a_node refl (more_grow (as_it_is h.1.0) (more_grow (as_it_is h.1.1.0) none_grow))) (more_grow (a_node refl
      (more_grow (a_node refl (more_grow (as_it_is h.1.1.0) (more_grow (as_it_is h.1.0) none_grow))) none_grow)) none_grow)))
  strict x _ = tt

  module _ (x : Text) where
    -- A marked tree behind the new name.
    pub later : (s e : Ex) → IsNewTo x e → HasMarks e g → Grows ((x, source_ty s g) ∷ g) e
    later s e n h = as_it_is (marks-behind x (source_ty s g) e g n h)

    -- The body at each member.
    every-grows : (s body : Ex) → Grows g s → Grows ((x, source_ty s g) ∷ g) body → Grows g (every x s body)
    every-grows s body k l = a_node refl (more_grow (a_comp (from_grows k no_gens_grow) l) none_grow)

    some-grows : (s body : Ex) → Grows g s → Grows ((x, source_ty s g) ∷ g) body →
        Grows g (fun1 true Fun.Or (comp_ex body (from (name_pat x) s no_gens)))
    some-grows s body k l = a_node refl (more_grow (a_comp (from_grows k no_gens_grow) l) none_grow)

    often-grows : (s a : Ex) → IsNewTo x a → HasMarks a g → Grows ((x, source_ty s g) ∷ g) (frequency a (name_ex x))
    often-grows s a n h = a_node refl (more_grow (later s a n h) (more_grow (as_it_is tt) none_grow))

    member-grows : (s b : Ex) → IsNewTo x b → HasMarks b g → Grows ((x, source_ty s g) ∷ g) (ex2 true Op2.Member (name_ex x) b)
    member-grows s b n h = a_node refl (more_grow (as_it_is tt) (more_grow (later s b n h) none_grow))

    pub often : (e : Ex) → IsNewTo x e → MarksGrow g e (included_often x e)
    often (ex2 true Op2.SubsetEq a b) n = λ h.
        every-grows a (ex2 true Op2.Le (frequency a (name_ex x)) (frequency b (name_ex x))) (as_it_is h.1.0)
        (a_node refl (more_grow (often-grows a a n.0 h.1.0) (more_grow (often-grows a b n.1.0 h.1.1.0) none_grow)))
    often _ n = tt

    pub same-often : (e : Ex) → IsNewTo x e → MarksGrow g e (equal_often g x e)
    same-often (ex2 true Op2.Eq a b) n = grows-when g (both_msets (type_of a g) (type_of b g)) (ex2 true Op2.Eq a b)
        (ex2 true Op2.And (every x (fun1 false Fun.ToSet a) (ex2 true Op2.Eq (frequency a (name_ex x)) (frequency b (name_ex x))))
        (every x b (ex2 true Op2.Member (name_ex x) a))) (λ c h.
        a_node refl (more_grow (every-grows (fun1 false Fun.ToSet a) (ex2 true Op2.Eq (frequency a (name_ex x)) (frequency b (name_ex x)))
        (a_node refl (more_grow (as_it_is h.1.0) none_grow))
        (a_node refl (more_grow (often-grows (fun1 false Fun.ToSet a) a n.0 h.1.0) (more_grow (often-grows
        (fun1 false Fun.ToSet a) b n.1.0 h.1.1.0) none_grow)))) (more_grow (every-grows b (ex2 true Op2.Member (name_ex x) a)
        (as_it_is h.1.1.0) (member-grows b a n.0 h.1.0)) none_grow)))
    same-often _ n = tt

    related-grows : (s f : Ex) → IsNewTo x f → HasMarks f g →
        Grows ((x, source_ty s g) ∷ g) (ex2 true Op2.Member (name_ex x) (fun1 false Fun.ToRelation f))
    related-grows s f n h = a_node refl (more_grow (as_it_is tt) (more_grow (a_node refl (more_grow (later s f n h) none_grow)) none_grow))

    pub same-pairs : (e : Ex) → IsNewTo x e → MarksGrow g e (equal_pairs g x e)
    same-pairs (ex2 true Op2.Eq a b) n = grows-when g (both_functions (type_of a g) (type_of b g)) (ex2 true Op2.Eq a b)
        (ex2 true Op2.And (every x a (ex2 true Op2.Member (name_ex x) (fun1 false Fun.ToRelation b)))
        (every x b (ex2 true Op2.Member (name_ex x) (fun1 false Fun.ToRelation a)))) (λ c h.
        a_node refl (more_grow (every-grows a (ex2 true Op2.Member (name_ex x) (fun1 false Fun.ToRelation b)) (as_it_is h.1.0)
        (related-grows a b n.1.0 h.1.1.0)) (more_grow (every-grows b (ex2 true Op2.Member (name_ex x) (fun1 false Fun.ToRelation a))
        (as_it_is h.1.1.0) (related-grows b a n.0 h.1.0)) none_grow)))
    same-pairs _ n = tt

    pub same-parts : (e : Ex) → IsNewTo x e → MarksGrow g e (equal_parts g x e)
    same-parts (ex2 true Op2.Eq a b) n = grows-when g (both_partitions (type_of a g) (type_of b g)) (ex2 true Op2.Eq a b)
        (ex2 true Op2.And (every x a (lie_together (name_ex x) b)) (every x b (lie_together (name_ex x) a))) (λ c h.
        a_node refl (more_grow (every-grows a (lie_together (name_ex x) b) (as_it_is h.1.0) (a_node refl (more_grow (as_it_is tt)
        (more_grow (later a b n.1.0 h.1.1.0) none_grow)))) (more_grow (every-grows b (lie_together (name_ex x) a) (as_it_is h.1.1.0)
        (a_node refl (more_grow (as_it_is tt) (more_grow (later b a n.0 h.1.0) none_grow)))) none_grow)))
    same-parts _ n = tt

    nothing-there : (e c : Ex) → (HasMarks e g → HasMarks c g) → (o : Bool) → MarksGrow g e
        (if o then Some (ex1 true Op1.Not (fun1 true Fun.Or (comp_ex (truth_ex true) (from (name_pat x) c no_gens)))) else None)
    nothing-there e c k o = grows-when g o e (ex1 true Op1.Not (fun1 true Fun.Or (comp_ex (truth_ex true) (from (name_pat x) c no_gens))))
        (λ z h. a_node refl (more_grow (some-grows c (truth_ex true) (as_it_is (k h)) (as_it_is tt)) none_grow))

    pub empty : (e : Ex) → MarksGrow g e (equal_to_nothing g x e)
    empty (ex2 true Op2.Eq a (node_ex false matrix_literal no_exs)) =
        nothing-there (ex2 true Op2.Eq a (node_ex false matrix_literal no_exs)) a (λ h. h.1.0) (is_matrix (type_of a g))
    empty (ex2 true Op2.Eq (node_ex false matrix_literal no_exs) a) =
        nothing-there (ex2 true Op2.Eq (node_ex false matrix_literal no_exs) a) a (λ h. h.1.1.0) (is_matrix (type_of a g))
    empty _ = tt

    -- ---- sizes

    ones-grow : (s : Ex) → HasMarks s g → Grows g (fun1 false Fun.Sum (comp_ex (number_ex (pos 1)) (from (name_pat x) s no_gens)))
    ones-grow s h = a_node refl (more_grow (a_comp (from_grows (as_it_is h) no_gens_grow) (as_it_is tt)) none_grow)

    pub sized : (e : Ex) → MarksGrow g e (size_term g x e)
    sized (ex1 false Op1.Bar s) = grows-when g (is_counted (type_of s g)) (ex1 false Op1.Bar s)
        (fun1 false Fun.Sum (comp_ex (number_ex (pos 1)) (from (name_pat x) s no_gens))) (λ c h. ones-grow s h.1.0)
    sized _ = tt

    bar-grows : (c : Bool) (f : Fun) (s : Ex) →
        MarksGrow g (ex1 false Op1.Bar (fun1 false f s)) (if c then Some (ex1 false Op1.Bar s) else None)
    bar-grows c f s = grows-when g c (ex1 false Op1.Bar (fun1 false f s)) (ex1 false Op1.Bar s)
        (λ z h. a_node refl (more_grow (as_it_is h.1.0.1.0) none_grow))

    pub size-made : (e : Ex) → MarksGrow g e (size_made g x e)
    size-made (ex1 false Op1.Bar (fun1 false Fun.Defined f)) = bar-grows (is_function (type_of f g)) Fun.Defined f
    size-made (ex1 false Op1.Bar (fun1 false Fun.ToRelation f)) = bar-grows (is_function (type_of f g)) Fun.ToRelation f
    size-made (ex1 false Op1.Bar (fun1 false Fun.ToMSet s)) = bar-grows (is_counted (type_of s g)) Fun.ToMSet s
    size-made (ex1 false Op1.Bar (fun1 false Fun.ToSet s)) = bar-grows (both_sets (type_of s g) (type_of s g)) Fun.ToSet s
    size-made (ex1 false Op1.Bar (fun1 false Fun.Parts p)) = grows-when g (is_partition (type_of p g)) (ex1 false Op1.Bar
        (fun1 false Fun.Parts p))
        (fun1 false Fun.Sum (comp_ex (number_ex (pos 1)) (from (name_pat x) p no_gens))) (λ c h. ones-grow p h.1.0.1.0)
    size-made _ = tt

    pub frequency-made : (e : Ex) → MarksGrow g e (frequency_made g x e)
    frequency-made (node_ex false (word Fun.Freq) (more_exs (fun1 false Fun.ToMSet s) (more_exs a no_exs))) =
        grows-when g (both_sets (type_of s g) (type_of s g))
        (node_ex false (word Fun.Freq) (more_exs (fun1 false Fun.ToMSet s) (more_exs a no_exs))) (fun1 false Fun.ToInt
        (ex2 true Op2.Member a s))
        (λ c h. a_node refl (more_grow (a_node refl (more_grow (as_it_is h.1.1.0) (more_grow (as_it_is h.1.0.1.0) none_grow))) none_grow))
    frequency-made _ = tt

    pub frequencies : (e : Ex) → IsNewTo x e → MarksGrow g e (frequency_term x e)
    frequencies (node_ex false (word Fun.Freq) (more_exs m (more_exs a no_exs))) n = λ h.
        a_node refl (more_grow (a_comp (from_grows (as_it_is h.1.0)
        (cond_grows (a_node refl (more_grow (as_it_is tt) (more_grow (later m a n.1.0 h.1.1.0) none_grow))) no_gens_grow))
        (as_it_is tt)) none_grow)
    frequencies _ n = tt

    pub one-part : (e : Ex) → IsNewTo x e → MarksGrow g e (together_term x e)
    one-part (node_ex true (word Fun.Together) (more_exs s (more_exs p no_exs))) n = λ h.
        some-grows (fun1 false Fun.Parts p) (ex2 true Op2.SubsetEq s (name_ex x)) (a_node refl (more_grow (as_it_is h.1.1.0) none_grow))
        (a_node refl (more_grow (later (fun1 false Fun.Parts p) s n.0 h.1.0) (more_grow (as_it_is tt) none_grow)))
    one-part _ n = tt

    pub different : (e : Ex) → IsNewTo x e → MarksGrow g e (different_term x e)
    different (fun1 true Fun.AllDiff l) n = λ h.
        every-grows l (ex2 true Op2.Eq (frequency (fun1 false Fun.ToMSet l) (name_ex x)) (number_ex (pos 1))) (as_it_is h.1.0)
        (a_node refl (more_grow (a_node refl (more_grow (a_node refl (more_grow (later l l n.0 h.1.0) none_grow)) (more_grow
        (as_it_is tt) none_grow))) (more_grow (as_it_is tt) none_grow)))
    different _ n = tt

    -- ---- functions

    -- The component of a pair of a function.
    component-grows : (f : Ex) (t u v : Ty) (k : _) → type_of f g ≡ Some (compound2 a_function t u) →
        ((h : Names Ty) → type_of (name_ex x) h ≡ Some (compound2 a_tuple t u) → type_of (component_of v k (name_ex x)) h ≡ Some v) →
        Grows ((x, source_ty f g) ∷ g) (component_of v k (name_ex x))
    component-grows f t u v k p c =
        reached ((x, source_ty f g) ∷ g) v k (name_ex x)
        (c ((x, source_ty f g) ∷ g) (look-itself x (source_ty f g) g ∙ ap (λ o. Some (or_any (and_then o member_ty))) p)) tt

    pub first-grows : (f : Ex) (t u : Ty) → type_of f g ≡ Some (compound2 a_function t u) →
        Grows ((x, source_ty f g) ∷ g) (component_of t 1 (name_ex x))
    first-grows f t u p = component-grows f t u t 1 p (λ h q. component-type h t 1 (name_ex x) _ q refl)

    pub second-grows : (f : Ex) (t u : Ty) → type_of f g ≡ Some (compound2 a_function t u) →
        Grows ((x, source_ty f g) ∷ g) (component_of u 2 (name_ex x))
    second-grows f t u p = component-grows f t u u 2 p (λ h q. component-type h u 2 (name_ex x) _ q refl)

    argument : (a f : Ex) (o : Option Ty) → type_of f g ≡ o → IsNewTo x a →
        MarksGrow g (ex2 true Op2.Member a (fun1 false Fun.Defined f)) (an_argument o x a f)
    argument a f (Some (compound2 a_function t u)) p n = λ h.
        some-grows f (ex2 true Op2.Eq (component_of t 1 (name_ex x)) a) (as_it_is h.1.1.0.1.0)
        (a_node refl (more_grow (first-grows f t u p) (more_grow (later f a n h.1.0) none_grow)))
    argument a f _ p n = tt

    result : (a f : Ex) (o : Option Ty) → type_of f g ≡ o → IsNewTo x a →
        MarksGrow g (ex2 true Op2.Member a (fun1 false Fun.Range f)) (a_result o x a f)
    result a f (Some (compound2 a_function t u)) p n = λ h.
        some-grows f (ex2 true Op2.Eq (component_of u 2 (name_ex x)) a) (as_it_is h.1.1.0.1.0)
        (a_node refl (more_grow (second-grows f t u p) (more_grow (later f a n h.1.0) none_grow)))
    result a f _ p n = tt

    source : (a f b : Ex) (o : Option Ty) →
        MarksGrow g (ex2 true Op2.Member a (node_ex false (word Fun.PreImage) (more_exs f (more_exs b no_exs)))) (a_source o a f b)
    source a f b (Some (compound2 a_function t u)) = λ h.
        a_node refl (more_grow (a_node refl (more_grow (as_it_is h.1.0) (more_grow (as_it_is h.1.1.0.1.1.0) none_grow))) (more_grow
        (a_node refl (more_grow (as_it_is h.1.1.0.1.0) none_grow)) none_grow))
    source a f b _ = tt

    pub of-function : (e : Ex) → IsNewTo x e → MarksGrow g e (member_of_function g x e)
    of-function (ex2 true Op2.Member a (fun1 false Fun.Defined f)) n = argument a f (type_of f g) refl n.0
    of-function (ex2 true Op2.Member a (fun1 false Fun.Range f)) n = result a f (type_of f g) refl n.0
    of-function (ex2 true Op2.Member a (node_ex false (word Fun.PreImage) (more_exs f (more_exs b no_exs)))) n = source a f b (type_of f g)
    of-function _ n = tt

    pub results : (e : Ex) → MarksGrow g e (range_as_set g x e)
    results (fun1 false Fun.Range f) = go (type_of f g) refl
      where
        go : (o : Option Ty) → type_of f g ≡ o → MarksGrow g (fun1 false Fun.Range f) (of_function o
            (λ t u. fun1 false Fun.ToSet (comp_ex (component_of u 2 (name_ex x)) (from (name_pat x) f no_gens))))
        go (Some (compound2 a_function t u)) p = λ h.
            a_node refl (more_grow (a_comp (from_grows (as_it_is h.1.0) no_gens_grow) (second-grows f t u p)) none_grow)
        go _ p = tt
    results _ = tt

  -- ---- items of literals

  equations-grow : (x : Ex) (es : Exs) → HasMarks x g → HaveMarks es g → EachGrows g (equations x es)
  equations-grow x no_exs h k = none_grow
  equations-grow x (more_exs a es) h k =
      more_grow (a_node refl (more_grow (as_it_is h) (more_grow (as_it_is k.0) none_grow))) (equations-grow x es h k.1)

  pub listed : (e : Ex) → MarksGrow g e (member_listed e)
  listed (ex2 true Op2.Member x (node_ex false set_literal es)) = λ h.
      a_node refl (more_grow (a_node refl (equations-grow x es h.1.0 h.1.1.0.1)) none_grow)
  listed (ex2 true Op2.Member x (node_ex false mset_literal es)) = λ h.
      a_node refl (more_grow (a_node refl (equations-grow x es h.1.0 h.1.1.0.1)) none_grow)
  listed (ex2 true Op2.Member x (node_ex false relation_literal es)) = λ h.
      a_node refl (more_grow (a_node refl (equations-grow x es h.1.0 h.1.1.0.1)) none_grow)
  listed _ = tt

  ones-where : (a : Ex) (es : Exs) → HasMarks a g → HaveMarks es g → EachGrows g (ones_where a es)
  ones-where a no_exs h k = none_grow
  ones-where a (more_exs b es) h k =
      more_grow (a_node refl (more_grow (a_node refl (more_grow (as_it_is k.0) (more_grow (as_it_is h) none_grow))) none_grow))
      (ones-where a es h k.1)

  pub frequency-listed : (e : Ex) → MarksGrow g e (frequency_listed e)
  frequency-listed (node_ex false (word Fun.Freq) (more_exs (node_ex false mset_literal es) (more_exs a no_exs))) = λ h.
      a_node refl (more_grow (a_node refl (ones-where a es h.1.1.0 h.1.0.1)) none_grow)
  frequency-listed _ = tt

  unequal-grow : (a : Ex) (es rest : Exs) → HasMarks a g → HaveMarks es g → EachGrows g rest → EachGrows g (unequal_each a es rest)
  unequal-grow a no_exs rest h k l = l
  unequal-grow a (more_exs b es) rest h k l =
      more_grow (a_node refl (more_grow (as_it_is k.0) (more_grow (as_it_is h) none_grow))) (unequal-grow a es rest h k.1 l)

  pairs-grow : (es : Exs) → HaveMarks es g → EachGrows g (unequal_pairs es)
  pairs-grow no_exs h = none_grow
  pairs-grow (more_exs a es) h = unequal-grow a es (unequal_pairs es) h.0 h.1 (pairs-grow es h.1)

  pub different-listed : (e : Ex) → MarksGrow g e (different_listed e)
  different-listed (fun1 true Fun.AllDiff (node_ex false matrix_literal es)) = λ h.
      a_node refl (more_grow (a_node refl (pairs-grow es h.1.0.1)) none_grow)
  different-listed _ = tt
