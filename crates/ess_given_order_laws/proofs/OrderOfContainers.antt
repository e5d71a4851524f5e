-- Rules of containers and lists keep comprehensions in order where order counts.
use Rattle.std.proofs.Common.{◌≡◌, refl, Bool, true, false, ◌&&◌, ◌||◌, not, if◌then◌else◌, Option, Some, None, option_map}
use Rattle.ess_semantics.specs.declared.words.Op1.{Op1}
use Rattle.ess_semantics.specs.declared.words.Op2.{Op2}
use Rattle.ess_semantics.specs.declared.words.Fun.{Fun}
use Rattle.ess_semantics.specs.Lists.{and_then}
use Rattle.ess_semantics.specs.Values.{Text, a_function, a_matrix}
use Rattle.ess_semantics.specs.Names.{Names}
use Rattle.ess_semantics.specs.Trees.{word, matrix_literal, name_pat, Ex, number_ex, truth_ex, name_ex, node_ex, matrix_ex, comp_ex, cell_ex, seen_ex, ex1, ex2, fun1, no_exs, more_exs, no_gens, from, Dom}
use Rattle.ess_semantics.specs.Types.{Ty, compound2, int_ty}
use Rattle.ess_semantics.specs.Typing.{type_of, types_under}
use Rattle.ess_semantics.specs.ExpressionJudgements.{forgets_order}
use Rattle.ess_semantics.proofs.Tests.{and-left, and-both}
use Rattle.ess_rules_laws.specs.FoldRules.{is_laid_open}
use Rattle.ess_rules_laws.specs.ContainerListings.{of_function, range_as_set}
use Rattle.ess_rules_laws.specs.InclusionRules.{both_sets, both_msets, both_functions, included_members, included_often, equal_members, equal_often, equal_pairs}
use Rattle.ess_rules_laws.specs.ComponentRules.{component_of}
use Rattle.ess_rules_laws.specs.PartitionRules.{both_partitions, equal_parts}
use Rattle.ess_rules_laws.specs.MatrixRules.{is_matrix, lies_in, equal_each_at, both_matrices, equal_matrices, equal_to_nothing}
use Rattle.ess_rules_laws.specs.MembershipRules.{member_term, is_asked, member_of, member_changed}
use Rattle.ess_rules_laws.specs.FunctionMembershipRules.{an_argument, a_result, a_source, member_of_function, member_related}
use Rattle.ess_rules_laws.specs.SizeRules.{is_counted, size_term, frequency_term, together_term}
use Rattle.ess_rules_laws.specs.ShortSizeRules.{is_function, is_partition, size_made, frequency_made}
use Rattle.ess_rules_laws.specs.ListRules.{members_list, is_of_list, is_lex, list_term, as_members, lex_both, different_term}
use Rattle.ess_given_order_laws.specs.InOrder.{in_order, Ordered, InOrder}
use Rattle.ess_given_order_laws.proofs.OrderOfListings.{nm, of-word, worded}
use Rattle.ess_given_order_laws.proofs.OrderOfFolds.{Answered, when}

list-forgets : (f : Fun) → is_of_list f ≡ true → forgets_order (word f) ≡ true
list-forgets Fun.Min q = refl
list-forgets Fun.Max q = refl
list-forgets Fun.AllDiff q = refl
list-forgets f q = cc

clash : {X : Type 0} (b : Bool) → b ≡ false → b ≡ true → X
clash true p r = cc
clash false p r = cc

module _ (u : Text → Bool) where
  abbrev A : Option Ex → Type 0
  A r = Answered u r

  so : (c : Bool) (f : Ex) → InOrder u f → A (if c then Some f else None)
  so c f h = when u c f h

  -- What has a type that no list has is no comprehension.
  no-list : (P : Option Ty → Bool) → P None ≡ false → ((t : Ty) → P (Some (compound2 a_matrix int_ty t)) ≡ false) → (s : Ex)
      (g : Names Ty) →
      P (type_of s g) ≡ true → in_order u s ≡ true
  no-list P n l (comp_ex e gs) g h = go (types_under gs g) h
    where
      some : (o : Option Ty) → P (option_map (compound2 a_matrix int_ty) o) ≡ true → in_order u (comp_ex e gs) ≡ true
      some None q = clash (P None) n q
      some (Some t) q = clash (P (Some (compound2 a_matrix int_ty t))) (l t) q

      go : (o : Option (Names Ty)) → P (and_then o (λ h. option_map (compound2 a_matrix int_ty) (type_of e h))) ≡ true →
          in_order u (comp_ex e gs) ≡ true
      go None q = some None q
      go (Some h) q = some (type_of e h) q
  no-list P n l (number_ex m) g h = refl
  no-list P n l (truth_ex b) g h = refl
  no-list P n l (name_ex a) g h = refl
  no-list P n l (node_ex b op es) g h = refl
  no-list P n l (matrix_ex es d) g h = refl
  no-list P n l (cell_ex b m es) g h = refl
  no-list P n l (seen_ex r d ns es) g h = refl

  module _ (x : Text) where
    abbrev n : InOrder u (name_ex x)
    n = nm u x

    -- ---- equality and inclusion

    pub members : (g : Names Ty) (e : Ex) → Ordered u e → A (included_members g x e)
    members g (ex2 true Op2.SubsetEq a b) h =
        so (both_sets (type_of a g) (type_of b g)) _ (refl, (((refl, (n, (h.1.0, tt))), (h.0.1, tt)), tt))
    members g _ h = tt

    pub often : (e : Ex) → Ordered u e → A (included_often x e)
    often (ex2 true Op2.SubsetEq a b) h =
        (refl, (((refl, ((refl, (h.0, (n, tt))), ((refl, (h.1.0, (n, tt))), tt))), (h.0.1, tt)), tt))
    often _ h = tt

    pub same_members : (g : Names Ty) (e : Ex) → Ordered u e → A (equal_members g x e)
    same_members g (ex2 true Op2.Eq a b) h = so (both_sets (type_of a g) (type_of b g)) _ (
      refl,
      (
        (refl, (((refl, (n, (h.1.0, tt))), (h.0.1, tt)), tt)),
        ((refl, (((refl, (n, (h.0, tt))), (h.1.0.1, tt)), tt)), tt),
      ),
    )
    same_members g _ h = tt

    pub same_often : (g : Names Ty) (e : Ex) → Ordered u e → A (equal_often g x e)
    same_often g (ex2 true Op2.Eq a b) h = so (both_msets (type_of a g) (type_of b g)) _ (
      refl,
      (
        (refl, (((refl, ((refl, (h.0, (n, tt))), ((refl, (h.1.0, (n, tt))), tt))), ((h.0.1, tt), tt)), tt)),
        ((refl, (((refl, (n, (h.0, tt))), (h.1.0.1, tt)), tt)), tt),
      ),
    )
    same_often g _ h = tt

    pub same_pairs : (g : Names Ty) (e : Ex) → Ordered u e → A (equal_pairs g x e)
    same_pairs g (ex2 true Op2.Eq a b) h = so (both_functions (type_of a g) (type_of b g)) _ (
      refl,
      (
        (refl, (((refl, (n, ((refl, (h.1.0, tt)), tt))), (h.0.1, tt)), tt)),
        ((refl, (((refl, (n, ((refl, (h.0, tt)), tt))), (h.1.0.1, tt)), tt)), tt),
      ),
    )
    same_pairs g _ h = tt

    pub same_parts : (g : Names Ty) (e : Ex) → Ordered u e → A (equal_parts g x e)
    same_parts g (ex2 true Op2.Eq a b) h = so (both_partitions (type_of a g) (type_of b g)) _ (
      refl,
      (
        (refl, (((refl, (n, (h.1.0, tt))), (h.0.1, tt)), tt)),
        ((refl, (((refl, (n, (h.0, tt))), (h.1.0.1, tt)), tt)), tt),
      ),
    )
    same_parts g _ h = tt

    pub no-items : (g : Names Ty) (e : Ex) → Ordered u e → A (equal_to_nothing g x e)
    no-items g (ex2 true Op2.Eq a (node_ex false matrix_literal no_exs)) h =
        so (is_matrix (type_of a g)) _ (refl, ((refl, (((refl, tt), (h.0.1, tt)), tt)), tt))
    no-items g (ex2 true Op2.Eq (node_ex false matrix_literal no_exs) a) h = so (is_matrix (type_of a g))
        (ex1 true Op1.Not (fun1 true Fun.Or (comp_ex (truth_ex true) (from (name_pat x) a no_gens))))
        (refl, ((refl, (((refl, tt), (h.1.0.1, tt)), tt)), tt))
    no-items g _ h = tt

    lies : (y : Text) (d c : Dom) → InOrder u (lies_in x y d c)
    lies y d c = (refl, (((refl, (((refl, (nm u y, (n, tt))), tt), tt)), tt), tt))

    pub matrices : (y : Text) (d c : Dom) (g : Names Ty) (e : Ex) → Ordered u e → A (equal_matrices d c g x y e)
    matrices y d c g (ex2 true Op2.Eq a b) h = go (type_of a g) (type_of b g)
      where
        go : (t v : Option Ty) → A (both_matrices t v
            (λ t v. ex2 true Op2.And (ex2 true Op2.And (lies_in x y d c) (lies_in x y c d)) (equal_each_at x d t v a b)))
        go (Some (compound2 a_matrix i t)) (Some (compound2 a_matrix m v)) = (
          refl,
          (
            (refl, (lies y d c, (lies y c d, tt))),
            ((refl, (((refl, ((refl, (h.0, (n, tt))), ((refl, (h.1.0, (n, tt))), tt))), tt), tt)), tt),
          ),
        )
        go _ _ = tt
    matrices y d c g _ h = tt

    -- ---- membership

    pub of-function : (g : Names Ty) (e : Ex) → Ordered u e → A (member_of_function g x e)
    of-function g (ex2 true Op2.Member a (fun1 false Fun.Defined f)) h = go (type_of f g)
      where
        go : (t : Option Ty) → A (an_argument t x a f)
        go (Some (compound2 a_function t v)) = (refl, (((refl, ((refl, (n, tt)), (h.0, tt))), (h.1.0.1.0.1, tt)), tt))
        go _ = tt
    of-function g (ex2 true Op2.Member a (fun1 false Fun.Range f)) h = go (type_of f g)
      where
        go : (t : Option Ty) → A (a_result t x a f)
        go (Some (compound2 a_function t v)) = (refl, (((refl, ((refl, (n, tt)), (h.0, tt))), (h.1.0.1.0.1, tt)), tt))
        go _ = tt
    of-function g (ex2 true Op2.Member a (node_ex false (word Fun.PreImage) (more_exs f (more_exs b no_exs)))) h = go (type_of f g)
      where
        go : (t : Option Ty) → A (a_source t a f b)
        go (Some (compound2 a_function t v)) =
            (refl, ((refl, (h.0, (h.1.0.1.1.0, tt))), ((refl, (h.1.0.1.0, tt)), tt)))
        go _ = tt
    of-function g _ h = tt

    pub related : (e : Ex) → Ordered u e → A (member_related x e)
    related (ex2 true Op2.Member p (fun1 false Fun.ToRelation f)) h =
        (refl, (((refl, (n, (h.0, tt))), (h.1.0.1.0.1, tt)), tt))
    related _ h = tt

    -- In a term, of which its place isn't told.
    in-term : (a s : Ex) → InOrder u a → Ordered u s → A (member_term x (ex2 true Op2.Member a s))
    in-term a s h k = (refl, (((refl, (n, (h, tt))), (k, tt)), tt))

    pub member : (e : Ex) → Ordered u e → A (member_term x e)
    member (ex2 true Op2.Member a s) h = in-term a s h.0 h.1.0.1
    member _ h = tt

    member-of : (g : Names Ty) (a s : Ex) → InOrder u a → Ordered u s → A (member_of g x a s)
    member-of g a s h k = go (is_asked (type_of s g)) (no-list is_asked refl (λ t. refl) s g)
      where
        go : (c : Bool) → (c ≡ true → in_order u s ≡ true) →
            A (if c then Some (ex2 true Op2.Member a s) else member_term x (ex2 true Op2.Member a s))
        go true q = (refl, (h, ((q refl, k), tt)))
        go false q = in-term a s h k

    pub changed : (g : Names Ty) (e : Ex) → Ordered u e → A (member_changed g x e)
    changed g (ex2 true Op2.Member a (fun1 false Fun.ToSet s)) h = member-of g a s h.0 h.1.0.1.0
    changed g (ex2 true Op2.Member a (fun1 false Fun.ToMSet s)) h = member-of g a s h.0 h.1.0.1.0
    changed g (ex2 true Op2.Member a (fun1 false Fun.Parts s)) h = member-of g a s h.0 h.1.0.1.0.1
    changed g _ h = tt

    -- ---- sizes

    -- Of what is no list.
    of-type : (c : Bool) (f s : Ex) → (c ≡ true → in_order u s ≡ true) → (in_order u s ≡ true → InOrder u f) → A
        (if c then Some f else None)
    of-type true f s q h = h (q refl)
    of-type false f s q h = tt

    pub size-made : (g : Names Ty) (e : Ex) → Ordered u e → A (size_made g x e)
    size-made g (ex1 false Op1.Bar (fun1 false Fun.Defined f)) h = so (is_function (type_of f g)) _ (refl, (h.0.1.0, tt))
    size-made g (ex1 false Op1.Bar (fun1 false Fun.ToRelation f)) h = so (is_function (type_of f g)) _ (refl, (h.0.1.0, tt))
    size-made g (ex1 false Op1.Bar (fun1 false Fun.ToMSet s)) h = of-type (is_counted (type_of s g)) _ s
        (no-list is_counted refl (λ t. refl) s g) (λ q. (refl, ((q, h.0.1.0), tt)))
    size-made g (ex1 false Op1.Bar (fun1 false Fun.ToSet s)) h = of-type (both_sets (type_of s g) (type_of s g)) _ s
        (no-list (λ o. both_sets o o) refl (λ t. refl) s g) (λ q. (refl, ((q, h.0.1.0), tt)))
    size-made g (ex1 false Op1.Bar (fun1 false Fun.Parts p)) h =
        so (is_partition (type_of p g)) _ (refl, (((refl, tt), (h.0.1.0.1, tt)), tt))
    size-made g _ h = tt

    pub sized : (g : Names Ty) (e : Ex) → Ordered u e → A (size_term g x e)
    sized g (ex1 false Op1.Bar s) h = so (is_counted (type_of s g)) _ (refl, (((refl, tt), (h.0.1, tt)), tt))
    sized g _ h = tt

    pub frequency-made : (g : Names Ty) (e : Ex) → Ordered u e → A (frequency_made g x e)
    frequency-made g (node_ex false (word Fun.Freq) (more_exs (fun1 false Fun.ToMSet s) (more_exs a no_exs))) h =
        of-type (both_sets (type_of s g) (type_of s g)) _ s (no-list (λ o. both_sets o o) refl (λ t. refl) s g)
        (λ q. (refl, ((refl, (h.1.0, ((q, h.0.1.0), tt))), tt)))
    frequency-made g _ h = tt

    pub counted : (e : Ex) → Ordered u e → A (frequency_term x e)
    counted (node_ex false (word Fun.Freq) (more_exs s (more_exs a no_exs))) h =
        (refl, (((refl, tt), (h.0.1, ((refl, (n, (h.1.0, tt))), tt))), tt))
    counted _ h = tt

    pub one-part : (e : Ex) → Ordered u e → A (together_term x e)
    one-part (node_ex true (word Fun.Together) (more_exs s (more_exs p no_exs))) h =
        (refl, (((refl, (h.0, (n, tt))), ((h.1.0, tt), tt)), tt))
    one-part _ h = tt

    -- ---- lists

    pub list-of-term : (e : Ex) → Ordered u e → A (list_term x e)
    list-of-term (fun1 b f s) h = go (is_of_list f && not (is_laid_open s)) refl
      where
        go : (c : Bool) → is_of_list f && not (is_laid_open s) ≡ c → A (if c then Some (fun1 b f (members_list x s)) else None)
        go true q = worded u b f (members_list x s) (list-forgets f (and-left (is_of_list f) (not (is_laid_open s)) q))
            (n, (of-word u (forgets_order (word f)) s h, tt))
        go false q = tt
    list-of-term _ h = tt

    as-names : (s : Ex) → InOrder u s → InOrder u (as_members x s)
    as-names s h = go (is_laid_open s)
      where
        go : (c : Bool) → InOrder u (if c then s else members_list x s)
        go true = h
        go false = (and-both (in_order u s) true h.0 refl, (n, (h.1, tt)))

    pub both-lists : (e : Ex) → Ordered u e → A (lex_both x e)
    both-lists (ex2 true p a b) h = so (is_lex p && (not (is_laid_open a) || not (is_laid_open b))) _
        (refl, (as-names a h.0, (as-names b h.1.0, tt)))
    both-lists _ h = tt

    pub different : (e : Ex) → Ordered u e → A (different_term x e)
    different (fun1 true Fun.AllDiff l) h =
        (refl, (((refl, ((refl, ((refl, (h.0, tt)), (n, tt))), ((refl, tt), tt))), (h.0, tt)), tt))
    different _ h = tt

    pub results : (g : Names Ty) (e : Ex) → Ordered u e → A (range_as_set g x e)
    results g (fun1 false Fun.Range f) h = go (type_of f g)
      where
        go : (t : Option Ty) → A (of_function t
            (λ t v. fun1 false Fun.ToSet (comp_ex (component_of v 2 (name_ex x)) (from (name_pat x) f no_gens))))
        go (Some (compound2 a_function t v)) = (refl, (((refl, (n, tt)), (h.0.1, tt)), tt))
        go _ = tt
    results g _ h = tt
