-- Rules of containers and lists keep what the parts of a tree have.
use Rattle.std.proofs.Common.{zero, suc, Bool, true, false, ◌&&◌, ◌||◌, not, if◌then◌else◌, pos, Option, Some, None}
use Rattle.std.specs.Prelude.{IsTrue}
use Rattle.ess_semantics.specs.declared.words.Op1.{Op1}
use Rattle.ess_semantics.specs.declared.words.Op2.{Op2}
use Rattle.ess_semantics.specs.declared.words.Fun.{Fun}
use Rattle.ess_semantics.specs.Values.{Text, a_function, a_matrix}
use Rattle.ess_semantics.specs.Names.{Names}
use Rattle.ess_semantics.specs.Trees.{word, set_literal, mset_literal, relation_literal, matrix_literal, name_pat, Ex, Exs, number_ex, truth_ex, name_ex, node_ex, comp_ex, ex1, ex2, fun1, no_exs, more_exs, no_gens, from, Dom}
use Rattle.ess_semantics.specs.Types.{Ty, compound2}
use Rattle.ess_semantics.specs.Typing.{type_of}
use Rattle.ess_rules_laws.specs.FoldRules.{is_laid_open}
use Rattle.ess_rules_laws.specs.ContainerListings.{of_function, range_as_set}
use Rattle.ess_rules_laws.specs.LiteralRules.{unequal_each, unequal_pairs, different_listed, extreme_listed}
use Rattle.ess_rules_laws.specs.InclusionRules.{both_sets, both_msets, both_functions, included_members, included_often, equal_members, equal_often, equal_pairs}
use Rattle.ess_rules_laws.specs.ComponentRules.{component_of}
use Rattle.ess_rules_laws.specs.PartitionRules.{both_partitions, equal_parts}
use Rattle.ess_rules_laws.specs.MatrixRules.{is_matrix, lies_in, equal_each_at, both_matrices, equal_matrices, equal_to_nothing}
use Rattle.ess_rules_laws.specs.MembershipRules.{equations, member_term, member_combined, is_asked, member_of, member_changed, member_listed}
use Rattle.ess_rules_laws.specs.FunctionMembershipRules.{an_argument, a_result, a_source, member_of_function, member_related}
use Rattle.ess_rules_laws.specs.SizeRules.{is_counted, size_term, frequency_term, together_term}
use Rattle.ess_rules_laws.specs.ShortSizeRules.{is_function, is_partition, size_made, frequency_made, ones_where, frequency_listed}
use Rattle.ess_rules_laws.specs.ListRules.{members_list, is_of_list, is_lex, list_term, as_members, lex_both, different_term}
use Rattle.ess_rules_laws.specs.ChoiceRules.{choice_shorter}
use Rattle.ess_given_laws.specs.PartsHave.{Wanted, PartsHave, AllHave}
use Rattle.ess_given_laws.proofs.PartsOfFolds.{Answers, when}

module _ (w : Wanted) where
  abbrev A : Option Ex → Type 0
  A r = Answers w r

  so : (c : Bool) (f : Ex) → PartsHave w f → A (if c then Some f else None)
  so c f h = when w c f h

  module _ (x : Text) (n : IsTrue (w.name x)) (draws : (k : Ex) → IsTrue (w.draws (name_pat x) k)) where
    -- ---- equality and inclusion

    pub members : (g : Names Ty) (e : Ex) → PartsHave w e → A (included_members g x e)
    members g (ex2 true Op2.SubsetEq a b) h = so (both_sets (type_of a g) (type_of b g)) _ (((n, (h.1.0, tt)), (draws _, h.0, tt)), tt)
    members g _ h = tt

    pub often : (e : Ex) → PartsHave w e → A (included_often x e)
    often (ex2 true Op2.SubsetEq a b) h = ((((h.0, (n, tt)), ((h.1.0, (n, tt)), tt)), (draws _, h.0, tt)), tt)
    often _ h = tt

    pub same_members : (g : Names Ty) (e : Ex) → PartsHave w e → A (equal_members g x e)
    same_members g (ex2 true Op2.Eq a b) h = so (both_sets (type_of a g) (type_of b g)) _
        ((((n, (h.1.0, tt)), (draws _, h.0, tt)), tt), ((((n, (h.0, tt)), (draws _, h.1.0, tt)), tt), tt))
    same_members g _ h = tt

    pub same_often : (g : Names Ty) (e : Ex) → PartsHave w e → A (equal_often g x e)
    same_often g (ex2 true Op2.Eq a b) h = so (both_msets (type_of a g) (type_of b g)) _ (
      ((((h.0, (n, tt)), ((h.1.0, (n, tt)), tt)), (draws _, (h.0, tt), tt)), tt),
      ((((n, (h.0, tt)), (draws _, h.1.0, tt)), tt), tt),
    )
    same_often g _ h = tt

    pub same_pairs : (g : Names Ty) (e : Ex) → PartsHave w e → A (equal_pairs g x e)
    same_pairs g (ex2 true Op2.Eq a b) h = so (both_functions (type_of a g) (type_of b g)) _
        ((((n, ((h.1.0, tt), tt)), (draws _, h.0, tt)), tt), ((((n, ((h.0, tt), tt)), (draws _, h.1.0, tt)), tt), tt))
    same_pairs g _ h = tt

    pub same_parts : (g : Names Ty) (e : Ex) → PartsHave w e → A (equal_parts g x e)
    same_parts g (ex2 true Op2.Eq a b) h = so (both_partitions (type_of a g) (type_of b g)) _
        ((((n, (h.1.0, tt)), (draws _, h.0, tt)), tt), ((((n, (h.0, tt)), (draws _, h.1.0, tt)), tt), tt))
    same_parts g _ h = tt

    pub no-items : (g : Names Ty) (e : Ex) → PartsHave w e → A (equal_to_nothing g x e)
    no-items g (ex2 true Op2.Eq a (node_ex false matrix_literal no_exs)) h = so (is_matrix (type_of a g)) _ (
      (
        (
          tt,
          (draws _, h.0, tt),
        ),
        tt,
      ),
      tt,
    )
    no-items g (ex2 true Op2.Eq (node_ex false matrix_literal no_exs) a) h = so (is_matrix (type_of a g))
        (ex1 true Op1.Not (fun1 true Fun.Or (comp_ex (truth_ex true) (from (name_pat x) a no_gens)))) (((tt, (draws _, h.1.0, tt)), tt), tt)
    no-items g _ h = tt

    pub matrices : (y : Text) → IsTrue (w.name y) → IsTrue (w.binds (name_pat x)) → IsTrue (w.binds (name_pat y)) →
        (d c : Dom) (g : Names Ty) (e : Ex) → IsTrue (w.dom d) → IsTrue (w.dom c) → PartsHave w e →
        A (equal_matrices d c g x y e)
    matrices y j bx by d c g (ex2 true Op2.Eq a b) k l h = go (type_of a g) (type_of b g)
      where
        go : (t v : Option Ty) → A (both_matrices t v
            (λ t v. ex2 true Op2.And (ex2 true Op2.And (lies_in x y d c) (lies_in x y c d)) (equal_each_at x d t v a b)))
        go (Some (compound2 a_matrix i t)) (Some (compound2 a_matrix m v)) = (
          (
            ((((((j, (n, tt)), (by, l, tt)), tt), (bx, k, tt)), tt)),
            (((((((j, (n, tt)), (by, k, tt)), tt), (bx, l, tt)), tt)), tt),
          ),
          (((((h.0, (n, tt)), ((h.1.0, (n, tt)), tt)), (bx, k, tt)), tt), tt),
        )
        go _ _ = tt
    matrices y j bx by d c g _ k l h = tt

    -- ---- membership

    pub of-function : (g : Names Ty) (e : Ex) → PartsHave w e → A (member_of_function g x e)
    of-function g (ex2 true Op2.Member a (fun1 false Fun.Defined f)) h = go (type_of f g)
      where
        go : (t : Option Ty) → A (an_argument t x a f)
        go (Some (compound2 a_function t v)) = ((((n, tt), (h.0, tt)), (draws _, h.1.0.0, tt)), tt)
        go _ = tt
    of-function g (ex2 true Op2.Member a (fun1 false Fun.Range f)) h = go (type_of f g)
      where
        go : (t : Option Ty) → A (a_result t x a f)
        go (Some (compound2 a_function t v)) = ((((n, tt), (h.0, tt)), (draws _, h.1.0.0, tt)), tt)
        go _ = tt
    of-function g (ex2 true Op2.Member a (node_ex false (word Fun.PreImage) (more_exs f (more_exs b no_exs)))) h = go (type_of f g)
      where
        go : (t : Option Ty) → A (a_source t a f b)
        go (Some (compound2 a_function t v)) = ((h.0, (h.1.0.1.0, tt)), ((h.1.0.0, tt), tt))
        go _ = tt
    of-function g _ h = tt

    pub related : (e : Ex) → PartsHave w e → A (member_related x e)
    related (ex2 true Op2.Member p (fun1 false Fun.ToRelation f)) h = (((n, (h.0, tt)), (draws _, h.1.0.0, tt)), tt)
    related _ h = tt

    pub member : (e : Ex) → PartsHave w e → A (member_term x e)
    member (ex2 true Op2.Member a s) h = (((n, (h.0, tt)), (draws _, h.1.0, tt)), tt)
    member _ h = tt

    -- In s, where `a in s` has such names.
    member-of : (g : Names Ty) (a s : Ex) → PartsHave w (ex2 true Op2.Member a s) → A (member_of g x a s)
    member-of g a s h = go (is_asked (type_of s g))
      where
        go : (c : Bool) → A (if c then Some (ex2 true Op2.Member a s) else member_term x (ex2 true Op2.Member a s))
        go true = h
        go false = member (ex2 true Op2.Member a s) h

    pub changed : (g : Names Ty) (e : Ex) → PartsHave w e → A (member_changed g x e)
    changed g (ex2 true Op2.Member a (fun1 false Fun.ToSet s)) h = member-of g a s (h.0, (h.1.0.0, tt))
    changed g (ex2 true Op2.Member a (fun1 false Fun.ToMSet s)) h = member-of g a s (h.0, (h.1.0.0, tt))
    changed g (ex2 true Op2.Member a (fun1 false Fun.Parts s)) h = member-of g a s (h.0, (h.1.0.0, tt))
    changed g _ h = tt

    -- ---- sizes

    pub size-made : (g : Names Ty) (e : Ex) → PartsHave w e → A (size_made g x e)
    size-made g (ex1 false Op1.Bar (fun1 false Fun.Defined f)) h = so (is_function (type_of f g)) _ h.0
    size-made g (ex1 false Op1.Bar (fun1 false Fun.ToRelation f)) h = so (is_function (type_of f g)) _ h.0
    size-made g (ex1 false Op1.Bar (fun1 false Fun.ToMSet s)) h = so (is_counted (type_of s g)) _ h.0
    size-made g (ex1 false Op1.Bar (fun1 false Fun.ToSet s)) h = so (both_sets (type_of s g) (type_of s g)) _ h.0
    size-made g (ex1 false Op1.Bar (fun1 false Fun.Parts p)) h = so (is_partition (type_of p g)) _ ((tt, (draws _, h.0.0, tt)), tt)
    size-made g _ h = tt

    pub sized : (g : Names Ty) (e : Ex) → PartsHave w e → A (size_term g x e)
    sized g (ex1 false Op1.Bar s) h = so (is_counted (type_of s g)) _ ((tt, (draws _, h.0, tt)), tt)
    sized g _ h = tt

    pub frequency-made : (g : Names Ty) (e : Ex) → PartsHave w e → A (frequency_made g x e)
    frequency-made g (node_ex false (word Fun.Freq) (more_exs (fun1 false Fun.ToMSet s) (more_exs a no_exs))) h =
        so (both_sets (type_of s g) (type_of s g)) _ ((h.1.0, (h.0.0, tt)), tt)
    frequency-made g _ h = tt

    pub counted : (e : Ex) → PartsHave w e → A (frequency_term x e)
    counted (node_ex false (word Fun.Freq) (more_exs s (more_exs a no_exs))) h =
        ((tt, (draws _, h.0, ((n, (h.1.0, tt)), tt))), tt)
    counted _ h = tt

    pub one-part : (e : Ex) → PartsHave w e → A (together_term x e)
    one-part (node_ex true (word Fun.Together) (more_exs s (more_exs p no_exs))) h = (((h.0, (n, tt)), (draws _, (h.1.0, tt), tt)), tt)
    one-part _ h = tt

    -- ---- lists

    pub list-of-term : (e : Ex) → PartsHave w e → A (list_term x e)
    list-of-term (fun1 b f s) h = so (is_of_list f && not (is_laid_open s)) _ ((n, (draws _, h.0, tt)), tt)
    list-of-term _ h = tt

    as-names : (s : Ex) → PartsHave w s → PartsHave w (as_members x s)
    as-names s h = go (is_laid_open s)
      where
        go : (c : Bool) → PartsHave w (if c then s else members_list x s)
        go true = h
        go false = (n, (draws _, h, tt))

    pub both-lists : (e : Ex) → PartsHave w e → A (lex_both x e)
    both-lists (ex2 true p a b) h = so (is_lex p && (not (is_laid_open a) || not (is_laid_open b))) _
        (as-names a h.0, (as-names b h.1.0, tt))
    both-lists _ h = tt

    pub different : (e : Ex) → PartsHave w e → A (different_term x e)
    different (fun1 true Fun.AllDiff l) h = (((((h.0, tt), (n, tt)), (tt, tt)), (draws _, h.0, tt)), tt)
    different _ h = tt

    pub results : (g : Names Ty) (e : Ex) → PartsHave w e → A (range_as_set g x e)
    results g (fun1 false Fun.Range f) h = go (type_of f g)
      where
        go : (t : Option Ty) → A (of_function t
            (λ t v. fun1 false Fun.ToSet (comp_ex (component_of v 2 (name_ex x)) (from (name_pat x) f no_gens))))
        go (Some (compound2 a_function t v)) = (((n, tt), (draws _, h.0, tt)), tt)
        go _ = tt
    results g _ h = tt

  -- ---- rules that take no name

  pub combined : (e : Ex) → PartsHave w e → A (member_combined e)
  combined (ex2 true Op2.Member x (ex2 false Op2.Union a b)) h = ((h.0, (h.1.0.0, tt)), ((h.0, (h.1.0.1.0, tt)), tt))
  combined (ex2 true Op2.Member x (ex2 false Op2.Intersect a b)) h = ((h.0, (h.1.0.0, tt)), ((h.0, (h.1.0.1.0, tt)), tt))
  combined (ex2 true Op2.Member x (ex2 false Op2.Minus a b)) h = ((h.0, (h.1.0.0, tt)), (((h.0, (h.1.0.1.0, tt)), tt), tt))
  combined _ h = tt

  equations-names : (x : Ex) (es : Exs) → PartsHave w x → AllHave w es → AllHave w (equations x es)
  equations-names x no_exs h k = tt
  equations-names x (more_exs a es) h k = ((h, (k.0, tt)), equations-names x es h k.1)

  pub in-literal : (e : Ex) → PartsHave w e → A (member_listed e)
  in-literal (ex2 true Op2.Member x (node_ex false set_literal es)) h = (equations-names x es h.0 h.1.0, tt)
  in-literal (ex2 true Op2.Member x (node_ex false mset_literal es)) h = (equations-names x es h.0 h.1.0, tt)
  in-literal (ex2 true Op2.Member x (node_ex false relation_literal es)) h = (equations-names x es h.0 h.1.0, tt)
  in-literal _ h = tt

  ones-names : (a : Ex) (es : Exs) → PartsHave w a → AllHave w es → AllHave w (ones_where a es)
  ones-names a no_exs h k = tt
  ones-names a (more_exs b es) h k = (((k.0, (h, tt)), tt), ones-names a es h k.1)

  pub frequency-listed : (e : Ex) → PartsHave w e → A (frequency_listed e)
  frequency-listed (node_ex false (word Fun.Freq) (more_exs (node_ex false mset_literal es) (more_exs a no_exs))) h =
      (ones-names a es h.1.0 h.0, tt)
  frequency-listed _ h = tt

  pub least-listed : (e : Ex) → PartsHave w e → A (extreme_listed e)
  least-listed (fun1 b Fun.Min (node_ex false set_literal es)) h = h
  least-listed (fun1 b Fun.Max (node_ex false set_literal es)) h = h
  least-listed (fun1 b Fun.Min (node_ex false mset_literal es)) h = h
  least-listed (fun1 b Fun.Max (node_ex false mset_literal es)) h = h
  least-listed _ h = tt

  each-unequal : (a : Ex) (es rest : Exs) → PartsHave w a → AllHave w es → AllHave w rest →
      AllHave w (unequal_each a es rest)
  each-unequal a no_exs rest h k l = l
  each-unequal a (more_exs b es) rest h k l = ((k.0, (h, tt)), each-unequal a es rest h k.1 l)

  pairs-names : (es : Exs) → AllHave w es → AllHave w (unequal_pairs es)
  pairs-names no_exs h = tt
  pairs-names (more_exs a es) h = each-unequal a es (unequal_pairs es) h.0 h.1 (pairs-names es h.1)

  pub different-listed : (e : Ex) → PartsHave w e → A (different_listed e)
  different-listed (fun1 true Fun.AllDiff (node_ex false matrix_literal es)) h = (pairs-names es h.0, tt)
  different-listed _ h = tt

  pub chosen-shorter : (e : Ex) → PartsHave w e → A (choice_shorter e)
  chosen-shorter (ex2 false Op2.Times (fun1 false Fun.ToInt c) (fun1 false Fun.ToInt d)) h = ((h.0.0, (h.1.0.0, tt)), tt)
  chosen-shorter (ex2 false Op2.Times (fun1 false Fun.ToInt c) (number_ex (pos (suc zero)))) h = h.0
  chosen-shorter _ h = tt
