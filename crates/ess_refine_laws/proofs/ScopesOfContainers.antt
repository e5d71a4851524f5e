-- What rules make of containers stays in scope.
use Rattle.std.specs.Prelude.{IsTrue}
use Rattle.std.proofs.Common.{◌≡◌, refl, ap, ◌∙◌, Bool, true, false, ◌&&◌, ◌||◌, if◌then◌else◌, Option, Some, None, not}
use Rattle.ess_semantics.specs.declared.words.Op2.{Op2}
use Rattle.ess_semantics.specs.declared.words.Fun.{Fun}
use Rattle.ess_semantics.specs.Values.{Text, a_function, a_matrix}
use Rattle.ess_semantics.specs.Order.{same_text}
use Rattle.ess_semantics.specs.Names.{Names}
use Rattle.ess_semantics.specs.Trees.{word, matrix_literal, name_pat, Ex, name_ex, node_ex, comp_ex, ex2, fun1, no_exs, more_exs, no_gens, from, truth_ex, ex1, Dom}
use Rattle.ess_semantics.specs.Types.{Ty, compound2}
use Rattle.ess_semantics.specs.Typing.{type_of}
use Rattle.ess_rules_laws.specs.FoldRules.{is_laid_open}
use Rattle.ess_rules_laws.specs.InclusionRules.{both_sets, both_msets, both_functions, included_members, included_often, equal_members, equal_often, equal_pairs}
use Rattle.ess_rules_laws.specs.ComponentRules.{component_of}
use Rattle.ess_semantics.specs.declared.words.Op1.{Op1}
use Rattle.ess_rules_laws.specs.ContainerListings.{of_function, range_as_set}
use Rattle.ess_rules_laws.specs.PartitionRules.{both_partitions, equal_parts}
use Rattle.ess_rules_laws.specs.MatrixRules.{is_matrix, lies_in, equal_each_at, both_matrices, equal_matrices, equal_to_nothing}
use Rattle.ess_rules_laws.specs.MembershipRules.{member_term, member_combined, is_asked, member_of, member_changed}
use Rattle.ess_rules_laws.specs.FunctionMembershipRules.{an_argument, a_result, a_source, member_of_function, member_related}
use Rattle.ess_rules_laws.specs.SizeRules.{is_counted, size_term, frequency_term, together_term}
use Rattle.ess_rules_laws.specs.ShortSizeRules.{is_function, is_partition, size_made, frequency_made}
use Rattle.ess_rules_laws.specs.ListRules.{members_list, is_of_list, is_lex, list_term, as_members, lex_both, different_term}
use Rattle.ess_semantics.specs.Scoped.{with_names, Scoped, ScopedDom}
use Rattle.ess_semantics.specs.Substitution.{NamesAreDom}
use Rattle.ess_refine_laws.specs.ScopesOfRules.{BindsNone}
use Rattle.ess_refine_laws.proofs.WiderScopes.{bound, behind, behind-domain, domain-behind}
use Rattle.ess_refine_laws.proofs.ScopesOfParts.{InScope, when}

module _ (z s o : Text → Bool) where
  abbrev A : Option Ex → Type 0
  A r = InScope z s o r

  so : (c : Bool) (f : Ex) → Scoped z s o f → A (if c then Some f else None)
  so c f h = when z s o c f h

  -- ---- without names

  pub combined : (e : Ex) → Scoped z s o e → A (member_combined e)
  combined (ex2 true Op2.Member x (ex2 false Op2.Union a b)) h = ((h.0, (h.1.0.0, tt)), ((h.0, (h.1.0.1.0, tt)), tt))
  combined (ex2 true Op2.Member x (ex2 false Op2.Intersect a b)) h = ((h.0, (h.1.0.0, tt)), ((h.0, (h.1.0.1.0, tt)), tt))
  combined (ex2 true Op2.Member x (ex2 false Op2.Minus a b)) h = ((h.0, (h.1.0.0, tt)), (((h.0, (h.1.0.1.0, tt)), tt), tt))
  combined _ h = tt

  pub frequency-made : (g : Names Ty) (x : Text) (e : Ex) → Scoped z s o e → A (frequency_made g x e)
  frequency-made g x (node_ex false (word Fun.Freq) (more_exs (fun1 false Fun.ToMSet m) (more_exs a no_exs))) h =
      so (both_sets (type_of m g) (type_of m g)) _ ((h.1.0, (h.0.0, tt)), tt)
  frequency-made g x _ h = tt

  -- ---- with a new name

  module _ (x : Text) (n : IsTrue (not (s x))) where
    -- Behind the new name.
    later : (e : Ex) → BindsNone (same_text x) e → Scoped z s o e → Scoped z (with_names s (name_pat x)) o e
    later e b h = behind z (name_pat x) s o e b h

    pub members : (g : Names Ty) (e : Ex) → BindsNone (same_text x) e → Scoped z s o e → A (included_members g x e)
    members g (ex2 true Op2.SubsetEq a b) k h = so (both_sets (type_of a g) (type_of b g)) _
        ((n, h.0, (bound x s, (later b k.1.0 h.1.0, tt))), tt)
    members g _ k h = tt

    pub often : (e : Ex) → BindsNone (same_text x) e → Scoped z s o e → A (included_often x e)
    often (ex2 true Op2.SubsetEq a b) k h =
        ((n, h.0, ((later a k.0 h.0, (bound x s, tt)), ((later b k.1.0 h.1.0, (bound x s, tt)), tt))), tt)
    often _ k h = tt

    pub same_members : (g : Names Ty) (e : Ex) → BindsNone (same_text x) e → Scoped z s o e → A (equal_members g x e)
    same_members g (ex2 true Op2.Eq a b) k h = so (both_sets (type_of a g) (type_of b g)) _ (
      ((n, h.0, (bound x s, (later b k.1.0 h.1.0, tt))), tt),
      (((n, h.1.0, (bound x s, (later a k.0 h.0, tt))), tt), tt),
    )
    same_members g _ k h = tt

    pub same_often : (g : Names Ty) (e : Ex) → BindsNone (same_text x) e → Scoped z s o e → A (equal_often g x e)
    same_often g (ex2 true Op2.Eq a b) k h = so (both_msets (type_of a g) (type_of b g)) _ (
      ((n, (h.0, tt), ((later a k.0 h.0, (bound x s, tt)), ((later b k.1.0 h.1.0, (bound x s, tt)), tt))), tt),
      (((n, h.1.0, (bound x s, (later a k.0 h.0, tt))), tt), tt),
    )
    same_often g _ k h = tt

    pub same_pairs : (g : Names Ty) (e : Ex) → BindsNone (same_text x) e → Scoped z s o e → A (equal_pairs g x e)
    same_pairs g (ex2 true Op2.Eq a b) k h = so (both_functions (type_of a g) (type_of b g)) _ (
      ((n, h.0, (bound x s, ((later b k.1.0 h.1.0, tt), tt))), tt),
      (((n, h.1.0, (bound x s, ((later a k.0 h.0, tt), tt))), tt), tt),
    )
    same_pairs g _ k h = tt

    pub same_parts : (g : Names Ty) (e : Ex) → BindsNone (same_text x) e → Scoped z s o e → A (equal_parts g x e)
    same_parts g (ex2 true Op2.Eq a b) k h = so (both_partitions (type_of a g) (type_of b g)) _ (
      ((n, h.0, (bound x s, (later b k.1.0 h.1.0, tt))), tt),
      (((n, h.1.0, (bound x s, (later a k.0 h.0, tt))), tt), tt),
    )
    same_parts g _ k h = tt

    pub no-items : (g : Names Ty) (e : Ex) → Scoped z s o e → A (equal_to_nothing g x e)
    no-items g (ex2 true Op2.Eq a (node_ex false matrix_literal no_exs)) h = so (is_matrix (type_of a g)) _
        (((n, h.0, tt), tt), tt)
    no-items g (ex2 true Op2.Eq (node_ex false matrix_literal no_exs) a) h = so (is_matrix (type_of a g))
        (ex1 true Op1.Not (fun1 true Fun.Or (comp_ex (truth_ex true) (from (name_pat x) a no_gens))))
        (((n, h.1.0, tt), tt), tt)
    no-items g _ h = tt

    pub of-function : (g : Names Ty) (e : Ex) → BindsNone (same_text x) e → Scoped z s o e → A (member_of_function g x e)
    of-function g (ex2 true Op2.Member a (fun1 false Fun.Defined f)) k h = go (type_of f g)
      where
        go : (t : Option Ty) → A (an_argument t x a f)
        go (Some (compound2 a_function t u)) = ((n, h.1.0.0, ((bound x s, tt), (later a k.0 h.0, tt))), tt)
        go _ = tt
    of-function g (ex2 true Op2.Member a (fun1 false Fun.Range f)) k h = go (type_of f g)
      where
        go : (t : Option Ty) → A (a_result t x a f)
        go (Some (compound2 a_function t u)) = ((n, h.1.0.0, ((bound x s, tt), (later a k.0 h.0, tt))), tt)
        go _ = tt
    of-function g (ex2 true Op2.Member a (node_ex false (word Fun.PreImage) (more_exs f (more_exs b no_exs)))) k h = go (type_of f g)
      where
        go : (t : Option Ty) → A (a_source t a f b)
        go (Some (compound2 a_function t u)) = ((h.0, (h.1.0.1.0, tt)), ((h.1.0.0, tt), tt))
        go _ = tt
    of-function g _ k h = tt

    pub related : (e : Ex) → BindsNone (same_text x) e → Scoped z s o e → A (member_related x e)
    related (ex2 true Op2.Member p (fun1 false Fun.ToRelation f)) k h = ((n, h.1.0.0, (bound x s, (later p k.0 h.0, tt))), tt)
    related _ k h = tt

    pub member : (e : Ex) → BindsNone (same_text x) e → Scoped z s o e → A (member_term x e)
    member (ex2 true Op2.Member a m) k h = ((n, h.1.0, (bound x s, (later a k.0 h.0, tt))), tt)
    member _ k h = tt

    -- In m, where `x in m` is in scope.
    member-of : (g : Names Ty) (a m : Ex) → BindsNone (same_text x) (ex2 true Op2.Member a m) → Scoped z s o (ex2 true Op2.Member a m) →
        A (member_of g x a m)
    member-of g a m k h = go (is_asked (type_of m g))
      where
        go : (c : Bool) → A (if c then Some (ex2 true Op2.Member a m) else member_term x (ex2 true Op2.Member a m))
        go true = h
        go false = member (ex2 true Op2.Member a m) k h

    pub changed : (g : Names Ty) (e : Ex) → BindsNone (same_text x) e → Scoped z s o e → A (member_changed g x e)
    changed g (ex2 true Op2.Member a (fun1 false Fun.ToSet m)) k h = member-of g a m (k.0, (k.1.0.0, tt)) (h.0, (h.1.0.0, tt))
    changed g (ex2 true Op2.Member a (fun1 false Fun.ToMSet m)) k h = member-of g a m (k.0, (k.1.0.0, tt)) (h.0, (h.1.0.0, tt))
    changed g (ex2 true Op2.Member a (fun1 false Fun.Parts m)) k h = member-of g a m (k.0, (k.1.0.0, tt)) (h.0, (h.1.0.0, tt))
    changed g _ k h = tt

    pub size-made : (g : Names Ty) (e : Ex) → Scoped z s o e → A (size_made g x e)
    size-made g (ex1 false Op1.Bar (fun1 false Fun.Defined f)) h = so (is_function (type_of f g)) _ (h.0.0, tt)
    size-made g (ex1 false Op1.Bar (fun1 false Fun.ToRelation f)) h = so (is_function (type_of f g)) _ (h.0.0, tt)
    size-made g (ex1 false Op1.Bar (fun1 false Fun.ToMSet m)) h = so (is_counted (type_of m g)) _ (h.0.0, tt)
    size-made g (ex1 false Op1.Bar (fun1 false Fun.ToSet m)) h = so (both_sets (type_of m g) (type_of m g)) _ (h.0.0, tt)
    size-made g (ex1 false Op1.Bar (fun1 false Fun.Parts p)) h = so (is_partition (type_of p g)) _ ((n, h.0.0, tt), tt)
    size-made g _ h = tt

    pub sized : (g : Names Ty) (e : Ex) → Scoped z s o e → A (size_term g x e)
    sized g (ex1 false Op1.Bar m) h = so (is_counted (type_of m g)) _ ((n, h.0, tt), tt)
    sized g _ h = tt

    pub counted : (e : Ex) → BindsNone (same_text x) e → Scoped z s o e → A (frequency_term x e)
    counted (node_ex false (word Fun.Freq) (more_exs m (more_exs a no_exs))) k h =
        ((n, h.0, ((bound x s, (later a k.1.0 h.1.0, tt)), tt)), tt)
    counted _ k h = tt

    pub one-part : (e : Ex) → BindsNone (same_text x) e → Scoped z s o e → A (together_term x e)
    one-part (node_ex true (word Fun.Together) (more_exs m (more_exs p no_exs))) k h =
        ((n, (h.1.0, tt), (later m k.0 h.0, (bound x s, tt))), tt)
    one-part _ k h = tt

    pub list-of-term : (e : Ex) → Scoped z s o e → A (list_term x e)
    list-of-term (fun1 b f m) h = so (is_of_list f && not (is_laid_open m)) _ ((n, h.0, bound x s), tt)
    list-of-term _ h = tt

    as-scoped : (a : Ex) → Scoped z s o a → Scoped z s o (as_members x a)
    as-scoped a h = go (is_laid_open a)
      where
        go : (c : Bool) → Scoped z s o (if c then a else members_list x a)
        go true = h
        go false = (n, h, bound x s)

    pub both-lists : (e : Ex) → Scoped z s o e → A (lex_both x e)
    both-lists (ex2 true p a b) h = so (is_lex p && (not (is_laid_open a) || not (is_laid_open b))) _
        (as-scoped a h.0, (as-scoped b h.1.0, tt))
    both-lists _ h = tt

    pub different : (e : Ex) → BindsNone (same_text x) e → Scoped z s o e → A (different_term x e)
    different (fun1 true Fun.AllDiff l) k h = ((n, h.0, (((later l k.0 h.0, tt), (bound x s, tt)), (tt, tt))), tt)
    different _ k h = tt

    pub results : (g : Names Ty) (e : Ex) → Scoped z s o e → A (range_as_set g x e)
    results g (fun1 false Fun.Range f) h = go (type_of f g)
      where
        go : (t : Option Ty) → A (of_function t
            (λ t u. fun1 false Fun.ToSet (comp_ex (component_of u 2 (name_ex x)) (from (name_pat x) f no_gens))))
        go (Some (compound2 a_function t u)) = ((n, h.0, (bound x s, tt)), tt)
        go _ = tt
    results g _ h = tt

    pub matrices : (y : Text) (d c : Dom) (g : Names Ty) (e : Ex) → IsTrue (not (s y)) → same_text x y ≡ false →
        NamesAreDom (λ a. true) (λ a. not (same_text x a)) d → NamesAreDom (λ a. true) (λ a. not (same_text x a)) c →
        ScopedDom z s o d → ScopedDom z s o c → BindsNone (same_text x) e → Scoped z s o e → A (equal_matrices d c g x y e)
    matrices y d c g (ex2 true Op2.Eq a b) m w bd bc hd hc k h = go (type_of a g) (type_of b g)
      where
        over-x : (e : Ex) → BindsNone (same_text x) e → Scoped z s o e →
            Scoped z (with_names s (name_pat x)) (with_names o (name_pat x)) e
        over-x e b h = behind-domain z (name_pat x) s o e b h

        new-y : IsTrue (not (with_names s (name_pat x) y))
        new-y = ap (λ b. not (s y || b)) w ∙ both (s y) m
          where
            both : (b : Bool) → IsTrue (not b) → not (b || false) ≡ true
            both true h = h
            both false h = refl

        x-still : IsTrue (with_names (with_names s (name_pat x)) (name_pat y) x)
        x-still = ap (λ b. b || same_text y x) (bound x s)

        lies : (d c : Dom) → NamesAreDom (λ a. true) (λ a. not (same_text x a)) c → ScopedDom z s o d → ScopedDom z s o c →
            Scoped z s o (lies_in x y d c)
        lies d c bc hd hc =
            ((n, hd, ((new-y, domain-behind z (name_pat x) s o c bc hc, (bound y (with_names s (name_pat x)), (x-still, tt))), tt)), tt)

        go : (t u : Option Ty) → A (both_matrices t u
            (λ t u. ex2 true Op2.And (ex2 true Op2.And (lies_in x y d c) (lies_in x y c d)) (equal_each_at x d t u a b)))
        go (Some (compound2 a_matrix i t)) (Some (compound2 a_matrix j u)) = (
          (lies d c bc hd hc, (lies c d bd hc hd, tt)),
          (((n, hd, ((over-x a k.0 h.0, (bound x s, tt)), ((over-x b k.1.0 h.1.0, (bound x s, tt)), tt))), tt), tt),
        )
        go _ _ = tt
    matrices y d c g _ m w bd bc hd hc k h = tt
