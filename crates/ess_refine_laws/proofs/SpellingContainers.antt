-- Rules of containers, lists and conditions spell no new numbers but 0 and 1.
use Rattle.std.proofs.Common.{◌≡◌, refl, ap, zero, suc, Bool, true, false, ◌&&◌, ◌||◌, not, if◌then◌else◌, ℤ, pos, Option, Some, None}
use Rattle.ess_semantics.specs.declared.words.Op1.{Op1}
use Rattle.ess_semantics.specs.declared.words.Op2.{Op2}
use Rattle.ess_semantics.specs.declared.words.Fun.{Fun}
use Rattle.ess_semantics.specs.Values.{Text, a_function, a_matrix}
use Rattle.ess_semantics.specs.Names.{Names}
use Rattle.ess_semantics.specs.Trees.{binary, word, set_literal, mset_literal, relation_literal, matrix_literal, name_pat, Ex, Exs, number_ex, truth_ex, name_ex, node_ex, comp_ex, ex1, ex2, fun1, no_exs, more_exs, no_gens, from, Dom}
use Rattle.ess_semantics.specs.Types.{Ty, compound2}
use Rattle.ess_semantics.specs.Typing.{type_of}
use Rattle.ess_semantics.specs.Constants.{drops_items}
use Rattle.ess_rules_laws.specs.FoldRules.{is_laid_open}
use Rattle.ess_rules_laws.specs.ContainerListings.{of_function, range_as_set}
use Rattle.ess_rules_laws.specs.LiteralRules.{unequal_each, unequal_pairs, different_listed, extreme_listed}
use Rattle.ess_rules_laws.specs.InclusionRules.{both_sets, both_msets, both_functions, included_members, included_often, equal_members, equal_often, equal_pairs}
use Rattle.ess_rules_laws.specs.ComponentRules.{component_of}
use Rattle.ess_rules_laws.specs.PartitionRules.{both_partitions, equal_parts}
use Rattle.ess_rules_laws.specs.MatrixRules.{is_matrix, lies_in, equal_each_at, both_matrices, equal_matrices, equal_to_nothing}
use Rattle.ess_rules_laws.specs.MembershipRules.{equations, member_term, member_combined, is_asked, member_of, member_changed, member_listed}
use Rattle.ess_rules_laws.specs.FunctionMembershipRules.{an_argument, a_result, a_source, member_of_function, member_related}
use Rattle.ess_rules_laws.specs.SizeRules.{is_counted, size_term, frequency_term, together_term}
use Rattle.ess_rules_laws.specs.ShortSizeRules.{is_function, is_partition, size_made, frequency_made, ones_where, frequency_listed}
use Rattle.ess_rules_laws.specs.ListRules.{members_list, is_of_list, is_lex, list_term, as_members, lex_both, different_term}
use Rattle.ess_rules_laws.specs.ChoiceRules.{choice_shorter}
use Rattle.ess_refine_laws.specs.Spelling.{Spells, SpellsEach, SpellsDom, is_list_literal}
use Rattle.ess_refine_laws.proofs.Spelling.{outside}
use Rattle.ess_refine_laws.proofs.SpellingRules.{Answers, when}

module _ (q : ℤ → Bool) (o : q (pos 0) ≡ true) (i : q (pos 1) ≡ true) where
  abbrev A : Bool → Option Ex → Type 0
  A m r = Answers q o i m r

  so : (c : Bool) (m : Bool) (f : Ex) → Spells q m f → A m (if c then Some f else None)
  so c m f h = when q o i c m f h

  -- ---- equality and inclusion

  pub members : (g : Names Ty) (x : Text) (m : Bool) (e : Ex) → Spells q m e → A m (included_members g x e)
  members g x m (ex2 true Op2.SubsetEq a b) h = so (both_sets (type_of a g) (type_of b g)) m _
      (refl, (((refl, (tt, (h.1.1.0, tt))), (h.1.0, tt)), tt))
  members g x m _ h = tt

  pub often : (x : Text) (m : Bool) (e : Ex) → Spells q m e → A m (included_often x e)
  often x m (ex2 true Op2.SubsetEq a b) h =
      (refl, (((refl, ((refl, (h.1.0, (tt, tt))), ((refl, (h.1.1.0, (tt, tt))), tt))), (h.1.0, tt)), tt))
  often x m _ h = tt

  pub same_members : (g : Names Ty) (x : Text) (m : Bool) (e : Ex) → Spells q m e → A m (equal_members g x e)
  same_members g x m (ex2 true Op2.Eq a b) h = so (both_sets (type_of a g) (type_of b g)) m _
      (refl, ((refl, (((refl, (tt, (h.1.1.0, tt))), (h.1.0, tt)), tt)), ((refl, (((refl, (tt, (h.1.0, tt))), (h.1.1.0, tt)), tt)), tt)))
  same_members g x m _ h = tt

  pub same_often : (g : Names Ty) (x : Text) (m : Bool) (e : Ex) → Spells q m e → A m (equal_often g x e)
  same_often g x m (ex2 true Op2.Eq a b) h = so (both_msets (type_of a g) (type_of b g)) m _ (
    refl,
    (
      (refl, (((refl, ((refl, (h.1.0, (tt, tt))), ((refl, (h.1.1.0, (tt, tt))), tt))), ((refl, (h.1.0, tt)), tt)), tt)),
      ((refl, (((refl, (tt, (h.1.0, tt))), (h.1.1.0, tt)), tt)), tt),
    ),
  )
  same_often g x m _ h = tt

  pub same_pairs : (g : Names Ty) (x : Text) (m : Bool) (e : Ex) → Spells q m e → A m (equal_pairs g x e)
  same_pairs g x m (ex2 true Op2.Eq a b) h = so (both_functions (type_of a g) (type_of b g)) m _ (
    refl,
    (
      (refl, (((refl, (tt, ((refl, (h.1.1.0, tt)), tt))), (h.1.0, tt)), tt)),
      ((refl, (((refl, (tt, ((refl, (h.1.0, tt)), tt))), (h.1.1.0, tt)), tt)), tt),
    ),
  )
  same_pairs g x m _ h = tt

  pub same_parts : (g : Names Ty) (x : Text) (m : Bool) (e : Ex) → Spells q m e → A m (equal_parts g x e)
  same_parts g x m (ex2 true Op2.Eq a b) h = so (both_partitions (type_of a g) (type_of b g)) m _ (
    refl,
    (
      (refl, (((refl, (tt, (h.1.1.0, tt))), (h.1.0, tt)), tt)),
      ((refl, (((refl, (tt, (h.1.0, tt))), (h.1.1.0, tt)), tt)), tt),
    ),
  )
  same_parts g x m _ h = tt

  pub no-items : (g : Names Ty) (x : Text) (m : Bool) (e : Ex) → Spells q m e → A m (equal_to_nothing g x e)
  no-items g x m (ex2 true Op2.Eq a (node_ex false matrix_literal no_exs)) h = so (is_matrix (type_of a g)) m _
      (refl, ((refl, ((tt, (h.1.0, tt)), tt)), tt))
  no-items g x m (ex2 true Op2.Eq (node_ex false matrix_literal no_exs) a) h = so (is_matrix (type_of a g)) m
      (ex1 true Op1.Not (fun1 true Fun.Or (comp_ex (truth_ex true) (from (name_pat x) a no_gens))))
      (refl, ((refl, ((tt, (h.1.1.0, tt)), tt)), tt))
  no-items g x m _ h = tt

  pub matrices : (d c : Dom) (g : Names Ty) (x y : Text) (m : Bool) (e : Ex) → SpellsDom q d → SpellsDom q c → Spells q m e →
      A m (equal_matrices d c g x y e)
  matrices d c g x y m (ex2 true Op2.Eq a b) k l h = go (type_of a g) (type_of b g)
    where
      go : (t u : Option Ty) → A m (both_matrices t u
          (λ t u. ex2 true Op2.And (ex2 true Op2.And (lies_in x y d c) (lies_in x y c d)) (equal_each_at x d t u a b)))
      go (Some (compound2 a_matrix j t)) (Some (compound2 a_matrix n u)) = (
        refl,
        (
          (
            refl,
            (
              (refl, (((refl, (((refl, (tt, (tt, tt))), (l, tt)), tt)), (k, tt)), tt)),
              ((refl, (((refl, (((refl, (tt, (tt, tt))), (k, tt)), tt)), (l, tt)), tt)), tt),
            ),
          ),
          ((refl, (((refl, ((refl, (h.1.0, (tt, tt))), ((refl, (h.1.1.0, (tt, tt))), tt))), (k, tt)), tt)), tt),
        ),
      )
      go _ _ = tt
  matrices d c g x y m _ k l h = tt

  -- ---- membership

  pub combined : (m : Bool) (e : Ex) → Spells q m e → A m (member_combined e)
  combined m (ex2 true Op2.Member x (ex2 false Op2.Union a b)) h =
      (refl, ((refl, (h.1.0, (h.1.1.0.1.0, tt))), ((refl, (h.1.0, (h.1.1.0.1.1.0, tt))), tt)))
  combined m (ex2 true Op2.Member x (ex2 false Op2.Intersect a b)) h =
      (refl, ((refl, (h.1.0, (h.1.1.0.1.0, tt))), ((refl, (h.1.0, (h.1.1.0.1.1.0, tt))), tt)))
  combined m (ex2 true Op2.Member x (ex2 false Op2.Minus a b)) h =
      (refl, ((refl, (h.1.0, (h.1.1.0.1.0, tt))), ((refl, ((refl, (h.1.0, (h.1.1.0.1.1.0, tt))), tt)), tt)))
  combined m _ h = tt

  equations-spell : (x : Ex) (es : Exs) → Spells q false x → SpellsEach q false es → SpellsEach q false (equations x es)
  equations-spell x no_exs h k = tt
  equations-spell x (more_exs a es) h k = ((refl, (h, (k.0, tt))), equations-spell x es h k.1)

  pub in-literal : (m : Bool) (e : Ex) → Spells q m e → A m (member_listed e)
  in-literal m (ex2 true Op2.Member x (node_ex false set_literal es)) h =
      (refl, ((refl, equations-spell x es h.1.0 h.1.1.0.1), tt))
  in-literal m (ex2 true Op2.Member x (node_ex false mset_literal es)) h =
      (refl, ((refl, equations-spell x es h.1.0 h.1.1.0.1), tt))
  in-literal m (ex2 true Op2.Member x (node_ex false relation_literal es)) h =
      (refl, ((refl, equations-spell x es h.1.0 h.1.1.0.1), tt))
  in-literal m _ h = tt

  pub of-function : (g : Names Ty) (y : Text) (m : Bool) (e : Ex) → Spells q m e → A m (member_of_function g y e)
  of-function g y m (ex2 true Op2.Member a (fun1 false Fun.Defined f)) h = go (type_of f g)
    where
      go : (t : Option Ty) → A m (an_argument t y a f)
      go (Some (compound2 a_function t u)) = (refl, (((refl, ((refl, (tt, tt)), (h.1.0, tt))), (h.1.1.0.1.0, tt)), tt))
      go _ = tt
  of-function g y m (ex2 true Op2.Member a (fun1 false Fun.Range f)) h = go (type_of f g)
    where
      go : (t : Option Ty) → A m (a_result t y a f)
      go (Some (compound2 a_function t u)) = (refl, (((refl, ((refl, (tt, tt)), (h.1.0, tt))), (h.1.1.0.1.0, tt)), tt))
      go _ = tt
  of-function g y m (ex2 true Op2.Member a (node_ex false (word Fun.PreImage) (more_exs f (more_exs b no_exs)))) h = go (type_of f g)
    where
      go : (t : Option Ty) → A m (a_source t a f b)
      go (Some (compound2 a_function t u)) = (refl, ((refl, (h.1.0, (h.1.1.0.1.1.0, tt))), ((refl, (h.1.1.0.1.0, tt)), tt)))
      go _ = tt
  of-function g y m _ h = tt

  pub related : (y : Text) (m : Bool) (e : Ex) → Spells q m e → A m (member_related y e)
  related y m (ex2 true Op2.Member p (fun1 false Fun.ToRelation f)) h = (refl, (((refl, (tt, (h.1.0, tt))), (h.1.1.0.1.0, tt)), tt))
  related y m _ h = tt

  pub member : (x : Text) (m : Bool) (e : Ex) → Spells q m e → A m (member_term x e)
  member x m (ex2 true Op2.Member a s) h = (refl, (((refl, (tt, (h.1.0, tt))), (h.1.1.0, tt)), tt))
  member x m _ h = tt

  -- In s, where `a in s` spells no more.
  member-of : (g : Names Ty) (x : Text) (m : Bool) (a s : Ex) → Spells q m (ex2 true Op2.Member a s) → A m (member_of g x a s)
  member-of g x m a s h = go (is_asked (type_of s g))
    where
      go : (c : Bool) → A m (if c then Some (ex2 true Op2.Member a s) else member_term x (ex2 true Op2.Member a s))
      go true = h
      go false = member x m (ex2 true Op2.Member a s) h

  pub changed : (g : Names Ty) (x : Text) (m : Bool) (e : Ex) → Spells q m e → A m (member_changed g x e)
  changed g x m (ex2 true Op2.Member a (fun1 false Fun.ToSet s)) h = member-of g x m a s (refl, (h.1.0, (h.1.1.0.1.0, tt)))
  changed g x m (ex2 true Op2.Member a (fun1 false Fun.ToMSet s)) h = member-of g x m a s (refl, (h.1.0, (h.1.1.0.1.0, tt)))
  changed g x m (ex2 true Op2.Member a (fun1 false Fun.Parts s)) h = member-of g x m a s (refl, (h.1.0, (h.1.1.0.1.0, tt)))
  changed g x m _ h = tt

  -- ---- sizes

  pub size-made : (g : Names Ty) (x : Text) (m : Bool) (e : Ex) → Spells q m e → A m (size_made g x e)
  size-made g x m (ex1 false Op1.Bar (fun1 false Fun.Defined f)) h = so (is_function (type_of f g)) m _ (refl, (h.1.0.1.0, tt))
  size-made g x m (ex1 false Op1.Bar (fun1 false Fun.ToRelation f)) h = so (is_function (type_of f g)) m _ (refl, (h.1.0.1.0, tt))
  size-made g x m (ex1 false Op1.Bar (fun1 false Fun.ToMSet s)) h = so (is_counted (type_of s g)) m _ (refl, (h.1.0.1.0, tt))
  size-made g x m (ex1 false Op1.Bar (fun1 false Fun.ToSet s)) h = so (both_sets (type_of s g) (type_of s g)) m _ (refl, (h.1.0.1.0, tt))
  size-made g x m (ex1 false Op1.Bar (fun1 false Fun.Parts p)) h = so (is_partition (type_of p g)) m _
      (refl, ((i, (h.1.0.1.0, tt)), tt))
  size-made g x m _ h = tt

  pub sized : (g : Names Ty) (x : Text) (m : Bool) (e : Ex) → Spells q m e → A m (size_term g x e)
  sized g x m (ex1 false Op1.Bar s) h = so (is_counted (type_of s g)) m _ (refl, ((i, (h.1.0, tt)), tt))
  sized g x m _ h = tt

  pub frequency-made : (g : Names Ty) (x : Text) (m : Bool) (e : Ex) → Spells q m e → A m (frequency_made g x e)
  frequency-made g x m (node_ex false (word Fun.Freq) (more_exs (fun1 false Fun.ToMSet s) (more_exs a no_exs))) h =
      so (both_sets (type_of s g) (type_of s g)) m _ (refl, ((refl, (h.1.1.0, (h.1.0.1.0, tt))), tt))
  frequency-made g x m _ h = tt

  ones-spell : (a : Ex) (es : Exs) → Spells q false a → SpellsEach q false es → SpellsEach q false (ones_where a es)
  ones-spell a no_exs h k = tt
  ones-spell a (more_exs b es) h k = ((refl, ((refl, (k.0, (h, tt))), tt)), ones-spell a es h k.1)

  pub frequency-listed : (m : Bool) (e : Ex) → Spells q m e → A m (frequency_listed e)
  frequency-listed m (node_ex false (word Fun.Freq) (more_exs (node_ex false mset_literal es) (more_exs a no_exs))) h =
      (refl, ((refl, ones-spell a es h.1.1.0 h.1.0.1), tt))
  frequency-listed m _ h = tt

  pub counted : (x : Text) (m : Bool) (e : Ex) → Spells q m e → A m (frequency_term x e)
  counted x m (node_ex false (word Fun.Freq) (more_exs s (more_exs a no_exs))) h =
      (refl, ((i, (h.1.0, ((refl, (tt, (h.1.1.0, tt))), tt))), tt))
  counted x m _ h = tt

  pub one-part : (x : Text) (m : Bool) (e : Ex) → Spells q m e → A m (together_term x e)
  one-part x m (node_ex true (word Fun.Together) (more_exs s (more_exs p no_exs))) h =
      (refl, (((refl, (h.1.0, (tt, tt))), ((refl, (h.1.1.0, tt)), tt)), tt))
  one-part x m _ h = tt

  -- ---- lists

  pub least-listed : (m : Bool) (e : Ex) → Spells q m e → A m (extreme_listed e)
  least-listed m (fun1 b Fun.Min (node_ex false set_literal es)) h = (refl, ((refl, h.1.0.1), tt))
  least-listed m (fun1 b Fun.Max (node_ex false set_literal es)) h = (refl, ((refl, h.1.0.1), tt))
  least-listed m (fun1 b Fun.Min (node_ex false mset_literal es)) h = (refl, ((refl, h.1.0.1), tt))
  least-listed m (fun1 b Fun.Max (node_ex false mset_literal es)) h = (refl, ((refl, h.1.0.1), tt))
  least-listed m _ h = tt

  each-unequal : (a : Ex) (es rest : Exs) → Spells q false a → SpellsEach q false es → SpellsEach q false rest →
      SpellsEach q false (unequal_each a es rest)
  each-unequal a no_exs rest h k l = l
  each-unequal a (more_exs b es) rest h k l = ((refl, (k.0, (h, tt))), each-unequal a es rest h k.1 l)

  pairs-spell : (es : Exs) → SpellsEach q false es → SpellsEach q false (unequal_pairs es)
  pairs-spell no_exs h = tt
  pairs-spell (more_exs a es) h = each-unequal a es (unequal_pairs es) h.0 h.1 (pairs-spell es h.1)

  pub different-listed : (m : Bool) (e : Ex) → Spells q m e → A m (different_listed e)
  different-listed m (fun1 true Fun.AllDiff (node_ex false matrix_literal es)) h = (refl, ((refl, pairs-spell es h.1.0.1), tt))
  different-listed m _ h = tt

  -- A list that isn't laid open, as a source.
  source : (f : Bool) (l : Ex) → is_list_literal l ≡ false → Spells q f l → Spells q false l
  source true l k h = outside q l k h
  source false l k h = h

  open-list : (l : Ex) (c d : Bool) → c && not (is_laid_open l) ≡ true → is_list_literal l ≡ false
  open-list (node_ex false matrix_literal es) true d k = cc
  open-list (node_ex false matrix_literal es) false d k = cc
  open-list _ c d k = refl

  so-then : (c : Bool) (m : Bool) (f : Ex) → (c ≡ true → Spells q m f) → A m (if c then Some f else None)
  so-then true m f h = h refl
  so-then false m f h = tt

  pub list-of-term : (x : Text) (m : Bool) (e : Ex) → Spells q m e → A m (list_term x e)
  list-of-term x m (fun1 b f s) h = so-then (is_of_list f && not (is_laid_open s)) m _
      (λ k. (refl, ((tt, (source (drops_items (word f)) s (open-list s (is_of_list f) true k) h.1.0, tt)), tt)))
  list-of-term x m _ h = tt

  as-spells : (b : Bool) (x : Text) (s : Ex) → Spells q b s → Spells q b (as_members x s)
  as-spells b x s h = go (is_laid_open s) refl
    where
      go : (c : Bool) → is_laid_open s ≡ c → Spells q b (if c then s else members_list x s)
      go true k = h
      go false k = (tt, (source b s (open-list s true true (ap not k)) h, tt))

  pub both-lists : (x : Text) (m : Bool) (e : Ex) → Spells q m e → A m (lex_both x e)
  both-lists x m (ex2 true p a b) h = so (is_lex p && (not (is_laid_open a) || not (is_laid_open b))) m _
      (refl, (as-spells (drops_items (binary p)) x a h.1.0, (as-spells (drops_items (binary p)) x b h.1.1.0, tt)))
  both-lists x m _ h = tt

  pub different : (x : Text) (m b : Bool) (f : Fun) (l : Ex) → is_list_literal l ≡ false → Spells q m (fun1 b f l) →
      A m (different_term x (fun1 b f l))
  different x m true Fun.AllDiff l k h =
      let j = outside q l k h.1.0 in
      (refl, (((refl, ((refl, ((refl, (j, tt)), (tt, tt))), (i, tt))), (j, tt)), tt))
  different x m _ _ l k h = tt

  pub results : (g : Names Ty) (x : Text) (m : Bool) (e : Ex) → Spells q m e → A m (range_as_set g x e)
  results g x m (fun1 false Fun.Range f) h = go (type_of f g)
    where
      go : (t : Option Ty) → A m (of_function t
          (λ t u. fun1 false Fun.ToSet (comp_ex (component_of u 2 (name_ex x)) (from (name_pat x) f no_gens))))
      go (Some (compound2 a_function t u)) = (refl, (((refl, (tt, tt)), (h.1.0, tt)), tt))
      go _ = tt
  results g x m _ h = tt

  pub chosen-shorter : (m : Bool) (e : Ex) → Spells q m e → A m (choice_shorter e)
  chosen-shorter m (ex2 false Op2.Times (fun1 false Fun.ToInt c) (fun1 false Fun.ToInt d)) h =
      (refl, ((refl, (h.1.0.1.0, (h.1.1.0.1.0, tt))), tt))
  chosen-shorter m (ex2 false Op2.Times (fun1 false Fun.ToInt c) (number_ex (pos (suc zero)))) h = (refl, (h.1.0.1.0, tt))
  chosen-shorter m _ h = tt
