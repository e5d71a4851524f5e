-- Words, and any nodes: they are refined, or something moves.
use Rattle.std.proofs.Common.{◌≡◌, refl, sym, ap, ◌∙◌, subst, Bool, true, false, ◌&&◌, ◌||◌, not, if◌then◌else◌, None}
use Rattle.std.specs.List.{list_all}
use Rattle.ess_semantics.specs.declared.words.Fun.{Fun}
use Rattle.ess_semantics.specs.Lists.{and_then, all_some}
use Rattle.ess_semantics.specs.Values.{a_set, a_mset}
use Rattle.ess_semantics.specs.Names.{Names}
use Rattle.ess_semantics.specs.Operators.{iff}
use Rattle.ess_semantics.specs.Trees.{Op, unary, binary, word, index, application, tuple_literal, set_literal, mset_literal, function_literal, relation_literal, partition_literal, matrix_literal, record_literal, is_truth_op, Ex, Exs, node_ex, fun1, no_exs, more_exs}
use Rattle.ess_semantics.specs.Types.{Ty, bool_ty, int_ty, join_all, fit}
use Rattle.ess_semantics.specs.OperatorTypes.{type_of_op, type_of_word1, type_of_word2, function_ty, relation_ty, partition_ty}
use Rattle.ess_semantics.specs.Typing.{type_of, types_of}
use Rattle.ess_semantics.specs.Refined.{is_list_op}
use Rattle.ess_semantics.proofs.Tests.{and-left, and-right, and-both}
use Rattle.ess_rules_laws.specs.FoldRules.{is_laid_open}
use Rattle.ess_rules_laws.specs.ListRules.{different_term}
use Rattle.ess_rules_laws.specs.Progress.{is_abstract}
use Rattle.ess_refine_laws.specs.AllRules.{Supply, all_different}
use Rattle.ess_refine_laws.proofs.RulesFire.{fires-by}
use Rattle.ess_refine_laws.specs.ScalarItems.{is_scalar, has_scalar_items}
use Rattle.ess_refine_laws.specs.Progress.{is_known, is_picked, is_judged, are_judged, by_a_rule, is_left, Progress, goes_on}
use Rattle.ess_refine_laws.proofs.ScalarOperands.{fits-none, alone-type, pair-type, many-types, one-scalar, never-one, never-two}
use Rattle.ess_refine_laws.proofs.OpenLists.{ListType, open-type, folded-scalars, extreme-scalars, judged-items, typed-there}
use Rattle.ess_refine_laws.proofs.NeverScalars.{no, mark-is, one-all, never-defined, never-range, never-relation, never-parts, never-participants, made-compound, never-set, never-mset, never-preimage, never-party, never-list, then-compound, never-function, never-tuples, never-partition, never-matrix}
use Rattle.ess_refine_laws.proofs.MovingNodes.{here, firing, scalar-node, list-node, Scalars, Lists, unary-node, binary-node}

module _ (sup : Supply) (g : Names Ty) where
  -- ---- words

  module _ (l : Ex) where
    abbrev One : Exs
    One = more_exs l no_exs

    -- A word on a list whose items are scalars.
    word-on-list : (f : Fun) → is_list_op (word f) ≡ true →
        (is_abstract g (fun1 (is_truth_op (word f)) f l) ≡ not (is_laid_open l)) →
        (is_laid_open l ≡ true → has_scalar_items l g && true ≡ true) →
        is_scalar (type_of (fun1 (is_truth_op (word f)) f l) g) ≡ true → Lists sup g One →
        Progress sup g (node_ex (is_truth_op (word f)) (word f) One)
    word-on-list f q a i s k = go (is_laid_open l) refl
      where
        go : (u : Bool) → is_laid_open l ≡ u → Progress sup g (node_ex (is_truth_op (word f)) (word f) One)
        go true j = list-node sup g (word f) One q (k (and-both (is_laid_open l) true j refl) (i j))
        go false j = firing sup g (fun1 (is_truth_op (word f)) f l) (a ∙ ap not j) s

    -- `allDiff` of any list.
    on-different : is_scalar (type_of (fun1 true Fun.AllDiff l) g) ≡ true → Lists sup g One →
        Progress sup g (node_ex true (word Fun.AllDiff) One)
    on-different s k = go (has_scalar_items l g) refl
      where
        go : (u : Bool) → has_scalar_items l g ≡ u → Progress sup g (node_ex true (word Fun.AllDiff) One)
        go true j = word-on-list Fun.AllDiff refl refl (λ o. and-both (has_scalar_items l g) true j refl) s k
        go false j = goes_on (here sup (by_a_rule (fires-by sup g (fun1 true Fun.AllDiff l) all_different 44 refl
            (ap (λ c. if c then None else different_term sup.one (fun1 true Fun.AllDiff l)) j))))

    never-word : (f : Fun) → ((t : Ty) → is_scalar (type_of_word1 f t) ≡ false) →
        is_scalar (and_then (all_some (types_of One g)) (type_of_op (word f))) ≡ true → false ≡ true
    never-word f n s = never-one (type_of_word1 f) n (type_of l g)
        (ap is_scalar (sym (alone-type (type_of l g) (type_of_op (word f)))) ∙ s)

    -- The type of the list by itself.
    alone : (f : Fun) → is_scalar (and_then (all_some (types_of One g)) (type_of_op (word f))) ≡ true →
        is_scalar (and_then (type_of l g) (type_of_word1 f)) ≡ true
    alone f s = ap is_scalar (sym (alone-type (type_of l g) (type_of_op (word f)))) ∙ s

    items : (f : Fun) → are_judged One g ≡ true → is_scalar (and_then (all_some (types_of One g)) (type_of_op (word f))) ≡ true →
        is_laid_open l ≡ true → (ListType g l → has_scalar_items l g ≡ true) → has_scalar_items l g && true ≡ true
    items f i s o h = and-both (has_scalar_items l g) true
        (h (open-type g l o (judged-items g l (and-left (is_judged l g) true i)) (typed-there (type_of l g) (type_of_word1 f)
        (alone f s)))) refl

    word-one : (f : Fun) → are_judged One g ≡ true → list_all is_known (types_of One g) ≡ true →
        is_scalar (and_then (all_some (types_of One g)) (type_of_op (word f))) ≡ true → Scalars sup g One → Lists sup g One →
        Progress sup g (node_ex (is_truth_op (word f)) (word f) One)
    word-one Fun.Sum i k s f m = word-on-list Fun.Sum refl refl (λ o. items Fun.Sum i s o (λ z. folded-scalars g l int_ty int_ty refl z
        (alone Fun.Sum s))) s m
    word-one Fun.Product i k s f m = word-on-list Fun.Product refl refl (λ o. items Fun.Product i s o
        (λ z. folded-scalars g l int_ty int_ty refl z (alone Fun.Product s))) s m
    word-one Fun.And i k s f m = word-on-list Fun.And refl refl (λ o. items Fun.And i s o
        (λ z. folded-scalars g l bool_ty bool_ty refl z (alone Fun.And s))) s m
    word-one Fun.Or i k s f m = word-on-list Fun.Or refl refl (λ o. items Fun.Or i s o (λ z. folded-scalars g l bool_ty bool_ty refl z
        (alone Fun.Or s))) s m
    word-one Fun.Min i k s f m = word-on-list Fun.Min refl refl (λ o. items Fun.Min i s o (λ z. extreme-scalars g l z
        (alone Fun.Min s))) s m
    word-one Fun.Max i k s f m = word-on-list Fun.Max refl refl (λ o. items Fun.Max i s o (λ z. extreme-scalars g l z
        (alone Fun.Max s))) s m
    word-one Fun.AllDiff i k s f m = on-different s m
    word-one Fun.ToInt i k s f m =
        scalar-node sup g (word Fun.ToInt) One refl (f (one-all (type_of l g)
        (one-scalar (λ t. fit t bool_ty int_ty) (fits-none bool_ty refl int_ty) (type_of l g) (and-left (is_known (type_of l g)) true k)
        (ap is_scalar (sym (alone-type (type_of l g) (type_of_op (word Fun.ToInt)))) ∙ s))))
    word-one Fun.Image i k s f m = goes_on (here sup (is_left refl))
    word-one Fun.PreImage i k s f m = no (never-word Fun.PreImage (λ t. refl) s)
    word-one Fun.Defined i k s f m = no (never-word Fun.Defined never-defined s)
    word-one Fun.Range i k s f m = no (never-word Fun.Range never-range s)
    word-one Fun.ToSet i k s f m = no (never-word Fun.ToSet never-set s)
    word-one Fun.ToMSet i k s f m = no (never-word Fun.ToMSet never-mset s)
    word-one Fun.ToRelation i k s f m = no (never-word Fun.ToRelation never-relation s)
    word-one Fun.Freq i k s f m = no (never-word Fun.Freq (λ t. refl) s)
    word-one Fun.Parts i k s f m = no (never-word Fun.Parts never-parts s)
    word-one Fun.Party i k s f m = no (never-word Fun.Party (λ t. refl) s)
    word-one Fun.Participants i k s f m = no (never-word Fun.Participants never-participants s)
    word-one Fun.Together i k s f m = no (never-word Fun.Together (λ t. refl) s)

  module _ (a b : Ex) where
    abbrev Two : Exs
    Two = more_exs a (more_exs b no_exs)

    never-words : (f : Fun) → ((t u : Ty) → is_scalar (type_of_word2 f t u) ≡ false) →
        is_scalar (and_then (all_some (types_of Two g)) (type_of_op (word f))) ≡ true → false ≡ true
    never-words f n s = never-two (type_of_word2 f) n (type_of a g) (type_of b g)
        (ap is_scalar (sym (pair-type (type_of a g) (type_of b g) (type_of_op (word f)))) ∙ s)

    word-two : (f : Fun) → is_scalar (and_then (all_some (types_of Two g)) (type_of_op (word f))) ≡ true →
        Progress sup g (node_ex (is_truth_op (word f)) (word f) Two)
    word-two Fun.Freq s = firing sup g (node_ex false (word Fun.Freq) Two) refl s
    word-two Fun.Together s = firing sup g (node_ex true (word Fun.Together) Two) refl s
    word-two Fun.Image s = goes_on (here sup (is_left refl))
    word-two Fun.PreImage s = no (never-words Fun.PreImage never-preimage s)
    word-two Fun.Party s = no (never-words Fun.Party never-party s)
    word-two Fun.Sum s = no (never-words Fun.Sum (λ t u. refl) s)
    word-two Fun.Product s = no (never-words Fun.Product (λ t u. refl) s)
    word-two Fun.And s = no (never-words Fun.And (λ t u. refl) s)
    word-two Fun.Or s = no (never-words Fun.Or (λ t u. refl) s)
    word-two Fun.Min s = no (never-words Fun.Min (λ t u. refl) s)
    word-two Fun.Max s = no (never-words Fun.Max (λ t u. refl) s)
    word-two Fun.AllDiff s = no (never-words Fun.AllDiff (λ t u. refl) s)
    word-two Fun.ToInt s = no (never-words Fun.ToInt (λ t u. refl) s)
    word-two Fun.Defined s = no (never-words Fun.Defined (λ t u. refl) s)
    word-two Fun.Range s = no (never-words Fun.Range (λ t u. refl) s)
    word-two Fun.ToSet s = no (never-words Fun.ToSet (λ t u. refl) s)
    word-two Fun.ToMSet s = no (never-words Fun.ToMSet (λ t u. refl) s)
    word-two Fun.ToRelation s = no (never-words Fun.ToRelation (λ t u. refl) s)
    word-two Fun.Parts s = no (never-words Fun.Parts (λ t u. refl) s)
    word-two Fun.Participants s = no (never-words Fun.Participants (λ t u. refl) s)

  word-node : (f : Fun) (es : Exs) → are_judged es g ≡ true → list_all is_known (types_of es g) ≡ true →
      is_scalar (and_then (all_some (types_of es g)) (type_of_op (word f))) ≡ true → Scalars sup g es → Lists sup g es →
      Progress sup g (node_ex (is_truth_op (word f)) (word f) es)
  word-node f no_exs i k s h l = no s
  word-node f (more_exs a no_exs) i k s h l = word-one a f i k s h l
  word-node f (more_exs a (more_exs b no_exs)) i k s h l = word-two a b f s
  word-node f (more_exs a (more_exs b (more_exs c es))) i k s h l =
      no (many-types (type_of a g) (type_of b g) (type_of c g) (types_of es g) (type_of_op (word f)) (λ t u v ts. refl) s)

  -- ---- nodes

  node-at : (op : Op) (es : Exs) → are_judged es g ≡ true → list_all is_known (types_of es g) ≡ true →
      is_scalar (type_of (node_ex (is_truth_op op) op es) g) ≡ true → Scalars sup g es → Lists sup g es →
      Progress sup g (node_ex (is_truth_op op) op es)
  node-at (unary o) es i k s f l = unary-node sup g o es k s f
  node-at (binary o) es i k s f l = binary-node sup g o es i k s f l
  node-at (word w) es i k s f l = word-node w es i k s f l
  node-at (index qs) es i k s f l = goes_on (here sup (is_left refl))
  node-at application es i k s f l = goes_on (here sup (is_left refl))
  node-at tuple_literal es i k s f l = no (never-list (types_of es g) (type_of_op tuple_literal) (λ ts. refl) s)
  node-at (record_literal fs) es i k s f l = no (never-list (types_of es g) (type_of_op (record_literal fs)) (λ ts. refl) s)
  node-at set_literal es i k s f l =
      no (never-list (types_of es g) (type_of_op set_literal) (λ ts. made-compound a_set (join_all ts)) s)
  node-at mset_literal es i k s f l =
      no (never-list (types_of es g) (type_of_op mset_literal) (λ ts. made-compound a_mset (join_all ts)) s)
  node-at function_literal es i k s f l =
      no (never-list (types_of es g) (type_of_op function_literal) (λ ts. then-compound function_ty never-function (join_all ts)) s)
  node-at relation_literal es i k s f l =
      no (never-list (types_of es g) (type_of_op relation_literal) (λ ts. then-compound relation_ty never-tuples (join_all ts)) s)
  node-at partition_literal es i k s f l =
      no (never-list (types_of es g) (type_of_op partition_literal) (λ ts. then-compound partition_ty never-partition (join_all ts)) s)
  node-at matrix_literal es i k s f l = no (never-list (types_of es g) (type_of_op matrix_literal) never-matrix s)

  pub node : (b : Bool) (op : Op) (es : Exs) → is_judged (node_ex b op es) g ≡ true → is_scalar (type_of (node_ex b op es) g) ≡ true →
      (are_judged es g ≡ true → Scalars sup g es) → (are_judged es g ≡ true → Lists sup g es) → Progress sup g (node_ex b op es)
  node b op es j s f l = go (is_picked (node_ex b op es)) refl j
    where
      go : (q : Bool) → is_picked (node_ex b op es) ≡ q →
          q || (iff b (is_truth_op op) && (list_all is_known (types_of es g) && are_judged es g)) ≡ true →
          Progress sup g (node_ex b op es)
      go true q j = goes_on (here sup (is_left q))
      go false q j =
          let m = and-left (iff b (is_truth_op op)) (list_all is_known (types_of es g) && are_judged es g) j in
          let r = and-right (iff b (is_truth_op op)) (list_all is_known (types_of es g) && are_judged es g) j in
          let k = and-left (list_all is_known (types_of es g)) (are_judged es g) r in
          let u = and-right (list_all is_known (types_of es g)) (are_judged es g) r in
          subst (λ z. Progress sup g (node_ex z op es)) (sym (mark-is b (is_truth_op op) m)) (node-at op es u k s (f u) (l u))
