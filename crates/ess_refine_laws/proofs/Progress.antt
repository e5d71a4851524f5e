-- A judged tree of a scalar is refined, or some rule fires at a part of it, or a part is left to a kind or to a lookup.
use Rattle.std.proofs.Common.{◌≡◌, refl, true, false, ◌&&◌, List, ◌∷◌, Option, Some, None, option_map}
use Rattle.std.specs.List.{list_all}
use Rattle.ess_semantics.specs.Lists.{and_then, all_some}
use Rattle.ess_semantics.specs.Values.{a_matrix}
use Rattle.ess_semantics.specs.Names.{Names}
use Rattle.ess_semantics.specs.Kinds.{is_bounded}
use Rattle.ess_semantics.specs.Trees.{matrix_literal, name_pat, tuple_pat, Ex, Exs, number_ex, truth_ex, name_ex, node_ex, matrix_ex, comp_ex, cell_ex, seen_ex, no_exs, more_exs, Gens, no_gens, over, from, cond, bool_dom, int_dom, name_dom, tuple_dom, record_dom, matrix_dom, set_dom, mset_dom, function_dom, relation_dom, partition_dom}
use Rattle.ess_semantics.specs.Types.{Ty, bool_ty, int_ty, named_ty, compound2, join_all, type_of_dom, types_of_doms, bind_types}
use Rattle.ess_semantics.specs.Typing.{type_of, types_of, types_under, source_ty}
use Rattle.ess_semantics.specs.ExpressionJudgements.{pattern_fits, patterns_fit}
use Rattle.ess_semantics.specs.Contexts.{In, fill}
use Rattle.ess_semantics.specs.NamesAt.{names_behind, names_at}
use Rattle.ess_semantics.specs.Refined.{is_refined}
use Rattle.ess_semantics.proofs.Tests.{and-left, and-right}
use Rattle.ess_rules_laws.specs.FoldRules.{is_laid_open}
use Rattle.ess_rules_laws.specs.Progress.{is_plain_source, has_members}
use Rattle.ess_rules_laws.proofs.SourceProgress.{sources-have}
use Rattle.ess_refine_laws.specs.AllRules.{Supply}
use Rattle.ess_refine_laws.specs.ScalarItems.{is_scalar, has_scalar_items}
use Rattle.ess_refine_laws.specs.RecordNames.{are_in_order}
use Rattle.ess_refine_laws.specs.Progress.{is_known, have_scalar_items, is_judged, are_judged, gens_judged, Moves, is_left, Progress, is_done, goes_on, TreesMakeProgress}
use Rattle.ess_refine_laws.proofs.NeverScalars.{no}
use Rattle.ess_refine_laws.proofs.MovingNodes.{all_open, OnExs, exs_done, OnLists, lists_done, OnList, here}
use Rattle.ess_refine_laws.proofs.MovingWords.{node}
use Rattle.ess_refine_laws.proofs.MovingGenerators.{split-fires, parts-fit, OnGens, gens_done, gens_move, source_moves, pattern_moves, tuple_moves, record_moves, behind-atom, behind-range, behind-cond, first-of, first-list, of-comp, of-literal, of-cell}

module _ (sup : Supply) where
  -- ---- whole trees

  no-matrix : (o : Option (List Ty)) (t : Ty) → is_scalar (and_then o (λ ts. option_map (compound2 a_matrix t) (join_all ts))) ≡ true →
      false ≡ true
  no-matrix None t e = e
  no-matrix (Some ts) t e = go (join_all ts) e
    where
      go : (o : Option Ty) → is_scalar (option_map (compound2 a_matrix t) o) ≡ true → false ≡ true
      go None e = e
      go (Some u) e = e

  no-list : (o : Option (Names Ty)) (e : Ex) → is_scalar (and_then o (λ h. option_map (compound2 a_matrix int_ty) (type_of e h))) ≡ true →
      false ≡ true
  no-list None e s = s
  no-list (Some h) e s = go (type_of e h) s
    where
      go : (o : Option Ty) → is_scalar (option_map (compound2 a_matrix int_ty) o) ≡ true → false ≡ true
      go None e = e
      go (Some u) e = e

  mutual
    on-tree : (e : Ex) (g : Names Ty) → is_judged e g ≡ true → is_scalar (type_of e g) ≡ true → Progress sup g e
    on-tree (number_ex n) g j s = is_done refl
    on-tree (truth_ex b) g j s = is_done refl
    on-tree (name_ex a) g j s = is_done refl
    on-tree (node_ex b op es) g j s = node sup g b op es j s (λ k q. on-exs es g k q) (λ k o i. on-lists es g k o i)
    on-tree (matrix_ex es c) g j s = no (no-matrix (all_some (types_of es g)) (type_of_dom c) s)
    on-tree (comp_ex e gs) g j s = no (no-list (types_under gs g) e s)
    on-tree (cell_ex b n es) g j s =
        of-cell sup g b n es (on-exs es g (and-right (list_all is_scalar (types_of es g)) (are_judged es g) j)
        (and-left (list_all is_scalar (types_of es g)) (are_judged es g) j))
    on-tree (seen_ex r c ns es) g j s = goes_on (here sup (is_left refl))

    on-exs : (es : Exs) (g : Names Ty) → are_judged es g ≡ true → list_all is_scalar (types_of es g) ≡ true → OnExs sup g es
    on-exs no_exs g j s = exs_done refl
    on-exs (more_exs e es) g j s =
        first-of sup g e es (on-tree e g (and-left (is_judged e g) (are_judged es g) j)
        (and-left (is_scalar (type_of e g)) (list_all is_scalar (types_of es g)) s))
        (on-exs es g (and-right (is_judged e g) (are_judged es g) j)
        (and-right (is_scalar (type_of e g)) (list_all is_scalar (types_of es g)) s))

    on-list : (l : Ex) (g : Names Ty) → is_judged l g ≡ true → is_laid_open l ≡ true → has_scalar_items l g ≡ true → OnList sup g l
    on-list (comp_ex e gs) g j o i =
        let r = and-right (is_known (type_of e (names_behind gs g))) (is_judged e (names_behind gs g) && gens_judged gs g) j in
        of-comp sup g e gs (on-tree e (names_behind gs g) (and-left (is_judged e (names_behind gs g)) (gens_judged gs g) r) i)
        (on-gens gs g (and-right (is_judged e (names_behind gs g)) (gens_judged gs g) r))
    on-list (node_ex false matrix_literal es) g j o i =
        of-literal sup g es (on-exs es g (and-right (list_all is_known (types_of es g)) (are_judged es g) j) i)
    on-list _ g j o i = no o

    on-lists : (es : Exs) (g : Names Ty) → are_judged es g ≡ true → all_open es ≡ true → have_scalar_items es g ≡ true → OnLists sup g es
    on-lists no_exs g j o i = lists_done refl
    on-lists (more_exs l es) g j o i =
        first-list sup g l es
        (on-list l g (and-left (is_judged l g) (are_judged es g) j) (and-left (is_laid_open l) (all_open es) o)
        (and-left (has_scalar_items l g) (have_scalar_items es g) i))
        (on-lists es g (and-right (is_judged l g) (are_judged es g) j) (and-right (is_laid_open l) (all_open es) o)
        (and-right (has_scalar_items l g) (have_scalar_items es g) i))

    on-gens : (gs : Gens) (g : Names Ty) → gens_judged gs g ≡ true → OnGens sup g gs
    on-gens no_gens g j = gens_done refl
    on-gens (over (name_pat a) bool_dom gs) g j = behind-atom sup g (name_pat a) bool_dom gs (λ k. k) (on-gens gs ((a, bool_ty) ∷ g) j)
    on-gens (over (name_pat a) (name_dom t) gs) g j =
        behind-atom sup g (name_pat a) (name_dom t) gs (λ k. k) (on-gens gs ((a, named_ty t) ∷ g) j)
    on-gens (over (name_pat a) (int_dom rs es) gs) g j =
        let p = and-left (is_bounded rs && (list_all is_scalar (types_of es g) && are_judged es g)) (gens_judged gs ((a, int_ty) ∷ g)) j in
        let q = and-right (is_bounded rs) (list_all is_scalar (types_of es g) && are_judged es g) p in
        behind-range sup g a rs es gs (and-left (is_bounded rs) (list_all is_scalar (types_of es g) && are_judged es g) p)
        (on-exs es g (and-right (list_all is_scalar (types_of es g)) (are_judged es g) q)
        (and-left (list_all is_scalar (types_of es g)) (are_judged es g) q))
        (on-gens gs ((a, int_ty) ∷ g)
        (and-right (is_bounded rs && (list_all is_scalar (types_of es g) && are_judged es g)) (gens_judged gs ((a, int_ty) ∷ g)) j))
    on-gens (over (name_pat a) (tuple_dom ds) gs) g j = gens_move (tuple_moves no_gens a ds gs refl)
    on-gens (over (name_pat a) (record_dom fs ds) gs) g j = gens_move (record_moves no_gens a fs ds gs refl
        (and-left (are_in_order fs ds) (gens_judged gs ((a, type_of_dom (record_dom fs ds)) ∷ g)) j))
    on-gens (over (name_pat a) (matrix_dom is c) gs) g j = no j
    on-gens (over (name_pat a) (set_dom ms es c) gs) g j = no j
    on-gens (over (name_pat a) (mset_dom ms es c) gs) g j = no j
    on-gens (over (name_pat a) (function_dom ms es b c) gs) g j = no j
    on-gens (over (name_pat a) (relation_dom ms es cs) gs) g j = no j
    on-gens (over (name_pat a) (partition_dom ms es c) gs) g j = no j
    on-gens (over (tuple_pat ps) (tuple_dom ds) gs) g j =
        gens_move (pattern_moves no_gens (tuple_pat ps) (tuple_dom ds) gs refl
        (λ e. split-fires ps ds gs e (parts-fit ps ds (and-left (patterns_fit ps (types_of_doms ds))
        (gens_judged gs (bind_types (tuple_pat ps) (type_of_dom (tuple_dom ds)) g)) j))))
    on-gens (over (tuple_pat ps) bool_dom gs) g j = no j
    on-gens (over (tuple_pat ps) (int_dom rs es) gs) g j = no j
    on-gens (over (tuple_pat ps) (name_dom t) gs) g j = no j
    on-gens (over (tuple_pat ps) (record_dom fs ds) gs) g j = no j
    on-gens (over (tuple_pat ps) (matrix_dom is c) gs) g j =
        no (and-right (pattern_fits (tuple_pat ps) (type_of_dom (matrix_dom is c))) false j)
    on-gens (over (tuple_pat ps) (set_dom ms es c) gs) g j = no j
    on-gens (over (tuple_pat ps) (mset_dom ms es c) gs) g j = no j
    on-gens (over (tuple_pat ps) (function_dom ms es b c) gs) g j = no j
    on-gens (over (tuple_pat ps) (relation_dom ms es cs) gs) g j = no j
    on-gens (over (tuple_pat ps) (partition_dom ms es c) gs) g j = no j
    on-gens (from p s gs) g j =
        let r = and-right (has_members (type_of s g)) (is_plain_source g s && gens_judged gs (bind_types p (source_ty s g) g)) j in
        gens_move (source_moves no_gens p s gs refl (sources-have g sup.one sup.other s
        (and-left (has_members (type_of s g)) (is_plain_source g s && gens_judged gs (bind_types p (source_ty s g) g)) j)
        (and-left (is_plain_source g s) (gens_judged gs (bind_types p (source_ty s g) g)) r)))
    on-gens (cond c gs) g j =
        let r = and-right (is_scalar (type_of c g)) (is_judged c g && gens_judged gs g) j in
        behind-cond sup g c gs (on-tree c g (and-left (is_judged c g) (gens_judged gs g) r)
        (and-left (is_scalar (type_of c g)) (is_judged c g && gens_judged gs g) j))
        (on-gens gs g (and-right (is_judged c g) (gens_judged gs g) r))

-- Each judged tree of a scalar.
pub trees-make-progress : TreesMakeProgress
trees-make-progress = record {
  moves = λ s g e j t. on-tree s e g j t;
  is_refined_where_none_does =
      λ s g e j t n. done s g e (on-tree s e g j t) n;
}
  where
    done : (s : Supply) (g : Names Ty) (e : Ex) → Progress s g e → ((c : In) (a : Ex) → e ≡ fill c a → Moves s (names_at c g) a → ⊥) →
        is_refined e ≡ true
    done s g e (is_done h) n = h
    done s g e (goes_on w) n = absurd (n w.context w.part w.whole w.moves)
