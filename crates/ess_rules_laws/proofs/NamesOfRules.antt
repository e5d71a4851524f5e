-- Rules at the root bring no new free name.
use Rattle.std.proofs.Common.{◌≡◌, refl, ap, ◌∙◌, subst, Bool, true, false, ◌||◌, if◌then◌else◌, Option, Some, None}
use Rattle.std.specs.Prelude.{IsTrue}
use Rattle.ess_semantics.specs.declared.words.Op1.{Op1}
use Rattle.ess_semantics.specs.declared.words.Op2.{Op2}
use Rattle.ess_semantics.specs.declared.words.Fun.{Fun}
use Rattle.ess_semantics.specs.Values.{Text}
use Rattle.ess_semantics.specs.Order.{same_text}
use Rattle.ess_semantics.specs.Names.{Names}
use Rattle.ess_semantics.specs.Trees.{word, set_literal, mset_literal, relation_literal, matrix_literal, Pat, name_pat, Ex, Exs, number_ex, truth_ex, name_ex, node_ex, matrix_ex, comp_ex, cell_ex, seen_ex, ex1, ex2, fun1, no_exs, more_exs, Gens, no_gens, over, from, cond, Dom, Doms, bool_dom, int_dom, name_dom, tuple_dom, record_dom, matrix_dom, set_dom, mset_dom, function_dom, relation_dom, partition_dom, no_doms, more_doms}
use Rattle.ess_semantics.specs.Types.{Ty}
use Rattle.ess_semantics.specs.Typing.{type_of}
use Rattle.ess_semantics.specs.Scoped.{is_bound, with_names}
use Rattle.ess_semantics.specs.FreeNames.{with_bound_names, FreeNamesAre, FreeNamesAreExs, FreeNamesAreGens, FreeNamesAreDom, FreeNamesAreDoms}
use Rattle.ess_semantics.proofs.Tests.{or-yes}
use Rattle.ess_rules_laws.specs.FoldRules.{is_fold, is_laid_open, fold_alone, fold_nothing, fold_one, fold_bare, fold_term}
use Rattle.ess_rules_laws.specs.MembershipRules.{equations, member_term, member_combined, is_asked, member_of, member_changed, member_listed}
use Rattle.ess_rules_laws.specs.InclusionRules.{unequal, included_turned, included_strictly, included_members, included_often, equal_members, equal_often, equal_pairs}
use Rattle.ess_rules_laws.specs.SizeRules.{size_term, frequency_term, together_term}
use Rattle.ess_rules_laws.specs.PartitionRules.{equal_parts}
use Rattle.ess_rules_laws.specs.ListRules.{members_list, list_term, as_members, lex_both, different_term}
use Rattle.ess_rules_laws.specs.LooseRules.{fold_loosely}
use Rattle.ess_rules_laws.specs.NamesStay.{AddsNoNames}
use Rattle.ess_rules_laws.specs.NamesOfRules.{RulesAddNoNames}
use Rattle.ess_rules_laws.proofs.Agreement.{same_text-itself}

-- ---- more names

-- What the first names have the second have.
abbrev Fewer : (Text → Bool) → (Text → Bool) → Type 0
Fewer u w = (a : Text) → u a ≡ true → w a ≡ true

fewer-with : (u w : Text → Bool) (p : Pat) → Fewer u w → Fewer (with_names u p) (with_names w p)
fewer-with u w p f a h = go (u a) refl h
  where
    go : (b : Bool) → u a ≡ b → b || is_bound p a ≡ true → w a || is_bound p a ≡ true
    go true q h = ap (λ b. b || is_bound p a) (f a q)
    go false q h = ap (λ b. w a || b) h ∙ or-yes (w a)

fewer-bound : (gs : Gens) (u w : Text → Bool) → Fewer u w → Fewer (with_bound_names u gs) (with_bound_names w gs)
fewer-bound no_gens u w f = f
fewer-bound (over p d gs) u w f = fewer-bound gs (with_names u p) (with_names w p) (fewer-with u w p f)
fewer-bound (from p e gs) u w f = fewer-bound gs (with_names u p) (with_names w p) (fewer-with u w p f)
fewer-bound (cond e gs) u w f = fewer-bound gs u w f

mutual
  more-names : (e : Ex) (u w : Text → Bool) → Fewer u w → FreeNamesAre u e → FreeNamesAre w e
  more-names (number_ex n) u w f h = tt
  more-names (truth_ex b) u w f h = tt
  more-names (name_ex a) u w f h = f a h
  more-names (node_ex b op es) u w f h = more-exs es u w f h
  more-names (matrix_ex es d) u w f h = (more-exs es u w f h.0, more-dom d u w f h.1)
  more-names (comp_ex e gs) u w f h =
      (more-gens gs u w f h.0, more-names e (with_bound_names u gs) (with_bound_names w gs) (fewer-bound gs u w f) h.1)
  more-names (cell_ex b n es) u w f h = more-exs es u w f h
  more-names (seen_ex r d ns es) u w f h = (more-dom d u w f h.0, more-exs es u w f h.1)

  more-exs : (es : Exs) (u w : Text → Bool) → Fewer u w → FreeNamesAreExs u es → FreeNamesAreExs w es
  more-exs no_exs u w f h = tt
  more-exs (more_exs e es) u w f h = (more-names e u w f h.0, more-exs es u w f h.1)

  more-gens : (gs : Gens) (u w : Text → Bool) → Fewer u w → FreeNamesAreGens u gs → FreeNamesAreGens w gs
  more-gens no_gens u w f h = tt
  more-gens (over p d gs) u w f h = (more-dom d u w f h.0, more-gens gs (with_names u p) (with_names w p) (fewer-with u w p f) h.1)
  more-gens (from p e gs) u w f h = (more-names e u w f h.0, more-gens gs (with_names u p) (with_names w p) (fewer-with u w p f) h.1)
  more-gens (cond e gs) u w f h = (more-names e u w f h.0, more-gens gs u w f h.1)

  more-dom : (d : Dom) (u w : Text → Bool) → Fewer u w → FreeNamesAreDom u d → FreeNamesAreDom w d
  more-dom bool_dom u w f h = tt
  more-dom (int_dom rs es) u w f h = more-exs es u w f h
  more-dom (name_dom a) u w f h = tt
  more-dom (tuple_dom ds) u w f h = more-doms ds u w f h
  more-dom (record_dom fs ds) u w f h = more-doms ds u w f h
  more-dom (matrix_dom is d) u w f h = (more-doms is u w f h.0, more-dom d u w f h.1)
  more-dom (set_dom ms es d) u w f h = (more-exs es u w f h.0, more-dom d u w f h.1)
  more-dom (mset_dom ms es d) u w f h = (more-exs es u w f h.0, more-dom d u w f h.1)
  more-dom (function_dom ms es d c) u w f h = (more-exs es u w f h.0, more-dom d u w f h.1, more-dom c u w f h.2)
  more-dom (relation_dom ms es ds) u w f h = (more-exs es u w f h.0, more-doms ds u w f h.1)
  more-dom (partition_dom ms es d) u w f h = (more-exs es u w f h.0, more-dom d u w f h.1)

  more-doms : (ds : Doms) (u w : Text → Bool) → Fewer u w → FreeNamesAreDoms u ds → FreeNamesAreDoms w ds
  more-doms no_doms u w f h = tt
  more-doms (more_doms d ds) u w f h = (more-dom d u w f h.0, more-doms ds u w f h.1)

-- Behind a bound name.
behind : (x : Text) (u : Text → Bool) (e : Ex) → FreeNamesAre u e → FreeNamesAre (with_names u (name_pat x)) e
behind x u e h = more-names e u (with_names u (name_pat x)) (λ a q. ap (λ b. b || same_text x a) q) h

-- The bound name itself.
bound : (x : Text) (u : Text → Bool) → IsTrue (with_names u (name_pat x) x)
bound x u = ap (λ b. u x || b) (same_text-itself x) ∙ or-yes (u x)

-- ---- rules

-- What a rule answers brings no new name.
abbrev Adds : Option Ex → Ex → Type 0
Adds None e = Unit {0}
Adds (Some f) e = AddsNoNames e f

adds : (o : Option Ex) (e f : Ex) → Adds o e → o ≡ Some f → AddsNoNames e f
adds o e f k q = subst (λ z. Adds z e) q k

adds-so : (c : Bool) (f e : Ex) → AddsNoNames e f → Adds (if c then Some f else None) e
adds-so true f e k = k
adds-so false f e k = tt

equations-free : (x : Ex) (es : Exs) (u : Text → Bool) → FreeNamesAre u x → FreeNamesAreExs u es → FreeNamesAreExs u (equations x es)
equations-free x no_exs u h k = tt
equations-free x (more_exs a es) u h k = ((h, (k.0, tt)), equations-free x es u h k.1)

alone : (e : Ex) → Adds (fold_alone e) e
alone (fun1 true Fun.And (comp_ex e (cond c no_gens))) = λ u h. (h.0.0.0, (h.0.1, tt))
alone (fun1 true Fun.Or (comp_ex e (cond c no_gens))) = λ u h. (h.0.0.0, (h.0.1, tt))
alone _ = tt

of-nothing : (e : Ex) → Adds (fold_nothing e) e
of-nothing (fun1 true Fun.And (node_ex false matrix_literal no_exs)) = λ u h. tt
of-nothing (fun1 true Fun.Or (node_ex false matrix_literal no_exs)) = λ u h. tt
of-nothing (fun1 false Fun.Sum (node_ex false matrix_literal no_exs)) = λ u h. tt
of-nothing (fun1 false Fun.Product (node_ex false matrix_literal no_exs)) = λ u h. tt
of-nothing _ = tt

of-one : (e : Ex) → Adds (fold_one e) e
of-one (fun1 true Fun.And (node_ex false matrix_literal (more_exs a no_exs))) = λ u h. h.0.0
of-one (fun1 true Fun.Or (node_ex false matrix_literal (more_exs a no_exs))) = λ u h. h.0.0
of-one (fun1 false Fun.Sum (node_ex false matrix_literal (more_exs a no_exs))) = λ u h. h.0.0
of-one (fun1 false Fun.Product (node_ex false matrix_literal (more_exs a no_exs))) = λ u h. h.0.0
of-one _ = tt

bare : (e : Ex) → Adds (fold_bare e) e
bare (fun1 true Fun.And (comp_ex e no_gens)) = λ u h. h.0.1
bare (fun1 true Fun.Or (comp_ex e no_gens)) = λ u h. h.0.1
bare (fun1 false Fun.Sum (comp_ex e no_gens)) = λ u h. h.0.1
bare (fun1 false Fun.Product (comp_ex e no_gens)) = λ u h. h.0.1
bare _ = tt

of-term : (x : Text) (e : Ex) → Adds (fold_term x e) e
of-term x (fun1 b f l) = go (is_fold f) (is_laid_open l)
  where
    go : (c d : Bool) → Adds
        (if c then (if d then None else Some (fun1 b f (comp_ex (name_ex x) (from (name_pat x) l no_gens)))) else None) (fun1 b f l)
    go true false = λ u h. (((h.0, tt), bound x u), tt)
    go true true = tt
    go false d = tt
of-term x _ = tt

loosely : (e : Ex) → Adds (fold_loosely e) e
loosely (fun1 true Fun.And (comp_ex e (from p (fun1 false Fun.ToSet s) hs))) = λ u h. (((h.0.0.0.0, h.0.0.1), h.0.1), tt)
loosely (fun1 true Fun.Or (comp_ex e (from p (fun1 false Fun.ToSet s) hs))) = λ u h. (((h.0.0.0.0, h.0.0.1), h.0.1), tt)
loosely _ = tt

member : (y : Text) (e : Ex) → Adds (member_term y e) e
member y (ex2 true Op2.Member a s) = λ u h. (((h.1.0, tt), (bound y u, (behind y u a h.0, tt))), tt)
member y _ = tt

in-two : (e : Ex) → Adds (member_combined e) e
in-two (ex2 true Op2.Member x (ex2 false Op2.Union a b)) = λ u h. ((h.0, (h.1.0.0, tt)), ((h.0, (h.1.0.1.0, tt)), tt))
in-two (ex2 true Op2.Member x (ex2 false Op2.Intersect a b)) = λ u h. ((h.0, (h.1.0.0, tt)), ((h.0, (h.1.0.1.0, tt)), tt))
in-two (ex2 true Op2.Member x (ex2 false Op2.Minus a b)) = λ u h. ((h.0, (h.1.0.0, tt)), (((h.0, (h.1.0.1.0, tt)), tt), tt))
in-two _ = tt

-- In m, where m uses no other names than s.
of-one-in : (g : Names Ty) (y : Text) (x m s : Ex) → AddsNoNames (ex2 true Op2.Member x s) (ex2 true Op2.Member x m) →
    Adds (member_of g y x m) (ex2 true Op2.Member x s)
of-one-in g y x m s k = go (is_asked (type_of m g))
  where
    go : (c : Bool) → Adds (if c then Some (ex2 true Op2.Member x m) else member_term y (ex2 true Op2.Member x m)) (ex2 true Op2.Member x s)
    go true = k
    go false = λ u h. member y (ex2 true Op2.Member x m) u (k u h)

changed : (g : Names Ty) (y : Text) (e : Ex) → Adds (member_changed g y e) e
changed g y (ex2 true Op2.Member x (fun1 false Fun.ToSet m)) = of-one-in g y x m (fun1 false Fun.ToSet m) (λ u h. (h.0, (h.1.0.0, tt)))
changed g y (ex2 true Op2.Member x (fun1 false Fun.ToMSet m)) = of-one-in g y x m (fun1 false Fun.ToMSet m) (λ u h. (h.0, (h.1.0.0, tt)))
changed g y (ex2 true Op2.Member x (fun1 false Fun.Parts m)) = of-one-in g y x m (fun1 false Fun.Parts m) (λ u h. (h.0, (h.1.0.0, tt)))
changed g y _ = tt

in-literal : (e : Ex) → Adds (member_listed e) e
in-literal (ex2 true Op2.Member x (node_ex false set_literal es)) = λ u h. (equations-free x es u h.0 h.1.0, tt)
in-literal (ex2 true Op2.Member x (node_ex false mset_literal es)) = λ u h. (equations-free x es u h.0 h.1.0, tt)
in-literal (ex2 true Op2.Member x (node_ex false relation_literal es)) = λ u h. (equations-free x es u h.0 h.1.0, tt)
in-literal _ = tt

not-equal : (e : Ex) → Adds (unequal e) e
not-equal (ex2 true Op2.Ne a b) = λ u h. (h, tt)
not-equal _ = tt

turned : (e : Ex) → Adds (included_turned e) e
turned (ex2 true Op2.SupsetEq a b) = λ u h. (h.1.0, (h.0, tt))
turned (ex2 true Op2.Supset a b) = λ u h. (h.1.0, (h.0, tt))
turned _ = tt

strictly : (g : Names Ty) (x : Text) (e : Ex) → Adds (included_strictly g x e) e
strictly g x (ex2 true Op2.Subset a b) = adds-so _ _ (ex2 true Op2.Subset a b) (λ u h. ((h.0, (h.1.0, tt)), (((h.1.0, (h.0, tt)), tt), tt)))
strictly g x _ = tt

members : (g : Names Ty) (x : Text) (e : Ex) → Adds (included_members g x e) e
members g x (ex2 true Op2.SubsetEq a b) = adds-so _ _ (ex2 true Op2.SubsetEq a b)
    (λ u h. (((h.0, tt), (bound x u, (behind x u b h.1.0, tt))), tt))
members g x _ = tt

often : (x : Text) (e : Ex) → Adds (included_often x e) e
often x (ex2 true Op2.SubsetEq a b) =
    λ u h. (((h.0, tt), ((behind x u a h.0, (bound x u, tt)), ((behind x u b h.1.0, (bound x u, tt)), tt))), tt)
often x _ = tt

sets : (g : Names Ty) (x : Text) (e : Ex) → Adds (equal_members g x e) e
sets g x (ex2 true Op2.Eq a b) = adds-so _ _ (ex2 true Op2.Eq a b) (λ u h. (
  (((h.0, tt), (bound x u, (behind x u b h.1.0, tt))), tt),
  ((((h.1.0, tt), (bound x u, (behind x u a h.0, tt))), tt), tt),
))
sets g x _ = tt

msets : (g : Names Ty) (x : Text) (e : Ex) → Adds (equal_often g x e) e
msets g x (ex2 true Op2.Eq a b) = adds-so _ _ (ex2 true Op2.Eq a b) (λ u h. (
  ((((h.0, tt), tt), ((behind x u a h.0, (bound x u, tt)), ((behind x u b h.1.0, (bound x u, tt)), tt))), tt),
  ((((h.1.0, tt), (bound x u, (behind x u a h.0, tt))), tt), tt),
))
msets g x _ = tt

functions : (g : Names Ty) (x : Text) (e : Ex) → Adds (equal_pairs g x e) e
functions g x (ex2 true Op2.Eq a b) = adds-so _ _ (ex2 true Op2.Eq a b) (λ u h. (
  (((h.0, tt), (bound x u, ((behind x u b h.1.0, tt), tt))), tt),
  ((((h.1.0, tt), (bound x u, ((behind x u a h.0, tt), tt))), tt), tt),
))
functions g x _ = tt

partitions : (g : Names Ty) (x : Text) (e : Ex) → Adds (equal_parts g x e) e
partitions g x (ex2 true Op2.Eq a b) = adds-so _ _ (ex2 true Op2.Eq a b) (λ u h. (
  (((h.0, tt), (bound x u, (behind x u b h.1.0, tt))), tt),
  ((((h.1.0, tt), (bound x u, (behind x u a h.0, tt))), tt), tt),
))
partitions g x _ = tt

size : (g : Names Ty) (x : Text) (e : Ex) → Adds (size_term g x e) e
size g x (ex1 false Op1.Bar s) = adds-so _ _ (ex1 false Op1.Bar s) (λ u h. (((h.0, tt), tt), tt))
size g x _ = tt

frequency-of : (x : Text) (e : Ex) → Adds (frequency_term x e) e
frequency-of x (node_ex false (word Fun.Freq) (more_exs m (more_exs a no_exs))) =
    λ u h. (((h.0, ((bound x u, (behind x u a h.1.0, tt)), tt)), tt), tt)
frequency-of x _ = tt

together-of : (q : Text) (e : Ex) → Adds (together_term q e) e
together-of q (node_ex true (word Fun.Together) (more_exs s (more_exs p no_exs))) =
    λ u h. ((((h.1.0, tt), tt), (behind q u s h.0, (bound q u, tt))), tt)
together-of q _ = tt

list-of : (x : Text) (e : Ex) → Adds (list_term x e) e
list-of x (fun1 b f s) = adds-so _ _ (fun1 b f s) (λ u h. (((h.0, tt), bound x u), tt))
list-of x _ = tt

as-free : (x : Text) (s : Ex) → AddsNoNames s (as_members x s)
as-free x s = go (is_laid_open s)
  where
    go : (c : Bool) → AddsNoNames s (if c then s else members_list x s)
    go true = λ u h. h
    go false = λ u h. ((h, tt), bound x u)

both-sides : (x : Text) (e : Ex) → Adds (lex_both x e) e
both-sides x (ex2 true o a b) = adds-so _ _ (ex2 true o a b) (λ u h. (as-free x a u h.0, (as-free x b u h.1.0, tt)))
both-sides x _ = tt

different : (x : Text) (e : Ex) → Adds (different_term x e) e
different x (fun1 true Fun.AllDiff l) = λ u h. (((h.0, tt), (((behind x u l h.0, tt), (bound x u, tt)), (tt, tt))), tt)
different x _ = tt

-- These rules bring no new free name.
pub rules-add-none : RulesAddNoNames
rules-add-none = record {
  folds_alone = λ e f q. adds _ e f (alone e) q;
  folds_of_nothing = λ e f q. adds _ e f (of-nothing e) q;
  folds_of_one = λ e f q. adds _ e f (of-one e) q;
  folds_of_one_binding = λ e f q. adds _ e f (bare e) q;
  folds_of_a_term = λ x e f q. adds _ e f (of-term x e) q;
  loose_folds = λ e f q. adds _ e f (loosely e) q;
  in_a_term = λ x e f q. adds _ e f (member x e) q;
  in_two = λ e f q. adds _ e f (in-two e) q;
  in_one_made_of_another = λ g x e f q. adds _ e f (changed g x e) q;
  in_a_literal = λ e f q. adds _ e f (in-literal e) q;
  not_equal = λ e f q. adds _ e f (not-equal e) q;
  turned = λ e f q. adds _ e f (turned e) q;
  strictly = λ g x e f q. adds _ e f (strictly g x e) q;
  of_sets = λ g x e f q. adds _ e f (members g x e) q;
  of_multisets = λ x e f q. adds _ e f (often x e) q;
  equal_sets = λ g x e f q. adds _ e f (sets g x e) q;
  equal_multisets = λ g x e f q. adds _ e f (msets g x e) q;
  equal_functions = λ g x e f q. adds _ e f (functions g x e) q;
  equal_partitions = λ g x e f q. adds _ e f (partitions g x e) q;
  size = λ g x e f q. adds _ e f (size g x e) q;
  frequency = λ x e f q. adds _ e f (frequency-of x e) q;
  together = λ x e f q. adds _ e f (together-of x e) q;
  lists_of_a_term = λ x e f q. adds _ e f (list-of x e) q;
  lists_on_both_sides = λ x e f q. adds _ e f (both-sides x e) q;
  all_different = λ x e f q. adds _ e f (different x e) q;
}
