-- Which of the names that a tree binds are fixed, in the order in which they are told apart.
use Rattle.std.proofs.Common.{◌≡◌, ℕ, ◌+◌, Bool, true, List, [], ◌∷◌, ◌++◌, length, arith}
use Rattle.ess_semantics.specs.Values.{Text}
use Rattle.ess_semantics.specs.Names.{Names}
use Rattle.ess_semantics.specs.Trees.{Pat, Pats, name_pat, tuple_pat, no_pats, more_pats, Ex, Exs, number_ex, truth_ex, name_ex, node_ex, matrix_ex, comp_ex, cell_ex, seen_ex, no_exs, more_exs, Gens, no_gens, over, from, cond, Dom, Doms, bool_dom, int_dom, name_dom, tuple_dom, record_dom, matrix_dom, set_dom, mset_dom, function_dom, relation_dom, partition_dom, no_doms, more_doms}
use Rattle.ess_given_laws.specs.conjure_model_laws.ToldApart.{told_pat, told_pats, told, told_all, told_gens, told_dom, told_doms}
use Rattle.ess_given_conditions_laws.specs.InScope.{bound_as, is_fixed_in, fixed_behind}
use Rattle.ess_given_conditions_laws.proofs.Assigned.{joined-number}

abbrev mutual
  pub mark_pat : Bool → Pat → List Bool
  mark_pat b (name_pat a) = b ∷ []
  mark_pat b (tuple_pat ps) = mark_pats b ps

  pub mark_pats : Bool → Pats → List Bool
  mark_pats b no_pats = []
  mark_pats b (more_pats p ps) = mark_pat b p ++ mark_pats b ps

module _ (t : Text → Bool) where
  abbrev mutual
    pub marks : (Text → Bool) → Ex → List Bool
    marks s (number_ex n) = []
    marks s (truth_ex b) = []
    marks s (name_ex a) = []
    marks s (node_ex b op es) = marks_all s es
    marks s (matrix_ex es d) = marks_all s es ++ marks_dom s d
    marks s (comp_ex e gs) = marks_gens s gs ++ marks (fixed_behind t s gs) e
    marks s (cell_ex b n es) = marks_all s es
    marks s (seen_ex r d ns es) = marks_all s es

    pub marks_all : (Text → Bool) → Exs → List Bool
    marks_all s no_exs = []
    marks_all s (more_exs e es) = marks s e ++ marks_all s es

    pub marks_gens : (Text → Bool) → Gens → List Bool
    marks_gens s no_gens = []
    marks_gens s (over p d gs) = marks_dom s d ++ (mark_pat true p ++ marks_gens (bound_as true p s) gs)
    marks_gens s (from p e gs) = marks s e ++ (mark_pat (is_fixed_in t s e) p ++ marks_gens (bound_as (is_fixed_in t s e) p s) gs)
    marks_gens s (cond e gs) = marks s e ++ marks_gens s gs

    pub marks_dom : (Text → Bool) → Dom → List Bool
    marks_dom s bool_dom = []
    marks_dom s (int_dom rs es) = marks_all s es
    marks_dom s (name_dom a) = []
    marks_dom s (tuple_dom ds) = marks_doms s ds
    marks_dom s (record_dom fs ds) = marks_doms s ds
    marks_dom s (matrix_dom is d) = marks_doms s is ++ marks_dom s d
    marks_dom s (set_dom ms es d) = marks_all s es ++ marks_dom s d
    marks_dom s (mset_dom ms es d) = marks_all s es ++ marks_dom s d
    marks_dom s (function_dom ms es d c) = marks_all s es ++ (marks_dom s d ++ marks_dom s c)
    marks_dom s (relation_dom ms es ds) = marks_all s es ++ marks_doms s ds
    marks_dom s (partition_dom ms es d) = marks_all s es ++ marks_dom s d

    pub marks_doms : (Text → Bool) → Doms → List Bool
    marks_doms s no_doms = []
    marks_doms s (more_doms d ds) = marks_dom s d ++ marks_doms s ds

-- ---- there are as many as the numbers that are taken

none : (k : ℕ) → k ≡ k + 0
none k = omega arith

mutual
  pub pat-number : (b : Bool) (p : Pat) (r : Names Text) (k : ℕ) → (told_pat p r k).2 ≡ k + length (mark_pat b p)
  pat-number b (name_pat a) r k = omega arith
  pat-number b (tuple_pat ps) r k = pats-number b ps r k

  pub pats-number : (b : Bool) (ps : Pats) (r : Names Text) (k : ℕ) → (told_pats ps r k).2 ≡ k + length (mark_pats b ps)
  pats-number b no_pats r k = none k
  pats-number b (more_pats p ps) r k = let q = told_pat p r k in
      joined-number k q.2 (told_pats ps q.1 q.2).2 (mark_pat b p) (mark_pats b ps) (pat-number b p r k) (pats-number b ps q.1 q.2)

module _ (t : Text → Bool) where
  mutual
    pub ex-number : (e : Ex) (s : Text → Bool) (r : Names Text) (k : ℕ) → (told e r k).1 ≡ k + length (marks t s e)
    ex-number (number_ex n) s r k = none k
    ex-number (truth_ex b) s r k = none k
    ex-number (name_ex a) s r k = none k
    ex-number (node_ex b op es) s r k = all-number es s r k
    ex-number (matrix_ex es d) s r k = let q = (told_all es r k).1 in
        joined-number k q (told_dom d r q).1 (marks_all t s es) (marks_dom t s d) (all-number es s r k) (dom-number d s r q)
    ex-number (comp_ex e gs) s r k = let q = told_gens gs r k in
        joined-number k q.2 (told e q.1 q.2).1 (marks_gens t s gs) (marks t (fixed_behind t s gs) e) (gens-number gs s r k)
        (ex-number e (fixed_behind t s gs) q.1 q.2)
    ex-number (cell_ex b n es) s r k = all-number es s r k
    ex-number (seen_ex x d ns es) s r k = all-number es s r k

    pub all-number : (es : Exs) (s : Text → Bool) (r : Names Text) (k : ℕ) → (told_all es r k).1 ≡ k + length (marks_all t s es)
    all-number no_exs s r k = none k
    all-number (more_exs e es) s r k = let q = (told e r k).1 in
        joined-number k q (told_all es r q).1 (marks t s e) (marks_all t s es) (ex-number e s r k) (all-number es s r q)

    pub gens-number : (gs : Gens) (s : Text → Bool) (r : Names Text) (k : ℕ) → (told_gens gs r k).2 ≡ k + length (marks_gens t s gs)
    gens-number no_gens s r k = none k
    gens-number (over p d gs) s r k =
        let c = (told_dom d r k).1 in let q = told_pat p r c in let m = (told_gens gs q.1 q.2).2 in
        joined-number k c m (marks_dom t s d) (mark_pat true p ++ marks_gens t (bound_as true p s) gs) (dom-number d s r k)
        (joined-number c q.2 m (mark_pat true p) (marks_gens t (bound_as true p s) gs) (pat-number true p r c)
        (gens-number gs (bound_as true p s) q.1 q.2))
    gens-number (from p e gs) s r k =
        let b = is_fixed_in t s e in
        let c = (told e r k).1 in let q = told_pat p r c in let m = (told_gens gs q.1 q.2).2 in
        joined-number k c m (marks t s e) (mark_pat b p ++ marks_gens t (bound_as b p s) gs) (ex-number e s r k)
        (joined-number c q.2 m (mark_pat b p) (marks_gens t (bound_as b p s) gs) (pat-number b p r c)
        (gens-number gs (bound_as b p s) q.1 q.2))
    gens-number (cond e gs) s r k = let c = (told e r k).1 in
        joined-number k c (told_gens gs r c).2 (marks t s e) (marks_gens t s gs) (ex-number e s r k) (gens-number gs s r c)

    pub dom-number : (d : Dom) (s : Text → Bool) (r : Names Text) (k : ℕ) → (told_dom d r k).1 ≡ k + length (marks_dom t s d)
    dom-number bool_dom s r k = none k
    dom-number (int_dom rs es) s r k = all-number es s r k
    dom-number (name_dom a) s r k = none k
    dom-number (tuple_dom ds) s r k = doms-number ds s r k
    dom-number (record_dom fs ds) s r k = doms-number ds s r k
    dom-number (matrix_dom is d) s r k = let q = (told_doms is r k).1 in
        joined-number k q (told_dom d r q).1 (marks_doms t s is) (marks_dom t s d) (doms-number is s r k) (dom-number d s r q)
    dom-number (set_dom ms es d) s r k = let q = (told_all es r k).1 in
        joined-number k q (told_dom d r q).1 (marks_all t s es) (marks_dom t s d) (all-number es s r k) (dom-number d s r q)
    dom-number (mset_dom ms es d) s r k = let q = (told_all es r k).1 in
        joined-number k q (told_dom d r q).1 (marks_all t s es) (marks_dom t s d) (all-number es s r k) (dom-number d s r q)
    dom-number (function_dom ms es d c) s r k =
        let q = (told_all es r k).1 in let v = (told_dom d r q).1 in let m = (told_dom c r v).1 in
        joined-number k q m (marks_all t s es) (marks_dom t s d ++ marks_dom t s c) (all-number es s r k)
        (joined-number q v m (marks_dom t s d) (marks_dom t s c) (dom-number d s r q) (dom-number c s r v))
    dom-number (relation_dom ms es ds) s r k = let q = (told_all es r k).1 in
        joined-number k q (told_doms ds r q).1 (marks_all t s es) (marks_doms t s ds) (all-number es s r k) (doms-number ds s r q)
    dom-number (partition_dom ms es d) s r k = let q = (told_all es r k).1 in
        joined-number k q (told_dom d r q).1 (marks_all t s es) (marks_dom t s d) (all-number es s r k) (dom-number d s r q)

    pub doms-number : (ds : Doms) (s : Text → Bool) (r : Names Text) (k : ℕ) → (told_doms ds r k).1 ≡ k + length (marks_doms t s ds)
    doms-number no_doms s r k = none k
    doms-number (more_doms d ds) s r k = let q = (told_dom d r k).1 in
        joined-number k q (told_doms ds r q).1 (marks_dom t s d) (marks_doms t s ds) (dom-number d s r k) (doms-number ds s r q)
