-- Worked examples: what is written for small trees, and whether it is an expression of a model.
use Rattle.std.proofs.Common.{◌≡◌, refl, ap, ℕ, Bool, true, false, if◌then◌else◌, List, [], ◌∷◌, ◌++◌, pos, codes, decimal, Option, Some, None}
use Rattle.ess_semantics.specs.declared.words.Op2.{Op2}
use Rattle.ess_semantics.specs.declared.words.Fun.{Fun}
use Rattle.ess_semantics.specs.Values.{Text}
use Rattle.ess_semantics.specs.Order.{same_text}
use Rattle.ess_semantics.specs.Trees.{both_ends, one_value, Ends, name_pat, Ex, Exs, number_ex, name_ex, comp_ex, cell_ex, no_exs, more_exs, no_gens, over, cond, bool_dom, int_dom, ex2, fun1}
use Rattle.ess_grammar.specs.Models.{Scope}
use Rattle.eprime_lowering_laws.specs.Lowerable.{is_lowerable}
use Rattle.ess_flat_laws.specs.Flat.{Flat, number, cell, two, equal, none_marked}
use Rattle.ess_bare_laws.specs.Lean.{of_some, of_sum, as_scalar, as_number, Ended, a_number, a_name, a_cell, by_fold, no_terms, more_terms, behind_all, over_truths, over_numbers, under}
use Rattle.ess_bare_written_laws.specs.Laws.{as_written}
use Rattle.ess_lowered_laws.specs.Ranges.{RangesFit}
use Rattle.ess_lowered_laws.specs.Laws.{Declares, DeclaresSingle}
use Rattle.ess_lowered_laws.proofs.Ended.{ended-lowered}
use Rattle.ess_lowered_laws.proofs.Flat.{mark_of, flat-lowered}

-- A table x of truth values over one axis, and a number n.
abbrev told : Bool → Bool → Option (Bool × ℕ)
told true d = Some (true, 1)
told false true = Some (false, 0)
told false false = None

abbrev cells : Text → Option (Bool × ℕ)
cells a = told (same_text (codes "x") a) (same_text (codes "n") a)

-- They are declared so, or the other way round.
abbrev declared : Scope
declared = record { tables = (codes "x", true) ∷ (codes "n", false) ∷ []; finds = [] }

abbrev turned : Scope
turned = record { tables = (codes "x", false) ∷ (codes "n", true) ∷ []; finds = [] }

declares : Declares declared cells
declares a b k q = go (same_text (codes "x") a) (same_text (codes "n") a) q
  where
    go : (c d : Bool) → told c d ≡ Some (b, k) →
        elim (if c then Some true else (if d then Some false else None)) [ Some v ↦ v | None ↦ false ] ≡ b
    go true d q = ap mark_of q
    go false true q = ap mark_of q
    go false false q = cc

abbrev x_at : Ex → Ex
x_at e = cell_ex true (codes "x") (more_exs e no_exs)

abbrev n_ex : Ex
n_ex = cell_ex false (codes "n") no_exs

abbrev i : Text
i = codes "i"

abbrev q1 : Text
q1 = codes "q" ++ decimal 1

abbrev one : Ex
one = number_ex (pos 1)

-- ---- a sum over a range

-- `sum([n | i : int(rs of es), x[i]])`.
abbrev sum_over : List Ends → Exs → Ex
sum_over rs es =
    fun1 false Fun.Sum (comp_ex n_ex (over (name_pat i) (int_dom rs es) (cond (x_at (name_ex i)) no_gens)))

abbrev one_to_n : Exs
one_to_n = more_exs one (more_exs n_ex no_exs)

ended-sum : Ended cells [] (sum_over (both_ends ∷ []) one_to_n) false
ended-sum =
    by_fold of_sum
    (over_numbers refl refl (more_terms as_number (a_number refl) (more_terms as_number (a_cell refl no_terms) no_terms))
    (under (a_cell refl (more_terms as_scalar (a_name refl) no_terms)) behind_all)) (a_cell refl no_terms)

fit-sum : RangesFit (sum_over (both_ends ∷ []) one_to_n)
fit-sum = ((tt, ((refl, (tt, (tt, tt))), ((tt, tt), tt))), tt)

-- `sum([n | q1 : int(1..n), x[q1]])` is written for it.
written-sum : as_written [] (sum_over (both_ends ∷ []) one_to_n) ≡
    fun1 false Fun.Sum (comp_ex n_ex (over (name_pat q1) (int_dom (both_ends ∷ []) one_to_n) (cond (x_at (name_ex q1)) no_gens)))
written-sum = refl

-- It is an expression of a model where its tables are declared, and isn't one where x has numbers and n is a truth value.
lowered-sum : is_lowerable declared (as_written [] (sum_over (both_ends ∷ []) one_to_n)) ≡ true
lowered-sum = refl

by-law-sum : is_lowerable declared (as_written [] (sum_over (both_ends ∷ []) one_to_n)) ≡ true
by-law-sum = ended-lowered cells [] (sum_over (both_ends ∷ []) one_to_n) false ended-sum fit-sum declared declares

turned-sum : is_lowerable turned (as_written [] (sum_over (both_ends ∷ []) one_to_n)) ≡ false
turned-sum = refl

-- ---- bounds that lack

-- Rules may end in a tree whose range lacks a bound, or has one too many. Nothing is written for it.
ended-lacking : Ended cells [] (sum_over (both_ends ∷ []) (more_exs one no_exs)) false
ended-lacking =
    by_fold of_sum
    (over_numbers refl refl (more_terms as_number (a_number refl) no_terms)
    (under (a_cell refl (more_terms as_scalar (a_name refl) no_terms)) behind_all)) (a_cell refl no_terms)

unfit-lacking : RangesFit (sum_over (both_ends ∷ []) (more_exs one no_exs)) → false ≡ true
unfit-lacking h = h.0.1.0.0

lowered-lacking : is_lowerable declared (as_written [] (sum_over (both_ends ∷ []) (more_exs one no_exs))) ≡ false
lowered-lacking = refl

lowered-too-many : is_lowerable declared (as_written [] (sum_over (one_value ∷ []) one_to_n)) ≡ false
lowered-too-many = refl

-- ---- truth values as indices

-- `or([x[i] | i : bool])` is written with a number as the index.
abbrev of_truths : Ex
of_truths = fun1 true Fun.Or (comp_ex (x_at (name_ex i)) (over (name_pat i) bool_dom no_gens))

ended-truths : Ended cells [] of_truths true
ended-truths = by_fold of_some (over_truths refl behind_all) (a_cell refl (more_terms as_scalar (a_name refl) no_terms))

lowered-truths : is_lowerable declared (as_written [] of_truths) ≡ true
lowered-truths = ended-lowered cells [] of_truths true ended-truths (((tt, tt), (tt, tt)), tt) declared declares

written-truths : as_written [] of_truths ≡
    fun1 true Fun.Or (comp_ex (x_at (fun1 false Fun.ToInt (name_ex q1))) (over (name_pat q1) bool_dom no_gens))
written-truths = refl

-- ---- a flat tree

-- `n = 1`.
abbrev numbers : Text → Option Bool
numbers a = if same_text (codes "n") a then Some false else None

abbrev scalars : Scope
scalars = record { tables = (codes "n", false) ∷ []; finds = [] }

declares-single : DeclaresSingle scalars numbers
declares-single a b q = go (same_text (codes "n") a) q
  where
    go : (c : Bool) → (if c then Some false else None) ≡ Some b → elim (if c then Some false else None) [ Some v ↦ v | None ↦ false ] ≡ b
    go true q = cc
    go false q = cc

flat-equation : Flat none_marked numbers (ex2 true Op2.Eq n_ex one) true
flat-equation = two equal (cell refl) number refl

lowered-equation : is_lowerable scalars (as_written [] (ex2 true Op2.Eq n_ex one)) ≡ true
lowered-equation = flat-lowered numbers [] (ex2 true Op2.Eq n_ex one) true flat-equation scalars declares-single

turned-equation : is_lowerable turned (as_written [] (ex2 true Op2.Eq n_ex one)) ≡ false
turned-equation = refl
