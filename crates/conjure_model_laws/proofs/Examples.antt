-- Worked examples: bound names told apart and printed, what stands in the place of names, and what is made of a specification.
use Rattle.std.specs.Prelude.{◌≡◌, refl, ℕ, true, List, [], ◌∷◌, ◌++◌, codes, decimal}
use Rattle.ess_semantics.specs.Values.{Text}
use Rattle.ess_semantics.specs.declared.words.Op2.{Op2}
use Rattle.ess_semantics.specs.declared.words.ReprKind.{ReprKind}
use Rattle.ess_semantics.specs.Choice.{alone}
use Rattle.ess_semantics.specs.Trees.{Ex, comp_ex, seen_ex, no_exs, no_gens, over, name_pat, bool_dom, name_dom, set_dom, Stm, find, such_that, let_enum, ex2}
use Rattle.ess_semantics.specs.Plans.{Options, finds_side}
use Rattle.ess_semantics.proofs.Shorthands.{N, n, upto, bi}
use Rattle.ess_repr_laws.specs.StructureParts.{upto as up_to}
use Rattle.conjure_model_laws.specs.ToldApart.{reserved, told_apart}
use Rattle.conjure_model_laws.specs.Printed.{printed}
use Rattle.conjure_model_laws.specs.Shown.{shows_of, shown_dom}
use Rattle.conjure_model_laws.specs.IsBuiltFrom.{tree_of, constraint_tree, all_declared_of, all_channel_trees, taken_names}

abbrev i : Ex
i = N (codes "i")

-- [[i | i : int(1..i)] | i : int(1..3)]: each i is told apart, and a bound is read before its name is bound
abbrev rows : Ex
rows = comp_ex (comp_ex i (over (name_pat (codes "i")) (up_to i) no_gens)) (over (name_pat (codes "i")) (upto 3) no_gens)

abbrev h2 : Ex
h2 = N (reserved 2)

abbrev h3 : Ex
h3 = N (reserved 3)

apart : told_apart 2 rows ≡ comp_ex (comp_ex h3 (over (name_pat (reserved 3)) (up_to h2) no_gens))
    (over (name_pat (reserved 2)) (upto 3) no_gens)
apart = refl

-- other names stay
free_stays : told_apart 2 (N (codes "x")) ≡ N (codes "x")
free_stays = refl

-- printed, names are numbered by the binders around them
abbrev q : ℕ → Text
q k = codes "q" ++ decimal k

abbrev j : Ex
j = N (codes "j")

-- [[j | j : int(1..i)] | i : int(1..3)]
in_order : printed []
    (comp_ex (comp_ex j (over (name_pat (codes "j")) (up_to i) no_gens)) (over (name_pat (codes "i")) (upto 3) no_gens)) [] ≡
    comp_ex (comp_ex (N (q 2)) (over (name_pat (q 2)) (up_to (N (q 1))) no_gens)) (over (name_pat (q 1)) (upto 3) no_gens)
in_order = refl

-- siblings share a name
abbrev all_of : Text → Ex
all_of a = comp_ex (N a) (over (name_pat a) (upto 1) no_gens)

siblings : printed [] (ex2 true Op2.LexLt (all_of (codes "i")) (all_of (codes "j"))) [] ≡ ex2 true Op2.LexLt (all_of (q 1)) (all_of (q 1))
siblings = refl

-- ---- a specification

-- letting e be new type enum {a, b}, find s : set of e, such that b in s
abbrev spec : List Stm
spec = let_enum (codes "e") (codes "a" ∷ codes "b" ∷ []) ∷ find (codes "s") (set_dom [] no_exs (name_dom (codes "e"))) ∷ such_that
    (bi Op2.Member (N (codes "b")) (N (codes "s"))) ∷ []

abbrev none : Options
none = []

-- the view of s, whose members are positions
abbrev view : Ex
view = seen_ex (alone ReprKind.Occurrence) (set_dom [] no_exs (upto 2)) (codes "s_Occurrence" ∷ []) no_exs

constraint : constraint_tree (shows_of spec none) (ex2 true Op2.Member (N (codes "b")) (N (codes "s"))) ≡ ex2 true Op2.Member (n 2) view
constraint = refl

ranges : shown_dom (shows_of spec none) (name_dom (codes "e")) ≡ upto 2
ranges = refl

taken : taken_names spec none ≡ codes "s_Occurrence" ∷ []
taken = refl

declared : all_declared_of finds_side spec none ≡ record { name = codes "s_Occurrence"; axes = upto 2 ∷ []; cell = bool_dom } ∷ []
declared = refl

-- one view has no channelling; two have
one_view : all_channel_trees spec none ≡ []
one_view = refl

abbrev both : Options
both = (codes "s", alone ReprKind.Occurrence ∷ alone ReprKind.Occurrence ∷ []) ∷ []

abbrev view_again : Ex
view_again = seen_ex (alone ReprKind.Occurrence) (set_dom [] no_exs (upto 2)) (codes "s_Occurrence_" ∷ []) no_exs

two_views : all_channel_trees spec both ≡ ex2 true Op2.Eq view view_again ∷ []
two_views = refl

-- the right operand of `in` takes the last view, all else the first
last_in : tree_of (shows_of spec both) (ex2 true Op2.Member (N (codes "b")) (N (codes "s"))) ≡ ex2 true Op2.Member (n 2) view_again
last_in = refl

first_else : tree_of (shows_of spec both) (ex2 true Op2.Eq (N (codes "s")) (N (codes "s"))) ≡ ex2 true Op2.Eq view view
first_else = refl
